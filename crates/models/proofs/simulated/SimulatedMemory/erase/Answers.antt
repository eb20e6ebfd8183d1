use Rattle.std.proofs.Common.{◌≡◌, ℕ, ◌+◌, ◌-◌, ◌*◌, ◌≤◌, List, length, take, drop, replicate, Some, None, Ok, Err, refl, ap, ◌∙◌, ap₂, arith, length-drop, length-take, rules}
use Rattle.memory.specs.declared.Fault.TheVariants.{SupplyLost}
use Rattle.models.specs.Simulated.{room}
use Rattle.models.proofs.Segments.{begun_bytes, erase_met}
use Rattle.models.proofs.simulated.SimulatedMemory.erase.Goals as goal

pub returns-in-Some : goal.returns-in-Some
returns-in-Some g c =
    let torn_erase = g.C.Cells.rules.torn_erase c.in-Some.pattern in
    let m = c.args.self.now in
    let place = c.saturating_mul-place.result in
    let begun = c.in_ok-pattern.ensures in
    let same : place ≡ 512 * c.args.segment = omega (arith, begun.within) in
    let whole : place + 512 - place ≡ 512 = omega arith in
    let bytes = begun_bytes (Ok c.in_ok-pattern.field-0) m c.begin.new.self begun.counted in (
      tt,
      erase_met g.C.Cells.rules m c.begin.new.self place c.args.segment c.torn_erase.new.segment c.in_ok-pattern.field-0 (Some c.in-Some.pattern)
          (λ q. Err (SupplyLost q)) (λ q. torn_erase (take 512 (drop q m.bytes.now))) c.in-Some.is begun.fate begun.counted same
          (c.torn_erase.ensures ∙ ap₂ (λ (k : ℕ) (xs : List ℕ). torn_erase (take k (drop place xs))) whole bytes) refl,
    )

pub returns-in-None : goal.returns-in-None
returns-in-None g c =
    let m = c.args.self.now in
    let place = c.saturating_mul-place.result in
    let begun = c.in_ok-pattern.ensures in
    let same : place ≡ 512 * c.args.segment = omega (arith, begun.within) in
    let fits : place + 512 ≤ room m.bytes.now = begun.within in
    let bytes = begun_bytes (Ok c.in_ok-pattern.field-0) m c.begin.new.self begun.counted in
    let long : length (take (place + 512 - place) (drop place c.begin.new.self.bytes.now)) ≡ 512 =
    simp (bytes, length-take, length-drop) (omega arith) in (
      tt,
      erase_met g.C.Cells.rules m c.begin.new.self place c.args.segment c.fill.new.self c.in_ok-pattern.field-0 None
          (λ q. Ok tt) (λ q. replicate 512 0xFF) c.in-None.is begun.fate begun.counted same
          (c.fill.ensures.after (λ y h. search rules) ∙ ap (λ n. replicate n 0xFF) long) refl,
    )
