use Rattle.std.proofs.Common.{◌≡◌, true, ℕ, ◌<◌, ◌≤◌, ◌/◌, List, Option, IfSome, Ok, Err, Bor, length, map, get_or, vec_items, vec_len, sym, ap, ◌∙◌, refl, subst, arith, rules}
use Rattle.std.proofs.lemmas.List.{length-map}
use Rattle.std.proofs.iter.runs.Made.{at-is}
use Rattle.std.specs.Simd.{first_chunks}
use Rattle.std.specs.Slice.Iter.{iter_rest}
use Rattle.words.specs.declared.Refusal.TheVariants.{MalformedInput}
use Rattle.script.specs.Events.{unplayed}
use Rattle.script.proofs.More.{events_are, given, refused}
use Rattle.script.proofs.events.Goals as goal
use Rattle.script.proofs.events.Goals.{then-len-from, else-len-from}

-- the chain is followed from its last call back to the slice
pub returns : goal.returns
returns c =
    let bytes = c.args.bytes.now in
    let count = c.args.count in
    let collected = c.in_ok-turns.ensures.runs tt in
    let called = c.map.ensures.runs collected.0 collected.0.seen collected.1 in
    let came = c.map_while.ensures.runs called.0 called.0.seen called.1 in
    let taken = c.take.ensures.runs came.0 came.0.seen came.1 in
    let source = taken.1.0 in
    let read = c.iter.ensures.runs source source.seen in
    let calls = called.0.items in
    let xs = first_chunks 5 (length bytes / 5) bytes in
    let turns : vec_items c.in_ok-turns.turns ≡ map unplayed calls = search rules in
    let whole : called.0.whole ≡ true = search rules in
    let from : iter_rest source.from ≡ xs = ap iter_rest taken.1.1 ∙ (c.iter.ensures.rest ∙ c.as_chunks.ensures.front) in
    let pieces : length xs ≡ length bytes / 5 = sym (ap length c.as_chunks.ensures.front) ∙ c.as_chunks.ensures.front_len in
    let few : came.0.len ≤ count = omega (arith, taken.0, c.from.ensures) in
    let inside : came.0.len ≤ length xs = omega (arith, read.0, ap length from, taken.1.2.0.0) in
    let is : (k : ℕ) → IfSome (came.0.at k) (λ x. x.now ≡ get_or xs k x.now) =
    λ k. subst (λ (p : Option (Bor (List ℕ)) × List (List ℕ)). IfSome p.0 (λ x. x.now ≡ get_or p.1 k x.now)) (λ i. (taken.1.2.0.2 k i, from i)) (read.8 k) in
    let made : vec_len c.in_ok-turns.turns ≡ length calls = omega (arith, c.in_ok-turns.turns.ok.0, ap length turns, length-map calls unplayed) in
    let end : (length calls ≡ count → c.if-len-from.ending ≡ Ok tt) × (length calls < count → c.if-len-from.ending ≡ Err MalformedInput) =
    elim c.if-len-from.branch [
      | then-len-from w ↦ (λ h. w.ending-is, λ h. absurd (omega (arith, c.len.ensures, c.from-2.ensures, w.if-len-from.true)))
      | else-len-from w ↦ (λ h. absurd (omega (arith, c.len.ensures, c.from-2.ensures, w.if-len-from.false)), λ h. w.ending-is)
    ] in
    events_are calls count (length bytes / 5) bytes c.if-len-from.ending refl (omega (arith, came.2.0.0, called.0.long)) (omega (arith, came.2.0.0, called.0.long))
    (λ k h. given (λ x y h. search rules) _ (came.0.at k) xs k (omega (arith, came.2.0.0, called.0.long)) (is k) (rw (at-is called.0 k) at ((came.2.1 (λ a r g h. refl)).0 k)))
    (λ below within.
    rw (← called.0.long) (refused (λ x h. search rules) _ xs called.0.len (omega (arith, called.0.long)) (is called.0.len) (came.2.0.2 whole)
    (λ w. omega (arith, w.1, called.0.long, c.from.ensures, read.1 (taken.1.2.1 w.0 (omega (arith, w.1, called.0.long, c.from.ensures))), ap length from, taken.1.2.0.0))))
    end.0 end.1
    ∙ ap (λ ts. (ts, c.if-len-from.ending)) (sym turns)
