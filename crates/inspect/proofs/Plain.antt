-- A verdict in plain words: an image is told startable exactly where it has an entry and holds what its check asks.
use Rattle.std.proofs.Common.{◌≡◌, ℕ, ◌-◌, Bool, true, false, cond, eqb, ltb, ◌↔◌, List, length, get_or, Some, None, Ok, Err, Result, sym, refl, ◌∙◌, ltb-false, le-ltb, ne_eqb}
use borrow.Author.Tests.{eqb-false}
use Rattle.image.specs.Sums.{word}
use Rattle.image.specs.Startable.{enters}
use Rattle.inspect.specs.Facts.{reason, verdict, HasEntry}
use Rattle.inspect.specs.declared.Reason.{Reason}
use Rattle.inspect.specs.declared.Reason.TheVariants as V

-- the verdict by the three tests in their order: too short, entry erased, accepted
abbrev told : (short erased ok : Bool) → Result (Unit {0}) Reason
told true erased ok = Err V.NoEntry
told false true ok = Err V.ErasedEntry
told false false true = Ok tt
told false false false = Err V.WrongSum

told_is : (short erased ok : Bool) (address : ℕ) → erased ≡ eqb address 0xFFFF
    → cond (cond (enters (cond short None (Some address))) ok false) (Ok tt) (Err (reason (cond short None (Some address)))) ≡ told short erased ok
told_is true erased ok address e = refl
told_is false true ok address e = rw (← e)
told_is false false true address e = rw (← e)
told_is false false false address e = rw (← e)

told_startable : (short erased ok : Bool) → told short erased ok ≡ Ok tt → (short ≡ false) × (erased ≡ false) × (ok ≡ true)
told_startable true erased ok e = absurd (cc)
told_startable false true ok e = absurd (cc)
told_startable false false true e = (refl, refl, refl)
told_startable false false false e = absurd (cc)

pub verdict_means : (accepts : List ℕ → Bool) (image : List ℕ) {P : Type 0} → (accepts image ≡ true) ↔ P
    → (verdict accepts image ≡ Ok tt) ↔ (HasEntry image × P)
verdict_means accepts image means =
    let short = ltb (length image) 2 in
    let address = word (get_or image (length image - 2) 0) (get_or image (length image - 1) 0) in
    let is = told_is short (eqb address 0xFFFF) (accepts image) address refl in (
      (λ e.
          let h = told_startable short (eqb address 0xFFFF) (accepts image) (sym is ∙ e) in
          ((ltb-false (length image) 2 h.0, eqb-false address 0xFFFF h.1), means.0 h.2)),
      (λ h. is ∙ rw (le-ltb (length image) 2 h.0.0, ne_eqb address 0xFFFF h.0.1, means.1 h.1)),
    )
