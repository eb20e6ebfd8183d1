-- What each check accepts, told with no state: after the stored sum, the state is that sum beside the register.
use Rattle.std.proofs.Common.{◌≡◌, ℕ, zero, suc, ◌-◌, ◌<◌, ◌≤◌, Bool, true, eqb, ◌↔◌, List, [], ◌∷◌, length, take, drop, fold, sym, refl, ap, ◌∙◌, arith}
use Rattle.std.proofs.lemmas.Bool.{eqb-true, eq-eqb, lt-ltb, false≢true}
use Rattle.std.proofs.lemmas.List.{length-take-le}
use Rattle.image.specs.Reading.{reads}
use Rattle.crc.specs.Register.{fed}
use Rattle.image.specs.Check.{accepted}
use Rattle.image.specs.Sums.{word, number, pushed, sum_step, sum_accepts, sum_check, number_check, AcceptsItsSum, ccitt_check, crc8_check, HoldsSum, HoldsCcitt, HoldsCrc8}
use Rattle.image.specs.declared.sum.SumState.TheVariants as S

module _ {R : Type 0} (push : R → ℕ → R) (same : R → R → Bool) (starts : R) (steps : R → ℕ → R) where
  -- once the stored sum is whole, the state carries a register through a list
  carried : (stored register : R) (bytes : List ℕ)
      → fold (sum_step push starts steps) (S.Summing stored register) bytes ≡ S.Summing stored (fold steps register bytes)
  carried stored register [] = refl
  carried stored register (byte ∷ bytes) = carried stored (steps register byte) bytes

  one_less : (missing : ℕ) (stored : R) (byte : ℕ)
      → sum_step push starts steps (S.Storing (suc (suc missing)) stored) byte ≡ S.Storing (suc missing) (push stored byte)
  one_less missing stored byte =
      let less : suc (suc missing) - 1 ≡ suc missing = omega arith in
      rw (lt-ltb 1 (suc (suc missing)) (omega arith), less)

  -- what is accepted while bytes of the stored sum are missing
  said : (missing : ℕ) (stored : R) (bytes : List ℕ)
      → (sum_accepts same (fold (sum_step push starts steps) (S.Storing (suc missing) stored) bytes) ≡ true)
      ↔ ((suc missing ≤ length bytes) × (same (fold push stored (take (suc missing) bytes)) (fold steps starts (drop (suc missing) bytes)) ≡ true))
  said missing stored [] = (λ e. absurd (false≢true e), λ h. let none : ⊥ = omega (arith, h.0) in absurd none)
  said zero stored (byte ∷ bytes) =
      let e = ap (sum_accepts same) (carried (push stored byte) starts bytes) in
      (λ t. (omega arith, sym e ∙ t), λ h. e ∙ h.1)
  said (suc missing) stored (byte ∷ bytes) =
      let e = ap (λ s. sum_accepts same (fold (sum_step push starts steps) s bytes)) (one_less missing stored byte) in
      let w = said missing (push stored byte) bytes in
      (λ t. let h = w.0 (sym e ∙ t) in (omega (arith, h.0), h.1), λ h. e ∙ w.1 (omega (arith, h.0), h.1))

  -- where the bytes of the stored sum, taken in one after the other, are the register that `of` makes of them
  pub accepts_its_sum : (n : ℕ) (blank : R) (of : List ℕ → R) → 0 < n → ((bytes : List ℕ) → length bytes ≡ n → fold push blank bytes ≡ of bytes)
      → AcceptsItsSum n of same (fold steps starts) (sum_check n blank push same starts steps)
  accepts_its_sum zero blank of pos read image = let none : ⊥ = omega arith in absurd none
  accepts_its_sum (suc n) blank of pos read image =
      let w = said n blank image in
      let whole = λ (h : suc n ≤ length image). ap (λ r. same r (fold steps starts (drop (suc n) image))) (read (take (suc n) image) (length-take-le (suc n) image h)) in
      (λ t. let h = w.0 t in (h.0, sym (whole h.0) ∙ h.1), λ h. w.1 (h.0, whole h.0 ∙ h.1))

pub sum_means : (n starts : ℕ) (steps : ℕ → ℕ → ℕ) → 0 < n → (image : List ℕ)
    → (accepted (number_check n starts steps) image ≡ true) ↔ HoldsSum n (fold steps starts) image
sum_means n starts steps pos image =
    let w = accepts_its_sum (pushed n) eqb starts steps n 0 number pos (reads n) image in
    (λ t. let h = w.0 t in (h.0, eqb-true _ _ h.1), λ h. w.1 (h.0, eq-eqb _ _ h.1))

pub ccitt_means : (image : List ℕ) → (accepted ccitt_check image ≡ true) ↔ HoldsCcitt image
ccitt_means [] = sum_means 2 0xFFFF (fed 16 0x1021) (omega arith) []
ccitt_means (low ∷ []) = sum_means 2 0xFFFF (fed 16 0x1021) (omega arith) (low ∷ [])
ccitt_means (low ∷ high ∷ bytes) =
    let is : number (low ∷ high ∷ []) ≡ word low high = omega arith in
    let w = sum_means 2 0xFFFF (fed 16 0x1021) (omega arith) (low ∷ high ∷ bytes) in
    (λ t. let h = w.0 t in (h.0, sym is ∙ h.1), λ h. w.1 (h.0, is ∙ h.1))

pub crc8_means : (image : List ℕ) → (accepted crc8_check image ≡ true) ↔ HoldsCrc8 image
crc8_means [] = sum_means 1 0 (fed 8 0x07) (omega arith) []
crc8_means (stored ∷ bytes) =
    let is : number (stored ∷ []) ≡ stored = omega arith in
    let w = sum_means 1 0 (fed 8 0x07) (omega arith) (stored ∷ bytes) in
    (λ t. let h = w.0 t in (h.0, sym is ∙ h.1), λ h. w.1 (h.0, is ∙ h.1))
