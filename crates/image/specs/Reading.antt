-- Proof: a register that takes in its stored bytes, one after the other, holds the number that they are.
use Rattle.std.proofs.Common.{◌≡◌, ℕ, suc, ◌+◌, ◌-◌, ◌*◌, ◌/◌, ◌^◌, List, [], ◌∷◌, length, fold, sym, ap, ◌∙◌, mul_assoc, arith}
use native.Mathlib.Nat.{pow-suc, pow-succ', mul-add, zero-div, one-le-pow, add-mul-div_left, div-div-eq-div-mul}
use Rattle.std.proofs.lemmas.Nat.{pow-add}
use Rattle.image.specs.Sums.{number, pushed}

-- the bytes of a register come in one after the other
pushed_all : (n k : ℕ) (bytes : List ℕ) (r : ℕ) → n ≡ length bytes + k
    → fold (pushed n) r bytes ≡ r / 256 ^ length bytes + 256 ^ k * number bytes
pushed_all n k [] r e = omega arith
pushed_all n k (byte ∷ bytes) r e =
    let l = length bytes in
    let before : n - 1 ≡ l + k = omega arith in
    let e' : n ≡ l + suc k = omega arith in
    let above : pushed n r byte ≡ r / 256 + 256 ^ l * (256 ^ k * byte) =
    ap (λ x. r / 256 + x * byte) (ap (λ i. 256 ^ i) before ∙ pow-add 256 l k) ∙ ap (λ x. r / 256 + x) (mul_assoc (256 ^ l) (256 ^ k) byte) in
    let down : pushed n r byte / 256 ^ l ≡ r / 256 ^ suc l + 256 ^ k * byte =
    ap (λ x. x / 256 ^ l) above
    ∙ add-mul-div_left (r / 256) (256 ^ k * byte) (one-le-pow l 256 (omega arith))
    ∙ ap (λ x. x + 256 ^ k * byte) (div-div-eq-div-mul r 256 (256 ^ l) ∙ ap (λ x. r / x) (sym (pow-succ' 256 l))) in
    let more : 256 ^ suc k * number bytes ≡ 256 ^ k * (256 * number bytes) =
    ap (λ x. x * number bytes) (pow-suc 256 k) ∙ mul_assoc (256 ^ k) 256 (number bytes) in
    pushed_all n (suc k) bytes (pushed n r byte) e' ∙ omega (arith, down, more, mul-add (256 ^ k) byte (256 * number bytes))

pub reads : (n : ℕ) (bytes : List ℕ) → length bytes ≡ n → fold (pushed n) 0 bytes ≡ number bytes
reads n bytes h =
    let e : n ≡ length bytes + 0 = omega arith in
    pushed_all n 0 bytes 0 e ∙ omega (arith, zero-div (256 ^ length bytes))
