-- The register is linear over XOR, so that a byte can be fed by a table. Proved once, over the width and the polynomial.
use Rattle.std.proofs.Common.{◌≡◌, ℕ, zero, suc, ◌+◌, ◌-◌, ◌*◌, ◌/◌, ◌%◌, ◌^◌, ◌<◌, ◌≤◌, cond, eqb, sym, refl, ap, ◌∙◌, subst, ap₂, add-zero, mod-eq_of_lt, mul_assoc, le-mul_of_pos_right, arith}
use native.Mathlib.Nat.{div-eq_of_lt, pow-succ', mul-mod_left}
use lib.Bits.{bit_xor, xor_assoc, xor_comm, xor_zero_r, xor_self, xor_block, xor_shifted, xor_mod, xor_shr, xor_lt}
use Rattle.std.proofs.lemmas.Nat.{pow_pos, div_below, shr_split, shr_below, shl_below, shl-shr, mod-pow-add, mod_below}
use Rattle.std.proofs.lemmas.Bool.{cond_both}
use Rattle.crc.specs.Register.{shifted, shifts, fed}

swap4 : (a b c d : ℕ) → bit_xor (bit_xor a b) (bit_xor c d) ≡ bit_xor (bit_xor a c) (bit_xor b d)
swap4 a b c d =
    xor_assoc a b (bit_xor c d)
    ∙ ap (bit_xor a) (sym (xor_assoc b c d) ∙ ap (λ (x : ℕ). bit_xor x d) (xor_comm b c) ∙ xor_assoc c b d)
    ∙ sym (xor_assoc a c (bit_xor b d))

double : (a b : ℕ) → bit_xor a b * 2 ≡ bit_xor (a * 2) (b * 2)
double a b = sym (simp add-zero at (xor_block 1 a b 0 0 (omega arith) (omega arith)))

-- the polynomial where a 1 was dropped
abbrev poly : (p bit : ℕ) → ℕ
poly p bit = cond (eqb bit 0) 0 p

poly-xor : (p s t : ℕ) → s < 2 → t < 2 → poly p (bit_xor s t) ≡ bit_xor (poly p s) (poly p t)
poly-xor p zero zero hs ht = refl
poly-xor p zero (suc zero) hs ht = refl
poly-xor p zero (suc (suc t)) hs ht = omega arith
poly-xor p (suc zero) zero hs ht = sym (xor_zero_r p)
poly-xor p (suc zero) (suc zero) hs ht = sym (xor_self p)
poly-xor p (suc zero) (suc (suc t)) hs ht = omega arith
poly-xor p (suc (suc s)) t hs ht = omega arith

poly-lt : (w p bit : ℕ) → p < 2 ^ w → poly p bit < 2 ^ w
poly-lt w p bit h = cond_both (eqb bit 0) 0 p (λ x. x < 2 ^ w) (λ _. pow_pos w) (λ _. h)

shifted-low : (w p b : ℕ) → b * 2 < 2 ^ w → shifted w p b ≡ b * 2
shifted-low w p b h =
    ap₂ (λ (x y : ℕ). bit_xor x (poly p y)) (mod-eq_of_lt h) (div-eq_of_lt h) ∙ xor_zero_r (b * 2)

pub shifts-low : (w p n b : ℕ) → b * 2 ^ n < 2 ^ w → shifts w p n b ≡ b * 2 ^ n
unfolding shifts
shifts-low w p zero b h = omega arith
shifts-low w p (suc n) b h =
    let e : b * 2 ^ suc n ≡ b * 2 * 2 ^ n = ap (λ (x : ℕ). b * x) (pow-succ' 2 n) ∙ sym (mul_assoc b 2 (2 ^ n)) in
    let l : b * 2 * 2 ^ n < 2 ^ w = omega arith in
    let m : b * 2 ≤ b * 2 * 2 ^ n = le-mul_of_pos_right (b * 2) (pow_pos n) in
    ap (shifts w p n) (shifted-low w p b (omega arith)) ∙ shifts-low w p n (b * 2) l ∙ sym e

module _ (w p : ℕ) (fits : p < 2 ^ w) where
  top : (a : ℕ) → a < 2 ^ w → a * 2 / 2 ^ w < 2
  top a h = div_below (a * 2) (2 ^ w) 2 (pow_pos w) (omega arith)

  shifted-lt : (a : ℕ) → shifted w p a < 2 ^ w
  shifted-lt a = xor_lt w _ _ (mod_below (a * 2) (2 ^ w) (pow_pos w)) (poly-lt w p (a * 2 / 2 ^ w) fits)

  shifted-xor : (a b : ℕ) → a < 2 ^ w → b < 2 ^ w → shifted w p (bit_xor a b) ≡ bit_xor (shifted w p a) (shifted w p b)
  shifted-xor a b ha hb =
      ap (λ (x : ℕ). bit_xor (x % 2 ^ w) (poly p (x / 2 ^ w))) (double a b)
      ∙ ap₂ (λ (x y : ℕ). bit_xor x y) (xor_mod (a * 2) (b * 2) w)
      (ap (poly p) (xor_shr (a * 2) (b * 2) w) ∙ poly-xor p (a * 2 / 2 ^ w) (b * 2 / 2 ^ w) (top a ha) (top b hb))
      ∙ swap4 (a * 2 % 2 ^ w) (b * 2 % 2 ^ w) (poly p (a * 2 / 2 ^ w)) (poly p (b * 2 / 2 ^ w))

  pub shifts-xor : (n a b : ℕ) → a < 2 ^ w → b < 2 ^ w → shifts w p n (bit_xor a b) ≡ bit_xor (shifts w p n a) (shifts w p n b)
  unfolding shifts
  shifts-xor zero a b ha hb = refl
  shifts-xor (suc n) a b ha hb =
      ap (shifts w p n) (shifted-xor a b ha hb) ∙ shifts-xor n (shifted w p a) (shifted w p b) (shifted-lt a) (shifted-lt b)

-- A byte is fed by one look at a table of 256 entries, which has at x the register after eight shifts of x in its upper bits.
pub fed_by_table : (k p r byte : ℕ) → p < 2 ^ (k + 8) → r < 2 ^ (8 + k) → byte < 2 ^ 8
    → fed (k + 8) p r byte ≡ bit_xor (r * 256 % 2 ^ (k + 8)) (shifts (k + 8) p 8 (bit_xor (r / 2 ^ k) byte * 2 ^ k))
unfolding fed
fed_by_table k p r byte hp hr hb =
    let width : k + 8 - 8 ≡ k = omega arith in
    let hi : ℕ = r / 2 ^ k in
    let lo : ℕ = r % 2 ^ k in
    let lo< : lo < 2 ^ k = mod_below r (2 ^ k) (pow_pos k) in
    let x< : bit_xor hi byte < 2 ^ 8 = xor_lt 8 hi byte (shr_below r 8 k hr) hb in
    let split : bit_xor r (byte * 2 ^ k) ≡ bit_xor lo (bit_xor hi byte * 2 ^ k) =
    ap₂ (λ (x y : ℕ). bit_xor x y) (sym (shr_split r k)) (sym (add-zero (byte * 2 ^ k)))
    ∙ xor_block k hi byte lo 0 lo< (pow_pos k)
    ∙ ap (λ (x : ℕ). bit_xor hi byte * 2 ^ k + x) (xor_zero_r lo)
    ∙ sym (xor_shifted (bit_xor hi byte) k lo lo<)
    ∙ xor_comm _ lo in
    let lo8 : lo * 2 ^ 8 < 2 ^ (k + 8) = shl_below lo k 8 lo< in
    let low : shifts (k + 8) p 8 lo ≡ r * 256 % 2 ^ (k + 8) =
    shifts-low (k + 8) p 8 lo lo8
    ∙ sym (mod-pow-add (r * 256) k 8 ∙ ap₂ (λ (x y : ℕ). x % 2 ^ k * 256 + y) (shl-shr r 8) (mul-mod_left r 256) ∙ add-zero _) in
    ap (λ (n : ℕ). shifts (k + 8) p 8 (bit_xor r (byte * 2 ^ n))) width
    ∙ ap (shifts (k + 8) p 8) split
    ∙ shifts-xor (k + 8) p hp 8 lo (bit_xor hi byte * 2 ^ k) (omega arith) (subst (λ (n : ℕ). bit_xor hi byte * 2 ^ k < 2 ^ n) (omega arith) (shl_below (bit_xor hi byte) 8 k x<))
    ∙ ap (λ (x : ℕ). bit_xor x (shifts (k + 8) p 8 (bit_xor hi byte * 2 ^ k))) low
