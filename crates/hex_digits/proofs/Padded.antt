-- What `{:04X}` writes of a number of 16 bits.
use Rattle.std.proofs.Common.{◌≡◌, ℕ, ◌-◌, ◌/◌, ◌%◌, ◌^◌, ◌<◌, ◌≤◌, true, false, List, [], ◌∷◌, suc, ne_eqb, refl, ◌∙◌, ⊎_elim, arith}
use Rattle.std.specs.Fmt.{digits, digits_onto, char_count, padded_integral, format_spec}
use Rattle.std.proofs.lemmas.Fmt.{hex_one_digit, hex_two_digits}
use Rattle.std.proofs.lemmas.Bool.{eq-eqb, cases_lt}
use Rattle.hex_digits.specs.Digits.{digit, byte_digits, word_digits}

-- a digit more, and the last
next : (k n : ℕ) (after : List ℕ) → 16 ≤ n → digits_onto (suc k) 16 true n after ≡ digits_onto k 16 true (n / 16) (digit (n % 16) ∷ after)
next k n after h = rw (ne_eqb (n / 16) 0 (λ e. omega arith))

last : (k n : ℕ) (after : List ℕ) → n < 16 → digits_onto (suc k) 16 true n after ≡ digit (n % 16) ∷ after
last k n after h = let e : n / 16 ≡ 0 = omega arith in rw (eq-eqb (n / 16) 0 e)

begin : (n : ℕ) → digits 16 true n ≡ digits_onto 64 16 true n []
unfolding digits
begin n = refl

three_digits : (n : ℕ) → 256 ≤ n → n < 4096 → digits 16 true n ≡ digit (n / 256) ∷ byte_digits (n % 256)
three_digits n large small =
    let a : n / 16 / 16 % 16 ≡ n / 256 = omega arith in
    let b : n / 16 % 16 ≡ n % 256 / 16 = omega arith in
    let c : n % 16 ≡ n % 256 % 16 = omega arith in
    begin n ∙ next 63 n [] (omega arith) ∙ next 62 (n / 16) _ (omega arith) ∙ last 61 (n / 16 / 16) _ (omega arith) ∙ rw (a, b, c)

four_digits : (n : ℕ) → 4096 ≤ n → n < 65536 → digits 16 true n ≡ word_digits n
four_digits n large small =
    let a : n / 16 / 16 / 16 % 16 ≡ n / 256 / 16 = omega arith in
    let b : n / 16 / 16 % 16 ≡ n / 256 % 16 = omega arith in
    let c : n / 16 % 16 ≡ n % 256 / 16 = omega arith in
    let d : n % 16 ≡ n % 256 % 16 = omega arith in
    begin n ∙ next 63 n [] (omega arith) ∙ next 62 (n / 16) _ (omega arith) ∙ next 61 (n / 16 / 16) _ (omega arith) ∙ last 60 (n / 16 / 16 / 16) _ (omega arith)
    ∙ rw (a, b, c, d)

abbrev padded : ℕ → List ℕ
padded n = padded_integral (format_spec 32 0 4 4 (2 ^ 64 - 1)) false [] (digits 16 true n)

module _ (n : ℕ) where
  one_padded : n < 16 → padded n ≡ word_digits n
  unfolding padded_integral char_count
  one_padded one =
      let a : n / 256 / 16 ≡ 0 = omega arith in
      let b : n / 256 % 16 ≡ 0 = omega arith in
      let c : n % 256 / 16 ≡ 0 = omega arith in
      let d : n % 256 % 16 ≡ n = omega arith in
      rw (hex_one_digit true n one, a, b, c, d)

  two_padded : 16 ≤ n → n < 256 → padded n ≡ word_digits n
  unfolding padded_integral char_count
  two_padded more two =
      let a : n / 256 / 16 ≡ 0 = omega arith in
      let b : n / 256 % 16 ≡ 0 = omega arith in
      let c : n % 256 ≡ n = omega arith in
      rw (hex_two_digits true n more two, a, b, c)

  three_padded : 256 ≤ n → n < 4096 → padded n ≡ word_digits n
  unfolding padded_integral char_count
  three_padded more three =
      let a : n / 256 / 16 ≡ 0 = omega arith in
      let b : n / 256 % 16 ≡ n / 256 = omega arith in
      rw (three_digits n more three, a, b)

  four_padded : 4096 ≤ n → n < 65536 → padded n ≡ word_digits n
  unfolding padded_integral char_count
  four_padded more four = rw (four_digits n more four)

pub word_padded : (n : ℕ) → n < 65536 → padded_integral (format_spec 32 0 4 4 (2 ^ 64 - 1)) false [] (digits 16 true n) ≡ word_digits n
word_padded n small =
    ⊎_elim (one_padded n)
    (λ more. ⊎_elim (two_padded n more)
    (λ more. ⊎_elim (three_padded n more) (λ more. four_padded n more small) (cases_lt n 4096)) (cases_lt n 256))
    (cases_lt n 16)
