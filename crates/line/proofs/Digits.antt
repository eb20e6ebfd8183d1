-- The bytes of a line: the decimal digits of its number, which are those of its tenth and one more, then six bytes.
use Rattle.std.proofs.Common.{◌≡◌, ℕ, ◌+◌, ◌/◌, ◌%◌, ◌^◌, ◌<◌, ◌≤◌, List, [], ◌∷◌, ◌++◌, length, decimal, sym, ap, ◌∙◌, append_assoc, mod-eq_of_lt, length-append, codes, Ok, Err, Result, IsOk, OnOk, arith}
use Rattle.hex_digits.specs.Digits.{digit, byte_digits}
use Rattle.line.specs.One.{letter, value, line_bytes}
use Rattle.words.specs.Outcomes.{Outcome, Reply}
use Rattle.std.proofs.lemmas.Bool.{false≢true}
use Rattle.std.proofs.lemmas.Fmt.{decimal_digit, decimal_step, decimal_nonempty, length-decimal-le}

pub one_digit : (n : ℕ) (xs : List ℕ) → n < 10 → xs ++ (48 + n % 10) ∷ [] ≡ xs ++ decimal n
one_digit n xs h = ap (λ (m : ℕ). xs ++ (48 + m) ∷ []) (mod-eq_of_lt h) ∙ sym (ap (λ (l : List ℕ). xs ++ l) (decimal_digit n h))

pub more_digits : (n : ℕ) (xs ys : List ℕ) → 10 ≤ n → n < 2 ^ 64 → ys ≡ xs ++ decimal (n / 10) → ys ++ (48 + n % 10) ∷ [] ≡ xs ++ decimal n
more_digits n xs ys h fits is =
    ap (λ (l : List ℕ). l ++ (48 + n % 10) ∷ []) is
    ∙ (append_assoc xs (decimal (n / 10)) ((48 + n % 10) ∷ [])
    ∙ sym (ap (λ (l : List ℕ). xs ++ l) (decimal_step n h fits)))

-- where the digits of a number have room, those of its tenth have room and one more has it
pub room_for_one : (n k most : ℕ) → n < 2 ^ 64 → k + length (decimal n) ≤ most → k < most
room_for_one n k most fits h = omega (arith, decimal_nonempty n fits)

pub room_for_more : (n k most : ℕ) → 10 ≤ n → n < 2 ^ 64 → k + length (decimal n) ≤ most → k + length (decimal (n / 10)) < most
room_for_more n k most ten fits h =
    let step : length (decimal n) ≡ length (decimal (n / 10)) + 1 = ap length (decimal_step n ten fits) ∙ length-append (decimal (n / 10)) ((48 + n % 10) ∷ []) in
    omega arith

pub twenty_digits : (n : ℕ) → n < 2 ^ 64 → length (decimal n) ≤ 20
twenty_digits n h = length-decimal-le 20 n (omega arith) (omega arith) h

-- an empty line has room for any number
pub room_for_all : (xs : List ℕ) (n : ℕ) → xs ≡ [] → n < 2 ^ 64 → length xs + length (decimal n) ≤ 26
room_for_all xs n none h = omega (arith, twenty_digits n h, ap length none)

-- a line: its number, then six bytes
pub tail : (o : Outcome Reply) (l v high low : ℕ) → l ∷ [] ≡ letter o → v ≡ value o → v < 256 → high ≡ digit (v / 16 % 16) → low ≡ digit (v % 16)
    → ◌≡◌ {A = List ℕ} (32 ∷ l ∷ 32 ∷ high ∷ low ∷ 10 ∷ []) (codes " " ++ (letter o ++ (codes " " ++ (byte_digits (value o) ++ codes "\n"))))
tail o l v high low is at small up down =
    let above : v / 16 < 16 = omega arith in
    let first : high ≡ digit (v / 16) = up ∙ ap digit (mod-eq_of_lt above) in
    ap (λ (x : List ℕ). 32 ∷ (x ++ 32 ∷ high ∷ low ∷ 10 ∷ [])) is
    ∙ (ap (λ (x : ℕ). 32 ∷ (letter o ++ 32 ∷ x ∷ low ∷ 10 ∷ [])) first
    ∙ (ap (λ (x : ℕ). 32 ∷ (letter o ++ 32 ∷ digit (v / 16) ∷ x ∷ 10 ∷ [])) down
    ∙ ap (λ (x : ℕ). 32 ∷ (letter o ++ (32 ∷ (byte_digits x ++ 10 ∷ [])))) at))

pub whole_line : (o : Outcome Reply) (n l v high low : ℕ) (start mid line : List ℕ) → l ∷ [] ≡ letter o → v ≡ value o → v < 256 → high ≡ digit (v / 16 % 16) → low ≡ digit (v % 16)
    → start ≡ [] → mid ≡ start ++ decimal n → line ≡ mid ++ 32 ∷ l ∷ 32 ∷ high ∷ low ∷ 10 ∷ [] → line ≡ line_bytes n o
whole_line o n l v high low start mid line is at small up down none first rest =
    rest
    ∙ (ap (λ (x : List ℕ). x ++ 32 ∷ l ∷ 32 ∷ high ∷ low ∷ 10 ∷ []) (first ∙ ap (λ (x : List ℕ). x ++ decimal n) none)
    ∙ ap (λ (x : List ℕ). decimal n ++ x) (tail o l v high low is at small up down))

pub when_ok : {T E P : Type 0} (r : Result T E) → OnOk r P → IsOk r → P
when_ok (Ok x) p ok = p
when_ok (Err e) p ok = absurd (false≢true ok)
