-- Numbers written in upper-case hexadecimal digits.
use Rattle.std.specs.Prelude.{ℕ, ◌+◌, ◌/◌, ◌%◌, cond, List, [], ◌∷◌, ◌++◌, nat_lt}

-- the character of a digit below 16: 0 to 9, then A to F
abbrev pub digit : ℕ → ℕ
digit n = cond (nat_lt n 10) (48 + n) (55 + n)

-- a byte has two digits, the higher first
abbrev pub byte_digits : ℕ → List ℕ
byte_digits n = digit (n / 16) ∷ digit (n % 16) ∷ []

-- a number of 16 bits has four, those of its higher byte first
abbrev pub word_digits : ℕ → List ℕ
word_digits n = byte_digits (n / 256) ++ byte_digits (n % 256)
