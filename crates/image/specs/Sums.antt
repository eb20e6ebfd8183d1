-- The three image checks: by a stored CRC-CCITT sum, by a stored CRC-8 sum, and by nothing but the entry.
use Rattle.std.specs.Prelude.{◌≡◌, ℕ, ◌+◌, ◌-◌, ◌*◌, ◌/◌, ◌^◌, ◌<◌, ◌≤◌, Bool, true, false, cond, ◌↔◌, List, [], ◌∷◌, length, take, drop, fold, nat_eq, nat_lt, slice_index}
use Rattle.crc.specs.Register.{fed}
use Rattle.crc.specs.Sums.{ccitt, crc8}
use Rattle.image.specs.Check.{Check, accepted}
use Rattle.image.specs.declared.sum.SumState.{SumState}
use Rattle.image.specs.declared.sum.SumState.TheVariants as S

-- a number of 16 bits, low byte first
abbrev pub word : (low high : ℕ) → ℕ
word low high = low + 256 * high

-- the number that a list of bytes is, low byte first
abbrev pub number : List ℕ → ℕ
number [] = 0
number (byte ∷ bytes) = byte + 256 * number bytes

-- an image whose first n bytes, low byte first, are the sum of all later bytes
abbrev pub HoldsSum : (n : ℕ) → (List ℕ → ℕ) → List ℕ → Type 0
HoldsSum n sum image = (n ≤ length image) × (number (take n image) ≡ sum (drop n image))

-- a check that accepts just those images whose first n bytes, as the number that they are, equal the sum of all later bytes
abbrev pub AcceptsItsSum : {R : Type 0} → (n : ℕ) (number : List ℕ → R) (same : R → R → Bool) (sum : List ℕ → R) → Check (SumState R) → Type 0
AcceptsItsSum n number same sum check =
    (image : List ℕ) → (accepted check image ≡ true) ↔ ((n ≤ length image) × (same (number (take n image)) (sum (drop n image)) ≡ true))

-- the first two bytes, low byte first, are the CRC-CCITT sum of all later bytes
abbrev pub HoldsCcitt : List ℕ → Type 0
HoldsCcitt image = (2 ≤ length image) × (word (slice_index image 0) (slice_index image 1) ≡ ccitt (drop 2 image))

-- the first byte is the CRC-8 sum of all later bytes
abbrev pub HoldsCrc8 : List ℕ → Type 0
HoldsCrc8 image = (1 ≤ length image) × (slice_index image 0 ≡ crc8 (drop 1 image))

-- a register of n bytes takes in the next of its stored bytes: it comes in at the top, and those before it move down
abbrev pub pushed : (n : ℕ) → ℕ → ℕ → ℕ
pushed n stored byte = stored / 256 + 256 ^ (n - 1) * byte

-- a byte at a time: those of the stored sum, then the register over all later bytes
abbrev pub sum_step : {R : Type 0} → (R → ℕ → R) → R → (R → ℕ → R) → SumState R → ℕ → SumState R
sum_step push starts steps (S.Storing missing stored) byte =
    cond (nat_lt 1 missing) (S.Storing (missing - 1) (push stored byte)) (S.Summing (push stored byte) starts)
sum_step push starts steps (S.Summing stored register) byte = S.Summing stored (steps register byte)

abbrev pub sum_accepts : {R : Type 0} → (R → R → Bool) → SumState R → Bool
sum_accepts same (S.Storing missing stored) = false
sum_accepts same (S.Summing stored register) = same stored register

-- a check by a stored sum of n bytes
abbrev pub sum_check : {R : Type 0} → (n : ℕ) (zero : R) (push : R → ℕ → R) (same : R → R → Bool) (starts : R) (steps : R → ℕ → R) → Check (SumState R)
sum_check n zero push same starts steps =
    record { start = S.Storing n zero; step = sum_step push starts steps; accepts = sum_accepts same }

-- the same where the register is a number of n bytes
abbrev pub number_check : (n : ℕ) (starts : ℕ) (steps : ℕ → ℕ → ℕ) → Check (SumState ℕ)
number_check n starts steps = sum_check n 0 (pushed n) nat_eq starts steps

abbrev pub ccitt_check : Check (SumState ℕ)
ccitt_check = number_check 2 0xFFFF (fed 16 0x1021)

abbrev pub crc8_check : Check (SumState ℕ)
crc8_check = number_check 1 0 (fed 8 0x07)

-- vector only: nothing is looked at, and every list is accepted
abbrev pub vector_check : Check (Unit {0})
vector_check = record { start = tt; step = λ state _. state; accepts = λ _. true }

-- a check with a stored sum of n bytes accepts no list that is shorter
abbrev pub NeedsItsSum : {State : Type 0} → Check State → ℕ → Type 0
NeedsItsSum check n = (image : List ℕ) → accepted check image ≡ true → n ≤ length image

-- what each check accepts, told with no state
pub record Meanings : Type 0 where
  -- by a stored sum of any length, start and step; CRC-CCITT and CRC-8 are two such
  pub sum_means : (n starts : ℕ) (steps : ℕ → ℕ → ℕ) → 0 < n → (image : List ℕ)
      → (accepted (number_check n starts steps) image ≡ true) ↔ HoldsSum n (fold steps starts) image
  pub sum_needs : (n starts : ℕ) (steps : ℕ → ℕ → ℕ) → 0 < n → NeedsItsSum (number_check n starts steps) n
  pub ccitt_means : (image : List ℕ) → (accepted ccitt_check image ≡ true) ↔ HoldsCcitt image
  pub ccitt_needs : NeedsItsSum ccitt_check 2
  pub crc8_means : (image : List ℕ) → (accepted crc8_check image ≡ true) ↔ HoldsCrc8 image
  pub crc8_needs : NeedsItsSum crc8_check 1
  pub vector_means : (image : List ℕ) → accepted vector_check image ≡ true
  pub vector_needs : NeedsItsSum vector_check 0
