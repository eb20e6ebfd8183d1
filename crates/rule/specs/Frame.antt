-- Frames: a header, a length, so many payload bytes, and their sum.
use Rattle.std.specs.Prelude.{ℕ, ◌+◌, cond, List, [], ◌∷◌, length, take, ◌==◌, nat_lt, slice_index}
use Rattle.crc.specs.Sums.{ccitt}
use Rattle.image.specs.Sums.{word}
use Rattle.words.specs.declared.Answer.{Answer}
use Rattle.words.specs.declared.Answer.TheVariants.{HeaderError, ChecksumError, PacketZeroError, PacketSizeError}

-- what the bytes since the last answer come to: more is to come, an error, or the payload of a good frame
pub data Verdict : Type 0 where
  more : Verdict
  wrong : Answer → Verdict
  good : List ℕ → Verdict

-- a payload of n bytes and its sum, low byte first
abbrev pub summed : ℕ → List ℕ → Verdict
summed n rest =
    cond (ccitt (take n rest) == word (slice_index rest n) (slice_index rest (n + 1))) (good (take n rest)) (wrong ChecksumError)

-- what follows the length n
abbrev pub sized : ℕ → List ℕ → Verdict
sized n rest =
    cond (n == 0) (wrong PacketZeroError)
    (cond (nat_lt 19 n) (wrong PacketSizeError)
    (cond (nat_lt (length rest) (n + 2)) more (summed n rest)))

-- the bytes since the last answer, in the order in which they came
abbrev pub judge : List ℕ → Verdict
judge [] = more
judge (header ∷ []) = cond (header == 0x80) more (wrong HeaderError)
judge (header ∷ n ∷ rest) = cond (header == 0x80) (sized n rest) (wrong HeaderError)
