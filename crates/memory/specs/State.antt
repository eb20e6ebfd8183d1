-- What is known of a memory.
use Rattle.std.specs.Prelude.{◌≡◌, ℕ, ◌*◌, ◌<◌, ◌≤◌, Bool, List, length, slice_index_or}

-- a memory is known by its bytes, by whether its supply is on, and by how it mixes an old byte with a new one
pub record State : Type 0 where
  pub bytes : List ℕ
  pub on : Bool
  pub mix : (old new : ℕ) → ℕ

-- how many bytes it has
abbrev pub size : State → ℕ
size s = length s.bytes

-- the byte read at a place: past the end it is 0xFF
abbrev pub at : State → ℕ → ℕ
at s place = slice_index_or s.bytes place 0xFF

-- what holds of every memory: it has whole segments of 512 bytes, at most 105, it holds bytes, and mixing any byte into 0xFF
-- gives that byte
pub record Lawful (s : State) : Type 0 where
  pub segments : ℕ
  pub few : segments ≤ 105
  pub whole : size s ≡ 512 * segments
  pub bytes : (place : ℕ) → at s place < 256
  pub erased : (byte : ℕ) → byte < 256 → s.mix 0xFF byte ≡ byte
