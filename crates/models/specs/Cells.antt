-- The two technologies: how a write mixes two bytes, and what a torn change leaves.
use Rattle.std.specs.Prelude.{◌≡◌, ℕ, ◌%◌, ◌<◌, min, List, ◌++◌, map, length, drop, replicate, bit_and, bit_or}

-- what tells one technology from another; a torn change goes by a pattern of 16 bits
pub record Cells : Type 0 where
  pub mix : (old new : ℕ) → ℕ
  pub torn_write : (pattern old new : ℕ) → ℕ
  pub torn_erase : (pattern : ℕ) → List ℕ → List ℕ

-- flash can only clear bits: it mixes by AND. A torn write leaves those bits uncleared that the pattern's low byte has, and a torn
-- erase has set just those
abbrev pub flash : Cells
flash = record {
  mix = λ old new. bit_and old new;
  torn_write = λ pattern old new. bit_and old (bit_or new (pattern % 256));
  torn_erase = λ pattern segment. map (λ byte. bit_or byte (pattern % 256)) segment;
}

-- FRAM takes the new byte. A torn write leaves the old one, and a torn erase has reached as many bytes of the segment as the
-- pattern's remainder by 512 says
abbrev pub fram : Cells
fram = record {
  mix = λ old new. new;
  torn_write = λ pattern old new. old;
  torn_erase = λ pattern segment. let reached = min (pattern % 512) (length segment) in replicate reached 0xFF ++ drop reached segment;
}

-- what a technology shows, so that a memory can be made of it: an erased byte takes any other, only the low eight bits of the old
-- number count, and a torn erase of a segment leaves a segment
pub record Sound (cells : Cells) : Type 0 where
  pub erased : (byte : ℕ) → byte < 256 → cells.mix 0xFF byte ≡ byte
  pub low_bits : (old new : ℕ) → new < 256 → cells.mix old new % 256 ≡ cells.mix (old % 256) new
  pub segment : (pattern : ℕ) (bytes : List ℕ) → length bytes ≡ 512 → length (cells.torn_erase pattern bytes) ≡ 512
