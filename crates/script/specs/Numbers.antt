-- Numbers in a list of bytes.
use Rattle.std.specs.Prelude.{ℕ, ◌+◌, ◌*◌, List, slice_index}

-- the byte at a place
abbrev pub at : List ℕ → ℕ → ℕ
at bytes place = slice_index bytes place

-- a number of 16 bits from a place up, the low byte first
abbrev pub word : List ℕ → ℕ → ℕ
word bytes place = at bytes place + at bytes (place + 1) * 0x100

-- a number of 32 bits from a place up, the low byte first
abbrev pub long : List ℕ → ℕ → ℕ
long bytes place = word bytes place + at bytes (place + 2) * 0x10000 + at bytes (place + 3) * 0x1000000
