-- The two sums: which register each has, and what it holds after the last byte.
use Rattle.std.specs.Prelude.{ℕ, List, fold}
use Rattle.crc.specs.Register.{fed}

-- CRC-CCITT: 16 bits, polynomial 0x1021, start 0xFFFF
abbrev pub ccitt : List ℕ → ℕ
ccitt bytes = fold (fed 16 0x1021) 0xFFFF bytes

-- CRC-8: 8 bits, polynomial 0x07, start 0
abbrev pub crc8 : List ℕ → ℕ
crc8 bytes = fold (fed 8 0x07) 0 bytes
