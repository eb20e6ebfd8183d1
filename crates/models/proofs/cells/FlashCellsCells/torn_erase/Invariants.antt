use Rattle.std.proofs.Common.{◌≡◌, ◌++◌, map, take, drop}
use lib.Bits.{bit_or}
use Rattle.models.proofs.cells.FlashCellsCells.torn_erase.Given as goal

abbrev pub invariant-loop-byte : goal.invariant-loop-byte
invariant-loop-byte l =
    l.segment ≡ map (λ byte. bit_or byte l.raised) (take l.byte-index l.initial.segment) ++ drop l.byte-index l.initial.segment
