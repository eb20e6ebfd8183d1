use Rattle.std.proofs.Common.{◌<◌, length, get_or, arith}
use lib.Bits.{bit_or}
use Rattle.std.proofs.lemmas.List.{get_or_default}
use Rattle.std.proofs.lemmas.List.Edits.{map_over_more}
use Rattle.models.proofs.cells.FlashCellsCells.torn_erase.Goals as goal

pub loop-byte-preserved : goal.loop-byte-preserved
loop-byte-preserved c =
    let lt : c.loop-byte.byte-index < length c.loop-byte.segment = omega arith in
    map_over_more (λ byte. bit_or byte (get_or c.to_le_bytes.result 0 0)) c.args.segment.now c.loop-byte.segment c.loop-byte.byte-index _
    (omega arith) c.loop-byte.invariant (get_or_default _ _ 0 _ lt)
