use Rattle.std.proofs.Common.{rules}
use Rattle.models.proofs.Outcomes.{ran_fresh, came}
use Rattle.callers.proofs.torn_erase_in.Goals as goal

pub returns : goal.returns
returns g c =
    let left = came (ran_fresh g.C.Cells.rules c.new-memory.ensures c.erase_all-end.ensures.ran) in
    record { bytes = search rules; end = left.end }
