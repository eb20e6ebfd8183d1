use Rattle.std.proofs.Common.{◌≤◌}
use Rattle.vectors.proofs.sums.run.Given as goal

abbrev pub invariant-loop-case : goal.invariant-loop-case
invariant-loop-case l = l.differ ≤ l.case-index
