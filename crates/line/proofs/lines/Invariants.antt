use Rattle.std.proofs.Common.{◌≡◌, ◌+◌, ◌++◌, drop, vec_items}
use Rattle.line.specs.Every.{lines_from}
use Rattle.line.proofs.lines.Given as goal

abbrev pub invariant-loop-index : goal.invariant-loop-index
invariant-loop-index l = vec_items l.bytes ++ lines_from (l.index + 1) (drop l.index l.turns) l.ending ≡ lines_from 1 l.turns l.ending
