use Rattle.mending.proofs.Copying.{Copying}
use Rattle.mending.proofs.copy_all.Given as goal

-- so many segments have been copied, and what is left of them leads to the whole
abbrev pub invariant-loop-i : goal.invariant-loop-i
invariant-loop-i g l = Copying g.M.Memory.make l.layout l.initial.memory l.i l.memory
