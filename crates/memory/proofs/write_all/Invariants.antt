use Rattle.std.proofs.Common.{◌≡◌, ◌+◌, ◌≤◌, ◌⊎◌, drop}
use Rattle.memory.specs.Ran.{writes}
use Rattle.memory.proofs.Turns.{Leads}
use Rattle.memory.proofs.write_all.Given as goal

-- the writes that are left complete the whole list, and those that were made have shown that the place lies within a memory
abbrev pub invariant-loop-i : goal.invariant-loop-i
invariant-loop-i g l =
    Leads g.M.Memory.make (writes l.place l.bytes) l.initial.memory (writes (l.place + l.i) (drop l.i l.bytes)) l.memory
    × ((l.i ≡ 0) ⊎ (l.place + l.i ≤ 53760))
