use Rattle.std.proofs.Common.{◌≡◌, ◌+◌, ◌-◌, ◌*◌, ◌≤◌, ◌⊎◌}
use Rattle.memory.specs.Ran.{erases}
use Rattle.memory.proofs.Turns.{Leads}
use Rattle.memory.proofs.erase_all.Given as goal

-- the erases that are left complete the whole list, and those that were made have shown that the segment lies within a memory
abbrev pub invariant-loop-i : goal.invariant-loop-i
invariant-loop-i g l =
    Leads g.M.Memory.make (erases l.segment l.count) l.initial.memory (erases (l.segment + l.i) (l.count - l.i)) l.memory
    × ((l.i ≡ 0) ⊎ (512 * (l.segment + l.i) ≤ 53760))
