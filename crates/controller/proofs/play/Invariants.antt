use Rattle.image.specs.Check.{accepted}
use Rattle.controller.specs.Machines.{machine}
use Rattle.controller.proofs.Plays.{SoFar}
use Rattle.controller.proofs.play.Given as goal

-- so many turns have been played
abbrev pub invariant-loop-turn : goal.invariant-loop-turn
invariant-loop-turn g l =
    let accepts = accepted g.C.ImageCheck.check in
    let make = g.M.Memory.make in
    SoFar accepts make l.initial.turns l.turns l.turn-index (machine accepts make l.initial.controller l.initial.memory) (machine accepts make l.controller l.memory)
