use Rattle.std.proofs.Common.{◌<◌, length, arith}
use Rattle.image.specs.Check.{accepted}
use Rattle.controller.proofs.Plays.{one_more}
use Rattle.controller.proofs.play.Goals as goal

pub loop-turn-preserved : goal.loop-turn-preserved
loop-turn-preserved g c =
    let lt : c.loop-turn.turn-index < length c.loop-turn.turns = omega arith in
    one_more (accepted g.C.ImageCheck.check) g.M.Memory.make c.args.turns.now _ c.loop-turn.turns c.loop-turn.turn-index _ _ _ c.call.result lt c.loop-turn.invariant c.call.ensures
