use Rattle.image.specs.Check.{accepted}
use Rattle.rule.proofs.Jumps.{jumps_told}
use Rattle.rule.proofs.jumps_are_told_by_their_answer.Goals as goal

pub returns : goal.returns
returns g c = jumps_told (accepted g.C.ImageCheck.check) g.M.Memory.make
