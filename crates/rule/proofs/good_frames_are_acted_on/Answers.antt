use Rattle.image.specs.Check.{accepted}
use Rattle.rule.proofs.Good.{acts_on_good_frames}
use Rattle.rule.proofs.Unfinished.{unfinished}
use Rattle.rule.proofs.good_frames_are_acted_on.Goals as goal

pub returns : goal.returns
returns g c = record { kept = unfinished (accepted g.C.ImageCheck.check) g.M.Memory.make; acted = acts_on_good_frames }
