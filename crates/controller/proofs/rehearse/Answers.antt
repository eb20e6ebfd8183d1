use Rattle.image.specs.Check.{accepted}
use Rattle.rule.specs.Frames.{framed}
use Rattle.rule.proofs.FramesLaw.{frames_law}
use Rattle.rule.proofs.Runs.{rule}
use Rattle.controller.proofs.rehearse.Goals as goal

pub returns : goal.returns
returns g c =
    let accepts = accepted g.C.ImageCheck.check in
    record {
      rule = rule (framed accepts g.A.Memory.make) (framed accepts g.B.Memory.make) frames_law g.met.A.Memory.laws frames_law g.met.B.Memory.laws;
      first = c.run-a.ensures;
      second = c.run-b.ensures;
    }
