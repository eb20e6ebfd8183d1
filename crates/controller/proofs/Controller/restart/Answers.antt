use Rattle.std.proofs.Common.{rules}
use Rattle.std.proofs.lemmas.Result.{err_from_is_err_and}
use Rattle.image.specs.Check.{accepted}
use Rattle.receiver.specs.Packet.{packet}
use Rattle.controller.proofs.Restarts.{finishes, stays_on, loses}
use Rattle.controller.proofs.Controller.restart.Goals as goal

pub returns-in_err-mend : goal.returns-in_err-mend
returns-in_err-mend g c =
    let p = err_from_is_err_and c.from_residual-in_err-mend.result c.from_residual-in_err-mend.ensures.1 in
    let self = c.args.self.now in
    let end = loses g.met.M.Memory.laws (accepted g.C.ImageCheck.check) self.layout self.phase (packet self.receiver) c.args.inputs
    c.args.memory.now c.restore.new.self c.mend.new.memory (search rules) c.restore.ensures
    _ c.in_err-mend.ensures (packet c.new-self.result) c.new-self.ensures.expects in
    rw (p.1, p.2) (record { called = end.0; supply = end.1 })

pub returns : goal.returns
returns g c =
    let self = c.args.self.now in
    record {
      called = finishes g.met.M.Memory.laws (accepted g.C.ImageCheck.check) self.layout self.phase (packet self.receiver) c.args.inputs
          c.args.memory.now c.restore.new.self c.mend.new.memory (search rules) c.restore.ensures
          c.in_ok-mend.ensures c.choose-phase.result (packet c.new-self.result) c.choose-phase.ensures c.new-self.ensures.expects;
      supply = stays_on g.met.M.Memory.laws (accepted g.C.ImageCheck.check) self.layout self.phase (packet self.receiver) c.args.inputs
          c.args.memory.now c.restore.new.self c.mend.new.memory (search rules) c.restore.ensures c.in_ok-mend.ensures;
    }
