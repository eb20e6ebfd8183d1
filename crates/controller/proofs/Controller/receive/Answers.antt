use Rattle.std.proofs.Common.{Ok, ap, ◌∙◌, rules}
use Rattle.image.specs.Check.{accepted}
use Rattle.receiver.specs.Packet.{packet}
use Rattle.controller.proofs.Receives.{goes_on, is_wrong, replies, is_lost}
use Rattle.controller.proofs.Controller.receive.Goals as goal

pub returns-in-Ok-false : goal.returns-in-Ok-false
returns-in-Ok-false g c =
    goes_on g.met.M.Memory.laws (accepted g.C.ImageCheck.check) c.args.self.now c.args.byte c.args.memory.now (search rules) (search rules)
    c.byte.result c.byte.new.self.rest.items (packet c.byte.new.self) c.byte.ensures.event c.byte.ensures.keeps (c.in-Ok-false.is ∙ ap Ok c.in-Ok-false.field-0-test)

pub returns-in-Err : goal.returns-in-Err
returns-in-Err g c =
    is_wrong g.met.M.Memory.laws (accepted g.C.ImageCheck.check) c.args.self.now c.args.byte c.args.memory.now (search rules) (search rules)
    c.byte.result c.byte.new.self.rest.items (packet c.byte.new.self) c.byte.ensures.event c.byte.ensures.keeps c.in-Err.answer c.in-Err.is

pub returns-in-Ok : goal.returns-in-Ok
returns-in-Ok g c =
    replies g.met.M.Memory.laws (accepted g.C.ImageCheck.check) c.args.self.now c.args.byte c.args.memory.now (search rules) (search rules)
    c.byte.result c.byte.new.self.rest.items (packet c.byte.new.self) c.byte.ensures.event c.byte.ensures.keeps (c.in-Ok-true.is ∙ ap Ok c.in-Ok-true.field-0-test)
    c.payload.result.now c.payload.ensures c.obey.new.memory c.obey.result c.obey.ensures c.in-Ok.response c.in-Ok.is

pub returns-in-Err-obey : goal.returns-in-Err-obey
returns-in-Err-obey g c =
    is_lost g.met.M.Memory.laws (accepted g.C.ImageCheck.check) c.args.self.now c.args.byte c.args.memory.now (search rules) (search rules)
    c.byte.result c.byte.new.self.rest.items (packet c.byte.new.self) c.byte.ensures.event c.byte.ensures.keeps (c.in-Ok-true.is ∙ ap Ok c.in-Ok-true.field-0-test)
    c.payload.result.now c.payload.ensures c.obey.new.memory c.obey.result c.obey.ensures c.in-Err-obey.refusal c.in-Err-obey.is
