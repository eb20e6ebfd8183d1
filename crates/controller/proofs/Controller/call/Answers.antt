use Rattle.std.proofs.Common.{subst}
use Rattle.image.specs.Check.{accepted}
use Rattle.words.specs.declared.Call.TheVariants.{Tell, Restart}
use Rattle.words.specs.declared.Success.TheVariants.{Said, Chose}
use Rattle.controller.specs.Machines.{CalledOn}
use Rattle.controller.proofs.Ends.{mapped}
use Rattle.controller.proofs.Controller.call.Goals as goal

pub returns-in-Tell : goal.returns-in-Tell
returns-in-Tell g c =
    rw c.in-Tell.is
    (subst (CalledOn (accepted g.C.ImageCheck.check) g.M.Memory.make (Tell c.in-Tell.byte) c.args.self.now c.args.memory.now c.receive.new.self c.receive.new.memory)
    (mapped Said c.receive.result c.map.result c.map.ensures.cases) c.receive.ensures)

pub returns-in-Restart : goal.returns-in-Restart
returns-in-Restart g c =
    rw c.in-Restart.is
    (subst (CalledOn (accepted g.C.ImageCheck.check) g.M.Memory.make (Restart c.in-Restart.inputs) c.args.self.now c.args.memory.now c.restart.new.self c.restart.new.memory)
    (mapped Chose c.restart.result c.map-in-Restart.result c.map-in-Restart.ensures.cases) c.restart.ensures.called)
