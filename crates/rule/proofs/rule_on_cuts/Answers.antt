use Rattle.image.specs.Check.{accepted}
use Rattle.rule.specs.Calls.{engine}
use Rattle.rule.proofs.Runs.{rule}
use Rattle.rule.proofs.rule_on_cuts.Goals as goal

pub returns : goal.returns
returns g c =
    let accepts = accepted g.C.ImageCheck.check in
    rule (engine g.U.HostBus.bus accepts g.A.Memory.make) (engine g.V.HostBus.bus accepts g.B.Memory.make)
    g.U.HostBus.law g.met.A.Memory.laws g.V.HostBus.law g.met.B.Memory.laws
