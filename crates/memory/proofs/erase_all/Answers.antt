use Rattle.std.proofs.Common.{inr, arith}
use Rattle.std.proofs.lemmas.Result.{err_from_is_err_and}
use Rattle.memory.proofs.Turns.{leads_next, leads_stop, leads_end, erases_next, erases_end}
use Rattle.memory.proofs.Effects.{finished_low, cleared}
use Rattle.memory.proofs.erase_all.Goals as goal

pub loop-i-preserved : goal.loop-i-preserved
loop-i-preserved g c =
    let h = c.in_ok-erase.ensures in (
      leads_next (erases_next c.args.segment c.args.count c.loop-i.i (omega arith)) c.loop-i.invariant.0 h,
      inr (omega (arith, finished_low g.met.M.Memory.laws h)),
    )

pub returns-in_err-erase : goal.returns-in_err-erase
returns-in_err-erase g c =
    let p = err_from_is_err_and c.from_residual.result c.from_residual.ensures.1 in
    rw (p.1, p.2)
    (cleared g.met.M.Memory.laws c.args.segment c.args.count
    (leads_stop _ (erases_next c.args.segment c.args.count c.loop-i.i (omega arith)) c.loop-i.invariant.0 c.in_err-erase.ensures))

pub returns : goal.returns
returns g c =
    cleared g.met.M.Memory.laws c.args.segment c.args.count
    (leads_end (erases_end c.args.segment c.args.count c.loop-i.i (omega arith)) c.loop-i.invariant.0)
