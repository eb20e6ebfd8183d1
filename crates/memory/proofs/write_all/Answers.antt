use Rattle.std.proofs.Common.{inr, arith}
use Rattle.std.proofs.lemmas.Result.{err_from_is_err_and}
use Rattle.memory.proofs.Turns.{leads_next, leads_stop, leads_end, writes_next, writes_end}
use Rattle.memory.proofs.Effects.{finished_low, wrote}
use Rattle.memory.proofs.write_all.Goals as goal

pub loop-i-preserved : goal.loop-i-preserved
loop-i-preserved g c =
    let h = c.in_ok-write.ensures in (
      leads_next (writes_next c.args.place c.args.bytes.now c.loop-i.i (omega arith)) c.loop-i.invariant.0 h,
      inr (omega (arith, finished_low g.met.M.Memory.laws h)),
    )

pub returns-in_err-write : goal.returns-in_err-write
returns-in_err-write g c =
    let p = err_from_is_err_and c.from_residual.result c.from_residual.ensures.1 in
    rw (p.1, p.2)
    (wrote g.met.M.Memory.laws c.args.place c.args.bytes.now
    (leads_stop _ (writes_next c.args.place c.args.bytes.now c.loop-i.i (omega arith)) c.loop-i.invariant.0 c.in_err-write.ensures))

pub returns : goal.returns
returns g c =
    wrote g.met.M.Memory.laws c.args.place c.args.bytes.now
    (leads_end (writes_end c.args.place c.args.bytes.now c.loop-i.i (omega arith)) c.loop-i.invariant.0)
