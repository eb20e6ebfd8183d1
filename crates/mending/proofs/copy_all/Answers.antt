use Rattle.std.proofs.Common.{rules}
use Rattle.mending.proofs.Copying.{copying_more, copying_stopped, copying_all}
use Rattle.mending.proofs.copy_all.Goals as goal

pub returns-in_err-copy_segment : goal.returns-in_err-copy_segment
returns-in_err-copy_segment g c = search (rules, copying_stopped g.met.M.Memory.laws c.args.layout.now c.args.memory.now c.requires c.loop-i.i c.k-k.result c.k-k.ensures c.loop-i-test.true c.loop-i.memory c.loop-i.invariant)

pub loop-i-preserved : goal.loop-i-preserved
loop-i-preserved g c =
    copying_more g.met.M.Memory.laws c.args.layout.now c.args.memory.now c.requires c.loop-i.i c.k-k.result c.k-k.ensures c.loop-i-test.true c.loop-i.memory c.loop-i.invariant
    c.copy_segment.new.memory c.in_ok-copy_segment.ensures

pub returns : goal.returns
returns g c = search (rules, copying_all)
