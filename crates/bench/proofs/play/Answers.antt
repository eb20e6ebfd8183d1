use Rattle.std.proofs.Common.{ap, ◌∙◌, arith}
use Rattle.bench.proofs.Blanks.{blank_part, benched}
use Rattle.bench.proofs.play.Goals as goal

pub returns : goal.returns
returns g c =
    let m = c.new-memory.result in
    let new = c.new-memory.ensures in
    benched g.C.Cells.rules c.args.layout c.args.cuts.now c.args.turns.now c.run.new.turns m c.run.new.memory
    (record { over = ap (λ x. x.now) new.over ∙ blank_part c.args.layout 53760 c.size.result (omega arith) c.size.ensures; with = ap (λ x. x.now) new.with; finished = new.finished; on = new.on }) c.run.result c.run.ensures
