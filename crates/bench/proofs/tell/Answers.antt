use Rattle.std.proofs.Common.{refl}
use Rattle.std.proofs.lemmas.Result.{IfOk-weaker}
use Rattle.bench.proofs.tell.Goals as goal

pub returns-in-Ok : goal.returns-in-Ok
returns-in-Ok c =
    let s = c.in-Ok.script in
    let lines = simp (c.play_script.ensures.ending, c.as_slice.ensures.value) at c.lines.ensures in
    rw c.in-Ok.ensures (IfOk-weaker c.lines.result _ _ (λ v e. record { layout = s.layout; k = refl; b = refl; turns = _; benched = c.play_script.ensures.turns; lines = e }) lines)
