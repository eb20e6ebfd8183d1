use Rattle.std.proofs.Common.{◌∙◌}
use Rattle.std.proofs.lemmas.List.{take_at}
use Rattle.bench.proofs.play_script.Goals as goal

pub returns-in-Flash-clause-turns : goal.returns-in-Flash-clause-turns
returns-in-Flash-clause-turns c =
    rw (c.in-Flash.is, take_at c.play.new.turns _ _ (c.play.auto.turns ∙ c.as_mut_slice-turns.ensures.len), ← c.as_slice-cuts.ensures.value, ← c.as_mut_slice-turns.ensures.value) c.play.ensures

pub returns-in-Fram-clause-turns : goal.returns-in-Fram-clause-turns
returns-in-Fram-clause-turns c =
    rw (c.in-Fram.is, take_at c.play-in-Fram.new.turns _ _ (c.play-in-Fram.auto.turns ∙ c.as_mut_slice-turns.ensures.len), ← c.as_slice-cuts.ensures.value, ← c.as_mut_slice-turns.ensures.value) c.play-in-Fram.ensures
