-- How calls come out.
use Rattle.std.specs.Prelude.{Option, Result}
use Rattle.words.specs.declared.Answer.{Answer}
use Rattle.words.specs.declared.Refusal.{Refusal}
use Rattle.words.specs.declared.Success.{Success}

-- a call gives something, or it is refused
abbrev pub Outcome : Type 0 → Type 0
Outcome R = Result (Success R) Refusal

-- the bus of frames gives an answer to a byte, or none yet
abbrev pub Reply : Type 0
Reply = Option Answer
