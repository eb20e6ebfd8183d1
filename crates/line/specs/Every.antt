-- The lines of a script that was played.
use Rattle.std.specs.Prelude.{ℕ, ◌+◌, List, [], ◌∷◌, ◌++◌, Some, None, Option, Ok, Err, Result}
use Rattle.words.specs.declared.Refusal.{Refusal}
use Rattle.words.specs.declared.Turn.{Turn}
use Rattle.words.specs.Outcomes.{Outcome, Reply}
use Rattle.line.specs.One.{line_bytes}

-- after the last turn: nothing, or the refusal of the ending
abbrev pub last_line : ℕ → Result Unit Refusal → List ℕ
last_line number (Ok done) = []
last_line number (Err why) = line_bytes number (Err why)

-- the line of a turn that was played, and those after it; a turn that was not played ends them
abbrev pub then_lines : ℕ → Option (Outcome Reply) → List ℕ → List ℕ
then_lines number None rest = []
then_lines number (Some outcome) rest = line_bytes number outcome ++ rest

-- a line for each turn, numbered from a number up, then the last line
abbrev pub lines_from : ℕ → List (Turn ℕ Reply) → Result Unit Refusal → List ℕ
lines_from number [] ending = last_line number ending
lines_from number (turn ∷ turns) ending = then_lines number turn.outcome (lines_from (number + 1) turns ending)
