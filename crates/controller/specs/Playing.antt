-- Lists of calls played on a controller.
use Rattle.std.specs.Prelude.{◌≡◌, ℕ, Bool, List, map, Some, Ok, Err, Result}
use Rattle.memory.specs.Make.{Make}
use Rattle.layout.specs.declared.divided.Layout.{Layout}
use Rattle.rule.specs.Bus.{fresh}
use Rattle.rule.specs.Calls.{Machine}
use Rattle.rule.specs.Frames.{frames, framed}
use Rattle.rule.specs.Rule.{Step, History, Commissioned}
use Rattle.words.specs.declared.Call.{Call}
use Rattle.words.specs.declared.Phase.TheVariants.{Waiting}
use Rattle.words.specs.declared.Refusal.{Refusal}
use Rattle.words.specs.Outcomes.{Reply}
use Rattle.words.specs.declared.Turn.{Turn}
use Rattle.controller.specs.Machines.{machine, tested}
use Rattle.controller.specs.declared.Controller.{Controller}

-- the calls of a list of turns
abbrev pub calls : List (Turn ℕ Reply) → List (Call ℕ)
calls = map (λ t. t.call)

-- the turn that a step was
abbrev pub turn : {M : Type 0} {accepts : List ℕ → Bool} {make : Make M} → Step (framed accepts make) → Turn ℕ Reply
turn e = record { call = e.call; outcome = Some e.outcome }

-- the calls of the turns made one after the other: a history, whose outcomes have been filled in
pub record Played {M : Type 0} (accepts : List ℕ → Bool) (make : Make M) (before after : List (Turn ℕ Reply)) (m n : Machine (framed accepts make)) : Type 0 where
  pub steps : List (Step (framed accepts make))
  pub history : History m steps n
  pub turns : after ≡ map turn steps
  pub same : calls after ≡ calls before

-- a controller that was just commissioned
abbrev pub started : {M : Type 0} (accepts : List ℕ → Bool) (make : Make M) → Layout → M → Machine (framed accepts make)
started accepts make l m = record { control = fresh frames l Waiting; memory = m }

-- commissioning and then the calls; where commissioning refuses, no call is made, and memory and turns are as they were
abbrev pub Run : {M : Type 0} → (List ℕ → Bool) → Make M → Layout → (before after : List (Turn ℕ Reply)) → M → M → Result Controller Refusal → Type 0
Run accepts make l before after m n (Ok c) =
    Commissioned (started accepts make l m) × Played accepts make before after (started accepts make l m) (machine accepts make c n)
Run accepts make l before after m n (Err refusal) = (tested l (make.state m) ≡ Err refusal) × (after ≡ before) × (n ≡ m)
