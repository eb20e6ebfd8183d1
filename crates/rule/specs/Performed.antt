-- A list of changes made in turn, and the result that tells how it ended.
use Rattle.std.specs.Prelude.{◌≡◌, ℕ, List, Ok, Err, Result}
use Rattle.memory.specs.Change.{Change, End}
use Rattle.memory.specs.Make.{Make}
use Rattle.memory.specs.Ran.{Ran}
use Rattle.memory.specs.declared.Fault.{Fault}
use Rattle.memory.specs.declared.Fault.TheVariants as F
use Rattle.words.specs.declared.Job.{Job}
use Rattle.words.specs.declared.Refusal.{Refusal}
use Rattle.words.specs.declared.Refusal.TheVariants.{SupplyLost, PastEnd}

-- a change's refusal as a call tells it: a lost supply comes with the job that its place belongs to
abbrev pub refusing : (ℕ → Job) → Fault → Refusal
refusing job (F.SupplyLost place) = SupplyLost place (job place)
refusing job F.PastEnd = PastEnd

-- a value where all changes finished, or the refusal
abbrev pub ended : {X : Type 0} → (ℕ → Job) → X → End → Result X Refusal
ended job x (Ok _) = Ok x
ended job x (Err f) = Err (refusing job f)

-- the changes were made in turn until one was refused, and the result says so
pub record Performed {M X : Type 0} (make : Make M) (cs : List Change) (job : ℕ → Job) (x : X) (m n : M) (r : Result X Refusal) : Type 0 where
  pub end : End
  pub ran : Ran make cs m n end
  pub told : r ≡ ended job x end
