-- A make of memory, and what each has to show.
use Rattle.memory.specs.State.{State, Lawful}
use Rattle.memory.specs.Change.{Change, End, Changed, Restored}

-- a make of memory: what is known of each memory of it, and how a change and the return of the supply come out. They are
-- relations, so that a make may leave open which changes are torn, and what those leave
pub record Make (M : Type 0) : Type 1 where
  pub state : M → State
  pub changes : Change → M → M → End → Type 0
  pub restores : M → M → Type 0

-- what every make of memory shows
pub record Laws {M : Type 0} (make : Make M) : Type 0 where
  pub change : (c : Change) (m n : M) (r : End) → make.changes c m n r → Changed c (make.state m) (make.state n) r
  pub restore : (m n : M) → make.restores m n → Restored (make.state m) (make.state n)
  pub lawful : (m : M) → Lawful (make.state m)
