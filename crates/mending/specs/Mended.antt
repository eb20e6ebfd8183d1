-- What a restart does to a memory, told with its refusals.
use Rattle.std.specs.Prelude.{◌≡◌, ℕ, ◌*◌, true, false, List, ◌∷◌, Err, Result, nat_eq}
use Rattle.memory.specs.State.{size}
use Rattle.memory.specs.Change.{Change, erase}
use Rattle.memory.specs.Make.{Make}
use Rattle.memory.specs.Ran.{writes}
use Rattle.layout.specs.Areas.{part}
use Rattle.layout.specs.Areas.{size as whole_size}
use Rattle.layout.specs.declared.divided.Layout.{Layout}
use Rattle.rule.specs.Restart.{mends, restart_job}
use Rattle.rule.specs.Performed.{Performed}
use Rattle.words.specs.declared.Refusal.{Refusal}
use Rattle.words.specs.declared.Refusal.TheVariants.{WrongSize}

-- one segment copied over another
abbrev pub segment_copy : (from to : ℕ) → List ℕ → List Change
segment_copy from to bytes = erase to ∷ writes (512 * to) (part (512 * from) 512 bytes)

-- a memory of another size is refused and left as it was; in any other the changes of a restart are made in turn
pub data Mended {M : Type 0} (make : Make M) (l : Layout) (m n : M) (r : Result Unit Refusal) : Type 0 where
  mismatch : nat_eq (size (make.state m)) (whole_size l) ≡ false → n ≡ m → r ≡ Err WrongSize → Mended make l m n r
  done : nat_eq (size (make.state m)) (whole_size l) ≡ true
      → Performed make (mends l (make.state m).bytes) (restart_job l) tt m n r → Mended make l m n r
