-- What a restart changes, and what it chooses.
use Rattle.std.specs.Prelude.{ℕ, zero, suc, ◌+◌, ◌*◌, ◌%◌, Bool, true, cond, ◌&&◌, List, [], ◌∷◌, ◌++◌, ◌==◌, nat_lt}
use Rattle.memory.specs.Change.{Change, erase}
use Rattle.memory.specs.Ran.{writes, erases}
use Rattle.image.specs.Startable.{startable}
use Rattle.layout.specs.Areas.{part, mark, application_place}
use Rattle.layout.specs.declared.divided.Layout.{Layout}
use Rattle.words.specs.declared.Inputs.{Inputs}
use Rattle.words.specs.declared.Job.{Job}
use Rattle.words.specs.declared.Job.TheVariants.{Copy, MarkErase, DownloadErase}
use Rattle.words.specs.declared.Phase.{Phase}
use Rattle.words.specs.declared.Phase.TheVariants.{Listening, Running}

-- the i-th download segment of these bytes copied over the i-th application segment
abbrev pub copy : Layout → List ℕ → ℕ → List Change
copy l bytes i = erase (1 + l.k + i) ∷ writes (512 * (1 + l.k + i)) (part (512 * (1 + i)) 512 bytes)

-- n segments copied one after the other, from the i-th up
abbrev pub copies : Layout → List ℕ → ℕ → ℕ → List Change
copies l bytes i zero = []
copies l bytes i (suc n) = copy l bytes i ++ copies l bytes (i + 1) n

-- the status segment erased, and the mark with it, then the download segments from the lowest up
abbrev pub clears : Layout → List Change
clears l = erase 0 ∷ erases 1 l.k

-- the changes of a restart: an approved image is copied, and any mark goes
abbrev pub mends : Layout → List ℕ → List Change
mends l bytes =
    cond (mark bytes == 0x5A) (copies l bytes 0 l.k) [] ++ cond (mark bytes == 0xFF) [] (clears l)

-- the job that a lost change of a restart belonged to, by its first place
abbrev pub restart_job : Layout → ℕ → Job
restart_job l place = cond (place == 0) MarkErase (cond (nat_lt place (application_place l)) DownloadErase Copy)

-- a restart has to listen: the pin is low, or password and bit 0 of the status word ask for it
abbrev pub forced : Inputs → Bool
forced i = cond i.pin_high (i.password == 0xC0DE && i.status % 2 == 1) true

-- the phase that a restart chooses, by the application area that it leaves
abbrev pub choice : (List ℕ → Bool) → Inputs → List ℕ → Phase
choice accepts i area = cond (forced i) Listening (cond (startable accepts area) Running Listening)
