-- Commands: what a good payload asks for, what it changes and what it answers.
use Rattle.std.specs.Prelude.{ℕ, ◌+◌, ◌-◌, ◌/◌, ◌%◌, Bool, cond, ◌&&◌, List, [], ◌∷◌, length, ◌==◌, nat_le, nat_lt}
use Rattle.memory.specs.Change.{Change, write, erase}
use Rattle.memory.specs.Ran.{writes, erases}
use Rattle.image.specs.Sums.{word}
use Rattle.layout.specs.Areas.{address, application_place, application_size, download_place}
use Rattle.layout.specs.declared.divided.Layout.{Layout}
use Rattle.words.specs.declared.Answer.{Answer}
use Rattle.words.specs.declared.Answer.TheVariants.{Done, InvalidParams, IncorrectCommand, Version}
use Rattle.words.specs.declared.Phase.{Phase}
use Rattle.words.specs.declared.Phase.TheVariants.{Waiting, Listening}

-- what a command does: its changes, its answer once they have finished, and the phase after the answer
pub record Effect : Type 0 where
  pub changes : List Change
  pub answer : Answer
  pub phase : Phase

-- changes, then an answer, and the host is listened to again
abbrev pub effect : List Change → Answer → Effect
effect cs a = record { changes = cs; answer = a; phase = Listening }

-- changes that are made only where they are allowed
abbrev pub allowed : Bool → List Change → Effect
allowed fine cs = cond fine (effect cs Done) (effect [] InvalidParams)

-- ERASE_SEGMENT: the address starts a segment of the application area, and the matching download segment is erased
abbrev pub erase_segment : Layout → ℕ → Effect
erase_segment l from =
    let base = address l (application_place l) in
    let offset = from - base in
    allowed (nat_le base from && (nat_lt offset (application_size l) && offset % 512 == 0)) (erase (1 + offset / 512) ∷ [])

-- RX_DATA_BLOCK: a block of at least one byte, wholly inside the application area's addresses, goes to the matching download places
abbrev pub write_block : Layout → ℕ → List ℕ → Effect
write_block l from block =
    let base = address l (application_place l) in
    let offset = from - base in
    allowed (nat_le base from && (nat_lt 0 (length block) && nat_le (offset + length block) (application_size l))) (writes (download_place + offset) block)

-- JUMP2APP: a startable download area is approved, and the controller waits in either case
abbrev pub jump : Bool → Effect
jump can = record { changes = cond can (write 0 0x5A ∷ []) []; answer = cond can Done InvalidParams; phase = Waiting }

-- an address, low byte first, and the rest of the payload
abbrev pub at_address : List ℕ → (ℕ → List ℕ → Effect) → Effect
at_address [] f = effect [] InvalidParams
at_address (low ∷ []) f = effect [] InvalidParams
at_address (low ∷ high ∷ rest) f = f (word low high) rest

-- the commands by their first byte; `can` says whether the download area is startable. A byte that a command has no use for is ignored
abbrev pub obey : Layout → Bool → List ℕ → Effect
obey l can [] = effect [] IncorrectCommand
obey l can (command ∷ rest) =
    cond (command == 0x12) (at_address rest (λ from _. erase_segment l from))
    (cond (command == 0x15) (effect (erases 1 l.k) Done)
    (cond (command == 0x10) (at_address rest (write_block l))
    (cond (command == 0x19) (effect [] Version)
    (cond (command == 0x1C) (jump can)
    (effect [] IncorrectCommand)))))
