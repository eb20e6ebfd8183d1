-- A controller beside its memory, in the words of its calls.
use Rattle.std.specs.Prelude.{◌≡◌, ℕ, Bool, true, false, cond, List, Ok, Err, Result, ◌==◌}
use Rattle.memory.specs.State.{State, size}
use Rattle.memory.specs.Make.{Make}
use Rattle.layout.specs.Areas.{size as whole_size, mark}
use Rattle.layout.specs.declared.divided.Layout.{Layout}
use Rattle.receiver.specs.Packet.{packet}
use Rattle.rule.specs.Bus.{fresh}
use Rattle.rule.specs.Calls.{Machine, Called}
use Rattle.rule.specs.Frames.{Receiver, frames, framed}
use Rattle.words.specs.declared.Call.{Call}
use Rattle.words.specs.Outcomes.{Outcome, Reply}
use Rattle.words.specs.declared.Success.TheVariants.{Said, Chose}
use Rattle.words.specs.declared.Phase.{Phase}
use Rattle.words.specs.declared.Phase.TheVariants.{Waiting}
use Rattle.words.specs.declared.Refusal.{Refusal}
use Rattle.words.specs.declared.Refusal.TheVariants.{BadLayout, SupplyLost, PastEnd, WrongSize, MarkNotErased, NotListening, MalformedInput}
use Rattle.controller.specs.declared.Controller.{Controller}

-- what a controller keeps: its layout, its phase, and the bytes since the last answer
abbrev pub control : Controller → Receiver
control c = record { layout = c.layout; phase = c.phase; packet = packet c.receiver }

-- a controller and its memory
abbrev pub machine : {M : Type 0} (accepts : List ℕ → Bool) (make : Make M) → Controller → M → Machine (framed accepts make)
machine accepts make c m = record { control = control c; memory = m }

-- a call of a controller c with a memory m, which become d and n
abbrev pub CalledOn : {M : Type 0} → (List ℕ → Bool) → Make M → Call ℕ → Controller → M → Controller → M → Outcome Reply → Type 0
CalledOn accepts make call c m d n = Called call (machine accepts make c m) (machine accepts make d n)

-- how receiving a byte came out
abbrev pub said : Result Reply Refusal → Outcome Reply
said (Ok reply) = Ok (Said reply)
said (Err refusal) = Err refusal

-- how a restart came out
abbrev pub chose : Result Phase Refusal → Outcome Reply
chose (Ok phase) = Ok (Chose phase)
chose (Err refusal) = Err refusal

-- what commissioning answers, in the order of its tests
abbrev pub tested : Layout → State → Result Unit Refusal
tested l s = cond (size s == whole_size l) (cond (mark s.bytes == 0xFF) (Ok tt) (Err MarkNotErased)) (Err WrongSize)

-- what it makes of a controller c: with the new layout it waits and keeps no byte, or it is the one that it was
abbrev pub TakenOn : Layout → Controller → Controller → Result Unit Refusal → Type 0
TakenOn l c d (Ok _) = control d ≡ fresh frames l Waiting
TakenOn l c d (Err _) = d ≡ c

-- the refusals that a restart has; unless the memory has another size, it tells a lost supply exactly where the supply is off as it ends
abbrev pub SupplyTold : Result Phase Refusal → State → Type 0
SupplyTold (Ok phase) s = s.on ≡ true
SupplyTold (Err BadLayout) s = ⊥
SupplyTold (Err (SupplyLost place job)) s = s.on ≡ false
SupplyTold (Err PastEnd) s = ⊥
SupplyTold (Err WrongSize) s = Unit {0}
SupplyTold (Err MarkNotErased) s = ⊥
SupplyTold (Err NotListening) s = ⊥
SupplyTold (Err MalformedInput) s = ⊥
