-- The bus of frames: a byte at a time.
use Rattle.std.specs.Prelude.{◌≡◌, ℕ, ◌/◌, ◌%◌, ◌<◌, ◌≤◌, Bool, true, false, ◌↔◌, List, [], ◌∷◌, ◌++◌, length, slice_index, Some, None, Ok}
use Rattle.crc.specs.Sums.{ccitt}
use Rattle.memory.specs.Make.{Make}
use Rattle.rule.specs.Bus.{Control, Plan, Bus}
use Rattle.rule.specs.Calls.{Engine, engine, Machine}
use Rattle.rule.specs.Rule.{Step, Accepted, Reached}
use Rattle.rule.specs.Frame.{Verdict, more, wrong, good, judge}
use Rattle.rule.specs.Command.{Effect, obey, effect}
use Rattle.words.specs.declared.Answer.TheVariants.{Done}
use Rattle.words.specs.declared.Call.TheVariants.{Tell}
use Rattle.words.specs.declared.Success.TheVariants as Success
use Rattle.words.specs.declared.Phase.{Phase}
use Rattle.words.specs.declared.Phase.TheVariants.{Waiting, Listening, Running}
use Rattle.words.specs.Outcomes.{Reply}

-- a controller on frames: its packet is the list of bytes since the last answer
abbrev pub Receiver : Type 0
Receiver = Control (List ℕ)

abbrev pub is_listening : Phase → Bool
is_listening Waiting = false
is_listening Listening = true
is_listening Running = false

-- after an answer a header is expected
abbrev pub answers : Receiver → Effect → Plan (List ℕ) Reply
answers c e = record {
  changes = e.changes;
  next = record { layout = c.layout; phase = e.phase; packet = [] };
  says = Some e.answer;
}

-- a byte, by what the bytes since the last answer come to with it
abbrev pub hear : Receiver → Bool → List ℕ → Verdict → Plan (List ℕ) Reply
hear c can bytes more = record {
  changes = [];
  next = record { layout = c.layout; phase = c.phase; packet = bytes };
  says = None;
}
hear c can bytes (wrong a) = answers c (effect [] a)
hear c can bytes (good payload) = answers c (obey c.layout can payload)

-- the byte that ends a good frame with the command to jump
pub record JumpFrame (c : Receiver) (byte : ℕ) : Type 0 where
  pub rest : List ℕ
  pub frame : judge (c.packet ++ byte ∷ []) ≡ good (0x1C ∷ rest)

-- the bus of frames: its event is a received byte, heard while listening
abbrev pub frames : Bus
frames = record {
  Event = ℕ;
  Reply = Reply;
  Packet = List ℕ;
  empty = [];
  hears = λ c byte. is_listening c.phase;
  plan = λ c can byte. hear c can (c.packet ++ byte ∷ []) (judge (c.packet ++ byte ∷ []));
  Jump = JumpFrame;
}

-- a controller that hears frames
abbrev pub framed : {M : Type 0} → (List ℕ → Bool) → Make M → Engine M
framed = engine frames

-- a header, a length from 1 to 19, so many payload bytes, and their CRC-CCITT sum, low byte first
pub record GoodFrame (bytes payload : List ℕ) : Type 0 where
  pub short : 1 ≤ length payload
  pub long : length payload ≤ 19
  pub whole : bytes ≡ 0x80 ∷ length payload ∷ (payload ++ (ccitt payload % 256) ∷ (ccitt payload / 256) ∷ [])

-- what a receiver keeps is never a whole frame: more is to come
abbrev pub Unfinished : {M : Type 0} → (List ℕ → Bool) → Make M → Type 0
Unfinished accepts make = (n : Machine (framed accepts make)) → Reached n → judge n.control.packet ≡ more

-- with what is kept so, the bytes since the last answer are acted on exactly where they form a good frame
abbrev pub ActsOnGoodFrames : Type 0
ActsOnGoodFrames =
    (packet : List ℕ) (byte : ℕ) (payload : List ℕ) → judge packet ≡ more → ((i : ℕ) → slice_index (packet ++ byte ∷ []) i < 256)
    → (judge (packet ++ byte ∷ []) ≡ good payload) ↔ GoodFrame (packet ++ byte ∷ []) payload

-- a jump frame that is answered 0x00
pub record JumpAnswered {M : Type 0} {accepts : List ℕ → Bool} {make : Make M} (e : Step (framed accepts make)) : Type 0 where
  pub byte : ℕ
  pub call : e.call ≡ Tell byte
  pub frame : JumpFrame e.before.control byte
  pub answer : e.outcome ≡ Ok (Success.Said (Some Done))

-- on frames those are the accepted jumps
abbrev pub JumpsTold : {M : Type 0} → (List ℕ → Bool) → Make M → Type 0
JumpsTold accepts make = (e : Step (framed accepts make)) → Accepted e ↔ JumpAnswered e
