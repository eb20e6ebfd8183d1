-- A bus, by which a host speaks to a controller, and the law that every bus shows.
use Rattle.std.specs.Prelude.{◌≡◌, Bool, true, ◌⊎◌, List, [], ◌∷◌}
use Rattle.memory.specs.Change.{Change, write}
use Rattle.memory.specs.Ran.{Within}
use Rattle.layout.specs.Areas.{download_place, application_place}
use Rattle.layout.specs.declared.divided.Layout.{Layout}
use Rattle.words.specs.declared.Phase.{Phase}
use Rattle.words.specs.declared.Phase.TheVariants.{Waiting, Listening}

-- what a controller keeps: its layout, its phase, and what has come in of an unfinished packet
pub record Control (Packet : Type 0) : Type 0 where
  pub layout : Layout
  pub phase : Phase
  pub packet : Packet

-- what an event is to do: its changes in order, and what it leaves and says once they have all finished
pub record Plan (Packet Reply : Type 0) : Type 0 where
  pub changes : List Change
  pub next : Control Packet
  pub says : Reply

-- the events of a bus, what it says to them, what it keeps of an unfinished packet; which events are heard; the plan of each, by whether
-- the download area is startable; and which events are the host's command to jump
pub record Bus : Type 1 where
  pub Event : Type 0
  pub Reply : Type 0
  pub Packet : Type 0
  pub empty : Packet
  pub hears : Control Packet → Event → Bool
  pub plan : Control Packet → Bool → Event → Plan Packet Reply
  pub Jump : Control Packet → Event → Type 0

-- a phase with no packet begun
abbrev pub fresh : (bus : Bus) → Layout → Phase → Control bus.Packet
fresh bus l phase = record { layout = l; phase = phase; packet = bus.empty }

module _ {Packet Reply : Type 0} (c : Control Packet) (p : Plan Packet Reply) where
  -- a listening controller marks its download area as approved, and then waits
  pub record Approves : Type 0 where
    pub listening : c.phase ≡ Listening
    pub changes : p.changes ≡ write 0 0x5A ∷ []
    pub waits : p.next.phase ≡ Waiting

  -- nothing changes and nobody begins to listen, or a listening controller changes its download area
  pub data Harmless : Type 0 where
    idle : p.changes ≡ [] → (p.next.phase ≡ Listening → c.phase ≡ Listening) → Harmless
    fills : c.phase ≡ Listening → Within download_place (application_place c.layout) p.changes → Harmless

-- the command to jump approves a startable download area, whatever else is heard is harmless, and no event changes the layout
pub record Law (bus : Bus) : Type 0 where
  pub layout : (c : Control bus.Packet) (can : Bool) (e : bus.Event) → (bus.plan c can e).next.layout ≡ c.layout
  pub approval : (c : Control bus.Packet) (e : bus.Event) → bus.hears c e ≡ true → bus.Jump c e → Approves c (bus.plan c true e)
  pub otherwise : (c : Control bus.Packet) (can : Bool) (e : bus.Event) → bus.hears c e ≡ true
      → (bus.Jump c e × (can ≡ true)) ⊎ Harmless c (bus.plan c can e)
