-- One call of a controller: what it may leave, and how it may come out.
use Rattle.std.specs.Prelude.{◌≡◌, ℕ, Bool, true, false, List, length, ◌==◌, Ok, Err}
use Rattle.memory.specs.Change.{Change}
use Rattle.memory.specs.Make.{Make}
use Rattle.memory.specs.Ran.{Ran}
use Rattle.memory.specs.declared.Fault.TheVariants as Fault
use Rattle.image.specs.Startable.{startable}
use Rattle.layout.specs.Areas.{size, download, application, boot}
use Rattle.layout.specs.declared.divided.Layout.{Layout}
use Rattle.rule.specs.Bus.{Control, Bus, fresh}
use Rattle.rule.specs.Restart.{mends, restart_job, choice}
use Rattle.words.specs.declared.Call.{Call}
use Rattle.words.specs.declared.Call.TheVariants.{Tell, Restart}
use Rattle.words.specs.declared.Inputs.{Inputs}
use Rattle.words.specs.declared.Job.{Job}
use Rattle.words.specs.declared.Job.TheVariants.{HostCommand}
use Rattle.words.specs.Outcomes.{Outcome}
use Rattle.words.specs.declared.Success.TheVariants.{Said, Chose}
use Rattle.words.specs.declared.Phase.TheVariants.{Waiting}
use Rattle.words.specs.declared.Refusal.TheVariants.{SupplyLost, WrongSize, NotListening}

-- what a controller is made of: its bus, its image check by what that accepts, and its make of memory
pub record Engine (M : Type 0) : Type 1 where
  pub bus : Bus
  pub accepts : List ℕ → Bool
  pub make : Make M

-- the three put together
abbrev pub engine : {M : Type 0} → Bus → (List ℕ → Bool) → Make M → Engine M
engine bus accepts make = record { bus = bus; accepts = accepts; make = make }

-- a controller and its memory
pub record Machine {M : Type 0} (E : Engine M) : Type 0 where
  pub control : Control E.bus.Packet
  pub memory : M

module _ {M : Type 0} {E : Engine M} where
  -- the layout that a controller keeps
  abbrev pub layout : Machine E → Layout
  layout m = m.control.layout

  -- the bytes of its memory
  abbrev pub bytes : Machine E → List ℕ
  bytes m = (E.make.state m.memory).bytes

  -- the memory has the size of the layout
  abbrev pub fits : Machine E → Bool
  fits m = length (bytes m) == size (layout m)

  -- its download area
  abbrev pub downloaded : Machine E → List ℕ
  downloaded m = download (layout m) (bytes m)

  -- its application area
  abbrev pub applied : Machine E → List ℕ
  applied m = application (layout m) (bytes m)

  -- its boot area
  abbrev pub booted : Machine E → List ℕ
  booted m = boot (layout m) (bytes m)

  -- how a list of changes may come out: all have finished, or the supply was lost at a place and the controller waits
  pub data Made (cs : List Change) (job : ℕ → Job) (m n : Machine E) (o : Outcome E.bus.Reply)
      (next : Control E.bus.Packet) (says : Outcome E.bus.Reply) : Type 0 where
    whole : Ran E.make cs m.memory n.memory (Ok tt)
        → n.control ≡ next → o ≡ says → Made cs job m n o next says
    cut : (place : ℕ) → Ran E.make cs m.memory n.memory (Err (Fault.SupplyLost place))
        → n.control ≡ fresh E.bus (layout m) Waiting → o ≡ Err (SupplyLost place (job place)) → Made cs job m n o next says

  -- an event, by its plan
  abbrev pub Told : E.bus.Event → Machine E → Machine E → Outcome E.bus.Reply → Type 0
  Told e m n o =
      let p = E.bus.plan m.control (startable E.accepts (downloaded m)) e in
      Made p.changes (λ _. HostCommand) m n o p.next (Ok (Said p.says))

  -- a restart, once the supply is back
  abbrev pub Restarted : Inputs → Machine E → Machine E → Outcome E.bus.Reply → Type 0
  Restarted i m n o =
      let phase = choice E.accepts i (application (layout m) (bytes n)) in
      Made (mends (layout m) (bytes m)) (restart_job (layout m)) m n o (fresh E.bus (layout m) phase) (Ok (Chose phase))

  -- a call is heard: a restart always, an event if the bus says so
  abbrev pub heard : Call E.bus.Event → Machine E → Bool
  heard (Tell e) m = E.bus.hears m.control e
  heard (Restart i) m = true

  -- a call that is heard, of a controller whose memory has the right size
  abbrev pub Did : Call E.bus.Event → Machine E → Machine E → Outcome E.bus.Reply → Type 0
  Did (Tell e) m n o = Told e m n o
  Did (Restart i) m n o = (w : M) × E.make.restores m.memory w × Restarted i (record { control = m.control; memory = w }) n o

  -- how a call may come out, in the order of the tests; a refused one leaves everything as it was
  pub data Called (call : Call E.bus.Event) (m n : Machine E) (o : Outcome E.bus.Reply) : Type 0 where
    mismatch : fits m ≡ false → n ≡ m → o ≡ Err WrongSize → Called call m n o
    unheard : fits m ≡ true → heard call m ≡ false → n ≡ m → o ≡ Err NotListening → Called call m n o
    did : fits m ≡ true → heard call m ≡ true → Did call m n o → Called call m n o
