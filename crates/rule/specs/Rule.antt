-- The rule on cuts: what a controller runs after its supply has failed, over every list of calls.
use Rattle.std.specs.Prelude.{◌≡◌, ℕ, true, ◌⊎◌, List, [], ◌∷◌, Ok, Err}
use Rattle.image.specs.Startable.{startable}
use Rattle.layout.specs.Areas.{mark}
use Rattle.rule.specs.Bus.{fresh}
use Rattle.rule.specs.Calls.{Engine, Machine, layout, bytes, fits, downloaded, applied, booted, Called}
use Rattle.words.specs.declared.Call.{Call}
use Rattle.words.specs.declared.Inputs.{Inputs}
use Rattle.words.specs.declared.Job.{Job}
use Rattle.words.specs.declared.Success.{Success}
use Rattle.words.specs.Outcomes.{Outcome}
use Rattle.words.specs.declared.Phase.{Phase}
use Rattle.words.specs.declared.Phase.TheVariants.{Waiting, Running}
use Rattle.words.specs.declared.Refusal.TheVariants.{SupplyLost}

-- none of a list
abbrev pub None : {X : Type 0} → (X → Type 0) → List X → Type 0
None P [] = Unit {0}
None P (x ∷ xs) = (P x → ⊥) × None P xs

-- one of a list
abbrev pub Some : {X : Type 0} → (X → Type 0) → List X → Type 0
Some P [] = ⊥
Some P (x ∷ xs) = P x ⊎ Some P xs

-- an event of the bus was carried out
abbrev pub Said : {Reply : Type 0} → Outcome Reply → Type 0
Said {Reply} o = (r : Reply) × (o ≡ Ok (Success.Said r))

-- a restart was carried out
abbrev pub Chose : {Reply : Type 0} → Outcome Reply → Type 0
Chose o = (p : Phase) × (o ≡ Ok (Success.Chose p))

-- the supply was lost
abbrev pub Lost : {Reply : Type 0} → Outcome Reply → Type 0
Lost o = (place : ℕ) × (job : Job) × (o ≡ Err (SupplyLost place job))

-- the call is a restart
abbrev pub Restarts : {Event : Type 0} → Call Event → Type 0
Restarts c = (i : Inputs) × (c ≡ Call.Restart i)

-- one call as it came out, refused or not
pub record Step {M : Type 0} (E : Engine M) : Type 0 where
  pub call : Call E.bus.Event
  pub before : Machine E
  pub after : Machine E
  pub outcome : Outcome E.bus.Reply
  pub called : Called call before after outcome

module _ {M : Type 0} {E : Engine M} where
  -- the command to jump, heard, which found the download area startable
  pub record Jump (e : Step E) : Type 0 where
    pub event : E.bus.Event
    pub call : e.call ≡ Call.Tell event
    pub heard : E.bus.hears e.before.control event ≡ true
    pub command : E.bus.Jump e.before.control event
    pub can : startable E.accepts (downloaded e.before) ≡ true

  -- a jump whose mark write finished
  abbrev pub Accepted : Step E → Type 0
  Accepted e = Jump e × Said e.outcome

  -- a jump that lost its supply
  abbrev pub Cut : Step E → Type 0
  Cut e = Jump e × Lost e.outcome

  -- the approved image of a jump
  abbrev pub image : Step E → List ℕ
  image e = downloaded e.before

  -- a restart that finished
  abbrev pub Finished : Step E → Type 0
  Finished e = Restarts e.call × Chose e.outcome

  -- just commissioned: the sizes agree, the mark is erased, and the controller waits with an empty packet
  pub record Commissioned (m : Machine E) : Type 0 where
    pub size : fits m ≡ true
    pub mark : mark (bytes m) ≡ 0xFF
    pub waits : m.control ≡ fresh E.bus (layout m) Waiting

  -- calls one after the other
  abbrev pub History : Machine E → List (Step E) → Machine E → Type 0
  History m [] n = n ≡ m
  History m (e ∷ es) n = (e.before ≡ m) × History e.after es n

  -- any calls since commissioning
  pub record Reached (n : Machine E) : Type 0 where
    pub start : Machine E
    pub calls : List (Step E)
    pub commissioned : Commissioned start
    pub history : History start calls n

  -- just commissioned, or a restart has just finished
  abbrev pub Rested : Machine E → Type 0
  Rested m = Commissioned m ⊎ ((e : Step E) × Reached e.before × Finished e × (m ≡ e.after))

module _ {M : Type 0} (E : Engine M) where
  -- an accepted jump, and a later restart
  pub record Update : Type 0 where
    pub jump : Step E
    pub between : List (Step E)
    pub restart : Step E
    pub reached : Reached jump.before
    pub accepted : Accepted jump
    pub history : History jump.after between restart.before

  -- from commissioning or a finished restart, with no jump accepted, to the next finished restart
  pub record Lull : Type 0 where
    pub since : Machine E
    pub between : List (Step E)
    pub restart : Step E
    pub rested : Rested since
    pub history : History since between restart.before
    pub none_accepted : None Accepted between
    pub none_finished : None Finished between
    pub finished : Finished restart

module _ {M : Type 0} {E : Engine M} where
  -- the restart is the first that finished after the jump
  abbrev pub FirstFinished : Update E → Type 0
  FirstFinished u = None Finished u.between × Finished u.restart

  -- the restart is the first after the jump, and its supply does not fail
  abbrev pub FirstUncut : Update E → Type 0
  FirstUncut u =
      None (λ e. Restarts e.call) u.between × Restarts u.restart.call × (Lost u.restart.outcome → ⊥)

  -- the restart has finished with the approved image in place and the mark erased
  pub record Updated (u : Update E) : Type 0 where
    pub finished : Finished u.restart
    pub image : applied u.restart.after ≡ image u.jump
    pub mark : mark (bytes u.restart.after) ≡ 0xFF

  -- the application area is as it was or, only where a jump was cut, the whole approved image
  abbrev pub Kept : Lull E → Type 0
  Kept u =
      let now = applied u.restart.after in
      (now ≡ applied u.since) ⊎ Some (λ e. Cut e × (now ≡ image e)) u.between

module _ {M N : Type 0} {E : Engine M} {F : Engine N} (u : Update E) (v : Update F) where
  -- equal layouts and equal bytes just after the jumps
  pub record Twins : Type 0 where
    pub layouts : layout u.jump.after ≡ layout v.jump.after
    pub bytes : bytes u.jump.after ≡ bytes v.jump.after

  -- one end of both
  pub record Same : Type 0 where
    pub first : Updated u
    pub second : Updated v
    pub images : image u.jump ≡ image v.jump
    pub boots : booted u.restart.after ≡ booted v.restart.after
    pub choice : (i : Inputs) → u.restart.call ≡ Call.Restart i → v.restart.call ≡ Call.Restart i
        → (p : Phase) → u.restart.outcome ≡ Ok (Success.Chose p) → v.restart.outcome ≡ Ok (Success.Chose p)

-- what holds of each controller alone
pub record Safe {M : Type 0} (E : Engine M) : Type 0 where
  -- without an accepted jump the application area stands
  pub lulls : (u : Lull E) → Kept u
  -- an application area is started only if it is startable
  pub started : (e : Step E) → Reached e.before → e.outcome ≡ Ok (Success.Chose Running)
      → startable E.accepts (applied e.after) ≡ true
  -- no boot byte ever changes
  pub boots : (n : Machine E) (r : Reached n) → booted n ≡ booted r.start

-- any two controllers, the first with a supply that may fail at any change
pub record Rule {M N : Type 0} (E : Engine M) (F : Engine N) : Type 0 where
  -- with one image check, an update comes out as one whose supply did not fail
  pub updates : E.accepts ≡ F.accepts → (u : Update E) (v : Update F)
      → FirstFinished u → FirstUncut v → Twins u v → Same u v
  pub first : Safe E
  pub second : Safe F
