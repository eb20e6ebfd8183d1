-- What one call leaves, in the words of the rule.
use Rattle.std.proofs.Common.{◌≡◌, ℕ, ◌+◌, ◌*◌, ◌≤◌, Bool, true, ◌⊎◌, List, [], ◌∷◌, length, Ok, sym, refl, ap, ◌∙◌, subst, inl, inr, ⊎_elim, arith, Err}
use Rattle.std.proofs.lemmas.Bool.{eq-eqb}
use Rattle.memory.specs.Change.{Change, write, End}
use Rattle.memory.specs.Make.{Laws}
use Rattle.memory.specs.Ran.{Ran, stop, more, Within}
use Rattle.memory.proofs.Effects.{changed_left, nothing_ran, ran_as, ran_to, ran_size, ran_apart}
use Rattle.image.specs.Startable.{startable}
use Rattle.layout.specs.Areas.{size as whole_size, mark, download, application, boot}
use Rattle.layout.specs.declared.divided.Layout.{Layout}
use Rattle.rule.specs.Bus.{Control, Plan, fresh, Approves, Harmless, idle, fills, Law}
use Rattle.rule.specs.Restart.{mends, choice}
use Rattle.rule.specs.Calls.{Engine, Machine, layout, bytes, downloaded, applied, booted, Made, whole, cut, Did, Called, mismatch, unheard, did}
use Rattle.rule.specs.Rule.{Said, Chose, Lost, Step, Jump, image}
use Rattle.words.specs.declared.Call.{Call}
use Rattle.words.specs.declared.Call.TheVariants.{Tell, Restart}
use Rattle.words.specs.declared.Inputs.{Inputs}
use Rattle.words.specs.declared.Job.{Job}
use Rattle.words.specs.declared.Success.{Success}
use Rattle.words.specs.Outcomes.{Outcome}
use Rattle.words.specs.declared.Phase.TheVariants.{Waiting, Listening}
use Rattle.words.specs.declared.Refusal.TheVariants.{NotListening}
use Rattle.rule.proofs.Areas.{ran_part}
use Rattle.rule.proofs.Mend.{mended_boot}

module _ {M : Type 0} {E : Engine M} where
  -- the sizes agree, and a controller that listens has no mark
  pub record Sound (m : Machine E) : Type 0 where
    pub size : length (bytes m) ≡ whole_size (layout m)
    pub ready : m.control.phase ≡ Listening → mark (bytes m) ≡ 0xFF

  -- the changes of a call, and its end: all have finished, or the supply was lost
  pub record Ended (cs : List Change) (m n : Machine E) (o : Outcome E.bus.Reply)
      (next : Control E.bus.Packet) (says : Outcome E.bus.Reply) : Type 0 where
    pub result : End
    pub ran : Ran E.make cs m.memory n.memory result
    pub end : ((result ≡ Ok tt) × (n.control ≡ next) × (o ≡ says))
        ⊎ ((result ≡ Ok tt → ⊥) × (n.control ≡ fresh E.bus (layout m) Waiting) × Lost o)

  ended : {cs : List Change} {job : ℕ → Job} {m n : Machine E} {o : Outcome E.bus.Reply}
      {next : Control E.bus.Packet} {says : Outcome E.bus.Reply}
      → Made cs job m n o next says → Ended cs m n o next says
  ended (whole ran is out) = record { result = _; ran = ran; end = inl (refl, is, out) }
  ended {job = job} (cut p ran is out) =
      record { result = _; ran = ran; end = inr (λ e. cc, is, (p, job p, out)) }

  -- what a jump leaves that found the download area startable
  pub record Jumped (e : Step E) : Type 0 where
    pub waits : e.after.control.phase ≡ Waiting
    pub app : applied e.after ≡ applied e.before
    pub image : downloaded e.after ≡ image e
    pub end : (Said e.outcome × (mark (bytes e.after) ≡ 0x5A)) ⊎ Lost e.outcome

  -- what an event of the bus may do
  pub data Heard (e : Step E) : Type 0 where
    quiet : bytes e.after ≡ bytes e.before
        → (e.after.control.phase ≡ Listening → e.before.control.phase ≡ Listening) → Heard e
    filled : e.before.control.phase ≡ Listening
        → mark (bytes e.after) ≡ mark (bytes e.before) → applied e.after ≡ applied e.before → Heard e
    jumped : e.before.control.phase ≡ Listening → Jump e → Jumped e → Heard e

  -- a restart, from a memory w on whose supply is back
  pub record Rebooted (e : Step E) : Type 0 where
    pub inputs : Inputs
    pub call : e.call ≡ Restart inputs
    pub w : M
    pub same : (E.make.state w).bytes ≡ bytes e.before
    pub result : End
    pub ran : Ran E.make (mends (layout e.before) (E.make.state w).bytes) w e.after.memory result
    pub end : ((result ≡ Ok tt) × (e.outcome ≡ Ok (Success.Chose (choice E.accepts inputs (applied e.after)))))
        ⊎ ((result ≡ Ok tt → ⊥) × (e.after.control.phase ≡ Waiting) × Lost e.outcome)

  -- an event of the bus, which never chooses, or a restart
  pub data Kind (e : Step E) : Type 0 where
    told : (x : E.bus.Event) → e.call ≡ Tell x → (Chose e.outcome → ⊥) → Heard e → Kind e
    rebooted : Rebooted e → Kind e

  -- what every call leaves as it was, and what it may do
  pub record Went (e : Step E) : Type 0 where
    pub layouts : layout e.after ≡ layout e.before
    pub sizes : length (bytes e.after) ≡ length (bytes e.before)
    pub boots : booted e.after ≡ booted e.before
    pub kind : Kind e

module _ {M : Type 0} {E : Engine M} (law : Law E.bus) (laws : Laws E.make)
    (e : Step E) (s : Sound e.before) where
  -- the write of the mark
  approved : {m n : M} → Ran E.make (write 0 0x5A ∷ []) m n (Ok tt)
      → mark (E.make.state m).bytes ≡ 0xFF → mark (E.make.state n).bytes ≡ 0x5A
  approved {m} (stop f h a) was = absurd cc
  approved {m} (more {n = o} h t) was =
      ap (λ v. mark (E.make.state v).bytes) (nothing_ran t).0
      ∙ changed_left (laws.change _ m o _ h) 0 (omega arith) (omega arith)
      ∙ ap (λ x. (E.make.state m).mix x 0x5A) was ∙ (laws.lawful m).erased 0x5A (omega arith)

  abbrev l : Layout
  l = layout e.before

  -- an event of the bus
  module _ (x : E.bus.Event) (is : e.call ≡ Tell x) (hears : E.bus.hears e.before.control x ≡ true) where
    abbrev c : Control E.bus.Packet
    c = e.before.control

    abbrev can : Bool
    can = startable E.accepts (downloaded e.before)

    abbrev p : Plan E.bus.Packet E.bus.Reply
    p = E.bus.plan c can x

    module _ (d : Ended p.changes e.before e.after e.outcome p.next (Ok (Success.Said p.says))) where
      lays : layout e.after ≡ l
      lays =
          ⊎_elim (λ a. ap (λ v. v.layout) a.1 ∙ law.layout c can x)
          (λ b. ap (λ v. v.layout) b.1) d.end

      unchosen : Chose e.outcome → ⊥
      unchosen y = ⊎_elim (λ a. cc (a.2, y.1)) (λ b. cc (b.2.2, y.1)) d.end

      -- where the changes lie below the application area
      module _ (lo hi : ℕ) (w : Within lo hi p.changes) (low : hi ≤ 512 * (1 + l.k)) where
        same_app : applied e.after ≡ applied e.before
        same_app =
            ap (λ v. application v (bytes e.after)) lays
            ∙ ran_part laws d.ran lo hi w (512 * (1 + l.k)) (512 * l.k) (inr low)

        went : Heard e → Went e
        went way = record {
          layouts = lays;
          sizes = ran_size laws d.ran;
          boots = ap (λ v. boot v (bytes e.after)) lays
              ∙ ran_part laws d.ran lo hi w (512 * (1 + 2 * l.k)) (512 * l.b) (inr (omega arith));
          kind = told x is unchosen way;
        }

      -- the approval
      module _ (a : Approves c p) where
        marked : Within 0 1 p.changes
        marked = subst (Within 0 1) (sym a.changes) ((omega arith, omega arith), tt)

        leaped : Jumped e
        leaped = record {
          waits = ⊎_elim (λ y. ap (λ v. v.phase) y.1 ∙ a.waits) (λ y. ap (λ v. v.phase) y.1) d.end;
          app = same_app 0 1 marked (omega arith);
          image = ap (λ v. download v (bytes e.after)) lays
              ∙ ran_part laws d.ran 0 1 marked 512 (512 * l.k) (inr (omega arith));
          end = ⊎_elim
              (λ y. inl ((_, y.2), approved (ran_to y.0 (ran_as a.changes d.ran)) (s.ready a.listening)))
              (λ y. inr y.2)
              d.end;
        }

      approval : E.bus.Jump c x → can ≡ true → Approves c p
      approval j fine = subst (λ b. Approves c (E.bus.plan c b x)) (sym fine) (law.approval c x hears j)

      carried : (E.bus.Jump c x × (can ≡ true)) ⊎ Harmless c p → Went e
      carried (inl (j, fine)) =
          let a = approval j fine in
          went 0 1 (marked a) (omega arith)
          (jumped a.listening (record { event = x; call = is; heard = hears; command = j; can = fine }) (leaped a))
      carried (inr (idle none back)) =
          let r = nothing_ran (ran_as none d.ran) in
          went 0 0 (subst (Within 0 0) (sym none) tt) (omega arith)
          (quiet (ap (λ v. (E.make.state v).bytes) r.0) (λ on.
          ⊎_elim (λ y. back (sym (ap (λ v. v.phase) y.1) ∙ on)) (λ y. absurd (y.0 r.1)) d.end))
      carried (inr (fills on w)) =
          let hi = 512 * (1 + l.k) in
          went 512 hi w (omega arith)
          (filled on ((ran_apart laws d.ran 512 hi w).outside 0 (inl (omega arith))) (same_app 512 hi w (omega arith)))

  -- a restart
  restarted : (i : Inputs) → e.call ≡ Restart i → Did (Restart i) e.before e.after e.outcome → Went e
  restarted i is (w, on, h) =
      let back = laws.restore e.before.memory w on in
      let d = ended h in
      let lays : layout e.after ≡ l =
      ⊎_elim (λ a. ap (λ v. v.layout) a.1) (λ b. ap (λ v. v.layout) b.1) d.end in
      let len = ap (λ xs. length xs) back.bytes in
      let pick : Layout → Outcome E.bus.Reply = λ v. Ok (Success.Chose (choice E.accepts i (application v (bytes e.after)))) in
      record {
        layouts = lays;
        sizes = ran_size laws d.ran ∙ len;
        boots = ap (λ v. boot v (bytes e.after)) lays
            ∙ mended_boot laws l (len ∙ s.size) d.ran ∙ ap (λ xs. boot l xs) back.bytes;
        kind = rebooted (record {
          inputs = i;
          call = is;
          w = w;
          same = back.bytes;
          result = d.result;
          ran = d.ran;
          end = ⊎_elim (λ a. inl (a.0, a.2 ∙ ap pick (sym lays)))
              (λ b. inr (b.0, ap (λ v. v.phase) b.1, b.2)) d.end;
        });
      }

  -- an event that is not heard
  still : (x : E.bus.Event) → e.call ≡ Tell x → e.after ≡ e.before → e.outcome ≡ Err NotListening → Went e
  still x is same out = record {
    layouts = ap layout same;
    sizes = ap (λ v. length (bytes v)) same;
    boots = ap booted same;
    kind = told x is (λ y. cc (out, y.1)) (quiet (ap bytes same) (λ on. sym (ap (λ v. v.control.phase) same) ∙ on));
  }

  -- every call
  pub step : Went e
  step = by e.call refl e.called
    where
      by : (call : Call E.bus.Event) → e.call ≡ call
          → Called call e.before e.after e.outcome → Went e
      by call is (mismatch off same out) = absurd (cc (eq-eqb _ _ s.size))
      by (Tell x) is (unheard fit deaf same out) = still x is same out
      by (Tell x) is (did fit on h) = carried x is on (ended h) (law.otherwise e.before.control _ x on)
      by (Restart i) is (unheard fit deaf same out) = absurd cc
      by (Restart i) is (did fit on h) = restarted i is h

  -- a jump that found the download area startable
  pub jump_step : Jump e → Jumped e
  jump_step j = by (subst (λ v. Called v e.before e.after e.outcome) j.call e.called)
    where
      by : Called (Tell j.event) e.before e.after e.outcome → Jumped e
      by (mismatch off same out) = absurd (cc (eq-eqb _ _ s.size))
      by (unheard fit deaf same out) = absurd cc
      by (did fit on h) =
          let d = ended h in
          leaped j.event j.call on d (approval j.event j.call on d j.command j.can)
