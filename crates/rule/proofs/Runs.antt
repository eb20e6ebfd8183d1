-- The rule over runs.
use Rattle.std.proofs.Common.{◌≡◌, ℕ, Bool, true, ◌⊎◌, List, [], ◌∷◌, length, Ok, sym, refl, ap, ◌∙◌, subst, inl, inr, ⊎_elim, arith}
use Rattle.std.proofs.lemmas.Bool.{eqb-true}
use Rattle.std.proofs.lemmas.Bool.Decides.{nat_tests}
use Rattle.memory.specs.Make.{Laws}
use Rattle.memory.proofs.Effects.{ran_to}
use Rattle.image.specs.Startable.{startable}
use Rattle.layout.specs.Areas.{size as whole_size, mark, download, application, boot}
use Rattle.rule.specs.Bus.{Law}
use Rattle.rule.specs.Restart.{choice}
use Rattle.rule.specs.Calls.{Engine, Machine, layout, bytes, downloaded, applied, booted}
use Rattle.rule.specs.Rule.{None, Some, Chose, Restarts, Step, Jump, Accepted, Cut, image, Finished}
use Rattle.rule.specs.Rule.{Commissioned, History, Reached, Update, Lull, FirstFinished, FirstUncut}
use Rattle.rule.specs.Rule.{Updated, Kept, Safe, Rule}
use Rattle.words.specs.declared.Call.{Call}
use Rattle.words.specs.declared.Call.TheVariants.{Restart}
use Rattle.words.specs.declared.Inputs.{Inputs}
use Rattle.words.specs.declared.Success.{Success}
use Rattle.words.specs.Outcomes.{Outcome}
use Rattle.words.specs.declared.Phase.{Phase}
use Rattle.words.specs.declared.Phase.TheVariants.{Listening, Running}
use Rattle.rule.proofs.Mend.{Pending, mended, mended_mark, blank_mended}
use Rattle.rule.proofs.Steps.{Sound, step, jump_step}
use Rattle.rule.proofs.Steps.{Jumped, Heard, quiet, filled, jumped, Rebooted, Kind, told, rebooted}

-- a choice is one of a phase
phase_is : {R : Type 0} {p q : Phase} → ◌≡◌ {A = Outcome R} (Ok (Success.Chose p)) (Ok (Success.Chose q)) → p ≡ q
phase_is e = cc

-- to choose running is to have found the area startable
chosen_startable : (accepts : List ℕ → Bool) (i : Inputs) (xs : List ℕ)
    → choice accepts i xs ≡ Running → startable accepts xs ≡ true
chosen_startable accepts i xs e = grind (arith, nat_tests)

none_false : {X : Type 0} (xs : List X) → None (λ _. ⊥) xs
none_false [] = tt
none_false (x ∷ xs) = (λ f. f, none_false xs)

none_map : {X : Type 0} (P Q : X → Type 0) → ((x : X) → Q x → P x) → (xs : List X) → None P xs → None Q xs
none_map P Q f [] h = tt
none_map P Q f (x ∷ xs) h = (λ q. h.0 (f x q), none_map P Q f xs h.1)

module _ {M : Type 0} {E : Engine M} where
  -- what each call but a P keeps, a history without a P keeps
  run : (I : Machine E → Type 0) (P : Step E → Type 0)
      → ((e : Step E) → I e.before → (P e → ⊥) → I e.after)
      → (m n : Machine E) (es : List (Step E)) → I m → None P es → History m es n → I n
  run I P f m n [] i un h = subst I (sym h) i
  run I P f m n (e ∷ es) i un h =
      run I P f e.after n es (f e (subst I (sym h.0) i) un.0) un.1 h.1

  -- a restart that finished
  record Done (e : Step E) : Type 0 where
    pub reboot : Rebooted e
    pub is : reboot.result ≡ Ok tt
    pub choice : e.outcome ≡ Ok (Success.Chose (choice E.accepts reboot.inputs (applied e.after)))

  -- no mark, and the old application area
  record Calm (old : List ℕ) (m : Machine E) : Type 0 where
    pub mark : mark (bytes m) ≡ 0xFF
    pub app : applied m ≡ old

  -- an image that is pending, and nothing is heard until a restart has finished
  record Held (Q : List ℕ → Type 0) (img : List ℕ) (m : Machine E) : Type 0 where
    pub sound : Sound m
    pub deaf : m.control.phase ≡ Listening → ⊥
    pub pending : Pending (layout m) Q img (bytes m)

module _ {M : Type 0} {E : Engine M} (law : Law E.bus) (laws : Laws E.make) where
  reboot_mark : (e : Step E) (r : Rebooted e) → r.result ≡ Ok tt → mark (bytes e.after) ≡ 0xFF
  reboot_mark e r is = mended_mark laws (layout e.before) (ran_to is r.ran)

  done : (e : Step E) → Sound e.before → Chose e.outcome → Done e
  done e s f = by (step law laws e s).kind
    where
      by : Kind e → Done e
      by (told x is un h) = absurd (un f)
      by (rebooted r) =
          ⊎_elim (λ a. record { reboot = r; is = a.0; choice = a.1 })
          (λ b. absurd (cc (b.2.2, f.1))) r.end

  -- every call leaves a sound controller sound
  sound_step : (e : Step E) → Sound e.before → Sound e.after
  sound_step e s =
      let w = step law laws e s in
      record { size = w.sizes ∙ s.size ∙ ap whole_size (sym w.layouts); ready = λ on. by on w.kind }
    where
      hears : e.after.control.phase ≡ Listening → Heard e → mark (bytes e.after) ≡ 0xFF
      hears on (quiet same back) = ap mark same ∙ s.ready (back on)
      hears on (filled was same app) = same ∙ s.ready was
      hears on (jumped was j d) = absurd (cc d.waits)

      by : e.after.control.phase ≡ Listening → Kind e → mark (bytes e.after) ≡ 0xFF
      by on (told x is un h) = hears on h
      by on (rebooted r) =
          ⊎_elim (λ a. reboot_mark e r a.0) (λ b. absurd (cc b.1)) r.end

  -- and so does every history, with each boot byte
  sound_run : (m n : Machine E) (es : List (Step E)) → Sound m → History m es n
      → Sound n × (booted n ≡ booted m)
  sound_run m n es s h =
      run (λ v. Sound v × (booted v ≡ booted m)) (λ _. ⊥)
      (λ e i _. (sound_step e i.0, (step law laws e i.0).boots ∙ i.1)) m n es (s, refl) (none_false es) h

  new_sound : (m : Machine E) → Commissioned m → Sound m
  new_sound m c = record { size = eqb-true _ _ c.size; ready = λ _. c.mark }

  reached : {n : Machine E} (r : Reached n) → Sound n × (booted n ≡ booted r.start)
  reached {n} r = sound_run r.start n r.calls (new_sound r.start r.commissioned) r.history

  started : (e : Step E) → Sound e.before → e.outcome ≡ Ok (Success.Chose Running)
      → startable E.accepts (applied e.after) ≡ true
  started e s out =
      let d = done e s (_, out) in
      let runs = phase_is (sym d.choice ∙ out) in
      chosen_startable E.accepts d.reboot.inputs (applied e.after) runs

  -- what is pending stays so until a restart has finished, and is there then
  module _ (Q : List ℕ → Type 0) (img : List ℕ) (wanted : Q img) where
    reboot_pending : (e : Step E) → Sound e.before → (r : Rebooted e)
        → Pending (layout e.before) Q img (bytes e.before)
        → Pending (layout e.after) Q img (bytes e.after) × (r.result ≡ Ok tt → Q (applied e.after))
    reboot_pending e s r p =
        let l = layout e.before in
        let size = ap (λ xs. length xs) r.same ∙ s.size in
        let start = subst (Pending l Q img) (sym r.same) p in
        subst (λ v. Pending v Q img (bytes e.after) × (r.result ≡ Ok tt → Q (application v (bytes e.after))))
        (sym (step law laws e s).layouts) (mended laws l Q img wanted size start r.ran)

    held_step : (e : Step E) → Held Q img e.before → (Finished e → ⊥) → Held Q img e.after
    held_step e i un = by (step law laws e i.sound).kind
      where
        hears : Heard e → Held Q img e.after
        hears (quiet same back) = record {
          sound = sound_step e i.sound;
          deaf = λ on. i.deaf (back on);
          pending =
              subst (λ v. Pending v Q img (bytes e.after)) (sym (step law laws e i.sound).layouts)
              (subst (Pending (layout e.before) Q img) (sym same) i.pending);
        }
        hears (filled on same app) = absurd (i.deaf on)
        hears (jumped on j d) = absurd (i.deaf on)

        by : Kind e → Held Q img e.after
        by (told x is only h) = hears h
        by (rebooted r) =
            ⊎_elim
            (λ a. absurd (un ((_, r.call), (_, a.1))))
            (λ b. record {
              sound = sound_step e i.sound;
              deaf = λ on. cc b.1;
              pending = (reboot_pending e i.sound r i.pending).0;
            })
            r.end

    held_run : (m n : Machine E) (es : List (Step E)) → Held Q img m → None Finished es → History m es n → Held Q img n
    held_run = run (Held Q img) Finished held_step

    held_end : (e : Step E) → Sound e.before → Pending (layout e.before) Q img (bytes e.before)
        → Finished e → Q (applied e.after)
    held_end e s p f = let d = done e s f.1 in (reboot_pending e s d.reboot p).1 d.is

  -- a call leaves what is calm so, or is a jump
  calm_step : (old : List ℕ) (e : Step E) → Sound e.before → Calm old e.before
      → Calm old e.after ⊎ (Jump e × Jumped e)
  calm_step old e s c = by (step law laws e s).kind
    where
      unchanged : bytes e.after ≡ bytes e.before → Calm old e.after
      unchanged same = record {
        mark = ap mark same ∙ c.mark;
        app = (λ i. application ((step law laws e s).layouts i) (same i)) ∙ c.app;
      }

      hears : Heard e → Calm old e.after ⊎ (Jump e × Jumped e)
      hears (quiet same back) = inl (unchanged same)
      hears (filled on same app) = inl (record { mark = same ∙ c.mark; app = app ∙ c.app })
      hears (jumped on j d) = inr (j, d)

      by : Kind e → Calm old e.after ⊎ (Jump e × Jumped e)
      by (told x is un h) = hears h
      by (rebooted r) =
          let still = blank_mended laws (layout e.before) (ap mark r.same ∙ c.mark) r.ran in
          inl (unchanged (ap (λ v. (E.make.state v).bytes) still ∙ r.same))

  -- with no jump accepted, up to a restart that leaves the application area `now`
  module _ (old now : List ℕ) where
    lull_run : (m n : Machine E) (es : List (Step E)) → Sound m → Calm old m
        → None Accepted es → None Finished es → History m es n
        → ((Q : List ℕ → Type 0) (img : List ℕ) → Q img → Pending (layout n) Q img (bytes n) → Q now)
        → (now ≡ old) ⊎ Some (λ e. Cut e × (now ≡ image e)) es
    lull_run m n [] s c na nf h end =
        let c' = subst (Calm old) (sym h) c in
        inl (end (λ x. x ≡ old) old refl (inr (c'.app, inl c'.mark)))
    lull_run m n (e ∷ es) s c na nf h end =
        let s' = subst Sound (sym h.0) s in
        let c' = subst (Calm old) (sym h.0) c in
        let next = sound_step e s' in
        let Q : List ℕ → Type 0 = λ x. (x ≡ old) ⊎ (x ≡ image e) in
        ⊎_elim
        (λ d. ⊎_elim inl (λ some. inr (inr some)) (lull_run e.after n es next d na.1 nf.1 h.1 end))
        (λ jump.
        let (j, d) = jump in
        ⊎_elim
        (λ ok. absurd (na.0 (j, ok.0)))
        (λ gone.
        let held : Held Q (image e) e.after = record {
          sound = next;
          deaf = λ on. cc d.waits;
          pending = inr (inl (d.app ∙ c'.app), inr d.image);
        } in
        let last = held_run Q (image e) (inr refl) e.after n es held nf.1 h.1 in
        ⊎_elim inl (λ new. inr (inl ((j, gone), new))) (end Q (image e) (inr refl) last.pending))
        d.end)
        (calm_step old e s' c')

  lulls : (u : Lull E) → Kept u
  lulls u =
      let s =
      ⊎_elim (new_sound u.since)
      (λ r. subst Sound (sym r.3) (sound_step r.0 (reached r.1).0)) u.rested in
      let blank : mark (bytes u.since) ≡ 0xFF =
      ⊎_elim (λ c. c.mark)
      (λ r.
      let d = done r.0 (reached r.1).0 r.2.1 in
      ap (λ v. mark (bytes v)) r.3 ∙ reboot_mark r.0 d.reboot d.is)
      u.rested in
      let last = (sound_run u.since u.restart.before u.between s u.history).0 in
      lull_run (applied u.since) (applied u.restart.after) u.since u.restart.before u.between
      s (record { mark = blank; app = refl }) u.none_accepted u.none_finished u.history
      (λ Q img wanted p. held_end Q img wanted u.restart last p u.finished)

  safe : Safe E
  safe = record {
    lulls = lulls;
    started = λ e r out. started e (reached r).0 out;
    boots = λ n r. (reached r).1;
  }

  -- what is left of an update, in the words of its jump
  record Whole (u : Update E) : Type 0 where
    pub updated : Updated u
    pub choice : (i : Inputs) → u.restart.call ≡ Restart i
        → u.restart.outcome ≡ Ok (Success.Chose (choice E.accepts i (image u.jump)))
    pub boots : booted u.restart.after ≡ booted u.jump.after
    pub image : downloaded u.jump.after ≡ image u.jump

  whole : (u : Update E) → FirstFinished u → Whole u
  whole u first =
      let e = u.jump in
      let Q : List ℕ → Type 0 = λ x. x ≡ image e in
      let s = (reached u.reached).0 in
      let d = jump_step law laws e s u.accepted.0 in
      let marked : mark (bytes e.after) ≡ 0x5A =
      ⊎_elim (λ ok. ok.1) (λ gone. absurd (cc (gone.2, u.accepted.1.1))) d.end in
      let held : Held Q (image e) e.after = record {
        sound = sound_step e s;
        deaf = λ on. cc d.waits;
        pending = inl (marked, d.image);
      } in
      let last = held_run Q (image e) refl e.after u.restart.before u.between held first.0 u.history in
      let end = done u.restart last.sound first.1.1 in
      let app = held_end Q (image e) refl u.restart last.sound last.pending first.1 in
      record {
        updated = record { finished = first.1; image = app; mark = reboot_mark u.restart end.reboot end.is };
        choice = λ i is.
            let same = given end.reboot.call is in
            end.choice ∙ (λ k. Ok (Success.Chose (choice E.accepts (same k) (app k))));
        boots = (step law laws u.restart last.sound).boots
            ∙ (sound_run e.after u.restart.before u.between held.sound u.history).1;
        image = d.image;
      }
    where
      given : {c : Call E.bus.Event} {i j : Inputs} → c ≡ Restart i → c ≡ Restart j → i ≡ j
      given p q = cc

  -- a restart that keeps its supply finishes
  uncut : (u : Update E) → FirstUncut u → FirstFinished u
  uncut u first = (
    none_map (λ e. Restarts e.call) Finished (λ e f. f.0) u.between first.0,
    (first.1, by (step law laws u.restart s).kind),
  )
    where
      s : Sound u.restart.before
      s =
          let next = sound_step u.jump (reached u.reached).0 in
          (sound_run u.jump.after u.restart.before u.between next u.history).0

      by : Kind u.restart → Chose u.restart.outcome
      by (told x is un h) = absurd (cc (is, first.1.1))
      by (rebooted r) = ⊎_elim (λ a. (_, a.1)) (λ b. absurd (first.2 b.2)) r.end

-- The rule, for any two controllers whose buses and memories show their laws.
pub rule : {M N : Type 0} (E : Engine M) (F : Engine N)
    → Law E.bus → Laws E.make → Law F.bus → Laws F.make → Rule E F
rule E F law_e laws_e law_f laws_f = record {
  updates = λ one u v first_u first_v twins.
      let x = whole law_e laws_e u first_u in
      let y = whole law_f laws_f v (uncut law_f laws_f v first_v) in
      let images = sym x.image ∙ (λ i. download (twins.layouts i) (twins.bytes i)) ∙ y.image in
      record {
        first = x.updated;
        second = y.updated;
        images = images;
        boots = x.boots ∙ (λ i. boot (twins.layouts i) (twins.bytes i)) ∙ sym y.boots;
        choice = λ i a b p is.
            let same = phase_is (sym (x.choice i a) ∙ is) in
            y.choice i b ∙ (λ k. Ok (Success.Chose (choice (sym one k) i (sym images k)))) ∙ ap (λ p. Ok (Success.Chose p)) same;
      };
  first = safe law_e laws_e;
  second = safe law_f laws_f;
}
