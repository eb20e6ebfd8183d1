-- A received byte, by what its code does in turn.
use Rattle.std.proofs.Common.{◌≡◌, ℕ, Bool, true, false, ◌⊎◌, List, [], ◌∷◌, ◌++◌, Ok, Err, Result, sym, refl, ap, ◌∙◌, subst, ap₂, inl, inr, arith, Some, None}
use Rattle.std.proofs.lemmas.Bool.{eq-eqb}
use Rattle.memory.specs.State.{size}
use Rattle.memory.specs.Change.{Change}
use Rattle.memory.specs.Make.{Make, Laws}
use Rattle.memory.specs.Ran.{none, Within}
use Rattle.commands.specs.Obeyed.{ready, Obeyed, response}
use Rattle.commands.specs.declared.Response.{Response}
use Rattle.image.specs.Startable.{startable}
use Rattle.layout.specs.Areas.{size as whole_size, download_place, application_place, application_size, download}
use Rattle.layout.specs.declared.divided.Layout.{Layout}
use Rattle.rule.specs.Bus.{Plan, Harmless, idle, fills}
use Rattle.rule.specs.Calls.{Machine, Called, did, Made, whole, cut}
use Rattle.rule.specs.Command.{Effect, obey}
use Rattle.rule.specs.Frame.{Verdict, good, judge}
use Rattle.rule.specs.Frames.{Receiver, frames, framed, is_listening, hear, JumpFrame}
use Rattle.rule.proofs.FramesLaw.{frames_law}
use Rattle.words.specs.declared.Answer.{Answer}
use Rattle.words.specs.declared.Call.TheVariants.{Tell}
use Rattle.words.specs.declared.Job.TheVariants.{HostCommand}
use Rattle.words.specs.Outcomes.{Outcome, Reply}
use Rattle.words.specs.declared.Success.TheVariants.{Said}
use Rattle.words.specs.declared.Phase.{Phase}
use Rattle.words.specs.declared.Phase.TheVariants.{Waiting, Listening}
use Rattle.words.specs.declared.Refusal.{Refusal}
use Rattle.receiver.specs.Events.{told, kept}
use Rattle.receiver.specs.Packet.{packet}
use Rattle.controller.specs.declared.Controller.{Controller}
use Rattle.controller.proofs.Ends.{reads_part, err_same, ok_same, ok_not_err, ToldEnd, all, lost, told_end}

within_from : (lo hi : ℕ) (cs : List Change) → Within lo hi cs → Within 0 hi cs
within_from lo hi [] w = tt
within_from lo hi (c ∷ cs) w = ((omega arith, w.0.1), within_from lo hi cs w.1)

-- the changes of a byte that is heard stay below the application area
plan_within : (c : Receiver) (can : Bool) (byte : ℕ) → is_listening c.phase ≡ true
    → Within 0 (application_place c.layout) (frames.plan c can byte).changes
plan_within c can byte on = by (frames_law.otherwise c can byte on)
  where
    by : (JumpFrame c byte × (can ≡ true)) ⊎ Harmless c (frames.plan c can byte) → Within 0 (application_place c.layout) (frames.plan c can byte).changes
    by (inl (j, is)) =
        let e : (frames.plan c can byte).changes ≡ _ = ap (λ v. (frames.plan c v byte).changes) is ∙ (frames_law.approval c byte on j).changes in
        subst (Within 0 (application_place c.layout)) (sym e) ((omega arith, omega arith), tt)
    by (inr (idle e _)) = subst (Within 0 (application_place c.layout)) (sym e) tt
    by (inr (fills _ w)) = within_from download_place (application_place c.layout) _ w

module _ {M : Type 0} {make : Make M} (laws : Laws make) (accepts : List ℕ → Bool) (self : Controller) (byte : ℕ)
    (m : M) (fit : size (make.state m) ≡ whole_size self.layout) (on : self.phase ≡ Listening) where
  abbrev l : Layout
  l = self.layout

  abbrev p : Phase
  p = self.phase

  abbrev f : List ℕ
  f = packet self.receiver

  abbrev with : Phase → List ℕ → M → Machine (framed accepts make)
  with q g v = record { control = record { layout = l; phase = q; packet = g }; memory = v }

  abbrev can : Bool
  can = startable accepts (download l (make.state m).bytes)

  abbrev before : Receiver
  before = record { layout = l; phase = p; packet = f }

  heard : is_listening p ≡ true
  heard = ap is_listening on

  plan_is : {v : Verdict} → v ≡ judge (f ++ byte ∷ []) → hear before can (f ++ byte ∷ []) v ≡ frames.plan before can byte
  plan_is e = ap (hear before can (f ++ byte ∷ [])) e

  by_plan : {q : Plan (List ℕ) Reply} {n : Machine (framed accepts make)} {o : Outcome Reply} → q ≡ frames.plan before can byte
      → Made {E = framed accepts make} q.changes (λ _. HostCommand) (with p f m) n o q.next (Ok (Said q.says)) → Called (Tell byte) (with p f m) n o
  by_plan {n = n} {o = o} e made =
      did (eq-eqb _ _ fit) heard
      (subst (λ (q : Plan (List ℕ) Reply). Made {E = framed accepts make} q.changes (λ _. HostCommand) (with p f m) n o q.next (Ok (Said q.says))) e made)

  -- the receiver has taken the byte, with this result
  module _ (r : Result Bool Answer) (rest g : List ℕ) (event : told r rest ≡ judge (f ++ byte ∷ [])) (keeps : g ≡ kept (told r rest) (f ++ byte ∷ [])) where
    verdict : {o : Result Bool Answer} → r ≡ o → told o rest ≡ judge (f ++ byte ∷ [])
    verdict is = sym (ap (λ x. told x rest) is) ∙ event

    left : {o : Result Bool Answer} → r ≡ o → g ≡ kept (told o rest) (f ++ byte ∷ [])
    left is = keeps ∙ ap (λ x. kept (told x rest) (f ++ byte ∷ [])) is

    -- nothing yet
    pub goes_on : r ≡ Ok false → Called (Tell byte) (with p f m) (with p g m) (Ok (Said None))
    goes_on is = by_plan (plan_is (verdict is)) (whole (none refl refl) (ap (λ x. record { layout = l; phase = p; packet = x }) (left is)) refl)

    -- an error is answered
    pub is_wrong : (a : Answer) → r ≡ Err a → Called (Tell byte) (with p f m) (with p g m) (Ok (Said (Some a)))
    is_wrong a is = by_plan (plan_is (verdict is)) (whole (none refl refl) (ap₂ (λ q x. record { layout = l; phase = q; packet = x }) on (left is)) refl)

    -- a command was carried out
    module _ (is : r ≡ Ok true) (payload : List ℕ) (part : payload ≡ rest) (after : M) (obeyed : Result Response Refusal)
        (ensures : Obeyed make (obey l (ready accepts l (make.state m)) payload) m after obeyed) where
      abbrev asked : Effect
      asked = obey l can payload

      found : good payload ≡ judge (f ++ byte ∷ [])
      found = ap good part ∙ verdict is

      end : ToldEnd make asked.changes (λ _. HostCommand) (response asked) m after obeyed
      end =
          told_end laws 0 (application_place l)
          (subst (λ (q : Plan (List ℕ) Reply). Within 0 (application_place l) q.changes) (sym (plan_is found)) (plan_within before can byte heard)) (omega arith)
          (subst (λ area. Obeyed make (obey l (startable accepts area) payload) m after obeyed) (sym (reads_part (make.state m) download_place (application_size l) (omega arith))) ensures)

      pub replies : (x : Response) → obeyed ≡ Ok x → Called (Tell byte) (with p f m) (with x.phase g after) (Ok (Said (Some x.answer)))
      replies x so = by end
        where
          by : ToldEnd make asked.changes (λ _. HostCommand) (response asked) m after obeyed → Called (Tell byte) (with p f m) (with x.phase g after) (Ok (Said (Some x.answer)))
          by (all ran told) =
              let same = ok_same (sym so ∙ told) in
              by_plan (plan_is found) (whole ran (ap₂ (λ q y. record { layout = l; phase = q; packet = y }) (ap (λ v. v.phase) same) (left is)) (ap (λ v. Ok (Said (Some v.answer))) same))
          by (lost place ran told) = ok_not_err (sym so ∙ told)

      pub is_lost : (d : Refusal) → obeyed ≡ Err d → Called (Tell byte) (with p f m) (with Waiting g after) (Err d)
      is_lost d so = by end
        where
          by : ToldEnd make asked.changes (λ _. HostCommand) (response asked) m after obeyed → Called (Tell byte) (with p f m) (with Waiting g after) (Err d)
          by (all ran told) = ok_not_err (sym told ∙ so)
          by (lost place ran told) =
              by_plan (plan_is found) (cut place ran (ap (λ y. record { layout = l; phase = Waiting; packet = y }) (left is)) (ap Err (err_same (sym so ∙ told))))
