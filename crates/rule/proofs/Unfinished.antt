-- Frames: what a receiver keeps is never a whole frame.
use Rattle.std.proofs.Common.{◌≡◌, ℕ, Bool, List, [], ◌∷◌, ◌++◌, sym, refl, ap, ◌∙◌, subst}
use Rattle.memory.specs.Make.{Make}
use Rattle.image.specs.Startable.{startable}
use Rattle.rule.specs.Calls.{Machine, downloaded, whole, cut, Called, mismatch, unheard, did}
use Rattle.rule.specs.Rule.{Step, History}
use Rattle.rule.specs.Frame.{Verdict, more, wrong, good, judge}
use Rattle.rule.specs.Frames.{Receiver, hear, framed, Unfinished}
use Rattle.words.specs.declared.Call.{Call}
use Rattle.words.specs.declared.Call.TheVariants.{Tell, Restart}

hear_open : (c : Receiver) (can : Bool) (bytes : List ℕ) (v : Verdict) → judge bytes ≡ v → judge (hear c can bytes v).next.packet ≡ more
hear_open c can bytes more e = e
hear_open c can bytes (wrong a) e = refl
hear_open c can bytes (good payload) e = refl

module _ {M : Type 0} (accepts : List ℕ → Bool) (make : Make M) where
  abbrev Open : Machine (framed accepts make) → Type 0
  Open m = judge m.control.packet ≡ more

  step_open : (e : Step (framed accepts make)) → Open e.before → Open e.after
  step_open e was = by e.call e.called
    where
      left : {c : Receiver} → e.after.control ≡ c → judge c.packet ≡ more → Open e.after
      left is open_still = ap (λ c. judge c.packet) is ∙ open_still

      by : (call : Call ℕ) → Called call e.before e.after e.outcome → Open e.after
      by call (mismatch off same out) = subst Open (sym same) was
      by call (unheard fit deaf same out) = subst Open (sym same) was
      by (Tell byte) (did fit on (whole ran is out)) =
          let bytes = e.before.control.packet ++ byte ∷ [] in
          left is (hear_open e.before.control (startable accepts (downloaded e.before)) bytes (judge bytes) refl)
      by (Tell byte) (did fit on (cut place ran is out)) = left is refl
      by (Restart i) (did fit on (w, back, whole ran is out)) = left is refl
      by (Restart i) (did fit on (w, back, cut place ran is out)) = left is refl

  run_open : (m n : Machine (framed accepts make)) (es : List (Step (framed accepts make))) → Open m → History m es n → Open n
  run_open m n [] was h = subst Open (sym h) was
  run_open m n (e ∷ es) was h = run_open e.after n es (step_open e (subst Open (sym h.0) was)) h.1

  pub unfinished : Unfinished accepts make
  unfinished n r =
      run_open r.start n r.calls (ap (λ c. judge c.packet) r.commissioned.waits) r.history
