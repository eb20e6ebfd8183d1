-- On frames, jumps are told by their answer.
use Rattle.std.proofs.Common.{◌≡◌, ℕ, Bool, true, false, List, refl, ap, ◌∙◌, subst, Some, Ok}
use Rattle.memory.specs.Make.{Make}
use Rattle.image.specs.Startable.{startable}
use Rattle.rule.specs.Calls.{downloaded, whole, cut, Called, mismatch, unheard, did}
use Rattle.rule.specs.Rule.{Said, Accepted}
use Rattle.rule.specs.Command.{jump}
use Rattle.rule.specs.Frames.{is_listening, JumpFrame, JumpAnswered, JumpsTold}
use Rattle.rule.proofs.FramesLaw.{jump_plan}
use Rattle.words.specs.declared.Call.TheVariants.{Tell}
use Rattle.words.specs.declared.Success.TheVariants as Success

-- On frames an accepted jump is a jump frame that is answered 0x00.
pub jumps_told : {M : Type 0} (accepts : List ℕ → Bool) (make : Make M) → JumpsTold accepts make
jumps_told accepts make e = (there, back)
  where
    can : Bool
    can = startable accepts (downloaded e.before)

    -- the call, as an event
    as_event : {b : ℕ} → e.call ≡ Tell b → Called (Tell b) e.before e.after e.outcome
    as_event is = subst (λ c. Called c e.before e.after e.outcome) is e.called

    -- what a jump frame answers, once it was carried out, and that it was heard
    says : {b : ℕ} → JumpFrame e.before.control b → Said e.outcome → Called (Tell b) e.before e.after e.outcome
        → (is_listening e.before.control.phase ≡ true) × (e.outcome ≡ Ok (Success.Said (Some (jump can).answer)))
    says j ok (mismatch off same out) = absurd (cc (out, ok.1))
    says j ok (unheard fit deaf same out) = absurd (cc (out, ok.1))
    says {b} j ok (did fit on (whole ran is out)) = (on, out ∙ ap (λ p. Ok (Success.Said p.says)) (jump_plan e.before.control can b j))
    says j ok (did fit on (cut p ran is out)) = absurd (cc (out, ok.1))

    there : Accepted e → JumpAnswered e
    there (j, ok) = record {
      byte = j.event;
      call = j.call;
      frame = j.command;
      answer = (says j.command ok (as_event j.call)).1 ∙ ap (λ v. Ok (Success.Said (Some (jump v).answer))) j.can;
    }

    back : JumpAnswered e → Accepted e
    back a = (record { event = a.byte; call = a.call; heard = told.0; command = a.frame; can = startably can refl }, ok)
      where
        ok : Said e.outcome
        ok = (_, a.answer)

        told : (is_listening e.before.control.phase ≡ true) × (e.outcome ≡ Ok (Success.Said (Some (jump can).answer)))
        told = says a.frame ok (as_event a.call)

        startably : (v : Bool) → can ≡ v → can ≡ true
        startably true is = is
        startably false is =
            let out = told.1 ∙ ap (λ v. Ok (Success.Said (Some (jump v).answer))) is in
            absurd (cc (a.answer, out))
