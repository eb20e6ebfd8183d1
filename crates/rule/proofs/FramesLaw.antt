-- Proof: the bus of frames shows the law of a bus.
use Rattle.std.specs.Prelude.{◌≡◌, ℕ, ◌+◌, ◌-◌, ◌*◌, ◌%◌, ◌<◌, ◌≤◌, Bool, true, false, ◌&&◌, leb, ◌⊎◌, List, [], ◌∷◌, ◌++◌, length, ◌==◌, nat_eq, nat_le, nat_lt, refl}
use Rattle.std.proofs.Common.{sym, ap, subst, ◌∙◌, inl, inr, arith}
use Rattle.std.proofs.lemmas.Bool.{and_parts, ltb-true, leb-true, eqb-true, cond_both, false≢true}
use Rattle.memory.specs.Change.{Change}
use Rattle.memory.specs.Ran.{Within}
use Rattle.memory.proofs.Effects.{writes_within, erases_within}
use Rattle.layout.specs.Areas.{address, application_place, application_size, download_place}
use Rattle.layout.specs.declared.divided.Layout.{Layout}
use Rattle.rule.specs.Bus.{Plan, Approves, Harmless, idle, fills, Law}
use Rattle.rule.specs.Frame.{Verdict, more, wrong, good, judge}
use Rattle.rule.specs.Command.{Effect, allowed, erase_segment, write_block, jump, at_address, obey}
use Rattle.rule.specs.Frames.{Receiver, is_listening, answers, hear, JumpFrame, frames}
use Rattle.words.specs.declared.Phase.{Phase}
use Rattle.words.specs.declared.Phase.TheVariants.{Waiting, Listening, Running}
use Rattle.words.specs.Outcomes.{Reply}

listening : (p : Phase) → is_listening p ≡ true → p ≡ Listening
listening Waiting e = absurd (false≢true e)
listening Listening e = refl
listening Running e = absurd (false≢true e)

-- what the byte that ends a jump frame is to do
pub jump_plan : (c : Receiver) (can : Bool) (byte : ℕ) → JumpFrame c byte → frames.plan c can byte ≡ answers c (jump can)
jump_plan c can byte j = ap (hear c can (c.packet ++ byte ∷ [])) j.frame

module _ (c : Receiver) (can : Bool) (byte : ℕ) (on : c.phase ≡ Listening) where
  abbrev l : Layout
  l = c.layout

  -- what the law says of each plan, and of each command
  abbrev P : Plan (List ℕ) Reply → Type 0
  P p = (JumpFrame c byte × (can ≡ true)) ⊎ Harmless c p

  abbrev Q : Effect → Type 0
  Q e = P (answers c e)

  allowed_lawful : (fine : Bool) (cs : List Change) → (fine ≡ true → Within download_place (application_place l) cs) → Q (allowed fine cs)
  allowed_lawful fine cs w = cond_both fine _ _ Q (λ e. inr (fills on (w e))) (λ _. inr (fills on tt))

  erase_lawful : (from : ℕ) → Q (erase_segment l from)
  erase_lawful from =
      let base = address l (application_place l) in
      let offset = from - base in
      let inside = nat_lt offset (application_size l) in
      let first = nat_eq (offset % 512) 0 in
      allowed_lawful (nat_le base from && (inside && first)) _ (λ e.
      let both = and_parts inside first (and_parts (nat_le base from) (inside && first) e).1 in
      let a : offset < 512 * l.k = ltb-true _ _ both.0 in
      let z : offset % 512 ≡ 0 = eqb-true _ _ both.1 in
      ((omega arith, omega arith), tt))

  write_lawful : (from : ℕ) (block : List ℕ) → Q (write_block l from block)
  write_lawful from block =
      let base = address l (application_place l) in
      let offset = from - base in
      let some = nat_lt 0 (length block) in
      let inside = leb (offset + length block) (application_size l) in
      allowed_lawful (nat_le base from && (some && inside)) _ (λ e.
      let both = and_parts some inside (and_parts (nat_le base from) (some && inside) e).1 in
      let a : offset + length block ≤ 512 * l.k = leb-true _ _ both.1 in
      writes_within 512 (512 * (1 + l.k)) (512 + offset) block (omega arith) (omega arith))

  at_lawful : (rest : List ℕ) (f : ℕ → List ℕ → Effect) → ((from : ℕ) (block : List ℕ) → Q (f from block)) → Q (at_address rest f)
  at_lawful [] f h = inr (fills on tt)
  at_lawful (low ∷ []) f h = inr (fills on tt)
  at_lawful (low ∷ high ∷ block) f h = h _ block

  jump_lawful : (rest : List ℕ) → judge (c.packet ++ byte ∷ []) ≡ good (0x1C ∷ rest) → (v : Bool) → can ≡ v → Q (jump v)
  jump_lawful rest f true e = inl (record { rest = rest; frame = f }, e)
  jump_lawful rest f false e = inr (idle refl (λ x. absurd cc))

  obey_lawful : (payload : List ℕ) → judge (c.packet ++ byte ∷ []) ≡ good payload → Q (obey l can payload)
  obey_lawful [] e = inr (fills on tt)
  obey_lawful (x ∷ rest) e =
      cond_both (x == 0x12) _ _ Q (λ _. at_lawful rest _ (λ from _. erase_lawful from)) (λ _.
      cond_both (x == 0x15) _ _ Q (λ _. inr (fills on (erases_within 512 (application_place l) 1 l.k (omega arith) (omega arith)))) (λ _.
      cond_both (x == 0x10) _ _ Q (λ _. at_lawful rest _ write_lawful) (λ _.
      cond_both (x == 0x19) _ _ Q (λ _. inr (fills on tt)) (λ _.
      cond_both (x == 0x1C) _ _ Q
      (λ is. jump_lawful rest (e ∙ ap (λ y. good (y ∷ rest)) (eqb-true x 0x1C is)) can refl)
      (λ _. inr (fills on tt))))))

  hear_lawful : (v : Verdict) → judge (c.packet ++ byte ∷ []) ≡ v → P (hear c can (c.packet ++ byte ∷ []) v)
  hear_lawful more e = inr (fills on tt)
  hear_lawful (wrong a) e = inr (fills on tt)
  hear_lawful (good payload) e = obey_lawful payload e

hear_layout : (c : Receiver) (can : Bool) (bytes : List ℕ) (v : Verdict) → (hear c can bytes v).next.layout ≡ c.layout
hear_layout c can bytes more = refl
hear_layout c can bytes (wrong a) = refl
hear_layout c can bytes (good payload) = refl

-- Frames show the law.
pub frames_law : Law frames
frames_law = record {
  layout = λ c can byte. hear_layout c can _ (judge (c.packet ++ byte ∷ []));
  approval = λ c byte on j.
      subst (Approves c) (sym (jump_plan c true byte j)) (record { listening = listening c.phase on; changes = refl; waits = refl });
  otherwise = λ c can byte on. hear_lawful c can byte (listening c.phase on) _ refl;
}
