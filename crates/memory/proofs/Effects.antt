-- What a list of changes does to a memory, however far it got.
use Rattle.std.proofs.Common.{◌≡◌, ℕ, zero, suc, ◌+◌, ◌*◌, ◌<◌, ◌≤◌, List, [], ◌∷◌, ◌++◌, length, get_or, take, Ok, Err, sym, refl, ap, ◌∙◌, subst, inl, inr, ⊎_elim, add-zero, arith}
use Rattle.std.proofs.lemmas.Bool.{cases_lt}
use Rattle.memory.specs.State.{State, size, at}
use Rattle.memory.specs.Change.{Change, write, erase, first, span, left, End, Apart, Changed, past, off, finished, torn}
use Rattle.memory.specs.Make.{Make, Laws}
use Rattle.memory.specs.Ran.{Ran, none, stop, more, writes, erases, Within, Written, Erased, WritingLost, ErasingLost, Wrote, Cleared}
use Rattle.memory.specs.declared.Fault.{Fault}
use Rattle.memory.specs.declared.Fault.TheVariants.{SupplyLost}

-- a finished end is no refusal
pub not_refused : {A : Type 0} {f : Fault} {r : End} → r ≡ Ok tt → r ≡ Err f → A
not_refused e g = absurd cc

-- what two steps in a row leave as it was, and where the bounds are wider
pub apart_same : {lo hi : ℕ} {s t : State} → t ≡ s → Apart lo hi s t
apart_same e = record { size = ap size e; mix = ap (λ v. v.mix) e; outside = λ q _. ap (λ v. at v q) e }

pub apart_then : {lo hi : ℕ} {s t u : State} → Apart lo hi s t → Apart lo hi t u → Apart lo hi s u
apart_then a b = record { size = b.size ∙ a.size; mix = b.mix ∙ a.mix; outside = λ q o. b.outside q o ∙ a.outside q o }

pub apart_wider : {lo hi lo' hi' : ℕ} {s t : State} → lo' ≤ lo → hi ≤ hi' → Apart lo hi s t → Apart lo' hi' s t
apart_wider l h a = record {
  size = a.size;
  mix = a.mix;
  outside = λ q o. a.outside q (⊎_elim (λ x. inl (omega arith)) (λ x. inr (omega arith)) o);
}

-- one change touches no place but its own
pub changed_apart : {c : Change} {s t : State} {r : End} → Changed c s t r → Apart (first c) (first c + span c) s t
changed_apart (past x e a) = apart_same e
changed_apart (off x y e a) = apart_same e
changed_apart (finished x y n b w a) = b
changed_apart (torn x y n b a) = b

-- a finished change lies within the memory, and leaves its byte at each place that it touches
pub changed_fits : {c : Change} {s t : State} → Changed c s t (Ok tt) → first c + span c ≤ size s
changed_fits (past x e a) = not_refused refl a
changed_fits (off x y e a) = x
changed_fits (finished x y n b w a) = x
changed_fits (torn x y n b a) = x

pub changed_left : {c : Change} {s t : State} → Changed c s t (Ok tt)
    → (place : ℕ) → first c ≤ place → place < first c + span c → at t place ≡ left s c
changed_left (past x e a) = not_refused refl a
changed_left (off x y e a) = not_refused refl a
changed_left (finished x y n b w a) = w
changed_left (torn x y n b a) = not_refused refl a

-- where the changes of a list lie
pub within_append : (lo hi : ℕ) (cs ds : List Change) → Within lo hi cs → Within lo hi ds → Within lo hi (cs ++ ds)
within_append lo hi [] ds a b = b
within_append lo hi (c ∷ cs) ds a b = (a.0, within_append lo hi cs ds a.1 b)

pub writes_within : (lo hi place : ℕ) (bytes : List ℕ) → lo ≤ place → place + length bytes ≤ hi → Within lo hi (writes place bytes)
writes_within lo hi place [] a b = tt
writes_within lo hi place (byte ∷ bytes) a b =
    ((a, omega arith), writes_within lo hi (place + 1) bytes (omega arith) (omega arith))

pub erases_within : (lo hi segment n : ℕ) → lo ≤ 512 * segment → 512 * (segment + n) ≤ hi → Within lo hi (erases segment n)
erases_within lo hi segment zero a b = tt
erases_within lo hi segment (suc n) a b =
    ((a, omega arith), erases_within lo hi (segment + 1) n (omega arith) (omega arith))

-- an empty list changes nothing
pub nothing_ran : {M : Type 0} {make : Make M} {m n : M} {r : End} → Ran make [] m n r → (n ≡ m) × (r ≡ Ok tt)
nothing_ran (none e a) = (e, a)

-- the same run, of an equal list or with an equal end
module _ {M : Type 0} {make : Make M} {m n : M} where
  pub ran_as : {cs ds : List Change} {r : End} → cs ≡ ds → Ran make cs m n r → Ran make ds m n r
  ran_as {r = r} = subst (λ cs. Ran make cs m n r)

  pub ran_to : {cs : List Change} {r q : End} → r ≡ q → Ran make cs m n r → Ran make cs m n q
  ran_to {cs = cs} = subst (λ r. Ran make cs m n r)

-- a list in two parts stops in the first, or goes on to the second
pub data Split {M : Type 0} (make : Make M) (cs ds : List Change) (m n : M) (r : End) : Type 0 where
  early : (f : Fault) → r ≡ Err f → Ran make cs m n r → Split make cs ds m n r
  late : {o : M} → Ran make cs m o (Ok tt) → Ran make ds o n r → Split make cs ds m n r

pub split : {M : Type 0} {make : Make M} (cs ds : List Change) {m n : M} {r : End} → Ran make (cs ++ ds) m n r → Split make cs ds m n r
split [] ds h = late (none refl refl) h
split (c ∷ cs) ds (stop f h a) = early f a (stop f h a)
split {make = make} (c ∷ cs) ds {m} {n} {r} (more {n = o} h rest) = step (split cs ds rest)
  where
    step : Split make cs ds o n r → Split make (c ∷ cs) ds m n r
    step (early f e u) = early f e (more h u)
    step (late u v) = late (more h u) v

module _ {M : Type 0} {make : Make M} (laws : Laws make) where
  abbrev known : M → State
  known = make.state

  -- a finished change ends at place 53,760 at most
  pub finished_low : {c : Change} {m n : M} → make.changes c m n (Ok tt) → first c + span c ≤ 53760
  finished_low {c} {m} {n} h =
      let law = laws.lawful m in
      omega (arith, changed_fits (laws.change c m n (Ok tt) h), law.few, law.whole)

  -- a list leaves the size as it was
  pub ran_size : {cs : List Change} {m n : M} {r : End} → Ran make cs m n r → size (known n) ≡ size (known m)
  ran_size (none e a) = ap (λ v. size (known v)) e
  ran_size (stop {c = c} {m = m} {n = n} f h a) = (changed_apart (laws.change c m n _ h)).size
  ran_size (more {c = c} {m = m} {n = n} h rest) = ran_size rest ∙ (changed_apart (laws.change c m n _ h)).size

  -- and every place outside its changes
  pub ran_apart : {cs : List Change} {m n : M} {r : End} → Ran make cs m n r → (lo hi : ℕ) → Within lo hi cs
      → Apart lo hi (known m) (known n)
  ran_apart (none e a) lo hi w = apart_same (ap known e)
  ran_apart (stop {c = c} {m = m} {n = n} f h a) lo hi w =
      apart_wider w.0.0 w.0.1 (changed_apart (laws.change c m n _ h))
  ran_apart (more {c = c} {m = m} {n = n} h rest) lo hi w =
      apart_then (apart_wider w.0.0 w.0.1 (changed_apart (laws.change c m n _ h))) (ran_apart rest lo hi w.1)

  -- one write more before the others
  written_more : (place byte : ℕ) (bytes : List ℕ) (m o n : M) → make.changes (write place byte) m o (Ok tt)
      → at (known n) place ≡ at (known o) place → Written (place + 1) bytes (known o) (known n) → Written place (byte ∷ bytes) (known m) (known n)
  written_more place byte bytes m o n h kept rest zero lt =
      let c = laws.change (write place byte) m o (Ok tt) h in
      ap (at (known n)) (add-zero place)
      ∙ kept
      ∙ changed_left c place (omega arith) (omega arith)
      ∙ ap (λ q. (known m).mix (at (known m) q) byte) (sym (add-zero place))
  written_more place byte bytes m o n h kept rest (suc i) lt =
      let aside = changed_apart (laws.change (write place byte) m o (Ok tt) h) in
      let next : place + 1 + i ≡ place + suc i = omega arith in
      ap (at (known n)) (sym next)
      ∙ rest i (omega arith)
      ∙ (λ k. aside.mix k (aside.outside (place + 1 + i) (inr (omega arith)) k) (get_or bytes i 0))
      ∙ ap (λ q. (known m).mix (at (known m) q) (get_or bytes i 0)) next

  -- what comes after a place leaves it alone
  writes_above : (place : ℕ) (bytes : List ℕ) {m n : M} {r : End} → Ran make (writes (place + 1) bytes) m n r
      → at (known n) place ≡ at (known m) place
  writes_above place bytes h =
      (ran_apart h (place + 1) (place + 1 + length bytes) (writes_within (place + 1) _ (place + 1) bytes (omega arith) (omega arith))).outside place (inl (omega arith))

  all_written : (bytes : List ℕ) (place : ℕ) {m n : M} {r : End}
      → Ran make (writes place bytes) m n r → r ≡ Ok tt → Written place bytes (known m) (known n)
  all_written [] place h ok i lt = absurd (omega arith)
  all_written (byte ∷ bytes) place (stop f h a) ok i lt = not_refused ok a
  all_written (byte ∷ bytes) place {m} {n} (more {n = o} h rest) ok i lt =
      written_more place byte bytes m o n h (writes_above place bytes rest) (all_written bytes (place + 1) rest ok) i lt

  -- the place at which the supply was lost
  lost_at : {c : Change} {m n : M} {r : End} (p : ℕ) → make.changes c m n r → r ≡ Err (SupplyLost p) → p ≡ first c
  lost_at {c} {m} {n} {r} p h is = by (laws.change c m n r h)
    where
      by : Changed c (known m) (known n) r → p ≡ first c
      by (past x e a) = absurd cc
      by (off x y e a) = cc
      by (finished x y u b w a) = not_refused a is
      by (torn x y u b a) = cc

  writing_lost : (bytes : List ℕ) (place : ℕ) {m n : M} {r : End} (p : ℕ)
      → Ran make (writes place bytes) m n r → r ≡ Err (SupplyLost p) → WritingLost place bytes p (known m) (known n)
  writing_lost [] place p (none e a) is = not_refused a is
  writing_lost (byte ∷ bytes) place {m} {n} p (stop f h a) is =
      let here : p ≡ place = lost_at p h is in
      record {
        count = 0;
        here = omega arith;
        within = omega arith;
        written = λ i lt. absurd (omega arith);
        later = λ q lt. (changed_apart (laws.change (write place byte) m n _ h)).outside q (inr (omega arith));
      }
  writing_lost (byte ∷ bytes) place {m} {n} p (more {n = o} h rest) is =
      let next = writing_lost bytes (place + 1) p rest is in
      let here : p ≡ place + 1 + next.count = next.here in
      record {
        count = suc next.count;
        here = omega arith;
        within = omega (arith, next.within);
        written = written_more place byte (take next.count bytes) m o n h (writes_above place bytes rest) next.written;
        later = λ q lt. next.later q lt ∙ (changed_apart (laws.change (write place byte) m o (Ok tt) h)).outside q (inr (omega arith));
      }

  -- one segment more before the others
  erased_more : (segment n : ℕ) (m o k : M) → make.changes (erase segment) m o (Ok tt)
      → ((q : ℕ) → q < 512 * (segment + 1) → at (known k) q ≡ at (known o) q) → Erased (segment + 1) n (known k) → Erased segment (suc n) (known k)
  erased_more segment n m o k h kept rest q l u =
      ⊎_elim
      (λ here. kept q (omega arith) ∙ changed_left (laws.change (erase segment) m o (Ok tt) h) q l (omega arith))
      (λ above. rest q (omega arith) (omega arith))
      (cases_lt q (512 * segment + 512))

  erases_above : (segment n : ℕ) {m o : M} {r : End} → Ran make (erases (segment + 1) n) m o r
      → (q : ℕ) → q < 512 * (segment + 1) → at (known o) q ≡ at (known m) q
  erases_above segment n h q lt =
      (ran_apart h (512 * (segment + 1)) (512 * (segment + 1 + n)) (erases_within _ _ (segment + 1) n (omega arith) (omega arith))).outside q (inl lt)

  all_erased : (n segment : ℕ) {m o : M} {r : End} → Ran make (erases segment n) m o r → r ≡ Ok tt → Erased segment n (known o)
  all_erased zero segment h ok q l u = absurd (omega arith)
  all_erased (suc n) segment (stop f h a) ok q l u = not_refused ok a
  all_erased (suc n) segment {m} {o} (more {n = k} h rest) ok q l u =
      erased_more segment n m k o h (erases_above segment n rest) (all_erased n (segment + 1) rest ok) q l u

  erasing_lost : (n segment : ℕ) {m o : M} {r : End} (p : ℕ)
      → Ran make (erases segment n) m o r → r ≡ Err (SupplyLost p) → ErasingLost segment n p (known m) (known o)
  erasing_lost zero segment p (none e a) is = not_refused a is
  erasing_lost (suc n) segment {m} {o} p (stop f h a) is =
      let here : p ≡ 512 * segment = lost_at p h is in
      record {
        count = 0;
        here = omega arith;
        within = omega arith;
        erased = λ q l u. absurd (omega arith);
        later = λ q lt. (changed_apart (laws.change (erase segment) m o _ h)).outside q (inr (omega arith));
      }
  erasing_lost (suc n) segment {m} {o} p (more {n = k} h rest) is =
      let next = erasing_lost n (segment + 1) p rest is in
      let here : p ≡ 512 * (segment + 1 + next.count) = next.here in
      record {
        count = suc next.count;
        here = omega arith;
        within = omega (arith, next.within);
        erased = erased_more segment next.count m k o h (erases_above segment n rest) next.erased;
        later = λ q lt. next.later q lt ∙ (changed_apart (laws.change (erase segment) m k (Ok tt) h)).outside q (inr (omega arith));
      }

  -- bytes that were written over erased places stand there
  pub stand : (place : ℕ) (bytes : List ℕ) (m : M) (t : State) → ((i : ℕ) → get_or bytes i 0 < 256) → Written place bytes (known m) t
      → ((i : ℕ) → i < length bytes → at (known m) (place + i) ≡ 0xFF) → (i : ℕ) → i < length bytes → at t (place + i) ≡ get_or bytes i 0
  stand place bytes m t small w blank i lt =
      w i lt ∙ ap (λ old. (known m).mix old (get_or bytes i 0)) (blank i lt) ∙ (laws.lawful m).erased (get_or bytes i 0) (small i)

  pub wrote : (place : ℕ) (bytes : List ℕ) {m n : M} {r : End} → Ran make (writes place bytes) m n r → Wrote make place bytes m n r
  wrote place bytes h = record {
    ran = h;
    apart = ran_apart h place (place + length bytes) (writes_within place _ place bytes (omega arith) (omega arith));
    finished = all_written bytes place h;
    lost = λ p. writing_lost bytes place p h;
  }

  pub cleared : (segment n : ℕ) {m o : M} {r : End} → Ran make (erases segment n) m o r → Cleared make segment n m o r
  cleared segment n h = record {
    ran = h;
    apart = ran_apart h (512 * segment) (512 * (segment + n)) (erases_within _ _ segment n (omega arith) (omega arith));
    finished = all_erased n segment h;
    lost = λ p. erasing_lost n segment p h;
  }
