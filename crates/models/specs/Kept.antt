-- Proof: a simulated memory shows what every make of memory has to show, whatever its technology.
use Rattle.std.specs.Prelude.{◌≡◌, ℕ, ◌+◌, ◌-◌, ◌*◌, ◌/◌, ◌%◌, ◌<◌, ◌≤◌, min, true, false, ◌≢◌, ◌⊎◌, List, length, get_or, take, drop, replicate, nat_lt, slice_index, slice_index_or, slice_set, refl, Option, Some, None, Ok, Err}
use Rattle.std.proofs.Common.{sym, ap, subst, ◌∙◌, ⊎_elim, arith, length-set, length-take, length-drop, ltb-true, ltb-false}
use Rattle.std.proofs.lemmas.Bool.{cond_both, cases_lt}
use Rattle.std.proofs.lemmas.List.{get_or-set_same, get_or-set_other, get_or-replicate, length-replicate}
use Rattle.memory.specs.Change.{Change, write, erase, first, span, left, End, Apart, Changed}
use Rattle.memory.specs.Change.{past as is_past, off as is_off, finished as is_finished, torn as is_torn}
use Rattle.memory.specs.Make.{Laws}
use Rattle.models.specs.Cells.{Cells, Sound}
use Rattle.models.specs.Simulated.{room, view, Fate, due, fate, put, done, torn, met, changed, known, simulated, CarriesAByte}
use Rattle.models.specs.Views.{room_within, room_same, length-view, get_or-view, get_or-view_past, view_bytes}
use Rattle.models.specs.Views.{length-put, get_or-put_below, get_or-put_here, get_or-put_above}
use Rattle.memory.specs.declared.Fault.TheVariants.{PastEnd, SupplyLost}
use Rattle.models.specs.declared.simulated.Simulated.{Simulated}

-- the tests behind each fate
data Fated {C : Type 0} (place n : ℕ) (m : Simulated C) (f : Fate) : Type 0 where
  past : room m.bytes.now < place + n → f ≡ Err PastEnd → Fated place n m f
  off : place + n ≤ room m.bytes.now → m.on ≡ false → f ≡ Err (SupplyLost place) → Fated place n m f
  begun : (torn_by : Option ℕ) → place + n ≤ room m.bytes.now → m.on ≡ true → torn_by ≡ due m.cuts.now m.finished → f ≡ Ok torn_by → Fated place n m f

fated : {C : Type 0} (place n : ℕ) (m : Simulated C) → Fated place n m (fate place n m)
fated place n m =
    let P : Fate → Type 0 = Fated place n m in
    cond_both (nat_lt (room m.bytes.now) (place + n)) (Err PastEnd) _ P (λ e. past (ltb-true _ _ e) refl)
    (λ e. let fits = ltb-false _ _ e in
    cond_both m.on _ (Err (SupplyLost place)) P (λ on. begun _ fits on refl refl) (λ on. off fits on refl))

-- a change puts something in its own places
data Touched (bytes : List ℕ) : Change → List ℕ → Type 0 where
  one : {place byte : ℕ} (v : ℕ) → Touched bytes (write place byte) (slice_set bytes place v)
  segment : {i : ℕ} (s : List ℕ) → length s ≡ 512 → Touched bytes (erase i) (put bytes (512 * i) s)

module _ {bytes : List ℕ} where
  touched_length : {c : Change} {after : List ℕ} → Touched bytes c after → first c + span c ≤ length bytes → length after ≡ length bytes
  touched_length (one {place = place} v) fits = length-set bytes place v
  touched_length (segment {i = i} s long) fits = length-put bytes (512 * i) s fits long

  touched_other : {c : Change} {after : List ℕ} → Touched bytes c after → first c + span c ≤ length bytes
      → (q : ℕ) → (q < first c) ⊎ (first c + span c ≤ q) → slice_index after q ≡ slice_index bytes q
  touched_other (one {place = place} v) fits q o =
      let other : q ≢ place = ⊎_elim (λ x. λ e. omega arith) (λ x. λ e. omega arith) o in
      get_or-set_other bytes place q v 0 other
  touched_other (segment {i = i} s long) fits q o =
      ⊎_elim (get_or-put_below bytes (512 * i) s fits long 0 q) (get_or-put_above bytes (512 * i) s fits long 0 q) o

-- lists that agree at a place are known to agree there
view_same : (xs ys : List ℕ) (q : ℕ) → length ys ≡ length xs → slice_index ys q ≡ slice_index xs q → slice_index_or (view ys) q 0xFF ≡ slice_index_or (view xs) q 0xFF
view_same xs ys q long e =
    let same = room_same xs ys long in
    ⊎_elim
    (λ h. get_or-view ys q 0xFF (omega arith) ∙ ap (λ byte. byte % 256) e ∙ sym (get_or-view xs q 0xFF h))
    (λ h. get_or-view_past ys q (omega arith) ∙ sym (get_or-view_past xs q h))
    (cases_lt q (room xs))

module _ (cells : Cells) (sound : Sound cells) where
  done_touched : (c : Change) (bytes : List ℕ) → Touched bytes c (done cells c bytes)
  done_touched (write place byte) bytes = one _
  done_touched (erase i) bytes = segment (replicate 512 0xFF) (length-replicate {A = ℕ} 512 0xFF)

  torn_touched : (pattern : ℕ) (c : Change) (bytes : List ℕ) → first c + span c ≤ length bytes → Touched bytes c (torn cells pattern c bytes)
  torn_touched pattern (write place byte) bytes fits = one _
  torn_touched pattern (erase i) bytes fits =
      segment _ (sound.segment pattern (take 512 (drop (512 * i) bytes)) (simp (length-take, length-drop) (omega arith)))

  module _ {C : Type 0} (c : Change) (m n : Simulated C) (fits : first c + span c ≤ room m.bytes.now) where
    beside : Touched m.bytes.now c n.bytes.now → Apart (first c) (first c + span c) (known cells m) (known cells n)
    beside t =
        let xs = m.bytes.now in
        let ys = n.bytes.now in
        let within : first c + span c ≤ length xs = omega (arith, room_within xs) in
        let long = touched_length t within in
        record {
          size = length-view ys ∙ room_same xs ys long ∙ sym (length-view xs);
          mix = refl;
          outside = λ q o. view_same xs ys q long (touched_other t within q o);
        }

  -- what a finished change leaves at its own places
  left_done : {C : Type 0} (c : Change) (m : Simulated C) → CarriesAByte c → first c + span c ≤ room m.bytes.now
      → (q : ℕ) → first c ≤ q → q < first c + span c → slice_index_or (view (done cells c m.bytes.now)) q 0xFF ≡ left (known cells m) c
  left_done (write place byte) m small fits q l u =
      let xs = m.bytes.now in
      let here : q ≡ place = omega arith in
      let v = cells.mix (slice_index xs place) byte in
      let same = room_same xs (slice_set xs place v) (length-set xs place v) in
      ap (λ k. get_or (view (slice_set xs place v)) k 0xFF) here
      ∙ get_or-view (slice_set xs place v) place 0xFF (omega arith)
      ∙ ap (λ b. b % 256) (get_or-set_same xs place v 0 (omega (arith, room_within xs)))
      ∙ sound.low_bits (slice_index xs place) byte small
      ∙ ap (λ old. cells.mix old byte) (sym (get_or-view xs place 0xFF (omega arith)))
  left_done (erase i) m small fits q l u =
      let xs = m.bytes.now in
      let blank : List ℕ = replicate 512 0xFF in
      let long = length-replicate {A = ℕ} 512 0xFF in
      let within : 512 * i + 512 ≤ length xs = omega (arith, room_within xs) in
      let same = room_same xs (put xs (512 * i) blank) (length-put xs (512 * i) blank within long) in
      get_or-view (put xs (512 * i) blank) q 0xFF (omega arith)
      ∙ ap (λ b. b % 256) (get_or-put_here xs (512 * i) blank within long 0 q l u ∙ get_or-replicate 512 (q - 512 * i) 0xFF 0 (omega arith))

  module _ {C : Type 0} where
    abbrev memory_of : Simulated C × End → Simulated C
    memory_of p = p.0

    abbrev end_of : Simulated C × End → End
    end_of p = p.1

    change : (c : Change) (m n : Simulated C) (r : End) → CarriesAByte c × ((n, r) ≡ changed cells c m)
        → Changed c (known cells m) (known cells n) r
    change c m n r h = by (fated (first c) (span c) m)
      where
        xs : List ℕ
        xs = m.bytes.now

        is : {f : Fate} → fate (first c) (span c) m ≡ f → (n, r) ≡ met cells f c m
        is e = h.1 ∙ ap (λ f. met cells f c m) e

        after : {f : Fate} → fate (first c) (span c) m ≡ f → n.bytes.now ≡ (memory_of (met cells f c m)).bytes.now
        after e = ap (λ p. (memory_of p).bytes.now) (is e)

        by : Fated (first c) (span c) m (fate (first c) (span c) m) → Changed c (known cells m) (known cells n) r
        by (past x e) = is_past (rw (length-view xs) x) (ap (known cells) (ap memory_of (is e))) (ap end_of (is e))
        by (off x on e) = is_off (rw (length-view xs) x) on (ap (known cells) (ap memory_of (is e))) (ap end_of (is e))
        by (begun (Some pattern) x on d e) = is_torn (rw (length-view xs) x) on (ap (λ p. (memory_of p).on) (is e))
            (beside c m n x (subst (Touched xs c) (sym (after e)) (torn_touched _ c xs (omega (arith, room_within xs))))) (ap end_of (is e))
        by (begun None x on d e) = is_finished (rw (length-view xs) x) on (ap (λ p. (memory_of p).on) (is e) ∙ on)
            (beside c m n x (subst (Touched xs c) (sym (after e)) (done_touched c xs)))
            (λ q l u. ap (λ ys. get_or (view ys) q 0xFF) (after e) ∙ left_done c m h.0 x q l u) (ap end_of (is e))

    pub simulated_laws : Laws (simulated cells {C = C})
    simulated_laws = record {
      change = change;
      restore = λ m n e. record { on = ap (λ x. x.on) e; bytes = ap (λ x. view x.bytes.now) e; mix = refl };
      lawful = λ m. record {
        segments = min 105 (length m.bytes.now / 512);
        few = omega arith;
        whole = length-view m.bytes.now;
        bytes = view_bytes m.bytes.now;
        erased = sound.erased;
      };
    }
