-- Download segments copied one after the other, each read from the memory as it then is.
use denote.Param.Members.{Mut}
use Rattle.std.proofs.Common.{◌≡◌, ℕ, zero, suc, ⊎_elim, ◌+◌, ◌-◌, ◌*◌, ◌<◌, ◌≤◌, List, [], ◌∷◌, ◌++◌, length, get_or, Ok, Err, sym, refl, ap, ◌∙◌, subst, inl, arith}
use Rattle.std.specs.Array.{IsFromFnResult, IsFromFnResultFrom}
use Rattle.std.specs.Fn.{Called}
use Rattle.std.proofs.lemmas.Bool.{cases_lt}
use Rattle.std.proofs.lemmas.List.{ext_get_or, get_or_default}
use Rattle.memory.specs.State.{at, size}
use Rattle.memory.specs.Change.{Change, erase, End}
use Rattle.memory.specs.Make.{Make, Laws}
use Rattle.memory.specs.Ran.{Ran, none, stop, more, writes, Within}
use Rattle.memory.specs.declared.Fault.{Fault}
use Rattle.memory.proofs.Effects.{not_refused, ran_as, ran_size, ran_apart, writes_within}
use Rattle.memory.proofs.Turns.{Leads, leads_end}
use Rattle.layout.specs.Areas.{part, size as whole_size}
use Rattle.layout.specs.declared.divided.Layout.{Layout}
use Rattle.rule.specs.Restart.{copy, copies}
use Rattle.rule.proofs.Areas.{part_length, part_at, part_same}
use Rattle.mending.specs.Mended.{segment_copy}

-- one list after the other
module _ {M : Type 0} {make : Make M} where
  pub ran_then : {cs ds : List Change} {m k n : M} {r : End} → Ran make cs m k (Ok tt) → Ran make ds k n r → Ran make (cs ++ ds) m n r
  ran_then {ds = ds} {n = n} {r = r} (none e a) t = subst (λ v. Ran make ds v n r) e t
  ran_then (stop f h a) t = not_refused refl a
  ran_then (more h u) t = more h (ran_then u t)

  pub ran_stopped : {cs : List Change} (ds : List Change) {m n : M} (f : Fault) → Ran make cs m n (Err f) → Ran make (cs ++ ds) m n (Err f)
  ran_stopped ds f (none e a) = not_refused a refl
  ran_stopped ds f (stop g h a) = stop g h a
  ran_stopped ds f (more h t) = more h (ran_stopped ds f t)

-- a buffer that was read byte by byte is the part
pub part_read : (xs buffer : List ℕ) (from : ℕ) → length buffer ≡ 512 → from + 512 ≤ length xs
    → ((i : ℕ) → i < 512 → get_or buffer i 0 ≡ get_or xs (from + i) 0xFF) → buffer ≡ part from 512 xs
part_read xs buffer from long h read =
    ext_get_or 0xFF buffer (part from 512 xs) (long ∙ sym (part_length from 512 xs h)) (λ i lt.
    get_or_default buffer i 0xFF 0 lt ∙ read i (omega arith) ∙ sym (part_at from 512 xs i (omega arith)))

-- an array whose elements a closure that computes h made
made_from : {F : Type 0} (g : Mut F (ℕ × Unit {0}) ℕ) (h : ℕ → ℕ) (f : F) → ((k r : ℕ) (q : F) → Called g f (k, tt) r q → (r ≡ h k) × (q ≡ f))
    → (ys : List ℕ) (i n : ℕ) → IsFromFnResultFrom g f ys i n → (k : ℕ) → i ≤ k → k < i + n → get_or ys k 0 ≡ h k
made_from g h f calls ys i zero made k a b = absurd (omega arith)
made_from g h f calls ys i (suc n) (q, y, is, called, rest) k a b =
    let c = calls i y q called in
    ⊎_elim
    (λ (later : i < k).
    made_from g h f calls ys (i + 1) n (subst (λ p. IsFromFnResultFrom g p ys (i + 1) n) c.1 rest) k (omega arith) (omega arith))
    (λ (here : k ≤ i).
    let same : i ≡ k = omega arith in
    subst (λ j. get_or ys j 0 ≡ h j) same (is.1 0 ∙ c.0))
    (cases_lt i k)

pub made_by : {F : Type 0} {g : Mut F (ℕ × Unit {0}) ℕ} {f : F} {ys : List ℕ} {n : ℕ} → IsFromFnResult g f ys n → (h : ℕ → ℕ)
    → ((k r : ℕ) (q : F) → Called g f (k, tt) r q → (r ≡ h k) × (q ≡ f)) → (k : ℕ) → k < n → get_or ys k 0 ≡ h k
made_by {g = g} {f = f} {ys = ys} {n = n} made h calls k lt = made_from g h f calls ys 0 n made.each k (omega arith) (omega arith)

copies_next : (l : Layout) (xs : List ℕ) (n i : ℕ) → i < n → copies l xs i (n - i) ≡ copy l xs i ++ copies l xs (i + 1) (n - (i + 1))
copies_next l xs n i h = let e : n - i ≡ suc (n - (i + 1)) = omega arith in ap (copies l xs i) e

copies_end : (l : Layout) (xs : List ℕ) (n i : ℕ) → n ≤ i → copies l xs i (n - i) ≡ []
copies_end l xs n i h = let e : n - i ≡ 0 = omega arith in ap (copies l xs i) e

-- i segments have been copied, from the memory start to the memory m
pub record Copying {M : Type 0} (make : Make M) (l : Layout) (start : M) (i : ℕ) (m : M) : Type 0 where
  pub long : size (make.state m) ≡ whole_size l
  pub kept : (q : ℕ) → q < 512 * (1 + l.k) → at (make.state m) q ≡ at (make.state start) q
  pub leads : Leads make (copies l (make.state start).bytes 0 l.k) start (copies l (make.state start).bytes i (l.k - i)) m

module _ {M : Type 0} {make : Make M} (laws : Laws make) (l : Layout) (start : M) (fits : size (make.state start) ≡ whole_size l) where
  abbrev xs : List ℕ
  xs = (make.state start).bytes

  pub copying_none : Copying make l start 0 start
  copying_none =
      let e : l.k - 0 ≡ l.k = omega arith in
      record { long = fits; kept = λ q h. refl; leads = λ n r h. subst (λ j. Ran make (copies l xs 0 j) start n r) e h }

  module _ (i k : ℕ) (is : k ≡ l.k) (less : i < k) (m : M) (now : Copying make l start i m) where
    same : (n : M) (r : End) → Ran make (segment_copy (1 + i) (1 + k + i) (make.state m).bytes) m n r → Ran make (copy l xs i) m n r
    same n r h =
        let long = now.long in
        let from = 512 * (1 + i) in
        let a = part_length from 512 (make.state m).bytes (omega arith) in
        let b = part_length from 512 xs (omega arith) in
        let e = part_same from from 512 xs (make.state m).bytes (a ∙ sym b) (λ q lt. now.kept (from + q) (omega arith)) in
        let P : List ℕ → Type 0 = λ bytes. Ran make (erase (1 + l.k + i) ∷ writes (512 * (1 + l.k + i)) bytes) m n r in
        subst P e (subst (λ j. Ran make (segment_copy (1 + i) (1 + j + i) (make.state m).bytes) m n r) is h)

    next : copies l xs i (l.k - i) ≡ copy l xs i ++ copies l xs (i + 1) (l.k - (i + 1))
    next = copies_next l xs l.k i (omega arith)

    pub copying_more : (n : M) → Ran make (segment_copy (1 + i) (1 + k + i) (make.state m).bytes) m n (Ok tt) → Copying make l start (i + 1) n
    copying_more n h =
        let ran = same n (Ok tt) h in
        let lo = 512 * (1 + l.k + i) in
        let hi = 512 * (1 + l.k + (i + 1)) in
        let e = part_length (512 * (1 + i)) 512 xs (omega arith) in
        let within : Within lo hi (copy l xs i) = ((omega arith, omega arith), writes_within lo hi _ _ (omega arith) (omega arith)) in
        record {
          long = ran_size laws ran ∙ now.long;
          kept = λ q lt. (ran_apart laws ran lo hi within).outside q (inl (omega arith)) ∙ now.kept q lt;
          leads = λ o r rest. now.leads o r (ran_as (sym next) (ran_then ran rest));
        }

    pub copying_stopped : (n : M) (f : Fault) → Ran make (segment_copy (1 + i) (1 + k + i) (make.state m).bytes) m n (Err f)
        → Ran make (copies l xs 0 l.k) start n (Err f)
    copying_stopped n f h = now.leads n (Err f) (ran_as (sym next) (ran_stopped _ f (same n (Err f) h)))

  pub copying_all : (i : ℕ) (m : M) → l.k ≤ i → Copying make l start i m → Ran make (copies l xs 0 l.k) start m (Ok tt)
  copying_all i m h c = leads_end (copies_end l xs l.k i h) c.leads
