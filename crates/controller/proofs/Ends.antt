-- How the changes of a call end: the supply with them, and never past the end of a memory of the right size.
use Rattle.std.proofs.Common.{◌≡◌, ℕ, ◌+◌, ◌≤◌, true, false, List, Ok, Err, Result, sym, refl, ap, ◌∙◌, arith}
use Rattle.std.specs.Result.{MatchResult, IsOkAnd, result_map_both}
use Rattle.memory.specs.State.{State, size}
use Rattle.memory.specs.Change.{Change, End, Changed, past, off, finished, torn}
use Rattle.memory.specs.Make.{Make, Laws}
use Rattle.memory.specs.Ran.{Ran, none, stop, more, Within}
use Rattle.memory.specs.declared.Fault.TheVariants as F
use Rattle.memory.proofs.Effects.{not_refused, changed_apart}
use Rattle.area.specs.Reads.{reads}
use Rattle.area.proofs.Starting.{one_area}
use Rattle.layout.specs.Areas.{part}
use Rattle.rule.specs.Performed.{Performed, ended}
use Rattle.rule.proofs.Areas.{part_length, part_at}
use Rattle.words.specs.declared.Job.{Job}
use Rattle.words.specs.declared.Refusal.{Refusal}
use Rattle.words.specs.declared.Refusal.TheVariants.{SupplyLost}

-- an area within the memory is what is read there
pub reads_part : (s : State) (place count : ℕ) → place + count ≤ size s → part place count s.bytes ≡ reads s place count
reads_part s place count h =
    (one_area s place count (part place count s.bytes)).0 (record { length = part_length place count s.bytes h; bytes = part_at place count s.bytes })

-- a refusal for its place is no loss of supply
past_not_lost : {A : Type 0} {r : End} {place : ℕ} → r ≡ Err F.PastEnd → r ≡ Err (F.SupplyLost place) → A
past_not_lost e g = absurd cc

module _ {M : Type 0} {make : Make M} (laws : Laws make) where
  -- changes within the memory are not refused for their places
  pub not_past : {cs : List Change} {m n : M} {r : End} (lo hi : ℕ) → Within lo hi cs → hi ≤ size (make.state m) → Ran make cs m n r → r ≡ Err F.PastEnd → ⊥
  not_past lo hi w h (none e a) is = not_refused a is
  not_past lo hi w h (stop {c = c} {m = m} {n = n} {r = r} f d a) is = by (laws.change c m n r d)
    where
      by : Changed c (make.state m) (make.state n) r → ⊥
      by (past x e b) = omega (arith, w.0.1)
      by (off x y e b) = past_not_lost is b
      by (finished x y z b v u) = not_refused u is
      by (torn x y z b u) = past_not_lost is u
  not_past lo hi w h (more {c = c} {m = m} {n = n} d rest) is =
      let e = (changed_apart (laws.change c m n _ d)).size in
      not_past lo hi w.1 (omega arith) rest is

  -- the supply stays on while changes finish, and is off once it was lost
  pub ran_on : {cs : List Change} {m n : M} {r : End} → Ran make cs m n r → r ≡ Ok tt → (make.state m).on ≡ true → (make.state n).on ≡ true
  ran_on (none e a) is on = ap (λ v. (make.state v).on) e ∙ on
  ran_on (stop f d a) is on = not_refused is a
  ran_on (more {c = c} {m = m} {n = n} d rest) is on = ran_on rest is (by (laws.change c m n _ d))
    where
      by : Changed c (make.state m) (make.state n) (Ok tt) → (make.state n).on ≡ true
      by (past x e b) = not_refused refl b
      by (off x y e b) = not_refused refl b
      by (finished x y z b v u) = z
      by (torn x y z b u) = not_refused refl u

  pub ran_off : {cs : List Change} {m n : M} {r : End} (place : ℕ) → Ran make cs m n r → r ≡ Err (F.SupplyLost place) → (make.state n).on ≡ false
  ran_off place (none e a) is = not_refused a is
  ran_off place (stop {c = c} {m = m} {n = n} {r = r} f d a) is = by (laws.change c m n r d)
    where
      by : Changed c (make.state m) (make.state n) r → (make.state n).on ≡ false
      by (past x e b) = past_not_lost b is
      by (off x y e b) = ap (λ s. s.on) e ∙ y
      by (finished x y z b v u) = not_refused u is
      by (torn x y z b u) = z
  ran_off place (more d rest) is = ran_off place rest is

-- equal refusals
pub err_same : {X : Type 0} {e d : Refusal} → ◌≡◌ {A = Result X Refusal} (Err e) (Err d) → e ≡ d
err_same {X} {e} {d} h = ap (λ (r : Result X Refusal). elim r [ Ok _ ↦ e | Err x ↦ x ]) h

pub ok_same : {X : Type 0} {x y : X} → ◌≡◌ {A = Result X Refusal} (Ok x) (Ok y) → x ≡ y
ok_same {X} {x} h = ap (λ (r : Result X Refusal). elim r [ Ok v ↦ v | Err _ ↦ x ]) h

pub ok_not_err : {A X : Type 0} {x : X} {e : Refusal} → ◌≡◌ {A = Result X Refusal} (Ok x) (Err e) → A
ok_not_err h = absurd cc

-- changes within the memory, told as a call tells them: all have finished, or the supply was lost
pub data ToldEnd {M X : Type 0} (make : Make M) (cs : List Change) (job : ℕ → Job) (x : X) (m n : M) (r : Result X Refusal) : Type 0 where
  all : Ran make cs m n (Ok tt) → r ≡ Ok x → ToldEnd make cs job x m n r
  lost : (place : ℕ) → Ran make cs m n (Err (F.SupplyLost place)) → r ≡ Err (SupplyLost place (job place)) → ToldEnd make cs job x m n r

pub told_end : {M X : Type 0} {make : Make M} (laws : Laws make) {cs : List Change} {job : ℕ → Job} {x : X} {m n : M} {r : Result X Refusal} (lo hi : ℕ)
    → Within lo hi cs → hi ≤ size (make.state m) → Performed make cs job x m n r → ToldEnd make cs job x m n r
told_end {M} {X} {make} laws {cs} {job} {x} {m} {n} {r} lo hi w h done = by done.end done.ran done.told
  where
    by : (end : End) → Ran make cs m n end → r ≡ ended job x end → ToldEnd make cs job x m n r
    by (Ok tt) ran told = all ran told
    by (Err F.PastEnd) ran told = absurd (not_past laws lo hi w h ran refl)
    by (Err (F.SupplyLost place)) ran told = lost place ran told

-- a result with its value told by a function
pub mapped : {X Y E : Type 0} (f : X → Y) (r : Result X E) (o : Result Y E)
    → MatchResult r (λ x. IsOkAnd o (λ y. y ≡ f x)) (λ e. o ≡ Err e) → result_map_both f (λ e. e) r ≡ o
mapped f (Ok x) (Ok y) h = ap Ok (sym h)
mapped f (Ok x) (Err _) h = elim h [ ]
mapped f (Err e) o h = sym h
