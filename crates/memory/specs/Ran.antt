-- Changes made in turn.
use Rattle.std.specs.Prelude.{◌≡◌, ℕ, zero, suc, ◌+◌, ◌*◌, ◌<◌, ◌≤◌, List, [], ◌∷◌, length, take, Ok, Err, slice_index}
use Rattle.memory.specs.State.{State, at}
use Rattle.memory.specs.Change.{Change, write, erase, first, span, End, Apart}
use Rattle.memory.specs.Make.{Make}
use Rattle.memory.specs.declared.Fault.{Fault}
use Rattle.memory.specs.declared.Fault.TheVariants.{SupplyLost}

-- changes made in turn until one is refused
pub data Ran {M : Type 0} (make : Make M) : List Change → M → M → End → Type 0 where
  none : {m n : M} {r : End} → n ≡ m → r ≡ Ok tt → Ran make [] m n r
  stop : {c : Change} {cs : List Change} {m n : M} {r : End} (f : Fault) → make.changes c m n r → r ≡ Err f → Ran make (c ∷ cs) m n r
  more : {c : Change} {cs : List Change} {m n o : M} {r : End} → make.changes c m n (Ok tt) → Ran make cs n o r → Ran make (c ∷ cs) m o r

-- bytes written one after the other from a place up
abbrev pub writes : ℕ → List ℕ → List Change
writes place [] = []
writes place (byte ∷ bytes) = write place byte ∷ writes (place + 1) bytes

-- n segments erased one after the other from one up
abbrev pub erases : ℕ → ℕ → List Change
erases segment zero = []
erases segment (suc n) = erase segment ∷ erases (segment + 1) n

-- each change of a list touches only places from lo up and below hi
abbrev pub Within : (lo hi : ℕ) → List Change → Type 0
Within lo hi [] = Unit {0}
Within lo hi (c ∷ cs) = ((lo ≤ first c) × (first c + span c ≤ hi)) × Within lo hi cs

-- each of these bytes, from a place up, was mixed into the one that stood there
abbrev pub Written : ℕ → List ℕ → State → State → Type 0
Written place bytes s t =
    (i : ℕ) → i < length bytes → at t (place + i) ≡ s.mix (at s (place + i)) (slice_index bytes i)

-- the n segments from one up read erased
abbrev pub Erased : ℕ → ℕ → State → Type 0
Erased segment n s = (q : ℕ) → 512 * segment ≤ q → q < 512 * (segment + n) → at s q ≡ 0xFF

-- the supply was lost at a place p: so many of the writes had finished, the next one is the one at p, and no later one was begun
pub record WritingLost (place : ℕ) (bytes : List ℕ) (p : ℕ) (s t : State) : Type 0 where
  pub count : ℕ
  pub here : p ≡ place + count
  pub within : count < length bytes
  pub written : Written place (take count bytes) s t
  pub later : (q : ℕ) → p < q → at t q ≡ at s q

-- the same of a run of erases
pub record ErasingLost (segment n p : ℕ) (s t : State) : Type 0 where
  pub count : ℕ
  pub here : p ≡ 512 * (segment + count)
  pub within : count < n
  pub erased : Erased segment count t
  pub later : (q : ℕ) → p + 512 ≤ q → at t q ≡ at s q

-- bytes were written from a place up until one write was refused, and no other place was touched
pub record Wrote {M : Type 0} (make : Make M) (place : ℕ) (bytes : List ℕ) (m n : M) (r : End) : Type 0 where
  pub ran : Ran make (writes place bytes) m n r
  pub apart : Apart place (place + length bytes) (make.state m) (make.state n)
  pub finished : r ≡ Ok tt → Written place bytes (make.state m) (make.state n)
  pub lost : (p : ℕ) → r ≡ Err (SupplyLost p) → WritingLost place bytes p (make.state m) (make.state n)

-- segments were erased from one up until one was refused, and no other place was touched
pub record Cleared {M : Type 0} (make : Make M) (segment count : ℕ) (m n : M) (r : End) : Type 0 where
  pub ran : Ran make (erases segment count) m n r
  pub apart : Apart (512 * segment) (512 * (segment + count)) (make.state m) (make.state n)
  pub finished : r ≡ Ok tt → Erased segment count (make.state n)
  pub lost : (p : ℕ) → r ≡ Err (SupplyLost p) → ErasingLost segment count p (make.state m) (make.state n)
