-- A change of a memory, and how it may come out.
use Rattle.std.specs.Prelude.{◌≡◌, ℕ, ◌+◌, ◌*◌, ◌<◌, ◌≤◌, true, false, ◌⊎◌, Ok, Err, Result, List, ◌++◌, codes, decimal}
use Rattle.memory.specs.State.{State, size, at}
use Rattle.memory.specs.declared.Fault.{Fault}
use Rattle.memory.specs.declared.Fault.TheVariants.{PastEnd, SupplyLost}

-- a byte written at a place, or a segment erased
pub data Change : Type 0 where
  write : (place byte : ℕ) → Change
  erase : (segment : ℕ) → Change

-- the first place that a change touches
abbrev pub first : Change → ℕ
first (write place byte) = place
first (erase segment) = 512 * segment

-- how many places it touches
abbrev pub span : Change → ℕ
span (write place byte) = 1
span (erase segment) = 512

-- the byte that it leaves at each of them once it has finished
abbrev pub left : State → Change → ℕ
left s (write place byte) = s.mix (at s place) byte
left s (erase segment) = 0xFF

-- how a change, or a list of changes, ends
abbrev pub End : Type 0
End = Result Unit Fault

-- the number of each refusal
abbrev pub fault_number : Fault → ℕ
fault_number (SupplyLost place) = 2
fault_number PastEnd = 3

-- what is printed of each
abbrev pub fault_text : Fault → List ℕ
fault_text (SupplyLost place) = codes "supply lost at " ++ decimal place
fault_text PastEnd = codes "past the end"

-- the places from lo up and below hi may have been touched; size, mixing and every other byte are as they were
pub record Apart (lo hi : ℕ) (s t : State) : Type 0 where
  pub size : size t ≡ size s
  pub mix : t.mix ≡ s.mix
  pub outside : (place : ℕ) → (place < lo) ⊎ (hi ≤ place) → at t place ≡ at s place

-- only the places that a change touches may differ
abbrev pub Beside : Change → State → State → Type 0
Beside c = Apart (first c) (first c + span c)

-- how a change may come out, in the order of the tests: past the end, with the supply off, finished, or torn. A torn change is
-- free in what it leaves at the places that it touches
pub data Changed (c : Change) (s t : State) (r : End) : Type 0 where
  past : size s < first c + span c → t ≡ s → r ≡ Err PastEnd → Changed c s t r
  off : first c + span c ≤ size s → s.on ≡ false → t ≡ s → r ≡ Err (SupplyLost (first c)) → Changed c s t r
  finished : first c + span c ≤ size s → s.on ≡ true → t.on ≡ true → Beside c s t
      → ((place : ℕ) → first c ≤ place → place < first c + span c → at t place ≡ left s c)
      → r ≡ Ok tt → Changed c s t r
  torn : first c + span c ≤ size s → s.on ≡ true → t.on ≡ false → Beside c s t
      → r ≡ Err (SupplyLost (first c)) → Changed c s t r

-- the return of the supply turns it on and changes no byte
pub record Restored (s t : State) : Type 0 where
  pub on : t.on ≡ true
  pub bytes : t.bytes ≡ s.bytes
  pub mix : t.mix ≡ s.mix
