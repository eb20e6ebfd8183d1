-- What a memory reads as, from a place up.
use Rattle.std.specs.Prelude.{◌≡◌, ℕ, ◌+◌, ◌<◌, ◌↔◌, List, map, length, slice_index_or}
use Rattle.std.specs.List.{range_with_len}
use Rattle.memory.specs.State.{State, at}

-- what is read at so many places from one up
abbrev pub reads : State → (place count : ℕ) → List ℕ
reads s place count = map (λ i. at s (place + i)) (range_with_len 0 count)

-- an area is the list of what is read at so many places from one up
pub record Reads (s : State) (place count : ℕ) (area : List ℕ) : Type 0 where
  pub length : length area ≡ count
  pub bytes : (i : ℕ) → i < count → slice_index_or area i 0xFF ≡ at s (place + i)

-- there is one such area, and it is `reads`
abbrev pub OneArea : Type 0
OneArea = (s : State) (place count : ℕ) (area : List ℕ) → Reads s place count area ↔ (area ≡ reads s place count)
