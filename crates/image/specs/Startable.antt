-- An area's entry, and when an area may be started.
use Rattle.std.specs.Prelude.{ℕ, ◌-◌, Bool, false, cond, not, List, length, Some, None, Option, ◌==◌, nat_lt, slice_index}
use Rattle.image.specs.Sums.{word}

-- an area's entry: its last two bytes, low byte first; one of fewer bytes has none
abbrev pub entry : List ℕ → Option ℕ
entry area = cond (nat_lt (length area) 2) None (Some (word (slice_index area (length area - 2)) (slice_index area (length area - 1))))

-- an entry of 0xFFFF is erased
abbrev pub enters : Option ℕ → Bool
enters None = false
enters (Some address) = not (address == 0xFFFF)

-- an area is startable when its entry is not 0xFFFF and the check accepts its bytes from the lowest place up
abbrev pub startable : (List ℕ → Bool) → List ℕ → Bool
startable accepts area = cond (enters (entry area)) (accepts area) false
