-- How far a frame has come: what its receive state says of the bytes so far.
use Rattle.std.specs.Prelude.{ℕ, List, [], ◌∷◌}
use Rattle.receiver.specs.declared.Receiving.{Receiving}
use Rattle.receiver.specs.declared.Receiving.TheVariants.{Header, Length, Rest}

-- the payload's length, or the greatest where it is not known yet
abbrev pub need_of : Receiving → ℕ
need_of Header = 19
need_of Length = 19
need_of (Rest need) = need

-- the bytes so far of the unfinished frame, with this rest after its length
abbrev pub sofar : Receiving → List ℕ → List ℕ
sofar Header rest = []
sofar Length rest = 0x80 ∷ []
sofar (Rest need) rest = 0x80 ∷ need ∷ rest
