-- A receiver told as a list of bytes.
use Rattle.std.specs.Prelude.{ℕ, List}
use Rattle.receiver.specs.Progress.{sofar}
use Rattle.receiver.specs.declared.Receiver.{Receiver}

-- the bytes since the last answer, in the order in which they came
abbrev pub packet : Receiver → List ℕ
packet r = sofar r.state r.rest.items
