-- The cuts of a script.
use Rattle.std.specs.Prelude.{ℕ, zero, suc, List, [], ◌∷◌, drop}
use Rattle.models.specs.declared.simulated.Cut.{Cut}
use Rattle.script.specs.Numbers.{word, long}

-- six bytes: a count of 32 bits and a pattern of 16
abbrev pub cut : List ℕ → Cut
cut bytes = record { count = long bytes 0; pattern = word bytes 4 }

-- so many cuts, one after another
abbrev pub cuts : ℕ → List ℕ → List Cut
cuts zero bytes = []
cuts (suc count) bytes = cut bytes ∷ cuts count (drop 6 bytes)
