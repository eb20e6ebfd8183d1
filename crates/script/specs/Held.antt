-- What a script holds, and what a reading gives.
use Rattle.std.specs.Prelude.{◌≡◌, ℕ, ◌*◌, ◌<◌, ◌≤◌, List, length, drop, Ok, Err, vec_items, Result, Vec}
use Rattle.std.specs.Borrow.{Bor}
use Rattle.std.specs.declared.alloc.Global.{Global}
use Rattle.models.specs.declared.simulated.Cut.{Cut}
use Rattle.words.specs.declared.Refusal.{Refusal}
use Rattle.words.specs.declared.Refusal.TheVariants.{MalformedInput}
use Rattle.script.specs.declared.Script.{Script}
use Rattle.script.specs.declared.Stop.{Stop}
use Rattle.script.specs.declared.Stop.TheVariants.{Refused, OutOfMemory}
use Rattle.script.specs.Numbers.{word}
use Rattle.script.specs.Cuts.{cuts}
use Rattle.script.specs.Whole.{Said}

-- what a script holds, as lists
abbrev pub held : Script → Said
held s = record {
  k = s.layout.k;
  b = s.layout.b;
  kind = s.kind;
  cuts = vec_items s.cuts;
  turns = vec_items s.turns;
  ending = s.ending;
}

-- a script holds what the input says, and a refusal is the input's; only want of memory is left open
abbrev pub Gives : Result Script Stop → Result Said Refusal → Type 0
Gives (Ok s) input = input ≡ Ok (held s)
Gives (Err (Refused why)) input = input ≡ Err why
Gives (Err (OutOfMemory full)) input = Unit {0}

-- a count of 16 bits and the bytes after it, where there are two bytes
abbrev pub GivesCount : Result (ℕ × Bor (List ℕ)) Refusal → List ℕ → Type 0
GivesCount (Ok p) bytes = (2 ≤ length bytes) × (p.0 ≡ word bytes 0) × (p.1.now ≡ drop 2 bytes)
GivesCount (Err why) bytes = (length bytes < 2) × (why ≡ MalformedInput)

-- so many cuts and the bytes after them, where there are bytes enough
abbrev pub GivesCuts : Result (Vec Cut Global × Bor (List ℕ)) Stop → ℕ → List ℕ → Type 0
GivesCuts (Ok p) count bytes = (6 * count ≤ length bytes) × (vec_items p.0 ≡ cuts count bytes) × (p.1.now ≡ drop (6 * count) bytes)
GivesCuts (Err (Refused why)) count bytes = (length bytes < 6 * count) × (why ≡ MalformedInput)
GivesCuts (Err (OutOfMemory full)) count bytes = Unit {0}
