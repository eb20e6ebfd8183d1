-- A whole input.
use Rattle.std.specs.Prelude.{ℕ, ◌*◌, cond, ◌&&◌, List, length, drop, Some, None, Ok, Err, Option, Result, ◌==◌, nat_le}
use Rattle.models.specs.declared.simulated.Cut.{Cut}
use Rattle.words.specs.declared.Turn.{Turn}
use Rattle.words.specs.Outcomes.{Reply}
use Rattle.words.specs.declared.Refusal.{Refusal}
use Rattle.words.specs.declared.Refusal.TheVariants.{BadLayout, MalformedInput}
use Rattle.layout.specs.Areas.{exists}
use Rattle.script.specs.declared.Kind.{Kind}
use Rattle.script.specs.declared.Kind.TheVariants.{Flash, Fram}
use Rattle.script.specs.Numbers.{at, word}
use Rattle.script.specs.Cuts.{cuts}
use Rattle.script.specs.Events.{events}

-- what an input says
pub record Said : Type 0 where
  pub k : ℕ
  pub b : ℕ
  pub kind : Kind
  pub cuts : List Cut
  pub turns : List (Turn ℕ Reply)
  pub ending : Result Unit Refusal

-- 0 is flash and 1 is FRAM
abbrev pub kind_of : ℕ → Option Kind
kind_of n = cond (n == 0) (Some Flash) (cond (n == 1) (Some Fram) None)

-- the count of events, and the events, after the cuts; bytes after the last event say nothing
abbrev pub from_events : (k b : ℕ) → Kind → List Cut → List ℕ → Result Said Refusal
from_events k b kind cuts bytes =
    cond (nat_le 2 (length bytes))
    (Ok (record {
      k = k;
      b = b;
      kind = kind;
      cuts = cuts;
      turns = (events (word bytes 0) (drop 2 bytes)).0;
      ending = (events (word bytes 0) (drop 2 bytes)).1;
    }))
    (Err MalformedInput)

-- the count of cuts, at most 64, and the cuts; then the layout has to exist
abbrev pub from_cuts : (k b : ℕ) → Kind → List ℕ → Result Said Refusal
from_cuts k b kind bytes =
    cond (nat_le 2 (length bytes) && (nat_le (word bytes 0) 64 && nat_le (6 * word bytes 0) (length (drop 2 bytes))))
    (cond (exists k b)
    (from_events k b kind (cuts (word bytes 0) (drop 2 bytes)) (drop (6 * word bytes 0) (drop 2 bytes)))
    (Err BadLayout))
    (Err MalformedInput)

-- goes on where there is a kind
abbrev pub with_kind : Option Kind → (Kind → Result Said Refusal) → Result Said Refusal
with_kind None next = Err MalformedInput
with_kind (Some kind) next = next kind

-- the first section is its count, 3, then k, b and the kind
abbrev pub script : List ℕ → Result Said Refusal
script bytes =
    cond (nat_le 4 (length bytes) && at bytes 0 == 3)
    (with_kind (kind_of (at bytes 3)) (λ kind. from_cuts (at bytes 1) (at bytes 2) kind (drop 4 bytes)))
    (Err MalformedInput)
