-- The events of a script.
use Rattle.std.specs.Prelude.{ℕ, zero, suc, cond, ◌&&◌, List, [], ◌∷◌, length, drop, Some, None, Option, Ok, Err, Result, ◌==◌, nat_le}
use Rattle.words.specs.declared.Call.{Call}
use Rattle.words.specs.declared.Call.TheVariants.{Tell, Restart}
use Rattle.words.specs.declared.Turn.{Turn}
use Rattle.words.specs.Outcomes.{Reply}
use Rattle.words.specs.declared.Refusal.{Refusal}
use Rattle.words.specs.declared.Refusal.TheVariants.{MalformedInput}
use Rattle.script.specs.Numbers.{at, word}

-- 0, the pin, the password and the status word
abbrev pub restart : List ℕ → Option (Call ℕ)
restart bytes =
    cond (nat_le (at bytes 1) 1)
    (Some (Restart (record { pin_high = (at bytes 1 == 1); password = word bytes 2; status = at bytes 4 })))
    None

-- 1, the byte, and three zeros
abbrev pub received : List ℕ → Option (Call ℕ)
received bytes =
    cond (at bytes 0 == 1 && (at bytes 2 == 0 && (at bytes 3 == 0 && at bytes 4 == 0))) (Some (Tell (at bytes 1))) None

-- the event of the first five bytes
abbrev pub event : List ℕ → Option (Call ℕ)
event bytes = cond (nat_le 5 (length bytes)) (cond (at bytes 0 == 0) (restart bytes) (received bytes)) None

-- a call that is still to be made
abbrev pub unplayed : Call ℕ → Turn ℕ Reply
unplayed call = record { call = call; outcome = None }

-- one event more at the front
abbrev pub before : Option (Call ℕ) → List (Turn ℕ Reply) × Result Unit Refusal → List (Turn ℕ Reply) × Result Unit Refusal
before None rest = ([], Err MalformedInput)
before (Some call) rest = (unplayed call ∷ rest.0, rest.1)

-- so many events, up to the first that is malformed or missing
abbrev pub events : ℕ → List ℕ → List (Turn ℕ Reply) × Result Unit Refusal
events zero bytes = ([], Ok tt)
events (suc count) bytes = before (event bytes) (events count (drop 5 bytes))
