-- What a byte gives: what it tells of the bytes since the last answer, and which of them are kept after it.
use Rattle.std.specs.Prelude.{ℕ, Bool, true, false, List, [], Ok, Err, Result}
use Rattle.rule.specs.Frame.{Verdict, more, wrong, good}
use Rattle.words.specs.declared.Answer.{Answer}

-- what is said of the bytes: nothing yet, a good frame with this payload, or an error
abbrev pub told : Result Bool Answer → List ℕ → Verdict
told (Ok false) payload = more
told (Ok true) payload = good payload
told (Err a) payload = wrong a

-- what is kept of the bytes once they are judged: all of them while the frame goes on, and none after
abbrev pub kept : Verdict → List ℕ → List ℕ
kept more bytes = bytes
kept (wrong _) bytes = []
kept (good _) bytes = []
