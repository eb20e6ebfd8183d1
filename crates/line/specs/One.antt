-- One line: the number of an event, and how it came out.
use Rattle.std.specs.Prelude.{ℕ, List, ◌++◌, codes, decimal, Some, None, Ok, Err}
use Rattle.hex_digits.specs.Digits.{byte_digits}
use Rattle.words.specs.Numbers.{answer_byte, refusal_number}
use Rattle.words.specs.Outcomes.{Outcome, Reply}
use Rattle.words.specs.declared.Success.TheVariants.{Said, Chose}
use Rattle.words.specs.declared.Phase.TheVariants.{Waiting, Listening, Running}

-- nothing yet, an answer, waiting, which no restart chooses, listening, running, or a refusal
abbrev pub letter : Outcome Reply → List ℕ
letter (Ok (Said None)) = codes "N"
letter (Ok (Said (Some answer))) = codes "A"
letter (Ok (Chose Waiting)) = codes "W"
letter (Ok (Chose Listening)) = codes "L"
letter (Ok (Chose Running)) = codes "S"
letter (Err why) = codes "R"

-- the byte of an answer, the number of a refusal, else 0
abbrev pub value : Outcome Reply → ℕ
value (Ok (Said None)) = 0
value (Ok (Said (Some answer))) = answer_byte answer
value (Ok (Chose phase)) = 0
value (Err why) = refusal_number why

-- the number in decimal digits, the letter, and the value in two hexadecimal digits
abbrev pub line_bytes : ℕ → Outcome Reply → List ℕ
line_bytes number outcome =
    decimal number ++ (codes " " ++ (letter outcome ++ (codes " " ++ (byte_digits (value outcome) ++ codes "\n"))))
