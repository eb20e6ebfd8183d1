-- The words in which a report is printed.
use Rattle.std.specs.Prelude.{ℕ, List, [], ◌∷◌, ◌++◌, codes, decimal, option_map, Some, None, Option, Ok, Err, Result}
use Prim.Native.String.{String}
use Rattle.hex_digits.specs.Digits.{byte_digits, word_digits}
use Rattle.inspect.specs.declared.Reason.{Reason}
use Rattle.inspect.specs.declared.Reason.TheVariants as V
use Rattle.inspect.specs.declared.Misuse.{Misuse}
use Rattle.inspect.specs.declared.Misuse.TheVariants as M
use Rattle.inspect.specs.declared.Report.{Report}

-- what stands where there is no number, and what before the digits of one
abbrev pub no_number : List ℕ
no_number = codes "none, the image is too short"

abbrev pub in_hex : List ℕ → List ℕ
in_hex digits = codes "0x" ++ digits

-- a number in digits, or why there is none
abbrev pub field_text : {N : Type 0} → (N → List ℕ) → Option N → List ℕ
field_text digits None = no_number
field_text digits (Some n) = in_hex (digits n)

-- the same where a display writes the digits
abbrev pub field_output : {D : Type 0} → (D → Option (List ℕ)) → Option D → Option (List ℕ)
field_output output None = Some no_number
field_output output (Some d) = option_map in_hex (output d)

abbrev pub reason_text : Reason → List ℕ
reason_text V.NoEntry = codes "the image is too short for an entry"
reason_text V.ErasedEntry = codes "the entry is erased"
reason_text V.WrongSum = codes "the stored sum is wrong"

abbrev pub verdict_text : Result (Unit {0}) Reason → List ℕ
verdict_text (Ok _) = codes "yes"
verdict_text (Err why) = codes "no, " ++ reason_text why

abbrev pub misuse_text : Misuse → List ℕ
misuse_text M.UnknownWord = codes "unknown word; write inspect, seal or nothing; nothing was read or written"
misuse_text M.TooManyWords = codes "one word at most, inspect or seal; nothing was read or written"

-- one fact a line: what it is called, and its value
abbrev pub lines : List (String × List ℕ) → List ℕ
lines [] = []
lines (fact ∷ facts) = codes fact.0 ++ (codes ": " ++ (fact.1 ++ (codes "\n" ++ lines facts)))

abbrev pub report_text : Report → List ℕ
report_text r =
    lines (
    ("length in bytes", decimal r.length)
    ∷ ("CRC-CCITT sum of all bytes after the first two", field_text (λ s. word_digits s.computed) r.ccitt)
    ∷ ("stored CRC-CCITT sum, the first two bytes", field_text (λ s. word_digits s.stored) r.ccitt)
    ∷ ("CRC-8 sum of all bytes after the first", field_text (λ s. byte_digits s.computed) r.crc8)
    ∷ ("stored CRC-8 sum, the first byte", field_text (λ s. byte_digits s.stored) r.crc8)
    ∷ ("entry, the last two bytes", field_text word_digits r.entry)
    ∷ ("may be started, checked by CRC-CCITT", verdict_text r.verdicts.ccitt)
    ∷ ("may be started, checked by CRC-8", verdict_text r.verdicts.crc8)
    ∷ ("may be started, by its entry only", verdict_text r.verdicts.vector)
    ∷ [])
