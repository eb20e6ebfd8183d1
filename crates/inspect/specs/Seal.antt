-- An image with its stored CRC-CCITT sum put right.
use Rattle.std.specs.Prelude.{◌≡◌, ℕ, ◌/◌, ◌%◌, ◌<◌, ◌≤◌, true, List, ◌∷◌, length, drop, Ok, Err, Result}
use Rattle.crc.specs.Sums.{ccitt}
use Rattle.image.specs.Check.{accepted}
use Rattle.image.specs.Sums.{ccitt_check}
use Rattle.inspect.specs.declared.Sealed.{Sealed}
use Rattle.inspect.specs.declared.TooShort.{TooShort}

-- the sum of all bytes after the first two stands in the first two, low byte first; no other byte is changed
abbrev pub sealed : List ℕ → List ℕ
sealed image = let sum = ccitt (drop 2 image) in (sum % 256) ∷ (sum / 256) ∷ drop 2 image

-- an image of two bytes and more is sealed, and the check accepts it; a shorter one is left as it was
abbrev pub Seals : (before after : List ℕ) → Result Sealed TooShort → Type 0
Seals before after (Ok sum) =
    (2 ≤ length before) × (sum.0 ≡ ccitt (drop 2 before)) × (after ≡ sealed before) × (accepted ccitt_check after ≡ true)
Seals before after (Err _) = (length before < 2) × (after ≡ before)
