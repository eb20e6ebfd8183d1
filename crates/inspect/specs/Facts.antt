-- What is told of an image: its length, its sums, its entry, and for each check whether it may be started.
use Rattle.std.specs.Prelude.{◌≡◌, ℕ, ◌-◌, ◌≤◌, Bool, cond, ◌↔◌, List, length, take, drop, Some, None, Option, Ok, Err, Result, ◌==◌, ◌≢◌, nat_lt, slice_index}
use Rattle.crc.specs.Sums.{ccitt, crc8}
use Rattle.image.specs.Check.{accepted}
use Rattle.image.specs.Sums.{word, number, ccitt_check, crc8_check, vector_check, HoldsCcitt, HoldsCrc8}
use Rattle.image.specs.Startable.{entry, startable}
use Rattle.inspect.specs.declared.Sums.{Sums}
use Rattle.inspect.specs.declared.Reason.{Reason}
use Rattle.inspect.specs.declared.Reason.TheVariants as V
use Rattle.inspect.specs.declared.Verdicts.{Verdicts}
use Rattle.inspect.specs.declared.Report.{Report}

-- the sum of all bytes after the first n, and what the first n hold; an image of fewer has neither
abbrev pub sums_of : {R : Type 0} → (n : ℕ) (stored sum : List ℕ → R) → List ℕ → Option (Sums R)
sums_of n stored sum image =
    cond (nat_lt (length image) n) None (Some (record { computed = sum (drop n image); stored = stored (take n image) }))

-- a stored sum is a number, low byte first
abbrev pub ccitt_sums : List ℕ → Option (Sums ℕ)
ccitt_sums = sums_of 2 number ccitt

abbrev pub crc8_sums : List ℕ → Option (Sums ℕ)
crc8_sums = sums_of 1 number crc8

-- why an image that is not startable is not
abbrev pub reason : Option ℕ → Reason
reason None = V.NoEntry
reason (Some address) = cond (address == 0xFFFF) V.ErasedEntry V.WrongSum

abbrev pub verdict : (List ℕ → Bool) → List ℕ → Result (Unit {0}) Reason
verdict accepts image = cond (startable accepts image) (Ok tt) (Err (reason (entry image)))

abbrev pub report : List ℕ → Report
report image = record {
  length = length image;
  ccitt = ccitt_sums image;
  crc8 = crc8_sums image;
  entry = entry image;
  verdicts = record {
    ccitt = verdict (accepted ccitt_check) image;
    crc8 = verdict (accepted crc8_check) image;
    vector = verdict (accepted vector_check) image;
  };
}

-- the last two bytes, low byte first, are there and are not 0xFFFF
abbrev pub HasEntry : List ℕ → Type 0
HasEntry image = (2 ≤ length image) × (word (slice_index image (length image - 2)) (slice_index image (length image - 1)) ≢ 0xFFFF)

-- the verdicts in plain words: what an image must hold to be told startable by each check
pub record Judged (image : List ℕ) (v : Verdicts) : Type 0 where
  pub by_ccitt : (v.ccitt ≡ Ok tt) ↔ (HasEntry image × HoldsCcitt image)
  pub by_crc8 : (v.crc8 ≡ Ok tt) ↔ (HasEntry image × HoldsCrc8 image)
  pub by_vector : (v.vector ≡ Ok tt) ↔ HasEntry image
