-- The table of worked examples: what the definitions give on given bytes. antt computes each row.
use Rattle.std.specs.Prelude.{◌≡◌, ℕ, ◌+◌, true, List, [], ◌∷◌, Some, None, codes, Option}
use Rattle.std.proofs.Common.{lit≤}
use Rattle.crc.specs.Sums.{ccitt, crc8}
use Rattle.memory.specs.Change.{erase, first, span}
use Rattle.models.specs.Cells.{flash, fram}
use Rattle.layout.specs.Areas.{address, download_place, application_place, boot_place}
use Rattle.layout.specs.declared.divided.Layout.{Layout}
use Rattle.words.specs.Numbers.{answer_byte}
use Rattle.words.specs.declared.Phase.TheVariants.{Listening}
use Rattle.words.specs.Outcomes.{Reply}
use Rattle.rule.specs.Bus.{Plan}
use Rattle.rule.specs.Frames.{frames}

-- 14 segments of an application and 2 of the boot area
abbrev pub example : Layout
example = record { k = 14; b = 2; some = lit≤ tt; most = lit≤ tt; booted = lit≤ tt; few = lit≤ tt }

-- what the last byte of a packet is to do, while listening, with a startable download area
abbrev pub plan : List ℕ → ℕ → Plan (List ℕ) Reply
plan packet byte = frames.plan (record { layout = example; phase = Listening; packet = packet }) true byte

-- the byte that answers it, if any
abbrev pub answered : Reply → Option ℕ
answered None = None
answered (Some a) = Some (answer_byte a)

pub record Worked : Type 0 where
  -- sums of the published check text, and of the commands ERASE_APP and JUMP2APP
  pub ccitt_digits : ccitt (codes "123456789") ≡ 0x29B1
  pub crc8_digits : crc8 (codes "123456789") ≡ 0xF4
  pub ccitt_erase_app : ccitt (0x15 ∷ []) ≡ 0xA364
  pub ccitt_jump : ccitt (0x1C ∷ []) ≡ 0x324D
  -- mixing an old byte with a new one
  pub flash_mix : flash.mix 0x0F 0xF3 ≡ 0x03
  pub fram_mix : fram.mix 0x0F 0xF3 ≡ 0xF3
  -- addresses
  pub boot_address : address example (boot_place example) ≡ 0xFC00
  pub application_address : address example (application_place example) ≡ 0xE000
  pub download_address : address example download_place ≡ 0xC400
  pub status_address : address example 0 ≡ 0xC200
  -- frames and their answers
  pub erase_app : answered (plan (0x80 ∷ 0x01 ∷ 0x15 ∷ 0x64 ∷ []) 0xA3).says ≡ Some 0x00
  pub wrong_sum : answered (plan (0x80 ∷ 0x01 ∷ 0x15 ∷ 0x64 ∷ []) 0xA2).says ≡ Some 0x52
  pub length_zero : answered (plan (0x80 ∷ []) 0x00).says ≡ Some 0x53
  pub length_twenty : answered (plan (0x80 ∷ []) 0x14).says ≡ Some 0x54
  pub no_header : answered (plan [] 0x7F).says ≡ Some 0x51
  -- the segment at 0xE000 is erased at 0xC400 to 0xC5FF; 0xE001 starts no segment
  pub erase_segment : (plan (0x80 ∷ 0x03 ∷ 0x12 ∷ 0x00 ∷ 0xE0 ∷ 0xB1 ∷ []) 0x1C).changes ≡ erase 1 ∷ []
  pub erase_answer : answered (plan (0x80 ∷ 0x03 ∷ 0x12 ∷ 0x00 ∷ 0xE0 ∷ 0xB1 ∷ []) 0x1C).says ≡ Some 0x00
  pub erased_from : address example (first (erase 1)) ≡ 0xC400
  pub erased_below : address example (first (erase 1) + span (erase 1)) ≡ 0xC600
  pub wrong_address : answered (plan (0x80 ∷ 0x03 ∷ 0x12 ∷ 0x01 ∷ 0xE0 ∷ 0x80 ∷ []) 0x2F).says ≡ Some 0xC5
