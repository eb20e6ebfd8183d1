-- A checksum register that divides by a polynomial: the bitwise rule, for any polynomial and any width of eight bits and more.
use Rattle.std.specs.Prelude.{◌≡◌, ℕ, zero, suc, ◌-◌, ◌*◌, ◌/◌, ◌%◌, ◌^◌, ◌<◌, cond, ◌==◌, bit_xor}

-- one shift left of a register r of w bits; where it drops a 1, the polynomial p is XORed in
abbrev pub shifted : (w p r : ℕ) → ℕ
shifted w p r = bit_xor (r * 2 % 2 ^ w) (cond (r * 2 / 2 ^ w == 0) 0 p)

-- n such shifts
unfoldable pub shifts : (w p n r : ℕ) → ℕ
shifts w p zero r = r
shifts w p (suc n) r = shifts w p n (shifted w p r)

-- a byte is XORed into the upper eight of w bits, and eight shifts follow
unfoldable pub fed : (w p r byte : ℕ) → ℕ
fed w p r byte = shifts w p 8 (bit_xor r (byte * 2 ^ (w - 8)))

-- what holds of the register at every width and polynomial
pub record Linear : Type 0 where
  -- shifting is linear over XOR
  pub over-xor : (w p n a b : ℕ) → p < 2 ^ w → a < 2 ^ w → b < 2 ^ w → shifts w p n (bit_xor a b) ≡ bit_xor (shifts w p n a) (shifts w p n b)
  -- while the upper bits are 0, nothing is dropped and the lower ones only move up
  pub low_part : (w p n b : ℕ) → b * 2 ^ n < 2 ^ w → shifts w p n b ≡ b * 2 ^ n
