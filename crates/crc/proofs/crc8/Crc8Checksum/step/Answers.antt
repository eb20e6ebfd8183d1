-- At eight bits nothing of the register is left beside the table's entry.
use Rattle.std.proofs.Common.{ℕ, ◌<◌, sym, ap, ◌∙◌, zero-add, mul-one, rules}
use lib.Bits.{bit_xor}
use Rattle.std.proofs.lemmas.Nat.{xor_lt}
use Rattle.std.proofs.lemmas.List.FromFn.{get_or-map-range_with_len}
use Rattle.crc.specs.Register.{shifts, fed}
use Rattle.crc.proofs.crc8.Crc8Checksum.step.Goals as goal

pub returns : goal.returns
unfolding shifts fed
returns c =
    let x : ℕ = bit_xor c.args.register c.args.byte in
    let h : x < 256 = xor_lt 8 c.args.register c.args.byte (search rules) (search rules) in
    get_or-map-range_with_len (λ b. shifts 8 7 8 b) 0 256 x x 0 h (zero-add x)
    ∙ ap (λ b. shifts 8 7 8 (bit_xor c.args.register b)) (sym (mul-one c.args.byte))
