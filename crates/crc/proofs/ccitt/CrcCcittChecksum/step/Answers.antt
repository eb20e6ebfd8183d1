-- The table is the list of what eight shifts make of each byte: antt computes its 256 entries, and compares.
use Rattle.std.proofs.Common.{ℕ, ◌*◌, ◌/◌, ◌%◌, ◌<◌, sym, ap, ◌∙◌, zero-add, arith, lit<, rules}
use lib.Bits.{bit_xor}
use Rattle.std.proofs.lemmas.Nat.{xor_lt, shr_below}
use Rattle.std.proofs.lemmas.List.FromFn.{get_or-map-range_with_len}
use Rattle.crc.specs.Register.{shifts, fed}
use Rattle.crc.proofs.Linearity.{fed_by_table}
use Rattle.crc.proofs.ccitt.CrcCcittChecksum.step.Goals as goal

pub returns : goal.returns
unfolding shifts
returns c =
    let r = c.args.register in
    let x : ℕ = bit_xor (r / 256) c.from.result in
    let h : x < 256 = xor_lt 8 (r / 256) c.from.result (shr_below r 8 8 (search rules)) (omega arith) in
    ap (bit_xor (r * 256 % 65536)) (get_or-map-range_with_len (λ b. shifts 16 0x1021 8 (b * 256)) 0 256 x x 0 h (zero-add x))
    ∙ sym (fed_by_table 8 0x1021 r c.from.result (lit< tt) (search rules) (omega arith))
    ∙ ap (fed 16 0x1021 r) c.from.ensures
