use Rattle.std.proofs.Common.{◌≡◌, ◌/◌, ◌<◌, drop, ◌∷◌, slice_index, ap, ◌∙◌, mod-eq_of_lt, arith}
use Rattle.std.proofs.lemmas.Option.{MatchOption-at_some}
use Rattle.crc.specs.Sums.{ccitt}
use Rattle.image.specs.Check.{accepted}
use Rattle.image.specs.Sums.{ccitt_check}
use Rattle.inspect.specs.Seal.{sealed}
use Rattle.inspect.proofs.Sealing.{sealed_good}
use Rattle.inspect.proofs.seal.Goals as goal

pub returns : goal.returns
returns c =
    let image = c.args.image.now in
    let (_, covered, long) = MatchOption-at_some _ _ _ c.in_ok-image.ensures.ok_part c.split_first_chunk_mut.ensures.cases in
    let up : c.sum-sum.result / 256 < 256 = omega (arith, c.sum-sum.type_inv) in
    let sum : c.sum-sum.result ≡ ccitt (drop 2 image) = c.sum-sum.ensures ∙ ap ccitt covered in
    let after : slice_index c.to_le_bytes.result 0 ∷ slice_index c.to_le_bytes.result 1 ∷ c.in_ok-image.covered.now ≡ sealed image = rw (c.to_le_bytes.ensures, mod-eq_of_lt up, sum, covered) in
    (omega (arith, long), sum, after, ap (accepted ccitt_check) after ∙ sealed_good image)
