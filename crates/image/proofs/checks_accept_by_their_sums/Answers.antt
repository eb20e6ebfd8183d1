use Rattle.std.proofs.Common.{refl, arith}
use Rattle.image.proofs.Accepting.{sum_means, ccitt_means, crc8_means}
use Rattle.image.proofs.checks_accept_by_their_sums.Goals as goal

pub returns-clause-meanings : goal.returns-clause-meanings
returns-clause-meanings c = record {
  sum_means = sum_means;
  sum_needs = λ n starts steps pos image t. ((sum_means n starts steps pos image).0 t).0;
  ccitt_means = ccitt_means;
  ccitt_needs = λ image t. ((ccitt_means image).0 t).0;
  crc8_means = crc8_means;
  crc8_needs = λ image t. ((crc8_means image).0 t).0;
  vector_means = λ image. refl;
  vector_needs = λ image _. omega arith;
}
