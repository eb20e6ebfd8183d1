use Rattle.std.proofs.Common.{refl}
use Rattle.image.specs.Check.{accepted}
use Rattle.image.specs.Sums.{ccitt_check, crc8_check, vector_check}
use Rattle.image.proofs.Accepting.{ccitt_means, crc8_means}
use Rattle.inspect.proofs.Plain.{verdict_means}
use Rattle.inspect.proofs.inspect.Goals as goal

pub returns-clause-judged : goal.returns-clause-judged
returns-clause-judged c =
    let image = c.args.image.now in
    record {
      by_ccitt = rw c.judge.ensures (verdict_means (accepted ccitt_check) image (ccitt_means image));
      by_crc8 = rw c.judge-2.ensures (verdict_means (accepted crc8_check) image (crc8_means image));
      by_vector =
          let w = verdict_means (accepted vector_check) image {P = Unit {0}} (λ _. tt, λ _. refl) in
          rw c.judge-3.ensures (λ e. (w.0 e).0, λ h. w.1 (h, tt));
    }
