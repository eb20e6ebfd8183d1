-- A sealed image holds its sum, and the CRC-CCITT check accepts it.
use Rattle.std.proofs.Common.{◌≡◌, ℕ, true, List, arith}
use Rattle.image.specs.Check.{accepted}
use Rattle.image.specs.Sums.{ccitt_check}
use Rattle.image.proofs.Accepting.{ccitt_means}
use Rattle.inspect.specs.Seal.{sealed}

pub sealed_good : (image : List ℕ) → accepted ccitt_check (sealed image) ≡ true
sealed_good image = (ccitt_means (sealed image)).1 (omega arith, omega arith)
