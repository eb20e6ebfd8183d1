use Rattle.crc.proofs.Linearity.{shifts-xor, shifts-low}
use Rattle.crc.proofs.register_is_linear.Goals as goal

pub returns : goal.returns
returns c = record {
  over-xor = λ w p n a b hp ha hb. shifts-xor w p hp n a b ha hb;
  low_part = shifts-low;
}
