-- Proof: flash and FRAM show what a technology has to show.
use Rattle.std.specs.Prelude.{◌≡◌, ℕ, ◌%◌, ◌<◌, bit_and, refl}
use Rattle.std.proofs.Common.{sym, ap, ◌∙◌, arith, mod-eq_of_lt, length-append, length-drop}
use Rattle.std.proofs.Math.Nat.{mod-mod}
use Rattle.std.proofs.lemmas.List.{length-map, length-replicate}
use Rattle.std.proofs.lemmas.Nat.{and_mod, and_le_l, and_comm, and_mask}
use Rattle.models.specs.Cells.{flash, fram, Sound}

and_low : (old new : ℕ) → bit_and old new % 256 ≡ bit_and (old % 256) new
and_low old new =
    let small : bit_and (old % 256) new < 256 = omega (arith, and_le_l (old % 256) new) in
    and_mod old new 8
    ∙ ap (λ a. bit_and a (new % 256)) (sym (mod-mod old 256))
    ∙ sym (and_mod (old % 256) new 8)
    ∙ mod-eq_of_lt small

pub flash_sound : Sound flash
flash_sound = record {
  erased = λ byte h. and_comm 0xFF byte ∙ and_mask byte 8 ∙ mod-eq_of_lt h;
  low_bits = λ old new _. and_low old new;
  segment = λ pattern bytes e. length-map bytes _ ∙ e;
}

pub fram_sound : Sound fram
fram_sound = record {
  erased = λ byte h. refl;
  low_bits = λ old new h. mod-eq_of_lt h;
  segment = λ pattern bytes e. simp (length-append, length-replicate, length-drop) (omega arith);
}
