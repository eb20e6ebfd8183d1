-- The effects of the commands with an address, by what the code tests.
use Rattle.std.proofs.Common.{◌≡◌, ℕ, ◌+◌, ◌-◌, ◌/◌, ◌%◌, ◌<◌, ◌≤◌, List, [], ◌∷◌, length, arith}
use Rattle.std.proofs.lemmas.Bool.Decides.{nat_tests}
use Rattle.memory.specs.Change.{erase}
use Rattle.layout.specs.Areas.{address, application_place, application_size}
use Rattle.layout.specs.declared.divided.Layout.{Layout}
use Rattle.rule.specs.Command.{effect, erase_segment, write_block}
use Rattle.words.specs.declared.Answer.TheVariants.{Done, InvalidParams}

module _ (l : Layout) (from : ℕ) where
  abbrev base : ℕ
  base = address l (application_place l)

  pub erase_fine : (offset : ℕ) → from ≡ base + offset → offset < application_size l → offset % 512 ≡ 0
      → erase_segment l from ≡ effect (erase (1 + offset / 512) ∷ []) Done
  erase_fine offset is a b =
      let same : from - base ≡ offset = omega arith in
      rw same (grind (arith, nat_tests))

  pub erase_not : ((offset : ℕ) → from ≡ base + offset → offset < application_size l → offset % 512 ≡ 0 → ⊥)
      → erase_segment l from ≡ effect [] InvalidParams
  erase_not h =
      let never : base ≤ from → from - base < application_size l → (from - base) % 512 ≡ 0 → ⊥ = λ a b c. h (from - base) (omega arith) b c in
      grind (arith, nat_tests)

  pub write_not : (block : List ℕ) → ((offset : ℕ) → from ≡ base + offset → 0 < length block → offset + length block ≤ application_size l → ⊥)
      → write_block l from block ≡ effect [] InvalidParams
  write_not block h =
      let never : base ≤ from → 0 < length block → (from - base) + length block ≤ application_size l → ⊥ = λ a b c. h (from - base) (omega arith) b c in
      grind (arith, nat_tests)
