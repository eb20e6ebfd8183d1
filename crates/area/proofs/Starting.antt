-- Whether an area is startable, by what is read at its places.
use Rattle.std.proofs.Common.{◌≡◌, ℕ, ◌+◌, ◌-◌, ◌<◌, ◌≤◌, Bool, false, List, length, get_or, Some, sym, subst, ◌∙◌, arith}
use Rattle.std.proofs.lemmas.Bool.Decides.{nat_tests}
use Rattle.std.proofs.lemmas.List.FromFn.{length-map-range_with_len, get_or-map-range_with_len, fill_by_all}
use Rattle.memory.specs.State.{State, at}
use Rattle.image.specs.Sums.{word}
use Rattle.image.specs.Startable.{entry, startable}
use Rattle.area.specs.Reads.{reads, Reads, OneArea}

pub reads_length : (s : State) (place count : ℕ) → length (reads s place count) ≡ count
reads_length s place count = length-map-range_with_len (λ i. at s (place + i)) 0 count

pub reads_at : (s : State) (place count i d : ℕ) → i < count → get_or (reads s place count) i d ≡ at s (place + i)
reads_at s place count i d h = get_or-map-range_with_len (λ j. at s (place + j)) 0 count i i d h (omega arith)

pub one_area : OneArea
one_area s place count area = (
  λ r. fill_by_all (λ i. at s (place + i)) area count 0xFF r.length r.bytes,
  λ e. subst (Reads s place count) (sym e) (record { length = reads_length s place count; bytes = λ i h. reads_at s place count i 0xFF h }),
)

module _ (s : State) (place count : ℕ) (accepts : List ℕ → Bool) where
  abbrev area : List ℕ
  area = reads s place count

  module _ (long : 2 ≤ count) (low high : ℕ) (is_low : low ≡ at s (place + (count - 2))) (is_high : high ≡ at s (place + (count - 1))) where
    entry_is : entry area ≡ Some (word low high)
    entry_is =
        let n : length area ≡ count = reads_length s place count in
        let a : get_or area (count - 2) 0 ≡ low = reads_at s place count (count - 2) 0 (omega arith) ∙ sym is_low in
        let b : get_or area (count - 1) 0 ≡ high = reads_at s place count (count - 1) 0 (omega arith) ∙ sym is_high in
        rw n (grind (arith, nat_tests))

    pub erased_entry : word low high ≡ 0xFFFF → false ≡ startable accepts area
    erased_entry e = rw entry_is (grind (arith, nat_tests))

    pub some_entry : (word low high ≡ 0xFFFF → ⊥) → accepts area ≡ startable accepts area
    some_entry h = rw entry_is (grind (arith, nat_tests))
