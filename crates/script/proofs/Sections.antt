-- What an input says once its cuts are read.
use Rattle.std.proofs.Common.{◌≡◌, ℕ, ◌*◌, ◌≤◌, true, nat_le, cond, length, drop, List, Some, Err, sym}
use Rattle.std.proofs.lemmas.Bool.{le-leb}
use Rattle.words.specs.declared.Refusal.TheVariants.{BadLayout}
use Rattle.layout.specs.Areas.{exists}
use Rattle.script.specs.declared.Kind.{Kind}
use Rattle.script.specs.Numbers.{at, word}
use Rattle.script.specs.Cuts.{cuts}
use Rattle.script.specs.Whole.{kind_of, from_events, script}

pub after_cuts : (bytes rest : List ℕ) (kind : Kind) (count : ℕ) → 4 ≤ length bytes → at bytes 0 ≡ 3 → kind_of (at bytes 3) ≡ Some kind
    → (2 ≤ length (drop 4 bytes)) × (count ≡ word (drop 4 bytes) 0) × (rest ≡ drop 2 (drop 4 bytes)) → count ≤ 64 → 6 * count ≤ length rest
    → script bytes ≡ cond (exists (at bytes 1) (at bytes 2)) (from_events (at bytes 1) (at bytes 2) kind (cuts count rest) (drop (6 * count) rest)) (Err BadLayout)
after_cuts bytes rest kind count long three is (two, first, after) few held =
    let four : nat_le 4 (length bytes) ≡ true = le-leb _ _ long in
    let both : nat_le 2 (length (drop 4 bytes)) ≡ true = le-leb _ _ two in
    let most : nat_le count 64 ≡ true = le-leb _ _ few in
    let all : nat_le (6 * count) (length rest) ≡ true = le-leb _ _ held in
    simp (four, three, is, both, sym first, sym after, most, all)
