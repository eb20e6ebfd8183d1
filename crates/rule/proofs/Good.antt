-- Frames: the bytes since the last answer are acted on exactly where they form a good frame.
use Rattle.std.proofs.Common.{◌≡◌, ℕ, suc, ◌+◌, ◌-◌, ◌*◌, ◌/◌, ◌%◌, ◌<◌, ◌≤◌, List, [], ◌∷◌, ◌++◌, length, get_or, take, sym, refl, ap, ◌∙◌, arith, length-append, length-take}
use Rattle.std.proofs.lemmas.Bool.Decides.{nat_tests}
use Rattle.std.proofs.lemmas.List.{get_or-append_right, take_at, take-append-drop, drop_more, drop_all}
use Rattle.crc.specs.Sums.{ccitt}
use Rattle.image.specs.Sums.{word}
use Rattle.rule.specs.Frame.{more, good, judge}
use Rattle.rule.specs.Frames.{GoodFrame, ActsOnGoodFrames}

-- the tests that a frame has passed
record Passed (h n : ℕ) (rest payload : List ℕ) : Type 0 where
  pub head : h ≡ 0x80
  pub some : 1 ≤ n
  pub small : n ≤ 19
  pub enough : n + 2 ≤ length rest
  pub sum : ccitt (take n rest) ≡ word (get_or rest n 0) (get_or rest (n + 1) 0)
  pub is : take n rest ≡ payload

good_passed : (h n : ℕ) (rest payload : List ℕ) → judge (h ∷ n ∷ rest) ≡ good payload → Passed h n rest payload
good_passed h n rest payload e = record {
  head = grind (arith, nat_tests);
  some = grind (arith, nat_tests);
  small = grind (arith, nat_tests);
  enough = grind (arith, nat_tests);
  sum = grind (arith, nat_tests);
  is = grind (arith, nat_tests);
}

passed_good : (h n : ℕ) (rest payload : List ℕ) → Passed h n rest payload → judge (h ∷ n ∷ rest) ≡ good payload
passed_good h n rest payload s = grind (arith, nat_tests)

-- while more is to come, not all is there
open_short : (h n : ℕ) (rest : List ℕ) → judge (h ∷ n ∷ rest) ≡ more → length rest < n + 2
open_short h n rest e = grind (arith, nat_tests)

header_not_good : (h : ℕ) (payload : List ℕ) → judge (h ∷ []) ≡ good payload → ⊥
header_not_good h payload e = grind (arith, nat_tests)

-- a list of n + 2 elements is its first n and the last two
ends : (n : ℕ) (xs : List ℕ) → length xs ≡ n + 2 → xs ≡ take n xs ++ (get_or xs n 0 ∷ get_or xs (n + 1) 0 ∷ [])
ends n xs e =
    let a = drop_more xs n 0 (omega arith) in
    let b = drop_more xs (n + 1) 0 (omega arith) in
    let c = drop_all (n + 1 + 1) xs (omega arith) in
    cc (take-append-drop n xs)

module _ (h n : ℕ) (rest : List ℕ) (byte : ℕ) (payload : List ℕ) where
  abbrev xs : List ℕ
  xs = rest ++ byte ∷ []

  abbrev c : ℕ
  c = ccitt payload

  long : length xs ≡ length rest + 1
  long = length-append rest (byte ∷ [])

  forward : length rest < n + 2 → ((i : ℕ) → get_or (h ∷ n ∷ xs) i 0 < 256) → Passed h n xs payload → GoodFrame (h ∷ n ∷ xs) payload
  forward short small s =
      let whole : length xs ≡ n + 2 = omega (arith, long, s.enough) in
      let count : n ≡ length payload = sym (ap length (sym s.is) ∙ simp length-take (omega arith)) in
      let low : get_or xs n 0 < 256 = small (suc (suc n)) in
      let sum : c ≡ get_or xs n 0 + 256 * get_or xs (n + 1) 0 = ap ccitt (sym s.is) ∙ s.sum in
      let first : get_or xs n 0 ≡ c % 256 = omega arith in
      let second : get_or xs (n + 1) 0 ≡ c / 256 = omega arith in
      record {
        short = omega (arith, s.some);
        long = omega (arith, s.small);
        whole = (λ i. s.head i ∷ count i ∷ xs)
            ∙ ap (λ t. 0x80 ∷ length payload ∷ t) (ends n xs whole ∙ (λ i. s.is i ++ (first i ∷ second i ∷ [])));
      }

  backward : GoodFrame (h ∷ n ∷ xs) payload → Passed h n xs payload
  backward g =
      let tail = (c % 256) ∷ (c / 256) ∷ [] in
      let count : n ≡ length payload = cc g.whole in
      let is : xs ≡ payload ++ tail = cc g.whole in
      let len : length xs ≡ length payload + 2 = ap length is ∙ length-append payload tail in
      let none : n - length payload ≡ 0 = omega arith in
      let one : n + 1 - length payload ≡ 1 = omega arith in
      let low : get_or xs n 0 ≡ c % 256 =
      ap (λ t. get_or t n 0) is ∙ get_or-append_right payload tail (length payload) n 0 refl (omega arith) ∙ ap (λ k. get_or tail k 0) none in
      let high : get_or xs (n + 1) 0 ≡ c / 256 =
      ap (λ t. get_or t (n + 1) 0) is ∙ get_or-append_right payload tail (length payload) (n + 1) 0 refl (omega arith) ∙ ap (λ k. get_or tail k 0) one in
      let front : take n xs ≡ payload = (λ i. take (count i) (is i)) ∙ take_at payload tail (length payload) refl in
      record {
        head = cc g.whole;
        some = omega (arith, g.short);
        small = omega (arith, g.long);
        enough = omega arith;
        sum = ap ccitt front ∙ omega (arith, low, high);
        is = front;
      }

-- a good frame has five bytes at least
frame_length : (bytes payload : List ℕ) → GoodFrame bytes payload → 5 ≤ length bytes
frame_length bytes payload g =
    let tail = (ccitt payload % 256) ∷ (ccitt payload / 256) ∷ [] in
    omega (arith, ap length g.whole, length-append payload tail, g.short)

pub acts_on_good_frames : ActsOnGoodFrames
acts_on_good_frames [] byte payload open_still small =
    (λ e. absurd (header_not_good byte payload e), λ g. absurd (omega (arith, frame_length _ payload g)))
acts_on_good_frames (h ∷ []) byte payload open_still small = (
  λ e. let s = good_passed h byte [] payload e in absurd (omega (arith, s.enough)),
  λ g. absurd (omega (arith, frame_length _ payload g)),
)
acts_on_good_frames (h ∷ n ∷ rest) byte payload open_still small = (
  λ e. forward h n rest byte payload (open_short h n rest open_still) small (good_passed h n _ payload e),
  λ g. passed_good h n _ payload (backward h n rest byte payload g),
)
