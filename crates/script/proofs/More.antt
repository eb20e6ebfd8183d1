-- Cuts and events of pieces of the bytes, of the same length each.
use Rattle.std.proofs.Common.{◌≡◌, ℕ, zero, suc, ◌+◌, ◌*◌, ◌/◌, ◌<◌, ◌≤◌, nat_le, List, [], ◌∷◌, map, length, get_or, take, drop, Option, Some, None, Ok, Err, Result, IfSome, Bor, sym, refl, ap, ◌∙◌, arith, length-take, length-drop}
use Rattle.std.proofs.lemmas.Bool.{le-leb}
use Rattle.std.proofs.lemmas.Bool.Decides.{nat_tests}
use Rattle.std.proofs.lemmas.List.{drop-take, get_or-take, get_or_default, take-take}
use Rattle.std.specs.List.{slice_get}
use Rattle.std.specs.Option.{IsSomeAnd, MatchOption}
use Rattle.std.specs.Simd.{first_chunks}
use Rattle.words.specs.declared.Call.{Call}
use Rattle.words.specs.declared.Refusal.{Refusal}
use Rattle.words.specs.declared.Refusal.TheVariants.{MalformedInput}
use Rattle.script.specs.Numbers.{at}
use Rattle.script.specs.Cuts.{cut, cuts}
use Rattle.script.specs.Events.{event, events, unplayed, before}

-- the bytes of a piece
front : (n place : ℕ) (bytes : List ℕ) → place < n → at (take n bytes) place ≡ at bytes place
front n place bytes h = get_or-take n bytes place 0 h

cut_front : (bytes : List ℕ) → cut (take 6 bytes) ≡ cut bytes
cut_front bytes =
    simp (front 6 0 bytes (omega arith), front 6 1 bytes (omega arith), front 6 2 bytes (omega arith), front 6 3 bytes (omega arith), front 6 4 bytes (omega arith), front 6 5 bytes (omega arith))

pub cuts_are : (count : ℕ) (bytes : List ℕ) → map cut (first_chunks 6 count (take (6 * count) bytes)) ≡ cuts count bytes
cuts_are zero bytes = refl
cuts_are (suc count) bytes =
    let more : 6 * suc count ≡ 6 + 6 * count = omega arith in
    simp (more, take-take 6 (6 + 6 * count) bytes (omega arith), drop-take 6 (6 * count) bytes, cut_front bytes, cuts_are count (drop 6 bytes))

event_front : (bytes : List ℕ) → 5 ≤ length bytes → event (take 5 bytes) ≡ event bytes
event_front bytes h =
    let long : nat_le 5 (length (take 5 bytes)) ≡ nat_le 5 (length bytes) = le-leb _ _ (omega (arith, length-take {A = ℕ})) ∙ sym (le-leb _ _ h) in
    simp (long, front 5 0 bytes (omega arith), front 5 1 bytes (omega arith), front 5 2 bytes (omega arith), front 5 3 bytes (omega arith), front 5 4 bytes (omega arith))

-- an event that is missing ends the events
event_none : (bytes : List ℕ) → length bytes < 5 → event bytes ≡ None
event_none bytes h = grind (arith, nat_tests)

-- the events of pieces, each a call, up to the count, the last piece, or one that is no event
pub events_are : (calls : List (Call ℕ)) (count pieces : ℕ) (bytes : List ℕ) (ending : Result Unit Refusal) → pieces ≡ length bytes / 5 → length calls ≤ count → length calls ≤ pieces
    → ((k : ℕ) → k < length calls → IfSome (slice_get calls k) (λ call. event (get_or (first_chunks 5 pieces bytes) k []) ≡ Some call))
    → (length calls < count → length calls < pieces → event (get_or (first_chunks 5 pieces bytes) (length calls) []) ≡ None)
    → (length calls ≡ count → ending ≡ Ok tt) → (length calls < count → ending ≡ Err MalformedInput)
    → events count bytes ≡ (map unplayed calls, ending)
events_are [] zero pieces bytes ending all few fit each last whole early = ap (λ (e : Result Unit Refusal). ([], e)) (sym (whole refl))
events_are [] (suc count) zero bytes ending all few fit each last whole early =
    ap (λ o. before o (events count (drop 5 bytes))) (event_none bytes (omega arith)) ∙ ap (λ (e : Result Unit Refusal). ([], e)) (sym (early (omega arith)))
events_are [] (suc count) (suc pieces) bytes ending all few fit each last whole early =
    ap (λ o. before o (events count (drop 5 bytes))) (sym (event_front bytes (omega arith)) ∙ last (omega arith) (omega arith)) ∙ ap (λ (e : Result Unit Refusal). ([], e)) (sym (early (omega arith)))
events_are (call ∷ calls) zero pieces bytes ending all few fit each last whole early = absurd (omega arith)
events_are (call ∷ calls) (suc count) zero bytes ending all few fit each last whole early = absurd (omega arith)
events_are (call ∷ calls) (suc count) (suc pieces) bytes ending all few fit each last whole early =
    ap (λ o. before o (events count (drop 5 bytes))) (sym (event_front bytes (omega arith)) ∙ each 0 (omega arith))
    ∙ ap (before (Some call))
    (events_are calls count pieces (drop 5 bytes) ending (omega (arith, length-drop {A = ℕ})) (omega arith) (omega arith)
    (λ k h. each (suc k) (omega arith)) (λ a b. last (omega arith) (omega arith)) (λ h. whole (omega arith)) (λ h. early (omega arith)))

-- what `event` gave for a piece that came
pub given : {G : Bor (List ℕ) → Call ℕ → Type 0} (reads : (x : Bor (List ℕ)) (y : Call ℕ) → G x y → event x.now ≡ Some y) (called : Option (Call ℕ)) (came : Option (Bor (List ℕ))) (xs : List (List ℕ)) (k : ℕ)
    → k < length xs → IfSome came (λ x. x.now ≡ get_or xs k x.now) → IfSome called (λ y. IsSomeAnd came (λ x. G x y)) → IfSome called (λ y. event (get_or xs k []) ≡ Some y)
given reads None came xs k within is h = tt
given reads (Some y) None xs k within is h = absurd h
given reads (Some y) (Some x) xs k within is h = sym (ap event (is ∙ get_or_default xs k x.now [] within)) ∙ reads x y h

-- what it gave for the piece that came last
pub refused : {N : Bor (List ℕ) → Type 0} {W : Type 0} (reads : (x : Bor (List ℕ)) → N x → event x.now ≡ None) (came : Option (Bor (List ℕ))) (xs : List (List ℕ)) (k : ℕ)
    → k < length xs → IfSome came (λ x. x.now ≡ get_or xs k x.now) → MatchOption came W N → (W → ⊥) → event (get_or xs k []) ≡ None
refused reads None xs k within is h never = absurd (never h)
refused reads (Some x) xs k within is h never = sym (ap event (is ∙ get_or_default xs k x.now [] within)) ∙ reads x h
