-- Calls made one after the other.
use Rattle.std.proofs.Common.{◌≡◌, ℕ, ◌+◌, ◌<◌, Bool, List, [], ◌∷◌, ◌++◌, map, length, get_or, take, set, Some, sym, refl, ap, ◌∙◌}
use Rattle.std.proofs.lemmas.List.{map_push, map-set, get_or-map, set-get_or, take_more_set}
use Rattle.memory.specs.Make.{Make}
use Rattle.rule.specs.Calls.{Engine, Machine, Called}
use Rattle.rule.specs.Frames.{framed}
use Rattle.rule.specs.Rule.{Step, History}
use Rattle.words.specs.Outcomes.{Outcome, Reply}
use Rattle.words.specs.declared.Turn.{Turn}
use Rattle.controller.specs.Playing.{calls, turn}

history_more : {M : Type 0} {E : Engine M} (m n : Machine E) (es : List (Step E)) (e : Step E) → History m es n → e.before ≡ n → History m (es ++ e ∷ []) e.after
history_more m n [] e h is = (is ∙ h, refl)
history_more m n (d ∷ es) e h is = (h.0, history_more d.after n es e h.1 is)

-- the first i of the turns have been played
pub record SoFar {M : Type 0} (accepts : List ℕ → Bool) (make : Make M) (before now : List (Turn ℕ Reply)) (i : ℕ) (m n : Machine (framed accepts make)) : Type 0 where
  pub steps : List (Step (framed accepts make))
  pub history : History m steps n
  pub front : take i now ≡ map turn steps
  pub same : calls now ≡ calls before

module _ {M : Type 0} (accepts : List ℕ → Bool) (make : Make M) (before : List (Turn ℕ Reply)) (m : Machine (framed accepts make)) where
  pub one_more : (now : List (Turn ℕ Reply)) (i : ℕ) (n o : Machine (framed accepts make)) (d : Turn ℕ Reply) (r : Outcome Reply)
      → i < length now → SoFar accepts make before now i m n → Called (get_or now i d).call n o r
      → SoFar accepts make before (set now i (record { call = (get_or now i d).call; outcome = Some r })) (i + 1) m o
  one_more now i n o d r lt s called =
      let e : Step (framed accepts make) = record { call = (get_or now i d).call; before = n; after = o; outcome = r; called = called } in
      record {
        steps = s.steps ++ e ∷ [];
        history = history_more m n s.steps e s.history refl;
        front = take_more_set now i (turn e) lt ∙ ap (λ xs. xs ++ turn e ∷ []) s.front ∙ sym (map_push turn s.steps e);
        same =
            map-set (λ t. t.call) now i (turn e)
            ∙ ap (set (calls now) i) (sym (get_or-map (λ (t : Turn ℕ Reply). t.call) now i d d.call lt))
            ∙ set-get_or (calls now) i d.call
            ∙ s.same;
      }
