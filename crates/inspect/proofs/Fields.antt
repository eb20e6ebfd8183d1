-- A number that was mapped to its display is told as the number's digits.
use Rattle.std.proofs.Common.{◌≡◌, ℕ, List, Some, None, Option, MatchOption, ap}
use Rattle.std.specs.Option.{IsSomeAnd}
use Rattle.inspect.specs.Text.{field_text, field_output}

pub field_is : {A D : Type 0} {P : A → D → Type 0} (o : Option A) (r : Option D) → MatchOption o (r ≡ None) (λ x. IsSomeAnd r (P x))
    → (output : D → Option (List ℕ)) (digits : A → List ℕ) → ((x : A) (d : D) → P x d → output d ≡ Some (digits x))
    → field_output output r ≡ Some (field_text digits o)
field_is None r h output digits same = ap (field_output output) h
field_is (Some x) (Some d) h output digits same = rw (same x d h)
field_is (Some x) None h output digits same = absurd h
