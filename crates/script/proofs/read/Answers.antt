use Rattle.std.proofs.Common.{◌≡◌, ℕ, ◌*◌, Bool, true, false, cond, nat_le, Option, Some, None, Ok, Err, Result, ok_or, length, drop, sym, refl, ap, ◌∙◌, rules}
use Rattle.std.proofs.lemmas.Bool.{le-leb}
use Rattle.std.proofs.lemmas.List.{take_rest}
use Rattle.layout.specs.Areas.{exists}
use Rattle.words.specs.declared.Refusal.{Refusal}
use Rattle.words.specs.declared.Refusal.TheVariants.{BadLayout, MalformedInput}
use Rattle.script.specs.declared.Kind.{Kind}
use Rattle.script.specs.Numbers.{at}
use Rattle.script.proofs.Sections.{after_cuts}
use Rattle.script.proofs.read.Goals as goal

-- a layout that was made exists, and has the numbers that it was made of
layout_is : (t : Bool) (k b k' b' : ℕ) → ◌≡◌ {A = Result (ℕ × ℕ) Refusal} (Ok (k', b')) (cond t (Ok (k, b)) (Err BadLayout)) → (t ≡ true) × (k' ≡ k) × (b' ≡ b)
layout_is true k b k' b' e =
    let both : (k', b') ≡ (k, b) = cc in
    (refl, ap (λ (p : ℕ × ℕ). p.0) both, ap (λ (p : ℕ × ℕ). p.1) both)
layout_is false k b k' b' e = absurd (cc e)

-- a kind that was read is the kind of its number
kind_is : (o : Option Kind) (kind : Kind) → Ok kind ≡ ok_or o MalformedInput → o ≡ Some kind
kind_is None kind e = absurd (cc e)
kind_is (Some other) kind e = cc

pub returns : goal.returns
returns c =
    let bytes = c.args.input.now in
    let rest = c.in_ok-count.rest.now in
    let made = layout_is (exists (at bytes 1) (at bytes 2)) (at bytes 1) (at bytes 2) _ _ c.in_ok-layout.ensures in
    let found = c.in_ok-cuts.ensures in
    let second = simp found.2 at c.in_ok-count-2.ensures in
    let two : nat_le 2 (length (drop (6 * c.in_ok-count.count) rest)) ≡ true = le-leb _ _ second.0 in
    after_cuts bytes rest c.in_ok-kind.kind c.in_ok-count.count (search rules) (search rules) (kind_is _ _ c.in_ok-kind.ensures) (simp take_rest at c.in_ok-count.ensures) c.if-count-gt-MOST_CUTS.false found.0
    ∙ simp (made.0, made.1, made.2, found.1, two, sym second.1, sym second.2, c.in_ok-turns.ensures)

pub returns-in_err-layout : goal.returns-in_err-layout
returns-in_err-layout c =
    let bytes = c.args.input.now in
    let says = after_cuts bytes c.in_ok-count.rest.now c.in_ok-kind.kind c.in_ok-count.count (search rules) (search rules) (kind_is _ _ c.in_ok-kind.ensures) (simp take_rest at c.in_ok-count.ensures) c.if-count-gt-MOST_CUTS.false c.in_ok-cuts.ensures.0 in
    rw says (search rules)
