-- Parts of a memory's bytes, and where the changes of a restart lie.
use Rattle.std.proofs.Common.{◌≡◌, ℕ, zero, suc, ◌+◌, ◌*◌, ◌<◌, ◌≤◌, ◌⊎◌, List, length, get_or, sym, ◌∙◌, subst, inl, inr, ⊎_elim, arith, length-drop, length-take, get_or-drop, get_or-take}
use Rattle.std.proofs.lemmas.Bool.{cases_lt}
use Rattle.std.proofs.lemmas.List.{get_or_past, get_or_default, ext_get_or}
use Rattle.memory.specs.Change.{Change, End}
use Rattle.memory.specs.Make.{Make, Laws}
use Rattle.memory.specs.Ran.{Ran, Within}
use Rattle.memory.proofs.Effects.{within_append, writes_within, ran_size, ran_apart}
use Rattle.layout.specs.Areas.{part}
use Rattle.layout.specs.declared.divided.Layout.{Layout}
use Rattle.rule.specs.Restart.{copy, copies}

pub part_length : (from long : ℕ) (xs : List ℕ) → from + long ≤ length xs → length (part from long xs) ≡ long
part_length from long xs h = simp (length-take, length-drop) (omega arith)

pub part_at : (from long : ℕ) (xs : List ℕ) (i : ℕ) → i < long → get_or (part from long xs) i 255 ≡ get_or xs (from + i) 255
part_at from long xs i h = rw (get_or-take, get_or-drop)

pub part_small : (from long : ℕ) (xs : List ℕ) → from + long ≤ length xs → ((i : ℕ) → get_or xs i 255 < 256)
    → (i : ℕ) → get_or (part from long xs) i 0 < 256
part_small from long xs h small i =
    let Small : ℕ → Type 0 = λ x. x < 256 in
    let len = part_length from long xs h in
    ⊎_elim
    (λ l. subst Small (sym (get_or_default (part from long xs) i 0 255 (omega arith) ∙ part_at from long xs i l)) (small (from + i)))
    (λ l. subst Small (sym (get_or_past (part from long xs) i 0 (omega arith))) (omega arith))
    (cases_lt i long)

-- two parts with the same bytes
pub part_same : (from to long : ℕ) (xs ys : List ℕ) → length (part from long ys) ≡ length (part to long xs)
    → ((q : ℕ) → q < long → get_or ys (from + q) 255 ≡ get_or xs (to + q) 255) → part from long ys ≡ part to long xs
part_same from to long xs ys len h =
    ext_get_or 255 _ _ len (λ i lt.
    let low : i < long = omega (arith, simp (length-take, length-drop) at lt) in
    part_at from long ys i low ∙ h i low ∙ sym (part_at to long xs i low))

pub copies_within : (lo hi : ℕ) (l : Layout) (xs : List ℕ) (i n : ℕ) → 512 * (1 + i + n) ≤ length xs
    → lo ≤ 512 * (1 + l.k + i) → 512 * (1 + l.k + (i + n)) ≤ hi → Within lo hi (copies l xs i n)
copies_within lo hi l xs i zero long a b = tt
copies_within lo hi l xs i (suc n) long a b =
    let e = part_length (512 * (1 + i)) 512 xs (omega arith) in
    within_append lo hi (copy l xs i) (copies l xs (i + 1) n)
    ((omega arith, omega arith), writes_within lo hi _ _ (omega arith) (omega arith))
    (copies_within lo hi l xs (i + 1) n (omega arith) (omega arith) (omega arith))

-- a list of changes leaves the parts outside it as they were
pub ran_part : {M : Type 0} {make : Make M} (laws : Laws make) {cs : List Change} {m n : M} {r : End} → Ran make cs m n r → (lo hi : ℕ) → Within lo hi cs
    → (from long : ℕ) → (from + long ≤ lo) ⊎ (hi ≤ from)
    → part from long (make.state n).bytes ≡ part from long (make.state m).bytes
ran_part {make = make} laws {m = m} {n = n} h lo hi w from long o =
    let e = ran_size laws h in
    part_same from from long (make.state m).bytes (make.state n).bytes (simp (length-take, length-drop) (omega arith))
    (λ q lt. (ran_apart laws h lo hi w).outside (from + q) (outside q lt o))
  where
    outside : (q : ℕ) → q < long → (from + long ≤ lo) ⊎ (hi ≤ from) → (from + q < lo) ⊎ (hi ≤ from + q)
    outside q lt (inl x) = inl (omega arith)
    outside q lt (inr x) = inr (omega arith)
