-- What a restart leaves, finished or cut.
use Rattle.std.proofs.Common.{◌≡◌, ℕ, zero, suc, ◌+◌, ◌-◌, ◌*◌, ◌<◌, ◌≤◌, cond, eqb, ◌⊎◌, List, [], ◌++◌, length, get_or, Ok, sym, refl, ap, ◌∙◌, subst, inl, inr, ⊎_elim, arith, length-drop, length-take}
use Rattle.std.proofs.lemmas.Bool.{cases_lt, cases_eq, cond_both}
use Rattle.std.proofs.lemmas.Bool.Decides.{nat_tests}
use Rattle.std.proofs.lemmas.List.{get_or_default}
use Rattle.memory.specs.State.{State, at, size}
use Rattle.memory.specs.Change.{erase, End}
use Rattle.memory.specs.Make.{Make, Laws}
use Rattle.memory.specs.Ran.{Ran, stop, more, erases, Within}
use Rattle.memory.proofs.Effects.{changed_left, nothing_ran, ran_as, ran_to, Split, early, late, split}
use Rattle.memory.proofs.Effects.{within_append, erases_within, ran_size, ran_apart, stand, wrote}
use Rattle.layout.specs.Areas.{size as whole_size, part, mark, download, application, boot}
use Rattle.layout.specs.declared.divided.Layout.{Layout}
use Rattle.rule.specs.Restart.{copy, copies, clears, mends}
use Rattle.rule.proofs.Areas.{copies_within, part_length, part_at, part_small, part_same, ran_part}

-- the ways a restart may find the mark, and what it is to change then
data Marked (l : Layout) (xs : List ℕ) : Type 0 where
  approved : mark xs ≡ 0x5A → mends l xs ≡ copies l xs 0 l.k ++ clears l → Marked l xs
  blank : mark xs ≡ 0xFF → mends l xs ≡ [] → Marked l xs
  spoiled : (mark xs ≡ 0x5A → ⊥) → (mark xs ≡ 0xFF → ⊥) → mends l xs ≡ clears l → Marked l xs

marks : (l : Layout) (xs : List ℕ) → Marked l xs
marks l xs =
    ⊎_elim (λ is. approved is (grind (arith, nat_tests)))
    (λ other. ⊎_elim (λ is. blank is (grind (arith, nat_tests))) (λ non. spoiled other non (grind (arith, nat_tests))) (cases_eq (mark xs) 0xFF))
    (cases_eq (mark xs) 0x5A)

-- a restart stays below the boot area
pub mends_within : (l : Layout) (xs : List ℕ) → length xs ≡ whole_size l → Within 0 (512 * (1 + 2 * l.k)) (mends l xs)
mends_within l xs sized =
    let top = 512 * (1 + 2 * l.k) in
    let copied = copies_within 0 top l xs 0 l.k (omega arith) (omega arith) (omega arith) in
    let cleared : Within 0 top (clears l) =
    ((omega arith, omega arith), erases_within 0 top 1 l.k (omega arith) (omega arith)) in
    let due = eqb (mark xs) 0x5A in
    let none = eqb (mark xs) 0xFF in
    within_append 0 top (cond due (copies l xs 0 l.k) []) (cond none [] (clears l))
    (cond_both due _ [] (Within 0 top) (λ _. copied) (λ _. tt))
    (cond_both none [] _ (Within 0 top) (λ _. tt) (λ _. cleared))

-- the image is still to be copied, or what Q says of the application area holds and no other image is copied
abbrev pub Pending : Layout → (List ℕ → Type 0) → List ℕ → List ℕ → Type 0
Pending l Q img xs =
    ((mark xs ≡ 0x5A) × (download l xs ≡ img))
    ⊎ (Q (application l xs) × ((mark xs ≡ 0xFF) ⊎ (download l xs ≡ img)))

module _ {M : Type 0} {make : Make M} (laws : Laws make) (l : Layout) where
  abbrev mem : M → State
  mem = make.state

  abbrev bytes : M → List ℕ
  bytes m = (mem m).bytes

  -- a finished copy of one segment
  segment_copied : (xs : List ℕ) (i : ℕ) {m n : M} → 512 * (1 + i) + 512 ≤ length xs → ((j : ℕ) → get_or xs j 255 < 256)
      → Ran make (copy l xs i) m n (Ok tt)
      → (q : ℕ) → q < 512 → at (mem n) (512 * (1 + l.k + i) + q) ≡ get_or xs (512 * (1 + i) + q) 255
  segment_copied xs i {m} {n} long small (stop f h a) q lt = absurd cc
  segment_copied xs i {m} {n} long small (more {n = o} h t) q lt =
      let from = 512 * (1 + i) in
      let to = 512 * (1 + l.k + i) in
      let len = part_length from 512 xs long in
      let blank : (j : ℕ) → j < length (part from 512 xs) → at (mem o) (to + j) ≡ 255 =
      λ j lj. changed_left (laws.change _ m o _ h) (to + j) (omega arith) (omega arith) in
      stand laws to (part from 512 xs) o (mem n) (part_small from 512 xs long small) ((wrote laws to (part from 512 xs) t).finished refl) blank q (omega arith)
      ∙ get_or_default (part from 512 xs) q 0 255 (omega arith)
      ∙ part_at from 512 xs q lt

  -- a finished copy of n segments from the i-th up
  copied : (xs : List ℕ) (i n : ℕ) {m o : M} → 512 * (1 + i + n) ≤ length xs → ((j : ℕ) → get_or xs j 255 < 256)
      → Ran make (copies l xs i n) m o (Ok tt)
      → (q : ℕ) → q < 512 * n → at (mem o) (512 * (1 + l.k + i) + q) ≡ get_or xs (512 * (1 + i) + q) 255
  copied xs i zero long small h q lt = absurd (omega arith)
  copied xs i (suc n) {m} {o} long small h q lt =
      by (λ v b j lj. copied xs (i + 1) n {m = v} {o = o} (omega arith) small b j lj) (split (copy l xs i) _ h)
    where
      to : ℕ
      to = 512 * (1 + l.k + (i + 1))

      from : ℕ
      from = 512 * (1 + (i + 1))

      by : ((v : M) → Ran make (copies l xs (i + 1) n) v o (Ok tt)
          → (j : ℕ) → j < 512 * n → at (mem o) (to + j) ≡ get_or xs (from + j) 255)
          → Split make (copy l xs i) (copies l xs (i + 1) n) m o (Ok tt)
          → at (mem o) (512 * (1 + l.k + i) + q) ≡ get_or xs (512 * (1 + i) + q) 255
      by again (early f e u) = absurd cc
      by again (late {o = v} a b) =
          ⊎_elim
          (λ low.
          let hi = 512 * (1 + l.k + ((i + 1) + n)) in
          let w = copies_within to hi l xs (i + 1) n (omega arith) (omega arith) (omega arith) in
          (ran_apart laws b to hi w).outside _ (inl (omega arith))
          ∙ segment_copied xs i (omega arith) small a q low)
          (λ high.
          let e : to + (q - 512) ≡ 512 * (1 + l.k + i) + q = omega arith in
          let f : from + (q - 512) ≡ 512 * (1 + i) + q = omega arith in
          ap (λ p. at (mem o) p) (sym e) ∙ again v b (q - 512) (omega arith) ∙ ap (λ p. get_or xs p 255) f)
          (cases_lt q 512)

  -- what a copy of the whole download area leaves, finished or cut
  record Copied (m n : M) (r : End) : Type 0 where
    pub mark : mark (bytes n) ≡ mark (bytes m)
    pub image : download l (bytes n) ≡ download l (bytes m)
    pub done : r ≡ Ok tt → application l (bytes n) ≡ download l (bytes m)

  all_copied : {m n : M} {r : End} → size (mem m) ≡ whole_size l
      → Ran make (copies l (bytes m) 0 l.k) m n r → Copied m n r
  all_copied {m} {n} {r} sized h =
      let lo = 512 * (1 + l.k) in
      let hi = 512 * (1 + 2 * l.k) in
      let w = copies_within lo hi l (bytes m) 0 l.k (omega arith) (omega arith) (omega arith) in
      let len = ran_size laws h in
      record {
        mark = (ran_apart laws h lo hi w).outside 0 (inl (omega arith));
        image = ran_part laws h lo hi w 512 (512 * l.k) (inl (omega arith));
        done = λ e.
            part_same lo 512 (512 * l.k) (bytes m) (bytes n) (simp (length-take, length-drop) (omega arith)) (λ q lt.
            let to : lo + q ≡ 512 * (1 + l.k + 0) + q = omega arith in
            let from : 512 * (1 + 0) + q ≡ 512 + q = omega arith in
            ap (λ p. at (mem n) p) to
            ∙ copied (bytes m) 0 l.k (omega arith) (laws.lawful m).bytes (ran_to e h) q lt
            ∙ ap (λ p. at (mem m) p) from);
      }

  -- with the mark erased the download area goes too
  unmarked : {m n o : M} {r : End} → make.changes (erase 0) m o (Ok tt) → Ran make (erases 1 l.k) o n r
      → mark (bytes n) ≡ 0xFF
  unmarked {m} {n} {o} f t =
      let top = 512 * (1 + l.k) in
      (ran_apart laws t 512 top (erases_within 512 top 1 l.k (omega arith) (omega arith))).outside 0 (inl (omega arith))
      ∙ changed_left (laws.change _ m o _ f) 0 (omega arith) (omega arith)

  cleared_app : {m n : M} {r : End} → Ran make (clears l) m n r → application l (bytes n) ≡ application l (bytes m)
  cleared_app h =
      let top = 512 * (1 + l.k) in
      let w = erases_within 0 top 1 l.k (omega arith) (omega arith) in
      ran_part laws h 0 top ((omega arith, omega arith), w) top (512 * l.k) (inr (omega arith))

  -- the mark goes before the download area does
  cleared_safe : {m n : M} {r : End} → Ran make (clears l) m n r
      → (mark (bytes n) ≡ 0xFF) ⊎ (download l (bytes n) ≡ download l (bytes m))
  cleared_safe (stop f h a) =
      let alone = stop {cs = []} f h a in
      inr (ran_part laws alone 0 512 ((omega arith, omega arith), tt) 512 (512 * l.k) (inr (omega arith)))
  cleared_safe (more f t) = inl (unmarked f t)

  cleared_mark : {m n : M} → Ran make (clears l) m n (Ok tt) → mark (bytes n) ≡ 0xFF
  cleared_mark (stop f h a) = absurd cc
  cleared_mark (more f t) = unmarked f t

  -- a restart with the mark erased changes nothing
  pub blank_mended : {m n : M} {r : End} → mark (bytes m) ≡ 0xFF → Ran make (mends l (bytes m)) m n r → n ≡ m
  blank_mended {m} {n} {r} x h = by (marks l (bytes m))
    where
      by : Marked l (bytes m) → n ≡ m
      by (approved y e) = absurd (omega arith)
      by (blank y e) = (nothing_ran (ran_as e h)).0
      by (spoiled y z e) = absurd (z x)

  -- a restart changes no boot byte
  pub mended_boot : {m n : M} {r : End} → size (mem m) ≡ whole_size l → Ran make (mends l (bytes m)) m n r
      → boot l (bytes n) ≡ boot l (bytes m)
  mended_boot {m} sized h =
      let top = 512 * (1 + 2 * l.k) in
      ran_part laws h 0 top (mends_within l (bytes m) sized) top (512 * l.b) (inr (omega arith))

  -- a finished restart leaves the mark erased
  pub mended_mark : {m n : M} → Ran make (mends l (bytes m)) m n (Ok tt) → mark (bytes n) ≡ 0xFF
  mended_mark {m} {n} h = by (marks l (bytes m))
    where
      by : Marked l (bytes m) → mark (bytes n) ≡ 0xFF
      by (approved x e) = last (split _ _ (ran_as e h))
        where
          last : Split make (copies l (bytes m) 0 l.k) (clears l) m n (Ok tt) → mark (bytes n) ≡ 0xFF
          last (early f e u) = absurd cc
          last (late u v) = cleared_mark v
      by (blank x e) = ap (λ v. mark (bytes v)) (nothing_ran (ran_as e h)).0 ∙ x
      by (spoiled x y e) = cleared_mark (ran_as e h)

  -- what is pending stays so at a cut, and is there once a restart has finished
  module _ (Q : List ℕ → Type 0) (img : List ℕ) (wanted : Q img) where
    -- the image in place, or what was there
    settled : {m n : M} {r : End} → Q (application l (bytes m)) → download l (bytes m) ≡ img
        → Ran make (clears l) m n r
        → Pending l Q img (bytes n) × (r ≡ Ok tt → Q (application l (bytes n)))
    settled {m} {n} q is h =
        let app : Q (application l (bytes n)) = subst Q (sym (cleared_app h)) q in
        (inr (app, ⊎_elim inl (λ same. inr (same ∙ is)) (cleared_safe h)), λ e. app)

    pub mended : {m n : M} {r : End} → size (mem m) ≡ whole_size l → Pending l Q img (bytes m)
        → Ran make (mends l (bytes m)) m n r → Pending l Q img (bytes n) × (r ≡ Ok tt → Q (application l (bytes n)))
    mended {m} {n} {r} sized p h = by (marks l (bytes m)) p
      where
        copied_on : download l (bytes m) ≡ img → mark (bytes m) ≡ 0x5A
            → Split make (copies l (bytes m) 0 l.k) (clears l) m n r
            → Pending l Q img (bytes n) × (r ≡ Ok tt → Q (application l (bytes n)))
        copied_on is x (early f a u) =
            let c = all_copied sized u in
            (inl (c.mark ∙ x, c.image ∙ is), λ e. absurd cc)
        copied_on is x (late u v) =
            let c = all_copied sized u in
            settled (subst Q (sym (c.done refl ∙ is)) wanted) (c.image ∙ is) v

        by : Marked l (bytes m) → Pending l Q img (bytes m)
            → Pending l Q img (bytes n) × (r ≡ Ok tt → Q (application l (bytes n)))
        by (approved x e) (inl a) = copied_on a.1 x (split _ _ (ran_as e h))
        by (approved x e) (inr (q, inl off)) = absurd (omega arith)
        by (approved x e) (inr (q, inr is)) = copied_on is x (split _ _ (ran_as e h))
        by (blank x e) (inl a) = absurd (omega (arith, a.0))
        by (blank x e) (inr b) =
            let same = (nothing_ran (ran_as e h)).0 in (
              subst (λ v. Pending l Q img (bytes v)) (sym same) p,
              λ _. subst (λ v. Q (application l (bytes v))) (sym same) b.0,
            )
        by (spoiled x y e) (inl a) = absurd (x a.0)
        by (spoiled x y e) (inr (q, inl off)) = absurd (y off)
        by (spoiled x y e) (inr (q, inr is)) = settled q is (ran_as e h)
