-- A loop that makes changes in turn: what is left of them leads from where it stands to the whole.
use Rattle.std.proofs.Common.{◌≡◌, ℕ, suc, ◌+◌, ◌-◌, ◌<◌, ◌≤◌, List, [], ◌∷◌, length, get_or, drop, Ok, Err, sym, refl, ap, ◌∙◌, subst, add_assoc, arith}
use Rattle.std.proofs.lemmas.List.{drop_more, drop_all}
use Rattle.memory.specs.Change.{Change, write, erase, End}
use Rattle.memory.specs.Make.{Make}
use Rattle.memory.specs.Ran.{Ran, none, stop, more, writes, erases}
use Rattle.memory.specs.declared.Fault.{Fault}

-- the changes ds made from k on complete the changes cs made from m on
abbrev pub Leads : {M : Type 0} → Make M → List Change → M → List Change → M → Type 0
Leads {M} make cs m ds k = (n : M) (r : End) → Ran make ds k n r → Ran make cs m n r

module _ {M : Type 0} {make : Make M} {cs : List Change} {m : M} where
  pub leads_next : {c : Change} {ds es : List Change} {k o : M}
      → ds ≡ c ∷ es → Leads make cs m ds k → make.changes c k o (Ok tt) → Leads make cs m es o
  leads_next {k = k} e leads h n r rest = leads n r (subst (λ xs. Ran make xs k n r) (sym e) (more h rest))

  pub leads_stop : {c : Change} {ds es : List Change} {k n : M} (f : Fault)
      → ds ≡ c ∷ es → Leads make cs m ds k → make.changes c k n (Err f) → Ran make cs m n (Err f)
  leads_stop {k = k} {n = n} f e leads h = leads n (Err f) (subst (λ xs. Ran make xs k n (Err f)) (sym e) (stop f h refl))

  pub leads_end : {ds : List Change} {k : M} → ds ≡ [] → Leads make cs m ds k → Ran make cs m k (Ok tt)
  leads_end {k = k} e leads = leads k (Ok tt) (subst (λ xs. Ran make xs k k (Ok tt)) (sym e) (none refl refl))

-- the writes that are left after i of them
pub writes_next : (place : ℕ) (bytes : List ℕ) (i : ℕ) → i < length bytes
    → writes (place + i) (drop i bytes) ≡ write (place + i) (get_or bytes i 0) ∷ writes (place + (i + 1)) (drop (i + 1) bytes)
writes_next place bytes i h =
    ap (writes (place + i)) (drop_more bytes i 0 h)
    ∙ ap (λ q. write (place + i) (get_or bytes i 0) ∷ writes q (drop (i + 1) bytes)) (add_assoc place i 1)

pub writes_end : (place : ℕ) (bytes : List ℕ) (i : ℕ) → length bytes ≤ i → writes (place + i) (drop i bytes) ≡ []
writes_end place bytes i h = ap (writes (place + i)) (drop_all i bytes h)

-- the erases that are left after i of n
pub erases_next : (segment n i : ℕ) → i < n
    → erases (segment + i) (n - i) ≡ erase (segment + i) ∷ erases (segment + (i + 1)) (n - (i + 1))
erases_next segment n i h =
    let e : n - i ≡ suc (n - (i + 1)) = omega arith in
    ap (erases (segment + i)) e ∙ ap (λ q. erase (segment + i) ∷ erases q (n - (i + 1))) (add_assoc segment i 1)

pub erases_end : (segment n i : ℕ) → n ≤ i → erases (segment + i) (n - i) ≡ []
erases_end segment n i h = let e : n - i ≡ 0 = omega arith in ap (erases (segment + i)) e
