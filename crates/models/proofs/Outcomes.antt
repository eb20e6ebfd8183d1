-- A list of changes of a simulated memory has one outcome.
use Rattle.std.proofs.Common.{◌≡◌, ℕ, true, List, [], ◌∷◌, Ok, Err, sym, ap, ◌∙◌, Bor, MutBor}
use Rattle.memory.specs.Change.{Change, End}
use Rattle.memory.specs.Ran.{Ran, none, stop, more}
use Rattle.models.specs.Cells.{Cells}
use Rattle.models.specs.Simulated.{made, simulated, Exact, Fresh}
use Rattle.models.specs.declared.simulated.Cut.{Cut}
use Rattle.models.specs.declared.simulated.Simulated.{Simulated}

-- what follows a change, by how it ended
abbrev after : {C : Type 0} → (List Change → Simulated C → Simulated C × End) → List Change → Simulated C × End → Simulated C × End
after go cs p = elim p.1 [ Ok _ ↦ go cs p.0 | Err f ↦ (p.0, Err f) ]

pub exact : (cells : Cells) (C : Type 0) → Exact cells C
exact cells C [] m n r (none e a) = λ i. (e i, a i)
exact cells C (c ∷ cs) m n r (stop f h a) = (λ i. (n, a i)) ∙ ap (after (made cells) cs) ((λ i. (n, sym a i)) ∙ h.1)
exact cells C (c ∷ cs) m n r (more {n = o} h rest) = exact cells C cs o n r rest ∙ ap (after (made cells) cs) h.1

-- what a memory is after a list of changes, and how they ended, if it is known what it was
pub ran_from : {C : Type 0} (cells : Cells) {cs : List Change} {m x n : Simulated C} {r : End} → m ≡ x → Ran (simulated cells) cs m n r
    → (n, r) ≡ made cells cs x
ran_from {C} cells {cs} {m} {x} {n} {r} e h = exact cells C cs m n r h ∙ ap (made cells cs) e

-- the same of a new memory
pub ran_fresh : {C : Type 0} (cells : Cells) {bytes : MutBor (List ℕ)} {cuts : Bor (List Cut)} {cs : List Change} {m n : Simulated C} {r : End}
    → Fresh bytes cuts m → Ran (simulated cells) cs m n r
    → (n, r) ≡ made cells cs (record { bytes = bytes; cuts = cuts; finished = 0; on = true; cells = m.cells })
ran_fresh cells {m = m} f =
    ran_from cells (λ i. record { bytes = f.over i; cuts = f.with i; finished = f.finished i; on = f.on i; cells = m.cells })

-- what a list of changes left of a memory's bytes, and how it ended
pub record Came {C : Type 0} (n : Simulated C) (r : End) (p : Simulated C × End) : Type 0 where
  pub kept : n.bytes.ghost_name ≡ p.0.bytes.ghost_name
  pub bytes : n.bytes.now ≡ p.0.bytes.now
  pub end : r ≡ p.1

pub came : {C : Type 0} {n : Simulated C} {r : End} {p : Simulated C × End} → (n, r) ≡ p → Came n r p
came e = record { kept = λ i. (e i).0.bytes.ghost_name; bytes = λ i. (e i).0.bytes.now; end = λ i. (e i).1 }
