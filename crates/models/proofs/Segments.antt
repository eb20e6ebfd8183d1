-- A segment of a memory's bytes that was written as a whole.
use Rattle.std.proofs.Common.{◌≡◌, ℕ, ◌+◌, ◌-◌, ◌*◌, List, ◌++◌, take, Option, Some, None, Ok, Err, sym, ap, ◌∙◌, arith}
use borrow.Rule.Slice.PartMut.{put_mid}
use Rattle.std.proofs.lemmas.List.{drop-drop}
use Rattle.memory.specs.Change.{erase, End}
use Rattle.models.specs.Cells.{Cells}
use Rattle.models.specs.Simulated.{Fate, fate, counted, holding, put, met, changed}
use Rattle.models.specs.declared.simulated.Simulated.{Simulated}

mid_put : (place n : ℕ) (bytes new segment : List ℕ) → n ≡ 512 → new ≡ segment → put_mid place n bytes new ≡ put bytes place segment
mid_put place n bytes new segment e f = rw (f, e) (ap (λ t. take place bytes ++ (segment ++ t)) (drop-drop 512 place bytes))

-- a change that was begun has not yet touched the bytes
pub begun_bytes : {C : Type 0} (f : Fate) (m b : Simulated C) → b ≡ counted f m → b.bytes.now ≡ m.bytes.now
begun_bytes (Err fault) m b h = ap (λ x. x.bytes.now) h
begun_bytes (Ok None) m b h = ap (λ x. x.bytes.now) h
begun_bytes (Ok (Some pattern)) m b h = ap (λ x. x.bytes.now) h

-- an erase that was begun, and torn or finished: what was put in place is what the definition puts there
pub erase_met : {C : Type 0} (cells : Cells) (m b : Simulated C) (place i : ℕ) (new : List ℕ) (was torn : Option ℕ) (end : ℕ → End) (segment : ℕ → List ℕ)
    → was ≡ torn → Ok was ≡ fate place 512 m → b ≡ counted (Ok was) m → place ≡ 512 * i → new ≡ segment place
    → (holding (put m.bytes.now (512 * i) (segment (512 * i))) (counted (Ok torn) m), end (512 * i)) ≡ met cells (Ok torn) (erase i) m
    → (holding (put_mid place (place + 512 - place) b.bytes.now new) b, end place) ≡ changed cells (erase i) m
erase_met {C} cells m b place i new was torn end segment by is count same put_there meets =
    let Out : Type 0 = Simulated C × End in
    let out : Simulated C → List ℕ → ℕ → Out = λ x v q. (holding v x, end q) in
    ap (λ xs. out b (put_mid place (place + 512 - place) xs new) place) (begun_bytes (Ok was) m b count)
    ∙ ap (λ v. out b v place) (mid_put place (place + 512 - place) m.bytes.now new (segment place) (omega arith) put_there)
    ∙ ap (λ x. out x (put m.bytes.now place (segment place)) place) (count ∙ ap (λ t. counted (Ok t) m) by)
    ∙ ap (λ q. out (counted (Ok torn) m) (put m.bytes.now q (segment q)) q) same
    ∙ meets
    ∙ ap (λ v. met cells v (erase i) m) (ap Ok (sym by) ∙ is ∙ ap (λ q. fate q 512 m) same)
