use Rattle.std.proofs.Common.{◌≡◌, ℕ, ◌<◌, List, [], ◌∷◌, ◌++◌, length, get_or, replicate, refl, sym, ap, ◌∙◌, arith, rules}
use Rattle.memory.specs.Change.{End}
use Rattle.memory.specs.Ran.{writes}
use Rattle.memory.proofs.Effects.{ran_as}
use Rattle.models.specs.Cells.{Cells, Sound}
use Rattle.models.specs.declared.simulated.Simulated.{Simulated}
use Rattle.models.proofs.Outcomes.{ran_fresh, ran_from, came}
use Rattle.callers.proofs.whole_run_in.Goals as goal

-- three bytes, written out
three : (xs : List ℕ) → length xs ≡ 3 → xs ≡ get_or xs 0 0 ∷ get_or xs 1 0 ∷ get_or xs 2 0 ∷ []
three [] e = absurd (omega arith)
three (a ∷ []) e = absurd (omega arith)
three (a ∷ b ∷ []) e = absurd (omega arith)
three (a ∷ b ∷ c ∷ []) e = refl
three (a ∷ b ∷ c ∷ d ∷ xs) e = absurd (omega arith)

-- an erased byte takes each of them
taken : (cells : Cells) → Sound cells → (xs : List ℕ) → length xs ≡ 3 → ((i : ℕ) → get_or xs i 0 < 256)
    → cells.mix 0xFF (get_or xs 0 0) ∷ cells.mix 0xFF (get_or xs 1 0) ∷ cells.mix 0xFF (get_or xs 2 0) ∷ [] ≡ xs
taken cells sound xs e small = rw (sound.erased _ (small 0), sound.erased _ (small 1), sound.erased _ (small 2)) (sym (three xs e))

pub returns : goal.returns
returns g c =
    let cells = g.C.Cells.rules in
    let written = c.args.written in
    let long : length written ≡ 3 = search rules in
    let erased = ran_fresh cells c.new-memory.ensures c.erase_all.ensures.ran in
    let ran = ran_from cells (ap (λ (p : Simulated g.row.C.Denot × End). p.0) erased) (ran_as (ap (writes 3) (three written long)) c.write_all-end.ensures.ran) in
    let left = came ran in
    let bytes : c.write_all-end.new.memory.bytes.now ≡ replicate 3 0xFF ++ written ++ replicate 506 0xFF ++ replicate 88 0x05 =
    left.bytes ∙ ap (λ xs. replicate 3 0xFF ++ xs ++ replicate 506 0xFF ++ replicate 88 0x05) (taken cells g.met.C.Cells.sound written long (λ i. search rules)) in
    record { bytes = search rules; end = left.end }
