use Rattle.std.proofs.Common.{◌≡◌, ℕ, ◌*◌, ◌/◌, length, map, take, vec_items, Ok, ap, ◌∙◌, arith, rules}
use Rattle.std.proofs.lemmas.Iterator.{items_from_collect, YieldsList-from_map, YieldsList-from_slice}
use Rattle.std.specs.Simd.{first_chunks}
use Rattle.script.specs.Cuts.{cut}
use Rattle.script.proofs.More.{cuts_are}
use Rattle.script.proofs.take_cuts.Goals as goal

pub returns : goal.returns
returns c =
    let bytes = c.args.bytes.now in
    let count = c.args.count in
    let split = simp c.from.ensures at (rw c.in_ok-bytes.ensures.ok_part at c.split_at_checked.ensures.cases) in
    let whole : length c.in_ok-bytes.bytes.now / 6 ≡ count = omega (arith, split.3) in
    let pieces : c.as_chunks.result.0.now ≡ first_chunks 6 count (take (6 * count) bytes) =
    c.as_chunks.ensures.front ∙ (ap (λ n. first_chunks 6 n c.in_ok-bytes.bytes.now) whole ∙ ap (first_chunks 6 count) split.1) in
    let cuts_of : vec_items c.in_ok-collect.field-0 ≡ map cut c.as_chunks.result.0.now =
    items_from_collect {E = ℕ} (Ok c.in_ok-collect.field-0) c.in_ok-collect.ensures.ran
    (YieldsList-from_map _ cut (YieldsList-from_slice c.as_chunks.result.0.now cc) c.map.ensures.closure (λ x r q k. search rules)) in
    (split.0, cuts_of ∙ (ap (map cut) pieces ∙ cuts_are count bytes), split.2)
