use Rattle.std.proofs.Common.{rules, ◌≡◌, ℕ, ◌+◌, List, ◌∙◌, ap, fold, arith}
use Rattle.std.proofs.lemmas.Iterator.{YieldsList-from_range, YieldsList-from_map}
use Rattle.std.proofs.lemmas.Iterator.Consumers.{fold_from_yields_List}
use Rattle.image.specs.Check.{accepted}
use Rattle.memory.specs.State.{State, at}
use Rattle.area.specs.Reads.{reads}
use Rattle.area.proofs.Starting.{erased_entry, some_entry}
use Rattle.area.proofs.startable_at.Goals as goal

pub returns-then-from_le_bytes : goal.returns-then-from_le_bytes
returns-then-from_le_bytes g c =
    erased_entry (g.M.Memory.make.state c.args.memory.now) c.args.place c.args.length (accepted g.C.ImageCheck.check) c.if-length-lt2.false _ _
    c.byte-low.ensures c.byte-high.ensures (omega arith)

pub returns : goal.returns
returns g c =
    let s : State = g.M.Memory.make.state c.args.memory.now in
    let check = g.C.ImageCheck.check in
    let area : List ℕ = reads s c.args.place c.args.length in
    let folded : c.fold-state.result ≡ fold check.step c.start.result area =
    fold_from_yields_List _ check.step _ _ c.fold-state.ensures.ran
    (YieldsList-from_map _ (λ (i : ℕ). at s (c.args.place + i)) (YieldsList-from_range 0 c.args.length c.args.length c.map.ensures.source (omega arith)) c.map.ensures.closure (λ x r q k. search rules))
    (λ y x b q k. search rules) in
    c.accepts.ensures ∙ ap check.accepts (folded ∙ ap (λ a. fold check.step a area) c.start.ensures)
    ∙ some_entry s c.args.place c.args.length (accepted check) c.if-length-lt2.false _ _ c.byte-low.ensures c.byte-high.ensures (λ e. omega arith)
