use Rattle.std.proofs.Common.{rules, ◌+◌, ◌*◌, arith}
use Rattle.memory.specs.State.{State, at}
use Rattle.memory.specs.Ran.{stop, more}
use Rattle.mending.proofs.Copying.{made_by, part_read}
use Rattle.mending.proofs.copy_segment.Goals as goal

pub returns-in_err-erase : goal.returns-in_err-erase
returns-in_err-erase g c = search (rules, stop)

pub returns : goal.returns
returns g c =
    let s : State = g.M.Memory.make.state c.args.memory.now in
    let made = made_by c.from_fn-bytes.ensures.items (λ i. at s (512 * c.args.from + i)) (λ k r q h. search rules) in
    let same = part_read s.bytes c.from_fn-bytes.result (512 * c.args.from) c.from_fn-bytes.ensures.items.long (omega arith) made in
    search (rules, more)
