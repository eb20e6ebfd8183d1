use Rattle.std.proofs.Common.{rules, sym, arith}
use Rattle.std.proofs.lemmas.Bool.{eqb-true}
use Rattle.memory.specs.Ran.{none}
use Rattle.commands.proofs.Carrying.{write_not}
use Rattle.commands.proofs.write_block.Goals as goal
use Rattle.commands.proofs.write_block.Goals.{in_default-via-in-Some+then-not-is_empty+else-offset-block, in_default-via-in-Some+else-not-is_empty, in_default-via-in_default}

pub returns-in_default : goal.returns-in_default
returns-in_default g c =
    let e = write_not c.args.layout.now c.args.address c.args.block.now (λ offset is some inside.
    elim c.in_default.branch [
      | in_default-via-in-Some+then-not-is_empty+else-offset-block w ↦ omega (arith, w.in-Some.ensures, w.if-offset-block.false)
      | in_default-via-in-Some+else-not-is_empty w ↦ omega (arith, eqb-true _ _ (sym w.if-not-is_empty.ensures))
      | in_default-via-in_default w ↦ omega (arith, w.in_default.ensures)
    ]) in
    search (rules, none)
