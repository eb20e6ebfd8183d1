-- Commands as the code has them, by their effects.
use Rattle.std.specs.Prelude.{◌≡◌, ◌⊎◌, ℕ, Bool, List, [], Ok, Err, Result}
use Rattle.memory.specs.State.{State}
use Rattle.memory.specs.Make.{Make}
use Rattle.memory.specs.Ran.{Ran, erases}
use Rattle.memory.specs.declared.Fault.{Fault}
use Rattle.area.specs.Reads.{reads}
use Rattle.image.specs.Startable.{startable}
use Rattle.layout.specs.Areas.{application_size, download_place}
use Rattle.layout.specs.declared.divided.Layout.{Layout}
use Rattle.rule.specs.Command.{Effect, effect, erase_segment, write_block, jump}
use Rattle.rule.specs.Performed.{Performed}
use Rattle.words.specs.declared.Answer.{Answer}
use Rattle.words.specs.declared.Answer.TheVariants.{Done, Version, InvalidParams, IncorrectCommand}
use Rattle.words.specs.declared.Job.TheVariants.{HostCommand}
use Rattle.words.specs.declared.Refusal.{Refusal}
use Rattle.commands.specs.declared.Command.{Command}
use Rattle.commands.specs.declared.Command.TheVariants as C
use Rattle.commands.specs.declared.Response.{Response}

-- whether the download area of a memory may be started
abbrev pub ready : (List ℕ → Bool) → Layout → State → Bool
ready accepts l s = startable accepts (reads s download_place (application_size l))

-- what a command does, or the answer where a payload is none; `can` says whether the download area is startable
abbrev pub effect_of : Layout → Bool → Result Command Answer → Effect
effect_of l can (Ok (C.EraseSegment address)) = erase_segment l address
effect_of l can (Ok C.EraseAll) = effect (erases 1 l.k) Done
effect_of l can (Ok (C.WriteBlock address block)) = write_block l address block.now
effect_of l can (Ok C.Version) = effect [] Version
effect_of l can (Ok C.Jump) = jump can
effect_of l can (Err answer) = effect [] answer

-- the answers to a payload that is no command: its address is missing, or its first byte names none
abbrev pub AnswersNone : Answer → Type 0
AnswersNone answer = (answer ≡ InvalidParams) ⊎ (answer ≡ IncorrectCommand)

-- what is sent back after an effect, and the phase then
abbrev pub response : Effect → Response
response e = record { answer = e.answer; phase = e.phase }

-- the changes of an effect made in turn: all of them and its response, or up to a change that was refused
abbrev pub Carried : {M : Type 0} → Make M → Effect → M → M → Result Response Fault → Type 0
Carried make e m n (Ok x) = Ran make e.changes m n (Ok tt) × (x ≡ response e)
Carried make e m n (Err f) = Ran make e.changes m n (Err f)

-- the same, with the refusal of a call
abbrev pub Obeyed : {M : Type 0} → Make M → Effect → M → M → Result Response Refusal → Type 0
Obeyed make e = Performed make e.changes (λ _. HostCommand) (response e)
