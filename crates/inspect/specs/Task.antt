-- The words that name a task.
use Rattle.std.specs.Prelude.{◌≡◌, ℕ, List, codes, Ok, Err, Result, ◌≢◌}
use Rattle.inspect.specs.declared.Task.{Task}
use Rattle.inspect.specs.declared.Task.TheVariants as T
use Rattle.inspect.specs.declared.Misuse.{Misuse}
use Rattle.inspect.specs.declared.Misuse.TheVariants as M

-- each task is named by its own word, and any other word is unknown
abbrev pub NamesATask : List ℕ → Result Task Misuse → Type 0
NamesATask word (Ok T.Inspect) = word ≡ codes "inspect"
NamesATask word (Ok T.Seal) = word ≡ codes "seal"
NamesATask word (Err e) = (word ≢ codes "inspect") × (word ≢ codes "seal") × (e ≡ M.UnknownWord)
