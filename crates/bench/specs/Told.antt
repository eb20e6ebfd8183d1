-- What a bench plays, and what it tells.
use Rattle.std.specs.Prelude.{◌≡◌, ℕ, true, List, replicate, Ok, Err, Result}
use Rattle.image.specs.Check.{accepted}
use Rattle.image.specs.Sums.{ccitt_check}
use Rattle.layout.specs.Areas.{size}
use Rattle.layout.specs.declared.divided.Layout.{Layout}
use Rattle.line.specs.One.{line_bytes}
use Rattle.line.specs.Every.{lines_from}
use Rattle.models.specs.Cells.{Cells, flash, fram}
use Rattle.models.specs.Simulated.{simulated}
use Rattle.models.specs.declared.cells.FlashCells.{FlashCells}
use Rattle.models.specs.declared.cells.FramCells.{FramCells}
use Rattle.models.specs.declared.simulated.Cut.{Cut}
use Rattle.models.specs.declared.simulated.Simulated.{Simulated}
use Rattle.rule.specs.Calls.{Machine}
use Rattle.rule.specs.Frames.{framed}
use Rattle.rule.specs.Rule.{Commissioned}
use Rattle.controller.specs.Playing.{Played, started}
use Rattle.script.specs.Whole.{Said}
use Rattle.script.specs.declared.Kind.{Kind}
use Rattle.script.specs.declared.Kind.TheVariants.{Flash, Fram}
use Rattle.words.specs.declared.Refusal.{Refusal}
use Rattle.words.specs.declared.Turn.{Turn}
use Rattle.words.specs.Outcomes.{Reply}

-- a new simulated memory: so many bytes, all 0xFF, and these cuts, none of them counted yet
pub record Blank {C : Type 0} (count : ℕ) (cuts : List Cut) (m : Simulated C) : Type 0 where
  pub over : m.bytes.now ≡ replicate count 0xFF
  pub with : m.cuts.now ≡ cuts
  pub finished : m.finished ≡ 0
  pub on : m.on ≡ true

-- a controller was commissioned over a blank memory of the layout's size, and the calls of the turns were played on it, with CRC-CCITT as
-- its image check
pub record Benched (cells : Cells) (C : Type 0) (l : Layout) (cuts : List Cut) (before after : List (Turn ℕ Reply)) : Type 0 where
  pub memory : Simulated C
  pub blank : Blank (size l) cuts memory
  pub commissioned : Commissioned (started (accepted ccitt_check) (simulated cells) l memory)
  pub end : Machine (framed (accepted ccitt_check) (simulated cells))
  pub played : Played (accepted ccitt_check) (simulated cells) before after (started (accepted ccitt_check) (simulated cells) l memory) end

-- the same, over a memory of some kind
abbrev pub BenchedOn : Kind → Layout → List Cut → (before after : List (Turn ℕ Reply)) → Type 0
BenchedOn Flash = Benched flash FlashCells
BenchedOn Fram = Benched fram FramCells

-- what is written for an input that says this: a line for each call as it came out
pub record Lines (said : Said) (out : List ℕ) : Type 0 where
  pub layout : Layout
  pub k : layout.k ≡ said.k
  pub b : layout.b ≡ said.b
  pub turns : List (Turn ℕ Reply)
  pub benched : BenchedOn said.kind layout said.cuts said.turns turns
  pub lines : out ≡ lines_from 1 turns said.ending

-- what is written for an input, or for one that is refused
abbrev pub Told : Result Said Refusal → List ℕ → Type 0
Told (Ok said) out = Lines said out
Told (Err why) out = out ≡ line_bytes 0 (Err why)
