-- A simulated memory over bytes and a list of cuts that its caller holds: what each change leaves, exactly.
use Rattle.std.specs.Prelude.{◌≡◌, ℕ, ◌+◌, ◌*◌, ◌/◌, ◌%◌, ◌<◌, min, true, false, cond, List, [], ◌∷◌, ◌++◌, map, length, take, drop, replicate, Option, Some, None, Result, Ok, Err, nat_le, nat_lt, slice_index, slice_set}
use denote.Bor.{Bor}
use denote.Ref.{at_last, MutBor}
use Rattle.memory.specs.State.{State}
use Rattle.memory.specs.Change.{Change, write, erase, first, span, End}
use Rattle.memory.specs.Make.{Make}
use Rattle.memory.specs.Ran.{Ran}
use Rattle.memory.specs.declared.Fault.{Fault}
use Rattle.memory.specs.declared.Fault.TheVariants.{PastEnd, SupplyLost}
use Rattle.models.specs.Cells.{Cells}
use Rattle.models.specs.declared.simulated.Cut.{Cut}
use Rattle.models.specs.declared.simulated.Simulated.{Simulated}

-- whole segments of 512 bytes, at most 105 of them
abbrev pub whole : ℕ → ℕ
whole n = 512 * min 105 (n / 512)

-- how many bytes are used; those beyond are never touched
abbrev pub room : List ℕ → ℕ
room bytes = whole (length bytes)

-- what becomes of a change: it is refused, or begun, and then torn under a pattern or finished
abbrev pub Fate : Type 0
Fate = Result (Option ℕ) Fault

-- the bytes in use, each number taken as a byte
abbrev pub view : List ℕ → List ℕ
view bytes = map (λ byte. byte % 256) (take (room bytes) bytes)

-- the pattern that tears the next change: the first of the cuts that are left is due once as many changes have finished, since the
-- making or the last cut, as it counts
abbrev pub due : List Cut → (finished : ℕ) → Option ℕ
due [] finished = None
due (cut ∷ cuts) finished = cond (nat_le cut.count finished) (Some cut.pattern) None

-- the cuts after the first. Since whole memories are compared, it is said where their slice begins, too: a cut of 8 bytes further up
abbrev pub later : Bor (List Cut) → Bor (List Cut)
later cuts = record { ref_ptr = (cuts.ref_ptr.0, 8 + cuts.ref_ptr.1); now = drop 1 cuts.now }

-- finished changes are counted as long as a cut is left
abbrev pub one_more : List Cut → (finished : ℕ) → ℕ
one_more [] finished = finished
one_more (cut ∷ cuts) finished = finished + 1

module _ {C : Type 0} where
  -- what becomes of a change of n places from one up, in the order of the tests
  abbrev pub fate : (place n : ℕ) → Simulated C → Fate
  fate place n m =
      cond (nat_lt (room m.bytes.now) (place + n)) (Err PastEnd)
      (cond m.on (Ok (due m.cuts.now m.finished)) (Err (SupplyLost place)))

  -- the counters once a change has met its fate: a torn one uses up its cut and takes the supply with it, a finished one counts
  abbrev pub counted : Fate → Simulated C → Simulated C
  counted (Err fault) m = m
  counted (Ok (Some pattern)) m = record { bytes = m.bytes; cuts = later m.cuts; finished = 0; on = false; cells = m.cells }
  counted (Ok None) m =
      record { bytes = m.bytes; cuts = m.cuts; finished = one_more m.cuts.now m.finished; on = m.on; cells = m.cells }

  -- the same memory with other bytes in its caller's slice
  abbrev pub holding : List ℕ → Simulated C → Simulated C
  holding bytes m =
      record { bytes = at_last m.bytes bytes; cuts = m.cuts; finished = m.finished; on = m.on; cells = m.cells }

-- 512 bytes put in place from one up
abbrev pub put : List ℕ → ℕ → List ℕ → List ℕ
put bytes place segment = take place bytes ++ (segment ++ drop (place + 512) bytes)

-- what a write carries is a byte
abbrev pub CarriesAByte : Change → Type 0
CarriesAByte (write place byte) = byte < 256
CarriesAByte (erase segment) = Unit {0}

module _ (cells : Cells) where
  -- the bytes that a finished change leaves
  abbrev pub done : Change → List ℕ → List ℕ
  done (write place byte) bytes = slice_set bytes place (cells.mix (slice_index bytes place) byte)
  done (erase segment) bytes = put bytes (512 * segment) (replicate 512 0xFF)

  -- the bytes that a torn change leaves
  abbrev pub torn : (pattern : ℕ) → Change → List ℕ → List ℕ
  torn pattern (write place byte) bytes = slice_set bytes place (cells.torn_write pattern (slice_index bytes place) byte)
  torn pattern (erase segment) bytes =
      put bytes (512 * segment) (cells.torn_erase pattern (take 512 (drop (512 * segment) bytes)))

  module _ {C : Type 0} where
    -- a change, by its fate: the memory that it leaves, and how it ends
    abbrev pub met : Fate → Change → Simulated C → Simulated C × End
    met (Err fault) c m = (m, Err fault)
    met (Ok (Some pattern)) c m = (holding (torn pattern c m.bytes.now) (counted (Ok (Some pattern)) m), Err (SupplyLost (first c)))
    met (Ok None) c m = (holding (done c m.bytes.now) (counted (Ok None) m), Ok tt)

    abbrev pub changed : Change → Simulated C → Simulated C × End
    changed c m = met (fate (first c) (span c) m) c m

    -- changes in turn, until one is refused
    abbrev pub made : List Change → Simulated C → Simulated C × End
    made [] m = (m, Ok tt)
    made (c ∷ cs) m = elim (changed c m).1 [ Ok _ ↦ made cs (changed c m).0 | Err f ↦ ((changed c m).0, Err f) ]

    -- the supply is on again, and nothing else is new
    abbrev pub restored : Simulated C → Simulated C
    restored m = record { bytes = m.bytes; cuts = m.cuts; finished = m.finished; on = true; cells = m.cells }

    -- what is known of it
    abbrev pub known : Simulated C → State
    known m = record { bytes = view m.bytes.now; on = m.on; mix = cells.mix }

    -- the make of memory: its relations are equations, so that every change has one outcome
    abbrev pub simulated : Make (Simulated C)
    simulated = record {
      state = known;
      changes = λ c m n r. CarriesAByte c × ((n, r) ≡ changed c m);
      restores = λ m n. n ≡ restored m;
    }

-- every list of changes has one outcome, counters and all
abbrev pub Exact : Cells → Type 0 → Type 0
Exact cells C =
    (cs : List Change) (m n : Simulated C) (r : End) → Ran (simulated cells) cs m n r → (n, r) ≡ made cells cs m

-- a new one over the caller's bytes and cuts
pub record Fresh {C : Type 0} (bytes : MutBor (List ℕ)) (cuts : Bor (List Cut)) (m : Simulated C) : Type 0 where
  pub over : m.bytes ≡ bytes
  pub with : m.cuts ≡ cuts
  pub finished : m.finished ≡ 0
  pub on : m.on ≡ true
