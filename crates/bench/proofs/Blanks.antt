-- A blank memory of a layout's size is commissioned.
use Rattle.std.proofs.Common.{◌≡◌, ℕ, ◌%◌, ◌≤◌, List, length, get_or, take, replicate, Ok, Err, Result, ap, ◌∙◌, arith}
use Rattle.std.proofs.lemmas.List.{length-replicate, length-take, get_or-replicate, get_or-map, get_or-take, take-replicate}
use Rattle.std.proofs.lemmas.Bool.Decides.{nat_tests}
use Rattle.image.specs.Check.{accepted}
use Rattle.image.specs.Sums.{ccitt_check}
use Rattle.layout.specs.Areas.{size as whole_size, mark}
use Rattle.layout.specs.declared.divided.Layout.{Layout}
use Rattle.models.specs.Cells.{Cells}
use Rattle.models.specs.Simulated.{simulated, known, view, room}
use Rattle.models.specs.Views.{length-view}
use Rattle.models.specs.declared.simulated.Cut.{Cut}
use Rattle.models.specs.declared.simulated.Simulated.{Simulated}
use Rattle.controller.specs.Machines.{tested}
use Rattle.controller.specs.Playing.{Run}
use Rattle.controller.specs.declared.Controller.{Controller}
use Rattle.words.specs.declared.Refusal.{Refusal}
use Rattle.words.specs.declared.Turn.{Turn}
use Rattle.words.specs.Outcomes.{Reply}
use Rattle.bench.specs.Told.{Blank, Benched}

-- a part of the largest blank memory
pub blank_part : (l : Layout) (largest n : ℕ) → 53760 ≤ largest → n ≡ whole_size l → ◌≡◌ {A = List ℕ} (take n (replicate largest 0xFF)) (replicate (whole_size l) 0xFF)
blank_part l largest n h is = rw is (take-replicate (whole_size l) largest 0xFF (omega (arith, l.most, l.few)))

-- all segments of a layout are in use
room_is : (l : Layout) (xs : List ℕ) → xs ≡ replicate (whole_size l) 0xFF → room xs ≡ whole_size l
room_is l xs is = omega (arith, ap length is ∙ length-replicate (whole_size l) 0xFF, l.most, l.few)

mark_is : (l : Layout) (xs : List ℕ) → xs ≡ replicate (whole_size l) 0xFF → mark (view xs) ≡ 0xFF
mark_is l xs is =
    let n : length xs ≡ whole_size l = ap length is ∙ length-replicate (whole_size l) 0xFF in
    let r : room xs ≡ whole_size l = room_is l xs is in
    get_or-map (λ byte. byte % 256) (take (room xs) xs) 0 0xFF 0xFF (simp length-take (omega arith))
    ∙ ap (λ byte. byte % 256) (get_or-take (room xs) xs 0 0xFF (omega arith) ∙ ap (λ ys. get_or ys 0 0xFF) is ∙ get_or-replicate (whole_size l) 0 0xFF 0xFF (omega arith))

module _ {C : Type 0} (cells : Cells) (l : Layout) (cuts : List Cut) (before after : List (Turn ℕ Reply)) (m n : Simulated C) (blank : Blank (whole_size l) cuts m) where
  accepted_layout : tested l (known cells m) ≡ Ok tt
  accepted_layout =
      let fits : length (view m.bytes.now) ≡ whole_size l = length-view m.bytes.now ∙ room_is l m.bytes.now blank.over in
      grind (arith, nat_tests, fits, mark_is l m.bytes.now blank.over)

  pub benched : (r : Result Controller Refusal) → Run (accepted ccitt_check) (simulated cells) l before after m n r → Benched cells C l cuts before after
  benched (Ok c) (commissioned, played) = record { memory = m; blank = blank; commissioned = commissioned; end = _; played = played }
  benched (Err e) (refused, _, _) = absurd (cc accepted_layout)
