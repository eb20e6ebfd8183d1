-- Proof: what is known of a simulated memory's bytes, after a change too.
use Rattle.std.specs.Prelude.{◌≡◌, ℕ, ◌+◌, ◌-◌, ◌*◌, ◌/◌, ◌%◌, ◌<◌, ◌≤◌, min, List, ◌++◌, length, get_or, take, drop, slice_index, slice_index_or}
use Rattle.std.proofs.Common.{ap, ◌∙◌, ⊎_elim, arith, length-take, length-append, length-drop}
use Rattle.std.proofs.lemmas.List.{get_or_past, get_or-map, get_or-take, length-take-le, get_or_append_left, get_or-append_right, get_or-drop, length-map}
use Rattle.std.proofs.lemmas.Bool.{cases_lt}
use Rattle.models.specs.Simulated.{room, view, put}

pub room_within : (bytes : List ℕ) → room bytes ≤ length bytes
room_within bytes = omega arith

pub room_same : (xs ys : List ℕ) → length ys ≡ length xs → room ys ≡ room xs
room_same xs ys e = ap (λ n. 512 * min 105 (n / 512)) e

pub length-view : (bytes : List ℕ) → length (view bytes) ≡ room bytes
length-view bytes = length-map (take (room bytes) bytes) (λ byte. byte % 256) ∙ length-take-le (room bytes) bytes (room_within bytes)

pub get_or-view : (bytes : List ℕ) (place d : ℕ) → place < room bytes → slice_index_or (view bytes) place d ≡ slice_index bytes place % 256
get_or-view bytes place d h =
    get_or-map (λ byte. byte % 256) (take (room bytes) bytes) place 0 d (rw (length-take-le (room bytes) bytes (room_within bytes)) h)
    ∙ ap (λ byte. byte % 256) (get_or-take (room bytes) bytes place 0 h)

pub get_or-view_past : (bytes : List ℕ) (place : ℕ) → room bytes ≤ place → slice_index_or (view bytes) place 0xFF ≡ 0xFF
get_or-view_past bytes place h = get_or_past (view bytes) place 0xFF (rw (length-view bytes) h)

pub view_bytes : (bytes : List ℕ) (place : ℕ) → slice_index_or (view bytes) place 0xFF < 256
view_bytes bytes place =
    ⊎_elim
    (λ h. rw (get_or-view bytes place 0xFF h) (omega arith))
    (λ h. rw (get_or-view_past bytes place h) (omega arith))
    (cases_lt place (room bytes))

-- 512 bytes put in place
pub length-put : (bytes : List ℕ) (place : ℕ) (segment : List ℕ) → place + 512 ≤ length bytes → length segment ≡ 512
    → length (put bytes place segment) ≡ length bytes
length-put bytes place segment h e = simp (length-append, length-take, length-drop) (omega arith)

module _ (bytes : List ℕ) (place : ℕ) (segment : List ℕ) (fits : place + 512 ≤ length bytes) (long : length segment ≡ 512) (d q : ℕ) where
  front : length (take place bytes) ≡ place
  front = length-take-le place bytes (omega arith)

  pub get_or-put_below : q < place → slice_index_or (put bytes place segment) q d ≡ slice_index_or bytes q d
  get_or-put_below h =
      get_or_append_left (take place bytes) (segment ++ drop (place + 512) bytes) d q (rw front h) ∙ get_or-take place bytes q d h

  pub get_or-put_here : place ≤ q → q < place + 512 → slice_index_or (put bytes place segment) q d ≡ slice_index_or segment (q - place) d
  get_or-put_here h u =
      get_or-append_right (take place bytes) (segment ++ drop (place + 512) bytes) place q d front h
      ∙ get_or_append_left segment (drop (place + 512) bytes) d (q - place) (omega arith)

  pub get_or-put_above : place + 512 ≤ q → slice_index_or (put bytes place segment) q d ≡ slice_index_or bytes q d
  get_or-put_above h =
      let same : place + 512 + (q - place - 512) ≡ q = omega arith in
      get_or-append_right (take place bytes) (segment ++ drop (place + 512) bytes) place q d front (omega arith)
      ∙ get_or-append_right segment (drop (place + 512) bytes) 512 (q - place) d long (omega arith)
      ∙ get_or-drop (place + 512) bytes (q - place - 512) d
      ∙ ap (λ i. get_or bytes i d) same
