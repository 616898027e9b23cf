-- Words that are sent, and taken back.
use Rattle.std.proofs.Common.{◌≡◌, ℕ, zero, suc, ◌-◌, ◌<◌, ◌≤◌, inl, inr, Bool, true, false, List, [], ◌∷◌, ◌++◌, length, take, Some, None, slice_get, get_or}
use Rattle.std.proofs.Common.{set, nat_lt, if◌then◌else◌, refl, sym, ap, ◌∙◌, arith}
use Rattle.std.proofs.lemmas.Option.{slice_get_past, slice_get_read, slice_get_cases, slice_get-get_or}
use Rattle.std.proofs.lemmas.List.{set-get_or, get_or-set_same, length_push}
use Rattle.std.proofs.Math.Seq.{take-append_seam}
use Rattle.std.proofs.Math.ListN.{length-set}
use Rattle.sx_model.specs.declared.sendings.Sending.{Sending}
use Rattle.sx_model.specs.Sendings.{has_room, sent_one, without_last}

-- a word is put after those at its field, if there is room
put : (ss : List (List ℕ)) (f v : ℕ) (ws : List ℕ) (b : Bool) → ws ≡ get_or ss f ws →
    set ss f (if b then ws ++ v ∷ [] else ws) ≡ (if b then set ss f (ws ++ v ∷ []) else ss)
put ss f v ws true e = refl
put ss f v ws false e = ap (λ ys. set ss f ys) e ∙ set-get_or ss f ws

pub word_sent : (ss : List (List ℕ)) (x : Sending) (ws new : List ℕ) → x.field < length ss → ws ≡ get_or ss x.field ws →
    new ≡ (if nat_lt (length ws) 65535 then ws ++ x.value ∷ [] else ws) → set ss x.field new ≡ sent_one x ss
word_sent ss x ws new within e is =
    rw (slice_get_read ss (length ss) x.field ws refl within e) (ap (λ ys. set ss x.field ys) is ∙ put ss x.field x.value ws (nat_lt (length ws) 65535) e)

pub word_answered : (ss : List (List ℕ)) (f : ℕ) (ws : List ℕ) (b : Bool) → f < length ss → ws ≡ get_or ss f ws → b ≡ nat_lt (length ws) 65535 →
    b ≡ has_room (slice_get ss f)
word_answered ss f ws b within e is = is ∙ rw (slice_get_read ss (length ss) f ws refl within e) refl

pub no_field : (ss : List (List ℕ)) (f : ℕ) → length ss ≤ f → slice_get ss f ≡ None
no_field ss f past = slice_get_past ss f past

pub word_taken : (ss : List (List ℕ)) (f : ℕ) (ws new : List ℕ) → f < length ss → ws ≡ get_or ss f ws → new ≡ take (length ws - 1) ws →
    set ss f new ≡ without_last f (slice_get ss f) ss
word_taken ss f ws new within e is = rw (slice_get_read ss (length ss) f ws refl within e) (ap (λ ys. set ss f ys) is)

-- a word that was sent is taken back

set_again : {A : Type 0} → (xs : List A) (i : ℕ) (a b : A) → set (set xs i a) i b ≡ set xs i b
set_again [] i a b = refl
set_again (x ∷ xs) zero a b = refl
set_again (x ∷ xs) (suc i) a b = ap (λ ys. x ∷ ys) (set_again xs i a b)

without_push : (ws : List ℕ) (v : ℕ) → take (length (ws ++ v ∷ []) - 1) (ws ++ v ∷ []) ≡ ws
without_push ws v =
    let n : length (ws ++ v ∷ []) - 1 ≡ length ws = omega (arith, length_push ws v) in
    ap (λ k. take k (ws ++ v ∷ [])) n ∙ take-append_seam ws (v ∷ [])

back : (ss : List (List ℕ)) (f v : ℕ) (ws : List ℕ) → f < length ss → ws ≡ get_or ss f ws →
    without_last f (slice_get (set ss f (ws ++ v ∷ [])) f) (set ss f (ws ++ v ∷ [])) ≡ ss
back ss f v ws within e =
    let put = ws ++ v ∷ [] in
    let there : slice_get (set ss f put) f ≡ Some put =
    slice_get-get_or (set ss f put) f ws (omega (arith, length-set ss f put)) ∙ ap (λ y. Some y) (get_or-set_same ss f put ws within) in
    rw (there, without_push ws v, set_again ss f put ws) (ap (λ ys. set ss f ys) e ∙ set-get_or ss f ws)

pub taken_back : (ss : List (List ℕ)) (x : Sending) → has_room (slice_get ss x.field) ≡ true →
    without_last x.field (slice_get (sent_one x ss) x.field) (sent_one x ss) ≡ ss
taken_back ss x h =
    elim (slice_get_cases ss x.field).1 [
      | inl w ↦
          let room : nat_lt (length w.0) 65535 ≡ true = rw w.2 at h in
          let is : sent_one x ss ≡ set ss x.field (w.0 ++ x.value ∷ []) = rw (w.2, room) refl in
          rw is (back ss x.field x.value w.0 w.1 (sym w.3))
      | inr w ↦ absurd (let none : false ≡ true = rw w.1 at h in cc)
    ]

pub no_room : (ss : List (List ℕ)) (x : Sending) → has_room (slice_get ss x.field) ≡ false → sent_one x ss ≡ ss
no_room ss x h =
    elim (slice_get_cases ss x.field).1 [
      | inl w ↦
          let full : nat_lt (length w.0) 65535 ≡ false = rw w.2 at h in
          rw (w.2, full) refl
      | inr w ↦ rw w.1 refl
    ]
