-- Two lists passed together, up to the end of the shorter.
use Rattle.std.proofs.Common.{◌≡◌, ℕ, ◌≤◌, true, false, List, [], ◌∷◌, ◌++◌, length, take, drop, min, map, refl, sym, ap, ◌∙◌, arith, inl, inr}
use Rattle.std.proofs.lemmas.List.{take-append-drop, append-nil}
use Rattle.std.proofs.lemmas.Bool.{cases_lt}
use Rattle.std.proofs.Math.ListN.{drop_of_length-le}
use Rattle.sx_mean.specs.declared.apps.AppDevice.{AppDevice}
use Rattle.sx_mean.specs.declared.apps.Link.{Link}
use Rattle.sx_mean.specs.declared.apps.Part.{Part}
use Rattle.sx_mean.specs.View.{part_as}
use Rattle.sx_model.specs.State.{EndView, Reading, Standing}
use Rattle.sx_model.specs.Sendings.{to_send}
use Rattle.sx_model.specs.declared.sendings.Sending.{Sending}
use Rattle.sx_mean.specs.declared.events.End.{End}
use Rattle.sx_model.specs.Step.{absent_at, stale_at, is_undriven}
use Rattle.sx_model.specs.Renewal.{is_spent, raised_epochs}

-- a function of both that is known where one of them is at its end
at_end : {A B C : Type 0} → (F : List A → List B → C) (value : C) → ((ys : List B) → F [] ys ≡ value) → ((xs : List A) → F xs [] ≡ value) →
    (xs : List A) (ys : List B) (i : ℕ) → min (length xs) (length ys) ≤ i → F (drop i xs) (drop i ys) ≡ value
at_end F value left right xs ys i h =
    elim (cases_lt i (length xs)) [
      | inl lt ↦ let past : length ys ≤ i = omega arith in rw (drop_of_length-le ys past) (right (drop i xs))
      | inr past ↦ rw (drop_of_length-le xs past) (left (drop i ys))
    ]

-- a list that is changed up to there
changed_end : {A B : Type 0} → (F : List A → List B → List B) → ((ys : List B) → F [] ys ≡ ys) → ((xs : List A) → F xs [] ≡ []) →
    (xs : List A) (ys : List B) (i : ℕ) → min (length xs) (length ys) ≤ i → take i ys ++ F (drop i xs) (drop i ys) ≡ ys
changed_end F left right xs ys i h =
    elim (cases_lt i (length xs)) [
      | inl lt ↦
          let past : length ys ≤ i = omega arith in
          let none : drop i ys ≡ [] = drop_of_length-le ys past in
          ap (λ zs. take i ys ++ F (drop i xs) zs) none ∙ ap (λ zs. take i ys ++ zs) (right (drop i xs)) ∙ ap (λ zs. take i ys ++ zs) (sym none) ∙ take-append-drop i ys
      | inr past ↦ rw (drop_of_length-le xs past) (ap (λ zs. take i ys ++ zs) (left (drop i ys)) ∙ take-append-drop i ys)
    ]

undriven_nil : (parts : List Part) (d : ℕ) → is_undriven (map part_as parts) [] d ≡ true
undriven_nil [] d = refl
undriven_nil (q ∷ qs) d = refl

-- after the last part or the last module there is no driver
pub undriven_end : (parts : List Part) (xs : List Standing) (d i : ℕ) → min (length parts) (length xs) ≤ i →
    is_undriven (map part_as (drop i parts)) (drop i xs) d ≡ true
undriven_end parts xs d i h = at_end (λ qs ys. is_undriven (map part_as qs) ys d) true (λ ys. refl) (λ qs. undriven_nil qs d) parts xs i h

stale_nil : (n : ℕ) (ds : List AppDevice) → stale_at n ds [] ≡ []
stale_nil n [] = refl
stale_nil n (d ∷ ds) = refl

pub stale_end : (n : ℕ) (ds : List AppDevice) (rs : List Reading) (i : ℕ) → min (length ds) (length rs) ≤ i → take i rs ++ stale_at n (drop i ds) (drop i rs) ≡ rs
stale_end n ds rs i h = changed_end (stale_at n) (λ ys. refl) (stale_nil n) ds rs i h

absent_nil : (n : ℕ) (qs : List Part) → absent_at n (map part_as qs) [] ≡ []
absent_nil n [] = refl
absent_nil n (q ∷ qs) = refl

pub absent_end : (n : ℕ) (qs : List Part) (xs : List Standing) (i : ℕ) → min (length qs) (length xs) ≤ i → take i xs ++ absent_at n (map part_as (drop i qs)) (drop i xs) ≡ xs
absent_end n qs xs i h = changed_end (λ ps ys. absent_at n (map part_as ps) ys) (λ ys. refl) (absent_nil n) qs xs i h

raised_nil : (m : ℕ) (ls : List Link) → raised_epochs m ls [] ≡ []
raised_nil m [] = refl
raised_nil m (l ∷ ls) = refl

pub raised_end : (m : ℕ) (ls : List Link) (es : List ℕ) (i : ℕ) → min (length ls) (length es) ≤ i → take i es ++ raised_epochs m (drop i ls) (drop i es) ≡ es
raised_end m ls es i h = changed_end (raised_epochs m) (λ ys. refl) (raised_nil m) ls es i h

spent_nil : (m : ℕ) (ls : List Link) → is_spent m ls [] ≡ false
spent_nil m [] = refl
spent_nil m (l ∷ ls) = refl

pub spent_end : (m : ℕ) (ls : List Link) (es : List ℕ) (i : ℕ) → min (length ls) (length es) ≤ i → is_spent m (drop i ls) (drop i es) ≡ false
spent_end m ls es i h = at_end (is_spent m) false (λ ys. refl) (spent_nil m) ls es i h

to_send_nil : (es : List End) (output v : ℕ) → to_send es [] output v ≡ []
to_send_nil [] output v = refl
to_send_nil (e ∷ es) output v = refl

pub to_send_end : (before : List Sending) (es : List End) (views : List EndView) (output v i : ℕ) → min (length es) (length views) ≤ i →
    before ++ to_send (drop i es) (drop i views) output v ≡ before
to_send_end before es views output v i h =
    ap (λ xs. before ++ xs) (at_end (λ xs ys. to_send xs ys output v) [] (λ ys. refl) (λ xs. to_send_nil xs output v) es views i h) ∙ append-nil before
