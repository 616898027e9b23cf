-- Boxes of other lengths.
use Rattle.std.proofs.Common.{◌≡◌, ℕ, false, ◌&&◌, List, [], ◌∷◌, length, refl, arith}
use Rattle.std.specs.Prelude.{nat_le}
use Rattle.std.proofs.lemmas.Bool.{and_right}
use Rattle.sx_table.specs.Boxes.{Interval, box_has, box_within, within}

pub other_box : (is js : List Interval) → (length is ≡ length js → ⊥) → box_within is js ≡ false
other_box [] [] n = absurd (n refl)
other_box [] (j ∷ js) n = refl
other_box (i ∷ is) [] n = refl
other_box (i ∷ is) (j ∷ js) n = and_right (within i j) (box_within is js) (other_box is js (λ e. n (omega (arith, e))))

pub other_values : (is : List Interval) (vs : List ℕ) → (length is ≡ length vs → ⊥) → box_has is vs ≡ false
other_values [] [] n = absurd (n refl)
other_values [] (v ∷ vs) n = refl
other_values (i ∷ is) [] n = refl
other_values (i ∷ is) (v ∷ vs) n = and_right (nat_le i.low v && nat_le v i.high) (box_has is vs) (other_values is vs (λ e. n (omega (arith, e))))
