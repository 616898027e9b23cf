-- The runs of a text, one after the other.
use Rattle.std.proofs.Common.{◌≡◌, ℕ, suc, ◌+◌, Bool, true, false, List, [], ◌∷◌, take, drop, refl, sym, ap, ◌∙◌, arith}
use Rattle.sx_asm.specs.Tokens.{joins, onto, runs}
use Rattle.sx_asm.specs.Fronts.{run_front}

pub run_of : (a : ℕ) (bs : List ℕ) → runs (a ∷ bs) ≡ (a ∷ take (run_front a bs) bs) ∷ runs (drop (run_front a bs) bs)
run_of a [] = refl
run_of a (b ∷ bs) = by_test (joins a b) refl (run_of b bs)
  where
    by_test : (t : Bool) → joins a b ≡ t → runs (b ∷ bs) ≡ (b ∷ take (run_front b bs) bs) ∷ runs (drop (run_front b bs) bs)
        → runs (a ∷ b ∷ bs) ≡ (a ∷ take (run_front a (b ∷ bs)) (b ∷ bs)) ∷ runs (drop (run_front a (b ∷ bs)) (b ∷ bs))
    by_test true e ih = ap (onto a) ih ∙ (rw e refl)
    by_test false e ih = rw e (ap (onto a) ih ∙ (rw e (ap (λ (rest : List (List ℕ)). (a ∷ []) ∷ rest) (sym ih))))

pub first_run : (text : List ℕ) (a n : ℕ) (bs : List ℕ) → text ≡ a ∷ bs → n ≡ 1 + run_front a bs → runs text ≡ take n text ∷ runs (drop n text)
first_run text a n bs e f = let g : n ≡ suc (run_front a bs) = omega (arith, f) in rw (e, g) (run_of a bs)
