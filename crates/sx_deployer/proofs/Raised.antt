-- The epochs that are raised, one after the other.
use Rattle.std.proofs.Common.{◌≡◌, ℕ, ◌+◌, ◌<◌, ◌≤◌, ◌==◌, ◌||◌, Bool, true, false, nat_le, if◌then◌else◌, List, [], ◌∷◌, ◌++◌, length, take, drop, drop-cons}
use Rattle.std.proofs.Common.{add-one, set, get_or, refl, sym, ap, subst, ◌∙◌, arith, append_assoc}
use Rattle.std.proofs.lemmas.Bool.{eqb-true, or_parts}
use Rattle.std.proofs.lemmas.Bool.Decides.{nat_tests}
use Rattle.std.proofs.lemmas.List.{take_more_set, take_all, append-nil}
use Rattle.std.proofs.Math.ListN.{drop_of_length-le}
use Rattle.sx_mean.specs.declared.events.End.{End}
use Rattle.sx_deployer.specs.Keeping.{has_link, is_spent, raised_from}

above : (a b : ℕ) → nat_le a b ≡ false → b < a
above a b h = grind (arith, nat_tests)

-- a connection that isn't spent has an epoch below the last
pub below_last : (es : List End) (epochs : List ℕ) (c : ℕ) → is_spent es epochs ≡ false → has_link es c ≡ true → get_or epochs c 0 < 255
below_last [] epochs c h g = absurd (cc)
below_last (e ∷ es) epochs c h g = go (e.link == c) refl g (below_last es epochs c (or_parts (nat_le 255 (get_or epochs e.link 0)) (is_spent es epochs) h).1)
  where
    go : (b : Bool) → (e.link == c) ≡ b → (b || has_link es c) ≡ true → (has_link es c ≡ true → get_or epochs c 0 < 255) → get_or epochs c 0 < 255
    go true same g rest =
        let P : ℕ → Type 0 = λ k. get_or epochs k 0 < 255 in
        subst P (eqb-true e.link c same) (above 255 (get_or epochs e.link 0) (or_parts (nat_le 255 (get_or epochs e.link 0)) (is_spent es epochs) h).0)
    go false same g rest = rest g

-- one more is raised
pub raised_more : (es : List End) (epochs next all : List ℕ) (i v : ℕ) → i < length epochs → i < length next
    → v ≡ (if has_link es i then get_or epochs i 0 + 1 else get_or epochs i 0)
    → take i next ++ raised_from i es (drop i epochs) ≡ all
    → take (i + 1) (set next i v) ++ raised_from (i + 1) es (drop (i + 1) epochs) ≡ all
raised_more es epochs next all i v h g is before =
    let rest = raised_from (i + 1) es (drop (i + 1) epochs) in
    let split : drop i epochs ≡ get_or epochs i 0 ∷ drop (i + 1) epochs =
    drop-cons epochs i 0 h ∙ ap (λ (n : ℕ). get_or epochs i 0 ∷ drop n epochs) (sym (add-one i)) in
    ap (λ (s : List ℕ). s ++ rest) (take_more_set next i v g)
    ∙ append_assoc (take i next) (v ∷ []) rest
    ∙ ap (λ w. take i next ++ (w ∷ rest)) is
    ∙ sym (ap (λ (s : List ℕ). take i next ++ raised_from i es s) split)
    ∙ before

-- all are raised
pub raised_all : (es : List End) (epochs next all : List ℕ) (i : ℕ) → length epochs ≤ i → length next ≤ i
    → take i next ++ raised_from i es (drop i epochs) ≡ all → next ≡ all
raised_all es epochs next all i h g is =
    sym (append-nil next) ∙ ap (λ (s : List ℕ). s ++ []) (sym (take_all i next g))
    ∙ ap (λ (s : List ℕ). take i next ++ raised_from i es s) (sym (drop_of_length-le epochs h))
    ∙ is
