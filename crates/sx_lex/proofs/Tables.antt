-- A table that is read in two parts.
use Rattle.std.proofs.Common.{◌≡◌, ℕ, Bool, true, false, List, [], ◌∷◌, ◌++◌, Some, None, nat_eq, if◌then◌else◌, refl}
use Rattle.std.specs.Cmp.Lexicographic.{pointwise}
use Rattle.sx_lex.specs.declared.tokens.Kind.{Kind}
use Rattle.sx_lex.specs.Words.{found_in}

pub found_first : (table others : List (List ℕ × Kind)) (w : List ℕ) (k : Kind) → found_in table w ≡ Some k
    → found_in (table ++ others) w ≡ Some k
found_first [] others w k h = absurd (cc)
found_first (q ∷ table) others w k h = by_test (pointwise nat_eq w q.0) h (found_first table others w k)
  where
    by_test : (b : Bool) → (if b then Some q.1 else found_in table w) ≡ Some k
        → (found_in table w ≡ Some k → found_in (table ++ others) w ≡ Some k)
        → (if b then Some q.1 else found_in (table ++ others) w) ≡ Some k
    by_test true h later = h
    by_test false h later = later h

pub found_later : (table others : List (List ℕ × Kind)) (w : List ℕ) → found_in table w ≡ None
    → found_in (table ++ others) w ≡ found_in others w
found_later [] others w h = refl
found_later (q ∷ table) others w h = by_test (pointwise nat_eq w q.0) h (found_later table others w)
  where
    by_test : (b : Bool) → (if b then Some q.1 else found_in table w) ≡ None
        → (found_in table w ≡ None → found_in (table ++ others) w ≡ found_in others w)
        → (if b then Some q.1 else found_in (table ++ others) w) ≡ found_in others w
    by_test true h later = absurd (cc)
    by_test false h later = later h
