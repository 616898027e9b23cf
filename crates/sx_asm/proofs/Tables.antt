-- A table that is read in parts.
use Rattle.std.proofs.Common.{◌≡◌, ℕ, Bool, true, false, List, [], ◌∷◌, ◌++◌, Some, None, if◌then◌else◌, refl}
use Rattle.std.specs.Prelude.{bytes_eq}
use Rattle.sx_asm.specs.declared.written.Token.{Token}
use Rattle.sx_asm.specs.Words.{Table}
use Rattle.sx_asm.specs.Tokens.{found_in}

pub found_first : (table others : Table) (w : List ℕ) (t : Token) → found_in table w ≡ Some t → found_in (table ++ others) w ≡ Some t
found_first [] others w t h = absurd (cc)
found_first (entry ∷ table) others w t h = by_test (bytes_eq w entry.0) h (found_first table others w t)
  where
    by_test : (b : Bool) → (if b then Some entry.1 else found_in table w) ≡ Some t
        → (found_in table w ≡ Some t → found_in (table ++ others) w ≡ Some t)
        → (if b then Some entry.1 else found_in (table ++ others) w) ≡ Some t
    by_test true h later = h
    by_test false h later = later h

pub found_later : (table others : Table) (w : List ℕ) → found_in table w ≡ None → found_in (table ++ others) w ≡ found_in others w
found_later [] others w h = refl
found_later (entry ∷ table) others w h = by_test (bytes_eq w entry.0) h (found_later table others w)
  where
    by_test : (b : Bool) → (if b then Some entry.1 else found_in table w) ≡ None
        → (found_in table w ≡ None → found_in (table ++ others) w ≡ found_in others w)
        → (if b then Some entry.1 else found_in (table ++ others) w) ≡ found_in others w
    by_test true h later = absurd (cc)
    by_test false h later = later h
