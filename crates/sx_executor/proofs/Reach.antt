-- Ranges of bytes that may be reached.
use Rattle.std.proofs.Common.{◌≡◌, ◌<◌, ℕ, zero, suc, ◌+◌, Bool, true, false, ◌&&◌, List, [], ◌∷◌, length, inl, inr, refl, sym, ap, subst, ◌∙◌, arith}
use Rattle.std.proofs.lemmas.Bool.{and_parts, cases_lt, and_from, and_right}
use Rattle.sx_rules.specs.declared.access.Access.{Access}
use Rattle.sx_rules.specs.declared.section.Section.{Section}
use Rattle.sx_rules.specs.Access.{may}
use Rattle.spec_machine.specs.Run.{may_range, may_each}

pub and_swap : (a b c : Bool) → (a && (b && c)) ≡ (b && (a && c))
and_swap true true c = refl
and_swap true false c = refl
and_swap false true c = refl
and_swap false false c = refl

-- one byte that may not be reached
pub one_closed : (live : List Section) (own : ℕ) (access : Access) (at n i : ℕ) → i < n → may live own access (at + i) ≡ false
    → may_range live own access at n ≡ false
one_closed live own access at zero i h closed = absurd (omega arith)
one_closed live own access at (suc n) i h closed = grind (arith, and_right, one_closed live own access at n i)

-- each byte of a range that may be reached
pub each_open : (live : List Section) (own : ℕ) (access : Access) (at n i : ℕ) → may_range live own access at n ≡ true → i < n
    → may live own access (at + i) ≡ true
each_open live own access at zero i reached h = absurd (omega arith)
each_open live own access at (suc n) i reached h =
    let parts = and_parts (may live own access (at + n)) (may_range live own access at n) reached in
    elim (cases_lt i n) [
      | inl below ↦ each_open live own access at n i parts.1 below
      | inr last ↦
          let e : at + n ≡ at + i = omega arith in
          subst (λ (k : ℕ). may live own access k ≡ true) e parts.0
    ]

-- a range each of whose bytes may be reached
pub all_open : (live : List Section) (own : ℕ) (access : Access) (at n : ℕ) → ((i : ℕ) → i < n → may live own access (at + i) ≡ true)
    → may_range live own access at n ≡ true
all_open live own access at zero each = refl
all_open live own access at (suc n) each =
    and_from (may live own access (at + n)) (may_range live own access at n) (each n (omega arith))
    (all_open live own access at n (λ i h. each i (omega arith)))

-- the first byte, and those after it
first_and_rest : (live : List Section) (own : ℕ) (access : Access) (at n : ℕ)
    → may_range live own access at (suc n) ≡ (may live own access at && may_range live own access (at + 1) n)
first_and_rest live own access at zero =
    let e : at + 0 ≡ at = omega arith in
    ap (λ (k : ℕ). may live own access k && true) e
first_and_rest live own access at (suc n) =
    let first = may live own access at in
    let rest = may_range live own access (at + 1) n in
    let e : at + suc n ≡ at + 1 + n = omega arith in
    ap (λ (b : Bool). may live own access (at + suc n) && b) (first_and_rest live own access at n)
    ∙ and_swap (may live own access (at + suc n)) first rest
    ∙ ap (λ (k : ℕ). first && (may live own access k && rest)) e

pub each_in_range : (live : List Section) (own : ℕ) (access : Access) (at : ℕ) (bs : List ℕ)
    → may_each live own access at bs ≡ may_range live own access at (length bs)
each_in_range live own access at [] = refl
each_in_range live own access at (b ∷ bs) =
    ap (λ (rest : Bool). may live own access at && rest) (each_in_range live own access (at + 1) bs)
    ∙ sym (first_and_rest live own access at (length bs))
