-- Bytes that are written two at a time.
use Rattle.std.proofs.Common.{◌≡◌, ◌+◌, ◌*◌, ◌/◌, ◌%◌, ◌<◌, ◌≤◌, ℕ, true, List, [], ◌∷◌, refl, subst, arith}
use Rattle.std.proofs.lemmas.Bool.{and_from}
use Rattle.sx_rules.specs.declared.access.Access.{Access}
use Rattle.sx_rules.specs.declared.section.Section.{Section}
use Rattle.sx_rules.specs.Access.{may}
use Rattle.spec_machine.specs.Memory.{even, put_bytes, put_word}
use Rattle.spec_machine.specs.Run.{may_at, may_range}
use Rattle.sx_executor.proofs.Reach.{all_open, each_open}

even_stays : (at : ℕ) → at % 2 ≡ 0 → even at ≡ at
even_stays at h = first_of (omega (arith, h), grind (arith, h))

-- the right to a word at an even address is that to its two bytes
pub right : (live : List Section) (own : ℕ) (access : Access) (at : ℕ) → at % 2 ≡ 0 → may_range live own access at 2 ≡ true
    → may_at true live own access at ≡ true
right live own access at e h =
    let low : may live own access (at + 0) ≡ true = each_open live own access at 2 0 h (omega arith) in
    let high : may live own access (at + 1) ≡ true = each_open live own access at 2 1 h (omega arith) in
    let same : at + 0 ≡ at = omega arith in
    rw (even_stays at e) (and_from (may live own access at) (may live own access (at + 1))
    (subst (λ (k : ℕ). may live own access k ≡ true) same low) high)

-- a word is its two bytes
pub put_pair : (mem : List ℕ) (at low high : ℕ) → at % 2 ≡ 0 → low < 256 → high < 256
    → put_word mem at (low + 256 * high) ≡ put_bytes mem at (low ∷ high ∷ [])
put_pair mem at low high e l h =
    let first : (low + 256 * high) % 256 ≡ low % 256 = first_of (omega (arith, l), grind (arith, l)) in
    let second : (low + 256 * high) / 256 ≡ high % 256 = first_of (omega (arith, l, h), grind (arith, l, h)) in
    rw (even_stays at e, first, second) refl

-- some bytes of a range that may be reached
pub part_open : (live : List Section) (own : ℕ) (access : Access) (at n i k : ℕ) → may_range live own access at n ≡ true → i + k ≤ n
    → may_range live own access (at + i) k ≡ true
part_open live own access at n i k h within =
    all_open live own access (at + i) k (λ j below.
    let e : at + (i + j) ≡ at + i + j = omega arith in
    subst (λ (p : ℕ). may live own access p ≡ true) e (each_open live own access at n (i + j) h (omega (arith, within, below))))
