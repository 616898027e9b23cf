-- The locals of a source state, where they are in their slots.
use Rattle.std.specs.Prelude.{unwrap_or}
use Rattle.std.proofs.Common.{◌≡◌, ℕ, suc, ◌+◌, ◌*◌, ◌<◌, Bool, true, false, not, cond, if◌then◌else◌, List, [], ◌∷◌, length, Some, nat_lt, sym, ap, ◌∙◌, arith}
use Rattle.std.proofs.lemmas.Bool.{ltb-true}
use Rattle.sx_check.specs.Names.{same}
use Rattle.sx_mean.specs.declared.moments.Local.{Local}
use Rattle.sx_mean.specs.Meaning.{look_up}
use Rattle.sx_mean.specs.Scope.{index_of, names_of}
use Rattle.spec_machine.specs.Memory as memory
use Rattle.sx_lower.proofs.Slots.{InSlots}
use Rattle.lemmas.proofs.Numbers.{less_by_one}

-- a local in scope is found in its slot
pub look_at : (ls : List Local) (priv : List ℕ) (at : ℕ) (x : List ℕ) → InSlots priv at ls → nat_lt (index_of (names_of ls) x) (length (names_of ls)) ≡ true
    → look_up ls x ≡ Some (memory.word priv (at + 2 * index_of (names_of ls) x))
look_at [] priv at x s h = let l = ltb-true 0 0 h in absurd (omega (arith, l))
look_at (l ∷ ls) priv at x s h = go (same x l.name) h (look_at ls priv (at + 2) x s.2)
  where
    go : (t : Bool) → nat_lt (cond (not t) (1 + index_of (names_of ls) x) 0) (suc (length (names_of ls))) ≡ true
        → (nat_lt (index_of (names_of ls) x) (length (names_of ls)) ≡ true → look_up ls x ≡ Some (memory.word priv (at + 2 + 2 * index_of (names_of ls) x)))
        → (if t then Some l.value else look_up ls x) ≡ Some (memory.word priv (at + 2 * cond (not t) (1 + index_of (names_of ls) x) 0))
    go true h more = let e : at ≡ at + 2 * 0 = omega arith in ap Some (sym s.0 ∙ ap (memory.word priv) e)
    go false h more =
        let e : at + 2 + 2 * index_of (names_of ls) x ≡ at + 2 * (1 + index_of (names_of ls) x) = omega arith in
        more (sym (less_by_one (index_of (names_of ls) x) (length (names_of ls))) ∙ h) ∙ ap (λ n. Some (memory.word priv n)) e

-- the value that is found is a word
pub found_word : (ls : List Local) (priv : List ℕ) (at : ℕ) (x : List ℕ) (c : ℕ) → InSlots priv at ls → c < 65536 → unwrap_or (look_up ls x) c < 65536
found_word [] priv at x c s h = h
found_word (l ∷ ls) priv at x c s h = go (same x l.name) (found_word ls priv (at + 2) x c s.2 h)
  where
    go : (t : Bool) → unwrap_or (look_up ls x) c < 65536 → unwrap_or (if t then Some l.value else look_up ls x) c < 65536
    go true more = s.1
    go false more = more
