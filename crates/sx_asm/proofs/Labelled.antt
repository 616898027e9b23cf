-- Labels by their names: what an index of the names says of them.
use Rattle.std.proofs.Common.{◌≡◌, ◌∙◌, ℕ, zero, suc, ◌+◌, Bool, true, false, not, ◌||◌, cond, nat_lt, if◌then◌else◌, List, [], ◌∷◌, length, map, take, Option, Some, None, refl, ap, sym, arith}
use Rattle.std.specs.Prelude.{slice_get}
use Rattle.std.specs.List.{list_any, position_or_len}
use Rattle.std.specs.Str.{bytes_eq}
use Rattle.std.proofs.lemmas.Bool.Decides.{nat_tests}
use Rattle.sx_index.specs.Places.{place_of}
use Rattle.sx_asm.specs.declared.written.Label.{Label}
use Rattle.sx_asm.specs.Meaning.{address_of, is_label}

abbrev pub names : List Label → List (List ℕ)
names labels = map (λ label. label.name) labels

pub labelled : (labels : List Label) (name : List ℕ) → list_any (λ n. bytes_eq n name) (names labels) ≡ is_label labels name
labelled [] name = refl
labelled (l ∷ ls) name = ap (λ b. bytes_eq l.name name || b) (labelled ls name)

pub names_take : (count : ℕ) (labels : List Label) → take count (names labels) ≡ names (take count labels)
names_take zero labels = refl
names_take (suc n) [] = refl
names_take (suc n) (l ∷ ls) = ap (λ ns. l.name ∷ ns) (names_take n ls)

-- the address of the label at a place, 0 where there is none
abbrev pub address_at : Option Label → ℕ
address_at None = 0
address_at (Some l) = l.address

shifted : (n l m : ℕ) → m ≡ l + 1 → nat_lt (1 + n) m ≡ nat_lt n l
shifted n l m e = grind (arith, nat_tests)

starts : (l m : ℕ) → m ≡ l + 1 → nat_lt 0 m ≡ true
starts l m e = grind (arith, nat_tests)

at_next : (l : Label) (ls : List Label) (n : ℕ) → slice_get (l ∷ ls) (1 + n) ≡ slice_get ls n
at_next l ls n = let next : 1 + n ≡ suc n = omega arith in ap (λ (i : ℕ). slice_get (l ∷ ls) i) next

-- the label at the place that a list gives its name has the address of the first one of the name
pub addressed : (labels : List Label) (name : List ℕ) → address_of labels name
    ≡ cond (nat_lt (position_or_len (λ n. bytes_eq n name) (names labels)) (length (names labels))) (address_at (slice_get labels (position_or_len (λ n. bytes_eq n name) (names labels)))) 0
addressed [] name = refl
addressed (l ∷ ls) name = go (bytes_eq l.name name) refl (addressed ls name)
  where
    go : (t : Bool) → bytes_eq l.name name ≡ t
        → address_of ls name ≡ cond (nat_lt (position_or_len (λ n. bytes_eq n name) (names ls)) (length (names ls))) (address_at (slice_get ls (position_or_len (λ n. bytes_eq n name) (names ls)))) 0
        → (if t then l.address else address_of ls name)
        ≡ cond (nat_lt (cond (not t) (1 + position_or_len (λ n. bytes_eq n name) (names ls)) 0) (length (names (l ∷ ls))))
        (address_at (slice_get (l ∷ ls) (cond (not t) (1 + position_or_len (λ n. bytes_eq n name) (names ls)) 0))) 0
    go true e h = sym (ap (λ (b : Bool). cond b l.address 0) (starts (length (names ls)) (length (names (l ∷ ls))) (omega arith)))
    go false e h =
        h
        ∙ sym (ap (λ (b : Bool). cond b (address_at (slice_get ls (position_or_len (λ n. bytes_eq n name) (names ls)))) 0)
        (shifted (position_or_len (λ n. bytes_eq n name) (names ls)) (length (names ls)) (length (names (l ∷ ls))) (omega arith)))
        ∙ sym (ap (λ (o : Option Label). cond (nat_lt (1 + position_or_len (λ n. bytes_eq n name) (names ls)) (length (names (l ∷ ls)))) (address_at o) 0)
        (at_next l ls (position_or_len (λ n. bytes_eq n name) (names ls))))

module _ (labels : List Label) (name : List ℕ) where
  abbrev first : ℕ
  first = position_or_len (λ n. bytes_eq n name) (names labels)

  pub addressed_at : (place : ℕ) → place_of (names labels) name ≡ Some place → address_at (slice_get labels place) ≡ address_of labels name
  addressed_at place h = go (nat_lt first (length (names labels))) refl h ∙ sym (addressed labels name)
    where
      go : (t : Bool) → nat_lt first (length (names labels)) ≡ t → cond t (Some first) None ≡ Some place
          → address_at (slice_get labels place) ≡ cond (nat_lt first (length (names labels))) (address_at (slice_get labels first)) 0
      go false e h = absurd (cc)
      go true e h =
          let at : place ≡ first = cc in
          ap (λ n. address_at (slice_get labels n)) at ∙ sym (ap (λ (b : Bool). cond b (address_at (slice_get labels first)) 0) e)

  pub addressed_nowhere : place_of (names labels) name ≡ None → 0 ≡ address_of labels name
  addressed_nowhere h = go (nat_lt first (length (names labels))) refl h ∙ sym (addressed labels name)
    where
      go : (t : Bool) → nat_lt first (length (names labels)) ≡ t → cond t (Some first) None ≡ None → 0 ≡ cond (nat_lt first (length (names labels))) (address_at (slice_get labels first)) 0
      go true e h = absurd (cc)
      go false e h = sym (ap (λ (b : Bool). cond b (address_at (slice_get labels first)) 0) e)
