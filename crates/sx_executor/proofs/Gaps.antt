-- A gap that the sections pass.
use Rattle.std.proofs.Common.{◌≡◌, ℕ, ◌+◌, ◌≤◌, ◌==◌, nat_lt, nat_le, Bool, true, false, ◌&&◌, ◌||◌, not, List, [], ◌∷◌, refl, sym, ◌∙◌, inl, inr, arith}
use Rattle.std.proofs.lemmas.Bool.{and_parts, and_from, or_cases, or_left, not_from_false, cond-false, leb-true, ltb-true, le-leb, lt-ltb}
use Rattle.std.specs.List.{list_all}
use Rattle.sx_rules.specs.declared.access.Access.{Access}
use Rattle.sx_rules.specs.declared.access.Access.TheVariants.{Read, Write, Run}
use Rattle.sx_rules.specs.declared.section.Section.{Section}
use Rattle.sx_rules.specs.Access.{may, allows, in_public, in_private, holder, outside_private, in_order, extends}
use Rattle.sx_rules.specs.Admission.{is_even}
use Rattle.spec_machine.specs.Memory.{even}
use Rattle.spec_machine.specs.Run.{may_at}
use Rattle.sx_executor.specs.declared.gap.Gap.{Gap}
use Rattle.sx_executor.specs.declared.gap.Gaps.{Gaps}
use Rattle.sx_executor.specs.Homes.{within}
use Rattle.sx_executor.specs.Gaps.{passes, within_deep, has_place, has_deep_place, IsApart, KeepsGap, KeepsGaps}
use Rattle.sx_executor.proofs.Homes.{low_byte, high_byte, not_both, none_within}
use Rattle.sx_executor.proofs.Rights.{all_weaker}

-- What one section says of a byte of the gap.

off_public : (g : Gap) (at : ℕ) → within g.from g.to at ≡ true → (s : Section) → passes g s ≡ true → not (in_public s at) ≡ true
off_public g at w s p = not_from_false _ (not_both g.from g.to s.layout.pub_from s.layout.pub_to at (and_parts _ _ p).0 w)

off_private : (g : Gap) (at : ℕ) → within g.from g.to at ≡ true → (s : Section) → passes g s ≡ true → not (in_private s at) ≡ true
off_private g at w s p = not_from_false _ (not_both g.from g.to s.layout.priv_from s.layout.priv_to at (and_parts _ _ p).1 w)

-- What all sections say.

reached : (g : Gap) (live : List Section) (at : ℕ) → list_all (passes g) live ≡ true → within g.from g.to at ≡ true → (own : ℕ) (access : Access)
    → may live own access at ≡ true
unfolding may
reached g live at a w own Read =
    all_weaker (passes g) (allows own Read at) (λ s p. or_left (not (in_private s at)) (own == s.id) (off_private g at w s p)) live a
reached g live at a w own Write =
    all_weaker (passes g) (allows own Write at)
    (λ s p. and_from _ _ (off_public g at w s p) (or_left (not (in_private s at)) (own == s.id) (off_private g at w s p))) live a
reached g live at a w own Run =
    all_weaker (passes g) (allows own Run at)
    (λ s p. and_from _ _ (off_private g at w s p) (or_left (not (in_public s at)) _ (off_public g at w s p))) live a

outside : (g : Gap) (live : List Section) (at : ℕ) → list_all (passes g) live ≡ true → within g.from g.to at ≡ true → outside_private live at ≡ true
outside g live at a w = all_weaker (passes g) (λ s. not (in_private s at)) (λ s p. off_private g at w s p) live a

ordered : (g : Gap) (live : List Section) (at : ℕ) → list_all (passes g) live ≡ true → within g.from g.to at ≡ true → (cur : ℕ) → in_order live cur at ≡ true
ordered g live at a w cur =
    all_weaker (passes g) (λ s. not (in_public s at) || (cur == s.id || at == s.layout.pub_from))
    (λ s p. or_left (not (in_public s at)) (cur == s.id || at == s.layout.pub_from) (off_public g at w s p)) live a

extended : (g : Gap) (live : List Section) (at : ℕ) → list_all (passes g) live ≡ true → within g.from g.to at ≡ true → (own : ℕ) → extends live own at ≡ true
extended g live at a w own =
    all_weaker (passes g) (λ s. not (in_private s at) && (not (in_public s at) || own == s.id))
    (λ s p. and_from _ _ (off_private g at w s p) (or_left (not (in_public s at)) (own == s.id) (off_public g at w s p))) live a

of_none : (g : Gap) (live : List Section) (at : ℕ) → list_all (passes g) live ≡ true → within g.from g.to at ≡ true → holder live at ≡ 0
of_none g [] at a w = refl
of_none g (s ∷ rest) at a w =
    let parts = and_parts (passes g s) (list_all (passes g) rest) a in
    let off = not_both g.from g.to s.layout.pub_from s.layout.pub_to at (and_parts _ _ parts.0).0 w in
    cond-false (in_public s at) s.id (holder rest at) off ∙ of_none g rest at parts.1 w

-- bounds that all sections pass are a gap's
pub keeps : (g : Gap) (live : List Section) → (is_even g.from && is_even g.to) ≡ true → list_all (passes g) live ≡ true → KeepsGap g live
keeps g live e a =
    let ends = and_parts (is_even g.from) (is_even g.to) e in
    record {
      places = λ at w.
          let low = low_byte g.from g.to at ends.0 w in
          let high = high_byte g.from g.to at ends.1 w in
          record {
            reached = λ own wide access. elim wide as (λ t. may_at t live own access at ≡ true) [
              | true ↦ and_from _ _ (reached g live (even at) a low own access) (reached g live (even at + 1) a high own access)
              | false ↦ reached g live at a w own access
            ];
            outside = and_from _ _ (outside g live (even at) a low) (outside g live (even at + 1) a high);
            ordered = ordered g live at a w;
            extended = λ own. and_from _ _ (extended g live (even at) a low own) (extended g live (even at + 1) a high own);
            of_none = of_none g live at a w;
          };
    }

-- bounds with no place between them
pub empty : (live : List Section) → KeepsGap (record { from = 0; to = 0 }) live
empty live = record { places = λ at w. absurd (none_within at w) }

-- a place that is known to be in one of two gaps
pub known : (g : Gaps) (live : List Section) (at : ℕ) (b : Bool) → KeepsGaps g live → b ≡ has_place g at → b ≡ true → IsApart live at
known g live at b k e t = elim (or_cases (within g.last.from g.last.to at) (within g.older.from g.older.to at) (sym e ∙ t)) [
  | inl w ↦ k.last.places at w
  | inr w ↦ k.older.places at w
]

deep_within : (from to at i : ℕ) → within_deep from to at ≡ true → i ≤ 5 → within from to (at + i) ≡ true
deep_within from to at i w small =
    let parts = and_parts (nat_le from at) (nat_lt (at + 5) to) w in
    let low = leb-true from at parts.0 in
    let high = ltb-true (at + 5) to parts.1 in
    and_from (nat_le from (at + i)) (nat_lt (at + i) to) (le-leb from (at + i) (omega arith)) (lt-ltb (at + i) to (omega arith))

-- places from one on that is known to be in one of two gaps with the five after it
pub known_deep : (g : Gaps) (live : List Section) (at : ℕ) (b : Bool) → KeepsGaps g live → b ≡ has_deep_place g at → b ≡ true
    → (i : ℕ) → i ≤ 5 → IsApart live (at + i)
known_deep g live at b k e t i small = elim (or_cases (within_deep g.last.from g.last.to at) (within_deep g.older.from g.older.to at) (sym e ∙ t)) [
  | inl w ↦ k.last.places (at + i) (deep_within g.last.from g.last.to at i w small)
  | inr w ↦ k.older.places (at + i) (deep_within g.older.from g.older.to at i w small)
]
