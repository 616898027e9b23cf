-- The sections of a table stay placed, and what placed sections are to one another.
use Rattle.std.proofs.Common.{◌≡◌, ◌≢◌, ℕ, ◌+◌, ◌≤◌, true, false, ◌&&◌, cond, nat_lt, nat_le, ◌==◌, List, [], ◌∷◌, ◌++◌, length, Some, None, inl, inr, refl, sym, ◌∙◌, ap, subst, arith, length-append}
use Rattle.std.specs.List.{list_all}
use Rattle.std.proofs.lemmas.Bool.{ltb-true, leb-true, eq-eqb, eqb-true, ne_eqb, and_parts, and_from, or_cases, or_left, or_right, cond-true, cond-false}
use Rattle.sx_rules.specs.declared.section.Section.{Section}
use Rattle.sx_rules.specs.Access.{Lives, section_of, in_public, holder}
use Rattle.sx_rules.specs.Admission.{apart, clear_of, without}
use Rattle.sx_rules.specs.Placed.{Sound, Beside, AllSound, BesideAll, AllBeside}
use Rattle.sx_rules.specs.Laws.{StartsPlaced, AdmitKeepsPlaced, RemoveKeepsPlaced, RemoveRemoves, PlacedBeside, PlacedFound, PlacedHolds}
use Rattle.sx_rules.proofs.Admits.{admits}

-- Meeting is symmetric.

pub apart-swap : (a b c d : ℕ) → apart a b c d ≡ true → apart c d a b ≡ true
apart-swap a b c d h = elim (or_cases (nat_le b c) (nat_le d a) h) [
  | inl e ↦ or_right (nat_le d a) (nat_le b c) e
  | inr e ↦ or_left (nat_le d a) (nat_le b c) e
]

clear_of-swap : (s u : Section) → clear_of s.layout u ≡ true → clear_of u.layout s ≡ true
clear_of-swap s u h =
    let first = and_parts _ _ h in
    let second = and_parts _ _ first.1 in
    let third = and_parts _ _ second.1 in
    and_from _ _ (apart-swap s.layout.pub_from s.layout.pub_to u.layout.pub_from u.layout.pub_to first.0)
    (and_from _ _ (apart-swap s.layout.priv_from s.layout.priv_to u.layout.pub_from u.layout.pub_to third.0)
    (and_from _ _ (apart-swap s.layout.pub_from s.layout.pub_to u.layout.priv_from u.layout.priv_to second.0)
    (apart-swap s.layout.priv_from s.layout.priv_to u.layout.priv_from u.layout.priv_to third.1)))

Beside-swap : (s u : Section) → Beside s u → Beside u s
Beside-swap s u h = record { parts = clear_of-swap s u h.parts; ids = λ e. h.ids (sym e) }

-- Admission.

sound_later : (next : ℕ) (s : Section) → Sound next s → Sound (next + 1) s
sound_later next s h = record { bounds = h.bounds; parts = h.parts; given = h.given; below = omega arith }

all_sound_push : (next : ℕ) (live : List Section) (s : Section) → AllSound next live → Sound (next + 1) s → AllSound (next + 1) (live ++ s ∷ [])
all_sound_push next [] s a h = (h, tt)
all_sound_push next (u ∷ rest) s a h = (sound_later next u a.0, all_sound_push next rest s a.1 h)

beside_all_push : (u : Section) (live : List Section) (s : Section) → BesideAll u live → Beside u s → BesideAll u (live ++ s ∷ [])
beside_all_push u [] s a h = (h, tt)
beside_all_push u (x ∷ rest) s a h = (a.0, beside_all_push u rest s a.1 h)

all_beside_push : (live : List Section) (s : Section) → AllSound s.id live → AllBeside live → list_all (clear_of s.layout) live ≡ true → AllBeside (live ++ s ∷ [])
all_beside_push [] s a b c = (tt, tt)
all_beside_push (u ∷ rest) s a b c =
    let ids : u.id ≢ s.id = λ e. omega (arith, a.0.below) in
    let clear = and_parts _ _ c in
    (beside_all_push u rest s b.0 (record { parts = clear_of-swap s u clear.0; ids = ids }), all_beside_push rest s a.1 b.1 clear.1)

pub starts_placed : StartsPlaced
starts_placed = record { each = tt; pairs = tt; first = omega arith; last = omega arith; room = omega arith }

pub admit_keeps_placed : AdmitKeepsPlaced
admit_keeps_placed t layout provider key places p h =
    let admission = admits t layout places h in
    let clear = and_parts _ _ admission.overlap in
    let s : Section = record { layout = layout; provider = provider; id = t.next; key = key } in
    record {
      each = all_sound_push t.next t.live s p.each (record { bounds = admission.bounds; parts = clear.0; given = p.first; below = omega arith });
      pairs = all_beside_push t.live s p.each p.pairs clear.1;
      first = omega (arith, p.first);
      last = omega (arith, admission.ids);
      room = omega (arith, admission.room, length-append t.live (s ∷ []));
    }

-- Removal.

all_sound_without : (next : ℕ) (live : List Section) (id : ℕ) → AllSound next live → AllSound next (without live id)
all_sound_without next [] id a = tt
all_sound_without next (s ∷ rest) id a =
    elim (s.id == id) as (λ b. AllSound next (cond b rest (s ∷ without rest id))) [ true ↦ a.1 | false ↦ (a.0, all_sound_without next rest id a.1) ]

beside_all_without : (u : Section) (live : List Section) (id : ℕ) → BesideAll u live → BesideAll u (without live id)
beside_all_without u [] id a = tt
beside_all_without u (s ∷ rest) id a =
    elim (s.id == id) as (λ b. BesideAll u (cond b rest (s ∷ without rest id))) [ true ↦ a.1 | false ↦ (a.0, beside_all_without u rest id a.1) ]

all_beside_without : (live : List Section) (id : ℕ) → AllBeside live → AllBeside (without live id)
all_beside_without [] id a = tt
all_beside_without (s ∷ rest) id a =
    elim (s.id == id) as (λ b. AllBeside (cond b rest (s ∷ without rest id)))
    [ true ↦ a.1 | false ↦ (beside_all_without s rest id a.0, all_beside_without rest id a.1) ]

length_without : (live : List Section) (id : ℕ) → length (without live id) ≤ length live
length_without [] id = omega arith
length_without (s ∷ rest) id =
    elim (s.id == id) as (λ b. length (cond b rest (s ∷ without rest id)) ≤ length (s ∷ rest))
    [ true ↦ omega arith | false ↦ omega (arith, length_without rest id) ]

pub remove_keeps_placed : RemoveKeepsPlaced
remove_keeps_placed t id p = record {
  each = all_sound_without t.next t.live id p.each;
  pairs = all_beside_without t.live id p.pairs;
  first = p.first;
  last = p.last;
  room = omega (arith, p.room, length_without t.live id);
}

none_beside : (s : Section) (live : List Section) (id : ℕ) → BesideAll s live → s.id ≡ id → section_of live id ≡ None
none_beside s [] id a q = refl
none_beside s (u ∷ rest) id a q =
    cond-false (u.id == id) (Some u) (section_of rest id) (ne_eqb u.id id (λ e. a.0.ids (q ∙ sym e))) ∙ none_beside s rest id a.1 q

removes : (live : List Section) (id : ℕ) → AllBeside live → section_of (without live id) id ≡ None
removes [] id a = refl
removes (s ∷ rest) id a =
    elim (s.id == id) as (λ b. (s.id == id) ≡ b → section_of (cond b rest (s ∷ without rest id)) id ≡ None) [
      | true ↦ λ e. none_beside s rest id a.0 (eqb-true s.id id e)
      | false ↦ λ e. cond-false (s.id == id) (Some s) (section_of (without rest id) id) e ∙ removes rest id a.1
    ] refl

pub remove_removes : RemoveRemoves
remove_removes t id p = removes t.live id p.pairs

-- Two live sections.

beside_live : (x : Section) (live : List Section) (u : Section) → BesideAll x live → Lives live u → Beside x u
beside_live x [] u a l = absurd l
beside_live x (y ∷ rest) u a l = elim l [ inl e ↦ subst (Beside x) e a.0 | inr r ↦ beside_live x rest u a.1 r ]

live_beside : (live : List Section) (s u : Section) → AllBeside live → Lives live s → Lives live u → s.id ≢ u.id → Beside s u
live_beside [] s u a ls lu ne = absurd ls
live_beside (x ∷ rest) s u a ls lu ne = elim ls [
  | inl e ↦ elim lu [
    | inl f ↦ absurd (ne (ap (λ (z : Section). z.id) (sym e ∙ f)))
    | inr r ↦ subst (λ (z : Section). Beside z u) e (beside_live x rest u a.0 r)
  ]
  | inr r ↦ elim lu [
    | inl f ↦ Beside-swap u s (subst (λ (z : Section). Beside z s) f (beside_live x rest s a.0 r))
    | inr q ↦ live_beside rest s u a.1 r q ne
  ]
]

pub placed_beside : PlacedBeside
placed_beside t s u p ls lu ne = live_beside t.live s u p.pairs ls lu ne

found : (live : List Section) (s : Section) → AllBeside live → Lives live s → section_of live s.id ≡ Some s
found [] s a l = absurd l
found (x ∷ rest) s a l = elim l [
  | inl e ↦ cond-true (x.id == s.id) (Some x) (section_of rest s.id) (eq-eqb x.id s.id (ap (λ (z : Section). z.id) e)) ∙ ap (λ (z : Section). Some z) e
  | inr r ↦ cond-false (x.id == s.id) (Some x) (section_of rest s.id) (ne_eqb x.id s.id (beside_live x rest s a.0 r).ids) ∙ found rest s a.1 r
]

pub placed_found : PlacedFound
placed_found t s p l = found t.live s p.pairs l

not_both : (a b c d at : ℕ) → apart a b c d ≡ true → (nat_le a at && nat_lt at b) ≡ true → (nat_le c at && nat_lt at d) ≡ true → ⊥
not_both a b c d at h p q =
    let from = and_parts (nat_le a at) (nat_lt at b) p in
    let to = and_parts (nat_le c at) (nat_lt at d) q in
    elim (or_cases (nat_le b c) (nat_le d a) h) [
      | inl e ↦ omega (arith, leb-true b c e, leb-true c at to.0, ltb-true at b from.1)
      | inr e ↦ omega (arith, leb-true d a e, leb-true a at from.0, ltb-true at d to.1)
    ]

holds : (live : List Section) (s : Section) (at : ℕ) → AllBeside live → Lives live s → in_public s at ≡ true → holder live at ≡ s.id
holds [] s at a l h = absurd l
holds (x ∷ rest) s at a l h = elim l [
  | inl e ↦ cond-true (in_public x at) x.id (holder rest at) (subst (λ (z : Section). in_public z at ≡ true) (sym e) h) ∙ ap (λ (z : Section). z.id) e
  | inr r ↦ elim (in_public x at) as (λ b. in_public x at ≡ b → cond b x.id (holder rest at) ≡ s.id) [
    | true ↦ λ e. absurd (not_both x.layout.pub_from x.layout.pub_to s.layout.pub_from s.layout.pub_to at (and_parts _ _ (beside_live x rest s a.0 r).parts).0 e h)
    | false ↦ λ e. holds rest s at a.1 r h
  ] refl
]

pub placed_holds : PlacedHolds
placed_holds t s at p l h = holds t.live s at p.pairs l h
