-- A home that the sections leave to its module.
use Rattle.std.proofs.Common.{◌≡◌, ℕ, ◌+◌, ◌-◌, ◌%◌, ◌<◌, ◌≤◌, ◌==◌, Bool, true, false, ◌&&◌, ◌||◌, not, cond, nat_lt, nat_le, List, [], ◌∷◌}
use Rattle.std.proofs.Common.{Option, Some, None, refl, sym, subst, ap, ◌∙◌, inl, inr, arith}
use Rattle.std.proofs.lemmas.Bool.{and_parts, and_from, or_cases, or_left, or_right, eqb-true, eq-eqb, leb-true, ltb-true, le-leb, lt-ltb}
use Rattle.std.proofs.lemmas.Bool.{not_from_false, false_from_ne_true, true≢false}
use Rattle.std.specs.List.{list_all}
use Rattle.sx_rules.specs.declared.access.Access.TheVariants.{Read, Write}
use Rattle.sx_rules.specs.declared.section.Section.{Section}
use Rattle.sx_rules.specs.declared.section.Layout.{Layout}
use Rattle.sx_rules.specs.Access.{may, allows, in_public, in_private, holder, outside_private, in_order, extends, section_of}
use Rattle.sx_rules.specs.Admission.{apart, is_even}
use Rattle.spec_machine.specs.Memory.{even}
use Rattle.spec_machine.specs.Run.{may_at, may_range}
use Rattle.sx_executor.specs.declared.home.Home.{Home}
use Rattle.sx_executor.specs.Homes.{within, has_code, has_data, has_data_range, leaves, is_even_home, IsCode, IsData, KeepsHome}
use Rattle.sx_executor.proofs.Reach.{all_open}
use Rattle.sx_executor.proofs.Rights.{all_weaker}

-- both bytes of a word lie in a part with even bounds
pub low_byte : (from to at : ℕ) → is_even from ≡ true → within from to at ≡ true → within from to (even at) ≡ true
low_byte from to at e h =
    let parts = and_parts (nat_le from at) (nat_lt at to) h in
    let low = leb-true from at parts.0 in
    let high = ltb-true at to parts.1 in
    let half = eqb-true (from % 2) 0 e in
    let above : from ≤ even at = first_of (omega arith, grind arith) in
    let below : even at < to = first_of (omega arith, grind arith) in
    and_from (nat_le from (even at)) (nat_lt (even at) to) (le-leb from (even at) above) (lt-ltb (even at) to below)

pub high_byte : (from to at : ℕ) → is_even to ≡ true → within from to at ≡ true → within from to (even at + 1) ≡ true
high_byte from to at e h =
    let parts = and_parts (nat_le from at) (nat_lt at to) h in
    let low = leb-true from at parts.0 in
    let high = ltb-true at to parts.1 in
    let half = eqb-true (to % 2) 0 e in
    let above : from ≤ even at + 1 = first_of (omega arith, grind arith) in
    let below : even at + 1 < to = first_of (omega arith, grind arith) in
    and_from (nat_le from (even at + 1)) (nat_lt (even at + 1) to) (le-leb from (even at + 1) above) (lt-ltb (even at + 1) to below)

-- a byte of one part isn't one of another that is apart
pub not_both : (a b c d at : ℕ) → apart a b c d ≡ true → within a b at ≡ true → within c d at ≡ false
not_both a b c d at h p =
    let from = and_parts (nat_le a at) (nat_lt at b) p in
    false_from_ne_true (within c d at) (λ q.
    let to = and_parts (nat_le c at) (nat_lt at d) q in
    elim (or_cases (nat_le b c) (nat_le d a) h) [
      | inl e ↦ omega (arith, leb-true b c e, leb-true c at to.0, ltb-true at b from.1)
      | inr e ↦ omega (arith, leb-true d a e, leb-true a at from.0, ltb-true at d to.1)
    ])

-- What one section says of a byte of the public part, and of one of the private part.

of_module : (h : Home) (s : Section) → (s.id == h.id) ≡ true → (h.id == s.id) ≡ true
of_module h s e = eq-eqb h.id s.id (sym (eqb-true s.id h.id e))

code_private : (h : Home) (at : ℕ) → within h.layout.pub_from h.layout.pub_to at ≡ true → (s : Section) → leaves h s ≡ true → in_private s at ≡ false
code_private h at w s l =
    not_both h.layout.pub_from h.layout.pub_to s.layout.priv_from s.layout.priv_to at (and_parts _ _ l).0 w

code_public : (h : Home) (at : ℕ) → within h.layout.pub_from h.layout.pub_to at ≡ true → (s : Section) → leaves h s ≡ true → (not (in_public s at) || h.id == s.id) ≡ true
code_public h at w s l =
    elim (or_cases _ _ (and_parts _ _ (and_parts _ _ l).1).1) [
      | inl e ↦ or_right (not (in_public s at)) (h.id == s.id) (of_module h s e)
      | inr e ↦ or_left (not (in_public s at)) (h.id == s.id)
          (not_from_false _ (not_both h.layout.pub_from h.layout.pub_to s.layout.pub_from s.layout.pub_to at (and_parts _ _ e).0 w))
    ]

data_public : (h : Home) (at : ℕ) → within h.layout.priv_from h.layout.priv_to at ≡ true → (s : Section) → leaves h s ≡ true → in_public s at ≡ false
data_public h at w s l =
    not_both h.layout.priv_from h.layout.priv_to s.layout.pub_from s.layout.pub_to at (and_parts _ _ (and_parts _ _ l).1).0 w

data_private : (h : Home) (at : ℕ) → within h.layout.priv_from h.layout.priv_to at ≡ true → (s : Section) → leaves h s ≡ true → (not (in_private s at) || h.id == s.id) ≡ true
data_private h at w s l =
    elim (or_cases _ _ (and_parts _ _ (and_parts _ _ l).1).1) [
      | inl e ↦ or_right (not (in_private s at)) (h.id == s.id) (of_module h s e)
      | inr e ↦ or_left (not (in_private s at)) (h.id == s.id)
          (not_from_false _ (not_both h.layout.priv_from h.layout.priv_to s.layout.priv_from s.layout.priv_to at (and_parts _ _ e).1 w))
    ]

-- What all sections say.

outside : (h : Home) (live : List Section) (at : ℕ) → list_all (leaves h) live ≡ true → within h.layout.pub_from h.layout.pub_to at ≡ true → outside_private live at ≡ true
outside h live at a w = all_weaker (leaves h) (λ s. not (in_private s at)) (λ s l. not_from_false _ (code_private h at w s l)) live a

extended : (h : Home) (live : List Section) (at : ℕ) → list_all (leaves h) live ≡ true → within h.layout.pub_from h.layout.pub_to at ≡ true → extends live h.id at ≡ true
extended h live at a w =
    all_weaker (leaves h) (λ s. not (in_private s at) && (not (in_public s at) || h.id == s.id))
    (λ s l. and_from _ _ (not_from_false _ (code_private h at w s l)) (code_public h at w s l)) live a

ordered : (h : Home) (live : List Section) (at : ℕ) → list_all (leaves h) live ≡ true → within h.layout.pub_from h.layout.pub_to at ≡ true → in_order live h.id at ≡ true
ordered h live at a w =
    all_weaker (leaves h) (λ s. not (in_public s at) || (h.id == s.id || at == s.layout.pub_from))
    (λ s l. elim (or_cases (not (in_public s at)) (h.id == s.id) (code_public h at w s l)) [
      | inl out ↦ or_left (not (in_public s at)) (h.id == s.id || at == s.layout.pub_from) out
      | inr own ↦ or_right (not (in_public s at)) _ (or_left (h.id == s.id) (at == s.layout.pub_from) own)
    ]) live a

reads : (h : Home) (live : List Section) (at : ℕ) → list_all (leaves h) live ≡ true → within h.layout.priv_from h.layout.priv_to at ≡ true → may live h.id Read at ≡ true
unfolding may
reads h live at a w = all_weaker (leaves h) (allows h.id Read at) (λ s l. data_private h at w s l) live a

writes : (h : Home) (live : List Section) (at : ℕ) → list_all (leaves h) live ≡ true → within h.layout.priv_from h.layout.priv_to at ≡ true → may live h.id Write at ≡ true
unfolding may
writes h live at a w =
    all_weaker (leaves h) (allows h.id Write at)
    (λ s l. and_from _ _ (not_from_false _ (data_public h at w s l)) (data_private h at w s l)) live a

-- a section that was looked for holds the byte in its public part
abbrev holds : Option Section → ℕ → Bool
holds None at = false
holds (Some s) at = in_public s at

its_id : (s : Section) (h : Home) (at : ℕ) → (not (in_public s at) || h.id == s.id) ≡ true → in_public s at ≡ true → s.id ≡ h.id
its_id s h at e p = elim (or_cases _ _ e) [
  | inl n ↦ absurd (true≢false (sym n ∙ ap not p))
  | inr i ↦ sym (eqb-true h.id s.id i)
]

held : (h : Home) (live : List Section) (at : ℕ) → list_all (leaves h) live ≡ true → within h.layout.pub_from h.layout.pub_to at ≡ true
    → holds (section_of live h.id) at ≡ true → holder live at ≡ h.id
held h [] at a w f = absurd (true≢false (sym f))
held h (x ∷ rest) at a w f =
    let parts = and_parts (leaves h x) (list_all (leaves h) rest) a in
    elim (in_public x at) as (λ t. in_public x at ≡ t → cond t x.id (holder rest at) ≡ h.id) [
      | true ↦ λ e. its_id x h at (code_public h at w x parts.0) e
      | false ↦ λ e. held h rest at parts.1 w
          (elim (x.id == h.id) as (λ t. holds (cond t (Some x) (section_of rest h.id)) at ≡ true → holds (section_of rest h.id) at ≡ true) [
            | true ↦ λ q. absurd (true≢false (sym q ∙ e))
            | false ↦ λ q. q
          ] f)
    ] refl

-- the home of a live module that all sections leave to it
pub keeps : (h : Home) (live : List Section) (s : Section) → section_of live h.id ≡ Some s → h.layout ≡ s.layout → is_even_home h ≡ true
    → list_all (leaves h) live ≡ true → KeepsHome h live
keeps h live s f same e a =
    let pub_even = and_parts _ _ e in
    let to_even = and_parts _ _ pub_even.1 in
    let priv_even = and_parts _ _ to_even.1 in
    let l = h.layout in
    record {
      public = λ at w.
          let low = low_byte l.pub_from l.pub_to at pub_even.0 w in
          let high = high_byte l.pub_from l.pub_to at to_even.0 w in
          record {
            held = held h live at a w (ap (λ o. holds o at) f ∙ subst (λ (m : Layout). within m.pub_from m.pub_to at ≡ true) same w);
            outside = and_from _ _ (outside h live (even at) a low) (outside h live (even at + 1) a high);
            ordered = ordered h live at a w;
            extended = and_from _ _ (extended h live (even at) a low) (extended h live (even at + 1) a high);
          };
      private = λ at w.
          let low = low_byte l.priv_from l.priv_to at priv_even.0 w in
          let high = high_byte l.priv_from l.priv_to at priv_even.1 w in
          record {
            readable = λ wide. elim wide as (λ t. may_at t live h.id Read at ≡ true) [
              | true ↦ and_from _ _ (reads h live (even at) a low) (reads h live (even at + 1) a high)
              | false ↦ reads h live at a w
            ];
            writable = λ wide. elim wide as (λ t. may_at t live h.id Write at ≡ true) [
              | true ↦ and_from _ _ (writes h live (even at) a low) (writes h live (even at + 1) a high)
              | false ↦ writes h live at a w
            ];
          };
    }

pub none_within : (at : ℕ) → within 0 0 at ≡ true → ⊥
none_within at h = let below = ltb-true at 0 (and_parts (nat_le 0 at) (nat_lt at 0) h).1 in omega arith

-- a home with no place
pub empty : (live : List Section) → KeepsHome (record { id = 0; layout = record { pub_from = 0; pub_to = 0; priv_from = 0; priv_to = 0 } }) live
empty live = record { public = λ at w. absurd (none_within at w); private = λ at w. absurd (none_within at w) }

-- a place that is known to be of the home
pub known_code : (h : Home) (live : List Section) (id at : ℕ) (b : Bool) → KeepsHome h live → b ≡ has_code h id at → b ≡ true → IsCode live id at
known_code h live id at b k e t =
    let parts = and_parts (id == h.id) (within h.layout.pub_from h.layout.pub_to at) (sym e ∙ t) in
    subst (λ (i : ℕ). IsCode live i at) (sym (eqb-true id h.id parts.0)) (k.public at parts.1)

known_data : (h : Home) (live : List Section) (id at : ℕ) (b : Bool) → KeepsHome h live → b ≡ has_data h id at → b ≡ true → IsData live id at
known_data h live id at b k e t =
    let parts = and_parts (id == h.id) (within h.layout.priv_from h.layout.priv_to at) (sym e ∙ t) in
    subst (λ (i : ℕ). IsData live i at) (sym (eqb-true id h.id parts.0)) (k.private at parts.1)

-- bytes of which the first and the last are known to be its data
pub known_range : (h : Home) (live : List Section) (id at n : ℕ) (b : Bool) → KeepsHome h live → b ≡ has_data_range h id at n → b ≡ true
    → (may_range live id Read at n ≡ true) × (may_range live id Write at n ≡ true)
known_range h live id at n b k e t =
    let from = h.layout.priv_from in let to = h.layout.priv_to in
    let some = and_parts (nat_lt 0 n) (has_data h id at && has_data h id (at + (n - 1))) (sym e ∙ t) in
    let ends = and_parts (has_data h id at) (has_data h id (at + (n - 1))) some.1 in
    let first = and_parts (id == h.id) (within from to at) ends.0 in
    let last = and_parts (id == h.id) (within from to (at + (n - 1))) ends.1 in
    let low = leb-true from at (and_parts (nat_le from at) (nat_lt at to) first.1).0 in
    let high = ltb-true (at + (n - 1)) to (and_parts (nat_le from (at + (n - 1))) (nat_lt (at + (n - 1)) to) last.1).1 in
    let each : (i : ℕ) → i < n → IsData live id (at + i) = λ i below.
    let above : from ≤ at + i = omega arith in
    let under : at + i < to = omega arith in
    let inside = and_from (nat_le from (at + i)) (nat_lt (at + i) to) (le-leb from (at + i) above) (lt-ltb (at + i) to under) in
    known_data h live id (at + i) true k (sym (and_from (id == h.id) (within from to (at + i)) first.0 inside)) refl in
    (all_open live id Read at n (λ i below. (each i below).readable false), all_open live id Write at n (λ i below. (each i below).writable false))
