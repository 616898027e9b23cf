-- A section off a byte's page doesn't hold the byte, so it need not be asked about it.
use Rattle.std.proofs.Common.{◌≡◌, ℕ, zero, suc, ◌+◌, ◌*◌, ◌/◌, ◌%◌, ◌^◌, ◌<◌, ◌≤◌, Bool, true, false, ◌&&◌, ◌==◌, not, cond, nat_lt, nat_le, List, [], ◌∷◌}
use Rattle.std.proofs.Common.{length, get_or, drop, replicate, inl, inr, refl, sym, ◌∙◌, ap, subst, arith}
use Rattle.std.specs.List.{list_all}
use Rattle.std.proofs.Math.Nat.{pow-suc}
use Rattle.std.proofs.lemmas.Nat.{pow_pos}
use Rattle.std.proofs.lemmas.List.{at_drop_more}
use Rattle.std.proofs.lemmas.Bool.{cases_eq, ltb-true, leb-true, lt-ltb, le-leb, eq-eqb, and_parts, and_from, or_parts, or_left, both_ways, not-true}
use Rattle.std.proofs.lemmas.Bool.{not_from_false, false_from_ne_true, cond-false, ne_eqb}
use Rattle.sx_rules.specs.declared.access.Access.{Access}
use Rattle.sx_rules.specs.declared.access.Access.TheVariants.{Read, Write, Run}
use Rattle.sx_rules.specs.declared.access.Question.{Question}
use Rattle.sx_rules.specs.declared.access.Question.TheVariants.{Allows, OutsidePrivate, InOrder, Extends}
use Rattle.sx_rules.specs.declared.section.Section.{Section}
use Rattle.sx_rules.specs.Access.{in_public, in_private, may, holder, Lives}
use Rattle.sx_rules.specs.Pages.{reaches, meets, meeting, is_open, answer, IsFree}

-- One section.

holds_none : (from to at : ℕ) → reaches from to (at / 256) ≡ false → (nat_le from at && nat_lt at to) ≡ false
holds_none from to at h = false_from_ne_true _ (λ e.
    let inside = and_parts (nat_le from at) (nat_lt at to) e in
    let low = leb-true from at inside.0 in
    let high = ltb-true at to inside.1 in
    both_ways _ h (and_from _ _ (le-leb (from / 256) (at / 256) (omega arith)) (lt-ltb (256 * (at / 256)) to (omega arith))))

away : (at : ℕ) (s : Section) → meets (at / 256) s ≡ false → (in_public s at ≡ false) × (in_private s at ≡ false)
away at s h =
    let parts = or_parts _ _ h in
    (holds_none s.layout.pub_from s.layout.pub_to at parts.0, holds_none s.layout.priv_from s.layout.priv_to at parts.1)

answers_away : (q : Question) (at : ℕ) (s : Section) → (in_public s at ≡ false) × (in_private s at ≡ false) → answer q at s ≡ true
answers_away (Allows own Read) at s h = or_left _ _ (not_from_false _ h.1)
answers_away (Allows own Write) at s h = and_from _ _ (not_from_false _ h.0) (or_left _ _ (not_from_false _ h.1))
answers_away (Allows own Run) at s h = and_from _ _ (not_from_false _ h.1) (or_left _ _ (not_from_false _ h.0))
answers_away OutsidePrivate at s h = not_from_false _ h.1
answers_away (InOrder cur) at s h = or_left _ _ (not_from_false _ h.0)
answers_away (Extends own) at s h = and_from _ _ (not_from_false _ h.1) (or_left _ _ (not_from_false _ h.0))

-- The bits of the sections.

bit_of : (page : ℕ) (s : Section) (rest : List Section) → (meeting page (s ∷ rest) / 2 ≡ meeting page rest) × (meeting page (s ∷ rest) % 2 ≡ cond (meets page s) 1 0)
bit_of page s rest =
    elim (meets page s) as (λ b. ((cond b 1 0 + 2 * meeting page rest) / 2 ≡ meeting page rest) × ((cond b 1 0 + 2 * meeting page rest) % 2 ≡ cond b 1 0))
    [ true ↦ (omega arith, omega arith) | false ↦ (omega arith, omega arith) ]

pub meeting_below : (page n : ℕ) (live : List Section) → length live ≤ n → meeting page live < 2 ^ n
meeting_below page n [] h = pow_pos n
meeting_below page zero (s ∷ rest) h = absurd (omega arith)
meeting_below page (suc n) (s ∷ rest) h =
    let below = meeting_below page n rest (omega arith) in
    let double = pow-suc 2 n in
    elim (meets page s) as (λ b. cond b 1 0 + 2 * meeting page rest < 2 ^ suc n) [ true ↦ omega arith | false ↦ omega arith ]

bit_unset : (b : Bool) (m : ℕ) → cond b 1 0 + 2 * m ≡ 0 → (b ≡ false) × (m ≡ 0)
bit_unset true m h = absurd (omega arith)
bit_unset false m h = (refl, omega arith)

unset_bit : (b : Bool) (m : ℕ) → not b ≡ true → m ≡ 0 → cond b 1 0 + 2 * m ≡ 0
unset_bit true m h e = cc
unset_bit false m h e = omega arith

-- No section meets a page with no bit set.
none_meets : (page : ℕ) (live : List Section) → meeting page live ≡ 0 → is_open live page ≡ true
none_meets page [] h = refl
none_meets page (s ∷ rest) h =
    let parts = bit_unset (meets page s) (meeting page rest) h in
    and_from _ _ (not_from_false _ parts.0) (none_meets page rest parts.1)

no_bits : (page : ℕ) (live : List Section) → is_open live page ≡ true → meeting page live ≡ 0
no_bits page [] h = refl
no_bits page (s ∷ rest) h =
    let parts = and_parts _ _ h in
    unset_bit (meets page s) (meeting page rest) parts.0 (no_bits page rest parts.1)

pub open_is : (page : ℕ) (live : List Section) (bits : ℕ) → bits ≡ meeting page live → (bits == 0) ≡ is_open live page
open_is page live bits e = elim (cases_eq bits 0) [
  | inl z ↦ eq-eqb bits 0 z ∙ sym (none_meets page live (sym e ∙ z))
  | inr some ↦ ne_eqb bits 0 some ∙ sym (false_from_ne_true _ (λ o. some (e ∙ no_bits page live o)))
]

-- A byte of an open page.

open_answers : (q : Question) (live : List Section) (at : ℕ) → is_open live (at / 256) ≡ true → list_all (answer q at) live ≡ true
open_answers q [] at h = refl
open_answers q (s ∷ rest) at h =
    let parts = and_parts _ _ h in
    and_from _ _ (answers_away q at s (away at s (not-true _ parts.0))) (open_answers q rest at parts.1)

pub open_holder : (live : List Section) (at : ℕ) → is_open live (at / 256) ≡ true → holder live at ≡ 0
open_holder [] at h = refl
open_holder (s ∷ rest) at h =
    let parts = and_parts _ _ h in
    cond-false (in_public s at) s.id (holder rest at) (away at s (not-true _ parts.0)).0 ∙ open_holder rest at parts.1

open_held : (live : List Section) (at : ℕ) → is_open live (at / 256) ≡ true → (s : Section) → Lives live s → (in_public s at ≡ false) × (in_private s at ≡ false)
open_held [] at h s l = absurd l
open_held (x ∷ rest) at h s l =
    let parts = and_parts _ _ h in
    elim l [
      | inl e ↦ subst (λ (z : Section). (in_public z at ≡ false) × (in_private z at ≡ false)) e (away at x (not-true _ parts.0))
      | inr r ↦ open_held rest at parts.1 s r
    ]

open_reached : (live : List Section) (at : ℕ) → is_open live (at / 256) ≡ true → (own : ℕ) (access : Access) → may live own access at ≡ true
unfolding may
open_reached live at h own access = open_answers (Allows own access) live at h

pub free : (live : List Section) (at : ℕ) → is_open live (at / 256) ≡ true → (byte : ℕ) → byte / 256 ≡ at / 256 → IsFree live byte
free live at h byte e =
    let opened : is_open live (byte / 256) ≡ true = subst (λ page. is_open live page ≡ true) (sym e) h in
    record {
      held = open_held live byte opened;
      reached = open_reached live byte opened;
      outside = open_answers OutsidePrivate live byte opened;
      ordered = λ cur. open_answers (InOrder cur) live byte opened;
      extended = λ own. open_answers (Extends own) live byte opened;
      of_none = open_holder live byte opened;
    }

-- A loop over the live sections, whose bits come one after the other.

pub ends_asked : (q : Question) (at : ℕ) (live : List Section) (bits : ℕ) → bits ≡ meeting (at / 256) live → bits ≡ 0 → list_all (answer q at) live ≡ true
ends_asked q at live bits e z = open_answers q live at (none_meets _ live (sym e ∙ z))

pub ends_held : (at : ℕ) (live : List Section) (bits : ℕ) → bits ≡ meeting (at / 256) live → bits ≡ 0 → holder live at ≡ 0
ends_held at live bits e z = open_holder live at (none_meets _ live (sym e ∙ z))

next_bits : (page : ℕ) (s : Section) (rest : List Section) (bits : ℕ) → bits ≡ meeting page (s ∷ rest) → bits / 2 ≡ meeting page rest
next_bits page s rest bits e = ap (λ (n : ℕ). n / 2) e ∙ (bit_of page s rest).0

-- a section whose bit isn't set lies off the page
unset : (page : ℕ) (s : Section) (rest : List Section) (bits : ℕ) → bits ≡ meeting page (s ∷ rest) → (bits % 2 ≡ 1 → ⊥) → meets page s ≡ false
unset page s rest bits e h = false_from_ne_true _ (λ m. h (ap (λ (n : ℕ). n % 2) e ∙ ((bit_of page s rest).1 ∙ ap (λ (b : Bool). cond b 1 0) m)))

-- what a loop over sections would read past their end
abbrev pub past_end : Section
past_end = record { layout = record { pub_from = 0; pub_to = 0; priv_from = 0; priv_to = 0 }; provider = 0; id = 0; key = [] }

pub bits_turn : (page : ℕ) (live : List Section) (i : ℕ) (d : Section) (bits : ℕ) → i < length live → bits ≡ meeting page (drop i live) → bits / 2 ≡ meeting page (drop (i + 1) live)
bits_turn page live i d bits h e = next_bits page (get_or live i d) (drop (i + 1) live) bits (e ∙ at_drop_more (meeting page) live i d h)

-- a section says yes where its bit isn't set
pub asked_turn : (q : Question) (at : ℕ) (live : List Section) (i : ℕ) (d : Section) (bits : ℕ) →
    i < length live → bits ≡ meeting (at / 256) (drop i live) → (bits % 2 ≡ 1 → answer q at (get_or live i d) ≡ true) →
    list_all (answer q at) (drop (i + 1) live) ≡ list_all (answer q at) (drop i live)
asked_turn q at live i d bits h e told =
    let s = get_or live i d in
    let rest = drop (i + 1) live in
    let here : bits ≡ meeting (at / 256) (s ∷ rest) = e ∙ at_drop_more (meeting (at / 256)) live i d h in
    let says : answer q at s ≡ true = elim (cases_eq (bits % 2) 1) [
      | inl one ↦ told one
      | inr off ↦ answers_away q at s (away at s (unset (at / 256) s rest bits here off))
    ] in
    sym (at_drop_more (list_all (answer q at)) live i d h ∙ ap (λ (b : Bool). b && list_all (answer q at) rest) says)

-- and doesn't hold the byte
pub held_turn : (at : ℕ) (live : List Section) (i : ℕ) (d : Section) (bits : ℕ) →
    i < length live → bits ≡ meeting (at / 256) (drop i live) → (bits % 2 ≡ 1 → in_public (get_or live i d) at ≡ false) →
    holder (drop (i + 1) live) at ≡ holder (drop i live) at
held_turn at live i d bits h e told =
    let s = get_or live i d in
    let rest = drop (i + 1) live in
    let here : bits ≡ meeting (at / 256) (s ∷ rest) = e ∙ at_drop_more (meeting (at / 256)) live i d h in
    let outside : in_public s at ≡ false = elim (cases_eq (bits % 2) 1) [
      | inl one ↦ told one
      | inr off ↦ (away at s (unset (at / 256) s rest bits here off)).0
    ] in
    sym (at_drop_more (λ (xs : List Section). holder xs at) live i d h ∙ cond-false (in_public s at) s.id (holder rest at) outside)

-- A page that one section alone meets: its bit alone is set.

first_bit : (b : Bool) (m : ℕ) → cond b 1 0 + 2 * m ≡ 1 → (b ≡ true) × (m ≡ 0)
first_bit true m h = (refl, omega arith)
first_bit false m h = absurd (omega arith)

later_bit : (b : Bool) (m place : ℕ) → cond b 1 0 + 2 * m ≡ 2 ^ suc place → (b ≡ false) × (m ≡ 2 ^ place)
later_bit true m place h = let double = pow-suc 2 place in absurd (omega arith)
later_bit false m place h = let double = pow-suc 2 place in (refl, omega arith)

and_true : (a : Bool) → a ≡ (a && true)
and_true true = refl
and_true false = refl

-- it answers for all
pub only_answers : (q : Question) (at place : ℕ) (live : List Section) (d : Section) → meeting (at / 256) live ≡ 2 ^ place → place < length live
    → answer q at (get_or live place d) ≡ list_all (answer q at) live
only_answers q at place [] d h below = absurd (omega arith)
only_answers q at zero (s ∷ rest) d h below =
    let bit = first_bit (meets (at / 256) s) (meeting (at / 256) rest) h in
    let others : list_all (answer q at) rest ≡ true = open_answers q rest at (none_meets (at / 256) rest bit.1) in
    and_true (answer q at s) ∙ sym (ap (λ (b : Bool). answer q at s && b) others)
only_answers q at (suc place) (s ∷ rest) d h below =
    let bit = later_bit (meets (at / 256) s) (meeting (at / 256) rest) place h in
    only_answers q at place rest d bit.1 (omega arith)
    ∙ sym (ap (λ (b : Bool). b && list_all (answer q at) rest) (answers_away q at s (away at s bit.0)))

-- and alone may hold a byte
pub only_holds : (at place : ℕ) (live : List Section) (d : Section) → meeting (at / 256) live ≡ 2 ^ place → place < length live
    → cond (in_public (get_or live place d) at) (get_or live place d).id 0 ≡ holder live at
only_holds at place [] d h below = absurd (omega arith)
only_holds at zero (s ∷ rest) d h below =
    let bit = first_bit (meets (at / 256) s) (meeting (at / 256) rest) h in
    let none : holder rest at ≡ 0 = open_holder rest at (none_meets (at / 256) rest bit.1) in
    sym (ap (λ (id : ℕ). cond (in_public s at) s.id id) none)
only_holds at (suc place) (s ∷ rest) d h below =
    let bit = later_bit (meets (at / 256) s) (meeting (at / 256) rest) place h in
    only_holds at place rest d bit.1 (omega arith)
    ∙ sym (cond-false (in_public s at) s.id (holder rest at) (away at s bit.0).0)

-- A new table: its slots are unused, and no section meets a page.

pub all_alike : {A : Type 0} (n i : ℕ) (x : A) → get_or (replicate n x) i x ≡ x
all_alike zero i x = refl
all_alike (suc n) zero x = refl
all_alike (suc n) (suc i) x = all_alike n i x
