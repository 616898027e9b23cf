-- What a test of PC, of an extension word, of a range or of a layout says of the access table.
use Rattle.std.proofs.Common.{◌≡◌, ◌⊎◌, ℕ, ◌+◌, ◌-◌, ◌%◌, ◌<◌, Bool, true, false, not, ◌&&◌, ◌||◌, ◌==◌, leb, ltb, List, [], ◌∷◌, None, refl, sym, subst, ◌∙◌, inl, inr, arith}
use Rattle.std.proofs.lemmas.Bool.{and_parts, or_cases, cases_eq, not-true, leb-true, ltb-true, lt-ltb, true≢false, false_from_ne_true, and_from, or_parts, not_from_false}
use Rattle.std.specs.List.{list_all, list_any}
use Rattle.sx_rules.specs.declared.access.Access.TheVariants.{Read, Write}
use Rattle.sx_rules.specs.declared.section.Section.{Section}
use Rattle.sx_rules.specs.declared.section.Layout.{Layout}
use Rattle.sx_rules.specs.Access.{Sections, may, allows, extends, outside_private, in_private, in_public}
use Rattle.sx_rules.specs.Admission.{refusal, apart, clear_of, parts_apart}
use Rattle.sx_rules.proofs.Admits.{admits}
use Rattle.spec_machine.specs.Memory.{even}
use Rattle.spec_machine.specs.Ranges.{meets, meets_private, meets_public}
use Rattle.spec_machine.specs.Run.{may_at, may_range}
use Rattle.spec_machine.specs.Step.{word_outside}
use Rattle.sx_executor.proofs.Reach.{all_open}

unless_true : (a b : Bool) → a ≡ false → (not a || b) ≡ true
unless_true true b h = absurd (true≢false h)
unless_true false b h = refl

-- what all pass that implies another test
pub all_weaker : (t u : Section → Bool) → ((s : Section) → t s ≡ true → u s ≡ true) → (xs : List Section) → list_all t xs ≡ true → list_all u xs ≡ true
all_weaker t u f [] h = refl
all_weaker t u f (x ∷ xs) h =
    let parts = and_parts (t x) (list_all t xs) h in
    and_from (u x) (list_all u xs) (f x parts.0) (all_weaker t u f xs parts.1)

-- what none meets that implies another test
none_weaker : (t u : Section → Bool) → ((s : Section) → t s ≡ false → u s ≡ true) → (xs : List Section) → list_any t xs ≡ false → list_all u xs ≡ true
none_weaker t u f [] h = refl
none_weaker t u f (x ∷ xs) h =
    let parts = or_parts (t x) (list_any t xs) h in
    and_from (u x) (list_all u xs) (f x parts.0) (none_weaker t u f xs parts.1)

-- a byte outside every private section may be read
outside_readable : (live : List Section) (own at : ℕ) → outside_private live at ≡ true → may live own Read at ≡ true
unfolding may
outside_readable live own at h =
    all_weaker (λ s. not (in_private s at)) (allows own Read at)
    (λ s e. unless_true (in_private s at) (own == s.id) (not-true (in_private s at) e)) live h

extends_outside : (live : List Section) (own at : ℕ) → extends live own at ≡ true → outside_private live at ≡ true
extends_outside live own at h =
    all_weaker (λ s. not (in_private s at) && (not (in_public s at) || own == s.id)) (λ s. not (in_private s at))
    (λ s e. (and_parts (not (in_private s at)) (not (in_public s at) || own == s.id) e).0) live h

-- a word outside every private section may be read
pub outside_word : (live : List Section) (own at : ℕ) → word_outside live at ≡ true → may_at true live own Read at ≡ true
outside_word live own at h =
    let parts = and_parts (outside_private live (even at)) (outside_private live (even at + 1)) h in
    and_from (may live own Read (even at)) (may live own Read (even at + 1))
    (outside_readable live own (even at) parts.0) (outside_readable live own (even at + 1) parts.1)

even_or_odd : (at : ℕ) → (even at ≡ at) ⊎ (even at + 1 ≡ at)
even_or_odd at = elim (cases_eq (at % 2) 0) [
  | inl same ↦ inl (first_of (omega (arith, same), grind (arith, same)))
  | inr odd ↦ inr (first_of (omega (arith, odd), grind (arith, odd)))
]

-- the same of such a word or of its byte at the address
pub outside_any : (live : List Section) (own at : ℕ) → word_outside live at ≡ true → (wide : Bool) → may_at wide live own Read at ≡ true
outside_any live own at h true = outside_word live own at h
outside_any live own at h false =
    let parts = and_parts (outside_private live (even at)) (outside_private live (even at + 1)) h in
    elim (even_or_odd at) [
      | inl e ↦ subst (λ (k : ℕ). may live own Read k ≡ true) e (outside_readable live own (even at) parts.0)
      | inr e ↦ subst (λ (k : ℕ). may live own Read k ≡ true) e (outside_readable live own (even at + 1) parts.1)
    ]

-- a word where an extension word may be
pub extends_readable : (live : List Section) (own at : ℕ) → (extends live own (even at) && extends live own (even at + 1)) ≡ true
    → may_at true live own Read at ≡ true
extends_readable live own at h =
    let parts = and_parts (extends live own (even at)) (extends live own (even at + 1)) h in
    outside_word live own at
    (and_from (outside_private live (even at)) (outside_private live (even at + 1))
    (extends_outside live own (even at) parts.0) (extends_outside live own (even at + 1) parts.1))

-- a byte of a range that doesn't meet another one
pub byte_apart : (at n from to i : ℕ) → meets at n from to ≡ false → i < n → (leb from (at + i) && ltb (at + i) to) ≡ false
byte_apart at n from to i h below =
    false_from_ne_true (leb from (at + i) && ltb (at + i) to) (λ e.
    let parts = and_parts (leb from (at + i)) (ltb (at + i) to) e in
    let low = leb-true from (at + i) parts.0 in
    let high = ltb-true (at + i) to parts.1 in
    let some : 0 < n = omega arith in
    let before : at < to = omega arith in
    let behind : from < at + n = omega arith in
    true≢false (sym (and_from (ltb 0 n) (ltb at to && ltb from (at + n)) (lt-ltb 0 n some)
    (and_from (ltb at to) (ltb from (at + n)) (lt-ltb at to before) (lt-ltb from (at + n) behind))) ∙ h))

-- a range that meets no private section may be read
pub apart_readable : (live : List Section) (own at n : ℕ) → meets_private live at n ≡ false → may_range live own Read at n ≡ true
unfolding may
apart_readable live own at n h =
    all_open live own Read at n (λ i below.
    none_weaker (λ s. meets at n s.layout.priv_from s.layout.priv_to) (allows own Read (at + i))
    (λ s e. unless_true (in_private s (at + i)) (own == s.id) (byte_apart at n s.layout.priv_from s.layout.priv_to i e below)) live h)

byte_writable : (live : List Section) (own at n i : ℕ) → i < n → meets_public live at n ≡ false → meets_private live at n ≡ false
    → list_all (allows own Write (at + i)) live ≡ true
byte_writable [] own at n i below public private = refl
byte_writable (s ∷ rest) own at n i below public private =
    let no_public = or_parts (meets at n s.layout.pub_from s.layout.pub_to) (meets_public rest at n) public in
    let no_private = or_parts (meets at n s.layout.priv_from s.layout.priv_to) (meets_private rest at n) private in
    and_from (allows own Write (at + i) s) (list_all (allows own Write (at + i)) rest)
    (and_from (not (in_public s (at + i))) (not (in_private s (at + i)) || own == s.id)
    (not_from_false (in_public s (at + i)) (byte_apart at n s.layout.pub_from s.layout.pub_to i no_public.0 below))
    (unless_true (in_private s (at + i)) (own == s.id) (byte_apart at n s.layout.priv_from s.layout.priv_to i no_private.0 below)))
    (byte_writable rest own at n i below no_public.1 no_private.1)

-- one that meets no section may be written
pub apart_writable : (live : List Section) (own at n : ℕ) → meets_public live at n ≡ false → meets_private live at n ≡ false
    → may_range live own Write at n ≡ true
unfolding may
apart_writable live own at n public private =
    all_open live own Write at n (λ i below. byte_writable live own at n i below public private)

-- a byte of a part that is apart from another
part_apart : (from to other end i : ℕ) → apart from to other end ≡ true → i < to - from → (leb other (from + i) && ltb (from + i) end) ≡ false
part_apart from to other end i h below =
    false_from_ne_true (leb other (from + i) && ltb (from + i) end) (λ e.
    let parts = and_parts (leb other (from + i)) (ltb (from + i) end) e in
    let low = leb-true other (from + i) parts.0 in
    let high = ltb-true (from + i) end parts.1 in
    elim (or_cases (leb to other) (leb end from) h) [
      | inl before ↦ let b = leb-true to other before in absurd (omega arith)
      | inr behind ↦ let b = leb-true end from behind in absurd (omega arith)
    ])

second : (a b c d : Bool) → (a && (b && (c && d))) ≡ true → b ≡ true
second true true c d h = refl
second true false c d h = absurd (true≢false (sym h))
second false b c d h = absurd (true≢false (sym h))

-- a layout that is clear of a section: its public part and the section's private part are apart
private_apart : (l : Layout) (s : Section) → clear_of l s ≡ true → apart l.pub_from l.pub_to s.layout.priv_from s.layout.priv_to ≡ true
private_apart l s h =
    second (apart l.pub_from l.pub_to s.layout.pub_from s.layout.pub_to) (apart l.pub_from l.pub_to s.layout.priv_from s.layout.priv_to)
    (apart l.priv_from l.priv_to s.layout.pub_from s.layout.pub_to) (apart l.priv_from l.priv_to s.layout.priv_from s.layout.priv_to) h

-- the public section of a layout that no rule refuses may be read, whatever code runs
pub admitted_readable : (t : Sections) (own : ℕ) (l : Layout) (places : List ℕ) → refusal t l places ≡ None
    → may_range t.live own Read l.pub_from (l.pub_to - l.pub_from) ≡ true
unfolding may
admitted_readable t own l places h =
    let clear = (and_parts (parts_apart l) (list_all (clear_of l) t.live) (admits t l places h).overlap).1 in
    all_open t.live own Read l.pub_from (l.pub_to - l.pub_from) (λ i below.
    all_weaker (clear_of l) (allows own Read (l.pub_from + i))
    (λ s e.
    unless_true (in_private s (l.pub_from + i)) (own == s.id)
    (part_apart l.pub_from l.pub_to s.layout.priv_from s.layout.priv_to i (private_apart l s e) below)) t.live clear)
