-- The marks of vacant pages: those that sections leave, of which devices take theirs.
use Rattle.std.proofs.Common.{◌≡◌, ◌⊎◌, ℕ, ◌+◌, ◌-◌, ◌/◌, ◌==◌, ◌<◌, Bool, true, false, ◌&&◌, ◌||◌, not, nat_lt, List, [], length, drop, get_or, set}
use Rattle.std.proofs.Common.{refl, sym, ap, ◌∙◌, inl, inr, arith}
use Rattle.std.proofs.lemmas.Bool.{cases_eq, eq-eqb, ne_eqb, lt-ltb, and_left, and_right, not_from_true}
use Rattle.std.proofs.lemmas.List.{get_or-set_same, get_or-set_other, length-set, at_drop_more}
use Rattle.sx_rules.specs.declared.section.Section.{Section}
use Rattle.sx_rules.specs.Pages.{is_open}
use Rattle.sx_bus.specs.Windows.{has_place}
use Rattle.sx_executor.specs.Occupancy.{is_vacant}
use Rattle.sx_executor.proofs.Reach.{and_swap}

-- a place is on the page or on the next one, so the mark is taken
taken : (v : Bool) (a page : ℕ) → (a ≡ page) ⊎ (a ≡ page + 1) → false ≡ (v && (not (a == page) && not (a == page + 1)))
taken v a page (inl e) = sym (and_right v _ (and_left (not (a == page)) (not (a == page + 1)) (not_from_true (a == page) (eq-eqb a page e))))
taken v a page (inr e) = sym (and_right v _ (and_right (not (a == page)) (not (a == page + 1)) (not_from_true (a == page + 1) (eq-eqb a (page + 1) e))))

kept : (v : Bool) (e f : Bool) → e ≡ false → f ≡ false → v ≡ (v && (not e && not f))
kept true e f a b = sym (ap (λ (x : Bool). not x && not f) a ∙ ap (λ (x : Bool). not x) b)
kept false e f a b = refl

-- two marks are taken, that of a page and that of the one before
pub unmarked : (marks : List Bool) (a b page : ℕ) → length marks ≡ 256 → a < 256 → b ≡ a - 1
    → get_or (set (set marks a false) b false) page false ≡ (get_or marks page false && (not (a == page) && not (a == page + 1)))
unmarked marks a b page long small before = elim (cases_eq page b) [
  | inl same ↦ ap (λ (k : ℕ). get_or (set (set marks a false) b false) k false) same
      ∙ get_or-set_same (set marks a false) b false false (omega (arith, length-set marks a false, long, before))
      ∙ taken (get_or marks page false) a page (elim (cases_eq a page) [
        | inl e ↦ inl e
        | inr n ↦ inr (first_of (omega (arith, n, same, before), grind (arith, n, same, before)))
      ])
  | inr other ↦ get_or-set_other (set marks a false) b page false false other ∙ elim (cases_eq page a) [
    | inl same ↦ ap (λ (k : ℕ). get_or (set marks a false) k false) same ∙ get_or-set_same marks a false false (omega (arith, long))
        ∙ taken (get_or marks page false) a page (inl (sym same))
    | inr away ↦ get_or-set_other marks a page false false away
        ∙ kept (get_or marks page false) (a == page) (a == page + 1) (ne_eqb a page (λ e. away (sym e)))
        (ne_eqb a (page + 1) (λ e. other (omega (arith, e, before))))
  ]
]

turned : (v e f h k : Bool) → ((v && (not e && not f)) && (not h && not k)) ≡ (v && (not (e || h) && not (f || k)))
turned false e f h k = refl
turned true true f h k = refl
turned true false true true k = refl
turned true false true false k = refl
turned true false false h k = refl

-- a turn of the loop over the places
pub turn : (new old : Bool) (places : List ℕ) (i page place : ℕ) → i < length places → place ≡ get_or places i place
    → new ≡ (old && (not (place / 256 == page) && not (place / 256 == page + 1)))
    → (new && (not (has_place page (drop (i + 1) places)) && not (has_place (page + 1) (drop (i + 1) places))))
    ≡ (old && (not (has_place page (drop i places)) && not (has_place (page + 1) (drop i places))))
turn new old places i page place lt is e =
    let rest = drop (i + 1) places in
    let first : has_place page (drop i places) ≡ (place / 256 == page || has_place page rest) =
    at_drop_more (has_place page) places i place lt ∙ ap (λ (p : ℕ). p / 256 == page || has_place page rest) (sym is) in
    let second : has_place (page + 1) (drop i places) ≡ (place / 256 == page + 1 || has_place (page + 1) rest) =
    at_drop_more (has_place (page + 1)) places i place lt ∙ ap (λ (p : ℕ). p / 256 == page + 1 || has_place (page + 1) rest) (sym is) in
    ap (λ (b : Bool). b && (not (has_place page rest) && not (has_place (page + 1) rest))) e
    ∙ turned old (place / 256 == page) (place / 256 == page + 1) (has_place page rest) (has_place (page + 1) rest)
    ∙ sym (ap (λ (b : Bool). old && (not b && not (has_place (page + 1) (drop i places)))) first
    ∙ ap (λ (b : Bool). old && (not (place / 256 == page || has_place page rest) && not b)) second)

parted : (n o m p a b : Bool) → (((n && (o && true)) && (m && (p && true))) && (a && b)) ≡ ((n && (o && a)) && (m && (p && b)))
parted false o m p a b = refl
parted true false m p a b = refl
parted true true false p true b = refl
parted true true false p false b = refl
parted true true true false true b = refl
parted true true true false false b = refl
parted true true true true a b = refl

-- a page is vacant if it is beside the sections alone, and no device is on it nor on the next one
pub beside : (live : List Section) (places : List ℕ) (page : ℕ)
    → (is_vacant live [] page && (not (has_place page places) && not (has_place (page + 1) places))) ≡ is_vacant live places page
unfolding is_vacant
beside live places page =
    parted (nat_lt page 256) (is_open live page) (nat_lt (page + 1) 256) (is_open live (page + 1)) (not (has_place page places)) (not (has_place (page + 1) places))

-- a page is vacant beside devices alone if it has a next one, and none is on either
pub beside_devices : (places : List ℕ) (page : ℕ) → page < 256
    → is_vacant [] places page ≡ (nat_lt (page + 1) 256 && (not (has_place page places) && not (has_place (page + 1) places)))
unfolding is_vacant
beside_devices places page h =
    let a = not (has_place page places) in let b = not (has_place (page + 1) places) in
    ap (λ (x : Bool). (x && a) && (nat_lt (page + 1) 256 && b)) (lt-ltb page 256 h) ∙ and_swap a (nat_lt (page + 1) 256) b
