-- The bytes of a packet that is read, and where they were.
use Rattle.std.proofs.Common.{◌≡◌, ℕ, zero, suc, ◌+◌, ◌-◌, ◌<◌, ◌≤◌, ◌==◌, ◌⊎◌, inl, inr, Bool, true, false, ◌&&◌, ◌||◌, not, if◌then◌else◌, List, [], ◌∷◌}
use Rattle.std.proofs.Common.{length, drop, slice_index, Option, Some, Result, Ok, Err, refl, sym, ◌∙◌, ap, ap₂, subst, arith}
use Rattle.std.specs.Prelude.{nat_lt}
use Rattle.std.proofs.lemmas.Bool.{and_parts, eqb-true, true≢false, or_parts}
use Rattle.std.proofs.lemmas.Bool.Decides.{nat_tests}
use Rattle.sx_rules.specs.declared.section.Section.{Section}
use Rattle.sx_rules.specs.Access.{Sections, Lives, in_private, allows, section_of}
use Rattle.sx_rules.specs.declared.section.Layout.{Layout}
use Rattle.sx_rules.specs.Admission.{good_bounds, is_even}
use Rattle.sx_rules.specs.Placed.{Placed}
use Rattle.sx_rules.proofs.Placing.{placed_found}
use Rattle.spec_machine.specs.Ranges.{meets, meets_private, passes_end}
use Rattle.spec_machine.proofs.PlanGuard.{passes}
use Rattle.sx_rules.specs.declared.access.Violation.{Violation}
use Rattle.sx_rules.specs.declared.access.Violation.TheVariants as bad
use Rattle.sx_rules.specs.declared.access.Access.TheVariants.{Read}
use Rattle.sx_rules.specs.Access.{may}
use Rattle.sx_bus.specs.declared.devices.Window.{Window}
use Rattle.sx_bus.specs.Devices.{device_at}
use Rattle.spec_machine.specs.Memory.{bytes_from}
use Rattle.spec_machine.proofs.Frame.{none_pass, lives_sound}
use Rattle.spec_machine.proofs.BytesFrom.{bytes_first}
use Rattle.spec_invocation.specs.Setup.{Setup}
use Rattle.spec_invocation.specs.Windows.{read_byte, read_bytes, unless_device, then_}
use Rattle.spec_run.proofs.steps.Story.{bound_bytes}

-- The bytes that were read were in memory.

-- n bytes from an address on, the first one first
abbrev front : List ℕ → ℕ → ℕ → List ℕ
front mem at zero = []
front mem at (suc n) = slice_index mem at ∷ front mem (at + 1) n

read_is : (s : Setup) (devices : List Window) (mem : List ℕ) (at b : ℕ) → read_byte s devices mem at ≡ Ok b → b ≡ slice_index mem at
unfolding read_byte
read_is s devices mem at b e = by (may s.live s.section.id Read at) e
  where
    by : (t : Bool) → (if t then unless_device (device_at devices at) (slice_index mem at) else Err bad.Read) ≡ Ok b → b ≡ slice_index mem at
    by true e = sym (bound_bytes at (device_at devices at) (slice_index mem at) b e)
    by false e = absurd cc

pub read_front : (s : Setup) (devices : List Window) (mem : List ℕ) (n at : ℕ) (bs : List ℕ) → read_bytes s devices mem at n ≡ Ok bs → bs ≡ front mem at n
unfolding read_bytes
read_front s devices mem zero at bs e = cc
read_front s devices mem (suc n) at bs e = first (read_byte s devices mem at) refl (read_bytes s devices mem (at + 1) n) (read_front s devices mem n (at + 1)) e
  where
    same : (a b : List ℕ) → ◌≡◌ {A = Result (List ℕ) Violation} (Ok a) (Ok b) → b ≡ a
    same a b e = cc

    last : (b : ℕ) → b ≡ slice_index mem at → (r : Result (List ℕ) Violation) → ((xs : List ℕ) → r ≡ Ok xs → xs ≡ front mem (at + 1) n)
        → then_ r (λ xs. Ok (b ∷ xs)) ≡ Ok bs → bs ≡ front mem at (suc n)
    last b is (Err v) f e = absurd cc
    last b is (Ok xs) f e = same (b ∷ xs) bs e ∙ ap₂ (λ (x : ℕ) (l : List ℕ). x ∷ l) is (f xs refl)

    first : (r : Result ℕ Violation) → read_byte s devices mem at ≡ r → (r2 : Result (List ℕ) Violation) → ((xs : List ℕ) → r2 ≡ Ok xs → xs ≡ front mem (at + 1) n)
        → then_ r (λ b. then_ r2 (λ xs. Ok (b ∷ xs))) ≡ Ok bs → bs ≡ front mem at (suc n)
    first (Err v) q r2 f e = absurd cc
    first (Ok b) q r2 f e = last b (read_is s devices mem at b q) r2 f e

front_is : (mem : List ℕ) (n at : ℕ) → front mem at n ≡ bytes_from mem at n
unfolding bytes_from
front_is mem zero at = refl
front_is mem (suc n) at = ap (λ (bs : List ℕ). slice_index mem at ∷ bs) (front_is mem n (at + 1)) ∙ bytes_first mem at n

drop_front : (mem : List ℕ) (k n at : ℕ) → drop k (front mem at (k + n)) ≡ front mem (at + k) n
drop_front mem zero n at =
    let e : 0 + n ≡ n = omega arith in
    let f : at ≡ at + 0 = omega arith in
    ap (front mem at) e ∙ ap (λ (i : ℕ). front mem i n) f
drop_front mem (suc k) n at =
    let e : suc k + n ≡ suc (k + n) = omega arith in
    let f : at + 1 + k ≡ at + suc k = omega arith in
    ap (λ (i : ℕ). drop (suc k) (front mem at i)) e ∙ drop_front mem k n (at + 1) ∙ ap (λ (i : ℕ). front mem i n) f

-- the last bytes of what was read
pub tail_stands : (s : Setup) (devices : List Window) (mem : List ℕ) (k n at : ℕ) (bs : List ℕ) → read_bytes s devices mem at (k + n) ≡ Ok bs → bytes_from mem (at + k) n ≡ drop k bs
tail_stands s devices mem k n at bs e =
    sym (ap (drop k) (read_front s devices mem (k + n) at bs e) ∙ drop_front mem k n at ∙ front_is mem n (at + k))

front_long : (mem : List ℕ) (n at : ℕ) → length (front mem at n) ≡ n
front_long mem zero at = refl
front_long mem (suc n) at = ap suc (front_long mem n (at + 1))

pub read_long : (s : Setup) (devices : List Window) (mem : List ℕ) (n at : ℕ) (bs : List ℕ) → read_bytes s devices mem at n ≡ Ok bs → length bs ≡ n
read_long s devices mem n at bs e = ap length (read_front s devices mem n at bs e) ∙ front_long mem n at

-- What is read is outside all private sections but the module's own, and the window outside this.

allowed_one : (s : Setup) (devices : List Window) (mem : List ℕ) (at b : ℕ) → read_byte s devices mem at ≡ Ok b → may s.live s.section.id Read at ≡ true
unfolding read_byte
allowed_one s devices mem at b e = by (may s.live s.section.id Read at) e
  where
    by : (t : Bool) → (if t then unless_device (device_at devices at) (slice_index mem at) else Err bad.Read) ≡ Ok b → t ≡ true
    by true e = refl
    by false e = absurd cc

read_allowed : (s : Setup) (devices : List Window) (mem : List ℕ) (n at : ℕ) (bs : List ℕ) → read_bytes s devices mem at n ≡ Ok bs → (i : ℕ) → i < n → may s.live s.section.id Read (at + i) ≡ true
unfolding read_bytes
read_allowed s devices mem zero at bs e i lt = absurd (omega (arith, lt))
read_allowed s devices mem (suc n) at bs e i lt = first (read_byte s devices mem at) refl (read_bytes s devices mem (at + 1) n) (read_allowed s devices mem n (at + 1)) e i lt
  where
    here : (b : ℕ) → read_byte s devices mem at ≡ Ok b → (r : Result (List ℕ) Violation) → ((xs : List ℕ) → r ≡ Ok xs → (j : ℕ) → j < n → may s.live s.section.id Read (at + 1 + j) ≡ true)
        → then_ r (λ xs. Ok (b ∷ xs)) ≡ Ok bs → (i : ℕ) → i < suc n → may s.live s.section.id Read (at + i) ≡ true
    here b q (Err v) f e i lt = absurd cc
    here b q (Ok xs) f e zero lt = let z : at ≡ at + 0 = omega arith in subst (λ (k : ℕ). may s.live s.section.id Read k ≡ true) z (allowed_one s devices mem at b q)
    here b q (Ok xs) f e (suc j) lt = let z : at + 1 + j ≡ at + suc j = omega arith in subst (λ (k : ℕ). may s.live s.section.id Read k ≡ true) z (f xs refl j (omega (arith, lt)))

    first : (r : Result ℕ Violation) → read_byte s devices mem at ≡ r → (r2 : Result (List ℕ) Violation)
        → ((xs : List ℕ) → r2 ≡ Ok xs → (j : ℕ) → j < n → may s.live s.section.id Read (at + 1 + j) ≡ true)
        → then_ r (λ b. then_ r2 (λ xs. Ok (b ∷ xs))) ≡ Ok bs → (i : ℕ) → i < suc n → may s.live s.section.id Read (at + i) ≡ true
    first (Err v) q r2 f e i lt = absurd cc
    first (Ok b) q r2 f e i lt = here b q r2 f e i lt

-- a stretch of a window meets nothing that the window doesn't meet
meets_part : (at k n all from to : ℕ) → k + n ≤ all → meets at all from to ≡ false → meets (at + k) n from to ≡ false
meets_part at k n all from to le h = grind (arith, nat_tests, le, h)

low_or_high : (a b : ℕ) → (b ≤ a) ⊎ (a < b)
low_or_high a b = grind arith

-- it meets no part of a section whose bytes are all apart from it
meets_none : (x : Section) (at n : ℕ) → x.layout.priv_from < x.layout.priv_to → ((i : ℕ) → i < n → in_private x (at + i) ≡ false) → meets at n x.layout.priv_from x.layout.priv_to ≡ false
meets_none x at n wide apart = by (meets at n x.layout.priv_from x.layout.priv_to) refl
  where
    by : (b : Bool) → meets at n x.layout.priv_from x.layout.priv_to ≡ b → meets at n x.layout.priv_from x.layout.priv_to ≡ false
    by false e = e
    by true e = elim (low_or_high at x.layout.priv_from) [
      | inl low ↦
          let first = apart 0 (let z : (0 < n) = grind (arith, nat_tests, e) in z) in
          let z : at + 0 ≡ at = omega arith in
          let none = subst (λ (k : ℕ). in_private x k ≡ false) z first in
          absurd (grind (arith, nat_tests, e, low, none))
      | inr high ↦
          let i = x.layout.priv_from - at in
          let lt : i < n = grind (arith, nat_tests, e, high) in
          let z : at + i ≡ x.layout.priv_from = omega (arith, high) in
          let none = subst (λ (k : ℕ). in_private x k ≡ false) z (apart i lt) in
          absurd (grind (arith, nat_tests, e, high, none, wide))
    ]

wide_of : (l : Layout) → good_bounds l ≡ true → l.priv_from < l.priv_to
wide_of l h =
    let more = (and_parts (nat_lt l.pub_from l.pub_to) (nat_lt l.priv_from l.priv_to && (is_even l.pub_from && (is_even l.pub_to && (is_even l.priv_from && is_even l.priv_to)))) h).1 in
    let lt = (and_parts (nat_lt l.priv_from l.priv_to) (is_even l.pub_from && (is_even l.pub_to && (is_even l.priv_from && is_even l.priv_to))) more).0 in
    grind (arith, nat_tests, lt)

-- the part of a window from k on, of n bytes, meets no private section
pub window_outside : (s : Setup) (t : Sections) (devices : List Window) (mem : List ℕ) (k n all at : ℕ) (bs : List ℕ) → Placed t → s.live ≡ t.live → Lives t.live s.section
    → k + n ≤ all → (passes_end at all || meets at all s.section.layout.priv_from s.section.layout.priv_to) ≡ false
    → read_bytes s devices mem at (k + n) ≡ Ok bs → meets_private t.live (at + k) n ≡ false
unfolding may
window_outside s t devices mem k n all at bs placed live own le window read =
    none_pass (λ x. meets (at + k) n x.layout.priv_from x.layout.priv_to) t.live each
  where
    same : (x : Section) → Lives t.live x → x.id ≡ s.section.id → s.section ≡ x
    same x l e = some_same s.section x (sym (placed_found t s.section placed own) ∙ ap (section_of t.live) (sym e) ∙ placed_found t x placed l)
      where
        some_same : (a b : Section) → ◌≡◌ {A = Option Section} (Some a) (Some b) → a ≡ b
        some_same a b e = cc

    apart : (a b : Bool) → (not a || b) ≡ true → b ≡ false → a ≡ false
    apart true true e f = f
    apart true false e f = absurd (true≢false (sym e))
    apart false b e f = refl

    allowed : (a : ℕ) (x : Section) → Lives s.live x → may s.live s.section.id Read a ≡ true → (not (in_private x a) || (s.section.id == x.id)) ≡ true
    allowed a x l e = passes (allows s.section.id Read a) s.live x l e

    each : (x : Section) → Lives t.live x → meets (at + k) n x.layout.priv_from x.layout.priv_to ≡ false
    each x l = by (s.section.id == x.id) refl
      where
        by : (b : Bool) → (s.section.id == x.id) ≡ b → meets (at + k) n x.layout.priv_from x.layout.priv_to ≡ false
        by true e =
            let is = same x l (sym (eqb-true s.section.id x.id e)) in
            subst (λ (y : Section). meets (at + k) n y.layout.priv_from y.layout.priv_to ≡ false) is
            (meets_part at k n all s.section.layout.priv_from s.section.layout.priv_to le (or_parts (passes_end at all) (meets at all s.section.layout.priv_from s.section.layout.priv_to) window).1)
        by false e =
            let wide = wide_of x.layout (lives_sound t.next t.live x placed.each l).bounds in
            meets_none x (at + k) n wide (λ i lt.
            let z : at + (k + i) ≡ at + k + i = omega arith in
            let may_read = subst (λ (a : ℕ). may s.live s.section.id Read a ≡ true) z (read_allowed s devices mem (k + n) at bs read (k + i) (omega (arith, lt))) in
            let one = allowed (at + k + i) x (subst (λ (xs : List Section). Lives xs x) (sym live) l) may_read in
            apart (in_private x (at + k + i)) (s.section.id == x.id) one e)
