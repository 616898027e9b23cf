-- Places that hold no key of the module's ends, and those that are in no slot.
use Rattle.std.proofs.Common.{◌≡◌, ℕ, ◌+◌, ◌-◌, ◌*◌, ◌%◌, ◌<◌, ◌≤◌, Bool, true, false, List, [], ◌∷◌, ◌++◌, nat_le, nat_lt, ap, arith}
use Rattle.std.specs.Prelude.{◌==◌, ◌||◌, not}
use Rattle.std.proofs.lemmas.Bool.{and_from, eq-eqb, le-leb, lt-ltb, ne_eqb, not_from_false, or_from, or_left, or_parts, or_right}
use Rattle.sx_mean.specs.Offsets.{end_at, end_key_at, end_number_at}
use Rattle.sx_ir.specs.Meaning.{has_key_mark, is_body_place, is_key_mark, is_key_place, is_shown, is_shown_element, spares_slots}
use Rattle.spec_invocation.specs.Marks.{Mark}

-- after the copied packet's plain body, and before the key of the first slot
pub middle_shown : (ends o n : ℕ) → 72 ≤ o → o + n ≤ 520 → is_shown ends o n ≡ true
middle_shown ends o n from to =
    and_from _ _ (or_right (nat_le (o + n) 56) (nat_le 72 o) (le-leb 72 o from))
    (or_left (nat_le (o + n) 520) _ (le-leb (o + n) 520 to))

-- after the slots
pub cell_shown : (ends o n : ℕ) → end_at ends ≤ o → is_shown ends o n ≡ true
cell_shown ends o n from =
    and_from _ _ (or_right (nat_le (o + n) 56) (nat_le 72 o) (le-leb 72 o (omega (arith, from))))
    (or_right (nat_le (o + n) 520) _ (or_left (nat_le (end_at ends) o) _ (le-leb (end_at ends) o from)))

-- in the first 8 bytes of a slot
pub slot_shown : (ends k d n : ℕ) → d + n ≤ 8 → is_shown ends (end_at k + d) n ≡ true
slot_shown ends k d n few =
    let o = end_at k + d in
    and_from _ _ (or_right (nat_le (o + n) 56) (nat_le 72 o) (le-leb 72 o (omega arith)))
    (or_right (nat_le (o + n) 520) _ (or_right (nat_le (end_at ends) o) _ (le-leb ((o - 512) % 24 + n) 8 (omega (arith, few)))))

pub element_shown : (ends o n i : ℕ) → is_shown ends (o + 2 * i) 2 ≡ true → is_shown_element ends o n i ≡ true
element_shown ends o n i e = or_right (not (nat_lt i n)) (is_shown ends (o + 2 * i) 2) e

-- the key in a slot
pub slot_key : (ends k : ℕ) → k < ends → is_key_place ends (end_key_at k) ≡ true
slot_key ends k one =
    let o = end_key_at k in
    or_right (o == 0) _ (and_from _ _ (le-leb 520 o (omega arith))
    (and_from _ _ (lt-ltb o (end_at ends) (omega (arith, one))) (eq-eqb ((o - 520) % 24) 0 (omega arith))))

-- what is unwrapped under a slot's key may go anywhere
pub slot_body : (k b bn : ℕ) → 0 < k → is_body_place k b bn ≡ true
slot_body k b bn other = or_left (not (k == 0)) _ (not_from_false (k == 0) (ne_eqb k 0 (omega (arith, other))))

-- before the slots
pub low_spared : (ends o n : ℕ) → o + n ≤ 512 → spares_slots ends o n ≡ true
low_spared ends o n to = or_left (nat_le (o + n) 512) _ (le-leb (o + n) 512 to)

-- after them
pub cell_spared : (ends o n : ℕ) → end_at ends ≤ o → spares_slots ends o n ≡ true
cell_spared ends o n from = or_right (nat_le (o + n) 512) _ (or_left (nat_le (end_at ends) o) _ (le-leb (end_at ends) o from))

-- the number in a slot
pub number_spared : (ends k : ℕ) → spares_slots ends (end_number_at k) 2 ≡ true
number_spared ends k =
    let o = end_number_at k in
    or_right (nat_le (o + 2) 512) _ (or_right (nat_le (end_at ends) o) _ (and_from _ _ (eq-eqb ((o - 512) % 24) 2 (omega arith)) (le-leb 2 2 (omega arith))))

-- marks that no key follows
pub unkeyed_more : (marks : List Mark) (m : Mark) → has_key_mark marks ≡ false → is_key_mark m ≡ false → has_key_mark (marks ++ m ∷ []) ≡ false
unkeyed_more [] m e none = ap (λ (b : Bool). b || false) none
unkeyed_more (x ∷ marks) m e none =
    let both = or_parts (is_key_mark x) (has_key_mark marks) e in
    or_from (is_key_mark x) (has_key_mark (marks ++ m ∷ [])) both.0 (unkeyed_more marks m both.1 none)
