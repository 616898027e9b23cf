-- An operation that has a meaning names no byte that may be a key's.
use Rattle.std.proofs.Common.{◌≡◌, ℕ, zero, suc, ◌+◌, ◌-◌, ◌*◌, ◌/◌, ◌%◌, ◌<◌, ◌≤◌, ◌⊎◌, inl, inr, true, List, [], ◌∷◌, nat_le, nat_lt, sym, ◌∙◌, arith}
use Rattle.std.specs.Prelude.{◌==◌, ◌||◌, ◌&&◌, not}
use Rattle.std.proofs.lemmas.Bool.{and_parts, or_cases, cases_lt, eqb-true, leb-true, ltb-true, lt-ltb, not-true, true≢false}
use Rattle.sx_mean.specs.Offsets.{end_at, end_key_at}
use Rattle.sx_ir.specs.declared.ir.Ir.{Ir}
use Rattle.sx_ir.specs.declared.ir.Ir.TheVariants as ir
use Rattle.sx_ir.specs.Meaning.{is_body_place, is_key_place, is_sealed_body, is_shown, is_shown_element, names_no_key}
use Rattle.sx_tmpl.specs.Unseen.{HoldsNoKey, IsKeyPlace, NamesNoKey}

holds_no_key : (ends o n : ℕ) → is_shown ends o n ≡ true → HoldsNoKey ends o n
holds_no_key ends o n e =
    let both = and_parts (nat_le (o + n) 56 || nat_le 72 o) (nat_le (o + n) 520 || (nat_le (end_at ends) o || nat_le ((o - 512) % 24 + n) 8)) e in
    record { plain = body both.0; slots = λ k one. keys k one both.1 }
  where
    body : (nat_le (o + n) 56 || nat_le 72 o) ≡ true → (o + n ≤ 56) ⊎ (72 ≤ o)
    body e = elim (or_cases (nat_le (o + n) 56) (nat_le 72 o) e) [
      | inl below ↦ inl (leb-true (o + n) 56 below)
      | inr above ↦ inr (leb-true 72 o above)
    ]

    at_slot : (k q r : ℕ) → o ≡ end_at q + r → r + n ≤ 8 → (o + n ≤ end_key_at k) ⊎ (end_key_at k + 16 ≤ o)
    at_slot k q r is few = elim (cases_lt k q) [
      | inl before ↦ inr (omega (arith, is, before))
      | inr behind ↦ inl (omega (arith, is, few, behind))
    ]

    in_slot : (k : ℕ) → (o - 512) % 24 + n ≤ 8 → (o + n ≤ end_key_at k) ⊎ (end_key_at k + 16 ≤ o)
    in_slot k few = elim (cases_lt o 512) [
      | inl below ↦ inl (omega (arith, few, below))
      | inr from ↦ at_slot k ((o - 512) / 24) ((o - 512) % 24) (omega (arith, from)) few
    ]

    keys : (k : ℕ) → k < ends → (nat_le (o + n) 520 || (nat_le (end_at ends) o || nat_le ((o - 512) % 24 + n) 8)) ≡ true → (o + n ≤ end_key_at k) ⊎ (end_key_at k + 16 ≤ o)
    keys k one e = elim (or_cases (nat_le (o + n) 520) (nat_le (end_at ends) o || nat_le ((o - 512) % 24 + n) 8) e) [
      | inl below ↦ let le = leb-true (o + n) 520 below in inl (omega (arith, le))
      | inr rest ↦ elim (or_cases (nat_le (end_at ends) o) (nat_le ((o - 512) % 24 + n) 8) rest) [
        | inl above ↦ let le = leb-true (end_at ends) o above in inr (omega (arith, le, one))
        | inr inside ↦ in_slot k (leb-true ((o - 512) % 24 + n) 8 inside)
      ]
    ]

element_shown : (ends o n i : ℕ) → is_shown_element ends o n i ≡ true → i < n → HoldsNoKey ends (o + 2 * i) 2
element_shown ends o n i e lt = elim (or_cases (not (nat_lt i n)) (is_shown ends (o + 2 * i) 2) e) [
  | inl past ↦ absurd (true≢false (sym (lt-ltb i n lt) ∙ not-true (nat_lt i n) past))
  | inr shown ↦ holds_no_key ends (o + 2 * i) 2 shown
]

key_place : (ends k : ℕ) → is_key_place ends k ≡ true → IsKeyPlace ends k
key_place ends k e = elim (or_cases (k == 0) (nat_le 520 k && (nat_lt k (end_at ends) && ((k - 520) % 24 == 0))) e) [
  | inl own ↦ inl (eqb-true k 0 own)
  | inr slot ↦ inr (in_slot slot)
]
  where
    in_slot : (nat_le 520 k && (nat_lt k (end_at ends) && ((k - 520) % 24 == 0))) ≡ true → (j : ℕ) × (j < ends) × (k ≡ end_key_at j)
    in_slot e =
        let outer = and_parts (nat_le 520 k) (nat_lt k (end_at ends) && ((k - 520) % 24 == 0)) e in
        let inner = and_parts (nat_lt k (end_at ends)) ((k - 520) % 24 == 0) outer.1 in
        let from = leb-true 520 k outer.0 in
        let to = ltb-true k (end_at ends) inner.0 in
        let first = eqb-true ((k - 520) % 24) 0 inner.1 in
        let j = (k - 520) / 24 in
        let is : k ≡ end_key_at j = omega (arith, from, first) in
        (j, omega (arith, is, to), is)

body_place : (k b bn : ℕ) → is_body_place k b bn ≡ true → k ≡ 0 → (b ≡ 56) × (bn ≤ 16)
body_place zero b bn e own =
    let both = and_parts (b == 56) (nat_le bn 16) e in
    (eqb-true b 56 both.0, leb-true bn 16 both.1)
body_place (suc k) b bn e own = absurd (omega (arith, own))

sealed_body : (k bn : ℕ) → is_sealed_body k bn ≡ true → k ≡ 0 → bn ≡ 0
sealed_body zero bn e own = eqb-true bn 0 e
sealed_body (suc k) bn e own = absurd (omega (arith, own))

pub names_none : (ends : ℕ) (i : Ir) (stack : List ℕ) → names_no_key ends i stack ≡ true → NamesNoKey ends i stack
names_none ends (ir.Push n) stack e = tt
names_none ends (ir.Load o) stack e = holds_no_key ends o 2 e
names_none ends (ir.Store o) stack e = holds_no_key ends o 2 e
names_none ends (ir.LoadAt o n) [] e = tt
names_none ends (ir.LoadAt o n) (i ∷ rest) e = element_shown ends o n i e
names_none ends (ir.StoreAt o n) [] e = tt
names_none ends (ir.StoreAt o n) (v ∷ []) e = tt
names_none ends (ir.StoreAt o n) (v ∷ i ∷ rest) e = element_shown ends o n i e
names_none ends (ir.Op f) stack e = tt
names_none ends (ir.Jump p) stack e = tt
names_none ends (ir.JumpZero p) stack e = tt
names_none ends (ir.JumpEqual o n p) stack e = holds_no_key ends o 2 e
names_none ends (ir.Packet k) stack e = ltb-true k ends e
names_none ends ir.Drop stack e = tt
names_none ends ir.Emit stack e = tt
names_none ends ir.Stop stack e = tt
names_none ends (ir.Saved r) stack e = tt
names_none ends ir.Inside stack e = tt
names_none ends (ir.Meets r n) stack e = tt
names_none ends (ir.CopyIn n o) stack e = tt
names_none ends (ir.CopyOut n o) stack e = holds_no_key ends o n e
names_none ends (ir.Seal k h hn b bn) stack e =
    let outer = and_parts (is_key_place ends k) (is_sealed_body k bn && (is_shown ends h hn && is_shown ends b bn)) e in
    let middle = and_parts (is_sealed_body k bn) (is_shown ends h hn && is_shown ends b bn) outer.1 in
    let inner = and_parts (is_shown ends h hn) (is_shown ends b bn) middle.1 in
    (key_place ends k outer.0, holds_no_key ends h hn inner.0, holds_no_key ends b bn inner.1, sealed_body k bn middle.0)
names_none ends (ir.Open k h hn b bn) stack e =
    let outer = and_parts (is_key_place ends k) (is_shown ends h (hn + bn + 16) && is_body_place k b bn) e in
    let inner = and_parts (is_shown ends h (hn + bn + 16)) (is_body_place k b bn) outer.1 in
    (key_place ends k outer.0, holds_no_key ends h (hn + bn + 16) inner.0, body_place k b bn inner.1)
names_none ends (ir.SetEnd k) stack e = ltb-true k ends e
names_none ends ir.Sense stack e = tt
names_none ends (ir.Handler h) stack e = tt
names_none ends ir.Leave stack e = tt
