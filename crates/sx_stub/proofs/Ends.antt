-- Which end a packet is for, as the cases find it.
use Rattle.std.proofs.Common.{◌≡◌, ◌≢◌, ℕ, suc, ◌+◌, ◌*◌, ◌%◌, ◌<◌, ◌≤◌, ◌⊎◌, inl, inr, Bool, true, false, ◌&&◌, ◌==◌, List, [], ◌∷◌, ◌++◌, length, Option, Some, None, refl, sym, ap, ◌∙◌, subst, arith}
use Rattle.std.specs.Prelude.{if◌then◌else◌, bit_and, nat_lt, All}
use Rattle.std.proofs.lemmas.Bool.{lt-ltb, eq-eqb, ne_eqb, and_right}
use Rattle.std.proofs.lemmas.Bool.Decides.{eqb_tells}
use Rattle.sx_lang.specs.declared.sides.Side.{Side}
use Rattle.sx_lang.specs.declared.sides.Side.TheVariants.{From, To}
use Rattle.sx_mean.specs.declared.events.End.{End}
use Rattle.sx_mean.specs.Ends.{same_side}
use Rattle.sx_mean.specs.Offsets.{end_at}
use Rattle.spec_machine.specs.Memory.{word}
use Rattle.spec_invocation.specs.Entries.{end_is, end_found}
use Rattle.sx_ir.specs.Meaning.{element, is_shown, is_shown_element}
use Rattle.sx_ir.specs.declared.ir.IrOp.TheVariants as op
use Rattle.sx_ir.specs.declared.ir.Ir.{Ir}
use Rattle.sx_ir.specs.declared.ir.Ir.TheVariants as ir
use Rattle.sx_ir.proofs.Shown.{element_shown, slot_shown}
use Rattle.spec_invocation.specs.Setup.{Setup}
use Rattle.sx_stub.specs.Stub.{Cases, find_any, is_to, slot_word}
use Rattle.sx_stub.proofs.Straight.{after_pure, pure}
use Rattle.sx_stub.proofs.Chain.{found_by, case_test}
use Rattle.lemmas.specs.Truth.{truth}

abbrev pub FewLinks : List End → Type 0
FewLinks es = All (λ e. e.link < 256) es

-- the cases' test is the protocol's
pub found_same : (t : ℕ → End → Bool) (link : ℕ) (side : Side) (es : List End) (k : ℕ) → FewLinks es
    → ((j : ℕ) (e : End) → e.link < 256 → t j e ≡ end_is link side e) → found_by t k es ≡ end_found link side k es
found_same t link side [] k few same = refl
found_same t link side (e ∷ es) k few same =
    ap (λ (b : Bool). if b then Some (k, e) else found_by t (k + 1) es) (same k e (few 0 e (omega arith)))
    ∙ ap (λ (x : Option (ℕ × End)). if end_is link side e then Some (k, e) else x) (found_same t link side es (k + 1) (λ i d p. few (suc i) d (omega (arith, p))) same)

eq_link : (a b x y : ℕ) → a < 256 → b < 256 → (a + 256 * x == b + 256 * y) ≡ ((b == a) && (x == y))
eq_link a b x y p q = go (eqb_tells (a + 256 * x) (b + 256 * y)) (eqb_tells b a) (eqb_tells x y)
  where
    go : ((a + 256 * x == b + 256 * y) ≡ true × (a + 256 * x ≡ b + 256 * y)) ⊎ ((a + 256 * x == b + 256 * y) ≡ false × (a + 256 * x ≢ b + 256 * y))
        → ((b == a) ≡ true × (b ≡ a)) ⊎ ((b == a) ≡ false × (b ≢ a))
        → ((x == y) ≡ true × (x ≡ y)) ⊎ ((x == y) ≡ false × (x ≢ y))
        → (a + 256 * x == b + 256 * y) ≡ ((b == a) && (x == y))
    go (inl h) (inl f) (inl g) = rw (h.0, f.0, g.0) refl
    go (inl h) (inl f) (inr g) = absurd (g.1 (omega (arith, h.1, f.1)))
    go (inl h) (inr f) g = absurd (f.1 (omega (arith, h.1, p, q)))
    go (inr h) (inl f) (inl g) = absurd (h.1 (omega (arith, f.1, g.1)))
    go (inr h) (inl f) (inr g) = rw (h.0, f.0, g.0) refl
    go (inr h) (inr f) g = rw (h.0, f.0) refl

same_sides : (a b : Side) → (truth (is_to a) == truth (is_to b)) ≡ same_side a b
same_sides From From = refl
same_sides From To = refl
same_sides To From = refl
same_sides To To = refl

-- set-key: the connection's number and the side
pub any_same : (found link : ℕ) (side : Side) (es : List End) → FewLinks es → link < 256
    → found_by (case_test (find_any found) (link + 256 * truth (is_to side))) 0 es ≡ end_found link side 0 es
any_same found link side es few lt =
    found_same (case_test (find_any found) (link + 256 * truth (is_to side))) link side es 0 few (λ j e p. eq_link link e.link (truth (is_to side)) (truth (is_to e.side)) lt p
    ∙ ap (λ (b : Bool). (e.link == link) && b) (same_sides side e.side))

-- what is found has a place among the ends, and passes the test
abbrev Passes : (ℕ → End → Bool) → ℕ → ℕ → Option (ℕ × End) → Type 0
Passes t k n None = Unit {0}
Passes t k n (Some x) = (k ≤ x.0) × (x.0 < k + n) × (t x.0 x.1 ≡ true)

found_passes : (t : ℕ → End → Bool) (es : List End) (k : ℕ) → Passes t k (length es) (found_by t k es)
found_passes t [] k = tt
found_passes t (e ∷ es) k = go (t k e) refl (found_by t (k + 1) es) (found_passes t es (k + 1))
  where
    go : (b : Bool) → t k e ≡ b → (r : Option (ℕ × End)) → Passes t (k + 1) (length es) r
        → Passes t k (length (e ∷ es)) (if b then Some (k, e) else r)
    go true h r q = (omega arith, omega arith, h)
    go false h None q = tt
    go false h (Some x) q = (omega (arith, q.0), omega (arith, q.1), q.2)

pub found_in : (t : ℕ → End → Bool) (es : List End) (k j : ℕ) (e : End) → found_by t k es ≡ Some (j, e)
    → (k ≤ j) × (j < k + length es) × (t j e ≡ true)
found_in t es k j e h = subst (Passes t k (length es)) h (found_passes t es k)

-- The end that was found is found again by 12 times its place.
pub index_found : (t : ℕ → End → Bool) (cs : Cases) (es : List End) (k j : ℕ) (e : End) → FewLinks es
    → ((i : ℕ) (d : End) → cs.number i d ≡ 12 * i) → ((i : ℕ) (d : End) → d.link < 256 → t i d ≡ true → cs.has d ≡ true)
    → found_by t k es ≡ Some (j, e) → found_by (case_test cs (12 * j)) k es ≡ Some (j, e)
index_found t cs [] k j e few number has h = h
index_found t cs (d ∷ es) k j e few number has h = go (t k d) refl h (λ h. index_found t cs es (k + 1) j e (λ i x p. few (suc i) x (omega (arith, p))) number has h)
    (λ h. (found_in t es (k + 1) j e h).0)
  where
    some_pair : (a b : ℕ) (x y : End) → ◌≡◌ {A = Option (ℕ × End)} (Some (a, x)) (Some (b, y)) → (a ≡ b)
    some_pair a b x y h = ap (λ (o : Option (ℕ × End)). place o) h
      where
        place : Option (ℕ × End) → ℕ
        place None = 0
        place (Some x) = x.0

    other : (i : ℕ) → k + 1 ≤ i → (12 * i == 12 * k) ≡ false
    other i le = ne_eqb (12 * i) (12 * k) (omega (arith, le))

    go : (b : Bool) → t k d ≡ b → (if b then Some (k, d) else found_by t (k + 1) es) ≡ Some (j, e)
        → (found_by t (k + 1) es ≡ Some (j, e) → found_by (case_test cs (12 * j)) (k + 1) es ≡ Some (j, e))
        → (found_by t (k + 1) es ≡ Some (j, e) → k + 1 ≤ j) → found_by (case_test cs (12 * j)) k (d ∷ es) ≡ Some (j, e)
    go true x h again le =
        let same = some_pair k j d e h in
        let pass : case_test cs (12 * j) k d ≡ true = ap (λ (b : Bool). b && (12 * j == cs.number k d)) (has k d (few 0 d (omega arith)) x) ∙ ap (λ (v : ℕ). 12 * j == v) (number k d)
        ∙ eq-eqb (12 * j) (12 * k) (omega (arith, same)) in
        rw pass h
    go false x h again le =
        let miss : case_test cs (12 * j) k d ≡ false = ap (λ (v : ℕ). cs.has d && (12 * j == v)) (number k d) ∙ ap (λ (b : Bool). cs.has d && b) (other j (le h)) ∙ and_right (cs.has d) false refl in
        rw miss (again h)

-- a word of a slot, by the end's place
slot_value : (priv : List ℕ) (ends j n : ℕ) → ends ≤ 16 → j < ends → n ≤ 2
    → element priv 512 (12 * ends) ((12 * j + n) % 65536) ≡ word priv (end_at j + 2 * n)
slot_value priv ends j n few lt le =
    let i : (12 * j + n) % 65536 ≡ 12 * j + n = omega (arith, few, lt, le) in
    ap (element priv 512 (12 * ends)) i
    ∙ ap (λ (b : Bool). if b then word priv (512 + 2 * (12 * j + n)) else 0) (lt-ltb (12 * j + n) (12 * ends) (omega (arith, lt, le)))
    ∙ ap (word priv) (omega arith)

-- the code that puts a word of the slot of the end that was found on the stack
pub slot_pure : (s : Setup) (priv : List ℕ) (ends j n : ℕ) (rest : List Ir) (stack : List ℕ) → ends ≤ 16 → j < ends → n ≤ 2 → word priv 74 ≡ 12 * j
    → nat_lt (length stack) 160 ≡ true → nat_lt (suc (length stack)) 160 ≡ true
    → pure s priv (slot_word ends n ++ rest) stack ≡ pure s priv rest (word priv (end_at j + 2 * n) ∷ stack)
slot_pure s priv ends j n rest stack few lt le index room more =
    let i = (word priv 74 + n) % 65536 in
    let load = ir.LoadAt 512 (12 * ends) ∷ rest in
    let add = ir.Op op.Add ∷ load in
    let is : i ≡ 12 * j + n = ap (λ (x : ℕ). (x + n) % 65536) index ∙ omega (arith, few, lt, le) in
    let at : 512 + 2 * i ≡ end_at j + 2 * n = omega (arith, is) in
    let shown : is_shown_element (length s.ends) 512 (12 * ends) i ≡ true = element_shown (length s.ends) 512 (12 * ends) i
    (subst (λ (o : ℕ). is_shown (length s.ends) o 2 ≡ true) (sym at) (slot_shown (length s.ends) j (2 * n) 2 (omega (arith, le)))) in
    ap (λ (b : Bool). after_pure (if b then Some (word priv 74 ∷ stack) else None) (pure s priv (ir.Push n ∷ add))) room
    ∙ ap (λ (b : Bool). after_pure (if b then Some (n ∷ word priv 74 ∷ stack) else None) (pure s priv add)) more
    ∙ ap (λ (b : Bool). after_pure (if b then Some (element priv 512 (12 * ends) i ∷ stack) else None) (pure s priv rest)) shown
    ∙ ap (λ (v : ℕ). pure s priv rest (v ∷ stack)) (ap (λ (x : ℕ). element priv 512 (12 * ends) ((x + n) % 65536)) index ∙ slot_value priv ends j n few lt le)

pub and_truth : (a b : Bool) → bit_and (truth a) (truth b) ≡ truth (a && b)
and_truth true true = refl
and_truth true false = refl
and_truth false true = refl
and_truth false false = refl
