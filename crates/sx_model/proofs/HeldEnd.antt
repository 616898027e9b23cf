-- What holds of an end of a connection, whatever has become of its module.
use Rattle.std.proofs.Common.{◌≡◌, ℕ, ◌+◌, ◌*◌, ◌/◌, ◌%◌, ◌≤◌, inl, inr, ◌==◌, ◌&&◌, ◌||◌, Bool, true, false, if◌then◌else◌, List, [], ◌∷◌, ◌++◌, Option, Some, None, refl, sym, ap, ◌∙◌, subst, arith}
use Rattle.std.specs.Prelude.{is_some, nat_le, slice_get, slice_index}
use Rattle.std.proofs.lemmas.Bool.{and_parts, eqb-true, leb-true, ltb-true, or_cases}
use Rattle.std.proofs.lemmas.List.Folds.{list_any-append}
use Rattle.std.proofs.lemmas.Option.{get_or_from_slice_get, same_Some}
use Rattle.sx_model.specs.State.{Attestation, EndView, Vouched, contains}
use Rattle.sx_model.specs.Renewal.{boot_of, is_below, may_open, opens, takes}
use Rattle.sx_model.specs.Step.{is_vouched}

abbrev pub is_open : Option EndView → Bool
is_open None = false
is_open (Some v) = is_some v.epoch

-- The end opens next in the epoch `next` or a later one, and takes next the number `number` or a higher one. The rest is
-- its node's boot, its connection's epoch, its module's attestation and what that vouched for, and its view while the
-- module is present.
pub record Held (c next number boot epoch : ℕ) (attested : Option Attestation) (vouched : List Vouched) (view : Option EndView) : Type 0 where
  pub low : next ≤ epoch + 1
  pub numbers : number ≤ 65536 * next
  pub unattested : attested ≡ None → next ≡ 0
  pub attested_by : (a : Attestation) → attested ≡ Some a → a.boot ≤ boot
  pub vouched_by : (a b : ℕ) → is_vouched a b vouched ≡ true → b ≤ boot
  pub floor : (a : Attestation) → attested ≡ Some a → a.boot ≡ boot → is_open view ≡ false → next ≤ slice_index a.floors c
  pub opened : (v : EndView) (k : ℕ) → view ≡ Some v → v.epoch ≡ Some k → (next ≡ k + 1) × (number ≤ 65536 * k + v.next)

pub held_first : (c boot epoch : ℕ) → Held c 0 0 boot epoch None [] None
held_first c boot epoch = record {
  low = omega arith;
  numbers = omega arith;
  unattested = λ _. refl;
  attested_by = λ a e. absurd cc;
  vouched_by = λ a b e. absurd cc;
  floor = λ a e _ _. absurd cc;
  opened = λ v k e _. absurd cc;
}

module _ (c next number boot epoch : ℕ) (attested : Option Attestation) (vouched : List Vouched) (view : Option EndView) (h : Held c next number boot epoch attested vouched view) where
  -- its node is reset
  pub held_reset : Held c next number (boot + 1) epoch attested vouched None
  held_reset = record {
    low = h.low;
    numbers = h.numbers;
    unattested = h.unattested;
    attested_by = λ a e. let le = h.attested_by a e in omega (arith, le);
    vouched_by = λ a b e. let le = h.vouched_by a b e in omega (arith, le);
    floor = λ a e s _. let le = h.attested_by a e in absurd (omega (arith, le, s));
    opened = λ v k e _. absurd cc;
  }

  -- another module is attested
  pub held_raised : (higher : ℕ) → epoch ≤ higher → Held c next number boot higher attested vouched view
  held_raised higher le = record {
    low = let low = h.low in omega (arith, low, le);
    numbers = h.numbers;
    unattested = h.unattested;
    attested_by = h.attested_by;
    vouched_by = h.vouched_by;
    floor = h.floor;
    opened = h.opened;
  }

  -- its module is attested
  pub held_attested : (a b higher : ℕ) (floors : List ℕ) → is_vouched a b vouched ≡ true → epoch ≤ higher → slice_get floors c ≡ Some higher
      → ((last : ℕ) → boot_of attested ≡ Some last → higher ≡ epoch + 1) → Held c next number boot higher (Some (record { boot = b; floors = floors })) vouched view
  held_attested a b higher floors by le there more = record {
    low = let low = h.low in omega (arith, low, le);
    numbers = h.numbers;
    unattested = λ e. absurd cc;
    attested_by = λ d e. let same : b ≡ d.boot = ap (λ (z : Attestation). z.boot) (same_Some _ d e) in let at = h.vouched_by a b by in omega (arith, same, at);
    vouched_by = h.vouched_by;
    floor = λ d e _ _.
        let at : slice_index floors c ≡ higher = get_or_from_slice_get floors c higher 0 there in
        let is : floors ≡ d.floors = ap (λ (z : Attestation). z.floors) (same_Some _ d e) in
        subst (λ fs. next ≤ slice_index fs c) is (subst (λ k. next ≤ k) (sym at) (below attested refl));
    opened = h.opened;
  }
    where
      below : (o : Option Attestation) → attested ≡ o → next ≤ higher
      below None e = let none = h.unattested e in omega (arith, none)
      below (Some last) e = let up = more last.boot (ap (λ o. boot_of o) e) in let low = h.low in omega (arith, up, low)

  -- its module begins
  pub held_protected : (w : Option EndView) → is_open view ≡ false → ((v : EndView) → w ≡ Some v → v.epoch ≡ None) → Held c next number boot epoch attested vouched w
  held_protected w closed none = record {
    low = h.low;
    numbers = h.numbers;
    unattested = h.unattested;
    attested_by = h.attested_by;
    vouched_by = h.vouched_by;
    floor = λ a e s _. h.floor a e s closed;
    opened = λ v k e f. absurd (let z = none v e in cc);
  }

  -- its module vouches
  pub held_vouched : (a : ℕ) → Held c next number boot epoch attested (vouched ++ record { challenge = a; boot = boot } ∷ []) view
  held_vouched a = record {
    low = h.low;
    numbers = h.numbers;
    unattested = h.unattested;
    attested_by = h.attested_by;
    vouched_by = λ x b e.
        elim (or_cases (is_vouched x b vouched) (((a == x) && (boot == b)) || false) (sym (list_any-append (λ (v : Vouched). (v.challenge == x) && (v.boot == b)) vouched _) ∙ e)) [
          | inl i ↦ h.vouched_by x b i
          | inr i ↦ last x b ((a == x) && (boot == b)) refl i
        ];
    floor = h.floor;
    opened = h.opened;
  }
    where
      last : (x b : ℕ) (t : Bool) → ((a == x) && (boot == b)) ≡ t → (t || false) ≡ true → b ≤ boot
      last x b true e _ = let same = eqb-true boot b (and_parts (a == x) (boot == b) e).1 in omega (arith, same)
      last x b false e i = absurd cc

  -- it opens
  pub held_opened : (k : ℕ) (v w : EndView) → view ≡ Some v → opens k v ≡ Some w → may_open attested boot c k epoch ≡ true
      → (next ≤ k) × Held c (k + 1) number boot epoch attested vouched (Some w)
  held_opened k v w at made may = by attested refl may (is_below v.epoch k) refl made
    where
      lowest : (a : Attestation) → attested ≡ Some a → a.boot ≡ boot → slice_index a.floors c ≤ k → (o : Option ℕ) → v.epoch ≡ o → is_below o k ≡ true → next ≤ k
      lowest a e s le None q t = let closed : is_open view ≡ false = ap (λ o. is_open o) at ∙ ap (λ o. is_some o) q in let f = h.floor a e s closed in omega (arith, f, le)
      lowest a e s le (Some old) q t = let lt = ltb-true old k t in let f = (h.opened v old at q).0 in omega (arith, f, lt)

      opens_so : next ≤ k → k ≤ epoch → (attested ≡ None → ⊥) → w ≡ record { epoch = Some k; next = 0 } → Held c (k + 1) number boot epoch attested vouched (Some w)
      opens_so le top some is = record {
        low = omega (arith, top);
        numbers = let n = h.numbers in omega (arith, n, le);
        unattested = λ e. absurd (some e);
        attested_by = h.attested_by;
        vouched_by = h.vouched_by;
        floor = λ a e s f. absurd (let stands : is_some w.epoch ≡ true = ap (λ (z : EndView). is_some z.epoch) is in cc);
        opened = λ u j e f.
            let same : u ≡ record { epoch = Some k; next = 0 } = sym (same_Some w u e) ∙ is in
            let at : k ≡ j = same_Some k j (sym (ap (λ (z : EndView). z.epoch) same) ∙ f) in
            let n = h.numbers in
            (omega (arith, at), omega (arith, n, le, at));
      }

      by : (o : Option Attestation) → attested ≡ o → may_open o boot c k epoch ≡ true → (b : Bool) → is_below v.epoch k ≡ b
          → (if b then Some (record { epoch = Some k; next = 0 }) else None) ≡ Some w → (next ≤ k) × Held c (k + 1) number boot epoch attested vouched (Some w)
      by None e may b t made = absurd cc
      by (Some a) e may false t made = absurd cc
      by (Some a) e may true t made =
          let p = and_parts (a.boot == boot) (nat_le (slice_index a.floors c) k && nat_le k epoch) may in
          let r = and_parts (nat_le (slice_index a.floors c) k) (nat_le k epoch) p.1 in
          let le = lowest a e (eqb-true a.boot boot p.0) (leb-true (slice_index a.floors c) k r.0) v.epoch refl t in
          (le, opens_so le (leb-true k epoch r.1) (λ none. absurd cc) (sym (same_Some _ w made)))

  -- it takes a number
  pub held_taken : (i : ℕ) (v w : EndView) → view ≡ Some v → takes (i / 65536) (i % 65536) v ≡ Some w
      → (number ≤ i) × Held c next (i + 1) boot epoch attested vouched (Some w)
  held_taken i v w at made = by v.epoch refl (contains v.epoch (i / 65536) && nat_le v.next (i % 65536)) refl made
    where
      takes_so : (k : ℕ) → v.epoch ≡ Some k → k ≡ i / 65536 → v.next ≤ i % 65536 → w ≡ record { epoch = v.epoch; next = i % 65536 + 1 }
          → (number ≤ i) × Held c next (i + 1) boot epoch attested vouched (Some w)
      takes_so k e is le made =
          let o = h.opened v k at e in (
            omega (arith, o.1, is, le),
            record {
              low = h.low;
              numbers = omega (arith, o.0, is);
              unattested = h.unattested;
              attested_by = h.attested_by;
              vouched_by = h.vouched_by;
              floor = λ a f s closed. absurd (let stands : is_some w.epoch ≡ true = ap (λ (z : EndView). is_some z.epoch) made ∙ ap (λ o. is_some o) e in cc);
              opened = λ u j f g.
                  let same : u ≡ record { epoch = v.epoch; next = i % 65536 + 1 } = sym (same_Some w u f) ∙ made in
                  let at : k ≡ j = same_Some k j (sym e ∙ sym (ap (λ (z : EndView). z.epoch) same) ∙ g) in
                  let count : u.next ≡ i % 65536 + 1 = ap (λ (z : EndView). z.next) same in
                  (omega (arith, o.0, at), omega (arith, is, at, count));
            },
          )

      by : (o : Option ℕ) → v.epoch ≡ o → (b : Bool) → (contains o (i / 65536) && nat_le v.next (i % 65536)) ≡ b
          → (if b then Some (record { epoch = v.epoch; next = i % 65536 + 1 }) else None) ≡ Some w → (number ≤ i) × Held c next (i + 1) boot epoch attested vouched (Some w)
      by o e false t made = absurd cc
      by None e true t made = absurd cc
      by (Some k) e true t made =
          let p = and_parts (k == i / 65536) (nat_le v.next (i % 65536)) t in
          takes_so k e (eqb-true k (i / 65536) p.0) (leb-true v.next (i % 65536) p.1) (sym (same_Some _ w made))
