-- Operations of the stub's form are sound and plain.
use Rattle.std.proofs.Common.{◌≡◌, ℕ, ◌+◌, ◌*◌, ◌≤◌, inl, inr, ◌⊎◌, Bool, true, false, ◌&&◌, ◌||◌, refl, sym, subst, arith}
use Rattle.std.specs.Prelude.{nat_le, nat_lt, ◌==◌}
use Rattle.std.proofs.lemmas.Bool.{le-leb, lt-ltb, leb-true, ltb-true, eqb-true, and_from, and_parts, or_left, or_right, or_cases, false≢true}
use Rattle.sx_mean.specs.Offsets.{end_at}
use Rattle.sx_ir.specs.declared.ir.Ir.{Ir}
use Rattle.sx_ir.specs.declared.ir.Ir.TheVariants as ir
use Rattle.sx_ir.specs.Meaning.{is_saved}
use Rattle.sx_ir.specs.Sound.{are_sealed, is_even, is_free, is_key, is_sound_op, may_change}
use Rattle.sx_stub.specs.Sound.{is_plain}

-- n bytes at an offset are below what only templates use
abbrev pub is_low : ℕ → ℕ → Bool
is_low o n = nat_le 2 o && nat_le (o + n) 104

-- they are in the slots of this many ends
abbrev pub in_slots : ℕ → ℕ → ℕ → Bool
in_slots ends o n = nat_le 512 o && nat_le (o + n) (end_at ends)

-- they are beside the caller's registers
abbrev pub is_beside : ℕ → ℕ → Bool
is_beside o n = nat_le (o + n) 6 || nat_le 14 o

abbrev pub are_low : ℕ → ℕ → ℕ → ℕ → Bool
are_low h hn b bn = is_low h (hn + bn + 16) && (is_low b bn && (nat_le hn 32 && nat_le bn 32))

-- an operation of the stub's form, with this many ends, operations and handlers
abbrev pub is_fit : ℕ → ℕ → ℕ → Ir → Bool
is_fit ends ops parts (ir.Push v) = nat_lt v 65536
is_fit ends ops parts (ir.Load o) = is_even o && is_low o 2
is_fit ends ops parts (ir.Store o) = is_even o && ((is_low o 2 || in_slots ends o 2) && is_beside o 2)
is_fit ends ops parts (ir.LoadAt o n) = (o == 512) && nat_le n (12 * ends)
is_fit ends ops parts (ir.StoreAt o n) = false
is_fit ends ops parts (ir.Op f) = true
is_fit ends ops parts (ir.Jump p) = nat_lt p ops
is_fit ends ops parts (ir.JumpZero p) = nat_lt p ops
is_fit ends ops parts (ir.JumpEqual o n p) = (is_even o && is_low o 2) && (nat_lt n 65536 && nat_lt p ops)
is_fit ends ops parts (ir.Packet k) = false
is_fit ends ops parts ir.Drop = true
is_fit ends ops parts ir.Emit = true
is_fit ends ops parts ir.Stop = true
is_fit ends ops parts (ir.Saved r) = is_saved r
is_fit ends ops parts ir.Inside = true
is_fit ends ops parts (ir.Meets r n) = (is_saved r && nat_le 2 n) && nat_lt n 65536
is_fit ends ops parts (ir.CopyIn n o) = nat_le 1 n && (is_low o n && is_beside o n)
is_fit ends ops parts (ir.CopyOut n o) = nat_le 1 n && is_low o n
is_fit ends ops parts (ir.Seal k h hn b bn) = (k == 0) && (are_low h hn b bn && nat_le 14 (h + hn))
is_fit ends ops parts (ir.Open k h hn b bn) = ((k == 0) || in_slots ends k 16) && (are_low h hn b bn && is_beside b bn)
is_fit ends ops parts (ir.SetEnd k) = nat_lt k ends
is_fit ends ops parts ir.Sense = true
is_fit ends ops parts (ir.Handler h) = nat_lt h parts
is_fit ends ops parts ir.Leave = true

module _ (ends ops parts size : ℕ) (few : ends ≤ 16) (room : end_at ends ≤ size) where
  free : (o n : ℕ) → o + n ≤ size → 2 ≤ o → (o + n ≤ 104) ⊎ (512 ≤ o) → is_free size o n ≡ true
  free o n fits low beside = and_from _ _ (le-leb (o + n) size fits) (and_from _ _ (le-leb 2 o low) (either beside))
    where
      either : (o + n ≤ 104) ⊎ (512 ≤ o) → (nat_le (o + n) 104 || nat_le 512 o) ≡ true
      either (inl p) = or_left _ _ (le-leb (o + n) 104 p)
      either (inr p) = or_right _ _ (le-leb 512 o p)

  free_low : (o n : ℕ) → is_low o n ≡ true → is_free size o n ≡ true
  free_low o n h =
      let b = and_parts (nat_le 2 o) (nat_le (o + n) 104) h in
      let y = leb-true (o + n) 104 b.1 in
      free o n (omega (arith, y, room)) (leb-true 2 o b.0) (inl y)

  free_slot : (o n : ℕ) → in_slots ends o n ≡ true → is_free size o n ≡ true
  free_slot o n h =
      let b = and_parts (nat_le 512 o) (nat_le (o + n) (end_at ends)) h in
      let x = leb-true 512 o b.0 in
      let y = leb-true (o + n) (end_at ends) b.1 in
      free o n (omega (arith, y, room)) (omega (arith, x)) (inr x)

  stored : (o : ℕ) → (is_low o 2 || in_slots ends o 2) ≡ true → is_free size o 2 ≡ true
  stored o h = go (or_cases (is_low o 2) (in_slots ends o 2) h)
    where
      go : (is_low o 2 ≡ true) ⊎ (in_slots ends o 2 ≡ true) → is_free size o 2 ≡ true
      go (inl p) = free_low o 2 p
      go (inr p) = free_slot o 2 p

  key : (k : ℕ) → ((k == 0) || in_slots ends k 16) ≡ true → is_key size k ≡ true
  key k h = go (or_cases (k == 0) (in_slots ends k 16) h)
    where
      go : ((k == 0) ≡ true) ⊎ (in_slots ends k 16 ≡ true) → is_key size k ≡ true
      go (inl p) = or_left (k == 0) (is_free size k 16) p
      go (inr p) = or_right (k == 0) (is_free size k 16) (free_slot k 16 p)

  elements : (o n : ℕ) → ((o == 512) && nat_le n (12 * ends)) ≡ true → (is_even o && is_free size o (2 * n)) ≡ true
  elements o n h =
      let b = and_parts (o == 512) (nat_le n (12 * ends)) h in
      let x = eqb-true o 512 b.0 in
      let y = leb-true n (12 * ends) b.1 in
      subst (λ o. (is_even o && is_free size o (2 * n)) ≡ true) (sym x) (free 512 (2 * n) (omega (arith, y, room)) (omega arith) (inr (omega arith)))

  -- the wrap's operands, where the key's are
  sealed : (k h hn b bn : ℕ) → is_key size k ≡ true → are_low h hn b bn ≡ true → are_sealed size k h hn b bn ≡ true
  sealed k h hn b bn key low =
      let p = and_parts (is_low h (hn + bn + 16)) (is_low b bn && (nat_le hn 32 && nat_le bn 32)) low in
      let q = and_parts (is_low b bn) (nat_le hn 32 && nat_le bn 32) p.1 in
      and_from _ _ key (and_from _ _ (free_low h (hn + bn + 16) p.0) (and_from _ _ (free_low b bn q.0) q.1))

  -- the cipher and the tag
  sealed_changes : (h hn b bn : ℕ) → are_low h hn b bn ≡ true → nat_le 14 (h + hn) ≡ true → may_change size (h + hn) (bn + 16) ≡ true
  sealed_changes h hn b bn low behind =
      let p = and_parts (is_low h (hn + bn + 16)) (is_low b bn && (nat_le hn 32 && nat_le bn 32)) low in
      let q = and_parts (nat_le 2 h) (nat_le (h + (hn + bn + 16)) 104) p.0 in
      let x = leb-true 2 h q.0 in
      let y = leb-true (h + (hn + bn + 16)) 104 q.1 in
      and_from _ _ (free (h + hn) (bn + 16) (omega (arith, y, room)) (omega (arith, x)) (inl (omega (arith, y)))) (or_right _ _ behind)

  opened : (h hn b bn : ℕ) → are_low h hn b bn ≡ true → is_beside b bn ≡ true → may_change size b bn ≡ true
  opened h hn b bn low beside =
      let p = and_parts (is_low h (hn + bn + 16)) (is_low b bn && (nat_le hn 32 && nat_le bn 32)) low in
      let q = and_parts (is_low b bn) (nat_le hn 32 && nat_le bn 32) p.1 in
      and_from _ _ (free_low b bn q.0) beside

  pub fit_sound : (i : Ir) → is_fit ends ops parts i ≡ true → is_sound_op ops parts size i ≡ true
  fit_sound (ir.Push v) h = refl
  fit_sound (ir.Load o) h = let b = and_parts (is_even o) (is_low o 2) h in and_from _ _ b.0 (free_low o 2 b.1)
  fit_sound (ir.Store o) h =
      let b = and_parts (is_even o) ((is_low o 2 || in_slots ends o 2) && is_beside o 2) h in
      let c = and_parts (is_low o 2 || in_slots ends o 2) (is_beside o 2) b.1 in
      and_from _ _ b.0 (and_from _ _ (stored o c.0) c.1)
  fit_sound (ir.LoadAt o n) h = elements o n h
  fit_sound (ir.StoreAt o n) h = absurd (false≢true h)
  fit_sound (ir.Op f) h = refl
  fit_sound (ir.Jump p) h = h
  fit_sound (ir.JumpZero p) h = h
  fit_sound (ir.JumpEqual o n p) h =
      let a = and_parts (is_even o && is_low o 2) (nat_lt n 65536 && nat_lt p ops) h in
      let b = and_parts (is_even o) (is_low o 2) a.0 in
      and_from _ _ b.0 (and_from _ _ (free_low o 2 b.1) (and_parts (nat_lt n 65536) (nat_lt p ops) a.1).1)
  fit_sound (ir.Packet k) h = absurd (false≢true h)
  fit_sound ir.Drop h = refl
  fit_sound ir.Emit h = refl
  fit_sound ir.Stop h = refl
  fit_sound (ir.Saved r) h = h
  fit_sound ir.Inside h = refl
  fit_sound (ir.Meets r n) h = (and_parts (is_saved r && nat_le 2 n) (nat_lt n 65536) h).0
  fit_sound (ir.CopyIn n o) h =
      let b = and_parts (nat_le 1 n) (is_low o n && is_beside o n) h in
      let c = and_parts (is_low o n) (is_beside o n) b.1 in
      and_from _ _ b.0 (and_from _ _ (free_low o n c.0) c.1)
  fit_sound (ir.CopyOut n o) h = let b = and_parts (nat_le 1 n) (is_low o n) h in and_from _ _ b.0 (free_low o n b.1)
  fit_sound (ir.Seal k x hn b bn) h =
      let p = and_parts (k == 0) (are_low x hn b bn && nat_le 14 (x + hn)) h in
      let q = and_parts (are_low x hn b bn) (nat_le 14 (x + hn)) p.1 in
      and_from _ _ (sealed k x hn b bn (or_left (k == 0) (is_free size k 16) p.0) q.0) (sealed_changes x hn b bn q.0 q.1)
  fit_sound (ir.Open k x hn b bn) h =
      let p = and_parts ((k == 0) || in_slots ends k 16) (are_low x hn b bn && is_beside b bn) h in
      let q = and_parts (are_low x hn b bn) (is_beside b bn) p.1 in
      and_from _ _ (sealed k x hn b bn (key k p.0) q.0) (opened x hn b bn q.0 q.1)
  fit_sound (ir.SetEnd k) h = let lt = ltb-true k ends h in le-leb (end_at k + 24) size (omega (arith, lt, room))
  fit_sound ir.Sense h = refl
  fit_sound (ir.Handler g) h = h
  fit_sound ir.Leave h = refl

  pub fit_plain : (i : Ir) → is_fit ends ops parts i ≡ true → is_plain i ≡ true
  fit_plain (ir.Push v) h = h
  fit_plain (ir.Load o) h = refl
  fit_plain (ir.Store o) h = refl
  fit_plain (ir.LoadAt o n) h = refl
  fit_plain (ir.StoreAt o n) h = refl
  fit_plain (ir.Op f) h = refl
  fit_plain (ir.Jump p) h = refl
  fit_plain (ir.JumpZero p) h = refl
  fit_plain (ir.JumpEqual o n p) h = (and_parts (nat_lt n 65536) (nat_lt p ops) (and_parts (is_even o && is_low o 2) (nat_lt n 65536 && nat_lt p ops) h).1).0
  fit_plain (ir.Packet k) h = absurd (false≢true h)
  fit_plain ir.Drop h = refl
  fit_plain ir.Emit h = refl
  fit_plain ir.Stop h = refl
  fit_plain (ir.Saved r) h = refl
  fit_plain ir.Inside h = refl
  fit_plain (ir.Meets r n) h = (and_parts (is_saved r && nat_le 2 n) (nat_lt n 65536) h).1
  fit_plain (ir.CopyIn n o) h = refl
  fit_plain (ir.CopyOut n o) h = refl
  fit_plain (ir.Seal k x hn b bn) h = refl
  fit_plain (ir.Open k x hn b bn) h = refl
  fit_plain (ir.SetEnd k) h = let lt = ltb-true k ends h in lt-ltb k 256 (omega (arith, lt, few))
  fit_plain ir.Sense h = refl
  fit_plain (ir.Handler g) h = refl
  fit_plain ir.Leave h = refl
