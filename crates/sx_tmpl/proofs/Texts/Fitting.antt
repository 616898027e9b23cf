-- The operands of sound code fit the words of its text.
use Rattle.std.proofs.Common.{◌≡◌, ℕ, ◌+◌, ◌*◌, ◌<◌, ◌≤◌, inl, inr, true, ◌&&◌, List, [], ◌∷◌, length, Some, subst, arith}
use Rattle.std.specs.Prelude.{slice_get, nat_le, nat_lt}
use Rattle.std.specs.List.{list_all, list_any}
use Rattle.std.proofs.lemmas.Bool.{leb-true, ltb-true, and_parts, eqb-true, or_cases, false≢true}
use Rattle.sx_rules.specs.declared.section.Layout.{Layout}
use Rattle.sx_mean.specs.Offsets as offsets
use Rattle.sx_mean.specs.Working.{saved_at}
use Rattle.sx_tmpl.specs.Scratch as scratch
use Rattle.sx_ir.specs.declared.ir.Ir.{Ir}
use Rattle.sx_ir.specs.declared.ir.Ir.TheVariants as ir
use Rattle.sx_ir.specs.declared.ir.Code.{Code}
use Rattle.sx_ir.specs.Sizes.{bytes, has_routine, is_packet}
use Rattle.sx_ir.specs.Sound.{are_sealed, has_slot, is_even, is_free, is_sound, is_sound_op, may_change, private_size}
use Rattle.sx_tmpl.specs.Fits.{OperationFits}
use Rattle.sx_tmpl.specs.Performs.{HasRoom}
use Rattle.sx_tmpl.proofs.Texts.SoundOps.{are_sound, changes, free, seals}

-- an end with a routine has a slot
named : (n m size k : ℕ) (i : Ir) → is_packet k i ≡ true → is_sound_op n m size i ≡ true → has_slot size k ≡ true
named n m size k (ir.Packet j) e h = subst (λ k. has_slot size k ≡ true) (eqb-true j k e) h
named n m size k (ir.Push x) e h = absurd (false≢true e)
named n m size k (ir.Load o) e h = absurd (false≢true e)
named n m size k (ir.Store o) e h = absurd (false≢true e)
named n m size k (ir.LoadAt o x) e h = absurd (false≢true e)
named n m size k (ir.StoreAt o x) e h = absurd (false≢true e)
named n m size k (ir.Op f) e h = absurd (false≢true e)
named n m size k (ir.Jump q) e h = absurd (false≢true e)
named n m size k (ir.JumpZero q) e h = absurd (false≢true e)
named n m size k (ir.JumpEqual o x q) e h = absurd (false≢true e)
named n m size k ir.Drop e h = absurd (false≢true e)
named n m size k ir.Emit e h = absurd (false≢true e)
named n m size k ir.Stop e h = absurd (false≢true e)
named n m size k (ir.Saved r) e h = absurd (false≢true e)
named n m size k ir.Inside e h = absurd (false≢true e)
named n m size k (ir.Meets r x) e h = absurd (false≢true e)
named n m size k (ir.CopyIn x o) e h = absurd (false≢true e)
named n m size k (ir.CopyOut x o) e h = absurd (false≢true e)
named n m size k (ir.Seal x y z u v) e h = absurd (false≢true e)
named n m size k (ir.Open x y z u v) e h = absurd (false≢true e)
named n m size k (ir.SetEnd x) e h = absurd (false≢true e)
named n m size k ir.Sense e h = absurd (false≢true e)
named n m size k (ir.Handler x) e h = absurd (false≢true e)
named n m size k ir.Leave e h = absurd (false≢true e)

slot : (n m size k : ℕ) (ops : List Ir) → list_all (is_sound_op n m size) ops ≡ true → has_routine ops k ≡ true → has_slot size k ≡ true
slot n m size k [] h e = absurd (false≢true e)
slot n m size k (i ∷ ops) h e =
    let p = and_parts (is_sound_op n m size i) (list_all (is_sound_op n m size) ops) h in
    elim (or_cases (is_packet k i) (list_any (is_packet k) ops) e) [ inl x ↦ named n m size k i x p.0 | inr x ↦ slot n m size k ops p.1 x ]

module _ (code : Code) (l : Layout) (room : HasRoom l) (sound : is_sound code.ops.items code.parts.items l ≡ true) where
  abbrev ops : List Ir
  ops = code.ops.items

  abbrev parts : List (ℕ × ℕ)
  parts = code.parts.items

  abbrev size : ℕ
  size = private_size l

  -- an offset with its length ends in memory
  below : (o n : ℕ) → is_free size o n ≡ true → l.priv_from + (o + n) < 65536
  below o n h = let r = free size o n h in let f = r.fits in let b = room.private_below in let s = room.private_size in omega (arith, f, b, s)

  sealed : (k h hn b bn : ℕ) → are_sealed size k h hn b bn ≡ true → (l.priv_from + k < 65536) × (l.priv_from + (h + hn + bn) < 65536) × (l.priv_from + b < 65536)
  sealed k h hn b bn e =
      let s = seals size k h hn b bn e in
      let lim = room.private_below in
      let rm = room.private_size in
      let hf = s.header.fits in
      let bf = s.body.fits in
      (elim (s.key) [ inl z ↦ omega (arith, z, lim, rm) | inr r ↦ (let f = r.fits in omega (arith, f, lim, rm)) ], omega (arith, hf, lim, rm), omega (arith, bf, lim, rm))

  low : (o : ℕ) → o ≤ 512 → l.priv_from + o < 65536
  low o le = let lim = room.private_below in let rm = room.private_size in omega (arith, le, lim, rm)

  fit : (i : Ir) → is_sound_op (length ops) (length parts) size i ≡ true → OperationFits l code i
  fit (ir.Push n) h = tt
  fit (ir.Load o) h = let x = below o 2 (and_parts (is_even o) (is_free size o 2) h).1 in omega (arith, x)
  fit (ir.Store o) h = let x = below o 2 (changes size o 2 (and_parts (is_even o) (may_change size o 2) h).1) in omega (arith, x)
  fit (ir.LoadAt o n) h = let x = below o (2 * n) (and_parts (is_even o) (is_free size o (2 * n)) h).1 in omega (arith, x)
  fit (ir.StoreAt o n) h = let x = below o (2 * n) (changes size o (2 * n) (and_parts (is_even o) (may_change size o (2 * n)) h).1) in omega (arith, x)
  fit (ir.Op f) h = tt
  fit (ir.Jump q) h = ltb-true q (length ops) h
  fit (ir.JumpZero q) h = ltb-true q (length ops) h
  fit (ir.JumpEqual o n q) h =
      let b = and_parts (is_free size o 2) (nat_lt q (length ops)) (and_parts (is_even o) (is_free size o 2 && nat_lt q (length ops)) h).1 in
      let x = below o 2 b.0 in
      (omega (arith, x), ltb-true q (length ops) b.1)
  fit (ir.Packet k) h = tt
  fit ir.Drop h = tt
  fit ir.Emit h = tt
  fit ir.Stop h = low scratch.return_at (omega arith)
  fit (ir.Saved r) h = let b = and_parts (nat_le 12 r) (nat_le r 15) h in let le = leb-true r 15 b.1 in (leb-true 12 r b.0, le, low (saved_at r) (omega (arith, le)))
  fit ir.Inside h = low scratch.caller_at (omega arith)
  fit (ir.Meets r n) h =
      let a = and_parts (nat_le 12 r && nat_le r 15) (nat_le 2 n) h in
      let b = and_parts (nat_le 12 r) (nat_le r 15) a.0 in
      let le = leb-true r 15 b.1 in
      (leb-true 12 r b.0, le, leb-true 2 n a.1, low (saved_at r) (omega (arith, le)))
  fit (ir.CopyIn n o) h = let x = below o n (changes size o n (and_parts (nat_le 1 n) (may_change size o n) h).1) in (low scratch.in_window_at (omega arith), omega (arith, x))
  fit (ir.CopyOut n o) h = let x = below o n (and_parts (nat_le 1 n) (is_free size o n) h).1 in (low scratch.out_window_at (omega arith), omega (arith, x))
  fit (ir.Seal k x hn b bn) h = sealed k x hn b bn (and_parts (are_sealed size k x hn b bn) (may_change size (x + hn) (bn + 16)) h).0
  fit (ir.Open k x hn b bn) h = sealed k x hn b bn (and_parts (are_sealed size k x hn b bn) (may_change size b bn) h).0
  fit (ir.SetEnd k) h = let x = leb-true (offsets.end_at k + 24) size h in let lim = room.private_below in let rm = room.private_size in omega (arith, x, lim, rm)
  fit ir.Sense h = tt
  fit (ir.Handler g) h = let lt = ltb-true g (length parts) h in (lt, (are_sound ops parts l sound).begins g lt, low scratch.return_at (omega arith))
  fit ir.Leave h = tt

  pub all_fit : (p : ℕ) (i : Ir) → slice_get ops p ≡ Some i → OperationFits l code i
  all_fit p i e = fit i ((are_sound ops parts l sound).each p i e)

  pub slots_fit : (k : ℕ) → has_routine ops k ≡ true → l.priv_from + offsets.end_at (k + 1) < 65536
  slots_fit k h =
      let x = leb-true (offsets.end_at k + 24) size (slot (length ops) (length parts) size k ops (are_sound ops parts l sound).tests h) in
      let lim = room.private_below in
      let rm = room.private_size in
      omega (arith, x, lim, rm)

  pub text_below : l.pub_from + bytes ops < 65536
  text_below = let f = (are_sound ops parts l sound).fits in let b = room.public_below in omega (arith, f, b)
