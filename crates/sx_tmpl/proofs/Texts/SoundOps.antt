-- Sound code has what its templates ask.
use Rattle.std.proofs.Common.{◌≡◌, ℕ, zero, suc, ◌+◌, ◌*◌, ◌%◌, ◌<◌, ◌≤◌, inl, inr, Bool, true, ◌&&◌, ◌||◌, List, [], ◌∷◌, length, Some, sym, ap, ◌∙◌, subst, arith}
use Rattle.std.specs.Prelude.{slice_get, nat_le, nat_lt, ◌==◌}
use Rattle.std.specs.List.{list_all}
use Rattle.std.proofs.lemmas.Option.{none-some, same_Some}
use Rattle.std.proofs.lemmas.Bool.{leb-true, ltb-true, and_parts, eqb-true, or_cases}
use Rattle.sx_rules.specs.declared.section.Layout.{Layout}
use Rattle.sx_mean.specs.Offsets as offsets
use Rattle.sx_ir.specs.declared.ir.Ir.{Ir}
use Rattle.sx_ir.specs.declared.ir.Ir.TheVariants as ir
use Rattle.sx_ir.specs.Sizes.{bytes}
use Rattle.sx_ir.specs.Sound.{are_sealed, has_slot, is_even, is_free, is_key, is_sound, is_sound_op, is_sound_part, may_change, private_size, public_size}
use Rattle.sx_tmpl.specs.Running.{Fixed}
use Rattle.sx_tmpl.proofs.Running.MidRun.{Stands}
use Rattle.sx_tmpl.specs.Shows.{base_of, IsData}
use Rattle.sx_tmpl.specs.Template.{Addresses, slot_words, routine_words}
use Rattle.sx_tmpl.specs.Text.{part_place}
use Rattle.sx_tmpl.specs.Performs.{IsNarrow}
use Rattle.sx_tmpl.proofs.Operations.Arrays.{IsArray}
use Rattle.sx_tmpl.proofs.Running.Holding.{IsRange}
use Rattle.sx_tmpl.proofs.Operations.SealOps.{SealsAt}
use Rattle.sx_tmpl.proofs.Running.Steps.{Text}
use Rattle.sx_tmpl.proofs.Texts.Whole.{IsSoundOp, IsTarget, size_of}

-- what holds of all holds of each
pub one_of : (P : Ir → Bool) (ops : List Ir) (p : ℕ) (i : Ir) → list_all P ops ≡ true → slice_get ops p ≡ Some i → P i ≡ true
one_of P [] p i h e = absurd (none-some i e)
one_of P (x ∷ ops) zero i h e = ap P (sym (same_Some x i e)) ∙ (and_parts (P x) (list_all P ops) h).0
one_of P (x ∷ ops) (suc p) i h e = one_of P ops p i (and_parts (P x) (list_all P ops) h).1 e

-- bytes that are free, in numbers
pub free : (size o n : ℕ) → is_free size o n ≡ true → IsRange o n size
free size o n h =
    let a = and_parts (nat_le (o + n) size) (nat_le 2 o && (nat_le (o + n) 104 || nat_le 512 o)) h in
    let b = and_parts (nat_le 2 o) (nat_le (o + n) 104 || nat_le 512 o) a.1 in
    record {
      low = leb-true 2 o b.0;
      beside = elim (or_cases (nat_le (o + n) 104) (nat_le 512 o) b.1) [ inl x ↦ inl (leb-true (o + n) 104 x) | inr x ↦ inr (leb-true 512 o x) ];
      fits = leb-true (o + n) size a.0;
    }

pub changes : (size o n : ℕ) → may_change size o n ≡ true → is_free size o n ≡ true
changes size o n h = (and_parts (is_free size o n) (nat_le (o + n) 6 || nat_le 14 o) h).0

word_place : (size o : ℕ) → is_even o ≡ true → is_free size o 2 ≡ true → (o % 2 ≡ 0) × IsData o × (o + 2 ≤ size)
word_place size o ev h =
    let r = free size o 2 h in
    (eqb-true (o % 2) 0 ev, record { low = r.low; beside = elim (r.beside) [ inl x ↦ inl (omega arith) | inr x ↦ inr x ] }, r.fits)

array_place : (size o n : ℕ) → size < 65536 → is_even o ≡ true → is_free size o (2 * n) ≡ true → (n < 65536) × IsArray o n size
array_place size o n short ev h =
    let r = free size o (2 * n) h in
    let f = r.fits in
    (omega (arith, f, short), record { is_even = eqb-true (o % 2) 0 ev; low = r.low; beside = r.beside; fits = f })

pub seals : (size k h hn b bn : ℕ) → are_sealed size k h hn b bn ≡ true → SealsAt k h hn b bn size
seals size k h hn b bn s =
    let x = and_parts (is_key size k) (is_free size h (hn + bn + 16) && (is_free size b bn && (nat_le hn 32 && nat_le bn 32))) s in
    let y = and_parts (is_free size h (hn + bn + 16)) (is_free size b bn && (nat_le hn 32 && nat_le bn 32)) x.1 in
    let z = and_parts (is_free size b bn) (nat_le hn 32 && nat_le bn 32) y.1 in
    let w = and_parts (nat_le hn 32) (nat_le bn 32) z.1 in
    record {
      key = elim (or_cases (k == 0) (is_free size k 16) x.0) [ inl e ↦ inl (eqb-true k 0 e) | inr e ↦ inr (free size k 16 e) ];
      header = free size h (hn + bn + 16) y.0;
      body = free size b bn z.0;
      few = leb-true hn 32 w.0;
      short = leb-true bn 32 w.1;
    }

-- the parts of a sound code's test
pub record AreSound (ops : List Ir) (parts : List (ℕ × ℕ)) (l : Layout) : Type 0 where
  pub few : length ops < 65536
  pub each : (p : ℕ) (i : Ir) → slice_get ops p ≡ Some i → is_sound_op (length ops) (length parts) (private_size l) i ≡ true
  pub tests : list_all (is_sound_op (length ops) (length parts) (private_size l)) ops ≡ true
  pub begins : (h : ℕ) → h < length parts → part_place parts h < length ops
  pub fits : l.pub_from + bytes ops ≤ l.pub_to

part_begins : (n : ℕ) (parts : List (ℕ × ℕ)) (h : ℕ) → list_all (is_sound_part n) parts ≡ true → h < length parts → part_place parts h < n
part_begins n [] h s lt = absurd (omega (arith, lt))
part_begins n (x ∷ parts) zero s lt = let a = and_parts (is_sound_part n x) (list_all (is_sound_part n) parts) s in ltb-true x.0 n (and_parts (nat_lt x.0 n) (nat_le x.1 n) a.0).0
part_begins n (x ∷ parts) (suc h) s lt = part_begins n parts h (and_parts (is_sound_part n x) (list_all (is_sound_part n) parts) s).1 (omega (arith, lt))

pub are_sound : (ops : List Ir) (parts : List (ℕ × ℕ)) (l : Layout) → is_sound ops parts l ≡ true → AreSound ops parts l
are_sound ops parts l h =
    let n = length ops in
    let each = list_all (is_sound_op n (length parts) (private_size l)) ops in
    let each_part = list_all (is_sound_part n) parts in
    let room = nat_le (bytes ops) (public_size l) in
    let x = and_parts (nat_lt n 65536) (each && (each_part && room)) h in
    let y = and_parts each (each_part && room) x.1 in
    let z = and_parts each_part room y.1 in
    let fits = leb-true (bytes ops) (public_size l) z.1 in
    record {
      few = ltb-true n 65536 x.0;
      each = λ p i e. one_of (is_sound_op n (length parts) (private_size l)) ops p i y.0 e;
      tests = y.0;
      begins = λ h lt. part_begins n parts h z.0 lt;
      fits = omega (arith, fits);
    }

module _ (f : Fixed) (st : Stands f) (a : Addresses) (parts : List (ℕ × ℕ)) (ops : List Ir) (sound : AreSound ops parts f.setup.section.layout) (at_parts : (h : ℕ)
    → a.part h ≡ part_place parts h) (target : (q : ℕ) → q ≤ length ops → IsTarget f (a.at q))
    (packet : (p k : ℕ) → slice_get ops p ≡ Some (ir.Packet k) → k < 256
    → Text f (a.packet k) 70 (routine_words (base_of f) k)) (slots : Text f a.slots 32 (slot_words (base_of f))) (zeros : Text f a.zero 1 (0 ∷ [])) (narrow : (p : ℕ) (i : Ir) → slice_get ops p ≡ Some i → IsNarrow i) where
  abbrev size : ℕ
  size = size_of f

  short : size < 65536
  short = let z = st.beneath in omega (arith, z)

  slot_place : (k : ℕ) → has_slot size k ≡ true → offsets.end_at k + 24 ≤ size
  slot_place k h = leb-true (offsets.end_at k + 24) size h

  copies : (n o : ℕ) → nat_le 1 n ≡ true → is_free size o n ≡ true → (0 < n) × (n < 65536) × IsRange o n size
  copies n o some h =
      let r = free size o n h in
      let f = r.fits in
      let s = short in
      let x = leb-true 1 n some in
      (omega (arith, x), omega (arith, f, s), r)

  pub sound_op : (p : ℕ) (i : Ir) → slice_get ops p ≡ Some i → is_sound_op (length ops) (length parts) size i ≡ true → IsSoundOp f a i
  sound_op p (ir.Push n) e h = narrow p (ir.Push n) e
  sound_op p (ir.Load o) e h = let b = and_parts (is_even o) (is_free size o 2) h in word_place size o b.0 b.1
  sound_op p (ir.Store o) e h = let b = and_parts (is_even o) (may_change size o 2) h in word_place size o b.0 (changes size o 2 b.1)
  sound_op p (ir.LoadAt o n) e h = let b = and_parts (is_even o) (is_free size o (2 * n)) h in array_place size o n short b.0 b.1
  sound_op p (ir.StoreAt o n) e h = let b = and_parts (is_even o) (may_change size o (2 * n)) h in array_place size o n short b.0 (changes size o (2 * n) b.1)
  sound_op p (ir.Op g) e h = tt
  sound_op p (ir.Jump q) e h = let lt = ltb-true q (length ops) h in target q (omega (arith, lt))
  sound_op p (ir.JumpZero q) e h = let lt = ltb-true q (length ops) h in (target q (omega (arith, lt)), zeros)
  sound_op p (ir.JumpEqual o n q) e h =
      let b = and_parts (is_even o) (is_free size o 2 && nat_lt q (length ops)) h in
      let d = and_parts (is_free size o 2) (nat_lt q (length ops)) b.1 in
      let lt = ltb-true q (length ops) d.1 in
      (word_place size o b.0 d.0, narrow p (ir.JumpEqual o n q) e, target q (omega (arith, lt)))
  sound_op p (ir.Packet k) e h = (packet p k e (narrow p (ir.Packet k) e), slot_place k h)
  sound_op p ir.Drop e h = tt
  sound_op p ir.Emit e h = tt
  sound_op p ir.Stop e h = tt
  sound_op p (ir.Saved r) e h = tt
  sound_op p ir.Inside e h = tt
  sound_op p (ir.Meets r n) e h = let b = and_parts (nat_le 12 r && nat_le r 15) (nat_le 2 n) h in (leb-true 2 n b.1, narrow p (ir.Meets r n) e)
  sound_op p (ir.CopyIn n o) e h = let b = and_parts (nat_le 1 n) (may_change size o n) h in copies n o b.0 (changes size o n b.1)
  sound_op p (ir.CopyOut n o) e h = let b = and_parts (nat_le 1 n) (is_free size o n) h in copies n o b.0 b.1
  sound_op p (ir.Seal k x hn b bn) e h = seals size k x hn b bn (and_parts (are_sealed size k x hn b bn) (may_change size (x + hn) (bn + 16)) h).0
  sound_op p (ir.Open k x hn b bn) e h = seals size k x hn b bn (and_parts (are_sealed size k x hn b bn) (may_change size b bn) h).0
  sound_op p (ir.SetEnd k) e h = (slots, slot_place k h)
  sound_op p ir.Sense e h = tt
  sound_op p (ir.Handler g) e h =
      let lt = ltb-true g (length parts) h in
      let b = sound.begins g lt in
      subst (λ q. IsTarget f (a.at q)) (sym (at_parts g)) (target (part_place parts g) (omega (arith, b)))
  sound_op p ir.Leave e h = tt
