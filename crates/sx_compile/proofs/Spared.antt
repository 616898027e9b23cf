-- Each operation keeps the slots but for numbers, until a key was unwrapped.
use Rattle.std.proofs.Common.{◌≡◌, ◌≢◌, ℕ, zero, suc, ◌+◌, ◌-◌, ◌*◌, ◌/◌, ◌%◌, ◌<◌, ◌≤◌, ◌⊎◌, inl, inr, Bool, true, false, ◌&&◌, ◌||◌, ◌==◌, List, [], ◌∷◌, ◌++◌}
use Rattle.std.proofs.Common.{length, take, Option, Some, None, Result, Ok, Err, refl, sym, ◌∙◌, arith}
use Rattle.std.specs.Prelude.{if◌then◌else◌, nat_le, nat_lt}
use Rattle.std.proofs.lemmas.List.{length-take}
use Rattle.std.proofs.lemmas.Bool.{and_parts, cases_lt, eqb-true, leb-true, ltb-true, or_cases, true≢false}
use Rattle.sx_mean.specs.Offsets as offsets
use Rattle.sx_rules.specs.declared.access.Violation.{Violation}
use Rattle.sx_rules.specs.Access.{in_public}
use Rattle.sx_bus.specs.declared.devices.Kind.{Kind}
use Rattle.sx_bus.specs.declared.devices.Kind.TheVariants as kind
use Rattle.sx_bus.specs.declared.devices.Window.{Window}
use Rattle.sx_bus.specs.Devices.{cleared}
use Rattle.sx_tag.specs.Wrap.{unwrapped, wrapped}
use Rattle.spec_machine.specs.Memory.{even, word, put_word, put_bytes, bytes_from}
use Rattle.spec_machine.proofs.Lengths.{length-bytes_from}
use Rattle.spec_machine.proofs.PublicKept.{put_other}
use Rattle.sx_image.specs.Reach.{Goes, Stops}
use Rattle.spec_invocation.specs.Marks as mark
use Rattle.spec_invocation.specs.Marks.{Mark}
use Rattle.spec_invocation.specs.Setup.{Setup}
use Rattle.spec_invocation.specs.ModuleState.{EndState, end_state}
use Rattle.spec_invocation.specs.Windows.{is_bad_window, read_bytes, write_bytes}
use Rattle.spec_invocation.specs.Acts.{event_packet, own_window}
use Rattle.sx_ir.specs.declared.ir.Ir.{Ir}
use Rattle.sx_ir.specs.declared.ir.Ir.TheVariants as ir
use Rattle.sx_ir.specs.declared.ir.IrOp.{IrOp}
use Rattle.sx_ir.specs.declared.ir.IrOp.TheVariants as op
use Rattle.sx_ir.specs.Conf.{Conf, Violates}
use Rattle.sx_ir.specs.Meaning as m
use Rattle.sx_ir.specs.Meaning.{OperationResult, saved, do_at, do_op, is_key_mark, has_key_mark, keeps_slots, names_no_key, next, when, on_top, pushed, pieces, spares_slots}
use Rattle.sx_ir.specs.Sound.{is_even, is_sound_op, may_change}
use Rattle.sx_ir.proofs.Shown.{number_spared}
use Rattle.sx_stub.proofs.Mem.{get-put_other}
use Rattle.lemmas.specs.Truth.{truth}
use Rattle.sx_tmpl.specs.Unseen.{SameSlots}
use Rattle.sx_tag.proofs.TagBytes.{tag_short}
use Rattle.sx_tmpl.proofs.Operations.Sealing.{crypt_short}
use Rattle.sx_compile.proofs.Kept.{length-read_bytes}

-- a byte of a slot, other than of its number
abbrev Slotted : ℕ → ℕ → ℕ → Type 0
Slotted ends k d = (k < ends) × (d < 24) × ((d < 2) ⊎ (4 ≤ d))

-- lies beside what spares the slots
spared_byte : (ends o n k d : ℕ) → spares_slots ends o n ≡ true → Slotted ends k d → (offsets.end_at k + d < o) ⊎ (o + n ≤ offsets.end_at k + d)
spared_byte ends o n k d e in_slot =
    let one = in_slot.0 in
    let small = in_slot.1 in
    elim (or_cases (nat_le (o + n) 512) _ e) [
      | inl below ↦ let le = leb-true (o + n) 512 below in inr (omega (arith, le))
      | inr rest ↦ elim (or_cases (nat_le (offsets.end_at ends) o) _ rest) [
        | inl above ↦ let le = leb-true (offsets.end_at ends) o above in inl (omega (arith, le, one, small))
        | inr number ↦ at_number (and_parts ((o - 512) % 24 == 2) (nat_le n 2) number) in_slot.2
      ]
    ]
  where
    at_place : (j : ℕ) → o ≡ offsets.end_number_at j → n ≤ 2 → d < 24 → (d < 2) ⊎ (4 ≤ d) → (offsets.end_at k + d < o) ⊎ (o + n ≤ offsets.end_at k + d)
    at_place j is few small (inl low) = elim (cases_lt j k) [
      | inl lt ↦ inr (omega (arith, is, few, lt))
      | inr ge ↦ inl (omega (arith, is, low, ge))
    ]
    at_place j is few small (inr high) = elim (cases_lt k j) [
      | inl lt ↦ inl (omega (arith, is, small, lt))
      | inr ge ↦ inr (omega (arith, is, few, high, ge))
    ]

    at_number : (((o - 512) % 24 == 2) ≡ true) × (nat_le n 2 ≡ true) → (d < 2) ⊎ (4 ≤ d) → (offsets.end_at k + d < o) ⊎ (o + n ≤ offsets.end_at k + d)
    at_number x beside =
        let two_ = eqb-true ((o - 512) % 24) 2 x.0 in
        let few = leb-true n 2 x.1 in
        let small = in_slot.1 in
        at_place ((o - 512) / 24) (omega (arith, two_)) few small beside

-- what is written there keeps the slots

pub word_spared : (ends : ℕ) (priv : List ℕ) (o x : ℕ) → o % 2 ≡ 0 → spares_slots ends o 2 ≡ true → SameSlots ends priv (put_word priv o x)
word_spared ends priv o x even_ e k d one small beside =
    get-put_other priv o x (offsets.end_at k + d) even_ (apart (spared_byte ends o 2 k d e (one, small, beside))) (apart_high (spared_byte ends o 2 k d e (one, small, beside)))
  where
    apart : (offsets.end_at k + d < o) ⊎ (o + 2 ≤ offsets.end_at k + d) → offsets.end_at k + d ≢ o
    apart (inl lt) = omega (arith, lt)
    apart (inr ge) = omega (arith, ge)

    apart_high : (offsets.end_at k + d < o) ⊎ (o + 2 ≤ offsets.end_at k + d) → offsets.end_at k + d ≢ o + 1
    apart_high (inl lt) = omega (arith, lt)
    apart_high (inr ge) = omega (arith, ge)

-- bytes of a range that spares them
bytes_spared : (ends : ℕ) (priv : List ℕ) (o n p : ℕ) (bs : List ℕ) → spares_slots ends o n ≡ true → o ≤ p → p + length bs ≤ o + n → SameSlots ends priv (put_bytes priv p bs)
bytes_spared ends priv o n p bs e from to k d one small beside = put_other bs priv p (offsets.end_at k + d) (apart (spared_byte ends o n k d e (one, small, beside)))
  where
    apart : (offsets.end_at k + d < o) ⊎ (o + n ≤ offsets.end_at k + d) → (offsets.end_at k + d < p) ⊎ (p + length bs ≤ offsets.end_at k + d)
    apart (inl lt) = inl (omega (arith, lt, from))
    apart (inr ge) = inr (omega (arith, ge, to))

pub same_slots : (ends : ℕ) (p : List ℕ) → SameSlots ends p p
same_slots ends p k d one small beside = refl

pub slots_trans : (ends : ℕ) (p q r : List ℕ) → SameSlots ends p q → SameSlots ends q r → SameSlots ends p r
slots_trans ends p q r x y k d one small beside = y k d one small beside ∙ x k d one small beside

-- marks that go on keep a key's
pub keyed_more : (marks more : List Mark) → has_key_mark marks ≡ true → has_key_mark (marks ++ more) ≡ true
keyed_more [] more e = absurd (true≢false (sym e))
keyed_more (x ∷ marks) more e = go (is_key_mark x) e (keyed_more marks more)
  where
    go : (b : Bool) → (b || has_key_mark marks) ≡ true → (has_key_mark marks ≡ true → has_key_mark (marks ++ more) ≡ true) → (b || has_key_mark (marks ++ more)) ≡ true
    go true e f = refl
    go false e f = f e

-- a step keeps the slots, or a key was unwrapped
abbrev pub Spares : ℕ → Conf → Conf → Type 0
Spares ends c t = (has_key_mark t.marks ≡ true) ⊎ SameSlots ends c.priv t.priv

abbrev pub SparesAfter : ℕ → Conf → OperationResult → Type 0
SparesAfter ends c (Goes t) = Spares ends c t
SparesAfter ends c (Stops v) = Unit {0}

module _ (s : Setup) (handle : ℕ → Conf → OperationResult) (handles : (h : ℕ) (c : Conf) → SparesAfter (length s.ends) c (handle h c)) where
  abbrev n : ℕ
  n = length s.ends

  abbrev After : Conf → OperationResult → Type 0
  After c r = SparesAfter n c r

  still : (c : Conf) → SameSlots n c.priv c.priv
  still c = same_slots n c.priv

  at_when : (c : Conf) (b : Bool) (go : OperationResult) → (b ≡ true → After c go) → After c (when b go)
  at_when c true go h = h refl
  at_when c false go h = tt

  at_top : (c : Conf) (stack : List ℕ) (go : ℕ → List ℕ → OperationResult) → ((x : ℕ) (rest : List ℕ) → After c (go x rest)) → After c (on_top stack go)
  at_top c [] go h = tt
  at_top c (x ∷ rest) go h = h x rest

  at_if : (c : Conf) (b : Bool) (x y : OperationResult) → After c x → After c y → After c (if b then x else y)
  at_if c true x y p q = p
  at_if c false x y p q = q

  push_spares : (c d : Conf) (v : ℕ) → SameSlots n c.priv d.priv → After c (pushed d v)
  push_spares c d v same = at_when c (nat_lt (length d.stack) 160) (Goes (next d (v ∷ d.stack))) (λ x. inr same)

  two_spares : (c : Conf) (f : ℕ → ℕ → ℕ) → After c (on_top c.stack (λ y below. on_top below (λ x rest. Goes (next c (f x y ∷ rest)))))
  two_spares c f = at_top c c.stack (λ y below. on_top below (λ x rest. Goes (next c (f x y ∷ rest)))) (λ y below. at_top c below (λ x rest. Goes (next c (f x y ∷ rest))) (λ x rest. inr (still c)))

  one_spares : (c : Conf) (f : ℕ → ℕ) → After c (on_top c.stack (λ x rest. Goes (next c (f x ∷ rest))))
  one_spares c f = at_top c c.stack (λ x rest. Goes (next c (f x ∷ rest))) (λ x rest. inr (still c))

  operator_spares : (f : IrOp) (c : Conf) → After c (m.operated f c)
  operator_spares op.Add c = two_spares c _
  operator_spares op.Sub c = two_spares c _
  operator_spares op.Mul c = two_spares c _
  operator_spares op.And c = two_spares c _
  operator_spares op.Or c = two_spares c _
  operator_spares op.Xor c = two_spares c _
  operator_spares op.Eq c = two_spares c _
  operator_spares op.Lt c = two_spares c _
  operator_spares op.Neg c = one_spares c _
  operator_spares op.Inv c = one_spares c _
  operator_spares op.Not c = one_spares c _

  copied : (c c1 : Conf) (after : List ℕ → Conf) (r : Result (List ℕ) Violation) → ((mem : List ℕ) → Spares n c (after mem)) → After c (m.copied_out r c1 after)
  copied c c1 after (Err v) f = tt
  copied c c1 after (Ok mem) f = f mem

  send_spares : (c : Conf) (k v : ℕ) (e : EndState) → After c (m.send s c k v e)
  send_spares c k v e =
      let p1 = put_word c.priv (offsets.end_number_at k) (e.number + 1) in
      let same : SameSlots n c.priv (put_word p1 4 (pieces c + 1)) = slots_trans n c.priv p1 (put_word p1 4 (pieces c + 1))
      (word_spared n c.priv (offsets.end_number_at k) (e.number + 1) (omega arith) (number_spared n k)) (word_spared n p1 4 (pieces c + 1) refl refl) in
      at_when c (m.has_out_window s c) (if e.is_open && nat_lt e.number 65535 then m.send_open s c k v e else Goes (next c c.stack))
      (λ x. at_if c (e.is_open && nat_lt e.number 65535) (m.send_open s c k v e) (Goes (next c c.stack))
      (at_when c (m.has_packet_room c) (m.copied_out (write_bytes s c.devices c.mem (saved c 14 + 24 * pieces c) (event_packet s e v)) (m.sealed_event c e v) (m.packed (m.sealed_event c e v) k e))
      (λ le. copied c (m.sealed_event c e v) (m.packed (m.sealed_event c e v) k e) (write_bytes s c.devices c.mem (saved c 14 + 24 * pieces c) (event_packet s e v)) (λ mem. inr same)))
      (inr (still c)))

  copy_out_spares : (c : Conf) (k o off : ℕ) (rest : List ℕ) → After c (m.copy_out s c k o off rest)
  copy_out_spares c k o off rest =
      at_when c (m.has_out_window s c && m.has_copy_room c off k) (m.copied_out (write_bytes s c.devices c.mem (saved c 14 + off) (bytes_from c.priv o k)) c (λ mem. record (next c rest) { mem = mem }))
      (λ x. copied c c (λ mem. record (next c rest) { mem = mem }) (write_bytes s c.devices c.mem (saved c 14 + off) (bytes_from c.priv o k)) (λ mem. inr (still c)))

  emit_spares : (c : Conf) (x : ℕ) (rest : List ℕ) (o : Option (ℕ × Window)) → After c (m.emit c x rest o)
  emit_spares c x rest None = tt
  emit_spares c x rest (Some d) = by_kind d.1.kind
    where
      by_kind : (k : Kind) → After c (m.emitted c x rest k d.0)
      by_kind kind.Actuator = inr (still c)
      by_kind kind.Sensor = tt

  sense_spares : (c : Conf) (o : Option (ℕ × Window)) → After c (m.sense c o)
  sense_spares c None = tt
  sense_spares c (Some d) = by_kind d.1.kind
    where
      by_kind : (k : Kind) → After c (m.sensor_read c d.0 d.1 k)
      by_kind kind.Sensor =
          let d1 : Conf = record c { devices = cleared c.devices d.0; marks = c.marks ++ mark.Sampled d.0 d.1.value ∷ [] } in
          at_if c d.1.fresh (pushed d1 (0x8000 + d.1.value)) (pushed c 0) (push_spares c d1 (0x8000 + d.1.value) (still c)) (push_spares c c 0 (still c))
      by_kind kind.Actuator = tt

  copy_in_spares : (c : Conf) (k o : ℕ) → spares_slots n o k ≡ true → After c (m.copy_in s c k o)
  copy_in_spares c k o e = at_when c (m.has_in_window s c && nat_le k 40) (m.copied_in c o (read_bytes s c.devices c.mem (saved c 13) k))
      (λ x. by_read (read_bytes s c.devices c.mem (saved c 13) k) refl)
    where
      by_read : (r : Result (List ℕ) Violation) → read_bytes s c.devices c.mem (saved c 13) k ≡ r → After c (m.copied_in c o r)
      by_read (Err v) is = tt
      by_read (Ok bytes) is =
          let long = length-read_bytes s c.devices c.mem (saved c 13) k bytes is in
          inr (bytes_spared n c.priv o k o bytes e (omega arith) (omega (arith, long)))

  seal_spares : (c : Conf) (k h hn b bn : ℕ) → spares_slots n (h + hn) (bn + 16) ≡ true → After c (m.seal s c k h hn b bn)
  seal_spares c k h hn b bn e =
      let ad = bytes_from c.priv h hn in
      let body = bytes_from c.priv b bn in
      let w = wrapped s.mac (m.key_at s c k) ad body in
      let p1 = put_bytes c.priv (h + hn) w.cipher in
      let lc : length w.cipher ≤ bn = let x = crypt_short s.mac (m.key_at s c k) ad body in let l = length-bytes_from c.priv b bn in omega (arith, x, l) in
      let lt : length w.tag ≤ 16 = tag_short s.mac (m.key_at s c k) ad w.cipher in
      inr (slots_trans n c.priv p1 (put_bytes p1 (h + hn + bn) w.tag) (bytes_spared n c.priv (h + hn) (bn + 16) (h + hn) w.cipher e (omega arith) (omega (arith, lc)))
      (bytes_spared n p1 (h + hn) (bn + 16) (h + hn + bn) w.tag e (omega arith) (omega (arith, lt))))

  open_spares : (c : Conf) (k b bn : ℕ) (ad : List ℕ) (o : Option (List ℕ)) → spares_slots n b bn ≡ true → After c (m.opened c k ad b bn o)
  open_spares c k b bn ad None e = push_spares c c 0 (still c)
  open_spares c k b bn ad (Some body) e =
      let long = length-take bn body in
      let d : Conf = record c { priv = put_bytes c.priv b (take bn body); marks = c.marks ++ mark.Unwrapped ad (take bn body) (k == 0) ∷ [] } in
      push_spares c d 1 (bytes_spared n c.priv b bn b (take bn body) e (omega arith) (omega (arith, long)))

  stop_spares : (c : Conf) (o : Option ℕ) → After c (m.stop c o)
  stop_spares c None = tt
  stop_spares c (Some p) = inr (still c)

  jump_spares : (c : Conf) (p x : ℕ) (rest : List ℕ) → After c (m.jump_zero c p x rest)
  jump_spares c p zero rest = inr (still c)
  jump_spares c p (suc x) rest = inr (still c)

  element_spares : (priv : List ℕ) (o k i v : ℕ) → o % 2 ≡ 0 → spares_slots n o (2 * k) ≡ true → SameSlots n priv (m.with_element priv o k i v)
  element_spares priv o k i v even_ e = go (nat_lt i k) refl
    where
      go : (b : Bool) → nat_lt i k ≡ b → SameSlots n priv (if b then put_word priv (o + 2 * i) v else priv)
      go false is = same_slots n priv
      go true is = within (ltb-true i k is)
        where
          within : i < k → SameSlots n priv (put_word priv (o + 2 * i) v)
          within lt j d one small beside = get-put_other priv (o + 2 * i) v (offsets.end_at j + d) (omega (arith, even_)) (apart (spared_byte n o (2 * k) j d e (one, small, beside)))
              (apart_high (spared_byte n o (2 * k) j d e (one, small, beside)))
            where
              apart : (offsets.end_at j + d < o) ⊎ (o + 2 * k ≤ offsets.end_at j + d) → offsets.end_at j + d ≢ o + 2 * i
              apart (inl a) = omega (arith, a)
              apart (inr a) = omega (arith, a, lt)

              apart_high : (offsets.end_at j + d < o) ⊎ (o + 2 * k ≤ offsets.end_at j + d) → offsets.end_at j + d ≢ o + 2 * i + 1
              apart_high (inl a) = omega (arith, a)
              apart_high (inr a) = omega (arith, a, lt)

  through : (c : Conf) (priv : List ℕ) (r : OperationResult) → SameSlots n c.priv priv → SparesAfter n (record c { priv = priv }) r → After c r
  through c priv (Goes t) same (inl keyed) = inl keyed
  through c priv (Goes t) same (inr rest) = inr (slots_trans n c.priv priv t.priv same rest)
  through c priv (Stops v) same x = tt

  -- operations of sound code that keep the slots
  op_spares : (ops parts size : ℕ) (i : Ir) (c : Conf) → is_sound_op ops parts size i ≡ true → keeps_slots n i c ≡ true → After c (do_op s handle i c)
  op_spares ops parts size (ir.Push v) c ok e = push_spares c c v (still c)
  op_spares ops parts size (ir.Load o) c ok e = push_spares c c (word c.priv o) (still c)
  op_spares ops parts size (ir.Store o) c ok e =
      let even_ = eqb-true (o % 2) 0 (and_parts (is_even o) (may_change size o 2) ok).0 in
      at_top c c.stack (λ x rest. Goes (record (next c rest) { priv = put_word c.priv o x })) (λ x rest. inr (word_spared n c.priv o x even_ e))
  op_spares ops parts size (ir.LoadAt o k) c ok e = one_spares c (m.element c.priv o k)
  op_spares ops parts size (ir.StoreAt o k) c ok e =
      let even_ = eqb-true (o % 2) 0 (and_parts (is_even o) (may_change size o (2 * k)) ok).0 in
      at_top c c.stack (λ v below. on_top below (λ i rest. Goes (record (next c rest) { priv = m.with_element c.priv o k i v })))
      (λ v below. at_top c below (λ i rest. Goes (record (next c rest) { priv = m.with_element c.priv o k i v })) (λ i rest. inr (element_spares c.priv o k i v even_ e)))
  op_spares ops parts size (ir.Op f) c ok e = operator_spares f c
  op_spares ops parts size (ir.Jump p) c ok e = inr (still c)
  op_spares ops parts size (ir.JumpZero p) c ok e = at_top c c.stack (m.jump_zero c p) (λ x rest. jump_spares c p x rest)
  op_spares ops parts size (ir.JumpEqual o v p) c ok e = inr (still c)
  op_spares ops parts size (ir.Packet k) c ok e = at_top c c.stack (λ v rest. m.send s c k v (end_state c.priv k)) (λ v rest. send_spares c k v (end_state c.priv k))
  op_spares ops parts size ir.Drop c ok e = at_top c c.stack (λ x rest. Goes (next c rest)) (λ x rest. inr (still c))
  op_spares ops parts size ir.Emit c ok e = at_top c c.stack (λ x rest. m.emit c x rest (own_window s c.devices)) (λ x rest. emit_spares c x rest (own_window s c.devices))
  op_spares ops parts size ir.Stop c ok e = stop_spares c c.back
  op_spares ops parts size (ir.Saved r) c ok e = at_when c (m.is_saved r) (pushed c (saved c r)) (λ x. push_spares c c (saved c r) (still c))
  op_spares ops parts size ir.Inside c ok e = at_if c (in_public s.section (even (saved c 15))) (Stops (Violates _ c.marks)) (Goes (next c c.stack)) tt (inr (still c))
  op_spares ops parts size (ir.Meets r k) c ok e =
      at_when c (m.is_saved r) (pushed c (truth (is_bad_window s (saved c r) k))) (λ x. push_spares c c (truth (is_bad_window s (saved c r) k)) (still c))
  op_spares ops parts size (ir.CopyIn k o) c ok e = copy_in_spares c k o e
  op_spares ops parts size (ir.CopyOut k o) c ok e = at_top c c.stack (m.copy_out s c k o) (λ off rest. copy_out_spares c k o off rest)
  op_spares ops parts size (ir.Seal k h hn b bn) c ok e = seal_spares c k h hn b bn (and_parts (k == 0) (spares_slots n (h + hn) (bn + 16)) e).1
  op_spares ops parts size (ir.Open k h hn b bn) c ok e =
      open_spares c k b bn (bytes_from c.priv h hn) (unwrapped s.mac (m.key_at s c k) (bytes_from c.priv h hn) (bytes_from c.priv (h + hn) bn) (bytes_from c.priv (h + hn + bn) 16))
      (and_parts (spares_slots n b bn) (m.is_key_kept c k) e).0
  op_spares ops parts size (ir.SetEnd k) c ok e = inl e
  op_spares ops parts size ir.Sense c ok e = sense_spares c (own_window s c.devices)
  op_spares ops parts size (ir.Handler h) c ok e =
      through c (put_word c.priv 4 0) (handle h (record c { priv = put_word c.priv 4 0 })) (word_spared n c.priv 4 0 refl refl) (handles h (record c { priv = put_word c.priv 4 0 }))
  op_spares ops parts size ir.Leave c ok e = tt

  pub some_spares : (ops parts size : ℕ) (i : Ir) (c : Conf) → is_sound_op ops parts size i ≡ true → SparesAfter n c (do_at s handle (Some i) c)
  some_spares ops parts size i c ok =
      at_when c (keeps_slots n i c && names_no_key n i c.stack) (do_op s handle i c) (λ e. op_spares ops parts size i c ok (and_parts (keeps_slots n i c) (names_no_key n i c.stack) e).0)
