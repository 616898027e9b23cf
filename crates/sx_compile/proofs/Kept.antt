-- Each operation keeps what a run keeps.
use Rattle.std.proofs.Common.{◌≡◌, ◌≢◌, ℕ, zero, suc, ◌+◌, ◌*◌, ◌/◌, ◌%◌, ◌<◌, ◌≤◌, ◌⊎◌, inl, inr, Bool, true, false, ◌&&◌, ◌||◌, ◌==◌, List, [], ◌∷◌, ◌++◌}
use Rattle.std.proofs.Common.{length, get_or, set, take, Option, Some, None, Result, Ok, Err, refl, sym, ap, ◌∙◌, subst, arith}
use Rattle.std.specs.Prelude.{if◌then◌else◌, nat_le, nat_lt}
use Rattle.std.proofs.lemmas.List.{append-nil, append_assoc, get_or-set_other, length-take}
use Rattle.std.proofs.lemmas.Bool.{and_parts, leb-true, ltb-true, or_cases}
use Rattle.sx_lang.specs.declared.tree.UnOp.TheVariants as unary
use Rattle.sx_lang.specs.declared.tree.BinOp.TheVariants as binary
use Rattle.sx_mean.specs.Meaning.{apply, combine}
use Rattle.sx_mean.specs.Offsets as offsets
use Rattle.sx_mean.specs.Working as working
use Rattle.sx_rules.specs.declared.access.Violation.{Violation}
use Rattle.sx_rules.specs.declared.access.Violation.TheVariants as bad
use Rattle.sx_rules.specs.Access.{in_public}
use Rattle.sx_bus.specs.declared.devices.Kind.{Kind}
use Rattle.sx_bus.specs.declared.devices.Kind.TheVariants as kind
use Rattle.sx_bus.specs.declared.devices.Window.{Window}
use Rattle.sx_bus.specs.Devices.{cleared, HaveSamples}
use Rattle.sx_bus.proofs.Changed.{HaveSamples-cleared}
use Rattle.sx_tag.specs.Wrap.{unwrapped, wrapped}
use Rattle.spec_machine.specs.Memory.{even, word, put_word, put_bytes, bytes_from}
use Rattle.spec_machine.proofs.PublicKept.{put_other}
use Rattle.sx_image.specs.Reach.{Goes, Stops}
use Rattle.spec_invocation.specs.Marks.{Mark, HasPrefix}
use Rattle.spec_invocation.specs.Marks as mark
use Rattle.spec_invocation.specs.Setup.{Setup}
use Rattle.spec_invocation.specs.ModuleState.{EndState, end_state}
use Rattle.spec_invocation.specs.Windows.{is_bad_window, read_byte, read_bytes, then_, two, write_bytes}
use Rattle.spec_invocation.specs.Acts.{event_packet, event_header, own_window}
use Rattle.sx_ir.specs.declared.ir.Ir.{Ir}
use Rattle.sx_ir.specs.declared.ir.Ir.TheVariants as ir
use Rattle.sx_ir.specs.declared.ir.IrOp.{IrOp}
use Rattle.sx_ir.specs.declared.ir.IrOp.TheVariants as op
use Rattle.sx_ir.specs.Conf.{Conf, Violates, Stuck}
use Rattle.sx_ir.specs.Meaning as m
use Rattle.sx_ir.specs.Meaning.{OperationResult, saved, do_at, do_op, keeps_slots, names_no_key, next, when, on_top, pushed, pieces}
use Rattle.sx_ir.specs.Sound.{are_sealed, is_even, is_free, is_sound_op, may_change}
use Rattle.sx_stub.proofs.Mem.{word_same}
use Rattle.lemmas.specs.Truth.{truth}
use Rattle.sx_tmpl.proofs.Running.Outcomes.{ok_same}

-- a place to return to is the one that was, or the next one
abbrev pub ReturnsFrom : Conf → Option ℕ → Type 0
ReturnsFrom c None = Unit {0}
ReturnsFrom c (Some p) = (c.back ≡ Some p) ⊎ (p ≡ c.place + 1)

-- what a step keeps
pub record Kept (c t : Conf) : Type 0 where
  pub marks : HasPrefix t.marks c.marks
  pub window : saved t 14 ≡ saved c 14
  pub room : length c.stack ≤ 160 → length t.stack ≤ 160
  pub back : ReturnsFrom c t.back
  pub samples : HaveSamples c.devices → HaveSamples t.devices

abbrev pub KeptAfter : Conf → OperationResult → Type 0
KeptAfter c (Goes t) = Kept c t
KeptAfter c (Stops (Violates v marks)) = HasPrefix marks c.marks
KeptAfter c (Stops Stuck) = Unit {0}

pub prefix_same : (marks : List Mark) → HasPrefix marks marks
prefix_same marks = ([], append-nil marks)

prefix_more : (marks : List Mark) (x : Mark) → HasPrefix (marks ++ x ∷ []) marks
prefix_more marks x = (x ∷ [], refl)

pub prefix_trans : (a b c : List Mark) → HasPrefix b a → HasPrefix c b → HasPrefix c a
prefix_trans a b c x y = (x.0 ++ y.0, sym (append_assoc a x.0 y.0) ∙ ap (λ (l : List Mark). l ++ y.0) x.1 ∙ y.1)

-- bytes beside the caller's registers
abbrev Beside : ℕ → ℕ → Type 0
Beside o n = (o + n ≤ 6) ⊎ (14 ≤ o)

-- a word written elsewhere
word_kept : (priv : List ℕ) (o x : ℕ) → Beside o 2 → word (put_word priv o x) 10 ≡ word priv 10
word_kept priv o x far = word_same priv (put_word priv o x) 10 10 refl refl (other 10 (omega arith) (omega arith)) (other 11 (omega arith) (omega arith))
  where
    ne : Beside o 2 → (k : ℕ) → 10 ≤ k → k ≤ 11 → (d : ℕ) → d < 2 → k ≢ even o + d
    ne (inl p) k lo hi d lt = omega (arith, p, lo, hi, lt)
    ne (inr p) k lo hi d lt = omega (arith, p, lo, hi, lt)

    other : (k : ℕ) → 10 ≤ k → k ≤ 11 → get_or (put_word priv o x) k 0 ≡ get_or priv k 0
    other k lo hi = get_or-set_other (set priv (even o) (x % 256)) (even o + 1) k (x / 256) 0 (ne far k lo hi 1 (omega arith))
        ∙ get_or-set_other priv (even o) k (x % 256) 0 (λ e. ne far k lo hi 0 (omega arith) (omega (arith, e)))

bytes_kept : (priv : List ℕ) (o : ℕ) (bs : List ℕ) → Beside o (length bs) → word (put_bytes priv o bs) 10 ≡ word priv 10
bytes_kept priv o bs far = word_same priv (put_bytes priv o bs) 10 10 refl refl (put_other bs priv o 10 (off far 10 (omega arith) (omega arith)))
    (put_other bs priv o 11 (off far 11 (omega arith) (omega arith)))
  where
    off : Beside o (length bs) → (k : ℕ) → 10 ≤ k → k < 14 → (k < o) ⊎ (o + length bs ≤ k)
    off (inl p) k lo hi = inr (omega (arith, p, lo))
    off (inr p) k lo hi = inl (omega (arith, p, hi))

-- what was read has its length
pub length-read_bytes : (s : Setup) (devices : List Window) (mem : List ℕ) (a n : ℕ) (bs : List ℕ) → read_bytes s devices mem a n ≡ Ok bs → length bs ≡ n
unfolding read_bytes
length-read_bytes s devices mem a zero bs e = ap length (sym (ok_same [] bs e))
length-read_bytes s devices mem a (suc n) bs e = go (read_byte s devices mem a) (read_bytes s devices mem (a + 1) n) e (λ rest f. length-read_bytes s devices mem (a + 1) n rest f)
  where
    err_ok : (v : Violation) → ◌≡◌ {A = Result (List ℕ) Violation} (Err v) (Ok bs) → ⊥
    err_ok v e = cc

    go : (r : Result ℕ Violation) (t : Result (List ℕ) Violation) → then_ r (λ b. then_ t (λ bs. Ok (b ∷ bs))) ≡ Ok bs → ((rest : List ℕ) → t ≡ Ok rest → length rest ≡ n) → length bs ≡ suc n
    go (Err v) t e f = absurd (err_ok v e)
    go (Ok b) (Err v) e f = absurd (err_ok v e)
    go (Ok b) (Ok rest) e f = ap length (sym (ok_same (b ∷ rest) bs e)) ∙ ap suc (f rest refl)

beside : (size o n : ℕ) → may_change size o n ≡ true → Beside o n
beside size o n h = go (or_cases (nat_le (o + n) 6) (nat_le 14 o) (and_parts (is_free size o n) (nat_le (o + n) 6 || nat_le 14 o) h).1)
  where
    go : (nat_le (o + n) 6 ≡ true) ⊎ (nat_le 14 o ≡ true) → Beside o n
    go (inl x) = inl (leb-true (o + n) 6 x)
    go (inr x) = inr (leb-true 14 o x)

module _ (s : Setup) (handle : ℕ → Conf → OperationResult) (handles : (h : ℕ) (c : Conf) → KeptAfter c (handle h c)) where
  abbrev Room : Conf → List ℕ → Type 0
  Room c stack = length c.stack ≤ 160 → length stack ≤ 160

  still : (c : Conf) → ReturnsFrom c c.back
  still c = go c.back refl
    where
      go : (o : Option ℕ) → c.back ≡ o → ReturnsFrom c o
      go None e = tt
      go (Some p) e = inl e

  -- nothing that a run keeps is touched
  same : (c : Conf) (place : ℕ) (stack : List ℕ) → Room c stack → Kept c (record c { place = place; stack = stack })
  same c place stack r = record { marks = prefix_same c.marks; window = refl; room = r; back = still c; samples = λ h. h }

  with_priv : (c : Conf) (place : ℕ) (stack priv mem : List ℕ) (devices : List Window) (marks : List Mark) → Room c stack → word priv 10 ≡ word c.priv 10 → HasPrefix marks c.marks
      → (HaveSamples c.devices → HaveSamples devices)
      → Kept c (record c { place = place; stack = stack; priv = priv; mem = mem; devices = devices; marks = marks })
  with_priv c place stack priv mem devices marks r e b sm = record { marks = b; window = e; room = r; back = still c; samples = sm }

  when_kept : (c : Conf) (b : Bool) (go : OperationResult) → (b ≡ true → KeptAfter c go) → KeptAfter c (when b go)
  when_kept c true go h = h refl
  when_kept c false go h = tt

  top_kept : (c : Conf) (stack : List ℕ) (go : ℕ → List ℕ → OperationResult) → ((x : ℕ) (rest : List ℕ) → length stack ≡ suc (length rest) → KeptAfter c (go x rest)) → KeptAfter c (on_top stack go)
  top_kept c [] go h = tt
  top_kept c (x ∷ rest) go h = h x rest refl

  if_kept : (c : Conf) (b : Bool) (x y : OperationResult) → KeptAfter c x → KeptAfter c y → KeptAfter c (if b then x else y)
  if_kept c true x y p q = p
  if_kept c false x y p q = q

  push_kept : (c : Conf) (v : ℕ) → KeptAfter c (pushed c v)
  push_kept c v = when_kept c (nat_lt (length c.stack) 160) (Goes (next c (v ∷ c.stack))) (λ x. let small = ltb-true (length c.stack) 160 x in
      same c (c.place + 1) (v ∷ c.stack) (λ r. omega (arith, small)))

  two_kept : (c : Conf) (f : ℕ → ℕ → ℕ) → KeptAfter c (on_top c.stack (λ y below. on_top below (λ x rest. Goes (next c (f x y ∷ rest)))))
  two_kept c f = top_kept c c.stack (λ y below. on_top below (λ x rest. Goes (next c (f x y ∷ rest))))
      (λ y below e1. top_kept c below (λ x rest. Goes (next c (f x y ∷ rest))) (λ x rest e2. same c (c.place + 1) (f x y ∷ rest) (λ r. omega (arith, e1, e2, r))))

  one_kept : (c : Conf) (f : ℕ → ℕ) → KeptAfter c (on_top c.stack (λ x rest. Goes (next c (f x ∷ rest))))
  one_kept c f = top_kept c c.stack (λ x rest. Goes (next c (f x ∷ rest))) (λ x rest e. same c (c.place + 1) (f x ∷ rest) (λ r. omega (arith, e, r)))

  operator_kept : (f : IrOp) (c : Conf) → KeptAfter c (m.operated f c)
  operator_kept op.Add c = two_kept c (combine binary.Add)
  operator_kept op.Sub c = two_kept c (combine binary.Sub)
  operator_kept op.Mul c = two_kept c (combine binary.Mul)
  operator_kept op.And c = two_kept c (combine binary.And)
  operator_kept op.Or c = two_kept c (combine binary.Or)
  operator_kept op.Xor c = two_kept c (combine binary.Xor)
  operator_kept op.Eq c = two_kept c (combine binary.Eq)
  operator_kept op.Lt c = two_kept c (combine binary.Lt)
  operator_kept op.Neg c = one_kept c (apply unary.Neg)
  operator_kept op.Inv c = one_kept c (apply unary.Inv)
  operator_kept op.Not c = one_kept c (apply unary.Not)

  -- a copy to the out-window
  copied : (c c1 : Conf) (after : List ℕ → Conf) (r : Result (List ℕ) Violation) → HasPrefix c1.marks c.marks → ((mem : List ℕ) → Kept c (after mem)) → KeptAfter c (m.copied_out r c1 after)
  copied c c1 after (Err v) b f = b
  copied c c1 after (Ok mem) b f = f mem

  send_kept : (c : Conf) (k v : ℕ) (e : EndState) → KeptAfter c (m.send s c k v e)
  send_kept c k v e =
      let seal = mark.Wrapped (event_header e) (two v) false in
      when_kept c (m.has_out_window s c) (if e.is_open && nat_lt e.number 65535 then m.send_open s c k v e else Goes (next c c.stack))
      (λ x. if_kept c (e.is_open && nat_lt e.number 65535) (m.send_open s c k v e) (Goes (next c c.stack))
      (when_kept c (m.has_packet_room c) (m.copied_out (write_bytes s c.devices c.mem (saved c 14 + 24 * pieces c) (event_packet s e v)) (m.sealed_event c e v) (m.packed (m.sealed_event c e v) k e))
      (λ le. copied c (m.sealed_event c e v) (m.packed (m.sealed_event c e v) k e) (write_bytes s c.devices c.mem (saved c 14 + 24 * pieces c) (event_packet s e v)) (prefix_more c.marks seal)
      (λ mem. with_priv c (c.place + 1) c.stack (put_word (put_word c.priv (offsets.end_number_at k) (e.number + 1)) 4 (pieces c + 1)) mem c.devices (c.marks ++ seal ∷ []) (λ r. r)
      (word_kept (put_word c.priv (offsets.end_number_at k) (e.number + 1)) 4 (pieces c + 1) (inl (omega arith))
      ∙ word_kept c.priv (offsets.end_number_at k) (e.number + 1) (inr (omega arith))) (prefix_more c.marks seal) (λ h. h))))
      (same c (c.place + 1) c.stack (λ r. r)))

  copy_out_kept : (c : Conf) (n o off : ℕ) (rest : List ℕ) → Room c rest → KeptAfter c (m.copy_out s c n o off rest)
  copy_out_kept c n o off rest r =
      when_kept c (m.has_out_window s c && m.has_copy_room c off n) (m.copied_out (write_bytes s c.devices c.mem (saved c 14 + off) (bytes_from c.priv o n)) c
      (λ mem. record (next c rest) { mem = mem }))
      (λ x. copied c c (λ mem. record (next c rest) { mem = mem }) (write_bytes s c.devices c.mem (saved c 14 + off) (bytes_from c.priv o n)) (prefix_same c.marks)
      (λ mem. with_priv c (c.place + 1) rest c.priv mem c.devices c.marks r refl (prefix_same c.marks) (λ h. h)))

  emit_kept : (c : Conf) (x : ℕ) (rest : List ℕ) (o : Option (ℕ × Window)) → Room c rest → KeptAfter c (m.emit c x rest o)
  emit_kept c x rest None r = tt
  emit_kept c x rest (Some d) r = by_kind d.1.kind
    where
      by_kind : (k : Kind) → KeptAfter c (m.emitted c x rest k d.0)
      by_kind kind.Actuator = with_priv c (c.place + 1) rest c.priv c.mem c.devices (c.marks ++ mark.Actuated d.0 x ∷ []) r refl (prefix_more c.marks (mark.Actuated d.0 x)) (λ h. h)
      by_kind kind.Sensor = tt

  push_more : (c : Conf) (v : ℕ) (priv : List ℕ) (devices : List Window) (x : Mark) → word priv 10 ≡ word c.priv 10 → (HaveSamples c.devices → HaveSamples devices)
      → KeptAfter c (pushed (record c { priv = priv; devices = devices; marks = c.marks ++ x ∷ [] }) v)
  push_more c v priv devices x e sm =
      when_kept c (nat_lt (length c.stack) 160) (Goes (record c { place = c.place + 1; stack = v ∷ c.stack; priv = priv; devices = devices; marks = c.marks ++ x ∷ [] }))
      (λ y. let small = ltb-true (length c.stack) 160 y in with_priv c (c.place + 1) (v ∷ c.stack) priv c.mem devices (c.marks ++ x ∷ []) (λ r. omega (arith, small)) e (prefix_more c.marks x) sm)

  sense_kept : (c : Conf) (o : Option (ℕ × Window)) → KeptAfter c (m.sense c o)
  sense_kept c None = tt
  sense_kept c (Some d) = by_kind d.1.kind
    where
      by_kind : (k : Kind) → KeptAfter c (m.sensor_read c d.0 d.1 k)
      by_kind kind.Sensor =
          if_kept c d.1.fresh (pushed (record c { devices = cleared c.devices d.0; marks = c.marks ++ mark.Sampled d.0 d.1.value ∷ [] }) (0x8000 + d.1.value)) (pushed c 0)
          (push_more c (0x8000 + d.1.value) c.priv (cleared c.devices d.0) (mark.Sampled d.0 d.1.value) refl (HaveSamples-cleared c.devices d.0)) (push_kept c 0)
      by_kind kind.Actuator = tt

  copy_in_kept : (c : Conf) (n o : ℕ) → Beside o n → KeptAfter c (m.copy_in s c n o)
  copy_in_kept c n o far = when_kept c (m.has_in_window s c && nat_le n 40) (m.copied_in c o (read_bytes s c.devices c.mem (saved c 13) n))
      (λ x. by_read (read_bytes s c.devices c.mem (saved c 13) n) refl)
    where
      by_read : (r : Result (List ℕ) Violation) → read_bytes s c.devices c.mem (saved c 13) n ≡ r → KeptAfter c (m.copied_in c o r)
      by_read (Err v) e = prefix_same c.marks
      by_read (Ok bytes) e =
          with_priv c (c.place + 1) c.stack (put_bytes c.priv o bytes) c.mem c.devices c.marks (λ r. r)
          (bytes_kept c.priv o bytes (subst (λ (k : ℕ). Beside o k) (sym (length-read_bytes s c.devices c.mem (saved c 13) n bytes e)) far)) (prefix_same c.marks) (λ h. h)

  seal_kept : (c : Conf) (k h hn b bn : ℕ) → 14 ≤ h + hn → KeptAfter c (m.seal s c k h hn b bn)
  seal_kept c k h hn b bn far =
      let ad = bytes_from c.priv h hn in
      let body = bytes_from c.priv b bn in
      let w = wrapped s.mac (m.key_at s c k) ad body in
      with_priv c (c.place + 1) c.stack (put_bytes (put_bytes c.priv (h + hn) w.cipher) (h + hn + bn) w.tag) c.mem c.devices (c.marks ++ mark.Wrapped ad body (k == 0) ∷ []) (λ r. r)
      (bytes_kept (put_bytes c.priv (h + hn) w.cipher) (h + hn + bn) w.tag (inr (omega (arith, far)))
      ∙ bytes_kept c.priv (h + hn) w.cipher (inr (omega (arith, far)))) (prefix_more c.marks (mark.Wrapped ad body (k == 0))) (λ h. h)

  open_kept : (c : Conf) (k b bn : ℕ) (ad : List ℕ) (o : Option (List ℕ)) → Beside b bn → KeptAfter c (m.opened c k ad b bn o)
  open_kept c k b bn ad None far = push_kept c 0
  open_kept c k b bn ad (Some body) far = push_more c 1 (put_bytes c.priv b (take bn body)) c.devices (mark.Unwrapped ad (take bn body) (k == 0)) (bytes_kept c.priv b (take bn body) (shorter far))
      (λ h. h)
    where
      shorter : Beside b bn → Beside b (length (take bn body))
      shorter (inl p) = let l = length-take bn body in inl (omega (arith, p, l))
      shorter (inr p) = inr p

  set_end_kept : (c : Conf) (k : ℕ) → KeptAfter c (m.set_end c k)
  set_end_kept c k =
      let field = word c.priv (working.packet_at + 2) in
      let key = bytes_from c.priv working.plain_at 16 in
      let p1 = put_word c.priv (offsets.end_at k) field in
      let p2 = put_word p1 (offsets.end_number_at k) 0 in
      let p3 = put_word p2 (offsets.end_open_at k) 1 in
      with_priv c (c.place + 1) c.stack (put_bytes p3 (offsets.end_key_at k) key) c.mem c.devices c.marks (λ r. r)
      (bytes_kept p3 (offsets.end_key_at k) key (inr (omega arith)) ∙ word_kept p2 (offsets.end_open_at k) 1 (inr (omega arith)) ∙ word_kept p1 (offsets.end_number_at k) 0 (inr (omega arith))
      ∙ word_kept c.priv (offsets.end_at k) field (inr (omega arith))) (prefix_same c.marks) (λ h. h)

  stop_kept : (c : Conf) (o : Option ℕ) → KeptAfter c (m.stop c o)
  stop_kept c None = tt
  stop_kept c (Some p) = record { marks = prefix_same c.marks; window = refl; room = λ r. r; back = tt; samples = λ h. h }

  jump_kept : (c : Conf) (p x : ℕ) (rest : List ℕ) → Room c rest → KeptAfter c (m.jump_zero c p x rest)
  jump_kept c p zero rest r = same c p rest r
  jump_kept c p (suc x) rest r = same c (c.place + 1) rest r

  element_kept : (priv : List ℕ) (o n i v : ℕ) → Beside o (2 * n) → word (m.with_element priv o n i v) 10 ≡ word priv 10
  element_kept priv o n i v far = go (nat_lt i n) refl
    where
      inside : Beside o (2 * n) → i < n → Beside (o + 2 * i) 2
      inside (inl p) lt = inl (omega (arith, p, lt))
      inside (inr p) lt = inr (omega (arith, p))

      go : (b : Bool) → nat_lt i n ≡ b → word (if b then put_word priv (o + 2 * i) v else priv) 10 ≡ word priv 10
      go true e = word_kept priv (o + 2 * i) v (inside far (ltb-true i n e))
      go false e = refl

  through : (c : Conf) (priv : List ℕ) (r : OperationResult) → word priv 10 ≡ word c.priv 10 → KeptAfter (record c { priv = priv }) r → KeptAfter c r
  through c priv (Goes u) e k = record { marks = k.marks; window = k.window ∙ e; room = k.room; back = returns u.back k.back; samples = k.samples }
    where
      returns : (o : Option ℕ) → ReturnsFrom (record c { priv = priv }) o → ReturnsFrom c o
      returns None x = tt
      returns (Some p) x = x
  through c priv (Stops (Violates v marks)) e k = k
  through c priv (Stops Stuck) e k = tt

  -- sound operations keep it
  op_kept : (ops parts size : ℕ) (i : Ir) (c : Conf) → is_sound_op ops parts size i ≡ true → KeptAfter c (do_op s handle i c)
  op_kept ops parts size (ir.Push n) c ok = push_kept c n
  op_kept ops parts size (ir.Load o) c ok = push_kept c (word c.priv o)
  op_kept ops parts size (ir.Store o) c ok =
      top_kept c c.stack (λ x rest. Goes (record (next c rest) { priv = put_word c.priv o x }))
      (λ x rest e. with_priv c (c.place + 1) rest (put_word c.priv o x) c.mem c.devices c.marks (λ r. omega (arith, e, r))
      (word_kept c.priv o x (beside size o 2 (and_parts (is_even o) (may_change size o 2) ok).1)) (prefix_same c.marks) (λ h. h))
  op_kept ops parts size (ir.LoadAt o n) c ok = one_kept c (m.element c.priv o n)
  op_kept ops parts size (ir.StoreAt o n) c ok =
      top_kept c c.stack (λ v below. on_top below (λ i rest. Goes (record (next c rest) { priv = m.with_element c.priv o n i v })))
      (λ v below e1. top_kept c below (λ i rest. Goes (record (next c rest) { priv = m.with_element c.priv o n i v }))
      (λ i rest e2. with_priv c (c.place + 1) rest (m.with_element c.priv o n i v) c.mem c.devices c.marks (λ r. omega (arith, e1, e2, r))
      (element_kept c.priv o n i v (beside size o (2 * n) (and_parts (is_even o) (may_change size o (2 * n)) ok).1)) (prefix_same c.marks) (λ h. h)))
  op_kept ops parts size (ir.Op f) c ok = operator_kept f c
  op_kept ops parts size (ir.Jump p) c ok = same c p c.stack (λ r. r)
  op_kept ops parts size (ir.JumpZero p) c ok = top_kept c c.stack (m.jump_zero c p) (λ x rest e. jump_kept c p x rest (λ r. omega (arith, e, r)))
  op_kept ops parts size (ir.JumpEqual o n p) c ok = same c (if word c.priv o == n then p else c.place + 1) c.stack (λ r. r)
  op_kept ops parts size (ir.Packet k) c ok = top_kept c c.stack (λ v rest. m.send s c k v (end_state c.priv k)) (λ v rest e. send_kept c k v (end_state c.priv k))
  op_kept ops parts size ir.Drop c ok = top_kept c c.stack (λ x rest. Goes (next c rest)) (λ x rest e. same c (c.place + 1) rest (λ r. omega (arith, e, r)))
  op_kept ops parts size ir.Emit c ok = top_kept c c.stack (λ x rest. m.emit c x rest (own_window s c.devices)) (λ x rest e. emit_kept c x rest (own_window s c.devices) (λ r. omega (arith, e, r)))
  op_kept ops parts size ir.Stop c ok = stop_kept c c.back
  op_kept ops parts size (ir.Saved r) c ok = when_kept c (m.is_saved r) (pushed c (saved c r)) (λ x. push_kept c (saved c r))
  op_kept ops parts size ir.Inside c ok = if_kept c (in_public s.section (even (saved c 15))) (Stops (Violates bad.Illegal c.marks)) (Goes (next c c.stack)) (prefix_same c.marks)
      (same c (c.place + 1) c.stack (λ r. r))
  op_kept ops parts size (ir.Meets r n) c ok = when_kept c (m.is_saved r) (pushed c (truth (is_bad_window s (saved c r) n))) (λ x. push_kept c (truth (is_bad_window s (saved c r) n)))
  op_kept ops parts size (ir.CopyIn n o) c ok = copy_in_kept c n o (beside size o n (and_parts (nat_le 1 n) (may_change size o n) ok).1)
  op_kept ops parts size (ir.CopyOut n o) c ok = top_kept c c.stack (m.copy_out s c n o) (λ off rest e. copy_out_kept c n o off rest (λ r. omega (arith, e, r)))
  op_kept ops parts size (ir.Seal k h hn b bn) c ok = seal_kept c k h hn b bn (far (beside size (h + hn) (bn + 16) (and_parts (are_sealed size k h hn b bn) (may_change size (h + hn) (bn + 16)) ok).1))
    where
      far : Beside (h + hn) (bn + 16) → 14 ≤ h + hn
      far (inl p) = absurd (omega (arith, p))
      far (inr p) = p
  op_kept ops parts size (ir.Open k h hn b bn) c ok =
      open_kept c k b bn (bytes_from c.priv h hn) (unwrapped s.mac (m.key_at s c k) (bytes_from c.priv h hn) (bytes_from c.priv (h + hn) bn) (bytes_from c.priv (h + hn + bn) 16))
      (beside size b bn (and_parts (are_sealed size k h hn b bn) (may_change size b bn) ok).1)
  op_kept ops parts size (ir.SetEnd k) c ok = set_end_kept c k
  op_kept ops parts size ir.Sense c ok = sense_kept c (own_window s c.devices)
  op_kept ops parts size (ir.Handler h) c ok = through c (put_word c.priv 4 0) (handle h (record c { priv = put_word c.priv 4 0 })) (word_kept c.priv 4 0 (inl (omega arith)))
      (handles h (record c { priv = put_word c.priv 4 0 }))
  op_kept ops parts size ir.Leave c ok = tt

  pub some_kept : (ops parts size : ℕ) (i : Ir) (c : Conf) → is_sound_op ops parts size i ≡ true → KeptAfter c (do_at s handle (Some i) c)
  some_kept ops parts size i c ok = when_kept c (keeps_slots (length s.ends) i c && names_no_key (length s.ends) i c.stack) (do_op s handle i c) (λ x. op_kept ops parts size i c ok)
