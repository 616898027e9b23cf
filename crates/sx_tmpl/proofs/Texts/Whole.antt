-- From the operations' templates to the whole code.
use Rattle.std.proofs.Common.{◌≡◌, ℕ, zero, suc, ◌+◌, ◌-◌, ◌*◌, ◌%◌, ◌<◌, ◌≤◌, inl, inr, Bool, true, false, not, ◌&&◌, nat_le, ◌++◌, List, [], ◌∷◌, length, Option, Some, None, refl, sym, ◌∙◌, ap, subst, arith}
use Rattle.sx_rules.specs.declared.access.Violation.{Violation}
use Rattle.spec_machine.specs.Memory.{word, put_word, bytes_from, put_bytes}
use Rattle.spec_invocation.specs.Marks.{Mark, HasPrefix}
use Rattle.sx_image.specs.Watched.{Watched}
use Rattle.sx_ir.specs.Conf.{Conf, Halt, Violates, Stuck}
use Rattle.sx_ir.specs.Meaning.{next, OperationResult, when, pushed, operated, emit, emitted, saved, stop, is_saved, has_out_window, has_copy_room, do_op, do_at}
use Rattle.sx_tmpl.specs.Running.{Regs, Fixed, Data, running, Safe}
use Rattle.sx_tmpl.proofs.Running.Outcomes.{goes_same, goes_stops}
use Rattle.sx_tmpl.proofs.Running.MidRun.{Stands, Runs, later}
use Rattle.sx_tmpl.specs.Shows.{base_of, IsData, ShowsConfiguration, Stood}
use Rattle.sx_tmpl.proofs.Running.Steps.{Text, InText}
use Rattle.std.specs.Prelude.{slice_get, nat_lt, ◌==◌}
use Rattle.std.proofs.lemmas.Bool.{ltb-true, leb-true, eqb-true, or_cases, and_parts}
use Rattle.sx_tmpl.proofs.Operations.Plain.{Leads, push_leads, load_leads, store_leads, add_leads}
use Rattle.sx_image.specs.Reach.{Goes, Stops}
use Rattle.sx_tmpl.proofs.Texts.Made.{made_prefix}
use Rattle.spec_invocation.specs.Pieces.{made_bytes}
use Rattle.sx_mean.specs.Offsets as offsets
use Rattle.sx_mean.specs.Working as working
use Rattle.spec_invocation.specs.Marks as mark
use Rattle.sx_tag.specs.Mac.{IsTag}
use Rattle.spec_invocation.specs.ModuleState.{end_state}
use Rattle.spec_invocation.specs.Acts.{own_window}
use Rattle.sx_bus.specs.declared.devices.Window.{Window}
use Rattle.sx_bus.specs.declared.devices.Kind.{Kind}
use Rattle.sx_bus.specs.declared.devices.Kind.TheVariants.{Sensor, Actuator}
use Rattle.sx_ir.specs.declared.ir.IrOp.{IrOp}
use Rattle.sx_ir.specs.declared.ir.IrOp.TheVariants as op
use Rattle.sx_ir.specs.declared.ir.Ir.{Ir}
use Rattle.sx_ir.specs.declared.ir.Ir.TheVariants as ir
use Rattle.sx_ir.specs.Counts.{count_of}
use Rattle.sx_ir.specs.Meaning.{op_step, op_count, count_at, handler_count, has_key_mark, is_key_kept, is_open_slot, keeps_slots, names_no_key, OnViolation, send, spares_slots}
use Rattle.sx_tmpl.specs.Template.{Addresses, operator_words, template, slot_words, routine_words}
use Rattle.sx_tmpl.proofs.Operations.Branch.{jump_leads, jump_zero_leads, jump_not_leads, jump_equal_leads, lt_leads, eq_leads}
use Rattle.sx_tmpl.proofs.Operations.Arrays.{IsArray, load_at_leads, store_at_leads}
use Rattle.sx_tmpl.proofs.Operations.Arith.{sub_leads, and_leads, or_leads, xor_leads, neg_leads, inv_leads, not_leads, drop_leads}
use Rattle.sx_tmpl.proofs.Operations.Multiply.{mul_leads}
use Rattle.sx_tmpl.proofs.Operations.PacketOp.{packet_goes, packet_breaks}
use Rattle.sx_tmpl.proofs.Operations.DeviceOps.{emit_leads, sense_fresh, sense_stale}
use Rattle.sx_tmpl.proofs.Operations.InsideOp.{inside_ends}
use Rattle.sx_tmpl.proofs.Operations.SetEndOp.{set_end_leads}
use Rattle.sx_tmpl.proofs.Operations.MeetsOp.{meets_leads}
use Rattle.spec_invocation.specs.Windows.{is_bad_window}
use Rattle.sx_tmpl.proofs.Operations.SealOps.{KeptAt, SealsAt, seal_leads, open_leads}
use Rattle.sx_tmpl.proofs.Operations.CopyOps.{Ending, Goes_to, Breaks_off, No_meaning, copy_in_ends, copy_out_ends}
use Rattle.sx_tmpl.proofs.Running.Holding.{IsRange, low_shown}
use Rattle.sx_tmpl.proofs.Running.Entered.{AreKept, IsKept, are_kept, was_open}
use Rattle.sx_tmpl.proofs.Texts.Named.{names_none}
use Rattle.sx_tmpl.specs.Unseen.{NamesNoKey, WasOpen}
use Rattle.sx_bus.specs.Devices.{cleared}
use Rattle.std.proofs.Common.{take, cond}
use Rattle.sx_tag.specs.Wrap.{unwrapped}
use Rattle.sx_ir.specs.Meaning.{key_at, opened, sense, sensor_read, copy_in, copy_out}
use Rattle.sx_tmpl.proofs.Operations.Parts.{handler_leads, stop_leads}
use Rattle.lemmas.specs.Truth.{truth}

-- an address where code goes on
abbrev pub IsTarget : Fixed → ℕ → Type 0
IsTarget f a = InText f a × (a % 2 ≡ 0)

-- the bytes of the private section
abbrev pub size_of : Fixed → ℕ
size_of f = f.setup.section.layout.priv_to - base_of f

size_is : (f : Fixed) (priv : List ℕ) → base_of f + length priv ≡ f.setup.section.layout.priv_to → size_of f ≡ length priv
size_is f priv e = omega arith

-- what an operation is to be like so that it has a template
abbrev pub IsSoundOp : Fixed → Addresses → Ir → Type 0
IsSoundOp f a (ir.Push n) = n < 65536
IsSoundOp f a (ir.Load o) = (o % 2 ≡ 0) × IsData o × (o + 2 ≤ size_of f)
IsSoundOp f a (ir.Store o) = (o % 2 ≡ 0) × IsData o × (o + 2 ≤ size_of f)
IsSoundOp f a (ir.LoadAt o n) = (n < 65536) × IsArray o n (size_of f)
IsSoundOp f a (ir.StoreAt o n) = (n < 65536) × IsArray o n (size_of f)
IsSoundOp f a (ir.Op g) = Unit {0}
IsSoundOp f a (ir.Jump q) = IsTarget f (a.at q)
IsSoundOp f a (ir.JumpZero q) = IsTarget f (a.at q) × Text f a.zero 1 (0 ∷ [])
IsSoundOp f a (ir.JumpEqual o n q) = ((o % 2 ≡ 0) × IsData o × (o + 2 ≤ size_of f)) × (n < 65536) × IsTarget f (a.at q)
IsSoundOp f a (ir.Packet k) = Text f (a.packet k) 70 (routine_words (base_of f) k) × (offsets.end_at k + 24 ≤ size_of f)
IsSoundOp f a ir.Drop = Unit {0}
IsSoundOp f a ir.Emit = Unit {0}
IsSoundOp f a ir.Stop = Unit {0}
IsSoundOp f a (ir.Saved r) = Unit {0}
IsSoundOp f a ir.Inside = Unit {0}
IsSoundOp f a (ir.Meets r n) = (2 ≤ n) × (n < 65536)
IsSoundOp f a (ir.CopyIn n o) = (0 < n) × (n < 65536) × IsRange o n (size_of f)
IsSoundOp f a (ir.CopyOut n o) = (0 < n) × (n < 65536) × IsRange o n (size_of f)
IsSoundOp f a (ir.Seal k h hn b bn) = SealsAt k h hn b bn (size_of f)
IsSoundOp f a (ir.Open k h hn b bn) = SealsAt k h hn b bn (size_of f)
IsSoundOp f a (ir.SetEnd k) = Text f a.slots 32 (slot_words (base_of f)) × (offsets.end_at k + 24 ≤ size_of f)
IsSoundOp f a ir.Sense = Unit {0}
IsSoundOp f a (ir.Handler h) = IsTarget f (a.at (a.part h))
IsSoundOp f a ir.Leave = Unit {0}

-- the code is in the text, each operation's words after those of the one before
pub record Emitted (f : Fixed) (a : Addresses) (code : List Ir) : Type 0 where
  pub stands : (p : ℕ) (i : Ir) → slice_get code p ≡ Some i → Text f (a.at p) (length (template f.setup.section.layout a p i)) (template f.setup.section.layout a p i)
  pub following : (p : ℕ) (i : Ir) → slice_get code p ≡ Some i → a.at (p + 1) ≡ a.at p + 2 * length (template f.setup.section.layout a p i)
  pub sound : (p : ℕ) (i : Ir) → slice_get code p ≡ Some i → IsSoundOp f a i

-- What holds of each configuration of the run: its marks are the first of all, the stack has room, its window is the caller's, a sensor's value is one, a handler's part returns into the code, and slots are kept.
pub record Good (f : Fixed) (all : List Mark) (a : Addresses) (code : List Ir) (c : Conf) : Type 0 where
  pub marks : HasPrefix all c.marks
  pub stack : length c.stack ≤ 160
  pub from : saved c 14 ≡ f.from
  pub to : has_out_window f.setup c ≡ true → (n : ℕ) → n ≤ 384 → n ≤ made_bytes all → f.from + n ≤ f.to
  pub sensor : (i : ℕ) (w : Window) → own_window f.setup c.devices ≡ Some (i, w) → w.value < 32768
  pub back : (p : ℕ) → c.back ≡ Some p → IsTarget f (a.at p)
  pub slots : AreKept f c

-- a copy ends where pieces go
copy_ends : (f : Fixed) (all : List Mark) (a : Addresses) (code : List Ir) (c : Conf) (at n : ℕ) → has_out_window f.setup c ≡ true → has_copy_room c at n ≡ true → Good f all a code c
    → f.from + (at + n) ≤ f.to
copy_ends f all a code c at n window room g =
    let b = and_parts (nat_le (at + n) 384) (nat_le (at + n) (made_bytes c.marks)) room in
    let made_ = leb-true (at + n) (made_bytes c.marks) b.1 in
    let more = made_prefix all c.marks g.marks in
    g.to window (at + n) (leb-true (at + n) 384 b.0) (omega (arith, made_, more))

never : (h : Halt) (b : Conf) → ◌≡◌ {A = OperationResult} (Stops h) (Goes b) → ⊥
never h b e = cc

-- where a test is passed
when_goes : (b : Bool) (x : OperationResult) (t : Conf) → when b x ≡ Goes t → (b ≡ true) × (x ≡ Goes t)
when_goes true x t e = (refl, e)
when_goes false x t e = absurd (never Stuck t e)

pushed_goes : (c t : Conf) (v : ℕ) → pushed c v ≡ Goes t → (length c.stack < 160) × (next c (v ∷ c.stack) ≡ t)
pushed_goes c t v e =
    let w = when_goes (nat_lt (length c.stack) 160) (Goes (next c (v ∷ c.stack))) t e in
    (ltb-true (length c.stack) 160 w.0, goes_same (next c (v ∷ c.stack)) t w.1)

module _ (f : Fixed) (st : Stands f) (all : List Mark) (BV : Violation → List Mark → Type 0) (tag : IsTag f.setup.mac) (a : Addresses) (code : List Ir) (emitted_ : Emitted f a code) (handle : ℕ
    → Conf → OperationResult)
    (parts : (h : ℕ) (c t : Conf) → handle h c ≡ Goes t → record c { place = a.part h; back = Some (c.place + 1) } ≡ t) (given : ℕ → ℕ) where
  abbrev pub B : Watched → Violation → Type 0
  B w v = BV v w.marks

  -- the words at the configuration's place lead within this many instructions to the other
  abbrev pub Runs_on : List ℕ → ℕ → Conf → Conf → Type 0
  Runs_on ws count c t = Leads f st all B a.at (length ws) ws count c t

  lift : (ws : List ℕ) (k m : ℕ) (c c2 t : Conf) → k ≤ m → c2 ≡ t → Runs_on ws k c c2 → Runs_on ws m c t
  lift ws k m c c2 t le e h = subst (λ t. Runs_on ws m c t) e (λ r d tx on sh safe. later f all B (Stood f all a.at c2) k m (running f r d) le (h r d tx on sh safe))

  operator_goes : (g : IrOp) (stack : List ℕ) (c t : Conf) → operated g (record c { stack = stack }) ≡ Goes t → Runs_on (operator_words g) (count_of (ir.Op g)) (record c { stack = stack }) t
  operator_goes g [] c t e = absurd (none g e)
    where
      none : (g : IrOp) → operated g (record c { stack = [] }) ≡ Goes t → ⊥
      none op.Add e = never Stuck t e
      none op.Sub e = never Stuck t e
      none op.Mul e = never Stuck t e
      none op.And e = never Stuck t e
      none op.Or e = never Stuck t e
      none op.Xor e = never Stuck t e
      none op.Eq e = never Stuck t e
      none op.Lt e = never Stuck t e
      none op.Neg e = never Stuck t e
      none op.Inv e = never Stuck t e
      none op.Not e = never Stuck t e
  operator_goes op.Neg (x ∷ rest) c t e = lift _ 3 8 _ _ t (omega arith) (goes_same _ t e) (neg_leads f st all B a.at c x rest)
  operator_goes op.Inv (x ∷ rest) c t e = lift _ 3 8 _ _ t (omega arith) (goes_same _ t e) (inv_leads f st all B a.at c x rest)
  operator_goes op.Not (x ∷ rest) c t e = lift _ 4 8 _ _ t (omega arith) (goes_same _ t e) (not_leads f st all B a.at c x rest)
  operator_goes op.Add (y ∷ []) c t e = absurd (never Stuck t e)
  operator_goes op.Sub (y ∷ []) c t e = absurd (never Stuck t e)
  operator_goes op.Mul (y ∷ []) c t e = absurd (never Stuck t e)
  operator_goes op.And (y ∷ []) c t e = absurd (never Stuck t e)
  operator_goes op.Or (y ∷ []) c t e = absurd (never Stuck t e)
  operator_goes op.Xor (y ∷ []) c t e = absurd (never Stuck t e)
  operator_goes op.Eq (y ∷ []) c t e = absurd (never Stuck t e)
  operator_goes op.Lt (y ∷ []) c t e = absurd (never Stuck t e)
  operator_goes op.Add (y ∷ x ∷ rest) c t e = lift _ 1 8 _ _ t (omega arith) (goes_same _ t e) (add_leads f st all B a.at c x y rest)
  operator_goes op.Sub (y ∷ x ∷ rest) c t e = lift _ 1 8 _ _ t (omega arith) (goes_same _ t e) (sub_leads f st all B a.at c x y rest)
  operator_goes op.Mul (y ∷ x ∷ rest) c t e = lift _ 101 160 _ _ t (omega arith) (goes_same _ t e) (mul_leads f st all B a.at c x y rest)
  operator_goes op.And (y ∷ x ∷ rest) c t e = lift _ 1 8 _ _ t (omega arith) (goes_same _ t e) (and_leads f st all B a.at c x y rest)
  operator_goes op.Or (y ∷ x ∷ rest) c t e = lift _ 1 8 _ _ t (omega arith) (goes_same _ t e) (or_leads f st all B a.at c x y rest)
  operator_goes op.Xor (y ∷ x ∷ rest) c t e = lift _ 1 8 _ _ t (omega arith) (goes_same _ t e) (xor_leads f st all B a.at c x y rest)
  operator_goes op.Eq (y ∷ x ∷ rest) c t e = lift _ 4 8 _ _ t (omega arith) (goes_same _ t e) (eq_leads f st all B a.at c x y rest)
  operator_goes op.Lt (y ∷ x ∷ rest) c t e = lift _ 4 8 _ _ t (omega arith) (goes_same _ t e) (lt_leads f st all B a.at c x y rest)

  with_size : (ws : List ℕ) (k : ℕ) (c t : Conf) → (base_of f + length c.priv ≡ f.setup.section.layout.priv_to → Runs_on ws k c t) → Runs_on ws k c t
  with_size ws k c t h r d tx on sh safe = h sh.holds.size r d tx on sh safe

  array_fits : (o n : ℕ) (priv : List ℕ) → base_of f + length priv ≡ f.setup.section.layout.priv_to → IsArray o n (size_of f) → IsArray o n (length priv)
  array_fits o n priv e h = let z : size_of f ≡ length priv = omega arith in subst (λ s. IsArray o n s) z h

  -- an operation that goes on is done by its words
  abbrev Op_goes : Ir → List ℕ → Conf → Conf → Type 0
  Op_goes i stack c t = Runs_on (template f.setup.section.layout a c.place i) (count_of i + handler_count given i) (record c { stack = stack }) t

  emit_goes : (c t : Conf) (x : ℕ) (rest : List ℕ) (o : Option (ℕ × Window)) → own_window f.setup c.devices ≡ o → HasPrefix all t.marks → emit (record c { stack = x ∷ rest }) x rest o ≡ Goes t
      → Op_goes ir.Emit (x ∷ rest) c t
  emit_goes c t x rest None found begins e = absurd (never Stuck t e)
  emit_goes c t x rest (Some d) found begins e = kinds d.1.kind refl e
    where
      kinds : (k : Kind) → d.1.kind ≡ k → emitted (record c { stack = x ∷ rest }) x rest k d.0 ≡ Goes t → Op_goes ir.Emit (x ∷ rest) c t
      kinds Sensor ek e = absurd (never Stuck t e)
      kinds Actuator ek e =
          let same = goes_same (record (next c rest) { marks = c.marks ++ mark.Actuated d.0 x ∷ [] }) t e in
          lift _ 1 8 _ _ t (omega arith) same (emit_leads f st all B a.at c x d.0 d.1 rest found ek (subst (λ l. HasPrefix all l) (sym (ap (λ (c : Conf). c.marks) same)) begins))

  stop_goes : (c t : Conf) (o : Option ℕ) → c.back ≡ o → ((p : ℕ) → c.back ≡ Some p → IsTarget f (a.at p)) → stop c o ≡ Goes t → Runs_on (template f.setup.section.layout a c.place ir.Stop) 8 c t
  stop_goes c t None eb back e = absurd (never Stuck t e)
  stop_goes c t (Some p) eb back e =
      let to = back p eb in
      lift _ 1 8 c (record c { place = p; back = None }) t (omega arith) (goes_same _ t e)
      (subst (λ o. Runs_on (template f.setup.section.layout a c.place ir.Stop) 1 (record c { back = o }) (record c { place = p; back = None })) (sym eb) (stop_leads f st all B a.at c p to.0 to.1))

  ending_goes : (after : OperationResult) (G : Conf → Type 0) (E : Violation → List Mark → Type 0) (t : Conf) → Ending after G E → after ≡ Goes t → G t
  ending_goes after G E t (Goes_to u is g) e = subst G (goes_same u t (sym is ∙ e)) g
  ending_goes after G E t (Breaks_off v m is g) e = absurd (never (Violates v m) t (sym is ∙ e))
  ending_goes after G E t (No_meaning is) e = absurd (never Stuck t (sym is ∙ e))

  -- the key that a wrap or an unwrap names is kept

  own_kept : (c : Conf) (k : ℕ) → (k == 0) ≡ true → KeptAt f st all B a.at c k
  own_kept c k own j one is = let zero_ = eqb-true k 0 own in absurd (omega (arith, zero_, is))

  open_kept : (c : Conf) (k : ℕ) → is_key_kept c k ≡ true → AreKept f c → KeptAt f st all B a.at c k
  open_kept c k kept slots j one is =
      elim (or_cases (k == 0) (is_open_slot c.priv k && not (has_key_mark c.marks)) kept) [
        | inl own ↦ own_kept c k own j one is
        | inr slot ↦
            let both = and_parts (is_open_slot c.priv k) (not (has_key_mark c.marks)) slot in
            slot_kept both.0 (are_kept f c both.1 slots)
      ]
    where
      slot_kept : is_open_slot c.priv k ≡ true → IsKept f c → WasOpen f.setup f.entered j (key_at f.setup c k)
      slot_kept x same =
          let at : k - 4 ≡ offsets.end_open_at j = omega (arith, is) in
          let is_open : not (word c.priv (offsets.end_open_at j) == 0) ≡ true = subst (λ (o : ℕ). not (word c.priv o == 0) ≡ true) at x in
          let key : bytes_from c.priv (offsets.end_key_at j) 16 ≡ key_at f.setup c k = slot_key k is in
          subst (λ (l : List ℕ). WasOpen f.setup f.entered j l) key (was_open f.setup f.entered c.priv j one same is_open)
        where
          slot_key : (k : ℕ) → k ≡ offsets.end_key_at j → bytes_from c.priv (offsets.end_key_at j) 16 ≡ key_at f.setup c k
          slot_key zero is = absurd (omega (arith, is))
          slot_key (suc k) is = ap (λ (o : ℕ). bytes_from c.priv o 16) (sym is)

  open_goes : (k h hn b bn : ℕ) (c t : Conf) (result : Option (List ℕ)) → SealsAt k h hn b bn (size_of f) → NamesNoKey (length f.setup.ends) (ir.Open k h hn b bn) [] → KeptAt f st all B a.at c k
      → unwrapped f.setup.mac (key_at f.setup c k) (bytes_from c.priv h hn) (bytes_from c.priv (h + hn) bn) (bytes_from c.priv (h + hn + bn) 16) ≡ result → HasPrefix all t.marks
      → opened c k (bytes_from c.priv h hn) b bn result ≡ Goes t → Runs_on (template f.setup.section.layout a c.place (ir.Open k h hn b bn)) 24 c t
  open_goes k h hn b bn c t None ok u kept is begins e =
      let p = pushed_goes c t 0 e in
      with_size _ 24 _ t (λ sz. lift _ 9 24 _ _ t (omega arith) p.1 (open_leads f st all B a.at c k h hn b bn None (subst (λ s. SealsAt k h hn b bn s) (size_is f c.priv sz) ok) u kept p.0 is
      (subst (λ l. HasPrefix all l) (sym (ap (λ (c : Conf). c.marks) p.1)) begins)))
  open_goes k h hn b bn c t (Some body) ok u kept is begins e =
      let p = pushed_goes (record c { priv = put_bytes c.priv b (take bn body); marks = c.marks ++ mark.Unwrapped (bytes_from c.priv h hn) (take bn body) (k == 0) ∷ [] }) t 1 e in
      with_size _ 24 _ t (λ sz. lift _ 9 24 _ _ t (omega arith) p.1 (open_leads f st all B a.at c k h hn b bn (Some body) (subst (λ s. SealsAt k h hn b bn s) (size_is f c.priv sz) ok) u kept p.0 is
      (subst (λ l. HasPrefix all l) (sym (ap (λ (c : Conf). c.marks) p.1)) begins)))

  sense_goes : (c t : Conf) (o : Option (ℕ × Window)) → own_window f.setup c.devices ≡ o → ((i : ℕ) (w : Window) → own_window f.setup c.devices ≡ Some (i, w) → w.value < 32768)
      → HasPrefix all t.marks → sense c o ≡ Goes t → Runs_on (template f.setup.section.layout a c.place ir.Sense) 8 c t
  sense_goes c t None found small begins e = absurd (never Stuck t e)
  sense_goes c t (Some d) found small begins e = kinds d.1.kind refl e
    where
      either : (b : Bool) → d.1.fresh ≡ b → d.1.kind ≡ Sensor
          → cond b (pushed (record c { devices = cleared c.devices d.0; marks = c.marks ++ mark.Sampled d.0 d.1.value ∷ [] }) (0x8000 + d.1.value)) (pushed c 0) ≡ Goes t
          → Runs_on (template f.setup.section.layout a c.place ir.Sense) 8 c t
      either true fr ek e =
          let p = pushed_goes (record c { devices = cleared c.devices d.0; marks = c.marks ++ mark.Sampled d.0 d.1.value ∷ [] }) t (0x8000 + d.1.value) e in
          lift _ 1 8 _ _ t (omega arith) p.1 (sense_fresh f st all B a.at c d.0 d.1 found ek fr (small d.0 d.1 found) p.0 (subst (λ l. HasPrefix all l) (sym (ap (λ (c : Conf). c.marks) p.1)) begins))
      either false fr ek e =
          let p = pushed_goes c t 0 e in
          lift _ 1 8 _ _ t (omega arith) p.1 (sense_stale f st all B a.at c d.0 d.1 found ek fr p.0)

      kinds : (k : Kind) → d.1.kind ≡ k → sensor_read c d.0 d.1 k ≡ Goes t → Runs_on (template f.setup.section.layout a c.place ir.Sense) 8 c t
      kinds Actuator ek e = absurd (never Stuck t e)
      kinds Sensor ek e = either d.1.fresh refl ek e

  pub op_goes : (i : Ir) (stack : List ℕ) (c t : Conf) → slice_get code c.place ≡ Some i → IsSoundOp f a i → NamesNoKey (length f.setup.ends) i stack
      → keeps_slots (length f.setup.ends) i (record c { stack = stack }) ≡ true → Good f all a code (record c { stack = stack }) → HasPrefix all t.marks
      → do_op f.setup handle i (record c { stack = stack }) ≡ Goes t → Op_goes i stack c t
  op_goes (ir.Push n) stack c t here ok u ks g gt e =
      let p = pushed_goes (record c { stack = stack }) t n e in
      lift _ 1 8 _ _ t (omega arith) p.1 (push_leads f st all B a.at (record c { stack = stack }) n ok p.0)
  op_goes (ir.Load o) stack c t here ok u ks g gt e =
      let p = pushed_goes (record c { stack = stack }) t (word c.priv o) e in
      with_size _ 8 _ t (λ sz. lift _ 1 8 _ _ t (omega arith) p.1 (load_leads f st all B a.at (record c { stack = stack }) o ok.0 ok.1 u (omega (arith, ok.2)) p.0))
  op_goes (ir.Store o) [] c t here ok u ks g gt e = absurd (never Stuck t e)
  op_goes (ir.Store o) (x ∷ rest) c t here ok u ks g gt e =
      with_size _ 8 _ t (λ sz. lift _ 1 8 _ _ t (omega arith) (goes_same _ t e) (store_leads f st all B a.at c x rest o ok.0 ok.1 u (omega (arith, ok.2))))
  op_goes (ir.LoadAt o n) [] c t here ok u ks g gt e = absurd (never Stuck t e)
  op_goes (ir.LoadAt o n) (i ∷ rest) c t here ok u ks g gt e =
      with_size _ 8 _ t (λ sz. lift _ 5 8 _ _ t (omega arith) (goes_same _ t e) (load_at_leads f st all B a.at c o n i rest ok.0 (array_fits o n c.priv sz ok.1) u))
  op_goes (ir.StoreAt o n) [] c t here ok u ks g gt e = absurd (never Stuck t e)
  op_goes (ir.StoreAt o n) (v ∷ []) c t here ok u ks g gt e = absurd (never Stuck t e)
  op_goes (ir.StoreAt o n) (v ∷ i ∷ rest) c t here ok u ks g gt e =
      with_size _ 8 _ t (λ sz. lift _ 6 8 _ _ t (omega arith) (goes_same _ t e) (store_at_leads f st all B a.at c o n i v rest ok.0 (array_fits o n c.priv sz ok.1) u))
  op_goes (ir.Op h) stack c t here ok u ks g gt e = lift _ (count_of (ir.Op h)) (count_of (ir.Op h) + 0) _ t t (omega arith) refl (operator_goes h stack c t e)
  op_goes (ir.Jump q) stack c t here ok u ks g gt e = lift _ 1 8 _ _ t (omega arith) (goes_same _ t e) (jump_leads f st all B a.at (record c { stack = stack }) q ok.0 ok.1)
  op_goes (ir.JumpZero q) [] c t here ok u ks g gt e = absurd (never Stuck t e)
  op_goes (ir.JumpZero q) (zero ∷ rest) c t here ok u ks g gt e = lift _ 3 8 _ _ t (omega arith) (goes_same _ t e) (jump_zero_leads f st all B a.at c q a.zero rest ok.1 ok.0.0 ok.0.1)
  op_goes (ir.JumpZero q) (suc v ∷ rest) c t here ok u ks g gt e = lift _ 3 8 _ _ t (omega arith) (goes_same _ t e) (jump_not_leads f st all B a.at c q a.zero v rest ok.1)
  op_goes (ir.JumpEqual o n q) stack c t here ok u ks g gt e =
      with_size _ 8 _ t (λ sz. lift _ 3 8 _ _ t (omega arith) (goes_same _ t e)
      (jump_equal_leads f st all B a.at (record c { stack = stack }) o n q ok.0.0 ok.0.1 u (omega (arith, ok.0.2)) ok.1 ok.2.0 ok.2.1))
  op_goes (ir.Packet k) [] c t here ok u ks g gt e = absurd (never Stuck t e)
  op_goes (ir.Packet k) (v ∷ rest) c t here ok u ks g gt e =
      with_size _ 200 _ t (λ sz. lift _ 63 200 _ t t (omega arith) refl (packet_goes f st all B a.at tag c t k v (a.packet k) rest (omega (arith, ok.1)) u (are_kept f (record c { stack = v ∷ rest }) ks g.slots) g.stack ok.0 e gt g.from g.to))
  op_goes ir.Drop [] c t here ok u ks g gt e = absurd (never Stuck t e)
  op_goes ir.Drop (x ∷ rest) c t here ok u ks g gt e = lift _ 1 8 _ _ t (omega arith) (goes_same _ t e) (drop_leads f st all B a.at c x rest)
  op_goes ir.Emit [] c t here ok u ks g gt e = absurd (never Stuck t e)
  op_goes ir.Emit (x ∷ rest) c t here ok u ks g gt e = emit_goes c t x rest (own_window f.setup c.devices) refl gt e
  op_goes ir.Stop stack c t here ok u ks g gt e = stop_goes (record c { stack = stack }) t c.back refl g.back e
  op_goes (ir.Saved r) stack c t here ok u ks g gt e =
      let q = when_goes (is_saved r) (pushed (record c { stack = stack }) (saved c r)) t e in
      let p = pushed_goes (record c { stack = stack }) t (saved c r) q.1 in
      let b = and_parts (nat_le 12 r) (nat_le r 15) q.0 in
      let lo : 12 ≤ r = leb-true 12 r b.0 in
      let hi : r ≤ 15 = leb-true r 15 b.1 in
      with_size _ 8 _ t (λ sz. lift _ 1 8 _ _ t (omega arith) p.1 (load_leads f st all B a.at (record c { stack = stack }) (working.saved_at r) (omega arith)
      (record { low = omega arith; beside = inl (omega arith) }) (low_shown _ _ 2 (omega arith)) (omega (arith, st.room)) p.0))
  op_goes ir.Inside stack c t here ok u ks g gt e = lift _ 6 16 _ t t (omega arith) refl (ending_goes _ _ _ t (inside_ends f st all B a.at (record c { stack = stack })) e)
  op_goes (ir.Meets r n) stack c t here ok u ks g gt e =
      let c1 = record c { stack = stack } in
      let v = truth (is_bad_window f.setup (saved c r) n) in
      let q = when_goes (is_saved r) (pushed c1 v) t e in
      let p = pushed_goes c1 t v q.1 in
      let b = and_parts (nat_le 12 r) (nat_le r 15) q.0 in
      lift _ 9 24 _ _ t (omega arith) p.1 (meets_leads f st all B a.at c1 r n (leb-true 12 r b.0) (leb-true r 15 b.1) ok.0 ok.1 p.0)
  op_goes (ir.CopyIn zero o) stack c t here ok u ks g gt e = absurd (omega (arith, ok.0))
  op_goes (ir.CopyIn (suc n) o) stack c t here ok u ks g gt e =
      let c1 = record c { stack = stack } in
      with_size _ (16 + 8 * suc n + 0) _ t (λ sz. lift _ (7 + 4 * suc n) (16 + 8 * suc n + 0) _ t t (omega arith) refl
      (ending_goes (copy_in f.setup c1 (suc n) o) _ _ t (copy_in_ends f st all B a.at c1 n o (subst (λ s. IsRange o (suc n) s) (size_is f c.priv sz) ok.2) (omega (arith, ok.1))) e))
  op_goes (ir.CopyOut zero o) stack c t here ok u ks g gt e = absurd (omega (arith, ok.0))
  op_goes (ir.CopyOut (suc n) o) [] c t here ok u ks g gt e = absurd (never Stuck t e)
  op_goes (ir.CopyOut (suc n) o) (v ∷ rest) c t here ok u ks g gt e =
      let b = and_parts (has_out_window f.setup c) (has_copy_room c v (suc n)) (when_goes (has_out_window f.setup c && has_copy_room c v (suc n)) _ t e).0 in
      let to = copy_ends f all a code (record c { stack = v ∷ rest }) v (suc n) b.0 b.1 g in
      let from = g.from in
      let w : (f.from ≤ saved c 14 + v) × (saved c 14 + v + suc n ≤ f.to) = (omega (arith, from), omega (arith, from, to)) in
      with_size _ (16 + 8 * suc n + 0) _ t (λ sz. lift _ (8 + 4 * suc n) (16 + 8 * suc n + 0) _ t t (omega arith) refl
      (ending_goes (copy_out f.setup (record c { stack = v ∷ rest }) (suc n) o v rest) _ _ t (copy_out_ends f st all B a.at c v rest n o (subst (λ s. IsRange o (suc n) s) (size_is f c.priv sz) ok.2)
      u (omega (arith, ok.1)) w.0 w.1) e))
  op_goes (ir.Seal k h hn b bn) stack c t here ok u ks g gt e =
      let same = goes_same _ t e in
      with_size _ 16 _ t (λ sz. lift _ 9 16 _ _ t (omega arith) same
      (seal_leads f st all B a.at tag (record c { stack = stack }) k h hn b bn (subst (λ s. SealsAt k h hn b bn s) (size_is f c.priv sz) ok) u
      (own_kept (record c { stack = stack }) k (and_parts (k == 0) (spares_slots (length f.setup.ends) (h + hn) (bn + 16)) ks).0)
      (subst (λ l. HasPrefix all l) (sym (ap (λ (c : Conf). c.marks) same)) gt)))
  op_goes (ir.Open k h hn b bn) stack c t here ok u ks g gt e = open_goes k h hn b bn (record c { stack = stack }) t
      (unwrapped f.setup.mac (key_at f.setup c k) (bytes_from c.priv h hn) (bytes_from c.priv (h + hn) bn) (bytes_from c.priv (h + hn + bn) 16)) ok u (open_kept (record c { stack = stack }) k (and_parts (spares_slots (length f.setup.ends) b bn) (is_key_kept (record c { stack = stack }) k) ks).1 g.slots) refl gt e
  op_goes (ir.SetEnd k) stack c t here ok u ks g gt e = with_size _ 32 _ t
      (λ sz. lift _ 14 32 _ _ t (omega arith) (goes_same _ t e) (set_end_leads f st all B a.at (record c { stack = stack }) k a.slots ok.0 (omega (arith, ok.1)) u g.stack))
  op_goes ir.Sense stack c t here ok u ks g gt e = sense_goes (record c { stack = stack }) t (own_window f.setup c.devices) refl g.sensor gt e
  op_goes (ir.Handler h) stack c t here ok u ks g gt e =
      with_size _ (8 + given h) _ t (λ sz. lift _ 3 (8 + given h) _ _ t (omega arith) (parts h (record c { stack = stack; priv = put_word c.priv 4 0 }) t e)
      (handler_leads f st all B a.at (record c { stack = stack }) (a.part h) ok.0 ok.1 (omega (arith, st.room))))
  op_goes ir.Leave stack c t here ok u ks g gt e = absurd (never Stuck t e)

-- what stops an operation that has no violation is that it has no meaning
stuck_is : (h : Halt) → ◌≡◌ {A = OperationResult} (Stops Stuck) (Stops h) → Stuck ≡ h
stuck_is h e = cc

when_stops : (b : Bool) (x : OperationResult) (h : Halt) → when b x ≡ Stops h → (x ≡ Stops h → Stuck ≡ h) → Stuck ≡ h
when_stops true x h e g = g e
when_stops false x h e g = stuck_is h e

pushed_stops : (c : Conf) (v : ℕ) (h : Halt) → pushed c v ≡ Stops h → Stuck ≡ h
pushed_stops c v h e = when_stops (nat_lt (length c.stack) 160) (Goes (next c (v ∷ c.stack))) h e (λ x. absurd (goes_stops _ h x))

operator_stops : (g : IrOp) (stack : List ℕ) (c : Conf) (h : Halt) → operated g (record c { stack = stack }) ≡ Stops h → Stuck ≡ h
operator_stops op.Add [] c h e = stuck_is h e
operator_stops op.Sub [] c h e = stuck_is h e
operator_stops op.Mul [] c h e = stuck_is h e
operator_stops op.And [] c h e = stuck_is h e
operator_stops op.Or [] c h e = stuck_is h e
operator_stops op.Xor [] c h e = stuck_is h e
operator_stops op.Eq [] c h e = stuck_is h e
operator_stops op.Lt [] c h e = stuck_is h e
operator_stops op.Neg [] c h e = stuck_is h e
operator_stops op.Inv [] c h e = stuck_is h e
operator_stops op.Not [] c h e = stuck_is h e
operator_stops op.Neg (x ∷ rest) c h e = absurd (goes_stops _ h e)
operator_stops op.Inv (x ∷ rest) c h e = absurd (goes_stops _ h e)
operator_stops op.Not (x ∷ rest) c h e = absurd (goes_stops _ h e)
operator_stops op.Add (y ∷ []) c h e = stuck_is h e
operator_stops op.Sub (y ∷ []) c h e = stuck_is h e
operator_stops op.Mul (y ∷ []) c h e = stuck_is h e
operator_stops op.And (y ∷ []) c h e = stuck_is h e
operator_stops op.Or (y ∷ []) c h e = stuck_is h e
operator_stops op.Xor (y ∷ []) c h e = stuck_is h e
operator_stops op.Eq (y ∷ []) c h e = stuck_is h e
operator_stops op.Lt (y ∷ []) c h e = stuck_is h e
operator_stops op.Add (y ∷ x ∷ rest) c h e = absurd (goes_stops _ h e)
operator_stops op.Sub (y ∷ x ∷ rest) c h e = absurd (goes_stops _ h e)
operator_stops op.Mul (y ∷ x ∷ rest) c h e = absurd (goes_stops _ h e)
operator_stops op.And (y ∷ x ∷ rest) c h e = absurd (goes_stops _ h e)
operator_stops op.Or (y ∷ x ∷ rest) c h e = absurd (goes_stops _ h e)
operator_stops op.Xor (y ∷ x ∷ rest) c h e = absurd (goes_stops _ h e)
operator_stops op.Eq (y ∷ x ∷ rest) c h e = absurd (goes_stops _ h e)
operator_stops op.Lt (y ∷ x ∷ rest) c h e = absurd (goes_stops _ h e)

emit_stops : (c : Conf) (x : ℕ) (rest : List ℕ) (o : Option (ℕ × Window)) (h : Halt) → emit c x rest o ≡ Stops h → Stuck ≡ h
emit_stops c x rest None h e = stuck_is h e
emit_stops c x rest (Some d) h e = kinds d.1.kind e
  where
    kinds : (k : Kind) → emitted c x rest k d.0 ≡ Stops h → Stuck ≡ h
    kinds Sensor e = stuck_is h e
    kinds Actuator e = absurd (goes_stops _ h e)

same_end : (v w : Violation) (m n : List Mark) → ◌≡◌ {A = OperationResult} (Stops (Violates v m)) (Stops (Violates w n)) → (v ≡ w) × (m ≡ n)
same_end v w m n e = (cc, cc)

stuck_not : (v : Violation) (m : List Mark) → ◌≡◌ {A = OperationResult} (Stops Stuck) (Stops (Violates v m)) → ⊥
stuck_not v m e = cc

-- a test before a violation was passed
when_violates : (b : Bool) (x : OperationResult) (v : Violation) (m : List Mark) → when b x ≡ Stops (Violates v m) → b ≡ true
when_violates true x v m e = refl
when_violates false x v m e = absurd (stuck_not v m e)

open_stops : (c : Conf) (k : ℕ) (ad : List ℕ) (b bn : ℕ) (o : Option (List ℕ)) (h : Halt) → opened c k ad b bn o ≡ Stops h → Stuck ≡ h
open_stops c k ad b bn None h e = pushed_stops c 0 h e
open_stops c k ad b bn (Some body) h e = pushed_stops (record c { priv = put_bytes c.priv b (take bn body); marks = c.marks ++ mark.Unwrapped ad (take bn body) (k == 0) ∷ [] }) 1 h e

sense_stops : (c : Conf) (o : Option (ℕ × Window)) (h : Halt) → sense c o ≡ Stops h → Stuck ≡ h
sense_stops c None h e = stuck_is h e
sense_stops c (Some d) h e = kinds d.1.kind e
  where
    either : (b : Bool) → cond b (pushed (record c { devices = cleared c.devices d.0; marks = c.marks ++ mark.Sampled d.0 d.1.value ∷ [] }) (0x8000 + d.1.value)) (pushed c 0) ≡ Stops h → Stuck ≡ h
    either true e = pushed_stops (record c { devices = cleared c.devices d.0; marks = c.marks ++ mark.Sampled d.0 d.1.value ∷ [] }) (0x8000 + d.1.value) h e
    either false e = pushed_stops c 0 h e

    kinds : (k : Kind) → sensor_read c d.0 d.1 k ≡ Stops h → Stuck ≡ h
    kinds Actuator e = stuck_is h e
    kinds Sensor e = either d.1.fresh e

stop_stops : (c : Conf) (o : Option ℕ) (h : Halt) → stop c o ≡ Stops h → Stuck ≡ h
stop_stops c None h e = stuck_is h e
stop_stops c (Some p) h e = absurd (goes_stops _ h e)

module _ (f : Fixed) (st : Stands f) (all : List Mark) (BV : Violation → List Mark → Type 0) (begins : (v : Violation) (m : List Mark) → BV v m
    → HasPrefix all m) (tag : IsTag f.setup.mac) (a : Addresses) (code : List Ir) (emitted_ : Emitted f a code) (handle : ℕ → Conf → OperationResult)
    (parts : (h : ℕ) (c t : Conf) → handle h c ≡ Goes t → record c { place = a.part h; back = Some (c.place + 1) } ≡ t) (no_end : (h : ℕ) (c : Conf) (w : Halt) → handle h c ≡ Stops w
    → Stuck ≡ w) (given : ℕ → ℕ) where
  abbrev pub Bw : Watched → Violation → Type 0
  Bw w v = BV v w.marks

  -- an operation that ends in a violation is ended by its words
  abbrev Op_stops : Ir → List ℕ → Conf → Type 0
  Op_stops i stack c = (r : Regs) (d : Data) → Text f (a.at c.place) (length (template f.setup.section.layout a c.place i)) (template f.setup.section.layout a c.place i)
      → a.at (c.place + 1) ≡ a.at c.place + 2 * length (template f.setup.section.layout a c.place i) → ShowsConfiguration f a.at (record c { stack = stack }) r d → Safe f all (running f r d)
      → Runs f all Bw (λ _. ⊥) (count_of i + handler_count given i) (running f r d)

  ending_stops : (after : OperationResult) (G : Conf → Type 0) (E : Violation → List Mark → Type 0) (v : Violation) (m : List Mark) → Ending after G E → after ≡ Stops (Violates v m) → E v m
  ending_stops after G E v m (Goes_to u is g) e = absurd (goes_stops u (Violates v m) (sym is ∙ e))
  ending_stops after G E v m (Breaks_off w n is g) e = let same = same_end w v n m (sym is ∙ e) in subst (λ v. E v m) same.0 (subst (λ m. E w m) same.1 g)
  ending_stops after G E v m (No_meaning is) e = absurd (stuck_not v m (sym is ∙ e))

  no_meaning : (stack : List ℕ) (c : Conf) (w : Halt) → Stuck ≡ w → OnViolation BV (record c { stack = stack }) w → ⊥
  no_meaning stack c w e b = subst (λ w. OnViolation BV (record c { stack = stack }) w) (sym e) b

  packet_stops : (k v : ℕ) (rest : List ℕ) (c : Conf) (w : Halt) → slice_get code c.place ≡ Some (ir.Packet k) → IsSoundOp f a (ir.Packet k) → k < length f.setup.ends → not (has_key_mark c.marks) ≡ true
      → Good f all a code (record c { stack = v ∷ rest })
      → send f.setup (record c { stack = v ∷ rest }) k v (end_state c.priv k) ≡ Stops w → OnViolation BV (record c { stack = v ∷ rest }) w → Op_stops (ir.Packet k) (v ∷ rest) c
  packet_stops k v rest c Stuck here ok u none g e b r d tx on sh safe = absurd b
  packet_stops k v rest c (Violates x marks) here ok u none g e b r d tx on sh safe =
      let sz = sh.holds.size in
      later f all Bw (λ _. ⊥) 63 200 (running f r d) (omega arith) (packet_breaks f st all Bw a.at tag c k v (a.packet k) rest x marks (omega (arith, ok.1)) u (are_kept f (record c { stack = v ∷ rest }) none g.slots) g.stack ok.0 e
      (begins x marks b) g.from g.to r d tx on sh safe (λ u m. subst (λ l. BV x l) (sym m) b))

  pub op_stops : (i : Ir) (stack : List ℕ) (c : Conf) (w : Halt) → slice_get code c.place ≡ Some i → IsSoundOp f a i → NamesNoKey (length f.setup.ends) i stack
      → keeps_slots (length f.setup.ends) i (record c { stack = stack }) ≡ true → Good f all a code (record c { stack = stack })
      → do_op f.setup handle i (record c { stack = stack }) ≡ Stops w → OnViolation BV (record c { stack = stack }) w → Op_stops i stack c
  op_stops (ir.Push n) stack c w here ok u ks g e b = absurd (no_meaning stack c w (pushed_stops (record c { stack = stack }) _ w e) b)
  op_stops (ir.Load o) stack c w here ok u ks g e b = absurd (no_meaning stack c w (pushed_stops (record c { stack = stack }) _ w e) b)
  op_stops (ir.Store o) [] c w here ok u ks g e b = absurd (no_meaning [] c w (stuck_is w e) b)
  op_stops (ir.Store o) (x ∷ rest) c w here ok u ks g e b = absurd (goes_stops _ w e)
  op_stops (ir.LoadAt o n) [] c w here ok u ks g e b = absurd (no_meaning [] c w (stuck_is w e) b)
  op_stops (ir.LoadAt o n) (i ∷ rest) c w here ok u ks g e b = absurd (goes_stops _ w e)
  op_stops (ir.StoreAt o n) [] c w here ok u ks g e b = absurd (no_meaning [] c w (stuck_is w e) b)
  op_stops (ir.StoreAt o n) (v ∷ []) c w here ok u ks g e b = absurd (no_meaning (v ∷ []) c w (stuck_is w e) b)
  op_stops (ir.StoreAt o n) (v ∷ i ∷ rest) c w here ok u ks g e b = absurd (goes_stops _ w e)
  op_stops (ir.Op h) stack c w here ok u ks g e b = absurd (no_meaning stack c w (operator_stops h stack c w e) b)
  op_stops (ir.Jump q) stack c w here ok u ks g e b = absurd (goes_stops _ w e)
  op_stops (ir.JumpZero q) [] c w here ok u ks g e b = absurd (no_meaning [] c w (stuck_is w e) b)
  op_stops (ir.JumpZero q) (zero ∷ rest) c w here ok u ks g e b = absurd (goes_stops _ w e)
  op_stops (ir.JumpZero q) (suc v ∷ rest) c w here ok u ks g e b = absurd (goes_stops _ w e)
  op_stops (ir.JumpEqual o n q) stack c w here ok u ks g e b = absurd (goes_stops _ w e)
  op_stops (ir.Packet k) [] c w here ok u ks g e b = absurd (no_meaning [] c w (stuck_is w e) b)
  op_stops (ir.Packet k) (v ∷ rest) c w here ok u ks g e b = packet_stops k v rest c w here ok u ks g e b
  op_stops ir.Drop [] c w here ok u ks g e b = absurd (no_meaning [] c w (stuck_is w e) b)
  op_stops ir.Drop (x ∷ rest) c w here ok u ks g e b = absurd (goes_stops _ w e)
  op_stops ir.Emit [] c w here ok u ks g e b = absurd (no_meaning [] c w (stuck_is w e) b)
  op_stops ir.Emit (x ∷ rest) c w here ok u ks g e b = absurd (no_meaning (x ∷ rest) c w (emit_stops (record c { stack = x ∷ rest }) x rest (own_window f.setup c.devices) w e) b)
  op_stops ir.Stop stack c w here ok u ks g e b = absurd (no_meaning stack c w (stop_stops (record c { stack = stack }) c.back w e) b)
  op_stops (ir.Saved r) stack c w here ok u ks g e b = absurd (no_meaning stack c w (when_stops (is_saved r) _ w e (λ x. pushed_stops (record c { stack = stack }) _ w x)) b)
  op_stops ir.Inside stack c Stuck here ok u ks g e b = absurd b
  op_stops ir.Inside stack c (Violates v m) here ok u ks g e b = λ r d tx on sh safe. later f all Bw (λ _. ⊥) 6 16 (running f r d) (omega arith)
      (ending_stops _ _ _ v m (inside_ends f st all Bw a.at (record c { stack = stack })) e r d tx on sh safe (λ u k. subst (λ l. BV v l) (sym k) b))
  op_stops (ir.Meets r n) stack c w here ok u ks g e b = absurd (no_meaning stack c w (when_stops (is_saved r) _ w e (λ x. pushed_stops (record c { stack = stack }) _ w x)) b)
  op_stops (ir.CopyIn zero o) stack c w here ok u ks g e b = absurd (omega (arith, ok.0))
  op_stops (ir.CopyIn (suc n) o) stack c Stuck here ok u ks g e b = absurd b
  op_stops (ir.CopyIn (suc n) o) stack c (Violates v m) here ok u ks g e b = λ r d tx on sh safe.
      let c1 = record c { stack = stack } in
      later f all Bw (λ _. ⊥) (7 + 4 * suc n) (16 + 8 * suc n + 0) (running f r d) (omega arith)
      (ending_stops (copy_in f.setup c1 (suc n) o) _ _ v m (copy_in_ends f st all Bw a.at c1 n o (subst (λ s. IsRange o (suc n) s) (size_is f c.priv sh.holds.size) ok.2)
      (omega (arith, ok.1))) e r d tx on sh safe (λ u k. subst (λ l. BV v l) (sym k) b))
  op_stops (ir.CopyOut zero o) stack c w here ok u ks g e b = absurd (omega (arith, ok.0))
  op_stops (ir.CopyOut (suc n) o) [] c w here ok u ks g e b = absurd (no_meaning [] c w (stuck_is w e) b)
  op_stops (ir.CopyOut (suc n) o) (v ∷ rest) c Stuck here ok u ks g e b = absurd b
  op_stops (ir.CopyOut (suc n) o) (v ∷ rest) c (Violates x m) here ok u ks g e b = λ r d tx on sh safe.
      let t = and_parts (has_out_window f.setup c) (has_copy_room c v (suc n)) (when_violates (has_out_window f.setup c && has_copy_room c v (suc n)) _ x m e) in
      let to = copy_ends f all a code (record c { stack = v ∷ rest }) v (suc n) t.0 t.1 g in
      let from = g.from in
      let w : (f.from ≤ saved c 14 + v) × (saved c 14 + v + suc n ≤ f.to) = (omega (arith, from), omega (arith, from, to)) in
      later f all Bw (λ _. ⊥) (8 + 4 * suc n) (16 + 8 * suc n + 0) (running f r d) (omega arith) (ending_stops (copy_out f.setup (record c { stack = v ∷ rest }) (suc n) o v rest) _ _ x m
      (copy_out_ends f st all Bw a.at c v rest n o (subst (λ s. IsRange o (suc n) s) (size_is f c.priv sh.holds.size) ok.2) u (omega (arith, ok.1)) w.0 w.1) e r d tx on sh safe
      (λ u k. subst (λ l. BV x l) (sym k) b))
  op_stops (ir.Seal k h hn x xn) stack c w here ok u ks g e b = absurd (goes_stops _ w e)
  op_stops (ir.Open k h hn x xn) stack c w here ok u ks g e b = absurd
      (no_meaning stack c w
      (open_stops (record c { stack = stack }) k (bytes_from c.priv h hn) x xn (unwrapped f.setup.mac (key_at f.setup c k) (bytes_from c.priv h hn) (bytes_from c.priv (h + hn) xn)
      (bytes_from c.priv (h + hn + xn) 16)) w e) b)
  op_stops (ir.SetEnd k) stack c w here ok u ks g e b = absurd (goes_stops _ w e)
  op_stops ir.Sense stack c w here ok u ks g e b = absurd (no_meaning stack c w (sense_stops (record c { stack = stack }) (own_window f.setup c.devices) w e) b)
  op_stops (ir.Handler h) stack c w here ok u ks g e b = absurd (no_meaning stack c w (no_end h _ w e) b)
  op_stops ir.Leave stack c w here ok u ks g e b = absurd (no_meaning stack c w (stuck_is w e) b)

  -- an operation that ends a run with a violation has a meaning
  when_ends : (b : Bool) (x : OperationResult) (c : Conf) (h : Halt) → when b x ≡ Stops h → OnViolation BV c h → (b ≡ true) × (x ≡ Stops h)
  when_ends true x c h e v = (refl, e)
  when_ends false x c h e v = absurd (no_meaning c.stack c h (stuck_is h e) v)

  abbrev pub Rep : Conf → Watched → Type 0
  Rep c w = Stood f all a.at c w

  pub step_goes : (c t : Conf) (w : Watched) → Rep c w → Good f all a code c → op_step f.setup handle code c ≡ Goes t → HasPrefix all t.marks → Runs f all Bw (Rep t) (op_count given code c) w
  unfolding op_step op_count
  step_goes c t w rep g e gt = by_op (slice_get code c.place) refl (refl) e
    where
      by_op : (o : Option Ir) → slice_get code c.place ≡ o → slice_get code c.place ≡ slice_get code c.place → do_at f.setup handle (slice_get code c.place) c ≡ Goes t
          → Runs f all Bw (Rep t) (count_at given (slice_get code c.place)) w
      by_op None here _ e = absurd (never Stuck t (rw here at e))
      by_op (Some i) here _ e =
          let named = when_goes (keeps_slots (length f.setup.ends) i c && names_no_key (length f.setup.ends) i c.stack) (do_op f.setup handle i c) t (ap (λ o. do_at f.setup handle o c) (sym here) ∙ e) in
          let both = and_parts (keeps_slots (length f.setup.ends) i c) (names_no_key (length f.setup.ends) i c.stack) named.0 in
          let unseen = names_none (length f.setup.ends) i c.stack both.1 in
          subst (λ o. Runs f all Bw (Rep t) (count_at given o) w) (sym here)
          (subst (λ w. Runs f all Bw (Rep t) (count_of i + handler_count given i) w) (sym rep.state)
          (op_goes f st all BV tag a code emitted_ handle parts given i c.stack c t here (emitted_.sound c.place i here) unseen both.0 g gt named.1 rep.regs rep.rest (emitted_.stands c.place i here)
          (emitted_.following c.place i here) rep.shows (subst (λ w. Safe f all w) rep.state rep.safe)))

  pub step_stops : (c : Conf) (h : Halt) (w : Watched) → Rep c w → Good f all a code c → op_step f.setup handle code c ≡ Stops h → OnViolation BV c h → Runs f all Bw (λ _. ⊥) (op_count given code c) w
  unfolding op_step op_count
  step_stops c h w rep g e b = by_op (slice_get code c.place) refl e
    where
      by_op : (o : Option Ir) → slice_get code c.place ≡ o → do_at f.setup handle (slice_get code c.place) c ≡ Stops h → Runs f all Bw (λ _. ⊥) (count_at given (slice_get code c.place)) w
      by_op None here e = let s : Stuck ≡ h = stuck_is h (rw here at e) in absurd (subst (λ h. OnViolation BV c h) (sym s) b)
      by_op (Some i) here e =
          let named = when_ends (keeps_slots (length f.setup.ends) i c && names_no_key (length f.setup.ends) i c.stack) (do_op f.setup handle i c) c h (ap (λ o. do_at f.setup handle o c) (sym here) ∙ e) b in
          let both = and_parts (keeps_slots (length f.setup.ends) i c) (names_no_key (length f.setup.ends) i c.stack) named.0 in
          let unseen = names_none (length f.setup.ends) i c.stack both.1 in
          subst (λ o. Runs f all Bw (λ _. ⊥) (count_at given o) w) (sym here)
          (subst (λ w. Runs f all Bw (λ _. ⊥) (count_of i + handler_count given i) w) (sym rep.state)
          (op_stops i c.stack c h here (emitted_.sound c.place i here) unseen both.0 g named.1 b rep.regs rep.rest (emitted_.stands c.place i here) (emitted_.following c.place i here) rep.shows
          (subst (λ w. Safe f all w) rep.state rep.safe)))
