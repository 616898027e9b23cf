-- The whole stub: the tests of the entry and the windows, and the four entries.
use Rattle.std.proofs.Common.{◌≡◌, ℕ, suc, ◌+◌, ◌-◌, ◌<◌, ◌≤◌, Bool, true, false, ◌&&◌, ◌||◌, not, ◌==◌, List, [], ◌∷◌, ◌++◌, length, Option, Some}
use Rattle.std.proofs.Common.{None, refl, sym, ap, ◌∙◌, subst, arith, ⊎_elim, inl, inr}
use Rattle.std.specs.Prelude.{slice_get, if◌then◌else◌, nat_lt}
use Rattle.std.proofs.lemmas.Bool.{false≢true, true≢false, eqb-false, eqb-true, eq-eqb, ne_eqb, lt-ltb, le-ltb, cases_eq, cases_lt, or_parts}
use Rattle.sx_lang.specs.declared.tree.DeviceKind.{DeviceKind}
use Rattle.sx_lang.specs.declared.tree.DeviceKind.TheVariants.{Sensor, Actuator}
use Rattle.sx_mean.specs.Application.{declared_kind}
use Rattle.sx_rules.specs.declared.access.Violation.TheVariants as bad
use Rattle.sx_rules.specs.Access.{in_public}
use Rattle.sx_bus.specs.declared.devices.Kind.TheVariants as kind
use Rattle.sx_isa.specs.Memory.{even}
use Rattle.sx_image.specs.Reach.{Goes, Stops}
use Rattle.spec_invocation.specs.Protocol.{input_register, output_register, no_entry, bad_window, set_key_kind, ask_kind, event_kind, set_key_size, ask_size, event_size}
use Rattle.spec_invocation.specs.Windows.{in_window_size, out_window_size}
use Rattle.spec_invocation.specs.Setup.{Setup, Call}
use Rattle.spec_invocation.specs.Windows.{is_bad_window}
use Rattle.spec_invocation.specs.Progress.{Progress, Invoked, Returns, Violates}
use Rattle.spec_invocation.specs.Invocation.{invoke, entered, returns_inside, is_no_entry, has_bad_windows, is_sensor_driver}
use Rattle.spec_invocation.specs.Entries.{with_received, set_key, attest, input, sample}
use Rattle.spec_invocation.specs.Devices.{HasDevices, Drives}
use Rattle.sx_ir.specs.Conf.{Conf}
use Rattle.sx_ir.specs.Conf as conf
use Rattle.sx_ir.specs.Meaning.{OperationResult, do_op}
use Rattle.sx_ir.specs.declared.ir.Ir.{Ir}
use Rattle.sx_ir.specs.declared.ir.Ir.TheVariants as ir
use Rattle.sx_stub.specs.Stub.{stub_code, tests, entries, refuse_if, jump_on, is_above_last, last_entry, sample_code, set_key_code, attest_code, input_code, search_code}
use Rattle.sx_stub.specs.Invokes.{CallBegun, StubInvokes, Invokes, HandlersDo}
use Rattle.sx_stub.proofs.Straight.{At, at, at_front, at_back, pure}
use Rattle.sx_stub.proofs.Refuse.{compares, refuse_does, or_if, goes_on, breaks}
use Rattle.sx_stub.proofs.Attest.{attest_does}
use Rattle.sx_stub.proofs.SetKey.{set_key_does}
use Rattle.sx_stub.proofs.Input.{input_does}
use Rattle.sx_stub.proofs.Sample.{sample_does}
use Rattle.lemmas.specs.Truth.{truth}
use Rattle.lemmas.proofs.Truths.{and_not}

-- the first operations of a code are in it
pub stands_at : (code ops : List Ir) (k : ℕ) → ((i : ℕ) → i < length ops → slice_get code (k + i) ≡ slice_get ops i)
    → At code k ops
stands_at code [] k f = tt
stands_at code (i ∷ ops) k f =
    (ap (slice_get code) (omega arith) ∙ f 0 (omega arith), stands_at code ops (k + 1) (λ j lt. ap (slice_get code) (omega arith) ∙ f (suc j) (omega (arith, lt))))

sensor_kind : (o : Option DeviceKind) → is_sensor_driver o ≡ true → o ≡ Some Sensor
sensor_kind None h = absurd (false≢true h)
sensor_kind (Some Sensor) h = refl
sensor_kind (Some Actuator) h = absurd (false≢true h)

-- where sample is no entry, input is the last
above_last : (b : Bool) (n : ℕ) → nat_lt (if b then 3 else 2) n ≡ (nat_lt 3 n || ((n == 3) && not b))
above_last true n = or_none (nat_lt 3 n) (n == 3)
  where
    or_none : (x y : Bool) → x ≡ (x || (y && false))
    or_none true y = refl
    or_none false true = refl
    or_none false false = refl
above_last false n = elim (cases_eq n 3) [
  | inl e ↦ subst (λ (n : ℕ). nat_lt 2 n ≡ (nat_lt 3 n || ((n == 3) && true))) (sym e) refl
  | inr ne ↦ elim (cases_lt 3 n) [
    | inl lt ↦ rw (lt-ltb 3 n lt, lt-ltb 2 n (omega (arith, lt))) refl
    | inr ge ↦ rw (le-ltb 3 n ge, le-ltb 2 n (omega (arith, ge, ne)), ne_eqb n 3 ne) refl
  ]
]

-- input may be tested first
input_first : (n : ℕ) (set_key attest input sample : Invoked) → (if n == 2 then input else if n == 0 then set_key else if n == 1 then attest else sample)
    ≡ (if n == 0 then set_key else if n == 1 then attest else if n == 2 then input else sample)
input_first n set_key attest input sample = go (n == 0) (n == 1) (n == 2) (other 0 refl) (other 1 refl)
  where
    other : (m : ℕ) → (2 == m) ≡ false → (n == 2) ≡ true → (n == m) ≡ false
    other m e h = subst (λ (n : ℕ). (n == m) ≡ false) (sym (eqb-true n 2 h)) e

    go : (a b c : Bool) → (c ≡ true → a ≡ false) → (c ≡ true → b ≡ false) → (if c then input else if a then set_key else if b then attest else sample)
        ≡ (if a then set_key else if b then attest else if c then input else sample)
    go true b true f g = absurd (true≢false (f refl))
    go false true true f g = absurd (true≢false (g refl))
    go false false true f g = refl
    go true b false f g = refl
    go false true false f g = refl
    go false false false f g = refl

below_four : (n : ℕ) → nat_lt 3 n ≡ false → n ≤ 3
below_four n h = ⊎_elim (λ (p : 3 < n). absurd (true≢false (sym (lt-ltb 3 n p) ∙ h))) (λ (p : n ≤ 3). p) (cases_lt 3 n)

module _ (s : Setup) (call : Call) (p : Progress) (handle : ℕ → Conf → OperationResult) (given : ℕ
    → ℕ) (code : List Ir) (c : Conf) (cost : ℕ) (b : CallBegun s call p c) (does : HandlersDo s handle given code cost) where
  abbrev Goal : Invoked → ℕ → ℕ → Type 0
  Goal result n place = Invokes s call handle given code result n (at c place [])

  -- on to an entry's code
  jumps : (t : Bool) (entry place q n m : ℕ) (x y : Invoked) → (call.entry == entry) ≡ t
      → At code place (jump_on entry q) → 8 + m ≤ n → (t ≡ true → Goal x m q) → (t ≡ false → Goal y m (place + 1))
      → Goal (if t then x else y) n place
  jumps true entry place q n m x y e a le hit miss =
      compares s call handle given code x true 6 entry q c place n m a.0 refl (ap (λ (v : ℕ). v == entry) b.shows.entry ∙ e) le (hit refl)
  jumps false entry place q n m x y e a le hit miss =
      compares s call handle given code y false 6 entry q c place n m a.0 refl (ap (λ (v : ℕ). v == entry) b.shows.entry ∙ e) le (miss refl)

  -- the four entries
  enters : At code 18 (entries s.tree s.ends) → is_no_entry s call ≡ false → is_bad_window s call.input in_window_size ≡ false
      → is_bad_window s call.output out_window_size ≡ false → Goal (entered s call p) (cost + 2900) 18
  unfolding entered
  enters a known window outside =
      let size = b.shows.size in
      let n_sample = length (sample_code s.tree 21) in
      let q_key = 21 + n_sample in
      let q_attest = q_key + 21 in
      let q_input = q_attest + 11 in
      let q_search = q_input + 11 in
      let l7 = input_code q_input ++ search_code s.tree s.ends q_search in
      let l6 = attest_code q_attest ++ l7 in
      let l5 = set_key_code q_search q_key ++ l6 in
      let l4 = sample_code s.tree 21 ++ l5 in
      let l3 = jump_on 1 q_attest ++ l4 in
      let l2 = jump_on 0 q_key ++ l3 in
      let a2 = at_back code 18 19 (jump_on 2 q_input) l2 refl a in
      let a3 = at_back code 19 20 (jump_on 0 q_key) l3 refl a2 in
      let a4 = at_back code 20 21 (jump_on 1 q_attest) l4 refl a3 in
      let a5 = at_back code 21 q_key (sample_code s.tree 21) l5 refl a4 in
      let a6 = at_back code q_key q_attest (set_key_code q_search q_key) l6 refl a5 in
      let a7 = at_back code q_attest q_input (attest_code q_attest) l7 refl a6 in
      let a8 = at_back code q_input q_search (input_code q_input) (search_code s.tree s.ends q_search) refl a7 in
      let r3 = sample s call p in
      let on_key = with_received s call set_key_size set_key_kind p (λ packet. set_key s packet p) in
      let on_ask = with_received s call ask_size ask_kind p (λ packet. attest s call packet p) in
      let on_event = with_received s call event_size event_kind p (λ packet. input s call packet p) in
      let r2 = if call.entry == 1 then on_ask else r3 in
      let r1 = if call.entry == 0 then on_key else r2 in
      subst (λ (r : Invoked). Goal r (cost + 2900) 18) (input_first call.entry on_key on_ask on_event r3)
      (jumps (call.entry == 2) 2 18 q_input (cost + 2900) (cost + 2860) on_event r1 refl
      (at_front code 18 (jump_on 2 q_input) l2 a) (omega arith)
      (λ x. input_does s call handle given code p c b.shows b.pieces b.mem b.back window outside b.tag b.few b.links b.devices cost does b.unmarked (eqb-true call.entry 2 x) q_search a8 q_input (cost + 2860)
      (at_front code q_input (input_code q_input) (search_code s.tree s.ends q_search) a7) refl (omega arith))
      (λ n2. jumps (call.entry == 0) 0 19 q_key (cost + 2860) (cost + 2820) on_key r2 refl
      (at_front code 19 (jump_on 0 q_key) l3 a2) (omega arith)
      (λ x. set_key_does s call handle given code p c b.shows b.pieces b.mem window b.tag b.few b.links (eqb-true call.entry 0 x) q_search a8 q_key (cost + 2820)
      (at_front code q_key (set_key_code q_search q_key) l6 a5) (omega arith))
      (λ n0. jumps (call.entry == 1) 1 20 q_attest (cost + 2820) (cost + 2780) on_ask r3 refl
      (at_front code 20 (jump_on 1 q_attest) l4 a3) (omega arith)
      (λ x. attest_does s call handle given code p c b.shows b.pieces b.mem (omega (arith, size)) window outside b.tag q_attest (cost + 2780) (at_front code q_attest (attest_code q_attest) l7 a6)
      (omega arith))
      (λ n1.
      let parts = or_parts (nat_lt 3 call.entry) ((call.entry == 3) && not (is_sensor_driver (declared_kind s.tree.decls))) known in
      let three : call.entry ≡ 3 = three_left call.entry (below_four call.entry parts.0) (eqb-false call.entry 0 n0) (eqb-false call.entry 1 n1) (eqb-false call.entry 2 n2) in
      let sensor = sensor_kind (declared_kind s.tree.decls) (and_not (call.entry == 3) (is_sensor_driver (declared_kind s.tree.decls)) parts.1 (eq-eqb call.entry 3 three)) in
      let drives : Drives p.devices kind.Sensor s.section.layout = subst (λ (x : Option DeviceKind). HasDevices p.devices x s.section.layout) sensor b.devices in
      sample_does s call handle given code p c b.shows b.pieces b.back outside sensor drives b.samples cost does b.unmarked 21 (cost + 2780) (at_front code 21 (sample_code s.tree 21) l5 a4) (omega arith)))))
    where
      three_left : (n : ℕ) → n ≤ 3 → (n ≡ 0 → ⊥) → (n ≡ 1 → ⊥) → (n ≡ 2 → ⊥) → n ≡ 3
      three_left n le a b c = omega (arith, le, a, b, c)

  -- from the first operation on
  pub begins : At code 0 (tests s.tree ++ entries s.tree s.ends) → Goal (invoke s call p) (3300 + cost) 0
  unfolding invoke
  begins a =
      let k2 = refuse_if 13 (ir.Meets output_register out_window_size ∷ []) 3 in
      let k1 = refuse_if 8 (ir.Meets input_register in_window_size ∷ []) 3 ++ k2 in
      let k0 = refuse_if 1 (is_above_last s.tree) 2 ++ k1 in
      let none = is_no_entry s call in
      let t = at_front code 0 (ir.Inside ∷ k0) (entries s.tree s.ends) a in
      let e = at_back code 0 18 (ir.Inside ∷ k0) (entries s.tree s.ends) refl a in
      let a1 = at_back code 1 8 (refuse_if 1 (is_above_last s.tree) 2) k1 refl t.1 in
      let a2 = at_back code 8 13 (refuse_if 8 (ir.Meets input_register in_window_size ∷ []) 3) k2 refl a1 in
      let above : pure s c.priv (is_above_last s.tree) [] ≡ Some (truth none ∷ []) = ap (λ (v : ℕ). Some (truth (nat_lt (last_entry s.tree) v) ∷ [])) b.shows.entry
      ∙ ap (λ (t : Bool). Some (truth t ∷ [])) (above_last (is_sensor_driver (declared_kind s.tree.decls)) call.entry) in
      let in_bad : pure s c.priv (ir.Meets input_register in_window_size ∷ []) [] ≡ Some (truth (is_bad_window s call.input in_window_size) ∷ []) = ap
      (λ (v : ℕ). Some (truth (is_bad_window s v in_window_size) ∷ [])) b.shows.input in
      let out_bad : pure s c.priv (ir.Meets output_register out_window_size ∷ []) [] ≡ Some (truth (is_bad_window s call.output out_window_size) ∷ []) = ap
      (λ (v : ℕ). Some (truth (is_bad_window s v 384) ∷ [])) b.shows.output in
      let from_entries = entered s call p in
      let from_windows = if has_bad_windows s call then Returns bad_window p else from_entries in
      let from_entry = if is_no_entry s call then Returns no_entry p else from_windows in
      let inside : do_op s handle ir.Inside (at c 0 []) ≡ (if returns_inside s call then Stops (conf.Violates bad.Illegal c.marks) else Goes (at c 1 [])) = ap
      (λ (v : ℕ). if in_public s.section (even v) then Stops (conf.Violates bad.Illegal c.marks) else Goes (at c 1 [])) b.shows.back in
      by_inside (returns_inside s call) from_entry t.0 inside
      (refuse_does s call handle given code none (is_above_last s.tree) 2 (truth none) c 1 8 (3280 + cost) (3150 + cost) [] from_windows p
      (at_front code 1 (refuse_if 1 (is_above_last s.tree) 2) k1 t.1) above refl b.shows b.pieces refl (omega arith)
      (λ x1. subst (λ (x : Invoked). Goal x (3150 + cost) 8)
      (sym (or_if (is_bad_window s call.input in_window_size) (is_bad_window s call.output out_window_size) (Returns bad_window p) from_entries))
      (refuse_does s call handle given code (is_bad_window s call.input in_window_size) (ir.Meets input_register in_window_size ∷ []) 3 (truth (is_bad_window s call.input in_window_size)) c 8 13
      (3150 + cost) (3080 + cost) [] (if is_bad_window s call.output out_window_size then Returns bad_window p else from_entries) p
      (at_front code 8 (refuse_if 8 (ir.Meets input_register in_window_size ∷ []) 3) k2 a1) in_bad refl b.shows b.pieces refl (omega arith)
      (λ x2. refuse_does s call handle given code (is_bad_window s call.output out_window_size) (ir.Meets output_register out_window_size ∷ []) 3
      (truth (is_bad_window s call.output out_window_size)) c 13 18 (3080 + cost) (cost + 2900) [] from_entries p a2 out_bad refl b.shows b.pieces refl (omega arith)
      (λ x3. enters e x1 x2 x3)))))
    where
      by_inside : (t : Bool) (r : Invoked) → slice_get code 0 ≡ Some ir.Inside
          → do_op s handle ir.Inside (at c 0 []) ≡ (if t then Stops (conf.Violates bad.Illegal c.marks) else Goes (at c 1 []))
          → Goal r (3280 + cost) 1 → Goal (if t then Violates bad.Illegal p else r) (3300 + cost) 0
      by_inside true r i e rest = breaks s call handle given code (Violates bad.Illegal p) ir.Inside (at c 0 []) bad.Illegal c.marks (3300 + cost) i e refl (omega arith) (refl, sym b.shows.marks)
      by_inside false r i e rest = goes_on s call handle given code r ir.Inside (at c 0 []) (at c 1 []) (3300 + cost) (3280 + cost) i e refl (omega arith) rest

pub stub_invokes : StubInvokes
unfolding stub_code
stub_invokes s call p handle given code c cost b place stack stands does =
    let a = stands_at code (tests s.tree ++ entries s.tree s.ends) 0 (λ i lt. ap (slice_get code) (omega arith) ∙ stands i lt) in
    let r = invoke s call p in
    subst (λ (x : ℕ). Invokes s call handle given code r (3300 + cost) (at c x c.stack)) (sym place)
    (subst (λ (x : List ℕ). Invokes s call handle given code r (3300 + cost) (at c 0 x)) (sym stack)
    (begins s call p handle given code c cost b does a))
