-- A checked module emits only where it drives an actuator, and the device that it drives is its own.
use Rattle.std.proofs.Common.{◌≡◌, ℕ, zero, suc, ◌+◌, ◌<◌, ◌≤◌, ◌⊎◌, inl, inr, ◌==◌, ◌&&◌, Bool}
use Rattle.std.proofs.Common.{true, false, not, cond, if◌then◌else◌, List, [], ◌∷◌, ◌++◌, length}
use Rattle.std.proofs.Common.{Option, Some, None, refl, sym, ◌∙◌, ap, subst, arith}
use Rattle.std.specs.Prelude.{slice_get, slice_index_or, nat_lt, count_by, ◌&&◌}
use Rattle.std.specs.List.{list_any, find}
use Rattle.std.proofs.lemmas.List.Sums.{sum_by-cons}
use Rattle.std.proofs.lemmas.Bool.{true≢false, or_parts, and_cases, not-false, cases_eq, cases_lt, ltb-false}
use Rattle.std.proofs.lemmas.Option.{none-some}
use Rattle.lemmas.proofs.Lists.{get_some}
use Rattle.sx_lang.specs.declared.tree.Decl.{Decl}
use Rattle.sx_lang.specs.declared.tree.Decl.TheVariants.{Device, Input, Output, Var, Array}
use Rattle.sx_lang.specs.declared.tree.DeviceKind.{DeviceKind}
use Rattle.sx_lang.specs.declared.tree.DeviceKind.TheVariants as declared
use Rattle.sx_lang.specs.Tree.{Statement, Defines, Assigns, Stores, Chooses, Repeats, Sends, Emits as EmitsValue, Block, Done, Then, HandlerTree, ModuleTree}
use Rattle.sx_check.specs.Names.{is_device, is_actuator, is_repeated}
use Rattle.sx_check.specs.Bounds.{statement_emits, block_emits}
use Rattle.sx_check.specs.Rules.{first_broken, breaks}
use Rattle.sx_check.specs.declared.rules.Rule.TheVariants.{Duplicate, Kind}
use Rattle.sx_mean.specs.declared.events.Act.{Act}
use Rattle.sx_mean.specs.declared.events.Act.TheVariants.{Send, Emit}
use Rattle.sx_mean.specs.declared.events.SourceEvent.{SourceEvent}
use Rattle.sx_mean.specs.declared.events.SourceEvent.TheVariants as source
use Rattle.sx_mean.specs.declared.apps.AppDevice.{AppDevice}
use Rattle.sx_mean.specs.Application.{declared_kind, PartTree, is_sensor}
use Rattle.sx_mean.specs.Meaning.{HandlerState as Run, value, local_place, forget, times, after_statement, after_block}
use Rattle.sx_mean.specs.Places.{output_number, array_length}
use Rattle.sx_mean.specs.React.{nth, input_names, handler_of_name, handler_at, value_of, start, run, react}
use Rattle.sx_check.proofs.Keeps.{keeps}
use Rattle.sx_rules.specs.declared.section.Section.{Section}
use Rattle.sx_rules.specs.declared.section.Layout.{Layout}
use Rattle.sx_bus.specs.declared.devices.Window.{Window}
use Rattle.sx_bus.specs.Devices.{ArePlaces, places_of}
use Rattle.spec_machine.specs.Run.{device_of}
use Rattle.spec_machine.specs.State.{State}
use Rattle.spec_machine.proofs.Devices.{device_of_parts, device_at_same, window_same, same_places}
use Rattle.spec_invocation.specs.Setup.{Setup}
use Rattle.spec_invocation.specs.Invocation.{is_sensor_driver}
use Rattle.spec_invocation.specs.Acts.{own_window}
use Rattle.spec_invocation.specs.Devices.{HasDevices}
use Rattle.sx_image.specs.Image.{setup_at}
use Rattle.sx_mean.specs.Ends.{ends_of}
use Rattle.sx_model.specs.Step.{kind_is}
use Rattle.spec_run.specs.Setting.{Site, Setting, device_number, devices_at, windows_at}
use Rattle.spec_run.specs.Run.{place_at}
use Rattle.spec_run.specs.Law.{IsSoundSetting, IsDeployedModule, devices_of}
use Rattle.spec_run.proofs.tie.Lists.{get_within, some_inj}
use Rattle.spec_run.proofs.tie.Tied.{NodeTied, IsModule, OwnSensor, shapes}
use Rattle.spec_run.proofs.steps.Entry.{at_site, shapes_on, device_of_from}
use Rattle.spec_run.proofs.steps.Nodes.{index_get, shapes_long, windows_long}
use Rattle.spec_run.proofs.steps.Foreign.{device_of_window}
use Rattle.spec_run.proofs.acts.Sensing.{place_is}
use Rattle.spec_run.proofs.steps.Sends.{Emits}
use Rattle.spec_run.proofs.steps.Steps.{DriversFit}

-- A body without an emit emits nothing.

abbrev NoEmits : List Act → Type 0
NoEmits [] = Unit {0}
NoEmits (Send output v ∷ acts) = NoEmits acts
NoEmits (Emit v ∷ acts) = ⊥

sends_more : (acts : List Act) (output v : ℕ) → NoEmits acts → NoEmits (acts ++ Send output v ∷ [])
sends_more [] output v h = tt
sends_more (Send o u ∷ acts) output v h = sends_more acts output v h
sends_more (Emit u ∷ acts) output v h = absurd h

same_if : (b : Bool) (x y : Run) → NoEmits x.acts → NoEmits y.acts → NoEmits (if b then x else y).acts
same_if true x y h g = h
same_if false x y h g = g

quiet_times : (n : ℕ) (f : Run → Run) → ((st : Run) → NoEmits st.acts → NoEmits (f st).acts) → (st : Run) → NoEmits st.acts → NoEmits (times n f st).acts
quiet_times zero f q st h = h
quiet_times (suc n) f q st h = quiet_times n f q (f st) (q st h)

mutual
  quiet_statement : (ds : List Decl) (s : Statement) (st : Run) → statement_emits s ≡ false → NoEmits st.acts → NoEmits (after_statement ds s st).acts
  quiet_statement ds (Defines x e) st q h = h
  quiet_statement ds (Assigns x e) st q h = same_if (nat_lt (local_place st.locals x) (length st.locals)) _ _ h h
  quiet_statement ds (Stores x i e) st q h = same_if (nat_lt (value ds st i) (array_length ds x)) _ _ h h
  quiet_statement ds (Chooses e a b) st q h =
      let p = or_parts (block_emits a) (block_emits b) q in
      same_if (value ds st e == 0) (forget (length st.locals) (after_block ds b st)) (forget (length st.locals) (after_block ds a st)) (quiet_block ds b st p.1 h) (quiet_block ds a st p.0 h)
  quiet_statement ds (Repeats n a) st q h = quiet_times n (λ st. forget (length st.locals) (after_block ds a st)) (λ x g. quiet_block ds a x q g) st h
  quiet_statement ds (Sends x e) st q h = sends_more st.acts (output_number ds x) (value ds st e) h
  quiet_statement ds (EmitsValue e) st q h = absurd (true≢false q)

  quiet_block : (ds : List Decl) (b : Block) (st : Run) → block_emits b ≡ false → NoEmits st.acts → NoEmits (after_block ds b st).acts
  quiet_block ds Done st q h = h
  quiet_block ds (Then s b) st q h =
      let p = or_parts (statement_emits s) (block_emits b) q in
      quiet_block ds b (after_statement ds s st) p.1 (quiet_statement ds s st p.0 h)

found_none : {X : Type 0} → (test p : X → Bool) (xs : List X) (x : X) → find test xs ≡ Some x → list_any p xs ≡ false → p x ≡ false
found_none test p [] x e h = absurd cc
found_none test p (y ∷ xs) x e h = let q = or_parts (p y) (list_any p xs) h in by (test y) e q.0 (λ g. found_none test p xs x g q.1)
  where
    by : (b : Bool) → cond b (Some y) (find test xs) ≡ Some x → p y ≡ false → (find test xs ≡ Some x → p x ≡ false) → p x ≡ false
    by true e q f = subst (λ z. p z ≡ false) (some_inj y x e) q
    by false e q f = f e

quiet_handler : (m : ModuleTree) (o : Option HandlerTree) (v : ℕ) (cells : List ℕ) → ((h : HandlerTree) → o ≡ Some h → block_emits h.body ≡ false) → NoEmits (run m.decls o v cells).acts
quiet_handler m None v cells f = tt
quiet_handler m (Some h) v cells f = quiet_block m.decls h.body (start h v cells) (f h refl) tt

quiet_react : (m : ModuleTree) (e : SourceEvent) (cells : List ℕ) → list_any (λ h. block_emits h.body) m.handlers ≡ false → NoEmits (react m e cells).acts
quiet_react m e cells none = quiet_handler m (handler_at m e) (value_of e) cells (at_event e)
  where
    named : (o : Option (List ℕ)) (h : HandlerTree) → handler_of_name o m.handlers ≡ Some h → block_emits h.body ≡ false
    named None h e = absurd cc
    named (Some x) h e = found_none (λ h. Rattle.sx_check.specs.Names.same_input (Some x) h.input) (λ h. block_emits h.body) m.handlers h e none

    at_event : (e : SourceEvent) (h : HandlerTree) → handler_at m e ≡ Some h → block_emits h.body ≡ false
    at_event (source.Input j v) h e = named (nth (input_names m.decls) j) h e
    at_event (source.Sample v) h e = found_none (λ h. Rattle.sx_check.specs.Names.same_input None h.input) (λ h. block_emits h.body) m.handlers h e none

-- The rules: one device at most, and an emit only beside an actuator.

count_more : (p : Decl → Bool) (d : Decl) (ds : List Decl) → count_by p (d ∷ ds) ≡ cond (p d) 1 0 + count_by p ds
count_more p d ds = sum_by-cons (λ x. cond (p x) 1 0) d ds

actuator_counts : (ds : List Decl) → list_any is_actuator ds ≡ true → 1 ≤ count_by is_device ds
actuator_counts [] h = absurd (true≢false (sym h))
actuator_counts (Device k ∷ ds) h = omega (arith, count_more is_device (Device k) ds)
actuator_counts (Input x ∷ ds) h = actuator_counts ds h
actuator_counts (Output x ∷ ds) h = actuator_counts ds h
actuator_counts (Var x n ∷ ds) h = actuator_counts ds h
actuator_counts (Array x n ∷ ds) h = actuator_counts ds h

actuator_declared : (ds : List Decl) → list_any is_actuator ds ≡ true → count_by is_device ds ≤ 1 → declared_kind ds ≡ Some declared.Actuator
actuator_declared [] h c = absurd (true≢false (sym h))
actuator_declared (Device declared.Actuator ∷ ds) h c = refl
actuator_declared (Device declared.Sensor ∷ ds) h c = absurd (omega (arith, c, count_more is_device (Device declared.Sensor) ds, actuator_counts ds h))
actuator_declared (Input x ∷ ds) h c = actuator_declared ds h c
actuator_declared (Output x ∷ ds) h c = actuator_declared ds h c
actuator_declared (Var x n ∷ ds) h c = actuator_declared ds h c
actuator_declared (Array x n ∷ ds) h c = actuator_declared ds h c

one_device : (all ds : List Decl) → list_any (is_repeated all) ds ≡ false → list_any is_actuator ds ≡ true → count_by is_device all ≤ 1
one_device all [] r h = absurd (true≢false (sym h))
one_device all (Device k ∷ ds) r h = ltb-false 1 (count_by is_device all) (or_parts (nat_lt 1 (count_by is_device all)) (list_any (is_repeated all) ds) r).0
one_device all (Input x ∷ ds) r h = one_device all ds (or_parts (is_repeated all (Input x)) (list_any (is_repeated all) ds) r).1 h
one_device all (Output x ∷ ds) r h = one_device all ds (or_parts (is_repeated all (Output x)) (list_any (is_repeated all) ds) r).1 h
one_device all (Var x n ∷ ds) r h = one_device all ds (or_parts (is_repeated all (Var x n)) (list_any (is_repeated all) ds) r).1 h
one_device all (Array x n ∷ ds) r h = one_device all ds (or_parts (is_repeated all (Array x n)) (list_any (is_repeated all) ds) r).1 h

unrepeated : (m : ModuleTree) → breaks m Duplicate ≡ false → list_any (is_repeated m.decls) m.decls ≡ false
unfolding breaks
unrepeated m h = (or_parts (list_any (is_repeated m.decls) m.decls) _ h).0

unfoldable emits_nowhere : ModuleTree → Bool
emits_nowhere m = list_any (λ h. block_emits h.body) m.handlers && not (list_any is_actuator m.decls)

emits_somewhere : (m : ModuleTree) → breaks m Kind ≡ false → emits_nowhere m ≡ false
unfolding breaks emits_nowhere
emits_somewhere m h = (or_parts _ _ (or_parts _ _ h).1).1

emits_or_not : (m : ModuleTree) → emits_nowhere m ≡ false → (list_any (λ h. block_emits h.body) m.handlers ≡ false) ⊎ (list_any is_actuator m.decls ≡ true)
unfolding emits_nowhere
emits_or_not m h = elim (and_cases (list_any (λ h. block_emits h.body) m.handlers) (not (list_any is_actuator m.decls)) h) [ inl a ↦ inl a | inr b ↦ inr (not-false (list_any is_actuator m.decls) b) ]

-- a checked module emits nothing, or it declares an actuator
quiet_or_actuator : (m : ModuleTree) → first_broken m ≡ None → (list_any (λ h. block_emits h.body) m.handlers ≡ false) ⊎ (declared_kind m.decls ≡ Some declared.Actuator)
quiet_or_actuator m h = elim (emits_or_not m (emits_somewhere m (keeps m h Kind))) [
  | inl none ↦ inl none
  | inr some ↦ inr (actuator_declared m.decls some (one_device m.decls m.decls (unrepeated m (keeps m h Duplicate)) some))
]

-- The device that a module drives.

place_at_index : (ws : List Window) (k : ℕ) (w : Window) → slice_get ws k ≡ Some w → (slice_index_or (places_of ws) k 0 ≡ w.at) × (k < length (places_of ws))
place_at_index [] k w e = absurd cc
place_at_index (x ∷ ws) zero w e = (ap (λ (z : Window). z.at) (some_inj x w e), omega arith)
place_at_index (x ∷ ws) (suc k) w e = let p = place_at_index ws k w e in (p.0, omega (arith, p.1))

-- two windows at one place are one
one_window : (ws : List Window) (j k : ℕ) (x y : Window) → ArePlaces (places_of ws) → slice_get ws j ≡ Some x → slice_get ws k ≡ Some y → x.at ≡ y.at → j ≡ k
one_window ws j k x y p jx ky same =
    let a = place_at_index ws j x jx in
    let b = place_at_index ws k y ky in
    elim (cases_eq j k) [
      | inl e ↦ e
      | inr ne ↦ elim (cases_lt j k) [
        | inl lt ↦ absurd (p.distinct j k 0 lt b.1 (a.0 ∙ same ∙ sym b.0))
        | inr ge ↦ absurd (p.distinct k j 0 (omega (arith, ge, ne)) a.1 (b.0 ∙ sym same ∙ sym a.0))
      ]
    ]

driven_window : (ds : List Window) (kd : DeviceKind) (l : Layout) → HasDevices ds (Some kd) l → (k : ℕ) × (w : Window) × (device_of ds l.priv_from ≡ Some (k, w)) × (w.at ≡ l.priv_from)
driven_window ds declared.Sensor l h = (h.device, h.window, h.found, h.at_start)
driven_window ds declared.Actuator l h = (h.device, h.window, h.found, h.at_start)

module _ (set : Setting) (sound : IsSoundSetting set) (m : ℕ) (q : PartTree) (site : Site) (s : State)
    (sec : Section) (boot : ℕ) (dep : IsDeployedModule set m q site) (node : NodeTied set q.node s boot) (is : IsModule q.node site s sec) where
  abbrev setup : Setup
  setup = setup_at set.mac q.tree (ends_of set.app m) sec s

  -- the device at the start of its private section is the one that it drives
  pub record Own (b : List Window) : Type 0 where
    pub index : ℕ
    pub window : Window
    pub found : own_window setup b ≡ Some (index, window)
    pub there : slice_get b index ≡ Some window
    pub device : AppDevice
    pub part : q.device ≡ Some (device_number set.app q.node index)
    pub at : slice_get set.app.devices (device_number set.app q.node index) ≡ Some device
    pub kind : declared_kind q.tree.decls ≡ Some device.kind

  own : (kd : DeviceKind) → declared_kind q.tree.decls ≡ Some kd → (b : List Window) → shapes b ≡ shapes s.devices → Own b
  own kd decl b same = by_device q.device refl
    where
      by_device : (o : Option ℕ) → q.device ≡ o → Own b
      by_device None e = absurd (none-some kd (sym (sym decl ∙ dep.none e)))
      by_device (Some d) e =
          let driven = dep.device d e in
          let first = driven_window (devices_of set q.node) kd site.layout (subst (λ o. HasDevices (devices_of set q.node) o site.layout) decl dep.devices) in
          let from : shapes (devices_of set q.node) ≡ shapes b = shapes_on (windows_at q.node set.app.devices set.places) ∙ sym node.windows ∙ sym same in
          let p = device_of_parts (devices_of set q.node) site.layout.priv_from first.0 first.1 first.2 in
          let v = window_same (devices_of set q.node) b first.0 first.1 from p.1 in
          let found : device_of b site.layout.priv_from ≡ Some (first.0, v.0) = device_of_from b site.layout.priv_from first.0 v.0
          (sym (device_at_same (devices_of set q.node) b site.layout.priv_from from) ∙ p.0) v.1 in
          let here : sec.layout ≡ site.layout = (at_site q.node s.mem sec site is.here).layout in
          let k2 = place_at set q.node d in
          let listed : slice_get (devices_at q.node 0 set.app.devices) k2 ≡ Some d = place_is set q.node d driven.device driven.found driven.node in
          let number : device_number set.app q.node k2 ≡ d = index_get (devices_at q.node 0 set.app.devices) k2 d listed in
          let w2 : (w : Window) × (slice_get b k2 ≡ Some w) = get_some b k2
          (omega (
            arith,
            get_within (devices_at q.node 0 set.app.devices) k2 d listed,
            shapes_long b,
            ap length same,
            ap length node.windows,
            windows_long q.node 0 set.app.devices set.places sound.places,
          )) in
          let d2 = device_of_window set q.node k2 b w2.0 sound (same ∙ node.windows) w2.1 in
          let at2 : w2.0.at ≡ site.layout.priv_from = some_inj w2.0.at site.layout.priv_from (sym d2.place ∙ ap (λ j. slice_get set.places j) number ∙ driven.place) in
          let places : ArePlaces (places_of b) = subst (λ z. ArePlaces z) (sym (same_places b s.devices same)) node.node.places in
          let one : k2 ≡ first.0 = one_window b k2 first.0 w2.0 v.0 places w2.1 v.1 (at2 ∙ sym first.3 ∙ sym v.2) in
          let num : device_number set.app q.node first.0 ≡ d = ap (λ j. device_number set.app q.node j) (sym one) ∙ number in
          record {
            index = first.0;
            window = v.0;
            found = ap (λ (l : Layout). device_of b l.priv_from) here ∙ found;
            there = v.1;
            device = driven.device;
            part = e ∙ ap Some (sym num);
            at = ap (λ j. slice_get set.app.devices j) num ∙ driven.found;
            kind = driven.kind;
          }

  all_fit : (b : List Window) → Own b → (acts : List Act) → Emits set.app q.node q setup b acts
  all_fit b o [] = tt
  all_fit b o (Send output v ∷ acts) = all_fit b o acts
  all_fit b o (Emit v ∷ acts) = ((o.index, o.window, o.found, o.part), all_fit b o acts)

  none_fit : (b : List Window) (acts : List Act) → NoEmits acts → Emits set.app q.node q setup b acts
  none_fit b [] h = tt
  none_fit b (Send output v ∷ acts) h = none_fit b acts h
  none_fit b (Emit v ∷ acts) h = absurd h

  emits_fit : (b : List Window) → shapes b ≡ shapes s.devices → (e : SourceEvent) (cells : List ℕ) → Emits set.app q.node q setup b (react q.tree e cells).acts
  emits_fit b same e cells = elim (quiet_or_actuator q.tree dep.checked) [
    | inl none ↦ none_fit b (react q.tree e cells).acts (quiet_react q.tree e cells none)
    | inr decl ↦ all_fit b (own declared.Actuator decl b same) (react q.tree e cells).acts
  ]

  sensor_fits : is_sensor_driver (declared_kind q.tree.decls) ≡ true → (k : ℕ) × (w : Window) × (own_window setup s.devices ≡ Some (k, w)) × OwnSensor set.app q.node q s.devices k w
  sensor_fits h = by_kind (declared_kind q.tree.decls) refl h
    where
      by_kind : (o : Option DeviceKind) → declared_kind q.tree.decls ≡ o → is_sensor_driver o ≡ true
          → (k : ℕ) × (w : Window) × (own_window setup s.devices ≡ Some (k, w)) × OwnSensor set.app q.node q s.devices k w
      by_kind None e h = absurd (true≢false (sym h))
      by_kind (Some declared.Actuator) e h = absurd (true≢false (sym h))
      by_kind (Some declared.Sensor) e h =
          let o = own declared.Sensor e s.devices refl in
          let kind : declared.Sensor ≡ o.device.kind = some_inj declared.Sensor o.device.kind (sym e ∙ o.kind) in
          (o.index, o.window, o.found, record { device = o.part; there = o.there; sensor = ap (λ z. kind_is is_sensor z) o.at ∙ ap is_sensor (sym kind) })

pub drivers_fit : (set : Setting) → IsSoundSetting set → DriversFit set
drivers_fit set sound m q site s sec boot dep node is = (emits_fit set sound m q site s sec boot dep node is, sensor_fits set sound m q site s sec boot dep node is)
