-- A step of code that is no deployed module's: what it does at devices, and what it leaves of the modules.
use Rattle.std.proofs.Common.{◌≡◌, ◌≢◌, ℕ, zero, suc, ◌+◌, ◌⊎◌, inl, inr, ◌==◌, ◌&&◌, not}
use Rattle.std.proofs.Common.{Bool, true, false, cond, if◌then◌else◌, List, [], ◌∷◌, ◌++◌, length}
use Rattle.std.proofs.Common.{Option, Some, None, refl, sym, ◌∙◌, ap, subst, arith}
use Rattle.std.specs.Prelude.{slice_get, slice_set, nat_lt, nat_le, is_some}
use Rattle.std.specs.List.{position_from}
use Rattle.std.proofs.lemmas.Bool.{true≢false, and_parts, and_from, eqb-true, cases_eq, cases_Bool, le-leb}
use Rattle.std.proofs.lemmas.Option.{none-some}
use Rattle.lemmas.proofs.Lists.{get_some}
use Rattle.sx_rules.specs.declared.access.Access.{Access}
use Rattle.sx_rules.specs.declared.access.Access.TheVariants.{Read, Write}
use Rattle.sx_rules.specs.declared.section.Section.{Section}
use Rattle.sx_rules.specs.declared.section.Layout.{Layout}
use Rattle.sx_rules.specs.Access.{Lives, may, in_private, section_of}
use Rattle.sx_rules.specs.Admission.{good_bounds}
use Rattle.sx_rules.proofs.Placing.{placed_found}
use Rattle.sx_bus.specs.declared.devices.Kind.{Kind}
use Rattle.sx_bus.specs.declared.devices.Kind.TheVariants.{Sensor, Actuator}
use Rattle.sx_bus.specs.declared.devices.Window.{Window}
use Rattle.sx_bus.specs.Devices.{cleared}
use Rattle.sx_lang.specs.declared.tree.DeviceKind.{DeviceKind}
use Rattle.sx_lang.specs.declared.tree.DeviceKind.TheVariants as declared
use Rattle.sx_mean.specs.declared.apps.AppDevice.{AppDevice}
use Rattle.sx_ledger.specs.declared.entry.Maker.{Maker}
use Rattle.sx_ledger.specs.declared.entry.Maker.TheVariants as maker
use Rattle.spec_machine.specs.declared.kinds.Touch.{Touch}
use Rattle.spec_machine.specs.declared.kinds.Touch.TheVariants as touch
use Rattle.spec_machine.specs.State.{State}
use Rattle.spec_machine.specs.Step.{step, own_of}
use Rattle.spec_machine.proofs.PlanGuard.{barred}
use Rattle.sx_image.specs.Watched.{marks_of_touches, violation_of}
use Rattle.sx_mean.specs.Application.{PartTree, is_sensor}
use Rattle.sx_model.specs.State.{Reading, contains}
use Rattle.sx_model.specs.order.State.{Standing, Model}
use Rattle.sx_model.specs.order.Step.{is_undriven, step as source_step}
use Rattle.spec_run.specs.Setting.{Site, Setting, module_of, deployed, is_at_site, device_number, devices_at, windows_at, kind_of}
use Rattle.spec_run.specs.Ledger.{Made, is_made}
use Rattle.spec_run.specs.State.{World}
use Rattle.spec_run.specs.Acts.{with_node}
use Rattle.sx_trace.specs.declared.items.Item.TheVariants as item
use Rattle.spec_run.specs.Observation.{touch_items}
use Rattle.spec_run.specs.Law.{IsSoundSetting}
use Rattle.spec_run.proofs.tie.Lists.{get_within, length_set, some_inj}
use Rattle.spec_run.proofs.tie.Verdicts.{judge, Fares}
use Rattle.spec_run.proofs.tie.Tied.{Known, IsSane, NodeTied, IsModule, ModuleTied, Absent, Rests, Runs, Tied, shapes}
use Rattle.spec_run.proofs.steps.Entry.{at_site}
use Rattle.spec_run.proofs.steps.Stretch.{readings_all}
use Rattle.spec_run.proofs.steps.Nodes.{NodeGoes, tied_node, device_here, index_get}
use Rattle.spec_machine.specs.Touches.{Replays}
use Rattle.spec_run.proofs.steps.Machine.{MachineLaws, Onward, onward}
use Rattle.spec_run.proofs.steps.Bystanders.{DevicesTied, Apart, replayed, replayed_shapes, onlooker}
use Rattle.spec_run.proofs.steps.Steps.{apart_there}

-- A node's windows are the application's devices, in place and kind.

abbrev WindowAt : ℕ → List AppDevice → List ℕ → Window → ℕ → List ℕ → Type 0
WindowAt i ds ats w k devs = (j : ℕ) × (d : AppDevice) × (slice_get devs k ≡ Some (i + j)) × (slice_get ds j ≡ Some d) × (slice_get ats j ≡ Some w.at) × (kind_of d.kind ≡ w.kind)

window_later : (i : ℕ) (d : AppDevice) (ds : List AppDevice) (at : ℕ) (ats : List ℕ) (w : Window) (k : ℕ) (devs : List ℕ) → WindowAt (i + 1) ds ats w k devs → WindowAt i (d ∷ ds) (at ∷ ats) w k devs
window_later i d ds at ats w k devs r = (suc r.0, r.1, r.2 ∙ ap Some (omega arith), r.3, r.4, r.5)

window_head : (b : Bool) (n i : ℕ) (d : AppDevice) (ds : List AppDevice) (at : ℕ) (ats : List ℕ) (ws : List Window) (k : ℕ) (w : Window)
    → shapes ws ≡ (if b then (at, kind_of d.kind) ∷ windows_at n ds ats else windows_at n ds ats) → slice_get ws k ≡ Some w
    → ((ws : List Window) (k : ℕ) → shapes ws ≡ windows_at n ds ats → slice_get ws k ≡ Some w → WindowAt (i + 1) ds ats w k (devices_at n (i + 1) ds))
    → WindowAt i (d ∷ ds) (at ∷ ats) w k (if b then i ∷ devices_at n (i + 1) ds else devices_at n (i + 1) ds)
window_head true n i d ds at ats [] k w s h f = absurd cc
window_head true n i d ds at ats (x ∷ ws) zero w s h f =
    let g : ◌≡◌ {A = ℕ × Kind} (x.at, x.kind) (at, kind_of d.kind) = cc in
    let xw = some_inj x w h in
    (0, d, ap Some (omega arith), refl, ap Some (sym (ap (λ (p : ℕ × Kind). p.0) g) ∙ ap (λ (z : Window). z.at) xw), sym (ap (λ (p : ℕ × Kind). p.1) g) ∙ ap (λ (z : Window). z.kind) xw)
window_head true n i d ds at ats (x ∷ ws) (suc k) w s h f =
    let tail : shapes ws ≡ windows_at n ds ats = cc in
    let r = f ws k tail h in (suc r.0, r.1, r.2 ∙ ap Some (omega arith), r.3, r.4, r.5)
window_head false n i d ds at ats ws k w s h f = window_later i d ds at ats w k (devices_at n (i + 1) ds) (f ws k s h)

window_there : (n i : ℕ) (ds : List AppDevice) (ats : List ℕ) (ws : List Window) (k : ℕ) (w : Window) → length ats ≡ length ds → shapes ws ≡ windows_at n ds ats → slice_get ws k ≡ Some w
    → WindowAt i ds ats w k (devices_at n i ds)
window_there n i [] ats [] k w e s h = absurd cc
window_there n i [] ats (x ∷ ws) k w e s h = absurd cc
window_there n i (d ∷ ds) [] ws k w e s h = absurd (omega (arith, e))
window_there n i (d ∷ ds) (at ∷ ats) ws k w e s h =
    window_head (d.node == n) n i d ds at ats ws k w s h (λ ws k s h. window_there n (i + 1) ds ats ws k w (omega (arith, e)) s h)

-- the device of a window: its number's place and kind
pub record Device (set : Setting) (n k : ℕ) (w : Window) : Type 0 where
  pub device : AppDevice
  pub there : slice_get set.app.devices (device_number set.app n k) ≡ Some device
  pub place : slice_get set.places (device_number set.app n k) ≡ Some w.at
  pub kind : kind_of device.kind ≡ w.kind
  pub node : device.node ≡ n

pub device_of_window : (set : Setting) (n k : ℕ) (ws : List Window) (w : Window) → IsSoundSetting set → shapes ws ≡ windows_at n set.app.devices set.places → slice_get ws k ≡ Some w → Device set n k w
device_of_window set n k ws w sound s h =
    let r = window_there n 0 set.app.devices set.places ws k w sound.places s h in
    let at : device_number set.app n k ≡ r.0 = index_get (devices_at n 0 set.app.devices) k (0 + r.0) r.2 ∙ omega arith in
    let d = device_here set n k ws w sound s h in
    let same : d.0 ≡ r.1 = some_inj d.0 r.1 (sym d.1 ∙ subst (λ j. slice_get set.app.devices j ≡ Some r.1) (sym at) r.3) in
    record {
      device = r.1;
      there = subst (λ j. slice_get set.app.devices j ≡ Some r.1) (sym at) r.3;
      place = subst (λ j. slice_get set.places j ≡ Some w.at) (sym at) r.4;
      kind = r.5;
      node = sym (ap (λ (z : AppDevice). z.node) same) ∙ d.2;
    }

-- no driver of a device is present, where none that is present drives it
undriven_where : (d : ℕ) (qs : List PartTree) (xs : List Standing)
    → ((m : ℕ) (q : PartTree) (x : Standing) → slice_get qs m ≡ Some q → slice_get xs m ≡ Some x → q.device ≡ Some d → x.present ≡ None)
    → is_undriven qs xs d ≡ true
undriven_where d [] xs f = refl
undriven_where d (q ∷ qs) [] f = refl
undriven_where d (q ∷ qs) (x ∷ xs) f = and_from _ (is_undriven qs xs d) (one q.device refl) (undriven_where d qs xs (λ m q2 x2 a b. f (suc m) q2 x2 a b))
  where
    one : (o : Option ℕ) → q.device ≡ o → not (contains o d && is_some x.present) ≡ true
    one None e = refl
    one (Some c) e = elim (cases_eq c d) [
      | inl same ↦
          let none : is_some x.present ≡ false = ap is_some (f 0 q x refl refl (e ∙ ap Some same)) in
          ap (λ b. not ((c == d) && b)) none ∙ not_and (c == d)
      | inr ne ↦ ap (λ b. not (b && is_some x.present)) (Rattle.std.proofs.lemmas.Bool.ne_eqb c d ne)
    ]
      where
        not_and : (b : Bool) → not (b && false) ≡ true
        not_and true = refl
        not_and false = refl

-- Code that is no deployed module's.

pub position_some : {X : Type 0} → (test : X → Bool) (i : ℕ) (xs : List X) (k : ℕ) (x : X) → slice_get xs k ≡ Some x → test x ≡ true → position_from test i xs ≡ None → ⊥
position_some test i [] k x e t n = absurd cc
position_some test i (y ∷ xs) zero x e t n =
    let ty : test y ≡ true = subst (λ z. test z ≡ true) (sym (some_inj y x e)) t in
    absurd (none-some i (sym (sym (ap (λ b. cond b (Some i) (position_from test (i + 1) xs)) ty) ∙ n)))
position_some test i (y ∷ xs) (suc k) x e t n = elim (cases_Bool (test y)) [
  | inl h ↦ absurd (none-some i (sym (sym (ap (λ b. cond b (Some i) (position_from test (i + 1) xs)) h) ∙ n)))
  | inr h ↦ position_some test (i + 1) xs k x e t (sym (ap (λ b. cond b (Some i) (position_from test (i + 1) xs)) h) ∙ n)
]

module _ (set : Setting) (w : World) (mo : Model) (n : ℕ) (s : State) (boot : ℕ) (sound : IsSoundSetting set)
    (t : Tied set w mo) (here : slice_get w.nodes n ≡ Some s) (boots : slice_get mo.boots n ≡ Some boot)
    (own : ℕ) (stranger : (k : ℕ) (site : Site) (sec : Section) → slice_get set.sites k ≡ Some site
    → Lives s.sections.live sec → is_at_site n s.mem sec site ≡ true → (own ≢ sec.id) × (s.cur ≢ sec.id)) where
  node : NodeTied set n s boot
  node = t.nodes n s boot here boots

  -- a driver whose device such code reached isn't present
  driver_absent : (k : ℕ) (x : Window) (access : Access) → slice_get s.devices k ≡ Some x
      → may s.sections.live own access x.at ≡ true → is_undriven set.app.parts mo.modules (device_number set.app n k) ≡ true
  driver_absent k x access e open_ = undriven_where (device_number set.app n k) set.app.parts mo.modules (λ m q z pm zm dv.
      let d = device_of_window set n k s.devices x sound node.windows e in
      let site : (site : Site) × (slice_get set.sites m ≡ Some site) = get_some set.sites m (omega (arith, get_within set.app.parts m q pm, sound.sites)) in
      let dep = sound.deployed m q site.0 pm site.1 in
      let driven = dep.device (device_number set.app n k) dv in
      let same : driven.device ≡ d.device = some_inj driven.device d.device (sym driven.found ∙ d.there) in
      let qn : q.node ≡ n = sym driven.node ∙ ap (λ (g : AppDevice). g.node) same ∙ d.node in
      let at : x.at ≡ site.0.layout.priv_from = some_inj x.at site.0.layout.priv_from (sym d.place ∙ driven.place) in
      absent_of m q site.0 z x access at open_ site.1 dep.bounds
      (subst (λ j. ModuleTied set j m q site.0 s z mo.sent) qn
      (t.modules m q site.0 s z pm site.1 (subst (λ j. slice_get w.nodes j ≡ Some s) (sym qn) here) zm)))
    where
      inside : (m : ℕ) (site : Site) (sec : Section) (x : Window) (access : Access) → x.at ≡ site.layout.priv_from
          → may s.sections.live own access x.at ≡ true → slice_get set.sites m ≡ Some site → good_bounds site.layout ≡ true
          → IsModule n site s sec → ⊥
      inside m site sec x access at open_ sk bounds i =
          let away = stranger m site sec sk i.lives i.here in
          let shut = barred s.sections.live own access x.at sec i.lives away.0 open_ in
          let l = (at_site n s.mem sec site i.here).layout in
          let low : sec.layout.priv_from ≡ x.at = ap (λ (z : Layout). z.priv_from) l ∙ sym at in
          let lt = (and_parts (nat_lt site.layout.priv_from site.layout.priv_to) _ (and_parts (nat_lt site.layout.pub_from site.layout.pub_to) _ bounds).1).0 in
          let lt2 : nat_lt x.at sec.layout.priv_to ≡ true = subst (λ j. nat_lt j sec.layout.priv_to ≡ true)
          (sym at) (subst (λ (z : Layout). nat_lt site.layout.priv_from z.priv_to ≡ true) (sym l) lt) in
          let yes_ : in_private sec x.at ≡ true = and_from (nat_le sec.layout.priv_from x.at) (nat_lt x.at sec.layout.priv_to) (le-leb sec.layout.priv_from x.at (omega (arith, low))) lt2 in
          absurd (true≢false (sym yes_ ∙ shut))

      absent_of : (m : ℕ) (q : PartTree) (site : Site) (z : Standing) (x : Window) (access : Access)
          → x.at ≡ site.layout.priv_from → may s.sections.live own access x.at ≡ true → slice_get set.sites m ≡ Some site
          → good_bounds site.layout ≡ true
          → ModuleTied set n m q site s z mo.sent → z.present ≡ None
      absent_of m q site z x access at open_ sk bounds (Absent none f) = none
      absent_of m q site z x access at open_ sk bounds (Rests sec pr p i c pend h) = absurd (inside m site sec x access at open_ sk bounds i)
      absent_of m q site z x access at open_ sk bounds (Runs sec pr p i c u) = absurd (inside m site sec x access at open_ sk bounds i)

  abbrev with_devices : List Reading → Model
  with_devices rs = record { boots = mo.boots; devices = rs; modules = mo.modules; epochs = mo.epochs; sent = mo.sent; asks = mo.asks }

  kind_sensor : (k : ℕ) (x : Window) (d : Device set n k x) → x.kind ≡ Sensor → is_sensor d.device.kind ≡ true
  kind_sensor k x d e = by_kind d.device.kind (d.kind ∙ e)
    where
      by_kind : (kd : DeviceKind) → kind_of kd ≡ Sensor → is_sensor kd ≡ true
      by_kind declared.Sensor e = refl
      by_kind declared.Actuator e = absurd (cc e)

  kind_actuator : (k : ℕ) (x : Window) (d : Device set n k x) → x.kind ≡ Actuator → is_sensor d.device.kind ≡ false
  kind_actuator k x d e = by_kind d.device.kind (d.kind ∙ e)
    where
      by_kind : (kd : DeviceKind) → kind_of kd ≡ Actuator → is_sensor kd ≡ false
      by_kind declared.Actuator e = refl
      by_kind declared.Sensor e = absurd (cc e)

  drain_step : (rs : List Reading) (d : ℕ) (dev : AppDevice) (r : Reading) → slice_get set.app.devices d ≡ Some dev
      → is_sensor dev.kind ≡ true → slice_get rs d ≡ Some r → r.fresh ≡ true → is_undriven set.app.parts mo.modules d ≡ true
      → source_step set.app (with_devices rs) (item.Drain d) ≡ Some (with_devices (slice_set rs d (record { value = r.value; fresh = false })))
  drain_step rs d dev r a b c e u = rw (c, e, a, b, u) refl

  raw_step : (rs : List Reading) (d v : ℕ) (dev : AppDevice) → slice_get set.app.devices d ≡ Some dev → is_sensor dev.kind ≡ false → is_undriven set.app.parts mo.modules d ≡ true
      → source_step set.app (with_devices rs) (item.Raw d v) ≡ Some (with_devices rs)
  raw_step rs d v dev a b u = rw (a, b, u) refl

  -- the window of the node at the same place
  same_window : (k : ℕ) (a : List Window) (x : Window) → shapes a ≡ shapes s.devices → slice_get a k ≡ Some x → (y : Window) × (slice_get s.devices k ≡ Some y) × (y.at ≡ x.at)
  same_window k a x sh e = let v = Rattle.spec_machine.proofs.Devices.window_same a s.devices k x sh e in (v.0, v.1, v.2)

  -- reads and writes of such code at devices are drains and raw writes, and allowed
  pub touches_fare : (ts : List Touch) (a b : List Window) (rs : List Reading) → shapes a ≡ shapes s.devices
      → length rs ≡ length set.app.devices → Replays s.sections.live own ts a b → Apart set.app n a → DevicesTied set.app n a rs
      → Fares (judge set.app (with_devices rs) (touch_items set.app n None ts)) (λ mo2. mo2 ≡ with_devices (readings_all set.app n (marks_of_touches ts) rs))
  touches_fare [] a b rs sh long h apart tied = refl
  touches_fare (touch.Quiet ∷ ts) a b rs sh long h apart tied = touches_fare ts a b rs sh long h apart tied
  touches_fare (touch.DeviceRead k v ∷ ts) a b rs sh long h apart tied =
      let num = device_number set.app n k in
      let d = device_of_window set n k a h.0 sound (sh ∙ node.windows) h.1 in
      let x = same_window k a h.0 sh h.1 in
      let r : (r : Reading) × (slice_get rs num ≡ Some r) = get_some rs num (omega (arith, get_within set.app.devices num d.device d.there, long)) in
      let was = tied k h.0 r.0 h.1 r.1 in
      let undr = driver_absent k x.0 Read x.1 (subst (λ j. may s.sections.live own Read j ≡ true) (sym x.2) h.5) in
      let rs2 = slice_set rs num (record { value = v; fresh = false }) in
      let value : (record { value = r.0.value; fresh = false }) ≡ (record { value = v; fresh = false }) = ap (λ z. record { value = z; fresh = false }) (was.value ∙ h.4) in
      let go : source_step set.app (with_devices rs) (item.Drain num) ≡ Some (with_devices rs2) = drain_step rs num d.device r.0 d.there
      (kind_sensor k h.0 d h.2) r.1 (was.fresh ∙ h.3) undr ∙ ap (λ z. Some (with_devices (slice_set rs num z))) value in
      subst (λ o. Fares (Rattle.spec_run.proofs.tie.Verdicts.judge_on o (λ z. judge set.app z (touch_items set.app n None ts)))
      (λ mo2. mo2 ≡ with_devices (readings_all set.app n (marks_of_touches ts) rs2))) (sym go)
      (touches_fare ts (cleared a k) b rs2 (Rattle.spec_machine.proofs.Devices.cleared_shapes a k ∙ sh) (length_set rs num (record { value = v; fresh = false }) ∙ long) h.6
      (Rattle.spec_run.proofs.steps.Bystanders.set_apart set.app n k a h.0 h.1 apart) (Rattle.spec_run.proofs.steps.Bystanders.tied_read set.app n k v a rs h.0 h.1 h.4 apart tied))
  touches_fare (touch.DeviceWrite k v ∷ ts) a b rs sh long h apart tied =
      let num = device_number set.app n k in
      let d = device_of_window set n k a h.0 sound (sh ∙ node.windows) h.1 in
      let x = same_window k a h.0 sh h.1 in
      let undr = driver_absent k x.0 Write x.1 (subst (λ j. may s.sections.live own Write j ≡ true) (sym x.2) h.3) in
      subst (λ o. Fares (Rattle.spec_run.proofs.tie.Verdicts.judge_on o (λ z. judge set.app z (touch_items set.app n None ts)))
      (λ mo2. mo2 ≡ with_devices (readings_all set.app n (marks_of_touches ts) rs)))
      (sym (raw_step rs num v d.device d.there (kind_actuator k h.0 d h.2) undr))
      (touches_fare ts a b rs sh long h.4 apart tied)

-- The node goes on, and no deployed module was protected.

pub append_lives : (live : List Section) (new sec : Section) → Lives (live ++ new ∷ []) sec → Lives live sec ⊎ (sec ≡ new)
append_lives [] new sec l = elim l [ inl e ↦ inr (sym e) | inr f ↦ absurd f ]
append_lives (x ∷ live) new sec l = elim l [ inl e ↦ inl (inl e) | inr r ↦ elim (append_lives live new sec r) [ inl o ↦ inl (inr o) | inr e ↦ inr e ] ]

-- the id of a stranger's code
pub strangers : (set : Setting) (n : ℕ) (s : State) (boot : ℕ) → NodeTied set n s boot → module_of set.sites n s (own_of s) ≡ None
    → (k : ℕ) (site : Site) (sec : Section) → slice_get set.sites k ≡ Some site → Lives s.sections.live sec → is_at_site n s.mem sec site ≡ true → (own_of s ≢ sec.id) × (s.cur ≢ sec.id)
strangers set n s boot node none k site sec sk l at =
    let away : own_of s ≢ sec.id = λ e.
    let f = placed_found s.sections sec node.node.placed l in
    let g : section_of s.sections.live (own_of s) ≡ Some sec = subst (λ i. section_of s.sections.live i ≡ Some sec) (sym e) f in
    position_some (is_at_site n s.mem sec) 0 set.sites k site sk at (sym (ap (λ o. Rattle.std.specs.Option.option_and_then (deployed set.sites n s.mem) o) g) ∙ none) in (
      away,
      λ e. elim node.runner [
        | inl z ↦ absurd (Rattle.spec_run.proofs.steps.Steps.nonzero s sec node.node l (sym e ∙ z))
        | inr h ↦ absurd (away (h ∙ e))
      ],
    )

module _ (set : Setting) (w : World) (mo : Model) (n : ℕ) (s : State) (sound : IsSoundSetting set) (laws : MachineLaws set.mac) (t : Tied set w mo) (here : slice_get w.nodes n ≡ Some s)
    (none : module_of set.sites n s (own_of s) ≡ None) (quiet : violation_of (step set.mac s).shown.event ≡ None) where
  abbrev r : Rattle.spec_machine.specs.Step.Shown Rattle.spec_machine.specs.declared.kinds.Seen.Seen
  r = step set.mac s

  pub boot_n : (boot : ℕ) × (slice_get mo.boots n ≡ Some boot)
  boot_n = get_some mo.boots n (omega (arith, get_within w.nodes n s here, t.size.nodes, t.size.boots))

  pub node_n : NodeTied set n s boot_n.0
  node_n = t.nodes n s boot_n.0 here boot_n.1

  shown_n : Replays s.sections.live (own_of s) r.shown.touch s.devices r.state.devices
  shown_n = laws.shown s node_n.node quiet

  on_n : Onward s r.state
  on_n = onward set.mac s quiet

  abbrev pub touched : List Reading
  touched = readings_all set.app n (marks_of_touches r.shown.touch) mo.devices

  tied_n : DevicesTied set.app n s.devices mo.devices
  tied_n k x y a b = t.devices n k s x y here a b

  apart_n : Apart set.app n s.devices
  apart_n = apart_there set n s.devices sound node_n.windows

  -- the touches, and the source after them
  pub touches_n : Fares (judge set.app mo (touch_items set.app n None r.shown.touch))
      (λ mo2. mo2 ≡ record { boots = mo.boots; devices = touched; modules = mo.modules; epochs = mo.epochs; sent = mo.sent; asks = mo.asks })
  touches_n = touches_fare set w mo n s boot_n.0 sound t here boot_n.1 (own_of s)
      (strangers set n s boot_n.0 node_n none) r.shown.touch s.devices r.state.devices mo.devices refl t.size.devices shown_n apart_n tied_n

  -- the node goes on beside a source of which one node's modules may change
  pub goes_n : (mods : List Standing) → length mods ≡ length mo.modules
      → ((m : ℕ) (q : PartTree) (site : Site) (x : Standing) → slice_get set.app.parts m ≡ Some q → q.node ≡ n
      → slice_get set.sites m ≡ Some site → slice_get mods m ≡ Some x → ModuleTied set n m q site r.state x mo.sent)
      → ((m : ℕ) (q : PartTree) → slice_get set.app.parts m ≡ Some q → q.node ≢ n → slice_get mods m ≡ slice_get mo.modules m)
      → ((m : ℕ) (x : Standing) → slice_get mods m ≡ Some x → (y : Standing) × (slice_get mo.modules m ≡ Some y) × (x.asked ≡ y.asked) × (x.attested ≡ y.attested))
      → (let mo2 : Model = record { boots = mo.boots; devices = touched; modules = mods; epochs = mo.epochs; sent = mo.sent; asks = mo.asks } in
      ((e : Made) → is_made w.ledger e ≡ true → Known set.app mo2 e.maker e) → IsSane set.app mo2 → NodeGoes set w n mo r.state w.ledger mo2)
  goes_n mods long mine others standing known sane = record {
    boots_size = refl;
    devices_size = Rattle.spec_run.proofs.steps.Steps.readings_long set.app n (marks_of_touches r.shown.touch) mo.devices;
    modules_size = long;
    sent_size = refl;
    asks = refl;
    epochs = refl;
    other_boots = λ k ne. refl;
    node = λ boot e. record {
      windows = replayed_shapes (own_of s) s.sections.live r.shown.touch s.devices r.state.devices shown_n ∙ node_n.windows;
      node = laws.node s node_n.node;
      runner = elim (cases_Bool (own_of r.state == own_of s)) [
        | inl b ↦ inr (eqb-true (own_of r.state) (own_of s) b ∙ sym (on_n.cur ∙ ap (λ (z : Bool). if z then own_of s else 0) b))
        | inr b ↦ inl (on_n.cur ∙ ap (λ (z : Bool). if z then own_of s else 0) b)
      ];
      count = on_n.boot ∙ node_n.count ∙ some_inj boot_n.0 boot (sym boot_n.1 ∙ e);
    };
    devices_here = λ k x2 r2 xk rk. replayed set.app n (own_of s) s.sections.live r.shown.touch s.devices r.state.devices mo.devices shown_n apart_n tied_n k x2 r2 xk rk;
    devices_else = λ j k z x2 ne zk xk.
        let bj : (b : ℕ) × (slice_get mo.boots j ≡ Some b) = get_some mo.boots j (omega (arith, get_within w.nodes j z zk, t.size.nodes, t.size.boots)) in
        let d = device_here set j k z.devices x2 sound (t.nodes j z bj.0 zk bj.1).windows xk in
        Rattle.spec_run.proofs.steps.Steps.readings_other set.app n (own_of s) s.sections.live r.shown.touch s.devices r.state.devices mo.devices (device_number set.app j k) shown_n (λ i v vi same_d.
        let d2 = device_here set n i s.devices v sound node_n.windows vi in
        let dd : d.0 ≡ d2.0 = some_inj d.0 d2.0 (sym d.1 ∙ subst (λ g. slice_get set.app.devices g ≡ Some d2.0) (sym same_d) d2.1) in
        absurd (ne (sym d.2 ∙ ap (λ (g : AppDevice). g.node) dd ∙ d2.2)));
    modules_here = mine;
    modules_else = λ m q site z x pk ne sk zk xk. t.modules m q site z x pk sk zk (sym (others m q pk ne) ∙ xk);
    standing = standing;
    known = known;
    sane = sane;
  }

  -- where no deployed module was protected
  pub unprotected : ((m : ℕ) (site : Site) (sec : Section) → slice_get set.sites m ≡ Some site
      → Lives r.state.sections.live sec → Lives s.sections.live sec ⊎ (is_at_site n r.state.mem sec site ≡ false))
      → (steps : ℕ) → Tied set (with_node w n r.state w.ledger steps) (record { boots = mo.boots; devices = touched; modules = mo.modules; epochs = mo.epochs; sent = mo.sent; asks = mo.asks })
  unprotected after steps =
      tied_node set w n mo s r.state w.ledger steps (record { boots = mo.boots; devices = touched; modules = mo.modules; epochs = mo.epochs; sent = mo.sent; asks = mo.asks }) here t
      (goes_n mo.modules refl
      (λ m q site x pk on_node sk xk.
      onlooker set n m q site s x mo.sent laws node_n.node quiet (λ sec l. after m site sec sk l)
      (λ sec l at. let a = strangers set n s boot_n.0 node_n none m site sec sk l at in (Rattle.spec_run.proofs.steps.Steps.nonzero s sec node_n.node l, a.0, a.1))
      (subst (λ j. ModuleTied set j m q site s x mo.sent) on_node (t.modules m q site s x pk sk (subst (λ j. slice_get w.nodes j ≡ Some s) (sym on_node) here) xk)))
      (λ m q pk ne. refl) (λ m x xk. (x, xk, refl, refl)) (λ e h. same_known e.maker e (t.ledger e h))
      (record { small = t.sane.small; timely = t.sane.timely; unsent = t.sane.unsent }))
    where
      same_known : (k : Maker) (e : Made) → Known set.app mo k e
          → Known set.app (record { boots = mo.boots; devices = touched; modules = mo.modules; epochs = mo.epochs; sent = mo.sent; asks = mo.asks })
          k e
      same_known maker.Deployer e h = record {
        x = h.x;
        there = h.there;
        attested = h.attested;
        a = h.a;
        older = h.older;
        «end» = h.«end»;
        held = h.held;
        epoch = h.epoch;
        header = h.header;
        floor = h.floor;
        given = h.given;
      }
      same_known (maker.Module k) e h = (λ a. let f = h.0 a in record { x = f.x; there = f.there; vouched = f.vouched }, h.1)
