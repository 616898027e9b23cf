-- One instruction of a node: of a deployed module's code, or a violation.
use Rattle.std.proofs.Common.{◌≡◌, ◌≢◌, ℕ, zero, suc, ◌+◌, ◌<◌, ◌⊎◌, inl, inr, ◌==◌}
use Rattle.std.proofs.Common.{Bool, true, false, if◌then◌else◌, List, [], ◌∷◌, ◌++◌, length}
use Rattle.std.proofs.Common.{Option, Some, None, refl, sym, ◌∙◌, ap, subst, arith}
use Rattle.std.specs.Prelude.{slice_get, slice_set}
use Rattle.std.proofs.lemmas.Bool.{true≢false, and_parts, eqb-true, cases_eq, cases_Bool}
use Rattle.sx_rules.specs.declared.access.Violation.{Violation}
use Rattle.sx_rules.specs.declared.section.Section.{Section}
use Rattle.sx_rules.specs.declared.section.Layout.{Layout}
use Rattle.sx_rules.specs.Access.{Sections, Lives, section_of}
use Rattle.sx_rules.specs.Admission.{good_bounds, apart}
use Rattle.sx_rules.proofs.Placing.{placed_found}
use Rattle.sx_rules.specs.Placed.{Placed}
use Rattle.sx_bus.specs.declared.devices.Window.{Window}
use Rattle.sx_mean.specs.declared.apps.AppDevice.{AppDevice}
use Rattle.sx_mean.specs.declared.events.SourceEvent.{SourceEvent}
use Rattle.sx_mean.specs.Application.{declared_kind, PartTree, AppTree}
use Rattle.sx_mean.specs.React.{react}
use Rattle.sx_trace.specs.declared.items.Item.TheVariants as item
use Rattle.spec_machine.specs.declared.kinds.Touch.{Touch}
use Rattle.spec_machine.specs.declared.kinds.Touch.TheVariants as touch
use Rattle.spec_machine.specs.declared.kinds.Event.{Event}
use Rattle.spec_machine.specs.declared.kinds.Event.TheVariants as event
use Rattle.spec_machine.specs.declared.kinds.Exchange.{Exchange}
use Rattle.spec_machine.specs.declared.kinds.Seen.{Seen}
use Rattle.spec_machine.specs.State.{State}
use Rattle.spec_machine.specs.Step.{Shown, step, own_of}
use Rattle.spec_invocation.specs.ModuleState.{state_of}
use Rattle.spec_invocation.specs.Marks.{Mark, Wrapped, Unwrapped, Sampled, Actuated}
use Rattle.sx_image.specs.Watched.{violation_of, marks_of_touches, marks_of_event, marks_of}
use Rattle.spec_invocation.specs.Invocation.{is_sensor_driver}
use Rattle.spec_invocation.specs.Acts.{own_window}
use Rattle.spec_machine.specs.Node.{IsNode}
use Rattle.sx_image.specs.Image.{private_bytes, setup_at, call_at}
use Rattle.sx_image.specs.Realizes.{Exited}
use Rattle.sx_mean.specs.Ends.{ends_of}
use Rattle.sx_model.specs.State.{Reading}
use Rattle.sx_model.specs.order.State.{Present, Standing, Model}
use Rattle.spec_machine.proofs.Devices.{position_is}
use Rattle.spec_run.specs.Setting.{Site, Setting, module_of, is_at_site, device_number, devices_at, windows_at}
use Rattle.spec_run.specs.Ledger.{Made, is_made}
use Rattle.spec_run.specs.State.{World}
use Rattle.spec_run.specs.Observation.{Observed, observed}
use Rattle.spec_run.specs.Acts.{with_node, after_step}
use Rattle.spec_run.specs.Law.{IsSoundSetting, IsDeployedModule}
use Rattle.spec_run.proofs.tie.Lists.{get_other, get_within, length_set, some_inj}
use Rattle.spec_run.proofs.tie.Verdicts.{judge, Fares, fares_map}
use Rattle.spec_run.proofs.tie.Tied.{SameState, OwnSensor, Known, IsSane, NodeTied, IsModule, IsUnderWay, ModuleTied, Absent, Rests, Runs, Tied, shapes}
use Rattle.spec_run.proofs.steps.Judged.{Readings}
use Rattle.spec_run.proofs.steps.Stretch.{Moves, readings_all}
use Rattle.spec_run.proofs.tie.Frames.{module_frame}
use Rattle.spec_run.proofs.steps.Events.{plain_events}
use Rattle.spec_run.proofs.steps.UnderWay.{StillRuns, RestsNow, under_way_fares, under_way_sections}
use Rattle.spec_run.proofs.steps.Entry.{at_site, under_way_at_entry}
use Rattle.spec_run.proofs.steps.Sends.{Emits}
use Rattle.spec_run.proofs.steps.Story.{story}
use Rattle.spec_run.proofs.steps.Nodes.{NodeGoes, tied_node, device_here, reset_is_node, reset_fares, at_node_from, number_there}
use Rattle.spec_machine.specs.Touches.{Replays}
use Rattle.spec_run.proofs.steps.Machine.{MachineLaws, violates, Onward, onward}
use Rattle.spec_run.proofs.steps.Bystanders.{bystander, at_site_same, one_section, DevicesTied, Apart, replayed, replayed_shapes}
use Rattle.lemmas.proofs.Lists.{get_same, get_some}
use Rattle.spec_machine.proofs.Stays.{found_lives}
use Rattle.spec_machine.proofs.RunGuard.{lives_given}

-- what a module drives is its own, as its source says
abbrev pub DriversFit : Setting → Type 0
DriversFit set = (m : ℕ) (q : PartTree) (site : Site) (s : State) (sec : Section) (boot : ℕ) → IsDeployedModule set m q site → NodeTied set q.node s boot → IsModule q.node site s sec
    → (let setup = setup_at set.mac q.tree (ends_of set.app m) sec s in
    ((d : List Window) → shapes d ≡ shapes s.devices → (e : SourceEvent) (cells : List ℕ) → Emits set.app q.node q setup d (react q.tree e cells).acts)
    × (is_sensor_driver (declared_kind q.tree.decls) ≡ true → (k : ℕ) × (w : Window) × (own_window setup s.devices ≡ Some (k, w)) × OwnSensor set.app q.node q s.devices k w))

pub nonzero : (s : State) (sec : Section) → IsNode s → Lives s.sections.live sec → sec.id ≢ 0
nonzero s sec h l e = let g = lives_given s.sections.next s.sections.live sec h.placed.each l in absurd (omega (arith, g, e))

-- a node's devices have numbers of their own
pub increasing : (n i : ℕ) (ds : List AppDevice) (j k v : ℕ) → slice_get (devices_at n i ds) j ≡ Some v → slice_get (devices_at n i ds) k ≡ Some v → j ≡ k
increasing n i [] j k v a b = absurd cc
increasing n i (d ∷ ds) j k v a b = head (d.node == n) j k a b (λ j k. increasing n (i + 1) ds j k v) (λ k e. later k e)
  where
    later : (k : ℕ) → slice_get (devices_at n (i + 1) ds) k ≡ Some v → i < v
    later k e = let r = at_node_from n (i + 1) ds k v e in omega (arith, r.2)

    head : (b : Bool) (j k : ℕ) → slice_get (if b then i ∷ devices_at n (i + 1) ds else devices_at n (i + 1) ds) j ≡ Some v
        → slice_get (if b then i ∷ devices_at n (i + 1) ds else devices_at n (i + 1) ds) k ≡ Some v
        → ((j k : ℕ) → slice_get (devices_at n (i + 1) ds) j ≡ Some v → slice_get (devices_at n (i + 1) ds) k ≡ Some v → j ≡ k)
        → ((k : ℕ) → slice_get (devices_at n (i + 1) ds) k ≡ Some v → i < v) → j ≡ k
    head true zero zero a b f g = refl
    head true zero (suc k) a b f g = absurd (omega (arith, g k b, some_inj i v a))
    head true (suc j) zero a b f g = absurd (omega (arith, g j a, some_inj i v b))
    head true (suc j) (suc k) a b f g = ap suc (f j k a b)
    head false j k a b f g = f j k a b

-- so no two windows of a node are one device
pub apart_there : (set : Setting) (n : ℕ) (ws : List Window) → IsSoundSetting set → shapes ws ≡ windows_at n set.app.devices set.places → Apart set.app n ws
apart_there set n ws sound e j k x y xj yk same =
    increasing n 0 set.app.devices j k (device_number set.app n j) (number_there set n j ws x sound e xj)
    (subst (λ v. slice_get (devices_at n 0 set.app.devices) k ≡ Some v) (sym same) (number_there set n k ws y sound e yk))

head_marks : (xs ys : List Mark) → xs ++ ys ≡ [] → xs ≡ []
head_marks [] ys e = refl
head_marks (x ∷ xs) ys e = absurd cc

no_marks : (own : ℕ) (live : List Section) (ts : List Touch) (a b : List Window) → Replays live own ts a b → marks_of_touches ts ≡ [] → b ≡ a
no_marks own live [] a b h e = h
no_marks own live (touch.Quiet ∷ ts) a b h e = no_marks own live ts a b h e
no_marks own live (touch.DeviceRead k v ∷ ts) a b h e = absurd cc
no_marks own live (touch.DeviceWrite k v ∷ ts) a b h e = absurd cc

readings_append : (app : AppTree) (n : ℕ) (xs ys : List Mark) (rs : List Reading) → readings_all app n (xs ++ ys) rs ≡ readings_all app n ys (readings_all app n xs rs)
readings_append app n [] ys rs = refl
readings_append app n (mark ∷ xs) ys rs = readings_append app n xs ys (Rattle.spec_run.proofs.tie.Moves.readings_after app n mark rs)

readings_event : (app : AppTree) (n : ℕ) (e : Event) (x : Exchange) (rs : List Reading) → readings_all app n (marks_of_event e x) rs ≡ rs
readings_event app n event.Quiet x rs = refl
readings_event app n (event.Reset v) x rs = refl
readings_event app n (event.Protected id) x rs = refl
readings_event app n (event.Removed id) x rs = refl
readings_event app n (event.Wrapped id) x rs = refl
readings_event app n (event.Unwrapped id) x rs = refl
readings_event app n (event.Left id) x rs = refl

-- readings of other devices stay
pub readings_other : (app : AppTree) (n own : ℕ) (live : List Section) (ts : List Touch) (a b : List Window) (rs : List Reading) (d : ℕ) → Replays live own ts a b
    → ((k : ℕ) (w : Window) → slice_get a k ≡ Some w → d ≢ device_number app n k) → slice_get (readings_all app n (marks_of_touches ts) rs) d ≡ slice_get rs d
readings_other app n own live [] a b rs d h f = refl
readings_other app n own live (touch.Quiet ∷ ts) a b rs d h f = readings_other app n own live ts a b rs d h f
readings_other app n own live (touch.DeviceRead k v ∷ ts) a b rs d h f =
    readings_other app n own live ts (Rattle.sx_bus.specs.Devices.cleared a k) b (slice_set rs (device_number app n k) (record { value = v; fresh = false })) d h.6
    (λ j x e. let y = Rattle.spec_run.proofs.steps.Bystanders.cleared_get a k j x h.0 h.1 e in f j y.0 y.1)
    ∙ get_other rs (device_number app n k) d (record { value = v; fresh = false }) (f k h.0 h.1)
readings_other app n own live (touch.DeviceWrite k v ∷ ts) a b rs d h f = readings_other app n own live ts a b rs d h.4 f

pub readings_long : (app : AppTree) (n : ℕ) (ms : List Mark) (rs : List Reading) → length (readings_all app n ms rs) ≡ length rs
readings_long app n [] rs = refl
readings_long app n (Wrapped header body own ∷ ms) rs = readings_long app n ms rs
readings_long app n (Unwrapped header body own ∷ ms) rs = readings_long app n ms rs
readings_long app n (Actuated k v ∷ ms) rs = readings_long app n ms rs
readings_long app n (Sampled k v ∷ ms) rs = readings_long app n ms (slice_set rs (device_number app n k) (record { value = v; fresh = false }))
    ∙ length_set rs (device_number app n k) (record { value = v; fresh = false })

-- a step that violates is a reset
pub violation_fares : (set : Setting) (w : World) (mo : Model) (n : ℕ) (s : State) (v : Violation)
    → IsSoundSetting set → Tied set w mo → slice_get w.nodes n ≡ Some s → violation_of (step set.mac s).shown.event ≡ Some v
    → Fares (judge set.app mo (after_step set w n s).items) (Tied set (after_step set w n s).world)
violation_fares set w mo n s v sound t here q =
    let h = violates set.mac s v q in
    let runner = module_of set.sites n s (own_of s) in
    let seen : (step set.mac s).shown ≡ record { touch = Rattle.spec_machine.specs.Run.untouched; event = event.Reset v } =
    ap (λ z. record { touch = z; event = (step set.mac s).shown.event }) h.touch ∙ ap (λ z. record { touch = Rattle.spec_machine.specs.Run.untouched; event = z }) h.event in
    let shows : observed set n runner (step set.mac s).state (step set.mac s).shown w.ledger ≡ record { items = item.Reset n (Rattle.spec_run.specs.Observation.cause_of v) ∷ []; ledger = w.ledger } =
    ap (λ z. observed set n runner (step set.mac s).state z w.ledger) seen in
    subst (λ (o : Observed). Fares (judge set.app mo o.items) (Tied set (with_node w n (step set.mac s).state o.ledger (w.steps + 1)))) (sym shows)
    (subst (λ z. Fares (judge set.app mo (item.Reset n (Rattle.spec_run.specs.Observation.cause_of v) ∷ [])) (Tied set (with_node w n z w.ledger (w.steps + 1)))) (sym h.state)
    (reset_fares set w mo n s sound reset_is_node t here (Rattle.spec_run.specs.Observation.cause_of v) (w.steps + 1)))

pub bounds_of : (l : Layout) → good_bounds l ≡ true → Rattle.std.specs.Prelude.nat_lt l.pub_from l.pub_to ≡ true
bounds_of l h = (and_parts (Rattle.std.specs.Prelude.nat_lt l.pub_from l.pub_to) _ h).0

-- a section at another module's site is another section
pub other_section : (set : Setting) (m : ℕ) (q : PartTree) (site : Site) (s : State) (sec : Section) → IsSoundSetting set → Placed s.sections → slice_get set.app.parts m ≡ Some q
    → slice_get set.sites m ≡ Some site → IsModule q.node site s sec → (k : ℕ) (site2 : Site) (sec2 : Section) → k ≢ m → slice_get set.sites k ≡ Some site2
    → Lives s.sections.live sec2 → is_at_site q.node s.mem sec2 site2 ≡ true → sec.id ≢ sec2.id
other_section set m q site s sec sound placed part sited is k site2 sec2 ne sk l at same =
    let a = at_site q.node s.mem sec site is.here in
    let b = at_site q.node s.mem sec2 site2 at in
    let one : sec ≡ sec2 = some_inj sec sec2 (sym (placed_found s.sections sec placed is.lives)
    ∙ subst (λ i. section_of s.sections.live i ≡ Some sec2) (sym same) (placed_found s.sections sec2 placed l)) in
    let layouts : site.layout ≡ site2.layout = sym a.layout ∙ ap (λ (z : Section). z.layout) one ∙ b.layout in
    elim (sound.apart m k site site2 sited sk (a.node ∙ sym b.node)) [
      | inl e ↦ absurd (ne (sym e))
      | inr p ↦ absurd (Rattle.spec_run.proofs.steps.Bystanders.apart_self site.layout.pub_from site.layout.pub_to (bounds_of site.layout (sound.deployed m q site part sited).bounds)
          (subst (λ (z : Layout). apart site.layout.pub_from site.layout.pub_to z.pub_from z.pub_to ≡ true) (sym layouts) p.0))
    ]

module _ (set : Setting) (w : World) (mo : Model) (m : ℕ) (q : PartTree) (site : Site) (s : State)
    (sec : Section) (sound : IsSoundSetting set) (laws : MachineLaws set.mac) (fit : DriversFit set) (t : Tied set w mo)
    (part : slice_get set.app.parts m ≡ Some q) (sited : slice_get set.sites m ≡ Some site) (here : slice_get w.nodes q.node ≡ Some s) (is : IsModule q.node site s sec) (own : own_of s ≡ sec.id)
    (quiet : violation_of (step set.mac s).shown.event ≡ None) where
  abbrev r : Shown Seen
  r = step set.mac s

  boot_here : (boot : ℕ) × (slice_get mo.boots q.node ≡ Some boot)
  boot_here = get_some mo.boots q.node (omega (arith, get_within w.nodes q.node s here, t.size.nodes, t.size.boots))

  node : NodeTied set q.node s boot_here.0
  node = t.nodes q.node s boot_here.0 here boot_here.1

  deployed : IsDeployedModule set m q site
  deployed = sound.deployed m q site part sited

  shown : Replays s.sections.live (own_of s) r.shown.touch s.devices r.state.devices
  shown = laws.shown s node.node quiet

  on : Onward s r.state
  on = onward set.mac s quiet

  module_part : (k : ℕ) (q2 : PartTree) (site2 : Site) (z : Standing) (y : Standing) (sent : List (List ℕ)) (cur : (s.cur ≡ 0) ⊎ (s.cur ≡ sec.id))
      → r.state.sections ≡ s.sections → k ≢ m → slice_get set.sites k ≡ Some site2
      → ModuleTied set q.node k q2 site2 s z sent → ModuleTied set q.node k q2 site2 r.state z sent
  module_part k q2 site2 z y sent cur same ne sk h =
      bystander set q.node k q2 site2 s z sent laws node.node quiet same
      (λ sec2 l at.
      let away = other_section set m q site s sec sound node.node.placed part sited is k site2 sec2 ne sk l at in
      (nonzero s sec2 node.node l, (λ e. away (sym own ∙ e)), λ e. elim cur [ inl z0 ↦ absurd (nonzero s sec2 node.node l (sym e ∙ z0)) | inr c ↦ absurd (away (sym c ∙ e)) ])) h

  devices_here_tied : DevicesTied set.app q.node s.devices mo.devices
  devices_here_tied k x2 r2 xk rk = t.devices q.node k s x2 r2 here xk rk

  apart_here : Apart set.app q.node s.devices
  apart_here = apart_there set q.node s.devices sound node.windows

  abbrev made_marks : List Mark
  made_marks = marks_of r.shown r.state.exchange

  marks_readings : readings_all set.app q.node made_marks mo.devices ≡ readings_all set.app q.node (marks_of_touches r.shown.touch) mo.devices
  marks_readings = readings_append set.app q.node (marks_of_touches r.shown.touch) (marks_of_event r.shown.event r.state.exchange) mo.devices
      ∙ readings_event set.app q.node r.shown.event r.state.exchange (readings_all set.app q.node (marks_of_touches r.shown.touch) mo.devices)

  goes : (x y : Standing) (mo2 : Model) (ledger : List Made) (cur : (s.cur ≡ 0) ⊎ (s.cur ≡ sec.id))
      → slice_get mo.modules m ≡ Some x → Moves set.app q.node m made_marks x y mo mo2 → r.state.sections ≡ s.sections
      → ModuleTied set q.node m q site r.state y mo2.sent → IsSane set.app mo2 → ((e : Made) → is_made ledger e ≡ true → Known set.app mo2 e.maker e) → NodeGoes set w q.node mo r.state ledger mo2
  goes x y mo2 ledger cur there moves same mine sane known = record {
    boots_size = ap length moves.boots;
    devices_size = ap length moves.devices ∙ readings_long set.app q.node made_marks mo.devices;
    modules_size = ap length moves.modules ∙ length_set mo.modules m y;
    sent_size = moves.sent.size;
    asks = moves.asks;
    epochs = moves.epochs;
    other_boots = λ k ne. ap (λ z. slice_get z k) moves.boots;
    node = λ boot e. record {
      windows = replayed_shapes (own_of s) s.sections.live r.shown.touch s.devices r.state.devices shown ∙ node.windows;
      node = laws.node s node.node;
      runner = elim (cases_Bool (own_of r.state == own_of s)) [
        | inl b ↦ inr (eqb-true (own_of r.state) (own_of s) b ∙ sym (on.cur ∙ ap (λ (z : Bool). if z then own_of s else 0) b))
        | inr b ↦ inl (on.cur ∙ ap (λ (z : Bool). if z then own_of s else 0) b)
      ];
      count = on.boot ∙ node.count ∙ some_inj boot_here.0 boot (sym boot_here.1 ∙ sym (ap (λ z. slice_get z q.node) moves.boots) ∙ e);
    };
    devices_here = λ k x2 r2 xk rk.
        replayed set.app q.node (own_of s) s.sections.live r.shown.touch s.devices r.state.devices mo.devices shown apart_here devices_here_tied k x2 r2 xk
        (subst (λ z. slice_get z (device_number set.app q.node k) ≡ Some r2) (moves.devices ∙ marks_readings) rk);
    devices_else = λ j k z x2 ne zk xk.
        let bj : (b : ℕ) × (slice_get mo.boots j ≡ Some b) = get_some mo.boots j (omega (arith, get_within w.nodes j z zk, t.size.nodes, t.size.boots)) in
        let d = device_here set j k z.devices x2 sound (t.nodes j z bj.0 zk bj.1).windows xk in
        ap (λ l. slice_get l (device_number set.app j k)) (moves.devices ∙ marks_readings)
        ∙ readings_other set.app q.node (own_of s) s.sections.live r.shown.touch s.devices r.state.devices mo.devices (device_number set.app j k) shown (λ i v vi same_d.
        let d2 = device_here set q.node i s.devices v sound node.windows vi in
        let dd : d.0 ≡ d2.0 = some_inj d.0 d2.0 (sym d.1 ∙ subst (λ g. slice_get set.app.devices g ≡ Some d2.0) (sym same_d) d2.1) in
        absurd (ne (sym d.2 ∙ ap (λ (g : AppDevice). g.node) dd ∙ d2.2)));
    modules_here = λ k q2 site2 z pk on_node sk zk. elim (which k z zk) [
      | inl mine_ ↦
          let qq : q ≡ q2 = some_inj q q2 (sym part ∙ subst (λ j. slice_get set.app.parts j ≡ Some q2) mine_.0 pk) in
          let ss : site ≡ site2 = some_inj site site2 (sym sited ∙ subst (λ j. slice_get set.sites j ≡ Some site2) mine_.0 sk) in
          subst (λ j. ModuleTied set q.node j q2 site2 r.state z mo2.sent) (sym mine_.0)
          (subst (λ a. ModuleTied set q.node m a site2 r.state z mo2.sent) qq
          (subst (λ a. ModuleTied set q.node m q a r.state z mo2.sent) ss
          (subst (λ a. ModuleTied set q.node m q site r.state a mo2.sent) (sym mine_.1) mine)))
      | inr else_ ↦
          let old : ModuleTied set q.node k q2 site2 s z mo.sent = subst (λ j. ModuleTied set j k q2 site2 s z mo.sent) on_node
          (t.modules k q2 site2 s z pk sk (subst (λ j. slice_get w.nodes j ≡ Some s) (sym on_node) here) else_.1) in
          module_frame set q.node m k q2 site2 r.state z mo.sent mo2.sent moves.sent else_.0 (module_part k q2 site2 z y mo.sent cur same else_.0 sk old)
    ];
    modules_else = λ k q2 site2 z x2 pk ne sk zk xk. elim (which k x2 xk) [
      | inl mine_ ↦
          let qq : q ≡ q2 = some_inj q q2 (sym part ∙ subst (λ j. slice_get set.app.parts j ≡ Some q2) mine_.0 pk) in
          absurd (ne (ap (λ (a : PartTree). a.node) (sym qq)))
      | inr else_ ↦ module_frame set q2.node m k q2 site2 z x2 mo.sent mo2.sent moves.sent else_.0 (t.modules k q2 site2 z x2 pk sk zk else_.1)
    ];
    standing = λ k z zk. elim (which k z zk) [
      | inl mine_ ↦ (
        x,
        subst (λ j. slice_get mo.modules j ≡ Some x) (sym mine_.0) there,
        ap (λ (a : Standing). a.asked) mine_.1 ∙ moves.asked,
        ap (λ (a : Standing). a.attested) mine_.1 ∙ moves.attested,
      )
      | inr else_ ↦ (z, else_.1, refl, refl)
    ];
    known = known;
    sane = sane;
  }
    where
      which : (k : ℕ) (z : Standing) → slice_get mo2.modules k ≡ Some z → ((k ≡ m) × (z ≡ y)) ⊎ ((k ≢ m) × (slice_get mo.modules k ≡ Some z))
      which k z e = elim (cases_eq k m) [
        | inl same ↦ inl (
          same,
          some_inj z y (sym e ∙ ap (λ l. slice_get l k) moves.modules
              ∙ subst (λ j. slice_get (slice_set mo.modules m y) j ≡ Some y) (sym same) (get_same mo.modules m y x there)),
        )
        | inr ne ↦ inr (ne, sym (get_other mo.modules m k y ne) ∙ sym (ap (λ l. slice_get l k) moves.modules) ∙ e)
      ]

  -- the step of a module that is under way
  run_fares : (x : Standing) (pr : Present) (cur : (s.cur ≡ 0) ⊎ (s.cur ≡ sec.id)) (there : slice_get mo.modules m ≡ Some x)
      (present : x.present ≡ Some pr) (u : IsUnderWay set q.node m q s sec pr mo.sent)
      → (Exited (setup_at set.mac q.tree (ends_of set.app m) sec u.before) u.result u.before (record { node = s; marks = u.seen; event = u.last }) → ⊥)
      → (let o = observed set q.node (Some m) r.state r.shown w.ledger in Fares (judge set.app mo o.items) (Tied set (with_node w q.node r.state o.ledger (w.steps + 1))))
  run_fares x pr cur there present u not_left =
      let boot = boot_here.0 in
      let readings : Readings set.app m q x pr boot mo w.ledger part there boot_here.1 present t.sane t.ledger s.devices = λ k wd e sensor.
      let d = device_here set q.node k s.devices wd sound node.windows e in
      let rd : (rd : Reading) × (slice_get mo.devices (device_number set.app q.node k) ≡ Some rd) = get_some mo.devices
      (device_number set.app q.node k) (omega (arith, get_within set.app.devices (device_number set.app q.node k) d.0 d.1, t.size.devices)) in
      (rd.0, rd.1, t.devices q.node k s wd rd.0 here e rd.1) in
      let same = under_way_sections set m q s sec x pr boot mo w.ledger part there boot_here.1 present t.sane t.ledger t.size.sent readings u quiet not_left in
      let plain = plain_events set.mac s node.node.placed same quiet in
      let o = observed set q.node (Some m) r.state r.shown w.ledger in
      let is2 : IsModule q.node site r.state sec = record {
        lives = subst (λ (z : Sections). Lives z.live sec)
            (sym same) is.lives;
        here = at_site_same q.node s.mem r.state.mem sec site (laws.public s sec node.node is.lives quiet) ∙ is.here;
      } in
      fares_map (judge set.app mo o.items) (λ mo2. StillRuns set m q sec r.state made_marks x mo o.ledger mo2
      ⊎ RestsNow set m q sec r.state made_marks x mo o.ledger mo2) (Tied set (with_node w q.node r.state o.ledger (w.steps + 1)))
      (λ mo2 h. elim h [
        | inl run ↦ tied_node set w q.node mo s r.state o.ledger (w.steps + 1) mo2 here t (goes x run.y mo2 o.ledger cur there run.moves same
            (Runs sec run.pr run.present is2 (on.cur ∙ ap (λ (z : Bool). if z then own_of s else 0)
            (Rattle.std.proofs.lemmas.Bool.eq-eqb (own_of r.state) (own_of s) (run.inside ∙ sym own)) ∙ own) run.under) run.sane run.known)
        | inr rest ↦ tied_node set w q.node mo s r.state o.ledger (w.steps + 1) mo2 here t (goes x rest.y mo2 o.ledger cur there rest.moves same
            (Rests sec rest.pr rest.present is2 (λ e. nonzero s sec node.node is.lives (sym e ∙ rest.cur)) rest.idle rest.state) rest.sane rest.known)
      ])
      (under_way_fares set m q s sec x pr boot mo w.ledger part there boot_here.1 present t.sane t.ledger t.size.sent readings u quiet not_left plain (on.boot ∙ node.count)
      (λ none. no_marks (own_of s) s.sections.live r.shown.touch s.devices r.state.devices shown (head_marks (marks_of_touches r.shown.touch) (marks_of_event r.shown.event r.state.exchange) none)))

  -- a step of the module's code
  own_fares : (x : Standing) (there : slice_get mo.modules m ≡ Some x) → ModuleTied set q.node m q site s x mo.sent
      → (let o = observed set q.node (Some m) r.state r.shown w.ledger in Fares (judge set.app mo o.items) (Tied set (with_node w q.node r.state o.ledger (w.steps + 1))))
  own_fares x there (Absent none f) = absurd (true≢false (sym is.here ∙ f sec is.lives))
  own_fares x there (Rests sec2 pr p i c pend h) =
      let one = same_section sec2 i in
      let rests : s.cur ≢ sec.id = λ e. c (e ∙ ap (λ (z : Section). z.id) one) in
      let nz = nonzero s sec node.node is.lives in
      let st = state_of q.tree (ends_of set.app m) (private_bytes sec.layout s.mem) in
      let same : SameState (ends_of set.app m) st pr.cells pr.ends mo.sent = subst
      (λ (z : Section). SameState (ends_of set.app m) (state_of q.tree (ends_of set.app m)
      (private_bytes z.layout s.mem)) pr.cells pr.ends mo.sent) (sym one) h in
      let f = fit m q site s sec boot_here.0 deployed node is in
      let begun = story set.app m q.node q (setup_at set.mac q.tree (ends_of set.app m) sec s)
      (call_at s) st s.mem s.devices (omega (arith, sound.links)) refl refl node.node.memory.bytes pr.ends mo.sent same.each f.0 f.1 in
      let u = under_way_at_entry set m q site s sec boot_here.0 deployed node is rests own nz quiet pr mo.sent pend same begun in
      run_fares x pr (inl (cur_zero rests)) there p u.0 u.1
    where
      cur_zero : s.cur ≢ sec.id → s.cur ≡ 0
      cur_zero ne = elim node.runner [ inl z ↦ z | inr e ↦ absurd (ne (sym e ∙ own)) ]

      same_section : (sec2 : Section) → IsModule q.node site s sec2 → sec ≡ sec2
      same_section sec2 i =
          let a = at_site q.node s.mem sec site is.here in
          let b = at_site q.node s.mem sec2 site i.here in
          one_section s.sections sec sec2 node.node.placed is.lives i.lives (a.layout ∙ sym b.layout)
          (subst (λ (l : Layout). Rattle.std.specs.Prelude.nat_lt l.pub_from l.pub_to ≡ true) (sym a.layout)
          (bounds_of site.layout deployed.bounds))
  own_fares x there (Runs sec2 pr p i c u) =
      let a = at_site q.node s.mem sec site is.here in
      let b = at_site q.node s.mem sec2 site i.here in
      let one : sec2 ≡ sec = one_section s.sections sec2 sec node.node.placed i.lives is.lives
      (b.layout ∙ sym a.layout) (subst (λ (l : Layout). Rattle.std.specs.Prelude.nat_lt l.pub_from l.pub_to ≡ true)
      (sym b.layout) (bounds_of site.layout deployed.bounds)) in
      let cur : s.cur ≡ sec.id = c ∙ ap (λ (z : Section). z.id) one in
      run_fares x pr (inr cur) there p (subst (λ z. IsUnderWay set q.node m q s z pr mo.sent) one u)
      (λ out. nonzero s sec node.node is.lives (sym cur ∙ out.idle))

  pub own_step : (let o = observed set q.node (Some m) r.state r.shown w.ledger in Fares (judge set.app mo o.items) (Tied set (with_node w q.node r.state o.ledger (w.steps + 1))))
  own_step =
      let x : (x : Standing) × (slice_get mo.modules m ≡ Some x) = get_some mo.modules m (omega (arith, get_within set.app.parts m q part, t.size.modules)) in
      own_fares x.0 x.1 (t.modules m q site s x.0 part sited here x.1)

-- Which module's code it is.

pub record Runner (set : Setting) (n m : ℕ) (s : State) : Type 0 where
  pub section : Section
  pub site : Site
  pub part : PartTree
  pub is : IsModule n site s section
  pub sited : slice_get set.sites m ≡ Some site
  pub parted : slice_get set.app.parts m ≡ Some part
  pub node : part.node ≡ n
  pub own : own_of s ≡ section.id

pub runner_of : (set : Setting) (n m : ℕ) (s : State) → IsSoundSetting set → module_of set.sites n s (own_of s) ≡ Some m → Runner set n m s
runner_of set n m s sound e = with_section (section_of s.sections.live (own_of s)) refl e
  where
    with_section : (o : Option Section) → section_of s.sections.live (own_of s) ≡ o
        → Rattle.std.specs.Option.option_and_then (Rattle.spec_run.specs.Setting.deployed set.sites n s.mem) o ≡ Some m → Runner set n m s
    with_section None f g = absurd cc
    with_section (Some sec) f g =
        let l = found_lives s.sections.live (own_of s) sec f in
        let p = position_is (is_at_site n s.mem sec) 0 set.sites m g in
        let k : p.0 ≡ m = sym (p.2 ∙ omega arith) in
        let sited : slice_get set.sites m ≡ Some p.1 = subst (λ j. slice_get set.sites j ≡ Some p.1) k p.3 in
        let q : (q : PartTree) × (slice_get set.app.parts m ≡ Some q) = get_some set.app.parts m (omega (arith, get_within set.sites m p.1 sited, sound.sites)) in
        record {
          section = sec;
          site = p.1;
          part = q.0;
          is = record { lives = l.0; here = p.4 };
          sited = sited;
          parted = q.1;
          node = sym (sound.deployed m q.0 p.1 q.1 sited).node ∙ (at_site n s.mem sec p.1 p.4).node;
          own = sym l.1;
        }

-- what remains: a step of other code
abbrev pub ForeignSteps : Setting → Type 0
ForeignSteps set = (w : World) (mo : Model) (n : ℕ) (s : State) → Tied set w mo → slice_get w.nodes n ≡ Some s
    → module_of set.sites n s (own_of s) ≡ None → violation_of (step set.mac s).shown.event ≡ None
    → Fares (judge set.app mo (after_step set w n s).items) (Tied set (after_step set w n s).world)

-- each step of a node forges, or goes on to a tied state
pub step_fares : (set : Setting) (sound : IsSoundSetting set) (laws : MachineLaws set.mac) (fit : DriversFit set)
    (foreign : ForeignSteps set) (w : World) (mo : Model) (n : ℕ) (s : State) → Tied set w mo → slice_get w.nodes n ≡ Some s
    → Fares (judge set.app mo (after_step set w n s).items) (Tied set (after_step set w n s).world)
step_fares set sound laws fit foreign w mo n s t here = by_event (violation_of (step set.mac s).shown.event) refl
  where
    by_runner : (o : Option ℕ) → module_of set.sites n s (own_of s) ≡ o → violation_of (step set.mac s).shown.event ≡ None
        → Fares (judge set.app mo (after_step set w n s).items) (Tied set (after_step set w n s).world)
    by_runner None e quiet = foreign w mo n s t here e quiet
    by_runner (Some m) e quiet =
        let g = runner_of set n m s sound e in
        let here2 : slice_get w.nodes g.part.node ≡ Some s = subst (λ j. slice_get w.nodes j ≡ Some s) (sym g.node) here in
        let is2 : IsModule g.part.node g.site s g.section = subst (λ j. IsModule j g.site s g.section) (sym g.node) g.is in
        let h = own_step set w mo m g.part g.site s g.section sound laws fit t g.parted g.sited here2 is2 g.own quiet in
        let h2 = subst (λ j. (let o = observed set j (Some m) (step set.mac s).state (step set.mac s).shown w.ledger in Fares
        (judge set.app mo o.items) (Tied set (with_node w j (step set.mac s).state o.ledger (w.steps + 1))))) g.node h in
        subst (λ z. (let o = observed set n z (step set.mac s).state (step set.mac s).shown w.ledger in Fares
        (judge set.app mo o.items) (Tied set (with_node w n (step set.mac s).state o.ledger (w.steps + 1))))) (sym e) h2

    by_event : (o : Option Violation) → violation_of (step set.mac s).shown.event ≡ o → Fares (judge set.app mo (after_step set w n s).items) (Tied set (after_step set w n s).world)
    by_event (Some v) e = violation_fares set w mo n s v sound t here e
    by_event None e = by_runner (module_of set.sites n s (own_of s)) refl e
