-- One node goes on, and the run stays tied.
use Rattle.std.proofs.Common.{◌≡◌, ◌≢◌, ℕ, zero, suc, ◌+◌, ◌<◌, ◌≤◌, ◌⊎◌, inl, inr, ◌==◌, Bool}
use Rattle.std.proofs.Common.{true, false, if◌then◌else◌, List, [], ◌∷◌, length, replicate, Option}
use Rattle.std.proofs.Common.{Some, None, refl, sym, ◌∙◌, ap, subst, arith}
use Rattle.std.specs.Prelude.{slice_get, slice_set}
use Rattle.std.proofs.lemmas.Bool.{eqb-true, eqb-false, cases_eq, ne_eqb}
use Rattle.sx_bus.specs.declared.devices.Window.{Window}
use Rattle.sx_bus.specs.Devices.{all_stale, stale}
use Rattle.std.proofs.lemmas.List.{length-replicate}
use Rattle.std.proofs.lemmas.Option.{none-some}
use Rattle.sx_trace.specs.declared.items.Cause.{Cause}
use Rattle.sx_trace.specs.declared.items.Item.TheVariants as item
use Rattle.spec_machine.specs.State.{State, reset}
use Rattle.spec_machine.specs.Node.{IsNode}
use Rattle.sx_mean.specs.declared.apps.AppDevice.{AppDevice}
use Rattle.spec_invocation.specs.ModuleState.{link_of, epoch_of}
use Rattle.sx_mean.specs.Application.{PartTree, AppTree}
use Rattle.sx_mean.specs.Ends.{ends_of}
use Rattle.sx_model.specs.State.{Reading}
use Rattle.sx_model.specs.order.State.{Present, Standing, Model}
use Rattle.sx_model.specs.Step.{stale_at, is_vouched}
use Rattle.sx_model.specs.order.Step.{step, reset_at, absent_at}
use Rattle.spec_machine.proofs.Devices.{stale_shapes}
use Rattle.spec_run.specs.Setting.{Site, Setting, device_number, devices_at, windows_at}
use Rattle.sx_wire.specs.Headers.{challenge_in}
use Rattle.spec_run.specs.Ledger.{Made, is_made}
use Rattle.spec_run.specs.State.{World}
use Rattle.spec_run.specs.Acts.{with_node}
use Rattle.spec_run.specs.Law.{IsSoundSetting}
use Rattle.spec_run.proofs.tie.Lists.{get_other, get_within, length_set, some_inj}
use Rattle.spec_run.proofs.tie.Verdicts.{Going, judge, Fares}
use Rattle.spec_run.proofs.tie.Tied.{Known, IsTimely, HasSent, IsSane, NodeTied, DeviceTied, ModuleTied, Absent, Tied, shapes}
use Rattle.lemmas.proofs.Lists.{get_same, get_some}
use Rattle.sx_ledger.specs.declared.entry.Maker.{Maker}
use Rattle.sx_ledger.specs.declared.entry.Maker.TheVariants as maker

-- what is owed where a node goes from s to s2 and the source from mo to mo2
pub record NodeGoes (set : Setting) (w : World) (n : ℕ) (mo : Model) (s2 : State) (ledger : List Made) (mo2 : Model) : Type 0 where
  pub boots_size : length mo2.boots ≡ length mo.boots
  pub devices_size : length mo2.devices ≡ length mo.devices
  pub modules_size : length mo2.modules ≡ length mo.modules
  pub sent_size : length mo2.sent ≡ length mo.sent
  pub asks : mo2.asks ≡ mo.asks
  pub epochs : mo2.epochs ≡ mo.epochs
  pub other_boots : (k : ℕ) → k ≢ n → slice_get mo2.boots k ≡ slice_get mo.boots k
  pub node : (boot : ℕ) → slice_get mo2.boots n ≡ Some boot → NodeTied set n s2 boot
  pub devices_here : (k : ℕ) (x : Window) (r : Reading) → slice_get s2.devices k ≡ Some x → slice_get mo2.devices (device_number set.app n k) ≡ Some r → DeviceTied x r
  pub devices_else : (j k : ℕ) (s : State) (x : Window) → j ≢ n → slice_get w.nodes j ≡ Some s → slice_get s.devices k ≡ Some x
      → slice_get mo2.devices (device_number set.app j k) ≡ slice_get mo.devices (device_number set.app j k)
  pub modules_here : (m : ℕ) (q : PartTree) (site : Site) (x : Standing) → slice_get set.app.parts m ≡ Some q → q.node ≡ n → slice_get set.sites m ≡ Some site → slice_get mo2.modules m ≡ Some x
      → ModuleTied set n m q site s2 x mo2.sent
  pub modules_else : (m : ℕ) (q : PartTree) (site : Site) (s : State) (x : Standing) → slice_get set.app.parts m ≡ Some q
      → q.node ≢ n → slice_get set.sites m ≡ Some site → slice_get w.nodes q.node ≡ Some s
      → slice_get mo2.modules m ≡ Some x → ModuleTied set q.node m q site s x mo2.sent
  pub standing : (m : ℕ) (x : Standing) → slice_get mo2.modules m ≡ Some x → (y : Standing) × (slice_get mo.modules m ≡ Some y) × (x.asked ≡ y.asked) × (x.attested ≡ y.attested)
  pub known : (e : Made) → is_made ledger e ≡ true → Known set.app mo2 e.maker e
  pub sane : IsSane set.app mo2

pub tied_node : (set : Setting) (w : World) (n : ℕ) (mo : Model) (s s2 : State) (ledger : List Made) (steps : ℕ) (mo2 : Model)
    → slice_get w.nodes n ≡ Some s → Tied set w mo → NodeGoes set w n mo s2 ledger mo2
    → Tied set (with_node w n s2 ledger steps) mo2
tied_node set w n mo s s2 ledger steps mo2 here t g = record {
  size = record {
    nodes = length_set w.nodes n s2 ∙ t.size.nodes;
    boots = g.boots_size ∙ t.size.boots;
    devices = g.devices_size ∙ t.size.devices;
    modules = g.modules_size ∙ t.size.modules;
    epochs = ap length g.epochs ∙ t.size.epochs;
    sent = g.sent_size ∙ t.size.sent;
    asks = t.size.asks;
    attested = t.size.attested;
  };
  nodes = λ k z boot zk bk. elim (cases_eq k n) [
    | inl same ↦
        let zs : s2 ≡ z = some_inj s2 z (sym (get_same w.nodes n s2 s here) ∙ subst (λ j. slice_get (slice_set w.nodes n s2) j ≡ Some z) same zk) in
        subst (λ j. NodeTied set j z boot) (sym same) (subst (λ y. NodeTied set n y boot) zs (g.node boot (subst (λ j. slice_get mo2.boots j ≡ Some boot) same bk)))
    | inr ne ↦ t.nodes k z boot (sym (get_other w.nodes n k s2 ne) ∙ zk) (sym (g.other_boots k ne) ∙ bk)
  ];
  devices = λ j k z x r zk xk rk. elim (cases_eq j n) [
    | inl same ↦
        let zs : s2 ≡ z = some_inj s2 z (sym (get_same w.nodes n s2 s here) ∙ subst (λ i. slice_get (slice_set w.nodes n s2) i ≡ Some z) same zk) in
        g.devices_here k x r (subst (λ (y : State). slice_get y.devices k ≡ Some x) (sym zs) xk) (subst (λ i. slice_get mo2.devices (device_number set.app i k) ≡ Some r) same rk)
    | inr ne ↦
        let old = sym (get_other w.nodes n j s2 ne) ∙ zk in
        t.devices j k z x r old xk (sym (g.devices_else j k z x ne old xk) ∙ rk)
  ];
  modules = λ m q site z x pk sk zk xk. elim (cases_eq q.node n) [
    | inl same ↦
        let zs : s2 ≡ z = some_inj s2 z (sym (get_same w.nodes n s2 s here) ∙ subst (λ i. slice_get (slice_set w.nodes n s2) i ≡ Some z) same zk) in
        subst (λ j. ModuleTied set j m q site z x mo2.sent) (sym same) (subst (λ y. ModuleTied set n m q site y x mo2.sent) zs (g.modules_here m q site x pk same sk xk))
    | inr ne ↦ g.modules_else m q site z x pk ne sk (sym (get_other w.nodes n q.node s2 ne) ∙ zk) xk
  ];
  asks = t.asks ∙ sym g.asks;
  epochs = t.epochs ∙ sym g.epochs;
  few = t.few;
  short = t.short;
  recent = λ m x a xk ae. let y = g.standing m x xk in subst (λ k. a < k) (sym g.asks) (t.recent m y.0 a y.1 (sym y.2 ∙ ae));
  deployer = λ m x ask at xk ak tk.
      let y = g.standing m x xk in
      let d = t.deployer m y.0 ask at y.1 ak tk in
      record {
        when_attested = d.when_attested ∙ ap Rattle.sx_model.specs.Renewal.boot_of (sym y.3);
        open_ask = d.open_ask ∙ ap Rattle.spec_run.proofs.tie.Tied.asked_as (sym y.2);
        floors = λ a c e. subst (λ es. Rattle.std.specs.Prelude.slice_index a.floors c ≤ Rattle.std.specs.Prelude.slice_index es c) (sym g.epochs) (d.floors a c (sym y.3 ∙ e));
      };
  ledger = g.known;
  sane = g.sane;
}

-- A reset.

absent_get : (n : ℕ) (qs : List PartTree) (xs : List Standing) (m : ℕ) (z : Standing) → slice_get (absent_at n qs xs) m ≡ Some z
    → (x : Standing) × (slice_get xs m ≡ Some x) × (z.asked ≡ x.asked) × (z.vouched ≡ x.vouched)
    × (z.attested ≡ x.attested) × ((q : PartTree) → slice_get qs m ≡ Some q → ((q.node ≡ n) × (z.present ≡ None)) ⊎ ((q.node ≢ n) × (z ≡ x)))
absent_get n [] xs m z e = (z, e, refl, refl, refl, λ q h. absurd cc)
absent_get n (q0 ∷ qs) [] m z e = absurd cc
absent_get n (q0 ∷ qs) (x ∷ xs) (suc m) z e = absent_get n qs xs m z e
absent_get n (q0 ∷ qs) (x ∷ xs) zero z e = head (q0.node == n) refl (some_inj _ z e)
  where
    head : (b : Bool) → (q0.node == n) ≡ b → (if b then record { present = None; asked = x.asked; vouched = x.vouched; attested = x.attested } else x) ≡ z
        → (y : Standing) × (Some x ≡ Some y) × (z.asked ≡ y.asked) × (z.vouched ≡ y.vouched)
        × (z.attested ≡ y.attested) × ((q : PartTree) → Some q0 ≡ Some q → ((q.node ≡ n) × (z.present ≡ None)) ⊎ ((q.node ≢ n) × (z ≡ y)))
    head true t h = (
      x,
      refl,
      sym (ap (λ (g : Standing). g.asked) h),
      sym (ap (λ (g : Standing). g.vouched) h),
      sym (ap (λ (g : Standing). g.attested) h),
      λ q qe. inl (ap (λ (g : PartTree). g.node) (sym (some_inj q0 q qe)) ∙ eqb-true q0.node n t, sym (ap (λ (g : Standing). g.present) h)),
    )
    head false t h = (
      x,
      refl,
      sym (ap (λ (g : Standing). g.asked) h),
      sym (ap (λ (g : Standing). g.vouched) h),
      sym (ap (λ (g : Standing). g.attested) h),
      λ q qe. inr (λ same. eqb-false q0.node n t (ap (λ (g : PartTree). g.node) (some_inj q0 q qe) ∙ same), sym h),
    )

absent_length : (n : ℕ) (qs : List PartTree) (xs : List Standing) → length (absent_at n qs xs) ≡ length xs
absent_length n [] xs = refl
absent_length n (q0 ∷ qs) [] = refl
absent_length n (q0 ∷ qs) (x ∷ xs) = ap suc (absent_length n qs xs)

stale_length : (n : ℕ) (ds : List AppDevice) (rs : List Reading) → length (stale_at n ds rs) ≡ length rs
stale_length n [] rs = refl
stale_length n (d ∷ ds) [] = refl
stale_length n (d ∷ ds) (r ∷ rs) = ap suc (stale_length n ds rs)

stale_get : (n : ℕ) (ds : List AppDevice) (rs : List Reading) (k : ℕ) (z : Reading) → slice_get (stale_at n ds rs) k ≡ Some z
    → (r : Reading) × (slice_get rs k ≡ Some r) × (z.value ≡ r.value) × ((d : AppDevice) → slice_get ds k ≡ Some d → ((d.node ≡ n) × (z.fresh ≡ false)) ⊎ ((d.node ≢ n) × (z ≡ r)))
stale_get n [] rs k z e = (z, e, refl, λ d h. absurd cc)
stale_get n (d0 ∷ ds) [] k z e = absurd cc
stale_get n (d0 ∷ ds) (r ∷ rs) (suc k) z e = stale_get n ds rs k z e
stale_get n (d0 ∷ ds) (r ∷ rs) zero z e = head (d0.node == n) refl (some_inj _ z e)
  where
    head : (b : Bool) → (d0.node == n) ≡ b → (if b then record { value = r.value; fresh = false } else r) ≡ z
        → (y : Reading) × (Some r ≡ Some y) × (z.value ≡ y.value) × ((d : AppDevice) → Some d0 ≡ Some d → ((d.node ≡ n) × (z.fresh ≡ false)) ⊎ ((d.node ≢ n) × (z ≡ y)))
    head true t h = (
      r,
      refl,
      sym (ap (λ (g : Reading). g.value) h),
      λ d de. inl (ap (λ (g : AppDevice). g.node) (sym (some_inj d0 d de)) ∙ eqb-true d0.node n t, sym (ap (λ (g : Reading). g.fresh) h)),
    )
    head false t h = (r, refl, sym (ap (λ (g : Reading). g.value) h), λ d de. inr (λ same. eqb-false d0.node n t (ap (λ (g : AppDevice). g.node) (some_inj d0 d de) ∙ same), sym h))

-- the k-th device of a node is at the node
pub at_node_from : (n i : ℕ) (ds : List AppDevice) (k v : ℕ) → slice_get (devices_at n i ds) k ≡ Some v → (j : ℕ) × (d : AppDevice) × (v ≡ i + j) × (slice_get ds j ≡ Some d) × (d.node ≡ n)
at_node_from n i [] k v e = absurd cc
at_node_from n i (d0 ∷ ds) k v e = head (d0.node == n) refl k e (λ k e. at_node_from n (i + 1) ds k v e)
  where
    later : (j : ℕ) × (d : AppDevice) × (v ≡ (i + 1) + j) × (slice_get ds j ≡ Some d) × (d.node ≡ n) → (j : ℕ) × (d : AppDevice) × (v ≡ i + j) × (slice_get (d0 ∷ ds) j ≡ Some d) × (d.node ≡ n)
    later r = (suc r.0, r.1, r.2 ∙ omega arith, r.3, r.4)

    head : (b : Bool) → (d0.node == n) ≡ b → (k : ℕ) → slice_get (if b then i ∷ devices_at n (i + 1) ds else devices_at n (i + 1) ds) k ≡ Some v
        → ((k : ℕ) → slice_get (devices_at n (i + 1) ds) k ≡ Some v → (j : ℕ) × (d : AppDevice) × (v ≡ (i + 1) + j) × (slice_get ds j ≡ Some d) × (d.node ≡ n))
        → (j : ℕ) × (d : AppDevice) × (v ≡ i + j) × (slice_get (d0 ∷ ds) j ≡ Some d) × (d.node ≡ n)
    head true t zero e f = (0, d0, sym (some_inj i v e) ∙ omega arith, refl, eqb-true d0.node n t)
    head true t (suc k) e f = later (f k e)
    head false t k e f = later (f k e)

stale_else : (n : ℕ) (ds : List AppDevice) (rs : List Reading) (k : ℕ) (d : AppDevice) → slice_get ds k ≡ Some d → d.node ≢ n → slice_get (stale_at n ds rs) k ≡ slice_get rs k
stale_else n [] rs k d e ne = refl
stale_else n (d0 ∷ ds) [] k d e ne = refl
stale_else n (d0 ∷ ds) (r ∷ rs) zero d e ne =
    let off : (d0.node == n) ≡ false = ne_eqb d0.node n (λ same. ne (ap (λ (g : AppDevice). g.node) (sym (some_inj d0 d e)) ∙ same)) in
    ap (λ b. Some (if b then record { value = r.value; fresh = false } else r)) off
stale_else n (d0 ∷ ds) (r ∷ rs) (suc k) d e ne = stale_else n ds rs k d e ne

pub index_get : (xs : List ℕ) (k v : ℕ) → slice_get xs k ≡ Some v → Rattle.std.specs.Prelude.slice_index xs k ≡ v
index_get [] k v e = absurd cc
index_get (x ∷ xs) zero v e = some_inj x v e
index_get (x ∷ xs) (suc k) v e = index_get xs k v e

pub windows_long : (n i : ℕ) (ds : List AppDevice) (ats : List ℕ) → length ats ≡ length ds → length (windows_at n ds ats) ≡ length (devices_at n i ds)
windows_long n i [] ats e = refl
windows_long n i (d ∷ ds) [] e = absurd (omega (arith, e))
windows_long n i (d ∷ ds) (at ∷ ats) e = head (d.node == n) (windows_long n (i + 1) ds ats (omega (arith, e)))
  where
    head : (b : Bool) → length (windows_at n ds ats) ≡ length (devices_at n (i + 1) ds)
        → length (if b then (at, Rattle.spec_run.specs.Setting.kind_of d.kind) ∷ windows_at n ds ats else windows_at n ds ats) ≡ length
        (if b then i ∷ devices_at n (i + 1) ds else devices_at n (i + 1) ds)
    head true h = ap suc h
    head false h = h

pub shapes_long : (ws : List Window) → length (shapes ws) ≡ length ws
shapes_long [] = refl
shapes_long (w ∷ ws) = ap suc (shapes_long ws)

-- a node's window has its device's number
pub number_there : (set : Setting) (n k : ℕ) (ws : List Window) (x : Window) → IsSoundSetting set → shapes ws ≡ windows_at n set.app.devices set.places → slice_get ws k ≡ Some x
    → slice_get (devices_at n 0 set.app.devices) k ≡ Some (device_number set.app n k)
number_there set n k ws x sound e h =
    let lt : k < length (devices_at n 0 set.app.devices) = omega (arith, get_within ws k x h, shapes_long ws, ap length e, windows_long n 0 set.app.devices set.places sound.places) in
    let v : (v : ℕ) × (slice_get (devices_at n 0 set.app.devices) k ≡ Some v) = get_some (devices_at n 0 set.app.devices) k lt in
    subst (λ z. slice_get (devices_at n 0 set.app.devices) k ≡ Some z) (sym (index_get (devices_at n 0 set.app.devices) k v.0 v.1)) v.1

-- a node's window is a device of the application, at that node
pub device_here : (set : Setting) (n k : ℕ) (ws : List Window) (x : Window) → IsSoundSetting set → shapes ws ≡ windows_at n set.app.devices set.places → slice_get ws k ≡ Some x
    → (d : AppDevice) × (slice_get set.app.devices (device_number set.app n k) ≡ Some d) × (d.node ≡ n)
device_here set n k ws x sound e h =
    let r = at_node_from n 0 set.app.devices k (device_number set.app n k) (number_there set n k ws x sound e h) in
    let at : device_number set.app n k ≡ r.0 = r.2 ∙ omega arith in
    (r.1, subst (λ j. slice_get set.app.devices j ≡ Some r.1) (sym at) r.3, r.4)

all_stale_get : (ws : List Window) (k : ℕ) (x : Window) → slice_get (all_stale ws) k ≡ Some x → (w : Window) × (slice_get ws k ≡ Some w) × (x ≡ stale w)
all_stale_get [] k x e = absurd cc
all_stale_get (w ∷ ws) zero x e = (w, refl, sym (some_inj (stale w) x e))
all_stale_get (w ∷ ws) (suc k) x e = all_stale_get ws k x e

-- what a node is after a reset
abbrev pub ResetIsNode : Type 0
ResetIsNode = (s : State) → IsNode s → IsNode (reset s)

abbrev zeros : ℕ → List ℕ
zeros n = replicate n 0

pub zeros_long : (n : ℕ) → length (zeros n) ≡ n
zeros_long n = length-replicate n 0

pub reset_is_node : ResetIsNode
reset_is_node s h = Rattle.spec_machine.proofs.Stays.reset_is_node s h

module _ (set : Setting) (w : World) (mo : Model) (n : ℕ) (s : State) (sound : IsSoundSetting set) (is_node : ResetIsNode) (t : Tied set w mo) (here : slice_get w.nodes n ≡ Some s) where
  boot_here : (boot : ℕ) × (slice_get mo.boots n ≡ Some boot)
  boot_here = get_some mo.boots n (omega (arith, get_within w.nodes n s here, t.size.nodes, t.size.boots))

  abbrev again : Model
  again = reset_at set.app mo n boot_here.0

  node_here : NodeTied set n s boot_here.0
  node_here = t.nodes n s boot_here.0 here boot_here.1

  reset_standing : (m : ℕ) (x : Standing) → slice_get again.modules m ≡ Some x → (y : Standing) × (slice_get mo.modules m ≡ Some y) × (x.asked ≡ y.asked) × (x.attested ≡ y.attested)
  reset_standing m x e = let r = absent_get n set.app.parts mo.modules m x e in (r.0, r.1, r.2, r.4)

  absent_there : (m : ℕ) (y : Standing) → slice_get mo.modules m ≡ Some y → (x : Standing) × (slice_get again.modules m ≡ Some x) × (x.vouched ≡ y.vouched) × (x.attested ≡ y.attested)
  absent_there m y e =
      let x : (x : Standing) × (slice_get again.modules m ≡ Some x) = get_some again.modules m (omega (arith, get_within mo.modules m y e, absent_length n set.app.parts mo.modules)) in
      let r = absent_get n set.app.parts mo.modules m x.0 x.1 in
      let same : r.0 ≡ y = some_inj r.0 y (sym r.1 ∙ e) in
      (x.0, x.1, r.3 ∙ ap (λ (g : Standing). g.vouched) same, r.4 ∙ ap (λ (g : Standing). g.attested) same)

  boot_cases : (q : PartTree) (boot : ℕ) → slice_get again.boots q.node ≡ Some boot → ((q.node ≡ n) × (boot ≡ boot_here.0 + 1)) ⊎ ((q.node ≢ n) × (slice_get mo.boots q.node ≡ Some boot))
  boot_cases q boot e = elim (cases_eq q.node n) [
    | inl same ↦ inl (
      same,
      some_inj boot (boot_here.0 + 1) (sym e
          ∙ subst (λ j. slice_get again.boots j ≡ Some (boot_here.0 + 1)) (sym same) (get_same mo.boots n (boot_here.0 + 1) boot_here.0 boot_here.1)),
    )
    | inr ne ↦ inr (ne, sym (get_other mo.boots n q.node (boot_here.0 + 1) ne) ∙ e)
  ]

  earlier : (b : ℕ) (p : Type 0) → (b < boot_here.0) ⊎ ((b ≡ boot_here.0) × p) → b < boot_here.0 + 1
  earlier b p (inl lt) = omega (arith, lt)
  earlier b p (inr e) = omega (arith, e.0)

  boot_of : (q : PartTree) → q.node ≡ n → slice_get mo.boots q.node ≡ Some boot_here.0
  boot_of q same = subst (λ j. slice_get mo.boots j ≡ Some boot_here.0) (sym same) boot_here.1

  none_present : (x : Standing) (pr : Present) → x.present ≡ None → x.present ≡ Some pr → ⊥
  none_present x pr a b = absurd (none-some pr (sym a ∙ b))

  reset_sane : IsSane set.app again
  reset_sane = record {
    small = t.sane.small;
    timely = λ m q x boot pk xk bk.
        let r = absent_get n set.app.parts mo.modules m x xk in
        elim (boot_cases q boot bk) [
          | inl here_ ↦
              let old = t.sane.timely m q r.0 boot_here.0 pk r.1 (boot_of q here_.0) in
              elim (r.5 q pk) [
                | inl gone ↦ record {
                  vouched = λ a b h. inl (subst (λ k. b < k) (sym here_.1) (earlier b _ (old.vouched a b (subst (λ v. is_vouched a b v ≡ true) r.3 h))));
                  attested = λ a h. inl (subst (λ k. a.boot < k) (sym here_.1) (earlier a.boot _ (old.attested a (sym r.4 ∙ h))));
                  opened = λ pr c side e pe o. absurd (none_present x pr gone.1 pe);
                }
                | inr still ↦ absurd (still.0 here_.0)
              ]
          | inr else_ ↦
              let old = t.sane.timely m q r.0 boot pk r.1 else_.1 in
              elim (r.5 q pk) [
                | inl gone ↦ absurd (else_.0 gone.0)
                | inr still ↦ subst (λ z. IsTimely (ends_of set.app m) z boot mo.epochs) (sym still.1) old
              ]
        ];
    unsent = λ c l q x boot words lk pk xk bk wk.
        let r = absent_get n set.app.parts mo.modules l.from x xk in
        elim (boot_cases q boot bk) [
          | inl here_ ↦
              elim (t.sane.unsent c l q r.0 boot_here.0 words lk pk r.1 (boot_of q here_.0) wk) [
                | inl none ↦ inl none
                | inr hs ↦ inr (
                  hs.0,
                  r.4 ∙ hs.1,
                  hs.2,
                  inl (inr
                      (subst (λ k. hs.0.boot < k) (sym here_.1)
                      (earlier hs.0.boot _ ((t.sane.timely l.from q r.0 boot_here.0 pk r.1 (boot_of q here_.0)).attested hs.0 hs.1)))),
                )
              ]
          | inr else_ ↦
              elim (r.5 q pk) [
                | inl gone ↦ absurd (else_.0 gone.0)
                | inr still ↦ elim (t.sane.unsent c l q r.0 boot words lk pk r.1 else_.1 wk) [
                  | inl none ↦ inl none
                  | inr hs ↦ inr (subst (λ z. HasSent (ends_of set.app l.from) z boot mo.epochs (link_of c) (epoch_of c)) (sym still.1) hs)
                ]
              ]
        ];
  }

  reset_known : (k : Rattle.sx_ledger.specs.declared.entry.Maker.Maker) (e : Made) → Known set.app mo k e → Known set.app again k e
  reset_known Rattle.sx_ledger.specs.declared.entry.Maker.TheVariants.Deployer e h =
      let x = absent_there e.target h.x h.there in
      record { x = x.0; there = x.1; attested = x.3 ∙ h.attested; a = h.a; older = h.older; «end» = h.«end»; held = h.held; epoch = h.epoch; header = h.header; floor = h.floor; given = h.given }
  reset_known (Rattle.sx_ledger.specs.declared.entry.Maker.TheVariants.Module k) e h =
      (λ a. let f = h.0 a in let x = absent_there k f.x f.there in record { x = x.0; there = x.1; vouched = subst (λ v. is_vouched (challenge_in e.header) e.boot v ≡ true) (sym x.2) f.vouched }, h.1)

  reset_goes : NodeGoes set w n mo (reset s) w.ledger again
  reset_goes = record {
    boots_size = length_set mo.boots n (boot_here.0 + 1);
    devices_size = stale_length n set.app.devices mo.devices;
    modules_size = absent_length n set.app.parts mo.modules;
    sent_size = refl;
    asks = refl;
    epochs = refl;
    other_boots = λ k ne. get_other mo.boots n k (boot_here.0 + 1) ne;
    node = λ boot e. record {
      windows = stale_shapes s.devices ∙ node_here.windows;
      node = is_node s node_here.node;
      runner = inl refl;
      count = ap (λ k. k + 1) node_here.count ∙ some_inj (boot_here.0 + 1) boot (sym (get_same mo.boots n (boot_here.0 + 1) boot_here.0 boot_here.1) ∙ e);
    };
    devices_here = λ k x r xk rk.
        let old = all_stale_get s.devices k x xk in
        let d = device_here set n k s.devices old.0 sound node_here.windows old.1 in
        let z = stale_get n set.app.devices mo.devices (device_number set.app n k) r rk in
        let was = t.devices n k s old.0 z.0 here old.1 z.1 in
        elim (z.3 d.0 d.1) [
          | inl f ↦ record { value = z.2 ∙ was.value ∙ sym (ap (λ (g : Window). g.value) old.2); fresh = f.1 ∙ sym (ap (λ (g : Window). g.fresh) old.2) }
          | inr g ↦ absurd (g.0 d.2)
        ];
    devices_else = λ j k z x ne zk xk.
        let bj : (b : ℕ) × (slice_get mo.boots j ≡ Some b) = get_some mo.boots j (omega (arith, get_within w.nodes j z zk, t.size.nodes, t.size.boots)) in
        let d = device_here set j k z.devices x sound (t.nodes j z bj.0 zk bj.1).windows xk in
        stale_else n set.app.devices mo.devices (device_number set.app j k) d.0 d.1 (λ same. ne (sym d.2 ∙ same));
    modules_here = λ m q site x pk same sk xk.
        elim ((absent_get n set.app.parts mo.modules m x xk).5 q pk) [
          | inl gone ↦ Absent gone.1 (λ sec l. absurd l)
          | inr still ↦ absurd (still.0 same)
        ];
    modules_else = λ m q site z x pk ne sk zk xk.
        let r = absent_get n set.app.parts mo.modules m x xk in
        elim (r.5 q pk) [
          | inl gone ↦ absurd (ne gone.0)
          | inr still ↦ subst (λ y. ModuleTied set q.node m q site z y mo.sent) (sym still.1) (t.modules m q site z r.0 pk sk zk r.1)
        ];
    standing = reset_standing;
    known = λ e h. reset_known e.maker e (t.ledger e h);
    sane = reset_sane;
  }

  -- a reset is allowed, and leads to a tied state
  pub reset_fares : (cause : Cause) (steps : ℕ) → Fares (judge set.app mo (item.Reset n cause ∷ [])) (Tied set (with_node w n (reset s) w.ledger steps))
  reset_fares cause steps =
      let next : step set.app mo (item.Reset n cause) ≡ Some again = ap (λ o. Rattle.std.specs.Option.option_and_then (λ b. Some (reset_at set.app mo n b)) o) boot_here.1 in
      subst (λ (o : Option Model). Fares (Rattle.spec_run.proofs.tie.Verdicts.judge_on o (λ z. Going z)) (Tied set (with_node w n (reset s) w.ledger steps))) (sym next)
      (tied_node set w n mo s (reset s) w.ledger steps again here t reset_goes)

-- what is known of an entry stays where readings alone change
pub known_devices : (app : AppTree) (mo : Model) (rs : List Reading) (k : Maker) (e : Made) → Known app mo k e → Known app (record mo { devices = rs }) k e
known_devices app mo rs maker.Deployer e h = record {
  x = h.x;
  there = h.there;
  attested = h.attested;
  a = h.a;
  older = h.older;
  «end» = h.«end»;
  held = h.held;
  epoch = h.epoch;
  header = h.header;
  floor = h.floor;
  given = h.given;
}
known_devices app mo rs (maker.Module k) e h = (λ a. let f = h.0 a in record { x = f.x; there = f.there; vouched = f.vouched }, h.1)
