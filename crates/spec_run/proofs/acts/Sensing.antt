-- A sensor takes a sample.
use Rattle.std.proofs.Common.{◌≡◌, ◌≢◌, ℕ, zero, suc, ◌+◌, ◌<◌, inl, inr, ◌==◌, Bool, true, false, if◌then◌else◌, List, [], ◌∷◌, length, Option, Some, None, refl, sym, ◌∙◌, ap, subst, arith}
use Rattle.std.specs.Prelude.{slice_get, slice_set}
use Rattle.std.specs.List.{position_from}
use Rattle.std.proofs.lemmas.Bool.{eqb-true, cases_eq, eq-eqb}
use Rattle.std.specs.Prelude.{unwrap_or}
use Rattle.sx_bus.specs.declared.devices.Window.{Window}
use Rattle.sx_bus.specs.Devices.{with_sample}
use Rattle.sx_mean.specs.declared.apps.AppDevice.{AppDevice}
use Rattle.sx_trace.specs.declared.items.Item.TheVariants as item
use Rattle.spec_machine.specs.declared.kinds.Refused.{Refused}
use Rattle.spec_machine.specs.State.{State}
use Rattle.spec_machine.specs.Acts.{busy, unless, sense as sense_on}
use Rattle.spec_machine.proofs.Stays.{sense_is_node, busy_idle}
use Rattle.sx_mean.specs.Application.{PartTree, is_sensor}
use Rattle.sx_model.specs.State.{Reading}
use Rattle.sx_model.specs.order.State.{Standing, Model}
use Rattle.sx_model.specs.order.Step.{step, with_device}
use Rattle.spec_run.specs.Setting.{Site, Setting, devices_at, device_number}
use Rattle.spec_run.specs.State.{World}
use Rattle.spec_run.specs.Acts.{with_node, done_on}
use Rattle.spec_run.specs.Run.{place_at}
use Rattle.spec_run.specs.Law.{IsSoundSetting}
use Rattle.spec_run.proofs.tie.Lists.{get_other, get_within, length_set, some_inj}
use Rattle.spec_run.proofs.tie.Verdicts.{Going, judge_on, judge, Fares}
use Rattle.spec_run.proofs.steps.Nodes.{tied_node, device_here, index_get, shapes_long, windows_long, known_devices}
use Rattle.spec_run.proofs.steps.Steps.{nonzero, increasing}
use Rattle.spec_run.proofs.steps.Foreign.{position_some}
use Rattle.spec_run.proofs.acts.Outside.{same_tied, refused_fares}
use Rattle.spec_run.proofs.tie.Tied.{NodeTied, ModuleTied, Absent, Rests, Runs, Tied}
use Rattle.spec_run.proofs.acts.Keeping.{Keeps}
use Rattle.lemmas.proofs.Lists.{get_same, get_some}
use Rattle.spec_machine.proofs.Devices.{sensed_shapes, position_is}

listed_head : (b : Bool) (i j : ℕ) (k : ℕ) (devs : List ℕ) → slice_get devs k ≡ Some (i + 1 + j) → (k2 : ℕ) × (slice_get (if b then i ∷ devs else devs) k2 ≡ Some (i + suc j))
listed_head true i j k devs e = (suc k, e ∙ ap Some (omega arith))
listed_head false i j k devs e = (k, e ∙ ap Some (omega arith))

-- a device is one of its node's
listed : (n i : ℕ) (ds : List AppDevice) (j : ℕ) (x : AppDevice) → slice_get ds j ≡ Some x → x.node ≡ n → (k : ℕ) × (slice_get (devices_at n i ds) k ≡ Some (i + j))
listed n i [] j x e same = absurd cc
listed n i (d ∷ ds) zero x e same =
    let t : (d.node == n) ≡ true = eq-eqb d.node n (ap (λ (z : AppDevice). z.node) (some_inj d x e) ∙ same) in
    (0, ap (λ b. slice_get (if b then i ∷ devices_at n (i + 1) ds else devices_at n (i + 1) ds) 0) t ∙ ap Some (omega arith))
listed n i (d ∷ ds) (suc j) x e same =
    let r = listed n (i + 1) ds j x e same in listed_head (d.node == n) i j r.0 (devices_at n (i + 1) ds) r.1

-- the place of a device among its node's
pub place_is : (set : Setting) (n d : ℕ) (x : AppDevice) → slice_get set.app.devices d ≡ Some x → x.node ≡ n → slice_get (devices_at n 0 set.app.devices) (place_at set n d) ≡ Some d
place_is set n d x e same =
    let l = listed n 0 set.app.devices d x e same in
    let there : slice_get (devices_at n 0 set.app.devices) l.0 ≡ Some d = l.1 ∙ ap Some (omega arith) in
    found (position_from (λ k. k == d) 0 (devices_at n 0 set.app.devices)) refl
    (λ none. position_some (λ k. k == d) 0 (devices_at n 0 set.app.devices) l.0 d there (eq-eqb d d refl) none)
  where
    found : (o : Option ℕ) → position_from (λ k. k == d) 0 (devices_at n 0 set.app.devices) ≡ o
        → (position_from (λ k. k == d) 0 (devices_at n 0 set.app.devices) ≡ None → ⊥)
        → slice_get (devices_at n 0 set.app.devices) (unwrap_or o 0) ≡ Some d
    found None e f = absurd (f e)
    found (Some k) e f =
        let p = position_is (λ k. k == d) 0 (devices_at n 0 set.app.devices) k e in
        subst (λ j. slice_get (devices_at n 0 set.app.devices) j ≡ Some d) (sym (p.2 ∙ omega arith)) (p.3 ∙ ap Some (eqb-true p.1 d p.4))

sensed_same : (ws : List Window) (k v : ℕ) (w : Window) → slice_get ws k ≡ Some w → slice_get (with_sample ws k v) k ≡ Some (record w { value = v; fresh = true })
sensed_same [] k v w e = absurd cc
sensed_same (x ∷ ws) zero v w e = ap (λ (z : Window). Some (record z { value = v; fresh = true })) (some_inj x w e)
sensed_same (x ∷ ws) (suc k) v w e = sensed_same ws k v w e

sensed_other : (ws : List Window) (k v j : ℕ) → j ≢ k → slice_get (with_sample ws k v) j ≡ slice_get ws j
sensed_other [] k v j ne = refl
sensed_other (x ∷ ws) zero v zero ne = absurd (ne refl)
sensed_other (x ∷ ws) zero v (suc j) ne = refl
sensed_other (x ∷ ws) (suc k) v zero ne = refl
sensed_other (x ∷ ws) (suc k) v (suc j) ne = sensed_other ws k v j (λ e. ne (ap suc e))

module _ (set : Setting) (sound : IsSoundSetting set) (w : World) (mo : Model) (d v : ℕ) (x : AppDevice)
    (s : State) (dev : slice_get set.app.devices d ≡ Some x) (sensor : is_sensor x.kind ≡ true) (lt : v < 32768)
    (t : Tied set w mo) (here : slice_get w.nodes x.node ≡ Some s) (idle : s.cur ≡ 0) where
  abbrev k : ℕ
  k = place_at set x.node d

  abbrev s2 : State
  s2 = record s { devices = with_sample s.devices k v }

  abbrev mo2 : Model
  mo2 = with_device mo d (record { value = v; fresh = true })

  boot_d : (boot : ℕ) × (slice_get mo.boots x.node ≡ Some boot)
  boot_d = get_some mo.boots x.node (omega (arith, get_within w.nodes x.node s here, t.size.nodes, t.size.boots))

  node_d : NodeTied set x.node s boot_d.0
  node_d = t.nodes x.node s boot_d.0 here boot_d.1

  place_d : slice_get (devices_at x.node 0 set.app.devices) k ≡ Some d
  place_d = place_is set x.node d x dev refl

  number_d : device_number set.app x.node k ≡ d
  number_d = index_get (devices_at x.node 0 set.app.devices) k d place_d

  window_d : (wd : Window) × (slice_get s.devices k ≡ Some wd)
  window_d = get_some s.devices k (omega (
    arith,
    get_within (devices_at x.node 0 set.app.devices) k d place_d,
    shapes_long s.devices,
    ap length node_d.windows,
    windows_long x.node 0 set.app.devices set.places sound.places,
  ))

  same_module : (m : ℕ) (q : PartTree) (site : Site) (z : Standing) → ModuleTied set x.node m q site s z mo.sent → ModuleTied set x.node m q site s2 z mo.sent
  same_module m q site z (Absent none f) = Absent none f
  same_module m q site z (Rests sec pr p i c pend h) = Rests sec pr p (record { lives = i.lives; here = i.here }) c pend h
  same_module m q site z (Runs sec pr p i c u) = absurd (nonzero s sec node_d.node i.lives (sym c ∙ idle))

  sense_tied : Tied set (with_node w x.node s2 w.ledger w.steps) mo2
  sense_tied = tied_node set w x.node mo s s2 w.ledger w.steps mo2 here t (record {
    boots_size = refl;
    devices_size = length_set mo.devices d (record { value = v; fresh = true });
    modules_size = refl;
    sent_size = refl;
    asks = refl;
    epochs = refl;
    other_boots = λ j ne. refl;
    node = λ boot e. record {
      windows = sensed_shapes s.devices k v ∙ node_d.windows;
      node = sense_is_node s k v lt node_d.node;
      runner = inl idle;
      count = node_d.count ∙ some_inj boot_d.0 boot (sym boot_d.1 ∙ e);
    };
    devices_here = λ j y r yj rj. elim (cases_eq j k) [
      | inl same ↦
          let ys : y ≡ record window_d.0 { value = v; fresh = true } = some_inj y _
          (sym yj ∙ subst (λ i. slice_get (with_sample s.devices k v) i ≡ Some (record window_d.0 { value = v; fresh = true }))
          (sym same) (sensed_same s.devices k v window_d.0 window_d.1)) in
          let old : (old : Reading) × (slice_get mo.devices d ≡ Some old) = get_some mo.devices d (omega (arith, get_within set.app.devices d x dev, t.size.devices)) in
          let rs : r ≡ record { value = v; fresh = true } = some_inj r (record { value = v; fresh = true })
          (sym rj ∙ subst (λ i. slice_get (slice_set mo.devices d (record { value = v; fresh = true })) i ≡ Some
          (record { value = v; fresh = true })) (sym (ap (λ i. device_number set.app x.node i) same ∙ number_d))
          (get_same mo.devices d (record { value = v; fresh = true }) old.0 old.1)) in
          record { value = ap (λ (z : Reading). z.value) rs ∙ sym (ap (λ (z : Window). z.value) ys); fresh = ap (λ (z : Reading). z.fresh) rs ∙ sym (ap (λ (z : Window). z.fresh) ys) }
      | inr ne ↦
          let oldy = sym (sensed_other s.devices k v j ne) ∙ yj in
          let apart : device_number set.app x.node j ≢ d = λ e. ne (increasing x.node 0 set.app.devices j k d (number_of j y oldy e) place_d) in
          t.devices x.node j s y r here oldy (sym (get_other mo.devices d (device_number set.app x.node j) (record { value = v; fresh = true }) apart) ∙ rj)
    ];
    devices_else = λ j i z y ne zj yi.
        let bj : (b : ℕ) × (slice_get mo.boots j ≡ Some b) = get_some mo.boots j (omega (arith, get_within w.nodes j z zj, t.size.nodes, t.size.boots)) in
        let dd = device_here set j i z.devices y sound (t.nodes j z bj.0 zj bj.1).windows yi in
        get_other mo.devices d (device_number set.app j i) (record { value = v; fresh = true }) (λ e.
        ne (sym dd.2 ∙ ap (λ (g : AppDevice). g.node) (some_inj dd.0 x (sym dd.1 ∙ subst (λ g. slice_get set.app.devices g ≡ Some x) (sym e) dev))));
    modules_here = λ m q site z pm on_node sm zm. same_module m q site z
        (subst (λ j. ModuleTied set j m q site s z mo.sent) on_node
        (t.modules m q site s z pm sm (subst (λ j. slice_get w.nodes j ≡ Some s) (sym on_node) here) zm));
    modules_else = λ m q site z y pm ne sm zm ym. t.modules m q site z y pm sm zm ym;
    standing = λ m z zm. (z, zm, refl, refl);
    known = λ e h. known_devices set.app mo mo2.devices e.maker e (t.ledger e h);
    sane = record { small = t.sane.small; timely = t.sane.timely; unsent = t.sane.unsent };
  })
    where
      number_of : (j : ℕ) (y : Window) → slice_get s.devices j ≡ Some y → device_number set.app x.node j ≡ d → slice_get (devices_at x.node 0 set.app.devices) j ≡ Some d
      number_of j y e same =
          let lt2 : j < length (devices_at x.node 0 set.app.devices) = omega (
            arith,
            get_within s.devices j y e,
            shapes_long s.devices,
            ap length node_d.windows,
            windows_long x.node 0 set.app.devices set.places sound.places,
          ) in
          let g : (g : ℕ) × (slice_get (devices_at x.node 0 set.app.devices) j ≡ Some g) = get_some (devices_at x.node 0 set.app.devices) j lt2 in
          g.1 ∙ ap Some (sym (index_get (devices_at x.node 0 set.app.devices) j g.0 g.1) ∙ same)

  sense_step : step set.app mo (item.Sense d v) ≡ Some mo2
  sense_step = rw (dev, sensor) refl

  sense_fares : Fares (judge set.app mo (item.Sense d v ∷ [])) (Tied set (with_node w x.node s2 w.ledger w.steps))
  sense_fares = subst (λ (o : Option Model). Fares (judge_on o (λ z. Going z)) (Tied set (with_node w x.node s2 w.ledger w.steps))) (sym sense_step) sense_tied

pub sense_keeps : (set : Setting) → IsSoundSetting set → (w : World) (d v : ℕ) (x : AppDevice) (s : State)
    → slice_get set.app.devices d ≡ Some x → is_sensor x.kind ≡ true → v < 32768 → slice_get w.nodes x.node ≡ Some s
    → Keeps set w (done_on w x.node (item.Sense d v ∷ []) (sense_on s (place_at set x.node d) v))
sense_keeps set sound w d v x s dev sensor lt here mo t = by (busy s) refl
  where
    by : (o : Option Refused) → busy s ≡ o → (let a = done_on w x.node (item.Sense d v ∷ [])
        (unless o s (record { state = record s { devices = with_sample s.devices (place_at set x.node d) v }; shown = tt })) in
        Fares (judge set.app mo a.items) (Tied set a.world))
    by None e = sense_fares set sound w mo d v x s dev sensor lt t here (busy_idle s e)
    by (Some why) e = refused_fares set x.node why mo (Tied set (with_node w x.node s w.ledger w.steps)) (same_tied set w mo x.node s t here)
