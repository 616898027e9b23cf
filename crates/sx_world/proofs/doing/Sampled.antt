-- A sensor's line: its window among those of its node, and what it does.
use Rattle.std.proofs.Common.{◌≡◌, ℕ, zero, suc, ◌<◌, ◌≤◌, Bool, true, List, [], ◌∷◌, ◌++◌, length, map, Option, Some, None, IfSome, Result, refl, sym, ◌∙◌, ap, subst, arith}
use Rattle.std.specs.Prelude.{slice_get}
use Rattle.std.proofs.lemmas.List.{append-nil}
use Rattle.std.proofs.lemmas.Option.{slice_get_past}
use Rattle.lemmas.proofs.Lists.{get_some}
use Rattle.sx_lang.specs.declared.tree.DeviceKind.{DeviceKind}
use Rattle.sx_lang.specs.declared.tree.DeviceKind.TheVariants as declared_kind
use Rattle.sx_mean.specs.declared.apps.AppDevice.{AppDevice}
use Rattle.sx_bus.specs.declared.devices.Kind.{Kind}
use Rattle.sx_bus.specs.declared.devices.Kind.TheVariants.{Sensor}
use Rattle.sx_bus.specs.declared.devices.Window.{Window}
use Rattle.sx_tag.specs.Mac.{Mac}
use Rattle.sx_trace.specs.declared.items.Item.{Item}
use Rattle.sx_trace.specs.declared.items.Item.TheVariants.{Sense}
use Rattle.spec_machine.specs.Acts.{sense}
use Rattle.spec_machine.specs.State.{State}
use Rattle.spec_machine.specs.NodeLaws.{shapes}
use Rattle.sx_mean.specs.Application.{is_sensor}
use Rattle.sx_deploy.specs.Deployment.{Deployed}
use Rattle.sx_deploy.specs.Law.{IsSoundDeployment}
use Rattle.spec_run.specs.Setting.{Site, Setting, kind_of, windows_at}
use Rattle.spec_run.specs.State.{Acted}
use Rattle.spec_run.specs.Acts.{at_node, done_on}
use Rattle.sx_world.specs.Held.{Running, Shows, Did, DoesAct}
use Rattle.spec_run.specs.Accepted.{setting}
use Rattle.spec_run.specs.Run.{place_at, sense_at}
use Rattle.spec_run.proofs.tie.Lists.{get_within, some_inj}
use Rattle.spec_run.proofs.acts.Sensing.{place_is}
use Rattle.spec_run.proofs.steps.Steps.{increasing}
use Rattle.spec_run.proofs.accepted.Windows.{own_device, shape_window}

-- a device that the names call a sensor is one
sensor_kind : (ds : List AppDevice) (d : ℕ) (x : AppDevice) → slice_get (map (λ (x : AppDevice). is_sensor x.kind) ds) d ≡ Some true → slice_get ds d ≡ Some x → kind_of x.kind ≡ Sensor
sensor_kind [] d x e here = absurd cc
sensor_kind (y ∷ ds) zero x e here = subst (λ (z : AppDevice). kind_of z.kind ≡ Sensor) (some_inj y x here) (by_kind y.kind (some_inj _ true e))
  where
    by_kind : (k : DeviceKind) → is_sensor k ≡ true → kind_of k ≡ Sensor
    by_kind declared_kind.Sensor h = refl
    by_kind declared_kind.Actuator h = absurd cc
sensor_kind (y ∷ ds) (suc d) x e here = sensor_kind ds d x e here

-- it is its node's window at its place
sensor_window : (mac : Mac) (d : Deployed) (sites : List Site) (number : ℕ) (x : AppDevice) (windows : List Window) → IsSoundDeployment d
    → slice_get d.names.sensors number ≡ Some true → slice_get d.app.devices number ≡ Some x → shapes windows ≡ windows_at x.node d.app.devices d.places
    → (w : Window) × (slice_get windows (place_at (setting mac d sites) x.node number) ≡ Some w) × (w.kind ≡ Sensor)
sensor_window mac d sites number x windows sound named here same =
    let k = place_at (setting mac d sites) x.node number in
    let within : number < length d.places = omega (arith, get_within d.app.devices number x here, sound.devices, sound.places) in
    let at = get_some d.places number within in
    let own = own_device x.node 0 number d.app.devices d.places x at.0 here refl at.1 in
    let one : own.0 ≡ k =
    increasing x.node 0 d.app.devices own.0 k number (own.1 ∙ ap (λ (j : ℕ). Some j) (omega arith)) (place_is (setting mac d sites) x.node number x here refl) in
    let shape : slice_get (shapes windows) k ≡ Some (at.0, kind_of x.kind) =
    ap (λ (ws : List (ℕ × Kind)). slice_get ws k) same ∙ subst (λ i. slice_get (windows_at x.node d.app.devices d.places) i ≡ Some (at.0, kind_of x.kind)) one own.2 in
    let w = shape_window windows k (at.0, kind_of x.kind) shape in
    (w.0, w.1, w.3 ∙ sensor_kind d.app.devices number x (ap (λ (s : List Bool). slice_get s number) (sym sound.sensors) ∙ named) here)

-- so the node has it, and it is a sensor
pub sensor_there : (mac : Mac) (d : Deployed) (sites : List Site) (number k : ℕ) (x : AppDevice) (windows : List Window) → IsSoundDeployment d
    → slice_get d.names.sensors number ≡ Some true → slice_get d.app.devices number ≡ Some x → shapes windows ≡ windows_at x.node d.app.devices d.places
    → k ≡ place_at (setting mac d sites) x.node number → (k < length windows) × IfSome (slice_get windows k) (λ w. w.kind ≡ Sensor)
sensor_there mac d sites number k x windows sound named here same place =
    let w = sensor_window mac d sites number x windows sound named here same in
    let found : slice_get windows k ≡ Some w.0 = ap (λ j. slice_get windows j) place ∙ w.1 in
    (get_within windows k w.0 found, subst (λ (o : Option Window). IfSome o (λ w. w.kind ≡ Sensor)) (sym found) w.2)

-- a sample that a node takes
pub sense_does : {X E : Type 0} (set : Setting) (r : Result X E) (old new : Running) (before after : List Item) (d v k : ℕ) (x : AppDevice)
    → slice_get set.app.devices d ≡ Some x → k ≡ place_at set x.node d
    → DoesAct set r old new before after (λ w. at_node w (λ s. done_on w x.node (Sense d v ∷ []) (sense s k v)) (slice_get w.nodes x.node))
    → DoesAct set r old new before after (λ w. sense_at set w d v (slice_get set.app.devices d))
sense_does set r old new before after d v k x found same does =
    subst (λ (o : Option AppDevice). DoesAct set r old new before after (λ w. sense_at set w d v o)) (sym found)
    (subst (λ j. DoesAct set r old new before after (λ w. at_node w (λ s. done_on w x.node (Sense d v ∷ []) (sense s j v)) (slice_get w.nodes x.node))) same does)

-- the device is at none of the nodes
pub sense_past : (set : Setting) (old : Running) (before : List Item) (d v : ℕ) (x : AppDevice) → slice_get set.app.devices d ≡ Some x
    → length old.nodes ≤ x.node → Did set old old before before (λ w. sense_at set w d v (slice_get set.app.devices d))
sense_past set old before d v x found past = λ w h.
    let act : State → Acted = λ s. done_on w x.node (Sense d v ∷ []) (sense s (place_at set x.node d) v) in
    let none : slice_get w.nodes x.node ≡ None = slice_get_past w.nodes x.node (subst (λ (ns : List State). length ns ≤ x.node) h.nodes past) in
    subst (λ (o : Option AppDevice). Shows set old (sense_at set w d v o).world × (before ≡ before ++ (sense_at set w d v o).items)) (sym found)
    (subst (λ (o : Option State). Shows set old (at_node w act o).world × (before ≡ before ++ (at_node w act o).items)) (sym none) (h, sym (append-nil before)))
