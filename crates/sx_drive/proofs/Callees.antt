-- The modules of a deployment, where contracts see them.
use Rattle.std.proofs.Common.{◌≡◌, ℕ, ◌<◌, ◌≤◌, List, length, get_or, Option, Some, None, refl, sym, ap, ◌∙◌, arith}
use Rattle.std.specs.Prelude.{slice_get, option_map, option_and_then}
use Rattle.std.proofs.lemmas.Option.{slice_get-map, slice_get_read, slice_get_past}
use Rattle.sx_mean.specs.declared.apps.Part.{Part}
use Rattle.sx_mean.specs.declared.apps.Link.{Link}
use Rattle.sx_mean.specs.Application.{AppTree, PartTree}
use Rattle.sx_mean.specs.View.{part_as}
use Rattle.sx_deploy.specs.Law.{IsSoundDeployment}
use Rattle.sx_deploy.specs.SeenDeployment.{deployed_as}
use Rattle.sx_deploy.specs.declared.deployment.Deployment.{Deployment}
use Rattle.spec_run.proofs.tie.Lists.{get_within}
use Rattle.sx_drive.specs.Honest.{Callee, callee_at, target_of, receiver_of, driver_of}
use Rattle.sx_drive.specs.Driving.{IsCallee, driver_at}

-- a part of a deployment as plain data
pub part_there : (d : Deployment) (m : ℕ) (p : Part) → slice_get d.app.parts.items m ≡ Some p → slice_get (deployed_as d).app.parts m ≡ Some (part_as p)
part_there d m p here = slice_get-map part_as d.app.parts.items m ∙ ap (option_map part_as) here

-- the m-th part is one of the modules, and its node one of the nodes
pub callee_there : (d : Deployment) (m : ℕ) (p : Part) → IsSoundDeployment (deployed_as d) → slice_get d.app.parts.items m ≡ Some p
    → IsCallee (deployed_as d) (record { part = m; node = p.node })
callee_there d m p sound here =
    let there = part_there d m p here in
    let within : m < length (deployed_as d).app.parts = get_within (deployed_as d).app.parts m (part_as p) there in
    let node : p.node < d.app.nodes = (sound.modules m (part_as p) there).node in
    let nodes : d.app.nodes ≡ length d.names.nodes = sound.nodes in
    let parts : length (deployed_as d).app.parts ≡ length d.names.modules = sound.parts in
    record { part = omega (arith, within, parts); node = omega (arith, node, nodes) }

-- there is no such module
pub none_there : (d : Deployment) (m : ℕ) → slice_get d.app.parts.items m ≡ None → None ≡ callee_at (deployed_as d).app m
none_there d m none =
    let there : slice_get (deployed_as d).app.parts m ≡ None = slice_get-map part_as d.app.parts.items m ∙ ap (option_map part_as) none in
    let at : PartTree → Callee = λ q. record { part = m; node = q.node } in
    sym (ap (option_map at) there)

-- what a slice lends
pub lent_there : {X : Type 0} (xs lent : List X) (i m : ℕ) (x : X) → lent ≡ xs → i ≡ m → i < length lent → x ≡ get_or lent i x → slice_get xs m ≡ Some x
lent_there xs lent i m x e same lt is =
    let here : slice_get lent i ≡ Some x = slice_get_read lent (length lent) i x refl lt is in
    ap (λ l. slice_get l m) (sym e) ∙ ap (λ k. slice_get lent k) (sym same) ∙ here

pub lent_none : {X : Type 0} (xs lent : List X) (i m : ℕ) → lent ≡ xs → i ≡ m → length lent ≤ i → slice_get xs m ≡ None
lent_none xs lent i m e same le =
    let here : slice_get lent i ≡ None = slice_get_past lent i le in
    ap (λ l. slice_get l m) (sym e) ∙ ap (λ k. slice_get lent k) (sym same) ∙ here

-- the module that a connection leads to
pub target_there : (app : AppTree) (k : ℕ) (l : Link) (o : Option Callee) → slice_get app.links k ≡ Some l → o ≡ callee_at app l.to → o ≡ target_of app k
target_there app k l o here is = is ∙ ap (option_and_then (λ (x : Link). callee_at app x.to)) (sym here)

pub no_target : (app : AppTree) (k : ℕ) → slice_get app.links k ≡ None → None ≡ target_of app k
no_target app k none = ap (option_and_then (λ (x : Link). callee_at app x.to)) (sym none)

-- the module that a packet is for
pub packet_there : (app : AppTree) (packet : List ℕ) (k : ℕ) (o : Option Callee) → slice_get packet 2 ≡ Some k → o ≡ target_of app k → o ≡ receiver_of app packet
packet_there app packet k o here is = is ∙ ap (option_and_then (target_of app)) (sym here)

pub no_packet : (app : AppTree) (packet : List ℕ) → slice_get packet 2 ≡ None → None ≡ receiver_of app packet
no_packet app packet none = ap (option_and_then (target_of app)) (sym none)

-- the module that drives a device
pub driver_there : (app : AppTree) (d m : ℕ) (o : Option Callee) → Some m ≡ driver_at app.parts d → o ≡ callee_at app m → o ≡ driver_of app d
driver_there app d m o here is = is ∙ ap (option_and_then (callee_at app)) here

pub no_driver : (app : AppTree) (d : ℕ) → None ≡ driver_at app.parts d → None ≡ driver_of app d
no_driver app d none = ap (option_and_then (callee_at app)) none
