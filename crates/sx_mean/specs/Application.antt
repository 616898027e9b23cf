-- The application that modules make together, and what counts in it.
use Rattle.std.specs.Prelude.{ℕ, ◌-◌, if◌then◌else◌, Bool, true, false, ◌&&◌, List, [], ◌∷◌, Option}
use Rattle.std.specs.Prelude.{Some, None, ◌==◌, nat_lt, count_by}
use Rattle.std.specs.List.{list_any}
use Rattle.sx_lang.specs.declared.tree.Decl.{Decl}
use Rattle.sx_lang.specs.declared.tree.Decl.TheVariants.{Device}
use Rattle.sx_lang.specs.declared.tree.DeviceKind.{DeviceKind}
use Rattle.sx_lang.specs.declared.tree.DeviceKind.TheVariants.{Sensor, Actuator}
use Rattle.sx_lang.specs.Tree.{Block, ModuleTree}
use Rattle.sx_check.specs.Bounds.{block_sends_by}
use Rattle.sx_mean.specs.declared.apps.AppDevice.{AppDevice}
use Rattle.sx_mean.specs.declared.apps.Link.{Link}
use Rattle.sx_mean.specs.Places.{output_number}

-- a module at its node, and the device that it drives by its index among the application's devices
pub record PartTree : Type 0 where
  pub node : ℕ
  pub device : Option ℕ
  pub tree : ModuleTree

-- modules that are connected, without addresses or keys
pub record AppTree : Type 0 where
  pub nodes : ℕ
  pub devices : List AppDevice
  pub parts : List PartTree
  pub links : List Link

-- the kind of the device that a module declares first, none where it declares none
abbrev pub declared_kind : List Decl → Option DeviceKind
declared_kind [] = None
declared_kind (Device kind ∷ ds) = Some kind
declared_kind (d ∷ ds) = declared_kind ds

-- the kind is a sensor's
abbrev pub is_sensor : DeviceKind → Bool
is_sensor Sensor = true
is_sensor Actuator = false

-- two kinds are equal
abbrev pub same_kind : DeviceKind → DeviceKind → Bool
same_kind Sensor Sensor = true
same_kind Actuator Actuator = true
same_kind _ _ = false

-- the device of a place among the devices is at this node, and of this kind
abbrev pub is_at : List AppDevice → ℕ → ℕ → DeviceKind → Bool
is_at [] d node kind = false
is_at (e ∷ es) d node kind =
    if d == 0 then (e.node == node) && same_kind e.kind kind else is_at es (d - 1) node kind

-- a part has a device exactly where its module declares one, at its node and of the declared kind
abbrev pub is_driven : List AppDevice → ℕ → Option ℕ → Option DeviceKind → Bool
is_driven es node None None = true
is_driven es node (Some d) (Some kind) = is_at es d node kind
is_driven es node _ _ = false

abbrev pub block_packets : (ℕ → ℕ) → List Decl → Block → ℕ
block_packets links ds b = block_sends_by (λ x. links (output_number ds x)) b

-- a connection comes from this output of a part
abbrev pub leaves : ℕ → ℕ → Link → Bool
leaves p output l = (l.from == p) && (l.output == output)

-- the connections from an output of the part of this index
abbrev pub links_from : List Link → ℕ → ℕ → ℕ
links_from ls p output = count_by (leaves p output) ls

-- the ends of connections that the part of this index holds
abbrev pub ends_from : List Link → ℕ → ℕ
ends_from ls p = count_by (λ l. l.from == p) ls

-- how many connections go to a part
abbrev pub ends_to : List Link → ℕ → ℕ
ends_to ls p = count_by (λ l. l.to == p) ls

-- a handler of the part can make more than 16 packets
abbrev pub sends_too_much : List Link → ℕ → ModuleTree → Bool
sends_too_much ls p m =
    list_any (λ h. nat_lt 16 (block_packets (links_from ls p) m.decls h.body)) m.handlers
