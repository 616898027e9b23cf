-- What the command `describe` writes of a deployment: a line for each thing that it has.
use Rattle.std.specs.Prelude.{ℕ, ◌+◌, Bool, List, [], ◌∷◌, ◌++◌, codes, decimal, length}
use Rattle.std.specs.Prelude.{Some, option_map, slice_get, unwrap_or}
use Rattle.std.specs.List.{position_from}
use Rattle.command_promise.specs.declared.status.Status.{Status}
use Rattle.command_promise.specs.Told.{CommandAt}
use Rattle.sx_lang.specs.declared.sides.Side.{Side}
use Rattle.sx_lang.specs.declared.sides.Side.TheVariants.{From, To}
use Rattle.sx_lang.specs.declared.tree.Decl.{Decl}
use Rattle.sx_lang.specs.declared.tree.Decl.TheVariants as decl
use Rattle.sx_lang.specs.declared.tree.DeviceKind.{DeviceKind}
use Rattle.sx_lang.specs.declared.tree.DeviceKind.TheVariants.{Sensor, Actuator}
use Rattle.sx_lang.specs.Sizes.{module_weight, module_cost}
use Rattle.sx_lang.specs.Tree.{ModuleTree}
use Rattle.sx_mean.specs.declared.apps.AppDevice.{AppDevice}
use Rattle.sx_mean.specs.declared.apps.Link.{Link}
use Rattle.sx_mean.specs.declared.events.End.{End}
use Rattle.sx_mean.specs.Application.{PartTree}
use Rattle.sx_mean.specs.Ends.{ends_of, same_side}
use Rattle.sx_mean.specs.Offsets.{cell_at, end_at}
use Rattle.sx_mean.specs.Places.{place}
use Rattle.sx_mean.specs.Validity.{same_device}
use Rattle.sx_rules.specs.declared.section.Layout.{Layout}
use Rattle.sx_trace.specs.Items.{name_at, name_or, side_word}
use Rattle.sx_deploy.specs.Deployment.{Deployed}
use Rattle.sx_deploy.specs.Ties.{port_names}
use Rattle.command_text.specs.Address.{address}
use Rattle.command_text.specs.Output.{line}
use Rattle.command_report.specs.Output.{Report}
use Rattle.command_report.specs.Promise.{ReportPromise}

-- the lines of entries, each of which has its index, from this one on
abbrev pub each_from : {A : Type 0} → (ℕ → A → List ℕ) → ℕ → List A → List ℕ
each_from lines n [] = []
each_from lines n (x ∷ xs) = lines n x ++ each_from lines (n + 1) xs

-- a node
unfoldable pub node_line : List ℕ → List ℕ
node_line name = line (codes "node " ++ name)

-- the word of a device's kind
abbrev pub kind_word : DeviceKind → List ℕ
kind_word Sensor = codes "sensor"
kind_word Actuator = codes "actuator"

-- the number at an index of its list
abbrev pub number_at : List ℕ → ℕ → ℕ
number_at numbers i = unwrap_or (slice_get numbers i) 0

-- the module that drives a device, `-` if none does
abbrev pub driver_word : Deployed → ℕ → List ℕ
driver_word d n = name_or (codes "-") d.names.modules
    (position_from (λ (q : PartTree). same_device (Some n) q.device) 0 d.app.parts)

-- a device: its node, its kind, the address of its word, and its driver
unfoldable pub device_line : Deployed → ℕ → AppDevice → List ℕ
device_line d n x =
    line (codes "device " ++ name_at d.names.devices n ++ codes " node "
    ++ name_at d.names.nodes x.node ++ codes " kind " ++ kind_word x.kind ++ codes " at "
    ++ address (number_at d.places n) ++ codes " driver " ++ driver_word d n)

-- the bounds of a section: its first address, and the one after its last byte
unfoldable pub bounds_words : ℕ → ℕ → List ℕ
bounds_words from to = codes " " ++ address from ++ codes " " ++ address to

-- the sizes of a module that has this many ends
unfoldable pub sizes_words : ModuleTree → ℕ → List ℕ
sizes_words m ends =
    codes " weight " ++ decimal (module_weight m ends) ++ codes " cost " ++ decimal (module_cost m)

-- a module with this many ends: its node, its provider, its sections and its sizes
unfoldable pub module_line : Deployed → ℕ → PartTree → Layout → ℕ → List ℕ
module_line d p q l ends =
    line (codes "module " ++ name_at d.names.modules p ++ codes " node "
    ++ name_at d.names.nodes q.node ++ codes " provider " ++ decimal (number_at d.providers p)
    ++ codes " text" ++ bounds_words l.pub_from l.pub_to
    ++ codes " data" ++ bounds_words l.priv_from l.priv_to ++ sizes_words q.tree ends)

-- the address of a cell, by the name of its variable or array, if the module has this many ends
abbrev pub cell_place : Layout → ℕ → List Decl → List ℕ → ℕ
cell_place l ends ds x = l.priv_from + cell_at ends (place ds x)

-- what a module declares: its ports, its variables and arrays with the address of their first cell
unfoldable pub declaration_line : (List ℕ → ℕ) → List ℕ → Decl → List ℕ
declaration_line cell owner (decl.Device kind) = []
declaration_line cell owner (decl.Input x) = line (codes "input " ++ owner ++ codes " " ++ x)
declaration_line cell owner (decl.Output x) = line (codes "output " ++ owner ++ codes " " ++ x)
declaration_line cell owner (decl.Var x n) =
    line (codes "var " ++ owner ++ codes " " ++ x ++ codes " at " ++ address (cell x)
    ++ codes " first " ++ decimal n)
declaration_line cell owner (decl.Array x n) =
    line (codes "array " ++ owner ++ codes " " ++ x ++ codes " at " ++ address (cell x)
    ++ codes " length " ++ decimal n)

-- what the part of this index declares
abbrev pub declared_by : List PartTree → ℕ → List Decl
declared_by parts p = unwrap_or (option_map (λ (q : PartTree). q.tree.decls) (slice_get parts p)) []

-- the name of a port of a part: of an output if it is the sending side, else of an input
unfoldable pub port_word : List PartTree → Side → ℕ → ℕ → List ℕ
port_word parts side p port = name_at (port_names (same_side From side) (declared_by parts p)) port

-- the part at the other end of a connection
abbrev pub peer_of : Side → Link → ℕ
peer_of From l = l.to
peer_of To l = l.from

-- the name of the module at the other end
unfoldable pub peer_word : List Link → List (List ℕ) → End → List ℕ
peer_word links modules e = name_or [] modules (option_map (peer_of e.side) (slice_get links e.link))

-- the k-th end of a module: its connection and side, its port, the module at the other end, and the
-- address of its slot
unfoldable pub slot_line : Deployed → ℕ → Layout → ℕ → End → List ℕ
slot_line d p l k e =
    line (codes "slot " ++ name_at d.names.modules p ++ codes " " ++ name_at d.names.links e.link
    ++ codes " " ++ side_word e.side ++ codes " port " ++ port_word d.app.parts e.side p e.port
    ++ codes " peer " ++ peer_word d.app.links d.names.modules e
    ++ codes " at " ++ address (l.priv_from + end_at k))

-- a module, what it declares, and its ends
abbrev pub part_lines : Deployed → ℕ → PartTree → Layout → List ℕ
part_lines d p q l =
    let ends = ends_of d.app p in
    let cell = cell_place l (length ends) q.tree.decls in
    module_line d p q l (length ends)
    ++ each_from (λ i. declaration_line cell (name_at d.names.modules p)) 0 q.tree.decls
    ++ each_from (slot_line d p l) 0 ends

-- all modules, from this index on
abbrev pub modules_from : Deployed → ℕ → List PartTree → List Layout → List ℕ
modules_from d p (q ∷ qs) (l ∷ ls) = part_lines d p q l ++ modules_from d (p + 1) qs ls
modules_from d p [] ls = []
modules_from d p (q ∷ qs) [] = []

-- a connection: its name, the sending module and output, the receiving module and input
unfoldable pub connection_line : List ℕ → List ℕ → List ℕ → List ℕ → List ℕ → List ℕ
connection_line name sender output receiver input =
    line (codes "connection " ++ name ++ codes " from " ++ sender ++ codes "." ++ output
    ++ codes " to " ++ receiver ++ codes "." ++ input)

-- the line of a connection
abbrev pub link_line : Deployed → ℕ → Link → List ℕ
link_line d n l =
    connection_line (name_at d.names.links n)
    (name_at d.names.modules l.from) (port_word d.app.parts From l.from l.output)
    (name_at d.names.modules l.to) (port_word d.app.parts To l.to l.input)

-- nodes, devices, modules and connections
abbrev pub describe_report : Report
describe_report d =
    each_from (λ n. node_line) 0 d.names.nodes
    ++ each_from (device_line d) 0 d.app.devices
    ++ modules_from d 0 d.app.parts d.layouts
    ++ each_from (link_line d) 0 d.app.links

-- The command `describe`.
abbrev pub DescribePromise : Bool → Bool → CommandAt → CommandAt → Status → Type 0
DescribePromise tells to_tell m0 m1 status = ReportPromise describe_report tells to_tell m0 m1 status
