-- Rule 5: names are in form, new in their array, and name an entry where they should.
use Rattle.std.specs.Prelude.{ℕ, Bool, if◌then◌else◌, List, [], length, position, Option, Some}
use Rattle.std.specs.Prelude.{None, option_map, Result, Ok}
use Rattle.std.specs.List.{list_any}
use Rattle.std.specs.Str.{bytes_eq}
use Rattle.sx_entries.specs.Arrays.{RowLists, ◌>>?◌}
use Rattle.sx_entries.specs.Fault.{◌>>=◌}
use Rattle.sx_trace.specs.Names.{deployer}
use Rattle.sx_entries.specs.Stage.{in_entry, made_after}
use Rattle.sx_entries.specs.declared.fault.Sort.TheVariants.{Node, Device, Module, Connection}
use Rattle.sx_entries.specs.declared.fault.DeployFault.{DeployFault}
use Rattle.sx_entries.specs.declared.rows.NodeRow.{NodeRow}
use Rattle.sx_entries.specs.declared.rows.DeviceRow.{DeviceRow}
use Rattle.sx_entries.specs.declared.rows.ModuleRow.{ModuleRow}
use Rattle.sx_entries.specs.declared.rows.LinkRow.{LinkRow}
use Rattle.sx_entries.specs.declared.rows.StartRow.{StartRow}
use Rattle.sx_entries.specs.declared.rows.StartRow.TheVariants as row_start
use Rattle.sx_entries.specs.declared.entries.NodeEntry.{NodeEntry}
use Rattle.sx_entries.specs.declared.entries.DeviceEntry.{DeviceEntry}
use Rattle.sx_entries.specs.declared.entries.ModuleEntry.{ModuleEntry}
use Rattle.sx_entries.specs.declared.entries.LinkEntry.{LinkEntry}
use Rattle.sx_entries.specs.declared.entries.Start.{Start}
use Rattle.sx_entries.specs.declared.entries.Start.TheVariants as start

-- the entries, each under its name
pub record EntryLists : Type 0 where
  pub secret : List ℕ
  pub nodes : List NodeEntry
  pub devices : List DeviceEntry
  pub modules : List ModuleEntry
  pub links : List LinkEntry

module _ {B : Type 0} (name_of : B → List ℕ) where
  -- an entry has the name
  abbrev pub has_entry : List B → List ℕ → Bool
  has_entry entries name = list_any (λ e. bytes_eq (name_of e) name) entries

  -- the name, where it is in form and none of those before has it
  abbrev pub fresh : List B → Option (List ℕ) → Option (List ℕ)
  fresh done None = None
  fresh done (Some name) = if has_entry done name then None else Some name

  -- the place of the entry with that name
  abbrev pub place_among : List B → Option (List ℕ) → Option ℕ
  place_among entries None = None
  place_among entries (Some name) = position (λ e. bytes_eq (name_of e) name) entries

-- a node under a new name
abbrev pub node_named : List NodeEntry → NodeRow → Option NodeEntry
node_named done row =
    fresh (λ e. e.name) done row.name >>? (λ name. Some (record { name = name; key = row.key }))

-- a device under a new name, at a node that is there
abbrev pub device_named : List NodeEntry → List DeviceEntry → DeviceRow → Option DeviceEntry
device_named nodes done row =
    fresh (λ e. e.name) done row.name >>? (λ name.
    place_among (λ e. e.name) nodes row.node >>? (λ node.
    Some (record { name = name; node = node; kind = row.kind; at = row.at })))

-- where a private section begins, with the device found by its name
abbrev pub start_named : List DeviceEntry → StartRow → Option Start
start_named devices (row_start.At at) = Some (start.At at)
start_named devices (row_start.Device name) =
    option_map start.Device (place_among (λ e. e.name) devices name)

-- no module is named `deployer`
abbrev pub not_reserved : List ℕ → Option (List ℕ)
not_reserved name = if bytes_eq name deployer then None else Some name

-- a module under a new name, at a node that is there, with its device
abbrev pub module_named : List NodeEntry → List DeviceEntry → List ModuleEntry → ModuleRow
    → Option ModuleEntry
module_named nodes devices done row =
    fresh (λ e. e.name) done row.name >>? (λ new.
    not_reserved new >>? (λ name.
    place_among (λ e. e.name) nodes row.node >>? (λ node.
    start_named devices row.start >>? (λ start.
    Some (record {
      name = name;
      node = node;
      provider = row.provider;
      text = row.text;
      start =
          start;
      source = row.source;
    })))))

-- a connection under a new name; where it goes is rule 9's
abbrev pub link_named : List LinkEntry → LinkRow → Option LinkEntry
link_named done row = fresh (λ e. e.name) done row.name >>?
    (λ name. Some (record { name = name; from = row.from; to = row.to }))

-- rule 5 on the next node
abbrev pub node_made : List NodeEntry → NodeRow → Result NodeEntry DeployFault
node_made done row = in_entry 5 Node (length done) (node_named done row)

-- rule 5 on the next device
abbrev pub device_made : List NodeEntry → List DeviceEntry → DeviceRow
    → Result DeviceEntry DeployFault
device_made nodes done row = in_entry 5 Device (length done) (device_named nodes done row)

-- rule 5 on the next module
abbrev pub module_made : List NodeEntry → List DeviceEntry → List ModuleEntry → ModuleRow
    → Result ModuleEntry DeployFault
module_made nodes devices done row =
    in_entry 5 Module (length done) (module_named nodes devices done row)

-- rule 5 on the next connection
abbrev pub link_made : List LinkEntry → LinkRow → Result LinkEntry DeployFault
link_made done row = in_entry 5 Connection (length done) (link_named done row)

-- rule 5: the entries, the arrays in their order
abbrev pub entries_of : RowLists → Result EntryLists DeployFault
entries_of d = do
  nodes ← made_after node_made [] d.nodes
  devices ← made_after (device_made nodes) [] d.devices
  modules ← made_after (module_made nodes devices) [] d.modules
  links ← made_after link_made [] d.links
  Ok (record {
    secret = d.secret;
    nodes = nodes;
    devices = devices;
    modules = modules;
    links =
        links;
  })
