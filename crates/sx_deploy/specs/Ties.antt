-- Rule 9: modules fit their devices, connections their modules, and nothing is overloaded.
use Rattle.std.specs.Prelude.{ℕ, ◌+◌, Bool, true, false, not, nat_lt, min, if◌then◌else◌, List, []}
use Rattle.std.specs.Prelude.{◌∷◌, length, slice_get, Option, Some, None, Result}
use Rattle.std.specs.Prelude.{Ok}
use Rattle.std.specs.List.{cons_option}
use Rattle.sx_lang.specs.declared.tree.Decl.{Decl}
use Rattle.sx_lang.specs.declared.tree.Decl.TheVariants as decl
use Rattle.sx_mean.specs.Application.{declared_kind, is_driven, ends_from, ends_to, sends_too_much}
use Rattle.sx_mean.specs.declared.apps.AppDevice.{AppDevice}
use Rattle.sx_mean.specs.declared.apps.Link.{Link}
use Rattle.sx_index.specs.Places.{place_of}
use Rattle.sx_entries.specs.Fault.{◌>>=◌, passes}
use Rattle.sx_entries.specs.Stage.{in_entry, made_after}
use Rattle.sx_entries.specs.Lines.{entries}
use Rattle.sx_entries.specs.declared.fault.Sort.TheVariants.{Module, Connection}
use Rattle.sx_entries.specs.declared.fault.DeployFault.{DeployFault}
use Rattle.sx_entries.specs.Arrays.{◌>>?◌}
use Rattle.sx_entries.specs.Entries.{place_among}
use Rattle.sx_entries.specs.declared.entries.DeviceEntry.{DeviceEntry}
use Rattle.sx_entries.specs.declared.entries.LinkEntry.{LinkEntry}
use Rattle.sx_entries.specs.declared.rows.EndRow.{EndRow}
use Rattle.sx_entries.specs.declared.entries.Start.{Start}
use Rattle.sx_entries.specs.declared.entries.Start.TheVariants as start
use Rattle.sx_deploy.specs.Sources.{Coded}

-- a number as a byte: it fits, by rules 6 and 8
abbrev pub byte : ℕ → ℕ
byte n = min n 255

-- a device as the application has it
abbrev pub app_device : DeviceEntry → AppDevice
app_device d = record { node = byte d.node; kind = d.kind }

-- the device that a module drives
abbrev pub start_device : Start → Option ℕ
start_device (start.At at) = None
start_device (start.Device n) = Some (byte n)

-- First: a module and its device differ in node, its declaration isn't its device's kind, or only
-- the declaration or only the device is there.
abbrev pub is_mismatched : List AppDevice → List Coded → Coded → Bool
is_mismatched devices earlier m =
    not (is_driven devices (byte m.node) (start_device m.start) (declared_kind m.tree.decls))

-- the name of the output that is declared, or of the input
abbrev pub port_in : Bool → Decl → Option (List ℕ)
port_in output (decl.Device kind) = None
port_in output (decl.Input x) = if output then None else Some x
port_in output (decl.Output x) = if output then Some x else None
port_in output (decl.Var x n) = None
port_in output (decl.Array x n) = None

-- the names of a module's outputs, or of its inputs, in order of declaration
abbrev pub port_names : Bool → List Decl → List (List ℕ)
port_names output [] = []
port_names output (d ∷ ds) = cons_option (port_in output d) (port_names output ds)

-- the number of the output or the input of this name
abbrev pub port_place : Bool → List Decl → Option (List ℕ) → Option ℕ
port_place output ds None = None
port_place output ds (Some name) = place_of (port_names output ds) name

-- a module and one of its ports, by their numbers
pub record Port : Type 0 where
  pub owner : ℕ
  pub port : ℕ

-- Second: a connection's end names no output, or no input.
abbrev pub port_of : Bool → List Coded → EndRow → Option Port
port_of output modules row =
    place_among (λ m. m.name) modules row.owner >>? (λ owner.
    slice_get modules owner >>? (λ m.
    port_place output m.tree.decls row.port >>? (λ port.
    Some (record { owner = byte owner; port = byte port }))))

-- a connection between an output and an input that are there
abbrev pub link_of : List Coded → LinkEntry → Option Link
link_of modules row =
    port_of true modules row.from >>? (λ from.
    port_of false modules row.to >>? (λ to.
    Some (record { from = from.owner; output = from.port; to = to.owner; input = to.port })))

-- rule 9 on the next connection
abbrev pub tied_link : List Coded → List Link → LinkEntry → Result Link DeployFault
tied_link modules done row = in_entry 9 Connection (length done) (link_of modules row)

-- Third: a module has more than 16 ends.
abbrev pub has_many_ends : List Link → List Coded → Coded → Bool
has_many_ends links earlier m =
    nat_lt 16 (ends_from links (length earlier) + ends_to links (length earlier))

-- Fourth: a handler can make more than 16 packets.
abbrev pub makes_many_packets : List Link → List Coded → Coded → Bool
makes_many_packets links earlier m = sends_too_much links (length earlier) m.tree

-- the connections, by the indices of modules and ports
abbrev pub links_of : List AppDevice → List Coded → List LinkEntry → Result (List Link) DeployFault
links_of devices modules rows = do
  first ← passes (entries 9 Module (is_mismatched devices) modules)
  links ← made_after (tied_link modules) [] rows
  third ← passes (entries 9 Module (has_many_ends links) modules)
  fourth ← passes (entries 9 Module (makes_many_packets links) modules)
  Ok links
