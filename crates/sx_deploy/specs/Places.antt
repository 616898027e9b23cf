-- Rule 10: devices and sections have places of their own in memory.
use Rattle.std.specs.Prelude.{ℕ, ◌+◌, ◌%◌, ◌==◌, Bool, true, false, ◌&&◌, ◌||◌, not, nat_lt, nat_le}
use Rattle.std.specs.Prelude.{if◌then◌else◌, List, [], length, slice_get, Option, Some, None}
use Rattle.std.specs.Prelude.{Result}
use Rattle.std.specs.List.{list_any}
use Rattle.sx_lang.specs.Sizes.{module_weight, module_data_size}
use Rattle.sx_mean.specs.Application.{ends_from, ends_to}
use Rattle.sx_mean.specs.declared.apps.Link.{Link}
use Rattle.sx_rules.specs.declared.section.Layout.{Layout}
use Rattle.sx_entries.specs.Fault.{◌>>=◌, passes}
use Rattle.sx_entries.specs.Stage.{in_entry, made_after}
use Rattle.sx_entries.specs.Lines.{entries}
use Rattle.sx_entries.specs.declared.fault.Sort.TheVariants.{Device, Module}
use Rattle.sx_entries.specs.declared.fault.DeployFault.{DeployFault}
use Rattle.sx_entries.specs.declared.entries.DeviceEntry.{DeviceEntry}
use Rattle.sx_entries.specs.declared.entries.Start.{Start}
use Rattle.sx_entries.specs.declared.entries.Start.TheVariants as start
use Rattle.sx_deploy.specs.Sources.{Coded}
use Rattle.sx_deploy.specs.Ties.{byte}
use Rattle.sx_deploy.specs.declared.placing.Placement.{Placement}

-- First: a device's place is odd, is below 0x0200, is 0xFFE0 or above, or is taken on its node.

-- a device of the node has this address
abbrev pub is_taken : List DeviceEntry → ℕ → ℕ → Bool
is_taken devices node at = list_any (λ d. d.node == node && d.at == at) devices

-- a device's address is odd, below 0x0200, at 0xFFE0 or above, or another device's of its node
abbrev pub is_bad_place : List DeviceEntry → DeviceEntry → Bool
is_bad_place earlier d =
    ((d.at % 2 == 1 || nat_lt d.at 0x0200) || nat_le 0xFFE0 d.at) || is_taken earlier d.node d.at

-- the bytes from `from` up to but not including `to`
pub record Span : Type 0 where
  pub from : ℕ
  pub to : ℕ

-- this many bytes from an address on
abbrev pub span : ℕ → ℕ → Span
span from size = record { from = from; to = from + size }

-- a module's two sections, on its node, and whether the module drives a device
pub record ModuleSections : Type 0 where
  pub node : ℕ
  pub drives : Bool
  pub text : Span
  pub data_part : Span

-- the place of a device, 0 where there is none
abbrev pub device_place : Option DeviceEntry → ℕ
device_place None = 0
device_place (Some d) = d.at

-- a driver's private section starts at its device's place
abbrev pub start_of : List DeviceEntry → Start → ℕ
start_of devices (start.At at) = at
start_of devices (start.Device n) = device_place (slice_get devices n)

-- the private section begins at a device
abbrev pub drives : Start → Bool
drives (start.At at) = false
drives (start.Device n) = true

-- the number of ends that the module of this index holds
abbrev pub ends_of : List Link → ℕ → ℕ
ends_of links p = byte (ends_from links p + ends_to links p)

-- a module's sections, as long as its weight and its data size
abbrev pub sections_of : List DeviceEntry → List Link → ℕ → Coded → ModuleSections
sections_of devices links p m = record {
  node = m.node;
  drives = drives m.start;
  text = span m.text (module_weight m.tree (ends_of links p));
  data_part = span (start_of devices m.start) (module_data_size m.tree (ends_of links p));
}

-- Second: a module's section has an odd start, begins below 0x0200, ends above 0xFFE0, meets the
-- module's own other section or one of an earlier module of its node, or holds a device word. The
-- module's own device at its private start is allowed.

-- some byte is in both
abbrev pub meet : Span → Span → Bool
meet a b = nat_lt a.from b.to && nat_lt b.from a.to

-- a section begins at an odd address or below 0x0200, or passes 0xFFE0
abbrev pub is_outside : Span → Bool
is_outside s = (s.from % 2 == 1 || nat_lt s.from 0x0200) || nat_lt 0xFFE0 s.to

-- the public section of a placed module
abbrev pub text_of : Placement → Span
text_of p = record { from = p.layout.pub_from; to = p.layout.pub_to }

-- the private section of a placed module
abbrev pub data_of : Placement → Span
data_of p = record { from = p.layout.priv_from; to = p.layout.priv_to }

-- a section has a byte in common with one of a placed module on the same node
abbrev pub meets_module : ModuleSections → Placement → Bool
meets_module s p =
    p.node == s.node
    && ((meet s.text (text_of p) || meet s.text (data_of p))
    || (meet s.data_part (text_of p) || meet s.data_part (data_of p)))

-- the device is the one that the module drives
abbrev pub is_own : ModuleSections → DeviceEntry → Bool
is_own s d = s.drives && d.at == s.data_part.from

-- a section has a byte of a device of its node that the module does not drive
abbrev pub holds_word : ModuleSections → DeviceEntry → Bool
holds_word s d = (d.node == s.node && not (is_own s d))
    && (meet s.text (span d.at 2) || meet s.data_part (span d.at 2))

-- rule 10 on a module: its sections are outside, or meet each other, or an earlier module's, or a
-- device
abbrev pub is_misplaced : List DeviceEntry → List Placement → ModuleSections → Bool
is_misplaced devices earlier s =
    ((is_outside s.text || is_outside s.data_part) || meet s.text s.data_part)
    || (list_any (meets_module s) earlier || list_any (holds_word s) devices)

-- the bounds of both sections
abbrev pub layout_of : ModuleSections → Layout
layout_of s = record {
  pub_from = s.text.from;
  pub_to = s.text.to;
  priv_from = s.data_part.from;
  priv_to = s.data_part.to;
}

-- where a module is, unless it is misplaced
abbrev pub placement_of : List DeviceEntry → List Placement → ModuleSections → Option Placement
placement_of devices earlier s = if is_misplaced devices earlier s then None else
    Some (record { node = s.node; layout = layout_of s })

-- rule 10 on the next module
abbrev pub placed_module : List DeviceEntry → List Link → List Placement → Coded
    → Result Placement DeployFault
placed_module devices links done m = in_entry 10 Module (length done)
    (placement_of devices done (sections_of devices links (length done) m))

-- where the modules are
abbrev pub placements_of : List DeviceEntry → List Link → List Coded
    → Result (List Placement) DeployFault
placements_of devices links modules = do
  first ← passes (entries 10 Device is_bad_place devices)
  made_after (placed_module devices links) [] modules
