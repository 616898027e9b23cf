-- What the code's arrays stand for.
use Rattle.std.specs.Prelude.{Option, Some, None, Vec}
use Rattle.std.specs.Borrow.{Bor}
use Rattle.std.specs.declared.alloc.Global.{Global}
use Rattle.toml.specs.Data.{Items, no_items}
use Rattle.toml.specs.View.{array_view}
use Rattle.toml.specs.declared.value.Value.{Value}
use Rattle.sx_entries.specs.Arrays.{Arrays as Parts}
use Rattle.sx_entries.specs.declared.arrays.Arrays.{Arrays}

-- an array's tables; none where the key is absent
abbrev pub items_seen : Option (Bor (Vec Value Global)) → Items
items_seen None = no_items
items_seen (Some a) = array_view a.now

-- the code's arrays as plain data
abbrev pub arrays_seen : Arrays → Parts
arrays_seen a = record {
  secret = a.secret;
  nodes = items_seen a.nodes;
  devices =
      items_seen a.devices;
  modules = items_seen a.modules;
  links = items_seen a.links;
}
