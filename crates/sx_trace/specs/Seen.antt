-- The names of a deployment in memory, as plain data.
use Rattle.std.specs.Prelude.{ℕ, Bool, List}
use Rattle.sx_trace.specs.Names.{NameLists}

-- these names of nodes, devices, modules and connections, and whether each device is a sensor
abbrev pub name_lists : List (List ℕ) → List (List ℕ) → List Bool → List (List ℕ) → List (List ℕ)
    → NameLists
name_lists nodes devices sensors modules links =
    record { nodes = nodes; devices = devices; sensors = sensors; modules = modules; links = links }
