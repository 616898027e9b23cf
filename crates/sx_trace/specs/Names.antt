-- The names of a deployment, and where a sensor's is.
use Rattle.std.specs.Prelude.{ℕ, Bool, false, codes, if◌then◌else◌, List, Option, Some, None}
use Rattle.std.specs.Prelude.{option_and_then, unwrap_or, slice_get}
use Rattle.sx_index.specs.Places.{place_of}

-- the names of the nodes, devices, modules and connections, and whether each device is a sensor
pub record NameLists : Type 0 where
  pub nodes : List (List ℕ)
  pub devices : List (List ℕ)
  pub sensors : List Bool
  pub modules : List (List ℕ)
  pub links : List (List ℕ)

-- the deployer's own name, which no module has
abbrev pub deployer : List ℕ
deployer = codes "deployer"

-- the device of this index, where it is a sensor
abbrev pub if_sensor : List Bool → ℕ → Option ℕ
if_sensor sensors device = if unwrap_or (slice_get sensors device) false then Some device else None

-- the index of a sensor's name among the devices
abbrev pub sensor_place : NameLists → List ℕ → Option ℕ
sensor_place n text = option_and_then (if_sensor n.sensors) (place_of n.devices text)
