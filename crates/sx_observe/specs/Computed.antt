-- Forms that the code computes: whose code a step was, as the node after it tells, whether it drives
-- a device, and whether a module has an end. Nobody has to believe them: lemmas show that they say what the definitions
-- say.
use Rattle.std.specs.Prelude.{ℕ, ◌==◌, ◌||◌, Bool, true, false, if◌then◌else◌, List, Option, Some}
use Rattle.std.specs.Prelude.{None}
use Rattle.std.specs.List.{list_any}
use Rattle.sx_lang.specs.declared.sides.Side.{Side}
use Rattle.sx_lang.specs.declared.sides.Side.TheVariants.{From, To}
use Rattle.sx_mean.specs.declared.apps.Link.{Link}
use Rattle.spec_machine.specs.declared.kinds.Touch.{Touch}
use Rattle.spec_machine.specs.declared.kinds.Touch.TheVariants as touch
use Rattle.spec_machine.specs.declared.kinds.Event.{Event}
use Rattle.spec_machine.specs.declared.kinds.Event.TheVariants as event
use Rattle.spec_machine.specs.declared.kinds.Seen.{Seen}
use Rattle.spec_machine.specs.State.{State}
use Rattle.sx_mean.specs.Application.{AppTree}
use Rattle.spec_run.specs.Observation.{is_driver}
use Rattle.spec_run.specs.Setting.{Site, module_of}

-- a device shows it
abbrev pub is_touch : Touch → Bool
is_touch touch.Quiet = false
is_touch (touch.DeviceRead k v) = true
is_touch (touch.DeviceWrite k v) = true

-- the event is of a module that a deployment may have
abbrev pub is_own : Event → Bool
is_own event.Quiet = false
is_own (event.Reset v) = false
is_own (event.Protected id) = false
is_own (event.Removed id) = false
is_own (event.Wrapped id) = true
is_own (event.Unwrapped id) = true
is_own (event.Left id) = true

-- what is seen depends on whose code it was
abbrev pub tells : Seen → Bool
tells seen = list_any is_touch seen.touch || is_own seen.event

-- the section whose code it was: the one that the event names, or else the one that runs
abbrev pub author : State → Event → ℕ
author s event.Quiet = s.cur
author s (event.Reset v) = s.cur
author s (event.Protected id) = s.cur
author s (event.Removed id) = s.cur
author s (event.Wrapped id) = id
author s (event.Unwrapped id) = id
author s (event.Left id) = id

-- the deployed module whose code it was, where what is seen depends on it
abbrev pub runner_of : List Site → ℕ → State → Seen → Option ℕ
runner_of sites n s seen = if tells seen then module_of sites n s (author s seen.event) else None

-- the side of the connection is at the module
abbrev pub at_side : ℕ → Side → Link → Bool
at_side m From l = l.from == m
at_side m To l = l.to == m

-- so it is where there is such a connection
abbrev pub is_held : ℕ → Side → Option Link → Bool
is_held m side None = false
is_held m side (Some l) = at_side m side l

-- the deployed module whose code it was, if it drives the device
abbrev pub driver_of : AppTree → Option ℕ → ℕ → Option ℕ
driver_of app runner d = if is_driver app runner d then runner else None
