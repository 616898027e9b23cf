-- The device words in a module's private section.
use Rattle.std.specs.Prelude.{◌≡◌, ℕ, ◌+◌, ◌<◌, ◌≤◌, List, Option, Some, None}
use Rattle.sx_lang.specs.declared.tree.DeviceKind.{DeviceKind}
use Rattle.sx_lang.specs.declared.tree.DeviceKind.TheVariants.{Sensor, Actuator}
use Rattle.sx_rules.specs.declared.section.Layout.{Layout}
use Rattle.sx_bus.specs.declared.devices.Kind.{Kind}
use Rattle.sx_bus.specs.declared.devices.Kind.TheVariants as kind
use Rattle.sx_bus.specs.declared.devices.Window.{Window}
use Rattle.sx_bus.specs.Devices.{device_at}
use Rattle.spec_machine.specs.Run.{device_of}

-- a device of this kind lies at the start of the private section, and no other lies in it
pub record Drives (devices : List Window) (k : Kind) (l : Layout) : Type 0 where
  pub device : ℕ
  pub window : Window
  pub found : device_of devices l.priv_from ≡ Some (device, window)
  pub at_start : window.at ≡ l.priv_from
  pub kind : window.kind ≡ k
  pub alone : (at : ℕ) → l.priv_from + 2 ≤ at → at < l.priv_to → device_at devices at ≡ None

-- the device words in a private section are those that the module declares
abbrev pub HasDevices : List Window → Option DeviceKind → Layout → Type 0
HasDevices devices None l =
    (at : ℕ) → l.priv_from ≤ at → at < l.priv_to → device_at devices at ≡ None
HasDevices devices (Some Sensor) l = Drives devices kind.Sensor l
HasDevices devices (Some Actuator) l = Drives devices kind.Actuator l
