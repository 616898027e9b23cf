-- The executor: it runs a plan against memory and devices, and checks each access.
use Rattle.std.specs.Prelude.{ℕ, zero, suc, ◌+◌, Bool, true, false, ◌&&◌, if◌then◌else◌, List, []}
use Rattle.std.specs.Prelude.{◌∷◌, Option, Some, None, Result, Ok, Err, slice_get}
use Rattle.sx_rules.specs.declared.access.Access.{Access}
use Rattle.sx_rules.specs.declared.access.Access.TheVariants.{Read, Write}
use Rattle.sx_rules.specs.declared.access.Violation.{Violation}
use Rattle.sx_rules.specs.declared.access.Violation.TheVariants as bad
use Rattle.sx_rules.specs.declared.section.Section.{Section}
use Rattle.sx_rules.specs.Access.{Sections, may, extends}
use Rattle.sx_bus.specs.declared.devices.Kind.{Kind}
use Rattle.sx_bus.specs.declared.devices.Kind.TheVariants.{Sensor, Actuator}
use Rattle.sx_bus.specs.declared.devices.Window.{Window}
use Rattle.sx_bus.specs.Devices.{device_at, cleared}
use Rattle.spec_machine.specs.declared.kinds.Touch.{Touch}
use Rattle.spec_machine.specs.declared.kinds.Touch.TheVariants.{Quiet, DeviceRead, DeviceWrite}
use Rattle.spec_machine.specs.declared.kinds.Event.{Event}
use Rattle.spec_machine.specs.declared.kinds.Exchange.{Exchange}
use Rattle.spec_machine.specs.Memory.{even, word, read_at, write_at, bytes_from, put_bytes}
use Rattle.spec_machine.specs.Plan.{Plan, Done, Tell, Stop, Fetch, Load, Store, Need, Writable, Bytes}
use Rattle.spec_machine.specs.Plan.{Put}

-- what a plan works on, and the touches so far
pub record Moment : Type 0 where
  pub mem : List ℕ
  pub devices : List Window
  pub touches : List Touch

-- no touch yet
abbrev pub untouched : List Touch
untouched = Quiet ∷ Quiet ∷ []

-- the next touch is in the first quiet place
abbrev pub with_touch : List Touch → Touch → List Touch
with_touch [] t = []
with_touch (Quiet ∷ rest) t = t ∷ rest
with_touch (DeviceRead d v ∷ rest) t = DeviceRead d v ∷ with_touch rest t
with_touch (DeviceWrite d v ∷ rest) t = DeviceWrite d v ∷ with_touch rest t

-- how an instruction ends: a plain one, a violation, or a module instruction with its sections,
-- event and exchange
pub data Outcome : Type 0 where
  Finished : List ℕ → Moment → Outcome
  Violated : Violation → Outcome
  Module : List ℕ → Moment → Sections → Event → Exchange → Outcome

-- both bytes of the word, or the byte, may be reached by code of `own`
abbrev pub may_at : Bool → List Section → ℕ → Access → ℕ → Bool
may_at wide live own access at =
    if wide then may live own access (even at) && may live own access (even at + 1) else
    may live own access at

-- each of n bytes from an address on may be reached
abbrev pub may_range : List Section → ℕ → Access → ℕ → ℕ → Bool
may_range live own access at zero = true
may_range live own access at (suc n) =
    may live own access (at + n) && may_range live own access at n

-- each of the places of these bytes may be reached
abbrev pub may_each : List Section → ℕ → Access → ℕ → List ℕ → Bool
may_each live own access at [] = true
may_each live own access at (b ∷ bs) =
    may live own access at && may_each live own access (at + 1) bs

-- a device with its number
abbrev pub with_window : ℕ → Option Window → Option (ℕ × Window)
with_window device None = None
with_window device (Some w) = Some (device, w)

-- the device of this number, if there is one
abbrev pub found : List Window → Option ℕ → Option (ℕ × Window)
found devices None = None
found devices (Some device) = with_window device (slice_get devices device)

-- the device whose word holds the byte, with its index
abbrev pub device_of : List Window → ℕ → Option (ℕ × Window)
device_of devices at = found devices (device_at devices at)

-- A read of a sensor gives 0x8000 plus its value and makes it stale where it is fresh, and gives 0
-- where it isn't.
abbrev pub sampled : ℕ → Window → Moment → ℕ × Moment
sampled device w x =
    if w.fresh then (
      0x8000 + w.value,
      record x {
        devices = cleared x.devices device;
        touches = with_touch x.touches (DeviceRead device w.value);
      },
    )
    else (0, x)

-- A sensor answers a read of its word alone.
abbrev pub read_device : Bool → ℕ → Window → Kind → Moment → Result (ℕ × Moment) Violation
read_device true device w Sensor x = Ok (sampled device w x)
read_device false device w Sensor x = Err bad.Device
read_device wide device w Actuator x = Err bad.Device

-- a read at an address: the device there decides, or else memory
abbrev pub read_place : Bool → ℕ → Option (ℕ × Window) → Moment → Result (ℕ × Moment) Violation
read_place wide at None x = Ok (read_at wide x.mem at, x)
read_place wide at (Some d) x = read_device wide d.0 d.1 d.1.kind x

-- one read: the access table first, and then the device whose word holds the place
abbrev pub load : List Section → ℕ → Bool → ℕ → Moment → Result (ℕ × Moment) Violation
load live own wide at x =
    if may_at wide live own Read at then read_place wide at (device_of x.devices at) x else
    Err bad.Read

-- An actuator takes a write of its word alone.
abbrev pub write_device : Bool → ℕ → ℕ → Kind → Moment → Result Moment Violation
write_device true device v Actuator x =
    Ok (record x { touches = with_touch x.touches (DeviceWrite device v) })
write_device false device v Actuator x = Err bad.Device
write_device wide device v Sensor x = Err bad.Device

-- a write at an address: the device there decides, or else memory
abbrev pub write_place : Bool → ℕ → ℕ → Option (ℕ × Window) → Moment → Result Moment Violation
write_place wide at v None x = Ok (record x { mem = write_at wide x.mem at v })
write_place wide at v (Some d) x = write_device wide d.0 v d.1.kind x

-- one write
abbrev pub store : List Section → ℕ → Bool → ℕ → ℕ → Moment → Result Moment Violation
store live own wide at v x =
    if may_at wide live own Write at then write_place wide at v (device_of x.devices at) x else
    Err bad.Write

-- a word is fetched from memory, never from a device
abbrev pub fetch_place : ℕ → Option (ℕ × Window) → Moment → Result ℕ Violation
fetch_place at None x = Ok (word x.mem at)
fetch_place at (Some d) x = Err bad.Device

-- an extension word: in unprotected memory, or in the public section of the first word
abbrev pub fetch : List Section → ℕ → ℕ → Moment → Result ℕ Violation
fetch live own at x =
    if extends live own (even at) && extends live own (even at + 1) then
    fetch_place at (device_of x.devices at) x else Err bad.Fetch

-- goes on with what was read, or stops at the violation
abbrev pub after_read : Result (ℕ × Moment) Violation → (ℕ → Moment → Outcome) → Outcome
after_read (Ok r) then_ = then_ r.0 r.1
after_read (Err v) then_ = Violated v

-- goes on after a write, or stops at the violation
abbrev pub after_write : Result Moment Violation → (Moment → Outcome) → Outcome
after_write (Ok x) then_ = then_ x
after_write (Err v) then_ = Violated v

-- goes on with the word that was fetched, or stops at the violation
abbrev pub after_fetch : Result ℕ Violation → (ℕ → Outcome) → Outcome
after_fetch (Ok w) then_ = then_ w
after_fetch (Err v) then_ = Violated v

-- running a plan as code of the module `own`
abbrev pub exec : Sections → ℕ → Plan → Moment → Outcome
exec t own (Done regs) x = Finished regs x
exec t own (Tell regs event exchange) x = Module regs x t event exchange
exec t own (Stop v) x = Violated v
exec t own (Fetch at k) x = after_fetch (fetch t.live own at x) (λ w. exec t own (k w) x)
exec t own (Load wide at k) x = after_read (load t.live own wide at x) (λ v y. exec t own (k v) y)
exec t own (Store wide at v k) x = after_write (store t.live own wide at v x) (λ y. exec t own k y)
exec t own (Need b v k) x = if b then exec t own k x else Violated v
exec t own (Writable at n k) x =
    if may_range t.live own Write at n then exec t own k x else Violated bad.Write
exec t own (Bytes at n k) x = if may_range t.live own Read at n then
    exec t own (k (bytes_from x.mem at n)) x else Violated bad.Read
exec t own (Put at bs k) x = if may_each t.live own Write at bs then
    exec t own k (record x { mem = put_bytes x.mem at bs }) else Violated bad.Write
