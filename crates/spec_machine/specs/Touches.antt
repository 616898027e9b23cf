-- What is shown of a node's devices is all that happened to them, and whose code it was.
use Rattle.std.specs.Prelude.{◌≡◌, ◌≢◌, ℕ, ◌⊎◌, true, false, List, [], ◌∷◌, slice_get, Some, Ok}
use Rattle.sx_rules.specs.declared.access.Access.TheVariants.{Read, Write}
use Rattle.sx_rules.specs.declared.section.Section.{Section}
use Rattle.sx_rules.specs.Access.{may, in_private, Lives}
use Rattle.sx_bus.specs.declared.devices.Kind.TheVariants.{Sensor, Actuator}
use Rattle.sx_bus.specs.declared.devices.Window.{Window}
use Rattle.sx_bus.specs.Devices.{cleared}
use Rattle.sx_tag.specs.Mac.{Mac}
use Rattle.spec_machine.specs.declared.kinds.Touch.{Touch}
use Rattle.spec_machine.specs.declared.kinds.Touch.TheVariants.{Quiet, DeviceRead, DeviceWrite}
use Rattle.spec_machine.specs.declared.kinds.Seen.{Seen}
use Rattle.spec_machine.specs.State.{State, reset}
use Rattle.spec_machine.specs.Step.{step, own_of}
use Rattle.spec_machine.specs.Acts.{irq}
use Rattle.spec_machine.specs.Node.{IsNode}

-- The touches of code of `own`, one after the other, and the devices before and after: each read is
-- of a fresh sensor that is stale from then on, each write of an actuator, and the access table
-- lets it.
abbrev pub Replays : List Section → ℕ → List Touch → List Window → List Window → Type 0
Replays live own [] a b = b ≡ a
Replays live own (Quiet ∷ ts) a b = Replays live own ts a b
Replays live own (DeviceRead k v ∷ ts) a b =
    (w : Window) × (slice_get a k ≡ Some w) × (w.kind ≡ Sensor) × (w.fresh ≡ true) × (w.value ≡ v)
    × (may live own Read w.at ≡ true) × Replays live own ts (cleared a k) b
Replays live own (DeviceWrite k v ∷ ts) a b =
    (w : Window) × (slice_get a k ≡ Some w) × (w.kind ≡ Actuator) × (may live own Write w.at ≡ true)
    × Replays live own ts a b

-- a step's touches are all that it did at devices, unless it resets the node
abbrev pub ShowsTouches : Type 0
ShowsTouches = (mac : Mac) (a : State) → IsNode a
    → Replays a.sections.live (own_of a) (step mac a).shown.touch a.devices
    (step mac a).state.devices
    ⊎ ((step mac a).state ≡ reset a)

-- an interrupt's touches are all that it did at devices, as code of no module
abbrev pub ShowsInterrupt : Type 0
ShowsInterrupt = (line : ℕ) (a : State) (seen : Seen) → IsNode a → (irq a line).shown ≡ Ok seen
    → Replays a.sections.live 0 seen.touch a.devices (irq a line).state.devices
    ⊎ ((irq a line).state ≡ reset a)

-- none of the touches is of a device in the private section
abbrev pub NoneInside : Section → List Window → List Touch → Type 0
NoneInside s a [] = Unit {0}
NoneInside s a (Quiet ∷ ts) = NoneInside s a ts
NoneInside s a (DeviceRead k v ∷ ts) =
    ((w : Window) → slice_get a k ≡ Some w → in_private s w.at ≡ false) × NoneInside s a ts
NoneInside s a (DeviceWrite k v ∷ ts) =
    ((w : Window) → slice_get a k ≡ Some w → in_private s w.at ≡ false) × NoneInside s a ts

-- a step of other code than a section's touches no device in its private section
abbrev pub Attributes : Type 0
Attributes =
    (mac : Mac) (a : State) (s : Section) → IsNode a → Lives a.sections.live s → own_of a ≢ s.id
    → NoneInside s a.devices (step mac a).shown.touch

-- an interrupt touches no device in a section's private part
abbrev pub AttributesInterrupt : Type 0
AttributesInterrupt =
    (line : ℕ) (a : State) (s : Section) (seen : Seen) → IsNode a → Lives a.sections.live s
    → (irq a line).shown ≡ Ok seen → NoneInside s a.devices seen.touch
