-- What every act keeps of a node.
use Rattle.std.specs.Prelude.{◌≡◌, ℕ, List, map}
use Rattle.sx_bus.specs.declared.devices.Window.{Window}
use Rattle.sx_bus.specs.Devices.{ArePlaces, HaveSamples, places_of}
use Rattle.sx_tag.specs.Mac.{Mac}
use Rattle.spec_machine.specs.State.{State, power_on}
use Rattle.spec_machine.specs.Acting.{Act, acted_all, ActsInForm}
use Rattle.spec_machine.specs.Node.{IsNode}
use Rattle.sx_bus.specs.declared.devices.Kind.{Kind}

-- the places and kinds of devices
abbrev pub shapes : List Window → List (ℕ × Kind)
shapes windows = map (λ w. (w.at, w.kind)) windows

-- what holds of every node holds of one that is switched on
abbrev pub PowerOnIsNode : Type 0
PowerOnIsNode = (key : List ℕ) (devices : List Window) → ArePlaces (places_of devices)
    → HaveSamples devices → IsNode (power_on key devices)

-- every list of acts keeps what holds of every node
abbrev pub StaysNode : Type 0
StaysNode = (mac : Mac) (acts : List Act) (a : State) → ActsInForm acts → IsNode a
    → IsNode (acted_all mac acts a).state

-- the devices of a node keep their places and kinds
abbrev pub KeepsDevices : Type 0
KeepsDevices = (mac : Mac) (acts : List Act) (a : State) → ActsInForm acts → IsNode a
    → shapes (acted_all mac acts a).state.devices ≡ shapes a.devices

-- a node keeps its key
abbrev pub KeepsKey : Type 0
KeepsKey = (mac : Mac) (acts : List Act) (a : State) → (acted_all mac acts a).state.key ≡ a.key
