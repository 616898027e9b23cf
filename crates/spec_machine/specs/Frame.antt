-- What a step leaves of memory, what it had the right to run, and the keys of the sections that
-- are there.
use Rattle.std.specs.Prelude.{◌≡◌, ◌≢◌, ℕ, ◌⊎◌, true, false, List, slice_index, Ok}
use Rattle.sx_rules.specs.declared.access.Access.TheVariants.{Write, Run}
use Rattle.sx_rules.specs.declared.access.Violation.TheVariants as bad
use Rattle.sx_rules.specs.declared.section.Section.{Section}
use Rattle.sx_rules.specs.Access.{may, in_public, Lives}
use Rattle.sx_rules.specs.Placed.{Placed}
use Rattle.sx_bus.specs.declared.devices.Window.{Window}
use Rattle.sx_tag.specs.Mac.{Mac}
use Rattle.spec_machine.specs.declared.kinds.Event.TheVariants.{Reset}
use Rattle.spec_machine.specs.declared.kinds.Seen.{Seen}
use Rattle.spec_machine.specs.State.{State, reset, power_on}
use Rattle.spec_machine.specs.Run.{may_at}
use Rattle.spec_machine.specs.Step.{step, own_of, pc_of}
use Rattle.spec_machine.specs.Acts.{irq}
use Rattle.spec_machine.specs.Acting.{Act, acted, acted_all}
use Rattle.spec_machine.specs.Node.{IsNode}
use Rattle.spec_machine.specs.Events.{chain_key}

-- each byte that code of `own` may not write is as before
abbrev pub Framed : List Section → ℕ → List ℕ → List ℕ → Type 0
Framed live own m n = (k : ℕ) → may live own Write k ≡ false → slice_index n k ≡ slice_index m k

-- a step changes only bytes that the access table lets its code write, unless it resets the node
abbrev pub StepsFramed : Type 0
StepsFramed = (mac : Mac) (a : State) → Placed a.sections
    → Framed a.sections.live (own_of a) a.mem (step mac a).state.mem
    ⊎ ((step mac a).state ≡ reset a)

-- an interrupt changes only bytes that code of no module may write, unless it resets the node
abbrev pub InterruptsFramed : Type 0
InterruptsFramed = (line : ℕ) (a : State) (seen : Seen) → (irq a line).shown ≡ Ok seen
    → Framed a.sections.live 0 a.mem (irq a line).state.mem ⊎ ((irq a line).state ≡ reset a)

-- the public bytes of s are as before
abbrev pub KeptPublic : Section → List ℕ → List ℕ → Type 0
KeptPublic s m n = (k : ℕ) → in_public s k ≡ true → slice_index n k ≡ slice_index m k

-- no act, of whatever code, changes a public byte of a live section, unless the node is reset
abbrev pub PublicKept : Type 0
PublicKept =
    (mac : Mac) (act : Act) (a : State) (s : Section) → Placed a.sections → Lives a.sections.live s
    → KeptPublic s a.mem (acted mac act a).state.mem ⊎ ((acted mac act a).state ≡ reset a)

-- a step that ends in neither `fetch` nor `order` had the right to run its word by the access
-- table, as code of the module that ran
abbrev pub RunsByTable : Type 0
RunsByTable = (mac : Mac) (a : State) → IsNode a → (step mac a).shown.event ≢ Reset bad.Fetch
    → (step mac a).shown.event ≢ Reset bad.Order
    → may_at true a.sections.live a.cur Run (pc_of a) ≡ true

-- the key of each live section is the chain's for its present bytes
abbrev pub HaveKeys : Mac → State → Type 0
HaveKeys mac a =
    (s : Section) → Lives a.sections.live s → s.key ≡ chain_key mac a s.provider s.layout

-- every list of acts keeps that
abbrev pub KeepsKeys : Type 0
KeepsKeys = (mac : Mac) (acts : List Act) (a : State) → Placed a.sections → HaveKeys mac a
    → HaveKeys mac (acted_all mac acts a).state

-- at power-on each live section has its key
abbrev pub PowerOnHasKeys : Type 0
PowerOnHasKeys =
    (mac : Mac) (key : List ℕ) (devices : List Window) → HaveKeys mac (power_on key devices)
