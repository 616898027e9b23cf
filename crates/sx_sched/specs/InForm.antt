-- Which lines are in form for the names of a deployment, and which are written.
use Rattle.std.specs.Prelude.{◌≡◌, ◌≢◌, ℕ, ◌^◌, ◌<◌, ◌≤◌, true, List, length, slice_get, Some}
use Rattle.hex.specs.Hex.{IsBytes}
use Rattle.sx_trace.specs.Names.{NameLists}
use Rattle.sx_sched.specs.Lines.{Line, Blank, Run, Finish, Put, Set, Take, Give, Forge, Sense, Irq}
use Rattle.sx_sched.specs.Lines.{Reset, Ask, Answer, Load, Call}

-- the line is of a kind that is written
abbrev pub IsWritten : Line → Type 0
IsWritten (Take node at len) = Unit {0}
IsWritten (Give packet node at) = Unit {0}
IsWritten (Sense device value) = Unit {0}
IsWritten (Ask m) = Unit {0}
IsWritten (Answer m boot packet) = Unit {0}
IsWritten (Load m) = Unit {0}
IsWritten (Call m entry input output) = Unit {0}
IsWritten _ = ⊥

-- 1 to this many bytes
abbrev pub AreFewBytes : ℕ → List ℕ → Type 0
AreFewBytes most bytes = (1 ≤ length bytes) × (length bytes ≤ most) × IsBytes bytes

-- the line is in form: indices are below the lengths of their lists, a device is a sensor, and
-- registers, lengths and values are those that the kind of line allows
abbrev pub IsLine : NameLists → Line → Type 0
IsLine n Blank = Unit {0}
IsLine n (Run node steps) = (node < length n.nodes) × (1 ≤ steps) × (steps < 2 ^ 16)
IsLine n (Finish node) = node < length n.nodes
IsLine n (Put node at bytes) = (node < length n.nodes) × (at < 2 ^ 16) × AreFewBytes 1024 bytes
IsLine n (Set node reg value) = (node < length n.nodes) × (reg < 16) × (reg ≢ 3) × (value < 2 ^ 16)
IsLine n (Take node at len) = (node < length n.nodes) × (at < 2 ^ 16) × (1 ≤ len) × (len ≤ 384)
IsLine n (Give packet node at) = (packet < 2 ^ 32) × (node < length n.nodes) × (at < 2 ^ 16)
IsLine n (Forge bytes) = AreFewBytes 384 bytes
IsLine n (Sense device value) =
    (device < length n.devices) × (slice_get n.sensors device ≡ Some true) × (value < 2 ^ 15)
IsLine n (Irq node line) = (node < length n.nodes) × (line ≤ 14)
IsLine n (Reset node) = node < length n.nodes
IsLine n (Ask m) = m < length n.modules
IsLine n (Answer m boot packet) = (m < length n.modules) × (boot < 2 ^ 32) × (packet < 2 ^ 32)
IsLine n (Load m) = m < length n.modules
IsLine n (Call m entry input output) =
    (m < length n.modules) × (entry < 2 ^ 16) × (input < 2 ^ 16) × (output < 2 ^ 16)
