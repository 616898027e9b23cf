-- What the acts of a handler do: packets to the out-window, and writes to the actuator.
use Rattle.std.specs.Prelude.{ℕ, ◌+◌, ◌*◌, nat_lt, false, ◌&&◌, if◌then◌else◌, List, [], ◌∷◌, ◌++◌}
use Rattle.std.specs.Prelude.{length, Option, Some, None, Result, Ok, Err}
use Rattle.sx_mean.specs.declared.events.End.{End}
use Rattle.sx_mean.specs.declared.events.Act.{Act}
use Rattle.sx_mean.specs.declared.events.Act.TheVariants.{Send, Emit}
use Rattle.sx_mean.specs.declared.events.SourceEvent.{SourceEvent}
use Rattle.sx_mean.specs.Ends.{is_sending}
use Rattle.sx_mean.specs.React.{react}
use Rattle.sx_rules.specs.declared.access.Violation.{Violation}
use Rattle.sx_bus.specs.declared.devices.Window.{Window}
use Rattle.sx_tag.specs.Wrap.{wrapped}
use Rattle.spec_machine.specs.Run.{device_of}
use Rattle.spec_invocation.specs.Protocol.{event_size, event_kind, last_number}
use Rattle.spec_invocation.specs.Setup.{Setup, Call}
use Rattle.spec_invocation.specs.ModuleState.{EndState, end_of}
use Rattle.spec_invocation.specs.Marks.{Wrapped, Actuated}
use Rattle.spec_invocation.specs.Windows.{two, write_bytes}
use Rattle.spec_invocation.specs.Progress.{Progress, Course, Going, Broken, and_on, with_end_marked}

-- Pieces. The packets are in the out-window one after the other.

-- a copy to the out-window that was made, or was refused
abbrev pub copied_to : Result (List ℕ) Violation → Progress → Course
copied_to (Ok mem) p = Going (record p { mem = mem })
copied_to (Err v) p = Broken v p

-- a piece is made, and then copied to its offset
abbrev pub with_piece : Setup → Call → List ℕ → Progress → Course
with_piece s c piece p =
    copied_to (write_bytes s p.devices p.mem (c.output + event_size * length p.pieces) piece)
    (record p { pieces = p.pieces ++ piece ∷ [] })

-- an event packet's header: its kind, the connection field and the number
abbrev pub event_header : EndState → List ℕ
event_header e = event_kind ∷ 0 ∷ two e.field ++ two e.number

-- the number rises, and the mark of the wrap comes before the copy
abbrev pub wrap_counted : ℕ → EndState → ℕ → Progress → Progress
wrap_counted k e v p =
    with_end_marked k (record e { number = e.number + 1 })
    (Wrapped (event_header e) (two v) false) p

-- the packet: its header, and the cipher and tag of the value
abbrev pub event_packet : Setup → EndState → ℕ → List ℕ
event_packet s e v =
    let w = wrapped s.mac e.key (event_header e) (two v) in
    event_header e ++ w.cipher ++ w.tag

-- an event packet for the k-th end, where it is open and its number is below the last
unfoldable pub with_packet : Setup → Call → ℕ → ℕ → Progress → Course
with_packet s c v k p =
    let e = end_of p.state.ends k in
    if e.is_open && nat_lt e.number last_number then with_piece s c (event_packet s e v)
    (wrap_counted k e v p) else Going p

-- Acts of a handler, in order.

-- a packet for each sending end of the output, from the k-th end on
abbrev pub with_packets : Setup → Call → ℕ → ℕ → ℕ → List End → Progress → Course
with_packets s c output v k [] p = Going p
with_packets s c output v k (e ∷ es) p =
    if is_sending output e.side e.port then and_on (with_packet s c v k p)
    (with_packets s c output v (k + 1) es)
    else with_packets s c output v (k + 1) es p

-- the module's device: the one whose word is at the start of its private section
abbrev pub own_window : Setup → List Window → Option (ℕ × Window)
own_window s devices = device_of devices s.section.layout.priv_from

-- a write to the actuator, of a module that drives one
abbrev pub actuated : ℕ → Option (ℕ × Window) → Progress → Progress
actuated v None p = p
actuated v (Some d) p = record p { marks = p.marks ++ Actuated d.0 v ∷ [] }

-- one act
abbrev pub with_act : Setup → Call → Act → Progress → Course
with_act s c (Send output v) p = with_packets s c output v 0 s.ends p
with_act s c (Emit v) p = Going (actuated v (own_window s p.devices) p)

-- acts one after the other, up to a violation
abbrev pub with_acts : Setup → Call → List Act → Progress → Course
with_acts s c [] p = Going p
with_acts s c (a ∷ acts) p = and_on (with_act s c a p) (with_acts s c acts)

-- the handler of an event runs: the new cells, and its acts
unfoldable pub handled : Setup → Call → SourceEvent → Progress → Course
handled s c e p =
    let done = react s.tree e p.state.cells in
    with_acts s c done.acts (record p { state = record p.state { cells = done.cells } })
