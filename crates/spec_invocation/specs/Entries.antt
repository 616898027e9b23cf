-- The four entries of a module, by the steps 4 to 10 of the entry protocol (own).
use Rattle.std.specs.Prelude.{ℕ, zero, suc, ◌+◌, ◌==◌, nat_lt, Bool, true, false, ◌&&◌, ◌||◌, not}
use Rattle.std.specs.Prelude.{if◌then◌else◌, List, [], ◌∷◌, ◌++◌, take, drop, slice_index, Option}
use Rattle.std.specs.Prelude.{Some, None, Result, Ok, Err}
use Rattle.sx_lang.specs.declared.sides.Side.{Side}
use Rattle.sx_lang.specs.declared.sides.Side.TheVariants.{From, To}
use Rattle.sx_mean.specs.declared.events.End.{End}
use Rattle.sx_mean.specs.declared.events.SourceEvent.TheVariants as event
use Rattle.sx_mean.specs.Ends.{same_side}
use Rattle.sx_rules.specs.declared.access.Violation.{Violation}
use Rattle.sx_bus.specs.declared.devices.Window.{Window}
use Rattle.sx_bus.specs.Devices.{cleared}
use Rattle.sx_tag.specs.Wrap.{wrapped, unwrapped}
use Rattle.spec_machine.specs.Memory.{word}
use Rattle.spec_invocation.specs.Protocol.{all_done, other_kind, no_end, past_number, other_tag}
use Rattle.spec_invocation.specs.Protocol.{no_sample, header_size, key_size, key_tag_at, value_size}
use Rattle.spec_invocation.specs.Protocol.{value_tag_at, last_number}
use Rattle.spec_invocation.specs.Setup.{Setup, Call}
use Rattle.spec_invocation.specs.ModuleState.{EndState, end_of, epoch_of, link_of}
use Rattle.spec_invocation.specs.Marks.{Wrapped, Unwrapped, Sampled}
use Rattle.spec_invocation.specs.Windows.{read_bytes}
use Rattle.spec_invocation.specs.Progress.{Progress, Invoked, Returns, Violates, finished}
use Rattle.spec_invocation.specs.Progress.{with_end_marked}
use Rattle.spec_invocation.specs.Acts.{with_piece, own_window, handled}

-- Which end a packet is for.

-- the end is of this connection and side
abbrev pub end_is : ℕ → Side → End → Bool
end_is link side e = (e.link == link) && same_side side e.side

-- the first such end from the k-th on, with its index
abbrev pub end_found : ℕ → Side → ℕ → List End → Option (ℕ × End)
end_found link side k [] = None
end_found link side k (e ∷ es) =
    if end_is link side e then Some (k, e) else end_found link side (k + 1) es

-- an end field of a set-key packet is 0 or 1
abbrev pub side_of : ℕ → Option Side
side_of zero = Some From
side_of (suc zero) = Some To
side_of (suc (suc n)) = None

-- the end of this connection on the side, where it is one
abbrev pub end_on : ℕ → List End → Option Side → Option (ℕ × End)
end_on link ends None = None
end_on link ends (Some side) = end_found link side 0 ends

-- The fields of packets: the connection field, the end field or the number, and the header with
-- them.
abbrev pub field_in : List ℕ → ℕ
field_in packet = word packet 2

-- the end field of a set-key packet, the number of an event packet
abbrev pub second_in : List ℕ → ℕ
second_in packet = word packet 4

-- the first bytes
abbrev pub header_in : List ℕ → List ℕ
header_in packet = take header_size packet

-- Steps 4 and 5: a packet is copied from the in-window, and its first two bytes tell its kind

-- the packet begins with its kind and 0
abbrev pub is_kind : ℕ → List ℕ → Bool
is_kind kind packet = (slice_index packet 0 == kind) && (slice_index packet 1 == 0)

-- step 5: a packet of the kind goes on, another is refused
abbrev pub received : Result (List ℕ) Violation → ℕ → (List ℕ → Invoked) → Progress → Invoked
received (Err v) kind rest p = Violates v p
received (Ok packet) kind rest p = if is_kind kind packet then rest packet else Returns other_kind p

-- steps 4 and 5
abbrev pub with_received : Setup → Call → ℕ → ℕ → Progress → (List ℕ → Invoked) → Invoked
with_received s c n kind p rest = received (read_bytes s p.devices p.mem c.input n) kind rest p

-- Entry 0, set-key.

-- an end is open with an epoch that isn't below the field's
abbrev pub is_keyed : EndState → ℕ → Bool
is_keyed e field = e.is_open && not (nat_lt (epoch_of e.field) (epoch_of field))

-- step 10: the end is open with that key and field, and its next number is 0
abbrev pub end_keyed : ℕ → List ℕ → List ℕ → Progress → Progress
end_keyed k packet key p =
    with_end_marked k (record { is_open = true; field = field_in packet; number = 0; key = key })
    (Unwrapped (header_in packet) key true) p

-- step 8: the tag
abbrev pub key_opened : ℕ → List ℕ → Option (List ℕ) → Progress → Invoked
key_opened k packet None p = Returns other_tag p
key_opened k packet (Some body) p =
    Returns all_done (end_keyed k packet (take key_size body) p)

-- step 6: the end
abbrev pub set_key_at : Setup → List ℕ → Option (ℕ × End) → Progress → Invoked
set_key_at s packet None p = Returns no_end p
set_key_at s packet (Some e) p =
    if is_keyed (end_of p.state.ends e.0) (field_in packet) then Returns no_end p
    else key_opened e.0 packet (unwrapped s.mac s.section.key (header_in packet)
    (take key_size (drop header_size packet)) (drop key_tag_at packet)) p

-- steps 6 to 10 of entry 0
abbrev pub set_key : Setup → List ℕ → Progress → Invoked
set_key s packet p =
    set_key_at s packet (end_on (link_of (field_in packet)) s.ends (side_of (second_in packet))) p

-- Entry 1, attest: the answer is the tag of the ask as header and an empty body.

-- step 10 of entry 1: a wrap and one piece
abbrev pub attest : Setup → Call → List ℕ → Progress → Invoked
attest s c ask p =
    finished (with_piece s c (wrapped s.mac s.section.key ask []).tag
    (record p { marks = p.marks ++ Wrapped ask [] true ∷ [] }))

-- Entry 2, input.

-- the number is taken: the next one is above it
abbrev pub number_taken : ℕ → List ℕ → List ℕ → EndState → Progress → Progress
number_taken k packet value e p =
    with_end_marked k (record e { number = second_in packet + 1 })
    (Unwrapped (header_in packet) value false) p

-- steps 8 and 10: the tag, the next number, and the handler
abbrev pub event_opened : Setup → Call → ℕ × End → List ℕ → Option (List ℕ) → Progress → Invoked
event_opened s c e packet None p = Returns other_tag p
event_opened s c e packet (Some body) p =
    finished (handled s c (event.Input e.1.port (word body 0))
    (number_taken e.0 packet (take value_size body) (end_of p.state.ends e.0) p))

-- step 7: the number
abbrev pub event_numbered : Setup → Call → ℕ × End → List ℕ → EndState → Progress → Invoked
event_numbered s c e packet state p =
    if nat_lt (second_in packet) state.number || (second_in packet == last_number) then
    Returns past_number p
    else event_opened s c e packet (unwrapped s.mac state.key (header_in packet)
    (take value_size (drop header_size packet)) (drop value_tag_at packet)) p

-- step 6: the end
abbrev pub input_at : Setup → Call → List ℕ → Option (ℕ × End) → Progress → Invoked
input_at s c packet None p = Returns no_end p
input_at s c packet (Some e) p =
    let state = end_of p.state.ends e.0 in
    if not state.is_open || not (epoch_of state.field == epoch_of (field_in packet)) then
    Returns no_end p
    else event_numbered s c e packet state p

-- steps 6 to 10 of entry 2
abbrev pub input : Setup → Call → List ℕ → Progress → Invoked
input s c packet p = input_at s c packet (end_found (link_of (field_in packet)) To 0 s.ends) p

-- Entry 3, sample.

-- the sample is read: the sensor is no longer fresh
abbrev pub sample_read : ℕ × Window → Progress → Progress
sample_read d p =
    record p { devices = cleared p.devices d.0; marks = p.marks ++ Sampled d.0 d.1.value ∷ [] }

-- steps 9 and 10: the sensor is fresh, and the handler runs with its value
abbrev pub sample_of : Setup → Call → Option (ℕ × Window) → Progress → Invoked
sample_of s c None p = Returns no_sample p
sample_of s c (Some d) p =
    if d.1.fresh then finished (handled s c (event.Sample d.1.value) (sample_read d p)) else
    Returns no_sample p

-- steps 9 and 10 of entry 3
abbrev pub sample : Setup → Call → Progress → Invoked
sample s c p = sample_of s c (own_window s p.devices) p
