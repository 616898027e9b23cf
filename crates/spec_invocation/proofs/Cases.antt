-- Worked cases of invocations, by computation, over a toy tag.
use Rattle.std.proofs.Common.{◌≡◌, ℕ, List, [], ◌∷◌, ◌++◌, refl, Option, Some, None}
use Rattle.std.specs.Prelude.{replicate, length, take, Bool, true, false}
use Rattle.sx_lang.specs.declared.sides.Side.TheVariants.{From, To}
use Rattle.sx_lang.specs.declared.tree.Decl.TheVariants.{Device, Input, Output}
use Rattle.sx_lang.specs.declared.tree.DeviceKind.TheVariants.{Sensor}
use Rattle.sx_lang.specs.Tree.{Variable, Sends, Done, Then, HandlerTree, ModuleTree}
use Rattle.sx_mean.specs.declared.events.End.{End}
use Rattle.sx_rules.specs.declared.section.Section.{Section}
use Rattle.sx_rules.specs.Access.{may}
use Rattle.sx_bus.specs.declared.devices.Kind.TheVariants as kind
use Rattle.sx_tag.specs.Weak.{weak}
use Rattle.sx_tag.specs.Wrap.{wrapped, crypt, wrap_tag, unwrapped}
use Rattle.spec_invocation.specs.Setup.{Setup, Call}
use Rattle.spec_invocation.specs.ModuleState.{initial_state, state_of, end_state}
use Rattle.spec_invocation.specs.Windows.{read_byte, read_bytes, write_byte, write_bytes}
use Rattle.spec_invocation.specs.Progress.{Progress, Invoked, Returns, Violates}
use Rattle.spec_invocation.specs.Invocation.{invoke, entered}
use Rattle.spec_invocation.specs.Acts.{handled, with_packet}

own : Section
own = record { layout = record { pub_from = 4000; pub_to = 8000; priv_from = 1000; priv_to = 1560 }; provider = 7; id = 1; key = replicate 16 3 }

abbrev handler : HandlerTree
handler = record { input = Some (97 ∷ []); param = 118 ∷ []; body = Then (Sends (98 ∷ []) (Variable (118 ∷ []))) Done }

-- input a; output b; on a(v) { send b(v); }
abbrev tree : ModuleTree
tree = record { decls = Input (97 ∷ []) ∷ Output (98 ∷ []) ∷ []; handlers = handler ∷ [] }

abbrev ends : List End
ends = record { link = 0; side = To; port = 0 } ∷ record { link = 1; side = From; port = 0 } ∷ []

abbrev setup : Setup
setup = record { mac = weak; section = own; live = own ∷ []; tree = tree; ends = ends }

abbrev first : List ℕ → Progress
first mem = record { state = initial_state tree ends; mem = mem; devices = []; marks = []; pieces = [] }

-- with the in-window at 0 and the out-window at 2000
abbrev call : ℕ → Call
call entry = record { entry = entry; input = 0; output = 2000; back = 100 }

abbrev outcome : Invoked → Option ℕ
outcome (Returns status p) = Some status
outcome (Violates v p) = None

-- the status, or 0 at a violation; the pieces; and the marks
abbrev counts : Invoked → List ℕ
counts (Returns status p) = status ∷ length p.pieces ∷ length p.marks ∷ []
counts (Violates v p) = 0 ∷ length p.pieces ∷ length p.marks ∷ []

abbrev after : Invoked → Progress
after (Returns status p) = p
after (Violates v p) = p

-- a set-key packet for the receiving end of connection 0
abbrev header : List ℕ
header = 1 ∷ 0 ∷ 0 ∷ 0 ∷ 1 ∷ 0 ∷ []

abbrev set_key_packet : List ℕ → List ℕ → List ℕ
set_key_packet header key = let w = wrapped weak (replicate 16 3) header key in header ++ w.cipher ++ w.tag

-- an event packet with a number's low and high byte
abbrev event_at : ℕ → ℕ → ℕ → List ℕ
event_at low high v = let h = 3 ∷ 0 ∷ 0 ∷ 0 ∷ low ∷ high ∷ [] in let w = wrapped weak (replicate 16 9) h (v ∷ 0 ∷ []) in h ++ w.cipher ++ w.tag

abbrev event_of : ℕ → ℕ → List ℕ
event_of number v = event_at number 0 v

entry_seven : outcome (invoke setup (call 7) (first [])) ≡ Some 2
unfolding invoke own
entry_seven = refl

entry_four : outcome (invoke setup (call 4) (first [])) ≡ Some 2
unfolding invoke own
entry_four = refl

sample_without_sensor : outcome (invoke setup (call 3) (first [])) ≡ Some 2
unfolding invoke own
sample_without_sensor = refl

returns_inside : outcome (invoke setup (record (call 7) { back = 4001 }) (first [])) ≡ None
unfolding invoke own
returns_inside = refl

window_in_private : outcome (invoke setup (record (call 2) { input = 990 }) (first [])) ≡ Some 3
unfolding invoke own
window_in_private = refl

window_past_the_end : outcome (invoke setup (record (call 2) { output = 65153 }) (first [])) ≡ Some 3
unfolding invoke own
window_past_the_end = refl

window_at_the_end : outcome (invoke setup (record (call 2) { output = 65152 }) (first [])) ≡ Some 4
unfolding invoke entered read_byte read_bytes may own
window_at_the_end = refl

-- a set-key packet twice: 1, then 5
keyed_once : outcome (invoke setup (call 0) (first (set_key_packet header (replicate 16 9)))) ≡ Some 1
unfolding invoke entered read_byte read_bytes may own unwrapped crypt wrap_tag weak
keyed_once = refl

abbrev opened : Progress
opened = after (invoke setup (call 0) (first (set_key_packet header (replicate 16 9))))

keyed_twice : outcome (invoke setup (call 0) (record (first (set_key_packet header (replicate 16 9))) { state = opened.state })) ≡ Some 5
unfolding invoke entered read_byte read_bytes may own unwrapped crypt wrap_tag weak
keyed_twice = refl

-- an event: closed 5, then open 1, with no packet of the closed sending end, then again 6
event_closed : outcome (invoke setup (call 2) (first (event_of 0 5))) ≡ Some 5
unfolding invoke entered read_byte read_bytes may own unwrapped crypt wrap_tag weak
event_closed = refl

event_once : counts (invoke setup (call 2) (record (first (event_of 0 5)) { state = opened.state })) ≡ 1 ∷ 0 ∷ 1 ∷ []
unfolding invoke entered read_byte read_bytes may own unwrapped crypt wrap_tag weak handled with_packet
event_once = refl

abbrev took : Progress
took = after (invoke setup (call 2) (record (first (event_of 0 5)) { state = opened.state }))

event_twice : outcome (invoke setup (call 2) (record (first (event_of 0 5)) { state = took.state })) ≡ Some 6
unfolding invoke entered read_byte read_bytes may own unwrapped crypt wrap_tag weak handled with_packet
event_twice = refl

-- the last number is refused
event_last : outcome (invoke setup (call 2) (record (first (event_at 255 255 5)) { state = opened.state })) ≡ Some 6
unfolding invoke entered read_byte read_bytes may own unwrapped crypt wrap_tag weak handled with_packet
event_last = refl

-- with a wrong tag 7
event_forged : outcome (invoke setup (call 2) (record (first (take 23 (event_of 1 5) ++ 1 ∷ [])) { state = took.state })) ≡ Some 7
unfolding invoke entered read_byte read_bytes may own unwrapped crypt wrap_tag weak handled with_packet
event_forged = refl

-- the sending end opened too: one piece of 24 bytes and two marks
abbrev both : Progress
both = after (invoke setup (call 0) (record (first (set_key_packet (1 ∷ 0 ∷ 1 ∷ 0 ∷ 0 ∷ 0 ∷ []) (replicate 16 9))) { state = opened.state }))

sends_once : counts (invoke setup (call 2) (record (first (event_of 0 5)) { state = both.state })) ≡ 1 ∷ 1 ∷ 2 ∷ []
unfolding invoke entered read_byte read_bytes write_byte write_bytes may own unwrapped crypt wrap_tag weak handled with_packet
sends_once = refl

-- where the out-window meets the module's own public section, the ninth byte of the packet is refused after its wrap
copy_refused : counts (invoke setup (record (call 2) { output = 3992 }) (record (first (event_of 0 5)) { state = both.state })) ≡ 0 ∷ 1 ∷ 2 ∷ []
unfolding invoke entered read_byte read_bytes write_byte write_bytes may own unwrapped crypt wrap_tag weak handled with_packet
copy_refused = refl

-- device sensor; on sample(v) { }
abbrev sensing : Setup
sensing = record setup { tree = record { decls = Device Sensor ∷ []; handlers = record { input = None; param = 118 ∷ []; body = Done } ∷ [] } }

abbrev with_sensor : Bool → Progress
with_sensor fresh = record (first []) { devices = record { at = 1000; kind = kind.Sensor; value = 5; fresh = fresh } ∷ [] }

sample_stale : outcome (invoke sensing (call 3) (with_sensor false)) ≡ Some 8
unfolding invoke entered own
sample_stale = refl

sample_fresh : counts (invoke sensing (call 3) (with_sensor true)) ≡ 1 ∷ 0 ∷ 1 ∷ []
unfolding invoke entered own handled
sample_fresh = refl

-- an answer is one piece, and one wrap
attested : counts (invoke setup (call 1) (first (2 ∷ 0 ∷ replicate 16 4))) ≡ 1 ∷ 1 ∷ 1 ∷ []
unfolding invoke entered read_byte read_bytes write_byte write_bytes may own wrap_tag weak
attested = refl

-- a private section of zeros
zeros : state_of tree ends (replicate 560 0) ≡ initial_state tree ends
unfolding state_of end_state Rattle.spec_machine.specs.Memory.bytes_from
zeros = refl
