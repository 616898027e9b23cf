-- What each operation of stack code does.
use Rattle.std.specs.Prelude.{◌≡◌, ℕ, zero, suc, ◌+◌, ◌-◌, ◌*◌, ◌%◌, ◌==◌, nat_lt, nat_le, Bool}
use Rattle.std.specs.Prelude.{true, false, ◌&&◌, ◌||◌, not, if◌then◌else◌, List, [], ◌∷◌, ◌++◌}
use Rattle.std.specs.Prelude.{length, take, slice_get}
use Rattle.std.specs.List.{list_any}
use Rattle.std.specs.Prelude.{Option, Some, None, Result, Ok, Err}
use Rattle.sx_lang.specs.declared.tree.UnOp.TheVariants as unary
use Rattle.sx_lang.specs.declared.tree.BinOp.TheVariants as binary
use Rattle.sx_mean.specs.Meaning.{apply, combine}
use Rattle.sx_rules.specs.declared.access.Violation.{Violation}
use Rattle.sx_rules.specs.declared.access.Violation.TheVariants as bad
use Rattle.sx_rules.specs.Access.{in_public}
use Rattle.sx_bus.specs.declared.devices.Kind.{Kind}
use Rattle.sx_bus.specs.declared.devices.Kind.TheVariants as kind
use Rattle.sx_bus.specs.declared.devices.Window.{Window}
use Rattle.sx_bus.specs.Devices.{cleared}
use Rattle.sx_tag.specs.Wrap.{Wrapped, wrapped, unwrapped}
use Rattle.spec_machine.specs.Memory.{even, word, put_word, bytes_from, put_bytes}
use Rattle.sx_image.specs.Reach.{Stepped, Goes, Stops, Comes}
use Rattle.sx_mean.specs.Offsets as offsets
use Rattle.sx_mean.specs.Working as working
use Rattle.spec_invocation.specs.Protocol.{input_register, output_register, back_register}
use Rattle.spec_invocation.specs.Protocol.{entry_register, event_size, key_size, last_number}
use Rattle.spec_invocation.specs.Pieces.{tag_size, made_bytes}
use Rattle.spec_invocation.specs.ModuleState.{EndState, end_state}
use Rattle.spec_invocation.specs.Marks as mark
use Rattle.spec_invocation.specs.Marks.{Mark}
use Rattle.spec_invocation.specs.Setup.{Setup}
use Rattle.spec_invocation.specs.Windows.{in_window_size, out_window_size, is_bad_window, two, read_bytes}
use Rattle.spec_invocation.specs.Windows.{write_bytes}
use Rattle.spec_invocation.specs.Acts.{event_header, event_packet, own_window}
use Rattle.sx_ir.specs.Conf.{Conf, Halt, Violates, Stuck}
use Rattle.sx_ir.specs.Counts.{count_of}
use Rattle.sx_ir.specs.declared.ir.IrOp.{IrOp}
use Rattle.sx_ir.specs.declared.ir.IrOp.TheVariants as op
use Rattle.sx_ir.specs.declared.ir.Ir.{Ir}
use Rattle.sx_ir.specs.declared.ir.Ir.TheVariants as ir
use Rattle.lemmas.specs.Truth.{truth}

-- what an operation leads to
abbrev pub OperationResult : Type 0
OperationResult = Stepped Conf Halt

-- an operation without meaning
abbrev pub stuck : OperationResult
stuck = Stops Stuck

-- goes on to the next operation with this stack
abbrev pub next : Conf → List ℕ → Conf
next c stack = record c { place = c.place + 1; stack = stack }

-- takes the top word, where there is one
abbrev pub on_top : List ℕ → (ℕ → List ℕ → OperationResult) → OperationResult
on_top [] go = stuck
on_top (x ∷ rest) go = go x rest

-- only where this holds
abbrev pub when : Bool → OperationResult → OperationResult
when b go = if b then go else stuck

-- a word is pushed, where the stack has room
abbrev pub pushed : Conf → ℕ → OperationResult
pushed c v = when (nat_lt (length c.stack) working.stack_words) (Goes (next c (v ∷ c.stack)))

-- the upper word is the right operand
abbrev pub operated : IrOp → Conf → OperationResult
operated op.Add c = on_top c.stack (λ y below.
    on_top below (λ x rest. Goes (next c (combine binary.Add x y ∷ rest))))
operated op.Sub c = on_top c.stack (λ y below.
    on_top below (λ x rest. Goes (next c (combine binary.Sub x y ∷ rest))))
operated op.Mul c = on_top c.stack (λ y below.
    on_top below (λ x rest. Goes (next c (combine binary.Mul x y ∷ rest))))
operated op.And c = on_top c.stack (λ y below.
    on_top below (λ x rest. Goes (next c (combine binary.And x y ∷ rest))))
operated op.Or c = on_top c.stack (λ y below.
    on_top below (λ x rest. Goes (next c (combine binary.Or x y ∷ rest))))
operated op.Xor c = on_top c.stack (λ y below.
    on_top below (λ x rest. Goes (next c (combine binary.Xor x y ∷ rest))))
operated op.Eq c = on_top c.stack (λ y below.
    on_top below (λ x rest. Goes (next c (combine binary.Eq x y ∷ rest))))
operated op.Lt c = on_top c.stack (λ y below.
    on_top below (λ x rest. Goes (next c (combine binary.Lt x y ∷ rest))))
operated op.Neg c = on_top c.stack (λ x rest. Goes (next c (apply unary.Neg x ∷ rest)))
operated op.Inv c = on_top c.stack (λ x rest. Goes (next c (apply unary.Inv x ∷ rest)))
operated op.Not c = on_top c.stack (λ x rest. Goes (next c (apply unary.Not x ∷ rest)))

-- past an array's end a read gives 0 and a write does nothing
abbrev pub element : List ℕ → ℕ → ℕ → ℕ → ℕ
element priv o n i = if nat_lt i n then word priv (o + 2 * i) else 0

-- the private section with an element of an array stored; past the array's end nothing is stored
abbrev pub with_element : List ℕ → ℕ → ℕ → ℕ → ℕ → List ℕ
with_element priv o n i v = if nat_lt i n then put_word priv (o + 2 * i) v else priv

-- the caller's register
abbrev pub saved : Conf → ℕ → ℕ
saved c r = word c.priv (working.saved_at r)

-- the count of pieces
abbrev pub pieces : Conf → ℕ
pieces c = word c.priv working.pieces_at

-- the in-window is one that a caller may give
abbrev pub has_in_window : Setup → Conf → Bool
has_in_window s c = not (is_bad_window s (saved c input_register) in_window_size)

-- the out-window is one that a caller may give
abbrev pub has_out_window : Setup → Conf → Bool
has_out_window s c = not (is_bad_window s (saved c output_register) out_window_size)

-- a copy to the out-window that was made, or was refused
abbrev pub copied_out : Result (List ℕ) Violation → Conf → (List ℕ → Conf) → OperationResult
copied_out (Ok mem) c after = Goes (after mem)
copied_out (Err v) c after = Stops (Violates v c.marks)

-- the packet of the k-th end: its wrap's mark comes before the copy, and then number and count rise
abbrev pub packed : Conf → ℕ → EndState → List ℕ → Conf
packed c k e mem = record (next c c.stack) {
  priv = put_word (put_word c.priv (offsets.end_number_at k) (e.number + 1)) working.pieces_at
      (pieces c + 1);
  mem = mem;
}

-- the wrap of an event has made its mark
abbrev pub sealed_event : Conf → EndState → ℕ → Conf
sealed_event c e v =
    record c { marks = c.marks ++ mark.Wrapped (event_header e) (two v) false ∷ [] }

-- A packet's bytes lie in the out-window, and after no more bytes than the marks have made. So what
-- is written before the exit lies where the pieces go.
abbrev pub has_packet_room : Conf → Bool
has_packet_room c =
    nat_le (event_size * pieces c + event_size) out_window_size
    && nat_le (event_size * pieces c) (made_bytes c.marks)

-- a packet of an open end
abbrev pub send_open : Setup → Conf → ℕ → ℕ → EndState → OperationResult
send_open s c k v e =
    when (has_packet_room c)
    (copied_out (write_bytes s c.devices c.mem
    (saved c output_register + event_size * pieces c) (event_packet s e v)) (sealed_event c e v)
    (packed (sealed_event c e v) k e))

-- a packet, where the end is open and its number below the last
abbrev pub send : Setup → Conf → ℕ → ℕ → EndState → OperationResult
send s c k v e =
    when (has_out_window s c) (if e.is_open && nat_lt e.number last_number then
    send_open s c k v e else Goes (next c c.stack))

-- a write to an actuator
abbrev pub emitted : Conf → ℕ → List ℕ → Kind → ℕ → OperationResult
emitted c v rest kind.Actuator device =
    Goes (record (next c rest) { marks = c.marks ++ mark.Actuated device v ∷ [] })
emitted c v rest kind.Sensor device = stuck

-- a write to the module's device
abbrev pub emit : Conf → ℕ → List ℕ → Option (ℕ × Window) → OperationResult
emit c v rest None = stuck
emit c v rest (Some d) = emitted c v rest d.1.kind d.0

-- a read of a sensor: 0 where it is not fresh
abbrev pub sensor_read : Conf → ℕ → Window → Kind → OperationResult
sensor_read c device w kind.Sensor =
    if w.fresh then pushed (record c {
      devices = cleared c.devices device;
      marks =
          c.marks ++ mark.Sampled device w.value ∷ [];
    }) (0x8000 + w.value)
    else pushed c 0
sensor_read c device w kind.Actuator = stuck

-- a read of the module's device
abbrev pub sense : Conf → Option (ℕ × Window) → OperationResult
sense c None = stuck
sense c (Some d) = sensor_read c d.0 d.1 d.1.kind

-- a copy from the in-window that was made, or was refused
abbrev pub copied_in : Conf → ℕ → Result (List ℕ) Violation → OperationResult
copied_in c o (Ok bytes) = Goes (record (next c c.stack) { priv = put_bytes c.priv o bytes })
copied_in c o (Err v) = Stops (Violates v c.marks)

-- n bytes of the in-window to an offset
abbrev pub copy_in : Setup → Conf → ℕ → ℕ → OperationResult
copy_in s c n o = when (has_in_window s c && nat_le n in_window_size)
    (copied_in c o (read_bytes s c.devices c.mem (saved c input_register) n))

-- the bytes at the out-window's offset lie in it, and are no more than the marks have made
abbrev pub has_copy_room : Conf → ℕ → ℕ → Bool
has_copy_room c at n = nat_le (at + n) out_window_size && nat_le (at + n) (made_bytes c.marks)

-- n bytes at an offset to the out-window's offset
abbrev pub copy_out : Setup → Conf → ℕ → ℕ → ℕ → List ℕ → OperationResult
copy_out s c n o at rest =
    when (has_out_window s c && has_copy_room c at n)
    (copied_out (write_bytes s c.devices c.mem
    (saved c output_register + at) (bytes_from c.priv o n)) c
    (λ mem. record (next c rest) { mem = mem }))

-- the key at an offset, the module's own at 0
abbrev pub key_at : Setup → Conf → ℕ → List ℕ
key_at s c zero = s.section.key
key_at s c (suc k) = bytes_from c.priv (suc k) key_size

-- a wrap leaves its cipher and tag, and its mark
abbrev pub sealed : Conf → ℕ → ℕ → List ℕ → List ℕ → ℕ → Wrapped → OperationResult
sealed c k to ad body n w = Goes (record (next c c.stack) {
  priv = put_bytes (put_bytes c.priv to w.cipher) (to + n) w.tag;
  marks = c.marks ++ mark.Wrapped ad body (k == 0) ∷ [];
})

-- a wrap of the body at an offset under the header at another
abbrev pub seal : Setup → Conf → ℕ → ℕ → ℕ → ℕ → ℕ → OperationResult
seal s c k h hn b bn =
    let ad = bytes_from c.priv h hn in
    let body = bytes_from c.priv b bn in
    sealed c k (h + hn) ad body bn (wrapped s.mac (key_at s c k) ad body)

-- an unwrap that was accepted leaves its body and its mark
abbrev pub opened : Conf → ℕ → List ℕ → ℕ → ℕ → Option (List ℕ) → OperationResult
opened c k ad b bn None = pushed c 0
opened c k ad b bn (Some body) =
    pushed (record c {
      priv = put_bytes c.priv b (take bn body);
      marks =
          c.marks ++ mark.Unwrapped ad (take bn body) (k == 0) ∷ [];
    }) 1

-- an unwrap of the cipher and tag after a header
abbrev pub unseal : Setup → Conf → ℕ → ℕ → ℕ → ℕ → ℕ → OperationResult
unseal s c k h hn b bn =
    let ad = bytes_from c.priv h hn in
    opened c k ad b bn (unwrapped s.mac (key_at s c k) ad (bytes_from c.priv (h + hn) bn)
    (bytes_from c.priv (h + hn + bn) tag_size))

-- the k-th slot with a key, a connection field, and number 0
abbrev pub slot_keyed : List ℕ → ℕ → ℕ → List ℕ → List ℕ
slot_keyed priv k field key =
    put_bytes (put_word (put_word (put_word priv (offsets.end_at k) field) (offsets.end_number_at k)
    0) (offsets.end_open_at k) 1) (offsets.end_key_at k) key

-- the k-th end is opened with the copied packet's field and key
abbrev pub set_end : Conf → ℕ → OperationResult
set_end c k = Goes (record (next c c.stack) {
  priv =
      slot_keyed c.priv k (word c.priv (working.packet_at + 2))
      (bytes_from c.priv working.plain_at key_size);
})

-- a handler's part ends: the run goes on where the part was begun from
abbrev pub stop : Conf → Option ℕ → OperationResult
stop c None = stuck
stop c (Some p) = Goes (record c { place = p; back = None })

-- a jump where the word is 0
abbrev pub jump_zero : Conf → ℕ → ℕ → List ℕ → OperationResult
jump_zero c p zero rest = Goes (record c { place = p; stack = rest })
jump_zero c p (suc v) rest = Goes (next c rest)

-- the registers of a call are saved
abbrev pub is_saved : ℕ → Bool
is_saved r = nat_le entry_register r && nat_le r back_register

-- The operation at a configuration's place. What `Handler` does is given: `handle` has the
-- handler's number and the configuration with a count of pieces of 0.
abbrev pub do_op : Setup → (ℕ → Conf → OperationResult) → Ir → Conf → OperationResult
do_op s handle (ir.Push n) c = pushed c n
do_op s handle (ir.Load o) c = pushed c (word c.priv o)
do_op s handle (ir.Store o) c =
    on_top c.stack (λ x rest. Goes (record (next c rest) { priv = put_word c.priv o x }))
do_op s handle (ir.LoadAt o n) c =
    on_top c.stack (λ i rest. Goes (next c (element c.priv o n i ∷ rest)))
do_op s handle (ir.StoreAt o n) c =
    on_top c.stack (λ v below. on_top below (λ i rest.
    Goes (record (next c rest) { priv = with_element c.priv o n i v })))
do_op s handle (ir.Op f) c = operated f c
do_op s handle (ir.Jump p) c = Goes (record c { place = p })
do_op s handle (ir.JumpZero p) c = on_top c.stack (jump_zero c p)
do_op s handle (ir.JumpEqual o n p) c =
    Goes (record c { place = if word c.priv o == n then p else c.place + 1 })
do_op s handle (ir.Packet k) c = on_top c.stack (λ v rest. send s c k v (end_state c.priv k))
do_op s handle ir.Drop c = on_top c.stack (λ x rest. Goes (next c rest))
do_op s handle ir.Emit c = on_top c.stack (λ x rest. emit c x rest (own_window s c.devices))
do_op s handle ir.Stop c = stop c c.back
do_op s handle (ir.Saved r) c = when (is_saved r) (pushed c (saved c r))
do_op s handle ir.Inside c = if in_public s.section (even (saved c back_register)) then
    Stops (Violates bad.Illegal c.marks) else Goes (next c c.stack)
do_op s handle (ir.Meets r n) c =
    when (is_saved r) (pushed c (truth (is_bad_window s (saved c r) n)))
do_op s handle (ir.CopyIn n o) c = copy_in s c n o
do_op s handle (ir.CopyOut n o) c = on_top c.stack (copy_out s c n o)
do_op s handle (ir.Seal k h hn b bn) c = seal s c k h hn b bn
do_op s handle (ir.Open k h hn b bn) c = unseal s c k h hn b bn
do_op s handle (ir.SetEnd k) c = set_end c k
do_op s handle ir.Sense c = sense c (own_window s c.devices)
do_op s handle (ir.Handler h) c = handle h (record c { priv = put_word c.priv working.pieces_at 0 })
do_op s handle ir.Leave c = stuck

-- None of n bytes from an offset on may be a key's, where there are this many ends: neither in the
-- copied packet's plain body nor in the key of a slot, which is all of it but the first 8 bytes.
abbrev pub is_shown : ℕ → ℕ → ℕ → Bool
is_shown ends o n =
    (nat_le (o + n) working.plain_at || nat_le (working.plain_at + key_size) o)
    && (nat_le (o + n) (offsets.end_key_at 0) || (nat_le (offsets.end_at ends) o
    || nat_le ((o - offsets.slots_at) % offsets.slot_size + n) 8))

-- an element of an array holds no key, where there is one at this index
abbrev pub is_shown_element : ℕ → ℕ → ℕ → ℕ → Bool
is_shown_element ends o n i = not (nat_lt i n) || is_shown ends (o + 2 * i) 2

-- a key lies there, for a wrap or an unwrap: the module's own at 0, or one in a slot
abbrev pub is_key_place : ℕ → ℕ → Bool
is_key_place ends k = (k == 0) || (nat_le (offsets.end_key_at 0) k
    && (nat_lt k (offsets.end_at ends) && ((k - offsets.end_key_at 0) % offsets.slot_size == 0)))

-- what is unwrapped under the own key may be a key, and goes where one may be
abbrev pub is_body_place : ℕ → ℕ → ℕ → Bool
is_body_place k b bn = not (k == 0) || ((b == working.plain_at) && nat_le bn key_size)

-- a wrap under the own key has no body: its cipher would differ where the keys do
abbrev pub is_sealed_body : ℕ → ℕ → Bool
is_sealed_body k bn = not (k == 0) || (bn == 0)

-- An operation, with this stack, names no byte that may be a key's but as the key of a wrap or an
-- unwrap, where there are this many ends.
abbrev pub names_no_key : ℕ → Ir → List ℕ → Bool
names_no_key ends (ir.Load o) stack = is_shown ends o 2
names_no_key ends (ir.Store o) stack = is_shown ends o 2
names_no_key ends (ir.LoadAt o n) (i ∷ rest) = is_shown_element ends o n i
names_no_key ends (ir.StoreAt o n) (v ∷ i ∷ rest) = is_shown_element ends o n i
names_no_key ends (ir.JumpEqual o n p) stack = is_shown ends o 2
names_no_key ends (ir.Packet k) stack = nat_lt k ends
names_no_key ends (ir.CopyOut n o) stack = is_shown ends o n
names_no_key ends (ir.Seal k h hn b bn) stack =
    is_key_place ends k
    && (is_sealed_body k bn && (is_shown ends h hn && is_shown ends b bn))
names_no_key ends (ir.Open k h hn b bn) stack =
    is_key_place ends k && (is_shown ends h (hn + bn + tag_size) && is_body_place k b bn)
names_no_key ends (ir.SetEnd k) stack = nat_lt k ends
names_no_key ends i stack = true

-- None of n bytes from an offset on is in a slot but in its number, where there are this many ends.
abbrev pub spares_slots : ℕ → ℕ → ℕ → Bool
spares_slots ends o n =
    nat_le (o + n) offsets.slots_at || (nat_le (offsets.end_at ends) o
    || (((o - offsets.slots_at) % offsets.slot_size == 2) && nat_le n 2))

-- the mark of a key: of an unwrap under the module's own key
abbrev pub is_key_mark : Mark → Bool
is_key_mark (mark.Unwrapped ad body own) = own
is_key_mark m = false

-- a key was unwrapped so far
abbrev pub has_key_mark : List Mark → Bool
has_key_mark marks = list_any is_key_mark marks

-- the slot whose key lies there is open
abbrev pub is_open_slot : List ℕ → ℕ → Bool
is_open_slot priv k = not (word priv (k - 4) == 0)

-- the own key, or that of an open slot while no key was unwrapped
abbrev pub is_key_kept : Conf → ℕ → Bool
is_key_kept c k = (k == 0) || (is_open_slot c.priv k && not (has_key_mark c.marks))

-- An operation writes no slot but its number, or opens it after a key was unwrapped; and it wraps
-- and unwraps under the key of a slot that is open and as it was at the call.
abbrev pub keeps_slots : ℕ → Ir → Conf → Bool
keeps_slots ends (ir.Store o) c = spares_slots ends o 2
keeps_slots ends (ir.StoreAt o n) c = spares_slots ends o (2 * n)
keeps_slots ends (ir.Packet k) c = not (has_key_mark c.marks)
keeps_slots ends (ir.CopyIn n o) c = spares_slots ends o n
keeps_slots ends (ir.Seal k h hn b bn) c =
    (k == 0) && spares_slots ends (h + hn) (bn + tag_size)
keeps_slots ends (ir.Open k h hn b bn) c = spares_slots ends b bn && is_key_kept c k
keeps_slots ends (ir.SetEnd k) c = has_key_mark c.marks
keeps_slots ends i c = true

-- the operation at the place, where there is one that names no key and keeps the slots
abbrev pub do_at : Setup → (ℕ → Conf → OperationResult) → Option Ir → Conf → OperationResult
do_at s handle None c = stuck
do_at s handle (Some i) c =
    when (keeps_slots (length s.ends) i c && names_no_key (length s.ends) i c.stack)
    (do_op s handle i c)

-- one operation
unfoldable pub op_step : Setup → (ℕ → Conf → OperationResult) → List Ir → Conf → OperationResult
op_step s handle code c = do_at s handle (slice_get code c.place) c

-- the instructions that a given handler takes
abbrev pub handler_count : (ℕ → ℕ) → Ir → ℕ
handler_count given (ir.Handler h) = given h
handler_count given i = 0

-- the instructions of the operation at the place
abbrev pub count_at : (ℕ → ℕ) → Option Ir → ℕ
count_at given None = 0
count_at given (Some i) = count_of i + handler_count given i

-- the instructions of the operation at a configuration's place, and those that a given handler
-- takes
unfoldable pub op_count : (ℕ → ℕ) → List Ir → Conf → ℕ
op_count given code c = count_at given (slice_get code c.place)

-- The part of a handler, in joined code: it is begun with the place to return to, and `Stop`
-- returns there.
abbrev pub part_from : List (ℕ × ℕ) → ℕ → Conf → OperationResult
part_from [] h c = stuck
part_from (part ∷ parts) zero c = Goes (record c { place = part.0; back = Some (c.place + 1) })
part_from (part ∷ parts) (suc h) c = part_from parts h c

-- the instructions of a `Handler` are its own, without those of its part, which is in the code
abbrev pub no_count : ℕ → ℕ
no_count h = 0

-- the run is at `Leave`, with a status and a number of pieces
pub record Leaving (code : List Ir) (status count : ℕ) (c : Conf) : Type 0 where
  pub rest : List ℕ
  pub at : slice_get code c.place ≡ Some ir.Leave
  pub stack : c.stack ≡ count ∷ status ∷ rest

-- the run is at `Stop`
pub record Stopping (code : List Ir) (c : Conf) : Type 0 where
  pub at : slice_get code c.place ≡ Some ir.Stop

-- where a run of stack code may end in a violation
abbrev pub OnViolation : (Violation → List Mark → Type 0) → Conf → Halt → Type 0
OnViolation B c (Violates v marks) = B v marks
OnViolation B c Stuck = ⊥

-- From this configuration the code comes to one of Q, or ends with a violation and marks of B,
-- within this many instructions, and meets no operation without meaning.
abbrev pub CodeReaches : Setup → (ℕ → Conf → OperationResult) → (ℕ → ℕ) → List Ir
    → (Violation → List Mark → Type 0) → (Conf → Type 0) → ℕ → Conf → Type 0
CodeReaches s handle given code B Q n c =
    Comes Conf Halt (op_step s handle code) (op_count given code)
    (λ c. Unit {0}) (OnViolation B) Q n c
