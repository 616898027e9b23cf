-- The entry protocol as stack code. Nobody has to believe this file for what an image realizes. It
-- has what each part of the protocol is, at the place where it begins.
use Rattle.std.specs.Prelude.{ℕ, ◌+◌, ◌*◌, Bool, true, false, if◌then◌else◌, List, [], ◌∷◌}
use Rattle.std.specs.Prelude.{◌++◌, length, Option, Some, None}
use Rattle.sx_lang.specs.declared.sides.Side.{Side}
use Rattle.sx_lang.specs.declared.sides.Side.TheVariants.{From, To}
use Rattle.sx_lang.specs.Tree.{ModuleTree}
use Rattle.sx_mean.specs.declared.events.End.{End}
use Rattle.sx_mean.specs.declared.events.SourceEvent.TheVariants as event
use Rattle.sx_mean.specs.Application.{declared_kind}
use Rattle.sx_mean.specs.Handlers.{number_of}
use Rattle.sx_mean.specs.Offsets as offsets
use Rattle.sx_mean.specs.Working as working
use Rattle.spec_invocation.specs.Protocol.{set_key_entry, attest_entry, input_entry, sample_entry}
use Rattle.spec_invocation.specs.Protocol.{entry_register, input_register, output_register}
use Rattle.spec_invocation.specs.Protocol.{all_done, no_entry, bad_window, other_kind, no_end}
use Rattle.spec_invocation.specs.Protocol.{past_number, other_tag, no_sample, last_number}
use Rattle.spec_invocation.specs.Protocol.{set_key_kind, ask_kind, event_kind}
use Rattle.spec_invocation.specs.Protocol.{set_key_size, ask_size, event_size, header_size}
use Rattle.spec_invocation.specs.Pieces.{tag_size}
use Rattle.spec_invocation.specs.Protocol.{key_size, value_size}
use Rattle.spec_invocation.specs.Windows.{in_window_size, out_window_size}
use Rattle.spec_invocation.specs.Invocation.{is_sensor_driver}
use Rattle.sx_ir.specs.declared.ir.IrOp.TheVariants as op
use Rattle.sx_ir.specs.declared.ir.Ir.{Ir}
use Rattle.sx_ir.specs.declared.ir.Ir.TheVariants as ir
use Rattle.lemmas.specs.Truth.{truth}

-- Until a handler begins, the words of its locals keep which end a packet is for.

-- what is searched for
abbrev pub wanted_at : ℕ
wanted_at = working.locals_at

-- where the slot of the end that was found begins, counted in words of the slots
abbrev pub index_at : ℕ
index_at = wanted_at + 2

-- The words of a copied packet.

-- its kind
abbrev pub kind_at : ℕ
kind_at = working.packet_at

-- its connection field
abbrev pub field_at : ℕ
field_at = kind_at + 2

-- its end field or number
abbrev pub second_at : ℕ
second_at = field_at + 2

-- how many words a slot has
abbrev pub slot_words : ℕ
slot_words = 12

-- a return with this status, without a piece
abbrev pub returns : ℕ → List Ir
returns status = ir.Push status ∷ ir.Push 0 ∷ ir.Leave ∷ []

-- such a return where the test leaves a word other than 0
abbrev pub refuse_if : ℕ → List Ir → ℕ → List Ir
refuse_if place test status = test ++ ir.JumpZero (place + length test + 4) ∷ returns status

-- such a return where the test leaves 0; without a test it is the word on the stack that is tested
abbrev pub refuse_unless : ℕ → List Ir → ℕ → List Ir
refuse_unless place test status =
    test ++ ir.JumpZero (place + length test + 2) ∷ ir.Jump (place + length test + 5)
    ∷ returns status

-- such a return, with status 4, where a packet begins with another kind
abbrev pub refuse_kind : ℕ → ℕ → List Ir
refuse_kind place kind = ir.JumpEqual kind_at kind (place + 4) ∷ returns other_kind

-- goes on at a place where the caller's entry is this one
abbrev pub jump_on : ℕ → ℕ → List Ir
jump_on entry place = ir.JumpEqual (working.saved_at entry_register) entry place ∷ []

-- One case for each end that has it: where the word at an offset is the case's number, its body,
-- else the next case. The number depends on the end and its place among the ends, the body also on
-- its own place in the code.
pub record Cases : Type 0 where
  pub offset : ℕ
  pub has : End → Bool
  pub number : ℕ → End → ℕ
  pub body : ℕ → ℕ → End → List Ir

-- the case of the k-th end
abbrev pub case_of : Cases → ℕ → ℕ → End → List Ir
case_of cs place k e =
    let body = cs.body (place + 2) k e in
    if cs.has e then ir.JumpEqual cs.offset (cs.number k e) (place + 2)
    ∷ ir.Jump (place + 2 + length body) ∷ body
    else []

-- the cases of ends, from the k-th on
abbrev pub cases : Cases → ℕ → ℕ → List End → List Ir
cases cs place k [] = []
cases cs place k (e ∷ es) =
    let here = case_of cs place k e in
    here ++ cases cs (place + length here) (k + 1) es

-- the side that receives
abbrev pub is_to : Side → Bool
is_to From = false
is_to To = true

-- each end has the case
abbrev pub every_end : End → Bool
every_end e = true

-- the receiving ends have it
abbrev pub is_receiving : End → Bool
is_receiving e = is_to e.side

-- where the slot of the k-th end begins, counted in words of the slots
abbrev pub index_of : ℕ → End → ℕ
index_of k e = slot_words * k

-- what a connection field and an end field name
abbrev pub named_end : ℕ → End → ℕ
named_end k e = e.link + 256 * truth (is_to e.side)

-- goes on to where the index is kept
abbrev pub with_index : ℕ → ℕ → ℕ → End → List Ir
with_index found place k e = ir.Push (index_of k e) ∷ ir.Jump found ∷ []

-- a word of the slot that was found: 0 its field, 1 its number, 2 whether it is open
abbrev pub slot_word : ℕ → ℕ → List Ir
slot_word ends n =
    ir.Load index_at ∷ ir.Push n ∷ ir.Op op.Add
    ∷ ir.LoadAt offsets.slots_at (slot_words * ends) ∷ []

-- the epoch of the field on top of the stack, times 256
abbrev pub epoch : List Ir
epoch = ir.Push 0xFF00 ∷ ir.Op op.And ∷ []

-- Set-key, and the cases in it.

-- the end that is looked for is found, whichever side it is of
abbrev pub find_any : ℕ → Cases
find_any found =
    record { offset = wanted_at; has = every_end; number = named_end; body = with_index found }

-- the slot of the k-th end is opened
abbrev pub open_end : ℕ → ℕ → End → List Ir
open_end place k e = ir.SetEnd k ∷ ir.Push all_done ∷ ir.Push 0 ∷ ir.Leave ∷ []

-- the slot of the end that was found is opened
abbrev pub open_any : Cases
open_any = record { offset = index_at; has = every_end; number = index_of; body = open_end }

-- the end field is neither 0 nor 1
abbrev pub is_no_side : List Ir
is_no_side = ir.Push 1 ∷ ir.Load second_at ∷ ir.Op op.Lt ∷ []

-- the end that the connection field and the end field name
abbrev pub wanted_end : List Ir
wanted_end =
    ir.Load field_at ∷ ir.Push 255 ∷ ir.Op op.And
    ∷ ir.Load second_at ∷ ir.Push 256 ∷ ir.Op op.Mul ∷ ir.Op op.Add ∷ []

-- the end is open with an epoch that isn't below the packet's
abbrev pub is_keyed_code : ℕ → List Ir
is_keyed_code ends =
    slot_word ends 2 ++ ir.Push 0 ∷ ir.Op op.Eq ∷ ir.Op op.Not
    ∷ (slot_word ends 0 ++ (epoch ++ ir.Load field_at
    ∷ (epoch ++ ir.Op op.Lt ∷ ir.Op op.Not ∷ ir.Op op.And ∷ [])))

-- of the end that was found: the tests, and then the slot's opening
abbrev pub key_found : List End → ℕ → List Ir
key_found ends place =
    refuse_if place (is_keyed_code (length ends)) no_end
    ++ ir.Open 0 working.packet_at header_size working.plain_at key_size
    ∷ (refuse_unless (place + 24) [] other_tag
    ++ cases open_any (place + 29) 0 ends)

-- the packet is copied and tested, and its end is searched for
abbrev pub set_key_code : ℕ → ℕ → List Ir
set_key_code search place =
    ir.CopyIn set_key_size working.packet_at
    ∷ (refuse_kind (place + 1) set_key_kind
    ++ (refuse_if (place + 5) is_no_side no_end
    ++ (wanted_end ++ ir.Store wanted_at ∷ ir.Jump search ∷ [])))

-- Attest.

-- where the answer's tag is made, after the ask
abbrev pub answer_at : ℕ
answer_at = working.packet_at + ask_size

-- the answer's tag is made and copied
abbrev pub answer_code : List Ir
answer_code =
    ir.Seal 0 working.packet_at ask_size working.plain_at 0 ∷ ir.Push 0
    ∷ ir.CopyOut tag_size answer_at ∷ ir.Push all_done ∷ ir.Push 1 ∷ ir.Leave ∷ []

-- the ask is copied, tested and answered
abbrev pub attest_code : ℕ → List Ir
attest_code place =
    ir.CopyIn ask_size working.packet_at
    ∷ (refuse_kind (place + 1) ask_kind ++ answer_code)

-- A handler, where there is one, and the return.
abbrev pub handled_by : Option ℕ → List Ir
handled_by None = ir.Push all_done ∷ ir.Push 0 ∷ ir.Leave ∷ []
handled_by (Some h) = ir.Handler h ∷ ir.Push all_done ∷ ir.Load working.pieces_at ∷ ir.Leave ∷ []

-- Input, and the cases in it.

-- a receiving end of the connection
abbrev pub wanted_receiving : List Ir
wanted_receiving =
    ir.Load field_at ∷ ir.Push 255 ∷ ir.Op op.And ∷ ir.Push 256 ∷ ir.Op op.Add ∷ []

-- the next number is above the packet's, and the handler runs
abbrev pub taken_code : ModuleTree → ℕ → End → List Ir
taken_code tree k e =
    ir.Load second_at ∷ ir.Push 1 ∷ ir.Op op.Add ∷ ir.Store (offsets.end_number_at k)
    ∷ handled_by (number_of tree (event.Input e.port 0))

-- the packet's value is unwrapped to where a handler finds it, and taken
abbrev pub take_event : ModuleTree → ℕ → ℕ → End → List Ir
take_event tree place k e =
    ir.Open (offsets.end_key_at k) working.packet_at header_size working.event_at value_size
    ∷ (refuse_unless (place + 1) [] other_tag ++ taken_code tree k e)

-- the receiving end that was found takes the packet
abbrev pub take_receiving : ModuleTree → Cases
take_receiving tree =
    record { offset = index_at; has = is_receiving; number = index_of; body = take_event tree }

-- the end is open
abbrev pub is_open_code : ℕ → List Ir
is_open_code ends = slot_word ends 2

-- its epoch isn't the packet's
abbrev pub is_other_epoch : ℕ → List Ir
is_other_epoch ends =
    slot_word ends 0 ++ (epoch ++ ir.Load field_at ∷ (epoch ++ ir.Op op.Sub ∷ []))

-- the packet's number is below the next one
abbrev pub is_past_number : ℕ → List Ir
is_past_number ends = ir.Load second_at ∷ (slot_word ends 1 ++ ir.Op op.Lt ∷ [])

-- there is a number above it
abbrev pub has_number_above : List Ir
has_number_above = ir.Load second_at ∷ ir.Push last_number ∷ ir.Op op.Sub ∷ []

-- of the end that was found: the tests, and then the event's taking
abbrev pub input_found : ModuleTree → List End → ℕ → List Ir
input_found tree ends place =
    let n = length ends in
    refuse_unless place (is_open_code n) no_end
    ++ (refuse_if (place + 9) (is_other_epoch n) no_end
    ++ (refuse_if (place + 23) (is_past_number n) past_number
    ++ (refuse_unless (place + 33) has_number_above past_number
    ++ cases (take_receiving tree) (place + 41) 0 ends)))

-- the packet is copied and tested, and what follows searches for its end
abbrev pub input_code : ℕ → List Ir
input_code place =
    ir.CopyIn event_size working.packet_at
    ∷ (refuse_kind (place + 1) event_kind
    ++ (wanted_receiving ++ ir.Store wanted_at ∷ []))

-- The search for the end, which set-key and input share, and what follows it.

-- where set-key goes on with the end that was found
abbrev pub key_place : ModuleTree → List End → ℕ → ℕ
key_place tree ends place = place + 3 + length (input_found tree ends (place + 3))

-- the index is kept, and the caller's entry goes on: set-key's is 0
abbrev pub found_code : ModuleTree → List End → ℕ → List Ir
found_code tree ends place =
    ir.Store index_at ∷ ir.Saved entry_register ∷ ir.JumpZero (key_place tree ends place)
    ∷ (input_found tree ends (place + 3) ++ key_found ends (key_place tree ends place))

-- the end that the packet is for is searched for; without one the status is 5
abbrev pub search_code : ModuleTree → List End → ℕ → List Ir
search_code tree ends place =
    let found = place + 4 * length ends + 3 in
    cases (find_any found) place 0 ends ++ (returns no_end ++ found_code tree ends found)

-- Sample: the value is what the sensor's word reads, without its bit 15.

-- the sensor was fresh
abbrev pub is_fresh_code : List Ir
is_fresh_code = ir.Load working.event_at ∷ []

-- the handler runs with the value
abbrev pub sampled_code : ModuleTree → List Ir
sampled_code tree =
    ir.Load working.event_at ∷ ir.Push 0x8000 ∷ ir.Op op.Sub ∷ ir.Store working.event_at
    ∷ handled_by (number_of tree (event.Sample 0))

-- the sensor is read, tested and taken
abbrev pub sample_code : ModuleTree → ℕ → List Ir
sample_code tree place =
    ir.Sense ∷ ir.Store working.event_at ∷ (refuse_unless (place + 2) is_fresh_code no_sample
    ++ sampled_code tree)

-- The tests of the entry and the windows, and the way to the four entries.

-- the last entry of a module: sample is of one that drives a sensor
abbrev pub last_entry : ModuleTree → ℕ
last_entry tree = if is_sensor_driver (declared_kind tree.decls) then sample_entry else input_entry

-- the caller's entry is above it
abbrev pub is_above_last : ModuleTree → List Ir
is_above_last tree = ir.Push (last_entry tree) ∷ ir.Saved entry_register ∷ ir.Op op.Lt ∷ []

-- the return address, the entry and the windows, in this order
abbrev pub tests : ModuleTree → List Ir
tests tree =
    ir.Inside ∷ (refuse_if 1 (is_above_last tree) no_entry
    ++ (refuse_if 8 (ir.Meets input_register in_window_size ∷ []) bad_window
    ++ refuse_if 13 (ir.Meets output_register out_window_size ∷ []) bad_window))

-- where the ways to the entries begin, after the tests
abbrev pub entries_place : ℕ
entries_place = 18

-- where the entry of sample begins, after the ways to the three others
abbrev pub sample_place : ℕ
sample_place = 21

-- the operations of the entry of set-key
abbrev pub set_key_length : ℕ
set_key_length = 21

-- those of attest
abbrev pub attest_length : ℕ
attest_length = 11

-- those of input
abbrev pub input_length : ℕ
input_length = 11

-- The four entries' code begins at these places, and the search after them, with which input goes
-- on. Input is looked for first, since it is called most.
abbrev pub entries : ModuleTree → List End → List Ir
entries tree ends =
    let set_key = sample_place + length (sample_code tree sample_place) in
    let attest = set_key + set_key_length in
    let input = attest + attest_length in
    let search = input + input_length in
    jump_on input_entry input ++ (jump_on set_key_entry set_key ++ (jump_on attest_entry attest
    ++ (sample_code tree sample_place ++ (set_key_code search set_key ++ (attest_code attest
    ++ (input_code input ++ search_code tree ends search))))))

-- the stub, which begins at place 0
unfoldable pub stub_code : ModuleTree → List End → List Ir
stub_code tree ends = tests tree ++ entries tree ends

-- the stub's operations: its code, and after it a return, so that each of its jumps goes to an
-- operation
abbrev pub stub_ops : ModuleTree → List End → List Ir
stub_ops tree ends = stub_code tree ends ++ returns no_end
