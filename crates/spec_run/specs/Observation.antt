-- What a step of a node shows: its touches in their order, and then its event.
use Rattle.std.specs.Prelude.{ℕ, ◌+◌, ◌*◌, ◌==◌, ◌&&◌, Bool, false, if◌then◌else◌, List, [], ◌∷◌}
use Rattle.std.specs.Prelude.{◌++◌, length, slice_get, slice_index, Option, Some, None}
use Rattle.std.specs.Prelude.{unwrap_or}
use Rattle.std.specs.Option.{option_map_or}
use Rattle.std.specs.List.{list_any}
use Rattle.sx_lang.specs.declared.sides.Side.{Side}
use Rattle.sx_lang.specs.declared.sides.Side.TheVariants.{From, To}
use Rattle.sx_trace.specs.declared.items.Cause.{Cause}
use Rattle.sx_trace.specs.declared.items.Cause.TheVariants as cause
use Rattle.sx_trace.specs.declared.items.Item.{Item}
use Rattle.sx_trace.specs.declared.items.Item.TheVariants as item
use Rattle.sx_ledger.specs.declared.entry.Maker.TheVariants as maker
use Rattle.sx_rules.specs.declared.access.Violation.{Violation}
use Rattle.sx_rules.specs.declared.access.Violation.TheVariants as bad
use Rattle.spec_machine.specs.declared.kinds.Touch.{Touch}
use Rattle.spec_machine.specs.declared.kinds.Touch.TheVariants as touch
use Rattle.spec_machine.specs.declared.kinds.Event.{Event}
use Rattle.spec_machine.specs.declared.kinds.Event.TheVariants as event
use Rattle.spec_machine.specs.declared.kinds.Seen.{Seen}
use Rattle.spec_machine.specs.State.{State}
use Rattle.sx_mean.specs.declared.apps.Link.{Link}
use Rattle.sx_mean.specs.declared.events.End.{End}
use Rattle.sx_mean.specs.Application.{AppTree}
use Rattle.sx_mean.specs.Ends.{ends_of, same_side}
use Rattle.sx_model.specs.Step.{device_of}
use Rattle.sx_model.specs.State.{contains}
use Rattle.spec_run.specs.Setting.{Setting, module_of, device_number}
use Rattle.sx_wire.specs.Headers.{is_ask, is_set_key_header, is_event_header, challenge_in, link_in}
use Rattle.sx_wire.specs.Headers.{epoch_in, last_in, value_in}
use Rattle.spec_run.specs.Ledger.{Made, NO_TARGET, made_entry, is_made, header_of, body_of}

-- items, and the ledger after them
pub record Observed : Type 0 where
  pub items : List Item
  pub ledger : List Made

-- these items, with this ledger after them
abbrev pub with_items : List Made → List Item → Observed
with_items ledger items = record { items = items; ledger = ledger }

-- the cause of a reset by a violation
abbrev pub cause_of : Violation → Cause
cause_of bad.Order = cause.Order
cause_of bad.Fetch = cause.Fetch
cause_of bad.Read = cause.Read
cause_of bad.Write = cause.Write
cause_of bad.Device = cause.Device
cause_of bad.Illegal = cause.Illegal
cause_of bad.Range = cause.Range

-- the module whose code it was, if a deployed one, drives the device
abbrev pub is_driver : AppTree → Option ℕ → ℕ → Bool
is_driver app runner d = option_map_or (λ m. contains (device_of app m) d) runner false

-- the item of a read of a fresh sensor: the driver's `read`, or other code's `drain`
abbrev pub read_item : AppTree → Option ℕ → ℕ → ℕ → Item
read_item app runner d v =
    if is_driver app runner d then item.Read (unwrap_or runner 0) v else item.Drain d

-- the item of a write to an actuator: the driver's `out`, or other code's `raw`
abbrev pub write_item : AppTree → Option ℕ → ℕ → ℕ → Item
write_item app runner d v =
    if is_driver app runner d then item.Out (unwrap_or runner 0) v else item.Raw d v

-- the items of touches, in order
abbrev pub touch_items : AppTree → ℕ → Option ℕ → List Touch → List Item
touch_items app n runner [] = []
touch_items app n runner (touch.Quiet ∷ ts) = touch_items app n runner ts
touch_items app n runner (touch.DeviceRead k v ∷ ts) =
    read_item app runner (device_number app n k) v ∷ touch_items app n runner ts
touch_items app n runner (touch.DeviceWrite k v ∷ ts) =
    write_item app runner (device_number app n k) v ∷ touch_items app n runner ts

-- a deployed module wrapped a header and a body: it vouches for itself, or it makes an event
abbrev pub has_wrapped : ℕ → ℕ → List ℕ → List ℕ → Bool → List Made → Observed
has_wrapped m boot header body own ledger =
    if is_ask header && ((length body == 0) && own)
    then with_items (ledger ++ made_entry (maker.Module m) NO_TARGET boot header body ∷ [])
    (item.Vouch m (challenge_in header) ∷ [])
    else if is_event_header header && (length body == 2)
    then with_items (ledger ++ made_entry (maker.Module m) NO_TARGET 0 header body ∷ []) []
    else with_items ledger []

-- the item, after one that says that its rightful maker hadn't made what it rests on
abbrev pub unless_made : Option ℕ → Bool → Item → List Item
unless_made who made i = if made then i ∷ [] else item.Forged who ∷ i ∷ []

-- the side that a set-key header is for
abbrev pub side_in : List ℕ → Side
side_in header = if last_in header == 0 then From else To

-- the end is that of the connection and the side
abbrev pub is_end : ℕ → Side → End → Bool
is_end link side e = (e.link == link) && same_side e.side side

-- the module has the end
abbrev pub has_end : AppTree → ℕ → ℕ → Side → Bool
has_end app m link side = list_any (is_end link side) (ends_of app m)

-- the module that the connection comes from
abbrev pub from_of : Option Link → ℕ
from_of None = 0
from_of (Some l) = l.from

-- the module at the sending side of a connection
abbrev pub sender_of : AppTree → ℕ → ℕ
sender_of app link = from_of (slice_get app.links link)

-- a deployed module unwrapped a header and a body: it opens an end, or it takes an event
abbrev pub has_unwrapped : AppTree → ℕ → ℕ → List ℕ → List ℕ → List Made → List Item
has_unwrapped app m boot header body ledger =
    if is_set_key_header header && has_end app m (link_in header) (side_in header)
    then unless_made (Some m) (is_made ledger (made_entry maker.Deployer m boot header body))
    (item.Open m (link_in header) (side_in header) (epoch_in header))
    else if is_event_header header && has_end app m (link_in header) To
    then unless_made (Some m) (is_made ledger (made_entry
    (maker.Module (sender_of app (link_in header))) NO_TARGET 0 header body))
    (item.Take m (link_in header) (65536 * epoch_in header + last_in header) (value_in body))
    else []

-- the item of a protect: the deployed module that it made, if any
abbrev pub protect_item : Setting → ℕ → State → ℕ → Item
protect_item set n s id = item.Protect n (module_of set.sites n s id)

-- the event of a step of the module's code that leaves the node in this state
abbrev pub event_seen : Setting → ℕ → Option ℕ → State → List Made → Event → Observed
event_seen set n runner s ledger (event.Reset v) =
    with_items ledger (item.Reset n (cause_of v) ∷ [])
event_seen set n runner s ledger (event.Protected id) =
    with_items ledger (protect_item set n s id ∷ [])
event_seen set n (Some m) s ledger (event.Wrapped id) =
    has_wrapped m s.boot (header_of s.exchange) (body_of s.exchange) s.exchange.own_key ledger
event_seen set n (Some m) s ledger (event.Unwrapped id) = with_items ledger
    (has_unwrapped set.app m s.boot (header_of s.exchange) (body_of s.exchange) ledger)
event_seen set n (Some m) s ledger (event.Left id) =
    with_items ledger (item.Done m (slice_index s.regs 12) (slice_index s.regs 13) ∷ [])
event_seen set n runner s ledger _ = with_items ledger []

-- what is seen of code of this module, which leaves the node in this state
abbrev pub observed : Setting → ℕ → Option ℕ → State → Seen → List Made → Observed
observed set n runner s seen ledger =
    let last = event_seen set n runner s ledger seen.event in
    with_items last.ledger (touch_items set.app n runner seen.touch ++ last.items)
