-- The items of an honest run, as the source alone predicts them: each module is loaded, attested
-- and given its keys; then, reading by reading, each value that is sent is delivered once, the
-- oldest first.
use Rattle.std.specs.Prelude.{◌≡◌, ℕ, zero, suc, ◌+◌, ◌*◌, ◌≤◌, ◌==◌, true, if◌then◌else◌, All}
use Rattle.std.specs.Prelude.{List, [], ◌∷◌, ◌++◌, length, map, Option, Some, None, slice_get}
use Rattle.std.specs.Option.{option_map_or}
use Rattle.sx_mean.specs.declared.apps.Link.{Link}
use Rattle.sx_mean.specs.declared.events.Act.{Act}
use Rattle.sx_mean.specs.declared.events.End.{End}
use Rattle.sx_mean.specs.declared.events.SourceEvent.{SourceEvent}
use Rattle.sx_mean.specs.declared.events.SourceEvent.TheVariants as event
use Rattle.sx_mean.specs.Application.{AppTree, PartTree, is_sensor}
use Rattle.sx_mean.specs.Validity.{is_valid}
use Rattle.sx_mean.specs.Ends.{ends_of}
use Rattle.sx_trace.specs.declared.items.Item.{Item}
use Rattle.sx_trace.specs.declared.items.Item.TheVariants as item
use Rattle.sx_model.specs.Step.{kind_is}
use Rattle.spec_honest.specs.Plain.{MOST_DELIVERIES, Plain, Sampling, Waiting, acts_emit, acts_send}
use Rattle.spec_honest.specs.Plain.{delivers, driver_of, is_still, oldest, plain_start, reaction}
use Rattle.spec_honest.specs.Plain.{takes_reading}

-- this many packets of a length, from a number on
abbrev pub packet_items : ℕ → ℕ → ℕ → List Item
packet_items number len zero = []
packet_items number len (suc k) = item.Packet number len ∷ packet_items (number + 1) len k

-- The set-up.

-- a module's ends open, one by one
abbrev pub open_items : ℕ → List End → List Item
open_items p [] = []
open_items p (e ∷ es) = item.Open p e.link e.side 0 ∷ item.Done p 1 0 ∷ open_items p es

-- A module is loaded and asked; it answers and is attested, and gets the keys of its ends. Its
-- first packet is of this number.
abbrev pub part_items : ℕ → ℕ → PartTree → List End → List Item
part_items p number q es =
    item.Protect q.node (Some p) ∷ item.Ask p p ∷ item.Packet number 18 ∷ item.Vouch p p
    ∷ item.Done p 1 1 ∷ item.Packet (number + 1) 16 ∷ item.Attested p 0
    ∷ packet_items (number + 2) 38 (length es) ++ open_items p es

-- the modules from the p-th on
abbrev pub parts_items : AppTree → ℕ → ℕ → List PartTree → List Item
parts_items app p number [] = []
parts_items app p number (q ∷ qs) = part_items p number q (ends_of app p)
    ++ parts_items app (p + 1) (number + 2 + length (ends_of app p)) qs

-- all modules
abbrev pub setup_items : AppTree → List Item
setup_items app = parts_items app 0 0 app.parts

-- how many packets and lines the set-up of the modules from the p-th on takes
abbrev pub parts_packets : AppTree → ℕ → List PartTree → ℕ
parts_packets app p [] = 0
parts_packets app p (q ∷ qs) = 2 + length (ends_of app p) + parts_packets app (p + 1) qs

abbrev pub parts_lines : AppTree → ℕ → List PartTree → ℕ
parts_lines app p [] = 0
parts_lines app p (q ∷ qs) = 6 + 2 * length (ends_of app p) + parts_lines app (p + 1) qs

-- how many all take
abbrev pub setup_packets : AppTree → ℕ
setup_packets app = parts_packets app 0 app.parts

abbrev pub setup_lines : AppTree → ℕ
setup_lines app = parts_lines app 0 app.parts

-- Readings and deliveries.

-- where an honest run is: the plain fold, the values that were delivered with the first
-- first, and the items so far
pub record Course : Type 0 where
  pub plain : Plain
  pub past : List Waiting
  pub items : List Item

-- after the set-up
abbrev pub course_start : AppTree → Course
course_start app = record { plain = plain_start app; past = []; items = setup_items app }

-- the values that went over a connection, in order
abbrev pub words_over : ℕ → List Waiting → List ℕ
words_over c [] = []
words_over c (w ∷ ws) = if w.link == c then w.value ∷ words_over c ws else words_over c ws

-- how many values went over a connection
abbrev pub count_over : ℕ → List Waiting → ℕ
count_over c ws = length (words_over c ws)

-- how many packets there are: those of the set-up, and one for each value that was sent
abbrev pub packets_so_far : AppTree → Course → ℕ
packets_so_far app c = setup_packets app + length c.past + length c.plain.waiting

-- an event with these acts: how it begins, what the module emits, that it is done, and its packets
abbrev pub acts_items : AppTree → ℕ → Item → ℕ → List Act → List Item
acts_items app p begins number acts =
    let k = length (acts_send app.links p acts) in
    begins ∷ map (λ v. item.Out p v) (acts_emit acts)
    ++ item.Done p 1 k ∷ packet_items number 24 k

-- an event of the module of this index
abbrev pub event_items : AppTree → ℕ → SourceEvent → Item → ℕ → List (List ℕ) → List Item
event_items app p e begins number cells = option_map_or
    (λ q. acts_items app p begins number (reaction p q e cells).acts) (slice_get app.parts p) []

-- a value goes in at the end of a connection, as the i-th there
abbrev pub goes_in_items : AppTree → Waiting → ℕ → ℕ → List (List ℕ) → Link → List Item
goes_in_items app w i number cells l = event_items app l.to (event.Input l.input w.value)
    (item.Take l.to w.link i w.value) number cells

-- the oldest value is delivered, and these wait after it
abbrev pub delivered : AppTree → Waiting → List Waiting → Course → Course
delivered app w ws c = record {
  plain = delivers app w ws c.plain;
  past = c.past ++ w ∷ [];
  items = c.items ++ option_map_or (goes_in_items app w (count_over w.link c.past)
      (packets_so_far app c) c.plain.cells) (slice_get app.links w.link) [];
}

-- a reading: the sensor gets its value, and the driver reads it
abbrev pub sensed : AppTree → Sampling → Course → Course
sensed app r c = record {
  plain = takes_reading app r c.plain;
  past = c.past;
  items = c.items ++ item.Sense r.device r.value ∷ option_map_or
      (λ p. event_items app p (event.Sample r.value) (item.Read p r.value)
      (packets_so_far app c) c.plain.cells) (driver_of app r.device) [];
}

-- at most n deliveries, the oldest value first, until none is on its way
abbrev pub settled : AppTree → ℕ → Course → Course
settled app zero c = c
settled app (suc n) c = oldest c (λ w ws. settled app n (delivered app w ws c)) c.plain.waiting

-- readings one by one, each until nothing is on its way; none where that takes more than n
-- deliveries
abbrev pub played : AppTree → ℕ → List Sampling → Course → Option Course
played app n [] c = Some c
played app n (r ∷ rs) c = let d = settled app n (sensed app r c) in
    if is_still d.plain.waiting then played app n rs d else None

-- how many lines a schedule has that comes so far: `sense` and `call` at a reading, `give` and
-- `call` at a delivery, and a `take` of each packet
abbrev pub lines_so_far : AppTree → ℕ → Course → ℕ
lines_so_far app readings c =
    setup_lines app + 2 * readings + 3 * length c.past + length c.plain.waiting

-- a reading is of a sensor that has a driver
pub record IsSampling (app : AppTree) (r : Sampling) : Type 0 where
  pub sensor : kind_is is_sensor (slice_get app.devices r.device) ≡ true
  pub driver : ℕ
  pub driven : driver_of app r.device ≡ Some driver

-- the course of the honest run of these readings, which has at most 65,536 lines
pub record IsHonest (app : AppTree) (rs : List Sampling) (c : Course) : Type 0 where
  pub valid : is_valid app ≡ true
  pub readings : All (IsSampling app) rs
  pub course : played app MOST_DELIVERIES rs (course_start app) ≡ Some c
  pub lines : lines_so_far app (length rs) c ≤ 65536
