-- What each line of an honest run after its set-up shows, as its course says.
use Rattle.std.proofs.Common.{ℕ, zero, suc, ◌+◌, List, [], ◌∷◌, ◌++◌, length, map, slice_get}
use Rattle.std.specs.Option.{option_map_or}
use Rattle.sx_mean.specs.declared.events.Act.{Act}
use Rattle.sx_mean.specs.declared.events.SourceEvent.TheVariants as event
use Rattle.sx_mean.specs.Application.{AppTree}
use Rattle.sx_trace.specs.declared.items.Item.{Item}
use Rattle.sx_trace.specs.declared.items.Item.TheVariants as item
use Rattle.spec_honest.specs.Plain.{Sampling, Waiting, acts_emit, acts_send, driver_of, oldest, reaction}
use Rattle.spec_honest.specs.Course.{Course, count_over, delivered, packets_so_far, sensed, settled}

-- takes of this many packets, from a number on
abbrev pub packets_shown : ℕ → ℕ → List (List Item)
packets_shown number zero = []
packets_shown number (suc k) = (item.Packet number 24 ∷ []) ∷ packets_shown (number + 1) k

-- a call, and the takes of what it made
abbrev pub call_shown : ℕ → Item → List ℕ → ℕ → ℕ → List (List Item)
call_shown p begins outs k number = (begins ∷ map (λ v. item.Out p v) outs ++ item.Done p 1 k ∷ []) ∷ packets_shown number k

-- an event with these acts
abbrev pub event_shown : AppTree → ℕ → Item → ℕ → List Act → List (List Item)
event_shown app p begins number acts = call_shown p begins (acts_emit acts) (length (acts_send app.links p acts)) number

-- a delivery
abbrev pub delivery_shown : AppTree → Waiting → Course → List (List Item)
delivery_shown app w c = option_map_or (λ l. option_map_or
    (λ q. [] ∷ event_shown app l.to (item.Take l.to w.link (count_over w.link c.past) w.value) (packets_so_far app c) (reaction l.to q (event.Input l.input w.value) c.plain.cells).acts)
    (slice_get app.parts l.to) []) (slice_get app.links w.link) []

-- a reading
abbrev pub reading_shown : AppTree → Sampling → Course → List (List Item)
reading_shown app r c = (item.Sense r.device r.value ∷ []) ∷ option_map_or (λ p. option_map_or
    (λ q. event_shown app p (item.Read p r.value) (packets_so_far app c) (reaction p q (event.Sample r.value) c.plain.cells).acts)
    (slice_get app.parts p) []) (driver_of app r.device) []

-- at most n deliveries
abbrev pub settling_shown : AppTree → ℕ → Course → List (List Item)
settling_shown app zero c = []
settling_shown app (suc n) c = oldest [] (λ w ws. delivery_shown app w c ++ settling_shown app n (delivered app w ws c)) c.plain.waiting

-- readings one by one
abbrev pub readings_shown : AppTree → ℕ → List Sampling → Course → List (List Item)
readings_shown app n [] c = []
readings_shown app n (r ∷ rs) c = let d = sensed app r c in reading_shown app r c ++ settling_shown app n d ++ readings_shown app n rs (settled app n d)
