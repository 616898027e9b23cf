-- The lines of an honest run after its set-up, as a function of the application and the readings.
use Rattle.std.specs.Prelude.{ℕ, zero, suc, ◌+◌, List, [], ◌∷◌, ◌++◌, length, slice_get}
use Rattle.std.specs.Option.{option_map_or}
use Rattle.sx_mean.specs.declared.events.SourceEvent.{SourceEvent}
use Rattle.sx_mean.specs.declared.events.SourceEvent.TheVariants as event
use Rattle.sx_mean.specs.Application.{AppTree, PartTree}
use Rattle.sx_sched.specs.Lines.{Line, Sense, Give, Call, Take}
use Rattle.spec_honest.specs.Plain.{MOST_DELIVERIES, Sampling, Waiting, acts_send, driver_of, oldest}
use Rattle.spec_honest.specs.Plain.{reaction}
use Rattle.spec_honest.specs.Course.{Course, course_start, delivered, sensed, settled, setup_packets}
use Rattle.law_invocation.specs.Gives.{low_input, low_output}
use Rattle.law_setup.specs.Schedule.{setup_schedule}

-- this many packets are taken at a node, from an address on
abbrev pub take_lines : ℕ → ℕ → ℕ → List Line
take_lines n at zero = []
take_lines n at (suc k) = Take n at 24 ∷ take_lines n (at + 24) k

-- a module is called at an entry, and the packets that its event makes are taken
abbrev pub event_lines : AppTree → ℕ → ℕ → SourceEvent → List (List ℕ) → PartTree → List Line
event_lines app m entry e cells q = Call m entry low_input low_output
    ∷ take_lines q.node low_output (length (acts_send app.links m (reaction m q e cells).acts))

-- a value's packet is given to its receiver's node, and the receiver takes it
abbrev pub delivery_lines : AppTree → Waiting → Course → List Line
delivery_lines app w c = option_map_or (λ l. option_map_or
    (λ q. Give (setup_packets app + length c.past) q.node low_input
    ∷ event_lines app l.to 2 (event.Input l.input w.value) c.plain.cells q)
    (slice_get app.parts l.to) []) (slice_get app.links w.link) []

-- a sensor gets a value, and its driver reads it
abbrev pub reading_lines : AppTree → Sampling → Course → List Line
reading_lines app r c = Sense r.device r.value ∷ option_map_or (λ p. option_map_or
    (event_lines app p 3 (event.Sample r.value) c.plain.cells)
    (slice_get app.parts p) []) (driver_of app r.device) []

-- at most n deliveries, the oldest value first, until none is on its way
abbrev pub settling_lines : AppTree → ℕ → Course → List Line
settling_lines app zero c = []
settling_lines app (suc n) c = oldest []
    (λ w ws. delivery_lines app w c ++ settling_lines app n (delivered app w ws c)) c.plain.waiting

-- readings one by one, each until nothing is on its way
abbrev pub readings_lines : AppTree → ℕ → List Sampling → Course → List Line
readings_lines app n [] c = []
readings_lines app n (r ∷ rs) c = let d = sensed app r c in
    reading_lines app r c ++ settling_lines app n d ++ readings_lines app n rs (settled app n d)

-- the lines of the honest run of readings
abbrev pub honest_schedule : AppTree → List Sampling → List Line
honest_schedule app rs =
    setup_schedule app ++ readings_lines app MOST_DELIVERIES rs (course_start app)
