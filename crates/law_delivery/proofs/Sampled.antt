-- A reading in a world that agrees with a course: the sensor gets its value, its driver reads it, and what it sends is taken.
use Rattle.std.proofs.Common.{◌≡◌, ℕ, zero, suc, ◌+◌, ◌<◌, ◌≤◌, inl, Bool, true, false, if◌then◌else◌, List, [], ◌∷◌, ◌++◌, length, length-append, map, Some}
use Rattle.std.proofs.Common.{None, slice_get, refl, sym, ◌∙◌, ap, subst, arith}
use Rattle.std.specs.Prelude.{All, AllPairs, slice_index_or}
use Rattle.std.proofs.lemmas.Bool.{eq-eqb}
use Rattle.std.proofs.lemmas.List.Elements.{All-cons, All-head, All-nil, All-tail}
use Rattle.std.proofs.lemmas.Option.{same_Some}
use Rattle.sx_lang.specs.declared.tree.DeviceKind.{DeviceKind}
use Rattle.sx_lang.specs.declared.tree.DeviceKind.TheVariants.{Sensor, Actuator}
use Rattle.sx_mean.specs.declared.events.Act.{Act}
use Rattle.sx_mean.specs.declared.events.SourceEvent.{SourceEvent}
use Rattle.sx_mean.specs.declared.events.SourceEvent.TheVariants as event
use Rattle.sx_mean.specs.Application.{PartTree, declared_kind}
use Rattle.sx_mean.specs.Validity.{is_valid}
use Rattle.sx_mean.specs.Ends.{ends_of}
use Rattle.sx_mean.specs.EndLaws.{IsBefore}
use Rattle.sx_mean.specs.React.{react}
use Rattle.sx_mean.proofs.Ends.{ends_hold}
use Rattle.sx_rules.specs.declared.section.Section.{Section}
use Rattle.sx_bus.specs.declared.devices.Window.{Window}
use Rattle.sx_bus.specs.Devices.{cleared, with_sample}
use Rattle.sx_trace.specs.declared.items.Item.{Item}
use Rattle.sx_trace.specs.declared.items.Item.TheVariants as item
use Rattle.spec_machine.specs.declared.kinds.Refused.TheVariants.{Busy}
use Rattle.spec_machine.specs.Acts.{sense, unless}
use Rattle.spec_machine.specs.NodeLaws.{shapes}
use Rattle.spec_machine.specs.State.{State}
use Rattle.spec_machine.proofs.Devices.{same_places, sensed_shapes}
use Rattle.spec_machine.proofs.Stays.{sense_is_node}
use Rattle.spec_invocation.specs.Setup.{Setup}
use Rattle.spec_invocation.specs.ModuleState.{ModuleState}
use Rattle.spec_invocation.specs.Marks.{Sampled}
use Rattle.spec_invocation.specs.Acts.{own_window}
use Rattle.spec_invocation.specs.Invocation.{is_sensor_driver}
use Rattle.sx_mean.specs.Application.{is_sensor}
use Rattle.sx_model.specs.Step.{kind_is}
use Rattle.sx_sched.specs.Lines.{Line, Sense, Call}
use Rattle.spec_run.specs.Setting.{Site, Setting, device_number, devices_at, is_at_site, windows_at}
use Rattle.spec_run.specs.State.{World, Acted}
use Rattle.spec_run.specs.Acts.{at_node, done_on, then_, with_node}
use Rattle.spec_run.specs.Run.{after_line, line_counted, place_at, run, sense_at}
use Rattle.spec_run.specs.Law.{IsDeployedModule, IsDriven, IsLawfulSetting}
use Rattle.spec_run.proofs.acts.Sensing.{place_is}
use Rattle.spec_run.proofs.steps.Fits.{drivers_fit}
use Rattle.spec_run.proofs.steps.Nodes.{index_get, shapes_long, windows_long}
use Rattle.spec_run.proofs.steps.Steps.{increasing}
use Rattle.spec_run.proofs.tie.Lists.{get_within, some_inj}
use Rattle.spec_run.proofs.tie.Tied.{IsModule, NodeTied, OwnSensor}
use Rattle.lemmas.proofs.Lists.{get_same, get_some}
use Rattle.law_invocation.specs.Effect.{Effect, acts_made}
use Rattle.law_invocation.proofs.Few.{few_made}
use Rattle.law_calls.specs.Calls.{setup_of}
use Rattle.law_calls.specs.FourCalls.{CallDoes, CallEffect, emitted, entries_of}
use Rattle.law_calls.proofs.Four.{sample_called}
use Rattle.law_calls.proofs.Runner.{own_site}
use Rattle.spec_honest.specs.Plain.{Sampling, Waiting, acts_emit, acts_send, reacted, reaction}
use Rattle.spec_honest.specs.Course.{Course, IsSampling, acts_items, packet_items, packets_so_far, sensed}
use Rattle.spec_honest.proofs.AsPlain.{Drives, IsTold, driver, told_sensed}
use Rattle.spec_honest.proofs.Course.{total}
use Rattle.law_setup.specs.Laws.{HasRoom}
use Rattle.law_setup.proofs.forms.ByLine.{shown_by}
use Rattle.law_setup.proofs.forms.Loaded.{StandsHigh}
use Rattle.law_setup.proofs.forms.Served.{IsServed, callee, state_on}
use Rattle.law_setup.proofs.forms.Settled.{Settled, all_sent, module_as}
use Rattle.law_setup.proofs.KeyTaking.{served_callable, served_low}
use Rattle.law_setup.proofs.Sites.{section_at}
use Rattle.law_delivery.specs.Laws.{HaveWords}
use Rattle.law_delivery.specs.Schedule.{reading_lines, take_lines}
use Rattle.law_delivery.proofs.ByLine.{call_shown, reading_shown}
use Rattle.law_delivery.proofs.Calling.{Before, CalledThere, Makes, Stays, called_there}
use Rattle.law_delivery.proofs.Effects.{emits_same, node_there, others_after, own_after, sends_few, sent_by, site_there}
use Rattle.law_delivery.proofs.Fitting.{reading_is}
use Rattle.law_delivery.proofs.Going.{Leads, Stands}
use Rattle.law_delivery.proofs.InWords.{reacted_words}
use Rattle.law_delivery.proofs.Making.{acts_at}
use Rattle.law_delivery.proofs.Making.{Makes as MakesPackets}
use Rattle.law_delivery.proofs.Serving.{own_section, served_at, Follows}

-- the device that took a sample has it
sensed_back : (ws : List Window) (k v : ℕ) (x : Window) → slice_get (with_sample ws k v) k ≡ Some x → (x.value ≡ v) × (x.fresh ≡ true)
sensed_back [] k v x e = absurd cc
sensed_back (w ∷ ws) zero v x e =
    let same : record w { value = v; fresh = true } ≡ x = some_inj (record w { value = v; fresh = true }) x e in
    (ap (λ (z : Window). z.value) (sym same), ap (λ (z : Window). z.fresh) (sym same))
sensed_back (w ∷ ws) (suc k) v x e = sensed_back ws k v x e

abbrev IsStale : Window → Type 0
IsStale d = d.fresh ≡ false

-- and once it was read no device is fresh
cleared_stale : (ws : List Window) (k v : ℕ) → All IsStale ws → All IsStale (cleared (with_sample ws k v) k)
cleared_stale [] k v h = All-nil IsStale
cleared_stale (w ∷ ws) zero v h = All-cons IsStale (record w { value = v; fresh = false }) ws refl (All-tail IsStale w ws h)
cleared_stale (w ∷ ws) (suc k) v h = All-cons IsStale w (cleared (with_sample ws k v) k) (All-head IsStale w ws h) (cleared_stale ws k v (All-tail IsStale w ws h))

driver_kind : (k : DeviceKind) → is_sensor_driver (Some k) ≡ is_sensor k
driver_kind Sensor = refl
driver_kind Actuator = refl

module _ (set : Setting) (sound : IsLawfulSetting set) (room : HasRoom set) (words : HaveWords set.app) (c : Course) (w : World) (stands : Stands set w c)
    (r : Sampling) (is : IsSampling set.app r) (low : r.value < 32768) (few : total (sensed set.app r c) ≤ 65535) where
  abbrev valid : is_valid set.app ≡ true
  valid = room.valid

  abbrev settled : Settled set w c
  settled = stands.settled

  abbrev m : ℕ
  m = is.driver

  d : Drives set.app r.device is.driver
  d = driver set.app r.device is.driver is.driven

  abbrev q : PartTree
  q = d.part

  found_site : (site : Site) × (slice_get set.sites m ≡ Some site)
  found_site = site_there set sound m q d.there

  abbrev site : Site
  site = found_site.0

  abbrev sited : slice_get set.sites m ≡ Some site
  sited = found_site.1

  dep : IsDeployedModule set m q site
  dep = sound.sound.deployed m q site d.there sited

  driven : IsDriven set q site r.device
  driven = dep.device r.device d.device

  found_node : (s : State) × (slice_get w.nodes site.node ≡ Some s)
  found_node = node_there set sound valid c w settled m q site d.there sited

  abbrev s : State
  s = found_node.0

  abbrev there : slice_get w.nodes site.node ≡ Some s
  there = found_node.1

  abbrev sec : Section
  sec = section_at set (own_section set sound room c w settled m site s sited there).0 site

  abbrev st : ModuleState
  st = module_as set c m

  served : IsServed set m q site sec s st
  served = served_at set sound room c w settled m q site s d.there sited there

  -- The sensor gets its value.

  abbrev k0 : ℕ
  k0 = place_at set q.node r.device

  abbrev s1 : State
  s1 = record s { devices = with_sample s.devices k0 r.value }

  abbrev w0 : World
  w0 = line_counted w

  abbrev w1 : World
  w1 = with_node w0 site.node s1 w0.ledger w0.steps

  abbrev w2 : World
  w2 = line_counted w1

  abbrev senses : ℕ → ℕ → Acted
  senses i j = at_node w0 (λ t. done_on w0 i (item.Sense r.device r.value ∷ []) (sense t (place_at set j r.device) r.value)) (slice_get w0.nodes i)

  sense_is : after_line set w0 (Sense r.device r.value) ≡ record { world = w1; items = item.Sense r.device r.value ∷ [] }
  sense_is =
      ap (sense_at set w0 r.device r.value) driven.found
      ∙ ap (λ (j : ℕ). senses j j) driven.node ∙ ap (λ (i : ℕ). senses i q.node) (sym dep.node)
      ∙ ap (at_node w0 (λ t. done_on w0 site.node (item.Sense r.device r.value ∷ []) (sense t k0 r.value))) there
      ∙ ap (λ (b : Bool). done_on w0 site.node (item.Sense r.device r.value ∷ []) (unless (if b then None else Some Busy) s (record { state = s1; shown = tt }))) (eq-eqb s.cur 0 served.idle)

  windows1 : shapes s1.devices ≡ shapes s.devices
  windows1 = sensed_shapes s.devices k0 r.value

  high1 : StandsHigh s1
  high1 = record { sections = served.low.sections; devices = subst (λ ps. All (λ at. 512 ≤ at) ps) (sym (same_places s1.devices s.devices windows1)) served.low.devices }

  served1 : IsServed set m q site sec s1 st
  served1 = record {
    part = served.part;
    sited = served.sited;
    node = sense_is_node s k0 r.value low served.node;
    idle = served.idle;
    boot = served.boot;
    stands = record { lives = served.stands.lives; layout = served.stands.layout; provider = served.stands.provider; text = served.stands.text };
    key = served.key;
    windows = windows1 ∙ served.windows;
    low = high1;
    state = served.state;
  }

  stays1 : Stays sec s s1
  stays1 = record {
    node = served1.node;
    idle = served1.idle;
    boot = refl;
    key = refl;
    sections = refl;
    windows = windows1;
    texts = λ x l. refl;
    others = λ x l ne. refl;
  }

  before : Before set sound room c w settled m q site s d.there sited there s1 w1
  before = record { stays = stays1; high = high1; nodes = refl; packets = refl; deployer = refl; ledger = refl }

  -- Its driver is called.

  abbrev su : Setup
  su = setup_of set (callee m q site sec s1)

  tied : NodeTied set q.node s1 s1.boot
  tied = record { windows = served1.windows ∙ ap (λ n. windows_at n set.app.devices set.places) dep.node; node = served1.node; runner = inl served1.idle; count = refl }

  module_there : IsModule q.node site s1 sec
  module_there = record {
    lives = served1.stands.lives;
    here = ap (λ n. is_at_site n s1.mem sec site) (sym dep.node) ∙ own_site site s1.mem sec served1.stands.layout served1.stands.provider served1.stands.text;
  }

  drives_sensor : is_sensor_driver (declared_kind q.tree.decls) ≡ true
  drives_sensor = ap is_sensor_driver driven.kind ∙ driver_kind driven.device.kind ∙ ap (λ o. kind_is is_sensor o) (sym driven.found) ∙ is.sensor

  fits : (k : ℕ) × (x : Window) × (own_window su s1.devices ≡ Some (k, x)) × OwnSensor set.app q.node q s1.devices k x
  fits = (drivers_fit set sound.sound m q site s1 sec s1.boot dep tied module_there).1 drives_sensor

  number : device_number set.app q.node fits.0 ≡ r.device
  number = same_Some (device_number set.app q.node fits.0) r.device (sym fits.3.device ∙ d.device)

  listed : slice_get (devices_at q.node 0 set.app.devices) fits.0 ≡ Some r.device
  listed =
      let g : (g : ℕ) × (slice_get (devices_at q.node 0 set.app.devices) fits.0 ≡ Some g) = get_some (devices_at q.node 0 set.app.devices) fits.0 (omega (
        arith,
        get_within s1.devices fits.0 fits.1 fits.3.there,
        shapes_long s1.devices,
        ap length tied.windows,
        windows_long q.node 0 set.app.devices set.places sound.sound.places,
      )) in
      g.1 ∙ ap (λ (i : ℕ). Some i) (sym (index_get (devices_at q.node 0 set.app.devices) fits.0 g.0 g.1) ∙ number)

  same_index : fits.0 ≡ k0
  same_index = increasing q.node 0 set.app.devices fits.0 k0 r.device listed (place_is set q.node r.device driven.device driven.found driven.node)

  sampled : (fits.1.value ≡ r.value) × (fits.1.fresh ≡ true)
  sampled = sensed_back s.devices k0 r.value fits.1 (subst (λ (k : ℕ). slice_get s1.devices k ≡ Some fits.1) same_index fits.3.there)

  here1 : slice_get w2.nodes site.node ≡ Some s1
  here1 = get_same w.nodes site.node s1 s there

  abbrev effect : ℕ → ℕ → ModuleState → CallEffect
  effect k v z =
      let done = react q.tree (event.Sample v) z.cells in
      let made = acts_made su (Some k) done.acts z.ends in
      record {
        state = record { cells = done.cells; ends = made.ends };
        marks = Sampled k v ∷ made.marks;
        pieces = made.pieces;
        items = item.Read m v ∷ map (λ u. item.Out m u) (emitted done.acts);
        entries = entries_of m made.marks;
      }

  does0 : CallDoes set w2 (callee m q site sec s1) 3 (effect fits.0 fits.1.value (state_on set m q site s1))
  does0 =
      sample_called set w2 (callee m q site sec s1) fits.0 fits.1 sound (served_callable set w2 m q site sec s1 st served1 here1) (served_low set m q site sec s1 st served1)
      (few_made set.app m q valid d.there) drives_sensor fits.2 sampled.1

  does : CallDoes set w2 (callee m q site sec s1) 3 (effect k0 r.value st)
  does =
      subst (λ (z : ModuleState). CallDoes set w2 (callee m q site sec s1) 3 (effect k0 r.value z)) served1.state
      (subst (λ (v : ℕ). CallDoes set w2 (callee m q site sec s1) 3 (effect k0 v (state_on set m q site s1))) sampled.0
      (subst (λ (k : ℕ). CallDoes set w2 (callee m q site sec s1) 3 (effect k fits.1.value (state_on set m q site s1))) same_index does0))

  -- What it leaves of the course.

  abbrev e : SourceEvent
  e = event.Sample r.value

  abbrev acts : List Act
  acts = (reaction m q e c.plain.cells).acts

  abbrev new : List ℕ
  new = (reaction m q e c.plain.cells).cells

  abbrev ys : List Waiting
  ys = acts_send set.app.links m acts

  abbrev next : Course
  next = record {
    plain = reacted set.app m e c.plain q;
    past = c.past;
    items = c.items ++ item.Sense r.device r.value ∷ acts_items set.app m (item.Read m r.value) (packets_so_far set.app c) acts;
  }

  next_is : next ≡ sensed set.app r c
  next_is = rw (is.driven, d.there) refl

  sixteen : length ys ≤ 16
  sixteen = sends_few set.app m q valid d.there e (slice_index_or c.plain.cells m [])

  room_left : length (all_sent c) + length ys ≤ 65535
  room_left =
      let t : total next ≤ 65535 = subst (λ (z : Course). total z ≤ 65535) (sym next_is) few in
      let a = length-append c.past c.plain.waiting in
      let b = length-append c.plain.waiting ys in
      omega (arith, t, a, b)

  ordered : AllPairs IsBefore (ends_of set.app m)
  ordered = (ends_hold set.app m q valid d.there).ordered

  abbrev made : Effect
  made = acts_made su (Some k0) acts st.ends

  packs : MakesPackets set m q site sec s1 ordered c.past (all_sent c) made ys
  packs = acts_at set m q site sec s1 ordered c.past (Some k0) acts (all_sent c) room_left

  within : m < length c.plain.cells
  within = (let a = get_within set.app.parts m q d.there in let b = stands.words.many in omega (arith, a, b))

  makes : Makes set sound room c w settled m q site s d.there sited there s1 w1 3 (effect k0 r.value st) next ys
  makes = record {
    does = does;
    pieces = packs.pieces;
    entries = packs.entries;
    state = own_after set c m acts c.past c.plain.waiting new next.plain.outputs next.items refl made.ends packs.ends within;
    stale = subst (λ ds. All IsStale ds) (sym (packs.quiet (cleared s1.devices k0))) (cleared_stale s.devices k0 r.value (settled.nodes site.node s there).stale);
    few = sixteen;
  }

  follows : Follows set sound room c w settled m next c.plain.waiting ys
  follows = record {
    waits = refl;
    sent = refl;
    count = refl;
    old = λ x before after t. settled.waiting x before after t;
    senders = λ x a. sent_by set.app m acts x a;
    apart = λ p ne. others_after set c m acts c.past c.plain.waiting new next.plain.outputs next.items refl p ne refl;
  }

  abbrev shown : List Item
  shown = (effect k0 r.value st).items

  called : CalledThere set sound room c w settled m q site s d.there sited there w1 3 shown next ys
  called = called_there set sound room c w settled m q site s d.there sited there s1 w1 before 3 (effect k0 r.value st) next c.plain.waiting ys makes follows

  -- And so the lines lead on.

  abbrev lines_at : ℕ → List Line
  lines_at n = Sense r.device r.value ∷ Call m 3 0x40 0x80 ∷ take_lines n 0x80 (length ys)

  abbrev showing : ℕ → List ℕ → List Item
  showing n vs = item.Sense r.device r.value ∷ item.Read m r.value ∷ map (λ u. item.Out m u) vs ++ item.Done m 1 (length ys) ∷ packet_items n 24 (length ys)

  run_is : run set w (lines_at site.node) ≡ record { world = called.world; items = showing (length w.packets) (emitted acts) }
  run_is =
      ap (λ (a : Acted). then_ a (λ v. run set v (Call m 3 0x40 0x80 ∷ take_lines site.node 0x80 (length ys)))) sense_is
      ∙ ap (λ (a : Acted). record { world = a.world; items = item.Sense r.device r.value ∷ a.items }) called.is

  abbrev shown_at : ℕ → List ℕ → List (List Item)
  shown_at n vs = (item.Sense r.device r.value ∷ []) ∷ call_shown m (item.Read m r.value) vs (length ys) n

  each_is : shown_by set w (lines_at site.node) ≡ shown_at (packets_so_far set.app c) (acts_emit acts)
  each_is =
      ap (λ (a : Acted). a.items ∷ shown_by set a.world (Call m 3 0x40 0x80 ∷ take_lines site.node 0x80 (length ys))) sense_is
      ∙ ap (λ (zs : List (List Item)). (item.Sense r.device r.value ∷ []) ∷ zs) called.each
      ∙ ap (λ (vs : List ℕ). shown_at (length w.packets) vs) (emits_same acts) ∙ ap (λ (n : ℕ). shown_at n (acts_emit acts)) settled.packets

  shown_is : shown_at (packets_so_far set.app c) (acts_emit acts) ≡ reading_shown set.app r c
  shown_is = rw (is.driven, d.there) refl

  next_stands : Stands set called.world next
  next_stands = record {
    settled = called.is_settled;
    told = subst (λ (z : Course). IsTold set.app z) (sym next_is) (told_sensed set.app r c is stands.told);
    words = (let word : r.value < 65536 = omega (arith, low) in reacted_words set.app words m e c.plain q d.there word stands.words);
  }

  leads_next : Leads set w (lines_at site.node) (reading_shown set.app r c) c next
  leads_next = record {
    world = called.world;
    items = showing (length w.packets) (emitted acts);
    is = run_is;
    each = each_is ∙ shown_is;
    more =
        ap (λ (zs : List Item). c.items ++ zs)
        (ap (λ (n : ℕ). showing n (acts_emit acts)) (sym settled.packets) ∙ ap (λ (vs : List ℕ). showing (length w.packets) vs) (sym (emits_same acts)));
    stands = next_stands;
  }

  pub reading_leads : Leads set w (reading_lines set.app r c) (reading_shown set.app r c) c (sensed set.app r c)
  unfolding d
  reading_leads =
      subst (λ (z : Course). Leads set w (reading_lines set.app r c) (reading_shown set.app r c) c z) next_is
      (subst (λ ls. Leads set w ls (reading_shown set.app r c) c next) (reading_is set valid r c is)
      (subst (λ (n : ℕ). Leads set w (lines_at n) (reading_shown set.app r c) c next) dep.node leads_next))
