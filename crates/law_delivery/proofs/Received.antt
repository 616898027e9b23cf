-- A delivery in a world that agrees with a course: the oldest packet is given, its receiver takes it, and what that sends is taken.
use Rattle.std.proofs.Common.{◌≡◌, ℕ, suc, ◌+◌, ◌*◌, ◌/◌, ◌%◌, ◌<◌, ◌≤◌, true, false, List, [], ◌∷◌, ◌++◌, length, length-append, map, Option, Some, slice_get}
use Rattle.std.proofs.Common.{append_assoc, refl, sym, ◌∙◌, ap, subst, arith}
use Rattle.std.specs.Prelude.{All, AllPairs, slice_index_or}
use Rattle.std.proofs.lemmas.List.{append-nil}
use Rattle.std.proofs.lemmas.List.Elements.{All-head, All-tail}
use Rattle.sx_lang.specs.declared.sides.Side.{Side}
use Rattle.sx_lang.specs.declared.sides.Side.TheVariants.{From, To}
use Rattle.sx_lang.specs.Words.{IsWord}
use Rattle.sx_mean.specs.declared.events.Act.{Act}
use Rattle.sx_mean.specs.declared.events.End.{End}
use Rattle.sx_mean.specs.declared.events.SourceEvent.{SourceEvent}
use Rattle.sx_mean.specs.declared.events.SourceEvent.TheVariants as event
use Rattle.sx_mean.specs.Application.{PartTree}
use Rattle.sx_mean.specs.Validity.{is_valid}
use Rattle.sx_mean.specs.Ends.{ends_of}
use Rattle.sx_mean.specs.EndLaws.{IsBefore}
use Rattle.sx_mean.specs.React.{react}
use Rattle.sx_mean.proofs.Ends.{ends_hold}
use Rattle.sx_rules.specs.declared.section.Section.{Section}
use Rattle.sx_trace.specs.declared.items.Item.{Item}
use Rattle.sx_trace.specs.declared.items.Item.TheVariants as item
use Rattle.sx_ledger.specs.declared.entry.Maker.TheVariants as maker
use Rattle.sx_ledger.specs.Made.{NO_TARGET}
use Rattle.sx_tag.specs.Mac.{IsTag}
use Rattle.sx_tag.specs.Wrap.{wrapped}
use Rattle.sx_tag.proofs.TagBytes.{AreBytes, all_bytes, cipher_bytes, tag_bytes, both_bytes}
use Rattle.spec_machine.specs.Memory.{bytes_from, put_bytes}
use Rattle.spec_machine.specs.State.{State}
use Rattle.spec_invocation.specs.Setup.{Setup}
use Rattle.spec_invocation.specs.ModuleState.{EndState, ModuleState, end_of, epoch_of, link_of, with_end}
use Rattle.spec_invocation.specs.Marks.{Unwrapped}
use Rattle.spec_invocation.specs.Windows.{two}
use Rattle.spec_invocation.specs.Acts.{event_header, event_packet}
use Rattle.spec_invocation.specs.Entries.{end_found}
use Rattle.sx_sched.specs.Lines.{Line, Give, Call}
use Rattle.spec_run.specs.Setting.{Site, Setting}
use Rattle.spec_run.specs.Deployer.{connection_key}
use Rattle.spec_run.specs.Ledger.{is_made, made_entry}
use Rattle.spec_run.specs.Observation.{sender_of}
use Rattle.spec_run.specs.State.{World, Acted}
use Rattle.spec_run.specs.Acts.{then_, with_node}
use Rattle.spec_run.specs.Run.{after_line, line_counted, run}
use Rattle.spec_run.specs.Law.{IsLawfulSetting}
use Rattle.spec_run.proofs.tie.Lists.{get_within}
use Rattle.lemmas.proofs.Lists.{get_same}
use Rattle.law_invocation.specs.Effect.{Effect, acts_made, numbered}
use Rattle.law_invocation.specs.Gives.{own_device}
use Rattle.law_invocation.proofs.Few.{few_made}
use Rattle.law_calls.specs.Calls.{setup_of}
use Rattle.law_calls.specs.FourCalls.{CallDoes, CallEffect, emitted, entries_of}
use Rattle.law_calls.proofs.Four.{input_called}
use Rattle.spec_honest.specs.Plain.{Plain, Waiting, acts_emit, acts_send, reacted, reaction}
use Rattle.spec_honest.specs.Course.{Course, acts_items, count_over, delivered, packet_items, packets_so_far, setup_packets}
use Rattle.spec_honest.proofs.AsPlain.{Goes, IsLinked, IsTold, goes, told_delivered}
use Rattle.spec_honest.proofs.Course.{total}
use Rattle.spec_honest.proofs.Lists.{words-few}
use Rattle.spec_honest.proofs.Views.{count-other, count-same}
use Rattle.law_setup.specs.Laws.{HasRoom}
use Rattle.law_setup.proofs.forms.ByLine.{shown_by}
use Rattle.law_setup.proofs.forms.Loaded.{StandsHigh}
use Rattle.law_setup.proofs.forms.Served.{IsServed, Serves, callee, state_on}
use Rattle.law_setup.proofs.forms.Settled.{IsOnItsWay, Settled, all_sent, event_of, module_as, open_end}
use Rattle.law_setup.proofs.Acting.{packet_given}
use Rattle.law_setup.proofs.Bytes.{bytes_put}
use Rattle.law_setup.proofs.Free.{with_mem}
use Rattle.law_setup.proofs.KeyTaking.{put_serves, served_callable, served_low, served_put}
use Rattle.law_setup.proofs.Sites.{section_at}
use Rattle.law_setup.proofs.KeyLoop.{placed}
use Rattle.law_delivery.specs.Laws.{HaveWords}
use Rattle.law_delivery.specs.Schedule.{delivery_lines, take_lines}
use Rattle.law_delivery.proofs.ByLine.{call_shown, delivery_shown}
use Rattle.law_delivery.proofs.Calling.{Before, CalledThere, Makes, called_there, event_size, stays}
use Rattle.law_delivery.proofs.Effects.{emits_same, node_there, others_after, own_after, sends_few, sent_by, site_there}
use Rattle.law_delivery.proofs.Fitting.{delivery_is}
use Rattle.law_delivery.proofs.Found.{IsFound, end_there}
use Rattle.law_delivery.proofs.Going.{Leads, Stands}
use Rattle.law_delivery.proofs.InWords.{HasWord, reacted_words, words_with}
use Rattle.law_delivery.proofs.Leaving.{ends_passed}
use Rattle.law_delivery.proofs.Making.{acts_at, end_mapped, ends_apart, with_end_mapped}
use Rattle.law_delivery.proofs.Making.{Makes as MakesPackets}
use Rattle.law_delivery.proofs.Serving.{own_section, served_at, Follows}

-- An event's packet is bytes.

two_bytes : (v : ℕ) → IsWord v → (v % 256 < 256) × (v / 256 < 256)
two_bytes v h = (omega arith, omega (arith, h))

event_bytes : (set : Setting) → IsTag set.mac → (link number v : ℕ) → IsWord link → IsWord number → IsWord v → AreBytes (event_of set link number v)
event_bytes set tag link number v a b d =
    let header = event_header (record { is_open = true; field = link; number = number; key = [] }) in
    let p = wrapped set.mac (connection_key set link 0) header (two v) in
    let x = two_bytes link a in
    let y = two_bytes number b in
    let z = two_bytes v d in
    let head : AreBytes header = (omega arith, (omega arith, (x.0, (x.1, (y.0, (y.1, tt)))))) in
    both_bytes header (p.cipher ++ p.tag) head
    (both_bytes p.cipher p.tag (cipher_bytes set.mac tag (connection_key set link 0) header (two v) (z.0, (z.1, tt))) (tag_bytes set.mac tag (connection_key set link 0) header (two v)))

-- an end's number where one more value was delivered, on a side
side_kept : (set : Setting) (past all : List Waiting) (x : Waiting) (a : End) → (a.side ≡ To → x.link ≡ a.link → ⊥) → open_end set past all a ≡ open_end set (past ++ x ∷ []) all a
side_kept set past all x a far = by a.side far
  where
    by : (side : Side) → (side ≡ To → x.link ≡ a.link → ⊥)
        → ◌≡◌ {A = EndState} (open_end set past all (record { link = a.link; side = side; port = a.port })) (open_end set (past ++ x ∷ []) all (record { link = a.link; side = side; port = a.port }))
    by From far = refl
    by To far = ap (λ (i : ℕ). record { is_open = true; field = a.link; number = i; key = connection_key set a.link 0 }) (sym (count-other a.link past x (far refl)))

low_field : (link : ℕ) → link < 256 → link_of link ≡ link
low_field link h = omega (arith, h)

first_epoch : (link i : ℕ) → link < 256 → 65536 * epoch_of link + i ≡ i
first_epoch link i h = omega (arith, h)

module _ (set : Setting) (sound : IsLawfulSetting set) (room : HasRoom set) (words : HaveWords set.app) (c : Course) (w : World) (stands : Stands set w c)
    (x : Waiting) (ws : List Waiting) (waits : c.plain.waiting ≡ x ∷ ws) (few : total (delivered set.app x ws c) ≤ 65535) where
  abbrev valid : is_valid set.app ≡ true
  valid = room.valid

  abbrev settled : Settled set w c
  settled = stands.settled

  linked : IsLinked set.app x
  linked = All-head (IsLinked set.app) x ws (subst (λ zs. All (IsLinked set.app) zs) waits stands.told.linked)

  g : Goes set.app x.link
  g = goes set.app x.link valid linked

  abbrev m : ℕ
  m = g.link.to

  abbrev q : PartTree
  q = g.part

  found_site : (site : Site) × (slice_get set.sites m ≡ Some site)
  found_site = site_there set sound m q g.to

  abbrev site : Site
  site = found_site.0

  abbrev sited : slice_get set.sites m ≡ Some site
  sited = found_site.1

  found_node : (s : State) × (slice_get w.nodes site.node ≡ Some s)
  found_node = node_there set sound valid c w settled m q site g.to sited

  abbrev s : State
  s = found_node.0

  abbrev there : slice_get w.nodes site.node ≡ Some s
  there = found_node.1

  abbrev sec : Section
  sec = section_at set (own_section set sound room c w settled m site s sited there).0 site

  abbrev st : ModuleState
  st = module_as set c m

  served : IsServed set m q site sec s st
  served = served_at set sound room c w settled m q site s g.to sited there

  -- The packet is given.

  abbrev number : ℕ
  number = setup_packets set.app + length c.past

  abbrev i : ℕ
  i = count_over x.link c.past

  abbrev v : ℕ
  v = x.value

  abbrev bytes : List ℕ
  bytes = event_of set x.link i v

  on_its_way : IsOnItsWay set w number x.link i v
  on_its_way =
      let plus : number + 0 ≡ number = omega arith in
      subst (λ (zs : List Waiting). IsOnItsWay set w number x.link (count_over x.link zs) v) (append-nil c.past)
      (subst (λ (k : ℕ). IsOnItsWay set w k x.link (count_over x.link (c.past ++ [])) v) plus (settled.waiting x [] ws waits))

  total_left : length c.past + 1 ≤ 65535
  total_left =
      let a = length-append c.past (x ∷ []) in
      omega (arith, few, a)

  i_small : i < 65535
  i_small = (let a = words-few x.link c.past in let b = total_left in omega (arith, a, b))

  link_small : x.link < 64
  link_small = (let a = sound.sound.links in let b = linked in omega (arith, a, b))

  v_small : IsWord v
  v_small = All-head HasWord x ws (subst (λ zs. All HasWord zs) waits stands.words.waiting)

  size : length bytes ≡ 24
  size = event_size set sound.tag x.link i v

  fits : 0x40 + length bytes ≤ 512
  fits = let z = size in omega (arith, z)

  abbrev s1 : State
  s1 = with_mem s (put_bytes s.mem 0x40 bytes)

  abbrev w0 : World
  w0 = line_counted w

  abbrev w1 : World
  w1 = with_node w0 site.node s1 w0.ledger w0.steps

  abbrev w2 : World
  w2 = line_counted w1

  gave : after_line set w0 (Give number site.node 0x40) ≡ record { world = w1; items = [] }
  gave = packet_given set w0 number site.node 0x40 bytes s on_its_way.stands there served.idle served.low fits

  served1 : IsServed set m q site sec s1 st
  served1 = served_put set m q site sec s st 0x40 bytes served fits

  serves1 : Serves sec s s1
  serves1 = put_serves sec s 0x40 bytes fits served.node served.idle served.low

  high1 : StandsHigh s1
  high1 = served1.low

  before : Before set sound room c w settled m q site s g.to sited there s1 w1
  before = record { stays = stays sec s s1 serves1; high = high1; nodes = refl; packets = refl; deployer = refl; ledger = refl }

  bytes_there : bytes_from s1.mem 0x40 24 ≡ bytes
  bytes_there =
      ap (bytes_from s1.mem 0x40) (sym size)
      ∙ bytes_put bytes s.mem 0x40 (all_bytes bytes (event_bytes set sound.tag x.link i v (let a = link_small in omega (arith, a)) (let a = i_small in omega (arith, a)) v_small))
      (let z = size in let y = served.node.memory.size in omega (arith, z, y))

  -- The receiver is called.

  abbrev su : Setup
  su = setup_of set (callee m q site sec s1)

  ordered : AllPairs IsBefore (ends_of set.app m)
  ordered = (ends_hold set.app m q valid g.to).ordered

  -- the end that takes it
  abbrev e : End
  e = record { link = x.link; side = To; port = g.link.input }

  at_end : IsFound x.link 0 (ends_of set.app m) e
  at_end = end_there set.app.links x.link g.link g.there

  abbrev j : ℕ
  j = at_end.place

  abbrev opened : EndState
  opened = record { is_open = true; field = x.link; number = i; key = connection_key set x.link 0 }

  end_is : end_of (state_on set m q site s1).ends j ≡ opened
  end_is = ap (λ (z : ModuleState). end_of z.ends j) served1.state ∙ end_mapped (open_end set c.past (all_sent c)) (ends_of set.app m) j e at_end.there

  small : x.link < 256
  small = let a = link_small in omega (arith, a)

  found : end_found (link_of (end_of (state_on set m q site s1).ends j).field) To 0 (ends_of set.app m) ≡ placed j e
  found =
      let zero_plus : 0 + j ≡ j = omega arith in
      ap (λ (z : EndState). end_found (link_of z.field) To 0 (ends_of set.app m)) end_is
      ∙ ap (λ (l : ℕ). end_found l To 0 (ends_of set.app m)) (low_field x.link small) ∙ at_end.found ∙ ap (λ (k : ℕ). placed k e) zero_plus

  opens : (end_of (state_on set m q site s1).ends j).is_open ≡ true
  opens = ap (λ (z : EndState). z.is_open) end_is

  above : (end_of (state_on set m q site s1).ends j).number ≤ i
  above = let same : (end_of (state_on set m q site s1).ends j).number ≡ i = ap (λ (z : EndState). z.number) end_is in omega (arith, same)

  packet_is : bytes_from s1.mem 0x40 24 ≡ event_packet su (numbered (end_of (state_on set m q site s1).ends j) i) v
  packet_is = bytes_there ∙ ap (λ (z : EndState). event_packet su (numbered z i) v) (sym end_is)

  made_there : is_made w2.ledger (made_entry (maker.Module (sender_of set.app (link_of (end_of (state_on set m q site s1).ends j).field))) NO_TARGET 0
      (event_header (numbered (end_of (state_on set m q site s1).ends j) i)) (two v)) ≡ true
  made_there =
      ap (λ (z : EndState). is_made w.ledger (made_entry (maker.Module (sender_of set.app (link_of z.field))) NO_TARGET 0 (event_header (numbered z i)) (two v))) end_is
      ∙ ap (λ (l : ℕ). is_made w.ledger (made_entry (maker.Module (sender_of set.app l)) NO_TARGET 0 (event_header opened) (two v))) (low_field x.link small)
      ∙ on_its_way.made

  here1 : slice_get w2.nodes site.node ≡ Some s1
  here1 = get_same w.nodes site.node s1 s there

  abbrev device : Option ℕ
  device = own_device su s1.devices

  abbrev effect : ModuleState → EndState → CallEffect
  effect z o =
      let done = react q.tree (event.Input e.port v) z.cells in
      let made = acts_made su device done.acts (with_end z.ends j (numbered o (i + 1))) in
      record {
        state = record { cells = done.cells; ends = made.ends };
        marks = Unwrapped (event_header (numbered o i)) (two v) false ∷ made.marks;
        pieces = made.pieces;
        items = item.Take m (link_of o.field) (65536 * epoch_of o.field + i) v ∷ map (λ u. item.Out m u) (emitted done.acts);
        entries = entries_of m made.marks;
      }

  does0 : CallDoes set w2 (callee m q site sec s1) 2 (effect (state_on set m q site s1) (end_of (state_on set m q site s1).ends j))
  does0 =
      input_called set w2 (callee m q site sec s1) j i v e sound (served_callable set w2 m q site sec s1 st served1 here1) (served_low set m q site sec s1 st served1)
      (few_made set.app m q valid g.to) found opens above i_small packet_is made_there

  does : CallDoes set w2 (callee m q site sec s1) 2 (effect st opened)
  does =
      subst (λ (z : ModuleState). CallDoes set w2 (callee m q site sec s1) 2 (effect z opened)) served1.state
      (subst (λ (o : EndState). CallDoes set w2 (callee m q site sec s1) 2 (effect (state_on set m q site s1) o)) end_is does0)

  -- What it leaves of the course.

  abbrev input : SourceEvent
  input = event.Input g.link.input v

  abbrev acts : List Act
  acts = (reaction m q input c.plain.cells).acts

  abbrev new : List ℕ
  new = (reaction m q input c.plain.cells).cells

  abbrev ys : List Waiting
  ys = acts_send set.app.links m acts

  abbrev past2 : List Waiting
  past2 = c.past ++ x ∷ []

  abbrev plain : Plain
  plain = record c.plain { waiting = ws }

  abbrev next : Course
  next = record {
    plain = reacted set.app m input plain q;
    past = past2;
    items = c.items ++ acts_items set.app m (item.Take m x.link i v) (packets_so_far set.app c) acts;
  }

  next_is : next ≡ delivered set.app x ws c
  next_is = rw (g.there, g.to) refl

  sixteen : length ys ≤ 16
  sixteen = sends_few set.app m q valid g.to input (slice_index_or c.plain.cells m [])

  sent : past2 ++ ws ≡ all_sent c
  sent = append_assoc c.past (x ∷ []) ws ∙ ap (λ (zs : List Waiting). c.past ++ zs) (sym waits)

  room_left : length (all_sent c) + length ys ≤ 65535
  room_left =
      let t : total next ≤ 65535 = subst (λ (z : Course). total z ≤ 65535) (sym next_is) few in
      let a : length (past2 ++ ws) ≡ length (all_sent c) = ap (λ (zs : List Waiting). length zs) sent in
      let b = length-append past2 ws in
      let d = length-append ws ys in
      omega (arith, t, a, b, d)

  -- the taken end has the next number, and all others are as before
  ends_taken : with_end st.ends j (numbered opened (i + 1)) ≡ map (open_end set past2 (all_sent c)) (ends_of set.app m)
  ends_taken =
      with_end_mapped (open_end set c.past (all_sent c)) (open_end set past2 (all_sent c)) (ends_of set.app m) j e (numbered opened (i + 1)) at_end.there
      (λ k a ne t. side_kept set c.past (all_sent c) x a (λ to at. ends_apart (ends_of set.app m) k j a e ordered ne t at_end.there to (sym at)))
      (ap (λ (n : ℕ). record { is_open = true; field = x.link; number = n; key = connection_key set x.link 0 }) (sym (count-same x.link c.past x refl)))

  abbrev made : Effect
  made = acts_made su device acts (with_end st.ends j (numbered opened (i + 1)))

  packs : MakesPackets set m q site sec s1 ordered past2 (all_sent c) made ys
  packs =
      subst (λ (es : List EndState). MakesPackets set m q site sec s1 ordered past2 (all_sent c) (acts_made su device acts es) ys) (sym ends_taken)
      (acts_at set m q site sec s1 ordered past2 device acts (all_sent c) room_left)

  within : m < length c.plain.cells
  within = (let a = get_within set.app.parts m q g.to in let b = stands.words.many in omega (arith, a, b))

  makes : Makes set sound room c w settled m q site s g.to sited there s1 w1 2 (effect st opened) next ys
  makes = record {
    does = does;
    pieces = packs.pieces;
    entries = packs.entries;
    state = own_after set c m acts past2 ws new next.plain.outputs next.items sent made.ends packs.ends within;
    stale = subst (λ ds. All (λ d. d.fresh ≡ false) ds) (sym (packs.quiet s1.devices)) (settled.nodes site.node s there).stale;
    few = sixteen;
  }

  old : (y : Waiting) (front after : List Waiting) → ws ≡ front ++ y ∷ after
      → IsOnItsWay set w (setup_packets set.app + length past2 + length front) y.link (count_over y.link (past2 ++ front)) y.value
  old y front after t =
      let r = settled.waiting y (x ∷ front) after (waits ∙ ap (λ (zs : List Waiting). x ∷ zs) t) in
      let l = length-append c.past (x ∷ []) in
      let place : setup_packets set.app + length c.past + length (x ∷ front) ≡ setup_packets set.app + length past2 + length front = omega (arith, l) in
      subst (λ (zs : List Waiting). IsOnItsWay set w (setup_packets set.app + length past2 + length front) y.link (count_over y.link zs) y.value) (sym (append_assoc c.past (x ∷ []) front))
      (subst (λ (k : ℕ). IsOnItsWay set w k y.link (count_over y.link (c.past ++ x ∷ front)) y.value) place r)

  follows : Follows set sound room c w settled m next ws ys
  follows = record {
    waits = refl;
    sent = sent;
    count = (let l = length-append c.past (x ∷ []) in let k : length c.plain.waiting ≡ suc (length ws) = ap (λ (zs : List Waiting). length zs) waits in omega (arith, l, k));
    old = old;
    senders = λ y a. sent_by set.app m acts y a;
    apart = λ p ne. others_after set c m acts past2 ws new next.plain.outputs next.items sent p ne (ends_passed set p m c.past (all_sent c) x g.link g.there refl ne);
  }

  abbrev shown : List Item
  shown = (effect st opened).items

  called : CalledThere set sound room c w settled m q site s g.to sited there w1 2 shown next ys
  called = called_there set sound room c w settled m q site s g.to sited there s1 w1 before 2 (effect st opened) next ws ys makes follows

  -- And so the lines lead on.

  abbrev lines_at : ℕ → List Line
  lines_at n = Give number n 0x40 ∷ Call m 2 0x40 0x80 ∷ take_lines n 0x80 (length ys)

  abbrev showing : ℕ → ℕ → ℕ → List ℕ → List Item
  showing l k n vs = item.Take m l k v ∷ map (λ u. item.Out m u) vs ++ item.Done m 1 (length ys) ∷ packet_items n 24 (length ys)

  run_is : run set w (lines_at site.node) ≡ record { world = called.world; items = showing (link_of x.link) (65536 * epoch_of x.link + i) (length w.packets) (emitted acts) }
  run_is =
      ap (λ (a : Acted). then_ a (λ z. run set z (Call m 2 0x40 0x80 ∷ take_lines site.node 0x80 (length ys)))) gave
      ∙ ap (λ (a : Acted). record { world = a.world; items = a.items }) called.is

  abbrev shown_at : ℕ → ℕ → ℕ → List ℕ → List (List Item)
  shown_at l k n vs = [] ∷ call_shown m (item.Take m l k v) vs (length ys) n

  each_is : shown_by set w (lines_at site.node) ≡ shown_at x.link i (packets_so_far set.app c) (acts_emit acts)
  each_is =
      ap (λ (a : Acted). a.items ∷ shown_by set a.world (Call m 2 0x40 0x80 ∷ take_lines site.node 0x80 (length ys))) gave
      ∙ ap (λ (zs : List (List Item)). [] ∷ zs) called.each
      ∙ ap (λ (vs : List ℕ). shown_at (link_of x.link) (65536 * epoch_of x.link + i) (length w.packets) vs) (emits_same acts)
      ∙ ap (λ (n : ℕ). shown_at (link_of x.link) (65536 * epoch_of x.link + i) n (acts_emit acts)) settled.packets
      ∙ ap (λ (k : ℕ). shown_at (link_of x.link) k (packets_so_far set.app c) (acts_emit acts)) (first_epoch x.link i small)
      ∙ ap (λ (l : ℕ). shown_at l i (packets_so_far set.app c) (acts_emit acts)) (low_field x.link small)

  shown_is : shown_at x.link i (packets_so_far set.app c) (acts_emit acts) ≡ delivery_shown set.app x c
  shown_is = rw (g.there, g.to) refl

  next_stands : Stands set called.world next
  next_stands = record {
    settled = called.is_settled;
    told = subst (λ (z : Course). IsTold set.app z) (sym next_is) (told_delivered set.app x ws c valid waits stands.told);
    words = reacted_words set.app words m input plain q g.to v_small
        (words_with set.app c.plain ws (All-tail HasWord x ws (subst (λ zs. All HasWord zs) waits stands.words.waiting)) stands.words);
  }

  leads_next : Leads set w (lines_at site.node) (delivery_shown set.app x c) c next
  leads_next = record {
    world = called.world;
    items = showing (link_of x.link) (65536 * epoch_of x.link + i) (length w.packets) (emitted acts);
    is = run_is;
    each = each_is ∙ shown_is;
    more =
        ap (λ (zs : List Item). c.items ++ zs)
        (ap (λ (l : ℕ). showing l i (packets_so_far set.app c) (acts_emit acts)) (sym (low_field x.link small))
        ∙ ap (λ (k : ℕ). showing (link_of x.link) k (packets_so_far set.app c) (acts_emit acts)) (sym (first_epoch x.link i small))
        ∙ ap (λ (n : ℕ). showing (link_of x.link) (65536 * epoch_of x.link + i) n (acts_emit acts)) (sym settled.packets)
        ∙ ap (λ (vs : List ℕ). showing (link_of x.link) (65536 * epoch_of x.link + i) (length w.packets) vs) (sym (emits_same acts)));
    stands = next_stands;
  }

  pub delivery_leads : Leads set w (delivery_lines set.app x c) (delivery_shown set.app x c) c (delivered set.app x ws c)
  unfolding g
  delivery_leads =
      subst (λ (z : Course). Leads set w (delivery_lines set.app x c) (delivery_shown set.app x c) c z) next_is
      (subst (λ ls. Leads set w ls (delivery_shown set.app x c) c next) (delivery_is set valid x ws c waits linked)
      (subst (λ (n : ℕ). Leads set w (lines_at n) (delivery_shown set.app x c) c next) (sound.sound.deployed m q site g.to sited).node leads_next))
