-- A handler's part does the handler.
use Rattle.std.proofs.Common.{◌≡◌, ℕ, zero, suc, ◌+◌, ◌<◌, ◌≤◌, inl, inr, Bool, true, false, ◌&&◌, if◌then◌else◌, List, [], ◌∷◌, ◌++◌, length, Option, Some}
use Rattle.std.proofs.Common.{None, nat_lt, refl, sym, ap, ◌∙◌, subst, arith, length-append}
use Rattle.std.specs.Prelude.{slice_get, Result, Ok, Err}
use Rattle.std.proofs.lemmas.Bool.{and_from, le-leb, lt-ltb}
use Rattle.std.proofs.lemmas.List.{append-nil}
use Rattle.sx_lang.specs.declared.tree.Decl.{Decl}
use Rattle.sx_lang.specs.declared.tree.DeviceKind.{DeviceKind}
use Rattle.sx_lang.specs.declared.tree.DeviceKind.TheVariants.{Sensor, Actuator}
use Rattle.sx_lang.specs.Tree.{HandlerTree, ModuleTree}
use Rattle.sx_lang.specs.Sizes.{declared_cells, module_data_size, block_cost, handler_cost}
use Rattle.sx_check.specs.Names.{is_actuator}
use Rattle.std.specs.List.{list_all, list_any}
use Rattle.std.proofs.lemmas.Option.{none-some}
use Rattle.sx_mean.specs.declared.events.Act.{Act}
use Rattle.sx_mean.specs.declared.events.Act.TheVariants.{Send, Emit}
use Rattle.sx_mean.specs.declared.events.End.{End}
use Rattle.sx_mean.specs.declared.events.SourceEvent.{SourceEvent}
use Rattle.sx_mean.specs.Application.{declared_kind}
use Rattle.sx_mean.specs.Places.{initial_cells}
use Rattle.sx_mean.specs.Meaning.{HandlerState, in_block, after_block}
use Rattle.sx_mean.specs.React.{handler_at, value_of, start, run}
use Rattle.sx_rules.specs.declared.access.Violation.{Violation}
use Rattle.sx_bus.specs.declared.devices.Window.{Window}
use Rattle.sx_image.specs.Reach.{Goes}
use Rattle.spec_machine.specs.Memory.{put_word}
use Rattle.spec_invocation.specs.Marks.{Mark}
use Rattle.spec_invocation.specs.Setup.{Setup, Call}
use Rattle.sx_mean.specs.Offsets.{cell_at}
use Rattle.sx_mean.specs.Working.{event_at, local_at}
use Rattle.spec_invocation.specs.ModuleState.{ModuleState, EndState, end_of, end_states, cells_from, state_of}
use Rattle.spec_invocation.specs.Progress.{Progress, Course, Going, Broken, and_on}
use Rattle.spec_invocation.specs.Acts.{copied_to, with_packet, with_packets, with_piece, event_packet, wrap_counted, own_window, actuated, with_act, with_acts, handled}
use Rattle.sx_mean.specs.Ends.{is_sending}
use Rattle.sx_mean.specs.EndLaws.{senders}
use Rattle.spec_invocation.specs.Devices.{HasDevices}
use Rattle.sx_ir.specs.Conf.{Conf}
use Rattle.sx_ir.specs.Meaning.{OperationResult}
use Rattle.sx_ir.specs.Sound.{is_sound_part}
use Rattle.sx_ir.specs.Invoking.{Represents, CourseBreaks, CourseGoesOn, DoesCourse, PartDoes, HandlerBegins}
use Rattle.sx_ir.specs.declared.ir.Ir.{Ir}
use Rattle.sx_ir.specs.declared.ir.Ir.TheVariants as ir
use Rattle.sx_lower.specs.Lowered.{block_code, handler_code, handlers_code, handlers_parts}
use Rattle.sx_lower.proofs.Accepted.{short, light}
use Rattle.sx_lower.specs.Lowering.{IsLowerable, Lowers, LoweredFits, LoweredReacts}
use Rattle.sx_lower.proofs.Bytes.{word_small}
use Rattle.sx_lower.proofs.Holds.{Holds, holds_define}
use Rattle.sx_lower.proofs.Run.{HasAt, has_front, has_back, has_all, at, do_one, weaker, to, room, Comes_to}
use Rattle.sx_lower.proofs.Packets.{Shows, shows_other}
use Rattle.sx_lower.proofs.Sounds.{AreSound, sound_append, handler_sound, all_sound, all_ours}
use Rattle.sx_check.proofs.Keeps.{In}
use Rattle.sx_mean.proofs.Fine.{handler_in, drives}
use Rattle.sx_lower.proofs.Rules.{IsFine, is_fine}
use Rattle.sx_lower.proofs.Statements.{Actuates, Tied, Ended, block_reach}

-- An invocation's acts leave the cells.

abbrev KeepsCells : List ℕ → Course → Type 0
KeepsCells cells (Going q) = q.state.cells ≡ cells
KeepsCells cells (Broken v q) = Unit {0}

over : (cells : List ℕ) (r : Course) (f : Progress → Course) → KeepsCells cells r → ((q : Progress) → q.state.cells ≡ cells → KeepsCells cells (f q)) → KeepsCells cells (and_on r f)
over cells (Going q) f k h = h q k
over cells (Broken v q) f k h = tt

copy_keeps : (cells : List ℕ) (r : Result (List ℕ) Violation) (p : Progress) → p.state.cells ≡ cells → KeepsCells cells (copied_to r p)
copy_keeps cells (Ok mem) p e = e
copy_keeps cells (Err v) p e = tt

module _ (s : Setup) (call : Call) (cells : List ℕ) where
  packet_keeps : (v k : ℕ) (p : Progress) → p.state.cells ≡ cells → KeepsCells cells (with_packet s call v k p)
  unfolding with_packet
  packet_keeps v k p e = go (end_of p.state.ends k) ((end_of p.state.ends k).is_open && nat_lt (end_of p.state.ends k).number 65535)
    where
      go : (x : EndState) (b : Bool) → KeepsCells cells (if b then with_piece s call (event_packet s x v) (wrap_counted k x v p) else Going p)
      go x true = copy_keeps cells _ _ e
      go x false = e

  packets_keep : (output v k : ℕ) (es : List End) (p : Progress) → p.state.cells ≡ cells → KeepsCells cells (with_packets s call output v k es p)
  packets_keep output v k [] p e = e
  packets_keep output v k (x ∷ es) p e = go (is_sending output x.side x.port) (λ q e. packets_keep output v (k + 1) es q e)
    where
      go : (b : Bool) → ((q : Progress) → q.state.cells ≡ cells → KeepsCells cells (with_packets s call output v (k + 1) es q))
          → KeepsCells cells (if b then and_on (with_packet s call v k p) (with_packets s call output v (k + 1) es) else with_packets s call output v (k + 1) es p)
      go true more = over cells (with_packet s call v k p) _ (packet_keeps v k p e) more
      go false more = more p e

  act_keeps : (a : Act) (p : Progress) → p.state.cells ≡ cells → KeepsCells cells (with_act s call a p)
  act_keeps (Send o v) p e = packets_keep o v 0 s.ends p e
  act_keeps (Emit v) p e = go (own_window s p.devices)
    where
      go : (w : Option (ℕ × Window)) → (actuated v w p).state.cells ≡ cells
      go None = e
      go (Some d) = e

  acts_keep : (acts : List Act) (p : Progress) → p.state.cells ≡ cells → KeepsCells cells (with_acts s call acts p)
  acts_keep [] p e = e
  acts_keep (a ∷ acts) p e = over cells (with_act s call a p) _ (act_keeps a p e) (λ q e. acts_keep acts q e)

-- the device of a driver of an actuator
actuates : (s : Setup) (devices : List Window) (k : Option DeviceKind) → k ≡ Some Actuator → HasDevices devices k s.section.layout → Actuates s devices
actuates s devices None e h = absurd (differ e)
  where
    differ : ◌≡◌ {A = Option DeviceKind} None (Some Actuator) → ⊥
    differ e = cc
actuates s devices (Some Sensor) e h = absurd (differ e)
  where
    differ : ◌≡◌ {A = Option DeviceKind} (Some Sensor) (Some Actuator) → ⊥
    differ e = cc
actuates s devices (Some Actuator) e h = record { device = h.device; window = h.window; found = h.found; kind = h.kind }

cells_in : (m : ModuleTree) (ends : List End) (priv : List ℕ) (st : ModuleState) → state_of m ends priv ≡ st → cells_from priv (cell_at (length ends) 0) (initial_cells m.decls) ≡ st.cells
unfolding state_of
cells_in m ends priv st e = ap (λ s. s.cells) e

ends_in : (m : ModuleTree) (ends : List End) (priv : List ℕ) (st : ModuleState) → state_of m ends priv ≡ st → end_states priv 0 ends ≡ st.ends
unfolding state_of
ends_in m ends priv st e = ap (λ s. s.ends) e

state_is : (m : ModuleTree) (ends : List End) (priv : List ℕ) (st : ModuleState) → cells_from priv (cell_at (length ends) 0) (initial_cells m.decls) ≡ st.cells → end_states priv 0 ends ≡ st.ends
    → state_of m ends priv ≡ st
unfolding state_of
state_is m ends priv st c e = rw (c, e) refl

module _ (s : Setup) (handle : ℕ → Conf → OperationResult) (given : ℕ → ℕ) (code : List Ir) (low : IsLowerable s.tree s.ends) (e : SourceEvent) (h : HandlerTree) (is : handler_at s.tree e ≡ Some h)
    (place : ℕ) (has : HasAt code place (handler_code s.tree.decls s.ends place h)) where
  abbrev done : Progress → HandlerState
  done p = in_block s.tree.decls h.body (start h (value_of e) p.state.cells)

  abbrev begun : Progress → Progress
  begun p = record p { state = record p.state { cells = (done p).cells } }

  course_is : (call : Call) (p : Progress) → handled s call e p ≡ with_acts s call (done p).acts (begun p)
  unfolding handled
  course_is call p = ap (λ o. with_acts s call (run s.tree.decls o (value_of e) p.state.cells).acts
      (record p { state = record p.state { cells = (run s.tree.decls o (value_of e) p.state.cells).cells } })) is

  -- the run is at the `Stop` of this place
  abbrev IsAtStop : ℕ → Option ℕ → Conf → Type 0
  IsAtStop q back t = (t.place ≡ q) × (slice_get code t.place ≡ Some ir.Stop) × (t.stack ≡ []) × (t.back ≡ back)

  -- the place of the part's `Stop`
  abbrev stop_place : ℕ
  stop_place = place + 2 + length (block_code s.tree.decls s.ends (place + 2) (h.param ∷ []) h.body)

  -- a run that has ended stands for what the handler gave
  ended_represents : (call : Call) (p0 : Progress) (devs : List Window) (fin st : HandlerState) (names : List (List ℕ)) (q most : ℕ) (back : Option ℕ) (t : Conf) → st.cells ≡ fin.cells
      → st.acts ≡ fin.acts → p0.state.cells ≡ fin.cells → slice_get code q ≡ Some ir.Stop → Ended s call p0 devs names q [] back st most t
      → CourseGoesOn (with_acts s call fin.acts p0) (λ p. Represents s call p t × IsAtStop q back t)
  ended_represents call p0 devs fin st names q most back t cells acts first stops h =
      let g = h.tied.progress in
      let did : with_acts s call fin.acts p0 ≡ Going g = ap (λ l. with_acts s call l p0) (sym acts) ∙ h.tied.did in
      let kept : g.state.cells ≡ fin.cells = subst (λ r. KeepsCells fin.cells r) did (acts_keep s call fin.cells fin.acts p0 first) in
      let w = h.tied.shown in
      let r : Represents s call g t = record {
        size = w.size;
        bytes = h.tied.holds.bytes;
        state = state_is s.tree s.ends t.priv g.state (h.tied.holds.cells ∙ cells ∙ sym kept) w.ends;
        mem = w.outside;
        devices = w.windows;
        marks = w.marked;
        count = w.count;
        entry = w.entry;
        input = w.input;
        output = w.output;
        back = w.back;
      } in
      subst (λ r. CourseGoesOn r (λ p. Represents s call p t × IsAtStop q back t)) (sym did)
      (r, (h.placed, ap (slice_get code) h.placed ∙ stops, h.stacked, h.returns))

  -- the part comes to its `Stop`
  pub part_ends : (call : Call) (p : Progress) (c : Conf) → c.place ≡ place → HandlerBegins s call e p c
      → DoesCourse s call handle given code (handled s call e p) (λ t. IsAtStop stop_place c.back t) (handler_cost h) c
  part_ends call p c at_place b =
      let r = b.represents in
      let ds = s.tree.decls in
      let n = length s.ends in
      let v = value_of e in
      let fin = done p in
      let p0 = begun p in
      let links = senders s.ends in
      let driver = λ (a : list_any is_actuator ds ≡ true). actuates s c.devices (declared_kind ds) (drives s.tree low.checked a)
      (subst (λ w. HasDevices w (declared_kind ds) s.section.layout) (sym r.devices) b.devices) in
      let good = is_fine s.tree low.checked links (Actuates s c.devices) h (handler_in s.tree e h is) low.words low.few_packets driver in
      let window = b.window in
      let c2 : Conf = record c { priv = put_word c.priv (local_at 0) v } in
      let small : v < 65536 = subst (λ w. w < 65536) b.value (word_small c.priv event_at (omega (arith, r.size)) r.bytes) in
      let st : HandlerState = record { locals = []; cells = p.state.cells; acts = [] } in
      let holds : Holds ds n [] st c.priv = record {
        named = refl;
        few = omega arith;
        locals = tt;
        cells = cells_in s.tree s.ends c.priv p.state r.state;
        size = omega (arith, r.size);
        bytes =
            r.bytes;
      } in
      let shown : Shows s call p0 c.priv c.mem c.devices c.marks = record {
        size = r.size;
        ends = ends_in s.tree s.ends c.priv p.state r.state;
        outside = r.mem;
        windows = r.devices;
        marked = r.marks;
        count = r.count;
        entry = r.entry;
        input = r.input;
        output = r.output;
        back = r.back;
        told = let none = ap length b.pieces in omega (arith, none);
        unkeyed = b.unkeyed;
      } in
      let tied : Tied s call p0 c.devices (h.param ∷ []) (start h v p.state.cells) c2.priv c2.mem c2.devices c2.marks = record {
        holds = holds_define ds n [] st c.priv holds h.param v small (omega arith);
        progress = p0;
        did = refl;
        shown = shows_other s call p0 c.priv c.mem c.devices c.marks (local_at 0) v (λ b x y. omega (arith, y)) (λ b x y. omega (arith, x)) shown;
        same = refl;
      } in
      let body = block_code ds s.ends (place + 2) (h.param ∷ []) h.body in
      let p2 : place + 1 + 1 ≡ place + 2 = omega arith in
      let rest = subst (λ q. HasAt code q (body ++ ir.Stop ∷ [])) p2 has.1.1 in
      let stops = (has_back code (place + 2) body (ir.Stop ∷ []) rest).0 in
      let none : length p0.pieces ≡ 0 = ap length b.pieces in
      let Goal : Conf → Type 0 = λ t. CourseGoesOn (with_acts s call fin.acts p0) (λ q. Represents s call q t × IsAtStop stop_place c.back t) in
      let Broke : Violation → List Mark → Type 0 = CourseBreaks (with_acts s call fin.acts p0) in
      let runs = block_reach s handle given code call p0 c.devices fin window low.few_ends good.values h.body (place + 2) (h.param ∷ []) good.fine good.height (omega (arith, good.lets))
      (has_front code (place + 2) body (ir.Stop ∷ []) rest)
      (start h v p.state.cells) [] c2 tied (omega (arith, good.depth)) (omega (arith, none, good.packets)) (record { more = []; all = append-nil _ }) in
      let ran = weaker s handle given code Broke _ Goal (at (place + 2) [] c2) (block_cost h.body) (block_cost h.body) (omega arith)
      (λ t ended. ended_represents call p0 c.devices fin (after_block ds h.body (start h v p.state.cells)) _ _ _ c.back t refl refl refl stops ended) runs in
      let from_start =
      do_one s handle given code Broke Goal (ir.Load event_at) (at place [] c) (at (place + 1) (v ∷ []) c) (8 + block_cost h.body) (handler_cost h) has.0
      (room s handle given code Broke [] _ (omega arith) ∙ ap (λ w. Goes (at (place + 1) (w ∷ []) c)) b.value) (omega arith)
      (do_one s handle given code Broke Goal (ir.Store (local_at 0)) (at (place + 1) (v ∷ []) c) (at (place + 1 + 1) [] c2) (block_cost h.body) (8 + block_cost h.body) has.1.0 refl (omega arith)
      (to s handle given code Broke Goal (block_cost h.body) (place + 1 + 1) (place + 2) [] c2 p2 ran)) in
      let at_c = subst (λ x. Comes_to s handle given code Broke Goal (handler_cost h) (at x c.stack c)) (sym at_place)
      (subst (λ l. Comes_to s handle given code Broke Goal (handler_cost h) (at place l c)) (sym b.stack) from_start) in
      subst (λ course. DoesCourse s call handle given code course (λ t. IsAtStop stop_place c.back t) (handler_cost h) c) (sym (course_is call p)) at_c

  goes_also : (r : Course) (P Q : Progress → Type 0) → ((q : Progress) → P q → Q q) → CourseGoesOn r P → CourseGoesOn r Q
  goes_also (Going q) P Q f x = f q x
  goes_also (Broken v q) P Q f x = x

  pub part_does : PartDoes s handle given code place e (handler_cost h)
  part_does call p c at_place b =
      let course = handled s call e p in
      let Stops = λ (t : Conf). (slice_get code t.place ≡ Some ir.Stop) × (t.stack ≡ []) × (t.back ≡ c.back) in
      weaker s handle given code (CourseBreaks course) (λ t. CourseGoesOn course (λ q. Represents s call q t × IsAtStop stop_place c.back t)) (λ t. CourseGoesOn course (λ q. Represents s call q t
      × Stops t)) c (handler_cost h) (handler_cost h) (omega arith)
      (λ t g. goes_also course (λ q. Represents s call q t × IsAtStop stop_place c.back t) (λ q. Represents s call q t × Stops t) (λ q x. (x.0, (x.1.1, x.1.2, x.1.3))) g)
      (part_ends call p c at_place b)

-- Parts

-- a handler's part is where its number among the parts says
part_stands : (ds : List Decl) (ends : List End) (hs : List HandlerTree) (code : List Ir) (p k from to : ℕ) (h : HandlerTree) → HasAt code p (handlers_code ds ends p hs) → slice_get hs k ≡ Some h
    → slice_get (handlers_parts ds ends p hs) k ≡ Some (from, to) → HasAt code from (handler_code ds ends from h)
part_stands ds ends [] code p k from to h has is part = absurd (none-some h is)
part_stands ds ends (x ∷ hs) code p zero from to h has is part =
    let same : x ≡ h = cc in
    let place : p ≡ from = first_is (p + length (handler_code ds ends p x)) part in
    subst (λ p. HasAt code p (handler_code ds ends p h)) place (subst (λ x. HasAt code p (handler_code ds ends p x)) same (has_front code p (handler_code ds ends p x) _ has))
  where
    first_is : (q : ℕ) → ◌≡◌ {A = Option (ℕ × ℕ)} (Some (p, q)) (Some (from, to)) → p ≡ from
    first_is q e = ap (λ o. either o) e
      where
        either : Option (ℕ × ℕ) → ℕ
        either None = 0
        either (Some x) = x.0
part_stands ds ends (x ∷ hs) code p (suc k) from to h has is part =
    part_stands ds ends hs code (p + length (handler_code ds ends p x)) k from to h (has_back code p (handler_code ds ends p x) _ has) is part

-- it ends after its last operation
part_behind : (ds : List Decl) (ends : List End) (hs : List HandlerTree) (p k from to : ℕ) (h : HandlerTree) → slice_get hs k ≡ Some h → slice_get (handlers_parts ds ends p hs) k ≡ Some (from, to)
    → from + length (handler_code ds ends from h) ≡ to
part_behind ds ends [] p k from to h is part = absurd (none-some h is)
part_behind ds ends (x ∷ hs) p zero from to h is part =
    let same : x ≡ h = cc in
    let both = pair_is (p + length (handler_code ds ends p x)) part in
    ap (λ q. q + length (handler_code ds ends q h)) (sym both.0) ∙ ap (λ y. p + length (handler_code ds ends p y)) (sym same) ∙ both.1
  where
    pair_is : (q : ℕ) → ◌≡◌ {A = Option (ℕ × ℕ)} (Some (p, q)) (Some (from, to)) → (p ≡ from) × (q ≡ to)
    pair_is q e = (ap (λ o. first o) e, ap (λ o. second o) e)
      where
        first : Option (ℕ × ℕ) → ℕ
        first None = 0
        first (Some x) = x.0

        second : Option (ℕ × ℕ) → ℕ
        second None = 0
        second (Some x) = x.1
part_behind ds ends (x ∷ hs) p (suc k) from to h is part = part_behind ds ends hs (p + length (handler_code ds ends p x)) k from to h is part

-- In the handlers' code alone, a part comes to its last operation.
pub lowered_ends : (s : Setup) (handle : ℕ → Conf → OperationResult) (given : ℕ → ℕ) (e : SourceEvent) (h : HandlerTree) (k from to : ℕ) → IsLowerable s.tree s.ends → handler_at s.tree e ≡ Some h
    → slice_get s.tree.handlers k ≡ Some h
    → slice_get (handlers_parts s.tree.decls s.ends 0 s.tree.handlers) k ≡ Some (from, to) → (call : Call) (p : Progress) (c : Conf) → c.place ≡ from → HandlerBegins s call e p c
    → DoesCourse s call handle given (handlers_code s.tree.decls s.ends 0 s.tree.handlers) (handled s call e p) (λ t. (t.place + 1 ≡ to) × (t.stack ≡ []) × (t.back ≡ c.back)) (handler_cost h) c
lowered_ends s handle given e h k from to low is handler part call p c at_place b =
    let code = handlers_code s.tree.decls s.ends 0 s.tree.handlers in
    let stands : HasAt code 0 code = subst (λ l. HasAt l 0 code) (append-nil code) (has_all code [] []) in
    let has = part_stands s.tree.decls s.ends s.tree.handlers code 0 k from to h stands handler part in
    let behind = part_behind s.tree.decls s.ends s.tree.handlers 0 k from to h handler part in
    let body = block_code s.tree.decls s.ends (from + 2) (h.param ∷ []) h.body in
    let long = length-append body (ir.Stop ∷ []) in
    let course = handled s call e p in
    let Before = λ (t : Conf). (t.place ≡ from + 2 + length body) × (slice_get code t.place ≡ Some ir.Stop) × (t.stack ≡ []) × (t.back ≡ c.back) in
    let After_ = λ (t : Conf). (t.place + 1 ≡ to) × (t.stack ≡ []) × (t.back ≡ c.back) in
    weaker s handle given code (CourseBreaks course) (λ t. CourseGoesOn course (λ q. Represents s call q t × Before t)) (λ t. CourseGoesOn course (λ q. Represents s call q t × After_ t)) c
    (handler_cost h) (handler_cost h) (omega arith)
    (λ t g. goes_also s handle given code low e h is from has course (λ q. Represents s call q t × Before t) (λ q. Represents s call q t × After_ t)
    (λ q x. let placed = x.1.0 in (x.0, (omega (arith, placed, behind, long), x.1.2, x.1.3))) g)
    (part_ends s handle given code low e h is from has call p c at_place b)

pub lowered_reacts : LoweredReacts
lowered_reacts s handle given before after e h k from to low is handler part =
    let code = before ++ (handlers_code s.tree.decls s.ends (length before) s.tree.handlers ++ after) in
    let stands = has_all (handlers_code s.tree.decls s.ends (length before) s.tree.handlers) before after in
    part_does s handle given code low e h is from (part_stands s.tree.decls s.ends s.tree.handlers code (length before) k from to h stands handler part)

-- every handler's code is sound
handlers_sound : (m : ModuleTree) (ends : List End) (ops size : ℕ) → cell_at (length ends) (declared_cells m.decls) ≤ size → (hs : List HandlerTree) (p : ℕ)
    → ((h : HandlerTree) → In h hs → IsFine m (senders ends) (Unit {0}) h) → p + length (handlers_code m.decls ends p hs) ≤ ops → AreSound ops size ends (handlers_code m.decls ends p hs)
handlers_sound m ends ops size fits [] p fine le = tt
handlers_sound m ends ops size fits (h ∷ hs) p fine le =
    let first = handler_code m.decls ends p h in
    let rest = handlers_code m.decls ends (p + length first) hs in
    let long = length-append first rest in
    let good = fine h (inl refl) in
    sound_append ops size ends first rest (handler_sound m.decls ends ops size fits (Unit {0}) h p good.fine good.lets (omega (arith, le, long)))
    (handlers_sound m ends ops size fits hs (p + length first) (λ g i. fine g (inr i)) (omega (arith, le, long)))

pub lowered_fits : LoweredFits
lowered_fits m ends place ops parts low le =
    let size = module_data_size m (length ends) in
    let code = handlers_code m.decls ends place m.handlers in
    let s = handlers_sound m ends ops size (omega arith) m.handlers place (λ h i. is_fine m low.checked (senders ends) (Unit {0}) h i low.words low.few_packets (λ a. tt)) le in
    record { sound = all_sound ops parts size ends code s; plain = all_ours ops size ends code s; light = light m ends place low.few_ends }

-- the places of the parts are there
pub parts_there : (ds : List Decl) (ends : List End) (p ops : ℕ) (hs : List HandlerTree) → p + length (handlers_code ds ends p hs) ≤ ops
    → list_all (is_sound_part ops) (handlers_parts ds ends p hs) ≡ true
parts_there ds ends p ops [] le = refl
parts_there ds ends p ops (h ∷ hs) le =
    let first = handler_code ds ends p h in
    let long = length-append first (handlers_code ds ends (p + length first) hs) in
    and_from _ _ (and_from _ _ (lt-ltb p ops (omega (arith, le, long))) (le-leb (p + length first) ops (omega (arith, le, long))))
    (parts_there ds ends (p + length first) ops hs (omega (arith, le, long)))

pub length-parts : (ds : List Decl) (ends : List End) (p : ℕ) (hs : List HandlerTree) → length (handlers_parts ds ends p hs) ≡ length hs
length-parts ds ends p [] = refl
length-parts ds ends p (h ∷ hs) = ap suc (length-parts ds ends (p + length (handler_code ds ends p h)) hs)

pub lowers : (m : ModuleTree) (ends : List End) (ops : List Ir) (parts : List (ℕ × ℕ)) → IsLowerable m ends → ops ≡ handlers_code m.decls ends 0 m.handlers
    → parts ≡ handlers_parts m.decls ends 0 m.handlers → Lowers m ends ops parts
lowers m ends ops parts low eo ep =
    subst (λ o. Lowers m ends o parts) (sym eo) (subst (λ l. Lowers m ends (handlers_code m.decls ends 0 m.handlers) l) (sym ep) (record {
      short = short m ends low.checked low.few_ends;
      fits = lowered_fits m ends 0 _ _ low (omega arith);
      there = parts_there m.decls ends 0 _ m.handlers (omega arith);
      parts = length-parts m.decls ends 0 m.handlers;
      reacts = λ s handle given e h k from to et ee is handler part.
          reacts s handle given e h k from to m ends et ee low is handler part;
    }))
  where
    alone : (ops : List Ir) → [] ++ (ops ++ []) ≡ ops
    alone ops = append-nil ops

    reacts : (s : Setup) (handle : ℕ → Conf → OperationResult) (given : ℕ → ℕ) (e : SourceEvent) (h : HandlerTree) (k from to : ℕ) (m : ModuleTree) (ends : List End) → s.tree ≡ m → s.ends ≡ ends
        → IsLowerable m ends
        → handler_at m e ≡ Some h → slice_get m.handlers k ≡ Some h → slice_get (handlers_parts m.decls ends 0 m.handlers) k ≡ Some (from, to)
        → PartDoes s handle given (handlers_code m.decls ends 0 m.handlers) from e (handler_cost h)
    reacts s handle given e h k from to m ends et ee low is handler part =
        let T = λ (m : ModuleTree) (ends : List End). IsLowerable m ends → handler_at m e ≡ Some h → slice_get m.handlers k ≡ Some h
        → slice_get (handlers_parts m.decls ends 0 m.handlers) k ≡ Some (from, to) → PartDoes s handle given (handlers_code m.decls ends 0 m.handlers) from e (handler_cost h) in
        let own : T s.tree s.ends = λ low is handler part.
        subst (λ code. PartDoes s handle given code from e (handler_cost h)) (alone (handlers_code s.tree.decls s.ends 0 s.tree.handlers))
        (lowered_reacts s handle given [] [] e h k from to low is handler part) in
        subst (λ m. T m ends) et (subst (λ ends. T s.tree ends) ee own) low is handler part
