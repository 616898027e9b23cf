-- The steps of an invocation in a world, from the first to the one with which the module leaves, or
-- with which its violation resets the node.
use Rattle.std.proofs.Common.{◌≡◌, ◌≢◌, ℕ, zero, suc, ◌+◌, ◌≤◌, ◌==◌, ◌||◌, Bool, true, false, if◌then◌else◌, List, [], ◌∷◌, ◌++◌, length, Option, Some, None, refl, sym, ◌∙◌, ap, subst, arith}
use Rattle.std.specs.Prelude.{slice_get, slice_index}
use Rattle.std.proofs.lemmas.Bool.{eq-eqb, ne_eqb, or_right}
use Rattle.std.proofs.lemmas.List.{append-nil, append_assoc}
use Rattle.lemmas.proofs.Lists.{get_same}
use Rattle.sx_rules.specs.declared.access.Violation.{Violation}
use Rattle.sx_rules.specs.declared.section.Section.{Section}
use Rattle.sx_rules.specs.declared.section.Layout.{Layout}
use Rattle.sx_rules.specs.Access.{Sections, Lives}
use Rattle.sx_bus.specs.Devices.{all_stale}
use Rattle.sx_trace.specs.declared.items.Item.{Item}
use Rattle.sx_trace.specs.declared.items.Item.TheVariants as item
use Rattle.sx_tag.specs.Mac.{Mac}
use Rattle.spec_machine.specs.declared.kinds.Event.{Event}
use Rattle.spec_machine.specs.declared.kinds.Event.TheVariants as event
use Rattle.spec_machine.specs.declared.kinds.Seen.{Seen}
use Rattle.spec_machine.specs.State.{State, reset}
use Rattle.spec_machine.specs.Run.{untouched}
use Rattle.spec_machine.specs.Step.{step, own_of}
use Rattle.sx_image.specs.Reach.{Stepped, Goes, Stops, Comes, Here, Next, Ends}
use Rattle.spec_invocation.specs.Setup.{Setup}
use Rattle.spec_invocation.specs.Marks.{Mark}
use Rattle.spec_invocation.specs.Progress.{Progress, Invoked, Violates}
use Rattle.sx_image.specs.Watched.{Watched, watch, watched_on, violation_of, marks_of}
use Rattle.sx_image.specs.Image.{StandsProtected, public_bytes, setup_at}
use Rattle.sx_image.specs.Realizes.{Underway, Aborted, Exited}
use Rattle.sx_mean.specs.Application.{PartTree}
use Rattle.sx_mean.specs.Ends.{ends_of}
use Rattle.spec_run.specs.Setting.{Site, Setting, module_of}
use Rattle.spec_run.specs.Observation.{Observed, observed, cause_of}
use Rattle.spec_run.specs.State.{World, Acted}
use Rattle.spec_run.specs.Acts.{with_node, at_node, after_step, then_}
use Rattle.spec_run.specs.Run.{is_reset, steps_of}
use Rattle.spec_run.specs.Law.{image_at, IsSoundSetting}
use Rattle.spec_run.proofs.steps.Stretch.{IsPlain, done_items}
use Rattle.spec_run.proofs.steps.Events.{plain_events, left_outside, not_left}
use Rattle.spec_run.proofs.steps.Machine.{onward, violates}
use Rattle.spec_run.proofs.steps.Steps.{nonzero}
use Rattle.spec_run.proofs.steps.UnderWay.{watched_next}
use Rattle.law_calls.specs.Shown.{marks_observed}
use Rattle.law_calls.proofs.Observing.{observed_append, step_observed, devices_stale}
use Rattle.law_calls.proofs.Registering.{node_twice}
use Rattle.law_calls.proofs.Runner.{runs_as}
use Rattle.law_calls.proofs.Middle.{Middle, next_middle}

-- where a stretch is: at its end, before one more step, or before a violation
pub data Case (setup : Setup) (result : Invoked) (before : State) (bound : ℕ) (w : Watched) : Type 0 where
  IsOut : Exited setup result before w → Case setup result before bound w
  IsOn : (k : ℕ) (t : Watched) → Underway setup result before w → watch setup.mac w ≡ Goes t → 1 + k ≤ bound
      → Comes Watched Violation (watch setup.mac) (λ w. 1) (Underway setup result before) (Aborted result) (Exited setup result before) k t → Case setup result before bound w
  IsEnd : (v : Violation) → Underway setup result before w → watch setup.mac w ≡ Stops v → 1 ≤ bound → Aborted result w v → Case setup result before bound w

pub case_of : (setup : Setup) (result : Invoked) (before : State) (bound : ℕ) (w : Watched)
    → Comes Watched Violation (watch setup.mac) (λ w. 1) (Underway setup result before) (Aborted result) (Exited setup result before) bound w → Case setup result before bound w
case_of setup result before bound w (Here q) = IsOut q
case_of setup result before bound w (Next {k = k} {t = t} p e c r) = IsOn k t p e c r
case_of setup result before bound w (Ends {v = v} p e c b) = IsEnd v p e c b

goes_same : (a b : Watched) → ◌≡◌ {A = Stepped Watched Violation} (Goes b) (Goes a) → a ≡ b
goes_same a b h = cc

stops_same : (a b : Violation) → ◌≡◌ {A = Stepped Watched Violation} (Stops a) (Stops b) → a ≡ b
stops_same a b h = cc

never_goes : (v : Violation) (t : Watched) → ◌≡◌ {A = Stepped Watched Violation} (Stops v) (Goes t) → ⊥
never_goes v t h = cc

-- a watched step that goes on is no violation, and adds what the step shows
pub watch_goes_on : (mac : Mac) (c t : Watched) → watch mac c ≡ Goes t → (violation_of (step mac c.node).shown.event ≡ None) × (t ≡ watched_next mac c.node c.marks)
unfolding watch
watch_goes_on mac c t e = go (violation_of (step mac c.node).shown.event) refl e
  where
    go : (o : Option Violation) → violation_of (step mac c.node).shown.event ≡ o → watched_on c (step mac c.node) o ≡ Goes t
        → (violation_of (step mac c.node).shown.event ≡ None) × (t ≡ watched_next mac c.node c.marks)
    go None q h = (q, goes_same t (watched_next mac c.node c.marks) h)
    go (Some v) q h = absurd (never_goes v t h)

-- a watched step that stops is that violation
pub watch_stops : (mac : Mac) (c : Watched) (v : Violation) → watch mac c ≡ Stops v → violation_of (step mac c.node).shown.event ≡ Some v
unfolding watch
watch_stops mac c v e = go (violation_of (step mac c.node).shown.event) refl e
  where
    go : (o : Option Violation) → violation_of (step mac c.node).shown.event ≡ o → watched_on c (step mac c.node) o ≡ Stops v
        → violation_of (step mac c.node).shown.event ≡ Some v
    go None q h = absurd (never_goes v (watched_next mac c.node c.marks) (sym h))
    go (Some u) q h = q ∙ ap (λ z. Some z) (stops_same u v h)

plain_no_reset : (e : Event) → IsPlain e → is_reset e ≡ false
plain_no_reset event.Quiet p = refl
plain_no_reset (event.Reset v) p = absurd p
plain_no_reset (event.Protected id) p = refl
plain_no_reset (event.Removed id) p = refl
plain_no_reset (event.Wrapped id) p = refl
plain_no_reset (event.Unwrapped id) p = refl
plain_no_reset (event.Left id) p = refl

-- no module runs: the step before was the last of a `finish`
abbrev pub rests : State → Bool
rests s = s.cur == 0

-- the step is the last one
abbrev is_last : Setting → State → Bool
is_last set s = is_reset (step set.mac s).shown.event || rests (step set.mac s).state

-- the first of the steps that are due
first_step : (set : Setting) (ends : List Item) (n k : ℕ) (u : World) (s : State) → slice_get u.nodes n ≡ Some s
    → steps_of set rests ends n (suc k) u ≡ (if is_last set s then after_step set u n s else then_ (after_step set u n s) (steps_of set rests ends n k))
first_step set ends n k u s here = ap (at_node u (λ s. if is_last set s then after_step set u n s else then_ (after_step set u n s) (steps_of set rests ends n k))) here

choose : (b c : Bool) (x y : Acted) → b ≡ c → (if b then x else y) ≡ (if c then x else y)
choose b c x y e = ap (λ (d : Bool). if d then x else y) e

-- a step that violates shows the reset alone
pub violated_step : (set : Setting) (u : World) (n : ℕ) (s : State) (v : Violation) → violation_of (step set.mac s).shown.event ≡ Some v
    → after_step set u n s ≡ record { world = with_node u n (reset s) u.ledger (u.steps + 1); items = item.Reset n (cause_of v) ∷ [] }
violated_step set u n s v q =
    let r = step set.mac s in
    let h = violates set.mac s v q in
    let runner = module_of set.sites n s (own_of s) in
    let acted : State → Observed → Acted = λ t o. record { world = with_node u n t o.ledger (u.steps + 1); items = o.items } in
    let seen : r.shown ≡ record { touch = untouched; event = event.Reset v } =
    ap (λ z. record { touch = z; event = r.shown.event }) h.touch ∙ ap (λ z. record { touch = untouched; event = z }) h.event in
    ap (λ (z : Seen). acted r.state (observed set n runner r.state z u.ledger)) seen
    ∙ ap (λ t. record { world = with_node u n t u.ledger (u.steps + 1); items = item.Reset n (cause_of v) ∷ [] }) h.state

-- a reset leaves the same of the node in mid-run as of the node before
reset_same : (sec : Section) (before s : State) (seen : List Mark) → Middle sec before s seen → reset s ≡ reset before
reset_same sec before s seen h =
    ap (λ ds. record (reset s) { devices = ds }) (ap all_stale h.devices ∙ devices_stale seen before.devices)
    ∙ ap (λ b. record (reset s) { devices = all_stale before.devices; boot = b + 1 }) h.boot
    ∙ ap (λ k. record (reset s) { devices = all_stale before.devices; boot = before.boot + 1; key = k }) h.key

-- how it ends: the module left as its invocation says, with `done`; or its violation reset the node
pub data Ending (n m : ℕ) (sec : Section) (setup : Setup) (result : Invoked) (before after : State) (seen : List Mark) (shown : Item) : Type 0 where
  IsLeft : (last : Event) (out : Exited setup result before (record { node = after; marks = seen; event = last })) → Middle sec before after seen
      → shown ≡ item.Done m out.status (length out.progress.pieces) → Ending n m sec setup result before after seen shown
  IsBroken : (v : Violation) (p : Progress) → result ≡ Violates v p → seen ≡ p.marks → after ≡ reset before → shown ≡ item.Reset n (cause_of v)
      → Ending n m sec setup result before after seen shown

module _ (set : Setting) (sound : IsSoundSetting set) (m : ℕ) (q : PartTree) (site : Site) (part : slice_get set.app.parts m ≡ Some q) (sited : slice_get set.sites m ≡ Some site)
    (sec : Section) (before : State) (stands : StandsProtected (image_at site) sec before) (result : Invoked) where
  abbrev pub setup : Setup
  setup = setup_at set.mac q.tree (ends_of set.app m) sec before

  abbrev n : ℕ
  n = site.node

  abbrev budget : List Item
  budget = item.Budget n ∷ []

  abbrev IsComing : ℕ → Watched → Type 0
  IsComing = Comes Watched Violation (watch set.mac) (λ w. 1) (Underway setup result before) (Aborted result) (Exited setup result before)

  -- what a step of the module does in a world
  pub after_as : (u : World) (s : State) (seen : List Mark) → Middle sec before s seen → own_of s ≡ sec.id → violation_of (step set.mac s).shown.event ≡ None
      → (step set.mac s).state.sections ≡ before.sections
      → after_step set u n s
      ≡ (let r = step set.mac s in let o = marks_observed set.app n m before.boot (marks_of r.shown r.state.exchange) u.ledger in
      record { world = with_node u n r.state o.ledger (u.steps + 1); items = o.items ++ done_items m r.state r.shown.event })
  after_as u s seen h own quiet same =
      let r = step set.mac s in
      let ms = marks_of r.shown r.state.exchange in
      let lives : Lives s.sections.live sec = subst (λ (z : Sections). Lives z.live sec) (sym h.sections) stands.lives in
      let text : public_bytes sec.layout s.mem ≡ site.text = h.texts sec stands.lives ∙ ap (λ (l : Layout). public_bytes l before.mem) stands.layout ∙ stands.text in
      let runner : module_of set.sites n s (own_of s) ≡ Some m = runs_as set m q site sec s sound part sited h.node lives stands.layout stands.provider text own in
      let plain = plain_events set.mac s h.node.placed (same ∙ sym h.sections) quiet in
      let boot : r.state.boot ≡ before.boot = (onward set.mac s quiet).boot ∙ h.boot in
      let acted : Observed → Acted = λ o. record { world = with_node u n r.state o.ledger (u.steps + 1); items = o.items } in
      ap (λ who. acted (observed set n who r.state r.shown u.ledger)) runner
      ∙ ap acted (step_observed set n m r.state r.shown u.ledger plain)
      ∙ ap (λ b. let o = marks_observed set.app n m b ms u.ledger in acted (record { items = o.items ++ done_items m r.state r.shown.event; ledger = o.ledger })) boot

  abbrev End : State → List Mark → Item → Type 0
  End = Ending n m sec setup result before

  -- it ended, and this is what its steps did
  pub record Ended (fuel bound : ℕ) (u : World) (seen : List Mark) : Type 0 where
    pub after : State
    pub rest : List Mark
    pub shown : Item
    pub ending : End after (seen ++ rest) shown
    pub steps : ℕ
    pub few : steps ≤ bound
    pub is : steps_of set rests budget n fuel u
        ≡ (let o = marks_observed set.app n m before.boot rest u.ledger in
        record { world = with_node u n after o.ledger (u.steps + steps); items = o.items ++ shown ∷ [] })

  -- from here on it comes to its end
  abbrev Runs : ℕ → Type 0
  Runs fuel = (bound : ℕ) (u : World) (s : State) (seen : List Mark) (last : Event) → bound ≤ fuel → slice_get u.nodes n ≡ Some s → Middle sec before s seen
      → IsComing bound (record { node = s; marks = seen; event = last }) → (Exited setup result before (record { node = s; marks = seen; event = last }) → ⊥) → Ended fuel bound u seen

  -- the last step, with which the module leaves
  run_out : (f bound : ℕ) (u : World) (s : State) (seen : List Mark) → 1 ≤ bound → slice_get u.nodes n ≡ Some s → Middle sec before s seen → own_of s ≡ sec.id
      → violation_of (step set.mac s).shown.event ≡ None
      → Exited setup result before (watched_next set.mac s seen) → Ended (suc f) bound u seen
  run_out f bound u s seen le here h own quiet out =
      let r = step set.mac s in
      let ms = marks_of r.shown r.state.exchange in
      let o = marks_observed set.app n m before.boot ms u.ledger in
      let items : done_items m r.state r.shown.event ≡ item.Done m out.status (length out.progress.pieces) ∷ [] =
      ap (done_items m r.state) out.left
      ∙ ap (λ (g : List ℕ). item.Done m (slice_index g 12) (slice_index g 13) ∷ []) out.registers in
      let ends : is_last set s ≡ true = or_right (is_reset r.shown.event) (rests r.state) (eq-eqb r.state.cur 0 out.idle) in
      record {
        after = r.state;
        rest = ms;
        shown = item.Done m out.status (length out.progress.pieces);
        ending = IsLeft r.shown.event out (next_middle set.mac sec before s seen h own quiet out.sections) refl;
        steps = 1;
        few = le;
        is = first_step set budget n f u s here
            ∙ choose (is_last set s) true (after_step set u n s) (then_ (after_step set u n s) (steps_of set rests budget n f)) ends
            ∙ after_as u s seen h own quiet out.sections
            ∙ ap (λ is. record { world = with_node u n r.state o.ledger (u.steps + 1); items = o.items ++ is }) items;
      }

  -- the last step, which violates
  run_end : (f bound : ℕ) (u : World) (s : State) (seen : List Mark) (last : Event) (v : Violation) → 1 ≤ bound → slice_get u.nodes n ≡ Some s → Middle sec before s seen
      → violation_of (step set.mac s).shown.event ≡ Some v → Aborted result (record { node = s; marks = seen; event = last }) v → Ended (suc f) bound u seen
  run_end f bound u s seen last v le here h q a =
      let r = step set.mac s in
      let ends : is_last set s ≡ true = ap (λ e. is_reset e || rests r.state) (violates set.mac s v q).event in
      record {
        after = reset before;
        rest = [];
        shown = item.Reset n (cause_of v);
        ending = IsBroken v a.progress a.violates (append-nil seen ∙ a.marks) refl refl;
        steps = 1;
        few = le;
        is = first_step set budget n f u s here
            ∙ choose (is_last set s) true (after_step set u n s) (then_ (after_step set u n s) (steps_of set rests budget n f)) ends
            ∙ violated_step set u n s v q
            ∙ ap (λ t. record { world = with_node u n t u.ledger (u.steps + 1); items = item.Reset n (cause_of v) ∷ [] }) (reset_same sec before s seen h);
      }

  -- a step that isn't the last
  run_on : (f bound k : ℕ) (u : World) (s : State) (seen : List Mark) → Runs f → bound ≤ suc f → 1 + k ≤ bound → slice_get u.nodes n ≡ Some s → Middle sec before s seen → own_of s ≡ sec.id
      → violation_of (step set.mac s).shown.event ≡ None → own_of (step set.mac s).state ≡ sec.id → (step set.mac s).state.sections ≡ before.sections
      → IsComing k (watched_next set.mac s seen) → Ended (suc f) bound u seen
  run_on f bound k u s seen ih fuel le here h own quiet inside same comes =
      let r = step set.mac s in
      let t = r.state in
      let ms = marks_of r.shown t.exchange in
      let o = marks_observed set.app n m before.boot ms u.ledger in
      let v = with_node u n t o.ledger (u.steps + 1) in
      let mid = next_middle set.mac sec before s seen h own quiet same in
      let lives : Lives t.sections.live sec = subst (λ (z : Sections). Lives z.live sec) (sym same) stands.lives in
      let nz : sec.id ≢ 0 = nonzero t sec mid.node lives in
      let cur : t.cur ≡ sec.id = (onward set.mac s quiet).cur ∙ ap (λ (b : Bool). if b then own_of s else 0) (eq-eqb (own_of t) (own_of s) (inside ∙ sym own)) ∙ own in
      let busy : t.cur ≢ 0 = λ e. nz (sym cur ∙ e) in
      let plain = plain_events set.mac s h.node.placed (same ∙ sym h.sections) quiet in
      let goes : is_last set s ≡ false = ap (λ b. b || rests t) (plain_no_reset r.shown.event plain) ∙ ne_eqb t.cur 0 busy in
      let none : done_items m t r.shown.event ≡ [] = not_left r.shown.event (λ l. left_outside set.mac s l (inside ∙ sym own)) m t in
      let acted : after_step set u n s ≡ record { world = v; items = o.items } =
      after_as u s seen h own quiet same ∙ ap (λ is. record { world = v; items = o.items ++ is }) none ∙ ap (λ is. record { world = v; items = is }) (append-nil o.items) in
      let e = ih k v t (seen ++ ms) r.shown.event (omega (arith, fuel, le)) (get_same u.nodes n t s here) mid comes (λ out. busy out.idle) in
      let last = marks_observed set.app n m before.boot e.rest o.ledger in
      let done : List Item = e.shown ∷ [] in
      record {
        after = e.after;
        rest = ms ++ e.rest;
        shown = e.shown;
        ending = subst (λ l. End e.after l e.shown) (append_assoc seen ms e.rest) e.ending;
        steps = 1 + e.steps;
        few = let a = e.few in omega (arith, a, le);
        is = first_step set budget n f u s here
            ∙ choose (is_last set s) false (after_step set u n s) (then_ (after_step set u n s) (steps_of set rests budget n f)) goes
            ∙ ap (λ (a : Acted). then_ a (steps_of set rests budget n f)) acted
            ∙ ap (λ (a : Acted). record { world = a.world; items = o.items ++ a.items }) e.is
            ∙ ap (λ x. record { world = x; items = o.items ++ (last.items ++ done) }) (node_twice u n t e.after o.ledger last.ledger (u.steps + 1) (u.steps + 1 + e.steps))
            ∙ ap (λ j. record { world = with_node u n e.after last.ledger j; items = o.items ++ (last.items ++ done) }) (omega arith)
            ∙ ap (λ is. record { world = with_node u n e.after last.ledger (u.steps + (1 + e.steps)); items = is }) (sym (append_assoc o.items last.items done))
            ∙ ap (λ (a : Observed). record { world = with_node u n e.after a.ledger (u.steps + (1 + e.steps)); items = a.items ++ done })
            (sym (observed_append set.app n m before.boot ms e.rest u.ledger));
      }

  -- one more step
  run_step : (f bound k : ℕ) (u : World) (s : State) (seen : List Mark) → Runs f → bound ≤ suc f → 1 + k ≤ bound → slice_get u.nodes n ≡ Some s → Middle sec before s seen → own_of s ≡ sec.id
      → violation_of (step set.mac s).shown.event ≡ None → IsComing k (watched_next set.mac s seen) → Case setup result before k (watched_next set.mac s seen) → Ended (suc f) bound u seen
  run_step f bound k u s seen ih fuel le here h own quiet comes (IsOut out) = run_out f bound u s seen (omega (arith, le)) here h own quiet out
  run_step f bound k u s seen ih fuel le here h own quiet comes (IsOn k2 t2 under goes c r) = run_on f bound k u s seen ih fuel le here h own quiet under.inside under.sections comes
  run_step f bound k u s seen ih fuel le here h own quiet comes (IsEnd v under stops c a) = run_on f bound k u s seen ih fuel le here h own quiet under.inside under.sections comes

  run_case : (f bound : ℕ) (u : World) (s : State) (seen : List Mark) (last : Event) → Runs f → bound ≤ suc f → slice_get u.nodes n ≡ Some s → Middle sec before s seen
      → (Exited setup result before (record { node = s; marks = seen; event = last }) → ⊥)
      → Case setup result before bound (record { node = s; marks = seen; event = last }) → Ended (suc f) bound u seen
  run_case f bound u s seen last ih fuel here h runs (IsOut out) = absurd (runs out)
  run_case f bound u s seen last ih fuel here h runs (IsOn k t under goes c comes) =
      let inv = watch_goes_on set.mac (record { node = s; marks = seen; event = last }) t goes in
      let on : IsComing k (watched_next set.mac s seen) = subst (λ z. IsComing k z) inv.1 comes in
      run_step f bound k u s seen ih fuel c here h under.inside inv.0 on (case_of setup result before k (watched_next set.mac s seen) on)
  run_case f bound u s seen last ih fuel here h runs (IsEnd v under stops c a) =
      run_end f bound u s seen last v c here h (watch_stops set.mac (record { node = s; marks = seen; event = last }) v stops) a

  none_left : (bound : ℕ) (w : Watched) → bound ≤ 0 → (Exited setup result before w → ⊥) → Case setup result before bound w → ⊥
  none_left bound w le runs (IsOut out) = runs out
  none_left bound w le runs (IsOn k t under goes c comes) = omega (arith, le, c)
  none_left bound w le runs (IsEnd v under stops c a) = omega (arith, le, c)

  pub runs : (fuel : ℕ) → Runs fuel
  runs zero bound u s seen last le here h comes out =
      absurd (none_left bound (record { node = s; marks = seen; event = last }) le out (case_of setup result before bound (record { node = s; marks = seen; event = last }) comes))
  runs (suc f) bound u s seen last le here h comes out =
      run_case f bound u s seen last (runs f) le here h out (case_of setup result before bound (record { node = s; marks = seen; event = last }) comes)
