-- Every run shows one event of a node at a time.
use Rattle.std.proofs.Common.{◌≡◌, ◌≢◌, ℕ, inl, inr, true, List, [], ◌∷◌, ◌++◌, Option, Some, None, refl, sym, ◌∙◌, ap, subst, arith}
use Rattle.std.specs.Prelude.{slice_get, slice_set, slice_index}
use Rattle.std.proofs.lemmas.Bool.{true≢false, eq-eqb, false≢true}
use Rattle.std.proofs.lemmas.List.{append-nil}
use Rattle.lemmas.proofs.Lists.{get_some}
use Rattle.sx_trace.specs.declared.items.Item.{Item}
use Rattle.sx_trace.specs.declared.items.Item.TheVariants as item
use Rattle.sx_rules.specs.declared.access.Violation.{Violation}
use Rattle.sx_rules.specs.declared.section.Section.{Section}
use Rattle.sx_rules.specs.declared.section.Layout.{Layout}
use Rattle.sx_bus.specs.declared.devices.Window.{Window}
use Rattle.sx_mean.specs.declared.apps.AppDevice.{AppDevice}
use Rattle.sx_mean.specs.Application.{PartTree}
use Rattle.sx_mean.specs.Ends.{ends_of}
use Rattle.spec_machine.specs.declared.kinds.Event.{Event}
use Rattle.spec_machine.specs.declared.kinds.Event.TheVariants as event
use Rattle.spec_machine.specs.declared.kinds.Refused.{Refused}
use Rattle.spec_machine.specs.declared.kinds.Seen.{Seen}
use Rattle.spec_machine.specs.State.{State}
use Rattle.spec_machine.specs.Step.{Shown, step, own_of, start}
use Rattle.spec_machine.specs.Run.{Outcome, Finished, Violated, Module, exec, untouched}
use Rattle.spec_machine.specs.Acts.{irq, irq_refusal, sense as sense_on, busy, unless, interrupt, interrupted}
use Rattle.spec_machine.specs.Touches.{Replays}
use Rattle.spec_machine.proofs.Touches.{TracedBy}
use Rattle.spec_machine.proofs.Sparse.{interrupt_traced}
use Rattle.spec_machine.proofs.Stays.{irq_idle, busy_idle}
use Rattle.spec_invocation.specs.Marks.{Mark}
use Rattle.spec_invocation.specs.ModuleState.{state_of}
use Rattle.spec_invocation.specs.Progress.{marks_in}
use Rattle.sx_image.specs.Watched.{violation_of, marks_of}
use Rattle.sx_image.specs.Image.{private_bytes, setup_at, call_at}
use Rattle.sx_image.specs.Realizes.{Exited}
use Rattle.sx_model.specs.State.{Reading}
use Rattle.sx_model.specs.order.State.{Model, Standing, Present, power_on}
use Rattle.spec_run.specs.Setting.{Site, Setting, module_of, device_number}
use Rattle.spec_run.specs.State.{World, switched_on}
use Rattle.spec_run.specs.Observation.{Observed, observed, cause_of}
use Rattle.spec_run.specs.Acts.{after_step, after_interrupt, done_on}
use Rattle.spec_run.specs.Run.{run, place_at}
use Rattle.spec_run.specs.Law.{IsSoundSetting, IsDeployedModule}
use Rattle.spec_run.proofs.tie.Lists.{get_within}
use Rattle.spec_run.proofs.tie.Tied.{SameState, NodeTied, IsModule, IsUnderWay, ModuleTied, Absent, Rests, Runs, Tied, Owes}
use Rattle.spec_run.proofs.tie.Start.{starts_tied}
use Rattle.spec_run.proofs.acts.Counting.{counts_lines}
use Rattle.spec_run.proofs.steps.Machine.{MachineLaws, machine_laws, violates, onward}
use Rattle.spec_run.proofs.steps.Judged.{Readings}
use Rattle.spec_run.proofs.steps.Stretch.{marks_seen, Nexts, marks_fares, done_items, seen_as_marks}
use Rattle.spec_run.proofs.steps.Events.{plain_events}
use Rattle.spec_run.proofs.steps.Entry.{at_site, under_way_at_entry}
use Rattle.spec_run.proofs.steps.Bystanders.{one_section}
use Rattle.spec_run.proofs.steps.Story.{story}
use Rattle.spec_run.proofs.steps.Nodes.{device_here}
use Rattle.spec_run.proofs.steps.Steps.{DriversFit, nonzero, bounds_of, other_section, runner_of}
use Rattle.spec_run.proofs.steps.Fits.{drivers_fit}
use Rattle.spec_run.proofs.steps.UnderWay.{Behind, Still, Out, watched_next, stepped_on, rest_of, under_way_sections}
use Rattle.spec_run.specs.OrderLaw.{RunsTakeTurns}
use Rattle.spec_run.proofs.acts.Walks.{Walks, walks_then}
use Rattle.spec_run.proofs.acts.Compose.{ActsWalk, keeps_run}
use Rattle.spec_run.proofs.ActsWalk.{each_walks, acts_walk, refused_each}
use Rattle.spec_run.proofs.ActsKeep.{are_wordly}
use Rattle.spec_run.proofs.turns.Turns.{InTurn, turning, one_at_a_time}
use Rattle.spec_run.proofs.turns.TakingTurns.{Turn, easy, Alone, free_turn, own_turn, walk_one, device_only, part_only, foreign_turn, pends_runs, free_idle, free_stranger, marks_turn, alone_set}

module _ (set : Setting) (w : World) (mo : Model) (m : ℕ) (q : PartTree) (site : Site) (s : State)
    (sec : Section) (sound : IsSoundSetting set) (laws : MachineLaws set.mac) (fit : DriversFit set) (t : Tied set w mo)
    (part : slice_get set.app.parts m ≡ Some q) (sited : slice_get set.sites m ≡ Some site) (here : slice_get w.nodes q.node ≡ Some s) (is : IsModule q.node site s sec) (own : own_of s ≡ sec.id)
    (quiet : violation_of (step set.mac s).shown.event ≡ None) where
  abbrev r : Shown Seen
  r = step set.mac s

  abbrev V : Model → List Item → Type 0
  V s items = Walks (InTurn set.app) set.app s items

  boot_here : (boot : ℕ) × (slice_get mo.boots q.node ≡ Some boot)
  boot_here = get_some mo.boots q.node (omega (arith, get_within w.nodes q.node s here, t.size.nodes, t.size.boots))

  node : NodeTied set q.node s boot_here.0
  node = t.nodes q.node s boot_here.0 here boot_here.1

  deployed : IsDeployedModule set m q site
  deployed = sound.deployed m q site part sited

  alone : Alone set.app mo.modules q.node m
  alone k p e at ne h =
      let g = pends_runs set sound q.node w mo s t here k p e at h in
      elim node.runner [
        | inl z ↦ absurd (nonzero s g.1 node.node g.3.lives (sym g.4 ∙ z))
        | inr c ↦ absurd (other_section set m q site s sec sound node.node.placed part sited is k g.0 g.1 ne g.2 g.3.lives g.3.here (sym own ∙ c ∙ g.4))
      ]

  same_section : (sec2 : Section) → IsModule q.node site s sec2 → sec ≡ sec2
  same_section sec2 i =
      let a = at_site q.node s.mem sec site is.here in
      let b = at_site q.node s.mem sec2 site i.here in
      one_section s.sections sec sec2 node.node.placed is.lives i.lives (a.layout ∙ sym b.layout)
      (subst (λ (l : Layout). Rattle.std.specs.Prelude.nat_lt l.pub_from l.pub_to ≡ true) (sym a.layout)
      (bounds_of site.layout deployed.bounds))

  -- it is under way
  record Under (x : Standing) : Type 0 where
    pub pr : Present
    pub present : x.present ≡ Some pr
    pub u : IsUnderWay set q.node m q s sec pr mo.sent
    pub not_left : Exited (setup_at set.mac q.tree (ends_of set.app m) sec u.before) u.result u.before (record { node = s; marks = u.seen; event = u.last }) → ⊥

  under : (x : Standing) → ModuleTied set q.node m q site s x mo.sent → Under x
  under x (Absent none f) = absurd (true≢false (sym is.here ∙ f sec is.lives))
  under x (Rests sec2 pr p i c pend h) =
      let one = same_section sec2 i in
      let rests : s.cur ≢ sec.id = λ e. c (e ∙ ap (λ (z : Section). z.id) one) in
      let nz = nonzero s sec node.node is.lives in
      let st = state_of q.tree (ends_of set.app m) (private_bytes sec.layout s.mem) in
      let same : SameState (ends_of set.app m) st pr.cells pr.ends mo.sent = subst
      (λ (z : Section). SameState (ends_of set.app m) (state_of q.tree (ends_of set.app m)
      (private_bytes z.layout s.mem)) pr.cells pr.ends mo.sent) (sym one) h in
      let f = fit m q site s sec boot_here.0 deployed node is in
      let begun = story set.app m q.node q (setup_at set.mac q.tree (ends_of set.app m) sec s)
      (call_at s) st s.mem s.devices (omega (arith, sound.links)) refl refl node.node.memory.bytes pr.ends mo.sent same.each f.0 f.1 in
      let u = under_way_at_entry set m q site s sec boot_here.0 deployed node is rests own nz quiet pr mo.sent pend same begun in
      record { pr = pr; present = p; u = u.0; not_left = u.1 }
  under x (Runs sec2 pr p i c u) =
      let one : sec2 ≡ sec = sym (same_section sec2 i) in
      let cur : s.cur ≡ sec.id = c ∙ ap (λ (z : Section). z.id) one in
      record {
        pr = pr;
        present = p;
        u = subst (λ z. IsUnderWay set q.node m q s z pr mo.sent) one u;
        not_left = λ out. nonzero s sec node.node is.lives (sym cur ∙ out.idle);
      }

  done_turn : (st : State) (e : Event) (mo1 : Model) → Alone set.app mo1.modules q.node m → V mo1 (done_items m st e)
  done_turn st event.Quiet mo1 a = tt
  done_turn st (event.Reset v) mo1 a = tt
  done_turn st (event.Protected id) mo1 a = tt
  done_turn st (event.Removed id) mo1 a = tt
  done_turn st (event.Wrapped id) mo1 a = tt
  done_turn st (event.Unwrapped id) mo1 a = tt
  done_turn st (event.Left id) mo1 a =
      let i = item.Done m (slice_index st.regs 12) (slice_index st.regs 13) in
      walk_one set.app mo1 i (own_turn set.app mo1 q.node m i a (part_only set.app q.node m q part refl) (eq-eqb m m refl))

  abbrev made_marks : List Mark
  made_marks = marks_of r.shown r.state.exchange

  under_turn : (x : Standing) → slice_get mo.modules m ≡ Some x → Under x → V mo (observed set q.node (Some m) r.state r.shown w.ledger).items
  under_turn x there g =
      let boot = boot_here.0 in
      let u = g.u in
      let readings : Readings set.app m q x g.pr boot mo w.ledger part there boot_here.1 g.present t.sane t.ledger s.devices = λ k wd e sensor.
      let d = device_here set q.node k s.devices wd sound node.windows e in
      let rd : (rd : Reading) × (slice_get mo.devices (device_number set.app q.node k) ≡ Some rd) = get_some mo.devices
      (device_number set.app q.node k) (omega (arith, get_within set.app.devices (device_number set.app q.node k) d.0 d.1, t.size.devices)) in
      (rd.0, rd.1, t.devices q.node k s wd rd.0 here e rd.1) in
      let same = under_way_sections set m q s sec x g.pr boot mo w.ledger part there boot_here.1 g.present t.sane t.ledger t.size.sent readings u quiet g.not_left in
      let plain = plain_events set.mac s node.node.placed same quiet in
      let now = marks_seen set.app q.node m boot made_marks w.ledger in
      let seen : observed set q.node (Some m) r.state r.shown w.ledger ≡ record { items = now.items ++ done_items m r.state r.shown.event; ledger = now.ledger } =
      seen_as_marks set q.node m r.state r.shown w.ledger plain
      ∙ ap (λ b. record {
        items = (marks_seen set.app q.node m b made_marks w.ledger).items ++ done_items m r.state r.shown.event;
        ledger = (marks_seen set.app q.node m b made_marks w.ledger).ledger;
      }) ((onward set.mac s quiet).boot ∙ node.count) in
      let rest : (rest : List Mark) × (u.rest ≡ made_marks ++ rest) = rest_from u g.not_left in
      let owes : Owes set.app q.node m q s.devices g.pr mo.sent (made_marks ++ rest.0) u.result = subst (λ z. Owes set.app q.node m q s.devices g.pr mo.sent z u.result) rest.1 u.owes in
      subst (λ (o : Observed). V mo o.items) (sym seen)
      (walks_then (InTurn set.app) set.app mo now.items (done_items m r.state r.shown.event)
      (Nexts set.app m q x mo made_marks now.ledger (λ d. d ≡ s.devices) rest.0 u.result)
      (marks_fares set.app m q boot part u.result rest.0 made_marks x g.pr mo w.ledger there boot_here.1 g.present t.sane t.ledger t.size.sent (λ d. d ≡ s.devices) s.devices refl readings
      (λ d e. subst (λ (z : List Window). Owes set.app q.node m q z g.pr mo.sent (made_marks ++ rest.0) u.result) (sym e) owes))
      (marks_turn set m q boot part u.result rest.0 made_marks x g.pr mo w.ledger there boot_here.1 g.present t.sane t.ledger t.size.sent s.devices readings owes alone)
      (λ mo1 h. done_turn r.state r.shown.event mo1 (subst (λ xs. Alone set.app xs q.node m) (sym h.moves.modules) (alone_set set m q boot part mo.modules h.y alone))))
    where
      rest_from : {pr : Present} → (u : IsUnderWay set q.node m q s sec pr mo.sent)
          → (Exited (setup_at set.mac q.tree (ends_of set.app m) sec u.before) u.result u.before (record { node = s; marks = u.seen; event = u.last }) → ⊥)
          → (rest : List Mark) × (u.rest ≡ made_marks ++ rest)
      rest_from {pr} u not_left = by ((stepped_on set m q s sec pr mo.sent u quiet not_left).1)
        where
          by : Behind (setup_at set.mac q.tree (ends_of set.app m) sec u.before) u.result u.before (watched_next set.mac s u.seen) → (rest : List Mark) × (u.rest ≡ made_marks ++ rest)
          by (Out out) = ([], rest_of set m q s sec pr mo.sent u quiet [] (append-nil (u.seen ++ made_marks) ∙ out.marks ∙ sym (ap marks_in out.returns)))
          by (Still bound on comes) = (on.marks.0, rest_of set m q s sec pr mo.sent u quiet on.marks.0 on.marks.1)

  pub own_turns : V mo (observed set q.node (Some m) r.state r.shown w.ledger).items
  own_turns =
      let x : (x : Standing) × (slice_get mo.modules m ≡ Some x) = get_some mo.modules m (omega (arith, get_within set.app.parts m q part, t.size.modules)) in
      under_turn x.0 x.1 (under x.0 (t.modules m q site s x.0 part sited here x.1))

module _ (set : Setting) (sound : IsSoundSetting set) where
  abbrev U : Model → List Item → Type 0
  U s items = Walks (InTurn set.app) set.app s items

  step_turns : (w : World) (n : ℕ) (s : State) → slice_get w.nodes n ≡ Some s → (mo : Model) → Tied set w mo → U mo (after_step set w n s).items
  step_turns w n s here mo t = by_event (violation_of (step set.mac s).shown.event) refl
    where
      laws : MachineLaws set.mac
      laws = machine_laws set.mac

      violated : (v : Violation) → violation_of (step set.mac s).shown.event ≡ Some v → U mo (after_step set w n s).items
      violated v e =
          let h = violates set.mac s v e in
          let runner = module_of set.sites n s (own_of s) in
          let seen : (step set.mac s).shown ≡ record { touch = untouched; event = event.Reset v } =
          ap (λ z. record { touch = z; event = (step set.mac s).shown.event }) h.touch ∙ ap (λ z. record { touch = untouched; event = z }) h.event in
          let shows : observed set n runner (step set.mac s).state (step set.mac s).shown w.ledger ≡ record { items = item.Reset n (cause_of v) ∷ []; ledger = w.ledger } =
          ap (λ z. observed set n runner (step set.mac s).state z w.ledger) seen in
          subst (λ (o : Observed). U mo o.items) (sym shows) (walk_one set.app mo (item.Reset n (cause_of v)) (λ m q e h at. absurd (false≢true at)))

      by_runner : (o : Option ℕ) → module_of set.sites n s (own_of s) ≡ o → violation_of (step set.mac s).shown.event ≡ None → U mo (after_step set w n s).items
      by_runner None e quiet =
          let b : (boot : ℕ) × (slice_get mo.boots n ≡ Some boot) = get_some mo.boots n (omega (arith, get_within w.nodes n s here, t.size.nodes, t.size.boots)) in
          let node = t.nodes n s b.0 here b.1 in
          let free = free_stranger set sound n w mo s t here e in
          subst (λ z. U mo (observed set n z (step set.mac s).state (step set.mac s).shown w.ledger).items) (sym e)
          (foreign_turn set sound n s.sections.live (own_of s) (step set.mac s).state (step set.mac s).shown w.ledger s.devices (step set.mac s).state.devices mo node.windows (laws.shown s node.node quiet) free)
      by_runner (Some m) e quiet =
          let g = runner_of set n m s sound e in
          let here2 : slice_get w.nodes g.part.node ≡ Some s = subst (λ j. slice_get w.nodes j ≡ Some s) (sym g.node) here in
          let is2 : IsModule g.part.node g.site s g.section = subst (λ j. IsModule j g.site s g.section) (sym g.node) g.is in
          let h = own_turns set w mo m g.part g.site s g.section sound laws (drivers_fit set sound) t g.parted g.sited here2 is2 g.own quiet in
          subst (λ z. U mo (observed set n z (step set.mac s).state (step set.mac s).shown w.ledger).items) (sym e)
          (subst (λ j. U mo (observed set j (Some m) (step set.mac s).state (step set.mac s).shown w.ledger).items) g.node h)

      by_event : (o : Option Violation) → violation_of (step set.mac s).shown.event ≡ o → U mo (after_step set w n s).items
      by_event (Some v) e = violated v e
      by_event None e = by_runner (module_of set.sites n s (own_of s)) refl e

  sense_turns : (w : World) (d v : ℕ) (x : AppDevice) (s : State) → slice_get set.app.devices d ≡ Some x → slice_get w.nodes x.node ≡ Some s → (mo : Model) → Tied set w mo
      → U mo (done_on w x.node (item.Sense d v ∷ []) (sense_on s (place_at set x.node d) v)).items
  sense_turns w d v x s dev here mo t = by (busy s) refl
    where
      by : (o : Option Refused) → busy s ≡ o → U mo (done_on w x.node (item.Sense d v ∷ [])
          (unless o s (record { state = record s { devices = Rattle.sx_bus.specs.Devices.with_sample s.devices (place_at set x.node d) v }; shown = tt }))).items
      by None e = walk_one set.app mo (item.Sense d v)
          (free_turn set.app mo x.node (item.Sense d v) (free_idle set sound x.node w mo s t here (busy_idle s e)) (device_only set.app x.node d x dev refl))
      by (Some why) e = each_walks Turn set mo (Rattle.spec_run.specs.Acts.refused_item x.node why ∷ []) (refused_each Turn set (easy set) x.node why)

  irq_turns : (w : World) (n line : ℕ) (s : State) → slice_get w.nodes n ≡ Some s → (mo : Model) → Tied set w mo
      → U mo (after_interrupt set w n (irq s line).state (irq s line).shown).items
  irq_turns w n line s here mo t = by (irq_refusal s) refl
    where
      by_outcome : (o : Outcome) → TracedBy s.sections.live 0 s.devices o → s.cur ≡ 0 → U mo (observed set n None (interrupted s o).state (interrupted s o).shown w.ledger).items
      by_outcome o traced idle =
          let b : (boot : ℕ) × (slice_get mo.boots n ≡ Some boot) = get_some mo.boots n (omega (arith, get_within w.nodes n s here, t.size.nodes, t.size.boots)) in
          let node = t.nodes n s b.0 here b.1 in
          let r = replays o traced in
          foreign_turn set sound n s.sections.live 0 (interrupted s o).state (interrupted s o).shown w.ledger s.devices r.0 mo node.windows r.1 (free_idle set sound n w mo s t here idle)
        where
          replays : (o : Outcome) → TracedBy s.sections.live 0 s.devices o → (b : List Window) × Replays s.sections.live 0 (interrupted s o).shown.touch s.devices b
          replays (Finished regs x) h = (x.devices, h)
          replays (Violated v) h = (s.devices, refl)
          replays (Module regs x u e c) h = (s.devices, refl)

      by : (o : Option Refused) → irq_refusal s ≡ o
          → (let i = unless o s (interrupted s (exec s.sections 0 (interrupt line s.regs) (start s))) in U mo (after_interrupt set w n i.state i.shown).items)
      by None e =
          let b : (boot : ℕ) × (slice_get mo.boots n ≡ Some boot) = get_some mo.boots n (omega (arith, get_within w.nodes n s here, t.size.nodes, t.size.boots)) in
          by_outcome (exec s.sections 0 (interrupt line s.regs) (start s)) (interrupt_traced line s (t.nodes n s b.0 here b.1).node) (irq_idle s e)
      by (Some why) e = each_walks Turn set mo (Rattle.spec_run.specs.Acts.refused_item n why ∷ []) (refused_each Turn set (easy set) n why)

  keep : ActsWalk Turn set
  keep = acts_walk Turn set (easy set) sound step_turns (λ w d v x s dev sensor lt here mo t. sense_turns w d v x s dev here mo t) (λ w n line s lt here mo t. irq_turns w n line s here mo t)

pub runs_take_turns : RunsTakeTurns
runs_take_turns set sound lines few form =
    let k = keep set sound in
    let r = keeps_run Turn set k (are_wordly set sound) (λ w line. counts_lines set w line) lines (switched_on set) (omega (arith, few)) form (power_on set.app) (starts_tied set sound) in
    let items = (run set (switched_on set) lines).items in
    one_at_a_time set.app (power_on set.app) (Rattle.sx_model.specs.Legal.before items)
    (turning set.app (power_on set.app) items (Tied set (run set (switched_on set) lines).world) r.0 r.1)
