-- One act on a node keeps the turns of deployed modules.
use Rattle.std.proofs.Common.{◌≡◌, ◌≢◌, ℕ, ◌⊎◌, inl, inr, ◌==◌, ◌||◌, not, Bool, true, false, cond, if◌then◌else◌, List, [], ◌∷◌, ◌++◌, length, Option}
use Rattle.std.proofs.Common.{Some, None, refl, sym, ◌∙◌, ap, subst, arith}
use Rattle.std.specs.Prelude.{slice_get}
use Rattle.std.proofs.lemmas.Bool.{true≢false, eqb-true, or_cases, not-true}
use Rattle.sx_mean.specs.Application.{declared_kind, PartTree}
use Rattle.sx_rules.specs.declared.access.Violation.{Violation}
use Rattle.sx_rules.specs.declared.section.Section.{Section}
use Rattle.sx_rules.specs.declared.section.Layout.{Layout}
use Rattle.sx_rules.specs.Access.{Sections, Lives, in_public}
use Rattle.sx_bus.specs.Devices.{with_sample}
use Rattle.sx_tag.specs.Mac.{Mac}
use Rattle.spec_machine.specs.declared.kinds.Refused.{Refused}
use Rattle.spec_machine.specs.declared.kinds.Event.TheVariants as event
use Rattle.spec_machine.specs.State.{State}
use Rattle.spec_machine.specs.Memory.{put_bytes}
use Rattle.spec_machine.specs.Registers.{set_reg}
use Rattle.spec_machine.specs.Run.{Outcome, Finished, Violated, Module, exec}
use Rattle.spec_machine.specs.Step.{Shown, step, own_of, pc_of, start}
use Rattle.spec_machine.specs.Acts.{put_refusal, take_refusal, busy, irq_refusal, unless, interrupted, interrupt}
use Rattle.spec_machine.specs.Acting.{Act, acted, ActInForm, Step, Restart, Put, Set, Take, Sense, Interrupt}
use Rattle.spec_machine.specs.Node.{IsNode}
use Rattle.spec_machine.specs.NodeLaws.{shapes}
use Rattle.spec_machine.proofs.PlanGuard.{passes}
use Rattle.spec_machine.proofs.Apart.{lives_without}
use Rattle.spec_machine.proofs.Stays.{acted_is_node, acted_shapes, keeps_key, lives_below, busy_idle}
use Rattle.spec_machine.proofs.Keys.{keeps_keys}
use Rattle.sx_image.specs.Reach.{Goes}
use Rattle.sx_image.proofs.Reaching.{one_step}
use Rattle.spec_invocation.specs.Marks.{Mark}
use Rattle.sx_image.specs.Watched.{Watched, watch, violation_of, marks_of}
use Rattle.sx_image.specs.Image.{Enters, public_bytes}
use Rattle.sx_image.specs.Realizes.{Underway, Aborted, Exited}
use Rattle.spec_run.specs.Setting.{Site, Setting, is_at_site, windows_at}
use Rattle.spec_run.specs.Law.{image_at, devices_of, IsDeployedModule, IsSoundSetting}
use Rattle.spec_run.proofs.steps.Entry.{AtSite, at_site, quiet_order, holding, held_by, shapes_on, has_devices_same, quiet_left}
use Rattle.spec_run.proofs.steps.Machine.{machine_laws, violates, onward, Sectioned, Stay, Fewer, More, sections_after}
use Rattle.spec_run.proofs.steps.Bystanders.{cur_of, at_site_same}
use Rattle.spec_run.proofs.steps.Foreign.{append_lives}
use Rattle.spec_run.proofs.steps.Steps.{nonzero}
use Rattle.law_forgery.proofs.Turns.{setup_of, turn_of, InTurn, NodeTurns}

-- Devices of the same places and kinds.

-- A step.

-- a section that runs after a quiet step was live before it
pub stood : (mac : Mac) (s : State) (sec : Section) → IsNode s → violation_of (step mac s).shown.event ≡ None → sec.id ≢ 0 → own_of s ≡ sec.id
    → Lives (step mac s).state.sections.live sec → Lives s.sections.live sec
stood mac s sec node quiet nz own lives = by (sections_after mac s quiet)
  where
    by : Sectioned s (step mac s).state (step mac s).shown.event → Lives s.sections.live sec
    by (Stay e n) = subst (λ (z : Sections). Lives z.live sec) e lives
    by (Fewer e n) = lives_without s.sections.live (own_of s) sec (subst (λ (z : Sections). Lives z.live sec) e lives)
    by (More l provider key places r e t) = elim (append_lives s.sections.live _ sec (subst (λ (z : Sections). Lives z.live sec) e lives)) [
      | inl old ↦ old
      | inr new ↦
          let h = holding s.sections.live (pc_of s) (λ z. nz (sym own ∙ z)) in
          let below = lives_below s.sections.next s.sections.live h.section node.placed.each h.lives in
          let id : sec.id ≡ s.sections.next = ap (λ (z : Section). z.id) new in
          let hid = h.id in
          absurd (omega (arith, below, id, own, hid))
    ]

-- it is in a turn, which hasn't ended
pub record Running (set : Setting) (m : ℕ) (q : PartTree) (site : Site) (sec : Section) (s : State) : Type 0 where
  pub turn : InTurn set m q site sec s
  pub runs : Exited (setup_of set m q sec turn.before) (turn_of set m q sec turn.before) turn.before (record { node = s; marks = turn.seen; event = turn.last }) → ⊥

watch_goes : (mac : Mac) (s : State) (seen : List Mark) (last : Rattle.spec_machine.specs.declared.kinds.Event.Event) → violation_of (step mac s).shown.event ≡ None
    → watch mac (record { node = s; marks = seen; event = last })
    ≡ Goes (record { node = (step mac s).state; marks = seen ++ marks_of (step mac s).shown (step mac s).state.exchange; event = (step mac s).shown.event })
unfolding watch
watch_goes mac s seen last e = rw e refl

module _ (set : Setting) (n m : ℕ) (q : PartTree) (site : Site) (s : State) (sec : Section) (deployed : IsDeployedModule set m q site)
    (all : NodeTurns set n s) (part : slice_get set.app.parts m ≡ Some q) (sited : slice_get set.sites m ≡ Some site)
    (lives : Lives s.sections.live sec) (at : is_at_site n s.mem sec site ≡ true) (own : own_of s ≡ sec.id)
    (quiet : violation_of (step set.mac s).shown.event ≡ None) where
  abbrev here : AtSite n s.mem sec site
  here = at_site n s.mem sec site at

  nz : sec.id ≢ 0
  nz = nonzero s sec all.node lives

  same_node : q.node ≡ n
  same_node = sym deployed.node ∙ here.node

  at_entry : s.cur ≡ 0 → pc_of s ≡ site.layout.pub_from
  at_entry idle =
      let p = passes (λ (x : Section). not (in_public x (pc_of s)) || (s.cur == x.id || pc_of s == x.layout.pub_from)) s.sections.live sec lives (quiet_order set.mac s quiet) in
      let inside = held_by s.sections sec (pc_of s) all.node.placed lives nz own in
      elim (or_cases (not (in_public sec (pc_of s))) _ p) [
        | inl e ↦ absurd (true≢false (sym inside ∙ not-true (in_public sec (pc_of s)) e))
        | inr e ↦ elim (or_cases (s.cur == sec.id) (pc_of s == sec.layout.pub_from) e) [
          | inl c ↦ absurd (nz (sym (eqb-true s.cur sec.id c) ∙ idle))
          | inr c ↦ eqb-true (pc_of s) sec.layout.pub_from c ∙ ap (λ (l : Layout). l.pub_from) here.layout
        ]
      ]

  same_shapes : shapes (devices_of set q.node) ≡ shapes s.devices
  same_shapes = shapes_on (windows_at q.node set.app.devices set.places) ∙ sym (subst (λ k. shapes s.devices ≡ windows_at k set.app.devices set.places) (sym same_node) all.windows)

  enters : s.cur ≡ 0 → Enters q.tree (image_at site) sec s
  enters idle = record {
    node = all.node;
    idle = idle;
    entry = at_entry idle;
    stands = record { lives = lives; layout = here.layout; provider = here.provider; text = subst (λ (l : Layout). public_bytes l s.mem ≡ site.text) here.layout here.text };
    devices = has_devices_same (devices_of set q.node) s.devices (declared_kind q.tree.decls) site.layout same_shapes deployed.devices;
  }

  abbrev pub marks : List Mark
  marks = marks_of (step set.mac s).shown (step set.mac s).state.exchange

  -- where its code steps while no module runs, it begins a turn
  pub begins_turn : s.cur ≡ 0 → (r : Running set m q site sec s) × (r.turn.before ≡ s) × (r.turn.seen ≡ [])
  begins_turn idle = (
    record {
      turn = record { before = s; enters = enters idle; boot = refl; bound = _; seen = []; last = event.Quiet; comes = deployed.realizes.runs sec s (enters idle) };
      runs = λ out. quiet_left sec.id out.left;
    },
    refl,
    refl,
  )

  -- where its code steps while it runs, it is in its turn
  pub in_turn : s.cur ≡ sec.id → (t : InTurn set m q site sec s) → Running set m q site sec s
  in_turn cur t = record { turn = t; runs = λ out. nz (sym cur ∙ out.idle) }

  -- where its code steps, it runs
  pub running : Running set m q site sec s
  running = elim all.node.runner [
    | inl idle ↦ (begins_turn idle).0
    | inr cur ↦ in_turn (cur ∙ own) (all.turns m q site sec part sited lives at (cur ∙ own))
  ]

  -- after the step it is in a turn, or it is out
  pub goes_on_from : (r : Running set m q site sec s) → (t : InTurn set m q site sec (step set.mac s).state) × (t.before ≡ r.turn.before) × (t.seen ≡ r.turn.seen ++ marks)
  goes_on_from r =
      let u = r.turn in
      elim (one_step Watched Violation (watch set.mac) (λ w. 1) (Underway (setup_of set m q sec u.before) (turn_of set m q sec u.before) u.before)
      (Aborted (turn_of set m q sec u.before)) (Exited (setup_of set m q sec u.before) (turn_of set m q sec u.before) u.before) u.bound
      (record { node = s; marks = u.seen; event = u.last }) _ (watch_goes set.mac s u.seen u.last quiet) u.comes) [
        | inl out ↦ absurd (r.runs out)
        | inr on ↦ (
          record {
            before = u.before;
            enters = u.enters;
            boot = u.boot ∙ sym (onward set.mac s quiet).boot;
            bound = on.0;
            seen = u.seen ++ marks;
            last = (step set.mac s).shown.event;
            comes = on.3;
          },
          refl,
          refl,
        )
      ]

  pub goes_on : (t : InTurn set m q site sec (step set.mac s).state) × (t.before ≡ running.turn.before) × (t.seen ≡ running.turn.seen ++ marks)
  goes_on = goes_on_from running

-- what runs after a step was in a turn before
step_turns : (set : Setting) (n : ℕ) (s : State) → IsSoundSetting set → NodeTurns set n s → (v : Option Violation) → violation_of (step set.mac s).shown.event ≡ v
    → (m : ℕ) (q : PartTree) (site : Site) (sec : Section) → slice_get set.app.parts m ≡ Some q → slice_get set.sites m ≡ Some site
    → Lives (step set.mac s).state.sections.live sec → is_at_site n (step set.mac s).state.mem sec site ≡ true → (step set.mac s).state.cur ≡ sec.id → InTurn set m q site sec (step set.mac s).state
step_turns set n s sound all (Some v) e m q site sec part sited lives at cur =
    absurd (subst (λ (z : State). Lives z.sections.live sec) (violates set.mac s v e).state lives)
step_turns set n s sound all None e m q site sec part sited lives at cur =
    let nz = nonzero (step set.mac s).state sec (acted_is_node set.mac Step s tt all.node) lives in
    let own : own_of s ≡ sec.id = elim (cur_of s (step set.mac s).state (onward set.mac s e)) [ inl z ↦ absurd (nz (sym cur ∙ z)) | inr o ↦ sym o ∙ cur ] in
    let old = stood set.mac s sec all.node e nz own lives in
    let at0 = sym (at_site_same n s.mem (step set.mac s).state.mem sec site ((machine_laws set.mac).public s sec all.node old e)) ∙ at in
    (goes_on set n m q site s sec (sound.deployed m q site part sited) all part sited old at0 own e).0

-- Other acts: nothing changes, or no module runs.

abbrev Idles : State → State → Type 0
Idles s t = (t ≡ s) ⊎ (t.cur ≡ 0)

unless_idles : {T : Type 0} (o : Option Refused) (s : State) (done : Shown T) → (o ≡ None → done.state.cur ≡ 0) → Idles s (unless o s done).state
unless_idles None s done f = inr (f refl)
unless_idles (Some r) s done f = inl refl

pub not_busy : (s : State) (o : Option Refused) → cond {A = Option Refused} (not (s.cur == 0)) (Some Rattle.spec_machine.specs.declared.kinds.Refused.TheVariants.Busy) o ≡ None → s.cur ≡ 0
not_busy s o e = by (s.cur == 0) refl e
  where
    by : (b : Bool) → (s.cur == 0) ≡ b → cond {A = Option Refused} (not b) (Some Rattle.spec_machine.specs.declared.kinds.Refused.TheVariants.Busy) o ≡ None → s.cur ≡ 0
    by true f h = eqb-true s.cur 0 f
    by false f h = absurd cc

interrupted_idle : (s : State) (o : Outcome) → s.cur ≡ 0 → (interrupted s o).state.cur ≡ 0
interrupted_idle s (Finished regs x) h = h
interrupted_idle s (Violated v) h = refl
interrupted_idle s (Module regs x t e c) h = h

pub act_idles : (mac : Mac) (act : Act) (s : State) → (act ≡ Step → ⊥) → Idles s (acted mac act s).state
act_idles mac Step s ne = absurd (ne refl)
act_idles mac Restart s ne = inr refl
act_idles mac (Put at bytes) s ne = unless_idles {T = Unit {0}} (put_refusal s at (length bytes)) s (record { state = record s { mem = put_bytes s.mem at bytes }; shown = tt }) (λ e. not_busy s _ e)
act_idles mac (Set r v) s ne = unless_idles {T = Unit {0}} (busy s) s (record { state = record s { regs = set_reg s.regs r v; last = if r == 0 then 0 else s.last }; shown = tt }) (λ e. busy_idle s e)
act_idles mac (Take at k) s ne = unless_idles (take_refusal s at k) s _ (λ e. not_busy s _ e)
act_idles mac (Sense device v) s ne = unless_idles {T = Unit {0}} (busy s) s (record { state = record s { devices = with_sample s.devices device v }; shown = tt }) (λ e. busy_idle s e)
act_idles mac (Interrupt line) s ne =
    unless_idles (irq_refusal s) s (interrupted s (exec s.sections 0 (interrupt line s.regs) (start s)))
    (λ e. interrupted_idle s (exec s.sections 0 (interrupt line s.regs) (start s)) (not_busy s _ e))

pub is_step : (act : Act) → (act ≡ Step) ⊎ (act ≡ Step → ⊥)
is_step Step = inl refl
is_step Restart = inr (λ e. cc)
is_step (Put at bytes) = inr (λ e. cc)
is_step (Set r v) = inr (λ e. cc)
is_step (Take at k) = inr (λ e. cc)
is_step (Sense device v) = inr (λ e. cc)
is_step (Interrupt line) = inr (λ e. cc)

-- the modules that run are in turns
abbrev Turns : Setting → ℕ → State → Type 0
Turns set n t = (m : ℕ) (q : PartTree) (site : Site) (sec : Section)
    → slice_get set.app.parts m ≡ Some q → slice_get set.sites m ≡ Some site
    → Lives t.sections.live sec → is_at_site n t.mem sec site ≡ true → t.cur ≡ sec.id
    → InTurn set m q site sec t

-- one act keeps it all
pub act_turns : (set : Setting) (n : ℕ) (act : Act) (s : State) → IsSoundSetting set → ActInForm act → NodeTurns set n s → NodeTurns set n (acted set.mac act s).state
act_turns set n act s sound form all = record {
  windows = acted_shapes set.mac act s all.node ∙ all.windows;
  node = acted_is_node set.mac act s form all.node;
  key = keeps_key set.mac (act ∷ []) s ∙ all.key;
  keys = keeps_keys set.mac (act ∷ []) s all.node.placed all.keys;
  turns = elim (is_step act) [
    | inl e ↦ subst (λ (a : Act). Turns set n (acted set.mac a s).state) (sym e) (step_turns set n s sound all _ refl)
    | inr ne ↦ elim (act_idles set.mac act s ne) [
      | inl same ↦ subst (λ (z : State). Turns set n z) (sym same) all.turns
      | inr idle ↦ λ m q site sec part sited lives at cur. absurd (nonzero (acted set.mac act s).state sec (acted_is_node set.mac act s form all.node) lives (sym cur ∙ idle))
    ]
  ];
}
