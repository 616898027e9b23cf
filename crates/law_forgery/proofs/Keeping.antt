-- Every act keeps open ends keyed, until a `forged` shows.
use Rattle.std.proofs.Common.{◌≡◌, ◌≢◌, ℕ, ◌-◌, ◌==◌, ◌⊎◌, inl, inr, Bool, true, if◌then◌else◌, List, ◌++◌, length, replicate, Option, Some, None, refl, sym, ◌∙◌, ap, subst, arith}
use Rattle.std.specs.Prelude.{slice_get, slice_set}
use Rattle.std.proofs.lemmas.Bool.{eq-eqb, cases_eq}
use Rattle.sx_lang.specs.Sizes.{module_data_size}
use Rattle.sx_mean.specs.Application.{PartTree}
use Rattle.sx_mean.specs.Ends.{ends_of}
use Rattle.sx_rules.specs.declared.access.Violation.{Violation}
use Rattle.sx_rules.specs.declared.section.Section.{Section}
use Rattle.sx_rules.specs.declared.section.Layout.{Layout}
use Rattle.sx_rules.specs.Access.{Sections, Lives, section_of}
use Rattle.sx_rules.proofs.Placing.{placed_found}
use Rattle.sx_bus.specs.Devices.{with_sample}
use Rattle.spec_machine.specs.declared.kinds.Refused.{Refused}
use Rattle.spec_machine.specs.State.{State}
use Rattle.spec_machine.specs.Memory.{put_bytes}
use Rattle.spec_machine.specs.Registers.{set_reg}
use Rattle.spec_machine.specs.Run.{Outcome, Finished, Violated, Module, exec}
use Rattle.spec_machine.specs.Step.{Shown, step, own_of, start}
use Rattle.spec_machine.specs.Acts.{put_refusal, take_refusal, busy, irq_refusal, unless, interrupted, interrupt}
use Rattle.spec_machine.specs.Acting.{Act, acted, ActInForm}
use Rattle.spec_machine.specs.Acting as act
use Rattle.spec_machine.specs.Guarding.{FromOutside}
use Rattle.spec_machine.proofs.Apart.{lives_without}
use Rattle.spec_machine.proofs.Stays.{acted_is_node, busy_idle}
use Rattle.spec_invocation.specs.Marks.{Mark}
use Rattle.spec_invocation.specs.ModuleState.{ModuleState, state_of}
use Rattle.sx_image.specs.Watched.{violation_of, marks_of}
use Rattle.sx_image.specs.Image.{private_bytes}
use Rattle.spec_run.specs.Setting.{Setting, Site, is_at_site}
use Rattle.spec_run.specs.State.{World, switched_on}
use Rattle.spec_run.specs.Acts.{after_step, at_node}
use Rattle.spec_run.specs.Law.{IsSoundSetting, IsDeployedModule}
use Rattle.spec_run.proofs.tie.Lists.{some_inj, get_other}
use Rattle.spec_run.proofs.tie.Start.{get_nodes}
use Rattle.spec_run.proofs.steps.Entry.{at_site}
use Rattle.spec_run.proofs.steps.Machine.{machine_laws, violates, onward, Sectioned, Stay, Fewer, More, sections_after, fresh_sections}
use Rattle.spec_run.proofs.steps.Bystanders.{cur_of, at_site_same}
use Rattle.spec_run.proofs.steps.Foreign.{append_lives}
use Rattle.spec_run.proofs.steps.Steps.{nonzero}
use Rattle.lemmas.proofs.Lists.{get_same}
use Rattle.law_isolation.specs.Happening.{Happening, Step, done}
use Rattle.law_forgery.specs.Moments.{NoForged}
use Rattle.law_forgery.proofs.Turns.{InTurn, NodeTurns, AllTurn}
use Rattle.law_forgery.proofs.Turning.{Running, begins_turn, goes_on_from, stood, is_step, not_busy}
use Rattle.law_forgery.proofs.Reaching.{InForm, After, after_happening}
use Rattle.law_forgery.proofs.Logging.{AllLogged}
use Rattle.law_forgery.proofs.Opening.{AllMarks}
use Rattle.law_forgery.proofs.Fields.{KeyedEnds, KeyMark, first_keyed}
use Rattle.law_forgery.proofs.Keyed.{all_append, key_marks, KeyedTurn, KeyedRest, NodeKeyed, later_keyed, kept_by, rest_kept, ended}

-- the turn after a step of a module's code, and the marks that it showed before
pub record TurnOn (set : Setting) (Past : State → Type 0) (m : ℕ) (q : PartTree) (site : Site) (sec : Section) (s : State) : Type 0 where
  pub turn : InTurn set m q site sec (step set.mac s).state
  pub stood : Past turn.before
  pub start : KeyedEnds set (ends_of set.app m) (state_of q.tree (ends_of set.app m) (private_bytes sec.layout turn.before.mem)).ends
  pub front : List Mark
  pub keyed : AllMarks (KeyMark set) front
  pub seen : turn.seen ≡ front ++ marks_of (step set.mac s).shown (step set.mac s).state.exchange

module _ (set : Setting) (Past : State → Type 0) (n : ℕ) (s : State) (sound : IsSoundSetting set) (all : NodeTurns set n s) (h : NodeKeyed set Past n s) (here : Past s)
    (m : ℕ) (q : PartTree) (site : Site) (sec : Section) (part : slice_get set.app.parts m ≡ Some q) (sited : slice_get set.sites m ≡ Some site)
    (lives : Lives s.sections.live sec) (at : is_at_site n s.mem sec site ≡ true) (own : own_of s ≡ sec.id) (quiet : violation_of (step set.mac s).shown.event ≡ None) where
  abbrev End0 : State → Type 0
  End0 b = KeyedRest set m q sec b

  nz : sec.id ≢ 0
  nz = nonzero s sec all.node lives

  from : (r : Running set m q site sec s) → Past r.turn.before → End0 r.turn.before → AllMarks (KeyMark set) r.turn.seen → TurnOn set Past m q site sec s
  from r past start seen =
      let g = goes_on_from set n m q site s sec (sound.deployed m q site part sited) all part sited lives at own quiet r in
      record {
        turn = g.0;
        stood = subst Past (sym g.1) past;
        start = subst End0 (sym g.1) start;
        front = r.turn.seen;
        keyed = seen;
        seen = g.2;
      }

  pub turn_on : TurnOn set Past m q site sec s
  turn_on = elim all.node.runner [
    | inl idle ↦
        let b = begins_turn set n m q site s sec (sound.deployed m q site part sited) all part sited lives at own quiet idle in
        from b.0 (subst Past (sym b.1) here) (subst End0 (sym b.1) (h.rests m q site sec part sited lives at (λ e. nz (sym e ∙ idle)))) (subst (AllMarks (KeyMark set)) (sym b.2) tt)
    | inr cur ↦
        let k = h.runs m q site sec part sited lives at (cur ∙ own) in
        from (record { turn = k.turn; runs = λ out. nz (sym (cur ∙ own) ∙ out.idle) }) k.stood k.start k.marks
  ]

  -- where the key that it takes is right
  pub turn_after : AllMarks (KeyMark set) (marks_of (step set.mac s).shown (step set.mac s).state.exchange) → KeyedTurn set Past m q site sec (step set.mac s).state
  turn_after good = record {
    turn = turn_on.turn;
    stood = turn_on.stood;
    start = turn_on.start;
    marks = subst (AllMarks (KeyMark set)) (sym turn_on.seen) (all_append (KeyMark set) turn_on.front (marks_of (step set.mac s).shown (step set.mac s).state.exchange) turn_on.keyed good);
  }

-- a module that was just protected
fresh_keyed : (set : Setting) (n : ℕ) (s : State) (m : ℕ) (q : PartTree) (site : Site) (sec : Section) → IsDeployedModule set m q site → is_at_site n s.mem sec site ≡ true
    → private_bytes sec.layout s.mem ≡ replicate (sec.layout.priv_to - sec.layout.priv_from) 0 → KeyedRest set m q sec s
fresh_keyed set n s m q site sec dep at zeros =
    let place = at_site n s.mem sec site at in
    let es = ends_of set.app m in
    let size : sec.layout.priv_to - sec.layout.priv_from ≡ module_data_size q.tree (length es) =
    ap (λ (l : Layout). l.priv_to - l.priv_from) place.layout ∙ omega (arith, dep.data_size) in
    let bytes : private_bytes sec.layout s.mem ≡ replicate (module_data_size q.tree (length es)) 0 = zeros ∙ ap (λ k. replicate k 0) size in
    subst (λ (z : ModuleState). KeyedEnds set es z.ends) (sym (ap (λ bs. state_of q.tree es bs) bytes ∙ dep.realizes.zeros)) (first_keyed set es)

module _ (set : Setting) (Past : State → Type 0) (w : World) (n : ℕ) (s : State) (sound : IsSoundSetting set) (all : NodeTurns set n s)
    (h : NodeKeyed set Past n s) (here : Past s) (logged : AllLogged set w.ledger)
    (clean : NoForged (after_step set w n s).items) where
  abbrev t : State
  t = (step set.mac s).state

  module _ (quiet : violation_of (step set.mac s).shown.event ≡ None) (m : ℕ) (q : PartTree) (site : Site) (sec : Section)
      (part : slice_get set.app.parts m ≡ Some q) (sited : slice_get set.sites m ≡ Some site)
      (lives : Lives t.sections.live sec) (at : is_at_site n t.mem sec site ≡ true) where
    nz2 : sec.id ≢ 0
    nz2 = nonzero t sec (acted_is_node set.mac act.Step s tt all.node) lives

    own_turn : own_of s ≡ sec.id → KeyedTurn set Past m q site sec t
    own_turn own =
        let old = stood set.mac s sec all.node quiet nz2 own lives in
        let at0 = sym (at_site_same n s.mem t.mem sec site ((machine_laws set.mac).public s sec all.node old quiet)) ∙ at in
        turn_after set Past n s sound all h here m q site sec part sited old at0 own quiet (key_marks set w n s sound all logged clean m site sec sited old at0 own)

    old_rest : (own_of s ≡ sec.id → ⊥) → Lives s.sections.live sec → KeyedRest set m q sec t
    old_rest other old =
        rest_kept set Past n m q site s t sec h part sited old (kept_by set n act.Step s sec all.node.placed old (inl other) lives) at
        (λ e. elim all.node.runner [ inl idle ↦ nz2 (sym e ∙ idle) | inr cur ↦ other (sym cur ∙ e) ])

    other_rest : (own_of s ≡ sec.id → ⊥) → Sectioned s t (step set.mac s).shown.event → KeyedRest set m q sec t
    other_rest other (Stay e f) = old_rest other (subst (λ (z : Sections). Lives z.live sec) e lives)
    other_rest other (Fewer e f) = old_rest other (lives_without s.sections.live (own_of s) sec (subst (λ (z : Sections). Lives z.live sec) e lives))
    other_rest other (More l provider key places r e ev) = elim (append_lives s.sections.live _ sec (subst (λ (z : Sections). Lives z.live sec) e lives)) [
      | inl old ↦ old_rest other old
      | inr new ↦
          let id : sec.id ≡ s.sections.next = ap (λ (z : Section). z.id) new in
          let found : section_of t.sections.live s.sections.next ≡ Some sec =
          subst (λ i. section_of t.sections.live i ≡ Some sec) id (placed_found t.sections sec (acted_is_node set.mac act.Step s tt all.node).placed lives) in
          fresh_keyed set n t m q site sec (sound.deployed m q site part sited) at (fresh_sections set.mac s s.sections.next sec all.node ev found)
    ]

    quiet_rest : (t.cur ≡ sec.id → ⊥) → KeyedRest set m q sec t
    quiet_rest ne = elim (cases_eq (own_of s) sec.id) [
      | inl own ↦ ended set Past m q site sec t (own_turn own) (λ inside.
          ne ((onward set.mac s quiet).cur ∙ ap (λ (b : Bool). if b then own_of s else 0) (eq-eqb (own_of t) (own_of s) (inside ∙ sym own)) ∙ own))
      | inr other ↦ other_rest other (sections_after set.mac s quiet)
    ]

    quiet_run : t.cur ≡ sec.id → KeyedTurn set Past m q site sec t
    quiet_run cur = own_turn (elim (cur_of s t (onward set.mac s quiet)) [ inl z ↦ absurd (nz2 (sym cur ∙ z)) | inr o ↦ sym o ∙ cur ])

  by_event : (v : Option Violation) → violation_of (step set.mac s).shown.event ≡ v → NodeKeyed set Past n t
  by_event (Some v) e = record {
    rests = λ m q site sec part sited lives at ne. absurd (subst (λ (z : State). Lives z.sections.live sec) (violates set.mac s v e).state lives);
    runs = λ m q site sec part sited lives at cur. absurd (subst (λ (z : State). Lives z.sections.live sec) (violates set.mac s v e).state lives);
  }
  by_event None e = record {
    rests = λ m q site sec part sited lives at ne. quiet_rest e m q site sec part sited lives at ne;
    runs = λ m q site sec part sited lives at cur. quiet_run e m q site sec part sited lives at cur;
  }

  pub step_keyed : NodeKeyed set Past n t
  step_keyed = by_event _ refl

-- Other acts.

abbrev pub Outside : State → State → Type 0
Outside s t = (t ≡ s) ⊎ (((sec : Section) → Lives t.sections.live sec → ⊥) ⊎ ((t.sections ≡ s.sections) × (s.cur ≡ 0) × (t.cur ≡ 0)))

unless_outside : {T : Type 0} (o : Option Refused) (s : State) (done : Shown T)
    → (o ≡ None → ((sec : Section) → Lives done.state.sections.live sec → ⊥) ⊎ ((done.state.sections ≡ s.sections) × (s.cur ≡ 0) × (done.state.cur ≡ 0)))
    → Outside s (unless o s done).state
unless_outside None s done f = inr (f refl)
unless_outside (Some r) s done f = inl refl

interrupted_outside : (s : State) (o : Outcome) → s.cur ≡ 0 → ((sec : Section) → Lives (interrupted s o).state.sections.live sec → ⊥)
    ⊎ (((interrupted s o).state.sections ≡ s.sections) × (s.cur ≡ 0) × ((interrupted s o).state.cur ≡ 0))
interrupted_outside s (Finished regs x) h = inr (refl, h, h)
interrupted_outside s (Violated v) h = inl (λ sec l. l)
interrupted_outside s (Module regs x t e c) h = inr (refl, h, h)

pub act_outside : (set : Setting) (a : Act) (s : State) → (a ≡ act.Step → ⊥) → Outside s (acted set.mac a s).state
act_outside set act.Step s ne = absurd (ne refl)
act_outside set act.Restart s ne = inr (inl (λ sec l. l))
act_outside set (act.Put at bytes) s ne = unless_outside {T = Unit {0}} (put_refusal s at (length bytes)) s
    (record { state = record s { mem = put_bytes s.mem at bytes }; shown = tt }) (λ e. let i = not_busy s _ e in inr (refl, i, i))
act_outside set (act.Set r v) s ne =
    unless_outside {T = Unit {0}} (busy s) s (record { state = record s { regs = set_reg s.regs r v; last = if r == 0 then 0 else s.last }; shown = tt })
    (λ e. let i = busy_idle s e in inr (refl, i, i))
act_outside set (act.Take at k) s ne = unless_outside (take_refusal s at k) s _ (λ e. let i = not_busy s _ e in inr (refl, i, i))
act_outside set (act.Sense device v) s ne = unless_outside {T = Unit {0}} (busy s) s
    (record { state = record s { devices = with_sample s.devices device v }; shown = tt }) (λ e. let i = busy_idle s e in inr (refl, i, i))
act_outside set (act.Interrupt line) s ne =
    unless_outside (irq_refusal s) s (interrupted s (exec s.sections 0 (interrupt line s.regs) (start s)))
    (λ e. interrupted_outside s (exec s.sections 0 (interrupt line s.regs) (start s)) (not_busy s _ e))

pub from_outside : (sec : Section) (a : Act) (s : State) → (a ≡ act.Step → ⊥) → FromOutside sec a s
from_outside sec act.Step s ne = absurd (ne refl)
from_outside sec act.Restart s ne = tt
from_outside sec (act.Put at bytes) s ne = tt
from_outside sec (act.Set r v) s ne = tt
from_outside sec (act.Take at k) s ne = tt
from_outside sec (act.Sense device v) s ne = tt
from_outside sec (act.Interrupt line) s ne = tt

other_keyed : (set : Setting) (Past : State → Type 0) (n : ℕ) (a : Act) (s : State) → ActInForm a → (a ≡ act.Step → ⊥) → NodeTurns set n s
    → NodeKeyed set Past n s → NodeKeyed set Past n (acted set.mac a s).state
other_keyed set Past n a s form ne all h = elim (act_outside set a s ne) [
  | inl same ↦ subst (λ (z : State). NodeKeyed set Past n z) (sym same) h
  | inr k ↦ elim k [
    | inl gone ↦ record {
      rests = λ m q site sec part sited lives at c. absurd (gone sec lives);
      runs = λ m q site sec part sited lives at c. absurd (gone sec lives);
    }
    | inr o ↦ record {
      rests = λ m q site sec part sited lives at c.
          let old : Lives s.sections.live sec = subst (λ (z : Sections). Lives z.live sec) o.0 lives in
          rest_kept set Past n m q site s (acted set.mac a s).state sec h part sited old (kept_by set n a s sec all.node.placed old (from_outside sec a s ne) lives) at
          (λ e. nonzero s sec all.node old (sym e ∙ o.1));
      runs = λ m q site sec part sited lives at c. absurd (nonzero (acted set.mac a s).state sec (acted_is_node set.mac a s form all.node) lives (sym c ∙ o.2));
    }
  ]
]

-- Worlds. `Past n` are the states that the n-th node had until now.

abbrev pub AllKeyed : Setting → (ℕ → State → Type 0) → World → Type 0
AllKeyed set Past w = (n : ℕ) (s : State) → slice_get w.nodes n ≡ Some s → NodeKeyed set (Past n) n s

pub later_all : (set : Setting) (Past Later : ℕ → State → Type 0) (w : World) → ((n : ℕ) (t : State) → Past n t → Later n t) → AllKeyed set Past w → AllKeyed set Later w
later_all set Past Later w f h n s e = later_keyed set (Past n) (Later n) n s (f n) (h n s e)

module _ (set : Setting) (Past : ℕ → State → Type 0) (x : Happening) (w : World) (sound : IsSoundSetting set) (form : InForm x) (turns : AllTurn set w)
    (logged : AllLogged set w.ledger) (h : AllKeyed set Past w)
    (here : (n : ℕ) (s : State) → slice_get w.nodes n ≡ Some s → Past n s) (clean : NoForged (done set x w).items) where
  act_keyed : (k : ℕ) (a : Act) (s : State) → slice_get w.nodes k ≡ Some s → ActInForm a → (a ≡ act.Step → x ≡ Step k) → NodeKeyed set (Past k) k (acted set.mac a s).state
  act_keyed k a s there f own = elim (is_step a) [
    | inl e ↦
        let items = subst (λ (z : Happening). NoForged (done set z w).items) (own e) clean in
        let now : NoForged (after_step set w k s).items = subst (λ (o : Option State). NoForged (at_node w (after_step set w k) o).items) there items in
        subst (λ (z : Act). NodeKeyed set (Past k) k (acted set.mac z s).state) (sym e) (step_keyed set (Past k) w k s sound (turns k s there) (h k s there) (here k s there) logged now)
    | inr ne ↦ other_keyed set (Past k) k a s f ne (turns k s there) (h k s there)
  ]

  by_after : After set x w.nodes (done set x w).world.nodes → AllKeyed set Past (done set x w).world
  by_after (inl e) n s g = h n s (subst (λ (z : List State). slice_get z n ≡ Some s) e g)
  by_after (inr a) n s g =
      let g2 : slice_get (slice_set w.nodes a.node (acted set.mac a.act a.state).state) n ≡ Some s = subst (λ (z : List State). slice_get z n ≡ Some s) a.nodes g in
      elim (cases_eq n a.node) [
        | inl e ↦
            let now = get_same w.nodes a.node (acted set.mac a.act a.state).state a.state a.there in
            let same : (acted set.mac a.act a.state).state ≡ s = some_inj _ s (sym now ∙ subst (λ k. slice_get (slice_set w.nodes a.node (acted set.mac a.act a.state).state) k ≡ Some s) e g2) in
            subst (λ k. NodeKeyed set (Past k) k s) (sym e) (subst (λ (z : State). NodeKeyed set (Past a.node) a.node z) same (act_keyed a.node a.act a.state a.there a.form a.own))
        | inr ne ↦ h n s (sym (get_other w.nodes a.node n (acted set.mac a.act a.state).state ne) ∙ g2)
      ]

  pub done_keyed : AllKeyed set Past (done set x w).world
  done_keyed = by_after (after_happening set w x form)

pub starts_keyed : (set : Setting) (Past : ℕ → State → Type 0) → AllKeyed set Past (switched_on set)
starts_keyed set Past n s e =
    let r = get_nodes set 0 set.keys n s e in
    record {
      rests = λ m q site sec part sited lives at c. absurd (subst (λ (z : State). Lives z.sections.live sec) r.1 lives);
      runs = λ m q site sec part sited lives at c. absurd (subst (λ (z : State). Lives z.sections.live sec) r.1 lives);
    }
