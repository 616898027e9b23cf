-- At each moment of a run the live sections' providers and bounds are words.
use Rattle.std.proofs.Common.{◌≡◌, ℕ, zero, suc, ◌<◌, ◌⊎◌, inl, inr, List, length, Some, sym, ◌∙◌, ap, subst}
use Rattle.std.specs.Prelude.{slice_get, slice_set}
use Rattle.std.proofs.lemmas.Bool.{cases_eq}
use Rattle.lemmas.proofs.Lists.{get_same}
use Rattle.sx_sched.specs.Lines.{Line}
use Rattle.sx_rules.specs.declared.section.Section.{Section}
use Rattle.sx_rules.specs.Access.{Sections, Lives}
use Rattle.sx_tag.specs.Mac.{Mac}
use Rattle.spec_machine.specs.declared.kinds.Event.{Event}
use Rattle.spec_machine.specs.declared.kinds.Event.TheVariants as event
use Rattle.spec_machine.specs.State.{State, reset}
use Rattle.spec_machine.specs.Node.{IsNode}
use Rattle.spec_machine.specs.Protect.{layout_in, provider_in}
use Rattle.spec_machine.specs.Step.{step}
use Rattle.spec_machine.specs.Acting.{Act, Step, Restart, Put, Set, Take, Sense, Interrupt, acted}
use Rattle.spec_machine.specs.Events.{chain_key, Says}
use Rattle.spec_machine.proofs.Apart.{lives_push, lives_without}
use Rattle.spec_machine.proofs.Meanings.{steps_say, others_keep_sections}
use Rattle.spec_run.specs.Setting.{Setting}
use Rattle.spec_run.specs.Law.{IsSoundSetting, LinesInForm}
use Rattle.spec_run.specs.State.{World, Acted, switched_on}
use Rattle.spec_run.proofs.tie.Lists.{get_other, some_inj, length_set}
use Rattle.spec_run.proofs.tie.Start.{get_nodes, nodes_long}
use Rattle.law_isolation.specs.Happening.{Happening, done}
use Rattle.law_isolation.specs.Script.{Script, End, Do, looks}
use Rattle.law_isolation.specs.Lines.{script_of}
use Rattle.law_isolation.proofs.Acting.{with_nodes, Still, OnNode, kind}
use Rattle.law_isolation.proofs.Alone.{some_or_none}
use Rattle.law_forgery.specs.Moments.{Moment, moment_from, moment}
use Rattle.law_forgery.proofs.Turns.{AllTurn}
use Rattle.law_forgery.proofs.Reaching.{ScriptInForm, done_turns, starts_turning, lines_form}
use Rattle.law_makers.specs.Impostors.{HasWords}

pub record IsWorded (x : Section) : Type 0 where
  pub provider : x.provider < 65536
  pub layout : HasWords x.layout

abbrev pub Worded : State → Type 0
Worded s = (x : Section) → Lives s.sections.live x → IsWorded x

step_worded : (mac : Mac) (a : State) → IsNode a → Worded a → (e : Event) → Says mac a (step mac a).state e → Worded (step mac a).state
step_worded mac a node h event.Quiet says x l = h x (subst (λ (z : Sections). Lives z.live x) says l)
step_worded mac a node h (event.Reset v) says x l = absurd (subst (λ (z : State). Lives z.sections.live x) says l)
step_worded mac a node h (event.Protected id) says x l =
    let new : Section = record { layout = layout_in a.regs; provider = provider_in a.regs; id = a.sections.next; key = chain_key mac a (provider_in a.regs) (layout_in a.regs) } in
    let word = node.registers.words in
    elim (lives_push a.sections.live new x (subst (λ (z : Sections). Lives z.live x) says.sections l)) [
      | inl old ↦ h x old
      | inr same ↦ subst IsWorded same (record { provider = word 9; layout = record { pub_from = word 10; pub_to = word 11; priv_from = word 12; priv_to = word 13 } })
    ]
step_worded mac a node h (event.Removed id) says x l = h x (lives_without a.sections.live id x (subst (λ (z : Sections). Lives z.live x) says.sections l))
step_worded mac a node h (event.Wrapped id) says x l = h x (subst (λ (z : Sections). Lives z.live x) says.1 l)
step_worded mac a node h (event.Unwrapped id) says x l = h x (subst (λ (z : Sections). Lives z.live x) says.1 l)
step_worded mac a node h (event.Left id) says x l = h x (subst (λ (z : Sections). Lives z.live x) says.2 l)

others_worded : (mac : Mac) (act : Act) (a : State) → Worded a → ((acted mac act a).state.sections ≡ a.sections) ⊎ ((acted mac act a).state ≡ reset a) → Worded (acted mac act a).state
others_worded mac act a h (inl same) x l = h x (subst (λ (z : Sections). Lives z.live x) same l)
others_worded mac act a h (inr r) x l = absurd (subst (λ (z : State). Lives z.sections.live x) r l)

acted_worded : (mac : Mac) (act : Act) (a : State) → IsNode a → Worded a → Worded (acted mac act a).state
acted_worded mac Step a node h = step_worded mac a node h (step mac a).shown.event (steps_say mac a node.placed)
acted_worded mac Restart a node h = others_worded mac Restart a h (others_keep_sections mac Restart a tt)
acted_worded mac (Put at bytes) a node h = others_worded mac (Put at bytes) a h (others_keep_sections mac (Put at bytes) a tt)
acted_worded mac (Set r v) a node h = others_worded mac (Set r v) a h (others_keep_sections mac (Set r v) a tt)
acted_worded mac (Take at k) a node h = others_worded mac (Take at k) a h (others_keep_sections mac (Take at k) a tt)
acted_worded mac (Sense device v) a node h = others_worded mac (Sense device v) a h (others_keep_sections mac (Sense device v) a tt)
acted_worded mac (Interrupt line) a node h = others_worded mac (Interrupt line) a h (others_keep_sections mac (Interrupt line) a tt)

abbrev pub AllWorded : World → Type 0
AllWorded w = (n : ℕ) (s : State) → slice_get w.nodes n ≡ Some s → Worded s

module _ (set : Setting) (x : Happening) (w : World) (turns : AllTurn set w) (p : AllWorded w) where
  by_kind : Still (λ ns. done set x (with_nodes w ns)) ⊎ OnNode set.mac x w (λ ns. done set x (with_nodes w ns)) → AllWorded (done set x w).world
  by_kind (inl k) = subst (λ (z : Acted). AllWorded z.world) (sym (k.is w.nodes)) p
  by_kind (inr k) = elim (some_or_none (slice_get w.nodes k.node)) [
    | inr e ↦ subst (λ (z : Acted). AllWorded z.world) (sym (k.none w.nodes e)) p
    | inl c ↦
        subst (λ (z : Acted). AllWorded z.world) (sym (k.does w.nodes c.0 c.1)) (λ n b h. elim (cases_eq n k.node) [
          | inl e ↦
              let now : slice_get (slice_set w.nodes k.node (k.effect c.0).state) n ≡ Some (k.effect c.0).state =
              ap (slice_get (slice_set w.nodes k.node (k.effect c.0).state)) e ∙ get_same w.nodes k.node (k.effect c.0).state c.0 c.1 in
              subst Worded (sym (k.leads c.0) ∙ some_inj (k.effect c.0).state b (sym now ∙ h))
              (acted_worded set.mac k.act c.0 (turns k.node c.0 c.1).node (p k.node c.0 c.1))
          | inr ne ↦ p n b (sym (get_other w.nodes k.node n (k.effect c.0).state ne) ∙ h)
        ])
  ]

  done_worded : AllWorded (done set x w).world
  done_worded = by_kind (kind set x w)

module _ (set : Setting) (x : Happening) (w : World) (count : ℕ) (h : length w.nodes ≡ count) where
  as_many : Still (λ ns. done set x (with_nodes w ns)) ⊎ OnNode set.mac x w (λ ns. done set x (with_nodes w ns)) → length (done set x w).world.nodes ≡ count
  as_many (inl k) = subst (λ (z : Acted). length z.world.nodes ≡ count) (sym (k.is w.nodes)) h
  as_many (inr k) = elim (some_or_none (slice_get w.nodes k.node)) [
    | inr e ↦ subst (λ (z : Acted). length z.world.nodes ≡ count) (sym (k.none w.nodes e)) h
    | inl c ↦ subst (λ (z : Acted). length z.world.nodes ≡ count) (sym (k.does w.nodes c.0 c.1)) (length_set w.nodes k.node (k.effect c.0).state ∙ h)
  ]

on_worded : (set : Setting) → AllWorded (switched_on set)
on_worded set n s e x l = let r = get_nodes set 0 set.keys n s e in absurd (subst (λ (z : State). Lives z.sections.live x) r.1 l)

-- what holds of the nodes at a moment
pub record Stands (set : Setting) (w : World) : Type 0 where
  pub turns : AllTurn set w
  pub words : AllWorded w
  pub nodes : length w.nodes ≡ length set.keys

from_here : (set : Setting) → IsSoundSetting set → (k : ℕ) (script : Script) (w : World) (now : Moment) → ScriptInForm script → Stands set w
    → moment_from set k script w ≡ Some now → Stands set now.world
from_here set sound k End w now f h e = absurd cc
from_here set sound zero (Do x rest) w now f h e = subst (λ (o : Moment). Stands set o.world) (some_inj (record { next = x; world = w }) now e) h
from_here set sound (suc k) (Do x rest) w now f h e =
    let v = (done set x w).world in
    from_here set sound k (rest (looks v)) v now (f.1 (looks v)) (record { turns = done_turns set x w sound f.0 h.turns; words = done_worded set x w h.turns h.words; nodes = as_many set x w (length set.keys) h.nodes (kind set x w) }) e

pub stands : (set : Setting) → IsSoundSetting set → (lines : List Line) → LinesInForm set lines → (k : ℕ) (now : Moment) → moment set lines k ≡ Some now → Stands set now.world
stands set sound lines form k now e =
    from_here set sound k (script_of set lines) (switched_on set) now (lines_form set lines sound form) (record { turns = starts_turning set sound; words = on_worded set; nodes = nodes_long set 0 set.keys }) e
