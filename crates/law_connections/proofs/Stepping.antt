-- A step of code of no deployed module, in both runs.
use Rattle.std.proofs.Common.{◌≡◌, ℕ, zero, suc, ◌+◌, ◌-◌, ◌<◌, ◌≤◌, ◌&&◌, Bool, true, false, cond, inl, inr, ◌⊎◌, List, [], ◌∷◌, ◌++◌, length, slice_index, Option}
use Rattle.std.proofs.Common.{Some, None, is_some, not, refl, sym, ◌∙◌, ap, ap₂, subst, arith}
use Rattle.std.specs.Prelude.{slice_get, replicate}
use Rattle.std.proofs.lemmas.Bool.{true≢false, and_from, le-leb, lt-ltb}
use Rattle.std.proofs.option.Match.{None-if_not_some}
use Rattle.spec_machine.proofs.Meanings.{same_bytes}
use Rattle.sx_mean.specs.Application.{PartTree}
use Rattle.sx_mean.specs.Ends.{ends_of}
use Rattle.sx_mean.specs.declared.events.End.{End}
use Rattle.sx_trace.specs.declared.items.Item.TheVariants as item
use Rattle.sx_rules.specs.declared.access.Violation.{Violation}
use Rattle.sx_rules.specs.declared.access.Violation.TheVariants as bad
use Rattle.sx_rules.specs.declared.section.Section.{Section}
use Rattle.sx_rules.specs.declared.section.Layout.{Layout}
use Rattle.sx_rules.specs.Access.{Lives, section_of, in_private}
use Rattle.sx_rules.proofs.Placing.{placed_found}
use Rattle.sx_bus.specs.Devices.{device_at}
use Rattle.sx_tag.specs.Mac.{Mac}
use Rattle.sx_tag.specs.Keys.{module_key}
use Rattle.spec_machine.specs.declared.kinds.Seen.{Seen}
use Rattle.spec_machine.specs.Memory.{bytes_from}
use Rattle.spec_machine.specs.State.{State, reset}
use Rattle.spec_machine.specs.Run.{Violated}
use Rattle.spec_machine.specs.Step.{pc_of, own_of, word_outside, is_let_run, instruction, ordered, settled_step, step}
use Rattle.spec_machine.proofs.Stays.{acted_is_node}
use Rattle.sx_rules.specs.Access.{in_order}
use Rattle.spec_invocation.specs.ModuleState.{ModuleState, state_of, initial_state, initial_ends}
use Rattle.sx_lang.specs.Sizes.{module_data_size}
use Rattle.sx_image.specs.Watched.{violation_of}
use Rattle.sx_image.specs.Image.{private_bytes}
use Rattle.spec_run.specs.Setting.{Setting, Site, is_at_site, deployed, module_of}
use Rattle.spec_run.specs.Ledger.{Made}
use Rattle.spec_run.specs.Deployer.{list_at}
use Rattle.spec_run.specs.State.{World, Acted}
use Rattle.spec_run.specs.Observation.{Observed, observed, cause_of}
use Rattle.spec_run.specs.Acts.{only, with_node, after_step}
use Rattle.spec_run.specs.Law.{IsSoundSetting, IsDeployedModule}
use Rattle.spec_run.proofs.steps.Entry.{at_site}
use Rattle.spec_run.proofs.steps.Foreign.{position_some}
use Rattle.spec_run.proofs.steps.Machine.{machine_laws, violates, onward}
use Rattle.spec_run.proofs.steps.Steps.{nonzero}
use Rattle.spec_run.proofs.steps.Bystanders.{at_site_same, cur_of}
use Rattle.law_calls.proofs.Running.{violated_step}
use Rattle.law_forgery.specs.Tags.{SameTags}
use Rattle.law_forgery.proofs.Turns.{NodeTurns}
use Rattle.law_forgery.proofs.Turning.{stood}
use Rattle.law_connections.specs.LinksUnseen.{SameModule, wanted, identity_in, KeepsTo}
use Rattle.law_connections.proofs.Outside.{Kind, sites_on, is_deployed, NoGuess, AlikeOutside, IsUntouched}
use Rattle.law_connections.proofs.Bystanding.{outsiders_see, outsiders_touch_none, not_deployed}
use Rattle.law_connections.proofs.Alike.{own_same, modules_same}
use Rattle.law_connections.proofs.Twice.{SameEnds}
use Rattle.law_connections.proofs.Linking.{second, Linked, SameStates, SameNode}
use Rattle.law_connections.proofs.Ledgers.{SameLedger}
use Rattle.law_connections.proofs.Worlds.{SameWorld, with_same}
use Rattle.law_connections.proofs.Doing.{SameDone, states_kept, reset_node, unowned_same}

-- the next step of the n-th node guesses nothing
abbrev pub GuessesNone : Setting → Setting → ℕ → State → Type 0
GuessesNone a b n s = KeepsTo a (λ k. SameTags a.mac k b.mac k) (SameModule a b n) n s

-- a section at a site is deployed
pub site_deployed : (sites : List Site) (n : ℕ) (mem : List ℕ) (x : Section) (m : ℕ) (site : Site) → slice_get sites m ≡ Some site → is_at_site n mem x site ≡ true
    → is_deployed (sites_on sites n) mem x ≡ true
site_deployed sites n mem x m site sited at = by (deployed sites n mem x) refl
  where
    by : (o : Option ℕ) → deployed sites n mem x ≡ o → is_some o ≡ true
    by None e = absurd (position_some (is_at_site n mem x) 0 sites m site sited at e)
    by (Some j) e = refl

replicate_more : (n : ℕ) → ◌≡◌ {A = List ℕ} (replicate {A = ℕ} n 0 ++ 0 ∷ []) (0 ∷ replicate {A = ℕ} n 0)
replicate_more zero = refl
replicate_more (suc n) = ap (λ (r : List ℕ). 0 ∷ r) (replicate_more n)

zeros_from : (m : List ℕ) (at n : ℕ) → ((k : ℕ) → at ≤ k → k < at + n → slice_index m k ≡ 0) → bytes_from m at n ≡ replicate n 0
unfolding bytes_from
zeros_from m at zero f = refl
zeros_from m at (suc n) f =
    ap₂ (λ (xs : List ℕ) (x : ℕ). xs ++ x ∷ []) (zeros_from m at n (λ k lo hi. f k lo (omega (arith, hi)))) (f (at + n) (omega arith) (omega arith))
    ∙ replicate_more n

initial_same : (L : ℕ → List ℕ → List ℕ → Type 0) (es : List End) → SameEnds L (initial_ends es) (initial_ends es)
initial_same L [] = tt
initial_same L (e ∷ es) = ((refl, λ o. absurd (true≢false (sym o))), initial_same L es)

-- an instruction that isn't let run violates
pub stopped_violates : (mac : Mac) (s : State) → is_let_run s ≡ false → (v : Violation) × (violation_of (step mac s).shown.event ≡ Some v)
stopped_violates mac s stopped = outer (word_outside s.sections.live (pc_of s)) (device_at s.devices (pc_of s)) stopped
  where
    inner : (c : Bool) → c ≡ false → (v : Violation) × (violation_of (settled_step s (cond c (instruction mac s) (Violated bad.Order))).shown.event ≡ Some v)
    inner true e = absurd (true≢false e)
    inner false e = (bad.Order, refl)

    outer : (c : Bool) (d : Option ℕ) → (c && (not (is_some d) && in_order s.sections.live s.cur (pc_of s))) ≡ false
        → (v : Violation) × (violation_of (settled_step s (cond c (ordered mac s d) (Violated bad.Fetch))).shown.event ≡ Some v)
    outer true (Some d) e = (bad.Device, refl)
    outer true None e = inner (in_order s.sections.live s.cur (pc_of s)) e
    outer false d e = (bad.Fetch, refl)

module _ (a : Setting) (nac : Mac) (keys : List (List ℕ)) (secret : List ℕ) (sound : IsSoundSetting a) where
  abbrev b : Setting
  b = second a nac keys secret

  module _ (n : ℕ) (s t : State) (outside : AlikeOutside a.mac nac (sites_on a.sites n) s t) (ta : NodeTurns a n s) (tb : NodeTurns (second a nac keys secret) n t)
      (foreign : (module_of a.sites n s (own_of s) ≡ None) ⊎ (is_let_run s ≡ false))
      (guess : module_of a.sites n s (own_of s) ≡ None → GuessesNone a (second a nac keys secret) n s) where
    pub no_guess : module_of a.sites n s (own_of s) ≡ None → NoGuess a.mac nac (sites_on a.sites n) s t.key
    no_guess none =
        let g = guess none in
        let id = identity_in s.mem (wanted s) in
        record {
          held = g.held;
          admitted = λ is words other.
              subst (λ (k : List ℕ). SameTags a.mac (module_key a.mac k s.boot (slice_index s.regs 9) id) nac (module_key nac t.key s.boot (slice_index s.regs 9) id)) (sym ta.key)
              (subst (λ (k : List ℕ). SameTags a.mac (module_key a.mac (list_at a.keys n) s.boot (slice_index s.regs 9) id) nac (module_key nac k s.boot (slice_index s.regs 9) id)) (sym tb.key)
              (g.admitted is (None-if_not_some (deployed a.sites n s.mem (wanted s)) other)));
        }

    pub stepped : ((step a.mac s).shown ≡ (step nac t).shown) × AlikeOutside a.mac nac (sites_on a.sites n) (step a.mac s).state (step nac t).state
    stepped = outsiders_see a.mac nac a.sites n s t ta.node.placed ta.node.registers.words foreign no_guess outside

  module _ (n : ℕ) (s t : State) (h : SameNode a nac keys secret n s t) (ta : NodeTurns a n s) (tb : NodeTurns (second a nac keys secret) n t)
      (foreign : (module_of a.sites n s (own_of s) ≡ None) ⊎ (is_let_run s ≡ false))
      (guess : module_of a.sites n s (own_of s) ≡ None → GuessesNone a (second a nac keys secret) n s) where
    abbrev kind : Kind
    kind = sites_on a.sites n

    abbrev u : State
    u = (step a.mac s).state

    abbrev v : State
    v = (step nac t).state

    seen_same : ((step a.mac s).shown ≡ (step nac t).shown) × AlikeOutside a.mac nac (sites_on a.sites n) (step a.mac s).state (step nac t).state
    seen_same = stepped n s t h.outside ta tb foreign guess

    -- a section of the code that ran isn't deployed
    own_bare : (x : Section) → violation_of (step a.mac s).shown.event ≡ None → Lives u.sections.live x → own_of s ≡ x.id → is_deployed (sites_on a.sites n) u.mem x ≡ true → ⊥
    own_bare x quiet l own d =
        let nz = nonzero u x (acted_is_node a.mac Rattle.spec_machine.specs.Acting.Step s tt ta.node) l in
        let old = stood a.mac s x ta.node quiet nz own l in
        let found : section_of s.sections.live (own_of s) ≡ Some x = ap (section_of s.sections.live) own ∙ placed_found s.sections x ta.node.placed old in
        let before : is_deployed (sites_on a.sites n) s.mem x ≡ true =
        ap (λ (bs : List ℕ). sites_on a.sites n x.layout x.provider bs) (sym ((machine_laws a.mac).public s x ta.node old quiet)) ∙ d in
        elim foreign [
          | inl none ↦ true≢false (sym before ∙ not_deployed a.sites n s (section_of s.sections.live (own_of s)) none x found)
          | inr stopped ↦ let w = stopped_violates a.mac s stopped in none_some w.0 (sym quiet ∙ w.1)
        ]
      where
        none_some : (w : Violation) → ◌≡◌ {A = Option Violation} None (Some w) → ⊥
        none_some w e = cc

    rests : (x : Section) → Lives u.sections.live x → is_deployed (sites_on a.sites n) u.mem x ≡ true → u.cur ≡ x.id → ⊥
    rests x l d c = by (violation_of (step a.mac s).shown.event) refl
      where
        by : (o : Option Violation) → violation_of (step a.mac s).shown.event ≡ o → ⊥
        by (Some w) e = subst (λ (z : State). Lives z.sections.live x) (violates a.mac s w e).state l
        by None e =
            let nz = nonzero (step a.mac s).state x (acted_is_node a.mac Rattle.spec_machine.specs.Acting.Step s tt ta.node) l in
            elim (cur_of s (step a.mac s).state (onward a.mac s e)) [
              | inl idle ↦ nz (sym c ∙ idle)
              | inr own ↦ own_bare x e l (sym own ∙ c) d
            ]

    range_private : (x : Section) (k : ℕ) → x.layout.priv_from ≤ k → k < x.layout.priv_from + (x.layout.priv_to - x.layout.priv_from) → in_private x k ≡ true
    range_private x k lo hi = and_from _ _ (le-leb x.layout.priv_from k lo) (lt-ltb k x.layout.priv_to (omega (arith, lo, hi)))

    states : (m : ℕ) (q : PartTree) (site : Site) (x : Section) → slice_get a.app.parts m ≡ Some q → slice_get a.sites m ≡ Some site
        → Lives u.sections.live x → is_at_site n u.mem x site ≡ true → SameStates a nac keys secret (Linked a nac keys secret) m q x u.mem v.mem
    states m q site x part sited l at =
        by (outsiders_touch_none a.mac nac a.sites n s t ta.node.placed tb.node.placed ta.node.registers.words foreign
        (no_guess n s t h.outside ta tb foreign guess) h.outside x l (site_deployed a.sites n u.mem x m site sited at))
      where
        quiet : violation_of (step a.mac s).shown.event ≡ None
        quiet = none (violation_of (step a.mac s).shown.event) refl
          where
            none : (o : Option Violation) → violation_of (step a.mac s).shown.event ≡ o → o ≡ None
            none None e = refl
            none (Some w) e = absurd (subst (λ (z : State). Lives z.sections.live x) (violates a.mac s w e).state l)

        by : IsUntouched (sites_on a.sites n) s t (step a.mac s).state (step nac t).state x
            → SameStates a nac keys secret (Linked a nac keys secret) m q x (step a.mac s).state.mem (step nac t).state.mem
        by (inl k) =
            let len = x.layout.priv_to - x.layout.priv_from in
            states_kept a nac keys secret m q x s.mem t.mem (step a.mac s).state.mem (step nac t).state.mem
            (same_bytes s.mem (step a.mac s).state.mem x.layout.priv_from len (λ i lo hi. (k.2 i (range_private x i lo hi)).0))
            (same_bytes t.mem (step nac t).state.mem x.layout.priv_from len (λ i lo hi. (k.2 i (range_private x i lo hi)).1))
            (h.states m q site x part sited k.0 (sym (at_site_same n s.mem (step a.mac s).state.mem x site ((machine_laws a.mac).public s x ta.node k.0 quiet)) ∙ at))
        by (inr zeros) =
            let len = x.layout.priv_to - x.layout.priv_from in
            let es = ends_of a.app m in
            let dep : IsDeployedModule a m q site = sound.deployed m q site part sited in
            let place = at_site n (step a.mac s).state.mem x site at in
            let size : len ≡ module_data_size q.tree (length es) = ap (λ (y : Layout). y.priv_to - y.priv_from) place.layout ∙ omega (arith, dep.data_size) in
            let first : private_bytes x.layout (step a.mac s).state.mem ≡ replicate (module_data_size q.tree (length es)) 0 =
            zeros_from (step a.mac s).state.mem x.layout.priv_from len (λ i lo hi. (zeros i (range_private x i lo hi)).0) ∙ ap (λ (z : ℕ). replicate z 0) size in
            let other : private_bytes x.layout (step nac t).state.mem ≡ replicate (module_data_size q.tree (length es)) 0 =
            zeros_from (step nac t).state.mem x.layout.priv_from len (λ i lo hi. (zeros i (range_private x i lo hi)).1) ∙ ap (λ (z : ℕ). replicate z 0) size in
            let one : state_of q.tree es (private_bytes x.layout (step a.mac s).state.mem) ≡ initial_state q.tree es = ap (state_of q.tree es) first ∙ dep.realizes.zeros in
            let two : state_of q.tree es (private_bytes x.layout (step nac t).state.mem) ≡ initial_state q.tree es = ap (state_of q.tree es) other ∙ dep.realizes.zeros in (
              ap (λ (z : ModuleState). z.cells) two ∙ sym (ap (λ (z : ModuleState). z.cells) one),
              subst (λ (z : ModuleState). SameEnds (Linked a nac keys secret) z.ends (state_of q.tree es (private_bytes x.layout (step nac t).state.mem)).ends) (sym one)
                  (subst (λ (z : ModuleState). SameEnds (Linked a nac keys secret) (initial_ends es) z.ends) (sym two) (initial_same (Linked a nac keys secret) es)),
              λ o free. ap (λ (bs : List ℕ). slice_index bs o) (other ∙ sym first),
            )

    pub step_node : SameNode a nac keys secret n u v
    step_node = record { outside = seen_same.1; rests = rests; states = states }

    abbrev shown_by : Setting → World → State → Observed → Acted
    shown_by set y z o = only (with_node y n (step set.mac z).state o.ledger (y.steps + 1)) o.items

    -- in worlds
    pub step_done : (w x : World) → SameWorld a nac keys secret w x → slice_get w.nodes n ≡ Some s → slice_get x.nodes n ≡ Some t
        → SameDone a nac keys secret (after_step a w n s) (after_step (second a nac keys secret) x n t)
    step_done w x k here there = elim foreign [
      | inl none ↦
          let second_none : module_of a.sites n t (own_of t) ≡ None =
          ap (module_of a.sites n t) (own_same a.mac nac kind s t ta.node.placed h.outside) ∙ modules_same a.mac nac kind s t ta.node.placed h.outside a.sites n (own_of s) ∙ none in
          let one : after_step a w n s ≡ shown_by a w s (observed a n None u (step a.mac s).shown w.ledger) = ap
          (λ (who : Option ℕ). shown_by a w s (observed a n who u (step a.mac s).shown w.ledger)) none in
          let two : after_step b x n t ≡ shown_by b x t (observed b n None v (step a.mac s).shown x.ledger) =
          ap (λ (who : Option ℕ). shown_by b x t (observed b n who v (step nac t).shown x.ledger)) second_none
          ∙ ap (λ (seen : Seen). shown_by b x t (observed b n None v seen x.ledger)) (sym seen_same.0) in
          let g = unowned_same a nac keys secret n u v (step a.mac s).shown w.ledger x.ledger (acted_is_node a.mac Rattle.spec_machine.specs.Acting.Step s tt ta.node).placed seen_same.1 in
          subst (λ (z : Acted). SameDone a nac keys secret z (after_step b x n t)) (sym one)
          (subst (λ (z : Acted). SameDone a nac keys secret (shown_by a w s (observed a n None u (step a.mac s).shown w.ledger)) z) (sym two) (
            g.0,
            with_same a nac keys secret w x n s t u v (observed a n None u (step a.mac s).shown w.ledger).ledger (observed b n None v (step a.mac s).shown x.ledger).ledger
                (w.steps + 1) (x.steps + 1) k here there (inl step_node)
                (subst (λ (l : List Made). SameLedger a nac keys secret l (observed b n None v (step a.mac s).shown x.ledger).ledger) (sym g.1)
                (subst (λ (l : List Made). SameLedger a nac keys secret w.ledger l) (sym g.2) k.ledger)),
          ))
      | inr stopped ↦
          let o = stopped_violates a.mac s stopped in
          let p : violation_of (step nac t).shown.event ≡ Some o.0 = ap (λ (seen : Seen). violation_of seen.event) (sym seen_same.0) ∙ o.1 in
          subst (λ (z : Acted). SameDone a nac keys secret z (after_step b x n t)) (sym (violated_step a w n s o.0 o.1))
          (subst (λ (z : Acted). SameDone a nac keys secret (record { world = with_node w n (reset s) w.ledger (w.steps + 1); items = item.Reset n (cause_of o.0) ∷ [] }) z)
          (sym (violated_step b x n t o.0 p))
          (refl, with_same a nac keys secret w x n s t (reset s) (reset t) w.ledger x.ledger (w.steps + 1) (x.steps + 1) k here there (inl (reset_node a nac keys secret n s t (inl h) ta tb)) k.ledger))
    ]
