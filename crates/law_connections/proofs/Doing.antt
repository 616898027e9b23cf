-- What is done to a node from outside, in both runs.
use Rattle.std.proofs.Common.{◌≡◌, ℕ, ◌==◌, if◌then◌else◌, true, inl, inr, List, length, [], ◌∷◌, ◌++◌, Option, Some, None, Result, Ok, Err, refl, sym, ◌∙◌, ap, subst}
use Rattle.std.specs.Prelude.{slice_get}
use Rattle.sx_mean.specs.Application.{PartTree}
use Rattle.sx_mean.specs.Ends.{ends_of}
use Rattle.sx_mean.specs.declared.apps.AppDevice.{AppDevice}
use Rattle.sx_trace.specs.declared.items.Item.{Item}
use Rattle.sx_trace.specs.declared.items.Item.TheVariants as item
use Rattle.sx_rules.specs.declared.section.Section.{Section}
use Rattle.sx_rules.specs.Access.{Sections, Lives}
use Rattle.sx_rules.specs.Placed.{Placed}
use Rattle.sx_bus.specs.Devices.{with_sample}
use Rattle.sx_tag.specs.Mac.{Mac}
use Rattle.spec_machine.specs.declared.kinds.Refused.{Refused}
use Rattle.spec_machine.specs.declared.kinds.Seen.{Seen}
use Rattle.spec_machine.specs.declared.kinds.Event.{Event}
use Rattle.spec_machine.specs.declared.kinds.Event.TheVariants as event
use Rattle.spec_machine.specs.State.{State, reset}
use Rattle.spec_machine.specs.Step.{Shown, start}
use Rattle.spec_machine.specs.Acts.{put, set, take as take_from, sense, irq, put_refusal, take_refusal, irq_refusal, busy, unless, now, interrupt, interrupted}
use Rattle.spec_machine.specs.Memory.{bytes_from, put_bytes}
use Rattle.spec_machine.specs.Registers.{set_reg}
use Rattle.spec_machine.specs.Run.{exec}
use Rattle.spec_machine.specs.Acting.{Act, acted}
use Rattle.spec_machine.specs.Acting as act
use Rattle.spec_machine.proofs.Stays.{acted_is_node, busy_idle, irq_idle}
use Rattle.spec_invocation.specs.ModuleState.{state_of}
use Rattle.sx_image.specs.Image.{private_bytes}
use Rattle.spec_run.specs.Setting.{Setting, Site, is_at_site}
use Rattle.spec_run.specs.Ledger.{Made}
use Rattle.spec_run.specs.State.{World, Acted}
use Rattle.spec_run.specs.Observation.{observed, event_seen, touch_items}
use Rattle.spec_run.specs.Acts.{only, at_node, or_refused, done_on, after_take, after_interrupt, with_node}
use Rattle.spec_run.specs.Run.{give, place_at, sense_at}
use Rattle.spec_run.proofs.steps.Steps.{nonzero}
use Rattle.spec_run.proofs.steps.Bystanders.{at_site_same}
use Rattle.law_forgery.proofs.Turns.{NodeTurns}
use Rattle.law_forgery.proofs.Keyed.{kept_by}
use Rattle.law_forgery.proofs.Keeping.{act_outside, from_outside}
use Rattle.law_forgery.proofs.Turning.{not_busy}
use Rattle.law_connections.proofs.Outside.{Kind, sites_on, is_deployed, AlikeOutside}
use Rattle.law_connections.proofs.Bystanding.{reset_same}
use Rattle.law_connections.proofs.Touching.{put_same, take_same, set_same, sense_same, irq_same}
use Rattle.law_connections.proofs.Alike.{modules_same}
use Rattle.law_connections.proofs.Twice.{SameEnds}
use Rattle.law_connections.proofs.Linking.{second, Linked, SameShown, SameStates, SameNode}
use Rattle.law_connections.proofs.Entered.{mate_lives}
use Rattle.law_connections.proofs.Between.{Between, SameTurn, outside_mid}
use Rattle.law_connections.proofs.Ledgers.{SameLedger}
use Rattle.law_connections.proofs.Worlds.{SameAt, SameWorld, with_same, packet_same}

-- a section that is live after an act from outside was live before
pub stood_before : (set : Setting) (x : Act) (s : State) → (x ≡ act.Step → ⊥) → (sec : Section) → Lives (acted set.mac x s).state.sections.live sec → Lives s.sections.live sec
stood_before set x s ne sec l = elim (act_outside set x s ne) [
  | inl same ↦ subst (λ (z : State). Lives z.sections.live sec) same l
  | inr g ↦ elim g [
    | inl gone ↦ absurd (gone sec l)
    | inr k ↦ subst (λ (z : Sections). Lives z.live sec) k.0 l
  ]
]

-- While a module runs, every other act is refused but a reset.
refused_stays : {T : Type 0} (o : Option Refused) (s : State) (done : Shown T) → (o ≡ None → ⊥) → (unless o s done).state ≡ s
refused_stays None s done ne = absurd (ne refl)
refused_stays (Some why) s done ne = refl

busy_stays : (mac : Mac) (x : Act) (s : State) → (x ≡ act.Step → ⊥) → (x ≡ act.Restart → ⊥) → (s.cur ≡ 0 → ⊥) → (acted mac x s).state ≡ s
busy_stays mac act.Step s ne nr busy_ = absurd (ne refl)
busy_stays mac act.Restart s ne nr busy_ = absurd (nr refl)
busy_stays mac (act.Put at bytes) s ne nr busy_ = refused_stays {T = Unit {0}} (put_refusal s at (length bytes)) s (now (record s { mem = put_bytes s.mem at bytes })) (λ e. busy_ (not_busy s _ e))
busy_stays mac (act.Set r v) s ne nr busy_ =
    refused_stays {T = Unit {0}} (busy s) s (now (record s { regs = set_reg s.regs r v; last = if r == 0 then 0 else s.last })) (λ e. busy_ (busy_idle s e))
busy_stays mac (act.Take at k) s ne nr busy_ = refused_stays (take_refusal s at k) s (record { state = s; shown = bytes_from s.mem at k }) (λ e. busy_ (not_busy s _ e))
busy_stays mac (act.Sense d v) s ne nr busy_ = refused_stays {T = Unit {0}} (busy s) s (now (record s { devices = with_sample s.devices d v })) (λ e. busy_ (busy_idle s e))
busy_stays mac (act.Interrupt line) s ne nr busy_ =
    refused_stays (irq_refusal s) s (interrupted s (exec s.sections 0 (interrupt line s.regs) (start s))) (λ e. busy_ (irq_idle s e))

module _ (a : Setting) (nac : Mac) (keys : List (List ℕ)) (secret : List ℕ) where
  abbrev b : Setting
  b = second a nac keys secret

  -- the nodes are the same outside deployed modules
  pub outside_turn : (n : ℕ) (s t : State) → SameTurn a nac keys secret n s t → AlikeOutside a.mac nac (sites_on a.sites n) s t
  outside_turn n s t (inl h) = h.outside
  outside_turn n s t (inr h) =
      subst (λ (k : ℕ). AlikeOutside a.mac nac (sites_on a.sites k) s t) h.is
      (outside_mid a nac keys secret h.entry s t h.mid.ms h.mid.ns h.mid.first h.mid.other h.mid.abreast.nodes)

  -- private sections with these bytes represent states that differ in keys
  abbrev StatesOf : ℕ → PartTree → List ℕ → List ℕ → Type 0
  StatesOf m q u v =
      ((state_of q.tree (ends_of a.app m) v).cells ≡ (state_of q.tree (ends_of a.app m) u).cells)
      × SameEnds (Linked a nac keys secret) (state_of q.tree (ends_of a.app m) u).ends (state_of q.tree (ends_of a.app m) v).ends
      × SameShown a nac keys secret (length (ends_of a.app m)) u v

  pub states_kept : (m : ℕ) (q : PartTree) (x : Section) (m1 m2 n1 n2 : List ℕ) → private_bytes x.layout n1 ≡ private_bytes x.layout m1
      → private_bytes x.layout n2 ≡ private_bytes x.layout m2 → SameStates a nac keys secret (Linked a nac keys secret) m q x m1 m2 → SameStates a nac keys secret (Linked a nac keys secret) m q x n1 n2
  states_kept m q x m1 m2 n1 n2 e f h =
      subst (λ (bs : List ℕ). StatesOf m q bs (private_bytes x.layout n2)) (sym e) (subst (λ (bs : List ℕ). StatesOf m q (private_bytes x.layout m1) bs) (sym f) h)

  module _ (n : ℕ) (s t : State) (both : SameTurn a nac keys secret n s t) (ta : NodeTurns a n s) (tb : NodeTurns (second a nac keys secret) n t) where
    abbrev kind : Kind
    kind = sites_on a.sites n

    out : AlikeOutside a.mac nac (sites_on a.sites n) s t
    out = outside_turn n s t both

    -- the nodes after an act from outside, where no deployed module runs
    rest_after : SameNode a nac keys secret n s t → (x : Act) → (x ≡ act.Step → ⊥) → AlikeOutside a.mac nac (sites_on a.sites n) (acted a.mac x s).state (acted nac x t).state
        → SameNode a nac keys secret n (acted a.mac x s).state (acted nac x t).state
    rest_after h x ne o = record { outside = o; rests = rests; states = states }
      where
        rests : (y : Section) → Lives (acted a.mac x s).state.sections.live y → is_deployed (sites_on a.sites n) (acted a.mac x s).state.mem y ≡ true
            → (acted a.mac x s).state.cur ≡ y.id → ⊥
        rests = elim (act_outside a x s ne) [
          | inl same ↦ subst (λ (z : State). (y : Section) → Lives z.sections.live y → is_deployed (sites_on a.sites n) z.mem y ≡ true → z.cur ≡ y.id → ⊥) (sym same) h.rests
          | inr g ↦ elim g [
            | inl gone ↦ λ y l d c. gone y l
            | inr k ↦ λ y l d c. nonzero s y ta.node (stood_before a x s ne y l) (sym c ∙ k.2)
          ]
        ]

        states : (m : ℕ) (q : PartTree) (site : Site) (y : Section) → slice_get a.app.parts m ≡ Some q → slice_get a.sites m ≡ Some site
            → Lives (acted a.mac x s).state.sections.live y → is_at_site n (acted a.mac x s).state.mem y site ≡ true
            → SameStates a nac keys secret (Linked a nac keys secret) m q y (acted a.mac x s).state.mem (acted nac x t).state.mem
        states m q site y part sited l at =
            let g = mate_lives a.mac nac (is_deployed (sites_on a.sites n) (acted a.mac x s).state.mem) (acted a.mac x s).state.sections.live (acted nac x t).state.sections.live y o.sections l in
            let z : Section = record y { key = g.0 } in
            let old = stood_before a x s ne y l in
            let one = kept_by a n x s y ta.node.placed old (from_outside y x s ne) l in
            let two = kept_by (second a nac keys secret) n x t z tb.node.placed (stood_before (second a nac keys secret) x t ne z g.1) (from_outside z x t ne) g.1 in
            states_kept m q y s.mem t.mem (acted a.mac x s).state.mem (acted nac x t).state.mem one.private two.private
            (h.states m q site y part sited old (sym (at_site_same n s.mem (acted a.mac x s).state.mem y site one.public) ∙ at))

    after_act : (x : Act) → (x ≡ act.Step → ⊥) → (x ≡ act.Restart → ⊥) → AlikeOutside a.mac nac (sites_on a.sites n) (acted a.mac x s).state (acted nac x t).state
        → SameTurn a nac keys secret n (acted a.mac x s).state (acted nac x t).state
    after_act x ne nr o = elim both [
      | inl h ↦ inl (rest_after h x ne o)
      | inr h ↦
          let cur : t.cur ≡ s.cur = ap (λ (z : State). z.cur) out.rest in
          inr (subst (λ (z : State). Between a nac keys secret n z (acted nac x t).state) (sym (busy_stays a.mac x s ne nr h.busy))
          (subst (λ (z : State). Between a nac keys secret n s z) (sym (busy_stays nac x t ne nr (λ z. h.busy (sym cur ∙ z)))) h))
    ]

    abbrev pub NodesSame : {T : Type 0} → Shown T → Shown T → Type 0
    NodesSame x y = (x.shown ≡ y.shown) × SameTurn a nac keys secret n x.state y.state

    abbrev Alike : {T : Type 0} → Shown T → Shown T → Type 0
    Alike x y = (x.shown ≡ y.shown) × AlikeOutside a.mac nac (sites_on a.sites n) x.state y.state

    pub put_node : (at : ℕ) (bytes : List ℕ) → NodesSame (put s at bytes) (put t at bytes)
    put_node at bytes =
        let k : Alike (put s at bytes) (put t at bytes) = subst (λ (z : State). Alike (put s at bytes) (put z at bytes)) (sym out.rest)
        (put_same a.mac nac kind s t.mem t.key t.sections t.exchange ta.node.placed out.sections out.next out.mem at bytes) in
        (k.0, after_act (act.Put at bytes) (λ e. cc) (λ e. cc) k.1)

    pub set_node : (r v : ℕ) → NodesSame (set s r v) (set t r v)
    set_node r v =
        let k : Alike (set s r v) (set t r v) = subst (λ (z : State). Alike (set s r v) (set z r v)) (sym out.rest)
        (set_same a.mac nac kind s t.mem t.key t.sections t.exchange ta.node.placed out.sections out.next out.mem r v) in
        (k.0, after_act (act.Set r v) (λ e. cc) (λ e. cc) k.1)

    pub take_node : (at len : ℕ) → (take_from s at len).shown ≡ (take_from t at len).shown
    take_node at len =
        let k : Alike (take_from s at len) (take_from t at len) = subst (λ (z : State). Alike (take_from s at len) (take_from z at len)) (sym out.rest)
        (take_same a.mac nac kind s t.mem t.key t.sections t.exchange ta.node.placed out.sections out.next out.mem at len) in
        k.0

    pub sense_node : (d v : ℕ) → NodesSame (sense s d v) (sense t d v)
    sense_node d v =
        let k : Alike (sense s d v) (sense t d v) = subst (λ (z : State). Alike (sense s d v) (sense z d v)) (sym out.rest)
        (sense_same a.mac nac kind s t.mem t.key t.sections t.exchange ta.node.placed out.sections out.next out.mem d v) in
        (k.0, after_act (act.Sense d v) (λ e. cc) (λ e. cc) k.1)

    pub irq_node : (line : ℕ) → NodesSame (irq s line) (irq t line)
    irq_node line =
        let k : Alike (irq s line) (irq t line) = subst (λ (z : State). Alike (irq s line) (irq z line)) (sym out.rest)
        (irq_same a.mac nac kind s t.mem t.key t.sections t.exchange ta.node.placed out.sections out.next out.mem line) in
        (k.0, after_act (act.Interrupt line) (λ e. cc) (λ e. cc) k.1)

    pub reset_node : SameNode a nac keys secret n (reset s) (reset t)
    reset_node = record {
      outside = subst (λ (z : State). AlikeOutside a.mac nac (sites_on a.sites n) (reset s) (reset z)) (sym out.rest)
          (reset_same a.mac nac kind s t.mem t.key t.sections t.exchange ta.node.placed out.sections out.next out.mem);
      rests = λ x l d c. l;
      states = λ m q site x part sited l at. absurd l;
    }

  -- what is seen of code of no deployed module
  pub unowned_same : (n : ℕ) (s t : State) (seen : Seen) (es fs : List Made) → Placed s.sections → AlikeOutside a.mac nac (sites_on a.sites n) s t
      → let x = observed a n None s seen es in let y = observed b n None t seen fs in (y.items ≡ x.items) × (x.ledger ≡ es) × (y.ledger ≡ fs)
  unowned_same n s t seen es fs placed o = by seen.event
    where
      by : (e : Event) → (touch_items a.app n None seen.touch ++ (event_seen (second a nac keys secret) n None t fs e).items ≡ touch_items a.app n None seen.touch ++
          (event_seen a n None s es e).items)
          × ((event_seen a n None s es e).ledger ≡ es) × ((event_seen (second a nac keys secret) n None t fs e).ledger ≡ fs)
      by event.Quiet = (refl, refl, refl)
      by (event.Reset v) = (refl, refl, refl)
      by (event.Protected id) =
          (ap (λ (m : Option ℕ). touch_items a.app n None seen.touch ++ item.Protect n m ∷ []) (modules_same a.mac nac (sites_on a.sites n) s t placed o a.sites n id), refl, refl)
      by (event.Removed id) = (refl, refl, refl)
      by (event.Wrapped id) = (refl, refl, refl)
      by (event.Unwrapped id) = (refl, refl, refl)
      by (event.Left id) = (refl, refl, refl)

  -- Worlds.

  -- the same items, and worlds that have the same in common again
  abbrev pub SameDone : Acted → Acted → Type 0
  SameDone x y = (y.items ≡ x.items) × SameWorld a nac keys secret x.world y.world

  module _ (w v : World) (h : SameWorld a nac keys secret w v) where
    pub at_done : (n : ℕ) (f g : State → Acted) → ((s t : State) → slice_get w.nodes n ≡ Some s → slice_get v.nodes n ≡ Some t → SameTurn a nac keys secret n s t → SameDone (f s) (g t))
        → SameDone (at_node w f (slice_get w.nodes n)) (at_node v g (slice_get v.nodes n))
    at_done n f g next = by (slice_get w.nodes n) (slice_get v.nodes n) refl refl (h.nodes n)
      where
        by : (o p : Option State) → slice_get w.nodes n ≡ o → slice_get v.nodes n ≡ p → SameAt a nac keys secret n o p → SameDone (at_node w f o) (at_node v g p)
        by None None e d k = (refl, h)
        by None (Some t) e d k = absurd k
        by (Some s) None e d k = absurd k
        by (Some s) (Some t) e d k = next s t e d k

    pub acts_done : (n : ℕ) (s t : State) (items : List Item) (x y : Shown (Result (Unit {0}) Refused)) → slice_get w.nodes n ≡ Some s → slice_get v.nodes n ≡ Some t
        → (x.shown ≡ y.shown) × SameTurn a nac keys secret n x.state y.state → SameDone (done_on w n items x) (done_on v n items y)
    acts_done n s t items x y here there k = (
      ap (or_refused n items) (sym k.0),
      with_same a nac keys secret w v n s t x.state y.state w.ledger v.ledger w.steps v.steps h here there k.1 h.ledger,
    )

    module _ (ta : (n : ℕ) (s : State) → slice_get w.nodes n ≡ Some s → NodeTurns a n s) (tb : (n : ℕ) (t : State) → slice_get v.nodes n ≡ Some t → NodeTurns (second a nac keys secret) n t) where
      pub put_done : (n at : ℕ) (bytes : List ℕ)
          → SameDone (at_node w (λ s. done_on w n [] (put s at bytes)) (slice_get w.nodes n)) (at_node v (λ s. done_on v n [] (put s at bytes)) (slice_get v.nodes n))
      put_done n at bytes =
          at_done n (λ s. done_on w n [] (put s at bytes)) (λ s. done_on v n [] (put s at bytes)) (λ s t here there k.
          acts_done n s t [] (put s at bytes) (put t at bytes) here there (put_node n s t k (ta n s here) (tb n t there) at bytes))

      pub set_done : (n r x : ℕ) → SameDone (at_node w (λ s. done_on w n [] (set s r x)) (slice_get w.nodes n)) (at_node v (λ s. done_on v n [] (set s r x)) (slice_get v.nodes n))
      set_done n r x =
          at_done n (λ s. done_on w n [] (set s r x)) (λ s. done_on v n [] (set s r x)) (λ s t here there k.
          acts_done n s t [] (set s r x) (set t r x) here there (set_node n s t k (ta n s here) (tb n t there) r x))

      pub take_done : (n at len : ℕ) → SameDone (at_node w (λ s. after_take w n (take_from s at len).shown) (slice_get w.nodes n))
          (at_node v (λ s. after_take v n (take_from s at len).shown) (slice_get v.nodes n))
      take_done n at len =
          at_done n (λ s. after_take w n (take_from s at len).shown) (λ s. after_take v n (take_from s at len).shown) (λ s t here there k.
          subst (λ (r : Result (List ℕ) Refused). SameDone (after_take w n (take_from s at len).shown) (after_take v n r)) (take_node n s t k (ta n s here) (tb n t there) at len)
          (by (take_from s at len).shown))
        where
          by : (r : Result (List ℕ) Refused) → SameDone (after_take w n r) (after_take v n r)
          by (Ok bytes) = packet_same a nac keys secret w v bytes h
          by (Err why) = (refl, h)

      pub give_done : (k n at : ℕ) → SameDone (give w n at (slice_get w.packets k)) (give v n at (slice_get v.packets k))
      give_done k n at = subst (λ (p : List (List ℕ)). SameDone (give w n at (slice_get w.packets k)) (give v n at (slice_get p k))) (sym h.packets) (by (slice_get w.packets k))
        where
          by : (o : Option (List ℕ)) → SameDone (give w n at o) (give v n at o)
          by None = (refl, h)
          by (Some bytes) = put_done n at bytes

      pub sense_done : (d x : ℕ) (o : Option AppDevice) → SameDone (sense_at a w d x o) (sense_at (second a nac keys secret) v d x o)
      sense_done d x None = (refl, h)
      sense_done d x (Some y) =
          let at = place_at a y.node d in
          at_done y.node (λ s. done_on w y.node (item.Sense d x ∷ []) (sense s at x)) (λ s. done_on v y.node (item.Sense d x ∷ []) (sense s at x)) (λ s t here there k.
          acts_done y.node s t (item.Sense d x ∷ []) (sense s at x) (sense t at x) here there (sense_node y.node s t k (ta y.node s here) (tb y.node t there) at x))

      pub irq_done : (n line : ℕ) → SameDone (at_node w (λ s. after_interrupt a w n (irq s line).state (irq s line).shown) (slice_get w.nodes n))
          (at_node v (λ s. after_interrupt (second a nac keys secret) v n (irq s line).state (irq s line).shown) (slice_get v.nodes n))
      irq_done n line =
          at_done n (λ s. after_interrupt a w n (irq s line).state (irq s line).shown) (λ s. after_interrupt (second a nac keys secret) v n (irq s line).state (irq s line).shown) (λ s t here there k.
          let g = irq_node n s t k (ta n s here) (tb n t there) line in
          subst (λ (r : Result Seen Refused). SameDone (after_interrupt a w n (irq s line).state (irq s line).shown) (after_interrupt (second a nac keys secret) v n (irq t line).state r)) g.0
          (by s t here there g.1 (acted_is_node a.mac (act.Interrupt line) s tt (ta n s here).node).placed (irq s line).shown))
        where
          by : (s t : State) → slice_get w.nodes n ≡ Some s → slice_get v.nodes n ≡ Some t → SameTurn a nac keys secret n (irq s line).state (irq t line).state
              → Placed (irq s line).state.sections → (r : Result Seen Refused)
              → SameDone (after_interrupt a w n (irq s line).state r) (after_interrupt (second a nac keys secret) v n (irq t line).state r)
          by s t here there g placed (Err why) = (refl, h)
          by s t here there g placed (Ok seen) =
              let k = unowned_same n (irq s line).state (irq t line).state seen w.ledger v.ledger placed (outside_turn n (irq s line).state (irq t line).state g) in (
                k.0,
                with_same a nac keys secret w v n s t (irq s line).state (irq t line).state (observed a n None (irq s line).state seen w.ledger).ledger
                    (observed (second a nac keys secret) n None (irq t line).state seen v.ledger).ledger w.steps v.steps h here there g
                    (subst (λ (l : List Made). SameLedger a nac keys secret l (observed (second a nac keys secret) n None (irq t line).state seen v.ledger).ledger) (sym k.1)
                    (subst (λ (l : List Made). SameLedger a nac keys secret w.ledger l) (sym k.2) h.ledger)),
              )

      pub reset_done : (n : ℕ) (why : Item) → SameDone (at_node w (λ s. only (with_node w n (reset s) w.ledger w.steps) (why ∷ [])) (slice_get w.nodes n))
          (at_node v (λ s. only (with_node v n (reset s) v.ledger v.steps) (why ∷ [])) (slice_get v.nodes n))
      reset_done n why =
          at_done n (λ s. only (with_node w n (reset s) w.ledger w.steps) (why ∷ [])) (λ s. only (with_node v n (reset s) v.ledger v.steps) (why ∷ [])) (λ s t here there k. (
            refl,
            with_same a nac keys secret w v n s t (reset s) (reset t) w.ledger v.ledger w.steps v.steps h here there
                (inl (reset_node n s t k (ta n s here) (tb n t there))) h.ledger,
          ))
