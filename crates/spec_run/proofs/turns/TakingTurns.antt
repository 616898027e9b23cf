-- In each act of a tied world each item is in turn.
use Rattle.std.proofs.Common.{◌≡◌, ◌≢◌, ℕ, ◌+◌, ◌*◌, ◌<◌, ◌≤◌, ◌⊎◌, inl, inr, ◌==◌, ◌&&◌, Bool, true, false, if◌then◌else◌, List, [], ◌∷◌, ◌++◌, length, Option, Some, None, Result, Ok, Err, refl, sym, ◌∙◌, ap, subst, arith}
use Rattle.std.specs.Prelude.{slice_get, slice_set, IfSome}
use Rattle.std.proofs.lemmas.Bool.{true≢false, eqb-true, eq-eqb, ne_eqb, cases_eq, false≢true}
use Rattle.std.proofs.lemmas.Option.{none-some}
use Rattle.lemmas.proofs.Lists.{get_some}
use Rattle.sx_trace.specs.declared.items.Item.{Item}
use Rattle.sx_trace.specs.declared.items.Item.TheVariants as item
use Rattle.sx_lang.specs.declared.sides.Side.TheVariants.{To}
use Rattle.sx_ledger.specs.declared.entry.Maker.TheVariants as maker
use Rattle.sx_rules.specs.declared.section.Section.{Section}
use Rattle.sx_bus.specs.declared.devices.Window.{Window}
use Rattle.sx_bus.specs.Devices.{cleared}
use Rattle.sx_mean.specs.declared.apps.AppDevice.{AppDevice}
use Rattle.sx_mean.specs.declared.events.Act.{Act}
use Rattle.sx_mean.specs.declared.events.Act.TheVariants.{Send, Emit}
use Rattle.sx_mean.specs.Application.{AppTree, PartTree, is_sensor}
use Rattle.spec_machine.specs.declared.kinds.Touch.{Touch}
use Rattle.spec_machine.specs.declared.kinds.Touch.TheVariants as touch
use Rattle.spec_machine.specs.declared.kinds.Event.{Event}
use Rattle.spec_machine.specs.declared.kinds.Event.TheVariants as event
use Rattle.spec_machine.specs.declared.kinds.Seen.{Seen}
use Rattle.spec_machine.specs.State.{State}
use Rattle.spec_machine.specs.Step.{own_of}
use Rattle.spec_machine.specs.Touches.{Replays}
use Rattle.spec_machine.proofs.Devices.{cleared_shapes}
use Rattle.spec_invocation.specs.Marks.{Mark, Wrapped, Unwrapped, Sampled, Actuated}
use Rattle.spec_invocation.specs.Progress.{Invoked}
use Rattle.sx_model.specs.State.{FIELDS}
use Rattle.sx_model.specs.order.State.{Model, Standing, Present}
use Rattle.sx_model.specs.Step.{kind_is}
use Rattle.sx_model.specs.order.Step.{step as source_step, state_if, with_device, is_undriven}
use Rattle.sx_model.specs.Legal.{is_forged}
use Rattle.sx_model.specs.Consequences.{is_part_at, is_device_at}
use Rattle.sx_wire.specs.Headers.{is_ask, is_set_key_header, is_event_header, challenge_in, link_in, epoch_in, last_in, value_in}
use Rattle.spec_run.specs.Setting.{Site, Setting, module_of, device_number, windows_at}
use Rattle.spec_run.specs.Ledger.{Made, made_entry, NO_TARGET, is_made}
use Rattle.spec_run.specs.State.{World}
use Rattle.spec_run.specs.Observation.{observed, event_seen, touch_items, has_wrapped, has_unwrapped, unless_made, with_items, has_end, side_in, sender_of, cause_of, is_driver, read_item, write_item}
use Rattle.spec_run.specs.Law.{IsSoundSetting}
use Rattle.spec_run.proofs.tie.Lists.{get_other, get_within, some_inj}
use Rattle.spec_run.proofs.tie.Tied.{NodeTied, IsModule, ModuleTied, Absent, Rests, Runs, Tied, Owes, Yet, Now, Begun, Opens, Vouches, Takes, Samples, Known, IsSane, Settles, shapes}
use Rattle.spec_run.proofs.tie.Moves.{same_module}
use Rattle.spec_run.proofs.steps.Judged.{mark_seen, Next, Readings, mark_fares}
use Rattle.spec_run.proofs.steps.Stretch.{marks_seen}
use Rattle.spec_run.proofs.steps.Nodes.{device_here}
use Rattle.spec_run.proofs.steps.Steps.{nonzero}
use Rattle.spec_run.proofs.steps.Foreign.{strangers}
use Rattle.sx_model.specs.order.Turns.{is_at_node, goes_on}
use Rattle.spec_run.proofs.acts.Walks.{Walks, walks_then}
use Rattle.spec_run.proofs.ActsWalk.{Easy, unless_so, if_some_so}
use Rattle.spec_run.proofs.turns.Turns.{Pends, InTurn}

abbrev pub Turn : Setting → Model → Item → Type 0
Turn set s i = InTurn set.app s i

pub easy : (set : Setting) → Easy Turn set
easy set = record {
  reset = λ n c s m q e h at. absurd (false≢true at);
  ask = λ m a s k q e h at. absurd (false≢true at);
  attested = λ m b s k q e h at. absurd (false≢true at);
  denied = λ m s k q e h at. absurd (false≢true at);
  packet = λ k n s m q e h at. absurd (false≢true at);
  forged = λ m s k q e h at. absurd (false≢true at);
  busy = λ n s m q e h at. absurd (false≢true at);
  skip = λ n s m q e h at. absurd (false≢true at);
  budget = λ n s m q e h at. absurd (false≢true at);
}

-- no event is pending at the node
abbrev pub Free : AppTree → List Standing → ℕ → Type 0
Free app xs n = (m : ℕ) (q : PartTree) → slice_get app.parts m ≡ Some q → q.node ≡ n → Pends xs m → ⊥

-- none but of this module
abbrev pub Alone : AppTree → List Standing → ℕ → ℕ → Type 0
Alone app xs n k = (m : ℕ) (q : PartTree) → slice_get app.parts m ≡ Some q → q.node ≡ n → m ≢ k → Pends xs m → ⊥

-- it happens at this node, if at any
abbrev pub OnlyAt : AppTree → ℕ → Item → Type 0
OnlyAt app n i = (k : ℕ) → is_at_node app k i ≡ true → k ≡ n

pub free_turn : (app : AppTree) (s : Model) (n : ℕ) (i : Item) → Free app s.modules n → OnlyAt app n i → InTurn app s i
free_turn app s n i free only m q e h at = absurd (free m q e (only q.node at) h)

pub own_turn : (app : AppTree) (s : Model) (n k : ℕ) (i : Item) → Alone app s.modules n k → OnlyAt app n i → goes_on k i ≡ true → InTurn app s i
own_turn app s n k i alone only on m q e h at = elim (cases_eq m k) [
  | inl same ↦ subst (λ j. goes_on j i ≡ true) (sym same) on
  | inr ne ↦ absurd (alone m q e (only q.node at) ne h)
]

pub walk_one : (app : AppTree) (s : Model) (i : Item) → InTurn app s i → Walks (InTurn app) app s (i ∷ [])
walk_one app s i h = unless_so (is_forged i) (InTurn app s i × IfSome (source_step app s i) (λ t. Unit {0})) (h, if_some_so (source_step app s i) (λ t. Unit {0}) (λ t. tt))

pub device_only : (app : AppTree) (n d : ℕ) (x : AppDevice) → slice_get app.devices d ≡ Some x → x.node ≡ n → (k : ℕ) → is_device_at k (slice_get app.devices d) ≡ true → k ≡ n
device_only app n d x e same k h =
    let g : (x.node == k) ≡ true = subst (λ o. is_device_at k o ≡ true) e h in
    sym (eqb-true x.node k g) ∙ same

pub part_only : (app : AppTree) (n m : ℕ) (q : PartTree) → slice_get app.parts m ≡ Some q → q.node ≡ n → (k : ℕ) → is_part_at k (slice_get app.parts m) ≡ true → k ≡ n
part_only app n m q e same k h =
    let g : (q.node == k) ≡ true = subst (λ o. is_part_at k o ≡ true) e h in
    sym (eqb-true q.node k g) ∙ same

-- Code of no deployed module.

looked_up : {A B : Type 0} → (o : Option A) (f : A → Option B) (Q : B → Type 0) → ((x : A) → IfSome (f x) Q) → IfSome (Rattle.sx_model.specs.Step.◌>>?◌ o f) Q
looked_up None f Q h = tt
looked_up (Some x) f Q h = h x

tested : (b : Bool) (s : Model) (Q : Model → Type 0) → Q s → IfSome (state_if b s) Q
tested true s Q h = h
tested false s Q h = tt

-- the modules stay through a drain and a raw write
then_drain : (app : AppTree) (s : Model) (d : ℕ) (Q : Model → Type 0) → ((t : Model) → t.modules ≡ s.modules → Q t) → IfSome (source_step app s (item.Drain d)) Q
then_drain app s d Q h =
    looked_up (slice_get s.devices d) (λ r. state_if (Rattle.std.proofs.Common.◌&&◌ r.fresh (Rattle.std.proofs.Common.◌&&◌ (kind_is is_sensor (slice_get app.devices d)) (is_undriven app.parts s.modules d))) (with_device s d (record r { fresh = false })))
    Q (λ r. tested (Rattle.std.proofs.Common.◌&&◌ r.fresh (Rattle.std.proofs.Common.◌&&◌ (kind_is is_sensor (slice_get app.devices d)) (is_undriven app.parts s.modules d))) (with_device s d (record r { fresh = false })) Q (h (with_device s d (record r { fresh = false })) refl))

then_raw : (app : AppTree) (s : Model) (d v : ℕ) (Q : Model → Type 0) → ((t : Model) → t.modules ≡ s.modules → Q t) → IfSome (source_step app s (item.Raw d v)) Q
then_raw app s d v Q h = tested (Rattle.std.proofs.Common.◌&&◌ (kind_is (λ k. Rattle.std.proofs.Common.not (is_sensor k)) (slice_get app.devices d)) (is_undriven app.parts s.modules d)) s Q (h s refl)

module _ (set : Setting) (sound : IsSoundSetting set) (n : ℕ) where
  abbrev W : Model → List Item → Type 0
  W s items = Walks (InTurn set.app) set.app s items

  -- its touches are drains and raw writes at its node
  touches_turn : (live : List Section) (own : ℕ) (ts : List Touch) (a b : List Window) (s : Model) → shapes a ≡ windows_at n set.app.devices set.places
      → Replays live own ts a b → Free set.app s.modules n → (more : List Item) → ((t : Model) → Free set.app t.modules n → W t more)
      → W s (touch_items set.app n None ts ++ more)
  touches_turn live own [] a b s sh r free more f = f s free
  touches_turn live own (touch.Quiet ∷ ts) a b s sh r free more f = touches_turn live own ts a b s sh r free more f
  touches_turn live own (touch.DeviceRead k v ∷ ts) a b s sh r free more f =
      let d = device_here set n k a r.0 sound sh r.1 in (
        free_turn set.app s n (item.Drain (device_number set.app n k)) free (device_only set.app n (device_number set.app n k) d.0 d.1 d.2),
        then_drain set.app s (device_number set.app n k) (λ t. W t (touch_items set.app n None ts ++ more))
            (λ t same. touches_turn live own ts (cleared a k) b t (cleared_shapes a k ∙ sh) r.6 (subst (λ xs. Free set.app xs n) (sym same) free) more f),
      )
  touches_turn live own (touch.DeviceWrite k v ∷ ts) a b s sh r free more f =
      let d = device_here set n k a r.0 sound sh r.1 in (
        free_turn set.app s n (item.Raw (device_number set.app n k) v) free (device_only set.app n (device_number set.app n k) d.0 d.1 d.2),
        then_raw set.app s (device_number set.app n k) v (λ t. W t (touch_items set.app n None ts ++ more))
            (λ t same. touches_turn live own ts a b t sh r.4 (subst (λ xs. Free set.app xs n) (sym same) free) more f),
      )

  event_turn : (s : State) (ledger : List Made) (e : Event) (mo : Model) → Free set.app mo.modules n → W mo (event_seen set n None s ledger e).items
  event_turn s ledger event.Quiet mo free = tt
  event_turn s ledger (event.Reset v) mo free = walk_one set.app mo (item.Reset n (cause_of v)) (λ m q e h at. absurd (false≢true at))
  event_turn s ledger (event.Protected id) mo free =
      walk_one set.app mo (item.Protect n (module_of set.sites n s id)) (free_turn set.app mo n (item.Protect n (module_of set.sites n s id)) free (λ k h. sym (eqb-true n k h)))
  event_turn s ledger (event.Removed id) mo free = tt
  event_turn s ledger (event.Wrapped id) mo free = tt
  event_turn s ledger (event.Unwrapped id) mo free = tt
  event_turn s ledger (event.Left id) mo free = tt

  pub foreign_turn : (live : List Section) (own : ℕ) (s : State) (seen : Seen) (ledger : List Made) (a b : List Window) (mo : Model) → shapes a ≡ windows_at n set.app.devices set.places
      → Replays live own seen.touch a b → Free set.app mo.modules n → W mo (observed set n None s seen ledger).items
  foreign_turn live own s seen ledger a b mo sh r free =
      touches_turn live own seen.touch a b mo sh r free (event_seen set n None s ledger seen.event).items (λ t f. event_turn s ledger seen.event t f)

  -- a node where no deployed module runs
  module _ (w : World) (mo : Model) (s : State) (t : Tied set w mo) (here : slice_get w.nodes n ≡ Some s) where
    boot_n : (boot : ℕ) × (slice_get mo.boots n ≡ Some boot)
    boot_n = get_some mo.boots n (omega (arith, get_within w.nodes n s here, t.size.nodes, t.size.boots))

    node_n : NodeTied set n s boot_n.0
    node_n = t.nodes n s boot_n.0 here boot_n.1

    -- what is tied to a module at which an event is pending
    pub pends_runs : (m : ℕ) (q : PartTree) → slice_get set.app.parts m ≡ Some q → q.node ≡ n → Pends mo.modules m
        → (site : Site) × (sec : Section) × (slice_get set.sites m ≡ Some site) × IsModule n site s sec × (s.cur ≡ sec.id)
    pends_runs m q e at h =
        let site : (site : Site) × (slice_get set.sites m ≡ Some site) = get_some set.sites m (omega (arith, get_within set.app.parts m q e, sound.sites)) in
        by site.0 site.1 (subst (λ j. ModuleTied set j m q site.0 s h.x mo.sent) at (t.modules m q site.0 s h.x e site.1 (subst (λ j. slice_get w.nodes j ≡ Some s) (sym at) here) h.there))
      where
        by : (site : Site) → slice_get set.sites m ≡ Some site → ModuleTied set n m q site s h.x mo.sent
            → (site : Site) × (sec : Section) × (slice_get set.sites m ≡ Some site) × IsModule n site s sec × (s.cur ≡ sec.id)
        by site sk (Absent none f) = absurd (none-some h.p (sym none ∙ h.present))
        by site sk (Rests sec pr p i c pend g) =
            absurd (none-some h.owed (sym pend ∙ ap (λ (z : Present). z.pending) (some_inj pr h.p (sym p ∙ h.present)) ∙ h.pending))
        by site sk (Runs sec pr p i c u) = (site, sec, sk, i, c)

    pub free_idle : s.cur ≡ 0 → Free set.app mo.modules n
    free_idle idle m q e at h = let r = pends_runs m q e at h in nonzero s r.1 node_n.node r.3.lives (sym r.4 ∙ idle)

    pub free_stranger : module_of set.sites n s (own_of s) ≡ None → Free set.app mo.modules n
    free_stranger none m q e at h =
        let r = pends_runs m q e at h in (strangers set n s boot_n.0 node_n none m r.0 r.1 r.2 r.3.lives r.3.here).1 r.4

-- A step of a deployed module's code.

module _ (set : Setting) (m : ℕ) (q : PartTree) (boot : ℕ) (part : slice_get set.app.parts m ≡ Some q) where
  abbrev app : AppTree
  app = set.app

  abbrev V : Model → List Item → Type 0
  V s items = Walks (InTurn app) app s items

  driver_here : (d : ℕ) → q.device ≡ Some d → is_driver app (Some m) d ≡ true
  driver_here d e = rw (part, e) (eq-eqb d d refl)

  own_only : (k : ℕ) → is_part_at k (slice_get app.parts m) ≡ true → k ≡ q.node
  own_only = part_only app q.node m q part refl

  -- it is idle
  idle_free : (mo : Model) (x : Standing) (pr : Present) → slice_get mo.modules m ≡ Some x → x.present ≡ Some pr → pr.pending ≡ None
      → Alone app mo.modules q.node m → Free app mo.modules q.node
  idle_free mo x pr there present pend alone k p e at h = elim (cases_eq k m) [
    | inl same ↦
        let xs : x ≡ h.x = some_inj x h.x (sym there ∙ subst (λ j. slice_get mo.modules j ≡ Some h.x) same h.there) in
        let ps : pr ≡ h.p = some_inj pr h.p (sym present ∙ ap (λ (z : Standing). z.present) xs ∙ h.present) in
        none-some h.owed (sym pend ∙ ap (λ (z : Present). z.pending) ps ∙ h.pending)
    | inr ne ↦ alone k p e at ne h
  ]

  made_turn : (mo : Model) (made : Bool) (i : Item) → InTurn app mo i → V mo (unless_made (Some m) made i)
  made_turn mo true i h = walk_one app mo i h
  made_turn mo false i h = tt

  if_turn : (mo : Model) (b : Bool) (xs ys : List Item) → V mo xs → V mo ys → V mo (if b then xs else ys)
  if_turn mo true xs ys f g = f
  if_turn mo false xs ys f g = g

  unwrapped_turn : (mo : Model) (header body : List ℕ) (ledger : List Made) → Free app mo.modules q.node → V mo (has_unwrapped app m boot header body ledger)
  unwrapped_turn mo header body ledger free =
      let opened = item.Open m (link_in header) (side_in header) (epoch_in header) in
      let taken = item.Take m (link_in header) (65536 * epoch_in header + last_in header) (value_in body) in
      let key_made = is_made ledger (made_entry maker.Deployer m boot header body) in
      let word_made = is_made ledger (made_entry (maker.Module (sender_of app (link_in header))) NO_TARGET 0 header body) in
      if_turn mo (is_set_key_header header && has_end app m (link_in header) (side_in header)) (unless_made (Some m) key_made opened)
      (if is_event_header header && has_end app m (link_in header) To then unless_made (Some m) word_made taken else [])
      (made_turn mo key_made opened (free_turn app mo q.node opened free own_only))
      (if_turn mo (is_event_header header && has_end app m (link_in header) To) (unless_made (Some m) word_made taken) []
      (made_turn mo word_made taken (free_turn app mo q.node taken free own_only)) tt)

  wrapped_turn : (mo : Model) (header body : List ℕ) (own : Bool) (ledger : List Made) → Free app mo.modules q.node → V mo (has_wrapped m boot header body own ledger).items
  wrapped_turn mo header body own ledger free = by (is_ask header && ((length body == 0) && own)) (is_event_header header && (length body == 2))
    where
      by : (a b : Bool)
          → V mo (if a then with_items (ledger ++ made_entry (maker.Module m) NO_TARGET boot header body ∷ []) (item.Vouch m (challenge_in header) ∷ [])
          else if b then with_items (ledger ++ made_entry (maker.Module m) NO_TARGET 0 header body ∷ []) [] else with_items ledger []).items
      by true b = walk_one app mo (item.Vouch m (challenge_in header)) (free_turn app mo q.node (item.Vouch m (challenge_in header)) free own_only)
      by false true = tt
      by false false = tt

  -- an event's wrap shows nothing
  event_wrapped : (mo : Model) (header body : List ℕ) (own : Bool) (ledger : List Made) → length body ≡ 2 → V mo (has_wrapped m boot header body own ledger).items
  event_wrapped mo header body own ledger two = by (is_ask header) (is_event_header header) (length body == 0) (length body == 2) (ne_eqb (length body) 0 (λ z. absurd (omega (arith, two, z))))
    where
      by : (a c d b : Bool) → d ≡ false
          → V mo (if a && (d && own) then with_items (ledger ++ made_entry (maker.Module m) NO_TARGET boot header body ∷ []) (item.Vouch m (challenge_in header) ∷ [])
          else if c && b then with_items (ledger ++ made_entry (maker.Module m) NO_TARGET 0 header body ∷ []) [] else with_items ledger []).items
      by true true false true e = tt
      by true true false false e = tt
      by true false false b e = tt
      by false true false true e = tt
      by false true false false e = tt
      by false false false b e = tt
      by a c true b e = absurd (true≢false e)

  mark_turn : (mo : Model) (x : Standing) (pr : Present) (ledger : List Made) (devices : List Window) (mark : Mark) (rest : List Mark) (result : Invoked)
      → slice_get mo.modules m ≡ Some x → x.present ≡ Some pr → Alone app mo.modules q.node m
      → Owes app q.node m q devices pr mo.sent (mark ∷ rest) result → V mo (mark_seen app q.node m boot mark ledger).items
  mark_turn mo x pr ledger devices mark rest result there present alone (Yet st pend same h) = begun mark rest result h
    where
      free : Free app mo.modules q.node
      free = idle_free mo x pr there present pend alone

      begun : (mark : Mark) (rest : List Mark) (result : Invoked) → Begun app q.node m q devices st (mark ∷ rest) result → V mo (mark_seen app q.node m boot mark ledger).items
      begun mark rest result (Opens k e header key isk found lt below pieces pst) = unwrapped_turn mo header key ledger free
      begun mark rest result (Vouches header ask h) = wrapped_turn mo header [] true ledger free
      begun mark rest result (Takes k e header body ev found isopen epo le lt h) = unwrapped_turn mo header body ledger free
      begun mark rest result (Samples k w own fresh h) =
          let seen : read_item app (Some m) (device_number app q.node k) w.value ≡ item.Read m w.value = rw (driver_here (device_number app q.node k) own.device) refl in
          subst (λ i. V mo (i ∷ [])) (sym seen) (walk_one app mo (item.Read m w.value) (free_turn app mo q.node (item.Read m w.value) free own_only))
  mark_turn mo x pr ledger devices mark rest result there present alone (Now acts pieces pend own h) = settled mark acts h
    where
      settled : (mark : Mark) (acts : List Act) → Settles app q.node m q.device pr.cells pr.ends mo.sent pieces result (mark ∷ rest) acts → V mo (mark_seen app q.node m boot mark ledger).items
      settled (Wrapped header body own) acts h = event_wrapped mo header body own ledger h.1
      settled (Unwrapped header body own) acts h = absurd h
      settled (Sampled k v) acts h = absurd h
      settled (Actuated k v) [] h = absurd h
      settled (Actuated k v) (Send output w ∷ acts) h = absurd h
      settled (Actuated k v) (Emit e ∷ acts) h =
          let seen : write_item app (Some m) (device_number app q.node k) v ≡ item.Out m v = rw (driver_here (device_number app q.node k) h.0) refl in
          subst (λ i. V mo (i ∷ [])) (sym seen) (walk_one app mo (item.Out m v) (own_turn app mo q.node m (item.Out m v) alone own_only (eq-eqb m m refl)))

  pub alone_set : (xs : List Standing) (y : Standing) → Alone app xs q.node m → Alone app (slice_set xs m y) q.node m
  alone_set xs y alone k p e at ne h =
      alone k p e at ne (record { x = h.x; p = h.p; owed = h.owed; there = sym (get_other xs m k y ne) ∙ h.there; present = h.present; pending = h.pending })

  pub marks_turn : (result : Invoked) (rest : List Mark) (ms : List Mark)
      (x : Standing) (pr : Present) (mo : Model) (ledger : List Made) (there : slice_get mo.modules m ≡ Some x) (boots : slice_get mo.boots q.node ≡ Some boot) (present : x.present ≡ Some pr)
      (sane : IsSane app mo) (known : (e : Made) → is_made ledger e ≡ true → Known app mo e.maker e) (sizes : length mo.sent ≡ FIELDS)
      (devices : List Window)
      → Readings app m q x pr boot mo ledger part there boots present sane known devices → Owes app q.node m q devices pr mo.sent (ms ++ rest) result
      → Alone app mo.modules q.node m
      → V mo (marks_seen app q.node m boot ms ledger).items
  marks_turn result rest [] x pr mo ledger there boots present sane known sizes devices readings owes alone = tt
  marks_turn result rest (mark ∷ ms) x pr mo ledger there boots present sane known sizes devices readings owes alone =
      let o = mark_seen app q.node m boot mark ledger in
      walks_then (InTurn app) app mo o.items (marks_seen app q.node m boot ms o.ledger).items (Next app m q x mo mark o.ledger (ms ++ rest) result)
      (mark_fares app m q x pr boot mo ledger part there boots present sane known sizes devices readings mark (ms ++ rest) result owes)
      (mark_turn mo x pr ledger devices mark (ms ++ rest) result there present alone owes)
      (λ mo1 next. marks_turn result rest ms next.y next.pr mo1 o.ledger
      (same_module app q.node m mark x next.y mo mo1 there next.moved) (rw next.moved.boots boots) next.present next.sane next.known
      (next.moved.sent.size ∙ sizes) [] (λ k w e. absurd cc) (next.owes [])
      (subst (λ xs. Alone app xs q.node m) (sym next.moved.modules) (alone_set mo.modules next.y alone)))
