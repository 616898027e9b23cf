-- A step of other code whole: with what it does at devices, and the module that it may protect.
use Rattle.std.proofs.Common.{◌≡◌, ◌≢◌, ℕ, zero, suc, ◌+◌, ◌-◌, ◌⊎◌, inl, inr, ◌==◌, ◌&&◌}
use Rattle.std.proofs.Common.{Bool, true, false, cond, if◌then◌else◌, List, [], ◌∷◌, ◌++◌, length}
use Rattle.std.proofs.Common.{map, replicate, Option, Some, None, refl, sym, ◌∙◌, ap, subst, arith}
use Rattle.std.specs.Prelude.{slice_get, slice_set, is_some}
use Rattle.std.specs.List.{position_from}
use Rattle.std.proofs.lemmas.Bool.{true≢false, and_parts, cases_eq, cases_Bool, eq-eqb}
use Rattle.std.proofs.lemmas.Option.{none-some}
use Rattle.sx_lang.specs.declared.sides.Side.{Side}
use Rattle.sx_lang.specs.Sizes.{module_data_size}
use Rattle.sx_mean.specs.declared.events.End.{End}
use Rattle.sx_rules.specs.declared.section.Section.{Section}
use Rattle.sx_rules.specs.declared.section.Layout.{Layout}
use Rattle.sx_rules.specs.Access.{Sections, Lives, section_of}
use Rattle.sx_rules.specs.Admission.{apart, clear_of, parts_apart, refusal}
use Rattle.sx_rules.proofs.Placing.{placed_found}
use Rattle.sx_rules.proofs.Admits.{admits}
use Rattle.spec_machine.proofs.PlanGuard.{passes}
use Rattle.sx_ledger.specs.declared.entry.Maker.{Maker}
use Rattle.sx_ledger.specs.declared.entry.Maker.TheVariants as maker
use Rattle.sx_trace.specs.declared.items.Item.TheVariants as item
use Rattle.spec_machine.specs.declared.kinds.Event.{Event}
use Rattle.spec_machine.specs.declared.kinds.Event.TheVariants as event
use Rattle.spec_machine.specs.declared.kinds.Seen.{Seen}
use Rattle.spec_machine.specs.State.{State}
use Rattle.spec_machine.specs.Step.{Shown, step, own_of}
use Rattle.sx_model.specs.Step.{is_vouched}
use Rattle.sx_model.specs.order.Step.{first_present, step as source_step}
use Rattle.spec_invocation.specs.ModuleState.{initial_ends, state_of, link_of, epoch_of}
use Rattle.sx_image.specs.Watched.{violation_of}
use Rattle.sx_image.specs.Image.{private_bytes}
use Rattle.sx_mean.specs.Application.{PartTree}
use Rattle.sx_mean.specs.Ends.{ends_of}
use Rattle.sx_model.specs.State.{Reading}
use Rattle.sx_model.specs.order.State.{Present, Standing, Model}
use Rattle.spec_machine.proofs.Apart.{lives_without}
use Rattle.spec_machine.proofs.Devices.{position_is}
use Rattle.spec_run.specs.Setting.{Site, Setting, module_of, deployed, is_at_site}
use Rattle.sx_wire.specs.Headers.{challenge_in}
use Rattle.spec_run.specs.Ledger.{Made}
use Rattle.spec_run.specs.State.{World}
use Rattle.spec_run.specs.Observation.{Observed, observed, event_seen, touch_items}
use Rattle.spec_run.specs.Acts.{with_node}
use Rattle.spec_run.specs.Law.{IsSoundSetting, IsDeployedModule}
use Rattle.spec_run.proofs.tie.Lists.{get_other, get_within, length_set, some_inj}
use Rattle.spec_run.proofs.tie.Verdicts.{Going, judge_on, judge, Fares, fares_then, fares_map}
use Rattle.spec_run.proofs.tie.Tied.{SameEnds, SameState, Known, open_at, IsTimely, HasSent, IsSane, NodeTied, IsModule, ModuleTied, Absent, Rests, Runs, Tied}
use Rattle.spec_run.proofs.steps.Entry.{AtSite, at_site}
use Rattle.spec_run.proofs.steps.Nodes.{tied_node}
use Rattle.spec_run.proofs.steps.Machine.{MachineLaws, onward, Sectioned, Stay, Fewer, More, sections_after, FreshSections}
use Rattle.spec_run.proofs.steps.Bystanders.{onlooker, apart_self, cur_of}
use Rattle.spec_run.proofs.steps.Steps.{nonzero, bounds_of, ForeignSteps}
use Rattle.spec_run.proofs.steps.Foreign.{strangers, append_lives, touches_n, goes_n, unprotected, boot_n, node_n, touched}
use Rattle.lemmas.proofs.Lists.{get_same, get_some}
use Rattle.spec_machine.proofs.Meanings.{end_lives}
use Rattle.spec_machine.proofs.Stays.{lives_below}

position_none : {X : Type 0} → (test : X → Bool) (i : ℕ) (xs : List X) (k : ℕ) (x : X) → position_from test i xs ≡ None → slice_get xs k ≡ Some x → test x ≡ false
position_none test i [] k x n e = absurd cc
position_none test i (y ∷ xs) k x n e = elim (cases_Bool (test y)) [
  | inl h ↦ absurd (none-some i (sym (sym (ap (λ b. cond b (Some i) (position_from test (i + 1) xs)) h) ∙ n)))
  | inr h ↦ by_place k e (λ j g. position_none test (i + 1) xs j x (sym (ap (λ b. cond b (Some i) (position_from test (i + 1) xs)) h) ∙ n) g) h
]
  where
    by_place : (k : ℕ) → slice_get (y ∷ xs) k ≡ Some x → ((j : ℕ) → slice_get xs j ≡ Some x → test x ≡ false) → test y ≡ false → test x ≡ false
    by_place zero e f h = subst (λ z. test z ≡ false) (some_inj y x e) h
    by_place (suc j) e f h = f j e

-- a module that was just protected has its first cells, and no open end
first_ends : (es : List End) (sent : List (List ℕ)) → SameEnds es (initial_ends es) (map (λ e. record { epoch = None; next = 0 }) es) sent
first_ends [] sent = tt
first_ends (e ∷ es) sent = (record { epoch = refl; field = λ o. absurd (true≢false (sym o)); counts = λ o. absurd (true≢false (sym o)) }, first_ends es sent)

none_open : (c : ℕ) (side : Side) (es : List End) → open_at c side es (map (λ e. record { epoch = None; next = 0 }) es) ≡ None
none_open c side [] = refl
none_open c side (e ∷ es) = either_none ((e.link == c) && Rattle.sx_mean.specs.Ends.same_side e.side side) (none_open c side es)
  where
    either_none : (b : Bool) → open_at c side es (map (λ e. record { epoch = None; next = 0 }) es) ≡ None
        → (if b then None else open_at c side es (map (λ e. record { epoch = None; next = 0 }) es)) ≡ None
    either_none true h = refl
    either_none false h = h

-- an event of other code, but a protect, is no item
quiet_items : (set : Setting) (n : ℕ) (s : State) (ledger : List Made) (e : Event) → violation_of e ≡ None
    → ((id : ℕ) → e ≡ event.Protected id → ⊥) → event_seen set n None s ledger e ≡ record { items = []; ledger = ledger }
quiet_items set n s ledger event.Quiet q f = refl
quiet_items set n s ledger (event.Reset v) q f = absurd cc
quiet_items set n s ledger (event.Protected id) q f = absurd (f id refl)
quiet_items set n s ledger (event.Removed id) q f = refl
quiet_items set n s ledger (event.Wrapped id) q f = refl
quiet_items set n s ledger (event.Unwrapped id) q f = refl
quiet_items set n s ledger (event.Left id) q f = refl

pub append_none : {X : Type 0} → (xs : List X) → xs ++ [] ≡ xs
append_none [] = refl
append_none (x ∷ xs) = ap (λ r. x ∷ r) (append_none xs)

module _ (set : Setting) (w : World) (mo : Model) (n : ℕ) (s : State) (sound : IsSoundSetting set)
    (laws : MachineLaws set.mac) (fresh : FreshSections set.mac) (t : Tied set w mo) (here : slice_get w.nodes n ≡ Some s)
    (none : module_of set.sites n s (own_of s) ≡ None) (quiet : violation_of (step set.mac s).shown.event ≡ None) where
  abbrev r : Shown Seen
  r = step set.mac s

  abbrev reads : List Reading
  reads = touched set w mo n s sound laws t here none quiet

  abbrev mo1 : Model
  mo1 = record { boots = mo.boots; devices = reads; modules = mo.modules; epochs = mo.epochs; sent = mo.sent; asks = mo.asks }

  abbrev boot : ℕ
  boot = (boot_n set w mo n s sound laws t here none quiet).0

  node : NodeTied set n s boot
  node = node_n set w mo n s sound laws t here none quiet

  -- touches, and then nothing more
  no_more : ((m : ℕ) (site : Site) (sec : Section) → slice_get set.sites m ≡ Some site → Lives r.state.sections.live sec → Lives s.sections.live sec ⊎ (is_at_site n r.state.mem sec site ≡ false))
      → Fares (judge set.app mo (touch_items set.app n None r.shown.touch)) (Tied set (with_node w n r.state w.ledger (w.steps + 1)))
  no_more after =
      fares_map (judge set.app mo (touch_items set.app n None r.shown.touch)) (λ mo2. mo2 ≡ mo1) (Tied set (with_node w n r.state w.ledger (w.steps + 1)))
      (λ mo2 e. subst (λ z. Tied set (with_node w n r.state w.ledger (w.steps + 1)) z) (sym e) (unprotected set w mo n s sound laws t here none quiet after (w.steps + 1)))
      (touches_n set w mo n s sound laws t here none quiet)

  -- a deployed module is protected

  protected_step : (m : ℕ) (q : PartTree) (x : Standing) → slice_get set.app.parts m ≡ Some q → slice_get mo.modules m ≡ Some x → q.node ≡ n → x.present ≡ None
      → source_step set.app mo1 (item.Protect n (Some m)) ≡ Some (record {
        boots = mo.boots;
        devices = reads;
        modules = slice_set mo.modules m
            (record { present = Some (first_present q.tree (ends_of set.app m)); asked = x.asked; vouched = x.vouched; attested = x.attested });
        epochs = mo.epochs;
        sent = mo.sent;
        asks = mo.asks;
      })
  protected_step m q x pm xm qn np = rw (pm, xm, eq-eqb q.node n qn, np) refl

  module _ (m : ℕ) (q : PartTree) (site : Site) (x : Standing) (new : Section) (part : slice_get set.app.parts m ≡ Some q)
      (sited : slice_get set.sites m ≡ Some site) (there : slice_get mo.modules m ≡ Some x) (qn : q.node ≡ n)
      (absent : x.present ≡ None) (grown : r.state.sections.live ≡ s.sections.live ++ new ∷ [])
      (at : is_at_site n r.state.mem new site ≡ true) (zeros : private_bytes new.layout r.state.mem ≡ replicate
      (new.layout.priv_to - new.layout.priv_from) 0)
      (other_id : own_of s ≢ new.id) (some_id : new.id ≢ 0) where
    dep : IsDeployedModule set m q site
    dep = sound.deployed m q site part sited

    abbrev es : List End
    es = ends_of set.app m

    abbrev first : Present
    first = first_present q.tree es

    abbrev y : Standing
    y = record { present = Some first; asked = x.asked; vouched = x.vouched; attested = x.attested }

    abbrev mods : List Standing
    mods = slice_set mo.modules m y

    abbrev mo2 : Model
    mo2 = record { boots = mo.boots; devices = reads; modules = mods; epochs = mo.epochs; sent = mo.sent; asks = mo.asks }

    which : (k : ℕ) (z : Standing) → slice_get mods k ≡ Some z → ((k ≡ m) × (z ≡ y)) ⊎ ((k ≢ m) × (slice_get mo.modules k ≡ Some z))
    which k z e = elim (cases_eq k m) [
      | inl same ↦ inl (same, some_inj z y (sym e ∙ subst (λ j. slice_get mods j ≡ Some y) (sym same) (get_same mo.modules m y x there)))
      | inr ne ↦ inr (ne, sym (get_other mo.modules m k y ne) ∙ e)
    ]

    place : AtSite n r.state.mem new site
    place = at_site n r.state.mem new site at

    initial : SameState es (state_of q.tree es (private_bytes new.layout r.state.mem)) first.cells first.ends mo.sent
    initial =
        let size : new.layout.priv_to - new.layout.priv_from ≡ module_data_size q.tree (length es) =
        ap (λ (l : Layout). l.priv_to - l.priv_from) place.layout ∙ omega (arith, dep.data_size) in
        let bytes : private_bytes new.layout r.state.mem ≡ replicate (module_data_size q.tree (length es)) 0 = zeros ∙ ap (λ k. replicate k 0) size in
        subst (λ z. SameState es z first.cells first.ends mo.sent) (sym (ap (λ bs. state_of q.tree es bs) bytes ∙ dep.realizes.zeros)) (record { same = refl; each = first_ends es mo.sent })

    rests_new : ModuleTied set n m q site r.state y mo.sent
    rests_new = Rests new first refl (record { lives = subst (λ l. Lives l new) (sym grown) (end_lives s.sections.live new); here = at })
        (λ e. elim (cur_of s r.state (onward set.mac s quiet)) [ inl z ↦ absurd (some_id (sym e ∙ z)) | inr o ↦ absurd (other_id (sym o ∙ e)) ]) refl initial

    not_here : (k : ℕ) (site2 : Site) → k ≢ m → slice_get set.sites k ≡ Some site2 → is_at_site n r.state.mem new site2 ≡ false
    not_here k site2 ne sk = elim (cases_Bool (is_at_site n r.state.mem new site2)) [
      | inl h ↦
          let b = at_site n r.state.mem new site2 h in
          elim (sound.apart m k site site2 sited sk (place.node ∙ sym b.node)) [
            | inl e ↦ absurd (ne (sym e))
            | inr p ↦ absurd (apart_self site.layout.pub_from site.layout.pub_to (bounds_of site.layout dep.bounds)
                (subst (λ (z : Layout). apart site.layout.pub_from site.layout.pub_to z.pub_from z.pub_to ≡ true) (sym (sym place.layout ∙ b.layout)) p.0))
          ]
      | inr h ↦ h
    ]

    known_new : (k : Maker) (e : Made) → Known set.app mo k e → Known set.app mo2 k e
    known_new maker.Deployer e h = elim (cases_eq e.target m) [
      | inl same ↦
          let hx : h.x ≡ x = some_inj h.x x (sym h.there ∙ subst (λ j. slice_get mo.modules j ≡ Some x) (sym same) there) in
          record {
            x = y;
            there = subst (λ j. slice_get mods j ≡ Some y) (sym same)
                (get_same mo.modules m y x there);
            attested = sym (ap (λ (z : Standing). z.attested) hx)
                ∙ h.attested;
            a = h.a;
            older = h.older;
            «end» = h.«end»;
            held = h.held;
            epoch = h.epoch;
            header = h.header;
            floor = h.floor;
            given = h.given;
          }
      | inr ne ↦ record {
        x = h.x;
        there = get_other mo.modules m e.target y ne
            ∙ h.there;
        attested = h.attested;
        a = h.a;
        older = h.older;
        «end» = h.«end»;
        held = h.held;
        epoch = h.epoch;
        header = h.header;
        floor = h.floor;
        given = h.given;
      }
    ]
    known_new (maker.Module k) e h = (
      λ ask. let f = h.0 ask in elim (cases_eq k m) [
        | inl same ↦
            let fx : f.x ≡ x = some_inj f.x x (sym f.there ∙ subst (λ j. slice_get mo.modules j ≡ Some x) (sym same) there) in
            record {
              x = y;
              there = subst (λ j. slice_get mods j ≡ Some y) (sym same) (get_same mo.modules m y x there);
              vouched = subst (λ vs. is_vouched (challenge_in e.header) e.boot vs ≡ true) (ap (λ (z : Standing). z.vouched) fx) f.vouched;
            }
        | inr ne ↦ record { x = f.x; there = get_other mo.modules m k y ne ∙ f.there; vouched = f.vouched }
      ],
      h.1,
    )

    no_present : (pr : Present) → x.present ≡ Some pr → ⊥
    no_present pr e = absurd (none-some pr (sym absent ∙ e))

    sane_new : IsSane set.app mo2
    sane_new = record {
      small = t.sane.small;
      timely = λ k q2 z b pk zk bk. elim (which k z zk) [
        | inl mine ↦
            let tx = t.sane.timely m q2 x b (subst (λ j. slice_get set.app.parts j ≡ Some q2) mine.0 pk) there bk in
            subst (λ j. IsTimely (ends_of set.app j) z b mo.epochs) (sym mine.0) (subst (λ g. IsTimely es g b mo.epochs) (sym mine.1) (record {
              vouched = λ a c h. elim (tx.vouched a c h) [ inl lt ↦ inl lt | inr g ↦ inr (g.0, refl) ];
              attested = λ c h. elim (tx.attested c h) [ inl lt ↦ inl lt | inr g ↦ inr (g.0, refl) ];
              opened = λ pr c side n pe o.
                  let p : first ≡ pr = some_inj first pr pe in
                  absurd (true≢false (sym (ap is_some (sym (none_open c side es) ∙ subst (λ (g : Present). open_at c side es g.ends ≡ Some n) (sym p) o))));
            }))
        | inr else_ ↦ t.sane.timely k q2 z b pk else_.1 bk
      ];
      unsent = λ c l q2 z b words lk pk zk bk wk. elim (which l.from z zk) [
        | inl mine ↦
            elim (t.sane.unsent c l q2 x b words lk pk (subst (λ j. slice_get mo.modules j ≡ Some x) (sym mine.0) there) bk wk) [
              | inl e ↦ inl e
              | inr hs ↦ elim hs.3 [
                | inl lt ↦ inr (subst (λ g. HasSent (ends_of set.app l.from) g b mo.epochs (link_of c) (epoch_of c)) (sym mine.1) (hs.0, hs.1, hs.2, inl lt))
                | inr o ↦ absurd (no_present o.0 o.1)
              ]
            ]
        | inr else_ ↦ t.sane.unsent c l q2 z b words lk pk else_.1 bk wk
      ];
    }

    protected_tied : Tied set (with_node w n r.state w.ledger (w.steps + 1)) mo2
    protected_tied =
        tied_node set w n mo s r.state w.ledger (w.steps + 1) mo2 here t
        (goes_n set w mo n s sound laws t here none quiet mods (length_set mo.modules m y)
        (λ k q2 site2 z pk on_node sk zk. elim (which k z zk) [
          | inl mine ↦
              let qq : q ≡ q2 = some_inj q q2 (sym part ∙ subst (λ j. slice_get set.app.parts j ≡ Some q2) mine.0 pk) in
              let ss : site ≡ site2 = some_inj site site2 (sym sited ∙ subst (λ j. slice_get set.sites j ≡ Some site2) mine.0 sk) in
              subst (λ j. ModuleTied set n j q2 site2 r.state z mo.sent) (sym mine.0)
              (subst (λ a. ModuleTied set n m a site2 r.state z mo.sent) qq
              (subst (λ a. ModuleTied set n m q a r.state z mo.sent) ss
              (subst (λ a. ModuleTied set n m q site r.state a mo.sent) (sym mine.1) rests_new)))
          | inr else_ ↦
              onlooker set n k q2 site2 s z mo.sent laws node.node quiet
              (λ sec l. elim (append_lives s.sections.live new sec (subst (λ a. Lives a sec) grown l)) [
                | inl old ↦ inl old
                | inr is_new ↦ inr (subst (λ (a : Section). is_at_site n r.state.mem a site2 ≡ false) (sym is_new) (not_here k site2 else_.0 sk))
              ])
              (λ sec l here2. let a = strangers set n s boot node none k site2 sec sk l here2 in (nonzero s sec node.node l, a.0, a.1))
              (subst (λ j. ModuleTied set j k q2 site2 s z mo.sent) on_node (t.modules k q2 site2 s z pk sk (subst (λ j. slice_get w.nodes j ≡ Some s) (sym on_node) here) else_.1))
        ])
        (λ k q2 pk ne. get_other mo.modules m k y (λ same. ne (ap (λ (a : PartTree). a.node) (some_inj q2 q (sym pk ∙ subst (λ j. slice_get set.app.parts j ≡ Some q) (sym same) part)) ∙ qn)))
        (λ k z zk. elim (which k z zk) [
          | inl mine ↦ (x, subst (λ j. slice_get mo.modules j ≡ Some x) (sym mine.0) there, ap (λ (a : Standing). a.asked) mine.1, ap (λ (a : Standing). a.attested) mine.1)
          | inr else_ ↦ (z, else_.1, refl, refl)
        ])
        (λ e h. known_new e.maker e (t.ledger e h)) sane_new)

    -- what is seen: the touches, and then that the module was protected
    protected_fares : Fares (judge set.app mo (touch_items set.app n None r.shown.touch ++ item.Protect n (Some m) ∷ [])) (Tied set (with_node w n r.state w.ledger (w.steps + 1)))
    protected_fares =
        fares_then set.app mo (touch_items set.app n None r.shown.touch) (item.Protect n (Some m) ∷ []) (λ z. z ≡ mo1) (Tied set (with_node w n r.state w.ledger (w.steps + 1)))
        (touches_n set w mo n s sound laws t here none quiet)
        (λ z e. subst (λ a. Fares (judge set.app a (item.Protect n (Some m) ∷ [])) (Tied set (with_node w n r.state w.ledger (w.steps + 1)))) (sym e)
        (subst (λ (o : Option Model). Fares (judge_on o (λ a. Going a)) (Tied set (with_node w n r.state w.ledger (w.steps + 1)))) (sym (protected_step m q x part there qn absent)) protected_tied))

  -- a new section is at a module's site only where the module is absent
  absent_where : (m : ℕ) (q : PartTree) (site : Site) (x : Standing) (l : Layout) (places : List ℕ)
      → slice_get set.app.parts m ≡ Some q → slice_get set.sites m ≡ Some site → l ≡ site.layout → refusal s.sections l places ≡ None
      → ModuleTied set n m q site s x mo.sent → x.present ≡ None
  absent_where m q site x l places pm sm same free (Absent none2 f) = none2
  absent_where m q site x l places pm sm same free (Rests sec pr p i c pend h) = absurd (meets m q site l places pm sm same free sec i)
    where
      meets : (m : ℕ) (q : PartTree) (site : Site) (l : Layout) (places : List ℕ) → slice_get set.app.parts m ≡ Some q
          → slice_get set.sites m ≡ Some site → l ≡ site.layout → refusal s.sections l places ≡ None → (sec : Section) → IsModule n site s sec → ⊥
      meets m q site l places pm sm same free sec i =
          let a = admits s.sections l places free in
          let clear = passes (clear_of l) s.sections.live sec i.lives (and_parts (parts_apart l) _ a.overlap).1 in
          let one = (and_parts (apart l.pub_from l.pub_to sec.layout.pub_from sec.layout.pub_to) _ clear).0 in
          let sl : sec.layout ≡ l = (at_site n s.mem sec site i.here).layout ∙ sym same in
          absurd (apart_self l.pub_from l.pub_to (bounds_of l a.bounds) (subst (λ (z : Layout). apart l.pub_from l.pub_to z.pub_from z.pub_to ≡ true) sl one))
  absent_where m q site x l places pm sm same free (Runs sec pr p i c u) =
      let away = strangers set n s boot node none m site sec sm i.lives i.here in absurd (away.1 c)

  by_sections : (e : Event) → r.shown.event ≡ e → Sectioned s r.state e
      → (let o = observed set n None r.state r.shown w.ledger in Fares (judge set.app mo o.items)
      (Tied set (with_node w n r.state o.ledger (w.steps + 1))))
  by_sections e ev (Stay same unmade) =
      let shows : observed set n None r.state r.shown w.ledger ≡ record { items = touch_items set.app n None r.shown.touch; ledger = w.ledger } =
      ap (λ (o : Observed). record { items = touch_items set.app n None r.shown.touch ++ o.items; ledger = o.ledger })
      (quiet_items set n r.state w.ledger r.shown.event quiet (λ id g. unmade id (sym ev ∙ g)))
      ∙ ap (λ z. record { items = z; ledger = w.ledger }) (append_none (touch_items set.app n None r.shown.touch)) in
      subst (λ (o : Observed). Fares (judge set.app mo o.items) (Tied set (with_node w n r.state o.ledger (w.steps + 1)))) (sym shows)
      (no_more (λ m site sec sk l. inl (subst (λ (z : Sections). Lives z.live sec) same l)))
  by_sections e ev (Fewer same unmade) =
      let shows : observed set n None r.state r.shown w.ledger ≡ record { items = touch_items set.app n None r.shown.touch; ledger = w.ledger } =
      ap (λ (o : Observed). record { items = touch_items set.app n None r.shown.touch ++ o.items; ledger = o.ledger })
      (quiet_items set n r.state w.ledger r.shown.event quiet (λ id g. unmade id (sym ev ∙ g)))
      ∙ ap (λ z. record { items = z; ledger = w.ledger }) (append_none (touch_items set.app n None r.shown.touch)) in
      subst (λ (o : Observed). Fares (judge set.app mo o.items) (Tied set (with_node w n r.state o.ledger (w.steps + 1)))) (sym shows)
      (no_more (λ m site sec sk l. inl (lives_without s.sections.live (own_of s) sec (subst (λ (z : Sections). Lives z.live sec) same l))))
  by_sections e ev (More l provider key places free same prot) =
      let next = s.sections.next in
      let new : Section = record { layout = l; provider = provider; id = next; key = key } in
      let grown : r.state.sections.live ≡ s.sections.live ++ new ∷ [] = ap (λ (z : Sections). z.live) same in
      let lives : Lives r.state.sections.live new = subst (λ z. Lives z new) (sym grown) (end_lives s.sections.live new) in
      let found : section_of r.state.sections.live next ≡ Some new = placed_found r.state.sections new (laws.node s node.node).placed lives in
      let event_is : r.shown.event ≡ event.Protected next = ev ∙ prot in
      let shows : observed set n None r.state r.shown w.ledger ≡ record
      { items = touch_items set.app n None r.shown.touch ++ item.Protect n (deployed set.sites n r.state.mem new) ∷ []; ledger = w.ledger } =
      ap (λ z. (let o = event_seen set n None r.state w.ledger z in record { items = touch_items set.app n None r.shown.touch ++ o.items; ledger = o.ledger })) event_is
      ∙ ap (λ z. record {
        items = touch_items set.app n None r.shown.touch ++ item.Protect n
            (Rattle.std.specs.Option.option_and_then (deployed set.sites n r.state.mem) z) ∷ [];
        ledger = w.ledger;
      }) found in
      subst (λ (o : Observed). Fares (judge set.app mo o.items) (Tied set (with_node w n r.state o.ledger (w.steps + 1)))) (sym shows)
      (by_site new grown event_is found l places free refl refl (deployed set.sites n r.state.mem new) refl)
    where
      by_site : (new : Section) → r.state.sections.live ≡ s.sections.live ++ new ∷ [] → r.shown.event ≡ event.Protected s.sections.next → section_of r.state.sections.live s.sections.next ≡ Some new
          → (l : Layout) (places : List ℕ) → refusal s.sections l places ≡ None → new.layout ≡ l → new.id ≡ s.sections.next
          → (o : Option ℕ) → deployed set.sites n r.state.mem new ≡ o
          → Fares (judge set.app mo (touch_items set.app n None r.shown.touch ++ item.Protect n o ∷ []))
          (Tied set (with_node w n r.state w.ledger (w.steps + 1)))
      by_site new grown event_is found l places free nl ni None e =
          fares_then set.app mo (touch_items set.app n None r.shown.touch) (item.Protect n None ∷ [])
          (Tied set (with_node w n r.state w.ledger (w.steps + 1))) (Tied set (with_node w n r.state w.ledger (w.steps + 1)))
          (no_more (λ m site sec sk live. elim (append_lives s.sections.live new sec (subst (λ z. Lives z sec) grown live)) [
            | inl old ↦ inl old
            | inr is_new ↦ inr (subst (λ (z : Section). is_at_site n r.state.mem z site ≡ false) (sym is_new) (position_none (is_at_site n r.state.mem new) 0 set.sites m site e sk))
          ]))
          (λ z h. h)
      by_site new grown event_is found l places free nl ni (Some m) e =
          let p = position_is (is_at_site n r.state.mem new) 0 set.sites m e in
          let k : p.0 ≡ m = sym (p.2 ∙ omega arith) in
          let sited : slice_get set.sites m ≡ Some p.1 = subst (λ j. slice_get set.sites j ≡ Some p.1) k p.3 in
          let q : (q : PartTree) × (slice_get set.app.parts m ≡ Some q) = get_some set.app.parts m (omega (arith, get_within set.sites m p.1 sited, sound.sites)) in
          let place = at_site n r.state.mem new p.1 p.4 in
          let qn : q.0.node ≡ n = sym (sound.deployed m q.0 p.1 q.1 sited).node ∙ place.node in
          let x : (x : Standing) × (slice_get mo.modules m ≡ Some x) = get_some mo.modules m (omega (arith, get_within set.app.parts m q.0 q.1, t.size.modules)) in
          let tied_m : ModuleTied set n m q.0 p.1 s x.0 mo.sent = subst (λ j. ModuleTied set j m q.0 p.1 s x.0 mo.sent) qn
          (t.modules m q.0 p.1 s x.0 q.1 sited (subst (λ j. slice_get w.nodes j ≡ Some s) (sym qn) here) x.1) in
          let gone = absent_where m q.0 p.1 x.0 l places q.1 sited (sym nl ∙ place.layout) free tied_m in
          let nz : new.id ≢ 0 = λ z. absurd (omega (arith, node.node.placed.first, ni, z)) in
          protected_fares m q.0 p.1 x.0 new q.1 sited x.1 qn gone grown p.4 (fresh s s.sections.next new node.node event_is found)
          (λ same. let h = Rattle.spec_run.proofs.steps.Entry.holding s.sections.live (Rattle.spec_machine.specs.Step.pc_of s) (λ z. nz (sym same ∙ z)) in
          absurd (omega (arith, lives_below s.sections.next s.sections.live h.section node.node.placed.each h.lives, h.id, same, ni))) nz

pub foreign_steps : (set : Setting) → IsSoundSetting set → MachineLaws set.mac → FreshSections set.mac → ForeignSteps set
foreign_steps set sound laws fresh w mo n s t here none quiet =
    let h = by_sections set w mo n s sound laws fresh t here none quiet (step set.mac s).shown.event refl (sections_after set.mac s quiet) in
    subst (λ z. (let o = observed set n z (step set.mac s).state (step set.mac s).shown w.ledger in Fares
    (judge set.app mo o.items) (Tied set (with_node w n (step set.mac s).state o.ledger (w.steps + 1))))) (sym none) h
