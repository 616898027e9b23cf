-- A step of a deployed module's turn, in both runs.
use Rattle.std.proofs.Common.{◌≡◌, ℕ, suc, ◌+◌, ◌*◌, ◌≤◌, ◌==◌, ◌&&◌, Bool, true, false, if◌then◌else◌, inl, inr, ◌⊎◌, List, [], ◌∷◌, ◌++◌}
use Rattle.std.proofs.Common.{length, slice_index, Some, None, refl, sym, ◌∙◌, ap, ap₂, subst, arith}
use Rattle.std.specs.Prelude.{slice_get}
use Rattle.std.proofs.lemmas.Bool.{and_parts, cases_eq, cases_lt, eq-eqb, eqb-true, true≢false, and_right}
use Rattle.std.proofs.lemmas.List.{append-nil, get_or_past}
use Rattle.sx_mean.specs.Application.{PartTree}
use Rattle.sx_trace.specs.declared.items.Item.{Item}
use Rattle.sx_trace.specs.declared.items.Item.TheVariants as item
use Rattle.sx_rules.specs.declared.access.Violation.{Violation}
use Rattle.sx_rules.specs.declared.section.Layout.{Layout}
use Rattle.sx_rules.specs.declared.section.Section.{Section}
use Rattle.sx_rules.specs.Access.{Sections, Lives, section_of}
use Rattle.sx_rules.specs.Admission.{apart}
use Rattle.sx_rules.proofs.Placing.{placed_found}
use Rattle.sx_tag.specs.Mac.{Mac}
use Rattle.spec_machine.specs.declared.kinds.Event.{Event}
use Rattle.spec_machine.specs.declared.kinds.Event.TheVariants as event
use Rattle.spec_machine.specs.State.{State, reset}
use Rattle.spec_machine.specs.Step.{own_of, pc_of, step, word_outside}
use Rattle.spec_machine.proofs.Devices.{some_inj}
use Rattle.spec_machine.proofs.Lengths.{length-bytes_from}
use Rattle.sx_image.specs.Reach.{Comes, Stepped, Goes, Stops}
use Rattle.sx_image.specs.Reach as reach
use Rattle.spec_invocation.specs.Entries.{is_kind, header_in}
use Rattle.spec_invocation.specs.Marks as mark
use Rattle.spec_invocation.specs.Marks.{HasPrefix, Mark}
use Rattle.spec_invocation.specs.ModuleState.{ModuleState}
use Rattle.spec_invocation.specs.Progress.{Invoked, Progress, Returns, Violates, marks_in}
use Rattle.spec_invocation.specs.Protocol.{event_kind}
use Rattle.sx_image.specs.Image.{call_at, private_bytes}
use Rattle.sx_image.specs.Realizes.{Underway, Aborted, Exited}
use Rattle.sx_image.specs.Watched.{Watched, marks_of, violation_of, watch}
use Rattle.sx_deployer.specs.Granting.{side_number}
use Rattle.spec_run.specs.Setting.{Setting, Site, is_at_site}
use Rattle.spec_run.specs.Deployer.{grant_header}
use Rattle.spec_run.specs.Ledger.{Made}
use Rattle.spec_run.specs.Observation.{Observed, has_end, side_in}
use Rattle.spec_run.specs.State.{World, Acted}
use Rattle.spec_run.specs.Acts.{after_step, with_node}
use Rattle.spec_run.specs.Run.{is_reset}
use Rattle.spec_run.specs.Law.{IsSoundSetting}
use Rattle.spec_run.proofs.steps.Entry.{at_site}
use Rattle.spec_run.proofs.steps.Bystanders.{at_site_same, apart_self}
use Rattle.spec_run.proofs.steps.Machine.{onward, violates}
use Rattle.spec_run.proofs.steps.Steps.{bounds_of, nonzero}
use Rattle.spec_run.proofs.steps.Stretch.{done_items}
use Rattle.spec_run.proofs.steps.UnderWay.{watched_next}
use Rattle.sx_wire.specs.Headers.{epoch_in, is_set_key_header, link_in}
use Rattle.law_calls.specs.Shown.{marks_observed}
use Rattle.law_calls.proofs.Middle.{Middle, next_middle}
use Rattle.law_calls.proofs.Running.{after_as, violated_step, watch_goes_on, watch_stops}
use Rattle.law_forgery.proofs.Fields.{field_is, field_key}
use Rattle.law_forgery.proofs.Keyed.{key_shows}
use Rattle.law_forgery.proofs.Opening.{AllMarks, Told, unwraps_told}
use Rattle.law_forgery.proofs.Turns.{NodeTurns}
use Rattle.sx_tmpl.specs.Unseen.{HoldsNoKey, StepShowsNone}
use Rattle.sx_tmpl.specs.Steady.{Abreast, StepAbreast, Twins}
use Rattle.sx_tmpl.specs.Steady as steady
use Rattle.sx_tmpl.proofs.Seals.{steps_steady}
use Rattle.sx_tmpl.proofs.Texts.Entering.{bytes_from_get}
use Rattle.law_connections.specs.Unlinked.{Unlinked}
use Rattle.law_connections.proofs.Outside.{Unhidden, is_deployed, sites_on}
use Rattle.law_connections.proofs.Twice.{After, IsMark, SameEnds, SameInvoked, SameLeft, SameMarks, ends_map}
use Rattle.law_connections.proofs.Linking.{second, Linked, Opens, SameNode, SameStates, state_in}
use Rattle.law_connections.proofs.Ledgers.{IsGranted, SameLedger, keys_granted, marks_same}
use Rattle.law_connections.proofs.Upto.{Clean, clean_left, clean_none}
use Rattle.law_connections.proofs.Entered.{Entry, begun_a, later, mate, mate_lives, places, private_size, ends_count, result_a, result_b, same_run, setup_a, setup_b, stands_a, stands_b}
use Rattle.law_connections.proofs.Between.{Comes_a, Comes_b, Mid, SameTurn, fit, outside_mid, watched_as}
use Rattle.law_connections.proofs.KeysUsed.{seals}
use Rattle.law_connections.proofs.Worlds.{SameWorld, with_same}
use Rattle.law_connections.proofs.Doing.{reset_node, states_kept}

event_no_key : (packet : List ℕ) → is_kind event_kind packet ≡ true → is_set_key_header (header_in packet) ≡ false
event_no_key [] e = absurd (true≢false (sym e))
event_no_key (p ∷ ps) e =
    let three : p ≡ 3 = eqb-true p 3 (and_parts (p == 3) (slice_index (p ∷ ps) 1 == 0) e).0 in
    let head = header_in (p ∷ ps) in
    ap (λ (z : ℕ). (length head == 6) && (((z == 1) && (slice_index head 1 == 0)) && (Rattle.std.specs.Prelude.nat_lt (slice_index head 4) 2 && (slice_index head 5 == 0)))) three
    ∙ and_right (length head == 6) false refl

-- Marks of both runs, and parts of them.

count_same : (ms ns : List Mark) → steady.SameMarks ms ns → length ns ≡ length ms
count_same [] [] h = refl
count_same [] (n ∷ ns) h = absurd h
count_same (m ∷ ms) [] h = absurd h
count_same (m ∷ ms) (n ∷ ns) h = ap suc (count_same ms ns h.1)

module _ (L : ℕ → List ℕ → List ℕ → Type 0) (O : List ℕ → List ℕ → List ℕ → Type 0) (pl : ℕ → Type 0) where
  prefix_same : (ms ns xs ys : List Mark) → length ns ≡ length ms → SameMarks L O pl (ms ++ xs) (ns ++ ys) → SameMarks L O pl ms ns × SameMarks L O pl xs ys
  prefix_same [] [] xs ys e h = (tt, h)
  prefix_same [] (n ∷ ns) xs ys e h = absurd (omega (arith, e))
  prefix_same (m ∷ ms) [] xs ys e h = absurd (omega (arith, e))
  prefix_same (m ∷ ms) (n ∷ ns) xs ys e h = let r = prefix_same ms ns xs ys (omega (arith, e)) h.1 in ((h.0, r.0), r.1)

  marks_of_ends : (x y : Invoked) → SameInvoked L O pl x y → SameMarks L O pl (marks_in x) (marks_in y)
  marks_of_ends (Returns c p) (Returns d q) h = h.1.marks
  marks_of_ends (Violates c p) (Violates d q) h = h.1.marks
  marks_of_ends (Returns c p) (Violates d q) h = absurd h
  marks_of_ends (Violates c p) (Returns d q) h = absurd h

all_parts : (P : Mark → Type 0) (xs ys : List Mark) → AllMarks P (xs ++ ys) → AllMarks P xs × AllMarks P ys
all_parts P [] ys h = (tt, h)
all_parts P (x ∷ xs) ys h = let r = all_parts P xs ys h.1 in ((h.0, r.0), r.1)

mark_in : (m : Mark) (xs ys : List Mark) → IsMark m (xs ++ ys) → IsMark m xs ⊎ IsMark m ys
mark_in m [] ys h = inr h
mark_in m (x ∷ xs) ys h = elim h [
  | inl e ↦ inl (inl e)
  | inr r ↦ elim (mark_in m xs ys r) [ inl i ↦ inl (inr i) | inr i ↦ inr i ]
]

-- The next step of a stretch that isn't at its end.

data Ahead (mac : Mac) (P : Watched → Type 0) (B : Watched → Violation → Type 0) (Q : Watched → Type 0) (w : Watched) : Type 0 where
  Takes : (t : Watched) (k : ℕ) → watch mac w ≡ Goes t → Comes Watched Violation (watch mac) (λ z. 1) P B Q k t → Ahead mac P B Q w
  Breaks : (v : Violation) → watch mac w ≡ Stops v → B w v → Ahead mac P B Q w

ahead : (mac : Mac) (P : Watched → Type 0) (B : Watched → Violation → Type 0) (Q : Watched → Type 0) (n : ℕ) (w : Watched) → (Q w → ⊥)
    → Comes Watched Violation (watch mac) (λ z. 1) P B Q n w → P w × Ahead mac P B Q w
ahead mac P B Q n w out (reach.Here q) = absurd (out q)
ahead mac P B Q n w out (reach.Next {k = k} {t = t} p e c r) = (p, Takes t k e r)
ahead mac P B Q n w out (reach.Ends {v = v} p e c b) = (p, Breaks v e b)

is_out : (mac : Mac) (P : Watched → Type 0) (B : Watched → Violation → Type 0) (Q : Watched → Type 0) (n : ℕ) (w : Watched)
    → Comes Watched Violation (watch mac) (λ z. 1) P B Q n w → Q w ⊎ P w
is_out mac P B Q n w (reach.Here q) = inl q
is_out mac P B Q n w (reach.Next p e c r) = inr p
is_out mac P B Q n w (reach.Ends p e c b) = inr p

-- a module whose code steps to its own code runs on
runs_cur : (mac : Mac) (s : State) (id : ℕ) → violation_of (step mac s).shown.event ≡ None → own_of s ≡ id → own_of (step mac s).state ≡ id → (step mac s).state.cur ≡ id
runs_cur mac s id quiet own inside =
    (onward mac s quiet).cur ∙ ap (λ (b : Bool). if b then own_of s else 0) (eq-eqb (own_of (step mac s).state) (own_of s) (inside ∙ sym own)) ∙ own

done_same : (m : ℕ) (x y : State) (e f : Event) → y.regs ≡ x.regs → f ≡ e → done_items m y f ≡ done_items m x e
done_same m x y e f regs is = ap (done_items m y) is ∙ by e
  where
    by : (z : Event) → done_items m y z ≡ done_items m x z
    by event.Quiet = refl
    by (event.Reset v) = refl
    by (event.Protected id) = refl
    by (event.Removed id) = refl
    by (event.Wrapped id) = refl
    by (event.Unwrapped id) = refl
    by (event.Left id) = ap (λ (g : List ℕ). item.Done m (slice_index g 12) (slice_index g 13) ∷ []) regs

module _ (a : Setting) (nac : Mac) (keys : List (List ℕ)) (secret : List ℕ) (sound : IsSoundSetting a) (sound2 : IsSoundSetting (second a nac keys secret))
    (unlinked : Unlinked a (second a nac keys secret)) where
  abbrev b : Setting
  b = second a nac keys secret

  abbrev L : ℕ → List ℕ → List ℕ → Type 0
  L = Linked a nac keys secret

  abbrev O : List ℕ → List ℕ → List ℕ → Type 0
  O = Opens a nac keys secret

  -- a section is at one site
  one_site : (n : ℕ) (mem : List ℕ) (x : Section) (m k : ℕ) (q : PartTree) (site other : Site) → slice_get a.app.parts m ≡ Some q → slice_get a.sites m ≡ Some site
      → slice_get a.sites k ≡ Some other → is_at_site n mem x site ≡ true → is_at_site n mem x other ≡ true → k ≡ m
  one_site n mem x m k q site other part sited sited2 at at2 =
      let p = at_site n mem x site at in
      let r = at_site n mem x other at2 in
      elim (sound.apart m k site other sited sited2 (p.node ∙ sym r.node)) [
        | inl e ↦ sym e
        | inr d ↦ absurd (apart_self site.layout.pub_from site.layout.pub_to (bounds_of site.layout (sound.deployed m q site part sited).bounds)
            (subst (λ (z : Layout). apart site.layout.pub_from site.layout.pub_to z.pub_from z.pub_to ≡ true) (sym r.layout ∙ p.layout) d.0))
      ]

  -- a key that was given by a mark, of a granted packet, is that of its connection
  given_linked : (ms : List Mark) → ((header k : List ℕ) → IsMark (mark.Unwrapped header k true) ms → IsGranted a nac keys secret header k)
      → (pl : ℕ → Type 0) (field : ℕ) (k l : List ℕ) → After (Linked a nac keys secret) (Opens a nac keys secret) pl ms field k l → Linked a nac keys secret field k l
  given_linked ms granted pl field k l (inl h) = h
  given_linked ms granted pl field k l (inr h) =
      let packet = h.0 in
      let g = granted (header_in packet) k h.2 in
      let is : field ≡ link_in (grant_header g.0) + 256 * epoch_in (grant_header g.0) =
      h.1 ∙ sym (field_is packet) ∙ ap (λ (z : List ℕ). link_in z + 256 * epoch_in z) g.1 in
      let o = h.3 g.0.«end».link g.0.epoch (side_number g.0.«end».side) g.1 in
      (g.2 ∙ ap (field_key a) (sym is), o.0 g.2 ∙ ap (field_key b) (sym is))

  module _ (e : Entry a nac keys secret) where
    abbrev n : ℕ
    n = e.site.node

    abbrev t : State
    t = later a nac keys secret e

    abbrev mt : Section
    mt = mate a nac keys secret e

    abbrev ra : Invoked
    ra = result_a a nac keys secret e

    abbrev rb : Invoked
    rb = result_b a nac keys secret e

    abbrev Clear : ℕ → Type 0
    Clear = Unhidden (is_deployed (sites_on a.sites e.site.node) e.s.mem) e.s.sections.live

    abbrev Out_a : Watched → Type 0
    Out_a = Exited (setup_a a nac keys secret e) (result_a a nac keys secret e) e.s

    abbrev Out_b : Watched → Type 0
    Out_b = Exited (setup_b a nac keys secret e) (result_b a nac keys secret e) (later a nac keys secret e)

    abbrev On_a : Watched → Type 0
    On_a w = Underway (setup_a a nac keys secret e) (result_a a nac keys secret e) e.s w × StepShowsNone (setup_a a nac keys secret e) e.s.mem w

    abbrev On_b : Watched → Type 0
    On_b w = Underway (setup_b a nac keys secret e) (result_b a nac keys secret e) (later a nac keys secret e) w × StepShowsNone (setup_b a nac keys secret e) e.mem w

    run_same : SameInvoked (Linked a nac keys secret) (Opens a nac keys secret) (Unhidden (is_deployed (sites_on a.sites e.site.node) e.s.mem) e.s.sections.live)
        (result_a a nac keys secret e) (result_b a nac keys secret e)
    run_same = same_run a nac keys secret e sound sound2 unlinked

    -- What marks tell.

    abbrev P : Mark → Type 0
    P = Told (setup_a a nac keys secret e) (call_at e.s) (begun_a a nac keys secret e)

    keyed : (header body : List ℕ) → P (mark.Unwrapped header body true) → (is_set_key_header header && has_end a.app e.m (link_in header) (side_in header)) ≡ true
    keyed header body told =
        let k = key_shows (setup_a a nac keys secret e) (call_at e.s) (begun_a a nac keys secret e) header body e.ta.node.memory.bytes told in
        ap₂ (λ (c d : Bool). c && d) k.0 k.1

    event_told : (header body : List ℕ) → P (mark.Unwrapped header body false) → is_set_key_header header ≡ false
    event_told header body told = ap is_set_key_header told.header_is ∙ event_no_key told.packet told.kind

    told_all : AllMarks P (marks_in ra)
    told_all = unwraps_told (setup_a a nac keys secret e) (call_at e.s) (begun_a a nac keys secret e) refl

    -- the marks so far of a moment, and of the exit
    so_far_a : (w : Watched) → Out_a w ⊎ On_a w → HasPrefix (marks_in (result_a a nac keys secret e)) w.marks
    so_far_a w (inl out) = ([], append-nil w.marks ∙ out.marks ∙ sym (ap marks_in out.returns))
    so_far_a w (inr on) = on.0.marks

    so_far_b : (w : Watched) → Out_b w ⊎ On_b w → HasPrefix (marks_in (result_b a nac keys secret e)) w.marks
    so_far_b w (inl out) = ([], append-nil w.marks ∙ out.marks ∙ sym (ap marks_in out.returns))
    so_far_b w (inr on) = on.0.marks

    -- the marks of one more step
    more_same : (ms ns xs ys : List Mark) → length ns ≡ length ms → length (ns ++ ys) ≡ length (ms ++ xs) → HasPrefix (marks_in (result_a a nac keys secret e)) (ms ++ xs)
        → HasPrefix (marks_in (result_b a nac keys secret e)) (ns ++ ys)
        → SameMarks (Linked a nac keys secret) (Opens a nac keys secret) (Unhidden (is_deployed (sites_on a.sites e.site.node) e.s.mem) e.s.sections.live) xs ys × AllMarks P xs
    more_same ms ns xs ys few many one two =
        let all : SameMarks L O Clear (marks_in ra) (marks_in rb) = marks_of_ends L O Clear ra rb run_same in
        let split : SameMarks L O Clear ((ms ++ xs) ++ one.0) ((ns ++ ys) ++ two.0) =
        subst (λ (z : List Mark). SameMarks L O Clear z ((ns ++ ys) ++ two.0)) (sym one.1) (subst (λ (z : List Mark). SameMarks L O Clear (marks_in ra) z) (sym two.1) all) in
        let told : AllMarks P ((ms ++ xs) ++ one.0) = subst (AllMarks P) (sym one.1) told_all in (
          (prefix_same L O Clear ms ns xs ys few (prefix_same L O Clear (ms ++ xs) (ns ++ ys) one.0 two.0 many split).0).1,
          (all_parts P ms xs (all_parts P (ms ++ xs) one.0 told).0).1,
        )

    -- Where both left.

    left_node : (x y : Watched) → Middle e.sec e.s x.node x.marks → Middle (mate a nac keys secret e) (later a nac keys secret e) y.node y.marks → Twins (places a nac keys secret e) x.node y.node
        → Out_a x → Out_b y → ((header k : List ℕ) → IsMark (mark.Unwrapped header k true) x.marks → IsGranted a nac keys secret header k) → SameNode a nac keys secret e.site.node x.node y.node
    left_node x y mx my tw ox oy granted = record {
      outside = outside_mid a nac keys secret e x.node y.node x.marks y.marks mx my tw;
      rests = λ z l d c. nonzero e.s z e.ta.node (subst (λ (s : Sections). Lives s.live z) mx.sections l) (sym c ∙ ox.idle);
      states = by_state;
    }
      where
        ended : SameLeft (Linked a nac keys secret) (Opens a nac keys secret) (Unhidden (is_deployed (sites_on a.sites e.site.node) e.s.mem) e.s.sections.live) ox.progress oy.progress
        ended =
            (subst (λ (r : Invoked). SameInvoked L O Clear (Returns ox.status ox.progress) r) oy.returns (subst (λ (r : Invoked). SameInvoked L O Clear r rb) ox.returns run_same)).1

        past : (m : List ℕ) (o : ℕ) → private_size a nac keys secret e ≤ o → slice_index (private_bytes e.sec.layout m) o ≡ 0
        past m o ge =
            let size = length-bytes_from m e.sec.layout.priv_from (private_size a nac keys secret e) in
            get_or_past (private_bytes e.sec.layout m) o 0 (omega (arith, ge, size))

        shown : (o : ℕ) → HoldsNoKey (ends_count a nac keys secret e) o 1
            → slice_index (private_bytes e.sec.layout y.node.mem) o ≡ slice_index (private_bytes e.sec.layout x.node.mem) o
        shown o free = elim (cases_lt o (private_size a nac keys secret e)) [
          | inl lt ↦
              bytes_from_get y.node.mem e.sec.layout.priv_from (private_size a nac keys secret e) o lt
              ∙ sym (tw.mem.same (e.sec.layout.priv_from + o) (inr (o, refl, lt, free)))
              ∙ sym (bytes_from_get x.node.mem e.sec.layout.priv_from (private_size a nac keys secret e) o lt)
          | inr ge ↦ past y.node.mem o ge ∙ sym (past x.node.mem o ge)
        ]

        own_states : SameStates a nac keys secret (Linked a nac keys secret) e.m e.q e.sec x.node.mem y.node.mem
        own_states = (
          ap (λ (z : ModuleState). z.cells) oy.state ∙ ap (λ (z : Progress). z.state.cells) ended.rest ∙ ap (λ (z : ModuleState). z.cells) (sym ox.state),
          subst (λ (z : ModuleState). SameEnds L z.ends (state_in a nac keys secret e.m e.q e.sec y.node.mem).ends) (sym ox.state)
              (subst (λ (z : ModuleState). SameEnds L ox.progress.state.ends z.ends) (sym oy.state)
              (ends_map (After L O Clear ox.progress.marks) L
              (given_linked ox.progress.marks (λ header k i. granted header k (subst (IsMark (mark.Unwrapped header k true)) (sym ox.marks) i)) Clear)
              ox.progress.state.ends oy.progress.state.ends ended.ends)),
          shown,
        )

        by_state : (k : ℕ) (p : PartTree) (place : Site) (z : Section) → slice_get a.app.parts k ≡ Some p → slice_get a.sites k ≡ Some place
            → Lives x.node.sections.live z → is_at_site e.site.node x.node.mem z place ≡ true
            → SameStates a nac keys secret (Linked a nac keys secret) k p z x.node.mem y.node.mem
        by_state k p place z pk sk l at =
            let old : Lives e.s.sections.live z = subst (λ (s : Sections). Lives s.live z) mx.sections l in
            let before : is_at_site n e.s.mem z place ≡ true = sym (at_site_same n e.s.mem x.node.mem z place (mx.texts z old)) ∙ at in
            elim (cases_eq e.sec.id z.id) [
              | inl i ↦
                  let is : e.sec ≡ z = some_inj e.sec z (sym (placed_found e.s.sections e.sec e.ta.node.placed e.lives) ∙ ap (section_of e.s.sections.live) i
                  ∙ placed_found e.s.sections z e.ta.node.placed old) in
                  let number : k ≡ e.m = one_site n e.s.mem z e.m k e.q e.site place e.part e.sited sk (subst (λ (s : Section). is_at_site e.site.node e.s.mem s e.site ≡ true) is e.at) before in
                  let tree : p ≡ e.q = some_inj p e.q (sym pk ∙ ap (slice_get a.app.parts) number ∙ e.part) in
                  subst (λ (s : Section). SameStates a nac keys secret (Linked a nac keys secret) k p s x.node.mem y.node.mem) is
                  (subst (λ (s : ℕ). SameStates a nac keys secret (Linked a nac keys secret) s p e.sec x.node.mem y.node.mem) (sym number)
                  (subst (λ (s : PartTree). SameStates a nac keys secret (Linked a nac keys secret) e.m s e.sec x.node.mem y.node.mem) (sym tree) own_states))
              | inr ne ↦
                  let g = mate_lives a.mac nac (is_deployed (sites_on a.sites n) e.s.mem) e.s.sections.live e.us.live z e.beside.outside.sections old in
                  states_kept a nac keys secret k p z e.s.mem e.mem x.node.mem y.node.mem (mx.others z old ne) (my.others (record z { key = g.0 }) g.1 ne)
                  (e.beside.states k p place z pk sk old before)
            ]

    -- After a step that goes on in both.
    module _ (u v : State) (h : Mid a nac keys secret e u v) where
      abbrev W : Watched
      W = watched_as a nac keys secret u h.ms h.last

      abbrev V : Watched
      V = watched_as a nac keys secret v h.ns h.last

      abbrev x : Watched
      x = watched_next a.mac u h.ms

      abbrev y : Watched
      y = watched_next nac v h.ns

      abbrev dm : List Mark
      dm = marks_of (step a.mac u).shown (step a.mac u).state.exchange

      abbrev dn : List Mark
      dn = marks_of (step nac v).shown (step nac v).state.exchange

      -- the next step, in both nodes
      step_alike : On_a (watched_as a nac keys secret u h.ms h.last) → On_b (watched_as a nac keys secret v h.ns h.last) → word_outside u.sections.live (pc_of u) ≡ true
          → StepAbreast (places a nac keys secret e) (watch a.mac (watched_as a nac keys secret u h.ms h.last)) (watch nac (watched_as a nac keys secret v h.ns h.last))
      step_alike p q let_run =
          steps_steady (setup_a a nac keys secret e) (places a nac keys secret e) nac mt e.s.mem W V
          (fit a nac keys secret e sound sound2 unlinked)
          (ap (λ (s : Sections). s.live) h.first.sections) p.0.inside
          (ap (λ (s : Sections). section_of s.live e.sec.id) h.first.sections ∙ placed_found e.s.sections e.sec e.ta.node.placed e.lives)
          (ap (λ (s : Sections). section_of s.live e.sec.id) h.other.sections ∙ placed_found e.us mt e.tb.node.placed e.lives2)
          p.1 h.abreast
          (seals a nac keys secret e sound sound2 unlinked u v h.ms h.ns h.last h.abreast.nodes h.first.sections let_run p.1 q.1)

      module _ (pw : On_a (watched_as a nac keys secret u h.ms h.last)) (pv : On_b (watched_as a nac keys secret v h.ns h.last))
          (quiet : violation_of (step a.mac u).shown.event ≡ None) (quiet2 : violation_of (step nac v).shown.event ≡ None)
          (go : Abreast (places a nac keys secret e) (watched_next a.mac u h.ms) (watched_next nac v h.ns))
          (on : Out_a (watched_next a.mac u h.ms) ⊎ On_a (watched_next a.mac u h.ms)) (on2 : Out_b (watched_next nac v h.ns) ⊎ On_b (watched_next nac v h.ns)) where
        sections_a : (step a.mac u).state.sections ≡ e.s.sections
        sections_a = elim on [ inl out ↦ out.sections | inr p ↦ p.0.sections ]

        sections_b : (step nac v).state.sections ≡ e.us
        sections_b = elim on2 [ inl out ↦ out.sections | inr p ↦ p.0.sections ]

        mid_a : Middle e.sec e.s (step a.mac u).state (h.ms ++ dm)
        mid_a = next_middle a.mac e.sec e.s u h.ms h.first pw.0.inside quiet sections_a

        mid_b : Middle (mate a nac keys secret e) (later a nac keys secret e) (step nac v).state (h.ns ++ dn)
        mid_b = next_middle nac mt t v h.ns h.other pv.0.inside quiet2 sections_b

        new_marks : SameMarks (Linked a nac keys secret) (Opens a nac keys secret) (Unhidden (is_deployed (sites_on a.sites e.site.node) e.s.mem) e.s.sections.live) dm dn × AllMarks P dm
        new_marks = more_same h.ms h.ns dm dn (count_same h.ms h.ns h.abreast.marks) (count_same (h.ms ++ dm) (h.ns ++ dn) go.marks) (so_far_a x on) (so_far_b y on2)

        same_cur : (step nac v).state.cur ≡ (step a.mac u).state.cur
        same_cur = ap (λ (z : State). z.cur) go.nodes.rest

        not_idle : e.sec.id ≡ 0 → ⊥
        not_idle z = nonzero e.s e.sec e.ta.node e.lives z

        -- both left, or both are under way
        both : (Out_a (watched_next a.mac u h.ms) × Out_b (watched_next nac v h.ns)) ⊎ (On_a (watched_next a.mac u h.ms) × On_b (watched_next nac v h.ns))
        both = elim on [
          | inl ox ↦ elim on2 [
            | inl oy ↦ inl (ox, oy)
            | inr py ↦ absurd (not_idle (sym (runs_cur nac v e.sec.id quiet2 pv.0.inside py.0.inside) ∙ same_cur ∙ ox.idle))
          ]
          | inr px ↦ elim on2 [
            | inl oy ↦ absurd (not_idle (sym (runs_cur a.mac u e.sec.id quiet pw.0.inside px.0.inside) ∙ sym same_cur ∙ oy.idle))
            | inr py ↦ inr (px, py)
          ]
        ]

        -- what the step shows over ledgers, and the nodes after it
        module _ (es fs : List Made) (ledger : SameLedger a nac keys secret es fs) where
          abbrev seen_a : Observed
          seen_a = marks_observed a.app e.site.node e.m e.s.boot dm es

          abbrev seen_b : Observed
          seen_b = marks_observed a.app e.site.node e.m e.s.boot dn fs

          pub seen_same : (seen_b.items ≡ seen_a.items) × SameLedger a nac keys secret seen_a.ledger seen_b.ledger
          seen_same = marks_same a nac keys secret Clear n e.m e.s.boot P keyed event_told dm dn es fs ledger new_marks.1 new_marks.0

          granted_more : Clean seen_a.items → (header k : List ℕ) → IsMark (mark.Unwrapped header k true) (h.ms ++ dm) → IsGranted a nac keys secret header k
          granted_more clean header k i = elim (mark_in (mark.Unwrapped header k true) h.ms dm i) [
            | inl old ↦ h.granted header k old
            | inr new ↦ keys_granted a nac keys secret Clear n e.m e.s.boot P keyed event_told dm dn es fs ledger new_marks.1 new_marks.0 (clean_none seen_a.items clean) header k new
          ]

          pub nodes_after : Clean seen_a.items → (bound bound2 : ℕ) → Comes_a a nac keys secret e bound (watched_next a.mac u h.ms) → Comes_b a nac keys secret e bound2 (watched_next nac v h.ns)
              → SameTurn a nac keys secret e.site.node (step a.mac u).state (step nac v).state
          nodes_after clean bound bound2 cx cy = elim both [
            | inl o ↦ inl (left_node x y mid_a mid_b go.nodes o.0 o.1 (granted_more clean))
            | inr p ↦
                let cur = runs_cur a.mac u e.sec.id quiet pw.0.inside p.0.0.inside in
                let busy : (step a.mac u).state.cur ≡ 0 → ⊥ = λ z. not_idle (sym cur ∙ z) in
                inr (record {
                  entry = e;
                  is = refl;
                  mid = record {
                    ms = h.ms ++ dm;
                    ns = h.ns ++ dn;
                    last = (step a.mac u).shown.event;
                    first = mid_a;
                    other = mid_b;
                    abreast = subst (λ (l : Event). Abreast (places a nac keys secret e) (watched_next a.mac u h.ms) (watched_as a nac keys secret (step nac v).state (h.ns ++ dn) l)) go.event go;
                    bound = bound;
                    bound2 = bound2;
                    comes = cx;
                    comes2 = subst (λ (l : Event). Comes_b a nac keys secret e bound2 (watched_as a nac keys secret (step nac v).state (h.ns ++ dn) l)) go.event cy;
                    runs = λ out. busy out.idle;
                    runs2 = λ out. busy (sym same_cur ∙ out.idle);
                    granted = granted_more clean;
                  };
                  busy = busy;
                })
          ]

        pub items_done : done_items e.m (step nac v).state (step nac v).shown.event ≡ done_items e.m (step a.mac u).state (step a.mac u).shown.event
        items_done = done_same e.m (step a.mac u).state (step nac v).state (step a.mac u).shown.event (step nac v).shown.event (ap (λ (z : State). z.regs) go.nodes.rest) go.event

      -- A step of the turn, in the worlds of both runs.
      module _ (w z : World) (same : SameWorld a nac keys secret w z) (here : slice_get w.nodes e.site.node ≡ Some u) (there : slice_get z.nodes e.site.node ≡ Some v) where
        -- the same items, the same worlds if no `forged` shows, and the same end of a stretch
        pub record StepDone : Type 0 where
          pub items : (after_step (second a nac keys secret) z e.site.node v).items ≡ (after_step a w e.site.node u).items
          pub worlds : Clean (after_step a w e.site.node u).items
              → SameWorld a nac keys secret (after_step a w e.site.node u).world (after_step (second a nac keys secret) z e.site.node v).world
          pub reset : is_reset (step nac v).shown.event ≡ is_reset (step a.mac u).shown.event
          pub cur : (step nac v).state.cur ≡ (step a.mac u).state.cur

        -- where both are reset
        pub both_reset : (ta : NodeTurns a e.site.node u) (tb : NodeTurns (second a nac keys secret) e.site.node v) (both : SameTurn a nac keys secret e.site.node u v) (why : Violation)
            → violation_of (step a.mac u).shown.event ≡ Some why → violation_of (step nac v).shown.event ≡ Some why → StepDone
        both_reset ta tb both why p q =
            let one = violated_step a w n u why p in
            let two = violated_step b z n v why q in
            let node = reset_node a nac keys secret n u v both ta tb in
            record {
              items = ap (λ (r : Acted). r.items) two ∙ sym (ap (λ (r : Acted). r.items) one);
              worlds = λ clean.
                  subst (λ (r : Acted). SameWorld a nac keys secret r.world (after_step b z n v).world) (sym one)
                  (subst (λ (r : Acted). SameWorld a nac keys secret (with_node w n (reset u) w.ledger (w.steps + 1)) r.world) (sym two)
                  (with_same a nac keys secret w z n u v (reset u) (reset v) w.ledger z.ledger (w.steps + 1) (z.steps + 1) same here there (inl node) same.ledger));
              reset = ap is_reset (violates nac v why q).event ∙ sym (ap is_reset (violates a.mac u why p).event);
              cur = ap (λ (s : State). s.cur) (violates nac v why q).state ∙ sym (ap (λ (s : State). s.cur) (violates a.mac u why p).state);
            }

        goes_done : On_a (watched_as a nac keys secret u h.ms h.last) → On_b (watched_as a nac keys secret v h.ns h.last) → (x1 y1 : Watched) (k l : ℕ)
            → watch a.mac (watched_as a nac keys secret u h.ms h.last) ≡ Goes x1 → watch nac (watched_as a nac keys secret v h.ns h.last) ≡ Goes y1
            → Abreast (places a nac keys secret e) x1 y1 → Comes_a a nac keys secret e k x1 → Comes_b a nac keys secret e l y1 → StepDone
        goes_done pw pv x1 y1 k l ex ey go cx cy =
            let ix = watch_goes_on a.mac W x1 ex in
            let iy = watch_goes_on nac V y1 ey in
            from ix.0 iy.0
            (subst (λ (r : Watched). Abreast (places a nac keys secret e) r (watched_next nac v h.ns)) ix.1 (subst (λ (r : Watched). Abreast (places a nac keys secret e) x1 r) iy.1 go))
            (subst (Comes_a a nac keys secret e k) ix.1 cx) (subst (Comes_b a nac keys secret e l) iy.1 cy)
          where
            from : violation_of (step a.mac u).shown.event ≡ None → violation_of (step nac v).shown.event ≡ None
                → Abreast (places a nac keys secret e) (watched_next a.mac u h.ms) (watched_next nac v h.ns)
                → Comes_a a nac keys secret e k (watched_next a.mac u h.ms) → Comes_b a nac keys secret e l (watched_next nac v h.ns) → StepDone
            from quiet quiet2 go cx cy =
                let on = is_out a.mac On_a (Aborted ra) Out_a k (watched_next a.mac u h.ms) cx in
                let on2 = is_out nac On_b (Aborted rb) Out_b l (watched_next nac v h.ns) cy in
                let sa = sections_a pw pv quiet quiet2 go on on2 in
                let sb = sections_b pw pv quiet quiet2 go on on2 in
                let one = after_as a sound e.m e.q e.site e.part e.sited e.sec e.s (stands_a a nac keys secret e sound sound2 unlinked) ra w u h.ms h.first pw.0.inside quiet sa in
                let two = after_as b sound2 e.m e.q e.site e.part e.sited mt t (stands_b a nac keys secret e sound sound2 unlinked) rb z v h.ns h.other pv.0.inside quiet2 sb in
                let seen = seen_same pw pv quiet quiet2 go on on2 w.ledger z.ledger same.ledger in
                let o = marks_observed a.app n e.m e.s.boot dm w.ledger in
                let p = marks_observed a.app n e.m e.s.boot dn z.ledger in
                record {
                  items = ap (λ (r : Acted). r.items) two
                      ∙ ap₂ (λ (i j : List Item). i ++ j) seen.0 (items_done pw pv quiet quiet2 go on on2)
                      ∙ sym (ap (λ (r : Acted). r.items) one);
                  worlds = λ clean.
                      let c : Clean o.items = clean_left o.items (done_items e.m (step a.mac u).state (step a.mac u).shown.event) (subst (λ (r : Acted). Clean r.items) one clean) in
                      subst (λ (r : Acted). SameWorld a nac keys secret r.world (after_step b z n v).world) (sym one)
                      (subst (λ (r : Acted). SameWorld a nac keys secret (with_node w n (step a.mac u).state o.ledger (w.steps + 1)) r.world) (sym two)
                      (with_same a nac keys secret w z n u v (step a.mac u).state (step nac v).state o.ledger p.ledger (w.steps + 1) (z.steps + 1) same here there
                      (nodes_after pw pv quiet quiet2 go on on2 w.ledger z.ledger same.ledger c k l cx cy) seen.1));
                  reset = ap is_reset go.event;
                  cur = ap (λ (s : State). s.cur) go.nodes.rest;
                }

        pub step_done : NodeTurns a e.site.node u → NodeTurns (second a nac keys secret) e.site.node v → SameTurn a nac keys secret e.site.node u v
            → word_outside u.sections.live (pc_of u) ≡ true → StepDone
        step_done ta tb both let_run =
            let p = ahead a.mac On_a (Aborted ra) Out_a h.bound W h.runs h.comes in
            let q = ahead nac On_b (Aborted rb) Out_b h.bound2 V h.runs2 h.comes2 in
            by p.0 q.0 p.1 q.1 (step_alike p.0 q.0 let_run)
          where
            by : On_a (watched_as a nac keys secret u h.ms h.last) → On_b (watched_as a nac keys secret v h.ns h.last)
                → Ahead a.mac On_a (Aborted ra) Out_a (watched_as a nac keys secret u h.ms h.last) → Ahead nac On_b (Aborted rb) Out_b (watched_as a nac keys secret v h.ns h.last)
                → StepAbreast (places a nac keys secret e) (watch a.mac (watched_as a nac keys secret u h.ms h.last)) (watch nac (watched_as a nac keys secret v h.ns h.last)) → StepDone
            by pw pv (Takes x1 k ex cx) (Takes y1 l ey cy) alike =
                goes_done pw pv x1 y1 k l ex ey
                (subst (λ (r : Stepped Watched Violation). StepAbreast (places a nac keys secret e) r (Goes y1)) ex
                (subst (λ (r : Stepped Watched Violation). StepAbreast (places a nac keys secret e) (watch a.mac W) r) ey alike)) cx cy
            by pw pv (Takes x1 k ex cx) (Breaks why ey by_) alike =
                absurd (subst (λ (r : Stepped Watched Violation). StepAbreast (places a nac keys secret e) r (Stops why)) ex
                (subst (λ (r : Stepped Watched Violation). StepAbreast (places a nac keys secret e) (watch a.mac W) r) ey alike))
            by pw pv (Breaks why ex bx) (Takes y1 l ey cy) alike =
                absurd (subst (λ (r : Stepped Watched Violation). StepAbreast (places a nac keys secret e) r (Goes y1)) ex
                (subst (λ (r : Stepped Watched Violation). StepAbreast (places a nac keys secret e) (watch a.mac W) r) ey alike))
            by pw pv (Breaks why ex bx) (Breaks why2 ey by_) alike =
                let same_why : why2 ≡ why = subst (λ (r : Stepped Watched Violation). StepAbreast (places a nac keys secret e) r (Stops why2)) ex
                (subst (λ (r : Stepped Watched Violation). StepAbreast (places a nac keys secret e) (watch a.mac W) r) ey alike) in
                both_reset ta tb both why (watch_stops a.mac W why ex) (watch_stops nac V why2 ey ∙ ap (λ (r : Violation). Some r) same_why)
