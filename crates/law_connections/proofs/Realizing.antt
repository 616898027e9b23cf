-- An image realizes its module, and shows no key, where tags are lawful: the steps of a module derive no key.
use Rattle.std.proofs.Common.{◌≡◌, ℕ, ◌+◌, ◌-◌, ◌==◌, Bool, true, false, cond, not, ◌&&◌, ◌⊎◌, inl, inr, List, [], ◌∷◌, ◌++◌, slice_index, Option, Some, None, refl, sym, ◌∙◌, ap, subst, arith}
use Rattle.std.specs.Prelude.{nat_le}
use Rattle.std.specs.List.{list_any}
use Rattle.sx_lang.specs.Tree.{ModuleTree}
use Rattle.sx_mean.specs.declared.events.End.{End}
use Rattle.sx_rules.specs.declared.access.Access.TheVariants.{Read}
use Rattle.sx_rules.specs.declared.access.Violation.{Violation}
use Rattle.sx_rules.specs.declared.access.Violation.TheVariants as bad
use Rattle.sx_rules.specs.declared.section.Section.{Section}
use Rattle.sx_rules.specs.declared.admission.Refusal.{Refusal}
use Rattle.sx_rules.specs.Access.{holder, section_of, in_order}
use Rattle.sx_rules.specs.Admission.{refusal}
use Rattle.sx_bus.specs.declared.devices.Window.{Window}
use Rattle.sx_bus.specs.Devices.{places_of, device_at}
use Rattle.sx_tag.specs.Mac.{Mac, IsTag}
use Rattle.sx_tag.specs.Keys.{boot_key, attest_tag}
use Rattle.sx_tag.specs.Wrap.{crypt, wrap_tag, unwrapped}
use Rattle.spec_machine.specs.Memory.{word, bytes_from}
use Rattle.spec_machine.specs.Ranges.{passes_end, meets_device}
use Rattle.spec_machine.specs.Plan.{Plan, Done, Tell, Stop, Fetch, Load, Store, Need, Bytes, Writable, Put}
use Rattle.spec_machine.specs.Run.{Moment, Outcome, Finished, Violated, Module, may_range, exec}
use Rattle.spec_machine.specs.Given.{Given, own_section, untouched_with}
use Rattle.spec_machine.specs.Rows.{program}
use Rattle.spec_machine.specs.Protect.{layout_in, protected_if, protect, removed_if, unprotect}
use Rattle.spec_machine.specs.ModuleRows.{answer, within, Buffer, tested, attested, attest, own_key, buffers, wrap, opened, unwrap, module_row}
use Rattle.spec_machine.specs.Modules.{module_instruction}
use Rattle.spec_machine.specs.State.{State}
use Rattle.spec_machine.specs.Step.{pc_of, own_of, start, is_module_word, given_at_pc, instruction, ordered, word_outside, attempt, settled_step, step}
use Rattle.sx_image.specs.Image.{Image, setup_at, call_at, progress_at}
use Rattle.sx_image.specs.Reach.{Comes, Here, Next, Ends, Stepped, Goes, Stops}
use Rattle.sx_image.specs.Realizes.{Underway, Aborted, Exited, Realizes, begins}
use Rattle.sx_image.specs.Watched.{Watched, watch, watched_on, violation_of}
use Rattle.spec_invocation.specs.Progress.{Invoked}
use Rattle.spec_invocation.specs.Setup.{Setup}
use Rattle.spec_invocation.specs.Invocation.{invoke}
use Rattle.sx_lang.specs.Sizes.{module_cost}
use Rattle.sx_tmpl.specs.Unseen.{MovesKey, PlanShowsNone, SealShowsNone, WordShowsNone, StepShowsNone}
use Rattle.sx_tmpl.specs.Performs.{NodeRuns}
use Rattle.sx_compile.specs.Laws.{ShowsNoKey}
use Rattle.spec_run.specs.Law.{IsTagUnder}
use Rattle.spec_run.proofs.Tags.{lawful, is_lawful}
use Rattle.law_connections.proofs.Invoking.{invoke_same}

-- a section was admitted, so that the next id is another, and nothing was violated
abbrev Admits : ℕ → Outcome → Type 0
Admits n (Module regs x t event exchange) = (t.next ≡ n + 1) × (violation_of event ≡ None)
Admits n (Finished regs x) = ⊥
Admits n (Violated v) = ⊥

-- two outcomes are the same, or the first is of a section that was admitted
abbrev Same : ℕ → Outcome → Outcome → Type 0
Same n o p = (o ≡ p) ⊎ Admits n o

if_is : (n : ℕ) (b : Bool) (o p q r : Outcome) → Same n o p → Same n q r → Same n (cond b o q) (cond b p r)
if_is n true o p q r h f = h
if_is n false o p q r h f = f

module _ (mac : Mac) where
  -- Plans that do the same.
  module _ (g : Given) (base : List ℕ) where
    -- the same, with another key of the node
    abbrev other : Given
    other = record g { base = base }

    abbrev Alike : Plan → Plan → Type 0
    Alike p q = (x : Moment) → exec g.sections g.own p x ≡ exec g.sections g.own q x

    need_ : (b : Bool) (v : Violation) (p q : Plan) → Alike p q → Alike (Need b v p) (Need b v q)
    need_ b v p q h x = ap (λ (o : Outcome). cond b o (Violated v)) (h x)

    bytes_ : (at n : ℕ) (k l : List ℕ → Plan) → ((bs : List ℕ) → Alike (k bs) (l bs)) → Alike (Bytes at n k) (Bytes at n l)
    bytes_ at n k l h x = ap (λ (o : Outcome). cond (may_range g.sections.live g.own Read at n) o (Violated bad.Read)) (h (bytes_from x.mem at n) x)

    tested_ : (bs : List Buffer) (p q : Plan) → Alike p q → Alike (tested g bs p) (tested g bs q)
    tested_ bs p q h =
        let in_memory = not (list_any (λ (b : Buffer). passes_end b.at b.count) bs) in
        let off_devices = not (list_any (λ (b : Buffer). meets_device (places_of g.devices) b.at b.count) bs) in
        need_ in_memory bad.Range (Need off_devices bad.Device p) (Need off_devices bad.Device q) (need_ off_devices bad.Device p q h)

    attested_is : (own : Section) (tag : List ℕ) (o : Option Section) → Alike (attested (lawful mac) other own tag o) (attested mac g own tag o)
    unfolding attest_tag
    attested_is own tag None x = refl
    attested_is own tag (Some s) x = refl

    attest_is : (own : Section) → Alike (attest (lawful mac) other own) (attest mac g own)
    attest_is own =
        let found = section_of g.sections.live (holder g.sections.live (slice_index g.regs 9)) in
        let k : List ℕ → Plan = λ tag. attested (lawful mac) other own tag found in
        let l : List ℕ → Plan = λ tag. attested mac g own tag found in
        tested_ (record { at = slice_index g.regs 10; count = 16 } ∷ []) (Bytes (slice_index g.regs 10) 16 k) (Bytes (slice_index g.regs 10) 16 l)
        (bytes_ (slice_index g.regs 10) 16 k l (λ tag. attested_is own tag found))

    wrap_is : (own : Section) → Alike (wrap (lawful mac) other own) (wrap mac g own)
    unfolding crypt wrap_tag
    wrap_is own x = refl

    opened_is : (ad : List ℕ) (o : Option (List ℕ)) → opened other ad o ≡ opened g ad o
    opened_is ad None = refl
    opened_is ad (Some body) = refl

    -- once a tag was read
    abbrev after : Mac → Given → List ℕ → List ℕ → List ℕ → List ℕ → Plan
    after m h key ad cipher tag = Writable (slice_index g.regs 14) (slice_index g.regs 13) (opened h ad (unwrapped m key ad cipher tag))

    after_is : (key ad cipher tag : List ℕ) → Alike (after (lawful mac) other key ad cipher tag) (after mac g key ad cipher tag)
    unfolding unwrapped crypt wrap_tag
    after_is key ad cipher tag x =
        ap (λ (p : Plan). exec g.sections g.own (Writable (slice_index g.regs 14) (slice_index g.regs 13) p) x) (opened_is ad (unwrapped mac key ad cipher tag))

    -- once the key was read
    abbrev text_of : Mac → Given → List ℕ → List ℕ → List ℕ → Plan
    text_of m h key ad text = Bytes (slice_index g.regs 15) 16 (after m h key ad text)

    abbrev header_of : Mac → Given → List ℕ → List ℕ → Plan
    header_of m h key ad = Bytes (slice_index g.regs 12) (slice_index g.regs 13) (text_of m h key ad)

    abbrev behind : Mac → Given → List ℕ → Plan
    behind m h key = Bytes (slice_index g.regs 10) (slice_index g.regs 11) (header_of m h key)

    behind_is : (key : List ℕ) → Alike (behind (lawful mac) other key) (behind mac g key)
    behind_is key =
        bytes_ (slice_index g.regs 10) (slice_index g.regs 11) (header_of (lawful mac) other key) (header_of mac g key) (λ ad.
        bytes_ (slice_index g.regs 12) (slice_index g.regs 13) (text_of (lawful mac) other key ad) (text_of mac g key ad) (λ text.
        bytes_ (slice_index g.regs 15) 16 (after (lawful mac) other key ad text) (after mac g key ad text) (after_is key ad text)))

    -- the key is the module's own, or read
    abbrev keyed : Mac → Given → Section → Bool → Plan
    keyed m h own b = cond b (behind m h own.key) (Bytes (slice_index g.regs 9) 16 (behind m h))

    keyed_is : (own : Section) (b : Bool) → Alike (keyed (lawful mac) other own b) (keyed mac g own b)
    keyed_is own true = behind_is own.key
    keyed_is own false = bytes_ (slice_index g.regs 9) 16 (behind (lawful mac) other) (behind mac g) behind_is

    unwrap_is : (own : Section) → Alike (unwrap (lawful mac) other own) (unwrap mac g own)
    unwrap_is own =
        let p = keyed (lawful mac) other own (own_key g.regs) in
        let q = keyed mac g own (own_key g.regs) in
        need_ (nat_le (slice_index g.regs 11) 32 && nat_le (slice_index g.regs 13) 32) bad.Range (tested g (buffers g.regs) p) (tested g (buffers g.regs) q)
        (tested_ (buffers g.regs) p q (keyed_is own (own_key g.regs)))

    within_is : (f h : Section → Plan) (o : Option Section) → ((own : Section) → Alike (f own) (h own)) → Alike (within other f o) (within g h o)
    within_is f h None e x = refl
    within_is f h (Some own) e x = e own x

    either_is : (b : Bool) (p q r s : Plan) → Alike p q → Alike r s → Alike (cond b p r) (cond b q s)
    either_is true p q r s h f = h
    either_is false p q r s h f = f

    row_is : (code : ℕ) → Alike (module_row (lawful mac) code other) (module_row mac code g)
    unfolding module_row
    row_is code =
        let own = own_section g in
        let a2 = within other (attest (lawful mac) other) own in
        let b2 = within g (attest mac g) own in
        let a4 = within other (wrap (lawful mac) other) own in
        let b4 = within g (wrap mac g) own in
        let a5 = within other (unwrap (lawful mac) other) own in
        let b5 = within g (unwrap mac g) own in
        let a6 = answer other (holder g.sections.live (slice_index g.regs 9)) in
        let b6 = answer g (holder g.sections.live (slice_index g.regs 9)) in
        let a7 = within other (λ own. answer other g.caller) own in
        let b7 = within g (λ own. answer g g.caller) own in
        either_is (code == 2) a2 b2
        (cond (code == 4) a4 (cond (code == 5) a5 (cond (code == 6) a6 a7))) (cond (code == 4) b4 (cond (code == 5) b5 (cond (code == 6) b6 b7)))
        (within_is (attest (lawful mac) other) (attest mac g) own attest_is)
        (either_is (code == 4) a4 b4 (cond (code == 5) a5 (cond (code == 6) a6 a7)) (cond (code == 5) b5 (cond (code == 6) b6 b7))
        (within_is (wrap (lawful mac) other) (wrap mac g) own wrap_is)
        (either_is (code == 5) a5 b5 (cond (code == 6) a6 a7) (cond (code == 6) b6 b7)
        (within_is (unwrap (lawful mac) other) (unwrap mac g) own unwrap_is)
        (either_is (code == 6) a6 b6 a7 b7 (λ x. refl)
        (within_is (λ own. answer other g.caller) (λ own. answer g g.caller) own (λ own x. refl)))))

    removed_is : (mem : List ℕ) (o : Option Section) → removed_if other mem o ≡ removed_if g mem o
    removed_is mem None = refl
    removed_is mem (Some own) = refl

    protected_is : (mem : List ℕ) (o : Option Refusal) → Same g.sections.next (protected_if (lawful mac) other mem (layout_in g.regs) o) (protected_if mac g mem (layout_in g.regs) o)
    protected_is mem None = inr (refl, refl)
    protected_is mem (Some why) = inl refl

    pub instruction_is : (code : ℕ) (mem : List ℕ) → Same g.sections.next (module_instruction (lawful mac) code other mem) (module_instruction mac code g mem)
    unfolding unprotect protect
    instruction_is code mem =
        let x = untouched_with g mem in
        let rows = exec g.sections g.own (module_row (lawful mac) code other) x in
        let rowt = exec g.sections g.own (module_row mac code g) x in
        if_is g.sections.next (code == 0) (unprotect other mem) (unprotect g mem) (cond (code == 1) (protect (lawful mac) other mem) rows) (cond (code == 1) (protect mac g mem) rowt)
        (inl (removed_is mem (own_section g)))
        (if_is g.sections.next (code == 1) (protect (lawful mac) other mem) (protect mac g mem) rows rowt
        (protected_is mem (refusal g.sections (layout_in g.regs) (places_of g.devices)))
        (inl (row_is code x)))

  -- Steps.

  ordered_is : (s : State) (d : Option ℕ) → Same s.sections.next (ordered (lawful mac) s d) (ordered mac s d)
  ordered_is s (Some d) = inl refl
  ordered_is s None =
      let w = word s.mem (pc_of s) in
      if_is s.sections.next (in_order s.sections.live s.cur (pc_of s)) (instruction (lawful mac) s) (instruction mac s) (Violated bad.Order) (Violated bad.Order)
      (if_is s.sections.next (is_module_word w) (module_instruction (lawful mac) (w - 0x1380) (given_at_pc (lawful mac) s) s.mem) (module_instruction mac (w - 0x1380) (given_at_pc mac s) s.mem)
      (exec s.sections (own_of s) (program w s.regs) (start s)) (exec s.sections (own_of s) (program w s.regs) (start s))
      (instruction_is (given_at_pc mac s) (boot_key (lawful mac) s.key s.boot) (w - 0x1380) s.mem) (inl refl)) (inl refl)

  attempt_is : (s : State) → Same s.sections.next (attempt (lawful mac) s) (attempt mac s)
  attempt_is s =
      if_is s.sections.next (word_outside s.sections.live (pc_of s)) (ordered (lawful mac) s (device_at s.devices (pc_of s))) (ordered mac s (device_at s.devices (pc_of s)))
      (Violated bad.Fetch) (Violated bad.Fetch) (ordered_is s (device_at s.devices (pc_of s))) (inl refl)

  -- the step admits a section
  record Admitted (s : State) : Type 0 where
    next : (step (lawful mac) s).state.sections.next ≡ s.sections.next + 1
    clean : violation_of (step (lawful mac) s).shown.event ≡ None

  admitted : (s : State) (o : Outcome) → attempt (lawful mac) s ≡ o → Admits s.sections.next o → Admitted s
  admitted s (Module regs x t event exchange) e h = record {
    next = ap (λ (o : Outcome). (settled_step s o).state.sections.next) e ∙ h.0;
    clean = ap (λ (o : Outcome). violation_of (settled_step s o).shown.event) e ∙ h.1;
  }
  admitted s (Finished regs x) e h = absurd h
  admitted s (Violated v) e h = absurd h

  step_is : (s : State) → (step (lawful mac) s ≡ step mac s) ⊎ Admitted s
  step_is s = elim (attempt_is s) [
    | inl e ↦ inl (ap (settled_step s) e)
    | inr h ↦ inr (admitted s (attempt (lawful mac) s) refl h)
  ]

  -- Runs.

  watched_is : (w : Watched) → (watch (lawful mac) w ≡ watch mac w) ⊎ Admitted w.node
  unfolding watch
  watched_is w = elim (step_is w.node) [
    | inl e ↦ inl (ap (λ x. watched_on w x (violation_of x.shown.event)) e)
    | inr h ↦ inr h
  ]

  abbrev going : Watched → Stepped Watched Violation
  going w = Goes w

  going_same : (a b : Watched) → going a ≡ going b → a ≡ b
  going_same a b e = cc

  grows : (w t : Watched) → Admitted w.node → watch (lawful mac) w ≡ Goes t → t.node.sections.next ≡ w.node.sections.next + 1
  unfolding watch
  grows w t h e =
      let x = step (lawful mac) w.node in
      let to : Watched = record { node = x.state; marks = w.marks ++ Rattle.sx_image.specs.Watched.marks_of x.shown x.state.exchange; event = x.shown.event } in
      let goes : going to ≡ going t = sym (ap (λ (o : Option Violation). watched_on w x o) h.clean) ∙ e in
      ap (λ (z : Watched). z.node.sections.next) (sym (going_same to t goes)) ∙ h.next

  stops : (w : Watched) (v : Violation) → Admitted w.node → watch (lawful mac) w ≡ Stops v → ⊥
  unfolding watch
  stops w v h e =
      let x = step (lawful mac) w.node in
      let goes : watched_on w x None ≡ Stops v = sym (ap (λ (o : Option Violation). watched_on w x o) h.clean) ∙ e in
      absurd cc

  module _ (tree : ModuleTree) (ends : List End) (section : Section) (n : State) (result : Invoked) where
    abbrev Under : Mac → Watched → Type 0
    Under m = Underway (setup_at m tree ends section n) result n

    abbrev Left : Mac → Watched → Type 0
    Left m = Exited (setup_at m tree ends section n) result n

    under : (w : Watched) → Under (lawful mac) w → Under mac w
    under w h = record { inside = h.inside; sections = h.sections; outside = h.outside; marks = h.marks }

    left : (w : Watched) → Left (lawful mac) w → Left mac w
    left w h = record {
      status = h.status;
      progress = h.progress;
      returns = h.returns;
      left = h.left;
      idle = h.idle;
      registers = h.registers;
      state = h.state;
      sections = h.sections;
      outside = h.outside;
      pieces = h.pieces;
      marks = h.marks;
    }

    -- a run whose moments are of the invocation
    module _ (P Q : Watched → Type 0) (turn : (w : Watched) → P w → Q w) (still : (w : Watched) → P w → w.node.sections ≡ n.sections) where
      abbrev First : ℕ → Watched → Type 0
      First = Comes Watched Violation (watch (lawful mac)) (λ w. 1) P (Aborted result) (Left (lawful mac))

      abbrev Second : ℕ → Watched → Type 0
      Second = Comes Watched Violation (watch mac) (λ w. 1) Q (Aborted result) (Left mac)

      stays : {k : ℕ} {w : Watched} → First k w → w.node.sections ≡ n.sections
      stays (Here q) = q.sections
      stays {w = w} (Next p s c rest) = still w p
      stays {w = w} (Ends p s c b) = still w p

      turned : {k : ℕ} {w : Watched} → First k w → Second k w
      turned {w = w} (Here q) = Here (left w q)
      turned {w = w} (Next {t = t} p s c rest) = elim (watched_is w) [
        | inl e ↦ Next (turn w p) (sym e ∙ s) c (turned rest)
        | inr h ↦ absurd (omega (arith, grows w t h s, ap (λ z. z.next) (still w p), ap (λ z. z.next) (stays rest)))
      ]
      turned {w = w} (Ends {v = v} p s c b) = elim (watched_is w) [
        | inl e ↦ Ends (turn w p) (sym e ∙ s) c b
        | inr h ↦ absurd (stops w v h s)
      ]

    -- Steps that show no key.

    abbrev one : Setup
    one = setup_at (lawful mac) tree ends section n

    abbrev two : Setup
    two = setup_at mac tree ends section n

    moves : (devices : List Window) (at : ℕ) (k : ℕ → Plan) → MovesKey one devices at k → MovesKey two devices at k
    moves devices at k h = record { from = h.from; at = h.at; o = h.o; regs = h.regs; is = h.is; place = h.place; free = h.free; key = h.key }

    plan_shows : (p : Plan) (x : Moment) → PlanShowsNone one p x → PlanShowsNone two p x
    plan_shows (Done regs) x h = tt
    plan_shows (Tell regs event exchange) x h = h
    plan_shows (Stop v) x h = tt
    plan_shows (Fetch at k) x h = λ w e. plan_shows (k w) x (h w e)
    plan_shows (Load true at k) x (inl m) = inl (moves x.devices at k m)
    plan_shows (Load true at k) x (inr h) = inr (h.0, λ v y e. plan_shows (k v) y (h.1 v y e))
    plan_shows (Load false at k) x h = (h.0, λ v y e. plan_shows (k v) y (h.1 v y e))
    plan_shows (Store wide at v k) x h = λ y e. plan_shows k y (h y e)
    plan_shows (Need b v k) x h = λ e. plan_shows k x (h e)
    plan_shows (Writable at m k) x h = h
    plan_shows (Bytes at m k) x h = h
    plan_shows (Put at bs k) x h = h

    seal_shows : (w : Watched) (i : ℕ) (regs : List ℕ) → SealShowsNone one n.mem w i regs → SealShowsNone two n.mem w i regs
    seal_shows w i regs h = record {
      seals = h.seals;
      key = elim h.key [ inl e ↦ inl e | inr k ↦ inr (k.0, k.1, k.2, record { is_open = k.3.is_open; key = k.3.key }) ];
      header = h.header;
      text = h.text;
      bodiless = h.bodiless;
      tag = h.tag;
      opened = h.opened;
    }

    step_shows : (w : Watched) → StepShowsNone one n.mem w → StepShowsNone two n.mem w
    step_shows w = by (is_module_word i)
      where
        i : ℕ
        i = word w.node.mem (pc_of w.node)

        by : (b : Bool) → WordShowsNone one n.mem w i b → WordShowsNone two n.mem w i b
        by true h = seal_shows w i w.node.regs h
        by false h = plan_shows (program i w.node.regs) (start w.node) h

  pub realizes : (tree : ModuleTree) (ends : List End) (image : Image) → Realizes (lawful mac) tree ends image → Realizes mac tree ends image
  realizes tree ends image h = record {
    weight = h.weight;
    zeros = h.zeros;
    runs = λ section n enters.
        let su = setup_at mac tree ends section n in
        let result = invoke (setup_at (lawful mac) tree ends section n) (call_at n) (progress_at su n) in
        subst (λ (r : Invoked). Comes Watched Violation (watch mac) (λ w. 1) (Underway su r n) (Aborted r) (Exited su r n) (4096 + module_cost tree) (begins n))
        (invoke_same su (call_at n) (progress_at su n))
        (turned tree ends section n result (Under tree ends section n result (lawful mac)) (Under tree ends section n result mac) (under tree ends section n result) (λ w p. p.sections) (h.runs section n enters));
  }

  pub shows : (tree : ModuleTree) (ends : List End) (image : Image) → ShowsNoKey (lawful mac) tree ends image → ShowsNoKey mac tree ends image
  shows tree ends image h = record {
    runs = λ section n enters.
        let su = setup_at mac tree ends section n in
        let sv = setup_at (lawful mac) tree ends section n in
        let result = invoke sv (call_at n) (progress_at su n) in
        subst (λ (r : Invoked). NodeRuns su r n (Aborted r) (Exited su r n) (4096 + module_cost tree) (begins n))
        (invoke_same su (call_at n) (progress_at su n))
        (turned tree ends section n result (λ w. Underway sv result n w × StepShowsNone sv n.mem w) (λ w. Underway su result n w × StepShowsNone su n.mem w)
        (λ w p. (under tree ends section n result w p.0, step_shows tree ends section n result w p.1)) (λ w p. p.0.sections) (h.runs section n enters));
  }

-- Of every lawful tag function, so of one that is lawful where it makes tags.
module _ (secret : List ℕ) (mac : Mac) (tag : IsTagUnder secret mac) (tree : ModuleTree) (ends : List End) (image : Image) where
  pub realizes_so : ((nac : Mac) → IsTag nac → Realizes nac tree ends image) → Realizes mac tree ends image
  realizes_so always = realizes mac tree ends image (always (lawful mac) (is_lawful secret mac tag))

  pub shows_under : ((nac : Mac) → IsTag nac → ShowsNoKey nac tree ends image) → ShowsNoKey mac tree ends image
  shows_under hides = shows mac tree ends image (hides (lawful mac) (is_lawful secret mac tag))
