-- A step of code of no deployed module does the same where deployed modules' bytes and keys differ.
use Rattle.std.proofs.Common.{◌≡◌, ℕ, ◌+◌, ◌-◌, ◌<◌, ◌≤◌, Bool, true, false, cond, not, ◌&&◌, inl, inr, ◌⊎◌, List, [], ◌∷◌, slice_index, Option, Some, None, is_some, refl, sym}
use Rattle.std.proofs.Common.{◌∙◌, ap, subst, arith}
use Rattle.std.specs.Prelude.{nat_le, nat_lt, option_and_then}
use Rattle.std.proofs.lemmas.Bool.{and_parts, and_from, true≢false, false_from_ne_true, leb-true, le-leb, lt-ltb}
use Rattle.spec_machine.proofs.Meanings.{same_bytes}
use Rattle.sx_rules.specs.declared.access.Access.TheVariants.{Write}
use Rattle.sx_rules.specs.declared.access.Violation.{Violation}
use Rattle.sx_rules.specs.declared.access.Violation.TheVariants as bad
use Rattle.sx_rules.specs.declared.section.Section.{Section}
use Rattle.sx_rules.specs.Access.{Sections, may, in_private, holder, in_order, outside_private, section_of, Lives}
use Rattle.sx_rules.specs.Placed.{Placed}
use Rattle.sx_rules.proofs.Placing.{placed_found}
use Rattle.sx_bus.specs.Devices.{device_at}
use Rattle.sx_tag.specs.Mac.{Mac}
use Rattle.sx_tag.specs.Keys.{boot_key, section_key, module_key}
use Rattle.spec_machine.specs.declared.kinds.Event.{Event}
use Rattle.spec_machine.specs.declared.kinds.Event.TheVariants.{Reset}
use Rattle.spec_machine.specs.declared.kinds.Exchange.{Exchange}
use Rattle.spec_machine.specs.Memory.{even, word}
use Rattle.spec_machine.specs.State.{State, reset}
use Rattle.spec_machine.specs.Given.{Given}
use Rattle.spec_machine.specs.Rows.{program}
use Rattle.spec_machine.specs.Run.{Moment, untouched, Outcome, Finished, Violated, Module, exec}
use Rattle.spec_machine.specs.Modules.{is_code, module_instruction}
use Rattle.spec_machine.specs.Step.{Shown, pc_of, own_of, start, is_module_word, entered_from, given_at_pc, instruction, ordered, word_outside, is_let_run, attempt, state_after, settled_step}
use Rattle.spec_machine.specs.Step.{step}
use Rattle.spec_machine.specs.Frame.{Framed}
use Rattle.spec_machine.proofs.PlanGuard.{with_mem, barred}
use Rattle.spec_machine.proofs.Frame.{steps_framed}
use Rattle.spec_machine.proofs.PublicKept.{framed_public}
use Rattle.spec_run.specs.Setting.{Site, module_of, deployed}
use Rattle.law_forgery.specs.Tags.{SameTags}
use Rattle.sx_tmpl.specs.Steady.{AgreeAt}
use Rattle.law_connections.proofs.Outside.{Kind, sites_on, text_at, is_deployed, Unhidden, SameSections, InWords, AlikeOutside, UsesKey, given_layout, NoGuess, OutsidersSeeTheSame, IsUntouched}
use Rattle.law_connections.proofs.Outside.{OutsidersTouchNone}
use Rattle.law_forgery.proofs.Steps.{ended, caller_like, left_like}
use Rattle.law_forgery.proofs.Tables.{LikeAll, may_like, holder_like, in_order_like, word_outside_like}
use Rattle.sx_tmpl.proofs.Agreeing.{agree_fewer, agree_self, word_agree}
use Rattle.law_connections.proofs.Opened.{IsOutsider, outside_open, blank_mac, blank_all, same_hides}
use Rattle.law_connections.proofs.Blind.{AreZero, Grown, grown_self, SameOutcome, ifs_same, same_blind}
use Rattle.law_connections.proofs.Outsiders.{instruction_blind}

-- the node with other memory, keys and sections, and another exchange
abbrev pub with_hidden : State → List ℕ → List ℕ → Sections → Exchange → State
with_hidden s n key u c = record s { mem = n; sections = u; key = key; exchange = c }

module _ (mac nac : Mac) (kind : Kind) (s : State) (n key : List ℕ) (u : Sections) (exchange : Exchange)
    (placed : Placed s.sections)
    (same : SameSections mac nac (is_deployed kind s.mem) s.sections.live u.live) (next : u.next ≡ s.sections.next)
    (agree : AgreeAt (Unhidden (is_deployed kind s.mem) s.sections.live) s.mem n) where
  abbrev hides : Section → Bool
  hides = is_deployed kind s.mem

  abbrev twin : State
  twin = with_hidden s n key u exchange

  abbrev Match : Outcome → Outcome → Type 0
  Match o p = SameOutcome mac nac hides s.sections.live s.mem o p

  Blank : LikeAll blank_mac blank_mac s.sections.live u.live
  Blank = blank_all mac nac hides s.sections.live u.live same

  own_same : own_of twin ≡ own_of s
  own_same = holder_like blank_mac blank_mac s.sections.live u.live (pc_of s) Blank

  -- Of code that belongs to no deployed module.
  module _ (words : (r : ℕ) → slice_index s.regs r < 65536)
      (bare : (x : Section) → section_of s.sections.live (own_of s) ≡ Some x → hides x ≡ false) (guess : NoGuess mac nac kind s key) where
    outsider : IsOutsider hides s.sections.live (own_of s)
    outsider x l h e = true≢false (sym h ∙ bare x (ap (section_of s.sections.live) e ∙ placed_found s.sections x placed l))

    -- what an instruction is given, of this module, which that one entered
    abbrev given : ℕ → ℕ → Given
    given own caller = record { regs = s.regs; devices = s.devices; sections = u; own = own; caller = caller; base = boot_key nac key s.boot; exchange = exchange }

    new_keys : word s.mem (pc_of s) ≡ 0x1381 → InWords (given_layout s.regs) → kind (given_layout s.regs) (slice_index s.regs 9) (text_at s.mem (given_layout s.regs)) ≡ false
        → (let id = Rattle.spec_machine.specs.Protect.identity_at s.mem (given_layout s.regs) in
        SameTags mac (section_key mac (boot_key mac s.key s.boot) (slice_index s.regs 9) id) nac (section_key nac (boot_key nac key s.boot) (slice_index s.regs 9) id))
    unfolding module_key
    new_keys is in_words h = guess.admitted is in_words h

    module_word_same : (w : ℕ) → w ≡ word s.mem (pc_of s) → is_module_word w ≡ true
        → Match (module_instruction mac (w - 0x1380) (given_at_pc mac s) s.mem) (module_instruction nac (w - 0x1380) (given_at_pc nac twin) n)
    module_word_same w e is =
        let code = w - 0x1380 in
        subst (λ (own : ℕ). Match (module_instruction mac code (given_at_pc mac s) s.mem) (module_instruction nac code (given own (entered_from twin own)) n)) (sym own_same)
        (subst (λ (c : ℕ). Match (module_instruction mac code (given_at_pc mac s) s.mem) (module_instruction nac code (given (own_of s) c) n)) (sym (caller_like blank_mac blank_mac s u Blank (own_of s)))
        (instruction_blind mac nac hides (given_at_pc mac s) u (boot_key nac key s.boot) exchange s.mem n same next outsider agree code bare
        (λ c. new_keys (admits c) (record { pub_from = words 10; pub_to = words 11; priv_from = words 12; priv_to = words 13 }))
        (λ x found uses. guess.held (uses_key uses) x found)))
      where
        above : 0x1380 ≤ w
        above = leb-true 0x1380 w (and_parts (nat_le 0x1380 w) (is_code (w - 0x1380)) is).0

        admits : (w - 0x1380) ≡ 1 → word s.mem (pc_of s) ≡ 0x1381
        admits c = sym e ∙ omega (arith, c, above)

        uses_key : ((w - 0x1380) ≡ 4) ⊎ ((w - 0x1380) ≡ 5) → UsesKey (word s.mem (pc_of s))
        uses_key (inl f) = inl (sym e ∙ omega (arith, f, above))
        uses_key (inr f) = inr (sym e ∙ omega (arith, f, above))

    plain_same : (w : ℕ) → Match (exec s.sections (own_of s) (program w s.regs) (start s)) (exec u (own_of twin) (program w s.regs) (start twin))
    plain_same w =
        subst (λ (own : ℕ). Match (exec s.sections (own_of s) (program w s.regs) (start s)) (exec u own (program w s.regs) (start twin))) (sym own_same)
        (same_blind mac nac hides s.mem s.sections u same next (own_of s) outsider (program w s.regs) (start s) n agree)

    -- the instruction whose first word is w
    abbrev at_word : Mac → State → ℕ → Outcome
    at_word f a w = cond (is_module_word w) (module_instruction f (w - 0x1380) (given_at_pc f a) a.mem) (exec a.sections (own_of a) (program w a.regs) (start a))

    at_word_same : (w : ℕ) → w ≡ word s.mem (pc_of s) → Match (at_word mac s w) (at_word nac twin w)
    at_word_same w e =
        by (is_module_word w) (module_instruction mac (w - 0x1380) (given_at_pc mac s) s.mem) (module_instruction nac (w - 0x1380) (given_at_pc nac twin) n)
        (exec s.sections (own_of s) (program w s.regs) (start s)) (exec u (own_of twin) (program w s.regs) (start twin)) (module_word_same w e) (plain_same w)
      where
        by : (b : Bool) (o p q r : Outcome) → (b ≡ true → Match o p) → Match q r → Match (cond b o q) (cond b p r)
        by true o p q r h f = h refl
        by false o p q r h f = f

    ordered_same : (d : Option ℕ) → word s.mem (pc_of s) ≡ word n (pc_of s) → Match (ordered mac s d) (ordered nac twin d)
    ordered_same (Some d) e = refl
    ordered_same None e =
        ifs_same mac nac hides s.sections.live s.mem (in_order s.sections.live s.cur (pc_of s)) (in_order u.live s.cur (pc_of s)) (instruction mac s) (instruction nac twin) bad.Order
        (in_order_like blank_mac blank_mac s.sections.live u.live s.cur (pc_of s) Blank)
        (λ _. subst (λ (w : ℕ). Match (at_word mac s (word s.mem (pc_of s))) (at_word nac twin w)) e (at_word_same (word s.mem (pc_of s)) refl))

    pub attempt_same : Match (attempt mac s) (attempt nac twin)
    attempt_same =
        let live = s.sections.live in
        let pc = pc_of s in
        ifs_same mac nac hides live s.mem (word_outside live pc) (word_outside u.live pc) (ordered mac s (device_at s.devices pc)) (ordered nac twin (device_at s.devices pc)) bad.Fetch
        (word_outside_like blank_mac blank_mac live u.live pc Blank) (λ e.
        let p = and_parts (outside_private live (even pc)) (outside_private live (even pc + 1)) e in
        ordered_same (device_at s.devices pc) (word_agree (Unhidden hides live) s.mem n pc agree (outside_open hides live (even pc) p.0, outside_open hides live (even pc + 1) p.1)))

  -- Of an instruction that isn't let run.

  pub stopped_same : is_let_run s ≡ false → Match (attempt mac s) (attempt nac twin)
  stopped_same stopped =
      ifs_same mac nac hides s.sections.live s.mem (word_outside s.sections.live (pc_of s)) (word_outside u.live (pc_of s)) (ordered mac s (device_at s.devices (pc_of s)))
      (ordered nac twin (device_at s.devices (pc_of s))) bad.Fetch (word_outside_like blank_mac blank_mac s.sections.live u.live (pc_of s) Blank)
      (λ e. inner (device_at s.devices (pc_of s)) (ap (λ (b : Bool). b && (not (is_some (device_at s.devices (pc_of s))) && in_order s.sections.live s.cur (pc_of s))) (sym e) ∙ stopped))
    where
      inner : (d : Option ℕ) → (not (is_some d) && in_order s.sections.live s.cur (pc_of s)) ≡ false → Match (ordered mac s d) (ordered nac twin d)
      inner (Some d) e = refl
      inner None e =
          ifs_same mac nac hides s.sections.live s.mem (in_order s.sections.live s.cur (pc_of s)) (in_order u.live s.cur (pc_of s)) (instruction mac s) (instruction nac twin) bad.Order
          (in_order_like blank_mac blank_mac s.sections.live u.live s.cur (pc_of s) Blank) (λ t. absurd (true≢false (sym t ∙ e)))

  -- What is there afterwards.

  -- a section that was live before and is live now has the text of before
  text_kept : (after : State) → Framed s.sections.live (own_of s) s.mem after.mem ⊎ (after ≡ reset s) → (z : Section) → Lives s.sections.live z → Lives after.sections.live z
      → text_at after.mem z.layout ≡ text_at s.mem z.layout
  text_kept after (inl f) z l g =
      same_bytes s.mem after.mem z.layout.pub_from (z.layout.pub_to - z.layout.pub_from) (λ k a b.
      framed_public s.sections.live (own_of s) z s.mem after.mem l f k
      (and_from (nat_le z.layout.pub_from k) (nat_lt k z.layout.pub_to) (le-leb z.layout.pub_from k a) (lt-ltb k z.layout.pub_to (below k a b))))
    where
      below : (k : ℕ) → z.layout.pub_from ≤ k → k < z.layout.pub_from + (z.layout.pub_to - z.layout.pub_from) → k < z.layout.pub_to
      below k a b = omega (arith, a, b)
  text_kept after (inr e) z l g = absurd (subst (λ (a : State). Lives a.sections.live z) e g)

  abbrev IsFramed : State → Type 0
  IsFramed after = Framed s.sections.live (own_of s) s.mem after.mem ⊎ (after ≡ reset s)

  -- whoever hid still does, and nobody else
  status_kept : (after : State) (n' : List ℕ) → IsFramed after → Grown hides s.sections.live after.sections.live s.mem after.mem n' → (z : Section) → Lives after.sections.live z
      → is_deployed kind after.mem z ≡ hides z
  status_kept after n' f g z l = ap (kind z.layout z.provider) (elim (g.known z l) [ inl o ↦ text_kept after f z o l | inr e ↦ e.0 ])

  after_same : (regs : List ℕ) (x : Moment) (o : List ℕ) (v w : Sections) (c d : Exchange) → AgreeAt (Unhidden hides s.sections.live) x.mem o
      → SameSections mac nac hides v.live w.live → w.next ≡ v.next → Grown hides s.sections.live v.live s.mem x.mem o
      → IsFramed (state_after s (own_of s) regs x v c)
      → AlikeOutside mac nac kind (state_after s (own_of s) regs x v c) (state_after twin (own_of twin) regs (with_mem x o) w d)
  after_same regs x o v w c d mem secs e grown framed =
      let at = holder v.live (slice_index regs 0) in
      let after = state_after s (own_of s) regs x v c in
      let kept = status_kept after o framed grown in
      subst (λ (own : ℕ). AlikeOutside mac nac kind after (ended twin w regs (with_mem x o) d own (holder w.live (slice_index regs 0)) (entered_from twin own))) (sym own_same)
      (subst (λ (a : ℕ). AlikeOutside mac nac kind after (ended twin w regs (with_mem x o) d (own_of s) a (entered_from twin (own_of s))))
      (sym (holder_like blank_mac blank_mac v.live w.live (slice_index regs 0) (blank_all mac nac hides v.live w.live secs)))
      (subst (λ (i : ℕ). AlikeOutside mac nac kind after (ended twin w regs (with_mem x o) d (own_of s) at i)) (sym (caller_like blank_mac blank_mac s u Blank (own_of s)))
      (record {
        rest = refl;
        mem = agree_fewer (Unhidden hides s.sections.live) (Unhidden (is_deployed kind x.mem) v.live) x.mem o
            (λ k f. grown.hidden k (λ z l h. f z l (kept z l ∙ h))) mem;
        sections = same_hides mac nac hides (is_deployed kind x.mem) v.live w.live kept secs;
        next = e;
      })))

  pub reset_same : AlikeOutside mac nac kind (reset s) (reset twin)
  reset_same = record {
    rest = refl;
    mem = agree_self (Unhidden (is_deployed kind (reset s).mem) []) (reset s).mem;
    sections = tt;
    next = refl;
  }

  -- what is shown is the same, and the nodes are again so related
  abbrev pub SameShown : {T : Type 0} → Shown T → Shown T → Type 0
  SameShown x y = (x.shown ≡ y.shown) × AlikeOutside mac nac kind x.state y.state

  settled_same : (o p : Outcome) → IsFramed (settled_step s o).state → Match o p → SameShown (settled_step s o) (settled_step twin p)
  settled_same (Finished r x) (Finished q y) f h =
      subst (λ (z : List ℕ). SameShown (settled_step s (Finished r x)) (settled_step twin (Finished z y))) h.0
      (subst (λ (z : Moment). SameShown (settled_step s (Finished r x)) (settled_step twin (Finished r z))) (sym h.1.rest) (
        ap (λ (e : Event). record { touch = x.touches; event = e }) (left_like blank_mac blank_mac s u Blank r),
        after_same r x y.mem s.sections u s.exchange exchange h.1.mem same next (grown_self hides s.sections.live s.mem x.mem y.mem) f,
      ))
  settled_same (Violated v) (Violated w) f h = (ap (λ (z : Violation). record { touch = untouched; event = Reset z }) h, reset_same)
  settled_same (Module r x t e c) (Module q y v g d) f h =
      subst (λ (z : List ℕ). SameShown (settled_step s (Module r x t e c)) (settled_step twin (Module z y v g d))) h.0
      (subst (λ (z : Moment). SameShown (settled_step s (Module r x t e c)) (settled_step twin (Module r z v g d))) (sym h.1.rest)
      (subst (λ (z : Event). SameShown (settled_step s (Module r x t e c)) (settled_step twin (Module r (with_mem x y.mem) v z d))) h.4
      (refl, after_same r x y.mem t v c d h.1.mem h.2 h.3 h.5 f)))
  settled_same (Finished r x) (Violated w) f h = absurd h
  settled_same (Finished r x) (Module q y v g d) f h = absurd h
  settled_same (Violated v) (Finished q y) f h = absurd h
  settled_same (Violated v) (Module q y w g d) f h = absurd h
  settled_same (Module r x t e c) (Finished q y) f h = absurd h
  settled_same (Module r x t e c) (Violated w) f h = absurd h

  pub step_same : Match (attempt mac s) (attempt nac twin) → SameShown (step mac s) (step nac twin)
  step_same h = settled_same (attempt mac s) (attempt nac twin) (steps_framed mac s placed) h

  -- What becomes of private bytes.

  module _ (placed_too : Placed u) (outer : IsOutsider hides s.sections.live (own_of s)) where
    -- what code may not write is as before
    own_kept : (x : Section) → Lives s.sections.live x → hides x ≡ true → (after : State) → IsFramed after → Lives after.sections.live x
        → (k : ℕ) → in_private x k ≡ true → slice_index after.mem k ≡ slice_index s.mem k
    own_kept x l h after (inl f) g k p = f k (false_from_ne_true (may s.sections.live (own_of s) Write k) (λ e.
        true≢false (sym p ∙ barred s.sections.live (own_of s) Write k x l (outer x l h) e)))
    own_kept x l h after (inr e) g k p = absurd (subst (λ (a : State). Lives a.sections.live x) e g)

    abbrev IsFramedToo : State → Type 0
    IsFramedToo after = Framed u.live (own_of twin) n after.mem ⊎ (after ≡ reset twin)

    twin_kept : (x : Section) → Lives s.sections.live x → hides x ≡ true → (after : State) → IsFramedToo after → (after ≡ reset twin → ⊥)
        → (k : ℕ) → in_private x k ≡ true → slice_index after.mem k ≡ slice_index n k
    twin_kept x l h after (inl f) g k p = f k (may_like blank_mac blank_mac s.sections.live u.live (own_of twin) Write k Blank
        ∙ ap (λ (o : ℕ). may s.sections.live o Write k) own_same
        ∙ false_from_ne_true (may s.sections.live (own_of s) Write k) (λ e. true≢false (sym p ∙ barred s.sections.live (own_of s) Write k x l (outer x l h) e)))
    twin_kept x l h after (inr e) g k p = absurd (g e)

    abbrev Untouched : State → State → Type 0
    Untouched a b = (x : Section) → Lives a.sections.live x → is_deployed kind a.mem x ≡ true → IsUntouched kind s twin a b x

    -- sections are of one table's length, so none of the nodes was reset alone
    none_left : (v w : List Section) (x : Section) → SameSections mac nac hides v w → w ≡ [] → Lives v x → ⊥
    none_left [] w x h e l = l
    none_left (z ∷ v) [] x h e l = h
    none_left (z ∷ v) (y ∷ w) x h e l = cc

    untouched_by : (a b : State) (grown : Grown hides s.sections.live a.sections.live s.mem a.mem b.mem) → SameSections mac nac hides a.sections.live b.sections.live
        → IsFramed a → IsFramedToo b → Untouched a b
    untouched_by a b grown secs fa fb x l h = by (grown.known x l)
      where
        by : Lives s.sections.live x ⊎ ((text_at a.mem x.layout ≡ text_at s.mem x.layout) × AreZero x a.mem b.mem) → IsUntouched kind s twin a b x
        by (inl o) =
            let before : hides x ≡ true = sym (status_kept a b.mem fa grown x l) ∙ h in
            inl (
              o,
              before,
              λ k p. (
                own_kept x o before a fa l k p,
                twin_kept x o before b fb (λ e. none_left a.sections.live b.sections.live x secs (ap (λ (z : State). z.sections.live) e) l) k p,
              ),
            )
        by (inr z) = inr z.1

    settled_untouched : (o p : Outcome) → IsFramed (settled_step s o).state → IsFramedToo (settled_step twin p).state → Match o p → Untouched (settled_step s o).state (settled_step twin p).state
    settled_untouched (Finished r x) (Finished q y) fa fb h =
        untouched_by (settled_step s (Finished r x)).state (settled_step twin (Finished q y)).state (grown_self hides s.sections.live s.mem x.mem y.mem) same fa fb
    settled_untouched (Violated v) (Violated w) fa fb h = λ x l e. absurd l
    settled_untouched (Module r x t e c) (Module q y v g d) fa fb h =
        untouched_by (settled_step s (Module r x t e c)).state (settled_step twin (Module q y v g d)).state h.5 h.2 fa fb
    settled_untouched (Finished r x) (Violated w) fa fb h = absurd h
    settled_untouched (Finished r x) (Module q y v g d) fa fb h = absurd h
    settled_untouched (Violated v) (Finished q y) fa fb h = absurd h
    settled_untouched (Violated v) (Module q y w g d) fa fb h = absurd h
    settled_untouched (Module r x t e c) (Finished q y) fa fb h = absurd h
    settled_untouched (Module r x t e c) (Violated w) fa fb h = absurd h

    pub step_untouched : Match (attempt mac s) (attempt nac twin) → Untouched (step mac s).state (step nac twin).state
    step_untouched h = settled_untouched (attempt mac s) (attempt nac twin) (steps_framed mac s placed) (steps_framed nac twin placed_too) h

-- the module whose code it is isn't deployed
pub not_deployed : (sites : List Site) (n : ℕ) (s : State) (o : Option Section) → option_and_then (deployed sites n s.mem) o ≡ None → (x : Section) → o ≡ Some x
    → is_deployed (sites_on sites n) s.mem x ≡ false
not_deployed sites n s o none x e =
    ap is_some (subst (λ (p : Option Section). option_and_then (deployed sites n s.mem) p ≡ None) e none)

pub outsiders_see : OutsidersSeeTheSame
outsiders_see mac nac sites n s t placed words foreign guess h =
    let kind = sites_on sites n in
    let twin = with_hidden s t.mem t.key t.sections t.exchange in
    let attempts = either foreign in
    subst (λ (z : State). ((step mac s).shown ≡ (step nac z).shown) × AlikeOutside mac nac kind (step mac s).state (step nac z).state) (sym h.rest)
    (step_same mac nac kind s t.mem t.key t.sections t.exchange placed h.sections h.next h.mem attempts)
  where
    either : (module_of sites n s (own_of s) ≡ None) ⊎ (is_let_run s ≡ false)
        → SameOutcome mac nac (is_deployed (sites_on sites n) s.mem) s.sections.live s.mem (attempt mac s) (attempt nac (with_hidden s t.mem t.key t.sections t.exchange))
    either (inl none) =
        attempt_same mac nac (sites_on sites n) s t.mem t.key t.sections t.exchange placed h.sections h.next h.mem words
        (not_deployed sites n s (section_of s.sections.live (own_of s)) none) (guess none)
    either (inr stopped) = stopped_same mac nac (sites_on sites n) s t.mem t.key t.sections t.exchange placed h.sections h.next h.mem stopped

-- after an instruction that isn't let run there is no section
stopped_none : (mac : Mac) (s : State) → is_let_run s ≡ false → (x : Section) → Lives (step mac s).state.sections.live x → ⊥
stopped_none mac s stopped x l = outer (word_outside s.sections.live (pc_of s)) (device_at s.devices (pc_of s)) stopped l
  where
    inner : (b : Bool) → b ≡ false → Lives (settled_step s (cond b (instruction mac s) (Violated bad.Order))).state.sections.live x → ⊥
    inner true e l = absurd (true≢false e)
    inner false e l = l

    outer : (b : Bool) (d : Option ℕ) → (b && (not (is_some d) && in_order s.sections.live s.cur (pc_of s))) ≡ false
        → Lives (settled_step s (cond b (ordered mac s d) (Violated bad.Fetch))).state.sections.live x → ⊥
    outer true (Some d) e l = l
    outer true None e l = inner (in_order s.sections.live s.cur (pc_of s)) e l
    outer false d e l = l

pub outsiders_touch_none : OutsidersTouchNone
outsiders_touch_none mac nac sites n s t placed too words (inr stopped) guess h x l e = absurd (stopped_none mac s stopped x l)
outsiders_touch_none mac nac sites n s t placed too words (inl none) guess h x l e =
    let kind = sites_on sites n in
    let bare = not_deployed sites n s (section_of s.sections.live (own_of s)) none in
    subst (λ (z : State). IsUntouched kind s z (step mac s).state (step nac z).state x) (sym h.rest)
    (step_untouched mac nac kind s t.mem t.key t.sections t.exchange placed h.sections h.next h.mem too
    (outsider mac nac kind s t.mem t.key t.sections t.exchange placed h.sections h.next h.mem words bare (guess none))
    (attempt_same mac nac kind s t.mem t.key t.sections t.exchange placed h.sections h.next h.mem words bare (guess none)) x l e)
