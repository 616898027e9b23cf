-- A deployed module's turn in mid-run, in both runs: how the two nodes are related.
use Rattle.std.proofs.Common.{◌≡◌, ℕ, ◌+◌, ◌*◌, ◌<◌, ◌≤◌, ◌==◌, ◌&&◌, ◌||◌, not, Bool, true, false, inl, inr, ◌⊎◌, List, [], ◌∷◌, slice_index, refl, sym, ◌∙◌, ap, ap₂, subst, arith, map}
use Rattle.std.specs.Prelude.{nat_le, nat_lt}
use Rattle.std.proofs.lemmas.Bool.{and_parts, cases_lt, ltb-true, not-true, true≢false}
use Rattle.sx_mean.specs.Offsets.{end_at}
use Rattle.sx_mean.specs.Working.{plain_at}
use Rattle.sx_lang.specs.Sizes.{module_data_size}
use Rattle.sx_rules.specs.declared.access.Access.TheVariants.{Read}
use Rattle.sx_rules.specs.declared.access.Violation.{Violation}
use Rattle.sx_rules.specs.declared.section.Layout.{Layout}
use Rattle.sx_rules.specs.declared.section.Section.{Section}
use Rattle.sx_rules.specs.Access.{Sections, Lives, in_private, in_public, may}
use Rattle.sx_tag.specs.Mac.{Mac}
use Rattle.spec_machine.specs.declared.kinds.Event.{Event}
use Rattle.spec_machine.specs.declared.kinds.Event.TheVariants as event
use Rattle.spec_machine.specs.State.{State}
use Rattle.spec_machine.proofs.PlanGuard.{passes}
use Rattle.sx_image.specs.Reach.{Comes}
use Rattle.spec_invocation.specs.Marks.{Mark}
use Rattle.spec_invocation.specs.Marks as mark
use Rattle.sx_image.specs.Watched.{Watched, watch}
use Rattle.sx_image.specs.Realizes.{Underway, Aborted, Exited}
use Rattle.spec_run.specs.Setting.{Setting}
use Rattle.spec_run.specs.Law.{IsSoundSetting, image_at}
use Rattle.spec_run.proofs.steps.Entry.{at_site, quiet_left}
use Rattle.law_calls.proofs.Middle.{Middle, first_middle}
use Rattle.sx_tmpl.specs.Unseen.{HoldsNoKey, InSlotKey, StepShowsNone}
use Rattle.sx_tmpl.proofs.Running.Owned.{in_private_yes}
use Rattle.sx_tmpl.specs.Steady.{Abreast, AreOpen, Twins, keyless}
use Rattle.sx_tmpl.proofs.Texts.Entering.{bytes_from_get}
use Rattle.law_connections.specs.Unlinked.{Unlinked}
use Rattle.sx_mean.specs.Ends.{ends_of}
use Rattle.law_connections.specs.Laws.{HidesKeys}
use Rattle.law_connections.proofs.Realizing.{shows_under}
use Rattle.law_connections.proofs.Outside.{AlikeOutside, Kind, SameSections, is_deployed, sites_on}
use Rattle.law_connections.proofs.Opened.{outside_open, same_hides}
use Rattle.law_connections.proofs.Twice.{IsMark}
use Rattle.law_connections.proofs.Linking.{second, SameNode}
use Rattle.law_connections.proofs.Ledgers.{IsGranted}
use Rattle.law_connections.proofs.Entered.{Entry, setup_a, setup_b, result_a, result_b, later, mate, places, ends_count, private_size, hidden, readable, enters_a, enters_b}

-- tables that differ in keys
keyless_same : (mac nac : Mac) (hides : Section → Bool) (xs ys : List Section) → SameSections mac nac hides xs ys → map keyless ys ≡ map keyless xs
keyless_same mac nac hides [] [] h = refl
keyless_same mac nac hides [] (y ∷ ys) h = absurd h
keyless_same mac nac hides (x ∷ xs) [] h = absurd h
keyless_same mac nac hides (x ∷ xs) (y ∷ ys) h = ap₂ (λ (z : Section) (zs : List Section). z ∷ zs) (ap keyless h.0.0) (keyless_same mac nac hides xs ys h.1)

past_range : (x : Section) (k : ℕ) → x.layout.priv_to ≤ k → in_private x k ≡ false
past_range x k le = by (in_private x k) refl
  where
    by : (c : Bool) → in_private x k ≡ c → c ≡ false
    by false e = refl
    by true e =
        let lt : k < x.layout.priv_to = ltb-true k x.layout.priv_to (and_parts (nat_le x.layout.priv_from k) (nat_lt k x.layout.priv_to) e).1 in absurd (omega (arith, lt, le))

module _ (a : Setting) (nac : Mac) (keys : List (List ℕ)) (secret : List ℕ) where
  abbrev b : Setting
  b = second a nac keys secret

  -- the rest of a turn in each run: every moment is of the invocation, and its step shows no key
  abbrev pub Comes_a : Entry a nac keys secret → ℕ → Watched → Type 0
  Comes_a e = Comes Watched Violation (watch a.mac) (λ w. 1)
      (λ w. Underway (setup_a a nac keys secret e) (result_a a nac keys secret e) e.s w × StepShowsNone (setup_a a nac keys secret e) e.s.mem w)
      (Aborted (result_a a nac keys secret e)) (Exited (setup_a a nac keys secret e) (result_a a nac keys secret e) e.s)

  abbrev pub Comes_b : Entry a nac keys secret → ℕ → Watched → Type 0
  Comes_b e = Comes Watched Violation (watch nac) (λ w. 1)
      (λ w. Underway (setup_b a nac keys secret e) (result_b a nac keys secret e) (later a nac keys secret e) w × StepShowsNone (setup_b a nac keys secret e) e.mem w)
      (Aborted (result_b a nac keys secret e)) (Exited (setup_b a nac keys secret e) (result_b a nac keys secret e) (later a nac keys secret e))

  -- a node, with the marks so far and the last event
  abbrev pub watched_as : State → List Mark → Event → Watched
  watched_as s ms last = record { node = s; marks = ms; event = last }

  -- The nodes go side by side, and each comes to what its invocation comes to; the keys that were
  -- taken so far were granted.
  pub record Mid (e : Entry a nac keys secret) (u v : State) : Type 0 where
    pub ms : List Mark
    pub ns : List Mark
    pub last : Event
    pub first : Middle e.sec e.s u ms
    pub other : Middle (mate a nac keys secret e) (later a nac keys secret e) v ns
    pub abreast : Abreast (places a nac keys secret e) (watched_as u ms last) (watched_as v ns last)
    pub bound : ℕ
    pub bound2 : ℕ
    pub comes : Comes_a e bound (watched_as u ms last)
    pub comes2 : Comes_b e bound2 (watched_as v ns last)
    pub runs : Exited (setup_a a nac keys secret e) (result_a a nac keys secret e) e.s (watched_as u ms last) → ⊥
    pub runs2 : Exited (setup_b a nac keys secret e) (result_b a nac keys secret e) (later a nac keys secret e) (watched_as v ns last) → ⊥
    pub granted : (header k : List ℕ) → IsMark (mark.Unwrapped header k true) ms → IsGranted a nac keys secret header k

  -- a deployed module of the n-th node is under way
  pub record Between (n : ℕ) (u v : State) : Type 0 where
    pub entry : Entry a nac keys secret
    pub is : entry.site.node ≡ n
    pub mid : Mid entry u v
    pub busy : u.cur ≡ 0 → ⊥

  -- the n-th nodes of the two runs
  abbrev pub SameTurn : ℕ → State → State → Type 0
  SameTurn n u v = SameNode a nac keys secret n u v ⊎ Between n u v

  module _ (e : Entry a nac keys secret) where
    -- in mid-run the nodes are the same outside deployed modules
    pub outside_mid : (u v : State) (ms ns : List Mark) → Middle e.sec e.s u ms → Middle (mate a nac keys secret e) (later a nac keys secret e) v ns
        → Twins (places a nac keys secret e) u v → AlikeOutside a.mac nac (sites_on a.sites e.site.node) u v
    outside_mid u v ms ns x y tw = record {
      rest = tw.rest;
      mem = record {
        size = tw.mem.size;
        same = λ k f. tw.mem.same k (inl (λ z l d. f z (subst (λ (t : Sections). Lives t.live z) (sym x.sections) l) (sym (status_same z l) ∙ d)));
      };
      sections = subst (λ (z : Sections). SameSections a.mac nac (is_deployed kind u.mem) z.live v.sections.live) (sym x.sections)
          (subst (λ (z : Sections). SameSections a.mac nac (is_deployed kind u.mem) e.s.sections.live z.live) (sym y.sections)
          (same_hides a.mac nac hides (is_deployed kind u.mem) e.s.sections.live e.us.live (λ z l. sym (status_same z l)) e.beside.outside.sections));
      next = tw.next;
    }
      where
        kind : Kind
        kind = sites_on a.sites e.site.node

        hides : Section → Bool
        hides = is_deployed (sites_on a.sites e.site.node) e.s.mem

        status_same : (z : Section) → Lives e.s.sections.live z
            → is_deployed (sites_on a.sites e.site.node) e.s.mem z ≡ is_deployed (sites_on a.sites e.site.node) u.mem z
        status_same z l = sym (ap (sites_on a.sites e.site.node z.layout z.provider) (x.texts z l))

    -- where a module is entered, its turn begins side by side
    own_agree : (k : ℕ) → (o : ℕ) × (k ≡ e.sec.layout.priv_from + o) × (o < private_size a nac keys secret e) × HoldsNoKey (ends_count a nac keys secret e) o 1
        → slice_index e.s.mem k ≡ slice_index e.mem k
    own_agree k h =
        let from = e.sec.layout.priv_from in
        let len = private_size a nac keys secret e in
        let third = (e.beside.states e.m e.q e.site e.sec e.part e.sited e.lives e.at).2 in
        subst (λ (z : ℕ). slice_index e.s.mem z ≡ slice_index e.mem z) (sym h.1)
        (sym (bytes_from_get e.s.mem from len h.0 h.2) ∙ sym (third h.0 h.3) ∙ bytes_from_get e.mem from len h.0 h.2)

    begin_twins : Twins (places a nac keys secret e) e.s (later a nac keys secret e)
    begin_twins = record {
      rest = refl;
      mem = record {
        size = e.beside.outside.mem.size;
        same = λ k at. elim at [ inl clear ↦ e.beside.outside.mem.same k clear | inr own ↦ own_agree k own ];
      };
      live = keyless_same a.mac nac _ e.s.sections.live e.us.live e.beside.outside.sections;
      next = e.beside.outside.next;
    }

    module _ (sound : IsSoundSetting a) (sound2 : IsSoundSetting (second a nac keys secret)) (unlinked : Unlinked a (second a nac keys secret)) where
      size_is : e.sec.layout.priv_to ≡ e.sec.layout.priv_from + module_data_size e.q.tree (ends_count a nac keys secret e)
      size_is =
          let place = at_site e.site.node e.s.mem e.sec e.site e.at in
          let dep = sound.deployed e.m e.q e.site e.part e.sited in
          ap (λ (l : Layout). l.priv_to) place.layout ∙ dep.data_size
          ∙ ap (λ (l : Layout). l.priv_from + module_data_size e.q.tree (ends_count a nac keys secret e)) (sym place.layout)

      room : end_at (ends_count a nac keys secret e) ≤ private_size a nac keys secret e
      room = omega (arith, size_is)

      -- a byte that may be a key's is no such place
      closed : (k o : ℕ) → k ≡ e.sec.layout.priv_from + o → (HoldsNoKey (ends_count a nac keys secret e) o 1 → ⊥) → o < private_size a nac keys secret e
          → places a nac keys secret e k → ⊥
      closed k o is shut lt (inl clear) =
          true≢false (sym (in_private_yes e.sec k (omega (arith, is)) (omega (arith, is, lt))) ∙ clear e.sec e.lives (hidden a nac keys secret e))
      closed k o is shut lt (inr own) =
          let at = own.1 in
          let same : own.0 ≡ o = omega (arith, at, is) in
          shut (subst (λ (i : ℕ). HoldsNoKey (ends_count a nac keys secret e) i 1) same own.3)

      in_slot : (o i : ℕ) → InSlotKey (ends_count a nac keys secret e) o → o ≤ i → i < o + 2
          → (HoldsNoKey (ends_count a nac keys secret e) i 1 → ⊥) × (i < private_size a nac keys secret e)
      in_slot o i h lo hi =
          let from = h.from in
          let to = h.to in
          let one = h.one in
          let big = room in (
            λ free. elim (free.slots h.slot h.one) [ inl low ↦ omega (arith, low, from, lo) | inr high ↦ omega (arith, high, to, hi) ],
            omega (arith, to, one, big, hi),
          )

      pub fit : AreOpen (setup_a a nac keys secret e) (places a nac keys secret e)
      fit = record {
        read = λ k may_read shown. elim shown [
          | inl out ↦ inl (readable a nac keys secret e k may_read out)
          | inr h ↦ own_or_clear k may_read h
        ];
        fetched = λ k ext. inl (λ x l d.
            not-true (in_private x k) (and_parts (not (in_private x k)) (not (in_public x k) || e.sec.id == x.id)
            (passes (λ u. not (in_private u k) && (not (in_public u k) || e.sec.id == u.id)) e.s.sections.live x l ext)).0);
        outside = λ k out. inl (outside_open _ e.s.sections.live k out);
        key = λ o h at. let s = in_slot o o h (omega arith) (omega arith) in closed (e.sec.layout.priv_from + o) o refl s.0 s.1 at;
        key_high = λ o h at. let s = in_slot o (o + 1) h (omega arith) (omega arith) in closed (e.sec.layout.priv_from + o + 1) (o + 1) (omega arith) s.0 s.1 at;
        plain = λ o lt at.
            let big = room in
            closed (e.sec.layout.priv_from + plain_at + o) (plain_at + o) (omega arith)
            (λ free. elim free.plain [ inl low ↦ omega (arith, low) | inr high ↦ omega (arith, high, lt) ]) (omega (arith, lt, big)) at;
      }
        where
          own_or_clear : (k : ℕ) → may e.s.sections.live e.sec.id Read k ≡ true → (o : ℕ) × (k ≡ e.sec.layout.priv_from + o) × HoldsNoKey (ends_count a nac keys secret e) o 1
              → places a nac keys secret e k
          own_or_clear k may_read h = elim (cases_lt h.0 (private_size a nac keys secret e)) [
            | inl lt ↦ inr (h.0, h.1, lt, h.2)
            | inr ge ↦ let is = h.1 in inl (readable a nac keys secret e k may_read (past_range e.sec k (omega (arith, is, ge))))
          ]

      pub begin_mid : HidesKeys a → Mid e e.s (later a nac keys secret e)
      begin_mid hides = record {
        ms = [];
        ns = [];
        last = event.Quiet;
        first = first_middle e.sec e.s e.ta.node;
        other = first_middle (mate a nac keys secret e) (later a nac keys secret e) e.tb.node;
        abreast = record { nodes = begin_twins; event = refl; marks = tt };
        bound = _;
        bound2 = _;
        comes = (shows_under a.secret a.mac sound.tag e.q.tree (ends_of a.app e.m) (image_at e.site) (hides e.m e.q e.site e.part e.sited)).runs e.sec e.s (enters_a a nac keys secret e sound sound2 unlinked);
        comes2 = (shows_under secret nac sound2.tag e.q.tree (ends_of a.app e.m) (image_at e.site) (hides e.m e.q e.site e.part e.sited)).runs (mate a nac keys secret e) (later a nac keys secret e) (enters_b a nac keys secret e sound sound2 unlinked);
        runs = λ out. quiet_left e.sec.id out.left;
        runs2 = λ out. quiet_left e.sec.id out.left;
        granted = λ header k is. absurd is;
      }
