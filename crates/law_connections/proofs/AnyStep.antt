-- One step of a node, in the worlds of both runs.
use Rattle.std.proofs.Common.{◌≡◌, ℕ, ◌==◌, ◌||◌, Bool, true, false, not, inl, inr, ◌⊎◌}
use Rattle.std.proofs.Common.{List, Option, Some, None, refl, sym, ◌∙◌, ap, subst, arith}
use Rattle.std.specs.Prelude.{slice_get, option_and_then}
use Rattle.std.proofs.lemmas.Bool.{true≢false, and_parts, or_cases, eqb-true, not-true}
use Rattle.lemmas.proofs.Lists.{get_some}
use Rattle.sx_mean.specs.Application.{PartTree}
use Rattle.sx_rules.specs.declared.section.Section.{Section}
use Rattle.sx_rules.specs.declared.section.Layout.{Layout}
use Rattle.sx_rules.specs.Access.{Lives, section_of, in_order, in_public}
use Rattle.sx_tag.specs.Mac.{Mac}
use Rattle.spec_machine.specs.declared.kinds.Seen.{Seen}
use Rattle.spec_machine.specs.State.{State}
use Rattle.spec_machine.specs.Step.{pc_of, own_of, word_outside, is_let_run, step}
use Rattle.spec_machine.proofs.PlanGuard.{passes}
use Rattle.spec_machine.proofs.Devices.{position_is}
use Rattle.spec_machine.proofs.Stays.{found_lives}
use Rattle.sx_image.specs.Watched.{violation_of}
use Rattle.spec_run.specs.Setting.{Setting, Site, is_at_site, deployed, module_of}
use Rattle.spec_run.specs.State.{World}
use Rattle.spec_run.specs.Acts.{after_step}
use Rattle.spec_run.specs.Run.{is_reset}
use Rattle.spec_run.specs.Law.{IsSoundSetting}
use Rattle.spec_run.proofs.tie.Lists.{get_within}
use Rattle.spec_run.proofs.steps.Entry.{at_site, held_by}
use Rattle.spec_run.proofs.steps.Steps.{nonzero}
use Rattle.law_forgery.proofs.Turns.{NodeTurns}
use Rattle.law_connections.specs.Unlinked.{Unlinked}
use Rattle.law_connections.specs.Laws.{HidesKeys}
use Rattle.law_connections.proofs.Outside.{is_deployed, sites_on}
use Rattle.law_connections.proofs.Upto.{Clean}
use Rattle.law_connections.proofs.Bystanding.{with_hidden}
use Rattle.law_connections.proofs.Linking.{second, SameNode}
use Rattle.law_connections.proofs.Entered.{Entry, mate_lives}
use Rattle.law_connections.proofs.Between.{Between, Mid, SameTurn, begin_mid}
use Rattle.law_connections.proofs.Worlds.{SameWorld}
use Rattle.law_connections.proofs.Doing.{outside_turn}
use Rattle.law_connections.proofs.Stepping.{GuessesNone, site_deployed, stepped, step_done, stopped_violates}
use Rattle.law_connections.proofs.Going.{StepDone, both_reset}
use Rattle.law_connections.proofs.Going as going

module _ (a : Setting) (nac : Mac) (keys : List (List ℕ)) (secret : List ℕ) (sound : IsSoundSetting a) (sound2 : IsSoundSetting (second a nac keys secret))
    (unlinked : Unlinked a (second a nac keys secret)) (hides : HidesKeys a) where
  abbrev b : Setting
  b = second a nac keys secret

  -- where no deployed module's code is let run, or one that rests is at its entry
  pub data Standing (n : ℕ) (s : State) : Type 0 where
    Foreign : (module_of a.sites n s (own_of s) ≡ None) ⊎ (is_let_run s ≡ false) → Standing n s
    Enters : (m : ℕ) (q : PartTree) (site : Site) (sec : Section) → slice_get a.app.parts m ≡ Some q → slice_get a.sites m ≡ Some site → site.node ≡ n → Lives s.sections.live sec
        → is_at_site n s.mem sec site ≡ true → s.cur ≡ 0 → pc_of s ≡ site.layout.pub_from → is_let_run s ≡ true → Standing n s

  module _ (n : ℕ) (s t : State) (h : SameNode a nac keys secret n s t) (ta : NodeTurns a n s) where
    entry_at : (sec : Section) → Lives s.sections.live sec → own_of s ≡ sec.id → s.cur ≡ 0 → in_order s.sections.live s.cur (pc_of s) ≡ true → pc_of s ≡ sec.layout.pub_from
    entry_at sec lives own idle order =
        let nz = nonzero s sec ta.node lives in
        let p = passes (λ (x : Section). not (in_public x (pc_of s)) || (s.cur == x.id || pc_of s == x.layout.pub_from)) s.sections.live sec lives order in
        let inside = held_by s.sections sec (pc_of s) ta.node.placed lives nz own in
        elim (or_cases (not (in_public sec (pc_of s))) _ p) [
          | inl e ↦ absurd (true≢false (sym inside ∙ not-true (in_public sec (pc_of s)) e))
          | inr e ↦ elim (or_cases (s.cur == sec.id) (pc_of s == sec.layout.pub_from) e) [
            | inl c ↦ absurd (nz (sym (eqb-true s.cur sec.id c) ∙ idle))
            | inr c ↦ eqb-true (pc_of s) sec.layout.pub_from c
          ]
        ]

    -- the section of a module that runs
    found : (o : Option Section) (m : ℕ) → section_of s.sections.live (own_of s) ≡ o → option_and_then (deployed a.sites n s.mem) o ≡ Some m
        → (sec : Section) × (section_of s.sections.live (own_of s) ≡ Some sec) × (deployed a.sites n s.mem sec ≡ Some m)
    found None m e d = absurd cc
    found (Some sec) m e d = (sec, e, d)

    let_run : (c : Bool) → is_let_run s ≡ c → (m : ℕ) → module_of a.sites n s (own_of s) ≡ Some m → Standing n s
    let_run false e m runs = Foreign (inr e)
    let_run true e m runs =
        let f = found (section_of s.sections.live (own_of s)) m refl runs in
        let sec = f.0 in
        let l = found_lives s.sections.live (own_of s) sec f.1 in
        let p = position_is (is_at_site n s.mem sec) 0 a.sites m f.2 in
        let order = (and_parts _ (in_order s.sections.live s.cur (pc_of s)) (and_parts (word_outside s.sections.live (pc_of s)) _ e).1).1 in
        let number : p.0 ≡ m = let i = p.2 in omega (arith, i) in
        let sited : slice_get a.sites m ≡ Some p.1 = subst (λ (k : ℕ). slice_get a.sites k ≡ Some p.1) number p.3 in
        let q = get_some a.app.parts m (let i = get_within a.sites m p.1 sited in let j = sound.sites in omega (arith, i, j)) in
        let place = at_site n s.mem sec p.1 p.4 in
        let dep = site_deployed a.sites n s.mem sec m p.1 sited p.4 in
        let idle : s.cur ≡ 0 = elim ta.node.runner [ inl z ↦ z | inr own ↦ absurd (h.rests sec l.0 dep (own ∙ sym l.1)) ] in
        Enters m q.0 p.1 sec q.1 sited place.node l.0 p.4 idle (entry_at sec l.0 (sym l.1) idle order ∙ ap (λ (y : Layout). y.pub_from) place.layout) e

    pub standing : Standing n s
    standing = by (module_of a.sites n s (own_of s)) refl
      where
        by : (o : Option ℕ) → module_of a.sites n s (own_of s) ≡ o → Standing n s
        by None e = Foreign (inl e)
        by (Some m) e = let_run (is_let_run s) refl m e

  -- The step shows the same items, leaves the same worlds if none is `forged`, and ends a stretch in
  -- both or in neither.
  pub record Done (n : ℕ) (s t : State) (w v : World) : Type 0 where
    pub items : (after_step (second a nac keys secret) v n t).items ≡ (after_step a w n s).items
    pub worlds : Clean (after_step a w n s).items → SameWorld a nac keys secret (after_step a w n s).world (after_step (second a nac keys secret) v n t).world
    pub reset : is_reset (step nac t).shown.event ≡ is_reset (step a.mac s).shown.event
    pub cur : (step nac t).state.cur ≡ (step a.mac s).state.cur

  -- where a module is entered
  entered_done : (m : ℕ) (q : PartTree) (site : Site) (s t : State) (sec : Section) (w v : World) → slice_get a.app.parts m ≡ Some q → slice_get a.sites m ≡ Some site
      → SameNode a nac keys secret site.node s t → NodeTurns a site.node s → NodeTurns (second a nac keys secret) site.node t → Lives s.sections.live sec
      → is_at_site site.node s.mem sec site ≡ true → s.cur ≡ 0 → pc_of s ≡ site.layout.pub_from → is_let_run s ≡ true
      → slice_get w.nodes site.node ≡ Some s → slice_get v.nodes site.node ≡ Some t → SameWorld a nac keys secret w v → Done site.node s t w v
  entered_done m q site s t sec w v part sited h ta tb lives at idle entry let_run here there same =
      let twin : State = with_hidden s t.mem t.key t.sections t.exchange in
      let is : t ≡ twin = h.outside.rest in
      let beside : SameNode a nac keys secret site.node s twin = subst (SameNode a nac keys secret site.node s) is h in
      let tb2 : NodeTurns b site.node twin = subst (NodeTurns b site.node) is tb in
      let other = mate_lives a.mac nac (is_deployed (sites_on a.sites site.node) s.mem) s.sections.live t.sections.live sec h.outside.sections lives in
      let e : Entry a nac keys secret = record {
        m = m;
        q = q;
        site = site;
        part = part;
        sited = sited;
        s = s;
        mem = t.mem;
        key = t.key;
        us = t.sections;
        exchange = t.exchange;
        beside = beside;
        ta = ta;
        tb = tb2;
        sec = sec;
        other = other.0;
        lives = lives;
        lives2 = other.1;
        at = at;
        idle = idle;
        entry = entry;
      } in
      let d = going.step_done a nac keys secret sound sound2 unlinked e s twin (begin_mid a nac keys secret e sound sound2 unlinked hides) w v same here (there ∙ ap (λ (z : State). Some z) is)
      ta tb2 (inl beside) (and_parts (word_outside s.sections.live (pc_of s)) _ let_run).0 in
      subst (λ (z : State). Done site.node s z w v) (sym is) (record { items = d.items; worlds = d.worlds; reset = d.reset; cur = d.cur })

  -- where one is under way
  mid_done : (e : Entry a nac keys secret) (s t : State) (w v : World) (mid : Mid a nac keys secret e s t) → (s.cur ≡ 0 → ⊥) → NodeTurns a e.site.node s
      → NodeTurns (second a nac keys secret) e.site.node t
      → (module_of a.sites e.site.node s (own_of s) ≡ None → GuessesNone a (second a nac keys secret) e.site.node s)
      → slice_get w.nodes e.site.node ≡ Some s → slice_get v.nodes e.site.node ≡ Some t → SameWorld a nac keys secret w v → Done e.site.node s t w v
  mid_done e s t w v mid busy ta tb guess here there same = by (is_let_run s) refl
    where
      both : SameTurn a nac keys secret e.site.node s t
      both = inr (record { entry = e; is = refl; mid = mid; busy = busy })

      of_step : StepDone a nac keys secret sound sound2 unlinked e s t mid w v same here there → Done e.site.node s t w v
      of_step d = record { items = d.items; worlds = d.worlds; reset = d.reset; cur = d.cur }

      by : (c : Bool) → is_let_run s ≡ c → Done e.site.node s t w v
      by true let_run =
          of_step (going.step_done a nac keys secret sound sound2 unlinked e s t mid w v same here there ta tb both (and_parts (word_outside s.sections.live (pc_of s)) _ let_run).0)
      by false stopped =
          let st = stepped a nac keys secret sound e.site.node s t (outside_turn a nac keys secret e.site.node s t both) ta tb (inr stopped) guess in
          let o = stopped_violates a.mac s stopped in
          let p : violation_of (step nac t).shown.event ≡ Some o.0 = ap (λ (seen : Seen). violation_of seen.event) (sym st.0) ∙ o.1 in
          of_step (both_reset a nac keys secret sound sound2 unlinked e s t mid w v same here there ta tb both o.0 o.1 p)

  running_done : (n : ℕ) (s t : State) (w v : World) → Between a nac keys secret n s t → NodeTurns a n s → NodeTurns (second a nac keys secret) n t
      → (module_of a.sites n s (own_of s) ≡ None → GuessesNone a (second a nac keys secret) n s)
      → slice_get w.nodes n ≡ Some s → slice_get v.nodes n ≡ Some t → SameWorld a nac keys secret w v → Done n s t w v
  running_done n s t w v h ta tb guess here there same =
      let is = sym h.is in
      subst (λ (k : ℕ). Done k s t w v) h.is
      (mid_done h.entry s t w v h.mid h.busy (subst (λ (k : ℕ). NodeTurns a k s) is ta) (subst (λ (k : ℕ). NodeTurns b k t) is tb)
      (subst (λ (k : ℕ). module_of a.sites k s (own_of s) ≡ None → GuessesNone a b k s) is guess)
      (subst (λ (k : ℕ). slice_get w.nodes k ≡ Some s) is here) (subst (λ (k : ℕ). slice_get v.nodes k ≡ Some t) is there) same)

  pub any_done : (n : ℕ) (s t : State) (w v : World) → SameTurn a nac keys secret n s t → NodeTurns a n s → NodeTurns (second a nac keys secret) n t
      → (module_of a.sites n s (own_of s) ≡ None → GuessesNone a (second a nac keys secret) n s)
      → slice_get w.nodes n ≡ Some s → slice_get v.nodes n ≡ Some t → SameWorld a nac keys secret w v → Done n s t w v
  any_done n s t w v (inr h) ta tb guess here there same = running_done n s t w v h ta tb guess here there same
  any_done n s t w v (inl h) ta tb guess here there same = by (standing n s t h ta)
    where
      by : Standing n s → Done n s t w v
      by (Foreign f) =
          let st = stepped a nac keys secret sound n s t h.outside ta tb f guess in
          let d = step_done a nac keys secret sound n s t h ta tb f guess w v same here there in
          record {
            items = d.0;
            worlds = λ clean. d.1;
            reset = ap (λ (z : Seen). is_reset z.event) (sym st.0);
            cur = ap (λ (z : State). z.cur) st.1.rest;
          }
      by (Enters m q site sec part sited is lives at idle entry let_run) =
          subst (λ (k : ℕ). Done k s t w v) is
          (entered_done m q site s t sec w v part sited (subst (λ (k : ℕ). SameNode a nac keys secret k s t) (sym is) h)
          (subst (λ (k : ℕ). NodeTurns a k s) (sym is) ta) (subst (λ (k : ℕ). NodeTurns b k t) (sym is) tb) lives
          (subst (λ (k : ℕ). is_at_site k s.mem sec site ≡ true) (sym is) at) idle entry let_run
          (subst (λ (k : ℕ). slice_get w.nodes k ≡ Some s) (sym is) here) (subst (λ (k : ℕ). slice_get v.nodes k ≡ Some t) (sym is) there) same)
