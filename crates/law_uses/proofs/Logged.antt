-- Each tag over `T` that is given under a deployed module's key is entered.
use Rattle.std.proofs.Common.{◌≡◌, ℕ, zero, suc, ◌-◌, ◌<◌, ◌==◌, ◌⊎◌, inl, inr, Bool, true, false, cond, List, [], ◌∷◌, ◌++◌, length, Option, Some, None, refl, sym, ◌∙◌, ap, subst, arith}
use Rattle.std.specs.Prelude.{slice_get, option_and_then, bytes_eq, nat_le, nat_lt}
use Rattle.std.specs.Option.{option_flatten}
use Rattle.std.proofs.lemmas.Bool.{true≢false, and_parts, and_from, or_cases, eq-eqb, leb-true, ltb-true}
use Rattle.std.proofs.lemmas.List.{take_at}
use Rattle.lemmas.proofs.Lists.{get_some}
use Rattle.lemmas.proofs.Texts.{bytes_eq-same}
use Rattle.sx_ledger.specs.declared.entry.Maker.TheVariants as maker
use Rattle.sx_rules.specs.declared.section.Layout.{Layout}
use Rattle.sx_rules.specs.declared.section.Section.{Section}
use Rattle.sx_rules.specs.Access.{section_of}
use Rattle.sx_rules.specs.Admission.{apart}
use Rattle.sx_tag.specs.Wrap.{crypt}
use Rattle.spec_machine.specs.declared.kinds.Event.TheVariants as event
use Rattle.spec_machine.specs.declared.kinds.Exchange.{Exchange}
use Rattle.spec_machine.specs.Memory.{bytes_from}
use Rattle.spec_machine.specs.Run.{Outcome}
use Rattle.spec_machine.specs.ModuleRows.{exchanged}
use Rattle.spec_machine.specs.State.{State}
use Rattle.spec_machine.specs.Step.{own_of, settled_step, step}
use Rattle.spec_run.specs.Setting.{Setting, Site, same_layout, is_at_site, deployed, module_of}
use Rattle.sx_ledger.specs.Made.{Made, NO_TARGET}
use Rattle.spec_run.specs.Ledger.{made_entry, is_made, header_of, body_of}
use Rattle.spec_run.specs.State.{World, switched_on}
use Rattle.sx_deployer.specs.Granting.{Grant, grants_after}
use Rattle.spec_run.specs.Deployer.{accepts, after_acceptance, connection_key, grant_header, set_key_entry}
use Rattle.spec_run.specs.Law.{IsSoundSetting, AreApartLayouts}
use Rattle.spec_run.specs.Acts.{with_deployer, key_given, keys_given, attested, after_denial, after_verdict, after_answer}
use Rattle.spec_run.proofs.tie.Entries.{made_in, made_before}
use Rattle.spec_run.proofs.tie.Lists.{get_within}
use Rattle.spec_run.proofs.steps.Entry.{at_site, layout_self}
use Rattle.spec_run.proofs.steps.Foreign.{position_some}
use Rattle.law_isolation.specs.Happening.{Happening, Step, Answer, done}
use Rattle.law_isolation.specs.Script.{Script, End, Do, looks}
use Rattle.law_isolation.specs.Lines.{script_of}
use Rattle.law_forgery.specs.Moments.{Moment, moment_from, moment}
use Rattle.law_forgery.proofs.Accepting.{runner_at}
use Rattle.law_forgery.proofs.Unmade.{ledger_tells}
use Rattle.law_uses.specs.Uses.{Holder, Held, OfSection, key_held, Use, Gives, section_holder, step_uses, module_holder, grant_uses, grants_uses, verdict_uses, answer_uses, uses_at}
use Rattle.law_uses.specs.GivenLogged.{IsUse, IsEnteredUse, GivenAreLogged, HeldAreLogged}
use Rattle.law_uses.proofs.Stepping.{section_key_held}
use Rattle.law_uses.proofs.Keeping.{AllKept, done_kept, on_kept}
use Rattle.law_uses.proofs.Giving.{Wraps, step_gives}

-- Holders.

record Parts (n m b c p q : ℕ) (t u : List ℕ) (l k : Layout) : Type 0 where
  node : n ≡ m
  boot : b ≡ c
  provider : p ≡ q
  text : t ≡ u
  layout : l ≡ k

holder_parts : (n m b c p q : ℕ) (t u : List ℕ) (l k : Layout) → OfSection n b p t l ≡ OfSection m c q u k → Parts n m b c p q t u l k
holder_parts n m b c p q t u l k e = record { node = cc; boot = cc; provider = cc; text = cc; layout = cc }

-- No two modules are of one node and layout.

not_apart : (l : Layout) → l.pub_from < l.pub_to → apart l.pub_from l.pub_to l.pub_from l.pub_to ≡ true → ⊥
not_apart l lt h = elim (or_cases (nat_le l.pub_to l.pub_from) (nat_le l.pub_to l.pub_from) h) [
  | inl e ↦ absurd (omega (arith, lt, leb-true l.pub_to l.pub_from e))
  | inr e ↦ absurd (omega (arith, lt, leb-true l.pub_to l.pub_from e))
]

one_site : (set : Setting) → IsSoundSetting set → (k m : ℕ) (a b : Site) → slice_get set.sites k ≡ Some a → slice_get set.sites m ≡ Some b → a.node ≡ b.node → a.layout ≡ b.layout → k ≡ m
one_site set sound k m a b ka mb node layout = elim (sound.apart k m a b ka mb node) [
  | inl e ↦ e
  | inr p ↦
      let q = get_some set.app.parts k (omega (arith, get_within set.sites k a ka, sound.sites)) in
      let bounds = (sound.deployed k q.0 a q.1 ka).bounds in
      absurd (not_apart a.layout (ltb-true a.layout.pub_from a.layout.pub_to (and_parts (nat_lt a.layout.pub_from a.layout.pub_to) _ bounds).0)
      (subst (λ (l : Layout). apart a.layout.pub_from a.layout.pub_to l.pub_from l.pub_to ≡ true) (sym layout) p.0))
]

runs_site : (set : Setting) → IsSoundSetting set → (n : ℕ) (s : State) (x : Section) (m : ℕ) (site : Site) → section_of s.sections.live (own_of s) ≡ Some x → slice_get set.sites m ≡ Some site
    → is_at_site n s.mem x site ≡ true → module_of set.sites n s (own_of s) ≡ Some m
runs_site set sound n s x m site found sited at = by (deployed set.sites n s.mem x) refl
  where
    by : (o : Option ℕ) → deployed set.sites n s.mem x ≡ o → module_of set.sites n s (own_of s) ≡ Some m
    by None e = absurd (position_some (is_at_site n s.mem x) 0 set.sites m site sited at e)
    by (Some k) e =
        let runs : module_of set.sites n s (own_of s) ≡ Some k = ap (option_and_then (deployed set.sites n s.mem)) found ∙ e in
        let r = runner_at set n k s (own_of s) x found runs in
        let one = at_site n s.mem x r.site r.at in
        let two = at_site n s.mem x site at in
        runs ∙ ap (λ (i : ℕ). Some i) (one_site set sound k m r.site site r.sited sited (one.node ∙ sym two.node) (sym one.layout ∙ two.layout))

-- The deployer.

is_use_parts : (u : Use) (us vs : List Use) → IsUse u (us ++ vs) → IsUse u us ⊎ IsUse u vs
is_use_parts u [] vs h = inr h
is_use_parts u (x ∷ us) vs (inl e) = inl (inl e)
is_use_parts u (x ∷ us) vs (inr h) = elim (is_use_parts u us vs h) [ inl i ↦ inl (inr i) | inr i ↦ inr i ]

abbrev kind_of : Use → ℕ
kind_of (Gives who kind rest) = kind
kind_of _ = 0

record SameGives (who who2 : Holder) (rest rest2 : List ℕ) : Type 0 where
  whose : who ≡ who2
  same : rest ≡ rest2

gives_parts : (who who2 : Holder) (rest rest2 : List ℕ) → Gives who 0x54 rest ≡ Gives who2 0x54 rest2 → SameGives who who2 rest rest2
gives_parts who who2 rest rest2 e = record { whose = cc; same = cc }

more_given : (set : Setting) (w : World) (g : Grant) (o : Option Site) (e : Made) → is_made w.ledger e ≡ true → is_made (key_given set w g o).world.ledger e ≡ true
more_given set w g None e h = h
more_given set w g (Some site) e h = made_before w.ledger (set_key_entry set g) e h

pub all_given : (set : Setting) (gs : List Grant) (w : World) (e : Made) → is_made w.ledger e ≡ true → is_made (keys_given set gs w).world.ledger e ≡ true
all_given set [] w e h = h
all_given set (g ∷ gs) w e h = all_given set gs (key_given set w g (slice_get set.sites g.holder)).world e (more_given set w g (slice_get set.sites g.holder) e h)

module _ (set : Setting) (who : Holder) (rest : List ℕ) where
  abbrev key_in : Grant → List ℕ
  key_in g = connection_key set g.«end».link g.epoch

  -- a set-key packet that this ledger has
  record Granted (ledger : List Made) : Type 0 where
    grant : Grant
    site : Site
    sited : slice_get set.sites grant.holder ≡ Some site
    whose : module_holder site grant.boot ≡ who
    same : length (grant_header grant) ∷ (grant_header grant ++ crypt set.mac (key_held set (module_holder site grant.boot)) (grant_header grant) (key_in grant)) ≡ rest
    made : is_made ledger (set_key_entry set grant) ≡ true

  one_granted : (g : Grant) (gs : List Grant) (w : World) (o : Option Site) → slice_get set.sites g.holder ≡ o → IsUse (Gives who 0x54 rest) (grant_uses set g o)
      → Granted (keys_given set gs (key_given set w g o).world).world.ledger
  one_granted g gs w None e i = absurd i
  one_granted g gs w (Some site) e (inl f) =
      let z : 0x53 ≡ 0x54 = ap kind_of f in absurd (omega (arith, z))
  one_granted g gs w (Some site) e (inr (inl f)) =
      let p = gives_parts (module_holder site g.boot) who (length (grant_header g) ∷ (grant_header g ++ crypt set.mac (key_held set (module_holder site g.boot)) (grant_header g) (key_in g))) rest f in
      record {
        grant = g;
        site = site;
        sited = e;
        whose = p.whose;
        same = p.same;
        made = all_given set gs (key_given set w g (Some site)).world (set_key_entry set g) (made_in w.ledger [] (set_key_entry set g));
      }
  one_granted g gs w (Some site) e (inr (inr i)) = absurd i

  granted : (gs : List Grant) (w : World) → IsUse (Gives who 0x54 rest) (grants_uses set gs) → Granted (keys_given set gs w).world.ledger
  granted [] w i = absurd i
  granted (g ∷ gs) w i = elim (is_use_parts (Gives who 0x54 rest) (grant_uses set g (slice_get set.sites g.holder)) (grants_uses set gs) i) [
    | inl j ↦ one_granted g gs w (slice_get set.sites g.holder) refl j
    | inr j ↦ granted gs (key_given set w g (slice_get set.sites g.holder)).world j
  ]

  verdict_granted : (w : World) (m : ℕ) (site : Site) (boot : ℕ) (answer : List ℕ) (o : Option (List ℕ)) → IsUse (Gives who 0x54 rest) (verdict_uses set w m site boot answer o)
      → Granted (after_verdict set w m site boot answer o).world.ledger
  verdict_granted w m site boot answer None i = absurd i
  verdict_granted w m site boot answer (Some ask) (inl f) =
      let z : 0 ≡ 0x54 = ap kind_of f in absurd (omega (arith, z))
  verdict_granted w m site boot answer (Some ask) (inr i) =
      let last = option_flatten (slice_get w.deployer.attested m) in
      by last (accepts set site w.deployer m boot answer (Some ask) last) i
    where
      by : (last : Option ℕ) (t : Bool) → IsUse (Gives who 0x54 rest) (cond t (grants_uses set (grants_after set.app (after_acceptance set.app.links w.deployer m boot last) m boot last)) [])
          → Granted (cond t (attested set w m boot ask last) (after_denial w m)).world.ledger
      by last true i =
          let d = after_acceptance set.app.links w.deployer m boot last in
          granted (grants_after set.app d m boot last) (with_deployer w d w.ledger) i
      by last false i = absurd i

  answer_granted : (w : World) (m boot : ℕ) (o : Option Site) (p : Option (List ℕ)) → IsUse (Gives who 0x54 rest) (answer_uses set w m boot o p) → Granted (after_answer set w m boot o p).world.ledger
  answer_granted w m boot None p i = absurd i
  answer_granted w m boot (Some site) None i = absurd i
  answer_granted w m boot (Some site) (Some answer) i = verdict_granted w m site boot answer (option_flatten (slice_get w.deployer.open_asks m)) i

-- At each moment the nodes have their keys.

pub kept_at : (set : Setting) (k : ℕ) (script : Script) (w : World) (now : Moment) → AllKept set w → moment_from set k script w ≡ Some now → AllKept set now.world
kept_at set k End w now h e = absurd cc
kept_at set zero (Do x rest) w now h e = subst (λ (o : Moment). AllKept set o.world) (Rattle.spec_run.proofs.tie.Lists.some_inj _ now e) h
kept_at set (suc k) (Do x rest) w now h e = kept_at set k (rest (looks (done set x w).world)) (done set x w).world now (done_kept set x w h) e

module _ (set : Setting) (sound : IsSoundSetting set) (lines : List Rattle.sx_sched.specs.Lines.Line) (form : Rattle.spec_run.specs.Law.LinesInForm set lines) (k : ℕ) (now : Moment)
    (at : moment set lines k ≡ Some now) (none : Rattle.law_forgery.specs.Moments.NoneBefore set lines k) (m boot : ℕ) (site : Site) (rest : List ℕ) (sited : slice_get set.sites m ≡ Some site) where
  abbrev who : Holder
  who = module_holder site boot

  header_back : (x : Exchange) (regs header body : List ℕ) → x ≡ exchanged regs header body → header_of x ≡ header
  header_back x regs header body e = ap header_of e ∙ take_at header (Rattle.std.specs.Prelude.replicate (32 - length header) 0) (length header) refl

  body_back : (x : Exchange) (regs header body : List ℕ) → x ≡ exchanged regs header body → body_of x ≡ body
  body_back x regs header body e = ap body_of e ∙ take_at body (Rattle.std.specs.Prelude.replicate (32 - length body) 0) (length body) refl

  stepped : (n : ℕ) (s : State) → now.next ≡ Step n → slice_get now.world.nodes n ≡ Some s → Wraps set n s who rest → IsEnteredUse set now m boot site rest
  stepped n s next here w =
      let y = w.makes_it in
      let x = w.section in
      let v = step set.mac s in
      let ended : v.shown.event ≡ event.Wrapped (own_of s) = ap (λ (o : Outcome). (settled_step s o).shown.event) y.ends in
      let left : v.state.exchange ≡ exchanged s.regs y.header y.body = ap (λ (o : Outcome). (settled_step s o).state.exchange) y.ends in
      elim y.whose [
        | inr h ↦ absurd (not_held h.0 h.2)
        | inl h ↦
            let text = bytes_from s.mem x.layout.pub_from (x.layout.pub_to - x.layout.pub_from) in
            let p = holder_parts site.node n boot s.boot site.provider x.provider site.text text site.layout x.layout h.1 in
            let stands : is_at_site n s.mem x site ≡ true =
            and_from (site.node == n) _ (eq-eqb site.node n p.node)
            (and_from (same_layout x.layout site.layout) _ (ap (same_layout x.layout) p.layout ∙ layout_self x.layout)
            (and_from (x.provider == site.provider) (bytes_eq text site.text) (eq-eqb x.provider site.provider (sym p.provider))
            (ap (bytes_eq text) p.text ∙ bytes_eq-same text))) in
            let runs = runs_site set sound n s x m site w.found sited stands in
            let entered = (ledger_tells set sound lines form k now at none).wraps n m (own_of s) s next here runs ended in
            let ledger = (done set now.next now.world).world.ledger in
            elim entered [
              | inl q ↦
                  record {
                    header = y.header;
                    body = y.body;
                    of_them = y.is;
                    entered = inr (
                        subst (λ (b : ℕ). is_made ledger (made_entry (maker.Module m) NO_TARGET b y.header y.body) ≡ true) (sym p.boot)
                        (subst (λ (z : List ℕ). is_made ledger (made_entry (maker.Module m) NO_TARGET s.boot z y.body) ≡ true) (header_back v.state.exchange s.regs y.header y.body left)
                        (subst (λ (z : List ℕ). is_made ledger (made_entry (maker.Module m) NO_TARGET s.boot (header_of v.state.exchange) z) ≡ true) (body_back v.state.exchange s.regs y.header y.body left) q.1)));
                  }
              | inr q ↦ absurd (true≢false (sym h.0 ∙ sym (ap (λ (z : Exchange). z.own_key) left) ∙ q.0))
            ]
      ]
    where
      not_held : (key : List ℕ) → who ≡ Held key → ⊥
      not_held key e = absurd cc

  answered : (m2 boot2 j : ℕ) → now.next ≡ Answer m2 boot2 j → Granted set who rest (after_answer set now.world m2 boot2 (slice_get set.sites m2) (slice_get now.world.packets j)).world.ledger
      → IsEnteredUse set now m boot site rest
  answered m2 boot2 j next g =
      let p = holder_parts g.site.node site.node g.grant.boot boot g.site.provider site.provider g.site.text site.text g.site.layout site.layout g.whose in
      let same : g.grant.holder ≡ m = one_site set sound g.grant.holder m g.site site g.sited sited p.node p.layout in
      let h = grant_header g.grant in
      let c = connection_key set g.grant.«end».link g.grant.epoch in
      let ledger : (done set now.next now.world).world.ledger ≡ (after_answer set now.world m2 boot2 (slice_get set.sites m2) (slice_get now.world.packets j)).world.ledger =
      ap (λ (y : Happening). (done set y now.world).world.ledger) next in
      record {
        header = h;
        body = c;
        of_them = sym g.same ∙ ap (λ (z : Holder). length h ∷ (h ++ crypt set.mac (key_held set z) h c)) g.whose;
        entered = inl (
            subst (λ (l : List Made). is_made l (made_entry maker.Deployer m boot h c) ≡ true) (sym ledger)
            (subst (λ (i : ℕ). is_made (after_answer set now.world m2 boot2 (slice_get set.sites m2) (slice_get now.world.packets j)).world.ledger (made_entry maker.Deployer i boot h c) ≡ true) same
            (subst (λ (i : ℕ). is_made (after_answer set now.world m2 boot2 (slice_get set.sites m2) (slice_get now.world.packets j)).world.ledger (made_entry maker.Deployer g.grant.holder i h c) ≡ true) p.boot g.made)));
      }

  on_node : (n : ℕ) (o : Option State) → now.next ≡ Step n → slice_get now.world.nodes n ≡ o → IsUse (Gives who 0x54 rest) (step_uses set n o) → IsEnteredUse set now m boot site rest
  on_node n None next here i = absurd i
  on_node n (Some s) next here i =
      let kept = kept_at set k (script_of set lines) (switched_on set) now (on_kept set) at in
      stepped n s next here (step_gives set n s (section_key_held set n s (kept n s here).keys (own_of s)) who rest i)

  logged : (x : Happening) → now.next ≡ x → IsUse (Gives who 0x54 rest) (uses_at set x now.world) → IsEnteredUse set now m boot site rest
  logged (Step n) next i = on_node n (slice_get now.world.nodes n) next refl i
  logged (Answer m2 boot2 j) next i = answered m2 boot2 j next (answer_granted set who rest now.world m2 boot2 (slice_get set.sites m2) (slice_get now.world.packets j) i)
  logged x next i = absurd i

pub held_are_logged : HeldAreLogged
held_are_logged set sound lines form k now at none n m s next here runs key rest i =
    let kept = kept_at set k (script_of set lines) (switched_on set) now (on_kept set) at in
    let use_ : IsUse (Gives (Held key) 0x54 rest) (step_uses set n (Some s)) =
    subst (λ (o : Option State). IsUse (Gives (Held key) 0x54 rest) (step_uses set n o)) here
    (subst (λ (x : Happening). IsUse (Gives (Held key) 0x54 rest) (uses_at set x now.world)) next i) in
    let w = step_gives set n s (section_key_held set n s (kept n s here).keys (own_of s)) (Held key) rest use_ in
    let y = w.makes_it in
    let v = step set.mac s in
    let ended : v.shown.event ≡ event.Wrapped (own_of s) = ap (λ (o : Outcome). (settled_step s o).shown.event) y.ends in
    let left : v.state.exchange ≡ exchanged s.regs y.header y.body = ap (λ (o : Outcome). (settled_step s o).state.exchange) y.ends in
    let ledger = (done set now.next now.world).world.ledger in
    elim y.whose [
      | inl h ↦ absurd (not_section n s w.section key h.1)
      | inr h ↦ elim ((ledger_tells set sound lines form k now at none).wraps n m (own_of s) s next here runs ended) [
        | inl q ↦ absurd (true≢false (sym q.0 ∙ ap (λ (z : Exchange). z.own_key) left ∙ h.1))
        | inr q ↦
            record {
              header = y.header;
              body = y.body;
              of_them = y.is;
              entered =
                  subst (λ (z : List ℕ). is_made ledger (made_entry (maker.Module m) NO_TARGET 0 z y.body) ≡ true)
                  (ap header_of left ∙ take_at y.header (Rattle.std.specs.Prelude.replicate (32 - length y.header) 0) (length y.header) refl)
                  (subst (λ (z : List ℕ). is_made ledger (made_entry (maker.Module m) NO_TARGET 0 (header_of v.state.exchange) z) ≡ true)
                  (ap body_of left ∙ take_at y.body (Rattle.std.specs.Prelude.replicate (32 - length y.body) 0) (length y.body) refl) q.1);
            }
      ]
    ]
  where
    not_section : (n : ℕ) (s : State) (x : Section) (key : List ℕ) → Held key ≡ section_holder n s x → ⊥
    not_section n s x key e = absurd cc

pub given_are_logged : GivenAreLogged
given_are_logged set sound lines form k now at none m boot site rest sited i = logged set sound lines form k now at none m boot site rest sited now.next refl i
