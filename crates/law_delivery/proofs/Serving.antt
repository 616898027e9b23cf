-- In a settled world each module is loaded at its node and can be served; and what is served leads to a settled world.
use Rattle.std.proofs.Common.{◌≡◌, ◌≢◌, ℕ, zero, suc, ◌+◌, ◌≤◌, ◌⊎◌, inl, inr, ◌==◌, Bool, true, false, if◌then◌else◌, List, [], ◌∷◌, ◌++◌, length}
use Rattle.std.proofs.Common.{length-append, map, Some, slice_get, append_assoc, refl, sym, ◌∙◌, ap, subst, arith}
use Rattle.std.specs.Prelude.{All, slice_set}
use Rattle.std.proofs.lemmas.Bool.{cases_eq, eq-eqb}
use Rattle.std.proofs.lemmas.Option.{same_Some}
use Rattle.sx_rules.specs.declared.section.Section.{Section}
use Rattle.sx_rules.specs.declared.section.Layout.{Layout}
use Rattle.sx_rules.specs.Access.{Lives, Sections, section_of}
use Rattle.sx_rules.specs.Admission.{apart}
use Rattle.sx_rules.proofs.Placing.{placed_found}
use Rattle.sx_bus.specs.Devices.{places_of, powered_on}
use Rattle.sx_bus.specs.declared.devices.Kind.{Kind}
use Rattle.sx_mean.specs.Application.{PartTree}
use Rattle.sx_mean.specs.Ends.{ends_of}
use Rattle.spec_machine.specs.State.{State}
use Rattle.spec_machine.specs.Node.{IsNode}
use Rattle.spec_machine.specs.NodeLaws.{shapes}
use Rattle.spec_machine.proofs.Devices.{places_in}
use Rattle.sx_model.proofs.Written.{at_set}
use Rattle.sx_image.specs.Image.{private_bytes, public_bytes}
use Rattle.spec_invocation.specs.ModuleState.{state_of}
use Rattle.spec_run.specs.Setting.{Site, Setting, windows_at}
use Rattle.spec_run.specs.Observation.{sender_of}
use Rattle.spec_run.specs.State.{World}
use Rattle.spec_run.specs.Law.{IsLawfulSetting}
use Rattle.spec_run.proofs.steps.Bystanders.{apart_self}
use Rattle.spec_run.proofs.steps.Entry.{shapes_on}
use Rattle.spec_run.proofs.steps.Steps.{bounds_of}
use Rattle.spec_run.proofs.tie.Lists.{length_set, some_inj}
use Rattle.spec_honest.specs.Plain.{Waiting}
use Rattle.spec_honest.specs.Course.{Course, count_over, packets_so_far, setup_packets}
use Rattle.law_setup.specs.Laws.{HasRoom}
use Rattle.law_setup.proofs.forms.Loaded.{StandsHigh}
use Rattle.law_setup.proofs.forms.Served.{IsServed, state_on}
use Rattle.law_setup.proofs.forms.Settled.{IsOnItsWay, ModuleStands, NodeStands, Settled, all_sent, module_as, sections_of}
use Rattle.law_setup.proofs.Sites.{in_sections, low_windows, section_at}
use Rattle.law_delivery.proofs.Leaving.{Among}
use Rattle.law_delivery.proofs.Making.{entries_for, pieces_of}
use Rattle.law_delivery.proofs.Waits.{split_two, way_kept, way_made}

-- the section of a site is there
section_found : (set : Setting) (n id : ℕ) (sites : List Site) (i : ℕ) (site : Site) → slice_get sites i ≡ Some site → site.node ≡ n
    → (k : ℕ) × Lives (sections_of set n id sites) (section_at set k site)
section_found set n id [] i site e at = absurd cc
section_found set n id (y ∷ sites) zero site e at =
    let same : y ≡ site = some_inj y site e in
    let yes : (y.node == n) ≡ true = eq-eqb y.node n (ap (λ (z : Site). z.node) same ∙ at) in (
      id,
      subst (λ (b : Bool). Lives (if b then section_at set id y ∷ sections_of set n (id + 1) sites else sections_of set n id sites) (section_at set id site))
          (sym yes) (inl (ap (section_at set id) same)),
    )
section_found set n id (y ∷ sites) (suc i) site e at = by (y.node == n) (section_found set n (id + 1) sites i site e at) (section_found set n id sites i site e at)
  where
    by : (b : Bool) → ((k : ℕ) × Lives (sections_of set n (id + 1) sites) (section_at set k site)) → ((k : ℕ) × Lives (sections_of set n id sites) (section_at set k site))
        → (k : ℕ) × Lives (if b then section_at set id y ∷ sections_of set n (id + 1) sites else sections_of set n id sites) (section_at set k site)
    by true r o = (r.0, inr r.1)
    by false r o = o

module _ (set : Setting) (sound : IsLawfulSetting set) (room : HasRoom set) (c : Course) (w : World) (settled : Settled set w c) where
  -- the section of a module at its node
  pub own_section : (m : ℕ) (site : Site) (s : State) → slice_get set.sites m ≡ Some site → slice_get w.nodes site.node ≡ Some s → (k : ℕ) × Lives s.sections.live (section_at set k site)
  own_section m site s sited there =
      let found = section_found set site.node 1 set.sites m site sited refl in
      (found.0, subst (λ (z : Sections). Lives z.live (section_at set found.0 site)) (sym (settled.nodes site.node s there).sections) found.1)

  stands_high : (n : ℕ) (s : State) → slice_get w.nodes n ≡ Some s → StandsHigh s
  stands_high n s there =
      let stands = settled.nodes n s there in
      let xs = windows_at n set.app.devices set.places in
      let places : places_of (powered_on xs) ≡ places_of s.devices =
      places_in (powered_on xs) ∙ ap (λ (zs : List (ℕ × Kind)). map (λ (p : ℕ × Kind). p.0) zs) (shapes_on xs ∙ sym stands.devices) ∙ sym (places_in s.devices) in
      record {
        sections = λ x l.
            let f = in_sections set n 1 set.sites x (subst (λ (z : Sections). Lives z.live x) stands.sections l) in
            let h = room.sections f.place f.site f.there in
            (subst (λ (z : Layout). 512 ≤ z.pub_from) (sym f.layout) h.0, subst (λ (z : Layout). 512 ≤ z.priv_from) (sym f.layout) h.1);
        devices = subst (λ ps. All (λ at. 512 ≤ at) ps) places (low_windows n set.app.devices set.places room.devices);
      }

  -- a module can be served
  pub served_at : (m : ℕ) (q : PartTree) (site : Site) (s : State) (part : slice_get set.app.parts m ≡ Some q) (sited : slice_get set.sites m ≡ Some site)
      (there : slice_get w.nodes site.node ≡ Some s)
      → IsServed set m q site (section_at set (own_section m site s sited there).0 site) s (module_as set c m)
  served_at m q site s part sited there =
      let at = settled.nodes site.node s there in
      let stands = settled.modules m q site s part sited there in
      record {
        part = part;
        sited = sited;
        node = at.node;
        idle = at.idle;
        boot = at.boot;
        stands = record { lives = (own_section m site s sited there).1; layout = refl; provider = refl; text = stands.text };
        key = refl;
        windows = at.devices;
        low = stands_high site.node s there;
        state = stands.state;
      }

  -- sections of two modules at one node have ids of their own
  other_ids : (m p : ℕ) (q r : PartTree) (a b : Site) (s : State) (x y : Section) → IsNode s → slice_get set.app.parts m ≡ Some q
      → slice_get set.sites m ≡ Some a → slice_get set.sites p ≡ Some b → a.node ≡ b.node
      → (m ≡ p → ⊥) → Lives s.sections.live x → Lives s.sections.live y → x.layout ≡ a.layout → y.layout ≡ b.layout → x.id ≢ y.id
  other_ids m p q r a b s x y node part sa sb same differ lx ly la lb ids =
      let fx : section_of s.sections.live x.id ≡ Some x = placed_found s.sections x node.placed lx in
      let fy : section_of s.sections.live y.id ≡ Some y = placed_found s.sections y node.placed ly in
      let xy : x ≡ y = same_Some x y (sym fx ∙ ap (λ i. section_of s.sections.live i) ids ∙ fy) in
      let layouts : a.layout ≡ b.layout = (sym la ∙ ap (λ (z : Section). z.layout) xy ∙ lb) in
      elim (sound.sound.apart m p a b sa sb same) [
        | inl e ↦ differ e
        | inr far ↦ apart_self a.layout.pub_from a.layout.pub_to (bounds_of a.layout (sound.sound.deployed m q a part sa).bounds)
            (subst (λ (z : Layout). apart a.layout.pub_from a.layout.pub_to z.pub_from z.pub_to ≡ true) (sym layouts) far.0)
      ]

  -- how the course goes on: these values wait from before, and the event of the m-th module sends those
  pub record Follows (m : ℕ) (c1 : Course) (rest ys : List Waiting) : Type 0 where
    pub waits : c1.plain.waiting ≡ rest ++ ys
    pub sent : c1.past ++ rest ≡ all_sent c
    pub count : packets_so_far set.app c ≡ setup_packets set.app + length c1.past + length rest
    pub old : (x : Waiting) (before after : List Waiting) → rest ≡ before ++ x ∷ after
        → IsOnItsWay set w (setup_packets set.app + length c1.past + length before) x.link (count_over x.link (c1.past ++ before)) x.value
    pub senders : (x : Waiting) → Among x ys → sender_of set.app x.link ≡ m
    pub apart : (p : ℕ) → (m ≡ p → ⊥) → module_as set c p ≡ module_as set c1 p

  -- What an event of the m-th module leads to: its node is u, the packets and entries of the values that it sends are after all others,
  -- and no other module's state is another one.
  pub record Passes (m : ℕ) (q : PartTree) (site : Site) (sec : Section) (s u : State) (c1 : Course) (v : World) (rest ys : List Waiting) : Type 0 where
    pub part : slice_get set.app.parts m ≡ Some q
    pub sited : slice_get set.sites m ≡ Some site
    pub there : slice_get w.nodes site.node ≡ Some s
    pub lives : Lives s.sections.live sec
    pub layout : sec.layout ≡ site.layout
    pub node : IsNode u
    pub idle : u.cur ≡ 0
    pub boot : u.boot ≡ s.boot
    pub key : u.key ≡ s.key
    pub sections : u.sections ≡ s.sections
    pub windows : shapes u.devices ≡ shapes s.devices
    pub stale : All (λ d. d.fresh ≡ false) u.devices
    pub texts : (x : Section) → Lives s.sections.live x → public_bytes x.layout u.mem ≡ public_bytes x.layout s.mem
    pub others : (x : Section) → Lives s.sections.live x → sec.id ≢ x.id → private_bytes x.layout u.mem ≡ private_bytes x.layout s.mem
    pub state : state_on set m q site u ≡ module_as set c1 m
    pub nodes : v.nodes ≡ slice_set w.nodes site.node u
    pub packets : v.packets ≡ w.packets ++ pieces_of set (all_sent c) ys
    pub deployer : v.deployer ≡ w.deployer
    pub ledger : v.ledger ≡ w.ledger ++ entries_for m (all_sent c) ys
    pub follows : Follows m c1 rest ys
    pub pieces : length (pieces_of set (all_sent c) ys) ≡ length ys

  among_mid : (front after : List Waiting) (x : Waiting) → Among x (front ++ x ∷ after)
  among_mid [] after x = inl refl
  among_mid (y ∷ front) after x = inr (among_mid front after x)

  -- and so to a settled world
  pub settles_at : (m : ℕ) (q : PartTree) (site : Site) (sec : Section) (s u : State) (c1 : Course) (v : World) (rest ys : List Waiting) → Passes m q site sec s u c1 v rest ys → Settled set v c1
  settles_at m q site sec s u c1 v rest ys h = record {
    as_many = ap (λ (ns : List State). length ns) h.nodes ∙ length_set w.nodes site.node u ∙ settled.as_many;
    nodes = λ n t e. by_node n t (at_set w.nodes site.node n u t (sym (ap (λ (ns : List State). slice_get ns n) h.nodes) ∙ e));
    modules = λ p r a t part sited e.
        by_module p r a t part sited (cases_eq m p) (at_set w.nodes site.node a.node u t (sym (ap (λ (ns : List State). slice_get ns a.node) h.nodes) ∙ e));
    deployer = subst (λ d. Rattle.law_setup.proofs.forms.Settled.HasAttested set d) (sym h.deployer) settled.deployer;
    packets =
        ap (λ (ps : List (List ℕ)). length ps) h.packets
        ∙ sums (length w.packets) (length (pieces_of set (all_sent c) ys)) (length ys) (setup_packets set.app + length c1.past) (length rest)
        (length c1.plain.waiting) (length (w.packets ++ pieces_of set (all_sent c) ys))
        (length-append w.packets (pieces_of set (all_sent c) ys)) (settled.packets ∙ h.follows.count) h.pieces (ap (λ (zs : List Waiting). length zs) h.follows.waits ∙ length-append rest ys);
    waiting = λ x before after e. by_place x before after (split_two rest ys before after x (sym h.follows.waits ∙ e));
  }
    where
      sums : (a b k p r l x : ℕ) → x ≡ a + b → a ≡ p + r → b ≡ k → l ≡ r + k → x ≡ p + l
      sums a b k p r l x e f g i = omega (arith, e, f, g, i)

      here : NodeStands set site.node set.sites u
      here =
          let old = settled.nodes site.node s h.there in
          record {
            node = h.node;
            idle = h.idle;
            boot = h.boot ∙ old.boot;
            key = h.key ∙ old.key;
            sections = h.sections ∙ old.sections;
            devices = h.windows ∙ old.devices;
            stale = h.stale;
          }

      by_node : (n : ℕ) (t : State) → ((site.node ≡ n) × (u ≡ t)) ⊎ ((site.node ≡ n → ⊥) × (slice_get w.nodes n ≡ Some t)) → NodeStands set n set.sites t
      by_node n t (inl r) = subst (λ (k : ℕ). NodeStands set k set.sites t) r.0 (subst (λ (z : State). NodeStands set site.node set.sites z) r.1 here)
      by_node n t (inr r) = settled.nodes n t r.1

      -- the module itself
      own : ModuleStands set m q site (module_as set c1 m) u
      own = record {
        text = ap (λ (l : Layout). public_bytes l u.mem) (sym h.layout) ∙ h.texts sec h.lives ∙ ap (λ (l : Layout). public_bytes l s.mem) h.layout
            ∙ (settled.modules m q site s h.part h.sited h.there).text;
        state = h.state;
      }

      -- another one at its node
      beside : (p : ℕ) (r : PartTree) (a : Site) → slice_get set.app.parts p ≡ Some r → slice_get set.sites p ≡ Some a → (m ≡ p → ⊥) → site.node ≡ a.node
          → ModuleStands set p r a (module_as set c1 p) u
      beside p r a part sited differ same =
          let there : slice_get w.nodes a.node ≡ Some s = (ap (λ (n : ℕ). slice_get w.nodes n) (sym same) ∙ h.there) in
          let old = settled.modules p r a s part sited there in
          let x = own_section p a s sited there in
          let y = section_at set x.0 a in
          let ids : sec.id ≢ y.id = other_ids m p q r site a s sec y (settled.nodes site.node s h.there).node h.part h.sited sited same differ h.lives x.1 h.layout refl in
          record {
            text = h.texts y x.1 ∙ old.text;
            state = ap (λ bytes. state_of r.tree (ends_of set.app p) bytes) (h.others y x.1 ids) ∙ old.state ∙ h.follows.apart p differ;
          }

      by_module : (p : ℕ) (r : PartTree) (a : Site) (t : State) → slice_get set.app.parts p ≡ Some r → slice_get set.sites p ≡ Some a → ((m ≡ p) ⊎ (m ≡ p → ⊥))
          → ((site.node ≡ a.node) × (u ≡ t)) ⊎ ((site.node ≡ a.node → ⊥) × (slice_get w.nodes a.node ≡ Some t)) → ModuleStands set p r a (module_as set c1 p) t
      by_module p r a t part sited (inl same) (inl k) =
          let parts : q ≡ r = same_Some q r (sym h.part ∙ ap (λ (i : ℕ). slice_get set.app.parts i) same ∙ part) in
          let sites : site ≡ a = same_Some site a (sym h.sited ∙ ap (λ (i : ℕ). slice_get set.sites i) same ∙ sited) in
          subst (λ (z : State). ModuleStands set p r a (module_as set c1 p) z) k.1
          (subst (λ (z : Site). ModuleStands set p r z (module_as set c1 p) u) sites
          (subst (λ (z : PartTree). ModuleStands set p z site (module_as set c1 p) u) parts
          (subst (λ (i : ℕ). ModuleStands set i q site (module_as set c1 i) u) same own)))
      by_module p r a t part sited (inl same) (inr k) =
          let sites : site ≡ a = same_Some site a (sym h.sited ∙ ap (λ (i : ℕ). slice_get set.sites i) same ∙ sited) in
          absurd (k.0 (ap (λ (z : Site). z.node) sites))
      by_module p r a t part sited (inr differ) (inl k) = subst (λ (z : State). ModuleStands set p r a (module_as set c1 p) z) k.1 (beside p r a part sited differ k.0)
      by_module p r a t part sited (inr differ) (inr k) =
          let old = settled.modules p r a t part sited k.1 in
          record { text = old.text; state = old.state ∙ h.follows.apart p differ }

      by_place : (x : Waiting) (before after : List Waiting)
          → ((behind : List Waiting) × (rest ≡ before ++ x ∷ behind)) ⊎ ((front : List Waiting) × (before ≡ rest ++ front) × (ys ≡ front ++ x ∷ after))
          → IsOnItsWay set v (setup_packets set.app + length c1.past + length before) x.link (count_over x.link (c1.past ++ before)) x.value
      by_place x before after (inl r) =
          way_kept set w v (pieces_of set (all_sent c) ys) (entries_for m (all_sent c) ys) (setup_packets set.app + length c1.past + length before) x.link
          (count_over x.link (c1.past ++ before)) x.value
          h.packets h.ledger (h.follows.old x before r.0 r.1)
      by_place x before after (inr r) =
          let front = r.0 in
          let packets : v.packets ≡ w.packets ++ pieces_of set (all_sent c) (front ++ x ∷ after) = (h.packets ∙ ap (λ (zs : List Waiting). w.packets ++ pieces_of set (all_sent c) zs) r.2) in
          let ledger : v.ledger ≡ w.ledger ++ entries_for m (all_sent c) (front ++ x ∷ after) = (h.ledger ∙ ap (λ (zs : List Waiting). w.ledger ++ entries_for m (all_sent c) zs) r.2) in
          let made = way_made set w v m (all_sent c) front after x packets ledger (h.follows.senders x (subst (λ (zs : List Waiting). Among x zs) (sym r.2) (among_mid front after x))) in
          let place : length w.packets + length front ≡ setup_packets set.app + length c1.past + length before =
          (let a = settled.packets ∙ h.follows.count in let b = ap (λ (zs : List Waiting). length zs) r.1 ∙ length-append rest front in
          adds (length w.packets) (length front) (setup_packets set.app + length c1.past) (length rest) (length before) a b) in
          let words : all_sent c ++ front ≡ c1.past ++ before =
          (ap (λ (zs : List Waiting). zs ++ front) (sym h.follows.sent) ∙ append_assoc c1.past rest front ∙ ap (λ (zs : List Waiting). c1.past ++ zs) (sym r.1)) in
          subst (λ (zs : List Waiting). IsOnItsWay set v (setup_packets set.app + length c1.past + length before) x.link (count_over x.link zs) x.value) words
          (subst (λ (k : ℕ). IsOnItsWay set v k x.link (count_over x.link (all_sent c ++ front)) x.value) place made)
        where
          adds : (a f p r b : ℕ) → a ≡ p + r → b ≡ r + f → a + f ≡ p + b
          adds a f p r b e g = omega (arith, e, g)
