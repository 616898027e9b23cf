-- The set-up, module by module: what the world is after some of them, and that the next one is set up.
use Rattle.std.proofs.Common.{◌≡◌, ◌≢◌, ℕ, zero, suc, ◌+◌, ◌%◌, ◌<◌, ◌≤◌, inl, inr, ◌==◌, ◌&&◌, true, false, List, [], ◌∷◌, ◌++◌, length, length-append}
use Rattle.std.proofs.Common.{map, Option, Some, None, refl, sym, ◌∙◌, ap, subst, arith}
use Rattle.std.specs.Prelude.{All, count_by, nat_lt, slice_get, slice_index, slice_set}
use Rattle.std.specs.List.{list_all}
use Rattle.std.proofs.lemmas.Bool.{and_from, and_parts, cases_eq, eqb-true, false_from_ne_true}
use Rattle.std.proofs.lemmas.List.{set-set, length-map}
use Rattle.sx_rules.specs.declared.section.Section.{Section}
use Rattle.sx_rules.specs.declared.section.Layout.{Layout}
use Rattle.sx_rules.specs.Access.{Lives, Sections}
use Rattle.sx_rules.specs.Admission.{admitted, apart, clear_of, no_device, no_overlap, parts_apart}
use Rattle.sx_bus.specs.declared.devices.Window.{Window}
use Rattle.sx_bus.specs.Devices.{places_of}
use Rattle.sx_mean.specs.Application.{PartTree}
use Rattle.sx_mean.specs.Ends.{ends_of}
use Rattle.sx_mean.specs.Valid.{IsApplication, IsPlaced}
use Rattle.sx_mean.proofs.ValidApplications.{valid_applications}
use Rattle.spec_machine.specs.State.{State}
use Rattle.spec_machine.specs.Node.{IsNode}
use Rattle.spec_machine.specs.NodeLaws.{shapes}
use Rattle.spec_machine.proofs.Frame.{all_pass}
use Rattle.sx_image.specs.Image.{private_bytes, public_bytes}
use Rattle.spec_invocation.specs.ModuleState.{state_of}
use Rattle.spec_run.specs.Setting.{Site, Setting, windows_at}
use Rattle.sx_deployer.specs.Granting.{DeployerState, grants_of}
use Rattle.spec_run.specs.Deployer.{key_of, list_at}
use Rattle.spec_run.specs.State.{World}
use Rattle.spec_run.specs.Law.{AreApartLayouts, IsLawfulSetting, IsDeployedModule, devices_of}
use Rattle.spec_run.proofs.steps.Entry.{shapes_on}
use Rattle.spec_run.proofs.tie.Lists.{get_before, get_other, get_within, length_set, some_inj}
use Rattle.lemmas.proofs.Lists.{get_same, get_mid, get_some}
use Rattle.spec_run.proofs.steps.Stretch.{set_same}
use Rattle.spec_run.proofs.tie.Start.{zero_epochs}
use Rattle.spec_run.proofs.acts.Bounds.{own_few}
use Rattle.law_setup.specs.Laws.{HasRoom}
use Rattle.law_setup.proofs.forms.Settled.{ModuleStands, sections_of, table_of}
use Rattle.law_setup.proofs.forms.Loaded.{IsLoadable, StandsHigh}
use Rattle.law_setup.proofs.forms.PartDone.{SetsUp, first_state}
use Rattle.law_setup.proofs.PartDone.{module_set_up}
use Rattle.law_setup.proofs.Sites.{FromSite, admitted_next, fewer_sections, in_sections, low_windows, no_word, not_more, one_more, section_at, section_there}

-- which modules were attested: the first so many
abbrev pub marks : ℕ → List PartTree → List (Option ℕ)
marks zero [] = []
marks (suc k) [] = []
marks zero (q ∷ qs) = None ∷ marks zero qs
marks (suc k) (q ∷ qs) = Some 0 ∷ marks k qs

pub marks_none : (qs : List PartTree) → map (λ p. None) qs ≡ marks zero qs
marks_none [] = refl
marks_none (q ∷ qs) = ap (λ r. None ∷ r) (marks_none qs)

pub marks_all : (qs : List PartTree) → marks (length qs) qs ≡ map (λ p. Some 0) qs
marks_all [] = refl
marks_all (q ∷ qs) = ap (λ r. Some 0 ∷ r) (marks_all qs)

marks_next : (k : ℕ) (qs : List PartTree) (q : PartTree) → slice_get qs k ≡ Some q → slice_get (marks k qs) k ≡ Some None
marks_next k [] q e = absurd cc
marks_next zero (x ∷ qs) q e = refl
marks_next (suc k) (x ∷ qs) q e = marks_next k qs q e

marks_set : (k : ℕ) (qs : List PartTree) (q : PartTree) → slice_get qs k ≡ Some q → slice_set (marks k qs) k (Some 0) ≡ marks (suc k) qs
marks_set k [] q e = absurd cc
marks_set zero (x ∷ qs) q e = refl
marks_set (suc k) (x ∷ qs) q e = ap (λ r. Some 0 ∷ r) (marks_set k qs q e)

get_blank : {X : Type 0} → (v : X) (qs : List PartTree) (k : ℕ) (q : PartTree) → slice_get qs k ≡ Some q → slice_get (map (λ p. v) qs) k ≡ Some v
get_blank v [] k q e = absurd cc
get_blank v (x ∷ qs) zero q e = refl
get_blank v (x ∷ qs) (suc k) q e = get_blank v qs k q e

get_front : {X : Type 0} → (xs ys : List X) (i : ℕ) (v : X) → slice_get (xs ++ ys) i ≡ Some v → i < length xs → slice_get xs i ≡ Some v
get_front xs ys i v e lt =
    let g = get_some xs i lt in
    g.1 ∙ ap (λ x. Some x) (some_inj g.0 v (sym (get_before xs ys i g.0 g.1) ∙ e))

-- a node where the modules of these sites were set up
pub record NodeSoFar (set : Setting) (n : ℕ) (sb : List Site) (s : State) : Type 0 where
  pub node : IsNode s
  pub idle : s.cur ≡ 0
  pub boot : s.boot ≡ 0
  pub key : s.key ≡ list_at set.keys n
  pub devices : s.devices ≡ devices_of set n
  pub sections : s.sections ≡ table_of set n sb

-- a world where the first k modules were set up, which are those of these sites
pub record SoFar (set : Setting) (k : ℕ) (sb : List Site) (w : World) : Type 0 where
  pub as_many : length w.nodes ≡ length set.keys
  pub nodes : (n : ℕ) (s : State) → slice_get w.nodes n ≡ Some s → NodeSoFar set n sb s
  pub modules : (m : ℕ) (q : PartTree) (site : Site) (s : State) → m < k → slice_get set.app.parts m ≡ Some q → slice_get set.sites m ≡ Some site
      → slice_get w.nodes site.node ≡ Some s → ModuleStands set m q site (first_state set m q) s
  pub asks : w.deployer.asks ≡ k
  pub open_asks : w.deployer.open_asks ≡ map (λ p. None) set.app.parts
  pub attested : w.deployer.attested ≡ marks k set.app.parts
  pub epochs : w.deployer.epochs ≡ map (λ l. 0) set.app.links

module _ (set : Setting) (sound : IsLawfulSetting set) (room : HasRoom set) (before qs : List PartTree) (q : PartTree) (sb ss : List Site) (site : Site) (w : World)
    (parts : set.app.parts ≡ before ++ q ∷ qs) (sites : set.sites ≡ sb ++ site ∷ ss) (len : length sb ≡ length before) (far : SoFar set (length before) sb w) where
  abbrev k : ℕ
  k = length before

  abbrev n : ℕ
  n = site.node

  abbrev l : Layout
  l = site.layout

  part_at : slice_get set.app.parts k ≡ Some q
  part_at = ap (λ z. slice_get z k) parts ∙ get_mid before qs q

  site_at : slice_get set.sites k ≡ Some site
  site_at = ap (λ z. slice_get z k) sites ∙ ap (λ j. slice_get (sb ++ site ∷ ss) j) (sym len) ∙ get_mid sb ss site

  dep : IsDeployedModule set k q site
  dep = sound.sound.deployed k q site part_at site_at

  app_is : IsApplication set.app
  app_is = valid_applications set.app room.valid

  placed : IsPlaced set.app k q
  placed = app_is.parts k q part_at

  node_there : n < length w.nodes
  node_there = let a = far.as_many in let b = sound.sound.keys in let c = placed.node in let d = dep.node in omega (arith, a, b, c, d)

  pub s_there : (s : State) × (slice_get w.nodes n ≡ Some s)
  s_there = get_some w.nodes n node_there

  -- the node, given by name so that it stays short
  module _ (s : State) (there : slice_get w.nodes n ≡ Some s) where
    ns : NodeSoFar set n sb s
    ns = far.nodes n s there

    live_is : s.sections.live ≡ sections_of set n 1 sb
    live_is = ap (λ (z : Sections). z.live) ns.sections

    from_site : (x : Section) → Lives s.sections.live x → FromSite n sb x
    from_site x lives = in_sections set n 1 sb x (subst (λ z. Lives z x) live_is lives)

    whole : (i : ℕ) (y : Site) → slice_get sb i ≡ Some y → slice_get set.sites i ≡ Some y
    whole i y e = ap (λ z. slice_get z i) sites ∙ get_before sb (site ∷ ss) i y e

    low : StandsHigh s
    low = record {
      sections = λ x lives.
          let f = from_site x lives in
          subst (λ (z : Layout). (512 ≤ z.pub_from) × (512 ≤ z.priv_from)) (sym f.layout) (room.sections f.place f.site (whole f.place f.site f.there));
      devices = subst (λ (z : List Window). All (λ at. 512 ≤ at) (places_of z)) (sym ns.devices) (low_windows n set.app.devices set.places room.devices);
    }

    apart_all : (z : Layout) → AreApartLayouts l z
        → (apart l.pub_from l.pub_to z.pub_from z.pub_to
        && (apart l.pub_from l.pub_to z.priv_from z.priv_to && (apart l.priv_from l.priv_to z.pub_from z.pub_to && apart l.priv_from l.priv_to z.priv_from z.priv_to))) ≡ true
    apart_all z a =
        and_from (apart l.pub_from l.pub_to z.pub_from z.pub_to) _ a.0
        (and_from (apart l.pub_from l.pub_to z.priv_from z.priv_to) _ a.1
        (and_from (apart l.priv_from l.priv_to z.pub_from z.pub_to) (apart l.priv_from l.priv_to z.priv_from z.priv_to) a.2 a.3))

    clear : (x : Section) → Lives s.sections.live x → clear_of l x ≡ true
    clear x lives =
        let f = from_site x lives in
        let inside = get_within sb f.place f.site f.there in
        elim (sound.sound.apart k f.place site f.site site_at (whole f.place f.site f.there) (sym f.at)) [
          | inl e ↦ absurd (omega (arith, e, inside, len))
          | inr a ↦ apart_all x.layout (subst (AreApartLayouts l) (sym f.layout) a)
        ]

    overlap : no_overlap s.sections.live l ≡ true
    overlap = and_from (parts_apart l) (list_all (clear_of l) s.sections.live) dep.parts (all_pass (clear_of l) s.sections.live clear)

    even_start : l.pub_from % 2 ≡ 0
    even_start =
        let a = (and_parts (nat_lt l.pub_from l.pub_to) _ dep.bounds).1 in
        let b = (and_parts (nat_lt l.priv_from l.priv_to) _ a).1 in
        eqb-true (l.pub_from % 2) 0 (and_parts ((l.pub_from % 2) == 0) _ b).0

    no_device_there : no_device (places_of s.devices) l ≡ true
    no_device_there =
        subst (λ (z : List Window). no_device (places_of z) l ≡ true) (sym ns.devices)
        (no_word l.pub_from l.pub_to (devices_of set n) 0 even_start (sound.sound.windows n).even
        (λ at lo hi. subst (λ j. Rattle.sx_bus.specs.Devices.device_at (devices_of set j) at ≡ None) (sym dep.node) (dep.text_free at lo hi)))

    room_there : length s.sections.live < 8
    room_there =
        let a = fewer_sections set n 1 sb ss site before qs q len
        (λ i x y px sy. (sound.sound.deployed i x y (ap (λ z. slice_get z i) parts ∙ px) (ap (λ z. slice_get z i) sites ∙ sy)).node) (sym dep.node) in
        let b : count_by (λ (x : PartTree). x.node == n) (before ++ q ∷ qs) ≤ 8 =
        subst (λ z. count_by (λ (x : PartTree). x.node == n) z ≤ 8) parts (subst (λ j. count_by (λ (x : PartTree). x.node == j) set.app.parts ≤ 8) (sym dep.node) placed.few_beside) in
        let c = ap (λ (z : List Section). length z) live_is in
        omega (arith, a, b, c)

    ids_there : s.sections.next ≤ 65535
    ids_there =
        let a = ap (λ (z : Sections). z.next) ns.sections in
        let b = room_there in
        let c = ap (λ (z : List Section). length z) live_is in
        omega (arith, a, b, c)

    loadable : IsLoadable set w k q site s
    loadable = record {
      part = part_at;
      sited = site_at;
      there = there;
      node = ns.node;
      idle = ns.idle;
      boot = ns.boot;
      key = ns.key;
      low = low;
      high = room.sections k site site_at;
      free = admitted_next s.sections l (places_of s.devices) dep.bounds overlap no_device_there room_there ids_there;
      bytes = room.texts k site site_at;
    }

    few : k < 65536
    few = let a = get_within set.app.parts k q part_at in let b = app_is.few_parts in omega (arith, a, b)

    asked : slice_get w.deployer.open_asks k ≡ Some None
    asked = ap (λ z. slice_get z k) far.open_asks ∙ get_blank None set.app.parts k q part_at

    pub done_next : SetsUp set w k q site s
    done_next =
        module_set_up set w k q site s None sound loadable (ap shapes ns.devices ∙ shapes_on (windows_at n set.app.devices set.places)) far.asks few asked
        (ap (λ z. slice_get z k) far.attested ∙ marks_next k set.app.parts q part_at) (λ c. ap (λ z. slice_index z c) far.epochs ∙ zero_epochs set.app.links c)

    -- the world after that
    module _ (z : SetsUp set w k q site s) where
      abbrev t : State
      t = z.after

      abbrev v : World
      v = z.moves.world

      abbrev longer : List Site
      longer = sb ++ site ∷ []

      grows : admitted (table_of set n sb) l site.provider (key_of set site 0) ≡ table_of set n longer
      grows =
          let S = sections_of set n 1 sb in
          let more = one_more set n 1 sb site refl in
          let a = ap (λ (x : List Section). length x) more in
          let b = length-append S (section_at set (1 + length S) site ∷ []) in
          let count : 1 + length S + 1 ≡ 1 + length (sections_of set n 1 longer) = omega (arith, a, b) in
          ap (λ (x : List Section). record { live = x; next = 1 + length S + 1 }) (sym more) ∙ ap (λ (j : ℕ). record { live = sections_of set n 1 longer; next = j }) count

      node_next : NodeSoFar set n longer t
      node_next = record {
        node = z.node;
        idle = z.idle;
        boot = z.boot;
        key = z.key ∙ ns.key;
        devices = z.devices ∙ ns.devices;
        sections = z.sections ∙ ap (λ x. admitted x l site.provider (key_of set site 0)) ns.sections ∙ grows;
      }

      got : (j : ℕ) (y : State) → slice_get v.nodes j ≡ Some y → slice_get (slice_set w.nodes n t) j ≡ Some y
      got j y e = sym (ap (λ x. slice_get x j) z.moves.nodes) ∙ e

      here_is : (j : ℕ) (y : State) → slice_get v.nodes j ≡ Some y → j ≡ n → t ≡ y
      here_is j y e same = some_inj t y (sym (get_same w.nodes n t s there) ∙ subst (λ i. slice_get (slice_set w.nodes n t) i ≡ Some y) same (got j y e))

      else_is : (j : ℕ) (y : State) → slice_get v.nodes j ≡ Some y → j ≢ n → slice_get w.nodes j ≡ Some y
      else_is j y e ne = sym (get_other w.nodes n j t ne) ∙ got j y e

      nodes_next : (j : ℕ) (y : State) → slice_get v.nodes j ≡ Some y → NodeSoFar set j longer y
      nodes_next j y e = elim (cases_eq j n) [
        | inl same ↦ subst (λ i. NodeSoFar set i longer y) (sym same) (subst (λ x. NodeSoFar set n longer x) (here_is j y e same) node_next)
        | inr ne ↦
            let o = far.nodes j y (else_is j y e ne) in
            let off : (site.node == j) ≡ false = false_from_ne_true (site.node == j) (λ x. ne (sym (eqb-true site.node j x))) in
            record {
              node = o.node;
              idle = o.idle;
              boot = o.boot;
              key = o.key;
              devices = o.devices;
              sections = o.sections ∙ ap (λ (x : List Section). record { live = x; next = 1 + length x }) (sym (not_more set j 1 sb site off));
            }
      ]

      -- an earlier module of this node
      earlier : (j : ℕ) (q2 : PartTree) (site2 : Site) → j < k → slice_get set.app.parts j ≡ Some q2 → slice_get set.sites j ≡ Some site2 → site2.node ≡ n
          → ModuleStands set j q2 site2 (first_state set j q2) t
      earlier j q2 site2 lt pj sj at =
          let o = far.modules j q2 site2 s lt pj sj (ap (λ i. slice_get w.nodes i) at ∙ there) in
          let inside : slice_get sb j ≡ Some site2 = get_front sb (site ∷ ss) j site2 (sym (ap (λ x. slice_get x j) sites) ∙ sj) (omega (arith, lt, len)) in
          let x = section_there set n 1 sb j site2 inside at in
          let lives : Lives s.sections.live x.0 = subst (λ y. Lives y x.0) (sym live_is) x.1 in
          let text : public_bytes site2.layout t.mem ≡ public_bytes site2.layout s.mem = subst (λ (y : Layout). public_bytes y t.mem ≡ public_bytes y s.mem) x.2 (z.public x.0 lives) in
          let bytes : private_bytes site2.layout t.mem ≡ private_bytes site2.layout s.mem = subst (λ (y : Layout). private_bytes y t.mem ≡ private_bytes y s.mem) x.2 (z.private x.0 lives) in
          record { text = text ∙ o.text; state = ap (state_of q2.tree (ends_of set.app j)) bytes ∙ o.state }

      modules_next : (j : ℕ) (q2 : PartTree) (site2 : Site) (y : State) → j < suc k → slice_get set.app.parts j ≡ Some q2 → slice_get set.sites j ≡ Some site2
          → slice_get v.nodes site2.node ≡ Some y → ModuleStands set j q2 site2 (first_state set j q2) y
      modules_next j q2 site2 y lt pj sj e = elim (cases_eq j k) [
        | inl same ↦
            let qq : q ≡ q2 = some_inj q q2 (sym part_at ∙ subst (λ i. slice_get set.app.parts i ≡ Some q2) same pj) in
            let ss2 : site ≡ site2 = some_inj site site2 (sym site_at ∙ subst (λ i. slice_get set.sites i ≡ Some site2) same sj) in
            let yy : t ≡ y = here_is site2.node y e (ap (λ (x : Site). x.node) (sym ss2)) in
            subst (λ i. ModuleStands set i q2 site2 (first_state set i q2) y) (sym same)
            (subst (λ a. ModuleStands set k a site2 (first_state set k a) y) qq
            (subst (λ b. ModuleStands set k q b (first_state set k q) y) ss2 (subst (λ c. ModuleStands set k q site (first_state set k q) c) yy z.stands)))
        | inr ne ↦
            let less : j < k = omega (arith, lt, ne) in
            elim (cases_eq site2.node n) [
              | inl at ↦ subst (λ c. ModuleStands set j q2 site2 (first_state set j q2) c) (here_is site2.node y e at) (earlier j q2 site2 less pj sj at)
              | inr off ↦ far.modules j q2 site2 y less pj sj (else_is site2.node y e off)
            ]
      ]

      pub far_next : SoFar set (suc k) longer v
      far_next = record {
        as_many = ap (λ (x : List State). length x) z.moves.nodes ∙ length_set w.nodes n t ∙ far.as_many;
        nodes = nodes_next;
        modules = modules_next;
        asks = ap (λ (d : DeployerState). d.asks) z.moves.deployer ∙ ap (λ (i : ℕ). i + 1) far.asks ∙ one_on k;
        open_asks =
            ap (λ (d : DeployerState). d.open_asks) z.moves.deployer
            ∙ set-set w.deployer.open_asks k (Some (Rattle.sx_wire.specs.Headers.ask_packet w.deployer.asks)) None
            ∙ set_same w.deployer.open_asks k None asked ∙ far.open_asks;
        attested =
            ap (λ (d : DeployerState). d.attested) z.moves.deployer ∙ ap (λ (x : List (Option ℕ)). slice_set x k (Some 0)) far.attested
            ∙ marks_set k set.app.parts q part_at;
        epochs = ap (λ (d : DeployerState). d.epochs) z.moves.deployer ∙ far.epochs;
      }
        where
          one_on : (i : ℕ) → i + 1 ≡ suc i
          one_on i = omega arith

      pub packets_next : length v.packets ≡ length w.packets + 2 + length (ends_of set.app k)
      packets_next =
          let gs = grants_of w.deployer.epochs k 0 (ends_of set.app k) in
          let f = Rattle.spec_run.specs.Deployer.set_key set site in
          let a = ap (λ (x : List (List ℕ)). length x) z.moves.packets in
          let b = length-append w.packets (Rattle.sx_wire.specs.Headers.ask_packet w.deployer.asks ∷ Rattle.spec_run.proofs.acts.Asking.expected set site 0
          (Rattle.sx_wire.specs.Headers.ask_packet w.deployer.asks) ∷ map f gs) in
          let c = length-map gs f in
          let d = own_few w.deployer.epochs k 0 (ends_of set.app k) in
          omega (arith, a, b, c, d)
