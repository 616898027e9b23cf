-- A deployed module that is entered in both runs: its setups, its invocations, and what they have in common.
use Rattle.std.proofs.Common.{◌≡◌, ℕ, ◌+◌, ◌-◌, ◌<◌, ◌==◌, ◌&&◌, Bool, true, bytes_eq, inl, inr, ◌⊎◌, List, [], ◌∷◌, length, Option, Some, None, is_some, refl, sym, ◌∙◌, ap, subst}
use Rattle.std.specs.Prelude.{slice_get, false}
use Rattle.std.proofs.lemmas.Bool.{cases_eq}
use Rattle.sx_mean.specs.Application.{PartTree, declared_kind}
use Rattle.sx_mean.specs.Ends.{ends_of}
use Rattle.sx_rules.specs.declared.access.Access.{Access}
use Rattle.sx_rules.specs.declared.access.Access.TheVariants.{Read}
use Rattle.sx_rules.specs.declared.section.Layout.{Layout}
use Rattle.sx_rules.specs.declared.section.Section.{Section}
use Rattle.sx_rules.specs.Access.{Sections, Lives, may, in_private, section_of}
use Rattle.sx_rules.proofs.Placing.{placed_found}
use Rattle.sx_tag.specs.Mac.{Mac}
use Rattle.spec_machine.specs.declared.kinds.Exchange.{Exchange}
use Rattle.spec_machine.specs.NodeLaws.{shapes}
use Rattle.spec_machine.specs.State.{State}
use Rattle.spec_machine.specs.Step.{pc_of}
use Rattle.spec_machine.proofs.PlanGuard.{barred}
use Rattle.spec_machine.proofs.Devices.{some_inj}
use Rattle.spec_invocation.specs.Setup.{Setup}
use Rattle.spec_invocation.specs.Entries.{header_in}
use Rattle.spec_invocation.specs.Invocation.{invoke}
use Rattle.spec_invocation.specs.Progress.{Progress, Invoked}
use Rattle.sx_image.specs.Image.{Enters, StandsProtected, call_at, progress_at, public_bytes}
use Rattle.spec_run.specs.Setting.{Setting, Site, same_layout, is_at_site, deployed, windows_at}
use Rattle.spec_run.specs.Deployer.{key_of}
use Rattle.spec_run.specs.Law.{IsSoundSetting, IsDeployedModule, image_at, devices_of}
use Rattle.spec_run.proofs.steps.Entry.{at_site, shapes_on, has_devices_same}
use Rattle.spec_run.proofs.steps.Foreign.{position_some}
use Rattle.law_forgery.proofs.Turns.{setup_of, NodeTurns}
use Rattle.law_forgery.proofs.Accepting.{section_key}
use Rattle.law_forgery.proofs.Tables.{may_like}
use Rattle.sx_tmpl.specs.Unseen.{HoldsNoKey}
use Rattle.law_connections.specs.Unlinked.{Unlinked}
use Rattle.law_connections.proofs.Outside.{Kind, sites_on, is_deployed, Unhidden, SameSections}
use Rattle.law_connections.proofs.Opened.{blank_mac, blank_all}
use Rattle.law_connections.proofs.Bystanding.{with_hidden}
use Rattle.law_connections.proofs.Alike.{texts_same}
use Rattle.law_connections.proofs.Twice.{key_in, SameProgress, SameInvoked, invoke_same}
use Rattle.law_connections.proofs.Linking.{second, Linked, Opens, SameNode, linked_tags, opens_linked}

-- what is in the second table for a live section
pub mate_lives : (mac nac : Mac) (hides : Section → Bool) (xs ys : List Section) (x : Section) → SameSections mac nac hides xs ys → Lives xs x
    → (k : List ℕ) × Lives ys (record x { key = k })
mate_lives mac nac hides [] ys x h l = absurd l
mate_lives mac nac hides (z ∷ xs) [] x h l = absurd h
mate_lives mac nac hides (z ∷ xs) (y ∷ ys) x h l = elim l [
  | inl e ↦ (y.key, inl (subst (λ (u : Section). y ≡ record u { key = y.key }) e h.0.0))
  | inr r ↦ let g = mate_lives mac nac hides xs ys x h.1 r in (g.0, inr g.1)
]

-- A deployed module that rests and whose entry PC is at, in one run.
module _ (set : Setting) (sound : IsSoundSetting set) (m : ℕ) (q : PartTree) (site : Site) (part : slice_get set.app.parts m ≡ Some q) (sited : slice_get set.sites m ≡ Some site)
    (s : State) (sec : Section) (turns : NodeTurns set site.node s) (lives : Lives s.sections.live sec) (at : is_at_site site.node s.mem sec site ≡ true)
    (idle : s.cur ≡ 0) (entry : pc_of s ≡ site.layout.pub_from) where
  dep : IsDeployedModule set m q site
  dep = sound.deployed m q site part sited

  pub stands_there : StandsProtected (image_at site) sec s
  stands_there =
      let place = at_site site.node s.mem sec site at in
      record { lives = lives; layout = place.layout; provider = place.provider; text = subst (λ (l : Layout). public_bytes l s.mem ≡ site.text) place.layout place.text }

  same_shapes : shapes (devices_of set q.node) ≡ shapes s.devices
  same_shapes = shapes_on (windows_at q.node set.app.devices set.places) ∙ ap (λ (n : ℕ). windows_at n set.app.devices set.places) (sym dep.node) ∙ sym turns.windows

  pub enters_there : Enters q.tree (image_at site) sec s
  enters_there = record {
    node = turns.node;
    idle = idle;
    entry = entry;
    stands = stands_there;
    devices = has_devices_same (devices_of set q.node) s.devices (declared_kind q.tree.decls) site.layout same_shapes dep.devices;
  }

module _ (a : Setting) (nac : Mac) (keys : List (List ℕ)) (secret : List ℕ) where
  abbrev b : Setting
  b = second a nac keys secret

  -- The m-th module is at its entry on a node of the first run, as the section `sec`, and on that of
  -- the second run, which has another memory, other keys and another exchange.
  pub record Entry : Type 0 where
    pub m : ℕ
    pub q : PartTree
    pub site : Site
    pub part : slice_get a.app.parts m ≡ Some q
    pub sited : slice_get a.sites m ≡ Some site
    pub s : State
    pub mem : List ℕ
    pub key : List ℕ
    pub us : Sections
    pub exchange : Exchange
    pub beside : SameNode a nac keys secret site.node s (with_hidden s mem key us exchange)
    pub ta : NodeTurns a site.node s
    pub tb : NodeTurns (second a nac keys secret) site.node (with_hidden s mem key us exchange)
    pub sec : Section
    pub other : List ℕ
    pub lives : Lives s.sections.live sec
    pub lives2 : Lives us.live (record sec { key = other })
    pub at : is_at_site site.node s.mem sec site ≡ true
    pub idle : s.cur ≡ 0
    pub entry : pc_of s ≡ site.layout.pub_from

  module _ (e : Entry) where
    abbrev pub kind_of : Kind
    kind_of = sites_on a.sites e.site.node

    abbrev pub hides_of : Section → Bool
    hides_of = is_deployed (sites_on a.sites e.site.node) e.s.mem

    -- the second node and the module's section on it
    abbrev pub later : State
    later = with_hidden e.s e.mem e.key e.us e.exchange

    abbrev pub mate : Section
    mate = record e.sec { key = e.other }

    -- the setups, and what the invocations come to
    abbrev pub setup_a : Setup
    setup_a = setup_of a e.m e.q e.sec e.s

    abbrev pub setup_b : Setup
    setup_b = setup_of b e.m e.q mate later

    abbrev pub begun_a : Progress
    begun_a = progress_at setup_a e.s

    abbrev pub begun_b : Progress
    begun_b = progress_at setup_b later

    abbrev pub result_a : Invoked
    result_a = invoke setup_a (call_at e.s) begun_a

    abbrev pub result_b : Invoked
    result_b = invoke setup_b (call_at e.s) begun_b

    abbrev pub ends_count : ℕ
    ends_count = length (ends_of a.app e.m)

    abbrev pub private_size : ℕ
    private_size = e.sec.layout.priv_to - e.sec.layout.priv_from

    -- what is in the open, and what holds no key in the module's own private section
    abbrev pub Own : ℕ → Type 0
    Own k = (o : ℕ) × (k ≡ e.sec.layout.priv_from + o) × (o < private_size) × HoldsNoKey ends_count o 1

    abbrev pub places : ℕ → Type 0
    places k = Unhidden hides_of e.s.sections.live k ⊎ Own k

    pub hidden : is_deployed (sites_on a.sites e.site.node) e.s.mem e.sec ≡ true
    hidden = by (deployed a.sites e.site.node e.s.mem e.sec) refl
      where
        by : (o : Option ℕ) → deployed a.sites e.site.node e.s.mem e.sec ≡ o → is_some o ≡ true
        by None f = absurd (position_some (is_at_site e.site.node e.s.mem e.sec) 0 a.sites e.m e.site e.sited e.at f)
        by (Some j) f = refl

    pub at_too : is_at_site e.site.node e.mem (record e.sec { key = e.other }) e.site ≡ true
    at_too = ap (λ (text : List ℕ). (e.site.node == e.site.node) && (same_layout e.sec.layout e.site.layout && ((e.sec.provider == e.site.provider) && bytes_eq text e.site.text)))
        (texts_same a.mac nac kind_of e.s later e.ta.node.placed e.beside.outside e.sec e.lives) ∙ e.at

    pub own_key_is : e.sec.key ≡ key_of a e.site e.s.boot
    own_key_is = section_key a e.site.node e.s e.sec e.site e.ta e.lives e.at

    pub mate_key_is : e.other ≡ key_of (second a nac keys secret) e.site e.s.boot
    mate_key_is = section_key b e.site.node later mate e.site e.tb e.lives2 at_too

    -- The premises of Twice.invoke_same: the setups allow the same, and read in the open.

    mays : (access : Access) (at : ℕ) → may e.us.live e.sec.id access at ≡ may e.s.sections.live e.sec.id access at
    mays access at = may_like blank_mac blank_mac e.s.sections.live e.us.live e.sec.id access at (blank_all a.mac nac hides_of e.s.sections.live e.us.live e.beside.outside.sections)

    pub readable : (at : ℕ) → may e.s.sections.live e.sec.id Read at ≡ true → in_private e.sec at ≡ false → Unhidden (is_deployed (sites_on a.sites e.site.node) e.s.mem) e.s.sections.live at
    readable at may_read out x l h = elim (cases_eq e.sec.id x.id) [
      | inl i ↦
          let one : e.sec ≡ x = some_inj e.sec x
          (sym (placed_found e.s.sections e.sec e.ta.node.placed e.lives) ∙ ap (section_of e.s.sections.live) i ∙ placed_found e.s.sections x e.ta.node.placed l) in
          subst (λ (z : Section). in_private z at ≡ false) one out
      | inr ne ↦ barred e.s.sections.live e.sec.id Read at x l ne may_read
    ]

    abbrev Clear : ℕ → Type 0
    Clear = Unhidden hides_of e.s.sections.live

    begins_same : SameProgress (Linked a nac keys secret) (Opens a nac keys secret) Clear begun_a begun_b
    begins_same =
        let same = e.beside.states e.m e.q e.site e.sec e.part e.sited e.lives e.at in
        record {
          rest = ap (λ (c : List ℕ). record begun_b { state = record begun_b.state { cells = c } }) same.0;
          ends = same.1;
          mem = e.beside.outside.mem;
          marks = tt;
        }

    module _ (sound : IsSoundSetting a) (sound2 : IsSoundSetting (second a nac keys secret)) (unlinked : Unlinked a (second a nac keys secret)) where
      pub own_tags : (rest : List ℕ) → a.mac e.sec.key (0x54 ∷ rest) ≡ nac e.other (0x54 ∷ rest)
      own_tags rest =
          ap (λ (z : List ℕ). a.mac z (0x54 ∷ rest)) own_key_is ∙ unlinked.tags e.m e.s.boot e.site rest e.sited ∙ ap (λ (z : List ℕ). nac z (0x54 ∷ rest)) (sym mate_key_is)

      -- the invocations end the same
      pub same_run : SameInvoked (Linked a nac keys secret) (Opens a nac keys secret) (Unhidden (is_deployed (sites_on a.sites e.site.node) e.s.mem) e.s.sections.live) result_a result_b
      same_run =
          invoke_same (Linked a nac keys secret) (Opens a nac keys secret) Clear setup_a nac e.other e.us.live mays readable own_tags (linked_tags a nac keys secret unlinked)
          (λ packet size accepted.
          subst (λ (z : List ℕ). Opens a nac keys secret (header_in packet) (key_in a.mac z packet) (key_in nac e.other packet)) (sym own_key_is)
          (subst (λ (z : List ℕ). Opens a nac keys secret (header_in packet) (key_in a.mac (key_of a e.site e.s.boot) packet) (key_in nac z packet)) (sym mate_key_is)
          (opens_linked a nac keys secret unlinked sound.tag sound2.tag e.m e.s.boot e.site e.sited packet size)))
          (call_at e.s) begun_a begun_b begins_same

      pub enters_a : Enters e.q.tree (image_at e.site) e.sec e.s
      enters_a = enters_there a sound e.m e.q e.site e.part e.sited e.s e.sec e.ta e.lives e.at e.idle e.entry

      pub enters_b : Enters e.q.tree (image_at e.site) (record e.sec { key = e.other }) (with_hidden e.s e.mem e.key e.us e.exchange)
      enters_b = enters_there b sound2 e.m e.q e.site e.part e.sited later mate e.tb e.lives2 at_too e.idle e.entry

      pub stands_a : StandsProtected (image_at e.site) e.sec e.s
      stands_a = stands_there a sound e.m e.q e.site e.part e.sited e.s e.sec e.ta e.lives e.at e.idle e.entry

      pub stands_b : StandsProtected (image_at e.site) (record e.sec { key = e.other }) (with_hidden e.s e.mem e.key e.us e.exchange)
      stands_b = stands_there b sound2 e.m e.q e.site e.part e.sited later mate e.tb e.lives2 at_too e.idle e.entry
