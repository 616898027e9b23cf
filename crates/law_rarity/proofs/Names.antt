-- Where modules have names, nobody else has a deployed module's key.
use Rattle.std.proofs.Common.{◌≡◌, ℕ, zero, suc, ◌+◌, ◌-◌, ◌^◌, ◌<◌, ◌≤◌, ◌⊎◌, inl, inr, Bool, true, false, cond, List, [], ◌∷◌, ◌++◌, length, slice_index, Option, Some, None, refl, sym, ◌∙◌, ap, ap₂, subst, arith}
use Rattle.std.specs.Prelude.{slice_get}
use Rattle.std.specs.Option.{option_flatten}
use Rattle.std.specs.Int.{w16, w32, to_le_bytes, from_le_bytes, byte_at, bytes_low_first}
use Rattle.std.proofs.lemmas.Nat.{from_le_bytes-to_le_bytes_4}
use Rattle.std.proofs.lemmas.Bool.{cases_lt, ne_eqb}
use Rattle.std.proofs.lemmas.List.{length-append}
use Rattle.lemmas.proofs.Lists.{get_some}
use Rattle.sx_rules.specs.declared.section.Layout.{Layout}
use Rattle.sx_rules.specs.declared.section.Section.{Section}
use Rattle.sx_tag.specs.Keys.{identity}
use Rattle.sx_tag.specs.Wrap.{crypt}
use Rattle.sx_tag.proofs.TagBytes.{AreBytes, both_bytes}
use Rattle.sx_wire.specs.Headers.{ask_packet}
use Rattle.sx_sched.specs.Lines.{Line}
use Rattle.sx_deployer.specs.Granting.{Grant, grants_after}
use Rattle.spec_machine.specs.Memory.{bytes_from}
use Rattle.spec_machine.proofs.Lengths.{length-bytes_from}
use Rattle.spec_machine.specs.State.{State}
use Rattle.spec_machine.proofs.Stays.{found_lives}
use Rattle.spec_run.specs.Setting.{Setting, Site}
use Rattle.spec_run.specs.Deployer.{list_at, key_of, accepts, after_acceptance, connection_key, grant_header}
use Rattle.spec_run.specs.Law.{IsSoundSetting, LinesInForm}
use Rattle.spec_run.specs.State.{World}
use Rattle.spec_run.proofs.tie.Lists.{get_within}
use Rattle.law_isolation.specs.Happening.{Happening, Step, Answer}
use Rattle.law_forgery.specs.Moments.{Moment, moment}
use Rattle.law_forgery.specs.Named.{code, names, name_of}
use Rattle.law_forgery.proofs.Naming.{is_name, key_named, names_long}
use Rattle.law_forgery.proofs.Boots.{boots_few}
use Rattle.law_uses.specs.Uses.{Holder, Held, OfSection, key_held, Use, Gives, Tries, Sizes, step_uses, module_holder, grant_uses, grants_uses, verdict_uses, answer_uses, uses_at, uses}
use Rattle.law_uses.specs.GivenLogged.{IsUse}
use Rattle.law_makers.specs.Impostors.{HasWords, identity_with}
use Rattle.law_makers.proofs.Impostors.{name_at, code_told, word_told, identities_differ}
use Rattle.law_rarity.specs.Names.{HasNames, NamedHasNames}
use Rattle.law_rarity.specs.Rare.{AreInRange}
use Rattle.law_rarity.proofs.Asked.{NoTries, TriesFirst, tries_first}
use Rattle.law_rarity.proofs.Dealing.{Deals, deals, accepted_deals, AllLow, grants_low}
use Rattle.law_rarity.proofs.Words.{Stands, stands}
use Rattle.law_rarity.proofs.Whose.{Whose, gives_owned, tries_owned}

pub named_has_names : NamedHasNames
named_has_names set table n boot provider id =
    key_named table set.mac (list_at (names 0 (length set.keys)) n) boot provider id (is_name (length set.keys) 0 n)
    ∙ ap (λ (k : ℕ). list_at (names 0 k) n ++ code (to_le_bytes w32 boot) ∷ code (to_le_bytes w16 provider) ∷ code id ∷ []) (sym (names_long 0 (length set.keys)))

-- past the last node there is no name
pub past : (count i k : ℕ) → count ≤ k → list_at (names i count) k ≡ []
past zero i k le = refl
past (suc count) i k le =
    ap (λ (b : Bool). cond b (i ∷ []) (list_at (names (i + 1) count) (k - 1))) (ne_eqb k 0 (λ e. omega (arith, e, le)))
    ∙ past count (i + 1) (k - 1) (omega (arith, le))

abbrev nth : ℕ → List ℕ → ℕ
nth k [] = 0
nth zero (z ∷ zs) = z
nth (suc k) (z ∷ zs) = nth k zs

boot_told : (m n : ℕ) → m < 2 ^ 32 → n < 2 ^ 32 → to_le_bytes w32 m ≡ to_le_bytes w32 n → m ≡ n
boot_told m n p q h = sym (from_le_bytes-to_le_bytes_4 m p) ∙ ap (from_le_bytes w32) h ∙ from_le_bytes-to_le_bytes_4 n q

-- the rest of a name
abbrev parts : ℕ → ℕ → List ℕ → List ℕ
parts boot provider id = code (to_le_bytes w32 boot) ∷ code (to_le_bytes w16 provider) ∷ code id ∷ []

-- what is in range of a module
pub record InRange (boot provider : ℕ) (layout : Layout) : Type 0 where
  pub boot_low : boot < 2 ^ 32
  pub provider_low : provider < 65536
  pub words : HasWords layout

module _ (set : Setting) (named : HasNames set) where
  -- a name tells its module
  pub names_tell : (n boot provider : ℕ) (text : List ℕ) (layout : Layout) (site : Site) (at : ℕ) → n < length set.keys → InRange boot provider layout → InRange at site.provider site.layout
      → key_held set (OfSection n boot provider text layout) ≡ key_of set site at → OfSection n boot provider text layout ≡ module_holder site at
  names_tell n boot provider text layout site at low one two same = elim (cases_lt site.node (length set.keys)) [
    | inl lt ↦
        let there : n ∷ parts boot provider (identity_with text layout) ≡ site.node ∷ parts at site.provider (identity_with site.text site.layout)
        = sym (ap (λ (z : List ℕ). z ++ parts boot provider (identity_with text layout)) (name_at (length set.keys) 0 n low ∙ ap (λ (z : ℕ). z ∷ []) (zero_first n)))
        ∙ names ∙ ap (λ (z : List ℕ). z ++ parts at site.provider (identity_with site.text site.layout)) (name_at (length set.keys) 0 site.node lt ∙ ap (λ (z : ℕ). z ∷ []) (zero_first site.node)) in
        let node : n ≡ site.node = ap (nth 0) there in
        let boots : boot ≡ at = boot_told boot at one.boot_low two.boot_low (code_told (to_le_bytes w32 boot) (to_le_bytes w32 at) (ap (nth 1) there)) in
        let providers : provider ≡ site.provider = word_told provider site.provider one.provider_low two.provider_low (code_told (to_le_bytes w16 provider) (to_le_bytes w16 site.provider) (ap (nth 2) there)) in
        let rest = identities_differ text site.text layout site.layout one.words two.words (code_told (identity_with text layout) (identity_with site.text site.layout) (ap (nth 3) there)) in
        ap₂ (λ (m b : ℕ). OfSection m b provider text layout) node boots
        ∙ ap (λ (p : ℕ). OfSection site.node at p text layout) providers
        ∙ ap₂ (λ (t : List ℕ) (l : Layout). OfSection site.node at site.provider t l) rest.0 rest.1
    | inr ge ↦
        let there : n ∷ parts boot provider (identity_with text layout) ≡ parts at site.provider (identity_with site.text site.layout)
        = sym (ap (λ (z : List ℕ). z ++ parts boot provider (identity_with text layout)) (name_at (length set.keys) 0 n low ∙ ap (λ (z : ℕ). z ∷ []) (zero_first n)))
        ∙ names ∙ ap (λ (z : List ℕ). z ++ parts at site.provider (identity_with site.text site.layout)) (past (length set.keys) 0 site.node ge) in
        let z : 4 ≡ 3 = ap length there in
        absurd (omega (arith, z))
  ]
    where
      zero_first : (k : ℕ) → 0 + k ≡ k
      zero_first k = omega arith

      names : name_of set n boot provider (identity_with text layout) ≡ name_of set site.node at site.provider (identity_with site.text site.layout)
      names = sym (named n boot provider (identity_with text layout)) ∙ same ∙ named site.node at site.provider (identity_with site.text site.layout)

  -- a name isn't as long as a key that code holds
  pub names_short : (site : Site) (at : ℕ) → length (key_of set site at) ≡ 16 → ⊥
  names_short site at e =
      let rest = parts at site.provider (identity site.text site.layout.pub_from site.layout.pub_to site.layout.priv_from site.layout.priv_to) in
      let l : length (list_at (names 0 (length set.keys)) site.node ++ rest) ≡ 16 = ap length (sym (named site.node at site.provider (identity site.text site.layout.pub_from site.layout.pub_to site.layout.priv_from site.layout.priv_to))) ∙ e in
      elim (is_name (length set.keys) 0 site.node) [
        | inl none ↦ let z : 3 ≡ 16 = sym (ap (λ (k : List ℕ). length (k ++ rest)) none) ∙ l in absurd (omega (arith, z))
        | inr one ↦ let z : 4 ≡ 16 = sym (ap (λ (k : List ℕ). length (k ++ rest)) one.1) ∙ l in absurd (omega (arith, z))
      ]

  -- a deployed module is in range at each boot
  module _ (sound : IsSoundSetting set) where
    pub site_range : (m : ℕ) (site : Site) (at : ℕ) → slice_get set.sites m ≡ Some site → at < 2 ^ 32 → InRange at site.provider site.layout
    site_range m site at sited low =
        let q = get_some set.app.parts m (omega (arith, get_within set.sites m site sited, sound.sites)) in
        let d = sound.deployed m q.0 site q.1 sited in
        let te = d.text_end in
        let de = d.data_end in
        let t = d.text in
        let z = d.data_size in
        record {
          boot_low = low;
          provider_low = d.provider;
          words = record { pub_from = omega (arith, te, t); pub_to = omega (arith, te); priv_from = omega (arith, de, z); priv_to = omega (arith, de) };
        }

    module _ (lines : List Line) (form : LinesInForm set lines) (few : length lines ≤ 65536) (k : ℕ) (now : Moment) (here : moment set lines k ≡ Some now) where
      -- whoever uses a module's key in a step is this module
      pub owner_is : (n : ℕ) (s : State) → slice_get now.world.nodes n ≡ Some s → n < length set.keys → (own : Section) (who : Holder) (m : ℕ) (site : Site) (at : ℕ) → slice_get set.sites m ≡ Some site → at < 2 ^ 32
          → Rattle.sx_rules.specs.Access.section_of s.sections.live (Rattle.spec_machine.specs.Step.own_of s) ≡ Some own
          → Rattle.law_rarity.proofs.Whose.Whose set n s own who → key_held set who ≡ key_of set site at → who ≡ module_holder site at
      owner_is n s there low own who m site at sited at_low runs (inr h) same =
          absurd (names_short site at (ap length (sym same ∙ ap (key_held set) h.1) ∙ h.2))
      owner_is n s there low own who m site at sited at_low runs (inl h) same =
          let st = stands set sound lines form k now here in
          let words = st.words n s there own (found_lives s.sections.live (Rattle.spec_machine.specs.Step.own_of s) own runs).0 in
          let boot = boots_few set 65536 lines k now few here n s there in
          h ∙ names_tell n s.boot own.provider (bytes_from s.mem own.layout.pub_from (own.layout.pub_to - own.layout.pub_from)) own.layout site at low
          (record { boot_low = omega (arith, boot); provider_low = words.provider; words = words.layout }) (site_range m site at sited at_low)
          (sym (ap (key_held set) h) ∙ same)

-- What the deployer gives is of set-key packets, whose headers have six bytes, for modules at boots that a name can have.

abbrev pub head_of : List ℕ → ℕ
head_of [] = 0
head_of (x ∷ xs) = x

module _ (set : Setting) (who : Holder) (kind : ℕ) (rest : List ℕ) where
  pub record Granted : Type 0 where
    pub m : ℕ
    pub site : Site
    pub sited : slice_get set.sites m ≡ Some site
    pub boot : ℕ
    pub low : boot < 2 ^ 32
    pub is : who ≡ module_holder site boot
    pub six : head_of rest ≡ 6

  abbrev Known : List Use → Type 0
  Known us = IsUse (Gives who kind rest) us → Granted

  one_known : (g : Grant) → g.boot < 2 ^ 32 → (o : Option Site) → slice_get set.sites g.holder ≡ o → Known (grant_uses set g o)
  one_known g low None e i = absurd i
  one_known g low (Some site) e (inl f) =
      let h = grant_header g in
      let w : module_holder site g.boot ≡ who = cc in
      let r : length h ∷ (h ++ 0 ∷ []) ≡ rest = cc in
      record { m = g.holder; site = site; sited = e; boot = g.boot; low = low; is = sym w; six = sym (ap head_of r) }
  one_known g low (Some site) e (inr (inl f)) =
      let h = grant_header g in
      let w : module_holder site g.boot ≡ who = cc in
      let r : length h ∷ (h ++ crypt set.mac (key_held set (module_holder site g.boot)) h (connection_key set g.«end».link g.epoch)) ≡ rest = cc in
      record { m = g.holder; site = site; sited = e; boot = g.boot; low = low; is = sym w; six = sym (ap head_of r) }
  one_known g low (Some site) e (inr (inr i)) = absurd i

  either : (us vs : List Use) → Known us → Known vs → Known (us ++ vs)
  either [] vs h k i = k i
  either (u ∷ us) vs h k (inl e) = h (inl e)
  either (u ∷ us) vs h k (inr i) = either us vs (λ j. h (inr j)) k i

  all_known : (gs : List Grant) → AllLow gs → Known (grants_uses set gs)
  all_known [] low i = absurd i
  all_known (g ∷ gs) low i =
      either (grant_uses set g (slice_get set.sites g.holder)) (grants_uses set gs) (one_known g low.0 (slice_get set.sites g.holder) refl) (all_known gs low.1) i

  answers_known : (w : World) (m boot : ℕ) → Deals w.deployer → boot < 2 ^ 32 → (o : Option Site) (p : Option (List ℕ)) → Known (answer_uses set w m boot o p)
  answers_known w m boot d low None p i = absurd i
  answers_known w m boot d low (Some site) None i = absurd i
  answers_known w m boot d low (Some site) (Some answer) i = verdict (option_flatten (slice_get w.deployer.open_asks m)) i
    where
      by : (b : Bool) (gs : List Grant) → AllLow gs → Known (cond b (grants_uses set gs) [])
      by true gs all i = all_known gs all i
      by false gs all i = absurd i

      verdict : (o : Option (List ℕ)) → Known (verdict_uses set w m site boot answer o)
      verdict None i = absurd i
      verdict (Some ask) (inl e) = absurd cc
      verdict (Some ask) (inr i) =
          let last = option_flatten (slice_get w.deployer.attested m) in
          let after = after_acceptance set.app.links w.deployer m boot last in
          by (accepts set site w.deployer m boot answer (Some ask) last) (grants_after set.app after m boot last)
          (grants_low after (accepted_deals set.app.links w.deployer m boot last low d) set.app m boot low last) i

-- What is tried under a deployed module's key: by code on the module's node, or, of an ask, by the deployer.

pub record IsTriedAt (set : Setting) (site : Site) (boot : ℕ) (rest : List ℕ) : Type 0 where
  pub low : boot < 2 ^ 32
  pub place : (site.node < length set.keys) ⊎ (head_of rest ≡ 18)
  pub long : length rest ≤ 65
  pub bytes : AreBytes rest

byte_small : (j v : ℕ) → byte_at j v < 256
byte_small zero v = omega arith
byte_small (suc j) v = omega arith

low_bytes : (n j v : ℕ) → AreBytes (bytes_low_first j n v)
low_bytes zero j v = tt
low_bytes (suc n) j v = (byte_small j v, low_bytes n (suc j) v)

read_bytes : (mem : List ℕ) → ((k : ℕ) → slice_index mem k < 256) → (at n : ℕ) → AreBytes (bytes_from mem at n)
unfolding bytes_from
read_bytes mem small at zero = tt
read_bytes mem small at (suc n) = both_bytes (bytes_from mem at n) (slice_index mem (at + n) ∷ []) (read_bytes mem small at n) (small (at + n), tt)

no_try : (us : List Use) → NoTries us → (who : Holder) (kind : ℕ) (rest tag : List ℕ) → IsUse (Tries who kind rest tag) us → ⊥
no_try [] f who kind rest tag x = x
no_try (Gives c k t ∷ us) f who kind rest tag (inl e) = absurd cc
no_try (Gives c k t ∷ us) f who kind rest tag (inr x) = no_try us f who kind rest tag x
no_try (Tries c k t w ∷ us) f who kind rest tag x = f
no_try (Sizes c t w ∷ us) f who kind rest tag (inl e) = absurd cc
no_try (Sizes c t w ∷ us) f who kind rest tag (inr x) = no_try us f who kind rest tag x

module _ (set : Setting) (sound : IsSoundSetting set) (lines : List Line) (range : AreInRange set lines) (few : length lines ≤ 65536)
    (k : ℕ) (now : Moment) (here : moment set lines k ≡ Some now) (site : Site) (boot : ℕ) (rest tag : List ℕ) where
  abbrev TriedIn : List Use → Type 0
  TriedIn us = IsUse (Tries (module_holder site boot) 0x54 rest tag) us

  by_code : (n : ℕ) (o : Option State) → slice_get now.world.nodes n ≡ o → TriedIn (step_uses set n o) → IsTriedAt set site boot rest
  by_code n None e i = absurd i
  by_code n (Some s) e i =
      let u = tries_owned set n s (module_holder site boot) rest tag i in
      let st = stands set sound lines range.form k now here in
      let r = u.read in
      let header = bytes_from s.mem (slice_index s.regs 10) (slice_index s.regs 11) in
      let cipher = bytes_from s.mem (slice_index s.regs 12) (slice_index s.regs 13) in
      let small = (st.turns n s e).node.memory.bytes in
      let h_fits = r.header_fits in
      let c_fits = r.cipher_fits in
      let h_long : length header ≡ slice_index s.regs 11 = length-bytes_from s.mem (slice_index s.regs 10) (slice_index s.regs 11) in
      let c_long : length cipher ≡ slice_index s.regs 13 = length-bytes_from s.mem (slice_index s.regs 12) (slice_index s.regs 13) in
      let both = length-append header cipher in
      let all : length rest ≡ suc (length (header ++ cipher)) = ap length r.is in
      let its = node u.own u.whose st in
      record {
        low = its.1;
        place = inl its.0;
        long = omega (arith, h_fits, c_fits, h_long, c_long, both, all);
        bytes = subst AreBytes (sym r.is) (omega (arith, h_long, h_fits), both_bytes header cipher (read_bytes s.mem small (slice_index s.regs 10) (slice_index s.regs 11)) (read_bytes s.mem small (slice_index s.regs 12) (slice_index s.regs 13)));
      }
    where
      node : (own : Section) → Whose set n s own (module_holder site boot) → Stands set now.world → (site.node < length set.keys) × (boot < 2 ^ 32)
      node own (inl h) st =
          let same : site.node ≡ n = cc in
          let at : boot ≡ s.boot = cc in
          let in_ = get_within now.world.nodes n s e in
          let many = st.nodes in
          let boots = boots_few set 65536 lines k now few here n s e in
          (omega (arith, in_, many, same), omega (arith, at, boots))
      node own (inr h) st = let z : module_holder site boot ≡ Held h.0 = h.1 in absurd cc

  verdict : (m at : ℕ) → at < 2 ^ 32 → (x : Site) (answer : List ℕ) (o : Option (List ℕ)) → option_flatten (slice_get now.world.deployer.open_asks m) ≡ o
      → TriesFirst (verdict_uses set now.world m x at answer o) → TriedIn (verdict_uses set now.world m x at answer o) → IsTriedAt set site boot rest
  verdict m at low x answer None e f i = absurd i
  verdict m at low x answer (Some ask) e f (inl h) =
      let c = (deals set lines range k now here).asks m ask e in
      let is : length ask ∷ (ask ++ []) ≡ rest = cc in
      let whose : module_holder x at ≡ module_holder site boot = cc in
      let same : at ≡ boot = cc in
      let numbered : ask_packet c.0 ≡ ask = sym c.1 in
      subst (IsTriedAt set site boot) (ap (λ (a : List ℕ). length a ∷ (a ++ [])) numbered ∙ is)
      (record { low = subst (λ (z : ℕ). z < 2 ^ 32) same low; place = inr refl; long = omega arith; bytes = (omega arith, (omega arith, (omega arith, both_bytes (bytes_low_first 0 16 c.0) [] (low_bytes 16 0 c.0) tt))) })
  verdict m at low x answer (Some ask) e f (inr i) =
      let last = option_flatten (slice_get now.world.deployer.attested m) in
      let gs = grants_after set.app (after_acceptance set.app.links now.world.deployer m at last) m at last in
      absurd (no_try (cond (accepts set x now.world.deployer m at answer (Some ask) last) (grants_uses set gs) []) f (module_holder site boot) 0x54 rest tag i)

  by_deployer : (m at : ℕ) → at < 2 ^ 32 → (o : Option Site) (q : Option (List ℕ)) → TriesFirst (answer_uses set now.world m at o q) → TriedIn (answer_uses set now.world m at o q) → IsTriedAt set site boot rest
  by_deployer m at low None q f i = absurd i
  by_deployer m at low (Some x) None f i = absurd i
  by_deployer m at low (Some x) (Some answer) f i = verdict m at low x answer (option_flatten (slice_get now.world.deployer.open_asks m)) refl f i

  happens : (x : Happening) → now.next ≡ x → TriesFirst (uses_at set x now.world) → TriedIn (uses_at set x now.world) → IsTriedAt set site boot rest
  happens (Step n) e f i = by_code n (slice_get now.world.nodes n) refl i
  happens (Answer m at p) e f i = by_deployer m at (range.boots k now m at p here e) (slice_get set.sites m) (slice_get now.world.packets p) f i
  happens x e f i = absurd i

  pub is_tried_at : TriedIn (uses set now) → IsTriedAt set site boot rest
  is_tried_at i = happens now.next refl (tries_first set set.mac (record { others = λ key kind rest ne. refl; size = λ key message. refl }) now) i

-- Where a moment gives the tag that is tried, it gives it as this module's.
module _ (set : Setting) (named : HasNames set) (sound : IsSoundSetting set) (lines : List Line) (range : AreInRange set lines) (few : length lines ≤ 65536)
    (k : ℕ) (now : Moment) (here : moment set lines k ≡ Some now) (who : Holder) (kind : ℕ) (rest : List ℕ)
    (m : ℕ) (site : Site) (at : ℕ) (sited : slice_get set.sites m ≡ Some site) (low : at < 2 ^ 32) (place : (site.node < length set.keys) ⊎ (head_of rest ≡ 18)) (same : key_held set who ≡ key_of set site at) where
  of_step : (n : ℕ) (o : Option State) → slice_get now.world.nodes n ≡ o → IsUse (Gives who kind rest) (step_uses set n o) → who ≡ module_holder site at
  of_step n None e i = absurd i
  of_step n (Some s) e i =
      let u = gives_owned set n s who kind rest i in
      let on : n < length set.keys = (let in_ = get_within now.world.nodes n s e in let many = (stands set sound lines range.form k now here).nodes in omega (arith, in_, many)) in
      owner_is set named sound lines range.form few k now here n s e on u.own who m site at sited low u.runs u.whose same

  of_answer : Granted set who kind rest → who ≡ module_holder site at
  of_answer g = elim place [
    | inl on ↦
        g.is
        ∙ sym (names_tell set named site.node at site.provider site.text site.layout g.site g.boot on (site_range set named sound m site at sited low) (site_range set named sound g.m g.site g.boot g.sited g.low)
        (sym same ∙ ap (key_held set) g.is))
    | inr eighteen ↦ let six = g.six in absurd (omega (arith, eighteen, six))
  ]

  happens_so : (x : Happening) → now.next ≡ x → IsUse (Gives who kind rest) (uses_at set x now.world) → who ≡ module_holder site at
  happens_so (Step n) e i = of_step n (slice_get now.world.nodes n) refl i
  happens_so (Answer a boot p) e i =
      of_answer (answers_known set who kind rest now.world a boot (deals set lines range k now here) (range.boots k now a boot p here e) (slice_get set.sites a) (slice_get now.world.packets p) i)
  happens_so x e i = absurd i

  pub its_own : IsUse (Gives who kind rest) (uses set now) → who ≡ module_holder site at
  its_own i = happens_so now.next refl i
