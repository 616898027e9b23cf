-- There is a setting whose connections have other keys, and whose tags are those of the true ones.
use Rattle.std.proofs.Common.{◌≡◌, ◌≢◌, ℕ, zero, suc, ◌+◌, ◌*◌, ◌^◌, ◌%◌, ◌/◌, ◌<◌, ◌==◌, inl, inr, Bool, true, false, cond, bytes_eq, List, [], ◌∷◌, ◌++◌, length, take, drop, slice_index, Option, Some, None, refl, sym, ◌∙◌, ap, ap₂, subst, arith, lit<}
use Rattle.std.specs.Prelude.{slice_get}
use Rattle.std.specs.Int.{w16, w32, to_le_bytes}
use Rattle.std.proofs.lemmas.Bool.{ne_eqb, eqb-true, cases_lt}
use Rattle.std.proofs.lemmas.Nat.{mod_below}
use Rattle.std.proofs.lemmas.List.Elements.{All-take}
use Rattle.std.proofs.lemmas.Slice.Eq.{bytes_eq-Decides}
use Rattle.lemmas.proofs.Texts.{bytes_eq-same}
use Rattle.byteorder.specs.Endian.{little_bytes}
use Rattle.sx_tag.specs.Mac.{Mac}
use Rattle.sx_tag.specs.Keys.{kdf, boot_key, section_key, module_key, identity}
use Rattle.sx_tag.specs.Wrap.{xor_bytes, crypt}
use Rattle.sx_tag.proofs.TagBytes.{all_bytes}
use Rattle.sx_wire.specs.Headers.{set_key_header}
use Rattle.sx_model.specs.State.{FIELDS}
use Rattle.sx_sched.specs.Lines.{Line}
use Rattle.spec_machine.specs.Memory.{bytes_from}
use Rattle.spec_machine.proofs.Lengths.{length-bytes_from}
use Rattle.spec_machine.specs.State.{State}
use Rattle.spec_run.specs.Setting.{Setting, deployed}
use Rattle.spec_run.specs.Deployer.{list_at, key_of, connection_key}
use Rattle.spec_run.specs.Law.{IsTagBytes, IsTagUnder, IsSoundSetting, LinesInForm}
use Rattle.spec_run.proofs.tie.Lists.{get_within}
use Rattle.law_forgery.specs.Tags.{SameTags, rekeyed}
use Rattle.law_forgery.specs.Moments.{Moment, moment}
use Rattle.law_forgery.specs.Named.{code, names, named, named_setting}
use Rattle.law_forgery.proofs.Naming.{is_name}
use Rattle.law_forgery.proofs.Accepting.{key_long}
use Rattle.law_connections.specs.Unlinked.{Unlinked}
use Rattle.law_connections.specs.Unlinks.{IsDeployedKey}
use Rattle.law_connections.specs.LinksUnseen.{wanted, identity_in, NothingGuessed}
use Rattle.law_connections.specs.Laws.{RealizesAlways}
use Rattle.law_connections.proofs.Moved.{TellsApart, mixed}
use Rattle.law_connections.proofs.Unlinking.{Bytes, mixed_length, mixed_bytes, xor_all, pads_back}
use Rattle.law_connections.proofs.Finding.{finds, tells_apart}
use Rattle.law_connections.proofs.Final.{links_unseen}
use Rattle.law_makers.specs.Impostors.{identity_with}
use Rattle.law_makers.proofs.Impostors.{name_at, impostors_have_other_names}
use Rattle.law_makers.proofs.NamedSound.{sound_with, named_is_sound}
use Rattle.law_counting.proofs.Lines.{entry_below}
use Rattle.law_counting.specs.Counting.{IsTable, at}
use Rattle.law_rarity.specs.Tables.{bytes_of}
use Rattle.law_rarity.specs.Names.{HasNames}
use Rattle.law_rarity.specs.Places.{place_of, AreApart, IsNoPlace, UsesNoPlace, IsPlaced, PlacesUnseen}
use Rattle.law_rarity.proofs.Entries.{number, number_of, bytes_long, first_sixteen}
use Rattle.law_rarity.proofs.Tabled.{written, replaced}
use Rattle.law_rarity.proofs.Words.{stands}
use Rattle.law_rarity.proofs.Names.{past, named_has_names, names_short, site_range}

-- Which connection has the key in its place.

abbrev more : Option ℕ → Option ℕ
more None = None
more (Some i) = Some (suc i)

abbrev placed_at : List ℕ → List ℕ → Option ℕ
placed_at [] key = None
placed_at (v ∷ vs) key = cond (bytes_eq key (bytes_of 16 v)) (Some 0) (more (placed_at vs key))

record Found (t key : List ℕ) (i : ℕ) : Type 0 where
  low : i < length t
  is : key ≡ bytes_of 16 (at t i)

found_at : (t key : List ℕ) (i : ℕ) → placed_at t key ≡ Some i → Found t key i
found_at [] key i h = absurd cc
found_at (v ∷ vs) key i h = by (bytes_eq key (bytes_of 16 v)) refl (placed_at vs key) refl h (λ j e. found_at vs key j e)
  where
    by : (b : Bool) → bytes_eq key (bytes_of 16 v) ≡ b → (o : Option ℕ) → placed_at vs key ≡ o → cond b (Some 0) (more o) ≡ Some i
        → ((j : ℕ) → placed_at vs key ≡ Some j → Found vs key j) → Found (v ∷ vs) key i
    by true e o f q rec = let z : 0 ≡ i = cc in subst (Found (v ∷ vs) key) z (record { low = omega arith; is = (bytes_eq-Decides key (bytes_of 16 v)).0 e })
    by false e None f q rec = absurd cc
    by false e (Some j) f q rec =
        let z : suc j ≡ i = cc in
        let r = rec j f in
        let low = r.low in
        subst (Found (v ∷ vs) key) z (record { low = omega (arith, low); is = r.is })

place_found : (t : List ℕ) (f : ℕ) → f < length t → (j : ℕ) × (placed_at t (bytes_of 16 (at t f)) ≡ Some j)
place_found [] f lt = absurd (omega (arith, lt))
place_found (v ∷ vs) zero lt = (0, ap (λ (b : Bool). cond b (Some 0) (more (placed_at vs (bytes_of 16 v)))) (bytes_eq-same (bytes_of 16 v)))
place_found (v ∷ vs) (suc f) lt = by (bytes_eq (bytes_of 16 (at vs f)) (bytes_of 16 v)) (place_found vs f (omega (arith, lt)))
  where
    by : (b : Bool) → (j : ℕ) × (placed_at vs (bytes_of 16 (at vs f)) ≡ Some j) → (j : ℕ) × (cond b (Some 0) (more (placed_at vs (bytes_of 16 (at vs f)))) ≡ Some j)
    by true r = (0, refl)
    by false r = (suc r.0, ap more r.1)

table_long : (n w : ℕ) (t : List ℕ) → IsTable n w t → length t ≡ n
table_long zero w [] h = refl
table_long zero w (v ∷ t) h = absurd h
table_long (suc n) w [] h = absurd h
table_long (suc n) w (v ∷ t) h = ap suc (table_long n w t h.1)

-- Two bytes.

two_bytes : (x : ℕ) → number (little_bytes 2 x) ≡ x % 65536
two_bytes x = omega arith

two_mod : (x : ℕ) → little_bytes 2 (x % 65536) ≡ little_bytes 2 x
two_mod x =
    let a : x % 65536 % 256 ≡ x % 256 = omega arith in
    let b : x % 65536 / 256 % 256 ≡ x / 256 % 256 = omega arith in
    ap₂ (λ (y z : ℕ). y ∷ z ∷ []) a b

-- The keys above a module's are names, too.
module _ (base mac : Mac) where
  record Short (l : List ℕ) (part other : List ℕ) : Type 0 where
    first : length l < 16
    second : length (kdf (named base mac) l part) < 16
    third : length (kdf (named base mac) (kdf (named base mac) l part) other) < 16

  below : (n m : ℕ) → n ≡ m → m < 16 → n < 16
  below n m e lt = omega (arith, e, lt)

  short : (count n : ℕ) (part other : List ℕ) → Short (list_at (names 0 count) n) part other
  unfolding kdf
  short count n part other = elim (is_name count 0 n) [
    | inl none ↦ subst (λ (l : List ℕ). Short l part other) (sym none) (record { first = omega arith; second = below _ 1 refl (omega arith); third = below _ 2 refl (omega arith) })
    | inr one ↦ subst (λ (l : List ℕ). Short l part other) (sym one.1) (record { first = omega arith; second = below _ 2 refl (omega arith); third = below _ 3 refl (omega arith) })
  ]

module _ (a : Setting) (holds : List ℕ → Bool) (t : List ℕ) where
  -- what a true key and its place differ by
  abbrev change : ℕ → ℕ → List ℕ
  change link epoch = xor_bytes (connection_key a link epoch) (place_of t link epoch)

  -- the secret derives places
  abbrev derived : Bool → List ℕ → List ℕ → List ℕ
  derived b key rest = cond b (bytes_of 16 (at t (number rest)) ++ drop 16 (a.mac key (0x4B ∷ rest))) (a.mac key (0x4B ∷ rest))

  -- under a deployed module's key pads of set-key packets differ as keys do
  abbrev padded : Bool → List ℕ → ℕ → List ℕ → List ℕ
  padded b key kind rest = cond b (mixed (a.mac key (kind ∷ rest)) (change (slice_index rest 3) (slice_index rest 4))) (a.mac key (kind ∷ rest))

  -- under a place tags are those of the true key
  abbrev tagged : Option ℕ → List ℕ → List ℕ → List ℕ
  tagged None key message = a.mac key message
  tagged (Some f) key message = a.mac (kdf a.mac a.secret (little_bytes 2 f)) message

  placed : Mac
  placed key [] = a.mac key []
  placed key (kind ∷ rest) =
      cond (kind == 0x4B) (derived (bytes_eq key a.secret) key rest)
      (cond (holds key) (padded (kind == 0x53) key kind rest) (tagged (placed_at t key) key (kind ∷ rest)))

  at_other : (key : List ℕ) (kind : ℕ) (rest : List ℕ) → kind ≢ 0x4B → holds key ≡ false → placed key (kind ∷ rest) ≡ tagged (placed_at t key) key (kind ∷ rest)
  unfolding placed
  at_other key kind rest ne h =
      ap₂ (λ (b c : Bool). cond b (derived (bytes_eq key a.secret) key rest) (cond c (padded (kind == 0x53) key kind rest) (tagged (placed_at t key) key (kind ∷ rest)))) (ne_eqb kind 0x4B ne) h

  at_tag : (key rest : List ℕ) → holds key ≡ true → placed key (0x54 ∷ rest) ≡ a.mac key (0x54 ∷ rest)
  unfolding placed
  at_tag key rest h = ap (λ (c : Bool). cond c (a.mac key (0x54 ∷ rest)) (tagged (placed_at t key) key (0x54 ∷ rest))) h

  at_pad : (key rest : List ℕ) → holds key ≡ true → placed key (0x53 ∷ rest) ≡ mixed (a.mac key (0x53 ∷ rest)) (change (slice_index rest 3) (slice_index rest 4))
  unfolding placed
  at_pad key rest h = ap (λ (c : Bool). cond c (mixed (a.mac key (0x53 ∷ rest)) (change (slice_index rest 3) (slice_index rest 4))) (tagged (placed_at t key) key (0x53 ∷ rest))) h

  kdf_same : (key part : List ℕ) → (key ≡ a.secret → ⊥) → kdf placed key part ≡ kdf a.mac key part
  unfolding placed kdf
  kdf_same key part ne = ap (λ (b : Bool). take 16 (derived b key part)) (differs (bytes_eq key a.secret) refl)
    where
      differs : (b : Bool) → bytes_eq key a.secret ≡ b → b ≡ false
      differs true e = absurd (ne ((bytes_eq-Decides key a.secret).0 e))
      differs false e = refl

  kdf_secret : (part : List ℕ) → kdf placed a.secret part ≡ bytes_of 16 (at t (number part))
  unfolding placed kdf
  kdf_secret part = ap (λ (b : Bool). take 16 (derived b a.secret part)) (bytes_eq-same a.secret) ∙ first_sixteen (at t (number part)) (drop 16 (a.mac a.secret (0x4B ∷ part)))

  -- The tag function is lawful where it makes tags.
  module _ (tag : IsTagUnder a.secret a.mac) where
    pads_kind : (key : List ℕ) (kind : ℕ) (rest : List ℕ) → kind ≢ 0x4B → (b : Bool) → IsTagBytes (padded b key kind rest)
    unfolding kdf
    pads_kind key kind rest ne true =
        let m = tag.tags key kind rest ne in
        let link = slice_index rest 3 in
        let epoch = slice_index rest 4 in
        let true_bytes : Bytes (connection_key a link epoch) =
        All-take (λ b. b < 256) 16 (a.mac a.secret (0x4B ∷ little_bytes 2 (link + 256 * epoch))) (tag.derived (little_bytes 2 (link + 256 * epoch))).1 in
        let place_bytes : Bytes (place_of t link epoch) = all_bytes (place_of t link epoch) (written 16 (at t ((link + 256 * epoch) % 65536))) in (
          mixed_length (a.mac key (kind ∷ rest)) (change link epoch) ∙ m.0,
          mixed_bytes (a.mac key (kind ∷ rest)) (change link epoch) m.1 (xor_all (connection_key a link epoch) (place_of t link epoch) true_bytes place_bytes),
        )
    pads_kind key kind rest ne false = tag.tags key kind rest ne

    lawful_place : IsTagUnder a.secret placed
    unfolding placed
    lawful_place = record {
      tags = λ key kind rest ne. by key kind rest ne (kind == 0x4B) (holds key) (placed_at t key) refl;
      derived = λ rest. subst (λ (b : Bool). IsTagBytes (derived b a.secret rest)) (sym (bytes_eq-same a.secret)) (replaced (at t (number rest)) (a.mac a.secret (0x4B ∷ rest)) (tag.derived rest));
    }
      where
        by : (key : List ℕ) (kind : ℕ) (rest : List ℕ) → kind ≢ 0x4B → (b c : Bool) (o : Option ℕ) → (kind == 0x4B) ≡ b
            → IsTagBytes (cond b (derived (bytes_eq key a.secret) key rest) (cond c (padded (kind == 0x53) key kind rest) (tagged o key (kind ∷ rest))))
        by key kind rest ne true c o e = absurd (ne (eqb-true kind 0x4B e))
        by key kind rest ne false true o e = pads_kind key kind rest ne (kind == 0x53)
        by key kind rest ne false false None e = tag.tags key kind rest ne
        by key kind rest ne false false (Some f) e = tag.tags (kdf a.mac a.secret (little_bytes 2 f)) kind rest ne

-- In a setting with names.
module _ (set : Setting) (base : Mac) (long : length set.secret ≡ 16) (sound : IsSoundSetting (named_setting base set)) (always : RealizesAlways (named_setting base set))
    (holds : List ℕ → Bool) (tells : TellsApart (named_setting base set) holds) (t : List ℕ) (table : IsTable FIELDS (2 ^ 128) t) (apart : AreApart t) where
  abbrev a : Setting
  a = named_setting base set

  abbrev nac : Mac
  nac = placed a holds t

  abbrev b : Setting
  b = rekeyed a nac a.keys a.secret

  has_names : HasNames a
  has_names = named_has_names set base

  fields : FIELDS ≡ 65536
  unfolding FIELDS
  fields = refl

  -- a deployed module's key isn't as long as one that code holds
  no_module : (k : List ℕ) → length k ≡ 16 → IsDeployedKey a k → ⊥
  no_module k sixteen h = names_short a has_names h.2 h.1 (ap length (sym h.4) ∙ sixteen)

  -- nor as the secret
  not_secret : (k : List ℕ) → length k < 16 → k ≡ a.secret → ⊥
  not_secret k lt e = let l = ap length e in omega (arith, lt, l, long)

  module_same : (n boot provider : ℕ) (id : List ℕ) → module_key nac (list_at a.keys n) boot provider id ≡ module_key a.mac (list_at a.keys n) boot provider id
  unfolding module_key section_key boot_key
  module_same n boot provider id =
      let l = list_at a.keys n in
      let s = short base set.mac (length set.keys) n (to_le_bytes w32 boot) (to_le_bytes w16 provider) in
      let one = kdf a.mac l (to_le_bytes w32 boot) in
      let two = kdf a.mac one (to_le_bytes w16 provider) in
      ap (λ (z : List ℕ). kdf nac (kdf nac z (to_le_bytes w16 provider)) id) (kdf_same a holds t l (to_le_bytes w32 boot) (not_secret l s.first))
      ∙ ap (λ (z : List ℕ). kdf nac z id) (kdf_same a holds t one (to_le_bytes w16 provider) (not_secret one s.second))
      ∙ kdf_same a holds t two id (not_secret two s.third)

  connection_is : (link epoch : ℕ) → connection_key b link epoch ≡ place_of t link epoch
  connection_is link epoch = kdf_secret a holds t (little_bytes 2 (link + 256 * epoch)) ∙ ap (λ (i : ℕ). bytes_of 16 (at t i)) (two_bytes (link + 256 * epoch))

  -- which connection has a place
  place_at : (x : ℕ) → placed_at t (bytes_of 16 (at t (x % 65536))) ≡ Some (x % 65536)
  place_at x =
      let f = x % 65536 in
      let size = table_long FIELDS (2 ^ 128) t table in
      let low : f < FIELDS = omega (arith, fields) in
      let g = place_found t f (omega (arith, low, size)) in
      let h = found_at t (bytes_of 16 (at t f)) g.0 g.1 in
      let there = h.low in
      let low2 : g.0 < FIELDS = omega (arith, there, size) in
      let same : at t f ≡ at t g.0 =
      sym (number_of (at t f) (entry_below FIELDS (2 ^ 128) t table f low)) ∙ ap number h.is ∙ number_of (at t g.0) (entry_below FIELDS (2 ^ 128) t table g.0 low2) in
      g.1 ∙ ap (λ (i : ℕ). Some i) (sym (apart f g.0 low low2 same))

  no_place : (k : List ℕ) → IsNoPlace t k → placed_at t k ≡ None
  no_place k none = by (placed_at t k) refl
    where
      by : (o : Option ℕ) → placed_at t k ≡ o → o ≡ None
      by None e = refl
      by (Some i) e =
          let h = found_at t k i e in
          let low = h.low in
          let size = table_long FIELDS (2 ^ 128) t table in
          absurd (none i (omega (arith, low, size)) h.is)

  stays : (k : List ℕ) → (IsDeployedKey a k → ⊥) → IsNoPlace t k → SameTags a.mac k nac k
  stays k other none kind rest ne =
      sym (at_other a holds t k kind rest ne (tells.others k other) ∙ ap (λ (o : Option ℕ). tagged a holds t o k (kind ∷ rest)) (no_place k none))

  packets : (key : List ℕ) (link epoch side : ℕ) → holds key ≡ true
      → crypt a.mac key (set_key_header link epoch side) (connection_key a link epoch) ≡ crypt nac key (set_key_header link epoch side) (place_of t link epoch)
  unfolding crypt
  packets key link epoch side h =
      let k = connection_key a link epoch in
      let p = place_of t link epoch in
      let size = key_long a link epoch sound.tag in
      let message = 6 ∷ 1 ∷ 0 ∷ link ∷ epoch ∷ side ∷ 0 ∷ 0 ∷ [] in
      let wide = (sound.tag.tags key 0x53 message (λ e. absurd (omega (arith, e)))).0 in
      pads_back k p (a.mac key (0x53 ∷ message)) (size ∙ sym (bytes_long 16 (at t ((link + 256 * epoch) % 65536)))) (omega (arith, size, wide))
      ∙ ap (xor_bytes p) (sym (at_pad a holds t key message h))

  unlinked : Unlinked a b
  unlinked = record {
    rest = refl;
    count = refl;
    links = λ link epoch kind rest ne.
        let x = link + 256 * epoch in
        let p = place_of t link epoch in
        sym (ap (λ (z : List ℕ). nac z (kind ∷ rest)) (connection_is link epoch)
        ∙ at_other a holds t p kind rest ne (tells.others p (no_module p (bytes_long 16 (at t (x % 65536)))))
        ∙ ap (λ (o : Option ℕ). tagged a holds t o p (kind ∷ rest)) (place_at x)
        ∙ ap (λ (part : List ℕ). a.mac (kdf a.mac a.secret part) (kind ∷ rest)) (two_mod x));
    tags = λ m boot site rest sited.
        let id = identity site.text site.layout.pub_from site.layout.pub_to site.layout.priv_from site.layout.priv_to in
        sym (ap (λ (z : List ℕ). nac z (0x54 ∷ rest)) (module_same site.node boot site.provider id) ∙ at_tag a holds t (key_of a site boot) rest (tells.sites m boot site sited));
    pads = λ m boot link epoch side site sited.
        let id = identity site.text site.layout.pub_from site.layout.pub_to site.layout.priv_from site.layout.priv_to in
        packets (key_of a site boot) link epoch side (tells.sites m boot site sited)
        ∙ ap (λ (z : List ℕ). crypt nac z (set_key_header link epoch side) (place_of t link epoch)) (sym (module_same site.node boot site.provider id))
        ∙ ap (λ (z : List ℕ). crypt nac (key_of b site boot) (set_key_header link epoch side) z) (sym (connection_is link epoch));
  }

  sound_b : IsSoundSetting b
  sound_b = sound_with a sound always nac a.keys refl (lawful_place a holds t sound.tag)

  -- A module that isn't deployed has no deployed module's name.
  module _ (lines : List Line) (form : LinesInForm a lines) (k : ℕ) (now : Moment) (here : moment a lines k ≡ Some now) (n : ℕ) (s : State) (there : slice_get now.world.nodes n ≡ Some s) where
    abbrev wanted_key : List ℕ
    wanted_key = module_key a.mac (list_at a.keys n) s.boot (slice_index s.regs 9) (identity_in s.mem (wanted s))

    on : n < length a.keys
    on = let in_ = get_within now.world.nodes n s there in let many = (stands a sound lines form k now here).nodes in omega (arith, in_, many)

    impostor : deployed a.sites n s.mem (wanted s) ≡ None → IsDeployedKey a wanted_key → ⊥
    impostor none h =
        let words = ((stands a sound lines form k now here).turns n s there).node.registers.words in
        let site = h.2 in
        let range = site_range a has_names sound h.0 site 0 h.3 (omega arith) in
        let ours = has_names n s.boot (slice_index s.regs 9) (identity_in s.mem (wanted s)) in
        let its = has_names site.node h.1 site.provider (identity_with site.text site.layout) in
        let same = sym ours ∙ h.4 ∙ its in
        elim (cases_lt site.node (length a.keys)) [
          | inl lt ↦
              impostors_have_other_names a n s.boot h.1 s.mem (wanted s) h.0 site on lt (words 9) range.provider_low
              (record { pub_from = words 10; pub_to = words 11; priv_from = words 12; priv_to = words 13 }) range.words h.3 none same
          | inr ge ↦
              let x = code (to_le_bytes w32 s.boot) ∷ code (to_le_bytes w16 (slice_index s.regs 9)) ∷ code (identity_in s.mem (wanted s)) ∷ [] in
              let y = code (to_le_bytes w32 h.1) ∷ code (to_le_bytes w16 site.provider) ∷ code (identity_with site.text site.layout) ∷ [] in
              let z : 4 ≡ 3 =
              ap length (sym (ap (λ (l : List ℕ). l ++ x) (name_at (length a.keys) 0 n on)) ∙ same ∙ ap (λ (l : List ℕ). l ++ y) (past (length a.keys) 0 site.node ge)) in
              absurd (omega (arith, z))
        ]

    modules : deployed a.sites n s.mem (wanted s) ≡ None → SameTags a.mac wanted_key nac (module_key nac (list_at a.keys n) s.boot (slice_index s.regs 9) (identity_in s.mem (wanted s)))
    modules none kind rest ne =
        stays wanted_key (impostor none) (λ f low is. names_not (ap length is ∙ bytes_long 16 (at t f))) kind rest ne
        ∙ ap (λ (z : List ℕ). nac z (kind ∷ rest)) (sym (module_same n s.boot (slice_index s.regs 9) (identity_in s.mem (wanted s))))
      where
        names_not : length wanted_key ≡ 16 → ⊥
        names_not sixteen =
            let x = code (to_le_bytes w32 s.boot) ∷ code (to_le_bytes w16 (slice_index s.regs 9)) ∷ code (identity_in s.mem (wanted s)) ∷ [] in
            let z : 4 ≡ 16 = sym (ap length (has_names n s.boot (slice_index s.regs 9) (identity_in s.mem (wanted s)) ∙ ap (λ (l : List ℕ). l ++ x) (name_at (length a.keys) 0 n on))) ∙ sixteen in
            absurd (omega (arith, z))

  guessed : (lines : List Line) → LinesInForm a lines → UsesNoPlace a t lines → NothingGuessed a b lines
  guessed lines form unused k now here before n s next there other =
      let h = unused k now here before n s next there other in
      record {
        held = λ row own sec kind read.
            let key = bytes_from s.mem (slice_index s.regs 9) 16 in
            stays key (no_module key (length-bytes_from s.mem (slice_index s.regs 9) 16)) (h.held row own sec kind read);
        admitted = λ row none. modules lines form k now here n s there none;
      }

  is_placed : IsPlaced a t b
  is_placed = record {
    sound = sound_b;
    unlinked = unlinked;
    placed = connection_is;
    stay = λ k sixteen none. stays k (no_module k sixteen) none;
    guessed = guessed;
  }

pub places_unseen : PlacesUnseen
places_unseen set base sound always hides tag long t table apart =
    let a = named_setting base set in
    let whole = named_is_sound set base sound always tag long in
    let holds = finds a 4294967296 in
    let tells = tells_apart a 4294967296 (λ boot. mod_below boot 4294967296 (lit< tt)) in
    let b = rekeyed a (placed a holds t) a.keys a.secret in
    let is = is_placed set base long whole always holds tells t table apart in
    (b, is, λ lines form unused. links_unseen a lines whole hides form b is.sound is.unlinked (is.guessed lines form unused))
