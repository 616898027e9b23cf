-- There is a setting whose connections have other keys.
use Rattle.std.proofs.Common.{◌≡◌, ◌≢◌, ℕ, suc, ◌+◌, ◌*◌, ◌-◌, ◌<◌, ◌≤◌, ◌==◌, ◌&&◌, Bool, true, false, cond, List, [], ◌∷◌, ◌++◌, length, take, drop, map, bit_xor, refl, sym, ◌∙◌, ap}
use Rattle.std.proofs.Common.{subst, length-take-le, arith}
use Rattle.std.specs.Prelude.{All, slice_index}
use Rattle.std.specs.Int.{w16, w32, to_le_bytes}
use Rattle.std.specs.Int.Bits.{xor_assoc, xor_self, xor_zero_r, xor_comm, xor_lt}
use Rattle.std.proofs.lemmas.Bool.{ne_eqb}
use Rattle.std.proofs.lemmas.List.{length-append, length-map, length-drop, nil_from_length}
use Rattle.std.proofs.lemmas.List.Elements.{All-nil, All-cons, All-append, All-take, All-drop, All-head, All-tail}
use Rattle.sx_mean.specs.Application.{PartTree}
use Rattle.sx_tag.specs.Mac.{Mac, IsTag, GivesTags}
use Rattle.sx_tag.specs.Keys.{kdf, boot_key, section_key, module_key, identity}
use Rattle.sx_tag.specs.Wrap.{xor_bytes, crypt}
use Rattle.spec_run.specs.Setting.{Setting, Site}
use Rattle.byteorder.specs.Endian.{little_bytes}
use Rattle.sx_wire.specs.Headers.{set_key_header}
use Rattle.spec_run.specs.Deployer.{list_at, key_of, connection_key}
use Rattle.spec_run.specs.Law.{IsLawfulSetting, IsDriven}
use Rattle.law_invocation.proofs.Wraps.{take_first}
use Rattle.law_connections.specs.Unlinked.{Unlinked}
use Rattle.law_connections.specs.Unlinks.{IsMoving, IsDeployedKey}
use Rattle.spec_run.proofs.Tags.{tag_under}
use Rattle.law_connections.specs.Laws.{RealizesAlways}
use Rattle.law_connections.proofs.Moved.{TellsApart, mixed, change, moved, moved_setting, Moves}

abbrev pub Bytes : List ℕ → Type 0
Bytes xs = All (λ b. b < 256) xs

-- 1. bytes that are mixed
pub mixed_length : (ts ds : List ℕ) → length (mixed ts ds) ≡ length ts
mixed_length [] ds = refl
mixed_length (t ∷ ts) [] = refl
mixed_length (t ∷ ts) (d ∷ ds) = ap suc (mixed_length ts ds)

pub mixed_bytes : (ts ds : List ℕ) → Bytes ts → Bytes ds → Bytes (mixed ts ds)
mixed_bytes [] ds h k = h
mixed_bytes (t ∷ ts) [] h k = h
mixed_bytes (t ∷ ts) (d ∷ ds) h k = All-cons (λ b. b < 256) (bit_xor t d) (mixed ts ds)
    (xor_lt 8 t d (All-head (λ b. b < 256) t ts h) (All-head (λ b. b < 256) d ds k))
    (mixed_bytes ts ds (All-tail (λ b. b < 256) t ts h) (All-tail (λ b. b < 256) d ds k))

pub xor_all : (xs ys : List ℕ) → Bytes xs → Bytes ys → Bytes (xor_bytes xs ys)
xor_all [] ys h k = h
xor_all (x ∷ xs) [] h k = All-nil (λ b. b < 256)
xor_all (x ∷ xs) (y ∷ ys) h k = All-cons (λ b. b < 256) (bit_xor x y) (xor_bytes xs ys)
    (xor_lt 8 x y (All-head (λ b. b < 256) x xs h) (All-head (λ b. b < 256) y ys k))
    (xor_all xs ys (All-tail (λ b. b < 256) x xs h) (All-tail (λ b. b < 256) y ys k))

xor_back : (o n s : ℕ) → bit_xor o s ≡ bit_xor n (bit_xor s (bit_xor o n))
xor_back o n s = sym (
    ap (bit_xor n) (sym (xor_assoc s o n)) ∙ xor_comm n (bit_xor (bit_xor s o) n)
    ∙ xor_assoc (bit_xor s o) n n ∙ ap (bit_xor (bit_xor s o)) (xor_self n) ∙ xor_zero_r (bit_xor s o) ∙ xor_comm s o)

-- a pad that differs as the bodies do gives the same cipher
pub pads_back : (os ns ss : List ℕ) → length os ≡ length ns → length os ≤ length ss
    → xor_bytes os ss ≡ xor_bytes ns (mixed ss (xor_bytes os ns))
pads_back [] [] ss e h = refl
pads_back [] (n ∷ ns) ss e h = absurd (omega (arith, e))
pads_back (o ∷ os) [] ss e h = absurd (omega (arith, e))
pads_back (o ∷ os) (n ∷ ns) [] e h = absurd (omega (arith, h))
pads_back (o ∷ os) (n ∷ ns) (s ∷ ss) e h =
    ap (λ (z : ℕ). z ∷ xor_bytes os ss) (xor_back o n s)
    ∙ ap (λ (z : List ℕ). bit_xor n (bit_xor s (bit_xor o n)) ∷ z) (pads_back os ns ss (omega (arith, e)) (omega (arith, h)))

module _ (move back : List ℕ → List ℕ) (moving : IsMoving move back) (holds : List ℕ → Bool) (a : Setting) (lawful : IsTag a.mac) where
  abbrev nac : Mac
  nac = moved move back holds a

  -- 2. the tag function at each kind of message
  at_other : (key rest : List ℕ) (kind : ℕ) → kind ≢ 0x4B → holds key ≡ false → nac (move key) (kind ∷ rest) ≡ a.mac key (kind ∷ rest)
  unfolding moved
  at_other key rest kind ne h =
      subst (λ (z : List ℕ). cond (kind == 0x4B) (move (take 16 (a.mac z (kind ∷ rest))) ++ drop 16 (a.mac z (kind ∷ rest)))
      (cond (holds z && (kind == 0x53)) (mixed (a.mac z (kind ∷ rest)) (change move a (slice_index rest 3) (slice_index rest 4))) (a.mac z (kind ∷ rest))) ≡ a.mac key (kind ∷ rest))
      (sym (moving.back_is key))
      (ap (λ (t : Bool). cond t (move (take 16 (a.mac key (kind ∷ rest))) ++ drop 16 (a.mac key (kind ∷ rest)))
      (cond (holds key && (kind == 0x53)) (mixed (a.mac key (kind ∷ rest)) (change move a (slice_index rest 3) (slice_index rest 4))) (a.mac key (kind ∷ rest)))) (ne_eqb kind 0x4B ne)
      ∙ ap (λ (t : Bool). cond (t && (kind == 0x53)) (mixed (a.mac key (kind ∷ rest)) (change move a (slice_index rest 3) (slice_index rest 4))) (a.mac key (kind ∷ rest))) h)

  at_tag : (key rest : List ℕ) → holds key ≡ true → nac (move key) (0x54 ∷ rest) ≡ a.mac key (0x54 ∷ rest)
  unfolding moved
  at_tag key rest h =
      ap (λ (t : Bool). cond (t && (0x54 == 0x53)) (mixed (a.mac (back (move key)) (0x54 ∷ rest)) (change move a (slice_index rest 3) (slice_index rest 4))) (a.mac (back (move key)) (0x54 ∷ rest)))
      (ap holds (moving.back_is key) ∙ h)
      ∙ ap (λ (z : List ℕ). a.mac z (0x54 ∷ rest)) (moving.back_is key)

  at_pad : (key rest : List ℕ) → holds key ≡ true
      → nac (move key) (0x53 ∷ rest) ≡ mixed (a.mac key (0x53 ∷ rest)) (change move a (slice_index rest 3) (slice_index rest 4))
  unfolding moved
  at_pad key rest h =
      ap (λ (t : Bool). cond (t && (0x53 == 0x53)) (mixed (a.mac (back (move key)) (0x53 ∷ rest)) (change move a (slice_index rest 3) (slice_index rest 4))) (a.mac (back (move key)) (0x53 ∷ rest)))
      (ap holds (moving.back_is key) ∙ h)
      ∙ ap (λ (z : List ℕ). mixed (a.mac z (0x53 ∷ rest)) (change move a (slice_index rest 3) (slice_index rest 4))) (moving.back_is key)

  -- 3. keys that are derived
  kdf_length : (key part : List ℕ) → length (kdf a.mac key part) ≡ 16
  unfolding kdf
  kdf_length key part = length-take-le 16 (a.mac key (0x4B ∷ part)) (omega (arith, lawful.width key (0x4B ∷ part)))

  kdf_bytes : (key part : List ℕ) → Bytes (kdf a.mac key part)
  unfolding kdf
  kdf_bytes key part = All-take (λ b. b < 256) 16 (a.mac key (0x4B ∷ part)) (lawful.bytes key (0x4B ∷ part))

  kdf_moved : (key part : List ℕ) → kdf nac (move key) part ≡ move (kdf a.mac key part)
  unfolding moved kdf
  kdf_moved key part =
      ap (λ (z : List ℕ). take 16 (move (take 16 (a.mac z (0x4B ∷ part))) ++ drop 16 (a.mac z (0x4B ∷ part)))) (moving.back_is key)
      ∙ take_first 16 (move (take 16 (a.mac key (0x4B ∷ part)))) (drop 16 (a.mac key (0x4B ∷ part)))
      (moving.width (take 16 (a.mac key (0x4B ∷ part))) ∙ length-take-le 16 (a.mac key (0x4B ∷ part)) (omega (arith, lawful.width key (0x4B ∷ part))))

  module_moved : (key : List ℕ) (boot provider : ℕ) (id : List ℕ) → module_key nac (move key) boot provider id ≡ move (module_key a.mac key boot provider id)
  unfolding module_key section_key boot_key
  module_moved key boot provider id =
      let base = kdf a.mac key (to_le_bytes w32 boot) in
      ap (λ (z : List ℕ). kdf nac (kdf nac z (to_le_bytes w16 provider)) id) (kdf_moved key (to_le_bytes w32 boot))
      ∙ ap (λ (z : List ℕ). kdf nac z id) (kdf_moved base (to_le_bytes w16 provider))
      ∙ kdf_moved (kdf a.mac base (to_le_bytes w16 provider)) id

  move_none : move [] ≡ []
  move_none = nil_from_length (move []) (moving.width [])

  list_moved : (keys : List (List ℕ)) (n : ℕ) → list_at (map move keys) n ≡ move (list_at keys n)
  list_moved [] n = sym move_none
  list_moved (k ∷ keys) n = by (n == 0) (list_moved keys (n - 1))
    where
      by : (b : Bool) → list_at (map move keys) (n - 1) ≡ move (list_at keys (n - 1))
          → cond b (move k) (list_at (map move keys) (n - 1)) ≡ move (cond b k (list_at keys (n - 1)))
      by true h = refl
      by false h = h

  at_node : (n boot provider : ℕ) (id : List ℕ) → module_key nac (list_at (map move a.keys) n) boot provider id ≡ move (module_key a.mac (list_at a.keys n) boot provider id)
  at_node n boot provider id =
      ap (λ (z : List ℕ). module_key nac z boot provider id) (list_moved a.keys n) ∙ module_moved (list_at a.keys n) boot provider id

  link_moved : (link epoch : ℕ) → connection_key (moved_setting move back holds a) link epoch ≡ move (connection_key a link epoch)
  link_moved link epoch = kdf_moved a.secret (little_bytes 2 (link + 256 * epoch))

  -- 4. the tag function is lawful
  change_bytes : (link epoch : ℕ) → Bytes (change move a link epoch)
  change_bytes link epoch =
      let k = connection_key a link epoch in
      let all = kdf_bytes a.secret (little_bytes 2 (link + 256 * epoch)) in
      xor_all k (move k) all (moving.bytes k all)

  derived_width : (t : List ℕ) → length t ≡ 32 → length (move (take 16 t) ++ drop 16 t) ≡ 32
  derived_width t e = omega (arith, length-append (move (take 16 t)) (drop 16 t), moving.width (take 16 t), length-take-le 16 t (omega (arith, e)), length-drop 16 t, e)

  moved_width : GivesTags nac
  unfolding moved
  moved_width key [] = lawful.width (back key) []
  moved_width key (kind ∷ rest) = by (kind == 0x4B) (holds (back key) && (kind == 0x53))
    where
      by : (b c : Bool) → length (cond b (move (take 16 (a.mac (back key) (kind ∷ rest))) ++ drop 16 (a.mac (back key) (kind ∷ rest)))
          (cond c (mixed (a.mac (back key) (kind ∷ rest)) (change move a (slice_index rest 3) (slice_index rest 4))) (a.mac (back key) (kind ∷ rest)))) ≡ 32
      by true c = derived_width (a.mac (back key) (kind ∷ rest)) (lawful.width (back key) (kind ∷ rest))
      by false true = mixed_length (a.mac (back key) (kind ∷ rest)) (change move a (slice_index rest 3) (slice_index rest 4)) ∙ lawful.width (back key) (kind ∷ rest)
      by false false = lawful.width (back key) (kind ∷ rest)

  moved_bytes : (key message : List ℕ) → Bytes (nac key message)
  unfolding moved
  moved_bytes key [] = lawful.bytes (back key) []
  moved_bytes key (kind ∷ rest) = by (kind == 0x4B) (holds (back key) && (kind == 0x53))
    where
      by : (b c : Bool) → Bytes (cond b (move (take 16 (a.mac (back key) (kind ∷ rest))) ++ drop 16 (a.mac (back key) (kind ∷ rest)))
          (cond c (mixed (a.mac (back key) (kind ∷ rest)) (change move a (slice_index rest 3) (slice_index rest 4))) (a.mac (back key) (kind ∷ rest))))
      by true c = All-append (λ b. b < 256) (move (take 16 (a.mac (back key) (kind ∷ rest)))) (drop 16 (a.mac (back key) (kind ∷ rest)))
          (moving.bytes (take 16 (a.mac (back key) (kind ∷ rest))) (All-take (λ b. b < 256) 16 (a.mac (back key) (kind ∷ rest)) (lawful.bytes (back key) (kind ∷ rest))))
          (All-drop (λ b. b < 256) 16 (a.mac (back key) (kind ∷ rest)) (lawful.bytes (back key) (kind ∷ rest)))
      by false true = mixed_bytes (a.mac (back key) (kind ∷ rest)) (change move a (slice_index rest 3) (slice_index rest 4)) (lawful.bytes (back key) (kind ∷ rest))
          (change_bytes (slice_index rest 3) (slice_index rest 4))
      by false false = lawful.bytes (back key) (kind ∷ rest)

  lawful_moved : IsTag nac
  lawful_moved = record { width = moved_width; bytes = moved_bytes }

  -- 5. set-key packets
  packets : (key : List ℕ) (link epoch side : ℕ) → holds key ≡ true
      → crypt a.mac key (set_key_header link epoch side) (connection_key a link epoch)
      ≡ crypt nac (move key) (set_key_header link epoch side) (move (connection_key a link epoch))
  unfolding crypt
  packets key link epoch side h =
      let k = connection_key a link epoch in
      let long = kdf_length a.secret (little_bytes 2 (link + 256 * epoch)) in
      let message = 6 ∷ 1 ∷ 0 ∷ link ∷ epoch ∷ side ∷ 0 ∷ 0 ∷ [] in
      pads_back k (move k) (a.mac key (0x53 ∷ message)) (sym (moving.width k)) (omega (arith, long, lawful.width key (0x53 ∷ message)))
      ∙ ap (xor_bytes (move k)) (sym (at_pad key message h))

  -- 6. the clauses
  unlinked_moved : TellsApart a holds → ((link epoch : ℕ) → IsDeployedKey a (connection_key a link epoch) → ⊥) → Unlinked a (moved_setting move back holds a)
  unlinked_moved tells apart = record {
    rest = refl;
    count = sym (length-map a.keys move);
    links = λ link epoch kind rest ne.
        sym (ap (λ (z : List ℕ). nac z (kind ∷ rest)) (link_moved link epoch) ∙ at_other (connection_key a link epoch) rest kind ne (tells.others _ (apart link epoch)));
    tags = λ m boot site rest found.
        let id = identity site.text site.layout.pub_from site.layout.pub_to site.layout.priv_from site.layout.priv_to in
        sym (ap (λ (z : List ℕ). nac z (0x54 ∷ rest)) (at_node site.node boot site.provider id) ∙ at_tag (key_of a site boot) rest (tells.sites m boot site found));
    pads = λ m boot link epoch side site found.
        let id = identity site.text site.layout.pub_from site.layout.pub_to site.layout.priv_from site.layout.priv_to in
        packets (key_of a site boot) link epoch side (tells.sites m boot site found)
        ∙ ap (λ (z : List ℕ). crypt nac z (set_key_header link epoch side) (move (connection_key a link epoch))) (sym (at_node site.node boot site.provider id))
        ∙ ap (λ (z : List ℕ). crypt nac (key_of (moved_setting move back holds a) site boot) (set_key_header link epoch side) z) (sym (link_moved link epoch));
  }

  driven_moved : (q : PartTree) (site : Site) (d : ℕ) → IsDriven a q site d → IsDriven (moved_setting move back holds a) q site d
  driven_moved q site d h = record { device = h.device; found = h.found; node = h.node; kind = h.kind; place = h.place }

  sound_moved : IsLawfulSetting a → RealizesAlways a → IsLawfulSetting (moved_setting move back holds a)
  sound_moved lawful always = let s = lawful.sound in record {
    tag = lawful_moved;
    sound = record {
      tag = tag_under _ nac lawful_moved;
      keys = length-map a.keys move ∙ s.keys;
      sites = s.sites;
      places = s.places;
      links = s.links;
      windows = s.windows;
      deployed = λ m q site part found.
          let h = s.deployed m q site part found in
          record {
            node = h.node;
            bounds = h.bounds;
            parts = h.parts;
            checked = h.checked;
            provider = h.provider;
            text_end = h.text_end;
            data_end = h.data_end;
            text = h.text;
            data_size = h.data_size;
            realizes = always m q site part found nac lawful_moved;
            devices = h.devices;
            text_free = h.text_free;
            device = λ d e. driven_moved q site d (h.device d e);
            none = h.none;
          };
      apart = s.apart;
    };
  }

pub moves : Moves
moves a move back holds sound always moving tells apart = record {
  sound = sound_moved move back moving holds a sound.tag sound always;
  unlinked = unlinked_moved move back moving holds a sound.tag tells apart;
  moved = link_moved move back moving holds a sound.tag;
  stay = λ k stays none kind rest ne.
      let free = tells.others k none in
      sym (ap (λ (z : List ℕ). moved move back holds a z (kind ∷ rest)) (sym stays) ∙ at_other move back moving holds a sound.tag k rest kind ne free);
  modules = λ n boot provider id none kind rest ne.
      let key = module_key a.mac (list_at a.keys n) boot provider id in
      sym (ap (λ (z : List ℕ). moved move back holds a z (kind ∷ rest)) (at_node move back moving holds a sound.tag n boot provider id)
      ∙ at_other move back moving holds a sound.tag key rest kind ne (tells.others key none));
}
