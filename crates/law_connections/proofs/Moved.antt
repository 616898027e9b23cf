-- The setting with other keys in place of its own.
use Rattle.std.specs.Prelude.{◌≡◌, ℕ, ◌==◌, ◌&&◌, if◌then◌else◌, Bool, true, false, List, [], ◌∷◌, ◌++◌, take, drop, map, slice_get, slice_index, Some, bit_xor}
use Rattle.sx_tag.specs.Mac.{Mac}
use Rattle.sx_tag.specs.Wrap.{xor_bytes}
use Rattle.spec_run.specs.Setting.{Setting, Site}
use Rattle.spec_run.specs.Deployer.{key_of, connection_key}
use Rattle.spec_run.specs.Law.{IsLawfulSetting}
use Rattle.law_forgery.specs.Tags.{rekeyed}
use Rattle.law_connections.specs.Unlinks.{IsMoving, IsDeployedKey, IsMoved}
use Rattle.law_connections.specs.Laws.{RealizesAlways}

-- the test holds of the keys of deployed modules, and of no other key
pub record TellsApart (a : Setting) (holds : List ℕ → Bool) : Type 0 where
  pub sites : (m boot : ℕ) (site : Site) → slice_get a.sites m ≡ Some site
      → holds (key_of a site boot) ≡ true
  pub others : (k : List ℕ) → (IsDeployedKey a k → ⊥) → holds k ≡ false

-- the bytes of a tag, exclusive or these, as far as they go
abbrev pub mixed : List ℕ → List ℕ → List ℕ
mixed [] ds = []
mixed (t ∷ ts) [] = t ∷ ts
mixed (t ∷ ts) (d ∷ ds) = bit_xor t d ∷ mixed ts ds

-- what the key of a connection and the one in its place differ by
abbrev pub change : (List ℕ → List ℕ) → Setting → ℕ → ℕ → List ℕ
change move a link epoch =
    xor_bytes (connection_key a link epoch) (move (connection_key a link epoch))

-- Under a key in the place of another the tags are the other's, but keys that are derived have
-- others in their place, and under a deployed module's key pads differ as the connections' keys do.
unfoldable pub moved : (move back : List ℕ → List ℕ) → (List ℕ → Bool) → Setting → Mac
moved move back holds a key [] = a.mac (back key) []
moved move back holds a key (kind ∷ rest) =
    if kind == 0x4B then move (take 16 (a.mac (back key) (kind ∷ rest)))
    ++ drop 16 (a.mac (back key) (kind ∷ rest)) else
    if holds (back key) && (kind == 0x53) then mixed (a.mac (back key) (kind ∷ rest))
    (change move a (slice_index rest 3) (slice_index rest 4)) else
    a.mac (back key) (kind ∷ rest)

-- the setting with other keys in place of its own
abbrev pub moved_setting : (move back : List ℕ → List ℕ) → (List ℕ → Bool) → Setting → Setting
moved_setting move back holds a =
    rekeyed a (moved move back holds a) (map move a.keys) (move a.secret)

-- It has the chosen keys for its connections, whatever test tells deployed modules' keys apart.
abbrev pub Moves : Type 0
Moves = (a : Setting) (move back : List ℕ → List ℕ) (holds : List ℕ → Bool) → IsLawfulSetting a
    → RealizesAlways a → IsMoving move back → TellsApart a holds
    → ((link epoch : ℕ) → IsDeployedKey a (connection_key a link epoch) → ⊥)
    → IsMoved a move (moved_setting move back holds a)
