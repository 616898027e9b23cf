-- Settings that no tag tells apart.
use Rattle.std.specs.Prelude.{◌≡◌, ◌≢◌, ℕ, List, ◌∷◌, length}
use Rattle.sx_tag.specs.Mac.{Mac}
use Rattle.sx_tag.specs.Keys.{module_key}
use Rattle.spec_run.specs.Setting.{Setting}
use Rattle.spec_run.specs.Deployer.{list_at, connection_key}

-- one tag function gives under one key what the other gives under the other key, for each message
-- but those that keys are derived from, which begin with `K`
abbrev pub SameTags : Mac → List ℕ → Mac → List ℕ → Type 0
SameTags mac k nac l =
    (kind : ℕ) (rest : List ℕ) → kind ≢ 0x4B → mac k (kind ∷ rest) ≡ nac l (kind ∷ rest)

-- the setting with another tag function, other keys of the nodes, and another secret
abbrev pub rekeyed : Setting → Mac → List (List ℕ) → List ℕ → Setting
rekeyed set mac keys secret = record set { mac = mac; keys = keys; secret = secret }

-- The settings differ in the tag function, the nodes' keys and the secret alone, and no tag tells
-- them apart: neither one under the key of a module, at any node, boot, provider and identity, nor
-- one under 16 bytes that code holds in memory; and the keys of connections are the same.
pub record AgreeOnTags (a b : Setting) : Type 0 where
  pub rest : b ≡ rekeyed a b.mac b.keys b.secret
  pub count : length a.keys ≡ length b.keys
  pub modules : (n boot provider : ℕ) (identity : List ℕ)
      → SameTags a.mac (module_key a.mac (list_at a.keys n) boot provider identity) b.mac
      (module_key b.mac (list_at b.keys n) boot provider identity)
  pub held : (k : List ℕ) → length k ≡ 16 → SameTags a.mac k b.mac k
  pub links : (link epoch : ℕ) → connection_key a link epoch ≡ connection_key b link epoch
