-- That there are settings whose connections have other keys.
use Rattle.std.specs.Prelude.{◌≡◌, ℕ, ◌<◌, List, length, slice_get, Some, All}
use Rattle.sx_tag.specs.Keys.{module_key}
use Rattle.spec_run.specs.Setting.{Setting, Site}
use Rattle.spec_run.specs.Deployer.{list_at, key_of, connection_key}
use Rattle.spec_run.specs.Law.{IsLawfulSetting}
use Rattle.law_forgery.specs.Tags.{SameTags}
use Rattle.law_connections.specs.Unlinked.{Unlinked}
use Rattle.law_connections.specs.LinksUnseen.{SameModule}

-- other keys for keys, one for each: of the same length, and bytes for bytes
pub record IsMoving (move back : List ℕ → List ℕ) : Type 0 where
  pub back_is : (k : List ℕ) → back (move k) ≡ k
  pub width : (k : List ℕ) → length (move k) ≡ length k
  pub bytes : (k : List ℕ) → All (λ b. b < 256) k → All (λ b. b < 256) (move k)

-- the key is that of a deployed module at a boot of its node
abbrev pub IsDeployedKey : Setting → List ℕ → Type 0
IsDeployedKey a k = (m : ℕ) × (boot : ℕ) × (site : Site) × (slice_get a.sites m ≡ Some site)
    × (k ≡ key_of a site boot)

-- A sound setting whose connections have these keys. Of other keys, one that stays has the same
-- tags in both settings, and so has that of each module, unless a deployed module has this key.
pub record IsMoved (a : Setting) (move : List ℕ → List ℕ) (b : Setting) : Type 0 where
  pub sound : IsLawfulSetting b
  pub unlinked : Unlinked a b
  pub moved : (link epoch : ℕ) → connection_key b link epoch ≡ move (connection_key a link epoch)
  pub stay : (k : List ℕ) → move k ≡ k → (IsDeployedKey a k → ⊥) → SameTags a.mac k b.mac k
  pub modules : (n boot provider : ℕ) (identity : List ℕ)
      → (IsDeployedKey a (module_key a.mac (list_at a.keys n) boot provider identity) → ⊥)
      → SameModule a b n boot provider identity

-- there is one for every choice of other keys, if no connection has a deployed module's key
abbrev pub HasMoved : Setting → Type 0
HasMoved a = (move back : List ℕ → List ℕ) → IsMoving move back
    → ((link epoch : ℕ) → IsDeployedKey a (connection_key a link epoch) → ⊥)
    → (b : Setting) × IsMoved a move b
