-- Settings whose connections have keys of their own.
use Rattle.std.specs.Prelude.{◌≡◌, ℕ, List, ◌∷◌, length, slice_get, Some}
use Rattle.sx_tag.specs.Wrap.{crypt}
use Rattle.spec_run.specs.Setting.{Setting, Site}
use Rattle.sx_wire.specs.Headers.{set_key_header}
use Rattle.spec_run.specs.Deployer.{key_of, connection_key}
use Rattle.law_forgery.specs.Tags.{SameTags, rekeyed}

-- The settings differ in the tag function, the nodes' keys and the secret alone. No tag under the
-- keys of connections tells them apart, nor does one of a wrap under the key of a deployed module;
-- and set-key packets are the same, though the keys in them differ.
pub record Unlinked (a b : Setting) : Type 0 where
  pub rest : b ≡ rekeyed a b.mac b.keys b.secret
  pub count : length a.keys ≡ length b.keys
  pub links : (link epoch : ℕ)
      → SameTags a.mac (connection_key a link epoch) b.mac (connection_key b link epoch)
  pub tags : (m boot : ℕ) (site : Site) (rest : List ℕ) → slice_get a.sites m ≡ Some site
      → a.mac (key_of a site boot) (0x54 ∷ rest) ≡ b.mac (key_of b site boot) (0x54 ∷ rest)
  pub pads : (m boot link epoch side : ℕ) (site : Site) → slice_get a.sites m ≡ Some site
      → let header = set_key_header link epoch side in
      crypt a.mac (key_of a site boot) header (connection_key a link epoch)
      ≡ crypt b.mac (key_of b site boot) header (connection_key b link epoch)
