-- The setting of an accepted deployment's run, and which texts are images of its modules.
use Rattle.std.specs.Prelude.{◌≡◌, ℕ, ◌<◌, List, [], ◌∷◌, length, slice_get, Some, All}
use Rattle.sx_rules.specs.declared.section.Layout.{Layout}
use Rattle.sx_tag.specs.Mac.{Mac}
use Rattle.sx_mean.specs.Application.{PartTree}
use Rattle.sx_mean.specs.Ends.{ends_of}
use Rattle.sx_deploy.specs.Deployment.{Deployed}
use Rattle.sx_image.specs.Realizes.{Realizes}
use Rattle.spec_run.specs.Setting.{Site, Setting}

-- where each module is, with the text of its image
abbrev pub sites_of : List PartTree → List Layout → List ℕ → List (List ℕ) → List Site
sites_of (q ∷ qs) (l ∷ ls) (p ∷ ps) (t ∷ ts) =
    record { node = q.node; layout = l; provider = p; text = t } ∷ sites_of qs ls ps ts
sites_of _ _ _ _ = []

-- the setting of a run: a deployment's, with its modules at these sites
abbrev pub setting : Mac → Deployed → List Site → Setting
setting mac d sites = record {
  mac = mac;
  app = d.app;
  sites = sites;
  secret = d.secret;
  keys = d.keys;
  places = d.places;
}

-- with the texts of its modules' images, where they are
abbrev pub setting_of : Mac → Deployed → List (List ℕ) → Setting
setting_of mac d texts = setting mac d (sites_of d.app.parts d.layouts d.providers texts)

-- each text is a list of bytes
abbrev pub AreByteTexts : List (List ℕ) → Type 0
AreByteTexts texts = (p : ℕ) (text : List ℕ) → slice_get texts p ≡ Some text
    → All (λ b. b < 256) text

-- each text is of bytes, and, where its module is, realizes the module with its ends
pub record AreImages (mac : Mac) (d : Deployed) (texts : List (List ℕ)) : Type 0 where
  pub as_many : length texts ≡ length d.app.parts
  pub bytes : AreByteTexts texts
  pub realize : (p : ℕ) (q : PartTree) (layout : Layout) (provider : ℕ) (text : List ℕ)
      → slice_get d.app.parts p ≡ Some q
      → slice_get d.layouts p ≡ Some layout → slice_get d.providers p ≡ Some provider
      → slice_get texts p ≡ Some text
      → Realizes mac q.tree (ends_of d.app p) (record {
        text = text;
        layout = layout;
        provider =
            provider;
      })
