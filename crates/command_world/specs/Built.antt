-- The images that are built of a deployment's modules.
use Rattle.std.specs.Prelude.{◌≡◌, ℕ, ◌+◌, List, [], ◌∷◌, slice_get, Some}
use Rattle.sx_rules.specs.declared.section.Layout.{Layout}
use Rattle.sx_tag.specs.Mac.{Mac}
use Rattle.sx_mean.specs.Application.{PartTree}
use Rattle.sx_mean.specs.Ends.{ends_of}
use Rattle.sx_deploy.specs.Deployment.{Deployed}
use Rattle.sx_image.specs.Image.{Image}
use Rattle.sx_image.specs.Realizes.{Realizes}
use Rattle.sx_compile.specs.Compiled.{compiled_text}

-- the texts of these modules, the first of which has this index
abbrev pub texts_from : Deployed → ℕ → List PartTree → List Layout → List (List ℕ)
texts_from d p (q ∷ qs) (l ∷ ls) =
    compiled_text l q.tree (ends_of d.app p) ∷ texts_from d (p + 1) qs ls
texts_from d p _ _ = []

-- the image of the p-th module, if it is deployed: it realizes the module with its ends, and its
-- text is the one that the compiler makes
pub record IsBuilt (mac : Mac) (d : Deployed) (q : PartTree) (layout : Layout) (provider p : ℕ)
    (image : Image) : Type 0 where
  pub layout_is : image.layout ≡ layout
  pub provider_is : image.provider ≡ provider
  pub realizes : Realizes mac q.tree (ends_of d.app p) image
  pub text_is : image.text ≡ compiled_text layout q.tree (ends_of d.app p)

-- of this index the image is built
abbrev pub BuiltAt : Mac → Deployed → ℕ → Image → Type 0
BuiltAt mac d p image =
    (q : PartTree) (layout : Layout) (provider : ℕ) → slice_get d.app.parts p ≡ Some q
    → slice_get d.layouts p ≡ Some layout → slice_get d.providers p ≡ Some provider
    → IsBuilt mac d q layout provider p image

-- the images of the first modules
abbrev pub AreBuilt : Mac → Deployed → List Image → Type 0
AreBuilt mac d images =
    (p : ℕ) (image : Image) → slice_get images p ≡ Some image → BuiltAt mac d p image
