-- An image in memory as plain data, and its identity.
use Rattle.std.specs.Prelude.{ℕ, List, map}
use Rattle.sx_tag.specs.Keys.{identity}
use Rattle.sx_image.specs.declared.image.Image.{Image as Built}
use Rattle.sx_image.specs.Image.{Image}

-- an image in a program's memory, as plain data
abbrev pub plain : Built → Image
plain i = record { text = i.text.items; layout = i.layout; provider = i.provider }

-- its identity: the text, and then the layout
abbrev pub identity_of : Image → List ℕ
identity_of i =
    identity i.text i.layout.pub_from i.layout.pub_to i.layout.priv_from i.layout.priv_to

-- the texts of images
abbrev pub texts_of : List Built → List (List ℕ)
texts_of images = map (λ i. i.text.items) images
