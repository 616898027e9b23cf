-- The lines that show the images of modules.
use Rattle.std.specs.Prelude.{ℕ, List, [], ◌∷◌, ◌++◌, codes}
use Rattle.hex.specs.Hex.{encode_lower}
use Rattle.command_text.specs.Output.{line}

-- a module's name, and the text of its image
unfoldable pub image_line : List ℕ → List ℕ → List ℕ
image_line name text = line (codes "image " ++ name ++ codes " " ++ encode_lower text)

-- the lines of all images
abbrev pub images_text : List (List ℕ) → List (List ℕ) → List ℕ
images_text (name ∷ names) (text ∷ texts) = image_line name text ++ images_text names texts
images_text [] texts = []
images_text (name ∷ names) [] = []
