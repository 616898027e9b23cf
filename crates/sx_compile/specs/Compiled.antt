-- A compiled module: its whole stack code, its text, and its image.
use Rattle.std.specs.Prelude.{◌≡◌, ℕ, ◌+◌, ◌-◌, ◌%◌, ◌<◌, List, ◌++◌, length, replicate}
use Rattle.sx_lang.specs.Sizes.{module_weight, module_data_size}
use Rattle.sx_lang.specs.Tree.{ModuleTree}
use Rattle.sx_mean.specs.declared.events.End.{End}
use Rattle.sx_rules.specs.declared.section.Layout.{Layout}
use Rattle.sx_tag.specs.Mac.{Mac}
use Rattle.sx_image.specs.declared.image.Image.{Image as Built}
use Rattle.sx_image.specs.Image.{Image}
use Rattle.sx_image.specs.InMemory.{plain}
use Rattle.sx_image.specs.Realizes.{Realizes}
use Rattle.sx_ir.specs.declared.ir.Code.{Code}
use Rattle.sx_ir.specs.declared.ir.Ir.{Ir}
use Rattle.sx_lower.specs.Lowered.{handlers_code, handlers_parts}
use Rattle.sx_stub.specs.Stub.{stub_ops}
use Rattle.sx_tmpl.specs.Text.{bytes_of, text_words_of}

-- the operations of the entry protocol, and after them the parts of the handlers
unfoldable pub compiled_ops : ModuleTree → List End → List Ir
compiled_ops tree ends =
    let stub = stub_ops tree ends in
    stub ++ handlers_code tree.decls ends (length stub) tree.handlers

-- where each handler's part is
unfoldable pub compiled_parts : ModuleTree → List End → List (ℕ × ℕ)
compiled_parts tree ends =
    handlers_parts tree.decls ends (length (stub_ops tree ends)) tree.handlers

-- bytes, and after them zeros up to a length
abbrev pub padded_to : ℕ → List ℕ → List ℕ
padded_to n bytes = bytes ++ replicate (n - length bytes) 0

-- the text of this stack code in a section of this layout, with zeros up to the module's weight
unfoldable pub compiled_text : Layout → ModuleTree → List End → List ℕ
compiled_text l tree ends =
    padded_to (module_weight tree (length ends))
    (bytes_of (text_words_of l (compiled_ops tree ends) (compiled_parts tree ends)))

-- a module's image
abbrev pub compiled_image : Layout → ℕ → ModuleTree → List End → Image
compiled_image l provider tree ends =
    record { text = compiled_text l tree ends; layout = l; provider = provider }

-- sections of exactly the module's weight and data size, at even addresses below the end of memory
pub record HasSections (tree : ModuleTree) (ends : List End) (l : Layout) : Type 0 where
  pub public : l.pub_to ≡ l.pub_from + module_weight tree (length ends)
  pub private : l.priv_to ≡ l.priv_from + module_data_size tree (length ends)
  pub public_even : l.pub_from % 2 ≡ 0
  pub private_even : l.priv_from % 2 ≡ 0
  pub public_below : l.pub_to < 65536
  pub private_below : l.priv_to < 65536

-- code in memory that has the module's operations and parts
pub record IsCompiled (tree : ModuleTree) (ends : List End) (code : Code) : Type 0 where
  pub ops : code.ops.items ≡ compiled_ops tree ends
  pub parts : code.parts.items ≡ compiled_parts tree ends

-- an image in memory that is the module's, and so realizes it
pub record CompilesTo (mac : Mac) (tree : ModuleTree) (ends : List End) (l : Layout) (provider : ℕ)
    (image : Built) : Type 0 where
  pub is : plain image ≡ compiled_image l provider tree ends
  pub realizes : Realizes mac tree ends (plain image)
