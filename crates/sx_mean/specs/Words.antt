-- Values, cells and acts are 16-bit words where the source's numbers are, and a module keeps its
-- number of cells.
use Rattle.std.specs.Prelude.{◌≡◌, ℕ, List, All, length}
use Rattle.sx_lang.specs.declared.tree.Decl.{Decl}
use Rattle.sx_lang.specs.Sizes.{declared_cells}
use Rattle.sx_lang.specs.Tree.{Expression, ModuleTree}
use Rattle.sx_lang.specs.Words.{AreWords, DeclsHaveWords, IsWord, TreeHasWords}
use Rattle.sx_mean.specs.declared.events.Act.{Act}
use Rattle.sx_mean.specs.declared.events.Act.TheVariants.{Send, Emit}
use Rattle.sx_mean.specs.declared.events.SourceEvent.{SourceEvent}
use Rattle.sx_mean.specs.declared.moments.Local.{Local}
use Rattle.sx_mean.specs.Meaning.{HandlerState, value}
use Rattle.sx_mean.specs.Places.{initial_cells}
use Rattle.sx_mean.specs.React.{react, value_of}

-- a local's value is a word
abbrev pub IsLocalWord : Local → Type 0
IsLocalWord l = IsWord l.value

-- what an act sends or emits is a word
abbrev pub ActsOnWord : Act → Type 0
ActsOnWord (Send output v) = IsWord v
ActsOnWord (Emit v) = IsWord v

-- each local, cell and act has a word
pub record StateHasWords (st : HandlerState) : Type 0 where
  pub locals : All IsLocalWord st.locals
  pub cells : All IsWord st.cells
  pub acts : All ActsOnWord st.acts

-- what an expression is worth is a word
abbrev pub ValuesAreWords : Type 0
ValuesAreWords = (ds : List Decl) (st : HandlerState) (e : Expression) → StateHasWords st
    → AreWords e → IsWord (value ds st e)

-- as many cells as are declared, each a word
pub record AreCells (ds : List Decl) (cells : List ℕ) : Type 0 where
  pub count : length cells ≡ declared_cells ds
  pub words : All IsWord cells

-- the first values of cells are words, one for each cell
abbrev pub CellsBegin : Type 0
CellsBegin = (ds : List Decl) → DeclsHaveWords ds → AreCells ds (initial_cells ds)

-- what a reaction leaves
pub record ReactsInWords (m : ModuleTree) (e : SourceEvent) (cells : List ℕ) : Type 0 where
  pub cells_stay : AreCells m.decls (react m e cells).cells
  pub acts : All ActsOnWord (react m e cells).acts

-- a reaction to a word leaves words in the cells and acts on words
abbrev pub ReactionsKeepWords : Type 0
ReactionsKeepWords = (m : ModuleTree) (e : SourceEvent) (cells : List ℕ) → TreeHasWords m
    → IsWord (value_of e) → AreCells m.decls cells → ReactsInWords m e cells
