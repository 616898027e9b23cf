-- What is known of a handler's state: an interval for each local, cell and act; and what that tells
-- of an expression.
use Rattle.std.specs.Prelude.{◌≡◌, ℕ, zero, suc, ◌+◌, ◌-◌, List, [], ◌∷◌, Option, Some, None}
use Rattle.std.specs.Prelude.{nat_lt, if◌then◌else◌, slice_index_or, unwrap_or}
use Rattle.std.specs.List.{AllZip}
use Rattle.sx_lang.specs.declared.tree.Decl.{Decl}
use Rattle.sx_lang.specs.Tree.{Expression, Constant, Variable, Indexed, Applied, Combined}
use Rattle.sx_check.specs.Names.{same}
use Rattle.sx_mean.specs.declared.events.Act.{Act}
use Rattle.sx_mean.specs.declared.events.Act.TheVariants.{Send, Emit}
use Rattle.sx_mean.specs.declared.moments.Local.{Local}
use Rattle.sx_mean.specs.Meaning.{HandlerState}
use Rattle.sx_mean.specs.Places.{place, array_length}
pub use Rattle.sx_span.specs.declared.pieces.LocalRange.{LocalRange}
pub use Rattle.sx_span.specs.declared.pieces.ActRange.{ActRange}
pub use Rattle.sx_span.specs.declared.pieces.ActRange.TheVariants.{SendIn, EmitIn}
use Rattle.sx_span.specs.Intervals.{Interval, Lies, hull, only}
use Rattle.sx_span.specs.Operators.{apply_range, combine_range}

-- a path through a handler: what is known where it is
pub record Path : Type 0 where
  pub locals : List LocalRange
  pub cells : List Interval
  pub acts : List ActRange

-- a local as it is known
abbrev pub LocalLies : Local → LocalRange → Type 0
LocalLies l r = (l.name ≡ r.name) × Lies l.value r.range

-- the same act, with a value in the interval
abbrev pub ActLies : Act → ActRange → Type 0
ActLies (Send o v) (SendIn p i) = (o ≡ p) × Lies v i
ActLies (Emit v) (EmitIn i) = Lies v i
ActLies _ _ = ⊥

-- a state is as a path knows it: one by one
pub record Follows (st : HandlerState) (p : Path) : Type 0 where
  pub locals : AllZip LocalLies st.locals p.locals
  pub cells : AllZip Lies st.cells p.cells
  pub acts : AllZip ActLies st.acts p.acts

-- the interval of a local, if there is one of this name
abbrev pub look_up_range : List LocalRange → List ℕ → Option Interval
look_up_range [] x = None
look_up_range (l ∷ ls) x = if same x l.name then Some l.range else look_up_range ls x

-- the interval of the cell at a place
abbrev pub cell_range : List Interval → ℕ → Interval
cell_range box i = slice_index_or box i (only 0)

-- the interval of a name
abbrev pub word_range : List Decl → Path → List ℕ → Interval
word_range ds p x = unwrap_or (look_up_range p.locals x) (cell_range p.cells (place ds x))

-- the hull of k + 1 cells, from a place on
abbrev pub spread : List Interval → ℕ → ℕ → Interval
spread box i zero = cell_range box i
spread box i (suc k) = hull (cell_range box i) (spread box (i + 1) k)

-- the interval of an array's element, for an index in an interval; past the array's end it is 0
abbrev pub element_range : List Decl → Path → List ℕ → Interval → Interval
element_range ds p x i =
    if nat_lt i.high (array_length ds x) then spread p.cells (place ds x + i.low) (i.high - i.low)
    else if nat_lt i.low (array_length ds x) then
    hull (only 0) (spread p.cells (place ds x + i.low) (array_length ds x - (i.low + 1)))
    else only 0

-- the interval of an expression
abbrev pub range_of : List Decl → Path → Expression → Interval
range_of ds p (Constant n) = only n
range_of ds p (Variable x) = word_range ds p x
range_of ds p (Indexed x e) = element_range ds p x (range_of ds p e)
range_of ds p (Applied op e) = apply_range op (range_of ds p e)
range_of ds p (Combined op a b) = combine_range op (range_of ds p a) (range_of ds p b)
