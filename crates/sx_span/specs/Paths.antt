-- The paths through a handler.
use Rattle.std.specs.Prelude.{◌≡◌, ℕ, zero, suc, ◌+◌, ◌-◌, List, [], ◌∷◌, ◌++◌, Option, Some, None}
use Rattle.std.specs.Prelude.{true, false}
use Rattle.std.specs.Prelude.{◌==◌, nat_lt, if◌then◌else◌, length, take, map, min, slice_set}
use Rattle.std.specs.List.{flat_map, position_or_len}
use Rattle.sx_lang.specs.declared.tree.Decl.{Decl}
use Rattle.sx_lang.specs.Tree.{Statement, Defines, Assigns, Stores, Chooses, Repeats, Sends, Emits}
use Rattle.sx_lang.specs.Tree.{Block, Done, Then, HandlerTree, ModuleTree}
use Rattle.sx_check.specs.Names.{same}
use Rattle.sx_mean.specs.declared.events.SourceEvent.{SourceEvent}
use Rattle.sx_mean.specs.declared.events.SourceEvent.TheVariants as event
use Rattle.sx_mean.specs.Places.{place, array_length, output_number}
use Rattle.sx_mean.specs.React.{handler_of_input, handler_of_name, input_names, nth}
pub use Rattle.sx_span.specs.declared.pieces.EventRange.{EventRange}
pub use Rattle.sx_span.specs.declared.pieces.EventRange.TheVariants.{InputIn, SampleIn}
use Rattle.sx_span.specs.Intervals.{Interval, Lies, hull}
use Rattle.sx_span.specs.Narrow.{narrow}
use Rattle.sx_span.specs.Ranges.{ActRange, SendIn, EmitIn, LocalRange, Path, range_of}

-- the place of a local
abbrev pub range_place : List LocalRange → List ℕ → ℕ
range_place ls x = position_or_len (λ l. same x l.name) ls

-- a local with its interval
abbrev pub new_range : List ℕ → Interval → LocalRange
new_range x i = record { name = x; range = i }

-- the path with one more local
abbrev pub define_range : List ℕ → Interval → Path → Path
define_range x i p = record p { locals = p.locals ++ new_range x i ∷ [] }

-- the path with a new interval of a local, or else of a variable
abbrev pub assign_range : List Decl → List ℕ → Interval → Path → Path
assign_range ds x i p =
    if nat_lt (range_place p.locals x) (length p.locals)
    then record p { locals = slice_set p.locals (range_place p.locals x) (new_range x i) }
    else record p { cells = slice_set p.cells (place ds x) i }

-- n cells from a place on may have a new value, in i
abbrev pub widened : List Interval → ℕ → ℕ → Interval → List Interval
widened [] k n i = []
widened (b ∷ bs) zero zero i = b ∷ bs
widened (b ∷ bs) zero (suc n) i = hull b i ∷ widened bs zero n i
widened (b ∷ bs) (suc k) n i = b ∷ widened bs k n i

-- the path with a new interval of an element, or where several are meant, of each of them
abbrev pub assign_element_range : List Decl → List ℕ → Interval → Interval → Path → Path
assign_element_range ds x j i p =
    if nat_lt j.low (array_length ds x) then
    if j.low == j.high then record p { cells = slice_set p.cells (place ds x + j.low) i }
    else record p {
      cells = widened p.cells (place ds x + j.low)
          (min (j.high + 1) (array_length ds x) - j.low) i;
    }
    else p

-- the path with one more act
abbrev pub act_range : ActRange → Path → Path
act_range a p = record p { acts = p.acts ++ a ∷ [] }

-- the path without the locals of a block that ended
abbrev pub forget_range : ℕ → Path → Path
forget_range n p = record p { locals = take n p.locals }

-- paths without the locals that a path before them didn't have
abbrev pub forgotten : Path → List Path → List Path
forgotten p qs = map (forget_range (length p.locals)) qs

-- where a test is known it has one way, otherwise both
abbrev pub ways : Interval → List Path → List Path → List Path
ways i taken left = if i.high == 0 then left else if nat_lt 0 i.low then taken else taken ++ left

-- the paths after so many turns
abbrev pub turns : ℕ → (Path → List Path) → Path → List Path
turns zero f p = p ∷ []
turns (suc n) f p = flat_map (turns n f) (f p)

-- the paths after a statement and after a block
abbrev mutual
  pub paths_after_statement : List Decl → Statement → Path → List Path
  paths_after_statement ds (Defines x e) p = define_range x (range_of ds p e) p ∷ []
  paths_after_statement ds (Assigns x e) p = assign_range ds x (range_of ds p e) p ∷ []
  paths_after_statement ds (Stores x j e) p =
      assign_element_range ds x (range_of ds p j) (range_of ds p e) p ∷ []
  paths_after_statement ds (Chooses e a b) p = ways (range_of ds p e)
      (flat_map (λ q. forgotten q (paths_after_block ds a q)) (narrow ds e true p))
      (flat_map (λ q. forgotten q (paths_after_block ds b q)) (narrow ds e false p))
  paths_after_statement ds (Repeats n a) p =
      turns n (λ q. forgotten q (paths_after_block ds a q)) p
  paths_after_statement ds (Sends x e) p =
      act_range (SendIn (output_number ds x) (range_of ds p e)) p ∷ []
  paths_after_statement ds (Emits e) p = act_range (EmitIn (range_of ds p e)) p ∷ []

  pub paths_after_block : List Decl → Block → Path → List Path
  paths_after_block ds Done p = p ∷ []
  paths_after_block ds (Then s b) p =
      flat_map (λ q. paths_after_block ds b q) (paths_after_statement ds s p)

-- the paths after a block, without its locals
abbrev pub inner_paths : List Decl → Block → Path → List Path
inner_paths ds b p = forgotten p (paths_after_block ds b p)

-- an event is as it is known
abbrev pub EventLies : SourceEvent → EventRange → Type 0
EventLies (event.Input j v) (InputIn k i) = (j ≡ k) × Lies v i
EventLies (event.Sample v) (SampleIn i) = Lies v i
EventLies _ _ = ⊥

-- the handler of an event
abbrev pub handler_in : ModuleTree → EventRange → Option HandlerTree
handler_in m (InputIn j i) = handler_of_name (nth (input_names m.decls) j) m.handlers
handler_in m (SampleIn i) = handler_of_input None m.handlers

-- where the event's value lies
abbrev pub value_in : EventRange → Interval
value_in (InputIn j i) = i
value_in (SampleIn i) = i

-- where a handler begins
abbrev pub start_range : HandlerTree → Interval → List Interval → Path
start_range h i box = record { locals = new_range h.param i ∷ []; cells = box; acts = [] }

-- the paths through a handler, and one path where there is none
abbrev pub paths_of : List Decl → Option HandlerTree → Interval → List Interval → List Path
paths_of ds None i box = record { locals = []; cells = box; acts = [] } ∷ []
paths_of ds (Some h) i box = forgotten (start_range h i box)
    (paths_after_block ds h.body (start_range h i box))

-- the paths of a module at an event, its cells in a box
abbrev pub react_within : ModuleTree → EventRange → List Interval → List Path
react_within m e box = paths_of m.decls (handler_in m e) (value_in e) box
