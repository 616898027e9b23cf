-- What is computed of intervals holds of each value in them.
use Rattle.std.specs.Prelude.{◌⊎◌, ◌≤◌, ℕ, List, [], ◌∷◌, All}
use Rattle.std.specs.List.{AllZip}
use Rattle.sx_lang.specs.declared.tree.Decl.{Decl}
use Rattle.sx_lang.specs.Tree.{Expression, ModuleTree}
use Rattle.sx_mean.specs.declared.events.SourceEvent.{SourceEvent}
use Rattle.sx_mean.specs.Meaning.{HandlerState, value}
use Rattle.sx_mean.specs.React.{react}
use Rattle.sx_span.specs.Intervals.{Interval, Lies}
use Rattle.sx_span.specs.Ranges.{Follows, Path, range_of}
use Rattle.sx_span.specs.Paths.{EventLies, EventRange, react_within}

-- a state is as one of the paths knows it
abbrev pub FollowsOne : HandlerState → List Path → Type 0
FollowsOne st [] = ⊥
FollowsOne st (p ∷ ps) = Follows st p ⊎ FollowsOne st ps

-- an expression's value lies in its interval
abbrev pub RangesHold : Type 0
RangesHold = (ds : List Decl) (st : HandlerState) (p : Path) (e : Expression) → Follows st p
    → Lies (value ds st e) (range_of ds p e)

-- whatever the event and the cells are, if they lie there: what the module does follows a path
abbrev pub EachFollows : ModuleTree → EventRange → List Interval → List Path → Type 0
EachFollows m r box paths = (e : SourceEvent) (cells : List ℕ) → EventLies e r
    → AllZip Lies cells box → FollowsOne (react m e cells) paths

-- what a module does at an event follows one of the paths
abbrev pub ReactSound : Type 0
ReactSound = (m : ModuleTree) (r : EventRange) (box : List Interval)
    → EachFollows m r box (react_within m r box)

-- an interval lies in another
pub record IsIn (i j : Interval) : Type 0 where
  pub low : j.low ≤ i.low
  pub high : i.high ≤ j.high

-- what lies in a box lies in a box around it
abbrev pub BoxesWiden : Type 0
BoxesWiden = (cells : List ℕ) (small large : List Interval) → AllZip Lies cells small
    → AllZip IsIn small large → AllZip Lies cells large

-- where each path's cells lie in a box, those of a state that follows one do
abbrev pub BoxKept : Type 0
BoxKept = (st : HandlerState) (paths : List Path) (box : List Interval) → FollowsOne st paths
    → All (λ (p : Path). AllZip IsIn p.cells box) paths → AllZip Lies st.cells box
