-- How a run goes on with the line that the program's world performs.
use Rattle.std.specs.Prelude.{◌≡◌, List, [], ◌∷◌, ◌++◌}
use Rattle.sx_trace.specs.declared.items.Item.{Item}
use Rattle.sx_sched.specs.Lines.{Line}
use Rattle.sx_model.specs.Legal.{Legal, before}
use Rattle.sx_model.specs.Consequences.{TellsReader}
use Rattle.sx_model.specs.order.Legal.{LegalInOrder}
use Rattle.sx_model.specs.order.Turns.{OneAtATime}
use Rattle.spec_run.specs.Setting.{Setting}
use Rattle.spec_run.specs.State.{World}
use Rattle.spec_run.specs.Law.{LinesInForm}
use Rattle.sx_world.specs.Held.{Held}
use Rattle.sx_observe.specs.Observing.{AddsFront}
use Rattle.sx_world.specs.Standing.{Stands}
use Rattle.sx_world.specs.Whole.{next, whole_run}

-- Whatever world of a run it is at, it is at the next one, and the line's items were
-- appended.
abbrev pub Acts : Setting → Line → Held → Held → List Item → List Item → Type 0
Acts set line held left old new =
    (w : World) → Stands set held w
    → Stands set left (next set w line).world × (new ≡ old ++ (next set w line).items)

-- Memory ran out: the items that were there before stay, and a prefix of the line's was appended.
abbrev pub ActsInPart : Setting → Line → Held → List Item → List Item → Type 0
ActsInPart set line held old new =
    (w : World) → Stands set held w → AddsFront old new (next set w line).items

-- These lines lead from power-on to where the program's world is.
pub record LeadTo (set : Setting) (lines : List Line) (held : Held) : Type 0 where
  pub formed : LinesInForm set lines
  pub stands : Stands set held (whole_run set lines).world

-- The run of these lines goes on with one more. The world is where the longer run leads, and
-- what the line adds to the run's items was appended. All items of the longer run are legal up to
-- the first that is forged, with what a reader may take from that; each act comes in its order, and
-- a node shows one event at a time.
pub record RunGoesOn (set : Setting) (lines : List Line) (line : Line) (left : Held)
    (old new : List Item) : Type 0 where
  pub stands : Stands set left (whole_run set (lines ++ line ∷ [])).world
  pub added : List Item
  pub appended : new ≡ old ++ added
  pub items : (whole_run set (lines ++ line ∷ [])).items ≡ (whole_run set lines).items ++ added
  pub legal : Legal set.app (before (whole_run set (lines ++ line ∷ [])).items)
  pub tells : TellsReader set.app (before (whole_run set (lines ++ line ∷ [])).items)
  pub order : LegalInOrder set.app (before (whole_run set (lines ++ line ∷ [])).items)
  pub turns : OneAtATime set.app (before (whole_run set (lines ++ line ∷ [])).items)

-- Whatever lines led here, their run goes on, and stays legal.
abbrev pub StaysLegal : Setting → Line → Held → Held → List Item → List Item → Type 0
StaysLegal set line held left old new =
    (lines : List Line) → LeadTo set lines held → RunGoesOn set lines line left old new
