-- What holds of the runs of an accepted deployment, from its text on.
use Rattle.std.specs.Prelude.{ℕ, ◌≤◌, List, [], ◌∷◌, length, Ok, All}
use Rattle.sx_tag.specs.Mac.{Mac, IsTag}
use Rattle.sx_trace.specs.Names.{NameLists}
use Rattle.sx_sched.specs.Lines.{Line}
use Rattle.sx_sched.specs.InForm.{IsLine}
use Rattle.sx_deploy.specs.Deployment.{Deployed, IsRead}
use Rattle.sx_mean.specs.Application.{AppTree}
use Rattle.sx_trace.specs.declared.items.Item.{Item}
use Rattle.sx_model.specs.Legal.{Legal, before}
use Rattle.sx_model.specs.order.Legal.{LegalInOrder}
use Rattle.sx_model.specs.order.Turns.{OneAtATime}
use Rattle.sx_model.specs.order.Given.{IsGiven}
use Rattle.sx_explain.specs.Sending.{TakenBehind}
use Rattle.sx_explain.specs.Finished.{EventsAreFinished}
use Rattle.spec_run.specs.State.{switched_on}
use Rattle.spec_run.specs.Run.{run}
use Rattle.spec_run.specs.Accepted.{setting_of, AreImages}

-- lines that are in form for the deployment's names
abbrev pub AreLines : NameLists → List Line → Type 0
AreLines names [] = Unit {0}
AreLines names (line ∷ lines) = IsLine names line × AreLines names lines

-- From text to trace: for every text that is accepted, every lawful tag, all images that realize
-- its modules and every schedule of at most 65,536 lines, the items before the first forged one are
-- a legal run of the source.
abbrev pub AcceptedRunsLegal : Type 0
AcceptedRunsLegal = (text : List ℕ) (d : Deployed) → IsRead text (Ok d)
    → (mac : Mac) (texts : List (List ℕ)) → IsTag mac → AreImages mac d texts
    → (lines : List Line) → length lines ≤ 65536 → AreLines d.names lines
    → Legal d.app (before (run (setting_of mac d texts) (switched_on (setting_of mac d texts))
    lines).items)

-- What else is so of these items.
abbrev pub OfAcceptedRuns : (AppTree → List Item → Type 0) → Type 0
OfAcceptedRuns Holds = (text : List ℕ) (d : Deployed) → IsRead text (Ok d)
    → (mac : Mac) (texts : List (List ℕ)) → IsTag mac → AreImages mac d texts
    → (lines : List Line) → length lines ≤ 65536 → AreLines d.names lines
    → Holds d.app (before (run (setting_of mac d texts) (switched_on (setting_of mac d texts))
    lines).items)

-- each act comes in the order in which its handler does it
abbrev pub AcceptedRunsInOrder : Type 0
AcceptedRunsInOrder = OfAcceptedRuns LegalInOrder

-- a node shows one event at a time
abbrev pub AcceptedRunsTakeTurns : Type 0
AcceptedRunsTakeTurns = OfAcceptedRuns OneAtATime

-- what is given from outside, and what is written, is in range
abbrev pub AcceptedRunsAreGiven : Type 0
AcceptedRunsAreGiven = OfAcceptedRuns (λ app items. All IsGiven items)

-- each event is finished before its node shows anything else
abbrev pub AcceptedRunsFinish : Type 0
AcceptedRunsFinish = OfAcceptedRuns EventsAreFinished

-- what a handler emits before it sends was put out before the word is taken
abbrev pub AcceptedRunsTakeBehind : Type 0
AcceptedRunsTakeBehind = OfAcceptedRuns TakenBehind
