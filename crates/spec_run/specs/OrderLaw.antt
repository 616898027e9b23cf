-- What more holds of every run: its acts come in the order of their handlers, and its nodes show one
-- event at a time.
use Rattle.std.specs.Prelude.{All}
use Rattle.sx_model.specs.order.Legal.{LegalInOrder}
use Rattle.sx_model.specs.order.Turns.{OneAtATime}
use Rattle.sx_model.specs.order.Given.{IsGiven}
use Rattle.sx_explain.specs.Sending.{TakenBehind}
use Rattle.sx_explain.specs.Finished.{EventsAreFinished}
use Rattle.spec_run.specs.Law.{OfRuns}

-- each act comes in the order in which its handler does it
abbrev pub RunsInOrder : Type 0
RunsInOrder = OfRuns LegalInOrder

-- a node shows one event at a time
abbrev pub RunsTakeTurns : Type 0
RunsTakeTurns = OfRuns OneAtATime

-- what is given from outside, and what is written, is in range
abbrev pub RunsAreGiven : Type 0
RunsAreGiven = OfRuns (λ app items. All IsGiven items)

-- each event is finished before its node shows anything else
abbrev pub RunsFinish : Type 0
RunsFinish = OfRuns EventsAreFinished

-- what a handler emits before it sends was put out before the word is taken
abbrev pub RunsTakeBehind : Type 0
RunsTakeBehind = OfRuns TakenBehind
