-- What the command `explain` promises, of its streams at its start (m0) and at its end (m1).
use Rattle.std.specs.Prelude.{◌≡◌, ◌⊎◌, ℕ, ◌++◌, Bool, List, [], Option, Result, Ok, Err, IsTrue}
use Rattle.sx_io.specs.Reading.{Answer, Ended, scan}
use Rattle.command_promise.specs.declared.status.Status.{Status}
use Rattle.command_promise.specs.declared.status.Status.TheVariants.{Done, OutOfMemory}
use Rattle.command_promise.specs.Told.{CommandAt, Output, Told}
use Rattle.command_promise.specs.Further.{Streams}
use Rattle.sx_entries.specs.declared.fault.DeployFault.{DeployFault}
use Rattle.command_promise.specs.Head.{Head, Found, TooLong, NoMark, Unread, head}
use Rattle.sx_trace.specs.declared.items.Item.{Item}
use Rattle.sx_mean.specs.Application.{AppTree}
use Rattle.sx_model.specs.Legal.{Legal, before}
use Rattle.sx_deploy.specs.Deployment.{Deployed, IsRead}
use Rattle.sx_explain.specs.Causes.{HasCauses}
use Rattle.command_text.specs.Faults.{IsFaultless, TellsFaults}
use Rattle.command_text.specs.Ended.{CameToItsEnd}
use Rattle.command_head.specs.Found.{RunsOutBehindHead}
use Rattle.command_head.specs.Wanting.{RanOutAt}
use Rattle.command_explain.specs.Meant.{Meanings, AreMeanings}
use Rattle.command_explain.specs.Output.{explain_all}
use Rattle.command_explain.specs.Trace.{Start, Behind, Missing, Whole, explain_lines, start}
use Rattle.command_explain.specs.Trace.{trace}
use Rattle.command_explain.specs.Wants.{explain_may}

-- a whole trace, whose items before the first that is forged are legal
abbrev pub IsLegalTrace : AppTree → (List ℕ → Option Item) → Start → Type 0
IsLegalTrace app item (Behind more) =
    ((trace item 1 more).stop ≡ Whole) × Legal app (before (trace item 1 more).items)
IsLegalTrace app item (Missing stop) = ⊥

-- after a deployment that keeps the rules
abbrev pub IsLegalOf : Meanings → Result Deployed DeployFault → List Answer → Type 0
IsLegalOf means (Ok d) more = IsLegalTrace d.app (means.item d.names) (start 1 more)
IsLegalOf means (Err f) more = ⊥

abbrev pub IsLegalInput : Meanings → Head → Type 0
IsLegalInput means (Found text more) = IsLegalOf means (means.deployment text) more
IsLegalInput means TooLong = ⊥
IsLegalInput means NoMark = ⊥
IsLegalInput means Unread = ⊥

-- the answers of all lines of the input, as it was at the start
abbrev pub input_of : CommandAt → List Answer
input_of m0 = scan explain_lines Ended [] m0.source.rest

-- the status is the one that is defined, and all that is defined was written, or memory ran out
abbrev pub EndsAs : Bool → CommandAt → CommandAt → Status → Output → Type 0
EndsAs to_tell m0 m1 status o = (status ≡ OutOfMemory)
    ⊎ ((status ≡ o.status) × (IsTrue to_tell → m1.sink.written ≡ m0.sink.written ++ o.text))

-- The command `explain`, whatever texts of deployments and lines of traces are said to mean. What
-- was written is what is defined for the lines that were taken, and nothing was read once the line
-- was whole at which it ended (`told`); no more was taken than must be (`streams`). If no read
-- and no write failed, all is as it is defined for the whole input (`exact`). Status 0 says that
-- the input was read to its end (`read_all`), and that its trace is whole, and legal up to the
-- first item that is forged (`legal`); and it comes for each such input (`complete`). What a legal
-- trace of a deployment rests on follows (`causes`). If memory ran out, no line after the head
-- was given, or the last that was given is one at which it may (`memory`).
pub record ExplainPromise (tells to_tell : Bool) (m0 m1 : CommandAt)
    (status : Status) : Type 0 where
  pub told : (means : Meanings) → AreMeanings means
      → Told tells to_tell explain_lines m0 m1 status (explain_all means) (RunsOutBehindHead status)
  pub streams : (means : Meanings) → AreMeanings means
      → Streams tells to_tell explain_lines m0 m1 (explain_all means)
  pub faults : TellsFaults m0 m1 status
  pub read_all : status ≡ Done → IsTrue tells → m1.source.rest ≡ []
  pub exact : (means : Meanings) → AreMeanings means → IsTrue tells → IsFaultless m0 m1
      → EndsAs to_tell m0 m1 status (explain_all means (input_of m0))
  pub legal : (means : Meanings) → AreMeanings means → IsTrue tells → status ≡ Done
      → IsLegalInput means (head (input_of m0))
  pub complete : (means : Meanings) → AreMeanings means → IsTrue tells
      → IsLegalInput means (head (input_of m0)) → IsFaultless m0 m1
      → CameToItsEnd to_tell m0 m1 status (explain_all means (input_of m0))
  pub memory : (means : Meanings) → AreMeanings means → status ≡ OutOfMemory
      → RanOutAt explain_lines (explain_may means) tells m0 m1
  pub causes : (text : List ℕ) (d : Deployed) → IsRead text (Ok d) → (items : List Item)
      → Legal d.app items → HasCauses d.app items
