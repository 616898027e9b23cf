-- What the command `watch` promises, of its streams at its start (m0) and at its end (m1).
use Rattle.std.specs.Prelude.{◌≡◌, ◌≢◌, Bool, List, [], IsTrue}
use Rattle.sx_io.specs.Reading.{Answer, Ended, scan}
use Rattle.command_promise.specs.declared.status.Status.{Status}
use Rattle.command_promise.specs.declared.status.Status.TheVariants.{Done, ReadFailed, WriteFailed, OutOfMemory}
use Rattle.command_promise.specs.Told.{CommandAt, Told}
use Rattle.command_promise.specs.Further.{Streams}
use Rattle.command_text.specs.Faults.{TellsFaults}
use Rattle.command_head.specs.Found.{RunsOutBehindHead}
use Rattle.command_explain.specs.Promise.{EndsAs}
use Rattle.command_watch.specs.Meant.{Meanings, AreMeanings}
use Rattle.command_watch.specs.Output.{watch_all, watch_lines}

-- the answers of all lines of the input, as it was at the start
abbrev pub input_of : CommandAt → List Answer
input_of m0 = scan watch_lines Ended [] m0.source.rest

-- The command `watch`, whatever texts and lines are said to mean. What was written is what is
-- defined for the lines that were taken, and nothing was read once the line was whole at which it
-- ended (`told`); no more was taken than must be (`streams`). Unless the status says that a read or
-- a write failed, all is as it is defined for the whole input, or memory ran out (`exact`); so the
-- item that is printed as the first that breaks the property is that of the whole input. Status 0
-- says that the input was read to its end (`read_all`). Where memory ran out, nothing was written
-- (`memory`).
pub record WatchPromise (tells to_tell : Bool) (m0 m1 : CommandAt) (status : Status) : Type 0 where
  pub told : (means : Meanings) → AreMeanings means
      → Told tells to_tell watch_lines m0 m1 status (watch_all means) (RunsOutBehindHead status)
  pub streams : (means : Meanings) → AreMeanings means
      → Streams tells to_tell watch_lines m0 m1 (watch_all means)
  pub faults : TellsFaults m0 m1 status
  pub read_all : status ≡ Done → IsTrue tells → m1.source.rest ≡ []
  pub exact : (means : Meanings) → AreMeanings means → IsTrue tells → status ≢ ReadFailed
      → status ≢ WriteFailed → EndsAs to_tell m0 m1 status (watch_all means (input_of m0))
  pub memory : status ≡ OutOfMemory → m1.sink ≡ m0.sink
