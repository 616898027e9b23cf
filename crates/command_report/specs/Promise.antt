-- What a command that reports on a deployment promises, of its streams at its start (m0) and at its
-- end (m1).
use Rattle.std.specs.Prelude.{ℕ, ◌≤◌, List, [], Result, Ok, Err, ◌+◌, ◌≡◌, Bool, ◌++◌, IsTrue}
use Rattle.std.specs.Prelude.{length}
use Rattle.sx_entries.specs.declared.fault.DeployFault.{DeployFault}
use Rattle.command_promise.specs.declared.status.Status.{Status}
use Rattle.command_promise.specs.Head.{Head, Found, TooLong, NoMark, Unread, head, head_lines}
use Rattle.sx_deploy.specs.Deployment.{Deployed}
use Rattle.command_head.specs.Found.{RunsOutBehindHead}
use Rattle.command_head.specs.Meanings.{Meaning, IsMeaning, input_of}
use Rattle.sx_io.specs.Reading.{Ending, longest, scan}
use Rattle.command_promise.specs.Told.{CommandAt, Told}
use Rattle.command_promise.specs.Further.{HasEnd}
use Rattle.command_report.specs.Output.{Report, report_all}
use Rattle.command_text.specs.Faults.{IsFaultless, TellsFaults}
use Rattle.command_text.specs.Ended.{CameToItsEnd}

-- the text means a deployment
abbrev pub IsAcceptedDeployment : Result Deployed DeployFault → Type 0
IsAcceptedDeployment (Ok d) = Unit {0}
IsAcceptedDeployment (Err f) = ⊥

-- a deployment that keeps the rules comes before a line `%%`
abbrev pub IsGoodHead : Meaning → Head → Type 0
IsGoodHead meaning (Found text more) = IsAcceptedDeployment (meaning text)
IsGoodHead meaning TooLong = ⊥
IsGoodHead meaning NoMark = ⊥
IsGoodHead meaning Unread = ⊥

-- these bytes are a head of this text, and the line `%%` after it with its newline
abbrev pub IsHead : List ℕ → List ℕ → Type 0
IsHead bytes text =
    HasEnd bytes
    × ((e : Ending) (more : List ℕ)
    → head (scan head_lines e [] (bytes ++ more)) ≡ Found text (scan head_lines e [] more))

-- The command, whatever a deployment's text is said to mean. At most 4,096 bytes after the line `%%`
-- are taken.
pub record ReportPromise (report : Report) (tells to_tell : Bool) (m0 m1 : CommandAt)
    (status : Status) : Type 0 where
  pub told : (meaning : Meaning) → IsMeaning meaning
      → Told tells to_tell head_lines m0 m1 status (report_all report meaning)
      (RunsOutBehindHead status)
  pub no_further : (bytes rest text : List ℕ) → IsTrue tells → m0.source.rest ≡ bytes ++ rest
      → IsHead bytes text
      → length rest ≤ longest + length m1.source.rest
  pub faults : TellsFaults m0 m1 status
  pub complete : (meaning : Meaning) → IsMeaning meaning → IsTrue tells
      → IsGoodHead meaning (head (input_of m0)) → IsFaultless m0 m1
      → CameToItsEnd to_tell m0 m1 status (report_all report meaning (input_of m0))
