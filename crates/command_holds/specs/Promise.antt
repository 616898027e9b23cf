-- What the command `holds` promises, of its streams at its start (m0) and at its end (m1).
use Rattle.std.specs.Prelude.{◌≡◌, Bool, List, Result, Ok, Err, IsTrue}
use Rattle.sx_io.specs.Reading.{Answer}
use Rattle.command_promise.specs.declared.status.Status.{Status}
use Rattle.command_promise.specs.declared.status.Status.TheVariants.{Done, OutOfMemory}
use Rattle.command_promise.specs.Told.{CommandAt, Told}
use Rattle.sx_entries.specs.declared.fault.DeployFault.{DeployFault}
use Rattle.command_promise.specs.Head.{Head, Found, head, head_lines}
use Rattle.sx_deploy.specs.Deployment.{Deployed}
use Rattle.sx_watch.specs.declared.reading.PropertyFault.{PropertyFault}
use Rattle.sx_watch.specs.Watched.{PropertyTree}
use Rattle.law_never.specs.Never.{IsNeverBroken}
use Rattle.command_text.specs.Faults.{IsFaultless, TellsFaults}
use Rattle.command_head.specs.Found.{IsFound}
use Rattle.command_head.specs.Meanings.{input_of}
use Rattle.command_holds.specs.Output.{AreMeanings, Decision, Meanings, holds_all}

-- it is a property that no run of the deployment breaks, whatever its schedule, before the first
-- forged item
abbrev pub NeverProperty : Deployed → Result PropertyTree PropertyFault → Type 0
NeverProperty d (Ok p) = IsNeverBroken d.app p
NeverProperty d (Err f) = ⊥

-- after a deployment
abbrev pub NeverSecond : Meanings → Deployed → Head → Type 0
NeverSecond means d (Found text more) = NeverProperty d (means.property d.names d.app text)
NeverSecond means d _ = ⊥

abbrev pub NeverFound : Meanings → Result Deployed DeployFault → List Answer → Type 0
NeverFound means (Ok d) more = NeverSecond means d (head more)
NeverFound means (Err f) more = ⊥

-- in an input with this head
abbrev pub NeverBehind : Meanings → Head → Type 0
NeverBehind means (Found text more) = NeverFound means (means.deployment text) more
NeverBehind means _ = ⊥

-- Memory runs out only if there is a head. Status 0 says that the property is never broken.
pub record SaysOf (means : Meanings) (status : Status) (answers : List Answer) : Type 0 where
  pub memory : status ≡ OutOfMemory → IsFound (head answers)
  pub never : status ≡ Done → NeverBehind means (head answers)

-- The command `holds`, whatever texts are said to mean. What was written is what is defined for the
-- lines that were taken and for what was decided; and whatever comes after these lines, status 0
-- says that the property that they hold is never broken (`told`). So it is of the whole input
-- (`never`).
pub record HoldsPromise (tells to_tell : Bool) (m0 m1 : CommandAt) (status : Status) : Type 0 where
  pub decision : Decision
  pub told : (means : Meanings) → AreMeanings means
      → Told tells to_tell head_lines m0 m1 status (holds_all means decision) (SaysOf means status)
  pub never : (means : Meanings) → AreMeanings means → IsTrue tells → IsFaultless m0 m1
      → status ≡ Done → NeverBehind means (head (input_of m0))
  pub faults : TellsFaults m0 m1 status
