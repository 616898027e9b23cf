-- What a deployment's text means, and the lines of a whole input.
use Rattle.std.specs.Prelude.{ℕ, List, [], Result}
use Rattle.sx_entries.specs.declared.fault.DeployFault.{DeployFault}
use Rattle.sx_deploy.specs.Deployment.{Deployed, IsRead}
use Rattle.sx_io.specs.Reading.{Answer, Ended, scan}
use Rattle.command_promise.specs.Told.{CommandAt}
use Rattle.command_promise.specs.Head.{head_lines}

-- what a deployment's text means
abbrev pub Meaning : Type 0
Meaning = List ℕ → Result Deployed DeployFault

-- it is the deployment of the text, or the first rule that the text breaks; no text has two such
-- meanings
abbrev pub IsMeaning : Meaning → Type 0
IsMeaning meaning = (text : List ℕ) → IsRead text (meaning text)

-- the answers of all lines of the input, as it was at the start
abbrev pub input_of : CommandAt → List Answer
input_of m0 = scan head_lines Ended [] m0.source.rest
