-- What `holds` writes, part by part. Nobody has to believe this file: it is for contracts of functions
-- that aren't public.
use Rattle.std.specs.Prelude.{List, Result}
use Rattle.sx_io.specs.Reading.{Answer}
use Rattle.command_promise.specs.Told.{Output}
use Rattle.command_promise.specs.Head.{Head, head}
use Rattle.sx_entries.specs.declared.fault.DeployFault.{DeployFault}
use Rattle.sx_deploy.specs.Deployment.{Deployed}
use Rattle.sx_watch.specs.declared.reading.PropertyFault.{PropertyFault}
use Rattle.sx_watch.specs.Watched.{PropertyTree}
use Rattle.command_property.specs.Input.{of_deployment, of_first, of_property, of_second}
use Rattle.command_holds.specs.Output.{Decision, Meanings, decided_output}

-- of a property, or its fault
abbrev pub holds_property : Decision → Result PropertyTree PropertyFault → Output
holds_property decision r = of_property (λ p. decided_output decision) r

-- of the head after a deployment
abbrev pub holds_second : Meanings → Decision → Deployed → Head → Output
holds_second means decision d h =
    of_second (λ text more. holds_property decision (means.property d.names d.app text)) h

-- of a deployment, or the rule that it breaks
abbrev pub holds_found : Meanings → Decision → Result Deployed DeployFault → List Answer → Output
holds_found means decision r more =
    of_deployment (λ d. holds_second means decision d (head more)) r

-- of an input's head
abbrev pub holds_head : Meanings → Decision → Head → Output
holds_head means decision h =
    of_first (λ text more. holds_found means decision (means.deployment text) more) h
