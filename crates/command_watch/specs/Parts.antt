-- What `watch` writes, part by part. Nobody has to believe this file: it is for contracts of functions
-- that aren't public.
use Rattle.std.specs.Prelude.{ℕ, List, Option, Result}
use Rattle.sx_io.specs.Reading.{Answer}
use Rattle.command_promise.specs.Told.{Output}
use Rattle.command_promise.specs.Head.{Head, head}
use Rattle.sx_entries.specs.declared.fault.DeployFault.{DeployFault}
use Rattle.sx_trace.specs.declared.items.Item.{Item}
use Rattle.sx_deploy.specs.Deployment.{Deployed}
use Rattle.sx_watch.specs.declared.reading.PropertyFault.{PropertyFault}
use Rattle.sx_watch.specs.Watched.{PropertyTree}
use Rattle.command_property.specs.Input.{of_deployment, of_first, of_property, of_second}
use Rattle.command_explain.specs.Trace.{start}
use Rattle.command_watch.specs.Meant.{Meanings}
use Rattle.command_watch.specs.Output.{watch_start}

-- of a property, or its fault
abbrev pub watch_judged : (List ℕ → Option Item) → Result PropertyTree PropertyFault → List Answer
    → Output
watch_judged item r more = of_property (λ p. watch_start p item (start 1 more)) r

-- of the head after a deployment
abbrev pub watch_property : Meanings → Deployed → Head → Output
watch_property means d h = of_second (λ text more.
    watch_judged (means.trace.item d.names) (means.property d.names d.app text) more) h

-- of a deployment, or the rule that it breaks
abbrev pub watch_found : Meanings → Result Deployed DeployFault → List Answer → Output
watch_found means r more = of_deployment (λ d. watch_property means d (head more)) r

-- of an input's head
abbrev pub watch_head : Meanings → Head → Output
watch_head means h = of_first (λ text more. watch_found means (means.trace.deployment text) more) h
