-- What a command writes of an input whose first head is a deployment, and whose second a property of
-- it: of these and of the answers that follow, or of the first rule that they break.
use Rattle.std.specs.Prelude.{ℕ, List, Result, Ok, Err}
use Rattle.sx_io.specs.Reading.{Answer}
use Rattle.command_promise.specs.Told.{Output, unread_output}
use Rattle.command_promise.specs.Head.{Head, Found, TooLong, NoMark, Unread, head}
use Rattle.sx_entries.specs.declared.fault.Place.TheVariants.{Nowhere}
use Rattle.sx_entries.specs.declared.fault.DeployFault.{DeployFault}
use Rattle.sx_entries.specs.Fault.{fault}
use Rattle.sx_deploy.specs.Deployment.{Deployed}
use Rattle.sx_watch.specs.declared.reading.PropertyFault.{PropertyFault}
use Rattle.sx_watch.specs.Watched.{PropertyTree}
use Rattle.command_head.specs.Meanings.{Meaning}
use Rattle.command_head.specs.Refused.{fault_output}
use Rattle.command_property.specs.Meant.{PropertyMeaning}
use Rattle.command_property.specs.Refused.{fault_words, no_property_output, refused_output}

-- of a property, or the rule that it breaks
abbrev pub of_property : (PropertyTree → Output) → Result PropertyTree PropertyFault → Output
of_property say (Ok p) = say p
of_property say (Err f) = refused_output (fault_words f)

-- of the head after a deployment
abbrev pub of_second : (List ℕ → List Answer → Output) → Head → Output
of_second say (Found text more) = say text more
of_second say Unread = unread_output
of_second say _ = no_property_output

-- of a deployment, or the rule that it breaks
abbrev pub of_deployment : (Deployed → Output) → Result Deployed DeployFault → Output
of_deployment say (Ok d) = say d
of_deployment say (Err f) = fault_output f

-- of an input's head
abbrev pub of_first : (List ℕ → List Answer → Output) → Head → Output
of_first say (Found text more) = say text more
of_first say TooLong = fault_output (fault 1 Nowhere)
of_first say NoMark = fault_output (fault 2 Nowhere)
of_first say Unread = unread_output

-- of the whole input, by what texts mean
abbrev pub of_input : Meaning → PropertyMeaning → (Deployed → PropertyTree → List Answer → Output)
    → List Answer → Output
of_input deployment property say answers = of_first (λ text rest. of_deployment (λ d.
    of_second (λ text more. of_property (λ p. say d p more) (property d.names d.app text))
    (head rest)) (deployment text)) (head answers)
