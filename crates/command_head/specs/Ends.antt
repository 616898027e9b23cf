-- How the rest of a command ends if memory runs out, or if the text gives no deployment.
use Rattle.std.specs.Prelude.{◌≡◌, Bool}
use Rattle.command_promise.specs.declared.status.Status.{Status}
use Rattle.command_promise.specs.declared.status.Status.TheVariants as exit
use Rattle.command_promise.specs.Told.{CommandAt, CommandEnds}
use Rattle.sx_io.specs.Streams.{SinkAt}
use Rattle.sx_entries.specs.declared.fault.DeployError.{DeployError}
use Rattle.sx_entries.specs.declared.fault.DeployError.TheVariants.{Fault, OutOfMemory}
use Rattle.command_head.specs.Refused.{fault_output}

-- memory ran out before the images were made, and nothing was read or written
pub record RanOut (m1 m2 : CommandAt) (status : Status) : Type 0 where
  pub six : status ≡ exit.OutOfMemory
  pub same : m2 ≡ m1

-- That a rule is broken is reported without memory; if there was none for a deployment, nothing
-- was written.
abbrev pub EndsRefused : Bool → SinkAt → SinkAt → Status → DeployError → Type 0
EndsRefused to_tell k0 k1 status (Fault f) =
    CommandEnds to_tell k0 k1 status (fault_output f) × (status ≡ exit.OutOfMemory → ⊥)
EndsRefused to_tell k0 k1 status OutOfMemory = (status ≡ exit.OutOfMemory) × (k1 ≡ k0)
