-- How a command ends whose input has no head.
use Rattle.std.specs.Prelude.{◌≡◌, Bool}
use Rattle.sx_io.specs.Streams.{SinkAt}
use Rattle.command_promise.specs.declared.status.Status.{Status}
use Rattle.command_promise.specs.declared.status.Status.TheVariants as exit
use Rattle.command_promise.specs.Told.{CommandEnds, unread_output}
use Rattle.sx_entries.specs.declared.fault.Place.TheVariants.{Nowhere}
use Rattle.sx_entries.specs.Fault.{fault}
use Rattle.command_promise.specs.declared.head.HeadFault.{HeadFault}
use Rattle.command_promise.specs.declared.head.HeadFault.TheVariants.{TooLong, NoMark, Failed, OutOfMemory}
use Rattle.command_head.specs.Refused.{fault_output}

-- That there is no head is reported without memory; if there was none for a head, nothing was
-- written.
abbrev pub EndsHeadless : Bool → SinkAt → SinkAt → Status → HeadFault → Type 0
EndsHeadless to_tell k0 k1 status TooLong =
    CommandEnds to_tell k0 k1 status (fault_output (fault 1 Nowhere)) × (status ≡ exit.OutOfMemory → ⊥)
EndsHeadless to_tell k0 k1 status NoMark =
    CommandEnds to_tell k0 k1 status (fault_output (fault 2 Nowhere)) × (status ≡ exit.OutOfMemory → ⊥)
EndsHeadless to_tell k0 k1 status Failed =
    CommandEnds to_tell k0 k1 status unread_output × (status ≡ exit.OutOfMemory → ⊥)
EndsHeadless to_tell k0 k1 status OutOfMemory = (status ≡ exit.OutOfMemory) × (k1 ≡ k0)
