-- That a command took its whole input.
use Rattle.std.specs.Prelude.{◌≡◌, ◌⊎◌, Bool, ◌++◌, IsTrue}
use Rattle.command_promise.specs.declared.status.Status.{Status}
use Rattle.command_promise.specs.declared.status.Status.TheVariants.{Done, OutOfMemory}
use Rattle.command_promise.specs.Told.{CommandAt, Output}

-- the status is `Done` and all that is defined was written, or memory ran out
abbrev pub CameToItsEnd : Bool → CommandAt → CommandAt → Status → Output → Type 0
CameToItsEnd to_tell m0 m1 status o = (status ≡ OutOfMemory)
    ⊎ ((status ≡ Done) × (IsTrue to_tell → m1.sink.written ≡ m0.sink.written ++ o.text))
