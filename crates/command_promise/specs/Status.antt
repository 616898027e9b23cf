-- The exit status of a command, as a number.
use Rattle.std.specs.Prelude.{ℕ}
use Rattle.command_promise.specs.declared.status.Status.{Status}
use Rattle.command_promise.specs.declared.status.Status.TheVariants as status

-- its number
abbrev pub status_number : Status → ℕ
status_number status.Done = 0
status_number status.Refused = 1
status_number status.Misused = 2
status_number status.Broken = 3
status_number status.ReadFailed = 4
status_number status.WriteFailed = 5
status_number status.OutOfMemory = 6
status_number status.NoProperty = 7
status_number status.Illegal = 8
status_number status.TooLong = 9
status_number status.NoCode = 10
status_number status.NoQuery = 11
status_number status.PropertyBroken = 12
status_number status.Unknown = 13
