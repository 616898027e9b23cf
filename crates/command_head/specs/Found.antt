-- Whether an input has a head.
use Rattle.std.specs.Prelude.{◌≡◌, List}
use Rattle.sx_io.specs.Reading.{Answer}
use Rattle.command_promise.specs.declared.status.Status.{Status}
use Rattle.command_promise.specs.declared.status.Status.TheVariants.{OutOfMemory}
use Rattle.command_promise.specs.Head.{Head, Found, head}

-- the input has a head
abbrev pub IsFound : Head → Type 0
IsFound (Found text more) = Unit {0}
IsFound _ = ⊥

-- memory runs out only if there is a head: that there is none is reported without memory
abbrev pub RunsOutBehindHead : Status → List Answer → Type 0
RunsOutBehindHead status answers = status ≡ OutOfMemory → IsFound (head answers)
