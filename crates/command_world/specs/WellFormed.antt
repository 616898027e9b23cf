-- The inputs that `run` takes to their end.
use Rattle.std.specs.Prelude.{ℕ, ◌+◌, List, ◌∷◌, Result, Ok, Err, IsOk}
use Rattle.sx_io.specs.Reading.{Answer, Line, End}
use Rattle.sx_entries.specs.declared.fault.DeployFault.{DeployFault}
use Rattle.command_promise.specs.Head.{Head, Found}
use Rattle.sx_trace.specs.Names.{NameLists}
use Rattle.sx_sched.specs.Reading.{Assembler}
use Rattle.sx_deploy.specs.Deployment.{Deployed}
use Rattle.command_head.specs.Meanings.{Meaning}
use Rattle.command_world.specs.Schedule.{judged_line}

-- each line from this number on, up to the end of the input, keeps the rules
abbrev pub IsWellFormed : Assembler → NameLists → ℕ → List Answer → Type 0
IsWellFormed assemble names number (End ∷ more) = Unit {0}
IsWellFormed assemble names number (Line text ∷ more) =
    IsOk (judged_line assemble names number text) × IsWellFormed assemble names (number + 1) more
IsWellFormed assemble names number _ = ⊥

-- a deployment that keeps the rules, and a schedule that does
abbrev pub IsGoodRun : Assembler → Result Deployed DeployFault → List Answer → Type 0
IsGoodRun assemble (Ok d) more = IsWellFormed assemble d.names 1 more
IsGoodRun assemble (Err f) more = ⊥

-- a deployment that keeps the rules, the line `%%`, and a schedule that does
abbrev pub IsGoodInput : Assembler → Meaning → Head → Type 0
IsGoodInput assemble meaning (Found text more) = IsGoodRun assemble (meaning text) more
IsGoodInput assemble meaning _ = ⊥
