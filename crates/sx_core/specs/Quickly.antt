-- What a step answers and leaves, with what it says of devices.
--     RunsQuietly      a plan was run to its end and touched no device
--     answer_of, is_quiet      what a step answered, and whether it says that no device was touched
--     EndsStep      a plan was run, and the step says so
--     MayEndStep      the same, or nothing was done
use Rattle.std.specs.Prelude.{◌≡◌, Bool, true, false, Result, Ok, Option, Some, None}
use Rattle.sx_rules.specs.declared.access.Violation.{Violation}
use Rattle.spec_machine.specs.Plan.{Plan}
use Rattle.sx_executor.specs.Machine.{Machine, RunsPlan}
use Rattle.sx_core.specs.declared.quick.Stepped.{Stepped}
use Rattle.sx_core.specs.declared.quick.Stepped.TheVariants.{Quiet, Answered}

-- a machine `m` that ran a plan to its end and touched no device is `n`
abbrev pub RunsQuietly : Plan → Machine → Machine → Type 0
RunsQuietly plan m n = RunsPlan plan m (Ok tt) n × (n.touches ≡ m.touches)

-- what a step answered
abbrev pub answer_of : Stepped → Result (Unit {0}) Violation
answer_of Quiet = Ok tt
answer_of (Answered answer) = answer

-- whether it says that no device was touched
abbrev pub is_quiet : Stepped → Bool
is_quiet Quiet = true
is_quiet (Answered answer) = false

-- a machine `m` that ran a plan is `n`, and the step says so
abbrev pub EndsStep : Plan → Machine → Stepped → Machine → Type 0
EndsStep plan m stepped n =
    RunsPlan plan m (answer_of stepped) n × (is_quiet stepped ≡ true → n.touches ≡ m.touches)

-- the same, or nothing was done and the step is left to other code
abbrev pub MayEndStep : Plan → Machine → Option Stepped → Machine → Type 0
MayEndStep plan m None n = n ≡ m
MayEndStep plan m (Some stepped) n = EndsStep plan m stepped n
