-- Rule 8: each source keeps the rules of the language.
use Rattle.std.specs.Prelude.{ℕ, List, [], length, Option, Some, None, Result, Ok, Err}
use Rattle.sx_check.specs.Rules.{first_broken}
use Rattle.sx_check.specs.declared.rules.Rule.{Rule}
use Rattle.sx_check.specs.declared.rules.Rule.TheVariants.{Duplicate, Unknown, Kind, Depth, Locals}
use Rattle.sx_check.specs.declared.rules.Rule.TheVariants.{Repeat, Packets, Cost, Nodes, Cells}
use Rattle.sx_entries.specs.Fault.{cut, fault}
use Rattle.sx_entries.specs.Stage.{made_after}
use Rattle.sx_entries.specs.declared.fault.Place.TheVariants.{Broken}
use Rattle.sx_entries.specs.declared.fault.DeployFault.{DeployFault}
use Rattle.sx_deploy.specs.Sources.{Coded}

-- the number under which a rule of the language is printed
abbrev pub number : Rule → ℕ
number Duplicate = 1
number Unknown = 2
number Kind = 3
number Depth = 4
number Locals = 5
number Repeat = 6
number Packets = 7
number Cost = 8
number Nodes = 9
number Cells = 10

-- the value, or the broken rule of the n-th module
abbrev pub unless_broken : {A : Type 0} → ℕ → A → Option Rule → Result A DeployFault
unless_broken n m None = Ok m
unless_broken n m (Some rule) = Err (fault 8 (Broken (cut n) (number rule)))

-- rule 8 on the module of this number
abbrev pub checked_nth : ℕ → Coded → Result Coded DeployFault
checked_nth n m = unless_broken n m (first_broken m.tree)

-- rule 8: all modules, or the first that breaks a rule of the language
abbrev pub checked_all : List Coded → Result (List Coded) DeployFault
checked_all modules = made_after (λ done m. checked_nth (length done) m) [] modules
