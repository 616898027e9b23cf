-- What holds of the command that the words name.
use Rattle.std.specs.Prelude.{◌≤◌, Option, Some, None}
use Rattle.sx_top.specs.declared.words.Command.{Command}
use Rattle.sx_top.specs.declared.words.Command.TheVariants.{Run, Check, Explain, Snap, Gen, Asm}
use Rattle.sx_top.specs.declared.words.Command.TheVariants.{Batch, Dis, Drive, Holds, Lines, Watch}
use Rattle.sx_top.specs.declared.words.Command.TheVariants.{Describe}

-- a workload carries at most 8,000 samples
abbrev pub CarriesFew : Option Command → Type 0
CarriesFew None = Unit {0}
CarriesFew (Some Run) = Unit {0}
CarriesFew (Some Check) = Unit {0}
CarriesFew (Some Explain) = Unit {0}
CarriesFew (Some Watch) = Unit {0}
CarriesFew (Some Drive) = Unit {0}
CarriesFew (Some Snap) = Unit {0}
CarriesFew (Some Holds) = Unit {0}
CarriesFew (Some (Gen n)) = n ≤ 8000
CarriesFew (Some (Asm at)) = Unit {0}
CarriesFew (Some (Dis at)) = Unit {0}
CarriesFew (Some Lines) = Unit {0}
CarriesFew (Some Describe) = Unit {0}
CarriesFew (Some Batch) = Unit {0}

-- words that are no command, and `gen`, leave the input alone
abbrev pub LeavesInput : Option Command → Type 0
LeavesInput None = Unit {0}
LeavesInput (Some Run) = ⊥
LeavesInput (Some Check) = ⊥
LeavesInput (Some Explain) = ⊥
LeavesInput (Some Watch) = ⊥
LeavesInput (Some Drive) = ⊥
LeavesInput (Some Snap) = ⊥
LeavesInput (Some Holds) = ⊥
LeavesInput (Some (Gen n)) = Unit {0}
LeavesInput (Some (Asm at)) = ⊥
LeavesInput (Some (Dis at)) = ⊥
LeavesInput (Some Lines) = ⊥
LeavesInput (Some Describe) = ⊥
LeavesInput (Some Batch) = ⊥
