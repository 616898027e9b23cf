-- What a query asks for is there; and how many lines come before it.
use Rattle.std.specs.Prelude.{ℕ, ◌+◌, ◌-◌, ◌<◌, ◌≤◌, length}
use Rattle.sx_trace.specs.Names.{NameLists}
use Rattle.command_snap.specs.declared.queries.Query.{Query}
use Rattle.command_snap.specs.declared.queries.Query.TheVariants.{Blank, Registers, Bytes, Items}

-- what is asked for is there
abbrev pub IsAsked : NameLists → ℕ → Query → Type 0
IsAsked names last Blank = Unit {0}
IsAsked names last (Registers node at) = (node < length names.nodes) × (at ≤ last)
IsAsked names last (Bytes node from len at) =
    (node < length names.nodes) × (from + len ≤ 65536) × (at ≤ last)
IsAsked names last (Items at) = (1 ≤ at) × (at ≤ last)

-- how many lines come before what is asked
abbrev pub lines_before : Query → ℕ
lines_before Blank = 0
lines_before (Registers node at) = at
lines_before (Bytes node from len at) = at
lines_before (Items at) = at - 1
