-- What is counted of a run's items, and how it is written.
use Rattle.std.specs.Prelude.{ℕ, ◌==◌, Bool, true, false, List, ◌++◌, length, codes, decimal}
use Rattle.std.specs.List.{count_by}
use Rattle.sx_trace.specs.declared.items.Item.{Item}
use Rattle.sx_trace.specs.declared.items.Item.TheVariants as item
use Rattle.command_gen.specs.declared.counts.Counts.{Counts}
use Rattle.command_text.specs.Output.{line, end_line}

-- an actuator was written by its driver
abbrev pub is_output : Item → Bool
is_output (item.Out m value) = true
is_output _ = false

-- and with the value 1
abbrev pub is_lit : Item → Bool
is_lit (item.Out m value) = value == 1
is_lit _ = false

-- how many items there are, how many outputs, and how many of these have the value 1
abbrev pub counts : List Item → Counts
counts items =
    record { items = length items; outputs = count_by is_output items; lit = count_by is_lit items }

-- a word and a number
unfoldable pub numbered : List ℕ → ℕ → List ℕ
numbered word n = line (word ++ codes " " ++ decimal n)

-- the last six lines: of this many lines of a schedule, of what was counted, and of this many node
-- steps
unfoldable pub summary : ℕ → Counts → ℕ → List ℕ
summary lines c steps =
    numbered (codes "lines") lines ++ numbered (codes "items") c.items
    ++ numbered (codes "outputs") c.outputs ++ numbered (codes "lit") c.lit
    ++ numbered (codes "steps") steps ++ end_line
