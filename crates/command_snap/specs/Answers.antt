-- What is written of a query: a function of the run's definition alone.
use Rattle.std.specs.Prelude.{ℕ, zero, suc, ◌+◌, ◌/◌, List, [], ◌∷◌, ◌++◌, codes, decimal}
use Rattle.std.specs.Prelude.{flat_map, slice_index, slice_get, Option, Some, None}
use Rattle.hex.specs.Hex.{encode_lower}
use Rattle.spec_machine.specs.Memory.{bytes_from}
use Rattle.spec_machine.specs.State.{State}
use Rattle.sx_trace.specs.declared.items.Item.{Item}
use Rattle.sx_trace.specs.Items.{item_text, name_at}
use Rattle.sx_trace.specs.Names.{NameLists}
use Rattle.sx_sched.specs.Lines.{Line}
use Rattle.spec_run.specs.Setting.{Setting}
use Rattle.sx_snap.specs.Timeline.{items_at, world_at}
use Rattle.command_text.specs.Address.{digit, address}
use Rattle.command_text.specs.Output.{line}
use Rattle.command_snap.specs.declared.queries.Query.{Query}
use Rattle.command_snap.specs.declared.queries.Query.TheVariants.{Blank, Registers, Bytes, Items}

-- the four digits of a word
abbrev pub word_digits : ℕ → List ℕ
word_digits v = digit (v / 4096) ∷ digit (v / 256) ∷ digit (v / 16) ∷ digit v ∷ []

-- a space and a register's digits
unfoldable pub register_text : ℕ → List ℕ
register_text v = codes " " ++ word_digits v

-- so many registers, from the k-th on
unfoldable pub registers_text : ℕ → ℕ → List ℕ → List ℕ
registers_text zero k regs = []
registers_text (suc n) k regs =
    register_text (slice_index regs k) ++ registers_text n (k + 1) regs

-- all registers of a node after so many lines
unfoldable pub registers_line : NameLists → ℕ → ℕ → State → List ℕ
registers_line names node at s =
    line (codes "regs " ++ name_at names.nodes node ++ codes " " ++ decimal at
    ++ registers_text 16 0 s.regs)

-- so many bytes of a node's memory, from an address on, after so many lines
unfoldable pub bytes_line : NameLists → ℕ → ℕ → ℕ → ℕ → State → List ℕ
bytes_line names node from len at s =
    line (codes "bytes " ++ name_at names.nodes node ++ codes " " ++ address from ++ codes " "
    ++ decimal at ++ codes " " ++ encode_lower (bytes_from s.mem from len))

-- an item of the line with this number
unfoldable pub item_line : NameLists → ℕ → Item → List ℕ
item_line names at i = line (codes "item " ++ decimal at ++ codes " " ++ item_text names i)

-- all its items
abbrev pub items_text : NameLists → ℕ → List Item → List ℕ
items_text names at items = flat_map (item_line names at) items

-- of a node, if there is one
abbrev pub of_node : (State → List ℕ) → Option State → List ℕ
of_node text None = []
of_node text (Some s) = text s

-- the answer to a query about the run of these lines
unfoldable pub answer_text : NameLists → Setting → List Line → Query → List ℕ
answer_text names set lines Blank = []
answer_text names set lines (Registers node at) =
    of_node (registers_line names node at) (slice_get (world_at set lines at).nodes node)
answer_text names set lines (Bytes node from len at) =
    of_node (bytes_line names node from len at) (slice_get (world_at set lines at).nodes node)
answer_text names set lines (Items at) = items_text names at (items_at set lines at)
