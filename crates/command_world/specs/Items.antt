-- The lines that show items.
use Rattle.std.specs.Prelude.{ℕ, List, flat_map}
use Rattle.sx_trace.specs.declared.items.Item.{Item}
use Rattle.sx_trace.specs.Names.{NameLists}
use Rattle.sx_trace.specs.Items.{item_text}
use Rattle.command_text.specs.Output.{line}

-- the line of an item
unfoldable pub item_line : NameLists → Item → List ℕ
item_line names i = line (item_text names i)

-- the lines of items
abbrev pub items_text : NameLists → List Item → List ℕ
items_text names items = flat_map (item_line names) items
