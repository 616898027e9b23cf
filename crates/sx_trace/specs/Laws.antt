-- Each item has a line of its own.
use Rattle.std.specs.Prelude.{◌≡◌, IsTrue}
use Rattle.sx_trace.specs.Names.{NameLists}
use Rattle.sx_trace.specs.ValidNames.{are_valid}
use Rattle.sx_trace.specs.declared.items.Item.{Item}
use Rattle.sx_trace.specs.Items.{item_text}
use Rattle.sx_trace.specs.KnownItems.{IsItem}

-- no two items have one line
abbrev pub ItemsDiffer : Type 0
ItemsDiffer = (n : NameLists) (a b : Item) → IsTrue (are_valid n) → IsItem n a → IsItem n b
    → item_text n a ≡ item_text n b → a ≡ b
