-- What texts of deployments mean, and the lines of traces.
use Rattle.std.specs.Prelude.{◌≡◌, ℕ, List, Option, MatchOption, IsTrue}
use Rattle.sx_trace.specs.declared.items.Item.{Item}
use Rattle.sx_trace.specs.Names.{NameLists}
use Rattle.sx_trace.specs.ValidNames.{are_valid}
use Rattle.sx_trace.specs.Items.{item_text}
use Rattle.sx_trace.specs.KnownItems.{IsItem, IsNoItem}
use Rattle.command_head.specs.Meanings.{Meaning, IsMeaning}

-- the deployment of a text, and the item that has a line
pub record Meanings : Type 0 where
  pub deployment : Meaning
  pub item : NameLists → List ℕ → Option Item

-- the line has this item, or none
abbrev pub SaysItem : NameLists → List ℕ → Option Item → Type 0
SaysItem names line said = MatchOption said (IsNoItem names line)
    (λ item. IsItem names item × (item_text names item ≡ line))

-- They are those: no text has two meanings, and no line has two items.
pub record AreMeanings (means : Meanings) : Type 0 where
  pub deployment : IsMeaning means.deployment
  pub item : (names : NameLists) (line : List ℕ) → IsTrue (are_valid names)
      → SaysItem names line (means.item names line)
