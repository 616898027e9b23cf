-- What is constant while a module runs, and what its caller asks.
use Rattle.std.specs.Prelude.{ℕ, List}
use Rattle.sx_lang.specs.Tree.{ModuleTree}
use Rattle.sx_mean.specs.declared.events.End.{End}
use Rattle.sx_rules.specs.declared.section.Section.{Section}
use Rattle.sx_tag.specs.Mac.{Mac}

-- the tag function; the module's section, with its id, key and layout; all live sections; and the
-- module's source with its ends
pub record Setup : Type 0 where
  pub mac : Mac
  pub section : Section
  pub live : List Section
  pub tree : ModuleTree
  pub ends : List End

-- what a caller asks, in R12 to R15: the entry, the addresses of the in-window and the out-window,
-- and the return address
pub record Call : Type 0 where
  pub entry : ℕ
  pub input : ℕ
  pub output : ℕ
  pub back : ℕ
