-- Acts only grow: what a handler did stays done.
use Rattle.std.specs.Prelude.{◌≡◌, List, ◌++◌}
use Rattle.sx_lang.specs.declared.tree.Decl.{Decl}
use Rattle.sx_lang.specs.Tree.{Block}
use Rattle.sx_mean.specs.declared.events.Act.{Act}
use Rattle.sx_mean.specs.Meaning.{HandlerState, after_block}

-- the acts of the first are the first acts of the second
pub record AddsActs (a b : HandlerState) : Type 0 where
  pub more : List Act
  pub all : a.acts ++ more ≡ b.acts

-- a block only adds acts
abbrev pub ActsGrow : Type 0
ActsGrow = (ds : List Decl) (b : Block) (st : HandlerState) → AddsActs st (after_block ds b st)
