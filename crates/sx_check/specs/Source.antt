-- What contracts see of a checked module.
use Rattle.sx_lang.specs.declared.tree.Module.{Module}
use Rattle.sx_lang.specs.Tree.{ModuleTree}
use Rattle.sx_lang.specs.View.{module_of}
use Rattle.sx_check.specs.declared.checked.Checked.{Checked}

-- the module that was checked
abbrev pub source : Checked → Module
source c = c.tree

-- its tree as plain data
abbrev pub source_tree : Checked → ModuleTree
source_tree c = module_of c.tree
