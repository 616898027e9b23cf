-- What holds of each module that breaks no rule: its bounds, and that each name in it is known and
-- used as what it is.
use Rattle.std.specs.Prelude.{◌≡◌, ◌≢◌, ℕ, ◌≤◌, ◌⊎◌, true, false, List, None, All, AllPairs}
use Rattle.std.specs.Prelude.{count_by, length}
use Rattle.std.specs.List.{list_any}
use Rattle.sx_lang.specs.declared.tree.Decl.{Decl}
use Rattle.sx_lang.specs.declared.tree.Decl.TheVariants.{Device, Input, Output, Var, Array}
use Rattle.sx_lang.specs.Sizes.{module_cost, module_nodes, declared_cells}
use Rattle.sx_lang.specs.Tree.{HandlerTree, ModuleTree}
use Rattle.sx_check.specs.Names.{declares, is_actuator, is_declared, is_device, is_sensor, locals}
use Rattle.sx_check.specs.Uses.{Use, used, declares_as, handler_uses, is_local}
use Rattle.sx_check.specs.Bounds.{block_counts, block_emits, block_height, block_sends, inner_depth}
use Rattle.sx_check.specs.Bounds.{is_input, is_output}
use Rattle.sx_check.specs.Rules.{first_broken}

-- the name is a local in sight that can be used so, or declared as what it is used as
abbrev pub IsProper : List Decl → Use → Type 0
IsProper ds (used role x seen) =
    (is_local role x seen ≡ true) ⊎ (list_any (declares_as role x) ds ≡ true)

-- an array has 1 to 1,024 elements
abbrev pub HasLength : Decl → Type 0
HasLength (Device kind) = Unit {0}
HasLength (Input x) = Unit {0}
HasLength (Output x) = Unit {0}
HasLength (Var x n) = Unit {0}
HasLength (Array x n) = (1 ≤ n) × (n ≤ 1024)

-- a `repeat` has 1 to 256 turns
abbrev pub IsCount : ℕ → Type 0
IsCount n = (1 ≤ n) × (n ≤ 256)

-- What holds of a handler. The locals are its parameter and each that is defined in it.
pub record IsFine (m : ModuleTree) (h : HandlerTree) : Type 0 where
  pub proper : All (IsProper m.decls) (handler_uses h)
  pub few_locals : length (locals h) ≤ 16
  pub distinct : AllPairs (λ x y. x ≢ y) (locals h)
  pub undeclared : All (λ x. is_declared m.decls x ≡ false) (locals h)
  pub height : block_height h.body ≤ 32
  pub depth : inner_depth h.body ≤ 15
  pub counts : All IsCount (block_counts h.body)
  pub sends : block_sends h.body ≤ 16
  pub samples : h.input ≡ None → list_any is_sensor m.decls ≡ true
  pub emits : block_emits h.body ≡ true → list_any is_actuator m.decls ≡ true

-- what holds of a module
pub record IsAcceptedModule (m : ModuleTree) : Type 0 where
  pub declared_once : (x : List ℕ) → count_by (declares x) m.decls ≤ 1
  pub one_device : count_by is_device m.decls ≤ 1
  pub handled_once : AllPairs (λ g h. g.input ≢ h.input) m.handlers
  pub handlers : All (IsFine m) m.handlers
  pub cost : module_cost m ≤ 262144
  pub nodes : module_nodes m ≤ 512
  pub inputs : count_by is_input m.decls ≤ 255
  pub outputs : count_by is_output m.decls ≤ 255
  pub arrays : All HasLength m.decls
  pub cells : declared_cells m.decls ≤ 1024

-- all of this holds of a module that breaks no rule
abbrev pub Accepted : Type 0
Accepted = (m : ModuleTree) → first_broken m ≡ None → IsAcceptedModule m
