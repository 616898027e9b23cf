-- What the command `check` writes of a deployment.
use Rattle.std.specs.Prelude.{ℕ, Bool, List, [], ◌∷◌, ◌++◌, codes}
use Rattle.command_promise.specs.declared.status.Status.{Status}
use Rattle.command_promise.specs.Told.{CommandAt}
use Rattle.sx_rules.specs.declared.section.Layout.{Layout}
use Rattle.command_text.specs.Address.{address}
use Rattle.command_text.specs.Output.{line}
use Rattle.command_report.specs.Output.{Report}
use Rattle.command_report.specs.Promise.{ReportPromise}

-- a module and the bounds of its sections; an end is the address after the last byte
unfoldable pub module_line : List ℕ → Layout → List ℕ
module_line name l =
    line (codes "module " ++ name ++ codes " text " ++ address l.pub_from ++ codes " "
    ++ address l.pub_to ++ codes " data " ++ address l.priv_from ++ codes " " ++ address l.priv_to)

-- the lines of all modules
abbrev pub module_lines : List (List ℕ) → List Layout → List ℕ
module_lines (name ∷ names) (l ∷ layouts) = module_line name l ++ module_lines names layouts
module_lines [] layouts = []
module_lines (name ∷ names) [] = []

-- where the modules are
abbrev pub check_report : Report
check_report d = module_lines d.names.modules d.layouts

-- The command `check`.
abbrev pub CheckPromise : Bool → Bool → CommandAt → CommandAt → Status → Type 0
CheckPromise tells to_tell m0 m1 status = ReportPromise check_report tells to_tell m0 m1 status
