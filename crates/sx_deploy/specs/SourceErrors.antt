-- Why a module has no tree.
use Rattle.std.specs.Prelude.{ℕ}
use Rattle.sx_entries.specs.Fault.{cut, fault}
use Rattle.sx_entries.specs.declared.fault.Place.TheVariants.{Source}
use Rattle.sx_entries.specs.declared.fault.DeployError.{DeployError}
use Rattle.sx_entries.specs.declared.fault.DeployError.TheVariants as deploy
use Rattle.sx_parse.specs.declared.error.ParseError.{ParseError}
use Rattle.sx_parse.specs.declared.error.ParseError.TheVariants as parse

-- why the n-th module has no tree: its source breaks rule 7 at this place, or memory ran out
abbrev pub source_error : ℕ → ParseError → DeployError
source_error n (parse.Fault f) = deploy.Fault (fault 7 (Source (cut n) f.line f.column))
source_error n parse.OutOfMemory = deploy.OutOfMemory
