use Rattle.sx_compile.proofs.CompiledRealizes.{compiled_shows_no_key}
use Rattle.sx_compile.proofs.laws.compiled_shows_no_key.Goals as goal

pub returns : goal.returns
returns c = compiled_shows_no_key
