use Rattle.sx_compile.proofs.CompiledRealizes.{compiled_realizes}
use Rattle.sx_compile.proofs.laws.compiled_realizes.Goals as goal

pub returns : goal.returns
returns c = compiled_realizes
