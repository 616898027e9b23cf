-- A grant's set-key packet opens an end that is closed.
use Rattle.std.proofs.Common.{◌≡◌, Some, refl}
use Rattle.sx_lang.specs.declared.sides.Side.{Side}
use Rattle.sx_lang.specs.declared.sides.Side.TheVariants.{From, To}
use Rattle.spec_invocation.specs.Entries.{side_of}
use Rattle.sx_deployer.specs.Granting.{side_number}
use Rattle.law_invocation.proofs.Keys.{key_returns}
use Rattle.law_calls.specs.FourCalls.{SetKeyReturns}

number_side : (side : Side) → side_of (side_number side) ≡ Some side
number_side From = refl
number_side To = refl

pub set_key_returns : SetKeyReturns
set_key_returns su st mem devices link epoch k side e key low tag lt = key_returns su st mem devices link epoch (side_number side) k side e key low tag lt (number_side side)
