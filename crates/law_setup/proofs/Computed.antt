-- The worked set-up, by computing.
use Rattle.std.proofs.Common.{refl}
use Rattle.law_setup.specs.Worked.{LightingSetUp}

pub lighting_set_up : LightingSetUp
lighting_set_up = record { lines = refl; many = refl }
