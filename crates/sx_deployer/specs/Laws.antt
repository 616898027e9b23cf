-- The packets of a worked renewal. Nobody has to believe this file.
use Rattle.std.specs.Prelude.{◌≡◌, [], ◌∷◌, Some, None}
use Rattle.sx_lang.specs.declared.sides.Side.TheVariants.{From, To}
use Rattle.sx_mean.specs.Worked.{lighting}
use Rattle.sx_deployer.specs.Granting.{DeployerState, grants_after}

-- the lighting application's modules were attested at boot 0, and the lamp then at boot 1
abbrev pub worked : DeployerState
worked =
    record { asks = 4; open_asks = []; attested = Some 0 ∷ Some 0 ∷ Some 1 ∷ []; epochs = 0 ∷ 1 ∷ [] }

-- its renewal gives keys to its own end and to the logic's, each at its holder's boot
pub record LampIsRenewed : Type 0 where
  pub again : grants_after lighting worked 2 1 (Some 0)
      ≡ record { holder = 2; boot = 1; «end» = record { link = 1; side = To; port = 0 }; epoch = 1 }
      ∷ record {
        holder = 1;
        boot = 0;
        «end» = record { link = 1; side = From; port = 0 };
        epoch =
            1;
      } ∷ []
  pub first : grants_after lighting worked 2 1 None
      ≡ record { holder = 2; boot = 1; «end» = record { link = 1; side = To; port = 0 }; epoch = 1 }
      ∷ []
