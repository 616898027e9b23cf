-- Which images there are of a deployment.
use Rattle.std.specs.Prelude.{ℕ, List}
use Rattle.sx_deploy.specs.Deployment.{Deployed}
use Rattle.command_world.specs.Built.{texts_from}

-- The texts of the images that the compiler makes of a deployment's modules. A reader believes of
-- them only that they are a function of the deployment: the same in each call, of each command.
unfoldable pub compiled_texts : Deployed → List (List ℕ)
compiled_texts d = texts_from d 0 d.app.parts d.layouts
