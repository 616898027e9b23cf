-- The settings of a deployment and of images that the program has in memory.
use Rattle.std.specs.Prelude.{List}
use Rattle.sx_tag.specs.Mac.{Mac}
use Rattle.sx_deploy.specs.SeenDeployment.{deployed_as}
use Rattle.sx_deploy.specs.declared.deployment.Deployment.{Deployment}
use Rattle.sx_image.specs.declared.image.Image.{Image}
use Rattle.sx_image.specs.InMemory.{texts_of}
use Rattle.spec_run.specs.Setting.{Setting}
use Rattle.spec_run.specs.Accepted.{setting_of}
use Rattle.sx_observe.specs.InMemory.{setting_at}
use Rattle.sx_world.specs.Held.{Held}

-- the setting of a deployment with these images of its modules
abbrev pub image_setting : Mac → Deployment → List Image → Setting
image_setting mac deployment images = setting_of mac (deployed_as deployment) (texts_of images)

-- the setting of a deployment with its modules at the sites that the program's world keeps
abbrev pub world_setting : Mac → Deployment → Held → Setting
world_setting mac deployment world = setting_at mac deployment world.sites
