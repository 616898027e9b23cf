-- The settings of a deployment and its sites that the program has in memory.
use Rattle.std.specs.Prelude.{List}
use Rattle.sx_tag.specs.Mac.{Mac}
use Rattle.sx_deploy.specs.SeenDeployment.{deployed_as}
use Rattle.sx_deploy.specs.declared.deployment.Deployment.{Deployment}
use Rattle.spec_run.specs.Setting.{Site, Setting}
use Rattle.spec_run.specs.Accepted.{setting}
use Rattle.sx_observe.specs.declared.settings.Setting.{Setting as Given}

-- the setting of a deployment with its modules at these sites
abbrev pub setting_at : Mac → Deployment → List Site → Setting
setting_at mac deployment sites = setting mac (deployed_as deployment) sites

-- that of a deployment and its sites that are passed on together
abbrev pub setting_in : Mac → Given → Setting
setting_in mac given = setting_at mac given.deployment.now given.sites.now
