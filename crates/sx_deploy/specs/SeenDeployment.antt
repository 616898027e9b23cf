-- What contracts see of a deployment in memory.
use Rattle.sx_mean.specs.View.{app_as}
use Rattle.sx_deploy.specs.Deployment.{Deployed}
use Rattle.sx_deploy.specs.declared.deployment.Deployment.{Deployment}

-- the code's deployment as plain data
abbrev pub deployed_as : Deployment → Deployed
deployed_as d = record {
  app = app_as d.app;
  names = d.names;
  secret = d.secret;
  keys = d.keys.items;
  places = d.places.items;
  layouts = d.layouts.items;
  providers = d.providers.items;
}
