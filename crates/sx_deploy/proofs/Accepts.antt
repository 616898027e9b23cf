-- What an accepted text's deployment in memory satisfies.
use Rattle.std.proofs.Common.{ℕ, List, Result, Ok, Err, IfOk, IsTrue}
use Rattle.sx_mean.specs.Validity.{is_valid}
use Rattle.sx_mean.specs.View.{app_as}
use Rattle.sx_trace.specs.ValidNames.{are_valid}
use Rattle.sx_entries.specs.Gives.{GivesOne}
use Rattle.sx_entries.specs.declared.fault.DeployError.{DeployError}
use Rattle.sx_deploy.specs.Deployment.{IsRead}
use Rattle.sx_deploy.specs.SeenDeployment.{deployed_as}
use Rattle.sx_deploy.specs.declared.deployment.Deployment.{Deployment}
use Rattle.sx_deploy.specs.Law.{IsSoundDeployment}
use Rattle.sx_deploy.proofs.Sound.{sound}
use Rattle.sx_deploy.proofs.ValidApp.{app_valid}
use Rattle.sx_deploy.proofs.ValidNames.{names_valid}

pub accepts_app : (text : List ℕ) (r : Result Deployment DeployError) → GivesOne deployed_as r (IsRead text) → IfOk r (λ d. IsTrue (is_valid (app_as d.app)))
accepts_app text (Ok d) h = app_valid text (deployed_as d) h
accepts_app text (Err e) h = tt

pub accepts_names : (text : List ℕ) (r : Result Deployment DeployError) → GivesOne deployed_as r (IsRead text) → IfOk r (λ d. IsTrue (are_valid d.names))
accepts_names text (Ok d) h = names_valid text (deployed_as d) h
accepts_names text (Err e) h = tt

pub accepts_sound : (text : List ℕ) (r : Result Deployment DeployError) → GivesOne deployed_as r (IsRead text) → IfOk r (λ d. IsSoundDeployment (deployed_as d))
accepts_sound text (Ok d) h = sound text (deployed_as d) h
accepts_sound text (Err e) h = tt
