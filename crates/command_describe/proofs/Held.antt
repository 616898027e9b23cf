-- The ends of a module of a deployment are few.
use Rattle.std.proofs.Common.{◌≡◌, ◌∙◌, ℕ, ◌≤◌, length, ap, subst, sym, Some}
use Rattle.std.specs.Prelude.{option_map, slice_get}
use Rattle.std.proofs.lemmas.Option.{slice_get-map}
use Rattle.sx_mean.specs.declared.apps.Part.{Part}
use Rattle.sx_mean.specs.Ends.{ends_of}
use Rattle.sx_mean.specs.View.{part_as}
use Rattle.sx_mean.proofs.Ends.{ends_counted}
use Rattle.sx_deploy.specs.Law.{IsSoundDeployment}
use Rattle.sx_deploy.specs.SeenDeployment.{deployed_as}
use Rattle.sx_deploy.specs.declared.deployment.Deployment.{Deployment}

pub few_ends : (d : Deployment) (p : ℕ) (x : Part) → IsSoundDeployment (deployed_as d) → slice_get d.app.parts.items p ≡ Some x
    → length (ends_of (deployed_as d).app p) ≤ 16
few_ends d p x sound here =
    let there : slice_get (deployed_as d).app.parts p ≡ Some (part_as x) = slice_get-map part_as d.app.parts.items p ∙ ap (option_map part_as) here in
    subst (λ (n : ℕ). n ≤ 16) (sym (ends_counted (deployed_as d).app p).all) (sound.modules p (part_as x) there).ends
