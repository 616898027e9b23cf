-- No module is left.
use Rattle.std.proofs.Common.{◌≡◌, ◌∙◌, ℕ, ◌≤◌, List, [], ◌∷◌, length, drop, refl, ap}
use Rattle.std.proofs.lemmas.List.{drop_all}
use Rattle.sx_rules.specs.declared.section.Layout.{Layout}
use Rattle.sx_mean.specs.Application.{PartTree}
use Rattle.sx_deploy.specs.Deployment.{Deployed}
use Rattle.command_describe.specs.Output.{modules_from}

without_layouts : (d : Deployed) (p : ℕ) (parts : List PartTree) → modules_from d p parts [] ≡ []
without_layouts d p [] = refl
without_layouts d p (q ∷ qs) = refl

pub no_layouts : (d : Deployed) (p : ℕ) (parts : List PartTree) (layouts : List Layout) (i : ℕ) → length layouts ≤ i → modules_from d p parts (drop i layouts) ≡ []
no_layouts d p parts layouts i h = ap (λ (ls : List Layout). modules_from d p parts ls) (drop_all i layouts h) ∙ without_layouts d p parts
