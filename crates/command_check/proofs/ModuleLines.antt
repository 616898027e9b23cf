-- The lines of the modules.
use Rattle.std.proofs.Common.{◌≡◌, ◌∙◌, ℕ, ◌≤◌, List, [], ◌∷◌, length, drop, refl, ap}
use Rattle.std.proofs.lemmas.List.{drop_all}
use Rattle.sx_rules.specs.declared.section.Layout.{Layout}
use Rattle.command_check.specs.Output.{module_lines}

-- no module is left
pub no_names : (names : List (List ℕ)) (layouts : List Layout) (i : ℕ) → length names ≤ i → module_lines (drop i names) (drop i layouts) ≡ []
no_names names layouts i h = ap (λ (ns : List (List ℕ)). module_lines ns (drop i layouts)) (drop_all i names h)

without_layouts : (names : List (List ℕ)) → module_lines names [] ≡ []
without_layouts [] = refl
without_layouts (name ∷ names) = refl

pub no_layouts : (names : List (List ℕ)) (layouts : List Layout) (i : ℕ) → length layouts ≤ i → module_lines (drop i names) (drop i layouts) ≡ []
no_layouts names layouts i h = ap (λ (ls : List Layout). module_lines (drop i names) ls) (drop_all i layouts h) ∙ without_layouts (drop i names)
