-- The rule of invariants for properties.
use Rattle.std.specs.Prelude.{◌≡◌, ℕ, List, [], ◌∷◌, Some}
use Rattle.sx_mean.specs.Application.{AppTree}
use Rattle.sx_mean.specs.Places.{initial_cells}
use Rattle.sx_trace.specs.declared.items.Item.{Item}
use Rattle.sx_model.specs.State.{Model, power_on}
use Rattle.sx_model.specs.Step.{step}
use Rattle.sx_watch.specs.Watched.{PropertyTree, watched}
use Rattle.law_never.specs.Kept.{AreQuiet}

-- each of the list
abbrev pub Each : {A : Type 0} → (A → Type 0) → List A → Type 0
Each P [] = Unit {0}
Each P (x ∷ xs) = P x × Each P xs

-- An invariant of the source and the property: it holds at first; and each allowed item of those
-- that are considered keeps it, and the property doesn't emit there.
pub record IsInvariant (app : AppTree) (o : PropertyTree) (Given : Item → Type 0)
    (Inv : Model → List ℕ → Type 0) : Type 0 where
  pub first : Inv (power_on app) (initial_cells o.tree.decls)
  pub kept : (s : Model) (cells : List ℕ) → Inv s cells → (item : Item) (t : Model) → Given item
      → step app s item ≡ Some t
      → AreQuiet (watched o cells item).acts × Inv t (watched o cells item).cells
