-- What a model has counted.
use Rattle.std.specs.Prelude.{ℕ, ◌≤◌, All}
use Rattle.sx_model.specs.State.{Model}

-- no node was reset, and no module was asked, more often than items were allowed
pub record CountsWithin (s : Model) (taken : ℕ) : Type 0 where
  pub boots : All (λ b. b ≤ taken) s.boots
  pub asks : s.asks ≤ taken
