-- The epochs with which ends are open.
use Rattle.std.specs.Prelude.{ℕ, slice_get, Option}
use Rattle.sx_model.specs.State.{Model}
use Rattle.sx_model.specs.Step.{◌>>?◌}

-- the epoch with which an end of a module is open, by its index among the module's ends; none where
-- it isn't open
abbrev pub open_epoch : Model → ℕ → ℕ → Option ℕ
open_epoch s m k =
    slice_get s.modules m >>? (λ x. x.present >>? (λ p. slice_get p.ends k >>? (λ e. e.epoch)))
