-- The deployer and the source model renew alike.
use Rattle.std.specs.Prelude.{◌≡◌, ℕ, List, Option}
use Rattle.sx_mean.specs.Application.{AppTree}
use Rattle.sx_mean.specs.Ends.{ends_of}
use Rattle.sx_model.specs.Renewal as model
use Rattle.sx_deployer.specs.Keeping.{may_attest, renewed}

-- where the deployer keeps a module's ends in an application, it may attest the module where the
-- model may, and then raises the epochs that the model raises
abbrev pub RenewsAsTheModel : Type 0
RenewsAsTheModel = (app : AppTree) (m : ℕ) (last : Option ℕ) (boot : ℕ) (epochs : List ℕ) →
    (may_attest (ends_of app m) epochs last boot ≡ model.may_attest m app.links epochs last boot)
    × (renewed (ends_of app m) last epochs ≡ model.renewed m app.links last epochs)
