-- What two calls have in common, of which the first has its streams at m0 and at m1, the second at
-- k0 and at k1; and in which setting a call runs its deployment.
use Rattle.std.specs.Prelude.{◌≡◌, ℕ, Bool, List, ◌++◌}
use Rattle.command_promise.specs.declared.status.Status.{Status}
use Rattle.command_promise.specs.declared.status.Status.TheVariants.{OutOfMemory}
use Rattle.command_promise.specs.Told.{CommandAt}
use Rattle.sx_tag.specs.Mac.{Mac}
use Rattle.sx_deploy.specs.Deployment.{Deployed}
use Rattle.spec_run.specs.Setting.{Setting}
use Rattle.spec_run.specs.Accepted.{setting_of}
use Rattle.command_text.specs.Faults.{IsFaultless}
use Rattle.command_head.specs.Begun.{ReadsAs}
use Rattle.command_deploy.specs.Promise.{DeploysWith, OwnPart}

-- no read and no write of a call failed, and memory sufficed
abbrev pub IsUnhindered : CommandAt → CommandAt → Status → Type 0
IsUnhindered m0 m1 status = IsFaultless m0 m1 × (status ≡ OutOfMemory → ⊥)

-- both write the same, and end with the same status
pub record WriteTheSame (m0 m1 : CommandAt) (status : Status)
    (k0 k1 : CommandAt) (again : Status) : Type 0 where
  pub status_is : status ≡ again
  pub text : List ℕ
  pub first : m1.sink.written ≡ m0.sink.written ++ text
  pub second : k1.sink.written ≡ k0.sink.written ++ text

-- each call of a command that deploys runs the deployment in this setting
abbrev pub RunsIn : Mac → OwnPart → Deployed → Setting → Type 0
RunsIn mac part d set =
    (tells to_tell : Bool) (m0 m1 : CommandAt) (status : Status)
    (w : DeploysWith mac part tells to_tell m0 m1 status) → ReadsAs w.deployment d
    → setting_of mac d w.texts ≡ set
