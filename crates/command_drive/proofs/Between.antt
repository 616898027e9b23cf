-- The state of an honest run between two lines of readings.
use Rattle.std.proofs.Common.{◌≡◌, ℕ, Bool, false, List}
use Rattle.sx_io.specs.Reading.{Answer, Limit}
use Rattle.sx_io.specs.Next.{Ahead}
use Rattle.command_promise.specs.Told.{CommandAt, Output}
use Rattle.command_promise.specs.Parts.{Begun, Notes}
use Rattle.sx_tag.specs.Mac.{Mac}
use Rattle.command_promise.specs.Head.{head_lines}
use Rattle.sx_deploy.specs.SeenDeployment.{deployed_as}
use Rattle.sx_deploy.specs.declared.deployment.Deployment.{Deployment}
use Rattle.spec_run.specs.Setting.{Setting}
use Rattle.sx_drive.specs.Honest.{Honest}
use Rattle.sx_drive.specs.Driving.{Follows, Kept}
use Rattle.command_drive.specs.Parts.{drive_from}

-- the program has a run of which no line was left out, and what is left is what is defined from the next line on in it
pub record Between (tells to_tell : Bool) (m1 m2 : CommandAt) (old new : Ahead) (mac : Mac) (d : Deployment) (set : Setting) (first : Honest) (kept : Kept) (number : ℕ) : Type 0 where
  pub honest : Honest
  pub follows : Follows mac d kept set honest
  pub short : honest.long ≡ false
  pub begun : (limit : Limit) (m0 : CommandAt) (defined : List Answer → Output) (aside : List Answer → List ℕ) (noted : List ℕ)
      → Begun tells to_tell limit head_lines m0 m1 old defined (drive_from (deployed_as d) set first 1) (Notes aside noted)
      → Begun tells to_tell limit head_lines m0 m2 new defined (drive_from (deployed_as d) set honest number) (Notes aside noted)
