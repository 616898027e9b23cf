-- What a timeline keeps of a run.
use Rattle.std.specs.Prelude.{◌≡◌, ℕ, ◌+◌, ◌*◌, ◌<◌, ◌≤◌, false, List, [], ◌∷◌, ◌++◌, length, take}
use Rattle.std.specs.Prelude.{slice_get, Option, Some, None}
use Rattle.sx_tag.specs.Mac.{Mac}
use Rattle.sx_sched.specs.Lines.{Line}
use Rattle.sx_deploy.specs.Deployment.{Deployed}
use Rattle.sx_deploy.specs.Law.{IsSoundDeployment}
use Rattle.spec_run.specs.Setting.{Setting}
use Rattle.spec_run.specs.Accepted.{setting}
use Rattle.spec_run.specs.AcceptedLaw.{AreLines}
use Rattle.spec_run.specs.Law.{IsSoundSetting}
use Rattle.sx_world.specs.Held.{Held}
use Rattle.sx_world.specs.Whole.{next}
use Rattle.sx_world.specs.Standing.{Stands}
use Rattle.sx_snap.specs.Kept.{Kept}
use Rattle.sx_snap.specs.Timeline.{world_after}

-- The program's world is where the run of these lines leads, and no act of it ran out of
-- memory.
pub record StandsAfter (set : Setting) (lines : List Line) (held : Held) : Type 0 where
  pub sites : held.sites ≡ set.sites
  pub memory : held.ran_out ≡ false
  pub count : held.performed ≡ length lines
  pub stands : Stands set held (world_after set lines)

-- With one line more a timeline has no further checkpoint; or this world is the checkpoint.
abbrev pub NextCheckpoint : Mac → Deployed → Kept → Line → Option Held → Type 0
NextCheckpoint mac d t line None = length t.lines + 1 < length t.checkpoints * t.every
NextCheckpoint mac d t line (Some held) = (length t.lines + 1 ≡ length t.checkpoints * t.every)
    × StandsAfter (setting mac d t.sites) (t.lines ++ line ∷ []) held

-- A timeline of this deployment, which is sound and at whose sites its modules' images are: its
-- lines are in form, and each checkpoint is after as many of them as its place says. There are
-- as many checkpoints as the lines have room for.
pub record IsTimeline (mac : Mac) (d : Deployed) (t : Kept) : Type 0 where
  pub sound : IsSoundDeployment d
  pub images : IsSoundSetting (setting mac d t.sites)
  pub some : 1 ≤ t.every
  pub few : length t.lines ≤ 65536
  pub formed : AreLines d.names t.lines
  pub last : length t.checkpoints * t.every ≤ length t.lines + t.every
  pub next : length t.lines < length t.checkpoints * t.every
  pub checkpoint : (i : ℕ) (held : Held) → slice_get t.checkpoints i ≡ Some held
      → StandsAfter (setting mac d t.sites) (take (i * t.every) t.lines) held
