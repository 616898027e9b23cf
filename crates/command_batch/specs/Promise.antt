-- What the command `batch` promises, of its streams at its start (m0) and at its end (m1).
use Rattle.std.specs.Prelude.{ℕ, ◌≡◌, ◌⊎◌, Bool, true, List}
use Rattle.sx_io.specs.Reading.{Answer}
use Rattle.command_promise.specs.declared.status.Status.{Status}
use Rattle.command_promise.specs.declared.status.Status.TheVariants.{OutOfMemory}
use Rattle.command_promise.specs.Head.{is_mark}
use Rattle.command_promise.specs.Told.{CommandAt}
use Rattle.sx_tag.specs.Mac.{Mac}
use Rattle.sx_sched.specs.Reading.{Assembler}
use Rattle.sx_deploy.specs.Deployment.{Deployed}
use Rattle.command_deploy.specs.Promise.{DeployPromise, OwnPart}
use Rattle.command_world.specs.Schedule.{judged_line}
use Rattle.command_world.specs.Turning.{MayRunOut}
use Rattle.command_run.specs.Promise.{RunsWith}
use Rattle.command_batch.specs.Output.{batch_deployed}
use Rattle.command_batch.specs.Status.{batch_status}

-- memory may run out at a mark, where the world is copied, and at a line at which it may in `run`
abbrev pub batch_may : Assembler → Deployed → List Answer → List ℕ → Type 0
batch_may assemble d earlier text =
    (is_mark text ≡ true) ⊎ MayRunOut (judged_line assemble d.names 1 text)

-- what is `batch`'s own after the head; each schedule after the common lines is a schedule of
-- `run`, so what holds of its runs holds of these
abbrev pub batch_part : Assembler → Mac → OwnPart
batch_part assemble mac = record {
  output = batch_deployed assemble mac;
  status = batch_status assemble;
  Cut = λ status. status ≡ OutOfMemory;
  MayWant = batch_may assemble;
  With = RunsWith assemble mac;
}

-- the command `batch`
abbrev pub BatchPromise : Assembler → Mac → Bool → Bool → CommandAt → CommandAt → Status → Type 0
BatchPromise assemble mac = DeployPromise mac (batch_part assemble mac)
