-- What the command `lines` promises, of its streams at its start (m0) and at its end (m1).
use Rattle.std.specs.Prelude.{ℕ, ◌≡◌, Bool, List, Ok}
use Rattle.command_promise.specs.declared.status.Status.{Status}
use Rattle.command_promise.specs.declared.status.Status.TheVariants.{OutOfMemory}
use Rattle.command_promise.specs.Told.{CommandAt}
use Rattle.sx_tag.specs.Mac.{Mac}
use Rattle.sx_trace.specs.declared.items.Item.{Item}
use Rattle.sx_model.specs.Legal.{Legal}
use Rattle.sx_model.specs.Consequences.{TellsReader}
use Rattle.sx_model.specs.order.Legal.{LegalInOrder}
use Rattle.sx_model.specs.order.Turns.{OneAtATime}
use Rattle.sx_explain.specs.Causes.{HasCauses}
use Rattle.sx_explain.specs.Finished.{EventsAreFinished}
use Rattle.sx_explain.specs.Sending.{TakenBehind}
use Rattle.sx_deploy.specs.Deployment.{Deployed, IsRead}
use Rattle.sx_sched.specs.Reading.{Assembler}
use Rattle.law_forgery.specs.Named.{NamesAgree}
use Rattle.law_forgery.specs.Unseen.{RunsKeysUnseen}
use Rattle.law_connections.specs.Found.{KeysFound}
use Rattle.command_deploy.specs.Promise.{DeployPromise, OwnPart}
use Rattle.command_world.specs.Status.{schedule_status}
use Rattle.command_run.specs.Lines.{lines_deployed}
use Rattle.command_run.specs.Promise.{RunsWith, run_may}

-- what is its own after the head: the run is that of `run`, and so is what holds of it
abbrev pub lines_part : Assembler → Mac → OwnPart
lines_part assemble mac = record {
  output = lines_deployed assemble mac;
  status = schedule_status assemble;
  Cut = λ status. status ≡ OutOfMemory;
  MayWant = run_may assemble;
  With = RunsWith assemble mac;
}

-- the command `lines`
abbrev pub LinesSay : Assembler → Mac → Bool → Bool → CommandAt → CommandAt → Status → Type 0
LinesSay assemble mac = DeployPromise mac (lines_part assemble mac)

-- What `lines` promises, and beside it what a reader may take from its items, as `RunPromise` says it
-- of those of `run`.
pub record LinesPromise (assemble : Assembler) (mac : Mac) (tells to_tell : Bool) (m0 m1 : CommandAt)
    (status : Status) : Type 0 where
  pub says : LinesSay assemble mac tells to_tell m0 m1 status
  pub reader : (d : Deployed) (items : List Item) → Legal d.app items → TellsReader d.app items
  pub causes : (text : List ℕ) (d : Deployed) → IsRead text (Ok d) → (items : List Item)
      → Legal d.app items → HasCauses d.app items
  pub finished : (d : Deployed) (items : List Item) → LegalInOrder d.app items
      → OneAtATime d.app items → EventsAreFinished d.app items
  pub behind : (text : List ℕ) (d : Deployed) → IsRead text (Ok d) → (items : List Item)
      → LegalInOrder d.app items → TakenBehind d.app items
  pub keys : RunsKeysUnseen
  pub named : NamesAgree
  pub found : KeysFound
