-- What a command that deploys promises, of its streams at its start (m0) and at its end (m1).
use Rattle.std.specs.Prelude.{ℕ, ◌≡◌, ◌⊎◌, ◌++◌, Bool, List, [], Option, None, IsTrue}
use Rattle.sx_io.specs.Reading.{Answer}
use Rattle.command_promise.specs.declared.status.Status.{Status}
use Rattle.command_promise.specs.declared.status.Status.TheVariants.{Done, OutOfMemory}
use Rattle.command_promise.specs.Told.{CommandAt, Told}
use Rattle.command_promise.specs.Further.{Streams}
use Rattle.sx_tag.specs.Mac.{Mac}
use Rattle.command_promise.specs.Head.{head, head_lines}
use Rattle.sx_deploy.specs.Deployment.{Deployed}
use Rattle.spec_run.specs.Accepted.{AreImages}
use Rattle.command_text.specs.Faults.{IsFaultless, TellsFaults}
use Rattle.command_head.specs.Begun.{ReadsAs, HasHead, Starved}
use Rattle.command_head.specs.Meanings.{Meaning, IsMeaning, input_of}
use Rattle.command_head.specs.Wanting.{RanOutAt}
use Rattle.command_world.specs.Compiled.{compiled_texts}
use Rattle.command_deploy.specs.Output.{OwnOutput, Wants, deploy_output, deploy_status}

-- What a command that deploys has of its own: what it writes after the head, and its status there,
-- whatever the images are; the statuses with which it is cut short, whatever the input is; at which
-- lines memory may run out; and what it promises of the images that were made, for a head of this
-- text or for none.
pub record OwnPart : Type 1 where
  pub output : OwnOutput
  pub status : Deployed → List Answer → Status
  pub Cut : Status → Type 0
  pub MayWant : Wants
  pub With : Option (List ℕ) → List (List ℕ) → Type 0

-- There are images, each of which realizes its module of the deployment that was read, and they
-- follow from the deployment alone (`made`); what was written is what is defined with them
-- (`told`); no more was taken than must be (`streams`); and the command's own promises hold of them
-- (`own`). An input of status 0 is taken to its end, unless the command was cut short (`complete`).
-- That there is no head is reported without memory (`headed`).
pub record DeploysWith (mac : Mac) (part : OwnPart) (tells to_tell : Bool) (m0 m1 : CommandAt)
    (status : Status) : Type 0 where
  pub deployment : Option (List ℕ)
  pub texts : List (List ℕ)
  pub headed : deployment ≡ None → status ≡ OutOfMemory → ⊥
  pub realize : (d : Deployed) → ReadsAs deployment d → AreImages mac d texts
  pub made : (d : Deployed) → ReadsAs deployment d → texts ≡ compiled_texts d
  pub told : (meaning : Meaning) → IsMeaning meaning
      → Told tells to_tell head_lines m0 m1 status (deploy_output part.output meaning texts)
      (λ answers. HasHead deployment (head answers))
  pub streams : (meaning : Meaning) → IsMeaning meaning
      → Streams tells to_tell head_lines m0 m1 (deploy_output part.output meaning texts)
  pub own : part.With deployment texts
  pub complete : (meaning : Meaning) → IsMeaning meaning → IsTrue tells
      → deploy_status part.status meaning (input_of m0) ≡ Done → IsFaultless m0 m1
      → part.Cut status ⊎ ((status ≡ Done) × (IsTrue to_tell → m1.sink.written
      ≡ m0.sink.written ++ (deploy_output part.output meaning texts (input_of m0)).text))

-- A command that deploys. Whatever the images are, its status is that of the input if no read
-- and no write failed, unless the command was cut short; status 0 says that the input was read to
-- its end. If memory ran out, no line after the head was given, or the last that was given is
-- one at which it may (`memory`).
pub record DeployPromise (mac : Mac) (part : OwnPart) (tells to_tell : Bool) (m0 m1 : CommandAt)
    (status : Status) : Type 0 where
  pub says : Starved tells m0 m1 status ⊎ DeploysWith mac part tells to_tell m0 m1 status
  pub faults : TellsFaults m0 m1 status
  pub read_all : status ≡ Done → IsTrue tells → m1.source.rest ≡ []
  pub exact : (meaning : Meaning) → IsMeaning meaning → IsTrue tells → IsFaultless m0 m1
      → part.Cut status ⊎ (status ≡ deploy_status part.status meaning (input_of m0))
  pub memory : status ≡ OutOfMemory → RanOutAt head_lines part.MayWant tells m0 m1
