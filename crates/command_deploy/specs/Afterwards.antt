-- What the code that deploys says of itself, whatever the command's own part is. Nobody has to
-- believe this file.
use Rattle.std.specs.Prelude.{ℕ, ◌≡◌, ◌⊎◌, Bool, List, Option, None, Result, Ok}
use Rattle.sx_io.specs.Reading.{Answer}
use Rattle.sx_io.specs.Next.{Ahead}
use Rattle.command_promise.specs.declared.status.Status.{Status}
use Rattle.command_promise.specs.declared.status.Status.TheVariants.{Refused, ReadFailed, OutOfMemory}
use Rattle.command_promise.specs.Told.{CommandAt, Output, Told}
use Rattle.command_promise.specs.Parts.{Rest}
use Rattle.command_promise.specs.Told.{unread_output}
use Rattle.sx_entries.specs.declared.fault.DeployFault.{DeployFault}
use Rattle.sx_tag.specs.Mac.{Mac}
use Rattle.command_promise.specs.Head.{Head, head, head_lines}
use Rattle.sx_deploy.specs.Deployment.{Deployed, IsRead}
use Rattle.spec_run.specs.Accepted.{AreByteTexts, AreImages}
use Rattle.command_head.specs.Begun.{ReadsAs, HasHead, Starved}
use Rattle.command_head.specs.Ends.{RanOut}
use Rattle.command_head.specs.Given.{RanOutSince}
use Rattle.command_head.specs.Meanings.{Meaning, IsMeaning}
use Rattle.command_head.specs.Refused.{fault_output}
use Rattle.command_head.specs.Wanting.{RanOutAt}
use Rattle.command_world.specs.Compiled.{compiled_texts}
use Rattle.command_deploy.specs.Output.{OwnOutput, Wants, by_deployment, by_head, deploy_output}

-- what is written of a deployment that was read, or the rule that it breaks
abbrev pub found_output : OwnOutput → List (List ℕ) → Result Deployed DeployFault → List Answer
    → Output
found_output own texts r more = by_deployment (λ d. own d texts) fault_output r more

-- what is written of an input's head
abbrev pub head_output : OwnOutput → Meaning → List (List ℕ) → Head → Output
head_output own meaning texts h = by_head (λ d. own d texts) fault_output unread_output meaning h

-- the exit status by an input's head
abbrev pub head_status : (Deployed → List Answer → Status) → Meaning → Head → Status
head_status own meaning h = by_head own (λ f. Refused) ReadFailed meaning h

-- What does the rest of the command after a head of this text: with these images, which realize its
-- modules, it writes what is defined for what is to come.
pub record DeploysBehind (mac : Mac) (own : OwnOutput) (may : Wants) (tells to_tell : Bool)
    (now : Ahead)
    (m1 m2 : CommandAt)
    (status : Status)
    (text : List ℕ) : Type 0 where
  pub texts : List (List ℕ)
  pub realize : (d : Deployed) → IsRead text (Ok d) → AreImages mac d texts
  pub made : (d : Deployed) → IsRead text (Ok d) → texts ≡ compiled_texts d
  pub bytes : AreByteTexts texts
  pub rest : (meaning : Meaning) → IsMeaning meaning
      → Rest tells to_tell head_lines now m1 m2 status (found_output own texts (meaning text))
  pub wanted : status ≡ OutOfMemory → (d : Deployed) × IsRead text (Ok d)
      × (new : Ahead)
      × RanOutSince head_lines head_lines (may d) tells m1.source m2.source now new

-- the rest of the command, or that memory ran out before the images were made
abbrev pub DeploysOrRanOut : Mac → OwnOutput → Wants → Bool → Bool → Ahead → CommandAt → CommandAt
    → Status → List ℕ → Type 0
DeploysOrRanOut mac own may tells to_tell now m1 m2 status text =
    RanOut m1 m2 status ⊎ DeploysBehind mac own may tells to_tell now m1 m2 status text

-- The whole command: there are images that realize the modules of the deployment that was read, and
-- what was written is what is defined with them.
pub record ToldWith (mac : Mac) (own : OwnOutput) (tells to_tell : Bool) (m0 m1 : CommandAt)
    (status : Status) : Type 0 where
  pub deployment : Option (List ℕ)
  pub texts : List (List ℕ)
  pub bytes : AreByteTexts texts
  pub headed : deployment ≡ None → status ≡ OutOfMemory → ⊥
  pub realize : (d : Deployed) → ReadsAs deployment d → AreImages mac d texts
  pub made : (d : Deployed) → ReadsAs deployment d → texts ≡ compiled_texts d
  pub told : (meaning : Meaning) → IsMeaning meaning
      → Told tells to_tell head_lines m0 m1 status (deploy_output own meaning texts)
      (λ answers. HasHead deployment (head answers))

-- this, or that memory ran out before the images were made; and where it ran out, at which line
pub record DeployTold (mac : Mac) (own : OwnOutput) (may : Wants) (tells to_tell : Bool)
    (m0 m1 : CommandAt)
    (status : Status) : Type 0 where
  pub says : Starved tells m0 m1 status ⊎ ToldWith mac own tells to_tell m0 m1 status
  pub memory : status ≡ OutOfMemory → RanOutAt head_lines may tells m0 m1
