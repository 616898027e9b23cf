-- How a command that deploys begins: by the head of its input, and where memory runs out after it.
use Rattle.std.specs.Prelude.{ℕ, ◌≡◌, Bool, List, Option, Some, None, Ok}
use Rattle.command_promise.specs.declared.status.Status.{Status}
use Rattle.command_promise.specs.declared.status.Status.TheVariants.{OutOfMemory}
use Rattle.command_promise.specs.Reads.{Reads}
use Rattle.command_promise.specs.Told.{CommandAt}
use Rattle.command_promise.specs.Head.{Head, Found, Unread, head, head_lines}
use Rattle.sx_deploy.specs.Deployment.{Deployed, IsRead}

-- this head is in the input, or none
abbrev pub HasHead : Option (List ℕ) → Head → Type 0
HasHead None (Found text more) = ⊥
HasHead None _ = Unit {0}
HasHead (Some text) (Found found more) = found ≡ text
HasHead (Some text) _ = ⊥

-- the head is the text of this deployment, which keeps the rules
abbrev pub ReadsAs : Option (List ℕ) → Deployed → Type 0
ReadsAs None d = ⊥
ReadsAs (Some text) d = IsRead text (Ok d)

-- memory ran out after a head and before the images were made, and nothing was written
pub record Starved (tells : Bool) (m0 m1 : CommandAt) (status : Status) : Type 0 where
  pub six : status ≡ OutOfMemory
  pub sink : m1.sink ≡ m0.sink
  pub text : List ℕ
  pub reads : Reads tells head_lines m0.source m1.source head Unread
      (λ answers. HasHead (Some text) (head answers))
