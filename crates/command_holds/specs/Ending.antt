-- How the parts of the command end. Nobody has to believe this file.
use Rattle.std.specs.Prelude.{◌≡◌, ℕ, Bool, List, Ok}
use Rattle.sx_io.specs.Streams.{SourceAt, SinkAt}
use Rattle.sx_io.specs.Next.{Ahead}
use Rattle.command_promise.specs.declared.status.Status.{Status}
use Rattle.command_promise.specs.declared.status.Status.TheVariants.{Done}
use Rattle.command_promise.specs.Told.{CommandAt, CommandEnds, Told, command_at}
use Rattle.command_promise.specs.Reads.{anything}
use Rattle.command_promise.specs.Got.{Got}
use Rattle.command_promise.specs.Head.{Found, Unread, head, head_lines}
use Rattle.sx_deploy.specs.Deployment.{Deployed}
use Rattle.sx_watch.specs.Watched.{PropertyTree}
use Rattle.law_never.specs.Never.{IsNeverBroken}
use Rattle.command_holds.specs.Output.{AreMeanings, Decision, Meanings, decided_output, holds_all}
use Rattle.command_holds.specs.Parts.{holds_property}
use Rattle.command_holds.specs.Promise.{NeverProperty, SaysOf}

-- nothing was shown, and that was written
abbrev pub GivesUp : Bool → SinkAt → SinkAt → Status → Type 0
GivesUp to_tell k0 k1 status = (decision : Decision) × CommandEnds to_tell k0 k1 status
    (decided_output decision) × (status ≡ Done → ⊥)

-- what was decided of a property was written, and status 0 says that it is never broken
abbrev pub AnswersOf : Bool → SinkAt → SinkAt → Status → Deployed → PropertyTree → Type 0
AnswersOf to_tell k0 k1 status d p = (decision : Decision) × CommandEnds to_tell k0 k1 status
    (decided_output decision) × (status ≡ Done → IsNeverBroken d.app p)

-- so of a property's text
abbrev pub EndsOf : Bool → SinkAt → SinkAt → Status → Deployed → List ℕ → Type 0
EndsOf to_tell k0 k1 status d text = (decision : Decision)
    × ((means : Meanings) → AreMeanings means
    → CommandEnds to_tell k0 k1 status (holds_property decision (means.property d.names d.app text))
    × (status ≡ Done → NeverProperty d (means.property d.names d.app text)))

-- whatever was read before, if this text is the head
abbrev pub EndsBehind : Bool → Bool → SourceAt → SourceAt → Ahead → SinkAt → SinkAt
    → Status → List ℕ → Meanings → Decision → Type 0
EndsBehind tells to_tell s1 s2 now k0 k1 status text means decision = (s0 : SourceAt)
    → Got tells head_lines head_lines s0 s1 now head (λ more. Found text more) Unread anything
    → Told tells to_tell head_lines (command_at s0 k0) (command_at s2 k1) status
    (holds_all means decision) (SaysOf means status)

-- after a text that is this deployment
abbrev pub DeployedEnds : Bool → Bool → SourceAt → SourceAt → Ahead → SinkAt → SinkAt
    → Status → Deployed → Type 0
DeployedEnds tells to_tell s1 s2 now k0 k1 status d = (decision : Decision)
    × ((means : Meanings) → AreMeanings means → (text : List ℕ) → means.deployment text ≡ Ok d
    → EndsBehind tells to_tell s1 s2 now k0 k1 status text means decision)

-- after any text
abbrev pub TextEnds : Bool → Bool → SourceAt → SourceAt → Ahead → SinkAt → SinkAt → Status → List ℕ
    → Type 0
TextEnds tells to_tell s1 s2 now k0 k1 status text = (decision : Decision)
    × ((means : Meanings) → AreMeanings means
    → EndsBehind tells to_tell s1 s2 now k0 k1 status text means decision)

-- and of the whole command
abbrev pub ToldOf : Bool → Bool → CommandAt → CommandAt → Status → Type 0
ToldOf tells to_tell m0 m1 status = (decision : Decision)
    × ((means : Meanings) → AreMeanings means
    → Told tells to_tell head_lines m0 m1 status (holds_all means decision) (SaysOf means status))
