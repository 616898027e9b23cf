-- How a part that reads follows on another.
use Rattle.std.proofs.Common.{ℕ, Bool, List}
use Rattle.sx_io.specs.Reading.{Answer, Limit}
use Rattle.sx_io.specs.Next.{Ahead}
use Rattle.sx_io.specs.Streams.{SinkAt, SourceAt}
use Rattle.command_promise.specs.Head.{head_lines}
use Rattle.command_promise.specs.Parts.{Begun, DoesPart, Notes}
use Rattle.command_promise.specs.Told.{CommandAt, Output, behind, command_at}
use Rattle.command_promise.specs.declared.turned.Turned.{Turned}
use Rattle.command_promise.specs.declared.turned.Turned.TheVariants.{On, Stop}
use Rattle.command_promise.proofs.Laws.{begun-put, told-stop}
use Rattle.command_batch.specs.Parts.{ReadsOn}

-- whatever came before, the command goes on from one of these to the other
abbrev pub LeadsOn : Bool → Bool → Ahead → Ahead → CommandAt → CommandAt → (List Answer → Output) → (List Answer → Output) → Type 0
LeadsOn tells to_tell old new m1 m2 before after =
    (limit : Limit) (m0 : CommandAt) (defined : List Answer → Output) (aside : List Answer → List ℕ) (noted : List ℕ)
    → Begun tells to_tell limit head_lines m0 m1 old defined before (Notes aside noted) → Begun tells to_tell limit head_lines m0 m2 new defined after (Notes aside noted)

-- a part that reads, after another
pub reads_then : {tells to_tell : Bool} {old now : Ahead} {m1 m2 : CommandAt} (new : Ahead) (m3 : CommandAt) (turned : Turned) (before left after : List Answer → Output)
    → LeadsOn tells to_tell old now m1 m2 before left → ReadsOn tells to_tell now new m2 m3 turned left after → ReadsOn tells to_tell old new m1 m3 turned before after
reads_then new m3 On before left after f r = λ limit m0 defined aside noted b. r limit m0 defined aside noted (f limit m0 defined aside noted b)
reads_then new m3 (Stop status) before left after f r = λ limit m0 defined aside noted b. r limit m0 defined aside noted (f limit m0 defined aside noted b)

-- a text is written after it
pub reads_put : {tells to_tell : Bool} {old new : Ahead} {m1 : CommandAt} {s2 : SourceAt} {k2 : SinkAt} (k3 : SinkAt) (turned : Turned) (text : List ℕ) (before after : List Answer → Output)
    → LeadsOn tells to_tell old new m1 (command_at s2 k2) before (λ more. behind text (after more)) → DoesPart to_tell k2 k3 (λ more. behind text (after more)) turned after
    → ReadsOn tells to_tell old new m1 (command_at s2 k3) turned before after
reads_put k3 On text before after f w = λ limit m0 defined aside noted b. begun-put (λ more. behind text (after more)) after (f limit m0 defined aside noted b) w
reads_put k3 (Stop status) text before after f w = λ limit m0 defined aside noted b. told-stop (f limit m0 defined aside noted b) w
