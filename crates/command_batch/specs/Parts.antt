-- What a line does to the program's world, and to its output, and what a part that reads does.
-- Nobody has to believe this file: the promise doesn't cite it.
use Rattle.std.specs.Prelude.{ℕ, ◌+◌, ◌≡◌, ◌≢◌, ◌==◌, if◌then◌else◌, Bool, false, List, ◌∷◌, ◌++◌}
use Rattle.std.specs.Prelude.{IsTrue, length}
use Rattle.sx_asm.specs.Assembled.{assembled}
use Rattle.sx_io.specs.Streams.{SinkAt, SourceAt}
use Rattle.sx_io.specs.Next.{Ahead}
use Rattle.sx_io.specs.Reading.{Answer, Limit}
use Rattle.sx_io.specs.Reading as answer
use Rattle.command_promise.specs.declared.status.Status.TheVariants.{OutOfMemory}
use Rattle.command_promise.specs.Head.{head_lines}
use Rattle.command_promise.specs.Told.{CommandAt, CommandEnds, Output}
use Rattle.command_promise.specs.Parts.{Begun, DoesPart, Notes, Rest, WroteSome}
use Rattle.command_promise.specs.declared.turned.Turned.{Turned}
use Rattle.command_promise.specs.declared.turned.Turned.TheVariants as turn
use Rattle.sx_trace.specs.declared.items.Item.{Item}
use Rattle.sx_trace.specs.Names.{NameLists}
use Rattle.spec_run.specs.Setting.{Setting}
use Rattle.spec_run.specs.State.{World}
use Rattle.sx_world.specs.Held.{Held}
use Rattle.sx_world.specs.Standing.{Stands}
use Rattle.command_world.specs.Items.{items_text}
use Rattle.command_batch.specs.declared.schedules.Outcome.{Outcome}
use Rattle.command_batch.specs.declared.schedules.Outcome.TheVariants.{Broken, On, Stop}
use Rattle.sx_deploy.specs.Deployment.{Deployed}
use Rattle.command_head.specs.Given.{GivenSince, WantsLast}
use Rattle.command_batch.specs.Promise.{batch_may}
use Rattle.command_batch.specs.Output.{Passes, Runs, common_from, last_number, long_output}
use Rattle.command_batch.specs.Output.{most_schedules, schedules_from}

-- the program's world is one of a run
abbrev pub HasStood : Setting → Held → Type 0
HasStood set held = (w : World) × Stands set held w

-- A common line was performed in the world w, or the command ended.
pub record TurnsCommon (to_tell : Bool) (k0 k1 : SinkAt) (names : NameLists) (set : Setting)
    (left : Held) (number : ℕ) (text : List ℕ) (turned : Turned) (w : World) : Type 0 where
  pub next : World
  pub stands : turned ≡ turn.On → Stands set left next
  pub does : DoesPart to_tell k0 k1
      (λ more. common_from assembled names set w number (answer.Line text ∷ more))
      turned (common_from assembled names set next (number + 1))

-- what is written after the line with this number of a schedule whose lines are passed over
abbrev pub passed_from : NameLists → Setting → World → ℕ → ℕ → ℕ → List Answer → Output
passed_from names set start first count number more =
    if number == last_number then long_output
    else schedules_from assembled names set start first count Passes (number + 1) more

-- what is written after the mark of a schedule
abbrev pub next_from : NameLists → Setting → World → ℕ → ℕ → List Answer → Output
next_from names set start first count more =
    if count == most_schedules then long_output
    else schedules_from assembled names set start first (count + 1) (Runs start) first more

-- a part that writes, by how the schedule goes on after it
abbrev pub RepliesPart : Bool → SinkAt → SinkAt → (List Answer → Output) → Outcome
    → (List Answer → Output) → (List Answer → Output) → Type 0
RepliesPart to_tell k0 k1 before On on broken = WroteSome to_tell k0 k1 before on
RepliesPart to_tell k0 k1 before Broken on broken = WroteSome to_tell k0 k1 before broken
RepliesPart to_tell k0 k1 before (Stop status) on broken =
    (more : List Answer) → CommandEnds to_tell k0 k1 status (before more)

-- A line of a schedule was performed in the world w, or it broke a rule, or the command ended; and
-- what is shown of it was written.
pub record RepliesLine (to_tell : Bool) (k0 k1 : SinkAt) (names : NameLists) (set : Setting)
    (left : Held) (number : ℕ) (text : List ℕ) (outcome : Outcome) (w : World) : Type 0 where
  pub next : World
  pub stands : outcome ≡ On → Stands set left next
  pub replies : (start : World) (first count : ℕ) → RepliesPart to_tell k0 k1
      (λ more. schedules_from assembled names set start first count (Runs w) number
      (answer.Line text ∷ more)) outcome
      (schedules_from assembled names set start first count (Runs next) (number + 1))
      (passed_from names set start first count number)

-- Where memory ran out at a line that was performed, all that it made is written: as many items
-- as the line's act made.
abbrev pub TellsMade : Bool → SinkAt → SinkAt → NameLists → Held → Held → List Item → Outcome
    → Type 0
TellsMade to_tell k0 k1 names held left made outcome =
    outcome ≡ Stop OutOfMemory → left ≢ held
    → (held.ran_out ≡ false → length made ≡ left.made)
    × (IsTrue to_tell → k1.written ≡ k0.written ++ items_text names made)

-- A part that reads: whatever came before, the command goes on to this, or it has ended.
abbrev pub ReadsOn : Bool → Bool → Ahead → Ahead → CommandAt → CommandAt → Turned
    → (List Answer → Output) → (List Answer → Output) → Type 0
ReadsOn tells to_tell old new m1 m2 turn.On before after =
    (limit : Limit) (m0 : CommandAt) (defined : List Answer → Output)
    (aside : List Answer → List ℕ) (noted : List ℕ)
    → Begun tells to_tell limit head_lines m0 m1 old defined before (Notes aside noted)
    → Begun tells to_tell limit head_lines m0 m2 new defined after (Notes aside noted)
ReadsOn tells to_tell old new m1 m2 (turn.Stop status) before after =
    Rest tells to_tell head_lines old m1 m2 status before

-- some lines were given since
pub record Since (tells : Bool) (s1 s2 : SourceAt) (old new : Ahead) : Type 0 where
  pub lines : List Answer
  pub given : GivenSince head_lines head_lines tells s1 s2 old new lines

-- the last line that was given since may want memory, and nothing came after it
abbrev pub WantsSince : Deployed → Bool → SourceAt → SourceAt → Ahead → Ahead → Type 0
WantsSince d tells s1 s2 old new = (given : List Answer)
    × GivenSince head_lines head_lines tells s1 s2 old new given
    × WantsLast head_lines (batch_may assembled d) tells s1 s2 old given

-- if so much was given before this part, it is so after it too
abbrev pub KeepsWanting : Deployed → Bool → SourceAt → SourceAt → Ahead → Ahead → Type 0
KeepsWanting d tells s2 s3 now new = (s1 : SourceAt) (old : Ahead)
    → WantsSince d tells s1 s2 old now → WantsSince d tells s1 s3 old new

-- whatever was given before this part, the last line that was given in it may want memory
abbrev pub EndsWanting : Deployed → Bool → SourceAt → SourceAt → Ahead → Ahead → Type 0
EndsWanting d tells s2 s3 now new = (s1 : SourceAt) (old : Ahead) → Since tells s1 s2 old now
    → WantsSince d tells s1 s3 old new
