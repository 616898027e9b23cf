-- What a line of a schedule does to the program's world, and to its output. Nobody has to believe
-- this file: no promise cites it.
use Rattle.std.specs.Prelude.{ℕ, ◌+◌, ◌≡◌, ◌≢◌, Bool, false, List, [], length, ◌∷◌, ◌++◌, IsTrue}
use Rattle.std.specs.Prelude.{codes, flat_map}
use Rattle.sx_asm.specs.Assembled.{assembled}
use Rattle.sx_io.specs.Streams.{SinkAt}
use Rattle.sx_io.specs.Reading.{Answer}
use Rattle.sx_io.specs.Reading as answer
use Rattle.command_promise.specs.declared.status.Status.TheVariants.{OutOfMemory}
use Rattle.command_promise.specs.Told.{Output, behind}
use Rattle.command_promise.specs.declared.turned.Turned.{Turned}
use Rattle.command_promise.specs.declared.turned.Turned.TheVariants.{On, Stop}
use Rattle.sx_trace.specs.declared.items.Item.{Item}
use Rattle.sx_trace.specs.Names.{NameLists}
use Rattle.spec_run.specs.Setting.{Setting}
use Rattle.spec_run.specs.State.{World}
use Rattle.sx_world.specs.Held.{Held}
use Rattle.sx_world.specs.Standing.{Stands}
use Rattle.command_text.specs.Keeping.{DoesKept}
use Rattle.command_text.specs.Output.{line}
use Rattle.command_world.specs.Items.{items_text}
use Rattle.command_world.specs.Schedule.{Schedule, schedule}
use Rattle.command_run.specs.declared.trace.Shown.{Shown}
use Rattle.command_run.specs.declared.trace.Shown.TheVariants.{Items, Lines}
use Rattle.command_run.specs.Lines.{Performed, performed, texts_in}
use Rattle.command_run.specs.Output.{stop_output}

-- what comes before a line's items
abbrev pub front : Shown → List ℕ → List ℕ
front Items text = []
front Lines text = line (codes "> " ++ text)

-- what is written of a line that was performed
abbrev pub shown_text : Shown → NameLists → Performed → List ℕ
shown_text shown names p = front shown p.text ++ items_text names p.items

-- what is written of a schedule, whose lines have these texts
abbrev pub shown_output : Shown → NameLists → Setting → World → List (List ℕ) → Schedule → Output
shown_output shown names set w texts x =
    behind (flat_map (shown_text shown names) (performed set w texts x.lines))
    (stop_output x.stop)

-- what the schedule from the line with this number on writes
unfoldable pub shown_from : Shown → NameLists → Setting → World → ℕ → List Answer → Output
shown_from shown names set w number answers =
    shown_output shown names set w (texts_in answers) (schedule assembled names number answers)

-- Where memory ran out at a line that was performed, all that was kept and all that it made is
-- written: as many items as the line's act made.
abbrev pub TellsMade : Shown → Bool → SinkAt → SinkAt → List ℕ → NameLists → Held → Held → List ℕ
    → List Item → Turned → Type 0
TellsMade shown to_tell k0 k1 kept names held left text made turned =
    turned ≡ Stop OutOfMemory → left ≢ held
    → (held.ran_out ≡ false → length made ≡ left.made)
    × (IsTrue to_tell → k1.written
    ≡ k0.written ++ (kept ++ shown_text shown names (record { text = text; items = made })))

-- The line with this number was performed in the world w and what is shown of it was kept after
-- what was kept before, or the command ended.
pub record TurnsLine (shown : Shown) (to_tell : Bool) (k0 k1 : SinkAt) (kept more_kept : List ℕ)
    (names : NameLists) (set : Setting) (left : Held) (number : ℕ) (text : List ℕ)
    (turned : Turned) (w : World) : Type 0 where
  pub next : World
  pub stands : turned ≡ On → Stands set left next
  pub does : DoesKept to_tell k0 k1 kept more_kept
      (λ more. shown_from shown names set w number (answer.Line text ∷ more))
      turned (shown_from shown names set next (number + 1))

-- whatever world it was at
abbrev pub TurnsFrom : Shown → Bool → SinkAt → SinkAt → List ℕ → List ℕ → NameLists → Setting
    → Held → Held → ℕ → List ℕ → Turned → Type 0
TurnsFrom shown to_tell k0 k1 kept more_kept names set held left number text turned =
    (w : World) → Stands set held w
    → TurnsLine shown to_tell k0 k1 kept more_kept names set left number text turned w
