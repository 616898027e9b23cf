-- Text that is kept, to be written together before more of the input is read. Nobody has to believe
-- this file: it is for contracts of functions.
use Rattle.std.specs.Prelude.{◌≡◌, ℕ, Bool, List, [], ◌++◌, ◌⊎◌, IsTrue, Some, Result, Ok, Err}
use Rattle.sx_io.specs.Streams.{SinkAt}
use Rattle.sx_io.specs.Reading.{Answer, longest}
use Rattle.sx_io.specs.Next.{Ahead, GivesHeld, Next}
use Rattle.sx_io.specs.declared.lines.LineRead.{LineRead}
use Rattle.sx_io.specs.declared.lines.LineRead.TheVariants.{Text}
use Rattle.sx_io.specs.declared.outside.Failed.{Failed}
use Rattle.command_promise.specs.Told.{CommandAt, CommandEnds, Output, behind}
use Rattle.command_promise.specs.declared.turned.Turned.{Turned}
use Rattle.command_promise.specs.declared.turned.Turned.TheVariants.{On, Stop}
use Rattle.command_text.specs.Batch.{WritesPrefix, WritesUpTo}

-- a text was written whole
pub record Wrote (to_tell : Bool) (k0 k1 : SinkAt) (text : List ℕ) : Type 0 where
  pub wrote : IsTrue to_tell → k1.written ≡ k0.written ++ text
  pub no_fault : k1.faults ≡ k0.faults

-- that, or one write failed, by the answer
abbrev pub Puts : Bool → SinkAt → SinkAt → List ℕ → Result (Unit {0}) Failed → Type 0
Puts to_tell k0 k1 text (Ok done) = Wrote to_tell k0 k1 text
Puts to_tell k0 k1 text (Err failed) = WritesPrefix to_tell k0 k1 text

-- the line was held
abbrev pub WasHeld : Ahead → Ahead → List ℕ → LineRead → Type 0
WasHeld old new into (Text n) = GivesHeld old new into (Some n)
WasHeld old new into _ = ⊥

-- The next line was held, and nothing was written or read; or all that was kept was written, and
-- then the line was asked for.
abbrev pub ComesNext : Bool → Bool → CommandAt → CommandAt → List ℕ → List ℕ → Ahead → Ahead
    → List ℕ → Result LineRead Failed → Type 0
ComesNext tells to_tell m0 m1 kept left old new into (Ok answer) =
    ((m1 ≡ m0) × (left ≡ kept) × WasHeld old new into answer)
    ⊎ (Wrote to_tell m0.sink m1.sink kept × (left ≡ [])
    × Next longest tells m0.source m1.source old new into answer)
ComesNext tells to_tell m0 m1 kept left old new into (Err failed) =
    WritesPrefix to_tell m0.sink m1.sink kept × (m1.source ≡ m0.source)

-- What a part makes due was kept after what was kept before, of which some may have been written.
pub record KeepsSome (to_tell : Bool) (k0 k1 : SinkAt) (kept left : List ℕ) (before after : List
    Answer → Output) : Type 0 where
  pub text : List ℕ
  pub up_to : WritesUpTo to_tell k0 k1 (kept ++ text) left
  pub same : (more : List Answer) → before more ≡ behind text (after more)

-- that, or the part ended the command after what was kept
abbrev pub DoesKept : Bool → SinkAt → SinkAt → List ℕ → List ℕ → (List Answer → Output) → Turned
    → (List Answer → Output) → Type 0
DoesKept to_tell k0 k1 kept left before On after = KeepsSome to_tell k0 k1 kept left before after
DoesKept to_tell k0 k1 kept left before (Stop status) after =
    (more : List Answer) → CommandEnds to_tell k0 k1 status (behind kept (before more))
