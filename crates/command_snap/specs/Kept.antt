-- What the code that reads a schedule and its queries says of a line. Nobody has to believe this
-- file.
use Rattle.std.specs.Prelude.{◌≡◌, ℕ, ◌+◌, Bool, List, [], ◌∷◌, ◌++◌, length, Ok, IsOk}
use Rattle.sx_asm.specs.Assembled.{assembled}
use Rattle.sx_io.specs.Streams.{SourceAt}
use Rattle.sx_io.specs.Reading.{Answer}
use Rattle.sx_io.specs.Next.{Ahead}
use Rattle.command_promise.specs.Head.{head_lines}
use Rattle.sx_trace.specs.Names.{NameLists}
use Rattle.sx_sched.specs.Lines.{Line}
use Rattle.command_head.specs.Given.{GivenSince, WantsLast}
use Rattle.command_world.specs.Schedule.{judged_line}
use Rattle.command_snap.specs.Input.{judged_query}

-- the text is the next line of a schedule, and was kept
pub record KeepsLine (names : NameLists) (text : List ℕ) (before after : List Line) : Type 0 where
  pub line : Line
  pub judged : judged_line assembled names (length before + 1) text ≡ Ok line
  pub kept : after ≡ before ++ line ∷ []

-- a query about a schedule of so many lines may want memory, after these
abbrev pub query_may : NameLists → ℕ → List Answer → List ℕ → Type 0
query_may names last earlier text = IsOk (judged_query names last (length earlier + 1) text)

-- queries were given, and the last of them may want memory
abbrev pub QueriesWant : NameLists → ℕ → Bool → SourceAt → SourceAt → Ahead → Ahead → Type 0
QueriesWant names last tells s1 s2 old new = (queries : List Answer)
    × GivenSince head_lines head_lines tells s1 s2 old new queries
    × WantsLast head_lines (query_may names last) tells s1 s2 old queries
