-- What a call that passes a line answers: what one for the next line would, with the line's first
-- bytes alone.
use Rattle.std.specs.Prelude.{ℕ, ◌≡◌, ⊤, Bool, List, take}
use Rattle.sx_io.specs.Streams.{SourceAt}
use Rattle.sx_io.specs.Next.{Ahead, Next}
use Rattle.sx_io.specs.declared.lines.LineRead.{LineRead}
use Rattle.sx_io.specs.declared.lines.LineRead.TheVariants as read
use Rattle.sx_io.specs.declared.lines.PassRead.{PassRead}
use Rattle.sx_io.specs.declared.lines.PassRead.TheVariants as pass
use Rattle.sx_io.specs.Passed.{longest_passed}

-- the answer as one of the calls that write the line
abbrev pub as_read : PassRead → LineRead
as_read (pass.Text n) = read.Text n
as_read pass.End = read.End
as_read pass.TooLong = read.TooLong
as_read pass.Failed = read.Failed

-- as many of the first bytes of a text as there is room for are in front
abbrev pub FrontOf : ℕ → LineRead → List ℕ → List ℕ → Type 0
FrontOf room (read.Text n) into front = take n front ≡ take room (take n into)
FrontOf room read.End into front = ⊤
FrontOf room read.TooLong into front = ⊤
FrontOf room read.Failed into front = ⊤

-- A call that passes a line answers what a call for the next line would, and the first 8 bytes of
-- its text are in front.
pub record Passes (tells : Bool) (s0 s1 : SourceAt) (old new : Ahead) (front : List ℕ)
    (answer : PassRead) : Type 0 where
  pub into : List ℕ
  pub next : Next longest_passed tells s0 s1 old new into (as_read answer)
  pub fronts : FrontOf 8 (as_read answer) into front
