-- The lines that the loop of an own part was given, which counts them from 1.
use Rattle.std.proofs.Common.{◌≡◌, ◌+◌, inr, ◌∷◌, ◌++◌, ℕ, [], Bool, List, length, take, arith, refl}
use Rattle.std.proofs.lemmas.List.{length-append}
use Rattle.sx_io.specs.Streams.{SourceAt}
use Rattle.sx_io.specs.Reading.{Answer, Line, longest}
use Rattle.sx_io.specs.Next.{Ahead, Next}
use Rattle.sx_io.specs.declared.lines.LineRead.TheVariants as read
use Rattle.command_promise.specs.Head.{head_lines}
use Rattle.command_head.specs.Given.{GivenSince, RanOutSince}
use Rattle.command_head.proofs.Given.{given_line, given_none, wants_last}

-- the next line has this number
pub record Gave (tells : Bool) (s1 s2 : SourceAt) (old new : Ahead) (number : ℕ) : Type 0 where
  pub lines : List Answer
  pub numbered : number ≡ length lines + 1
  pub since : GivenSince head_lines head_lines tells s1 s2 old new lines

-- none was given
unfoldable pub gave_none : (tells : Bool) (s : SourceAt) (a : Ahead) → Gave tells s s a a 1
gave_none tells s a = record { lines = []; numbered = refl; since = given_none head_lines tells s a }

-- one more
unfoldable pub gave_line : {tells : Bool} {s1 s2 s3 : SourceAt} {old now new : Ahead} {number : ℕ} (into : List ℕ) (n : ℕ)
    → Gave tells s1 s2 old now number → Next longest tells s2 s3 now new into (read.Text n) → Gave tells s1 s3 old new (number + 1)
gave_line {tells} {s1} {s2} {s3} {old} {now} {new} {number} into n g next = record {
  lines = g.lines ++ Line (take n into) ∷ [];
  numbered = (let l = length-append g.lines (Line (take n into) ∷ []) in let k = g.numbered in omega (arith, l, k));
  since = given_line g.lines into n g.since next;
}

-- at which memory ran out
pub gave_last : {tells : Bool} {s1 s2 s3 : SourceAt} {old now new : Ahead} {number : ℕ} (May : List Answer → List ℕ → Type 0) (into : List ℕ) (n : ℕ) (g : Gave tells s1 s2 old now number)
    → Next longest tells s2 s3 now new into (read.Text n) → May g.lines (take n into) → RanOutSince head_lines head_lines May tells s1 s3 old new
gave_last {tells} {s1} {s2} {s3} {old} {now} {new} {number} May into n g next may =
    (g.lines ++ Line (take n into) ∷ [], given_line g.lines into n g.since next, inr (wants_last May g.lines into n g.since next may))
