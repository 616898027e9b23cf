-- Which lines a part of the command was given, and that the last of them may want memory.
use Rattle.std.proofs.Common.{◌≡◌, ℕ, Bool, true, false, List, [], ◌∷◌, ◌++◌, inl, inr, take, arith, nat_lt, Result, Err}
use Rattle.std.specs.Prelude.{if◌then◌else◌}
use Rattle.sx_asm.specs.Assembled.{assembled}
use Rattle.sx_io.specs.Streams.{SourceAt}
use Rattle.sx_io.specs.Reading.{Line, longest}
use Rattle.sx_io.specs.Next.{Ahead, Next}
use Rattle.sx_io.specs.declared.lines.LineRead.TheVariants as read
use Rattle.command_promise.specs.Head.{head_lines, is_mark}
use Rattle.sx_sched.specs.Lines as lines
use Rattle.sx_sched.specs.Reading.{said_line}
use Rattle.sx_deploy.specs.Deployment.{Deployed}
use Rattle.command_head.specs.Given.{RanOutSince}
use Rattle.command_head.proofs.Given.{given_line, given_none, given_then, wants_last}
use Rattle.command_world.specs.Schedule.{judged_line, or_rule}
use Rattle.command_world.specs.Turning.{MayRunOut}
use Rattle.command_batch.specs.Promise.{batch_may}
use Rattle.command_batch.specs.Parts.{Since, WantsSince}

-- none
unfoldable pub since_none : (tells : Bool) (s : SourceAt) (a : Ahead) → Since tells s s a a
since_none tells s a = record { lines = []; given = given_none head_lines tells s a }

-- one more
unfoldable pub since_line : {tells : Bool} {s1 s2 s3 : SourceAt} {old now new : Ahead} (into : List ℕ) (n : ℕ)
    → Since tells s1 s2 old now → Next longest tells s2 s3 now new into (read.Text n) → Since tells s1 s3 old new
since_line {tells} {s1} {s2} {s3} {old} {now} {new} into n g next = record {
  lines = g.lines ++ Line (take n into) ∷ [];
  given = given_line g.lines into n g.given next;
}

-- the next line may want memory
pub wants_line : {tells : Bool} {s1 s2 s3 : SourceAt} {old now new : Ahead} (d : Deployed) (into : List ℕ) (n : ℕ)
    → Since tells s1 s2 old now → Next longest tells s2 s3 now new into (read.Text n) → batch_may assembled d [] (take n into) → WantsSince d tells s1 s3 old new
wants_line {tells} {s1} {s2} {s3} {old} {now} {new} d into n g next may =
    (g.lines ++ Line (take n into) ∷ [], given_line g.lines into n g.given next, wants_last (batch_may assembled d) g.lines into n g.given next may)

-- also where others were given before
pub since_then : {tells : Bool} {s1 s2 s3 : SourceAt} {old now new : Ahead} → Since tells s1 s2 old now → Since tells s2 s3 now new → Since tells s1 s3 old new
since_then {tells} {s1} {s2} {s3} {old} {now} {new} w g = record { lines = w.lines ++ g.lines; given = given_then w.lines g.lines w.given g.given }

-- those after which memory may be wanted
pub since_wanting : {tells : Bool} {s1 s2 : SourceAt} {old new : Ahead} (d : Deployed) → WantsSince d tells s1 s2 old new → Since tells s1 s2 old new
since_wanting d w = record { lines = w.0; given = w.1 }

pub ran_out : {tells : Bool} {s1 s2 : SourceAt} {old new : Ahead} (d : Deployed) → WantsSince d tells s1 s2 old new → RanOutSince head_lines head_lines (batch_may assembled d) tells s1 s2 old new
ran_out d w = (w.0, w.1, inr w.2)

-- ---- which lines may

may_by : (b : Bool) (r : Result lines.Line ℕ) → MayRunOut (if b then Err 2 else r) → MayRunOut r
may_by true r two = absurd (let e : 2 ≡ 8 = two in omega (arith, e))
may_by false r h = h

-- a line of the schedule
pub may_line : (d : Deployed) (number : ℕ) (text : List ℕ) → MayRunOut (judged_line assembled d.names number text) → batch_may assembled d [] text
unfolding judged_line
may_line d number text h = inr (may_by (nat_lt 65536 number) (or_rule (said_line assembled d.names text)) h)

-- a mark
pub may_mark : (d : Deployed) (text : List ℕ) → is_mark text ≡ true → batch_may assembled d [] text
may_mark d text e = inl e
