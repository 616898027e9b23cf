-- Where the lines after the head are: in the schedule, or after its mark.
use Rattle.std.specs.Prelude.{if◌then◌else◌}
use Rattle.std.proofs.lemmas.List.{append-nil}
use Rattle.std.proofs.Common.{◌≡◌, ◌∙◌, ◌+◌, ◌∷◌, ◌++◌, inr, ℕ, [], true, false, Bool, List, length, length-append, append_assoc, ap, refl, sym, subst, take}
use Rattle.sx_asm.specs.Assembled.{assembled}
use Rattle.sx_io.specs.Streams.{SourceAt}
use Rattle.sx_io.specs.Reading.{Answer, Line, longest}
use Rattle.sx_io.specs.Next.{Ahead, Next}
use Rattle.sx_io.specs.declared.lines.LineRead.TheVariants as read
use Rattle.command_promise.specs.Head.{head_lines, is_mark}
use Rattle.sx_deploy.specs.Deployment.{Deployed}
use Rattle.command_head.specs.Given.{RanOutSince}
use Rattle.command_head.proofs.Given.{given_line, given_then}
use Rattle.command_world.specs.Schedule.{judged_line}
use Rattle.command_world.specs.Turning.{MayRunOut}
use Rattle.command_deploy.proofs.Given.{Gave, gave_line, gave_none}
use Rattle.command_snap.specs.Kept.{QueriesWant, query_may}
use Rattle.command_snap.specs.Wants.{BehindMark, Place, may_at, place_behind, snap_may}

-- these lines are all of the schedule
abbrev pub AreSchedule : List Answer → Type 0
AreSchedule lines = (more : List Answer) → place_behind 0 (lines ++ more) ≡ place_behind (length lines) more

-- the place after a line that is the mark or isn't
place_by : (before : ℕ) (text : List ℕ) (more : List Answer) (b : Bool) → is_mark text ≡ b
    → place_behind before (Line text ∷ more) ≡ (if b then BehindMark before (length more) else place_behind (before + 1) more)
place_by before text more b e = ap (λ (b : Bool). if b then BehindMark before (length more) else place_behind (before + 1) more) e

-- one more
pub schedule_line : (lines : List Answer) (text : List ℕ) → AreSchedule lines → is_mark text ≡ false → AreSchedule (lines ++ Line text ∷ [])
schedule_line lines text are other = λ more.
    ap (λ (all : List Answer). place_behind 0 all) (append_assoc lines (Line text ∷ []) more) ∙ are (Line text ∷ more) ∙ place_by (length lines) text more false other
    ∙ ap (λ (n : ℕ). place_behind n more) (sym (length-append lines (Line text ∷ [])))

-- only lines of the schedule were given
pub record GaveSchedule (tells : Bool) (s1 s2 : SourceAt) (old new : Ahead) (number : ℕ) : Type 0 where
  pub gave : Gave tells s1 s2 old new number
  pub schedule : AreSchedule gave.lines

-- none was given
pub schedule_none : (tells : Bool) (s : SourceAt) (a : Ahead) → GaveSchedule tells s s a a 1
unfolding gave_none
schedule_none tells s a = record { gave = gave_none tells s a; schedule = λ more. refl }

-- and one more
pub schedule_more : {tells : Bool} {s1 s2 s3 : SourceAt} {old now new : Ahead} {number : ℕ} (into : List ℕ) (n : ℕ) → GaveSchedule tells s1 s2 old now number
    → Next longest tells s2 s3 now new into (read.Text n) → is_mark (take n into) ≡ false → GaveSchedule tells s1 s3 old new (number + 1)
unfolding gave_line
schedule_more {tells} {s1} {s2} {s3} {old} {now} {new} {number} into n st next other =
    record { gave = gave_line into n st.gave next; schedule = schedule_line st.gave.lines (take n into) st.schedule other }

-- a line of the schedule that may want memory, after those
pub line_may : (d : Deployed) (lines : List Answer) (text : List ℕ) → AreSchedule lines → is_mark text ≡ false → MayRunOut (judged_line assembled d.names (length lines + 1) text)
    → snap_may d lines text
line_may d lines text are other may =
    let P : Place → Type 0 = λ place. may_at d.names place text in
    let Q : List Answer → Type 0 = λ all. P (place_behind 0 all) in
    subst Q (append-nil lines) (subst P (sym (are [])) (other, may))

-- a query that may, after the mark
pub query_wants : (d : Deployed) (lines queries : List Answer) (mark text : List ℕ) (last : ℕ) → AreSchedule lines → is_mark mark ≡ true → last ≡ length lines → query_may d.names last queries text
    → snap_may d ((lines ++ Line mark ∷ []) ++ queries) text
query_wants d lines queries mark text last are marked same may =
    let P : Place → Type 0 = λ place. may_at d.names place text in
    let Q : ℕ → Type 0 = λ n. P (BehindMark n (length queries)) in
    let place : place_behind 0 ((lines ++ Line mark ∷ []) ++ queries) ≡ BehindMark (length lines) (length queries) =
    (ap (λ (all : List Answer). place_behind 0 all) (append_assoc lines (Line mark ∷ []) queries) ∙ are (Line mark ∷ queries) ∙ place_by (length lines) mark queries true marked) in
    subst P (sym place) (subst Q same may)

-- memory ran out after the mark
pub queries_ran_out : {tells : Bool} {s1 s2 s3 s4 : SourceAt} {old now next new : Ahead} {number : ℕ} (d : Deployed) (into : List ℕ) (n last : ℕ) (g : Gave tells s1 s2 old now number)
    → Next longest tells s2 s3 now next into (read.Text n) → AreSchedule g.lines → is_mark (take n into) ≡ true → last ≡ length g.lines
    → QueriesWant d.names last tells s3 s4 next new → RanOutSince head_lines head_lines (snap_may d) tells s1 s4 old new
queries_ran_out {tells} {s1} {s2} {s3} {s4} {old} {now} {next} {new} {number} d into n last g step are marked same w =
    let mark = take n into in
    let before = g.lines ++ Line mark ∷ [] in
    let given = given_line g.lines into n g.since step in
    let want = w.2.0 in (
      before ++ w.0,
      given_then before w.0 given w.1,
      inr (
        (
          before ++ want.0,
          want.1,
          ap (λ (v : List Answer). before ++ v) want.2 ∙ sym (append_assoc before want.0 (Line want.1 ∷ [])),
          query_wants d g.lines want.0 mark want.1 last are marked same want.3,
        ),
        λ limit s0 f due b. let h = given limit s0 f due b in w.2.1 limit s0 (λ more. f (before ++ more)) h.0 h.1,
      ),
    )
