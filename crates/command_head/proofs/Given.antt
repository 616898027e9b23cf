-- The lines that a command was given after the head of its input, one after another.
use Rattle.std.proofs.Common.{◌≡◌, ◌⊎◌, ◌∙◌, inl, inr, ◌∷◌, ◌++◌, ℕ, [], Bool, List, ap, append_assoc, refl, sym, take, Ok}
use Rattle.std.proofs.lemmas.List.{append-nil}
use Rattle.sx_io.specs.Streams.{SourceAt}
use Rattle.sx_io.specs.Reading.{Answer, Fault, Limit, Line, behind_line}
use Rattle.sx_io.specs.Next.{Ahead, Next, Repeats}
use Rattle.sx_io.specs.declared.lines.LineRead.TheVariants as read
use Rattle.sx_io.specs.declared.lines.ReaderState.{ReaderState}
use Rattle.sx_io.specs.declared.lines.ReaderState.TheVariants as reader
use Rattle.command_promise.specs.Reads.{anything}
use Rattle.command_promise.specs.Got.{Follows, Got}
use Rattle.command_promise.specs.Told.{CommandAt}
use Rattle.command_promise.proofs.Takings.{got-line, got-same, open-not-at-end}
use Rattle.command_promise.specs.Head.{Found, Head, Unread, head}
use Rattle.sx_deploy.specs.Deployment.{Deployed, IsRead}
use Rattle.command_head.specs.Wanting.{FoundNoEnd, LastMay, RanOutAt}
use Rattle.command_head.specs.Given.{GivenSince, RanOutSince, WantsLast}

-- none yet
pub given_none : (limit : Limit) (tells : Bool) (s : SourceAt) (a : Ahead) → GivenSince limit limit tells s s a a []
given_none limit tells s a = λ first s0 f due b. (due, b)

-- one more
pub given_line : {before left : Limit} {tells : Bool} {s1 s2 s3 : SourceAt} {old now new : Ahead} (lines : List Answer) (into : List ℕ) (n : ℕ)
    → GivenSince before left tells s1 s2 old now lines → Next (left []) tells s2 s3 now new into (read.Text n)
    → GivenSince before (behind_line (take n into) left) tells s1 s3 old new (lines ++ Line (take n into) ∷ [])
given_line {before} {left} {tells} {s1} {s2} {s3} {old} {now} {new} lines into n given next = λ first s0 f due b.
    let g = given first s0 f due b in
    (f (lines ++ Fault ∷ []), got-same (λ more. ap f (sym (append_assoc lines (Line (take n into) ∷ []) more))) refl (got-line (λ more. f (lines ++ more)) g.1 next))

-- some, and then others
pub given_then : {a b c : Limit} {tells : Bool} {s1 s2 s3 : SourceAt} {old now new : Ahead} (xs ys : List Answer)
    → GivenSince a b tells s1 s2 old now xs → GivenSince b c tells s2 s3 now new ys → GivenSince a c tells s1 s3 old new (xs ++ ys)
given_then {a} {b} {c} {tells} {s1} {s2} {s3} {old} {now} {new} xs ys first second = λ limit s0 f due got.
    let g = first limit s0 f due got in
    let h = second limit s0 (λ more. f (xs ++ more)) g.0 g.1 in
    (h.0, got-same (λ more. ap f (sym (append_assoc xs ys more))) refl h.1)

-- ---- the last line

-- a reader that gives a line is open
is_open : (limit limit' : Limit) (lines : List ℕ) (n : ℕ) (f : List Answer → Head) (s : ReaderState) → Follows s limit limit' lines head f
    → ((s ≡ reader.Open → ⊥) → Repeats s (read.Text n)) → s ≡ reader.Open
is_open limit limit' lines n f reader.Open w again = refl
is_open limit limit' lines n f reader.AtEnd w again = absurd (let e = again (λ o. absurd (cc o)) in cc e)
is_open limit limit' lines n f reader.TooLong w again = absurd w
is_open limit limit' lines n f reader.Failed w again = absurd w

-- the input where its end ended the line
rest_is : (all before held first got second raw new line : List ℕ) → all ≡ before ++ (held ++ first) → first ≡ got ++ second → held ++ got ≡ raw ++ new → raw ≡ line → new ≡ [] → second ≡ []
    → all ≡ before ++ line
rest_is all before held first got second raw new line a b c d e f =
    a ∙ ap (λ (v : List ℕ). before ++ v)
    (ap (λ (v : List ℕ). held ++ v) b ∙ sym (append_assoc held got second) ∙ ap (λ (v : List ℕ). v ++ second) c ∙ ap (λ (v : List ℕ). (raw ++ new) ++ v) f
    ∙ append-nil (raw ++ new) ∙ ap (λ (v : List ℕ). raw ++ v) e ∙ append-nil raw ∙ d)

-- a newline or the end of the input ended it
line_unended : {limit left : Limit} {tells : Bool} {s0 s1 s2 : SourceAt} {old new : Ahead} {f : List Answer → Head} {due : Head} {into : List ℕ} {n : ℕ}
    → Got tells limit left s0 s1 old head f due anything → Next (left []) tells s1 s2 old new into (read.Text n) → FoundNoEnd tells s0 s2
line_unended {limit} {left} {tells} {s0} {s1} {s2} {old} {new} {f} {due} {into} {n} b x = λ i.
    let o = is_open limit left (b.before ++ b.line) n f old.state b.follows (λ c. (x.again c).2) in
    let t = x.takes o in
    let line = t.took.3 in
    elim line.3 [
      | inl ended ↦ inl (t.no_end (open-not-at-end new.state ended.2) i ∙ b.no_end (open-not-at-end old.state o) i)
      | inr rest ↦ inr (
        b.before ++ b.line,
        line.0,
        rest_is s0.rest (b.before ++ b.line) old.held s1.rest t.got s2.rest t.took.1 new.held line.0 (b.from_source i) (t.from_source i) t.took.2 rest.0 rest.3 (t.at_end rest.4 i).rest,
        line.1,
        rest.2,
      )
    ]

-- after some lines one was given that may want memory, and nothing after it
pub wants_last : {before left : Limit} {tells : Bool} {s1 s2 s3 : SourceAt} {old now new : Ahead} (May : List Answer → List ℕ → Type 0) (lines : List Answer) (into : List ℕ) (n : ℕ)
    → GivenSince before left tells s1 s2 old now lines → Next (left []) tells s2 s3 now new into (read.Text n) → May lines (take n into)
    → WantsLast before May tells s1 s3 old (lines ++ Line (take n into) ∷ [])
wants_last {before} {left} {tells} {s1} {s2} {s3} {old} {now} {new} May lines into n given next may = (
  (lines, take n into, refl, may),
  λ limit s0 f due b. line_unended (given limit s0 f due b).1 next,
)

-- ---- after a head

of_deployment : (text : List ℕ) (lines : List Answer) (tells : Bool) (s0 s1 s2 : SourceAt) (limit before : Limit) (old : Ahead) (May : Deployed → List Answer → List ℕ → Type 0) (d : Deployed)
    → IsRead text (Ok d) → Got tells limit before s0 s1 old head (λ more. Found text more) Unread anything → (lines ≡ []) ⊎ WantsLast before (May d) tells s1 s2 old lines
    → (lines ≡ []) ⊎ ((d : Deployed) × IsRead text (Ok d) × LastMay (May d) lines × FoundNoEnd tells s0 s2)
of_deployment text lines tells s0 s1 s2 limit before old May d read got (inl none) = inl none
of_deployment text lines tells s0 s1 s2 limit before old May d read got (inr last) = inr (d, read, last.0, last.1 limit s0 (λ more. Found text more) Unread got)

-- memory ran out after the head of a deployment
pub ran_out_at : {limit before behind : Limit} {tells : Bool} {m0 m1 : CommandAt} {begun : SourceAt} {old new : Ahead} (May : Deployed → List Answer → List ℕ → Type 0) (text : List ℕ) (d : Deployed)
    → IsRead text (Ok d) → Got tells limit before m0.source begun old head (λ more. Found text more) Unread anything
    → RanOutSince before behind (May d) tells begun m1.source old new → RanOutAt limit May tells m0 m1
ran_out_at {limit} {before} {behind} {tells} {m0} {m1} {begun} {old} {new} May text d read got out =
    let g = out.1 limit m0.source (λ more. Found text more) Unread got in record {
      text = text;
      lines = out.0;
      last = of_deployment text out.0 tells m0.source begun m1.source limit before old May d read got out.2;
      now = new;
      left = behind;
      due = g.0;
      got = g.1;
    }

-- or before it was known to be one
pub ran_out_behind : {limit left : Limit} {tells : Bool} {m0 m1 : CommandAt} {now : Ahead} (May : Deployed → List Answer → List ℕ → Type 0) (text : List ℕ)
    → Got tells limit left m0.source m1.source now head (λ more. Found text more) Unread anything → RanOutAt limit May tells m0 m1
ran_out_behind {limit} {left} {tells} {m0} {m1} {now} May text got = record { text = text; lines = []; last = inl refl; now = now; left = left; due = Unread; got = got }
