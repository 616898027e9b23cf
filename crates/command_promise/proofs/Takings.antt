-- How what a call took of its input comes together, line by line.
use Rattle.std.proofs.Common.{ℕ, ◌+◌, ◌-◌, ◌<◌, ◌≤◌, ◌≡◌, ◌∙◌, ◌⊎◌, inl, inr, Bool, List, [], ◌∷◌, ◌++◌, length, take, drop, refl, ap, sym, subst, arith, append_assoc, length-append, length-drop, length-take}
use Rattle.std.specs.Prelude.{IsTrue}
use Rattle.std.proofs.lemmas.List.{append-nil, take-append-drop}
use Rattle.sx_io.specs.Streams.{SourceAt}
use Rattle.sx_io.specs.Reading.{Ending, Ended, Broken, Answer, Line, End, Long, Fault, Limit, behind_line, scan, newline, without_return, IsPlain}
use Rattle.sx_io.specs.Next.{IsTooLong, Ahead, IsLineText, Next, Repeats, AskedInLine}
use Rattle.sx_io.specs.declared.lines.LineRead.{LineRead}
use Rattle.sx_io.specs.declared.lines.LineRead.TheVariants as read
use Rattle.sx_io.specs.declared.lines.ReaderState.{ReaderState}
use Rattle.sx_io.specs.declared.lines.ReaderState.TheVariants as reader
use Rattle.sx_io.proofs.Scans.{scan-ended, scan-rest, scan-fault, scan-too-long, plain-at, quiet-on, fault-on, end-on}
use Rattle.command_promise.specs.Reads.{Left, AtEnd, AtFault, Enough, Decides, IsOneLine, Asked, Reach, Reads, anything}
use Rattle.command_promise.specs.Got.{Follows, HoldsBehind, Got}

-- ---- where the reader is

-- a reader that gives something else than the end is open
open-for : {A : Type 0} (limit limit' : Limit) (lines : List ℕ) (F f : List Answer → A) (s : ReaderState) (answer : LineRead)
    → Follows s limit limit' lines F f → ((s ≡ reader.Open → ⊥) → Repeats s answer) → (answer ≡ read.End → ⊥) → s ≡ reader.Open
open-for limit limit' lines F f reader.Open answer w r n = refl
open-for limit limit' lines F f reader.AtEnd answer w r n = absurd (n (r (λ e. absurd (cc e))))
open-for limit limit' lines F f reader.TooLong answer w r n = absurd w
open-for limit limit' lines F f reader.Failed answer w r n = absurd w

follows-open : {A : Type 0} (limit limit' : Limit) (lines : List ℕ) (F f : List Answer → A) (s : ReaderState) → s ≡ reader.Open
    → Follows s limit limit' lines F f → (e : Ending) (more : List ℕ) → F (scan limit e [] (lines ++ more)) ≡ f (scan limit' e [] more)
follows-open {A} limit limit' lines F f s o w =
    let P : ReaderState → Type 0 = λ v. Follows v limit limit' lines F f in
    let q : Follows reader.Open limit limit' lines F f = subst P o w in q

open-follows : {A : Type 0} (limit limit' : Limit) (lines : List ℕ) (F f : List Answer → A) (s : ReaderState) → s ≡ reader.Open
    → ((e : Ending) (more : List ℕ) → F (scan limit e [] (lines ++ more)) ≡ f (scan limit' e [] more)) → Follows s limit limit' lines F f
open-follows {A} limit limit' lines F f s o w = let P : ReaderState → Type 0 = λ v. Follows v limit limit' lines F f in subst P (sym o) w

end-follows : {A : Type 0} (limit limit' : Limit) (lines : List ℕ) (F f : List Answer → A) (s : ReaderState) → s ≡ reader.AtEnd
    → F (scan limit Ended [] lines) ≡ f (End ∷ []) → Follows s limit limit' lines F f
end-follows {A} limit limit' lines F f s o w = let P : ReaderState → Type 0 = λ v. Follows v limit limit' lines F f in subst P (sym o) w

follows-end : {A : Type 0} (limit limit' : Limit) (lines : List ℕ) (F f : List Answer → A) (s : ReaderState) → s ≡ reader.AtEnd
    → Follows s limit limit' lines F f → F (scan limit Ended [] lines) ≡ f (End ∷ [])
follows-end {A} limit limit' lines F f s o w =
    let P : ReaderState → Type 0 = λ v. Follows v limit limit' lines F f in
    let q : Follows reader.AtEnd limit limit' lines F f = subst P o w in q

-- ---- bytes

source-on : (r0 lines held r1 got r2 raw held' : List ℕ) → r0 ≡ lines ++ (held ++ r1) → r1 ≡ got ++ r2 → held ++ got ≡ raw ++ held'
    → r0 ≡ (lines ++ raw) ++ (held' ++ r2)
source-on r0 lines held r1 got r2 raw held' a b c =
    a ∙ ap (λ (t : List ℕ). lines ++ (held ++ t)) b
    ∙ ap (λ (t : List ℕ). lines ++ t) (sym (append_assoc held got r2) ∙ ap (λ (t : List ℕ). t ++ r2) c ∙ append_assoc raw held' r2)
    ∙ sym (append_assoc lines raw (held' ++ r2))

source-all : (r0 lines held r1 got r2 : List ℕ) → r0 ≡ lines ++ (held ++ r1) → r1 ≡ got ++ r2 → r0 ≡ (lines ++ (held ++ got)) ++ r2
source-all r0 lines held r1 got r2 a b =
    a ∙ ap (λ (t : List ℕ). lines ++ (held ++ t)) b ∙ ap (λ (t : List ℕ). lines ++ t) (sym (append_assoc held got r2)) ∙ sym (append_assoc lines (held ++ got) r2)

-- the answers for a line that a newline ends
line-scan : (limit : Limit) (e : Ending) (line raw text more : List ℕ) → IsPlain line → length line ≤ limit [] → raw ≡ line ++ newline ∷ [] → text ≡ without_return line
    → scan limit e [] (raw ++ more) ≡ Line text ∷ scan (behind_line text limit) e [] more
line-scan limit e line raw text more p h r t = rw (r, t) (scan-ended limit e line more p h)

rest-scan : (limit : Limit) (line raw text : List ℕ) → IsPlain line → length line ≤ limit [] → 0 < length line → raw ≡ line → text ≡ line
    → scan limit Ended [] raw ≡ Line text ∷ End ∷ []
rest-scan limit line raw text p h some r t = rw (r, t) (scan-rest limit line p h some)

-- ---- what holds of the answers

pub holds-open : (limit : Limit) (lines : List ℕ) (also : List Answer → Type 0) (s : ReaderState) → s ≡ reader.Open → HoldsBehind s limit lines also
    → (e : Ending) (more : List ℕ) → also (scan limit e [] (lines ++ more))
holds-open limit lines also s o w =
    let P : ReaderState → Type 0 = λ v. HoldsBehind v limit lines also in let q : HoldsBehind reader.Open limit lines also = subst P o w in q

holds-end : (limit : Limit) (lines : List ℕ) (also : List Answer → Type 0) (s : ReaderState) → s ≡ reader.AtEnd → HoldsBehind s limit lines also → also (scan limit Ended [] lines)
holds-end limit lines also s o w =
    let P : ReaderState → Type 0 = λ v. HoldsBehind v limit lines also in let q : HoldsBehind reader.AtEnd limit lines also = subst P o w in q

also-at : (limit : Limit) (e : Ending) (also : List Answer → Type 0) (a b : List ℕ) → a ≡ b → also (scan limit e [] a) → also (scan limit e [] b)
also-at limit e also a b same h = let P : List ℕ → Type 0 = λ t. also (scan limit e [] t) in subst P same h

holds-on : (limit : Limit) (lines raw : List ℕ) (also : List Answer → Type 0) (s : ReaderState)
    → ((e : Ending) (more : List ℕ) → also (scan limit e [] (lines ++ more))) → HoldsBehind s limit (lines ++ raw) also
holds-on limit lines raw also reader.Open h = λ e more. also-at limit e also _ _ (sym (append_assoc lines raw more)) (h e (raw ++ more))
holds-on limit lines raw also reader.AtEnd h = h Ended raw
holds-on limit lines raw also reader.TooLong h = tt
holds-on limit lines raw also reader.Failed h = tt

-- what follows from what the lines are
holds-by : {A : Type 0} (limit limit' : Limit) (lines : List ℕ) (F f : List Answer → A) (also : List Answer → Type 0) (s : ReaderState)
    → ((answers more : List Answer) → F answers ≡ f more → also answers) → Follows s limit limit' lines F f → HoldsBehind s limit lines also
holds-by limit limit' lines F f also reader.Open h w = λ e more. h (scan limit e [] (lines ++ more)) (scan limit' e [] more) (w e more)
holds-by limit limit' lines F f also reader.AtEnd h w = h (scan limit Ended [] lines) (End ∷ []) w
holds-by limit limit' lines F f also reader.TooLong h w = absurd w
holds-by limit limit' lines F f also reader.Failed h w = absurd w

-- ---- a call begins

pub got-new : {A : Type 0} {tells : Bool} {s : SourceAt} (limit : Limit) (a : Ahead) (F : List Answer → A) → a ≡ record { held = []; state = reader.Open }
    → Got tells limit limit s s a F F (F (Fault ∷ [])) anything
got-new {A} {tells} {s} limit a F e =
    let P : Ahead → Type 0 = λ v. Got tells limit limit s s v F F (F (Fault ∷ [])) anything in
    subst P (sym e) (record {
      before = [];
      line = [];
      from_source = λ t. refl;
      follows = λ e more. refl;
      holds = λ e more. tt;
      one = inl tt;
      few = omega arith;
      bound = λ most h. h;
      short = λ most h. omega arith;
      due = refl;
      no_fault = record { faults = refl; left = refl };
      at_end = λ o. absurd (cc o);
      no_end = λ o t. refl;
      asked = λ t. inl refl;
    })

pub got-also : {A : Type 0} {tells : Bool} {limit limit' : Limit} {s0 s1 : SourceAt} {now : Ahead} {F f : List Answer → A} {due : A} {also : List Answer → Type 0} (then : List Answer → Type 0)
    → ((answers more : List Answer) → F answers ≡ f more → then answers) → Got tells limit limit' s0 s1 now F f due also → Got tells limit limit' s0 s1 now F f due then
got-also {A} {tells} {limit} {limit'} {s0} {s1} {now} {F} {f} then h b = record {
  before = b.before;
  line = b.line;
  from_source = b.from_source;
  follows = b.follows;
  holds = holds-by limit limit' (b.before ++ b.line) F f then now.state h b.follows;
  one = b.one;
  few = b.few;
  bound = b.bound;
  short = b.short;
  due = b.due;
  no_fault = b.no_fault;
  at_end = b.at_end;
  no_end = b.no_end;
  asked = b.asked;
}

-- what is to come is said in other words
follows-same : {A : Type 0} (limit limit' : Limit) (lines : List ℕ) (F f g : List Answer → A) (s : ReaderState) → ((answers : List Answer) → f answers ≡ g answers)
    → Follows s limit limit' lines F f → Follows s limit limit' lines F g
follows-same limit limit' lines F f g reader.Open h w = λ e more. w e more ∙ h (scan limit' e [] more)
follows-same limit limit' lines F f g reader.AtEnd h w = w ∙ h (End ∷ [])
follows-same limit limit' lines F f g reader.TooLong h w = absurd w
follows-same limit limit' lines F f g reader.Failed h w = absurd w

pub got-same : {A : Type 0} {tells : Bool} {limit limit' : Limit} {s0 s1 : SourceAt} {now : Ahead} {F f g : List Answer → A} {due due' : A} {also : List Answer → Type 0}
    → ((answers : List Answer) → f answers ≡ g answers) → due ≡ due' → Got tells limit limit' s0 s1 now F f due also → Got tells limit limit' s0 s1 now F g due' also
got-same {A} {tells} {limit} {limit'} {s0} {s1} {now} {F} {f} {g} {due} {due'} h d b = record {
  before = b.before;
  line = b.line;
  from_source = b.from_source;
  follows = follows-same limit limit' (b.before ++ b.line) F f g now.state h b.follows;
  holds = b.holds;
  one = b.one;
  few = b.few;
  bound = b.bound;
  short = b.short;
  due = b.due ∙ d;
  no_fault = b.no_fault;
  at_end = b.at_end;
  no_end = b.no_end;
  asked = b.asked;
}

follows-map : {A B : Type 0} (limit limit' : Limit) (lines : List ℕ) (F f : List Answer → A) (s : ReaderState) (g : A → B)
    → Follows s limit limit' lines F f → Follows s limit limit' lines (λ answers. g (F answers)) (λ answers. g (f answers))
follows-map limit limit' lines F f reader.Open g w = λ e more. ap g (w e more)
follows-map limit limit' lines F f reader.AtEnd g w = ap g w
follows-map limit limit' lines F f reader.TooLong g w = absurd w
follows-map limit limit' lines F f reader.Failed g w = absurd w

pub got-map : {A B : Type 0} {tells : Bool} {limit limit' : Limit} {s0 s1 : SourceAt} {now : Ahead} {F f : List Answer → A} {due : A} {also : List Answer → Type 0} (g : A → B)
    → Got tells limit limit' s0 s1 now F f due also → Got tells limit limit' s0 s1 now (λ answers. g (F answers)) (λ answers. g (f answers)) (g due) also
got-map {A} {B} {tells} {limit} {limit'} {s0} {s1} {now} {F} {f} {due} g b = record {
  before = b.before;
  line = b.line;
  from_source = b.from_source;
  follows = follows-map limit limit' (b.before ++ b.line) F f now.state g b.follows;
  holds = b.holds;
  one = b.one;
  few = b.few;
  bound = b.bound;
  short = b.short;
  due = ap g b.due;
  no_fault = b.no_fault;
  at_end = b.at_end;
  no_end = b.no_end;
  asked = b.asked;
}

-- ---- a line was given

one-line : (limit : ℕ) (raw text : List ℕ) (new : Ahead) → IsLineText limit raw text new → IsOneLine raw
one-line limit raw text new (line, p, h, how) =
    elim how [
      | inl ended ↦ inr (line, p, ended.0)
      | inr rest ↦ inl (plain-at line raw (sym rest.0) p)
    ]

line-of : (limit : ℕ) (raw text : List ℕ) (new : Ahead) → IsLineText limit raw text new → length raw ≤ limit + 1
line-of limit raw text new (line, p, h, how) =
    elim how [
      | inl ended ↦ omega (arith, h, ap (λ (v : List ℕ). length v) ended.0, length-append line (newline ∷ []))
      | inr rest ↦ omega (arith, h, ap (λ (v : List ℕ). length v) rest.0)
    ]

line-follows : {A : Type 0} (limit limit' : Limit) (F : List Answer → A) (lines raw text : List ℕ) (new : Ahead) (f : List Answer → A) → IsLineText (limit' []) raw text new
    → ((e : Ending) (more : List ℕ) → F (scan limit e [] (lines ++ more)) ≡ f (scan limit' e [] more))
    → Follows new.state limit (behind_line text limit') (lines ++ raw) F (λ more. f (Line text ∷ more))
line-follows {A} limit limit' F lines raw text new f (line, p, h, how) w =
    elim how [
      | inl ended ↦
          open-follows limit (behind_line text limit') (lines ++ raw) F (λ more. f (Line text ∷ more)) new.state ended.2
          (λ e more. ap (λ (t : List ℕ). F (scan limit e [] t)) (append_assoc lines raw more) ∙ w e (raw ++ more) ∙ ap f (line-scan limit' e line raw text more p h ended.0 ended.1))
      | inr rest ↦
          end-follows limit (behind_line text limit') (lines ++ raw) F (λ more. f (Line text ∷ more)) new.state rest.4 (w Ended raw ∙ ap f (rest-scan limit' line raw text p h rest.2 rest.0 rest.1))
    ]

line-end : (limit : ℕ) (raw text : List ℕ) (new : Ahead) → IsLineText limit raw text new → new.state ≡ reader.AtEnd → new.held ≡ []
line-end limit raw text new (line, p, h, how) e =
    elim how [
      | inl ended ↦ absurd (cc (sym ended.2 ∙ e))
      | inr rest ↦ rest.3
    ]

due-now : {A : Type 0} (limit limit' : Limit) (F f : List Answer → A) (lines : List ℕ)
    → ((e : Ending) (more : List ℕ) → F (scan limit e [] (lines ++ more)) ≡ f (scan limit' e [] more)) → F (scan limit Broken [] lines) ≡ f (Fault ∷ [])
due-now {A} limit limit' F f lines w = ap (λ (t : List ℕ). F (scan limit Broken [] t)) (sym (append-nil lines)) ∙ w Broken []

-- a line of the input was given: nothing was read once a line was whole that isn't among those before it
asked-line : (s0 s1 s2 : SourceAt) (before line held : List ℕ) → s0.rest ≡ (before ++ line) ++ (held ++ s1.rest) → Asked s0 s1 before → AskedInLine held s1 s2
    → Asked s0 s2 (before ++ line)
asked-line s0 s1 s2 before line held r a x =
    elim x [
      | inl same ↦ elim a [
        | inl none ↦ inl (same ∙ none)
        | inr late ↦ inr (record {
          given = late.given;
          begun = late.begun;
          further = late.further ++ line;
          lines_are = ap (λ (v : List ℕ). v ++ line) late.lines_are ∙ append_assoc late.given late.further line;
          plain = late.plain;
          from_source = late.from_source ∙ ap (λ (v : List ℕ). (late.given ++ late.begun) ++ v) (sym same);
        })
      ]
      | inr (earlier, rest, plain) ↦ inr (record {
        given = before ++ line;
        begun = held ++ earlier;
        further = [];
        lines_are = sym (append-nil (before ++ line));
        plain = plain;
        from_source = r ∙ ap (λ (v : List ℕ). (before ++ line) ++ (held ++ v)) rest
            ∙ ap (λ (v : List ℕ). (before ++ line) ++ v) (sym (append_assoc held earlier s2.asked))
            ∙ sym (append_assoc (before ++ line) (held ++ earlier) s2.asked);
      })
    ]

-- an open reader isn't at the end
not-at-end : (s t : ReaderState) → s ≡ t → (t ≡ reader.AtEnd → ⊥) → s ≡ reader.AtEnd → ⊥
not-at-end s t e n h = n (sym e ∙ h)

pub open-not-at-end : (s : ReaderState) → s ≡ reader.Open → s ≡ reader.AtEnd → ⊥
open-not-at-end s o = not-at-end s reader.Open o (λ e. cc e)

pub got-line : {A : Type 0} {tells : Bool} {limit limit' : Limit} {s0 s1 s2 : SourceAt} {old new : Ahead} {F : List Answer → A} {due : A}
    {also : List Answer → Type 0} {into : List ℕ} {n : ℕ} (f : List Answer → A)
    → Got tells limit limit' s0 s1 old F f due also → Next (limit' []) tells s1 s2 old new into (read.Text n)
    → Got tells limit (behind_line (take n into) limit') s0 s2 new F (λ more. f (Line (take n into) ∷ more)) (f (Fault ∷ [])) also
got-line {A} {tells} {limit} {limit'} {s0} {s1} {s2} {old} {new} {F} {due} {also} {into} {n} f b x =
    let o : old.state ≡ reader.Open = open-for limit limit' (b.before ++ b.line) F f old.state (read.Text n) b.follows (λ c. (x.again c).2) (λ e. cc e) in
    let t = x.takes o in
    let w = follows-open limit limit' (b.before ++ b.line) F f old.state o b.follows in
    let raw : List ℕ = t.took.1 in
    record {
      before = b.before ++ b.line;
      line = raw;
      from_source = λ i. source-on s0.rest (b.before ++ b.line) old.held s1.rest t.got s2.rest raw new.held (b.from_source i) (t.from_source i) t.took.2;
      follows = line-follows limit limit' F (b.before ++ b.line) raw (take n into) new f t.took.3 w;
      holds = holds-on limit (b.before ++ b.line) raw also new.state (holds-open limit (b.before ++ b.line) also old.state o b.holds);
      one = one-line (limit' []) raw (take n into) new t.took.3;
      few = t.few;
      bound = λ most h lines. b.bound most h (take n into ∷ lines);
      short = λ most h. omega (arith, b.bound most h [], line-of (limit' []) raw (take n into) new t.took.3);
      due = due-now limit limit' F f (b.before ++ b.line) w;
      no_fault = quiet-on s0 s1 s2 b.no_fault t.faults;
      at_end = λ e. (line-end (limit' []) raw (take n into) new t.took.3 e, λ i. end-on s0 s1 s2 (b.no_end (open-not-at-end old.state o) i) (t.at_end e i));
      no_end = λ e i. t.no_end e i ∙ b.no_end (open-not-at-end old.state o) i;
      asked = λ i. asked-line s0 s1 s2 b.before b.line old.held (b.from_source i) (b.asked i) (t.asked i);
    }

-- ---- a call ends

-- what is taken where the reader is between two lines
between : {A : Type 0} {tells : Bool} {limit limit' : Limit} {s0 s1 : SourceAt} {now : Ahead} {F f : List Answer → A} {due : A} {also : List Answer → Type 0} (P : List Answer → Type 0) (left : Left)
    → (b : Got tells limit limit' s0 s1 now F f due also) → Decides left tells limit s0 s1 ((b.before ++ b.line) ++ now.held) P → Reads tells limit s0 s1 F due P
between {A} {tells} {limit} {limit'} {s0} {s1} {now} {F} {f} {due} {also} P left b d = record {
  taken = (b.before ++ b.line) ++ now.held;
  from_source = λ i. b.from_source i ∙ sym (append_assoc (b.before ++ b.line) now.held s1.rest);
  left = left;
  decides = d;
  reach = record { before = b.before; line = b.line; ahead = now.held; parts = refl; one = b.one; few = b.few; short = b.short; due = b.due; asked = b.asked };
}

-- it ends after the last line
reads-at-end : {A : Type 0} {tells : Bool} {limit limit' : Limit} {s0 s1 : SourceAt} {now : Ahead} {F f : List Answer → A} {due : A} {also : List Answer → Type 0} (Q : A → Type 0)
    → Got tells limit limit' s0 s1 now F f due also → now.state ≡ reader.AtEnd → Q (f (End ∷ [])) → Reads tells limit s0 s1 F due (λ answers. Q (F answers) × also answers)
reads-at-end {A} {tells} {limit} {limit'} {s0} {s1} {now} {F} {f} {due} {also} Q b e p =
    let lines : List ℕ = b.before ++ b.line in
    let all : lines ++ now.held ≡ lines = ap (λ (t : List ℕ). lines ++ t) (b.at_end e).0 ∙ append-nil lines in
    between (λ answers. Q (F answers) × also answers) AtEnd b (
      b.no_fault,
      (b.at_end e).1,
      (
        subst Q (sym (ap (λ (t : List ℕ). F (scan limit Ended [] t)) all ∙ follows-end limit limit' lines F f now.state e b.follows)) p,
        also-at limit Ended also lines (lines ++ now.held) (sym all) (holds-end limit lines also now.state e b.holds),
      ),
    )

stops : {A : Type 0} {tells : Bool} {limit limit' : Limit} {s0 s1 : SourceAt} {now : Ahead} {F f : List Answer → A} {due : A} {also : List Answer → Type 0}
    (Q : A → Type 0) (s : ReaderState) → now.state ≡ s
    → Got tells limit limit' s0 s1 now F f due also → ((more : List Answer) → Q (f more)) → Reads tells limit s0 s1 F due (λ answers. Q (F answers) × also answers)
stops {A} {tells} {limit} {limit'} {s0} {s1} {now} {F} {f} {due} {also} Q reader.Open e b p =
    let lines : List ℕ = b.before ++ b.line in
    between (λ answers. Q (F answers) × also answers) Enough b (
      b.no_fault,
      b.no_end (open-not-at-end now.state e),
      λ ending more. (
        subst Q
            (sym (ap (λ (t : List ℕ). F (scan limit ending [] t)) (append_assoc lines now.held more)
            ∙ follows-open limit limit' lines F f now.state e b.follows ending (now.held ++ more)))
            (p (scan limit' ending [] (now.held ++ more))),
        also-at limit ending also _ _ (sym (append_assoc lines now.held more)) (holds-open limit lines also now.state e b.holds ending (now.held ++ more)),
      ),
    )
stops Q reader.AtEnd e b p = reads-at-end Q b e (p (End ∷ []))
stops {A} {tells} {limit} {limit'} {s0} {s1} {now} {F} {f} {due} {also} Q reader.TooLong e b p =
    let P : ReaderState → Type 0 = λ s. Follows s limit limit' (b.before ++ b.line) F f in absurd (subst P e b.follows)
stops {A} {tells} {limit} {limit'} {s0} {s1} {now} {F} {f} {due} {also} Q reader.Failed e b p =
    let P : ReaderState → Type 0 = λ s. Follows s limit limit' (b.before ++ b.line) F f in absurd (subst P e b.follows)

-- it ends between two lines, whatever is to come
pub reads-stop : {A : Type 0} {tells : Bool} {limit limit' : Limit} {s0 s1 : SourceAt} {now : Ahead} {F f : List Answer → A} {due : A} {also : List Answer → Type 0} (Q : A → Type 0)
    → Got tells limit limit' s0 s1 now F f due also → ((more : List Answer) → Q (f more)) → Reads tells limit s0 s1 F due (λ answers. Q (F answers) × also answers)
reads-stop {A} {tells} {limit} {limit'} {s0} {s1} {now} Q b p = stops Q now.state refl b p

-- what a call for a line took, where it ends the call
took-all : {A : Type 0} {tells : Bool} {limit limit' : Limit} {s0 s1 s2 : SourceAt} {now : Ahead} {F f : List Answer → A} {due owed : A}
    {also : List Answer → Type 0} {P : List Answer → Type 0} (left : Left) (got : List ℕ)
    → (b : Got tells limit limit' s0 s1 now F f due also) → (IsTrue tells → s1.rest ≡ got ++ s2.rest)
    → Decides left tells limit s0 s2 ((b.before ++ b.line) ++ (now.held ++ got)) P → Reach tells limit s0 s2 ((b.before ++ b.line) ++ (now.held ++ got)) F owed
    → Reads tells limit s0 s2 F owed P
took-all {A} {tells} {limit} {limit'} {s0} {s1} {s2} {now} {F} {f} {due} {owed} {also} {P} left got b i d r = record {
  taken = (b.before ++ b.line) ++ (now.held ++ got);
  from_source = λ t. source-all s0.rest (b.before ++ b.line) now.held s1.rest got s2.rest (b.from_source t) (i t);
  left = left;
  decides = d;
  reach = r;
}

-- the reader is open, or at the end
pub open-or-end : {A : Type 0} (limit limit' : Limit) (lines : List ℕ) (F f : List Answer → A) (s : ReaderState) → Follows s limit limit' lines F f
    → (s ≡ reader.Open) ⊎ (s ≡ reader.AtEnd)
open-or-end limit limit' lines F f reader.Open w = inl refl
open-or-end limit limit' lines F f reader.AtEnd w = inr refl
open-or-end limit limit' lines F f reader.TooLong w = absurd w
open-or-end limit limit' lines F f reader.Failed w = absurd w

-- it ends at the end of the input, which is found now
pub reads-end-open : {A : Type 0} {tells : Bool} {limit limit' : Limit} {s0 s1 s2 : SourceAt} {old new : Ahead} {F f : List Answer → A} {due : A}
    {also : List Answer → Type 0} {into : List ℕ} (Q : A → Type 0)
    → old.state ≡ reader.Open → Got tells limit limit' s0 s1 old F f due also → Next (limit' []) tells s1 s2 old new into read.End → Q (f (End ∷ []))
    → Reads tells limit s0 s2 F (f (Fault ∷ [])) (λ answers. Q (F answers) × also answers)
reads-end-open {A} {tells} {limit} {limit'} {s0} {s1} {s2} {old} {new} {F} {f} {due} {also} Q o b x p =
    let t = x.takes o in
    let lines : List ℕ = b.before ++ b.line in
    let bytes : List ℕ = old.held ++ t.got in
    let none : bytes ≡ [] = t.took.0 in
    let w = follows-open limit limit' lines F f old.state o b.follows in
    took-all {P = λ answers. Q (F answers) × also answers} AtEnd t.got b t.from_source (
      quiet-on s0 s1 s2 b.no_fault t.faults,
      λ i. end-on s0 s1 s2 (b.no_end (open-not-at-end old.state o) i) (t.at_end t.took.2 i),
      (subst Q (sym (w Ended bytes ∙ ap (λ (v : List ℕ). f (scan limit' Ended [] v)) none)) p, holds-open limit lines also old.state o b.holds Ended bytes),
    )
    (record {
      before = lines;
      line = [];
      ahead = bytes;
      parts = ap (λ (v : List ℕ). v ++ bytes) (sym (append-nil lines));
      one = inl tt;
      few = omega (arith, ap (λ (v : List ℕ). length v) none);
      short = λ most h. omega arith;
      due = due-now limit limit' F f lines w;
      asked = λ i. asked-line s0 s1 s2 b.before b.line old.held (b.from_source i) (b.asked i) (t.asked i);
    })

-- it ends at the end of the input, which was found after the last line
pub reads-end-again : {A : Type 0} {tells : Bool} {limit limit' : Limit} {s0 s1 s2 : SourceAt} {old new : Ahead} {F f : List Answer → A} {due : A}
    {also : List Answer → Type 0} {into : List ℕ} (Q : A → Type 0)
    → old.state ≡ reader.AtEnd → Got tells limit limit' s0 s1 old F f due also → Next (limit' []) tells s1 s2 old new into read.End → Q (f (End ∷ []))
    → Reads tells limit s0 s2 F due (λ answers. Q (F answers) × also answers)
reads-end-again {A} {tells} {limit} {limit'} {s0} {s1} {s2} {old} {new} {F} {f} {due} {also} Q o b x p =
    let same : s2 ≡ s1 = (x.again (λ e. absurd (cc (sym o ∙ e)))).0 in
    let P : SourceAt → Type 0 = λ s. Reads tells limit s0 s F due (λ answers. Q (F answers) × also answers) in
    subst P (sym same) (reads-at-end Q b o p)

-- it ends at the end of the input, and nothing more is due before it than before the last line
pub reads-end : {A : Type 0} {tells : Bool} {limit limit' : Limit} {s0 s1 s2 : SourceAt} {old new : Ahead} {F f : List Answer → A} {due : A}
    {also : List Answer → Type 0} {into : List ℕ} (Q : A → Type 0)
    → f (Fault ∷ []) ≡ due → Got tells limit limit' s0 s1 old F f due also → Next (limit' []) tells s1 s2 old new into read.End → Q (f (End ∷ []))
    → Reads tells limit s0 s2 F due (λ answers. Q (F answers) × also answers)
reads-end {A} {tells} {limit} {limit'} {s0} {s1} {s2} {old} {new} {F} {f} {due} {also} Q u b x p =
    elim (open-or-end limit limit' (b.before ++ b.line) F f old.state b.follows) [
      | inl o ↦
          let P : A → Type 0 = λ d. Reads tells limit s0 s2 F d (λ answers. Q (F answers) × also answers) in
          subst P u (reads-end-open Q o b x p)
      | inr o ↦ reads-end-again Q o b x p
    ]

-- it ends at a line that is too long
pub reads-too-long : {A : Type 0} {tells : Bool} {limit limit' : Limit} {s0 s1 s2 : SourceAt} {old new : Ahead} {F f : List Answer → A} {due : A}
    {also : List Answer → Type 0} {into : List ℕ} (Q : A → Type 0)
    → Got tells limit limit' s0 s1 old F f due also → Next (limit' []) tells s1 s2 old new into read.TooLong → Q (f (Long ∷ []))
    → Reads tells limit s0 s2 F (f (Fault ∷ [])) (λ answers. Q (F answers) × also answers)
reads-too-long {A} {tells} {limit} {limit'} {s0} {s1} {s2} {old} {new} {F} {f} {due} {also} Q b x p =
    let lines : List ℕ = b.before ++ b.line in
    let o : old.state ≡ reader.Open = open-for limit limit' lines F f old.state read.TooLong b.follows (λ c. (x.again c).2) (λ e. cc e) in
    let t = x.takes o in
    let bytes : List ℕ = old.held ++ t.got in
    let long : IsTooLong (limit' []) bytes = t.took.0 in
    let w = follows-open limit limit' lines F f old.state o b.follows in
    took-all {P = λ answers. Q (F answers) × also answers} Enough t.got b t.from_source (
      quiet-on s0 s1 s2 b.no_fault t.faults,
      λ i. t.no_end (not-at-end new.state reader.TooLong t.took.2 (λ e. cc e)) i ∙ b.no_end (open-not-at-end old.state o) i,
      λ e more. (
        subst Q (sym (ap (λ (v : List ℕ). F (scan limit e [] v)) (append_assoc lines bytes more) ∙ w e (bytes ++ more) ∙ ap f (scan-too-long limit' e bytes more long))) p,
        also-at limit e also _ _ (sym (append_assoc lines bytes more)) (holds-open limit lines also old.state o b.holds e (bytes ++ more)),
      ),
    )
    (record {
      before = lines;
      line = take (limit' [] + 1) bytes;
      ahead = drop (limit' [] + 1) bytes;
      parts = ap (λ (v : List ℕ). lines ++ v) (sym (take-append-drop (limit' [] + 1) bytes)) ∙ sym (append_assoc lines (take (limit' [] + 1) bytes) (drop (limit' [] + 1) bytes));
      one = inl long.1;
      few = omega (arith, length-drop (limit' [] + 1) bytes, t.took.1);
      short = λ most h. omega (arith, b.bound most h [], length-take (limit' [] + 1) bytes);
      due = due-now limit limit' F f lines w;
      asked = λ i. asked-line s0 s1 s2 b.before b.line old.held (b.from_source i) (b.asked i) (t.asked i);
    })

-- it ends at a read that failed
pub reads-failed : {A : Type 0} {tells : Bool} {limit limit' : Limit} {s0 s1 s2 : SourceAt} {old new : Ahead} {F f : List Answer → A} {due : A}
    {also : List Answer → Type 0} {into : List ℕ} (Q : A → Type 0)
    → Got tells limit limit' s0 s1 old F f due also → Next (limit' []) tells s1 s2 old new into read.Failed → Q (f (Fault ∷ []))
    → Reads tells limit s0 s2 F (f (Fault ∷ [])) (λ answers. Q (F answers) × also answers)
reads-failed {A} {tells} {limit} {limit'} {s0} {s1} {s2} {old} {new} {F} {f} {due} {also} Q b x p =
    let lines : List ℕ = b.before ++ b.line in
    let o : old.state ≡ reader.Open = open-for limit limit' lines F f old.state read.Failed b.follows (λ c. (x.again c).2) (λ e. cc e) in
    let t = x.takes o in
    let bytes : List ℕ = old.held ++ t.got in
    let w = follows-open limit limit' lines F f old.state o b.follows in
    took-all {P = λ answers. Q (F answers) × also answers} AtFault t.got b t.from_source (
      fault-on s0 s1 s2 b.no_fault t.faults,
      λ i. t.no_end (not-at-end new.state reader.Failed t.took.2 (λ e. cc e)) i ∙ b.no_end (open-not-at-end old.state o) i,
      (subst Q (sym (w Broken bytes ∙ ap f (scan-fault limit' bytes t.took.0 t.took.1))) p, holds-open limit lines also old.state o b.holds Broken bytes),
    )
    (record {
      before = lines;
      line = bytes;
      ahead = [];
      parts = sym (append-nil (lines ++ bytes));
      one = inl t.took.0;
      few = omega arith;
      short = λ most h. omega (arith, b.bound most h [], t.took.1);
      due = due-now limit limit' F f lines w;
      asked = λ i. asked-line s0 s1 s2 b.before b.line old.held (b.from_source i) (b.asked i) (t.asked i);
    })

pub decides-map : (left : Left) (tells : Bool) (limit : Limit) (s0 s1 : SourceAt) (taken : List ℕ) (P Q : List Answer → Type 0) → ((answers : List Answer) → P answers → Q answers)
    → Decides left tells limit s0 s1 taken P → Decides left tells limit s0 s1 taken Q
decides-map AtEnd tells limit s0 s1 taken P Q h d = (d.0, d.1, h _ d.2)
decides-map AtFault tells limit s0 s1 taken P Q h d = (d.0, d.1, h _ d.2)
decides-map Enough tells limit s0 s1 taken P Q h d = (d.0, d.1, λ e more. h _ (d.2 e more))

-- what is made of a value, and what follows of the answers
pub reads-map : {A B : Type 0} {tells : Bool} {limit : Limit} {s0 s1 : SourceAt} {F : List Answer → A} {due : A} {P : List Answer → Type 0}
    (Q : List Answer → Type 0) (g : A → B) → ((answers : List Answer) → P answers → Q answers)
    → Reads tells limit s0 s1 F due P → Reads tells limit s0 s1 (λ answers. g (F answers)) (g due) Q
reads-map {A} {B} {tells} {limit} {s0} {s1} {F} {due} {P} Q g h r = record {
  taken = r.taken;
  from_source = r.from_source;
  left = r.left;
  decides = decides-map r.left tells limit s0 s1 r.taken P Q h r.decides;
  reach = record { before = r.reach.before; line = r.reach.line; ahead = r.reach.ahead; parts = r.reach.parts; one = r.reach.one; few = r.reach.few; short = r.reach.short; due = ap g r.reach.due; asked = r.reach.asked };
}

-- where nothing else is said of the answers
pub alone : {A : Type 0} {tells : Bool} {limit : Limit} {s0 s1 : SourceAt} {F : List Answer → A} {due : A} {P : List Answer → Type 0}
    → Reads tells limit s0 s1 F due (λ answers. P answers × anything answers) → Reads tells limit s0 s1 F due P
alone {A} {tells} {limit} {s0} {s1} {F} {due} {P} r = reads-map P (λ a. a) (λ answers q. q.0) r

-- what is due is said in other words
pub reads-due : {A : Type 0} {tells : Bool} {limit : Limit} {s0 s1 : SourceAt} {F : List Answer → A} {due due' : A} {P : List Answer → Type 0} → due ≡ due'
    → Reads tells limit s0 s1 F due P → Reads tells limit s0 s1 F due' P
reads-due {A} {tells} {limit} {s0} {s1} {F} {due} {due'} {P} e r = let Q : A → Type 0 = λ d. Reads tells limit s0 s1 F d P in subst Q e r
