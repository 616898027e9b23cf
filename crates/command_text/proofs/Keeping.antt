-- Lines that are kept to be written together: what is left of the command is due after them. They were given before a read, from bytes that were held.
use Rattle.std.proofs.Common.{◌≡◌, ◌∙◌, ◌⊎◌, inl, inr, ℕ, ◌+◌, ◌≤◌, Bool, true, false, List, [], ◌∷◌, ◌++◌, length, take, refl, sym, ap, subst, arith, append_assoc}
use Rattle.std.specs.Prelude.{IsTrue, OnErr, OnOk, Some, Result, Ok, Err}
use Rattle.std.proofs.lemmas.List.{append-nil, length-append}
use Rattle.sx_io.specs.Counts.{next_count}
use Rattle.sx_io.specs.Prefixes.{AppendsPrefix}
use Rattle.sx_io.specs.Streams.{SourceAt, SinkAt}
use Rattle.sx_io.specs.Reading.{Answer, Broken, Ending, Fault, IsPlain, Limit, Line, longest, newline, scan, without_return}
use Rattle.sx_io.specs.Next.{Ahead, GivesHeld, IsLineText, Next}
use Rattle.sx_io.specs.declared.lines.LineRead.{LineRead}
use Rattle.sx_io.specs.declared.lines.LineRead.TheVariants as read
use Rattle.sx_io.specs.declared.lines.ReaderState.{ReaderState}
use Rattle.sx_io.specs.declared.lines.ReaderState.TheVariants as reader
use Rattle.sx_io.specs.declared.outside.Failed.{Failed}
use Rattle.sx_io.proofs.Scans.{scan-ended}
use Rattle.command_promise.specs.declared.status.Status.{Status}
use Rattle.command_promise.specs.declared.status.Status.TheVariants.{WriteFailed}
use Rattle.command_promise.specs.Reads.{Asked, Enough}
use Rattle.command_promise.specs.Got.{Follows, HoldsBehind}
use Rattle.command_promise.specs.Told.{CommandAt, CommandEnds, Output, Told, behind, command_at, unread_output}
use Rattle.command_promise.specs.Parts.{Begun}
use Rattle.command_promise.specs.declared.turned.Turned.{Turned}
use Rattle.command_promise.specs.declared.turned.Turned.TheVariants.{On, Stop}
use Rattle.command_promise.proofs.Takings.{holds-open, open-not-at-end}
use Rattle.command_promise.proofs.Laws.{begun-line, begun-put, ends-behind, ends-same, ends-write-failed, prefix-more, told-stop}
use Rattle.command_promise.specs.Head.{head_lines}
use Rattle.command_text.specs.Batch.{WritesPrefix, WritesUpTo}
use Rattle.command_text.specs.Keeping.{ComesNext, DoesKept, KeepsSome, Puts, WasHeld, Wrote}

-- all that is kept was written, or not
pub puts_all : (to_tell : Bool) (k0 k1 : SinkAt) (kept bytes : List ℕ) (r : Result (Unit {0}) Failed) → bytes ≡ kept
    → OnOk r (IsTrue to_tell → k1.written ≡ k0.written ++ bytes) → OnErr r (IsTrue to_tell → AppendsPrefix k0.written k1.written bytes)
    → OnOk r (k1.faults ≡ k0.faults) → OnErr r (k1.faults ≡ next_count k0.faults) → Puts to_tell k0 k1 kept r
puts_all to_tell k0 k1 kept bytes (Ok x) same ok failed faultless fault =
    record { wrote = λ t. ok t ∙ ap (λ (v : List ℕ). k0.written ++ v) same; no_fault = faultless }
puts_all to_tell k0 k1 kept bytes (Err e) same ok failed faultless fault =
    record { prefix = λ t. subst (λ (v : List ℕ). AppendsPrefix k0.written k1.written v) same (failed t); fault = fault }

-- the command ends after what is kept
pub ends_kept : {to_tell : Bool} {k0 k1 k2 : SinkAt} {kept : List ℕ} {status : Status} (o : Output) → Wrote to_tell k0 k1 kept → CommandEnds to_tell k1 k2 status o
    → CommandEnds to_tell k0 k2 status (behind kept o)
ends_kept {to_tell} {k0} {k1} {k2} {kept} {status} o put ends = ends-behind to_tell k0 k1 k2 kept status o put.wrote put.no_fault ends

-- or in writing it
pub ends_stopped : {to_tell : Bool} {k0 k1 : SinkAt} {kept : List ℕ} (o : Output) → WritesPrefix to_tell k0 k1 kept → CommandEnds to_tell k0 k1 WriteFailed (behind kept o)
ends_stopped {to_tell} {k0} {k1} {kept} o stop =
    ends-write-failed to_tell k0 k1 (behind kept o) (λ t. prefix-more k0.written k1.written kept o.text (stop.prefix t)) stop.fault

-- No line was given since: what is kept is due of what was given before.
pub record Due (tells to_tell : Bool) (limit : Limit) (m0 m1 : CommandAt) (now : Ahead) (defined : List Answer → Output) (kept : List ℕ) (left : List Answer → Output)
    (also : List Answer → Type 0) : Type 0 where
  pub before : List Answer → Output
  pub begun : Begun tells to_tell limit head_lines m0 m1 now defined before also
  pub same : (answers : List Answer) → before answers ≡ behind kept (left answers)

-- Whole lines were given since, out of the bytes that were held, and nothing was read or written.
pub record Given (tells to_tell : Bool) (limit : Limit) (m0 m1 : CommandAt) (now : Ahead) (defined : List Answer → Output) (kept : List ℕ) (left : List Answer → Output)
    (also : List Answer → Type 0) : Type 0 where
  pub old : Ahead
  pub before : List Answer → Output
  pub begun : Begun tells to_tell limit head_lines m0 m1 old defined before also
  pub lines : List ℕ
  pub held : old.held ≡ lines ++ now.held
  pub opened : old.state ≡ reader.Open
  pub still : now.state ≡ reader.Open
  pub same : (e : Ending) (more : List ℕ) → before (scan head_lines e [] (lines ++ more)) ≡ behind kept (left (scan head_lines e [] more))

-- one or the other
pub record Waits (tells to_tell : Bool) (limit : Limit) (m0 m1 : CommandAt) (now : Ahead) (defined : List Answer → Output) (kept : List ℕ) (left : List Answer → Output)
    (also : List Answer → Type 0) : Type 0 where
  pub how : Due tells to_tell limit m0 m1 now defined kept left also ⊎ Given tells to_tell limit m0 m1 now defined kept left also

-- nothing is kept
pub waits_new : {tells to_tell : Bool} {limit : Limit} {m0 m1 : CommandAt} {now : Ahead} {defined left : List Answer → Output} {also : List Answer → Type 0}
    → Begun tells to_tell limit head_lines m0 m1 now defined left also → Waits tells to_tell limit m0 m1 now defined [] left also
waits_new {tells} {to_tell} {limit} {m0} {m1} {now} {defined} {left} {also} b = record { how = inl (record { before = left; begun = b; same = λ answers. refl }) }

-- the text of what is kept, and of what is after it
pub joined : (a b : List ℕ) (o : Output) → behind a (behind b o) ≡ behind (a ++ b) o
joined a b o = ap (λ (t : List ℕ). record { text = t; status = o.status }) (sym (append_assoc a b o.text))

line_scan : (e : Ending) (line raw text more : List ℕ) → IsPlain line → length line ≤ longest → raw ≡ line ++ newline ∷ [] → text ≡ without_return line
    → scan head_lines e [] (raw ++ more) ≡ Line text ∷ scan head_lines e [] more
line_scan e line raw text more p h r t = rw (r, t) (scan-ended head_lines e line more p h)

-- what a line that was held is to what follows it
text_scan : (e : Ending) (raw text more : List ℕ) (new : Ahead) → new.state ≡ reader.Open → IsLineText longest raw text new
    → scan head_lines e [] (raw ++ more) ≡ Line text ∷ scan head_lines e [] more
text_scan e raw text more new still (line, p, h, how) =
    elim how [
      | inl ended ↦ line_scan e line raw text more p h ended.0 ended.1
      | inr rest ↦ absurd (let z : reader.Open ≡ reader.AtEnd = sym still ∙ rest.4 in cc z)
    ]

-- a line was given that was held
pub waits_line : {tells to_tell : Bool} {limit : Limit} {m0 m1 : CommandAt} {old new : Ahead} {defined : List Answer → Output} {kept : List ℕ}
    {also : List Answer → Type 0} (into : List ℕ) (n : ℕ) (f : List Answer → Output)
    → GivesHeld old new into (Some n) → Waits tells to_tell limit m0 m1 old defined kept f also
    → Waits tells to_tell limit m0 m1 new defined kept (λ more. f (Line (take n into) ∷ more)) also
waits_line {tells} {to_tell} {limit} {m0} {m1} {old} {new} {defined} {kept} {also} into n f (opened, still, (small, raw, bytes, text)) w =
    let step : (e : Ending) (more : List ℕ) → f (scan head_lines e [] (raw ++ more)) ≡ f (Line (take n into) ∷ scan head_lines e [] more) =
    λ e more. ap f (text_scan e raw (take n into) more new still text) in
    elim w.how [
      | inl due ↦ record {
        how = inr (record {
          old = old;
          before = due.before;
          begun = due.begun;
          lines = raw;
          held = bytes;
          opened = opened;
          still = still;
          same = λ e more. due.same (scan head_lines e [] (raw ++ more)) ∙ ap (behind kept) (step e more);
        });
      }
      | inr given ↦ record {
        how = inr (record {
          old = given.old;
          before = given.before;
          begun = given.begun;
          lines = given.lines ++ raw;
          held = given.held ∙ ap (λ (v : List ℕ). given.lines ++ v) bytes ∙ sym (append_assoc given.lines raw new.held);
          opened = given.opened;
          still = still;
          same = λ e more. ap (λ (v : List ℕ). given.before (scan head_lines e [] v)) (append_assoc given.lines raw more) ∙ given.same e (raw ++ more)
              ∙ ap (behind kept) (step e more);
        });
      }
    ]

-- what is said of a line was kept
pub waits_more : {tells to_tell : Bool} {limit : Limit} {m0 m1 : CommandAt} {now : Ahead} {defined : List Answer → Output} {kept more_kept : List ℕ}
    {also : List Answer → Type 0} (f g : List Answer → Output)
    → ((answers : List Answer) → behind more_kept (g answers) ≡ behind kept (f answers)) → Waits tells to_tell limit m0 m1 now defined kept f also
    → Waits tells to_tell limit m0 m1 now defined more_kept g also
waits_more {tells} {to_tell} {limit} {m0} {m1} {now} {defined} {kept} {more_kept} {also} f g e w =
    elim w.how [
      | inl due ↦ record { how = inl (record { before = due.before; begun = due.begun; same = λ answers. due.same answers ∙ sym (e answers) }) }
      | inr given ↦ record {
        how = inr (record {
          old = given.old;
          before = given.before;
          begun = given.begun;
          lines = given.lines;
          held = given.held;
          opened = given.opened;
          still = given.still;
          same = λ ending more. given.same ending more ∙ sym (e (scan head_lines ending [] more));
        });
      }
    ]

-- what follows the lines that were given, where the reader is open
follows_open : (limit : Limit) (lines : List ℕ) (F f : List Answer → Output) (s : ReaderState) → s ≡ reader.Open → Follows s limit head_lines lines F f
    → (e : Ending) (more : List ℕ) → F (scan limit e [] (lines ++ more)) ≡ f (scan head_lines e [] more)
follows_open limit lines F f s o w = let P : ReaderState → Type 0 = λ t. Follows t limit head_lines lines F f in subst P o w

-- what was written where the command ends
record PartOf (to_tell : Bool) (k0 k2 : SinkAt) (said : List ℕ) : Type 0 where
  pub part : List ℕ
  pub wrote : IsTrue to_tell → k2.written ≡ k0.written ++ (said ++ part)

part_of : (to_tell : Bool) (k0 k1 k2 : SinkAt) (said part : List ℕ) (status : Status) (o : Output) → (IsTrue to_tell → k1.written ≡ k0.written ++ (said ++ part))
    → CommandEnds to_tell k1 k2 status o → PartOf to_tell k0 k2 said
part_of true k0 k1 k2 said part status o p w =
    let f = w.prefix refl in record {
      part = part ++ f.0;
      wrote = λ t. f.2 ∙ ap (λ (v : List ℕ). v ++ f.0) (p t) ∙ append_assoc k0.written (said ++ part) f.0 ∙ ap (λ (v : List ℕ). k0.written ++ v) (append_assoc said part f.0);
    }
part_of false k0 k1 k2 said part status o p w = record { part = []; wrote = λ t. absurd (cc t) }

-- the command ends after what is kept, or in writing it
pub waits_stop : {tells to_tell : Bool} {limit : Limit} {m0 : CommandAt} {s : SourceAt} {k1 k2 : SinkAt} {now : Ahead} {defined : List Answer → Output} {kept : List ℕ}
    {also : List Answer → Type 0} {status : Status} (f : List Answer → Output)
    → Waits tells to_tell limit m0 (command_at s k1) now defined kept f also → ((answers : List Answer) → CommandEnds to_tell k1 k2 status (behind kept (f answers)))
    → Told tells to_tell limit m0 (command_at s k2) status defined also
waits_stop {tells} {to_tell} {limit} {m0} {s} {k1} {k2} {now} {defined} {kept} {also} {status} f w ends =
    elim w.how [
      | inl due ↦ told-stop due.begun (λ more. ends-same to_tell k1 k2 status (due.before more) (behind kept (f more)) (due.same more) (ends more))
      | inr given ↦
          let b = given.begun in
          let text : List ℕ = b.said ++ b.part in
          let lines : List ℕ = b.got.before ++ b.got.line in
          let held : List ℕ = given.old.held in
          let part = part_of to_tell m0.sink k1 k2 b.said b.part status (behind kept (f [])) b.wrote (ends []) in
          let to_come = follows_open limit lines defined (λ answers. behind text (given.before answers)) given.old.state given.opened b.got.follows in
          let hold = holds-open limit lines also given.old.state given.opened b.got.holds in
          let same : (e : Ending) (more : List ℕ) → defined (scan limit e [] ((lines ++ held) ++ more)) ≡ behind text (behind kept (f (scan head_lines e [] (now.held ++ more)))) =
          λ e more. ap (λ (v : List ℕ). defined (scan limit e [] v)) (append_assoc lines held more) ∙ to_come e (held ++ more)
          ∙ ap (λ (v : List ℕ). behind text (given.before (scan head_lines e [] v))) (ap (λ (v : List ℕ). v ++ more) given.held ∙ append_assoc given.lines now.held more)
          ∙ ap (behind text) (given.same e (now.held ++ more)) in
          record {
            said = b.said;
            part = part.part;
            wrote = part.wrote;
            reads = record {
              taken = lines ++ held;
              from_source = λ i. b.got.from_source i ∙ sym (append_assoc lines held s.rest);
              left = Enough;
              decides = (
                b.got.no_fault,
                λ i. b.got.no_end (open-not-at-end given.old.state given.opened) i,
                λ e more. (
                  ends-same to_tell m0.sink k2 status _ _ (same e more)
                      (ends-behind to_tell m0.sink k1 k2 text status (behind kept (f (scan head_lines e [] (now.held ++ more)))) b.wrote b.no_fault (ends (scan head_lines e [] (now.held ++ more)))),
                  subst (λ (v : List ℕ). also (scan limit e [] v)) (sym (append_assoc lines held more)) (hold e (held ++ more)),
                ),
              );
              reach = record { before = b.got.before; line = b.got.line; ahead = held; parts = refl; one = b.got.one; few = b.got.few; short = b.got.short; due = b.got.due; asked = b.got.asked };
            };
          }
    ]

-- one write of what is kept failed
pub waits_failed : {tells to_tell : Bool} {limit : Limit} {m0 : CommandAt} {s : SourceAt} {k1 k2 : SinkAt} {now : Ahead} {defined : List Answer → Output} {kept : List ℕ}
    {also : List Answer → Type 0} (f : List Answer → Output)
    → Waits tells to_tell limit m0 (command_at s k1) now defined kept f also → WritesPrefix to_tell k1 k2 kept → Told tells to_tell limit m0 (command_at s k2) WriteFailed defined also
waits_failed {tells} {to_tell} {limit} {m0} {s} {k1} {k2} {now} {defined} {kept} {also} f w stop =
    waits_stop f w (λ answers. ends_stopped (f answers) stop)

asked_more : (s0 s1 : SourceAt) (before line lines : List ℕ) → Asked s0 s1 before → Asked s0 s1 ((before ++ line) ++ lines)
asked_more s0 s1 before line lines a =
    elim a [
      | inl none ↦ inl none
      | inr late ↦ inr (record {
        given = late.given;
        begun = late.begun;
        further = (late.further ++ line) ++ lines;
        lines_are = ap (λ (v : List ℕ). (v ++ line) ++ lines) late.lines_are ∙ ap (λ (v : List ℕ). v ++ lines) (append_assoc late.given late.further line)
            ∙ append_assoc late.given (late.further ++ line) lines;
        plain = late.plain;
        from_source = late.from_source;
      })
    ]

-- of bytes that were held, few are left
pub few_left : (held lines now : List ℕ) → held ≡ lines ++ now → length held ≤ longest → length now ≤ longest
few_left held lines now e h =
    let l : length (lines ++ now) ≡ length lines + length now = length-append lines now in
    let same : length held ≡ length (lines ++ now) = ap (λ (v : List ℕ). length v) e in omega (arith, l, same, h)

-- all that is kept was written
pub waits_written : {tells to_tell : Bool} {limit : Limit} {m0 : CommandAt} {s : SourceAt} {k1 k2 : SinkAt} {now : Ahead} {defined : List Answer → Output} {kept : List ℕ}
    {also : List Answer → Type 0} (f : List Answer → Output)
    → f (Fault ∷ []) ≡ unread_output → Waits tells to_tell limit m0 (command_at s k1) now defined kept f also → Wrote to_tell k1 k2 kept
    → Begun tells to_tell limit head_lines m0 (command_at s k2) now defined f also
waits_written {tells} {to_tell} {limit} {m0} {s} {k1} {k2} {now} {defined} {kept} {also} f unread w put =
    elim w.how [
      | inl due ↦ begun-put due.before f due.begun (record { text = kept; wrote = put.wrote; same = due.same; no_fault = put.no_fault })
      | inr given ↦
          let b = given.begun in
          let text : List ℕ = b.said ++ b.part in
          let first : List ℕ = b.got.before ++ b.got.line in
          let all : List ℕ = first ++ given.lines in
          let to_come = follows_open limit first defined (λ answers. behind text (given.before answers)) given.old.state given.opened b.got.follows in
          let hold = holds-open limit first also given.old.state given.opened b.got.holds in
          let parts : (more : List ℕ) → (all ++ []) ++ more ≡ first ++ (given.lines ++ more) =
          λ more. ap (λ (v : List ℕ). v ++ more) (append-nil all) ∙ append_assoc first given.lines more in
          let P : ReaderState → Type 0 = λ st. Follows st limit head_lines (all ++ []) defined (λ answers. behind ((text ++ kept) ++ []) (f answers)) in
          let Q : ReaderState → Type 0 = λ st. HoldsBehind st limit (all ++ []) also in
          record {
            said = text ++ kept;
            part = [];
            wrote = λ t. put.wrote t ∙ ap (λ (v : List ℕ). v ++ kept) (b.wrote t) ∙ append_assoc m0.sink.written text kept
                ∙ ap (λ (v : List ℕ). m0.sink.written ++ v) (sym (append-nil (text ++ kept)));
            no_fault = put.no_fault ∙ b.no_fault;
            got = record {
              before = all;
              line = [];
              from_source = λ i. b.got.from_source i ∙ ap (λ (v : List ℕ). first ++ (v ++ s.rest)) given.held
                  ∙ ap (λ (v : List ℕ). first ++ v) (append_assoc given.lines now.held s.rest) ∙ sym (parts (now.held ++ s.rest));
              follows = subst P (sym given.still) (λ e more. ap (λ (v : List ℕ). defined (scan limit e [] v)) (parts more) ∙ to_come e (given.lines ++ more)
                  ∙ ap (behind text) (given.same e more) ∙ joined text kept (f (scan head_lines e [] more))
                  ∙ ap (λ (v : List ℕ). behind v (f (scan head_lines e [] more))) (sym (append-nil (text ++ kept))));
              holds = subst Q (sym given.still) (λ e more. subst (λ (v : List ℕ). also (scan limit e [] v)) (sym (parts more)) (hold e (given.lines ++ more)));
              one = inl tt;
              few = few_left given.old.held given.lines now.held given.held b.got.few;
              bound = b.got.bound;
              short = λ most h. omega arith;
              due = ap (λ (v : List ℕ). defined (scan limit Broken [] (first ++ v))) (sym (append-nil given.lines)) ∙ to_come Broken (given.lines ++ [])
                  ∙ ap (behind text) (given.same Broken [] ∙ ap (behind kept) unread) ∙ joined text kept unread_output;
              no_fault = b.got.no_fault;
              at_end = λ e. absurd (open-not-at-end now.state given.still e);
              no_end = λ e i. b.got.no_end (open-not-at-end given.old.state given.opened) i;
              asked = λ i. asked_more m0.source s b.got.before b.got.line given.lines (b.got.asked i);
            };
          }
    ]

-- the next line came, held or read
pub waits_text : {tells to_tell : Bool} {limit : Limit} {m0 : CommandAt} {s1 : SourceAt} {k1 : SinkAt} {old : Ahead} {defined : List Answer → Output} {kept : List ℕ}
    {also : List Answer → Type 0} (s2 : SourceAt) (k2 : SinkAt) (new : Ahead) (left into : List ℕ) (n : ℕ) (f : List Answer → Output)
    (r : Result LineRead Failed) → r ≡ Ok (read.Text n) → f (Fault ∷ []) ≡ unread_output → Waits tells to_tell limit m0 (command_at s1 k1) old defined kept f also
    → ComesNext tells to_tell (command_at s1 k1) (command_at s2 k2) kept left old new into r
    → Waits tells to_tell limit m0 (command_at s2 k2) new defined left (λ more. f (Line (take n into) ∷ more)) also
waits_text {tells} {to_tell} {limit} {m0} {s1} {k1} {old} {defined} {kept} {also} s2 k2 new left into n f r is unread w comes =
    let g : List Answer → Output = λ more. f (Line (take n into) ∷ more) in
    let P : CommandAt → List ℕ → Type 0 = λ m t. Waits tells to_tell limit m0 m new defined t g also in
    let R : Result LineRead Failed → Type 0 = λ r. ComesNext tells to_tell (command_at s1 k1) (command_at s2 k2) kept left old new into r in
    let here : R (Ok (read.Text n)) = subst R is comes in
    elim here [
      | inl (same, none, held) ↦ subst (λ (m : CommandAt). P m left) (sym same) (subst (λ (t : List ℕ). P (command_at s1 k1) t) (sym none) (waits_line into n f held w))
      | inr (put, none, next) ↦
          subst (λ (t : List ℕ). P (command_at s2 k2) t) (sym none) (waits_new (begun-line f unread (waits_written f unread w put) next))
    ]

-- an answer that isn't held: all that was kept was written before it was asked for
pub waits_asked : {tells to_tell : Bool} {limit : Limit} {m0 : CommandAt} {s1 : SourceAt} {k1 : SinkAt} {old : Ahead} {defined : List Answer → Output}
    {kept : List ℕ} {also : List Answer → Type 0} (s2 : SourceAt) (k2 : SinkAt) (new : Ahead) (left into : List ℕ) (answer : LineRead) (f : List Answer → Output)
    (r : Result LineRead Failed) → r ≡ Ok answer → (WasHeld old new into answer → ⊥) → f (Fault ∷ []) ≡ unread_output
    → Waits tells to_tell limit m0 (command_at s1 k1) old defined kept f also → ComesNext tells to_tell (command_at s1 k1) (command_at s2 k2) kept left old new into r
    → Begun tells to_tell limit head_lines m0 (command_at s1 k2) old defined f also × Next longest tells s1 s2 old new into answer
waits_asked {tells} {to_tell} {limit} {m0} {s1} {k1} {old} {defined} {kept} {also} s2 k2 new left into answer f r is unheld unread w comes =
    let R : Result LineRead Failed → Type 0 = λ r. ComesNext tells to_tell (command_at s1 k1) (command_at s2 k2) kept left old new into r in
    let here : R (Ok answer) = subst R is comes in
    elim here [
      | inl held ↦ absurd (unheld held.2)
      | inr (put, none, next) ↦ (waits_written f unread w put, next)
    ]

-- ---- where some of it was written since

-- What was written since is kept, as if it hadn't been.
pub record Keeps (tells to_tell : Bool) (limit : Limit) (m0 m1 : CommandAt) (now : Ahead) (defined : List Answer → Output) (kept : List ℕ) (left : List Answer → Output)
    (also : List Answer → Type 0) : Type 0 where
  pub sink : SinkAt
  pub out : List ℕ
  pub waits : Waits tells to_tell limit m0 (command_at m1.source sink) now defined (out ++ kept) left also
  pub wrote : IsTrue to_tell → m1.sink.written ≡ sink.written ++ out
  pub no_fault : m1.sink.faults ≡ sink.faults

-- nothing is kept
pub keeps_new : {tells to_tell : Bool} {limit : Limit} {m0 : CommandAt} {s : SourceAt} {k : SinkAt} {now : Ahead} {defined left : List Answer → Output} {also : List Answer → Type 0}
    → Begun tells to_tell limit head_lines m0 (command_at s k) now defined left also → Keeps tells to_tell limit m0 (command_at s k) now defined [] left also
keeps_new {tells} {to_tell} {limit} {m0} {s} {k} {now} {defined} {left} {also} b = record {
  sink = k;
  out = [];
  waits = waits_new b;
  wrote = λ t. sym (append-nil k.written);
  no_fault = refl;
}

-- the rest was written too
all_wrote : {to_tell : Bool} {k0 k1 k2 : SinkAt} (out kept : List ℕ) → (IsTrue to_tell → k1.written ≡ k0.written ++ out) → k1.faults ≡ k0.faults → Wrote to_tell k1 k2 kept
    → Wrote to_tell k0 k2 (out ++ kept)
all_wrote {to_tell} {k0} {k1} {k2} out kept wrote same put = record {
  wrote = λ t. put.wrote t ∙ ap (λ (v : List ℕ). v ++ kept) (wrote t) ∙ append_assoc k0.written out kept;
  no_fault = put.no_fault ∙ same;
}

module _ {tells to_tell : Bool} {limit : Limit} {m0 : CommandAt} {defined : List Answer → Output} {also : List Answer → Type 0} where
  -- the next line came, held or read
  pub keeps_text : {s1 : SourceAt} {k1 : SinkAt} {old : Ahead} {kept : List ℕ} (s2 : SourceAt) (k2 : SinkAt) (new : Ahead) (left into : List ℕ) (n : ℕ) (f : List Answer → Output)
      (r : Result LineRead Failed) → r ≡ Ok (read.Text n) → f (Fault ∷ []) ≡ unread_output → Keeps tells to_tell limit m0 (command_at s1 k1) old defined kept f also
      → ComesNext tells to_tell (command_at s1 k1) (command_at s2 k2) kept left old new into r
      → Keeps tells to_tell limit m0 (command_at s2 k2) new defined left (λ more. f (Line (take n into) ∷ more)) also
  keeps_text {s1} {k1} {old} {kept} s2 k2 new left into n f r is unread w comes =
      let g : List Answer → Output = λ more. f (Line (take n into) ∷ more) in
      let P : CommandAt → List ℕ → Type 0 = λ m t. Keeps tells to_tell limit m0 m new defined t g also in
      let R : Result LineRead Failed → Type 0 = λ r. ComesNext tells to_tell (command_at s1 k1) (command_at s2 k2) kept left old new into r in
      let here : R (Ok (read.Text n)) = subst R is comes in
      elim here [
        | inl (same, none, held) ↦
            let now : Keeps tells to_tell limit m0 (command_at s1 k1) new defined kept g also =
            record { sink = w.sink; out = w.out; waits = waits_line into n f held w.waits; wrote = w.wrote; no_fault = w.no_fault } in
            subst (λ (m : CommandAt). P m left) (sym same) (subst (λ (t : List ℕ). P (command_at s1 k1) t) (sym none) now)
        | inr (put, none, next) ↦
            subst (λ (t : List ℕ). P (command_at s2 k2) t) (sym none) (keeps_new (begun-line f unread (waits_written f unread w.waits (all_wrote w.out kept w.wrote w.no_fault put)) next))
      ]

  -- an answer that isn't held: all that was kept was written before it was asked for
  pub keeps_asked : {s1 : SourceAt} {k1 : SinkAt} {old : Ahead} {kept : List ℕ} (s2 : SourceAt) (k2 : SinkAt) (new : Ahead) (left into : List ℕ) (answer : LineRead) (f : List Answer → Output)
      (r : Result LineRead Failed) → r ≡ Ok answer → (WasHeld old new into answer → ⊥) → f (Fault ∷ []) ≡ unread_output
      → Keeps tells to_tell limit m0 (command_at s1 k1) old defined kept f also → ComesNext tells to_tell (command_at s1 k1) (command_at s2 k2) kept left old new into r
      → Begun tells to_tell limit head_lines m0 (command_at s1 k2) old defined f also × Next longest tells s1 s2 old new into answer
  keeps_asked {s1} {k1} {old} {kept} s2 k2 new left into answer f r is unheld unread w comes =
      let R : Result LineRead Failed → Type 0 = λ r. ComesNext tells to_tell (command_at s1 k1) (command_at s2 k2) kept left old new into r in
      let here : R (Ok answer) = subst R is comes in
      elim here [
        | inl held ↦ absurd (unheld held.2)
        | inr (put, none, next) ↦ (waits_written f unread w.waits (all_wrote w.out kept w.wrote w.no_fault put), next)
      ]

  -- the command ends after what is kept, or in writing it
  pub keeps_stop : {s : SourceAt} {k1 k2 : SinkAt} {now : Ahead} {kept : List ℕ} {status : Status} (f : List Answer → Output)
      → Keeps tells to_tell limit m0 (command_at s k1) now defined kept f also → ((answers : List Answer) → CommandEnds to_tell k1 k2 status (behind kept (f answers)))
      → Told tells to_tell limit m0 (command_at s k2) status defined also
  keeps_stop {s} {k1} {k2} {now} {kept} {status} f w ends =
      waits_stop f w.waits (λ answers. ends-same to_tell w.sink k2 status (behind (w.out ++ kept) (f answers)) (behind w.out (behind kept (f answers))) (sym (joined w.out kept (f answers)))
      (ends-behind to_tell w.sink k1 k2 w.out status (behind kept (f answers)) w.wrote w.no_fault (ends answers)))

  pub keeps_failed : {s : SourceAt} {k1 k2 : SinkAt} {now : Ahead} {kept : List ℕ} (f : List Answer → Output)
      → Keeps tells to_tell limit m0 (command_at s k1) now defined kept f also → WritesPrefix to_tell k1 k2 kept → Told tells to_tell limit m0 (command_at s k2) WriteFailed defined also
  keeps_failed {s} {k1} {k2} {now} {kept} f w stop = keeps_stop f w (λ answers. ends_stopped (f answers) stop)

  -- what is due of a line was kept
  pub keeps_more : {s : SourceAt} {k1 k2 : SinkAt} {now : Ahead} {kept left : List ℕ} (f g : List Answer → Output)
      → Keeps tells to_tell limit m0 (command_at s k1) now defined kept f also → KeepsSome to_tell k1 k2 kept left f g
      → Keeps tells to_tell limit m0 (command_at s k2) now defined left g also
  keeps_more {s} {k1} {k2} {now} {kept} {left} f g w more =
      let u = more.up_to in
      let parts : (w.out ++ u.text) ++ left ≡ (w.out ++ kept) ++ more.text =
      append_assoc w.out u.text left ∙ ap (λ (v : List ℕ). w.out ++ v) u.parts ∙ sym (append_assoc w.out kept more.text) in
      record {
        sink = w.sink;
        out = w.out ++ u.text;
        waits = waits_more f g (λ answers. ap (λ (v : List ℕ). behind v (g answers)) parts ∙ sym (joined (w.out ++ kept) more.text (g answers))
            ∙ ap (behind (w.out ++ kept)) (sym (more.same answers))) w.waits;
        wrote = λ t. u.wrote t ∙ ap (λ (v : List ℕ). v ++ u.text) (w.wrote t) ∙ append_assoc w.sink.written w.out u.text;
        no_fault = u.no_fault ∙ w.no_fault;
      }

-- the command ends after what is kept and one more text, of which some was written
pub up_to_ends : {to_tell : Bool} {k0 k1 k2 : SinkAt} {status : Status} (kept text left : List ℕ) (o : Output) → WritesUpTo to_tell k0 k1 (kept ++ text) left
    → CommandEnds to_tell k1 k2 status (behind left o) → CommandEnds to_tell k0 k2 status (behind kept (behind text o))
up_to_ends {to_tell} {k0} {k1} {k2} {status} kept text left o u ends =
    ends-same to_tell k0 k2 status (behind kept (behind text o)) (behind u.text (behind left o)) (joined kept text o ∙ ap (λ (v : List ℕ). behind v o) (sym u.parts) ∙ sym (joined u.text left o))
    (ends-behind to_tell k0 k1 k2 u.text status (behind left o) u.wrote u.no_fault ends)

-- or in writing the text
pub prefix_ends : {to_tell : Bool} {k0 k1 : SinkAt} (kept text : List ℕ) (o : Output) → WritesPrefix to_tell k0 k1 (kept ++ text)
    → CommandEnds to_tell k0 k1 WriteFailed (behind kept (behind text o))
prefix_ends {to_tell} {k0} {k1} kept text o stop =
    ends-same to_tell k0 k1 WriteFailed (behind kept (behind text o)) (behind (kept ++ text) o) (joined kept text o) (ends_stopped o stop)

-- what comes before is as good where it writes the same
pub kept_same : (to_tell : Bool) (k0 k1 : SinkAt) (kept left : List ℕ) (f g after : List Answer → Output) (turned : Turned) → ((more : List Answer) → f more ≡ g more)
    → DoesKept to_tell k0 k1 kept left g turned after → DoesKept to_tell k0 k1 kept left f turned after
kept_same to_tell k0 k1 kept left f g after On h w = record { text = w.text; up_to = w.up_to; same = λ more. h more ∙ w.same more }
kept_same to_tell k0 k1 kept left f g after (Stop status) h w =
    λ more. ends-same to_tell k0 k1 status (behind kept (f more)) (behind kept (g more)) (ap (behind kept) (h more)) (w more)
