-- From a head that was read to what `explain` says. A head is the same where the lines after it may
-- be longer.
use Rattle.std.proofs.Common.{arith, codes, ◌≡◌, ◌∙◌, ℕ, ◌+◌, Bool, true, false, if◌then◌else◌, List, [], ◌∷◌, ◌++◌, length, nat_lt, refl, sym, ap, subst, Err}
use Rattle.std.specs.Prelude.{◌==◌}
use Rattle.std.proofs.lemmas.List.{append-nil}
use Rattle.sx_io.specs.Streams.{SourceAt, SinkAt}
use Rattle.sx_io.specs.Reading.{Answer, Ending, Ended, Broken, Line, End, Long, Limit, longest, newline, scan, without_return}
use Rattle.sx_io.specs.Next.{Ahead}
use Rattle.sx_io.specs.declared.lines.ReaderState.{ReaderState}
use Rattle.sx_io.specs.declared.lines.ReaderState.TheVariants as reader
use Rattle.command_promise.specs.declared.status.Status.{Status}
use Rattle.command_promise.specs.declared.status.Status.TheVariants.{OutOfMemory}
use Rattle.command_promise.specs.Reads.{AtEnd, AtFault, Decides, Enough, Left, Reads, anything}
use Rattle.command_promise.specs.Got.{Follows, Got, HoldsBehind}
use Rattle.command_promise.specs.Told.{CommandAt, CommandEnds, Output, Told, command_at, unread_output}
use Rattle.command_promise.specs.Parts.{Notes, Rest}
use Rattle.command_promise.proofs.Laws.{begun-got, ends-out-of-memory, prefix-none, told-reads, told-stop}
use Rattle.command_promise.proofs.Takings.{decides-map, got-also}
use Rattle.sx_entries.specs.declared.fault.Place.TheVariants.{Nowhere}
use Rattle.sx_entries.specs.Fault.{fault}
use Rattle.command_promise.specs.Head.{Head, Found, TooLong, NoMark, Unread, head, head_behind, head_lines, is_mark, most_bytes}
use Rattle.command_promise.specs.HeadRead.{HeadRead}
use Rattle.command_promise.specs.declared.head.HeadFault.{HeadFault}
use Rattle.command_promise.specs.declared.head.HeadFault.TheVariants as none
use Rattle.command_head.specs.Headless.{EndsHeadless}
use Rattle.command_head.specs.Refused.{fault_output}
use Rattle.command_explain.specs.Meant.{Meanings}
use Rattle.command_explain.specs.Trace.{explain_lines, image_lines}
use Rattle.command_explain.specs.Output.{explain_all, explain_found, explain_head}
use Rattle.command_head.specs.Found.{IsFound, RunsOutBehindHead}

-- ---- longer lines

pub push_some : (xs : List ℕ) (x : ℕ) → xs ++ x ∷ [] ≡ [] → ⊥
push_some [] x e = cc e
push_some (y ∷ ys) x e = cc e

-- the end of the input comes first only where nothing is left
only_end : (begun bytes : List ℕ) (more : List Answer) → scan head_lines Ended begun bytes ≡ End ∷ more → (begun ≡ []) × (bytes ≡ [])
only_end [] [] more h = (refl, refl)
only_end (a ∷ begun) [] more h = absurd (cc h)
only_end begun (b ∷ bytes) more h = at (b == newline) (length begun == longest) h (only_end (begun ++ b ∷ []) bytes more)
  where
    at : (p q : Bool)
        → (if p then Line (without_return begun) ∷ scan head_lines Ended [] bytes else if q then Long ∷ [] else scan head_lines Ended (begun ++ b ∷ []) bytes) ≡ End ∷ more
        → (scan head_lines Ended (begun ++ b ∷ []) bytes ≡ End ∷ more → (begun ++ b ∷ [] ≡ []) × (bytes ≡ [])) → (begun ≡ []) × (b ∷ bytes ≡ [])
    at true q h rest = absurd (cc h)
    at false true h rest = absurd (cc h)
    at false false h rest = absurd (push_some begun b (rest h).0)

found_text : (a b : List ℕ) (xs ys : List Answer) → Found a xs ≡ Found b ys → a ≡ b
found_text a b xs ys e = cc e

found_more : (a b : List ℕ) (xs ys : List Answer) → Found a xs ≡ Found b ys → xs ≡ ys
found_more a b xs ys e = cc e

-- the limits after a line, by whether it is the mark
abbrev lines_by : Bool → Limit
lines_by m lines = if m then image_lines lines else explain_lines lines

-- after these bytes of an input, of which this text of a head has come, comes what follows the head
abbrev Behind : List ℕ → List ℕ → Limit → Limit → List ℕ → List ℕ → Type 0
Behind text begun limit limit' bytes t = (e : Ending) (more : List ℕ) → head_behind text (scan limit e begun (bytes ++ more)) ≡ Found t (scan limit' e [] more)

longer_mark : (text line bs t : List ℕ) (m k : Bool)
    → ((e : Ending) (more : List ℕ) → (if m then Found text (scan head_lines e [] (bs ++ more)) else if k then TooLong
    else head_behind (text ++ line ++ newline ∷ []) (scan head_lines e [] (bs ++ more))) ≡ Found t (scan head_lines e [] more))
    → (Behind (text ++ line ++ newline ∷ []) [] head_lines head_lines bs t → Behind (text ++ line ++ newline ∷ []) [] explain_lines image_lines bs t)
    → (e : Ending) (more : List ℕ) → (if m then Found text (scan (lines_by m) e [] (bs ++ more)) else if k then TooLong
    else head_behind (text ++ line ++ newline ∷ []) (scan (lines_by m) e [] (bs ++ more))) ≡ Found t (scan image_lines e [] more)
longer_mark text line bs t true k h rest e more =
    let w = h Ended [] in
    let same = found_text text t _ _ w in
    let none : bs ≡ [] = (sym (append-nil bs) ∙ (only_end [] (bs ++ []) [] (found_more text t _ _ w)).1) in
    ap (λ (v : List ℕ). Found text (scan image_lines e [] (v ++ more))) none ∙ ap (λ (v : List ℕ). Found v (scan image_lines e [] more)) same
longer_mark text line bs t false true h rest e more = absurd (cc (h Broken []))
longer_mark text line bs t false false h rest e more = rest h e more

longer_byte : (text begun bs t : List ℕ) (b : ℕ) (p q : Bool)
    → ((e : Ending) (more : List ℕ) → head_behind text (if p then Line (without_return begun) ∷ scan head_lines e [] (bs ++ more) else if q then Long ∷ []
    else scan head_lines e (begun ++ b ∷ []) (bs ++ more)) ≡ Found t (scan head_lines e [] more))
    → (Behind (text ++ without_return begun ++ newline ∷ []) [] head_lines head_lines bs t → Behind (text ++ without_return begun ++ newline ∷ []) [] explain_lines image_lines bs t)
    → (Behind text (begun ++ b ∷ []) head_lines head_lines bs t → Behind text (begun ++ b ∷ []) explain_lines image_lines bs t)
    → (e : Ending) (more : List ℕ) → head_behind text (if p then Line (without_return begun) ∷ scan (lines_by (is_mark (without_return begun))) e [] (bs ++ more) else if q then Long ∷ []
    else scan explain_lines e (begun ++ b ∷ []) (bs ++ more)) ≡ Found t (scan image_lines e [] more)
longer_byte text begun bs t b true q h line rest e more =
    longer_mark text (without_return begun) bs t (is_mark (without_return begun)) (nat_lt most_bytes (length text + length (without_return begun) + 1)) h line e more
longer_byte text begun bs t b false true h line rest e more = absurd (cc (h Broken []))
longer_byte text begun bs t b false false h line rest e more = rest h e more

longer_behind : (text begun bytes t : List ℕ) → Behind text begun head_lines head_lines bytes t → Behind text begun explain_lines image_lines bytes t
longer_behind text begun [] t h e more = absurd (cc (h Broken []))
longer_behind text begun (b ∷ bs) t h e more =
    longer_byte text begun bs t b (b == newline) (length begun == longest) h (longer_behind (text ++ without_return begun ++ newline ∷ []) [] bs t) (longer_behind text (begun ++ b ∷ []) bs t) e more

-- the same where the head ends the input
abbrev Ends : List ℕ → List ℕ → Limit → List ℕ → List ℕ → Type 0
Ends text begun limit bytes t = head_behind text (scan limit Ended begun bytes) ≡ Found t (End ∷ [])

longer_end : (text begun bytes t : List ℕ) → Ends text begun head_lines bytes t → Ends text begun explain_lines bytes t
longer_end text begun [] t h = h
longer_end text begun (b ∷ bs) t h =
    at_byte (b == newline) (length begun == longest) h (longer_end (text ++ without_return begun ++ newline ∷ []) [] bs t) (longer_end text (begun ++ b ∷ []) bs t)
  where
    at_mark : (m k : Bool)
        → (if m then Found text (scan head_lines Ended [] bs) else if k then TooLong else
        head_behind (text ++ (without_return begun) ++ newline ∷ []) (scan head_lines Ended [] bs)) ≡ Found t (End ∷ [])
        → (Ends (text ++ (without_return begun) ++ newline ∷ []) [] head_lines bs t → Ends (text ++ (without_return begun) ++ newline ∷ []) [] explain_lines bs t)
        → (if m then Found text (scan (lines_by m) Ended [] bs) else if k then TooLong else
        head_behind (text ++ (without_return begun) ++ newline ∷ []) (scan (lines_by m) Ended [] bs)) ≡ Found t (End ∷ [])
    at_mark true k h rest =
        let none : bs ≡ [] = (only_end [] bs [] (found_more text t _ _ h)).1 in
        ap (λ (v : List ℕ). Found text (scan image_lines Ended [] v)) none ∙ ap (λ (v : List ℕ). Found v (End ∷ [])) (found_text text t _ _ h)
    at_mark false true h rest = absurd (cc h)
    at_mark false false h rest = rest h

    at_byte : (p q : Bool)
        → head_behind text (if p then Line (without_return begun) ∷ scan head_lines Ended [] bs else if q then Long ∷ [] else scan head_lines Ended (begun ++ b ∷ []) bs) ≡ Found t (End ∷ [])
        → (Ends (text ++ (without_return begun) ++ newline ∷ []) [] head_lines bs t → Ends (text ++ (without_return begun) ++ newline ∷ []) [] explain_lines bs t)
        → (Ends text (begun ++ b ∷ []) head_lines bs t → Ends text (begun ++ b ∷ []) explain_lines bs t)
        → head_behind text (if p then Line (without_return begun) ∷ scan (lines_by (is_mark (without_return begun))) Ended [] bs else if q then Long ∷ [] else
        scan explain_lines Ended (begun ++ b ∷ []) bs) ≡ Found t (End ∷ [])
    at_byte true q h next rest = at_mark (is_mark (without_return begun)) (nat_lt most_bytes (length text + length (without_return begun) + 1)) h next
    at_byte false true h next rest = absurd (cc h)
    at_byte false false h next rest = rest h

-- and where there is none
abbrev IsNone : Head → Type 0
IsNone (Found text more) = ⊥
IsNone TooLong = Unit {0}
IsNone NoMark = Unit {0}
IsNone Unread = Unit {0}

never_found : (text : List ℕ) (more : List Answer) (h : Head) → IsNone h → Found text more ≡ h → ⊥
never_found text more (Found t m) n e = n
never_found text more TooLong n e = cc e
never_found text more NoMark n e = cc e
never_found text more Unread n e = cc e

longer_none : (text begun bytes : List ℕ) (e : Ending) (o : Head) → IsNone o → head_behind text (scan head_lines e begun bytes) ≡ o → head_behind text (scan explain_lines e begun bytes) ≡ o
longer_none text begun [] e o n h = h
longer_none text begun (b ∷ bs) e o n h =
    at_byte (b == newline) (length begun == longest) h (longer_none (text ++ without_return begun ++ newline ∷ []) [] bs e o n) (longer_none text (begun ++ b ∷ []) bs e o n)
  where
    at_mark : (m k : Bool) → (if m then Found text (scan head_lines e [] bs) else if k then TooLong else head_behind (text ++ (without_return begun) ++ newline ∷ []) (scan head_lines e [] bs)) ≡ o
        → (head_behind (text ++ (without_return begun) ++ newline ∷ []) (scan head_lines e [] bs) ≡ o → head_behind (text ++ (without_return begun) ++ newline ∷ []) (scan explain_lines e [] bs) ≡ o)
        → (if m then Found text (scan (lines_by m) e [] bs) else if k then TooLong else head_behind (text ++ (without_return begun) ++ newline ∷ []) (scan (lines_by m) e [] bs)) ≡ o
    at_mark true k h rest = absurd (never_found text _ o n h)
    at_mark false true h rest = h
    at_mark false false h rest = rest h

    at_byte : (p q : Bool) → head_behind text (if p then Line (without_return begun) ∷ scan head_lines e [] bs else if q then Long ∷ [] else scan head_lines e (begun ++ b ∷ []) bs) ≡ o
        → (head_behind (text ++ (without_return begun) ++ newline ∷ []) (scan head_lines e [] bs) ≡ o → head_behind (text ++ (without_return begun) ++ newline ∷ []) (scan explain_lines e [] bs) ≡ o)
        → (head_behind text (scan head_lines e (begun ++ b ∷ []) bs) ≡ o → head_behind text (scan explain_lines e (begun ++ b ∷ []) bs) ≡ o)
        → head_behind text (if p then Line (without_return begun) ∷ scan (lines_by (is_mark (without_return begun))) e [] bs else if q then Long ∷ [] else
        scan explain_lines e (begun ++ b ∷ []) bs) ≡ o
    at_byte true q h next rest = at_mark (is_mark (without_return begun)) (nat_lt most_bytes (length text + length (without_return begun) + 1)) h next
    at_byte false true h next rest = h
    at_byte false false h next rest = rest h

-- ---- a head that was read, with longer lines after it

follows_longer : (s : ReaderState) (lines text : List ℕ) → Follows s head_lines head_lines lines head (λ more. Found text more)
    → Follows s explain_lines image_lines lines head (λ more. Found text more)
follows_longer reader.Open lines text w = longer_behind [] [] lines text w
follows_longer reader.AtEnd lines text w = longer_end [] [] lines text w
follows_longer reader.TooLong lines text w = w
follows_longer reader.Failed lines text w = w

holds_anything : (s : ReaderState) (limit : Limit) (lines : List ℕ) → HoldsBehind s limit lines anything
holds_anything reader.Open limit lines = λ e more. tt
holds_anything reader.AtEnd limit lines = tt
holds_anything reader.TooLong limit lines = tt
holds_anything reader.Failed limit lines = tt

pub got_longer : {tells : Bool} {s0 s1 : SourceAt} {now : Ahead} (text : List ℕ) → Got tells head_lines head_lines s0 s1 now head (λ more. Found text more) Unread anything
    → Got tells explain_lines image_lines s0 s1 now head (λ more. Found text more) Unread anything
got_longer {tells} {s0} {s1} {now} text b = record {
  before = b.before;
  line = b.line;
  from_source = b.from_source;
  follows = follows_longer now.state (b.before ++ b.line) text b.follows;
  holds = holds_anything now.state explain_lines (b.before ++ b.line);
  one = b.one;
  few = b.few;
  bound = λ most h lines. h (codes "%%" ∷ lines);
  short = λ most h. omega (arith, b.short 4096 (λ lines. omega arith), h []);
  due = longer_none [] [] b.before Broken Unread tt b.due;
  no_fault = b.no_fault;
  at_end = b.at_end;
  no_end = b.no_end;
  asked = b.asked;
}

decides_longer : (left : Left) (tells : Bool) (s0 s1 : SourceAt) (taken : List ℕ) (h : Head) → IsNone h → Decides left tells head_lines s0 s1 taken (λ answers. head answers ≡ h)
    → Decides left tells explain_lines s0 s1 taken (λ answers. head answers ≡ h)
decides_longer AtEnd tells s0 s1 taken h n d = (d.0, d.1, longer_none [] [] taken Ended h n d.2)
decides_longer AtFault tells s0 s1 taken h n d = (d.0, d.1, longer_none [] [] taken Broken h n d.2)
decides_longer Enough tells s0 s1 taken h n d = (d.0, d.1, λ e more. longer_none [] [] (taken ++ more) e h n (d.2 e more))

reads_longer : {tells : Bool} {s0 s1 : SourceAt} (h : Head) → IsNone h → Reads tells head_lines s0 s1 head Unread (λ answers. head answers ≡ h)
    → Reads tells explain_lines s0 s1 head Unread (λ answers. head answers ≡ h)
reads_longer {tells} {s0} {s1} h n r = record {
  taken = r.taken;
  from_source = r.from_source;
  left = r.left;
  decides = decides_longer r.left tells s0 s1 r.taken h n r.decides;
  reach = record {
    before = r.reach.before;
    line = r.reach.line;
    ahead = r.reach.ahead;
    parts = r.reach.parts;
    one = r.reach.one;
    few = r.reach.few;
    short = λ most h. omega (arith, r.reach.short 4096 (λ lines. omega arith), h []);
    due = longer_none [] [] r.reach.before Broken Unread tt r.reach.due;
    asked = r.reach.asked;
  };
}

-- ---- what is said

-- whether there is a head, as a text
abbrev marked : Head → List ℕ
marked (Found text more) = 1 ∷ []
marked TooLong = []
marked NoMark = []
marked Unread = []

abbrev marked_in : List Answer → List ℕ
marked_in answers = marked (head answers)

has_head : (h : Head) → marked h ≡ 1 ∷ [] → IsFound h
has_head (Found found more) e = tt
has_head TooLong e = absurd (cc e)
has_head NoMark e = absurd (cc e)
has_head Unread e = absurd (cc e)

pub told_also : {tells to_tell : Bool} {limit : Limit} {m0 m1 : CommandAt} {status : Status} {F : List Answer → Output} {also : List Answer → Type 0} (next : List Answer → Type 0)
    → ((answers : List Answer) → also answers → next answers) → Told tells to_tell limit m0 m1 status F also → Told tells to_tell limit m0 m1 status F next
told_also {tells} {to_tell} {limit} {m0} {m1} {status} {F} {also} next h told =
    let r = told.reads in record {
      said = told.said;
      part = told.part;
      wrote = told.wrote;
      reads = record {
        taken = r.taken;
        from_source = r.from_source;
        left = r.left;
        decides = decides-map r.left tells limit m0.source m1.source r.taken (λ answers. CommandEnds to_tell m0.sink m1.sink status (F answers) × also answers)
            (λ answers. CommandEnds to_tell m0.sink m1.sink status (F answers) × next answers) (λ answers w. (w.0, h answers w.1)) r.decides;
        reach = r.reach;
      };
    }

-- a head was read, and the rest was done
pub told_found : {tells to_tell : Bool} {s0 s1 : SourceAt} {k0 : SinkAt} {now : Ahead} {m2 : CommandAt} {status : Status} (means : Meanings) (text other : List ℕ) → other ≡ text
    → Got tells head_lines head_lines s0 s1 now head (λ more. Found text more) Unread anything
    → Rest tells to_tell image_lines now (command_at s1 k0) m2 status (explain_found means (means.deployment other))
    → Told tells to_tell explain_lines (command_at s0 k0) m2 status (explain_all means) (RunsOutBehindHead status)
told_found {tells} {to_tell} {s0} {s1} {k0} {now} {m2} {status} means text other e got rest =
    let P : List ℕ → Type 0 = λ t. Rest tells to_tell image_lines now (command_at s1 k0) m2 status (explain_found means (means.deployment t)) in
    let does : P text = subst P e rest in
    told_also (RunsOutBehindHead status) (λ answers m six. has_head (head answers) m)
    (does explain_lines (command_at s0 k0) (explain_all means) marked_in (1 ∷ [])
    (begun-got (explain_head means) refl (got-also (Notes marked_in (1 ∷ [])) (λ answers more q. ap marked q) (got_longer text got))))

-- there is none
told_none : {tells to_tell : Bool} {s0 s1 : SourceAt} {k0 k1 : SinkAt} {status : Status} (means : Meanings) (h : Head) (o : Output) → IsNone h → explain_head means h ≡ o
    → Reads tells head_lines s0 s1 head Unread (λ answers. head answers ≡ h) → CommandEnds to_tell k0 k1 status o → (status ≡ OutOfMemory → ⊥)
    → Told tells to_tell explain_lines (command_at s0 k0) (command_at s1 k1) status (explain_all means) (RunsOutBehindHead status)
told_none means h o n e r w never = told-reads (explain_head means) o refl (reads_longer h n r) (λ answers q. (ap (explain_head means) q ∙ e, λ six. absurd (never six))) w

-- memory ran out, and nothing was written
told_starved : {tells to_tell : Bool} {s0 s1 : SourceAt} {k : SinkAt} {now : Ahead} (means : Meanings) → HeadRead tells s0 s1 now (Err none.OutOfMemory)
    → Told tells to_tell explain_lines (command_at s0 k) (command_at s1 k) OutOfMemory (explain_all means) (RunsOutBehindHead OutOfMemory)
told_starved {tells} {to_tell} {s0} {s1} {k} {now} means (text, got) =
    told_also (RunsOutBehindHead OutOfMemory) (λ answers m six. has_head (head answers) m)
    (told-stop (begun-got (explain_head means) refl (got-also (Notes marked_in (1 ∷ [])) (λ answers more q. ap marked q) (got_longer text got)))
    (λ more. ends-out-of-memory to_tell k k (explain_found means (means.deployment text) more) (λ t. prefix-none k.written k.written _ refl) refl))

-- there is none, or no memory for one
pub told_headless : {tells to_tell : Bool} {s0 s1 : SourceAt} {k0 k1 : SinkAt} {status : Status} (now : Ahead) (means : Meanings) (why : HeadFault) → HeadRead tells s0 s1 now (Err why)
    → EndsHeadless to_tell k0 k1 status why → Told tells to_tell explain_lines (command_at s0 k0) (command_at s1 k1) status (explain_all means) (RunsOutBehindHead status)
told_headless {tells} {to_tell} {s0} {s1} {k0} {k1} {status} now means none.TooLong r w = told_none means TooLong (fault_output (fault 1 Nowhere)) tt refl r w.0 w.1
told_headless {tells} {to_tell} {s0} {s1} {k0} {k1} {status} now means none.NoMark r w = told_none means NoMark (fault_output (fault 2 Nowhere)) tt refl r w.0 w.1
told_headless {tells} {to_tell} {s0} {s1} {k0} {k1} {status} now means none.Failed r w = told_none means Unread unread_output tt refl r w.0 w.1
told_headless {tells} {to_tell} {s0} {s1} {k0} {k1} {status} now means none.OutOfMemory r w = rw (w.0, w.1) (told_starved {k = k0} {now = now} means r)
