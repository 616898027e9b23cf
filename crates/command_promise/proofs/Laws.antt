-- How what the parts of a command say comes together.
use Rattle.std.proofs.Common.{ℕ, ◌≡◌, ◌∙◌, ◌⊎◌, inl, inr, Bool, true, false, List, [], ◌∷◌, ◌++◌, take, refl, ap, sym, subst, arith, append_assoc}
use Rattle.std.specs.Prelude.{IsTrue}
use Rattle.std.proofs.lemmas.List.{append-nil}
use Rattle.sx_io.specs.Counts.{next_count, Rose}
use Rattle.sx_io.specs.Prefixes.{AppendsPrefix}
use Rattle.sx_io.specs.Streams.{SourceAt, SinkAt, OneReadFault}
use Rattle.sx_io.specs.Reading.{Ended, Broken, Answer, Line, End, Long, Fault, Limit, behind_line, scan}
use Rattle.sx_io.specs.Next.{Ahead, Next}
use Rattle.sx_io.specs.declared.lines.LineRead.TheVariants as read
use Rattle.command_promise.specs.declared.status.Status.{Status}
use Rattle.command_promise.specs.declared.status.Status.TheVariants as status
use Rattle.command_promise.specs.declared.status.Status.TheVariants.{WriteFailed, OutOfMemory}
use Rattle.command_promise.specs.Reads.{Left, AtEnd, AtFault, Enough, Decides, Reads}
use Rattle.command_promise.specs.Got.{Got}
use Rattle.command_promise.specs.Told.{Output, behind, CommandAt, command_at, CommandEnds, Told, unread_output}
use Rattle.command_promise.specs.Parts.{Begun, WroteSome, DoesPart}
use Rattle.command_promise.specs.declared.turned.Turned.{Turned}
use Rattle.command_promise.specs.declared.turned.Turned.TheVariants.{On, Stop}
use Rattle.command_promise.proofs.Takings.{got-map, got-same, got-line, open-or-end, reads-stop, reads-end-open, reads-end-again, reads-too-long}
use Rattle.command_promise.proofs.Takings.{reads-failed, reads-map, reads-due}

-- ---- prefixes of what is written

-- a prefix of a text is one of that text and more
pub prefix-more : (old new text more : List ℕ) → AppendsPrefix old new text → AppendsPrefix old new (text ++ more)
prefix-more old new text more (prefix, left, w, e) = (prefix, left ++ more, w, sym (append_assoc prefix left more) ∙ ap (λ (t : List ℕ). t ++ more) e)

-- after a text that was written whole, a prefix of the next
pub prefix-behind : (w0 w1 w2 x text : List ℕ) → w1 ≡ w0 ++ x → AppendsPrefix w1 w2 text → AppendsPrefix w0 w2 (x ++ text)
prefix-behind w0 w1 w2 x text p (prefix, left, w, e) =
    (x ++ prefix, left, w ∙ ap (λ (t : List ℕ). t ++ prefix) p ∙ append_assoc w0 x prefix, append_assoc x prefix left ∙ ap (λ (t : List ℕ). x ++ t) e)

-- all of a text is a prefix of it
pub prefix-all : (old new text : List ℕ) → new ≡ old ++ text → AppendsPrefix old new text
prefix-all old new text w = (text, [], w, append-nil text)

-- nothing is a prefix of every text
pub prefix-none : (old new text : List ℕ) → new ≡ old → AppendsPrefix old new text
prefix-none old new text w = ([], text, w ∙ sym (append-nil old), refl)

-- ---- the end of a command

pub ends-same : (to_tell : Bool) (k0 k1 : SinkAt) (status : Status) (a b : Output) → a ≡ b → CommandEnds to_tell k0 k1 status b → CommandEnds to_tell k0 k1 status a
ends-same to_tell k0 k1 status a b e w = let P : Output → Type 0 = λ o. CommandEnds to_tell k0 k1 status o in subst P (sym e) w

-- a text was written, and after it the command ends
pub ends-behind : (to_tell : Bool) (k0 k1 k2 : SinkAt) (x : List ℕ) (status : Status) (o : Output) → (IsTrue to_tell → k1.written ≡ k0.written ++ x)
    → k1.faults ≡ k0.faults → CommandEnds to_tell k1 k2 status o → CommandEnds to_tell k0 k2 status (behind x o)
ends-behind to_tell k0 k1 k2 x status o p h w = record {
  whole = λ five six. ((w.whole five six).0, λ t. (w.whole five six).1 t ∙ ap (λ (v : List ℕ). v ++ o.text) (p t) ∙ append_assoc k0.written x o.text);
  prefix = λ t. prefix-behind k0.written k1.written k2.written x o.text (p t) (w.prefix t);
  no_fault = λ five. w.no_fault five ∙ h;
  fault = λ five. w.fault five ∙ ap next_count h;
}

-- a write failed
pub ends-write-failed : (to_tell : Bool) (k0 k1 : SinkAt) (o : Output) → (IsTrue to_tell → AppendsPrefix k0.written k1.written o.text)
    → k1.faults ≡ next_count k0.faults → CommandEnds to_tell k0 k1 WriteFailed o
ends-write-failed to_tell k0 k1 o f r = record { whole = λ five six. absurd (five refl); prefix = f; no_fault = λ five. absurd (five refl); fault = λ _. r }

-- memory ran out
pub ends-out-of-memory : (to_tell : Bool) (k0 k1 : SinkAt) (o : Output) → (IsTrue to_tell → AppendsPrefix k0.written k1.written o.text)
    → k1.faults ≡ k0.faults → CommandEnds to_tell k0 k1 OutOfMemory o
ends-out-of-memory to_tell k0 k1 o f h = record { whole = λ five six. absurd (six refl); prefix = f; no_fault = λ _. h; fault = λ e. absurd (cc e) }

-- ---- a part of a command

-- what was to be written before it is said in other words
pub does-same : (to_tell : Bool) (k0 k1 : SinkAt) (f g after : List Answer → Output) (turned : Turned) → ((more : List Answer) → f more ≡ g more)
    → DoesPart to_tell k0 k1 g turned after → DoesPart to_tell k0 k1 f turned after
does-same to_tell k0 k1 f g after On h w = record { text = w.text; wrote = w.wrote; same = λ more. h more ∙ w.same more; no_fault = w.no_fault }
does-same to_tell k0 k1 f g after (Stop status) h w = λ more. ends-same to_tell k0 k1 status (f more) (g more) (h more) (w more)

-- ---- a command begins, reads a line, writes

-- what is left is said in other words
pub begun-same : {tells to_tell : Bool} {limit limit' : Limit} {m0 m1 : CommandAt} {now : Ahead} {F f : List Answer → Output} {also : List Answer → Type 0} (g : List Answer → Output)
    → ((answers : List Answer) → f answers ≡ g answers) → Begun tells to_tell limit limit' m0 m1 now F f also → Begun tells to_tell limit limit' m0 m1 now F g also
begun-same {tells} {to_tell} {limit} {limit'} {m0} {m1} {now} {F} {f} {also} g h b = record {
  said = b.said;
  part = b.part;
  wrote = b.wrote;
  no_fault = b.no_fault;
  got = got-same {F = F} {f = λ answers. behind (b.said ++ b.part) (f answers)} {g = λ answers. behind (b.said ++ b.part) (g answers)}
      (λ answers. ap (behind (b.said ++ b.part)) (h answers)) refl b.got;
}

-- a line was given; what is due of those before was written
pub begun-line : {tells to_tell : Bool} {limit limit' : Limit} {m0 : CommandAt} {s1 s2 : SourceAt} {k1 : SinkAt} {old new : Ahead} {F : List Answer → Output}
    {also : List Answer → Type 0} {into : List ℕ} {n : ℕ} (f : List Answer → Output)
    → f (Fault ∷ []) ≡ unread_output → Begun tells to_tell limit limit' m0 (command_at s1 k1) old F f also → Next (limit' []) tells s1 s2 old new into (read.Text n)
    → Begun tells to_tell limit (behind_line (take n into) limit') m0 (command_at s2 k1) new F (λ more. f (Line (take n into) ∷ more)) also
begun-line {tells} {to_tell} {limit} {limit'} {m0} {s1} {s2} {k1} {old} {new} {F} {also} {into} {n} f u b x =
    let text : List ℕ = b.said ++ b.part in record {
      said = text;
      part = [];
      wrote = λ t. b.wrote t ∙ ap (λ (v : List ℕ). m0.sink.written ++ v) (sym (append-nil text));
      no_fault = b.no_fault;
      got = got-same {F = F} {f = λ more. behind text (f (Line (take n into) ∷ more))} {g = λ more. behind (text ++ []) (f (Line (take n into) ∷ more))}
          (λ more. ap (λ (v : List ℕ). behind v (f (Line (take n into) ∷ more))) (sym (append-nil text))) (ap (behind text) u)
          (got-line (λ answers. behind text (f answers)) b.got x);
    }

-- a part of what is left was written
pub begun-put : {tells to_tell : Bool} {limit limit' : Limit} {m0 : CommandAt} {s1 : SourceAt} {k1 k2 : SinkAt} {now : Ahead} {F : List Answer → Output}
    {also : List Answer → Type 0} (f g : List Answer → Output)
    → Begun tells to_tell limit limit' m0 (command_at s1 k1) now F f also → WroteSome to_tell k1 k2 f g → Begun tells to_tell limit limit' m0 (command_at s1 k2) now F g also
begun-put {tells} {to_tell} {limit} {limit'} {m0} {s1} {k1} {k2} {now} {F} f g b w =
    let whole : b.said ++ (b.part ++ w.text) ≡ (b.said ++ b.part) ++ w.text = sym (append_assoc b.said b.part w.text) in record {
      said = b.said;
      part = b.part ++ w.text;
      wrote = λ t. w.wrote t ∙ ap (λ (v : List ℕ). v ++ w.text) (b.wrote t) ∙ append_assoc m0.sink.written (b.said ++ b.part) w.text
          ∙ ap (λ (v : List ℕ). m0.sink.written ++ v) (sym whole);
      no_fault = w.no_fault ∙ b.no_fault;
      got = got-same {F = F} {f = λ answers. behind (b.said ++ b.part) (f answers)} {g = λ answers. behind (b.said ++ (b.part ++ w.text)) (g answers)}
          (λ answers. ap (behind (b.said ++ b.part)) (w.same answers)
          ∙ ap (λ (v : List ℕ). record { text = v; status = (g answers).status })
          (sym (append_assoc (b.said ++ b.part) w.text (g answers).text) ∙ ap (λ (v : List ℕ). v ++ (g answers).text) (sym whole)))
          refl b.got;
    }

-- ---- a command ends

-- what was written of the line at which it ends
record Part (to_tell : Bool) (k0 k2 : SinkAt) (said : List ℕ) : Type 0 where
  pub more : List ℕ
  pub wrote : IsTrue to_tell → k2.written ≡ k0.written ++ (said ++ more)

ends-part : (to_tell : Bool) (k0 k1 k2 : SinkAt) (said part : List ℕ) (status : Status) (o : Output) → (IsTrue to_tell → k1.written ≡ k0.written ++ (said ++ part))
    → CommandEnds to_tell k1 k2 status o → Part to_tell k0 k2 said
ends-part true k0 k1 k2 said part status o p w =
    let f = w.prefix refl in record {
      more = part ++ f.0;
      wrote = λ t. f.2 ∙ ap (λ (v : List ℕ). v ++ f.0) (p t) ∙ append_assoc k0.written (said ++ part) f.0 ∙ ap (λ (v : List ℕ). k0.written ++ v) (append_assoc said part f.0);
    }
ends-part false k0 k1 k2 said part status o p w = record { more = []; wrote = λ t. absurd (cc t) }

-- After what was written it ends so; the bytes that were taken decide.
told-by : {tells to_tell : Bool} {limit limit' : Limit} {m0 m1 : CommandAt} {s2 : SourceAt} {k2 : SinkAt} {now : Ahead} {F f : List Answer → Output}
    {also : List Answer → Type 0} {status : Status} (o : Output)
    → (b : Begun tells to_tell limit limit' m0 m1 now F f also) → CommandEnds to_tell m1.sink k2 status o
    → Reads tells limit m0.source s2 F (behind b.said unread_output) (λ answers. CommandEnds to_tell m0.sink k2 status (F answers) × also answers)
    → Told tells to_tell limit m0 (command_at s2 k2) status F also
told-by {tells} {to_tell} {limit} {limit'} {m0} {m1} {s2} {k2} {now} {F} {f} {also} {status} o b w r =
    let p = ends-part to_tell m0.sink m1.sink k2 b.said b.part status o b.wrote w in
    record { said = b.said; part = p.more; wrote = p.wrote; reads = r }

-- it ends between two lines, whatever is to come
pub told-stop : {tells to_tell : Bool} {limit limit' : Limit} {m0 : CommandAt} {s1 : SourceAt} {k1 k2 : SinkAt} {now : Ahead} {F f : List Answer → Output} {also : List Answer → Type 0} {status : Status}
    → Begun tells to_tell limit limit' m0 (command_at s1 k1) now F f also → ((more : List Answer) → CommandEnds to_tell k1 k2 status (f more))
    → Told tells to_tell limit m0 (command_at s1 k2) status F also
told-stop {tells} {to_tell} {limit} {limit'} {m0} {s1} {k1} {k2} {now} {F} {f} {also} {status} b w =
    told-by (f []) b (w [])
    (reads-stop (λ o. CommandEnds to_tell m0.sink k2 status o) b.got
    (λ more. ends-behind to_tell m0.sink k1 k2 (b.said ++ b.part) status (f more) b.wrote b.no_fault (w more)))

-- what is due of all the lines that were given was written
settled : {tells to_tell : Bool} {limit limit' : Limit} {m0 m1 : CommandAt} {k2 : SinkAt} {s2 : SourceAt} {now : Ahead} {F f : List Answer → Output}
    {also : List Answer → Type 0} {status : Status} (o : Output)
    → f (Fault ∷ []) ≡ unread_output → (b : Begun tells to_tell limit limit' m0 m1 now F f also) → CommandEnds to_tell m1.sink k2 status o
    → Reads tells limit m0.source s2 F (behind (b.said ++ b.part) (f (Fault ∷ []))) (λ answers. CommandEnds to_tell m0.sink k2 status (F answers) × also answers)
    → Told tells to_tell limit m0 (command_at s2 k2) status F also
settled {tells} {to_tell} {limit} {limit'} {m0} {m1} {k2} {s2} {now} {F} {f} {also} {status} o u b w r =
    let p = ends-part to_tell m0.sink m1.sink k2 (b.said ++ b.part) [] status o (λ t. b.wrote t ∙ ap (λ (v : List ℕ). m0.sink.written ++ v) (sym (append-nil (b.said ++ b.part)))) w in
    record { said = b.said ++ b.part; part = p.more; wrote = p.wrote; reads = reads-due (ap (behind (b.said ++ b.part)) u) r }

-- it ends at the end of the input
pub told-end : {tells to_tell : Bool} {limit limit' : Limit} {m0 : CommandAt} {s1 s2 : SourceAt} {k1 k2 : SinkAt} {old new : Ahead} {F f : List Answer → Output}
    {also : List Answer → Type 0} {into : List ℕ} {status : Status}
    → f (Fault ∷ []) ≡ unread_output → Begun tells to_tell limit limit' m0 (command_at s1 k1) old F f also → Next (limit' []) tells s1 s2 old new into read.End
    → CommandEnds to_tell k1 k2 status (f (End ∷ []))
    → Told tells to_tell limit m0 (command_at s2 k2) status F also
told-end {tells} {to_tell} {limit} {limit'} {m0} {s1} {s2} {k1} {k2} {old} {new} {F} {f} {also} {into} {status} u b x w =
    let text : List ℕ = b.said ++ b.part in
    let ends : CommandEnds to_tell m0.sink k2 status (behind text (f (End ∷ []))) = ends-behind to_tell m0.sink k1 k2 text status (f (End ∷ [])) b.wrote b.no_fault w in
    elim (open-or-end limit limit' (b.got.before ++ b.got.line) F (λ answers. behind text (f answers)) old.state b.got.follows) [
      | inl o ↦ settled (f (End ∷ [])) u b w (reads-end-open (λ o. CommandEnds to_tell m0.sink k2 status o) o b.got x ends)
      | inr o ↦ told-by (f (End ∷ [])) b w (reads-end-again (λ o. CommandEnds to_tell m0.sink k2 status o) o b.got x ends)
    ]

-- it ends at a line that is too long
pub told-too-long : {tells to_tell : Bool} {limit limit' : Limit} {m0 : CommandAt} {s1 s2 : SourceAt} {k1 k2 : SinkAt} {old new : Ahead}
    {F f : List Answer → Output} {also : List Answer → Type 0} {into : List ℕ} {status : Status}
    → f (Fault ∷ []) ≡ unread_output → Begun tells to_tell limit limit' m0 (command_at s1 k1) old F f also
    → Next (limit' []) tells s1 s2 old new into read.TooLong → CommandEnds to_tell k1 k2 status (f (Long ∷ []))
    → Told tells to_tell limit m0 (command_at s2 k2) status F also
told-too-long {tells} {to_tell} {limit} {limit'} {m0} {s1} {s2} {k1} {k2} {old} {new} {F} {f} {also} {into} {status} u b x w =
    settled (f (Long ∷ [])) u b w
    (reads-too-long (λ o. CommandEnds to_tell m0.sink k2 status o) b.got x (ends-behind to_tell m0.sink k1 k2 (b.said ++ b.part) status (f (Long ∷ [])) b.wrote b.no_fault w))

-- it ends at a read that failed
pub told-failed : {tells to_tell : Bool} {limit limit' : Limit} {m0 : CommandAt} {s1 s2 : SourceAt} {k1 k2 : SinkAt} {old new : Ahead}
    {F f : List Answer → Output} {also : List Answer → Type 0} {into : List ℕ} {status : Status}
    → f (Fault ∷ []) ≡ unread_output → Begun tells to_tell limit limit' m0 (command_at s1 k1) old F f also
    → Next (limit' []) tells s1 s2 old new into read.Failed → CommandEnds to_tell k1 k2 status (f (Fault ∷ []))
    → Told tells to_tell limit m0 (command_at s2 k2) status F also
told-failed {tells} {to_tell} {limit} {limit'} {m0} {s1} {s2} {k1} {k2} {old} {new} {F} {f} {also} {into} {status} u b x w =
    settled (f (Fault ∷ [])) u b w
    (reads-failed (λ o. CommandEnds to_tell m0.sink k2 status o) b.got x (ends-behind to_tell m0.sink k1 k2 (b.said ++ b.part) status (f (Fault ∷ [])) b.wrote b.no_fault w))

-- ---- from a head to a command

-- a head was read, and what is written for it is g of it
pub begun-got : {A : Type 0} {tells to_tell : Bool} {limit limit' : Limit} {s0 s1 : SourceAt} {k : SinkAt} {now : Ahead} {F f : List Answer → A} {due : A}
    {also : List Answer → Type 0} (g : A → Output)
    → g due ≡ unread_output → Got tells limit limit' s0 s1 now F f due also
    → Begun tells to_tell limit limit' (command_at s0 k) (command_at s1 k) now (λ answers. g (F answers)) (λ answers. g (f answers)) also
begun-got {A} {tells} {to_tell} {limit} {limit'} {s0} {s1} {k} {now} {F} {f} {due} {also} g u b = record {
  said = [];
  part = [];
  wrote = λ t. sym (append-nil k.written);
  no_fault = refl;
  got = got-same {F = λ answers. g (F answers)} {f = λ answers. g (f answers)} {g = λ answers. behind [] (g (f answers))} (λ answers. refl) u (got-map g b);
}

-- none was found, and the command ends with what is written for that
pub told-reads : {A : Type 0} {tells to_tell : Bool} {limit : Limit} {s0 s1 : SourceAt} {k0 k1 : SinkAt} {F : List Answer → A} {due : A}
    {P also : List Answer → Type 0} {status : Status} (g : A → Output) (o : Output)
    → g due ≡ unread_output → Reads tells limit s0 s1 F due P → ((answers : List Answer) → P answers → (g (F answers) ≡ o) × also answers)
    → CommandEnds to_tell k0 k1 status o → Told tells to_tell limit (command_at s0 k0) (command_at s1 k1) status (λ answers. g (F answers)) also
told-reads {A} {tells} {to_tell} {limit} {s0} {s1} {k0} {k1} {F} {due} {P} {also} {status} g o u r h w =
    let p = ends-part to_tell k0 k0 k1 [] [] status o (λ t. sym (append-nil k0.written)) w in record {
      said = [];
      part = p.more;
      wrote = p.wrote;
      reads = reads-due u (reads-map (λ answers. CommandEnds to_tell k0 k1 status (g (F answers)) × also answers) g
          (λ answers q. (ends-same to_tell k0 k1 status (g (F answers)) o (h answers q).0 w, (h answers q).1)) r);
    }

-- where nothing was written and nothing is said of the answers
pub told-nothing : {A : Type 0} {tells to_tell : Bool} {limit : Limit} {s0 s1 : SourceAt} {k : SinkAt} {F : List Answer → A} {due : A} {P also : List Answer → Type 0} (g : A → Output)
    → g due ≡ unread_output → Reads tells limit s0 s1 F due P → ((answers : List Answer) → P answers → also answers)
    → Told tells to_tell limit (command_at s0 k) (command_at s1 k) OutOfMemory (λ answers. g (F answers)) also
told-nothing {A} {tells} {to_tell} {limit} {s0} {s1} {k} {F} {due} {P} {also} g u r h = record {
  said = [];
  part = [];
  wrote = λ t. sym (append-nil k.written);
  reads = reads-due u (reads-map (λ answers. CommandEnds to_tell k k OutOfMemory (g (F answers)) × also answers) g
      (λ answers q. (ends-out-of-memory to_tell k k (g (F answers)) (λ t. prefix-none k.written k.written (g (F answers)).text refl) refl, h answers q)) r);
}

-- ---- what follows for a whole command

one-rose : (s0 s1 : SourceAt) → OneReadFault s0 s1 → Rose s0.faults s1.faults
one-rose s0 s1 f = omega (arith, f.faults)

-- of what was taken and what was left this holds, where no read failed
pub decides-quiet : (left : Left) (tells : Bool) (limit : Limit) (s0 s1 : SourceAt) (taken : List ℕ) (P : List Answer → Type 0) → IsTrue tells → (Rose s0.faults s1.faults → ⊥)
    → s0.rest ≡ taken ++ s1.rest → Decides left tells limit s0 s1 taken P → P (scan limit Ended [] s0.rest)
decides-quiet AtEnd tells limit s0 s1 taken P t quiet e d =
    let Q : List ℕ → Type 0 = λ bytes. P (scan limit Ended [] bytes) in
    subst Q (sym (e ∙ ap (λ (v : List ℕ). taken ++ v) (d.1 t).rest ∙ append-nil taken)) d.2
decides-quiet AtFault tells limit s0 s1 taken P t quiet e d = absurd (quiet (one-rose s0 s1 d.0))
decides-quiet Enough tells limit s0 s1 taken P t quiet e d =
    let Q : List ℕ → Type 0 = λ bytes. P (scan limit Ended [] bytes) in subst Q (sym e) (d.2 Ended s1.rest)

read-all : (left : Left) (tells : Bool) (limit : Limit) (s0 s1 : SourceAt) (taken : List ℕ) (P : List Answer → Type 0) → Decides left tells limit s0 s1 taken P
    → ((bytes : List ℕ) → P (scan limit Broken [] bytes) → ⊥) → IsTrue tells → s1.rest ≡ []
read-all AtEnd tells limit s0 s1 taken P d never t = (d.1 t).rest
read-all AtFault tells limit s0 s1 taken P d never t = absurd (never taken d.2)
read-all Enough tells limit s0 s1 taken P d never t = absurd (never (taken ++ []) (d.2 Broken []))

read-fault : (left : Left) (tells : Bool) (limit : Limit) (s0 s1 : SourceAt) (taken : List ℕ) (P : List Answer → Type 0) → Decides left tells limit s0 s1 taken P
    → ((bytes : List ℕ) → P (scan limit Ended [] bytes) → ⊥) → OneReadFault s0 s1
read-fault AtEnd tells limit s0 s1 taken P d never = absurd (never taken d.2)
read-fault AtFault tells limit s0 s1 taken P d never = d.0
read-fault Enough tells limit s0 s1 taken P d never = absurd (never (taken ++ []) (d.2 Ended []))

-- memory ran out, or it didn't
pub ran-out : (s : Status) → (s ≡ OutOfMemory) ⊎ (s ≡ OutOfMemory → ⊥)
ran-out status.OutOfMemory = inl refl
ran-out status.Done = inr (λ e. cc e)
ran-out status.Refused = inr (λ e. cc e)
ran-out status.Misused = inr (λ e. cc e)
ran-out status.Broken = inr (λ e. cc e)
ran-out status.ReadFailed = inr (λ e. cc e)
ran-out status.WriteFailed = inr (λ e. cc e)
ran-out status.NoProperty = inr (λ e. cc e)
ran-out status.Illegal = inr (λ e. cc e)
ran-out status.TooLong = inr (λ e. cc e)
ran-out status.NoCode = inr (λ e. cc e)
ran-out status.NoQuery = inr (λ e. cc e)
ran-out status.PropertyBroken = inr (λ e. cc e)
ran-out status.Unknown = inr (λ e. cc e)

-- where no read and no write failed, all that is defined for the whole input was written, or memory ran out
pub told-quiet : {tells to_tell : Bool} {limit : Limit} {m0 m1 : CommandAt} {status : Status} {F : List Answer → Output} {also : List Answer → Type 0}
    → Told tells to_tell limit m0 m1 status F also → IsTrue tells → (Rose m0.source.faults m1.source.faults → ⊥) → (Rose m0.sink.faults m1.sink.faults → ⊥)
    → (status ≡ OutOfMemory) ⊎ ((status ≡ (F (scan limit Ended [] m0.source.rest)).status)
    × (IsTrue to_tell → m1.sink.written ≡ m0.sink.written ++ (F (scan limit Ended [] m0.source.rest)).text))
told-quiet {tells} {to_tell} {limit} {m0} {m1} {status} {F} {also} told t quiet still =
    let r = told.reads in
    let w = (decides-quiet r.left tells limit m0.source m1.source r.taken (λ answers. CommandEnds to_tell m0.sink m1.sink status (F answers) × also answers) t quiet (r.from_source t) r.decides).0 in
    elim (ran-out status) [
      | inl six ↦ inl six
      | inr six ↦ inr (w.whole (λ five. still (omega (arith, w.fault five))) six)
    ]

-- a status that no failed read gives comes only where the input was read to its end
pub told-all : {tells to_tell : Bool} {limit : Limit} {m0 m1 : CommandAt} {status : Status} {F : List Answer → Output} {also : List Answer → Type 0}
    → Told tells to_tell limit m0 m1 status F also → (status ≡ WriteFailed → ⊥) → (status ≡ OutOfMemory → ⊥)
    → ((bytes : List ℕ) → status ≡ (F (scan limit Broken [] bytes)).status → ⊥) → IsTrue tells → m1.source.rest ≡ []
told-all {tells} {to_tell} {limit} {m0} {m1} {status} {F} {also} told five six never t =
    read-all told.reads.left tells limit m0.source m1.source told.reads.taken (λ answers. CommandEnds to_tell m0.sink m1.sink status (F answers) × also answers) told.reads.decides
    (λ bytes w. never bytes (w.0.whole five six).0) t

-- a status that no end of the input gives comes only where a read failed
pub told-fault : {tells to_tell : Bool} {limit : Limit} {m0 m1 : CommandAt} {status : Status} {F : List Answer → Output} {also : List Answer → Type 0}
    → Told tells to_tell limit m0 m1 status F also → (status ≡ WriteFailed → ⊥) → (status ≡ OutOfMemory → ⊥)
    → ((bytes : List ℕ) → status ≡ (F (scan limit Ended [] bytes)).status → ⊥) → OneReadFault m0.source m1.source
told-fault {tells} {to_tell} {limit} {m0} {m1} {status} {F} {also} told five six never =
    read-fault told.reads.left tells limit m0.source m1.source told.reads.taken (λ answers. CommandEnds to_tell m0.sink m1.sink status (F answers) × also answers) told.reads.decides
    (λ bytes w. never bytes (w.0.whole five six).0)

-- of what was taken, and of what is to come, one continuation is as good as any
decides-some : (left : Left) (tells : Bool) (limit : Limit) (s0 s1 : SourceAt) (taken : List ℕ) (P : List Answer → Type 0) → Decides left tells limit s0 s1 taken P
    → (answers : List Answer) × P answers
decides-some AtEnd tells limit s0 s1 taken P d = (scan limit Ended [] taken, d.2)
decides-some AtFault tells limit s0 s1 taken P d = (scan limit Broken [] taken, d.2)
decides-some Enough tells limit s0 s1 taken P d = (scan limit Ended [] (taken ++ []), d.2 Ended [])

pub told-some : {tells to_tell : Bool} {limit : Limit} {m0 m1 : CommandAt} {status : Status} {F : List Answer → Output} {also : List Answer → Type 0}
    → Told tells to_tell limit m0 m1 status F also → (answers : List Answer) × (CommandEnds to_tell m0.sink m1.sink status (F answers) × also answers)
told-some {tells} {to_tell} {limit} {m0} {m1} {status} {F} {also} told =
    let r = told.reads in decides-some r.left tells limit m0.source m1.source r.taken (λ answers. CommandEnds to_tell m0.sink m1.sink status (F answers) × also answers) r.decides

-- one write failed exactly where the status says so
pub told-write-fault : {tells to_tell : Bool} {limit : Limit} {m0 m1 : CommandAt} {status : Status} {F : List Answer → Output} {also : List Answer → Type 0}
    → Told tells to_tell limit m0 m1 status F also → status ≡ WriteFailed → m1.sink.faults ≡ next_count m0.sink.faults
told-write-fault told five = (told-some told).1.0.fault five

pub told-no-write-fault : {tells to_tell : Bool} {limit : Limit} {m0 m1 : CommandAt} {status : Status} {F : List Answer → Output} {also : List Answer → Type 0}
    → Told tells to_tell limit m0 m1 status F also → (status ≡ WriteFailed → ⊥) → m1.sink.faults ≡ m0.sink.faults
told-no-write-fault told five = (told-some told).1.0.no_fault five
