-- How the head comes, line by line, and any text after it.
use Rattle.std.proofs.Common.{◌≡◌, ◌∙◌, ℕ, ◌+◌, Bool, true, false, List, [], ◌∷◌, ◌++◌, length, take, refl, sym, ap, subst, nat_lt}
use Rattle.sx_io.specs.Streams.{SourceAt}
use Rattle.sx_io.specs.Reading.{Answer, Line, Limit, longest, newline}
use Rattle.sx_io.specs.Next.{Ahead, Next}
use Rattle.sx_io.specs.declared.lines.LineRead.TheVariants as read
use Rattle.sx_io.specs.declared.lines.ReaderState.TheVariants.{Open}
use Rattle.command_promise.specs.Parts.{Notes}
use Rattle.command_promise.specs.Reads.{anything}
use Rattle.command_promise.specs.Got.{Got}
use Rattle.command_promise.proofs.Takings.{got-new, got-line, got-same, reads-stop, reads-end, reads-too-long, reads-failed, alone}
use Rattle.command_promise.specs.Head.{Head, Found, TooLong, NoMark, Unread, is_mark, most_bytes, head_behind, head, head_lines}
use Rattle.command_promise.specs.HeadRead.{HeadRead, Noted, TextRead}
use Rattle.command_promise.specs.declared.head.HeadFault.TheVariants as fault
use Rattle.std.specs.Prelude.{Result, Ok, Err}
use Rattle.command_promise.specs.declared.head.HeadFault.{HeadFault}

-- this text has come, where g of the text that comes is what F is of all
abbrev pub Comes : {A : Type 0} → Bool → Limit → SourceAt → SourceAt → Ahead → (List Answer → A) → (Head → A) → (List Answer → Type 0) → List ℕ → Type 0
Comes tells limit s0 s1 now F g also text = Got tells limit head_lines s0 s1 now F (λ more. g (head_behind text more)) (g Unread) also

-- this text of the head has come
abbrev pub Come : Bool → SourceAt → SourceAt → Ahead → List ℕ → Type 0
Come tells s0 s1 now text = Comes tells head_lines s0 s1 now head (λ h. h) anything text

-- nothing was read
abbrev pub fresh : Ahead
fresh = record { held = []; state = Open }

-- both: at the beginning of the input, and wherever a command has come
pub record Came (tells : Bool) (s1 s2 : SourceAt) (old now : Ahead) (text : List ℕ) : Type 0 where
  pub first : old ≡ fresh → Come tells s1 s2 now text
  pub further : (limit : Limit) (s0 : SourceAt) (F : List Answer → Noted) (g : Head → Noted) (aside : List Answer → List ℕ) (noted : List ℕ)
      → Got tells limit head_lines s0 s1 old F (λ answers. g (head answers)) (g Unread) (Notes aside noted) → Comes tells limit s0 s2 now F g (Notes aside noted) text

-- and so is what a call answers
pub record Answers (tells : Bool) (s1 s2 : SourceAt) (old now : Ahead) (result : Result (List ℕ) HeadFault) : Type 0 where
  pub first : old ≡ fresh → HeadRead tells s1 s2 now result
  pub further : TextRead tells s1 s2 old now result

pub came-new : {tells : Bool} {s : SourceAt} {a : Ahead} (text : List ℕ) → text ≡ [] → Came tells s s a a text
came-new {tells} {s} {a} text t =
    let P : List ℕ → Type 0 = λ v. Came tells s s a a v in
    subst P (sym t) (record { first = λ e. got-new head_lines a head e; further = λ limit s0 F g aside noted b. b })

-- the same text in other words
pub came-as : {tells : Bool} {s1 s2 : SourceAt} {old now : Ahead} (text other : List ℕ) → text ≡ other → Came tells s1 s2 old now text → Came tells s1 s2 old now other
came-as {tells} {s1} {s2} {old} {now} text other e b = let P : List ℕ → Type 0 = λ v. Came tells s1 s2 old now v in subst P e b

marked : (text line : List ℕ) (more : List Answer) → is_mark line ≡ true → head_behind text (Line line ∷ more) ≡ Found text more
marked text line more e = rw e refl

passing : (text line : List ℕ) (more : List Answer) → is_mark line ≡ false → nat_lt most_bytes (length text + length line + 1) ≡ true
    → head_behind text (Line line ∷ more) ≡ TooLong
passing text line more e f = rw (e, f) refl

goes-further : (text line : List ℕ) (more : List Answer) → is_mark line ≡ false → nat_lt most_bytes (length text + length line + 1) ≡ false
    → head_behind text (Line line ∷ more) ≡ head_behind (text ++ line ++ newline ∷ []) more
goes-further text line more e f = rw (e, f) refl

comes-line : {A : Type 0} {tells : Bool} {limit : Limit} {s0 s1 s2 : SourceAt} {old new : Ahead} {into : List ℕ} {n : ℕ} {F : List Answer → A} {also : List Answer → Type 0}
    (g : Head → A) (text : List ℕ)
    → Comes tells limit s0 s1 old F g also text → Next longest tells s1 s2 old new into (read.Text n)
    → is_mark (take n into) ≡ false → nat_lt most_bytes (length text + length (take n into) + 1) ≡ false
    → Comes tells limit s0 s2 new F g also (text ++ take n into ++ newline ∷ [])
comes-line {A} {tells} {limit} {s0} {s1} {s2} {old} {new} {into} {n} g text b x m p =
    got-same {f = λ more. g (head_behind text (Line (take n into) ∷ more))} {g = λ more. g (head_behind (text ++ take n into ++ newline ∷ []) more)}
    (λ more. ap g (goes-further text (take n into) more m p)) refl
    (got-line (λ more. g (head_behind text more)) b x)

pub came-line : {tells : Bool} {s0 s1 s2 : SourceAt} {first old new : Ahead} {into : List ℕ} {n : ℕ} (text : List ℕ)
    → Came tells s0 s1 first old text → Next longest tells s1 s2 old new into (read.Text n)
    → is_mark (take n into) ≡ false → nat_lt most_bytes (length text + length (take n into) + 1) ≡ false
    → Came tells s0 s2 first new (text ++ take n into ++ newline ∷ [])
came-line text b x m p = record {
  first = λ e. comes-line (λ h. h) text (b.first e) x m p;
  further = λ limit s0 F g aside noted begun. comes-line g text (b.further limit s0 F g aside noted begun) x m p;
}

comes-mark : {A : Type 0} {tells : Bool} {limit : Limit} {s0 s1 s2 : SourceAt} {old new : Ahead} {into : List ℕ} {n : ℕ} {F : List Answer → A} {also : List Answer → Type 0}
    (g : Head → A) (text : List ℕ)
    → Comes tells limit s0 s1 old F g also text → Next longest tells s1 s2 old new into (read.Text n) → is_mark (take n into) ≡ true
    → Got tells limit head_lines s0 s2 new F (λ more. g (Found text more)) (g Unread) also
comes-mark {A} {tells} {limit} {s0} {s1} {s2} {old} {new} {into} {n} g text b x m =
    got-same {f = λ more. g (head_behind text (Line (take n into) ∷ more))} {g = λ more. g (Found text more)} (λ more. ap g (marked text (take n into) more m)) refl
    (got-line (λ more. g (head_behind text more)) b x)

pub came-mark : {tells : Bool} {s0 s1 s2 : SourceAt} {first old new : Ahead} {into : List ℕ} {n : ℕ} (text : List ℕ)
    → Came tells s0 s1 first old text → Next longest tells s1 s2 old new into (read.Text n) → is_mark (take n into) ≡ true
    → Answers tells s0 s2 first new (Ok text)
came-mark text b x m = record {
  first = λ e. comes-mark (λ h. h) text (b.first e) x m;
  further = λ limit s0 F g aside noted begun. comes-mark g text (b.further limit s0 F g aside noted begun) x m;
}

-- a whole text for which there is no memory
pub came-starved : {tells : Bool} {s0 s1 s2 : SourceAt} {first old new : Ahead} {into : List ℕ} {n : ℕ} (text : List ℕ)
    → Came tells s0 s1 first old text → Next longest tells s1 s2 old new into (read.Text n) → is_mark (take n into) ≡ true
    → Answers tells s0 s2 first new (Err fault.OutOfMemory)
came-starved text b x m = record {
  first = λ e. (text, comes-mark (λ h. h) text (b.first e) x m);
  further = λ limit s0 F g aside noted begun. (text, comes-mark g text (b.further limit s0 F g aside noted begun) x m);
}

pub came-too-long : {tells : Bool} {s0 s1 s2 : SourceAt} {first old new : Ahead} {into : List ℕ} {n : ℕ} (text : List ℕ)
    → Came tells s0 s1 first old text → Next longest tells s1 s2 old new into (read.Text n)
    → is_mark (take n into) ≡ false → nat_lt most_bytes (length text + length (take n into) + 1) ≡ true
    → Answers tells s0 s2 first new (Err fault.TooLong)
came-too-long {tells} {s0} {s1} {s2} {first} {old} {new} {into} {n} text b x m p = record {
  first = λ e. alone (reads-stop (λ h. h ≡ TooLong) (got-line (head_behind text) (b.first e) x) (λ more. passing text (take n into) more m p));
  further = λ limit s F g aside noted begun. reads-stop (λ o. o ≡ g TooLong)
      (got-line (λ more. g (head_behind text more)) (b.further limit s F g aside noted begun) x) (λ more. ap g (passing text (take n into) more m p));
}

-- the input ends, a line is too long, or a read failed

pub came-end : {tells : Bool} {s0 s1 s2 : SourceAt} {first old new : Ahead} {into : List ℕ} (text : List ℕ)
    → Came tells s0 s1 first old text → Next longest tells s1 s2 old new into read.End → Answers tells s0 s2 first new (Err fault.NoMark)
came-end text b x = record {
  first = λ e. alone (reads-end (λ h. h ≡ NoMark) refl (b.first e) x refl);
  further = λ limit s F g aside noted begun. reads-end (λ o. o ≡ g NoMark) refl (b.further limit s F g aside noted begun) x refl;
}

pub came-long : {tells : Bool} {s0 s1 s2 : SourceAt} {first old new : Ahead} {into : List ℕ} (text : List ℕ)
    → Came tells s0 s1 first old text → Next longest tells s1 s2 old new into read.TooLong → Answers tells s0 s2 first new (Err fault.TooLong)
came-long text b x = record {
  first = λ e. alone (reads-too-long (λ h. h ≡ TooLong) (b.first e) x refl);
  further = λ limit s F g aside noted begun. reads-too-long (λ o. o ≡ g TooLong) (b.further limit s F g aside noted begun) x refl;
}

pub came-failed : {tells : Bool} {s0 s1 s2 : SourceAt} {first old new : Ahead} {into : List ℕ} (text : List ℕ)
    → Came tells s0 s1 first old text → Next longest tells s1 s2 old new into read.Failed → Answers tells s0 s2 first new (Err fault.Failed)
came-failed text b x = record {
  first = λ e. alone (reads-failed (λ h. h ≡ Unread) (b.first e) x refl);
  further = λ limit s F g aside noted begun. reads-failed (λ o. o ≡ g Unread) (b.further limit s F g aside noted begun) x refl;
}
