-- From what a part of the run says to what is written of it.
use Rattle.std.proofs.Common.{◌≡◌, ◌∙◌, Bool, true, false, List, [], ◌++◌, Result, Ok, Err, refl, sym, subst, ap}
use Rattle.std.specs.Prelude.{IfOk, IsErr, IsTrue, OnOk, if◌then◌else◌}
use Rattle.sx_io.specs.Streams.{SinkAt}
use Rattle.sx_io.specs.Reading.{Answer}
use Rattle.command_promise.specs.declared.status.Status.{Status}
use Rattle.command_promise.specs.declared.status.Status.TheVariants.{OutOfMemory}
use Rattle.command_promise.specs.Told.{CommandEnds, Output, behind}
use Rattle.command_promise.specs.Parts.{WroteSome}
use Rattle.command_promise.specs.declared.turned.Turned.{Turned}
use Rattle.command_promise.specs.declared.turned.Turned.TheVariants.{On, Stop}
use Rattle.command_promise.proofs.Laws.{does-same, ends-behind, ends-out-of-memory, ends-same, prefix-all}
use Rattle.sx_tag.specs.Mac.{Mac}
use Rattle.sx_trace.specs.Names.{NameLists}
use Rattle.sx_deploy.specs.declared.deployment.Deployment.{Deployment}
use Rattle.spec_run.specs.Setting.{Setting}
use Rattle.sx_drive.specs.declared.said.Said.{Said as Told}
use Rattle.sx_drive.specs.declared.said.Drove.{Drove}
use Rattle.sx_drive.specs.declared.said.Drove.TheVariants.{Done, Long}
use Rattle.sx_drive.specs.Honest.{Driven, Honest, Said}
use Rattle.sx_drive.specs.Driving.{Does, Follows, GoesOn, Kept, LosesNothing, drove_of, all_said}
use Rattle.command_drive.specs.Output.{long_output, said_text}
use Rattle.command_drive.specs.Parts.{EndsPart, SaysAll, TellsPart, part_output}
use Rattle.command_drive.proofs.Telling.{prefix_said, said_front}

-- ---- what a call said, and whether a line was left out

no_line_left : (b : Bool) → drove_of b ≡ Done → b ≡ false
no_line_left false e = refl
no_line_left true e = absurd (cc e)

line_left : (b : Bool) → drove_of b ≡ Long → b ≡ true
line_left true e = refl
line_left false e = absurd (cc e)

ok_same : {E : Type 0} (x y : Drove) → ◌≡◌ {A = Result Drove E} (Ok x) (Ok y) → x ≡ y
ok_same x y e = cc e

-- the part was done to its end: the run is where this leads, and no line was left out
pub done_follows : {E : Type 0} (mac : Mac) (d : Deployment) (r : Result Drove E) (old new : Kept) (before after : List Told) (act : Setting → Honest → Driven)
    → Does mac d r old new before after act → IfOk r (λ drove. drove ≡ drove_of new.long) → r ≡ Ok Done → (set : Setting) (h : Honest) → Follows mac d old set h
    → Follows mac d new set (act set h).honest × ((act set h).honest.long ≡ false)
done_follows mac d (Ok drove) old new before after act does is done set h f =
    let g = (does set h f).0 in
    let same : drove ≡ Done = ok_same drove Done done in
    (g, sym g.long ∙ no_line_left new.long (sym is ∙ same))
done_follows mac d (Err e) old new before after act does is done set h f = absurd (cc done)

-- all that the part says was said, or memory ran out
pub does_say : {E : Type 0} (mac : Mac) (d : Deployment) (r : Result Drove E) (old new : Kept) (before after : List Told) (act : Setting → Honest → Driven)
    → Does mac d r old new before after act → IfOk r (λ drove. drove ≡ drove_of new.long) → before ≡ [] → (set : Setting) (h : Honest) → Follows mac d old set h
    → SaysAll (all_said after) r (act set h)
does_say mac d (Ok drove) old new before after act does is none set h f =
    let x = does set h f in (x.1 ∙ ap (λ (xs : List Told). all_said xs ++ (act set h).said) none, is ∙ ap drove_of x.0.long)
does_say mac d (Err e) old new before after act does is none set h f =
    let x = (does set h f).0 in
    let front : all_said after ≡ x.front = x.added ∙ ap (λ (xs : List Told). all_said xs ++ x.front) none in
    (x.rest, ap (λ (xs : List Said). xs ++ x.rest) front ∙ x.prefix)

-- what was performed was said, all of it
pub does_lossless : {E : Type 0} (mac : Mac) (d : Deployment) (r : Result Drove E) (old new : Kept) (before after : List Told) (act : Setting → Honest → Driven)
    → Does mac d r old new before after act → GoesOn mac d old → before ≡ [] → LosesNothing old.world new.world [] (all_said after)
does_lossless mac d (Ok drove) old new before after act does going none =
    let P : List Told → Type 0 = λ xs. LosesNothing old.world new.world (all_said xs) (all_said after) in
    subst P none (does going.set going.honest going.follows).2
does_lossless mac d (Err e) old new before after act does going none =
    let P : List Told → Type 0 = λ xs. LosesNothing old.world new.world (all_said xs) (all_said after) in
    subst P none (does going.set going.honest going.follows).1

-- what holds where a call was done holds where it was done to its end
pub on_done : {E : Type 0} (P : Type 0) (r : Result Drove E) → OnOk r P → r ≡ Ok Done → P
on_done P (Ok drove) p e = p
on_done P (Err x) p e = absurd (cc e)

-- ---- what is written

-- what follows a part of which no line, or one, was left out
pub follows_short : (names : NameLists) (a : Driven) (left : Honest → List Answer → Output) (more : List Answer) → a.honest.long ≡ false
    → part_output names a left more ≡ behind (said_text names a.said) (left a.honest more)
follows_short names a left more e = ap (λ (b : Bool). behind (said_text names a.said) (if b then long_output else left a.honest more)) e

pub follows_long : (names : NameLists) (a : Driven) (left : Honest → List Answer → Output) (more : List Answer) → a.honest.long ≡ true
    → part_output names a left more ≡ behind (said_text names a.said) long_output
follows_long names a left more e = ap (λ (b : Bool). behind (said_text names a.said) (if b then long_output else left a.honest more)) e

-- the text of what was said
text_same : (names : NameLists) (said : List Said) (a : Driven) (o : Output) → said ≡ a.said → behind (said_text names a.said) o ≡ behind (said_text names said) o
text_same names said a o e = ap (λ (xs : List Said). behind (said_text names xs) o) (sym e)

told_done : (to_tell : Bool) (names : NameLists) (k0 k1 : SinkAt) (said : List Said) (a : Driven) → said ≡ a.said → a.honest.long ≡ false
    → ((left : List Answer → Output) → WroteSome to_tell k0 k1 (λ more. behind (said_text names said) (left more)) left) → TellsPart to_tell k0 k1 names a On
told_done to_tell names k0 k1 said a e short wrote = λ left.
    does-same to_tell k0 k1 (part_output names a left) (λ more. behind (said_text names said) (left a.honest more)) (left a.honest) On
    (λ more. follows_short names a left more short ∙ text_same names said a (left a.honest more) e) (wrote (left a.honest))

told_long : (to_tell : Bool) (names : NameLists) (k0 k1 k2 : SinkAt) (said : List Said) (a : Driven) (status : Status) → said ≡ a.said → a.honest.long ≡ true
    → (IsTrue to_tell → k1.written ≡ k0.written ++ said_text names said) → k1.faults ≡ k0.faults → CommandEnds to_tell k1 k2 status long_output
    → TellsPart to_tell k0 k2 names a (Stop status)
told_long to_tell names k0 k1 k2 said a status e long wrote same ends = λ left more.
    ends-same to_tell k0 k2 status (part_output names a left more) (behind (said_text names said) long_output)
    (follows_long names a left more long ∙ text_same names said a long_output e)
    (ends-behind to_tell k0 k1 k2 (said_text names said) status long_output wrote same ends)

told_wanted : (to_tell : Bool) (names : NameLists) (k0 k1 : SinkAt) (said rest : List Said) (a : Driven) → said ++ rest ≡ a.said
    → (IsTrue to_tell → k1.written ≡ k0.written ++ said_text names said) → k1.faults ≡ k0.faults → TellsPart to_tell k0 k1 names a (Stop OutOfMemory)
told_wanted to_tell names k0 k1 said rest a e wrote same = λ left more.
    let o = if a.honest.long then long_output else left a.honest more in
    ends-out-of-memory to_tell k0 k1 (part_output names a left more)
    (λ t. prefix_said names k0.written k1.written said rest a.said o.text e (prefix-all k0.written k1.written (said_text names said) (wrote t))) same

-- all that was said was written, and the command went on after it
pub part_told : {E : Type 0} (to_tell : Bool) (names : NameLists) (k0 k1 k2 : SinkAt) (said : List Said) (r : Result Drove E) (a : Driven) (turned : Turned)
    → SaysAll said r a → ((left : List Answer → Output) → WroteSome to_tell k0 k1 (λ more. behind (said_text names said) (left more)) left)
    → (IsTrue to_tell → k1.written ≡ k0.written ++ said_text names said) → EndsPart to_tell k1 k2 r turned → TellsPart to_tell k0 k2 names a turned
part_told to_tell names k0 k1 k2 said (Ok Done) a turned says does wrote ends =
    let short : a.honest.long ≡ false = no_line_left a.honest.long (sym says.1) in
    rw (ends.0, ends.1) (told_done to_tell names k0 k1 said a says.0 short does)
part_told to_tell names k0 k1 k2 said (Ok Long) a On says does wrote ends = absurd ends
part_told to_tell names k0 k1 k2 said (Ok Long) a (Stop status) says does wrote ends =
    let long : a.honest.long ≡ true = line_left a.honest.long (sym says.1) in
    told_long to_tell names k0 k1 k2 said a status says.0 long wrote (does (λ more. long_output)).no_fault ends
part_told to_tell names k0 k1 k2 said (Err e) a turned says does wrote ends =
    rw (ends.0, ends.1) (told_wanted to_tell names k0 k1 said says.0 a says.1 wrote (does (λ more. long_output)).no_fault)

-- a write failed
pub part_stopped : {E : Type 0} (to_tell : Bool) (names : NameLists) (k0 k1 : SinkAt) (said : List Said) (r : Result Drove E) (a : Driven) (status : Status)
    → SaysAll said r a → ((left : List Answer → Output) (more : List Answer) → CommandEnds to_tell k0 k1 status (behind (said_text names said) (left more)))
    → TellsPart to_tell k0 k1 names a (Stop status)
part_stopped to_tell names k0 k1 said (Ok drove) a status says ends = λ left more.
    let o = if a.honest.long then long_output else left a.honest more in
    ends-same to_tell k0 k1 status (part_output names a left more) (behind (said_text names said) o) (text_same names said a o says.0) (ends (λ m. o) more)
part_stopped to_tell names k0 k1 said (Err e) a status says ends = λ left more.
    let o = if a.honest.long then long_output else left a.honest more in
    ends-same to_tell k0 k1 status (part_output names a left more) (behind (said_text names said) (behind (said_text names says.0) o))
    (said_front names said says.0 a.said o says.1) (ends (λ m. behind (said_text names says.0) o) more)

-- the command went on only after a part that was done to its end
pub ends_on : {E : Type 0} (to_tell : Bool) (k0 k1 : SinkAt) (r : Result Drove E) (turned : Turned) → EndsPart to_tell k0 k1 r turned → turned ≡ On → r ≡ Ok Done
ends_on to_tell k0 k1 (Ok Done) turned ends on = refl
ends_on to_tell k0 k1 (Ok Long) On ends on = absurd ends
ends_on to_tell k0 k1 (Ok Long) (Stop status) ends on = absurd (cc on)
ends_on to_tell k0 k1 (Err e) turned ends on = absurd (cc (ends.0, on))

-- where memory ran out, all that was said was written
pub said_written : {E : Type 0} (to_tell : Bool) (names : NameLists) (k0 k1 k2 : SinkAt) (said : List Said) (r : Result Drove E) (turned : Turned) → IsErr r
    → (IsTrue to_tell → k1.written ≡ k0.written ++ said_text names said) → EndsPart to_tell k1 k2 r turned → IsTrue to_tell → k2.written ≡ k0.written ++ said_text names said
said_written to_tell names k0 k1 k2 said (Ok drove) turned is wrote ends t = absurd (cc is)
said_written to_tell names k0 k1 k2 said (Err e) turned is wrote ends t = ap (λ (k : SinkAt). k.written) ends.1 ∙ wrote t
