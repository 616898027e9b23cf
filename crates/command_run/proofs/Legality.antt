-- The items of every run of a deployment that was accepted are legal, up to the first that is forged; and what that is.
use Rattle.std.proofs.Common.{◌≡◌, ◌∙◌, ℕ, ◌+◌, ◌≤◌, Bool, true, false, List, [], ◌∷◌, length, nat_lt, refl, sym, ap, subst, arith, Option, Some, None, Result, Ok, Err}
use Rattle.std.proofs.lemmas.Bool.{ltb-false}
use Rattle.std.specs.Prelude.{if◌then◌else◌}
use Rattle.sx_asm.specs.Assembled.{assembled}
use Rattle.sx_io.specs.Reading.{Answer, End, Long, Fault}
use Rattle.sx_io.specs.Reading as answer
use Rattle.sx_tag.specs.Mac.{Mac, IsTag}
use Rattle.sx_trace.specs.Names.{NameLists}
use Rattle.sx_sched.specs.declared.lines.LineError.{LineError}
use Rattle.sx_sched.specs.Lines.{Line}
use Rattle.sx_sched.specs.InForm.{IsLine}
use Rattle.sx_sched.specs.Reading.{said_line}
use Rattle.sx_sched.proofs.Form.{said_in_form}
use Rattle.sx_deploy.specs.Deployment.{Deployed, IsRead}
use Rattle.sx_mean.specs.Application.{AppTree}
use Rattle.sx_trace.specs.declared.items.Item.{Item}
use Rattle.sx_model.specs.Legal.{before}
use Rattle.command_head.specs.Begun.{ReadsAs}
use Rattle.spec_run.specs.Accepted.{AreImages, setting_of}
use Rattle.spec_run.specs.Law.{OfRuns}
use Rattle.spec_run.specs.AcceptedLaw.{AreLines, OfAcceptedRuns}
use Rattle.spec_run.proofs.AcceptedRuns.{of_accepted}
use Rattle.law_forgery.specs.Forgery.{ForgedIsForgery}
use Rattle.law_forgery.proofs.Unmade.{accepted_forged}
use Rattle.law_connections.specs.LinksUnseen.{LinksAreUnseen}
use Rattle.law_connections.specs.Laws.{HidesKeys}
use Rattle.law_connections.proofs.Final.{accepted_unseen}
use Rattle.command_world.specs.Schedule.{Schedule, or_rule, judged_line, on_line, schedule}
use Rattle.command_run.specs.Output.{items_of}

-- a line that keeps the rules is within the limit, and in form
record Kept (names : NameLists) (number : ℕ) (line : Line) : Type 0 where
  few : number ≤ 65536
  form : IsLine names line

said_kept : (names : NameLists) (text : List ℕ) (line : Line) (r : Result Line LineError) → said_line assembled names text ≡ r → or_rule r ≡ Ok line → IsLine names line
said_kept names text line (Ok other) e h =
    let same : other ≡ line = cc in said_in_form names text line (e ∙ ap (λ (x : Line). Ok x) same)
said_kept names text line (Err error) e h = absurd (cc h)

kept_by : (names : NameLists) (number : ℕ) (text : List ℕ) (line : Line) (b : Bool) → nat_lt 65536 number ≡ b
    → (if b then Err 2 else or_rule (said_line assembled names text)) ≡ Ok line → Kept names number line
kept_by names number text line true b h = absurd (cc h)
kept_by names number text line false b h = record { few = ltb-false 65536 number b; form = said_kept names text line (said_line assembled names text) refl h }

kept : (names : NameLists) (number : ℕ) (text : List ℕ) (line : Line) → judged_line assembled names number text ≡ Ok line → Kept names number line
unfolding judged_line
kept names number text line h = kept_by names number text line (nat_lt 65536 number) refl h

-- the lines of a schedule are in form, and no more than the limit
record AreKept (names : NameLists) (number : ℕ) (x : Schedule) : Type 0 where
  few : length x.lines + number ≤ 65537
  form : AreLines names x.lines

none_kept : (names : NameLists) (number : ℕ) (x : Schedule) → number ≤ 65537 → x.lines ≡ [] → AreKept names number x
none_kept names number x h e = record {
  few = let n : length x.lines ≡ 0 = ap length e in omega (arith, n, h);
  form = subst (AreLines names) (sym e) tt;
}

line_kept : (names : NameLists) (number : ℕ) (text : List ℕ) (r : Result Line ℕ) (rest : Schedule) → judged_line assembled names number text ≡ r → number ≤ 65537
    → (number + 1 ≤ 65537 → AreKept names (number + 1) rest) → AreKept names number (on_line number r rest)
line_kept names number text (Err rule) rest e h f = none_kept names number _ h refl
line_kept names number text (Ok line) rest e h f =
    let k = kept names number text line e in
    let r = f (omega (arith, k.few)) in
    record { few = omega (arith, r.few); form = (k.form, r.form) }

schedule_kept : (names : NameLists) (number : ℕ) (answers : List Answer) → number ≤ 65537 → AreKept names number (schedule assembled names number answers)
schedule_kept names number [] h = none_kept names number _ h refl
schedule_kept names number (End ∷ more) h = none_kept names number _ h refl
schedule_kept names number (Long ∷ more) h = none_kept names number _ h refl
schedule_kept names number (Fault ∷ more) h = none_kept names number _ h refl
schedule_kept names number (answer.Line text ∷ more) h =
    line_kept names number text (judged_line assembled names number text) (schedule assembled names (number + 1) more) refl h (schedule_kept names (number + 1) more)

-- what holds of all accepted runs holds of these
items_hold : (Holds : AppTree → List Item → Type 0) → OfAcceptedRuns Holds → (mac : Mac) (text : List ℕ) (d : Deployed) (texts : List (List ℕ)) → IsTag mac → IsRead text (Ok d) → AreImages mac d texts
    → (more : List Answer) → Holds d.app (before (items_of assembled mac d texts more))
items_hold Holds runs mac text d texts tag read images more =
    let k = schedule_kept d.names 1 more (omega arith) in
    runs text d read mac texts tag images (schedule assembled d.names 1 more).lines (omega (arith, k.few)) k.form

pub holds_by : (Holds : AppTree → List Item → Type 0) → OfRuns Holds → (mac : Mac) (deployment : Option (List ℕ)) (texts : List (List ℕ)) (d : Deployed) → IsTag mac → ReadsAs deployment d → AreImages mac d texts
    → (schedule : List Answer) → Holds d.app (before (items_of assembled mac d texts schedule))
holds_by Holds runs mac None texts d tag deploys images schedule = absurd deploys
holds_by Holds runs mac (Some text) texts d tag deploys images schedule = items_hold Holds (of_accepted Holds runs) mac text d texts tag deploys images schedule

pub items_forged : (mac : Mac) (text : List ℕ) (d : Deployed) (texts : List (List ℕ)) → IsTag mac → IsRead text (Ok d) → AreImages mac d texts
    → (more : List Answer) → ForgedIsForgery (setting_of mac d texts) (schedule assembled d.names 1 more).lines
items_forged mac text d texts tag read images more =
    let k = schedule_kept d.names 1 more (omega arith) in
    accepted_forged text d read mac texts tag images (schedule assembled d.names 1 more).lines (omega (arith, k.few)) k.form

pub links_unseen : (mac : Mac) (text : List ℕ) (d : Deployed) (texts : List (List ℕ)) → IsTag mac → IsRead text (Ok d) → AreImages mac d texts
    → HidesKeys (setting_of mac d texts) → (more : List Answer) → LinksAreUnseen (setting_of mac d texts) (schedule assembled d.names 1 more).lines
links_unseen mac text d texts tag read images hides more =
    let k = schedule_kept d.names 1 more (omega arith) in
    accepted_unseen text d read mac texts tag images hides (schedule assembled d.names 1 more).lines k.form
