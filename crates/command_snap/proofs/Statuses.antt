-- The status of `snap` is that of the input, whatever the images are.
use Rattle.std.proofs.Common.{◌≡◌, ℕ, ◌+◌, List, [], ◌∷◌, ◌++◌, length, refl, Result, Ok, Err}
use Rattle.sx_asm.specs.Assembled.{assembled}
use Rattle.sx_io.specs.Reading.{Answer, End, Long, Fault}
use Rattle.sx_io.specs.Reading as answer
use Rattle.command_promise.specs.declared.status.Status.{Status}
use Rattle.command_promise.specs.declared.status.Status.TheVariants.{Done, Misused, Broken, ReadFailed, NoQuery}
use Rattle.command_promise.specs.Told.{Output}
use Rattle.command_promise.proofs.Endings.{pick, Unfinished, Faultless}
use Rattle.sx_tag.specs.Mac.{Mac}
use Rattle.command_promise.specs.Head.{is_mark}
use Rattle.sx_trace.specs.Names.{NameLists}
use Rattle.sx_sched.specs.Lines.{Line}
use Rattle.sx_deploy.specs.Deployment.{Deployed}
use Rattle.spec_run.specs.Setting.{Setting}
use Rattle.spec_run.specs.Accepted.{setting_of}
use Rattle.command_world.specs.Schedule.{judged_line}
use Rattle.command_world.specs.Images.{images_text}
use Rattle.command_snap.specs.declared.queries.Query.{Query}
use Rattle.command_snap.specs.declared.queries.QueryRule.{QueryRule}
use Rattle.command_snap.specs.Input.{judged_query}
use Rattle.command_snap.specs.Reading.{Asking, Asks, Breaks, Unread, asking, on_line}
use Rattle.command_snap.specs.Output.{answers_from, asked_output, on_query, snap_deployed, snap_from}
use Rattle.command_snap.specs.Status.{asking_status, queries_status, query_status, snap_status}

query_same : (names : NameLists) (set : Setting) (lines : List Line) (number : ℕ) (r : Result Query QueryRule) (rest : Output) (n : Status) → rest.status ≡ n
    → (on_query names set lines number r rest).status ≡ query_status r n
query_same names set lines number (Ok query) rest n e = e
query_same names set lines number (Err rule) rest n e = refl

answers_same : (names : NameLists) (set : Setting) (lines : List Line) (number : ℕ) (answers : List Answer)
    → (answers_from names set lines number answers).status ≡ queries_status names (length lines) number answers
answers_same names set lines number [] = refl
answers_same names set lines number (End ∷ more) = refl
answers_same names set lines number (Long ∷ more) = refl
answers_same names set lines number (Fault ∷ more) = refl
answers_same names set lines number (answer.Line text ∷ more) =
    query_same names set lines number (judged_query names (length lines) number text) (answers_from names set lines (number + 1) more)
    (queries_status names (length lines) (number + 1) more) (answers_same names set lines (number + 1) more)

asked_same : (names : NameLists) (set : Setting) (images : List ℕ) (x : Asking) → (asked_output names set images x).status ≡ asking_status names x
asked_same names set images (Asks lines more) = answers_same names set lines 1 more
asked_same names set images (Breaks rule number) = refl
asked_same names set images Unread = refl

pub deployed_same : (mac : Mac) (d : Deployed) (texts : List (List ℕ)) (more : List Answer) → (snap_deployed mac d texts more).status ≡ snap_status d more
unfolding snap_from
deployed_same mac d texts more = asked_same d.names (setting_of mac d texts) (images_text d.names.modules texts) (asking d.names [] more)

-- ---- statuses that answers of a kind don't give

query_not : (n : Status) (r : Result Query QueryRule) (rest : Status) → (NoQuery ≡ n → ⊥) → (rest ≡ n → ⊥) → query_status r rest ≡ n → ⊥
query_not n (Err rule) rest eleven h e = eleven e
query_not n (Ok query) rest eleven h e = h e

line_not : (n : Status) (names : NameLists) (before : List Line) (r : Result Line ℕ) (rest : List Line → Asking) → (Broken ≡ n → ⊥)
    → ((lines : List Line) → asking_status names (rest lines) ≡ n → ⊥) → asking_status names (on_line before r rest) ≡ n → ⊥
line_not n names before (Err rule) rest three h e = three e
line_not n names before (Ok line) rest three h e = h (before ++ line ∷ []) e

-- answers that no end of the input ends don't give status 0
queries_not_zero : (names : NameLists) (last number : ℕ) (answers : List Answer) → Unfinished answers → queries_status names last number answers ≡ Done → ⊥
queries_not_zero names last number [] u e = u
queries_not_zero names last number (End ∷ more) u e = u
queries_not_zero names last number (Long ∷ more) u e = cc e
queries_not_zero names last number (Fault ∷ more) u e = cc e
queries_not_zero names last number (answer.Line text ∷ more) u e =
    query_not Done (judged_query names last number text) (queries_status names last (number + 1) more) (λ x. cc x) (queries_not_zero names last (number + 1) more u) e

asking_not_zero : (names : NameLists) (before : List Line) (answers : List Answer) → Unfinished answers → asking_status names (asking names before answers) ≡ Done → ⊥
asking_not_zero names before [] u e = u
asking_not_zero names before (End ∷ more) u e = u
asking_not_zero names before (Long ∷ more) u e = cc e
asking_not_zero names before (Fault ∷ more) u e = cc e
asking_not_zero names before (answer.Line text ∷ more) u e =
    pick (is_mark text) (Asks before more) _ (λ x. asking_status names x ≡ Done → ⊥) (queries_not_zero names (length before) 1 more u)
    (line_not Done names before (judged_line assembled names (length before + 1) text) (λ lines. asking names lines more) (λ x. cc x) (λ lines. asking_not_zero names lines more u)) e

pub not_zero : (d : Deployed) (answers : List Answer) → Unfinished answers → snap_status d answers ≡ Done → ⊥
not_zero d answers u e = asking_not_zero d.names [] answers u e

-- answers without a read that failed don't give status 4
queries_not_four : (names : NameLists) (last number : ℕ) (answers : List Answer) → Faultless answers → queries_status names last number answers ≡ ReadFailed → ⊥
queries_not_four names last number [] u e = cc e
queries_not_four names last number (End ∷ more) u e = cc e
queries_not_four names last number (Long ∷ more) u e = cc e
queries_not_four names last number (Fault ∷ more) u e = u
queries_not_four names last number (answer.Line text ∷ more) u e =
    query_not ReadFailed (judged_query names last number text) (queries_status names last (number + 1) more) (λ x. cc x) (queries_not_four names last (number + 1) more u) e

asking_not_four : (names : NameLists) (before : List Line) (answers : List Answer) → Faultless answers → asking_status names (asking names before answers) ≡ ReadFailed → ⊥
asking_not_four names before [] u e = cc e
asking_not_four names before (End ∷ more) u e = cc e
asking_not_four names before (Long ∷ more) u e = cc e
asking_not_four names before (Fault ∷ more) u e = u
asking_not_four names before (answer.Line text ∷ more) u e =
    pick (is_mark text) (Asks before more) _ (λ x. asking_status names x ≡ ReadFailed → ⊥) (queries_not_four names (length before) 1 more u)
    (line_not ReadFailed names before (judged_line assembled names (length before + 1) text) (λ lines. asking names lines more) (λ x. cc x) (λ lines. asking_not_four names lines more u)) e

pub not_four : (d : Deployed) (answers : List Answer) → Faultless answers → snap_status d answers ≡ ReadFailed → ⊥
not_four d answers u e = asking_not_four d.names [] answers u e

-- no answers give status 2
queries_not_two : (names : NameLists) (last number : ℕ) (answers : List Answer) → queries_status names last number answers ≡ Misused → ⊥
queries_not_two names last number [] e = cc e
queries_not_two names last number (End ∷ more) e = cc e
queries_not_two names last number (Long ∷ more) e = cc e
queries_not_two names last number (Fault ∷ more) e = cc e
queries_not_two names last number (answer.Line text ∷ more) e =
    query_not Misused (judged_query names last number text) (queries_status names last (number + 1) more) (λ x. cc x) (queries_not_two names last (number + 1) more) e

asking_not_two : (names : NameLists) (x : Asking) → asking_status names x ≡ Misused → ⊥
asking_not_two names (Asks lines more) e = queries_not_two names (length lines) 1 more e
asking_not_two names (Breaks rule number) e = cc e
asking_not_two names Unread e = cc e

pub not_two : (d : Deployed) (answers : List Answer) → snap_status d answers ≡ Misused → ⊥
not_two d answers e = asking_not_two d.names (asking d.names [] answers) e
