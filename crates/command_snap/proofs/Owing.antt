-- What `snap` owes after the head of a deployment.
use Rattle.std.proofs.Common.{◌≡◌, ℕ, ◌+◌, List, [], ◌∷◌, ◌++◌, length, refl, Result, Ok, Err, inl, inr, Bool, true, false}
use Rattle.sx_asm.specs.Assembled.{assembled}
use Rattle.sx_io.specs.Reading.{Answer, End, Long, Fault}
use Rattle.sx_io.specs.Reading as answer
use Rattle.command_promise.specs.declared.status.Status.TheVariants.{ReadFailed}
use Rattle.command_promise.specs.Told.{Output}
use Rattle.command_promise.proofs.Due.{lines_then, EndsUnread, Due, due-behind, behind-ends}
use Rattle.sx_tag.specs.Mac.{Mac}
use Rattle.command_promise.specs.Head.{is_mark}
use Rattle.sx_trace.specs.Names.{NameLists}
use Rattle.sx_sched.specs.Lines.{Line}
use Rattle.spec_run.specs.Setting.{Setting}
use Rattle.spec_run.specs.Accepted.{setting_of}
use Rattle.command_deploy.proofs.Owing.{Owes, memory_above}
use Rattle.command_world.specs.Schedule.{judged_line}
use Rattle.command_world.specs.Images.{images_text}
use Rattle.command_world.specs.Broken.{broken_output}
use Rattle.command_snap.specs.declared.queries.Query.{Query}
use Rattle.command_snap.specs.declared.queries.QueryRule.{QueryRule}
use Rattle.command_snap.specs.Input.{judged_query}
use Rattle.command_snap.specs.Answers.{answer_text}
use Rattle.command_snap.specs.Reading.{Asking, Asks, Breaks, Unread, asking}
use Rattle.command_snap.specs.Output.{answers_from, asked_output, on_query, query_fault, snap_from}
use Rattle.command_snap.specs.Promise.{snap_part}
use Rattle.command_snap.proofs.Statuses.{deployed_same, not_zero, not_four, not_two}
use Rattle.command_snap.proofs.Written.{asks_breaks, asks_line, asks_mark, asks_unread, query_line}

-- ---- where a read failed, its line is the last

query_ends : (names : NameLists) (set : Setting) (lines : List Line) (number : ℕ) (r : Result Query QueryRule) (rest : Output) → EndsUnread rest → EndsUnread (on_query names set lines number r rest)
query_ends names set lines number (Err rule) rest f e = absurd (cc e)
query_ends names set lines number (Ok query) rest f e = behind-ends (answer_text names set lines query) rest f e

answers_ends : (names : NameLists) (set : Setting) (lines : List Line) (number : ℕ) (more : List Answer) → EndsUnread (answers_from names set lines number more)
answers_ends names set lines number [] e = absurd (cc e)
answers_ends names set lines number (End ∷ more) e = absurd (cc e)
answers_ends names set lines number (Long ∷ more) e = absurd (cc e)
answers_ends names set lines number (Fault ∷ more) e = ([], refl)
answers_ends names set lines number (answer.Line text ∷ more) e =
    query_ends names set lines number (judged_query names (length lines) number text) (answers_from names set lines (number + 1) more)
    (answers_ends names set lines (number + 1) more) e

asked_ends : (names : NameLists) (set : Setting) (images : List ℕ) (x : Asking) → EndsUnread (asked_output names set images x)
asked_ends names set images (Asks lines more) e = behind-ends images (answers_from names set lines 1 more) (answers_ends names set lines 1 more) e
asked_ends names set images (Breaks rule number) e = absurd (cc e)
asked_ends names set images Unread e = ([], refl)

snap_ends : (names : NameLists) (set : Setting) (images : List ℕ) (before : List Line) (more : List Answer) → EndsUnread (snap_from names set images before more)
unfolding snap_from
snap_ends names set images before more e = asked_ends names set images (asking names before more) e

-- ---- line by line

due_query : (names : NameLists) (set : Setting) (lines : List Line) (number : ℕ) (l : List ℕ) (ls : List (List ℕ)) (r : Result Query QueryRule) → judged_query names (length lines) number l ≡ r
    → Due (λ more. answers_from names set lines (number + 1) (lines_then ls more)) → Due (λ more. answers_from names set lines number (answer.Line l ∷ lines_then ls more))
due_query names set lines number l ls (Err rule) e d =
    inl (query_fault rule number, λ x. cc x, λ more. query_line names set lines number l (Err rule) (lines_then ls more) e)
due_query names set lines number l ls (Ok query) e d =
    due-behind (λ more. answers_from names set lines number (answer.Line l ∷ lines_then ls more)) (λ more. answers_from names set lines (number + 1) (lines_then ls more))
    (answer_text names set lines query) (λ more. query_line names set lines number l (Ok query) (lines_then ls more) e) d

due_answers : (names : NameLists) (set : Setting) (lines : List Line) (ls : List (List ℕ)) (number : ℕ) → Due (λ more. answers_from names set lines number (lines_then ls more))
due_answers names set lines [] number =
    inr ([], answers_from names set lines number, λ more. refl, refl, λ e. cc e, λ more. answers_ends names set lines number more)
due_answers names set lines (l ∷ ls) number =
    due_query names set lines number l ls (judged_query names (length lines) number l) refl (due_answers names set lines ls (number + 1))

snap_long : (names : NameLists) (set : Setting) (images : List ℕ) (before : List Line) → (snap_from names set images before (Long ∷ [])).status ≡ ReadFailed → ⊥
unfolding snap_from
snap_long names set images before e = cc e

due_line : (names : NameLists) (set : Setting) (images : List ℕ) (before : List Line) (l : List ℕ) (ls : List (List ℕ)) (p : Bool) (r : Result Line ℕ) → is_mark l ≡ p
    → judged_line assembled names (length before + 1) l ≡ r → ((line : Line) → Due (λ more. snap_from names set images (before ++ line ∷ []) (lines_then ls more)))
    → Due (λ more. snap_from names set images before (answer.Line l ∷ lines_then ls more))
due_line names set images before l ls true r x y f =
    due-behind (λ more. snap_from names set images before (answer.Line l ∷ lines_then ls more)) (λ more. answers_from names set before 1 (lines_then ls more)) images
    (λ more. asks_mark names set images before l (lines_then ls more) x) (due_answers names set before ls 1)
due_line names set images before l ls false (Err rule) x y f =
    inl (broken_output rule (length before + 1), λ e. cc e, λ more. asks_breaks names set images before l rule (lines_then ls more) x y)
due_line names set images before l ls false (Ok line) x y f =
    due-behind (λ more. snap_from names set images before (answer.Line l ∷ lines_then ls more)) (λ more. snap_from names set images (before ++ line ∷ []) (lines_then ls more)) []
    (λ more. asks_line names set images before l line (lines_then ls more) x y) (f line)

due_snap : (names : NameLists) (set : Setting) (images : List ℕ) (ls : List (List ℕ)) (before : List Line) → Due (λ more. snap_from names set images before (lines_then ls more))
due_snap names set images [] before =
    inr (
      [],
      snap_from names set images before,
      λ more. refl,
      asks_unread names set images before,
      snap_long names set images before,
      λ more. snap_ends names set images before more,
    )
due_snap names set images (l ∷ ls) before =
    due_line names set images before l ls (is_mark l) (judged_line assembled names (length before + 1) l) refl refl (λ line. due_snap names set images ls (before ++ line ∷ []))

pub snap_owes : (mac : Mac) → Owes (snap_part mac)
snap_owes mac = record {
  due = λ text d read texts ls. due_snap d.names (setting_of mac d texts) (images_text d.names.modules texts) ls [];
  ends = λ d texts more. snap_ends d.names (setting_of mac d texts) (images_text d.names.modules texts) [] more;
  status = λ d texts more. inr (deployed_same mac d texts more);
  starved = refl;
  cut = λ n few six. memory_above n few six;
  not_zero = λ d answers u. not_zero d answers u;
  not_four = λ d answers u. not_four d answers u;
  not_two = λ d answers. not_two d answers;
}
