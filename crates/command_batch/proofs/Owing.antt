-- What `batch` owes after the head of a deployment.
use Rattle.std.proofs.Common.{◌≡◌, ℕ, ◌+◌, ◌==◌, Bool, true, false, List, [], ◌∷◌, refl, Result, Ok, Err, inl, inr}
use Rattle.std.specs.Prelude.{if◌then◌else◌}
use Rattle.sx_asm.specs.Assembled.{assembled}
use Rattle.sx_io.specs.Reading.{Answer, Line, End, Long, Fault}
use Rattle.command_promise.specs.declared.status.Status.{Status}
use Rattle.command_promise.specs.declared.status.Status.TheVariants.{Done, Misused, Broken, ReadFailed, TooLong}
use Rattle.command_promise.specs.Head.{is_mark}
use Rattle.command_promise.specs.Told.{Output, behind}
use Rattle.command_promise.proofs.Due.{Due, EndsUnread, behind-ends, due-behind, lines_then}
use Rattle.command_promise.proofs.Endings.{Faultless, Unfinished, pick}
use Rattle.sx_tag.specs.Mac.{Mac}
use Rattle.sx_trace.specs.Names.{NameLists}
use Rattle.sx_sched.specs.Lines as lines
use Rattle.spec_run.specs.Setting.{Setting}
use Rattle.spec_run.specs.State.{World, switched_on}
use Rattle.spec_run.specs.Accepted.{setting_of}
use Rattle.command_deploy.proofs.Owing.{Owes, memory_above}
use Rattle.command_world.specs.Broken.{broken_output}
use Rattle.command_world.specs.Schedule.{judged_line}
use Rattle.command_world.specs.Turning.{after_next}
use Rattle.command_batch.specs.Output.{Runs, Standing, common_from, reply, last_number, last_text, long_output, most_schedules, on_common, schedules_from}
use Rattle.command_batch.specs.Promise.{batch_part}
use Rattle.command_batch.specs.Status.{common_status, or_broken, schedules_status}
use Rattle.command_batch.proofs.Written.{behind_line, behind_mark, common_breaks, common_ends, common_goes, common_unread, schedule_ends, schedule_replies, schedule_unread}

-- of two outputs by a test
ends_if : (b : Bool) (o : Output) → EndsUnread o → EndsUnread (if b then long_output else o)
ends_if true o f e = absurd (cc e)
ends_if false o f e = f e

due_if : (b : Bool) (g : List Answer → Output) → Due g → Due (λ more. if b then long_output else g more)
due_if true g d = inl (long_output, λ e. cc e, λ more. refl)
due_if false g d = d

status_if : (b : Bool) (x y : Output) (m n : Status) → x.status ≡ m → y.status ≡ n → (if b then x else y).status ≡ (if b then m else n)
status_if true x y m n p q = p
status_if false x y m n p q = q

module _ (names : NameLists) (set : Setting) where
  -- ---- what is due of schedules

  module _ (start : World) (first : ℕ) where
    schedules_end : (count : ℕ) (s : Standing) (number : ℕ) (more : List Answer) → EndsUnread (schedules_from assembled names set start first count s number more)
    unfolding schedules_from
    schedules_end count s number [] e = absurd (cc e)
    schedules_end count s number (End ∷ more) e = absurd (cc e)
    schedules_end count s number (Long ∷ more) e = absurd (cc e)
    schedules_end count s number (Fault ∷ more) e = ([], refl)
    schedules_end count s number (Line text ∷ more) e =
        let h = reply names set s number (judged_line assembled names number text) in
        pick (is_mark text) (behind (last_text s) (behind_mark assembled names set start first count more)) (behind h.text (behind_line assembled names set start first count h.standing number more))
        EndsUnread
        (behind-ends (last_text s) (behind_mark assembled names set start first count more)
        (ends_if (count == most_schedules) (schedules_from assembled names set start first (count + 1) (Runs start) first more) (schedules_end (count + 1) (Runs start) first more)))
        (behind-ends h.text (behind_line assembled names set start first count h.standing number more)
        (ends_if (number == last_number) (schedules_from assembled names set start first count h.standing (number + 1) more) (schedules_end count h.standing (number + 1) more)))
        e

    schedules_long : (count : ℕ) (s : Standing) (number : ℕ) → (schedules_from assembled names set start first count s number (Long ∷ [])).status ≡ ReadFailed → ⊥
    unfolding schedules_from
    schedules_long count s number e = cc e

    due_line : (count : ℕ) (s : Standing) (number : ℕ) (l : List ℕ) (ls : List (List ℕ)) (b : Bool) → is_mark l ≡ b
        → Due (λ more. schedules_from assembled names set start first (count + 1) (Runs start) first (lines_then ls more))
        → ((s : Standing) → Due (λ more. schedules_from assembled names set start first count s (number + 1) (lines_then ls more)))
        → Due (λ more. schedules_from assembled names set start first count s number (Line l ∷ lines_then ls more))
    due_line count s number l ls true e marked goes =
        due-behind (λ more. schedules_from assembled names set start first count s number (Line l ∷ lines_then ls more))
        (λ more. behind_mark assembled names set start first count (lines_then ls more)) (last_text s)
        (λ more. schedule_ends assembled names set start first count s number l (lines_then ls more) e)
        (due_if (count == most_schedules) (λ more. schedules_from assembled names set start first (count + 1) (Runs start) first (lines_then ls more)) marked)
    due_line count s number l ls false e marked goes =
        let h = reply names set s number (judged_line assembled names number l) in
        due-behind (λ more. schedules_from assembled names set start first count s number (Line l ∷ lines_then ls more))
        (λ more. behind_line assembled names set start first count h.standing number (lines_then ls more)) h.text
        (λ more. schedule_replies assembled names set start first count s number l (lines_then ls more) (judged_line assembled names number l) e refl)
        (due_if (number == last_number) (λ more. schedules_from assembled names set start first count h.standing (number + 1) (lines_then ls more)) (goes h.standing))

    due_schedules : (ls : List (List ℕ)) (count : ℕ) (s : Standing) (number : ℕ) → Due (λ more. schedules_from assembled names set start first count s number (lines_then ls more))
    due_schedules [] count s number =
        inr (
          [],
          schedules_from assembled names set start first count s number,
          λ more. refl,
          schedule_unread assembled names set start first count s number,
          schedules_long count s number,
          schedules_end count s number,
        )
    due_schedules (l ∷ ls) count s number =
        due_line count s number l ls (is_mark l) refl (due_schedules ls (count + 1) (Runs start) first) (λ s'. due_schedules ls count s' (number + 1))

  -- ---- of common lines

  on_common_ends : (number : ℕ) (r : Result lines.Line ℕ) (rest : lines.Line → Output) → ((l : lines.Line) → EndsUnread (rest l)) → EndsUnread (on_common number r rest)
  on_common_ends number (Err rule) rest f e = absurd (cc e)
  on_common_ends number (Ok l) rest f e = f l e

  common_end : (w : World) (number : ℕ) (more : List Answer) → EndsUnread (common_from assembled names set w number more)
  unfolding common_from
  common_end w number [] e = absurd (cc e)
  common_end w number (End ∷ more) e = absurd (cc e)
  common_end w number (Long ∷ more) e = absurd (cc e)
  common_end w number (Fault ∷ more) e = ([], refl)
  common_end w number (Line text ∷ more) e =
      let rest : lines.Line → Output = λ l. common_from assembled names set (after_next set w l).world (number + 1) more in
      pick (is_mark text) (schedules_from assembled names set w number 1 (Runs w) number more) (on_common number (judged_line assembled names number text) rest) EndsUnread
      (schedules_end w number 1 (Runs w) number more) (on_common_ends number (judged_line assembled names number text) rest (λ l. common_end (after_next set w l).world (number + 1) more)) e

  common_long : (w : World) (number : ℕ) → (common_from assembled names set w number (Long ∷ [])).status ≡ ReadFailed → ⊥
  unfolding common_from
  common_long w number e = cc e

  due_common_line : (w : World) (number : ℕ) (l : List ℕ) (ls : List (List ℕ)) (b : Bool) (r : Result lines.Line ℕ) → is_mark l ≡ b → judged_line assembled names number l ≡ r
      → ((line : lines.Line) → Due (λ more. common_from assembled names set (after_next set w line).world (number + 1) (lines_then ls more)))
      → Due (λ more. common_from assembled names set w number (Line l ∷ lines_then ls more))
  due_common_line w number l ls true r e j goes =
      due-behind (λ more. common_from assembled names set w number (Line l ∷ lines_then ls more)) (λ more. schedules_from assembled names set w number 1 (Runs w) number (lines_then ls more)) []
      (λ more. common_ends assembled names set w number l (lines_then ls more) e) (due_schedules w number ls 1 (Runs w) number)
  due_common_line w number l ls false (Err rule) e j goes =
      inl (broken_output rule number, λ x. cc x, λ more. common_breaks assembled names set w number l (lines_then ls more) rule e j)
  due_common_line w number l ls false (Ok line) e j goes =
      due-behind (λ more. common_from assembled names set w number (Line l ∷ lines_then ls more)) (λ more. common_from assembled names set (after_next set w line).world (number + 1) (lines_then ls more)) []
      (λ more. common_goes assembled names set w number l (lines_then ls more) line e j) (goes line)

  due_common : (ls : List (List ℕ)) (w : World) (number : ℕ) → Due (λ more. common_from assembled names set w number (lines_then ls more))
  due_common [] w number =
      inr ([], common_from assembled names set w number, λ more. refl, common_unread assembled names set w number, common_long w number, common_end w number)
  due_common (l ∷ ls) w number =
      due_common_line w number l ls (is_mark l) (judged_line assembled names number l) refl refl (λ line. due_common ls (after_next set w line).world (number + 1))

  -- ---- the status

  schedules_same : (start : World) (first count : ℕ) (s : Standing) (number : ℕ) (answers : List Answer)
      → (schedules_from assembled names set start first count s number answers).status ≡ schedules_status first count number answers
  unfolding schedules_from
  schedules_same start first count s number [] = refl
  schedules_same start first count s number (End ∷ more) = refl
  schedules_same start first count s number (Long ∷ more) = refl
  schedules_same start first count s number (Fault ∷ more) = refl
  schedules_same start first count s number (Line text ∷ more) =
      let h = reply names set s number (judged_line assembled names number text) in
      status_if (is_mark text) (behind (last_text s) (behind_mark assembled names set start first count more)) (behind h.text (behind_line assembled names set start first count h.standing number more)) _ _
      (status_if (count == most_schedules) long_output (schedules_from assembled names set start first (count + 1) (Runs start) first more) TooLong _
      refl (schedules_same start first (count + 1) (Runs start) first more))
      (status_if (number == last_number) long_output (schedules_from assembled names set start first count h.standing (number + 1) more) TooLong _
      refl (schedules_same start first count h.standing (number + 1) more))

  on_common_same : (number : ℕ) (r : Result lines.Line ℕ) (rest : lines.Line → Output) (n : Status) → ((l : lines.Line) → (rest l).status ≡ n) → (on_common number r rest).status ≡ or_broken r n
  on_common_same number (Err rule) rest n h = refl
  on_common_same number (Ok l) rest n h = h l

  common_same : (w : World) (number : ℕ) (answers : List Answer) → (common_from assembled names set w number answers).status ≡ common_status assembled names number answers
  unfolding common_from
  common_same w number [] = refl
  common_same w number (End ∷ more) = refl
  common_same w number (Long ∷ more) = refl
  common_same w number (Fault ∷ more) = refl
  common_same w number (Line text ∷ more) =
      let rest : lines.Line → Output = λ l. common_from assembled names set (after_next set w l).world (number + 1) more in
      status_if (is_mark text) (schedules_from assembled names set w number 1 (Runs w) number more) (on_common number (judged_line assembled names number text) rest) _ _
      (schedules_same w number 1 (Runs w) number more) (on_common_same number (judged_line assembled names number text) rest _ (λ l. common_same (after_next set w l).world (number + 1) more))

-- ---- statuses that answers don't give

or_not : (k : Status) (r : Result lines.Line ℕ) (n : Status) → (Broken ≡ k → ⊥) → (n ≡ k → ⊥) → or_broken r n ≡ k → ⊥
or_not k (Ok l) n three h e = h e
or_not k (Err rule) n three h e = three e

-- the status of a line after which these come
line_not : (k : Status) (m c l : Bool) (x y : Status) → (TooLong ≡ k → ⊥) → (x ≡ k → ⊥) → (y ≡ k → ⊥) → (if m then if c then TooLong else x else if l then TooLong else y) ≡ k → ⊥
line_not k true true l x y nine p q e = nine e
line_not k true false l x y nine p q e = p e
line_not k false c true x y nine p q e = nine e
line_not k false c false x y nine p q e = q e

schedules_not_zero : (first count number : ℕ) (answers : List Answer) → Unfinished answers → schedules_status first count number answers ≡ Done → ⊥
schedules_not_zero first count number [] u e = u
schedules_not_zero first count number (End ∷ more) u e = u
schedules_not_zero first count number (Long ∷ more) u e = cc e
schedules_not_zero first count number (Fault ∷ more) u e = cc e
schedules_not_zero first count number (Line text ∷ more) u e =
    line_not Done (is_mark text) (count == most_schedules) (number == last_number) _ _ (λ x. cc x) (schedules_not_zero first (count + 1) first more u) (schedules_not_zero first count (number + 1) more u) e

schedules_not_four : (first count number : ℕ) (answers : List Answer) → Faultless answers → schedules_status first count number answers ≡ ReadFailed → ⊥
schedules_not_four first count number [] u e = cc e
schedules_not_four first count number (End ∷ more) u e = cc e
schedules_not_four first count number (Long ∷ more) u e = cc e
schedules_not_four first count number (Fault ∷ more) u e = u
schedules_not_four first count number (Line text ∷ more) u e =
    line_not ReadFailed (is_mark text) (count == most_schedules) (number == last_number) _ _ (λ x. cc x) (schedules_not_four first (count + 1) first more u) (schedules_not_four first count (number + 1) more u) e

schedules_not_two : (first count number : ℕ) (answers : List Answer) → schedules_status first count number answers ≡ Misused → ⊥
schedules_not_two first count number [] e = cc e
schedules_not_two first count number (End ∷ more) e = cc e
schedules_not_two first count number (Long ∷ more) e = cc e
schedules_not_two first count number (Fault ∷ more) e = cc e
schedules_not_two first count number (Line text ∷ more) e =
    line_not Misused (is_mark text) (count == most_schedules) (number == last_number) _ _ (λ x. cc x) (schedules_not_two first (count + 1) first more) (schedules_not_two first count (number + 1) more) e

module _ (names : NameLists) where
  common_not_zero : (number : ℕ) (answers : List Answer) → Unfinished answers → common_status assembled names number answers ≡ Done → ⊥
  common_not_zero number [] u e = u
  common_not_zero number (End ∷ more) u e = u
  common_not_zero number (Long ∷ more) u e = cc e
  common_not_zero number (Fault ∷ more) u e = cc e
  common_not_zero number (Line text ∷ more) u e =
      pick (is_mark text) (schedules_status number 1 number more) (or_broken (judged_line assembled names number text) (common_status assembled names (number + 1) more)) (λ (n : Status). n ≡ Done → ⊥)
      (schedules_not_zero number 1 number more u) (or_not Done (judged_line assembled names number text) _ (λ x. cc x) (common_not_zero (number + 1) more u)) e

  common_not_four : (number : ℕ) (answers : List Answer) → Faultless answers → common_status assembled names number answers ≡ ReadFailed → ⊥
  common_not_four number [] u e = cc e
  common_not_four number (End ∷ more) u e = cc e
  common_not_four number (Long ∷ more) u e = cc e
  common_not_four number (Fault ∷ more) u e = u
  common_not_four number (Line text ∷ more) u e =
      pick (is_mark text) (schedules_status number 1 number more) (or_broken (judged_line assembled names number text) (common_status assembled names (number + 1) more)) (λ (n : Status). n ≡ ReadFailed → ⊥)
      (schedules_not_four number 1 number more u) (or_not ReadFailed (judged_line assembled names number text) _ (λ x. cc x) (common_not_four (number + 1) more u)) e

  common_not_two : (number : ℕ) (answers : List Answer) → common_status assembled names number answers ≡ Misused → ⊥
  common_not_two number [] e = cc e
  common_not_two number (End ∷ more) e = cc e
  common_not_two number (Long ∷ more) e = cc e
  common_not_two number (Fault ∷ more) e = cc e
  common_not_two number (Line text ∷ more) e =
      pick (is_mark text) (schedules_status number 1 number more) (or_broken (judged_line assembled names number text) (common_status assembled names (number + 1) more)) (λ (n : Status). n ≡ Misused → ⊥)
      (schedules_not_two number 1 number more) (or_not Misused (judged_line assembled names number text) _ (λ x. cc x) (common_not_two (number + 1) more)) e

-- ---- what is the command's own

pub batch_owes : (mac : Mac) → Owes (batch_part assembled mac)
batch_owes mac = record {
  due = λ text d read texts ls. let set = setting_of mac d texts in due_common d.names set ls (switched_on set) 1;
  ends = λ d texts more. let set = setting_of mac d texts in common_end d.names set (switched_on set) 1 more;
  status = λ d texts more. let set = setting_of mac d texts in inr (common_same d.names set (switched_on set) 1 more);
  starved = refl;
  cut = λ n few six. memory_above n few six;
  not_zero = λ d answers u. common_not_zero d.names 1 answers u;
  not_four = λ d answers u. common_not_four d.names 1 answers u;
  not_two = λ d answers. common_not_two d.names 1 answers;
}
