-- What `run` and `lines` owe after the head of a deployment.
use Rattle.std.proofs.Common.{◌≡◌, ℕ, ◌+◌, List, [], ◌∷◌, refl, sym, ap, Result, Ok, Err, inl, inr, ◌++◌}
use Rattle.std.specs.Prelude.{flat_map}
use Rattle.sx_asm.specs.Assembled.{assembled}
use Rattle.sx_io.specs.Reading.{Answer, Line, Long}
use Rattle.sx_tag.specs.Mac.{Mac}
use Rattle.sx_trace.specs.Names.{NameLists}
use Rattle.sx_sched.specs.Lines as lines
use Rattle.sx_deploy.specs.Deployment.{Deployed}
use Rattle.command_world.specs.Schedule.{Stop, AtEnd, Breaks, judged_line, schedule}
use Rattle.command_world.specs.Schedule as sched
use Rattle.command_world.specs.Items.{items_text}
use Rattle.command_run.specs.Output.{stop_output, run_from, run_deployed, run_at_start}
use Rattle.command_run.specs.Promise.{run_part}
use Rattle.command_world.specs.Status.{schedule_status, stop_status}
use Rattle.command_world.proofs.Stops.{not_zero, not_four, not_two}
use Rattle.command_promise.specs.declared.status.Status.TheVariants.{ReadFailed}
use Rattle.command_promise.proofs.Due.{lines_then, EndsUnread, Due, due-behind, behind-ends}
use Rattle.spec_run.specs.Setting.{Setting}
use Rattle.spec_run.specs.State.{World, switched_on}
use Rattle.spec_run.specs.Accepted.{setting_of}
use Rattle.spec_run.specs.Run.{run}
use Rattle.command_text.specs.Output.{trace_line}
use Rattle.command_deploy.proofs.Owing.{Owes, memory_above}
use Rattle.command_world.specs.Images.{images_text}
use Rattle.command_world.specs.Turning.{after_next}
use Rattle.command_world.specs.Broken.{broken_output}
use Rattle.command_run.specs.declared.trace.Shown.{Shown}
use Rattle.command_run.specs.declared.trace.Shown.TheVariants.{Items, Lines}
use Rattle.command_run.specs.Lines.{lines_deployed, performed, performed_of, performed_text, texts_in}
use Rattle.command_run.specs.Tells.{lines_part}
use Rattle.command_run.specs.Turns.{shown_from, shown_text}
use Rattle.command_promise.specs.Told.{Output, behind}
use Rattle.command_run.proofs.Listed.{lines_shown, run_shown}
use Rattle.command_run.proofs.Written.{line_breaks, next_line, part, shown_unread}

stop_same : (x : Stop) → (stop_output x).status ≡ stop_status x
stop_same AtEnd = refl
stop_same sched.Unread = refl
stop_same (Breaks rule number) = refl

stop_ends : (x : Stop) → EndsUnread (stop_output x)
stop_ends AtEnd e = absurd (cc e)
stop_ends sched.Unread e = ([], refl)
stop_ends (Breaks rule number) e = absurd (cc e)

-- ---- what is shown of a schedule

module _ (shown : Shown) (names : NameLists) (set : Setting) where
  shown_ends : (w : World) (number : ℕ) (more : List Answer) → EndsUnread (shown_from shown names set w number more)
  unfolding shown_from
  shown_ends w number more e =
      let x = schedule assembled names number more in
      behind-ends (flat_map (shown_text shown names) (performed set w (texts_in more) x.lines)) (stop_output x.stop) (stop_ends x.stop) e

  shown_long : (w : World) (number : ℕ) → (shown_from shown names set w number (Long ∷ [])).status ≡ ReadFailed → ⊥
  unfolding shown_from
  shown_long w number e = cc e

  due_line : (w : World) (number : ℕ) (l : List ℕ) (ls : List (List ℕ)) (r : Result lines.Line ℕ) → judged_line assembled names number l ≡ r
      → ((line : lines.Line) → Due (λ more. shown_from shown names set (after_next set w line).world (number + 1) (lines_then ls more)))
      → Due (λ more. shown_from shown names set w number (Line l ∷ lines_then ls more))
  due_line w number l ls (Err rule) e f =
      inl (broken_output rule number, λ x. cc x, λ more. line_breaks shown names set w number l rule (lines_then ls more) e)
  due_line w number l ls (Ok line) e f =
      due-behind (λ more. shown_from shown names set w number (Line l ∷ lines_then ls more)) (λ more. shown_from shown names set (after_next set w line).world (number + 1) (lines_then ls more))
      (shown_text shown names (part l (after_next set w line).items)) (λ more. next_line shown names set w number l line (lines_then ls more) e) (f line)

  due_shown : (ls : List (List ℕ)) (w : World) (number : ℕ) → Due (λ more. shown_from shown names set w number (lines_then ls more))
  due_shown [] w number =
      inr ([], shown_from shown names set w number, λ more. refl, shown_unread shown names set w number, shown_long w number, shown_ends w number)
  due_shown (l ∷ ls) w number =
      due_line w number l ls (judged_line assembled names number l) refl (λ line. due_shown ls (after_next set w line).world (number + 1))

-- ---- what is the command's own

run_ends : (names : NameLists) (set : Setting) (w : World) (number : ℕ) (more : List Answer) → EndsUnread (run_from assembled names set w number more)
unfolding run_from
run_ends names set w number more e =
    let x = schedule assembled names number more in
    behind-ends (items_text names (run set w x.lines).items) (stop_output x.stop) (stop_ends x.stop) e

module _ (mac : Mac) where
  run_same : (d : Deployed) (texts : List (List ℕ)) (more : List Answer) → (run_deployed assembled mac d texts more).status ≡ schedule_status assembled d more
  unfolding run_from
  run_same d texts more = stop_same (schedule assembled d.names 1 more).stop

  run_deployed_ends : (d : Deployed) (texts : List (List ℕ)) (more : List Answer) → EndsUnread (run_deployed assembled mac d texts more)
  run_deployed_ends d texts more e =
      behind-ends (images_text d.names.modules texts ++ trace_line) (run_at_start assembled d.names (setting_of mac d texts) more)
      (run_ends d.names (setting_of mac d texts) (switched_on (setting_of mac d texts)) 1 more) e

  due_run : (d : Deployed) (texts : List (List ℕ)) (ls : List (List ℕ)) → Due (λ more. run_deployed assembled mac d texts (lines_then ls more))
  due_run d texts ls =
      let set = setting_of mac d texts in
      let head = images_text d.names.modules texts ++ trace_line in
      due-behind (λ more. run_deployed assembled mac d texts (lines_then ls more)) (λ more. shown_from Items d.names set (switched_on set) 1 (lines_then ls more))
      head (λ more. ap (λ (o : Output). behind head o) (sym (run_shown d.names set (switched_on set) 1 (lines_then ls more))))
      (due_shown Items d.names set ls (switched_on set) 1)

  lines_same : (d : Deployed) (texts : List (List ℕ)) (more : List Answer) → (lines_deployed assembled mac d texts more).status ≡ schedule_status assembled d more
  lines_same d texts more = stop_same (schedule assembled d.names 1 more).stop

  lines_ends : (d : Deployed) (texts : List (List ℕ)) (more : List Answer) → EndsUnread (lines_deployed assembled mac d texts more)
  lines_ends d texts more e =
      let x = schedule assembled d.names 1 more in
      behind-ends (flat_map (performed_text d.names) (performed_of assembled mac d texts more)) (stop_output x.stop) (stop_ends x.stop) e

  due_lines : (d : Deployed) (texts : List (List ℕ)) (ls : List (List ℕ)) → Due (λ more. lines_deployed assembled mac d texts (lines_then ls more))
  due_lines d texts ls =
      let set = setting_of mac d texts in
      due-behind (λ more. lines_deployed assembled mac d texts (lines_then ls more)) (λ more. shown_from Lines d.names set (switched_on set) 1 (lines_then ls more))
      [] (λ more. sym (lines_shown mac d texts (lines_then ls more))) (due_shown Lines d.names set ls (switched_on set) 1)

pub run_owes : (mac : Mac) → Owes (run_part assembled mac)
run_owes mac = record {
  due = λ text d read texts ls. due_run mac d texts ls;
  ends = λ d texts more. run_deployed_ends mac d texts more;
  status = λ d texts more. inr (run_same mac d texts more);
  starved = refl;
  cut = λ n few six. memory_above n few six;
  not_zero = λ d answers u. not_zero d answers u;
  not_four = λ d answers u. not_four d answers u;
  not_two = λ d answers. not_two d answers;
}

pub lines_owe : (mac : Mac) → Owes (lines_part assembled mac)
lines_owe mac = record {
  due = λ text d read texts ls. due_lines mac d texts ls;
  ends = λ d texts more. lines_ends mac d texts more;
  status = λ d texts more. inr (lines_same mac d texts more);
  starved = refl;
  cut = λ n few six. memory_above n few six;
  not_zero = λ d answers u. not_zero d answers u;
  not_four = λ d answers u. not_four d answers u;
  not_two = λ d answers. not_two d answers;
}
