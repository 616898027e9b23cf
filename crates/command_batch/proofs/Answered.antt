-- What an answer is of what `run` writes.
use Rattle.std.proofs.Common.{◌≡◌, ◌∙◌, ℕ, ◌+◌, ◌≤◌, false, List, [], ◌∷◌, ◌++◌, length, refl, sym, ap, subst, arith, append_assoc, Result, Ok, Err}
use Rattle.std.specs.Prelude.{codes}
use Rattle.std.proofs.lemmas.List.Elements.{All-head, All-tail}
use Rattle.sx_io.specs.Reading.{Answer, End}
use Rattle.sx_io.specs.Reading as answer
use Rattle.command_promise.specs.Head.{is_mark}
use Rattle.command_promise.specs.Told.{Output, behind}
use Rattle.sx_trace.specs.Names.{NameLists}
use Rattle.sx_sched.specs.Lines.{Line}
use Rattle.sx_sched.specs.Reading.{Assembler}
use Rattle.spec_run.specs.Setting.{Setting}
use Rattle.spec_run.specs.State.{World}
use Rattle.spec_run.specs.Run.{run}
use Rattle.command_text.specs.Output.{end_line}
use Rattle.command_world.specs.Broken.{broken_line, broken_output}
use Rattle.command_world.specs.Items.{items_text}
use Rattle.command_world.specs.Schedule.{Schedule, Stop, AtEnd, judged_line, on_line, schedule}
use Rattle.command_world.specs.Turning.{after_next}
use Rattle.command_run.specs.Output.{run_from, schedule_output, stop_output}
use Rattle.command_run.proofs.Written.{items_text_append}
use Rattle.command_batch.specs.Output.{Passes, Runs, common_from, schedules_from}
use Rattle.command_batch.specs.Laws.{AnswersAreRuns, AreUnmarked, IsUnmarked, given, mark}
use Rattle.command_batch.proofs.Written.{behind_line, behind_mark, common_ends, common_goes, line_goes, schedule_breaks, schedule_ends, schedule_passes, schedule_runs}

module _ (assemble : Assembler) (names : NameLists) (set : Setting) where
  -- ---- what `run` writes of a line

  module _ (w : World) (number : ℕ) (text : List ℕ) (more : List Answer) where
    run_goes : (l : Line) → judged_line assemble names number text ≡ Ok l
        → run_from assemble names set w number (answer.Line text ∷ more)
        ≡ behind (items_text names (after_next set w l).items) (run_from assemble names set (after_next set w l).world (number + 1) more)
    unfolding run_from
    run_goes l e =
        let a = after_next set w l in
        let rest = schedule assemble names (number + 1) more in
        let b = run set a.world rest.lines in
        ap (λ (r : Result Line ℕ). schedule_output names set w (on_line number r rest)) e
        ∙ ap (λ (t : List ℕ). record { text = t; status = (stop_output rest.stop).status })
        (ap (λ (t : List ℕ). t ++ (stop_output rest.stop).text) (items_text_append names a.items b.items)
        ∙ append_assoc (items_text names a.items) (items_text names b.items) (stop_output rest.stop).text)

    run_breaks : (rule : ℕ) → judged_line assemble names number text ≡ Err rule → run_from assemble names set w number (answer.Line text ∷ more) ≡ broken_output rule number
    unfolding run_from
    run_breaks rule e = ap (λ (r : Result Line ℕ). schedule_output names set w (on_line number r (schedule assemble names (number + 1) more))) e

  run_ends : (w : World) (number : ℕ) → (run_from assemble names set w number (End ∷ [])).text ≡ end_line
  unfolding run_from
  run_ends w number = refl

  -- ---- schedules

  module _ (start : World) (first count : ℕ) where
    -- lines that are passed over
    passes : (texts : List (List ℕ)) (more : List Answer) (number : ℕ) → AreUnmarked texts → number + length texts + 1 ≤ 4294967295
        → behind_line assemble names set start first count Passes number (given texts (mark ∷ more)) ≡ behind_mark assemble names set start first count more
    passes [] more number un h =
        line_goes assemble names set start first count Passes number (mark ∷ more) (omega (arith, h))
        ∙ schedule_ends assemble names set start first count Passes (number + 1) (codes "%%") more refl
    passes (t ∷ ts) more number un h =
        line_goes assemble names set start first count Passes number (given (t ∷ ts) (mark ∷ more)) (omega (arith, h))
        ∙ schedule_passes assemble names set start first count (number + 1) t (given ts (mark ∷ more)) (All-head IsUnmarked t ts un)
        ∙ passes ts more (number + 1) (All-tail IsUnmarked t ts un) (omega (arith, h))

    -- a line, and the rest of a schedule
    answered_line : (w : World) (number : ℕ) (text : List ℕ) (texts : List (List ℕ)) (more : List Answer) (r : Result Line ℕ) → is_mark text ≡ false → judged_line assemble names number text ≡ r
        → number + length texts + 1 ≤ 4294967295 → AreUnmarked texts
        → ((l : Line) → schedules_from assemble names set start first count (Runs (after_next set w l).world) (number + 1) (given texts (mark ∷ more))
        ≡ behind (run_from assemble names set (after_next set w l).world (number + 1) (given texts (End ∷ []))).text (behind_mark assemble names set start first count more))
        → schedules_from assemble names set start first count (Runs w) number (given (text ∷ texts) (mark ∷ more))
        ≡ behind (run_from assemble names set w number (given (text ∷ texts) (End ∷ []))).text (behind_mark assemble names set start first count more)
    answered_line w number text texts more (Ok l) e judged h un rest =
        let next = behind_mark assemble names set start first count more in
        let items = items_text names (after_next set w l).items in
        let own = run_from assemble names set (after_next set w l).world (number + 1) (given texts (End ∷ [])) in
        schedule_runs assemble names set start first count w number text l (given texts (mark ∷ more)) e judged (omega (arith, h))
        ∙ ap (λ (o : Output). behind items o) (rest l) ∙ ap (λ (t : List ℕ). record { text = t; status = next.status }) (sym (append_assoc items own.text next.text))
        ∙ ap (λ (o : Output). behind o.text next) (sym (run_goes w number text (given texts (End ∷ [])) l judged))
    answered_line w number text texts more (Err rule) e judged h un rest =
        schedule_breaks assemble names set start first count w number rule text (given texts (mark ∷ more)) e judged
        ∙ ap (λ (o : Output). behind (broken_line rule number) o) (passes texts more number un h)
        ∙ ap (λ (o : Output). behind o.text (behind_mark assemble names set start first count more)) (sym (run_breaks w number text (given texts (End ∷ [])) rule judged))

    answered : (texts : List (List ℕ)) (more : List Answer) (w : World) (number : ℕ) → AreUnmarked texts → number + length texts ≤ 4294967295
        → schedules_from assemble names set start first count (Runs w) number (given texts (mark ∷ more))
        ≡ behind (run_from assemble names set w number (given texts (End ∷ []))).text (behind_mark assemble names set start first count more)
    answered [] more w number un h =
        schedule_ends assemble names set start first count (Runs w) number (codes "%%") more refl
        ∙ ap (λ (t : List ℕ). behind t (behind_mark assemble names set start first count more)) (sym (run_ends w number))
    answered (t ∷ ts) more w number un h =
        answered_line w number t ts more (judged_line assemble names number t) (All-head IsUnmarked t ts un) refl (omega (arith, h)) (All-tail IsUnmarked t ts un)
        (λ l. answered ts more (after_next set w l).world (number + 1) (All-tail IsUnmarked t ts un) (omega (arith, h)))

  -- ---- common lines

  -- a line that breaks no rule, of lines that break none
  record Goes (number : ℕ) (text : List ℕ) (texts : List (List ℕ)) (ls : List Line) : Type 0 where
    line : Line
    rest : List Line
    judged : judged_line assemble names number text ≡ Ok line
    lines : ls ≡ line ∷ rest
    performed : schedule assemble names (number + 1) (given texts (End ∷ [])) ≡ record { lines = rest; stop = AtEnd }

  goes_by : (number : ℕ) (text : List ℕ) (texts : List (List ℕ)) (ls : List Line) (r : Result Line ℕ) → judged_line assemble names number text ≡ r
      → on_line number r (schedule assemble names (number + 1) (given texts (End ∷ []))) ≡ record { lines = ls; stop = AtEnd } → Goes number text texts ls
  goes_by number text texts ls (Err rule) judged e = absurd (let stop = ap (λ (x : Schedule). x.stop) e in cc stop)
  goes_by number text texts ls (Ok l) judged e =
      let rest = schedule assemble names (number + 1) (given texts (End ∷ [])) in record {
        line = l;
        rest = rest.lines;
        judged = judged;
        lines = sym (ap (λ (x : Schedule). x.lines) e);
        performed = ap (λ (s : Stop). record { lines = rest.lines; stop = s }) (ap (λ (x : Schedule). x.stop) e);
      }

  goes : (number : ℕ) (text : List ℕ) (texts : List (List ℕ)) (ls : List Line) → schedule assemble names number (given (text ∷ texts) (End ∷ [])) ≡ record { lines = ls; stop = AtEnd }
      → Goes number text texts ls
  goes number text texts ls e = goes_by number text texts ls (judged_line assemble names number text) refl e

  run_leads : (texts : List (List ℕ)) (ls : List Line) (w : World) (number n : ℕ) (more : List Answer) → schedule assemble names number (given texts (End ∷ [])) ≡ record { lines = ls; stop = AtEnd }
      → n ≡ number + length texts
      → run_from assemble names set w number (given texts more) ≡ behind (items_text names (run set w ls).items) (run_from assemble names set (run set w ls).world n more)
  run_leads [] ls w number n more e at =
      let none : [] ≡ ls = ap (λ (x : Schedule). x.lines) e in
      let same : number ≡ n = omega (arith, at) in
      let P : List Line → Type 0 = λ xs. run_from assemble names set w number more ≡ behind (items_text names (run set w xs).items) (run_from assemble names set (run set w xs).world n more) in
      subst P none (ap (λ (k : ℕ). run_from assemble names set w k more) same)
  run_leads (t ∷ ts) ls w number n more e at =
      let g = goes number t ts ls e in
      let a = after_next set w g.line in
      let b = run set a.world g.rest in
      let left = run_from assemble names set b.world n more in
      let P : List Line → Type 0 = λ xs.
      run_from assemble names set w number (given (t ∷ ts) more) ≡ behind (items_text names (run set w xs).items) (run_from assemble names set (run set w xs).world n more) in
      subst P (sym g.lines)
      (run_goes w number t (given ts more) g.line g.judged
      ∙ ap (λ (o : Output). behind (items_text names a.items) o) (run_leads ts g.rest a.world (number + 1) n more g.performed (omega (arith, at)))
      ∙ ap (λ (x : List ℕ). record { text = x; status = left.status })
      (sym (append_assoc (items_text names a.items) (items_text names b.items) left.text) ∙ ap (λ (x : List ℕ). x ++ left.text) (sym (items_text_append names a.items b.items))))

  common_leads : (texts : List (List ℕ)) (ls : List Line) (w : World) (number n : ℕ) (more : List Answer) → AreUnmarked texts
      → schedule assemble names number (given texts (End ∷ [])) ≡ record { lines = ls; stop = AtEnd } → n ≡ number + length texts
      → common_from assemble names set w number (given texts (mark ∷ more)) ≡ schedules_from assemble names set (run set w ls).world n 1 (Runs (run set w ls).world) n more
  common_leads [] ls w number n more un e at =
      let none : [] ≡ ls = ap (λ (x : Schedule). x.lines) e in
      let same : number ≡ n = omega (arith, at) in
      let P : List Line → Type 0 = λ xs. common_from assemble names set w number (mark ∷ more) ≡ schedules_from assemble names set (run set w xs).world n 1 (Runs (run set w xs).world) n more in
      subst P none (common_ends assemble names set w number (codes "%%") more refl ∙ ap (λ (k : ℕ). schedules_from assemble names set w k 1 (Runs w) k more) same)
  common_leads (t ∷ ts) ls w number n more un e at =
      let g = goes number t ts ls e in
      let P : List Line → Type 0 = λ xs.
      common_from assemble names set w number (given (t ∷ ts) (mark ∷ more)) ≡ schedules_from assemble names set (run set w xs).world n 1 (Runs (run set w xs).world) n more in
      subst P (sym g.lines)
      (common_goes assemble names set w number t (given ts (mark ∷ more)) g.line (All-head IsUnmarked t ts un) g.judged
      ∙ common_leads ts g.rest (after_next set w g.line).world (number + 1) n more (All-tail IsUnmarked t ts un) g.performed (omega (arith, at)))

pub answers_are_runs : AnswersAreRuns
answers_are_runs = record {
  common = λ assemble names set w number texts ls c. record {
    in_run = λ more. run_leads assemble names set texts ls w number (number + length texts) more c.performed refl;
    in_batch = λ more. common_leads assemble names set texts ls w number (number + length texts) more c.unmarked c.performed refl;
  };
  schedules = λ assemble names set start first count texts more un h. answered assemble names set start first count texts more start first un h;
}
