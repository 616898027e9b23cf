-- What is written of common lines and of schedules, line by line.
use Rattle.std.proofs.Common.{◌≡◌, ◌∙◌, ℕ, ◌+◌, ◌<◌, ◌≤◌, ◌==◌, Bool, true, false, List, [], ◌∷◌, refl, ap, arith, Result, Ok, Err}
use Rattle.std.specs.Prelude.{if◌then◌else◌}
use Rattle.std.proofs.lemmas.Bool.{eq-eqb, ne_eqb}
use Rattle.sx_asm.specs.Assembled.{assembled}
use Rattle.sx_io.specs.Next.{Ahead}
use Rattle.sx_io.specs.Reading.{Answer, End, Fault, Limit, Long}
use Rattle.sx_io.specs.Reading as answer
use Rattle.command_promise.specs.declared.status.Status.TheVariants.{Done}
use Rattle.command_promise.specs.Head.{head_lines, is_mark}
use Rattle.command_promise.specs.Parts.{Begun}
use Rattle.command_promise.specs.Told.{CommandAt, Output, behind, unread_output}
use Rattle.command_promise.proofs.Laws.{begun-same}
use Rattle.sx_trace.specs.Names.{NameLists}
use Rattle.sx_sched.specs.Lines.{Line}
use Rattle.sx_sched.specs.Reading.{Assembler}
use Rattle.spec_run.specs.Setting.{Setting}
use Rattle.spec_run.specs.State.{World}
use Rattle.command_text.specs.Output.{end_line}
use Rattle.command_world.specs.Broken.{broken_line, broken_output}
use Rattle.command_world.specs.Items.{items_text}
use Rattle.command_world.specs.Schedule.{judged_line}
use Rattle.command_world.specs.Turning.{after_next}
use Rattle.command_batch.specs.Parts.{next_from, passed_from}
use Rattle.command_batch.specs.Output.{Passes, Runs, Standing, common_from, reply, last_number, last_text, long_output, most_schedules, schedules_from}

-- a number that is not the last to be passed over
pub goes_on : (number : ℕ) → number + 1 ≤ 4294967295 → (number == last_number) ≡ false
goes_on number h = ne_eqb number 4294967295 (λ e. omega (arith, h, e))

module _ (assemble : Assembler) (names : NameLists) (set : Setting) where
  module _ (w : World) (number : ℕ) where
    module _ (text : List ℕ) (more : List Answer) where
      pub common_ends : is_mark text ≡ true → common_from assemble names set w number (answer.Line text ∷ more) ≡ schedules_from assemble names set w number 1 (Runs w) number more
      unfolding common_from
      common_ends e = rw e refl

      pub common_goes : (l : Line) → is_mark text ≡ false → judged_line assemble names number text ≡ Ok l
          → common_from assemble names set w number (answer.Line text ∷ more) ≡ common_from assemble names set (after_next set w l).world (number + 1) more
      unfolding common_from
      common_goes l e judged = rw (e, judged) refl

      pub common_breaks : (rule : ℕ) → is_mark text ≡ false → judged_line assemble names number text ≡ Err rule
          → common_from assemble names set w number (answer.Line text ∷ more) ≡ broken_output rule number
      unfolding common_from
      common_breaks rule e judged = rw (e, judged) refl

    pub common_ended : common_from assemble names set w number (End ∷ []) ≡ record { text = end_line; status = Done }
    unfolding common_from
    common_ended = refl

    pub common_too_long : common_from assemble names set w number (Long ∷ []) ≡ broken_output 1 number
    unfolding common_from
    common_too_long = refl

    pub common_unread : common_from assemble names set w number (Fault ∷ []) ≡ unread_output
    unfolding common_from
    common_unread = refl

  module _ (start : World) (first count : ℕ) where
    -- what is written after a line with this number
    abbrev pub behind_line : Standing → ℕ → List Answer → Output
    behind_line s number more = if number == last_number then long_output else schedules_from assemble names set start first count s (number + 1) more

    -- after a mark
    abbrev pub behind_mark : List Answer → Output
    behind_mark more = if count == most_schedules then long_output else schedules_from assemble names set start first (count + 1) (Runs start) first more

    module _ (s : Standing) (number : ℕ) where
      module _ (text : List ℕ) (more : List Answer) where
        pub schedule_ends : is_mark text ≡ true → schedules_from assemble names set start first count s number (answer.Line text ∷ more) ≡ behind (last_text s) (behind_mark more)
        unfolding schedules_from
        schedule_ends e = rw e refl

        pub schedule_replies : (r : Result Line ℕ) → is_mark text ≡ false → judged_line assemble names number text ≡ r
            → schedules_from assemble names set start first count s number (answer.Line text ∷ more)
            ≡ behind (reply names set s number r).text (behind_line (reply names set s number r).standing number more)
        unfolding schedules_from
        schedule_replies r e judged = rw (e, judged) refl

      pub schedule_ended : schedules_from assemble names set start first count s number (End ∷ []) ≡ record { text = last_text s; status = Done }
      unfolding schedules_from
      schedule_ended = refl

      pub schedule_too_long : schedules_from assemble names set start first count s number (Long ∷ []) ≡ broken_output 1 number
      unfolding schedules_from
      schedule_too_long = refl

      pub schedule_unread : schedules_from assemble names set start first count s number (Fault ∷ []) ≡ unread_output
      unfolding schedules_from
      schedule_unread = refl

    -- a line with a number that isn't the last one
    pub line_goes : (s : Standing) (number : ℕ) (more : List Answer) → number + 1 ≤ 4294967295
        → behind_line s number more ≡ schedules_from assemble names set start first count s (number + 1) more
    line_goes s number more h =
        ap (λ (b : Bool). if b then long_output else schedules_from assemble names set start first count s (number + 1) more) (goes_on number h)

    -- a line of a schedule that is run
    pub schedule_runs : (w : World) (number : ℕ) (text : List ℕ) (l : Line) (more : List Answer) → is_mark text ≡ false → judged_line assemble names number text ≡ Ok l → number + 1 ≤ 4294967295
        → schedules_from assemble names set start first count (Runs w) number (answer.Line text ∷ more)
        ≡ behind (items_text names (after_next set w l).items) (schedules_from assemble names set start first count (Runs (after_next set w l).world) (number + 1) more)
    schedule_runs w number text l more e judged h =
        schedule_replies (Runs w) number text more (Ok l) e judged ∙ ap (λ (o : Output). behind (items_text names (after_next set w l).items) o) (line_goes (Runs (after_next set w l).world) number more h)

    -- one that breaks a rule
    pub schedule_breaks : (w : World) (number rule : ℕ) (text : List ℕ) (more : List Answer) → is_mark text ≡ false → judged_line assemble names number text ≡ Err rule
        → schedules_from assemble names set start first count (Runs w) number (answer.Line text ∷ more) ≡ behind (broken_line rule number) (behind_line Passes number more)
    schedule_breaks w number rule text more e judged = schedule_replies (Runs w) number text more (Err rule) e judged

    -- one that is passed over
    pub schedule_passes : (number : ℕ) (text : List ℕ) (more : List Answer) → is_mark text ≡ false
        → schedules_from assemble names set start first count Passes number (answer.Line text ∷ more) ≡ behind_line Passes number more
    schedule_passes number text more e = schedule_replies Passes number text more (judged_line assemble names number text) e refl

-- ---- lines that are passed over

module _ (names : NameLists) (set : Setting) (start : World) (first count number : ℕ) where
  -- a number that is below the last
  pub goes_on_passing : {tells to_tell : Bool} {limit : Limit} {m0 m1 : CommandAt} {now : Ahead} {F : List Answer → Output} {also : List Answer → Type 0} → number < 4294967295
      → Begun tells to_tell limit head_lines m0 m1 now F (passed_from names set start first count number) also
      → Begun tells to_tell limit head_lines m0 m1 now F (schedules_from assembled names set start first count Passes (number + 1)) also
  goes_on_passing {tells} {to_tell} {limit} {m0} {m1} {now} {F} {also} below b =
      begun-same (schedules_from assembled names set start first count Passes (number + 1)) (λ more. line_goes assembled names set start first count Passes number more (omega (arith, below))) b

  -- the last one
  pub passing_ends : (more : List Answer) → number ≡ 4294967295 → passed_from names set start first count number more ≡ long_output
  passing_ends more at =
      ap (λ (b : Bool). if b then long_output else schedules_from assembled names set start first count Passes (number + 1) more) (eq-eqb number 4294967295 at)

-- ---- schedules one after another

module _ (names : NameLists) (set : Setting) (start : World) (first : ℕ) where
  -- one more begins
  pub next_goes : (count : ℕ) (more : List Answer) → count + 1 ≤ 65536 → next_from names set start first count more ≡ schedules_from assembled names set start first (count + 1) (Runs start) first more
  next_goes count more h =
      ap (λ (b : Bool). if b then long_output else schedules_from assembled names set start first (count + 1) (Runs start) first more) (ne_eqb count 65536 (λ e. omega (arith, h, e)))

  -- or there are too many
  pub next_ends : (count : ℕ) (more : List Answer) → count ≡ 65536 → next_from names set start first count more ≡ long_output
  next_ends count more h = ap (λ (b : Bool). if b then long_output else schedules_from assembled names set start first (count + 1) (Runs start) first more) (eq-eqb count 65536 h)
