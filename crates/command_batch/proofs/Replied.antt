-- What a line of a schedule does to the output.
use Rattle.std.proofs.Common.{◌≡◌, ◌∙◌, ℕ, ◌+◌, ◌≤◌, Bool, false, List, [], ◌∷◌, ◌++◌, refl, sym, ap, arith, Ok, Err}
use Rattle.std.specs.Prelude.{IsTrue}
use Rattle.std.proofs.lemmas.List.{append-nil}
use Rattle.sx_asm.specs.Assembled.{assembled}
use Rattle.sx_io.specs.Reading.{Answer}
use Rattle.sx_io.specs.Reading as answer
use Rattle.sx_io.specs.Streams.{SinkAt}
use Rattle.command_promise.specs.declared.status.Status.{Status}
use Rattle.command_promise.specs.declared.status.Status.TheVariants.{WriteFailed, OutOfMemory}
use Rattle.command_promise.specs.Head.{is_mark}
use Rattle.command_promise.specs.Parts.{WroteSome}
use Rattle.command_promise.specs.Told.{CommandEnds, Output, behind}
use Rattle.command_promise.proofs.Laws.{ends-same, ends-out-of-memory, ends-write-failed, prefix-all, prefix-more}
use Rattle.sx_trace.specs.declared.items.Item.{Item}
use Rattle.sx_trace.specs.Names.{NameLists}
use Rattle.sx_sched.specs.Lines.{Line}
use Rattle.sx_observe.specs.Observing.{IsFront}
use Rattle.spec_run.specs.Setting.{Setting}
use Rattle.spec_run.specs.State.{World}
use Rattle.command_world.specs.Broken.{broken_line, broken_output}
use Rattle.command_world.specs.Items.{items_text}
use Rattle.command_world.specs.Schedule.{judged_line}
use Rattle.command_world.specs.Turning.{after_next}
use Rattle.command_run.specs.declared.trace.Shown.TheVariants.{Items}
use Rattle.command_run.proofs.Written.{prefix_told, told_front}
use Rattle.command_batch.specs.Output.{Runs, schedules_from}
use Rattle.command_batch.specs.Parts.{passed_from}
use Rattle.command_batch.proofs.Written.{schedule_breaks, schedule_runs}

-- nothing was written, since what was to be written is what is left
pub wrote_nothing : (to_tell : Bool) (k : SinkAt) (f g : List Answer → Output) → ((more : List Answer) → f more ≡ g more) → WroteSome to_tell k k f g
wrote_nothing to_tell k f g same = record { text = []; wrote = λ t. sym (append-nil k.written); same = same; no_fault = refl }

-- what was to be written before is said in other words
pub wrote_same : {to_tell : Bool} {k0 k1 : SinkAt} (f g after : List Answer → Output) → ((more : List Answer) → f more ≡ g more) → WroteSome to_tell k0 k1 g after → WroteSome to_tell k0 k1 f after
wrote_same f g after h w = record { text = w.text; wrote = w.wrote; same = λ more. h more ∙ w.same more; no_fault = w.no_fault }

-- the line of a fault was written whole, and the command goes on
pub broken_told : {to_tell : Bool} {k0 k1 : SinkAt} {status : Status} (rule number : ℕ) → CommandEnds to_tell k0 k1 status (broken_output rule number)
    → (status ≡ WriteFailed → ⊥) → (status ≡ OutOfMemory → ⊥) → (left : List Answer → Output) → WroteSome to_tell k0 k1 (λ more. behind (broken_line rule number) (left more)) left
broken_told rule number w five six left = record { text = broken_line rule number; wrote = (w.whole five six).1; same = λ more. refl; no_fault = w.no_fault five }

-- or not, and it has ended
pub broken_failed : {to_tell : Bool} {k0 k1 : SinkAt} (rule number : ℕ) → CommandEnds to_tell k0 k1 WriteFailed (broken_output rule number)
    → (left : List Answer → Output) (more : List Answer) → CommandEnds to_tell k0 k1 WriteFailed (behind (broken_line rule number) (left more))
broken_failed {to_tell} {k0} {k1} rule number w left more =
    ends-write-failed to_tell k0 k1 (behind (broken_line rule number) (left more)) (λ t. prefix-more k0.written k1.written (broken_line rule number) (left more).text (w.prefix t)) (w.fault refl)

module _ (names : NameLists) (set : Setting) (w : World) (number : ℕ) (text : List ℕ) (unmarked : is_mark text ≡ false) (start : World) (first count : ℕ) where
  -- what is due of the line
  abbrev pub due : List Answer → Output
  due more = schedules_from assembled names set start first count (Runs w) number (answer.Line text ∷ more)

  module _ (line : Line) (judged : judged_line assembled names number text ≡ Ok line) (few : number ≤ 65536) where
    runs : (more : List Answer) → due more
        ≡ behind (items_text names (after_next set w line).items) (schedules_from assembled names set start first count (Runs (after_next set w line).world) (number + 1) more)
    runs more = schedule_runs assembled names set start first count w number text line more unmarked judged (omega (arith, few))

    -- it was performed, and its items were written
    pub line_told : {to_tell : Bool} {k0 k1 : SinkAt} (made : List Item) → made ≡ (after_next set w line).items
        → ((left : List Answer → Output) → WroteSome to_tell k0 k1 (λ more. behind (items_text names made) (left more)) left)
        → WroteSome to_tell k0 k1 due (schedules_from assembled names set start first count (Runs (after_next set w line).world) (number + 1))
    line_told made same wrote =
        let left = schedules_from assembled names set start first count (Runs (after_next set w line).world) (number + 1) in
        wrote_same due (λ more. behind (items_text names made) (left more)) left
        (λ more. runs more ∙ ap (λ (items : List Item). behind (items_text names items) (left more)) (sym same)) (wrote left)

    -- or a write of them failed
    pub line_stopped : {to_tell : Bool} {k0 k1 : SinkAt} {status : Status} (made : List Item) → made ≡ (after_next set w line).items
        → ((left : List Answer → Output) (more : List Answer) → CommandEnds to_tell k0 k1 status (behind (items_text names made) (left more)))
        → (more : List Answer) → CommandEnds to_tell k0 k1 status (due more)
    line_stopped made same does more =
        let left = schedules_from assembled names set start first count (Runs (after_next set w line).world) (number + 1) in
        ends-same _ _ _ _ _ _ (runs more ∙ ap (λ (items : List Item). behind (items_text names items) (left more)) (sym same)) (does left more)

    -- memory ran out in it, and the items that were made before were written
    pub line_wanted : {to_tell : Bool} {k0 k1 : SinkAt} (made : List Item) → IsFront made (after_next set w line).items
        → (IsTrue to_tell → k1.written ≡ k0.written ++ items_text names made) → k1.faults ≡ k0.faults → (more : List Answer) → CommandEnds to_tell k0 k1 OutOfMemory (due more)
    line_wanted {to_tell} {k0} {k1} made front wrote same more =
        let next = after_next set w line in
        let left = schedules_from assembled names set start first count (Runs next.world) (number + 1) more in
        ends-same _ _ _ _ _ _ (runs more)
        (ends-out-of-memory to_tell k0 k1 (behind (items_text names next.items) left)
        (λ t. prefix_told Items names _ _ text made front.0 next.items left.text front.1 (prefix-all _ _ _ (wrote t))) same)

    -- or a write of them failed
    pub line_unwritten : {to_tell : Bool} {k0 k1 : SinkAt} {status : Status} (made : List Item) → IsFront made (after_next set w line).items
        → ((left : List Answer → Output) (more : List Answer) → CommandEnds to_tell k0 k1 status (behind (items_text names made) (left more)))
        → (more : List Answer) → CommandEnds to_tell k0 k1 status (due more)
    line_unwritten {to_tell} {k0} {k1} {status} made front does more =
        let next = after_next set w line in
        let left = schedules_from assembled names set start first count (Runs next.world) (number + 1) in
        ends-same _ _ _ _ _ _ (runs more ∙ told_front Items names text made front.0 next.items (left more) front.1) (does (λ more. behind (items_text names front.0) (left more)) more)

  module _ (rule : ℕ) (judged : judged_line assembled names number text ≡ Err rule) where
    breaks : (more : List Answer) → due more ≡ behind (broken_line rule number) (passed_from names set start first count number more)
    breaks more = schedule_breaks assembled names set start first count w number rule text more unmarked judged

    pub line_broken : {to_tell : Bool} {k0 k1 : SinkAt} → ((left : List Answer → Output) → WroteSome to_tell k0 k1 (λ more. behind (broken_line rule number) (left more)) left)
        → WroteSome to_tell k0 k1 due (passed_from names set start first count number)
    line_broken wrote =
        let left = passed_from names set start first count number in wrote_same due (λ more. behind (broken_line rule number) (left more)) left breaks (wrote left)

    pub line_unbroken : {to_tell : Bool} {k0 k1 : SinkAt} {status : Status} → ((left : List Answer → Output) (more : List Answer) → CommandEnds to_tell k0 k1 status (behind (broken_line rule number) (left more)))
        → (more : List Answer) → CommandEnds to_tell k0 k1 status (due more)
    line_unbroken does more = ends-same _ _ _ _ _ _ (breaks more) (does (passed_from names set start first count number) more)
