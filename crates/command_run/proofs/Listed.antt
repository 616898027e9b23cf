-- Lines with their items: those that `lines` writes, and the items that `run` writes.
use Rattle.std.proofs.Common.{◌≡◌, ◌∙◌, ℕ, zero, suc, ◌+◌, ◌≤◌, List, [], ◌∷◌, ◌++◌, length, refl, sym, ap, arith, Some, Result, Ok, Err}
use Rattle.std.specs.Prelude.{flat_map}
use Rattle.sx_asm.specs.Assembled.{assembled}
use Rattle.sx_io.specs.Reading.{Answer, End, Long, Fault}
use Rattle.sx_io.specs.Reading as answer
use Rattle.command_promise.specs.Told.{behind}
use Rattle.sx_tag.specs.Mac.{Mac}
use Rattle.sx_trace.specs.declared.items.Item.{Item}
use Rattle.sx_trace.specs.Names.{NameLists}
use Rattle.sx_sched.specs.Lines.{Line}
use Rattle.sx_sched.specs.Reading.{Assembler}
use Rattle.sx_deploy.specs.Deployment.{Deployed}
use Rattle.spec_run.specs.Setting.{Setting}
use Rattle.spec_run.specs.State.{World, switched_on}
use Rattle.spec_run.specs.Accepted.{setting_of}
use Rattle.spec_run.specs.Run.{run}
use Rattle.command_world.specs.Schedule.{Schedule, judged_line, on_line, schedule}
use Rattle.command_world.specs.Items.{items_text}
use Rattle.command_world.specs.Turning.{after_next}
use Rattle.command_run.specs.declared.trace.Shown.TheVariants.{Items, Lines}
use Rattle.command_run.specs.Laws.{EachGivesItsItems, LinesGiveItems}
use Rattle.command_run.specs.Lines.{Performed, lines_deployed, performed, performed_text, texts_in}
use Rattle.command_run.specs.Output.{run_from, stop_output}
use Rattle.command_run.specs.Turns.{shown_from, shown_text}
use Rattle.command_run.proofs.Written.{items_text_append}

-- each line of a schedule has its text
on_line_few : (number : ℕ) (r : Result Line ℕ) (rest : Schedule) (n : ℕ) → length rest.lines ≤ n → length (on_line number r rest).lines ≤ n + 1
on_line_few number (Err rule) rest n h = omega arith
on_line_few number (Ok line) rest n h = omega (arith, h)

pub have_texts : (assemble : Assembler) (names : NameLists) (number : ℕ) (answers : List Answer) → length (schedule assemble names number answers).lines ≤ length (texts_in answers)
have_texts assemble names number [] = omega arith
have_texts assemble names number (End ∷ more) = omega arith
have_texts assemble names number (Long ∷ more) = omega arith
have_texts assemble names number (Fault ∷ more) = omega arith
have_texts assemble names number (answer.Line text ∷ more) =
    let rest = have_texts assemble names (number + 1) more in
    let k = on_line_few number (judged_line assemble names number text) (schedule assemble names (number + 1) more) (length (texts_in more)) rest in omega (arith, k)

-- the items put together are those of the run
items_together : (set : Setting) (w : World) (texts : List (List ℕ)) (lines : List Line) → length lines ≤ length texts
    → flat_map (λ (p : Performed). p.items) (performed set w texts lines) ≡ (run set w lines).items
items_together set w [] [] h = refl
items_together set w [] (l ∷ ls) h = absurd (omega (arith, h))
items_together set w (text ∷ texts) [] h = refl
items_together set w (text ∷ texts) (l ∷ ls) h =
    let a = after_next set w l in ap (λ (items : List Item). a.items ++ items) (items_together set a.world texts ls (omega (arith, h)))

pub lines_give_items : LinesGiveItems
lines_give_items assemble mac d texts more =
    let set = setting_of mac d texts in
    items_together set (switched_on set) (texts_in more) (schedule assemble d.names 1 more).lines (have_texts assemble d.names 1 more)

pub each_gives_its_items : EachGivesItsItems
each_gives_its_items set w [] lines k text line a b = absurd (cc a)
each_gives_its_items set w (t ∷ texts) [] k text line a b = absurd (cc b)
each_gives_its_items set w (t ∷ texts) (l ∷ ls) zero text line a b =
    let same : t ≡ text = cc a in
    let is : l ≡ line = cc b in
    ap (λ (x : List ℕ). Some (record { text = x; items = (after_next set w l).items })) same
    ∙ ap (λ (x : Line). Some (record { text = text; items = (after_next set w x).items })) is
each_gives_its_items set w (t ∷ texts) (l ∷ ls) (suc k) text line a b = each_gives_its_items set (after_next set w l).world texts ls k text line a b

-- without their texts they are written as their items
alone : (names : NameLists) (ps : List Performed) → flat_map (shown_text Items names) ps ≡ items_text names (flat_map (λ (p : Performed). p.items) ps)
alone names [] = refl
alone names (p ∷ ps) =
    ap (λ (t : List ℕ). items_text names p.items ++ t) (alone names ps) ∙ sym (items_text_append names p.items (flat_map (λ (q : Performed). q.items) ps))

pub run_shown : (names : NameLists) (set : Setting) (w : World) (number : ℕ) (more : List Answer) → shown_from Items names set w number more ≡ run_from assembled names set w number more
unfolding shown_from run_from
run_shown names set w number more =
    let x = schedule assembled names number more in
    let texts = texts_in more in
    ap (λ (t : List ℕ). behind t (stop_output x.stop))
    (alone names (performed set w texts x.lines) ∙ ap (λ (items : List Item). items_text names items) (items_together set w texts x.lines (have_texts assembled names number more)))

pub lines_shown : (mac : Mac) (d : Deployed) (texts : List (List ℕ)) (more : List Answer)
    → shown_from Lines d.names (setting_of mac d texts) (switched_on (setting_of mac d texts)) 1 more ≡ lines_deployed assembled mac d texts more
unfolding shown_from performed_text
lines_shown mac d texts more = refl
