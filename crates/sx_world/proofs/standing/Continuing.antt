-- The run of the lines that led to the program's world goes on with the line that it acts.
use Rattle.std.proofs.Common.{◌≡◌, ◌+◌, ◌<◌, ◌≤◌, List, [], ◌∷◌, ◌++◌, length, sym, ◌∙◌, ap, subst, arith, length-append}
use Rattle.std.proofs.lemmas.List.{append_assoc, append-nil}
use Rattle.sx_tag.specs.Mac.{Mac}
use Rattle.sx_trace.specs.declared.items.Item.{Item}
use Rattle.sx_sched.specs.Lines.{Line}
use Rattle.sx_sched.specs.InForm.{IsLine}
use Rattle.sx_deploy.specs.Deployment.{Deployed}
use Rattle.sx_deploy.specs.Law as deployment
use Rattle.sx_model.specs.Legal.{before}
use Rattle.sx_model.proofs.Telling.{tells}
use Rattle.spec_run.specs.Setting.{Site, Setting}
use Rattle.spec_run.specs.State.{World, switched_on}
use Rattle.spec_run.specs.Run.{after_line, line_counted, run}
use Rattle.spec_run.specs.Law.{IsSoundSetting}
use Rattle.sx_world.specs.Held.{Held}
use Rattle.spec_run.specs.Accepted.{setting}
use Rattle.sx_world.specs.Standing.{Stands}
use Rattle.sx_world.specs.Continued.{Acts, LeadTo, StaysLegal}
use Rattle.spec_run.proofs.acts.Counting.{run_counts}
use Rattle.spec_run.proofs.accepted.FormedLines.{in_form}
use Rattle.sx_world.proofs.standing.Readying.{run_then, formed_then}
use Rattle.spec_run.proofs.RunsLegal.{runs_legal}
use Rattle.spec_run.proofs.RunsInOrder.{runs_in_order}
use Rattle.spec_run.proofs.turns.RunsTakeTurns.{runs_take_turns}

run_items : (set : Setting) (lines : List Line) (line : Line) (w : World)
    → (run set w (lines ++ line ∷ [])).items ≡ (run set w lines).items ++ (after_line set (line_counted (run set w lines).world) line).items
run_items set [] line w = append-nil (after_line set (line_counted w) line).items
run_items set (x ∷ lines) line w =
    let here = after_line set (line_counted w) x in
    ap (λ more. here.items ++ more) (run_items set lines line here.world)
    ∙ sym (append_assoc here.items (run set here.world lines).items (after_line set (line_counted (run set here.world lines).world) line).items)

-- so lines that lead to the same world are as many
as_many : (set : Setting) (lines : List Line) (held : Held) → LeadTo set lines held → length lines ≡ held.performed
as_many set lines held led =
    let s = led.stands in
    let a = run_counts set lines (switched_on set) in
    let b = run_counts set s.lines (switched_on set) in
    let same : (run set (switched_on set) lines).world.lines ≡ (run set (switched_on set) s.lines).world.lines = ap (λ (w : World). w.lines) s.is in
    let c = s.count in
    omega (arith, a, b, same, c)

pub goes_on : (mac : Mac) (d : Deployed) (sites : List Site) → deployment.IsSoundDeployment d → IsSoundSetting (setting mac d sites)
    → (old new : Held) (line : Line) (was came : List Item) → IsLine d.names line → old.performed < 65536
    → Acts (setting mac d sites) line old new was came
    → StaysLegal (setting mac d sites) line old new was came
goes_on mac d sites acc sound old new line was came form few acts lines led =
    let set = setting mac d sites in
    let w = (run set (switched_on set) lines).world in
    let did = acts w led.stands in
    let formed = formed_then mac d sites acc sound lines line led.formed (in_form mac d sites acc line form) in
    let long = length-append lines (line ∷ []) in
    let many = as_many set lines old led in
    let within : length (lines ++ line ∷ []) ≤ 65536 = omega (arith, long, many, few) in
    let legal = runs_legal set sound (lines ++ line ∷ []) within formed in
    record {
      stands = subst (λ (v : World). Stands set new v) (sym (run_then mac d sites acc sound lines line (switched_on set))) did.0;
      added = (after_line set (line_counted w) line).items;
      appended = did.1;
      items = run_items set lines line (switched_on set);
      legal = legal;
      tells = tells set.app (before (run set (switched_on set) (lines ++ line ∷ [])).items) legal;
      order = runs_in_order set sound (lines ++ line ∷ []) within formed;
      turns = runs_take_turns set sound (lines ++ line ∷ []) within formed;
    }
