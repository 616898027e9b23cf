-- The lines that an honest run says are run as any lines are, and show the items that it says.
use Rattle.std.proofs.Common.{◌≡◌, ◌∙◌, ◌==◌, ◌||◌, Bool, true, false, List, [], ◌∷◌, ◌++◌, map, refl, sym, ap}
use Rattle.std.specs.Prelude.{if◌then◌else◌}
use Rattle.std.proofs.lemmas.List.{append-nil}
use Rattle.sx_trace.specs.declared.items.Item.{Item}
use Rattle.sx_trace.specs.Names.{NameLists}
use Rattle.sx_sched.specs.Lines.{Line}
use Rattle.sx_deploy.specs.Deployment.{Deployed}
use Rattle.spec_run.specs.Acts.{then_}
use Rattle.spec_run.specs.Run.{run}
use Rattle.spec_run.specs.Setting.{Setting}
use Rattle.spec_run.specs.State.{Acted, World, switched_on}
use Rattle.law_isolation.proofs.Performing.{runs_guarded}
use Rattle.law_setup.proofs.Runs.{run_append}
use Rattle.sx_world.specs.Whole.{next}
use Rattle.sx_drive.specs.Honest.{Driven, Honest, MOST_LINES, Reading, Said, SaidItem, SaidLine, each, honest_run, left_out, performed, reads, setup, start}
use Rattle.law_honest.specs.Samplings.{items_of, told}
use Rattle.command_drive.specs.Promise.{IsTheRun, lines_in}
use Rattle.command_drive.proofs.Quiet.{AreReadings, readings_by}
use Rattle.command_drive.proofs.Ways.{AreThere, Ways, setup_by}

lines_append : (xs ys : List Said) → lines_in (xs ++ ys) ≡ lines_in xs ++ lines_in ys
lines_append [] ys = refl
lines_append (SaidLine line ∷ xs) ys = ap (λ (ls : List Line). line ∷ ls) (lines_append xs ys)
lines_append (SaidItem i ∷ xs) ys = lines_append xs ys

items_append : (xs ys : List Said) → items_of (xs ++ ys) ≡ items_of xs ++ items_of ys
items_append [] ys = refl
items_append (SaidLine line ∷ xs) ys = items_append xs ys
items_append (SaidItem i ∷ xs) ys = ap (λ (is : List Item). i ∷ is) (items_append xs ys)

no_lines : (items : List Item) → lines_in (map SaidItem items) ≡ []
no_lines [] = refl
no_lines (i ∷ items) = no_lines items

all_items : (items : List Item) → items_of (map SaidItem items) ≡ items
all_items [] = refl
all_items (i ∷ items) = ap (λ (is : List Item). i ∷ is) (all_items items)

-- the lines that were said lead there, and show these items
pub record Ran (set : Setting) (h : Honest) (a : Driven) : Type 0 where
  pub world : a.honest.world ≡ (run set h.world (lines_in a.said)).world
  pub items : items_of a.said ≡ (run set h.world (lines_in a.said)).items

ran_line : (set : Setting) (line : Line) (h : Honest) → Ran set h (performed line h (next set h.world line))
ran_line set line h =
    let a = next set h.world line in
    let one : run set h.world (line ∷ lines_in (map SaidItem a.items)) ≡ run set h.world (line ∷ []) = ap (λ (ls : List Line). run set h.world (line ∷ ls)) (no_lines a.items) in
    record {
      world = sym (ap (λ (r : Acted). r.world) one);
      items = all_items a.items ∙ sym (append-nil a.items) ∙ sym (ap (λ (r : Acted). r.items) one);
    }

ran_says : (set : Setting) (line : Line) (h : Honest) (b : Bool) → Ran set h (if b then left_out h else performed line h (next set h.world line))
ran_says set line h true = record { world = refl; items = refl }
ran_says set line h false = ran_line set line h

ran_then : (set : Setting) (h : Honest) (a b : Driven) → Ran set h a → Ran set a.honest b → Ran set h (record { honest = b.honest; said = a.said ++ b.said })
ran_then set h a b p q =
    let xs = lines_in a.said in
    let ys = lines_in b.said in
    let all : run set h.world (lines_in (a.said ++ b.said)) ≡ then_ (run set h.world xs) (λ v. run set v ys) =
    ap (λ (ls : List Line). run set h.world ls) (lines_append a.said b.said) ∙ run_append set xs ys h.world in
    let there : run set a.honest.world ys ≡ run set (run set h.world xs).world ys = ap (λ (w : World). run set w ys) p.world in
    record {
      world = q.world ∙ ap (λ (r : Acted). r.world) there ∙ sym (ap (λ (r : Acted). r.world) all);
      items =
          items_append a.said b.said ∙ ap (λ (is : List Item). is ++ items_of b.said) p.items
          ∙ ap (λ (is : List Item). (run set h.world xs).items ++ is) (q.items ∙ ap (λ (r : Acted). r.items) there)
          ∙ sym (ap (λ (r : Acted). r.items) all);
    }

ran_from : (set : Setting) (h g : Honest) (a : Driven) → g.world ≡ h.world → Ran set g a → Ran set h a
ran_from set h g a e p =
    let same : run set g.world (lines_in a.said) ≡ run set h.world (lines_in a.said) = ap (λ (w : World). run set w (lines_in a.said)) e in
    record { world = p.world ∙ ap (λ (r : Acted). r.world) same; items = p.items ∙ ap (λ (r : Acted). r.items) same }

ways : (names : NameLists) (set : Setting) → Ways names set (Ran set)
ways names set = record {
  moved = λ h g w l. record { world = w; items = refl };
  said = λ line h is. ran_says set line h (h.long || (h.world.lines == MOST_LINES));
  joined = λ h a rest p q. ran_then set h a (rest a.honest) p q;
  begun = λ h g a w l p. ran_from set h g a w p;
}

-- an honest run is the run of the lines that it says
pub is_the_run : (d : Deployed) (set : Setting) (rs : List Reading) → AreThere d.names set → AreReadings d rs
    → (honest_run set rs).said ≡ told set (switched_on set) (lines_in (honest_run set rs).said) → IsTheRun set (honest_run set rs)
is_the_run d set rs there are said =
    let first = setup set (start set) in
    let w = ways d.names set in
    let ran = ran_then set (start set) first (each (reads set) rs first.honest) (setup_by d.names set (Ran set) w there (start set))
    (readings_by d set (Ran set) w there rs first.honest are) in
    record {
      items = ran.items;
      steps = ap (λ (v : World). v.steps) ran.world;
      guarded = runs_guarded set (lines_in (honest_run set rs).said);
      told = said;
    }
