-- Runs of lines, one after the other.
use Rattle.std.proofs.Common.{◌≡◌, ℕ, List, [], ◌∷◌, ◌++◌, refl, sym, ◌∙◌, ap}
use Rattle.std.specs.Prelude.{slice_set}
use Rattle.std.proofs.lemmas.List.{set-set, append_assoc}
use Rattle.sx_trace.specs.declared.items.Item.{Item}
use Rattle.spec_machine.specs.State.{State}
use Rattle.sx_sched.specs.Lines.{Line}
use Rattle.spec_run.specs.Setting.{Setting}
use Rattle.sx_deployer.specs.Granting.{DeployerState}
use Rattle.spec_run.specs.Ledger.{Made}
use Rattle.spec_run.specs.State.{World, Acted}
use Rattle.spec_run.specs.Acts.{then_}
use Rattle.spec_run.specs.Run.{after_line, line_counted, run}
use Rattle.law_setup.proofs.forms.ByLine.{shown_by}
use Rattle.law_setup.proofs.forms.Served.{Moves}

pub run_append : (set : Setting) (xs ys : List Line) (w : World) → run set w (xs ++ ys) ≡ then_ (run set w xs) (λ v. run set v ys)
run_append set [] ys w = refl
run_append set (x ∷ xs) ys w =
    let a = after_line set (line_counted w) x in
    ap (λ (r : Acted). record { world = r.world; items = a.items ++ r.items }) (run_append set xs ys a.world)
    ∙ ap (λ is. record { world = (run set (run set a.world xs).world ys).world; items = is }) (sym (append_assoc a.items (run set a.world xs).items (run set (run set a.world xs).world ys).items))

pub shown_append : (set : Setting) (xs ys : List Line) (w : World) → shown_by set w (xs ++ ys) ≡ shown_by set w xs ++ shown_by set (run set w xs).world ys
shown_append set [] ys w = refl
shown_append set (x ∷ xs) ys w =
    let a = after_line set (line_counted w) x in
    ap (λ (zs : List (List Item)). a.items ∷ zs) (shown_append set xs ys a.world)

pub moves_then : (set : Setting) (w : World) (xs ys : List Line) (is js : List Item) (ss ts : List (List Item)) (n : ℕ) (t u : State) (ps qs : List (List ℕ)) (d e : DeployerState) (a b : List Made)
    → (first : Moves set w xs is ss n t ps d a) → Moves set first.world ys js ts n u qs e b → Moves set w (xs ++ ys) (is ++ js) (ss ++ ts) n u qs e b
moves_then set w xs ys is js ss ts n t u ps qs d e a b first second = record {
  world = second.world;
  is =
      run_append set xs ys w ∙ ap (λ (r : Acted). then_ r (λ v. run set v ys)) first.is
      ∙ ap (λ (r : Acted). record { world = r.world; items = is ++ r.items }) second.is;
  each =
      shown_append set xs ys w ∙ ap (λ (zs : List (List Item)). zs ++ shown_by set (run set w xs).world ys) first.each
      ∙ ap (λ (r : Acted). ss ++ shown_by set r.world ys) first.is ∙ ap (λ (zs : List (List Item)). ss ++ zs) second.each;
  nodes = second.nodes ∙ ap (λ (ns : List State). slice_set ns n u) first.nodes ∙ set-set w.nodes n t u;
  packets = second.packets;
  deployer = second.deployer;
  ledger = second.ledger;
}
