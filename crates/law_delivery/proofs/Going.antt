-- Lines that lead from a world that is as one course says to one that is as another says.
use Rattle.std.proofs.Common.{◌≡◌, List, ◌++◌, append_assoc, ◌∙◌, ap}
use Rattle.sx_trace.specs.declared.items.Item.{Item}
use Rattle.sx_sched.specs.Lines.{Line}
use Rattle.spec_run.specs.Setting.{Setting}
use Rattle.spec_run.specs.State.{World, Acted}
use Rattle.spec_run.specs.Acts.{then_}
use Rattle.spec_run.specs.Run.{run}
use Rattle.spec_honest.specs.Course.{Course}
use Rattle.spec_honest.proofs.AsPlain.{IsTold}
use Rattle.law_setup.proofs.forms.ByLine.{shown_by}
use Rattle.law_setup.proofs.forms.Settled.{Settled}
use Rattle.law_setup.proofs.Runs.{run_append, shown_append}
use Rattle.law_delivery.proofs.InWords.{InWords}

-- a world that agrees with a course, whose values are words over connections that are there
pub record Stands (set : Setting) (w : World) (c : Course) : Type 0 where
  pub settled : Settled set w c
  pub told : IsTold set.app c
  pub words : InWords set.app c.plain

-- lines lead to a world that agrees with the later course, and show the items that it has more, line by line these
pub record Leads (set : Setting) (w : World) (lines : List Line) (shown : List (List Item)) (c d : Course) : Type 0 where
  pub world : World
  pub items : List Item
  pub is : run set w lines ≡ record { world = world; items = items }
  pub each : shown_by set w lines ≡ shown
  pub more : d.items ≡ c.items ++ items
  pub stands : Stands set world d

pub leads_on : (set : Setting) (w : World) (xs ys : List Line) (ps qs : List (List Item)) (c d e : Course) → (first : Leads set w xs ps c d)
    → Leads set first.world ys qs d e → Leads set w (xs ++ ys) (ps ++ qs) c e
leads_on set w xs ys ps qs c d e first second = record {
  world = second.world;
  items = first.items ++ second.items;
  is =
      run_append set xs ys w ∙ ap (λ (r : Acted). then_ r (λ v. run set v ys)) first.is
      ∙ ap (λ (r : Acted). record { world = r.world; items = first.items ++ r.items }) second.is;
  each =
      shown_append set xs ys w ∙ ap (λ (zs : List (List Item)). zs ++ shown_by set (run set w xs).world ys) first.each
      ∙ ap (λ (r : Acted). ps ++ shown_by set r.world ys) first.is ∙ ap (λ (zs : List (List Item)). ps ++ zs) second.each;
  more = second.more ∙ ap (λ (zs : List Item). zs ++ second.items) first.more ∙ append_assoc c.items first.items second.items;
  stands = second.stands;
}
