use Rattle.std.proofs.Common.{◌+◌, ◌≤◌, length, arith, subst, sym}
use Rattle.sx_mean.specs.View.{app_as}
use Rattle.sx_mean.proofs.ValidApplications.{valid_applications}
use Rattle.sx_model.specs.State.{Model as Stands}
use Rattle.sx_model.specs.Counted.{CountsWithin}
use Rattle.sx_model.proofs.Counts.{counted_more}
use Rattle.sx_model.proofs.model.Model.step.Goals as goal

pub take_item-requires-clause-links : goal.take_item-requires-clause-links
take_item-requires-clause-links c =
    let few : length c.args.app.now.links.items ≤ 64 = (valid_applications (app_as c.args.app.now) c.requires.valid).few_links in
    omega arith

pub invariant_of-self-then-is_allowed : goal.invariant_of-self-then-is_allowed
invariant_of-self-then-is_allowed c = record {
  counted =
      subst (λ (s : Stands). CountsWithin s (c.args.self.now.taken + 1)) (sym c.in_ok-is_allowed.ensures.state)
      (counted_more (app_as c.args.app.now) c.args.self.now.state c.args.item.now c.args.self.now.taken c.args.self.now.counted);
}
