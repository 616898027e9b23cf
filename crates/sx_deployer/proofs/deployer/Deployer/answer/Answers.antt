use Rattle.std.proofs.Common.{ap, sym, ◌∙◌}
use Rattle.sx_deployer.specs.Keeping.{Keeping, key_of, target_at}
use Rattle.sx_deployer.proofs.Firsts.{first_renewed, within}
use Rattle.sx_deployer.proofs.deployer.Deployer.answer.Goals as goal

pub invariant_of-self : goal.invariant_of-self
invariant_of-self g c =
    let kept = ap (λ (d : Keeping). key_of g.T.Tag.mac (target_at d c.args.«module») c.args.boot) (sym c.self.view_is) in
    (c.self.invariant.0, c.self.invariant.1, c.key_of-key.ensures ∙ kept)

pub invariant_of-self-2 : goal.invariant_of-self-2
invariant_of-self-2 g c =
    let there = within c.self.inside.targets.items c.args.self.now.targets c.args.«module» c.from-index.result
    (ap (λ (d : Keeping). d.targets) c.self.view_is) c.requires c.from-index.ensures in
    let kept = ap (λ (d : Keeping). key_of g.T.Tag.mac (target_at d c.args.«module») c.args.boot) (sym c.self.view_is) in (
      c.self.invariant.0,
      first_renewed c.self.inside.targets.items c.from-index.result c.index-target.result.now c.deref-2.result.now _ c.self.inside.epochs
          c.renewed-self-inside.result there c.index-target.ensures c.deref-2.ensures.value c.renewed-self-inside.ensures c.self.invariant.1,
      c.key_of-key.ensures ∙ kept,
    )
