use Rattle.std.proofs.Common.{◌≡◌, ◌≤◌, ◌∙◌, List, ap, length, subst, sym}
use Rattle.sx_deploy.specs.SeenDeployment.{deployed_as}
use Rattle.sx_mean.specs.Ends.{ends_after, ends_of}
use Rattle.sx_mean.specs.declared.apps.Link.{Link}
use Rattle.sx_mean.specs.declared.events.End.{End}
use Rattle.command_describe.proofs.Held.{few_ends}
use Rattle.command_describe.proofs.modules.push_part.Goals as goal

pub push_lines-requires-clause-few : goal.push_lines-requires-clause-few
push_lines-requires-clause-few c =
    let d = c.args.deployment.now in
    let p = c.args.number in
    let ends : c.deref-2.result.now ≡ ends_of (deployed_as d).app p =
    c.deref-2.ensures ∙ c.in_ok-ends.ensures ∙ ap (λ (ls : List Link). ends_after 0 p ls) c.deref.ensures.value in
    subst (λ (es : List End). length es ≤ 16) (sym ends) (few_ends d p c.args.part.now c.requires.sound c.requires.part)
