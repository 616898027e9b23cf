use Rattle.std.proofs.Common.{◌≡◌, true, List, sym, subst, ◌∙◌}
use Rattle.std.specs.List.{list_all}
use Rattle.sx_rules.specs.declared.section.Section.{Section}
use Rattle.sx_executor.specs.declared.gap.Gap.{Gap}
use Rattle.sx_executor.specs.Gaps.{passes}
use Rattle.sx_executor.proofs.Gaps.{keeps}
use Rattle.sx_executor.proofs.gap.Gap.around.Goals as goal

pub returns-then-is_passed_by_all : goal.returns-then-is_passed_by_all
returns-then-is_passed_by_all c =
    let g : Gap = c.bounds_around-gap.result in
    let all : list_all (passes g) c.args.table.now.live ≡ true =
    subst (λ (live : List Section). list_all (passes g) live ≡ true) c.live-then-is_even.ensures (sym c.is_passed_by_all.ensures ∙ c.if-is_passed_by_all.true) in
    keeps g c.args.table.now.live (sym c.is_even.ensures ∙ c.if-is_even.true) all
