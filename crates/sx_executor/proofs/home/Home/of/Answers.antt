use Rattle.std.proofs.Common.{◌≡◌, true, List, refl, sym, subst, ◌∙◌}
use Rattle.std.specs.List.{list_all}
use Rattle.sx_rules.specs.declared.section.Section.{Section}
use Rattle.sx_executor.specs.declared.home.Home.{Home}
use Rattle.sx_executor.specs.Homes.{leaves}
use Rattle.sx_executor.proofs.Homes.{keeps}
use Rattle.sx_executor.proofs.home.Home.of.Goals as goal

pub returns-then-is_left_by_all : goal.returns-then-is_left_by_all
returns-then-is_left_by_all c =
    let h : Home = record { id = c.args.id; layout = c.in-Some.section.layout } in
    let all : list_all (leaves h) c.args.table.now.live ≡ true =
    subst (λ (live : List Section). list_all (leaves h) live ≡ true) c.live.ensures (sym c.is_left_by_all.ensures ∙ c.if-is_left_by_all.true) in
    keeps h c.args.table.now.live c.in-Some.section (sym c.section.ensures ∙ c.in-Some.is) refl (sym c.is_even.ensures ∙ c.if-is_even.true) all
