use Rattle.std.proofs.Common.{◌≡◌, true, List, sym, subst, ◌∙◌}
use Rattle.std.specs.List.{list_all}
use Rattle.sx_rules.specs.declared.section.Section.{Section}
use Rattle.sx_executor.specs.declared.buffer.Buffer.{Buffer}
use Rattle.sx_executor.specs.declared.gap.Gap.{Gap}
use Rattle.sx_executor.specs.Readable.{spares}
use Rattle.sx_executor.proofs.Deep.{part_bare}
use Rattle.sx_executor.proofs.Readable.{keeps}
use Rattle.sx_executor.proofs.gap.Gap.readable_around.Goals as goal

pub returns-then-not-meets_device : goal.returns-then-not-meets_device
returns-then-not-meets_device c =
    let g : Gap = c.between_devices-gap.result in
    let places = c.args.places.now in
    let buffer : Buffer = c.between.result in
    let all : list_all (spares g) c.args.table.now.live ≡ true =
    subst (λ (live : List Section). list_all (spares g) live ≡ true) c.live-then-is_even.ensures (sym c.is_spared_by_all.ensures ∙ c.if-is_spared_by_all.true) in
    keeps g c.args.table.now.live places (sym c.is_even.ensures ∙ c.if-is_even.true) all
    (part_bare places g.from g.to buffer.at buffer.count c.between.ensures.at c.between.ensures.count (sym c.meets_device.ensures ∙ c.if-not-meets_device.true))
