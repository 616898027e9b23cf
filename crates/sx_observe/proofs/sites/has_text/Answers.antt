use Rattle.std.proofs.Common.{◌-◌, ◌∙◌}
use Rattle.sx_observe.proofs.SameBytes.{unlike}
use Rattle.sx_observe.proofs.sites.has_text.Goals as goal

pub returns-else-from-text : goal.returns-else-from-text
returns-else-from-text g c =
    unlike c.args.node.now.mem c.args.layout.now.pub_from c.from.result (c.args.layout.now.pub_to - c.args.layout.now.pub_from) c.args.text.now
    (c.from.ensures ∙ c.saturating_sub-count.ensures) c.if-from-text.false
