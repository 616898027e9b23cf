use Rattle.std.proofs.Common.{◌∙◌, List, ap, length, sym}
use Rattle.sx_trace.specs.declared.items.Item.{Item as Listed}
use Rattle.command_watch.proofs.Standing.{before_all, none_forged}
use Rattle.command_watch.proofs.text.count_before.Goals as goal

pub returns-in-None : goal.returns-in-None
returns-in-None c = λ p items f s same counted.
    c.from.ensures ∙ counted ∙ ap (λ (is : List Listed). length is) (sym (before_all items (none_forged items (sym (same ∙ c.in-None.is) ∙ s.forged))))
