use Rattle.std.proofs.Common.{◌/◌, sym, ◌∙◌}
use Rattle.std.proofs.lemmas.Bool.{OnTrue_from}
use Rattle.sx_rules.proofs.Away.{open_is, free}
use Rattle.sx_rules.proofs.table.Table.is_open.Goals as goal

pub returns-clause-open : goal.returns-clause-open
returns-clause-open c = open_is (c.args.at / 256) c.args.self.now.live c.near.result c.near.ensures

pub returns-clause-free : goal.returns-clause-free
returns-clause-free c =
    OnTrue_from _ _ (λ h. free c.args.self.now.live c.args.at (sym (open_is (c.args.at / 256) c.args.self.now.live c.near.result c.near.ensures) ∙ h))
