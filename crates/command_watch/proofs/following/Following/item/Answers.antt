use Rattle.std.proofs.Common.{◌∙◌, refl, sym}
use Rattle.command_watch.proofs.Standing.{heeds_ok, rests_as, stops}
use Rattle.command_watch.proofs.following.Following.item.Goals as goal
use Rattle.sx_index.proofs.Indexed.{none_of}

pub returns-then-is_some : goal.returns-then-is_some
returns-then-is_some c = λ p items s counted. rests_as p items c.args.item.now c.args.self.now (sym c.is_some.ensures ∙ c.if-is_some.true) s

pub returns-then-is_forged : goal.returns-then-is_forged
returns-then-is_forged c = λ p items s counted.
    stops p items c.args.item.now c.args.self.now _ c.from.result (none_of c.args.self.now.forged (sym c.is_some.ensures ∙ c.if-is_some.false)) s
    (sym c.is_forged.ensures ∙ c.if-is_forged.true) (c.from.ensures ∙ counted) refl

pub returns : goal.returns
returns c = λ p items s counted.
    let none = none_of c.args.self.now.forged (sym c.is_some.ensures ∙ c.if-is_some.false) in
    heeds_ok p items c.args.item.now c.args.self.now c.item.new.self c.item.result none s (sym c.is_forged.ensures ∙ c.if-is_forged.false) (c.item.ensures.heeds p items (s.follows none))
