use Rattle.std.proofs.Common.{◌++◌, List, ℕ, subst}
use Rattle.sx_tag.specs.Stream.{Leads}
use Rattle.sx_sancus.proofs.identity.feed_part.Goals as goal

pub returns : goal.returns
returns g c = λ answer fed h.
    subst (λ (part : List ℕ). Leads g.T.Tag.has g.T.Tag.mac answer c.feed_answer.new.run (fed ++ part)) c.copy_part.ensures (c.feed_answer.ensures answer fed h)
