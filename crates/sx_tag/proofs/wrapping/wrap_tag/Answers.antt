use Rattle.std.proofs.Common.{[]}
use Rattle.sx_tag.specs.Wrap.{wrap_tag}
use Rattle.sx_tag.proofs.wrapping.wrap_tag.Goals as goal

pub returns : goal.returns
unfolding wrap_tag
returns g c = λ key h.
    let fed = c.feed-3.ensures key _ (c.feed-2.ensures key _ (c.feed.ensures key [] h)) in
    let tag = c.finish.ensures key _ fed in
    cc
