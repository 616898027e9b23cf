use Rattle.std.proofs.Common.{◌≡◌, [], length, refl, sym}
use Rattle.std.proofs.lemmas.Bool.{eqb-true}
use Rattle.std.proofs.lemmas.List.{nil_from_length}
use Rattle.sx_tag.specs.Wrap.{crypt}
use Rattle.sx_tag.proofs.wrapping.crypt.Goals as goal

pub returns-then-is_empty : goal.returns-then-is_empty
unfolding crypt
returns-then-is_empty g c = λ key h.
    let none : c.args.bytes.now ≡ [] = nil_from_length c.args.bytes.now (eqb-true (length c.args.bytes.now) 0 (sym c.if-is_empty.ensures)) in
    rw none refl

pub returns : goal.returns
unfolding crypt
returns g c = λ key h.
    let fed = c.feed-3.ensures key _ (c.feed-2.ensures key _ (c.feed.ensures key [] h)) in
    let stream = c.finish.ensures key _ fed in
    cc
