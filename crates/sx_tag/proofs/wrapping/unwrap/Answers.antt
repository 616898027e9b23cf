use Rattle.std.proofs.Common.{◌≡◌, ℕ, List, [], true, Some, None, bytes_eq, sym, ◌∙◌, ap}
use Rattle.std.proofs.lemmas.Bool.{cond-true}
use Rattle.sx_tag.specs.Wrap.{wrap_tag, unwrapped}
use Rattle.sx_tag.proofs.UnwrapsWrapped.{padded-crypt}
use Rattle.sx_tag.proofs.wrapping.unwrap.Goals as goal

pub returns-clause-body : goal.returns-clause-body
unfolding unwrapped
returns-clause-body g c =
    let mac = g.T.Tag.mac in let key = c.args.key.now in
    let expected = c.wrap_tag-expected.ensures key (c.copy.ensures key [] c.begin-begun.ensures) in
    let same : bytes_eq c.args.mac.now (wrap_tag mac key c.args.ad.now c.args.cipher.now) ≡ true = cc in
    ap (λ (body : List ℕ). Some body)
    (c.crypt.ensures key c.begin-begun.ensures ∙ padded-crypt mac key c.args.ad.now c.args.cipher.now g.met.T.Tag.is_tag.width c.requires.cipher)
    ∙ sym (cond-true _ _ None same)
