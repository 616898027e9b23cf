use Rattle.std.proofs.Common.{◌≡◌, ◌++◌, ◌-◌, List, ℕ, subst, append_assoc}
use Rattle.sx_tag.specs.Keys.{identity}
use Rattle.sx_tag.specs.Stream.{Leads}
use Rattle.spec_machine.specs.Memory.{bytes_from}
use Rattle.spec_machine.specs.Protect.{identity_at}
use Rattle.sx_sancus.proofs.identity.feed_identity.Goals as goal

pub returns : goal.returns
unfolding identity
returns g c = λ answer fed h.
    let mem = c.args.executor.now.mem in
    let l = c.args.layout.now in
    let public = bytes_from mem l.pub_from (l.pub_to - l.pub_from) in
    let taken = c.feed_answer.ensures answer (fed ++ public) (c.feed_public.ensures answer fed h) in
    let together = append_assoc fed public c.layout_bytes-bounds.result in
    let bounds = c.layout_bytes-bounds.ensures in
    let e : (fed ++ public) ++ c.layout_bytes-bounds.result ≡ fed ++ identity_at mem c.args.layout.now = cc in
    subst (λ (bs : List ℕ). Leads g.T.Tag.has g.T.Tag.mac answer c.feed_answer.new.run bs) e taken
