use Rattle.std.proofs.Common.{◌+◌, ℕ, length, take, drop, sym, ap, ◌∙◌, arith}
use Rattle.sx_executor.proofs.Stretch.{bytes_of_stretch}
use Rattle.sx_executor.proofs.executor.Executor.public_bytes.Goals as goal

pub returns : goal.returns
returns g c =
    let mem = g.B.Bus.bytes c.self.inside.bus in let n = length c.args.into.now in let public = c.between-public in
    let here = bytes_of_stretch mem (c.args.layout.now.pub_from + c.args.from) n
    (omega (arith, public.result.within, public.ensures.at, public.ensures.count, c.requires.within, c.stays_in_range.ensures.size)) in
    rw (← c.self.view_is) (c.copy_bytes.ensures ∙ ap (λ (at : ℕ). take n (drop (at + c.args.from) mem)) public.ensures.at ∙ sym here)
