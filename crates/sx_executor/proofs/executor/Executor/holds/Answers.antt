use Rattle.std.proofs.Common.{List, ℕ, length, sym, ap, ◌∙◌, arith}
use Rattle.std.specs.Prelude.{bytes_eq}
use Rattle.sx_executor.proofs.Stretch.{bytes_of_stretch}
use Rattle.sx_executor.proofs.executor.Executor.holds.Goals as goal

pub returns : goal.returns
returns g c =
    let mem = g.B.Bus.bytes c.self.inside.bus in let n = length c.args.expected.now in
    let here = bytes_of_stretch mem c.args.at n (omega (arith, c.requires, c.stays_in_range.ensures.size)) in
    rw (← c.self.view_is) (c.holds.ensures ∙ ap (λ (bytes : List ℕ). bytes_eq bytes c.args.expected.now) (sym here))
