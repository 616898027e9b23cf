use Rattle.std.proofs.Common.{arith}
use Rattle.sx_paged.proofs.Starts.{count-one}
use Rattle.sx_paged.proofs.paged.Paged.present.Goals as goal

pub overflow_sub-result : goal.overflow_sub-result
overflow_sub-result c =
    let inside = c.self.inside in
    omega (arith, c.free-live.ensures, count-one inside.arena inside.starts inside.blank c.self.invariant c.if-self.false)

pub returns-else-self : goal.returns-else-self
returns-else-self c =
    let inside = c.self.inside in
    rw (← c.self.view_is) (omega (arith, c.free-live.ensures, count-one inside.arena inside.starts inside.blank c.self.invariant c.if-self.false))
