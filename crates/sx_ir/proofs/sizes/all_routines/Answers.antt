use Rattle.std.proofs.Common.{◌≡◌, subst, arith}
use Rattle.sx_ir.specs.Sizes.{routines}
use Rattle.sx_ir.proofs.sizes.all_routines.Goals as goal

pub returns-clause-count : goal.returns-clause-count
returns-clause-count c =
    let last : c.loop-end.end ≡ 256 = omega (arith, c.loop-end.auto.end-end, c.loop-end-test.false) in
    subst (λ n. c.loop-end.count ≡ routines c.args.ops.now n) last (c.loop-end.invariant.0)
