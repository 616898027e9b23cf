use Rattle.std.proofs.Common.{◌≤◌, arith, eqb, length, take, w8}
use Rattle.std.proofs.lemmas.List.{length-take-le}
use Rattle.std.proofs.lemmas.Simd.{bitmask_splat}
use Rattle.sx_trace.proofs.Cut.{near_is_first, near_within}
use Rattle.sx_trace.proofs.reading.near_space.Goals as goal

pub returns-clause-offset : goal.returns-clause-offset
returns-clause-offset c =
    let text = c.args.text.now in
    let long : 8 ≤ length text = c.if-text-lt8.false in
    near_is_first text _ long (bitmask_splat w8 eqb (take 8 text) 8 32 (length-take-le 8 text long) (omega arith)) (omega (arith, c.if-spaces-eq0.false))

pub returns-clause-within : goal.returns-clause-within
returns-clause-within c =
    let text = c.args.text.now in
    let long : 8 ≤ length text = c.if-text-lt8.false in
    near_within text _ long (bitmask_splat w8 eqb (take 8 text) 8 32 (length-take-le 8 text long) (omega arith)) (omega (arith, c.if-spaces-eq0.false))
