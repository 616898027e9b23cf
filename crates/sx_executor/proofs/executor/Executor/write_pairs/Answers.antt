use Rattle.std.proofs.Common.{◌≡◌, ◌+◌, ◌*◌, true, length, sym, subst, arith}
use Rattle.sx_rules.specs.declared.access.Access.TheVariants.{Write}
use Rattle.spec_machine.specs.Run.{may_range}
use Rattle.sx_executor.specs.Machine.{Machine}
use Rattle.sx_executor.proofs.Words.{part_open}
use Rattle.sx_executor.proofs.executor.Executor.write_pairs.Goals as goal

pub write_pair-requires-clause-right : goal.write_pair-requires-clause-right
write_pair-requires-clause-right g c =
    let old = c.args.self.now in
    subst (λ (m : Machine). may_range m.sections.live m.own Write (c.args.at + 2 * c.loop-i.i) 2 ≡ true) (sym c.loop-i.invariant.1)
    (part_open old.sections.live old.own Write c.args.at (length c.args.bytes.now) (2 * c.loop-i.i) 2 c.requires.right (omega (arith, c.loop-i-test.true)))
