use Rattle.std.proofs.Common.{◌≡◌, arith}
use Rattle.command_snap.proofs.Registers.{all_bytes, next_byte}
use Rattle.command_snap.proofs.answers.bytes_of.Goals as goal

pub loop-i-preserved : goal.loop-i-preserved
loop-i-preserved g c =
    next_byte c.args.node.now.mem c.args.from c.loop-i.i c.loop-i.bytes.items _ c.byte.result c.in_ok-push.ensures.items c.loop-i.invariant c.byte.ensures

pub returns : goal.returns
returns g c =
    let all : c.loop-i.i ≡ c.args.len = omega (arith, c.loop-i-test.false, c.loop-i.auto.i-end) in
    all_bytes c.args.node.now.mem c.args.from c.loop-i.i c.args.len c.loop-i.bytes.items c.loop-i.invariant all
