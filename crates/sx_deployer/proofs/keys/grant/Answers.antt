use Rattle.std.proofs.Common.{List, ℕ, rules, arith, ap, take}
use Rattle.sx_deployer.specs.Granting.{connection_key, side_number}
use Rattle.sx_deployer.proofs.Granted.{granted, small_side}
use Rattle.sx_deployer.proofs.keys.grant.Goals as goal

pub returns-clause-bytes : goal.returns-clause-bytes
returns-clause-bytes g c =
    let mac = g.T.Tag.mac in
    let e = c.args.«end» in
    rw c.write_set_key-bytes.ensures
    (granted mac c.field.result c.side_number.result e.link c.args.epoch (side_number e.side)
    c.args.key.now c.connection_key-connection.result
    (connection_key mac c.args.secret.now e.link c.args.epoch) (take 6 c.write_set_key-header.result)
    c.copy_from_slice.new.self c.wrap-packet.new.cipher c.wrap-packet.result
    c.field.ensures c.side_number.ensures (omega arith) (omega arith) (small_side e.side) c.connection_key-connection.ensures
    (ap (λ (s : List ℕ). take 6 s) c.write_set_key-header.ensures)
    c.wrap-packet.ensures.tag c.wrap-packet.ensures.cipher (search rules) (search rules) c.copy_from_slice.ensures.after)
