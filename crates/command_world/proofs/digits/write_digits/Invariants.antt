use Rattle.std.proofs.Common.{◌≡◌, ◌*◌, ◌++◌, take, drop}
use Rattle.hex.specs.Hex.{encode_lower}
use Rattle.command_world.proofs.digits.write_digits.Given as goal

-- the digits so far, and after them those of the bytes that are left
abbrev pub invariant-bytes : goal.invariant-bytes
invariant-bytes l = take (2 * l.i) l.digits ++ encode_lower (drop l.i l.fn.bytes) ≡ encode_lower l.fn.bytes
