use Rattle.std.proofs.Common.{◌≡◌, ◌++◌, take, drop, map, bit_xor}
use Rattle.sx_tag.proofs.hmac.xor_each.Given as goal

-- the bytes so far are done
abbrev pub invariant-loop-byte : goal.invariant-loop-byte
invariant-loop-byte l =
    take l.byte-index l.bytes ++ map (λ b. bit_xor b l.pad) (drop l.byte-index l.bytes) ≡ map (λ b. bit_xor b l.pad) l.initial.bytes
