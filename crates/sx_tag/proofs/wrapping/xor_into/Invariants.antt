use Rattle.std.proofs.Common.{◌≡◌, ◌++◌, take, drop}
use Rattle.sx_tag.specs.Wrap.{xor_bytes}
use Rattle.sx_tag.proofs.wrapping.xor_into.Given as goal

-- the bytes so far are done, and the rest is as it was
abbrev pub invariant-loop-i : goal.invariant-loop-i
invariant-loop-i l = record {
  front : take l.i l.into ++ xor_bytes (drop l.i l.bytes) (drop l.i l.stream) ≡ xor_bytes l.bytes l.stream;
  rest : drop l.i l.into ≡ drop l.i l.initial.into;
}
