-- The bytes of operations that follow others.
use Rattle.std.proofs.Common.{◌≡◌, ◌+◌, List, [], ◌∷◌, ◌++◌, arith}
use Rattle.sx_ir.specs.declared.ir.Ir.{Ir}
use Rattle.sx_ir.specs.Sizes.{ops_bytes}

pub ops_bytes-append : (a b : List Ir) → ops_bytes (a ++ b) ≡ ops_bytes a + ops_bytes b
ops_bytes-append [] b = omega arith
ops_bytes-append (i ∷ a) b = omega (arith, ops_bytes-append a b)
