-- What the stub's code is to be.
use Rattle.std.specs.Prelude.{◌≡◌, ℕ, ◌<◌, ◌≤◌, List, [], ◌++◌, length, slice_get, true}
use Rattle.std.specs.List.{list_all}
use Rattle.sx_lang.specs.Tree.{ModuleTree}
use Rattle.sx_mean.specs.declared.events.End.{End}
use Rattle.sx_ir.specs.declared.ir.Code.{Code}
use Rattle.sx_ir.specs.declared.ir.Ir.{Ir}
use Rattle.sx_stub.specs.Stub.{stub_code, stub_ops}
use Rattle.sx_stub.specs.Weight.{FitsWeight}
use Rattle.sx_stub.specs.Sound.{AreSound, is_plain}

-- The code of a module's stub: few operations, which fit into the weight, and no parts. The first
-- of them are `stub_code`, whatever follows them, and they are sound in all code that they are a
-- part of.
pub record StubsTo (tree : ModuleTree) (ends : List End) (code : Code) : Type 0 where
  pub is : code.ops.items ≡ stub_ops tree ends
  pub begins : (behind : List Ir) (i : ℕ) → i < length (stub_code tree ends)
      → slice_get (code.ops.items ++ behind) i ≡ slice_get (stub_code tree ends) i
  pub no_parts : code.parts.items ≡ []
  pub short : length code.ops.items ≤ 1024
  pub fits : FitsWeight ends code.ops.items
  pub sound : (ops : ℕ) → length code.ops.items ≤ ops → AreSound tree ends ops code.ops.items
  pub plain : list_all is_plain code.ops.items ≡ true
