-- That templates can be made for the stub's operations.
use Rattle.std.specs.Prelude.{◌≡◌, ℕ, ◌<◌, ◌≤◌, nat_lt, Bool, true, false, List, length, All}
use Rattle.std.specs.List.{list_all}
use Rattle.sx_lang.specs.Sizes.{module_data_size}
use Rattle.sx_lang.specs.Tree.{ModuleTree}
use Rattle.sx_mean.specs.declared.events.End.{End}
use Rattle.sx_ir.specs.declared.ir.Ir.{Ir}
use Rattle.sx_ir.specs.declared.ir.Ir.TheVariants as ir
use Rattle.sx_ir.specs.Sound.{is_sound_op}
use Rattle.sx_stub.specs.Stub.{stub_ops}

-- it makes no packet, its words have 16 bits, and its end has 8
abbrev pub is_plain : Ir → Bool
is_plain (ir.Push n) = nat_lt n 65536
is_plain (ir.JumpEqual o n p) = nat_lt n 65536
is_plain (ir.Meets r n) = nat_lt n 65536
is_plain (ir.SetEnd k) = nat_lt k 256
is_plain (ir.Packet k) = false
is_plain i = true

-- in code with this many operations and a part for each handler they are sound
abbrev pub AreSound : ModuleTree → List End → ℕ → List Ir → Type 0
AreSound tree ends ops code =
    let size = module_data_size tree (length ends) in
    list_all (is_sound_op ops (length tree.handlers) size) code ≡ true

-- The stub's operations are sound in all code that they are a part of, and plain.
abbrev pub StubSound : Type 0
StubSound = (tree : ModuleTree) (ends : List End) (ops : ℕ) → length ends ≤ 16
    → All (λ e. e.link < 256) ends → length (stub_ops tree ends) ≤ ops
    → AreSound tree ends ops (stub_ops tree ends) × (list_all is_plain (stub_ops tree ends) ≡ true)
