-- The codes of operations, of the byte form and of offsets, from and back.
use Rattle.std.proofs.Common.{◌≡◌, ◌≢◌, ℕ, ◌<◌, ◌≤◌, ◌==◌, Bool, true, false, refl, arith, Some, None}
use Rattle.std.specs.Prelude.{ℤ, pos, negsuc, ◌⊎◌}
use Rattle.std.proofs.lemmas.Bool.Decides.{nat_tests}
use Rattle.sx_isa.specs.declared.instruction.Op2.{Op2}
use Rattle.sx_isa.specs.declared.instruction.Op2.TheVariants.{Mov, Add, Addc, Subc, Sub, Cmp, Bit, Bic, Bis, Xor, And}
use Rattle.sx_isa.specs.declared.instruction.Op1.{Op1}
use Rattle.sx_isa.specs.declared.instruction.Op1.TheVariants.{Rrc, Swpb, Rra, Sxt, Push, Call}
use Rattle.sx_isa.specs.Spelling.{op2_code, op1_code, offset_field}
use Rattle.sx_isa.specs.Instructions.{IsOffset}
use Rattle.sx_isa.specs.Reading.{op2_at, op1_at, offset_at}
use Rattle.lemmas.specs.Truth.{truth}

-- reading a code gives the operation that has it
pub op2_back : (op : Op2) →
    (op2_at (op2_code op) ≡ Some op) × (4 ≤ op2_code op) × (op2_code op < 16) × (op2_code op ≢ 10)
op2_back Mov = (refl, omega arith, omega arith, omega arith)
op2_back Add = (refl, omega arith, omega arith, omega arith)
op2_back Addc = (refl, omega arith, omega arith, omega arith)
op2_back Subc = (refl, omega arith, omega arith, omega arith)
op2_back Sub = (refl, omega arith, omega arith, omega arith)
op2_back Cmp = (refl, omega arith, omega arith, omega arith)
op2_back Bit = (refl, omega arith, omega arith, omega arith)
op2_back Bic = (refl, omega arith, omega arith, omega arith)
op2_back Bis = (refl, omega arith, omega arith, omega arith)
op2_back Xor = (refl, omega arith, omega arith, omega arith)
op2_back And = (refl, omega arith, omega arith, omega arith)

pub op1_back : (op : Op1) → (op1_at (op1_code op) ≡ Some op) × (op1_code op < 6)
op1_back Rrc = (refl, omega arith)
op1_back Swpb = (refl, omega arith)
op1_back Rra = (refl, omega arith)
op1_back Sxt = (refl, omega arith)
op1_back Push = (refl, omega arith)
op1_back Call = (refl, omega arith)

pub bit_back : (b : Bool) → ((truth b == 1) ≡ b) × (truth b < 2)
bit_back true = (refl, omega arith)
bit_back false = (refl, omega arith)

pub bit_at : (n : ℕ) → n < 2 → truth (n == 1) ≡ n
bit_at n h = grind (arith, nat_tests)

pub offset_back : (z : ℤ) → IsOffset z → (offset_at (offset_field z) ≡ z) × (offset_field z < 1024)
offset_back (pos n) h = (grind (arith, nat_tests), omega arith)
offset_back (negsuc n) h = (grind (arith, nat_tests), omega arith)

pub offset_field-at : (n : ℕ) → n < 1024 → offset_field (offset_at n) ≡ n
offset_field-at n h = grind (arith, nat_tests)

pub offset_at-valid : (n : ℕ) → n < 1024 → IsOffset (offset_at n)
offset_at-valid n h = grind (arith, nat_tests)

-- the operation of a code has it
pub op2_code-at : (code : ℕ) (op : Op2) → op2_at code ≡ Some op → op2_code op ≡ code
op2_code-at code op e = grind (arith, nat_tests)

pub op1_code-at : (code : ℕ) (op : Op1) → op1_at code ≡ Some op → op1_code op ≡ code
op1_code-at code op e = grind (arith, nat_tests)

-- the codes of no operation
pub op2_none : (code : ℕ) → op2_at code ≡ None → (code < 4) ⊎ (code ≡ 10) ⊎ (15 < code)
op2_none code e = grind (arith, nat_tests)

pub op1_none : (code : ℕ) → op1_at code ≡ None → 5 < code
op1_none code e = grind (arith, nat_tests)
