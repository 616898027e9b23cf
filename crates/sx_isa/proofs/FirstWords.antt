-- The fields of first words, and what is left beside the legal ones.
use Rattle.std.proofs.Common.{◌≡◌, ◌≢◌, ℕ, ◌/◌, ◌%◌, ◌<◌, ◌≤◌, Bool, true, false, refl, ◌⊎◌, inl, inr, arith}
use Rattle.sx_isa.specs.declared.instruction.Operand.{Operand}
use Rattle.sx_isa.specs.declared.instruction.Operand.TheVariants.{Reg, Indexed, Indirect, Increment, Symbolic, Absolute, Immediate, Const}
use Rattle.sx_isa.specs.declared.instruction.Op1.{Op1}
use Rattle.sx_isa.specs.declared.instruction.Op1.TheVariants.{Rrc, Swpb, Rra, Sxt, Push, Call}
use Rattle.sx_isa.specs.declared.instruction.Instr.{Instr}
use Rattle.sx_isa.specs.declared.instruction.Instr.TheVariants.{Two, One, Reti, Jump, Sancus}
use Rattle.sx_isa.specs.Spelling.{op1_code, op2_code, two_word, one_word, place_of}
use Rattle.sx_isa.specs.Instructions.{first_word, IsIllegal, IsInstruction, IsSource}
use Rattle.sx_isa.specs.Legal.{is_allowed, is_value}
use Rattle.sx_isa.proofs.Codes.{op2_back, op1_back, bit_back, offset_back}
use Rattle.sx_isa.proofs.Operands.{source_back, destination_back}
use Rattle.lemmas.specs.Truth.{truth}

pub two_fields : (w op s ad y m d : ℕ) → w ≡ two_word op s ad y m d → s < 16 → ad < 2 → y < 2 → m < 4 →
    d < 16 →
    (w / 4096 ≡ op) × (w / 256 % 16 ≡ s) × (w / 128 % 2 ≡ ad) × (w / 64 % 2 ≡ y) × (w / 16 % 4 ≡ m) ×
    (w % 16 ≡ d)
two_fields w op s ad y m d e q r t u v =
    (omega arith, omega arith, omega arith, omega arith, omega arith, omega arith)

pub one_fields : (w op y m r : ℕ) → w ≡ one_word op y m r → op < 6 → y < 2 → m < 4 → r < 16 →
    (w / 128 % 8 ≡ op) × (w / 64 % 2 ≡ y) × (w / 16 % 4 ≡ m) × (w % 16 ≡ r) × (0x1000 ≤ w) ×
    (w < 0x1300)
one_fields w op y m r e p q t u =
    (omega arith, omega arith, omega arith, omega arith, omega arith, omega arith)

pub two_packed : (w op y : ℕ) → w < 65536 → op ≡ w / 4096 → y ≡ w / 64 % 2 →
    w ≡ two_word op (w / 256 % 16) (w / 128 % 2) y (w / 16 % 4) (w % 16)
two_packed w op y h e b = omega arith

pub one_packed : (w op y : ℕ) → 0x1000 ≤ w → w < 0x1300 → op ≡ w / 128 % 8 → y ≡ w / 64 % 2 →
    w ≡ one_word op y (w / 16 % 4) (w % 16)
one_packed w op y h k e b = omega arith

-- what an operation on one operand allows, by its code
pub allowed_cases : (op : Op1) (byte : Bool) (arg : Operand) → is_allowed op byte arg ≡ true →
    ((op1_code op % 2 ≡ 0) ⊎ (truth byte ≡ 0)) × ((4 ≤ op1_code op) ⊎ (is_value arg ≡ false))
allowed_cases Rrc byte arg h = (inl refl, inr (grind arith))
allowed_cases Swpb byte arg h = (inr (grind arith), inr (grind arith))
allowed_cases Rra byte arg h = (inl refl, inr (grind arith))
allowed_cases Sxt byte arg h = (inr (grind arith), inr (grind arith))
allowed_cases Push byte arg h = (inl refl, inl (omega arith))
allowed_cases Call byte arg h = (inr (grind arith), inl (omega arith))

pub refused_cases : (op : Op1) (byte : Bool) (arg : Operand) → is_allowed op byte arg ≡ false →
    ((op1_code op % 2 ≡ 1) × (byte ≡ true)) ⊎ ((op1_code op < 4) × (is_value arg ≡ true))
refused_cases Rrc byte arg h = inr (omega arith, grind arith)
refused_cases Swpb true arg h = inl (refl, refl)
refused_cases Swpb false arg h = inr (omega arith, grind arith)
refused_cases Rra byte arg h = inr (omega arith, grind arith)
refused_cases Sxt true arg h = inl (refl, refl)
refused_cases Sxt false arg h = inr (omega arith, grind arith)
refused_cases Push byte arg h = absurd (grind arith)
refused_cases Call true arg h = inl (refl, refl)
refused_cases Call false arg h = absurd (grind arith)

-- a place of no constant and no immediate
abbrev IsPlain : ℕ → ℕ → Type 0
IsPlain register mode = (register ≢ 3) × ((register ≢ 2) ⊎ (mode < 2)) × ((register ≢ 0) ⊎ (mode ≢ 3))

no_value_place : (a : Operand) → IsSource a → is_value a ≡ false →
    IsPlain (place_of a).register (place_of a).mode
no_value_place (Reg r) h v = (omega arith, inr (omega arith), inr (omega arith))
no_value_place (Indexed r x) h v = (omega arith, inr (omega arith), inr (omega arith))
no_value_place (Symbolic x) h v = (omega arith, inr (omega arith), inr (omega arith))
no_value_place (Absolute x) h v = (omega arith, inr (omega arith), inr (omega arith))
no_value_place (Indirect r) h v = (omega arith, inl (omega arith), inr (omega arith))
no_value_place (Increment r) h v = (omega arith, inl (omega arith), inl (omega arith))
no_value_place (Immediate x) h v = absurd (cc)
no_value_place (Const c) h v = absurd (cc)

two_legal : (w op s ad y m d : ℕ) → w ≡ two_word op s ad y m d → 4 ≤ op →
    op < 16 → s < 16 → ad < 2 → y < 2 → m < 4 → d < 16 → op ≢ 10 →
    (ad ≡ 1 → d ≡ 3 → ⊥) → IsIllegal w → ⊥
two_legal w op s ad y m d e high p q r t u v ten three illegal = omega arith

one_legal : (w op y m r : ℕ) → w ≡ one_word op y m r → op < 6 → y < 2 → m < 4 → r < 16 →
    (op % 2 ≡ 0) ⊎ (y ≡ 0) → (4 ≤ op) ⊎ IsPlain r m → IsIllegal w → ⊥
one_legal w op y m r e a b c d forms values illegal =
    elim values [
      | inl l ↦ omega arith
      | inr plain ↦ elim plain.1 [
        | inl g ↦ elim plain.2 [ inl k ↦ omega arith | inr k ↦ omega arith ]
        | inr g ↦ elim plain.2 [ inl k ↦ omega arith | inr k ↦ omega arith ]
      ]
    ]

-- the first word of an instruction isn't among the illegal ones
pub legal : (i : Instr) → IsInstruction i → IsIllegal (first_word i) → ⊥
legal (Two op byte src dst) h illegal =
    let o = op2_back op in let p = source_back src h.0 in let q = destination_back dst h.1 in
    two_legal _ (op2_code op) (place_of src).register (place_of dst).mode (truth byte)
    (place_of src).mode (place_of dst).register
    refl o.1 o.2 p.register q.mode (bit_back byte).1 p.mode q.register o.3 q.not_three illegal
legal (One op byte arg) h illegal =
    let p = source_back arg h.0 in let a = allowed_cases op byte arg h.1 in
    one_legal _ (op1_code op) (truth byte) (place_of arg).mode (place_of arg).register refl
    (op1_back op).1 (bit_back byte).1 p.mode p.register
    a.0 (elim a.1 [ inl l ↦ inl l | inr v ↦ inr (no_value_place arg h.0 v) ]) illegal
legal Reti h illegal = omega arith
legal (Jump cond offset) h illegal = omega (arith, (offset_back offset h.1).1)
legal (Sancus code) h illegal = omega arith
