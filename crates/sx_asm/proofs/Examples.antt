-- The definitions compute on texts and bytes at hand.
use Rattle.std.proofs.Common.{◌≡◌, ℕ, refl, List, [], ◌∷◌, ◌++◌}
use Rattle.std.specs.Prelude.{codes, Ok, Err}
use Rattle.sx_isa.specs.Reading.{two_at, instruction_at}
use Rattle.sx_asm.specs.declared.error.AsmError.TheVariants.{Fault}
use Rattle.sx_asm.specs.Tokens.{tokens_of}
use Rattle.sx_asm.specs.Reading.{read}
use Rattle.sx_asm.specs.Assembled.{assembled}
use Rattle.sx_asm.specs.Shown.{listed}

abbrev newline : List ℕ
newline = 10 ∷ []

-- a label, a constant, absolute operands, bytes and a jump backwards
loop : assembled 0x4000 (codes "here: mov #9, &0x1000" ++ newline ++ codes "xor.b #1, &0x306" ++ newline ++ codes "jmp here" ++ newline)
    ≡ Ok (0xb2 ∷ 0x40 ∷ 0x09 ∷ 0x00 ∷ 0x00 ∷ 0x10 ∷ 0xd2 ∷ 0xe3 ∷ 0x06 ∷ 0x03 ∷ 0xfa ∷ 0x3f ∷ [])
unfolding assembled read tokens_of
loop = refl

one_operand : assembled 0 (codes "mov r5") ≡ Err (Fault 1 1)
unfolding assembled read tokens_of
one_operand = refl

increment_of_pc : assembled 0 (codes "mov @pc+, r5") ≡ Err (Fault 2 1)
unfolding assembled read tokens_of
increment_of_pc = refl

no_label : assembled 0 (codes "jmp x") ≡ Err (Fault 3 1)
unfolding assembled read tokens_of
no_label = refl

odd_target : assembled 0 (codes "jmp 1") ≡ Err (Fault 4 1)
unfolding assembled read tokens_of
odd_target = refl

odd_address : assembled 1 [] ≡ Err (Fault 5 1)
unfolding assembled read tokens_of
odd_address = refl

indirect : listed 0x4000 (0x26 ∷ 0x45 ∷ 0x30 ∷ 0x40 ∷ 0x00 ∷ 0x00 ∷ []) ≡ (codes "mov @r5, r6", 2)
unfolding listed instruction_at two_at
indirect = refl

immediate : listed 0x4002 (0x30 ∷ 0x40 ∷ 0x00 ∷ 0x00 ∷ 0x00 ∷ 0xa0 ∷ []) ≡ (codes "mov ##0x0, pc", 4)
unfolding listed instruction_at two_at
immediate = refl

no_instruction : listed 0x4006 (0x00 ∷ 0xa0 ∷ []) ≡ (codes ".word 0xa000", 2)
unfolding listed instruction_at two_at
no_instruction = refl

constant : listed 0x4006 (0xd2 ∷ 0xe3 ∷ 0x06 ∷ 0x03 ∷ []) ≡ (codes "xor.b #0x1, &0x306", 4)
unfolding listed instruction_at two_at
constant = refl

backwards : listed 0x400a (0xfa ∷ 0x3f ∷ []) ≡ (codes "jmp 0x4000", 2)
unfolding listed instruction_at two_at
backwards = refl

-- an instruction that the bytes don't hold whole
cut : listed 0x4000 (0xb2 ∷ 0x40 ∷ 0x09 ∷ 0x00 ∷ 0x00 ∷ []) ≡ (codes ".word 0x40b2", 2)
unfolding listed instruction_at two_at
cut = refl
