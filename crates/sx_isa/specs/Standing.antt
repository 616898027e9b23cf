-- Instructions that are in memory, a list of 65,536 bytes. Addresses are modulo 65,536.
use Rattle.std.specs.Prelude.{◌≡◌, ℕ, ◌+◌, ◌*◌, ◌%◌, List, [], ◌∷◌, ◌++◌, length}
use Rattle.sx_isa.specs.declared.instruction.Instr.{Instr}
use Rattle.sx_isa.specs.Instructions.{IsInstruction}
use Rattle.sx_isa.specs.Spelling.{spelling}
use Rattle.sx_isa.specs.Memory.{word}

-- the word at an address modulo 65,536
abbrev pub word_at : List ℕ → ℕ → ℕ
word_at bytes a = word bytes (a % 65536)

-- words are one after the other from an address on
abbrev pub WordsStand : List ℕ → ℕ → List ℕ → Type 0
WordsStand bytes a [] = Unit {0}
WordsStand bytes a (w ∷ ws) = (word_at bytes a ≡ w) × WordsStand bytes (a + 2) ws

-- an instruction is at an address
abbrev pub InstructionStands : List ℕ → ℕ → Instr → Type 0
InstructionStands bytes a i = IsInstruction i × WordsStand bytes a (spelling i)

-- instructions are one after the other
abbrev pub AllStand : List ℕ → ℕ → List Instr → Type 0
AllStand bytes a [] = Unit {0}
AllStand bytes a (i ∷ is) =
    InstructionStands bytes a i × AllStand bytes (a + 2 * length (spelling i)) is

-- each can be written in words
abbrev pub AreInstructions : List Instr → Type 0
AreInstructions [] = Unit {0}
AreInstructions (i ∷ is) = IsInstruction i × AreInstructions is

-- the words of instructions one after the other
abbrev pub words_of : List Instr → List ℕ
words_of [] = []
words_of (i ∷ is) = spelling i ++ words_of is
