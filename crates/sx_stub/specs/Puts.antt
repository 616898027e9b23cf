-- What is appended to code.
use Rattle.std.specs.Prelude.{◌≡◌, ℕ, ◌+◌, List, [], ◌∷◌, ◌++◌, length}
use Rattle.sx_lang.specs.Tree.{ModuleTree}
use Rattle.sx_mean.specs.declared.events.End.{End}
use Rattle.spec_invocation.specs.Protocol.{entry_register}
use Rattle.sx_ir.specs.declared.ir.Ir.{Ir}
use Rattle.sx_ir.specs.declared.ir.Ir.TheVariants as ir
use Rattle.sx_stub.specs.Stub.{Cases, case_of, cases, index_at, refuse_if, refuse_unless}
use Rattle.sx_stub.specs.Stub.{take_receiving, wanted_at}

-- these operations
abbrev pub Puts : List Ir → List Ir → List Ir → Type 0
Puts ops old new = new ≡ old ++ ops

-- a piece, at the place where it begins
abbrev pub PutsAt : (ℕ → List Ir) → List Ir → List Ir → Type 0
PutsAt piece old new = Puts (piece (length old)) old new

-- a return with this status where the test leaves a word other than 0
abbrev pub RefusesWith : List Ir → ℕ → List Ir → List Ir → Type 0
RefusesWith test status = PutsAt (λ p. refuse_if p test status)

-- such a return where the test leaves 0
abbrev pub RefusesUnless : List Ir → ℕ → List Ir → List Ir → Type 0
RefusesUnless test status = PutsAt (λ p. refuse_unless p test status)

-- the case of the end at this index
abbrev pub PutsCase : Cases → ℕ → End → List Ir → List Ir → Type 0
PutsCase cs k e = PutsAt (λ p. case_of cs p k e)

-- the cases of all ends
abbrev pub PutsCases : Cases → List End → List Ir → List Ir → Type 0
PutsCases cs ends = PutsAt (λ p. cases cs p 0 ends)

-- a choice: the code goes on after it where the word at an offset is the number, and else at the
-- place
abbrev pub choice : ℕ → ℕ → ℕ → ℕ → List Ir
choice offset number otherwise place =
    ir.JumpEqual offset number (place + 2) ∷ ir.Jump otherwise ∷ []

-- what is searched for is kept
abbrev pub kept : List Ir
kept = ir.Store wanted_at ∷ []

-- it is kept, and searched for
abbrev pub searched : ℕ → List Ir
searched search = ir.Store wanted_at ∷ ir.Jump search ∷ []

-- where it is found is kept, and set-key goes on at the place
abbrev pub parted : ℕ → List Ir
parted key = ir.Store index_at ∷ ir.Saved entry_register ∷ ir.JumpZero key ∷ []

-- the place after the cases of the receiving ends
abbrev pub behind_cases : ModuleTree → List End → ℕ → ℕ
behind_cases tree ends place = place + length (cases (take_receiving tree) place 0 ends)
