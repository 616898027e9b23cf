-- The set-up's lines, as a function of the application.
use Rattle.std.specs.Prelude.{ℕ, zero, suc, ◌+◌, List, [], ◌∷◌, ◌++◌, length}
use Rattle.sx_mean.specs.Application.{AppTree, PartTree}
use Rattle.sx_mean.specs.declared.events.End.{End}
use Rattle.sx_mean.specs.Ends.{ends_of}
use Rattle.sx_sched.specs.Lines.{Line, Load, Ask, Give, Call, Take, Answer}
use Rattle.law_invocation.specs.Gives.{low_input, low_output}

-- this many set-key packets, from a number on, are given to a module at its node, and it takes
-- them one by one
abbrev pub key_lines : ℕ → ℕ → ℕ → ℕ → List Line
key_lines m n number zero = []
key_lines m n number (suc k) =
    Give number n low_input ∷ Call m 0 low_input low_output ∷ key_lines m n (number + 1) k

-- a module is loaded and asked, its answer of 16 bytes is taken, and the deployer attests it
abbrev pub attest_lines : ℕ → ℕ → ℕ → List Line
attest_lines m n number =
    Load m ∷ Ask m ∷ Give number n low_input ∷ Call m 1 low_input low_output
    ∷ Take n low_output 16 ∷ Answer m 0 (number + 1) ∷ []

-- the set-up of a module, whose first packet is of this number
abbrev pub part_lines : ℕ → ℕ → PartTree → List End → List Line
part_lines m number q es =
    attest_lines m q.node number ++ key_lines m q.node (number + 2) (length es)

-- of the modules from the m-th on
abbrev pub parts_schedule : AppTree → ℕ → ℕ → List PartTree → List Line
parts_schedule app m number [] = []
parts_schedule app m number (q ∷ qs) = part_lines m number q (ends_of app m)
    ++ parts_schedule app (m + 1) (number + 2 + length (ends_of app m)) qs

-- the lines of the set-up
abbrev pub setup_schedule : AppTree → List Line
setup_schedule app = parts_schedule app 0 0 app.parts
