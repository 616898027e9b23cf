-- Where the names of a module lie: its cells and outputs, in order of declaration.
use Rattle.std.specs.Prelude.{ℕ, ◌+◌, List, [], ◌∷◌, ◌++◌, if◌then◌else◌, replicate}
use Rattle.sx_lang.specs.declared.tree.Decl.{Decl}
use Rattle.sx_lang.specs.declared.tree.Decl.TheVariants.{Output, Var, Array}
use Rattle.sx_lang.specs.Sizes.{declaration_cells}
use Rattle.sx_check.specs.Names.{same, declares}

-- the cells before those of the name
abbrev pub place : List Decl → List ℕ → ℕ
place [] x = 0
place (d ∷ ds) x = if declares x d then 0 else declaration_cells d + place ds x

-- the length of an array of this name, else 0
abbrev pub own_length : List ℕ → Decl → ℕ
own_length x (Array y n) = if same x y then n else 0
own_length x _ = 0

-- the length of the array of this name, 0 where there is none
abbrev pub array_length : List Decl → List ℕ → ℕ
array_length [] x = 0
array_length (d ∷ ds) x = if declares x d then own_length x d else array_length ds x

-- 1 for an output, 0 for another declaration
abbrev pub outputs_in : Decl → ℕ
outputs_in (Output y) = 1
outputs_in _ = 0

-- the outputs before that of the name
abbrev pub output_number : List Decl → List ℕ → ℕ
output_number [] x = 0
output_number (d ∷ ds) x = if declares x d then 0 else outputs_in d + output_number ds x

-- a variable begins with its value, an array's elements with 0; other declarations have no cells
abbrev pub first_cells : Decl → List ℕ
first_cells (Var y n) = n ∷ []
first_cells (Array y n) = replicate n 0
first_cells _ = []

-- the first values of all cells
abbrev pub initial_cells : List Decl → List ℕ
initial_cells [] = []
initial_cells (d ∷ ds) = first_cells d ++ initial_cells ds
