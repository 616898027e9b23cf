-- What the grammar's machine wants where a part of a text begins, in front of any symbols.
use Rattle.std.specs.Prelude.{ℕ, List, ◌∷◌, Option}
use Rattle.sx_lang.specs.declared.tree.Decl.{Decl}
use Rattle.spec_grammar.specs.Machine.{Symbol, Want, Say, Operand, Factors, Addends, An_expression}
use Rattle.spec_grammar.specs.Machine.{A_block, Otherwise, A_name, After_open, A_number, For_length}
use Rattle.spec_grammar.specs.Machine.{Declarations, Handlers, A_semicolon, An_open, An_open_square}
use Rattle.spec_grammar.specs.Machine.{A_close_square, An_equals, Do_store, Do_choose, Do_declare}

-- a sum, from its first operand on
abbrev pub sum_wanted : List Symbol → List Symbol
sum_wanted st = Operand ∷ Factors 0 ∷ Addends 0 ∷ st

-- an expression and the `;` after it
abbrev pub value_wanted : List Symbol → List Symbol
value_wanted st = An_expression ∷ Want A_semicolon ∷ st

-- what follows the name of an array and the `[` after it
abbrev pub element_wanted : List ℕ → List Symbol → List Symbol
element_wanted x st = An_expression ∷ Want A_close_square ∷ Want An_equals ∷ An_expression
    ∷ Want A_semicolon ∷ Say (Do_store x) ∷ st

-- what follows `if`
abbrev pub choice_wanted : List Symbol → List Symbol
choice_wanted st = An_expression ∷ A_block ∷ Otherwise ∷ Say Do_choose ∷ st

-- the `;` after a declaration
abbrev pub end_wanted : Decl → List Symbol → List Symbol
end_wanted d st = Want A_semicolon ∷ Say (Do_declare d) ∷ st

-- the length in a declaration of an array of this name
abbrev pub length_wanted : List ℕ → List Symbol → List Symbol
length_wanted x st = Want An_open_square ∷ A_number (For_length x) ∷ st

-- declarations, if any are left
abbrev pub declarations_wanted : List Symbol → List Symbol
declarations_wanted st = Declarations ∷ st

-- the parameter of a handler of this input, or of samples
abbrev pub parameter_wanted : Option (List ℕ) → List Symbol → List Symbol
parameter_wanted input st = Want An_open ∷ A_name (After_open input) ∷ st

-- handlers, if any are left
abbrev pub handlers_wanted : List Symbol → List Symbol
handlers_wanted st = Handlers ∷ st
