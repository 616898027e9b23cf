use Rattle.std.proofs.Common.{◌++◌, sym, ◌∙◌}
use Rattle.sx_asm.specs.Words.{names_with_two, names_with_one, other_names}
use Rattle.sx_asm.proofs.Tables.{found_first, found_later}
use Rattle.sx_asm.proofs.lexing.instruction.Goals as goal

pub returns-in-Some : goal.returns-in-Some
returns-in-Some c =
    sym (found_first names_with_two (names_with_one ++ other_names) c.args.word.now c.in-Some.token (sym c.with_two_operands.ensures ∙ c.in-Some.is))

pub returns-in-Some-with_one_operand : goal.returns-in-Some-with_one_operand
returns-in-Some-with_one_operand c =
    sym
    (found_later names_with_two (names_with_one ++ other_names) c.args.word.now (sym c.with_two_operands.ensures ∙ c.in_default.is)
    ∙ found_first names_with_one other_names c.args.word.now c.in-Some-with_one_operand.token (sym c.with_one_operand.ensures ∙ c.in-Some-with_one_operand.is))

pub returns : goal.returns
returns c =
    c.other_instruction.ensures
    ∙ sym
    (found_later names_with_two (names_with_one ++ other_names) c.args.word.now (sym c.with_two_operands.ensures ∙ c.in_default.is)
    ∙ found_later names_with_one other_names c.args.word.now (sym c.with_one_operand.ensures ∙ c.in_default-with_one_operand.is))
