use Rattle.std.proofs.Common.{◌∙◌, ◌&&◌, [], ap, sym}
use Rattle.sx_isa.specs.declared.instruction.Operand.{Operand}
use Rattle.sx_asm.specs.Assembled.{has_form, is_destination, is_source}
use Rattle.sx_asm.specs.Meaning.{operand_at}
use Rattle.sx_asm.proofs.Forms.{two_tested}
use Rattle.sx_asm.proofs.meaning.has_form.Goals as goal

pub returns-in-Two : goal.returns-in-Two
returns-in-Two c =
    let src = c.operand_form-src in
    let dst = c.operand_form-dst in
    two_tested c.in-Two.op c.in-Two.byte src.result dst.result c.valid.result src.ensures.word dst.ensures.word c.valid.ensures
    ∙ ap (λ (o : Operand). is_source o && is_destination dst.result) src.ensures.operand
    ∙ ap (λ (o : Operand). is_source (operand_at [] 0 c.in-Two.src) && is_destination o) dst.ensures.operand
    ∙ sym (ap has_form c.in-Two.is)
