use Rattle.std.proofs.Common.{◌∙◌, Bool, subst}
use Rattle.hex.specs.Hex.{decode_of}
use Rattle.command_asm.specs.Disassembling.{decoded}
use Rattle.command_asm.proofs.Coming.{IsDecoded, decoded_none, decoded_some, line_decoded, line_too_many}
use Rattle.command_asm.proofs.disassembling.take_line.Goals as goal

pub returns-then-number-gt-MOST_LINES-clause-bad :
    goal.returns-then-number-gt-MOST_LINES-clause-bad
returns-then-number-gt-MOST_LINES-clause-bad c = λ bad.
    line_too_many c.args.number c.args.text.now c.if-number-gt-MOST_LINES.true

pub returns-then-not-decode-clause-bad : goal.returns-then-not-decode-clause-bad
returns-then-not-decode-clause-bad c = λ bad.
    let text = c.args.text.now in
    let P : Bool → Type 0 = λ is. IsDecoded (decoded (decode_of text)) is c.decode.new.into in
    line_decoded c.args.number text c.if-number-gt-MOST_LINES.false
    ∙ decoded_none (decoded (decode_of text)) c.decode.new.into
    (subst P c.if-not-decode.true c.decode.ensures)

pub returns-clause-taken : goal.returns-clause-taken
returns-clause-taken c = λ good.
    let text = c.args.text.now in
    let bytes = c.decode.new.into in
    let P : Bool → Type 0 = λ is. IsDecoded (decoded (decode_of text)) is bytes in (
      bytes,
      line_decoded c.args.number text c.if-number-gt-MOST_LINES.false
          ∙ decoded_some (decoded (decode_of text)) bytes
          (subst P c.if-not-decode.false c.decode.ensures),
      c.push.ensures,
    )
