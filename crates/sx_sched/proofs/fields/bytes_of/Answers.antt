use Rattle.std.proofs.Common.{◌≡◌, true, false}
use Rattle.sx_sched.specs.HexText.{is_hex_text}
use Rattle.sx_sched.proofs.Answered.{says_none, says_some, says_these}
use Rattle.sx_sched.proofs.fields.bytes_of.Goals as goal

pub returns-then-not-are_bytes : goal.returns-then-not-are_bytes
returns-then-not-are_bytes c =
    let test = c.if-not-are_bytes.true in
    let e = c.are_bytes.ensures in
    let no : is_hex_text c.args.most c.args.word.now ≡ false = cc in
    says_none c.args.most c.args.word.now no

pub returns-in-Err-OutOfMemory : goal.returns-in-Err-OutOfMemory
returns-in-Err-OutOfMemory c =
    let test = c.if-not-are_bytes.false in
    let e = c.are_bytes.ensures in
    let yes : is_hex_text c.args.most c.args.word.now ≡ true = cc in
    says_some c.args.most c.args.word.now yes

pub returns : goal.returns
returns c =
    let test = c.if-not-are_bytes.false in
    let e = c.are_bytes.ensures in
    let yes : is_hex_text c.args.most c.args.word.now ≡ true = cc in
    says_these c.args.most c.args.word.now c.in-Ok.bytes.items yes c.in-Ok.ensures.ok
