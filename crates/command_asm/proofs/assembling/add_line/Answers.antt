use Rattle.std.proofs.Common.{◌∙◌, ◌++◌, ◌∷◌, [], ap, List, ℕ}
use Rattle.std.specs.Prelude.{string_bytes}
use Rattle.command_asm.proofs.Gathering.{none_bad, good_line, bad_line}
use Rattle.command_asm.proofs.assembling.add_line.Goals as goal

pub returns-in_ok-push_str-in-Ok-2 : goal.returns-in_ok-push_str-in-Ok-2
returns-in_ok-push_str-in-Ok-2 c =
    let bad = c.args.gathered.now.bad in
    let text : List ℕ = string_bytes c.args.gathered.now.text in
    let more = c.in_ok-push_str-in-Ok-2.ensures.bytes
    ∙ ap (λ (t : List ℕ). t ++ 10 ∷ []) (c.in_ok-push_str-in-Ok.ensures.bytes ∙ ap (λ (t : List ℕ). text ++ t) c.in-Ok.ensures.cases.0) in
    good_line c.args.number text c.args.line.now _ bad (none_bad bad c.is_some.result c.is_some.ensures c.if-is_some.false) c.in-Ok.ensures.cases.1 more

pub returns-in-Err : goal.returns-in-Err
returns-in-Err c =
    let bad = c.args.gathered.now.bad in
    bad_line c.args.number _ c.args.line.now bad (none_bad bad c.is_some.result c.is_some.ensures c.if-is_some.false) c.in-Err.ensures.cases.0
