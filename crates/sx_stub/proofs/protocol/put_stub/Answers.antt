use Rattle.std.proofs.Common.{◌≡◌, ◌++◌, ap, ◌∙◌}
use Rattle.std.proofs.lemmas.Result.{on_ok_weaker}
use Rattle.sx_lang.specs.View.{module_of}
use Rattle.sx_stub.specs.Stub as stub
use Rattle.sx_stub.specs.Stub.{entries, stub_code}
use Rattle.sx_stub.proofs.protocol.put_stub.Goals as goal

pub returns : goal.returns
unfolding stub_code
returns c =
    let tree = module_of c.args.tree.now in
    let ends = c.args.ends.now in
    let y = c.put_tests.new.code.items in
    let w = c.put_entries.new.code.items in
    let z = c.put_returns.new.code.items in
    let whole : w ≡ stub_code tree ends = c.in_ok-put_entries.ensures ∙ ap (λ code. code ++ entries tree ends) c.in_ok-put_tests.ensures in
    on_ok_weaker c.put_returns.result (λ (h : z ≡ w ++ stub.returns 5). h ∙ ap (λ code. code ++ stub.returns 5) whole) c.put_returns.ensures
