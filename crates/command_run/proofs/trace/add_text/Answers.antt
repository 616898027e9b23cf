use Rattle.command_text.proofs.Batches.{writes_all, writes_put}
use Rattle.std.proofs.Common.{◌≡◌, ◌∙◌, ◌++◌, [], List, ℕ, ap, refl}
use Rattle.command_run.proofs.Fronted.{text_alone}
use Rattle.command_run.proofs.trace.add_text.Goals as goal

pub returns-in_ok-put_all-in-Err : goal.returns-in_ok-put_all-in-Err
returns-in_ok-put_all-in-Err g c =
    let k0 = g.K.Sink.at c.args.output.now in
    let first = c.in_ok-put_all-in-Err.ensures in
    let e = c.put_all-in-Err.ensures in
    let kept : c.as_slice.result.now ≡ c.args.batch.now.items = cc (c.as_slice.ensures.value, c.in-Err.ensures.err) in
    text_alone (g.K.Sink.at c.put_all-in-Err.new.sink) c.args.batch.now.items c.args.text.now c.clear.new.self.items c.put_all-in-Err.result
    (writes_all c.args.batch.now.items [] (λ t. first.ok t ∙ ap (λ (text : List ℕ). k0.written ++ text) kept) first.faultless refl) c.clear.ensures
    (writes_put g.K.Sink.tells (g.K.Sink.at c.put_all.new.sink) (g.K.Sink.at c.put_all-in-Err.new.sink) c.args.text.now c.put_all-in-Err.result e.ok e.failed e.faultless e.fault)
