use Rattle.std.proofs.Common.{[], ◌∷◌}
use Rattle.std.specs.Prelude.{codes}
use Rattle.command_describe.specs.Output.{connection_line}
use Rattle.command_describe.proofs.Pieces.{first_word, line_end, next_word}
use Rattle.command_describe.proofs.connections.push_words.Goals as goal

pub returns : goal.returns
unfolding connection_line
returns c =
    let t0 = c.args.text.now.items in
    let name = first_word t0 c.put.new.text.items (codes "connection ") c.args.name.now c.in_ok-put.ensures in
    let sender = next_word t0 c.put.new.text.items c.put-2.new.text.items _ (codes " from ") c.args.sender.now name c.in_ok-put-2.ensures in
    let output = next_word t0 c.put-2.new.text.items c.put-3.new.text.items _ (codes ".") c.args.output.now sender c.in_ok-put-3.ensures in
    let receiver = next_word t0 c.put-3.new.text.items c.put-4.new.text.items _ (codes " to ") c.args.receiver.now output c.in_ok-put-4.ensures in
    let input = next_word t0 c.put-4.new.text.items c.put-5.new.text.items _ (codes ".") c.args.input.now receiver c.in_ok-put-5.ensures in
    line_end c.extend_from_slice.result t0 c.put-5.new.text.items c.extend_from_slice.new.self.items _ (10 ∷ []) _ input c.extend_from_slice.ensures.items
