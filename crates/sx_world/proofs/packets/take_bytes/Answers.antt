use Rattle.std.proofs.Common.{◌≡◌, length, Ok, sym, ap, ◌∙◌}
use Rattle.std.proofs.lemmas.List.{with_items_is}
use Rattle.spec_machine.specs.State.{State}
use Rattle.spec_machine.specs.Acts.{take}
use Rattle.sx_world.proofs.doing.KeptPackets.{node_at}
use Rattle.sx_world.proofs.packets.take_bytes.Goals as goal

pub returns-in-Ok-clause-bytes : goal.returns-in-Ok-clause-bytes
returns-in-Ok-clause-bytes g c = λ s e.
    let node = node_at c.args.nodes.now c.args.n c.from-2.result s c.index-nodes-from.result e c.from-2.ensures c.index-nodes-from.is in
    let count : length c.deref_mut.result.now ≡ c.args.len = c.deref_mut.ensures.len ∙ c.in_ok-resize.ensures.len ∙ c.from.ensures in
    ap (λ k. (take s c.args.at k).shown) (sym count) ∙ ap (λ (x : State). (take x c.args.at (length c.deref_mut.result.now)).shown) (sym node)
    ∙ c.in-Ok.ensures.taken ∙ ap (λ bytes. Ok bytes) (sym (with_items_is c.resize.new.self c.take.new.into (c.take.auto.into ∙ c.deref_mut.ensures.len)))

pub returns-in-Ok-clause-long : goal.returns-in-Ok-clause-long
returns-in-Ok-clause-long g c =
    let count : length c.deref_mut.result.now ≡ c.args.len = c.deref_mut.ensures.len ∙ c.in_ok-resize.ensures.len ∙ c.from.ensures in
    ap (λ bytes. length bytes) (with_items_is c.resize.new.self c.take.new.into (c.take.auto.into ∙ c.deref_mut.ensures.len))
    ∙ c.take.auto.into ∙ count

pub returns-in-Err-clause-refused : goal.returns-in-Err-clause-refused
returns-in-Err-clause-refused g c = λ s e.
    let node = node_at c.args.nodes.now c.args.n c.from-2.result s c.index-nodes-from.result e c.from-2.ensures c.index-nodes-from.is in
    let count : length c.deref_mut.result.now ≡ c.args.len = c.deref_mut.ensures.len ∙ c.in_ok-resize.ensures.len ∙ c.from.ensures in
    ap (λ k. (take s c.args.at k).shown) (sym count) ∙ ap (λ (x : State). (take x c.args.at (length c.deref_mut.result.now)).shown) (sym node)
    ∙ c.in-Err.ensures.refused.0
