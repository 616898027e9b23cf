use Rattle.std.proofs.Common.{◌≡◌, ◌∙◌, ap}
use Rattle.sx_asm.specs.Meaning.{further, size}
use Rattle.sx_asm.proofs.Standing.{next_item, form_at, reach_at}
use Rattle.sx_asm.proofs.assembling.code_of.Goals as goal

pub push_item-requires-clause-form : goal.push_item-requires-clause-form
push_item-requires-clause-form c =
    (form_at c.args.entries.now c.loop-entry.entry-index c.entry-item.result c.loop-entry-test.true c.entry-item.is c.loop-entry.invariant.formed_left).0

pub loop-entry-preserved : goal.loop-entry-preserved
loop-entry-preserved c =
    let e = c.entry-item.result in
    let to : c.further-address.result ≡ further c.loop-entry.address (size e.item) = c.further-address.ensures ∙ ap (further c.loop-entry.address) c.size.ensures.bytes in
    record {
      code =
          next_item c.args.labels.now c.loop-entry.address c.further-address.result c.args.entries.now c.loop-entry.entry-index e
          c.loop-entry.code.items c.push_item.new.code.items _ c.loop-entry-test.true c.entry-item.is c.loop-entry.invariant.code c.in_ok-push_item.ensures.added to;
      formed_left =
          (form_at c.args.entries.now c.loop-entry.entry-index e c.loop-entry-test.true c.entry-item.is c.loop-entry.invariant.formed_left).1;
      reached_left =
          reach_at c.args.labels.now c.loop-entry.address c.further-address.result c.args.entries.now c.loop-entry.entry-index e
          c.loop-entry-test.true c.entry-item.is to c.loop-entry.invariant.reached_left;
    }
