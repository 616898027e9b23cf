use Rattle.std.proofs.Common.{◌∙◌, ap}
use Rattle.sx_index.proofs.Placed.{some_of}
use Rattle.sx_index.specs.Index.{IsNameIndex}
use Rattle.sx_asm.specs.Meaning.{address_of}
use Rattle.sx_asm.proofs.Labelled.{names}
use Rattle.sx_asm.proofs.labels.Labels.address_of.Goals as goal

pub indexed_address-requires : goal.indexed_address-requires
indexed_address-requires c =
    let ls = c.self.inside.list.now in some_of (λ index. IsNameIndex index (names ls)) c.self.inside.index c.in-Some.index c.in-Some.is c.self.invariant

pub returns-in-Some : goal.returns-in-Some
returns-in-Some c = c.indexed_address.ensures ∙ ap (λ ls. address_of ls c.args.name.now) c.self.view_is
