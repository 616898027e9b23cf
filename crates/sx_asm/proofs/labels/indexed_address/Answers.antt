use Rattle.std.proofs.Common.{◌≡◌, ◌∙◌, Some, length, refl, ap, sym}
use Rattle.std.specs.Prelude.{slice_get}
use Rattle.std.proofs.lemmas.Option.{slice_get_read}
use Rattle.sx_index.specs.Places.{place_of}
use Rattle.sx_asm.proofs.Labelled.{address_at, addressed_at, addressed_nowhere, names}
use Rattle.sx_asm.proofs.labels.indexed_address.Goals as goal

pub returns-in-Some-get : goal.returns-in-Some-get
returns-in-Some-get c =
    let ls = c.args.labels.now in
    let name = c.args.name.now in
    let placed : place_of (names ls) name ≡ Some c.in-Some.place = ap (place_of (names ls)) (sym c.bytes.ensures.bytes) ∙ sym (c.place_of.ensures (names ls) c.requires) ∙ c.in-Some.is in
    let label : slice_get ls c.in-Some.place ≡ Some c.in-Some-get.label.now =
    slice_get_read ls (length ls) c.in-Some.place c.in-Some-get.label.now refl c.in-Some-get.ensures.lookup.3.0 c.in-Some-get.ensures.lookup.1 in
    sym (ap address_at label) ∙ addressed_at ls name c.in-Some.place placed

pub returns-in-None : goal.returns-in-None
returns-in-None c =
    let ls = c.args.labels.now in
    addressed_nowhere ls c.args.name.now (ap (place_of (names ls)) (sym c.bytes.ensures.bytes) ∙ sym (c.place_of.ensures (names ls) c.requires) ∙ c.in-None.is)
