use Rattle.std.proofs.Common.{◌<◌, length, rules, sym, subst, ◌∙◌}
use Rattle.std.specs.Prelude.{slice_set}
use Rattle.std.proofs.lemmas.Option.{slice_get-get_or}
use Rattle.sx_observe.specs.Recognized.{AreRecognized}
use Rattle.sx_observe.proofs.Recognizing.{recognized_answers, found_recognized}
use Rattle.sx_observe.proofs.recognized.recognize.Goals as goal

pub returns-then-last-id-clause-found : goal.returns-then-last-id-clause-found
returns-then-last-id-clause-found g c = λ nodes here all.
    let within : c.place_of-place.result < length c.args.those.now = search rules in
    c.if_live.ensures
    ∙ recognized_answers c.args.sites.now nodes c.args.those.now c.args.n c.args.id c.place_of-place.result c.args.node.now _
    (slice_get-get_or c.args.those.now c.place_of-place.result _ within) here
    c.if-last-n.true (c.if-last-boot.true ∙ c.boot.ensures) c.if-last-id.true all

pub returns-clause-kept : goal.returns-clause-kept
returns-clause-kept g c = λ nodes here placed all.
    subst (λ b. AreRecognized c.args.sites.now nodes (slice_set c.args.those.now c.place_of-place.result (record { node = c.args.n; boot = b; id = c.args.id; part = c.in_ok-part.part })))
    (sym c.boot-2.ensures)
    (found_recognized c.args.sites.now nodes c.args.those.now c.args.n c.args.id c.in_ok-part.part c.place_of-place.result c.args.node.now c.module_of.result here placed
    c.module_of.ensures c.in_ok-part.was all)
