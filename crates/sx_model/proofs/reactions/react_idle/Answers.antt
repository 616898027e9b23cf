use Rattle.std.proofs.Common.{◌≡◌, true, ap, sym, subst, ◌∙◌, is_some}
use Rattle.std.specs.Prelude.{is_none}
use Rattle.sx_check.specs.Source.{source_tree}
use Rattle.sx_model.specs.State.{Present}
use Rattle.sx_model.specs.Changes.{taken_views}
use Rattle.sx_model.proofs.Reacting.{owes_nothing, present_reacted, present_sent}
use Rattle.sx_model.proofs.reactions.react_idle.Goals as goal

pub returns-clause-sent : goal.returns-clause-sent
returns-clause-sent c =
    let idle = subst (λ (p : Present). is_none p.pending ≡ true) c.present.view_is (owes_nothing c.present.inside.pending c.is_some.result c.is_some.ensures c.if-is_some.false) in
    let taken = sym c.may_take_word.ensures ∙ c.if-not-may_take_word.false in
    let may = subst (λ (p : Present). is_some (taken_views c.args.taking c.args.ends.now p.ends) ≡ true) c.present.view_is
    (ap (λ views. is_some (taken_views c.args.taking c.args.ends.now views)) (sym c.deref.ensures.value) ∙ taken) in
    present_sent (source_tree c.args.code.now) c.args.ends.now c.args.event c.args.taking c.args.sent.now.items c.args.present.now idle c.react_present.new.sent.items may
    c.in_ok-react_present.ensures.sent

pub returns-clause-present : goal.returns-clause-present
returns-clause-present c =
    let idle = subst (λ (p : Present). is_none p.pending ≡ true) c.present.view_is (owes_nothing c.present.inside.pending c.is_some.result c.is_some.ensures c.if-is_some.false) in
    let taken = sym c.may_take_word.ensures ∙ c.if-not-may_take_word.false in
    let may = subst (λ (p : Present). is_some (taken_views c.args.taking c.args.ends.now p.ends) ≡ true) c.present.view_is
    (ap (λ views. is_some (taken_views c.args.taking c.args.ends.now views)) (sym c.deref.ensures.value) ∙ taken) in
    let new : Present = record { cells = c.present-2.inside.store.cells.items; ends = c.present-2.inside.ends.items; pending = c.present-2.inside.pending } in
    present_reacted (source_tree c.args.code.now) c.args.ends.now c.args.event c.args.taking c.args.sent.now.items c.args.present.now idle new c.take_word.new.views.items may
    (c.present-2.view_is ∙ c.in_ok-react_present.ensures.present) c.take_word.ensures
