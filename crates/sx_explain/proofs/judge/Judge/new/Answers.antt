use Rattle.std.proofs.Common.{◌∙◌, replicate, None, [], sym, ap, refl}
use Rattle.std.proofs.lemmas.List.{length-map}
use Rattle.sx_mean.specs.View.{app_as, part_as}
use Rattle.sx_explain.proofs.Following.{begins}
use Rattle.sx_explain.proofs.judge.Judge.new.Goals as goal

pub returns : goal.returns
returns c =
    begins (app_as c.args.app.now) _ c.in_ok-model.ensures.state c.in_ok-model.ensures.taken
    (c.in_ok-senses.ensures ∙ ap (λ n. replicate n None) (c.len.ensures ∙ c.args.app.now.devices.ok.0))
    (c.in_ok-events.ensures ∙ ap (λ n. replicate n None) (c.len-2.ensures ∙ c.args.app.now.parts.ok.0 ∙ sym (length-map c.args.app.now.parts.items part_as)))
    (c.in_ok-causes.ensures ∙ ap (λ n. replicate n []) c.fields.ensures) refl refl
