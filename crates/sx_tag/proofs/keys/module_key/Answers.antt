use Rattle.std.proofs.Common.{ℕ, List, [], ◌∙◌, ap}
use Rattle.sx_tag.specs.Keys.{section_key, module_key}
use Rattle.sx_tag.proofs.keys.module_key.Goals as goal

pub returns : goal.returns
unfolding module_key
returns g c =
    c.finish_answer.ensures _ _ (c.feed_answer.ensures _ [] c.begin_module_key-run.ensures)
    ∙ ap (λ (base : List ℕ). section_key g.T.Tag.mac base c.args.provider c.args.identity.now) c.boot_key-base.ensures
