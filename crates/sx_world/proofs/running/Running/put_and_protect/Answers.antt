use Rattle.std.proofs.Common.{◌≡◌, ◌+◌, ◌/◌, length, Some, sym, subst, ap, ◌∙◌}
use Rattle.std.specs.Prelude.{slice_get}
use Rattle.spec_run.specs.Setting.{Site}
use Rattle.sx_world.specs.Held.{Did, DoesAct, Wanted}
use Rattle.sx_observe.specs.InMemory.{setting_in}
use Rattle.sx_world.specs.Loading.{after_loading}
use Rattle.spec_run.specs.Run.{protect_registers}
use Rattle.spec_run.specs.Run.{put_pieces, set_all}
use Rattle.sx_world.proofs.granting.Given.{does_err}
use Rattle.sx_world.proofs.doing.Loaded.{still_few, image_wanted, code_wanted, given_wanted, loaded_does}
use Rattle.sx_world.proofs.running.Running.put_and_protect.Goals as goal

pub returns-in_err-put_pieces : goal.returns-in_err-put_pieces
returns-in_err-put_pieces g c =
    let set = setting_in g.T.Tag.mac c.args.setting.now in
    let site : Site = record { node = c.site.inside.node; layout = c.site.inside.layout; provider = c.site.inside.provider; text = c.site.inside.text.items } in
    subst (λ (s : Site). DoesAct set c.from_residual.result c.args.self.now c.put_pieces.new.self c.args.items.now.items c.put_pieces.new.items.items (after_loading set s)) c.site.view_is
    (does_err set c.from_residual.result c.args.self.now c.put_pieces.new.self c.args.items.now.items c.put_pieces.new.items.items (after_loading set site) c.from_residual.ensures.0
    (image_wanted set site c.args.self.now c.args.items.now.items c.put_pieces.new.items.items
    (subst (λ xs. Wanted set c.args.self.now c.args.items.now.items c.put_pieces.new.items.items (put_pieces site.node ((length xs + 1023) / 1024) site.layout.pub_from xs))
    c.deref.ensures.value (c.in_err-put_pieces.ensures.does set))))

pub returns-in_err-put_on : goal.returns-in_err-put_on
returns-in_err-put_on g c =
    let set = setting_in g.T.Tag.mac c.args.setting.now in
    let site : Site = record { node = c.site.inside.node; layout = c.site.inside.layout; provider = c.site.inside.provider; text = c.site.inside.text.items } in
    subst (λ (s : Site). DoesAct set c.from_residual-in_err-put_on.result c.args.self.now c.put_on.new.self c.args.items.now.items c.put_on.new.items.items (after_loading set s)) c.site.view_is
    (does_err set c.from_residual-in_err-put_on.result c.args.self.now c.put_on.new.self c.args.items.now.items c.put_on.new.items.items
    (after_loading set site) c.from_residual-in_err-put_on.ensures.0
    (code_wanted set site c.args.self.now c.put_pieces.new.self c.args.items.now.items c.put_pieces.new.items.items c.put_on.new.items.items
    (subst (λ xs. Did set c.args.self.now c.put_pieces.new.self c.args.items.now.items c.put_pieces.new.items.items (put_pieces site.node ((length xs + 1023) / 1024) site.layout.pub_from xs))
    c.deref.ensures.value (c.in_ok-put_pieces.ensures.does set))
    (c.in_err-put_on.ensures.does set)))

pub returns-in_err-set_all : goal.returns-in_err-set_all
returns-in_err-set_all g c =
    let set = setting_in g.T.Tag.mac c.args.setting.now in
    let site : Site = record { node = c.site.inside.node; layout = c.site.inside.layout; provider = c.site.inside.provider; text = c.site.inside.text.items } in
    subst (λ (s : Site). DoesAct set c.from_residual-in_err-set_all.result c.args.self.now c.set_all.new.self c.args.items.now.items c.set_all.new.items.items (after_loading set s)) c.site.view_is
    (does_err set c.from_residual-in_err-set_all.result c.args.self.now c.set_all.new.self c.args.items.now.items c.set_all.new.items.items
    (after_loading set site) c.from_residual-in_err-set_all.ensures.0
    (given_wanted set site c.args.self.now c.put_pieces.new.self c.put_on.new.self c.args.items.now.items c.put_pieces.new.items.items c.put_on.new.items.items c.set_all.new.items.items
    (subst (λ xs. Did set c.args.self.now c.put_pieces.new.self c.args.items.now.items c.put_pieces.new.items.items (put_pieces site.node ((length xs + 1023) / 1024) site.layout.pub_from xs))
    c.deref.ensures.value (c.in_ok-put_pieces.ensures.does set))
    (c.in_ok-put_on.ensures.does set)
    (subst (λ rs. Wanted set c.put_on.new.self c.put_on.new.items.items c.set_all.new.items.items (set_all site.node rs))
    (c.protect_registers.ensures ∙ ap protect_registers (sym c.site.view_is)) (c.in_err-set_all.ensures.does set))))

pub steps_of-requires-clause-boot : goal.steps_of-requires-clause-boot
steps_of-requires-clause-boot g c =
    still_few c.args.self.now.nodes c.set_all.new.self.nodes c.site.inside.node
    (c.in_ok-set_all.ensures.boots ∙ c.in_ok-put_on.ensures.boots ∙ c.in_ok-put_pieces.ensures.boots)
    (λ s here. c.requires.boot s (subst (λ (x : Site). slice_get c.args.self.now.nodes x.node ≡ Some s) c.site.view_is here))

pub returns : goal.returns
returns g c =
    let set = setting_in g.T.Tag.mac c.args.setting.now in
    let site : Site = record { node = c.site.inside.node; layout = c.site.inside.layout; provider = c.site.inside.provider; text = c.site.inside.text.items } in
    subst (λ (s : Site). DoesAct set c.steps_of.result c.args.self.now c.steps_of.new.self c.args.items.now.items c.steps_of.new.items.items (after_loading set s)) c.site.view_is
    (loaded_does set site c.steps_of.result c.args.self.now c.put_pieces.new.self c.put_on.new.self c.set_all.new.self c.steps_of.new.self
    c.args.items.now.items c.put_pieces.new.items.items c.put_on.new.items.items c.set_all.new.items.items c.steps_of.new.items.items
    (subst (λ xs. Did set c.args.self.now c.put_pieces.new.self c.args.items.now.items c.put_pieces.new.items.items (put_pieces site.node ((length xs + 1023) / 1024) site.layout.pub_from xs))
    c.deref.ensures.value (c.in_ok-put_pieces.ensures.does set))
    (c.in_ok-put_on.ensures.does set)
    (subst (λ rs. Did set c.put_on.new.self c.set_all.new.self c.put_on.new.items.items c.set_all.new.items.items (set_all site.node rs))
    (c.protect_registers.ensures ∙ ap protect_registers (sym c.site.view_is)) (c.in_ok-set_all.ensures.does set))
    c.steps_of.ensures)
