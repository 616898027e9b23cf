use Rattle.std.proofs.Common.{◌≡◌, ◌<◌, [], ◌∷◌, ◌++◌, length, Option, Some, OnOk, sym, subst}
use Rattle.std.specs.Prelude.{slice_get}
use Rattle.sx_trace.specs.declared.items.Item.TheVariants.{Busy}
use Rattle.spec_run.specs.Setting.{Site}
use Rattle.spec_run.specs.Acts.{then_}
use Rattle.sx_world.specs.Held.{DoesAct}
use Rattle.sx_observe.specs.InMemory.{setting_in}
use Rattle.spec_run.specs.Run.{call_registers}
use Rattle.spec_run.specs.Run.{call, finish, set_all, unless_busy}
use Rattle.sx_world.proofs.doing.Composed.{first_wanted, then_does}
use Rattle.sx_world.proofs.granting.Given.{does_err}
use Rattle.sx_world.proofs.doing.Loaded.{busy_does, called_does, element_at, long_by_boots, still_few}
use Rattle.sx_world.proofs.running.Running.call.Goals as goal

pub returns-then-not-is_idle : goal.returns-then-not-is_idle
returns-then-not-is_idle g c =
    let set = setting_in g.T.Tag.mac c.args.setting.now in
    let site = c.index-sites-from.result in
    let found = element_at c.args.setting.now.sites.now c.args.m c.from.result site c.requires.known c.from.ensures c.index-sites-from.is in
    subst (λ (o : Option Site). DoesAct set c.push_item.result c.args.self.now c.args.self.now c.args.items.now.items c.push_item.new.items.items
    (λ w. call set w c.args.entry c.args.input c.args.output o)) (sym found)
    (subst (λ (x : Site). OnOk c.push_item.result (c.push_item.new.items.items ≡ c.args.items.now.items ++ Busy x.node ∷ [])
    → DoesAct set c.push_item.result c.args.self.now c.args.self.now c.args.items.now.items c.push_item.new.items.items
    (λ w. unless_busy site.node w (λ w. then_ (set_all site.node (call_registers site c.args.entry c.args.input c.args.output) w)
    (finish set site.node))))
    (sym c.site.view_is)
    (λ ok. busy_does set c.push_item.result c.args.self.now c.args.items.now.items c.push_item.new.items.items site.node
    (λ w. then_ (set_all site.node (call_registers site c.args.entry c.args.input c.args.output) w) (finish set site.node)) c.is_idle.result
    (c.requires.node site found) (λ s here. c.is_idle.ensures s
    (subst (λ (x : Site). slice_get c.args.self.now.nodes x.node ≡ Some s) (sym c.site.view_is) here)) c.if-not-is_idle.true ok c.push_item.ensures.err)
    c.push_item.ensures.ok)

pub returns-in_err-set_all : goal.returns-in_err-set_all
returns-in_err-set_all g c =
    let set = setting_in g.T.Tag.mac c.args.setting.now in
    let n = c.site.inside.node in
    let given = c.call_registers-registers.result in
    let site = c.index-sites-from.result in
    let found = element_at c.args.setting.now.sites.now c.args.m c.from.result site c.requires.known c.from.ensures c.index-sites-from.is in
    called_does set c.from_residual.result c.args.self.now c.set_all.new.self c.args.items.now.items c.set_all.new.items.items c.args.setting.now.sites.now
    c.args.m c.args.entry c.args.input c.args.output site _ given c.is_idle.result found c.site.view_is (c.requires.node site found) c.is_idle.ensures c.if-not-is_idle.false
    c.call_registers-registers.ensures
    (does_err set c.from_residual.result c.args.self.now c.set_all.new.self c.args.items.now.items c.set_all.new.items.items (λ w. then_ (set_all n given w) (finish set n)) c.from_residual.ensures.0
    (first_wanted set c.args.self.now c.args.items.now.items c.set_all.new.items.items (set_all n given) (finish set n) (c.in_err-set_all.ensures.does set)))

pub finish-requires-clause-node : goal.finish-requires-clause-node
finish-requires-clause-node g c =
    let site = c.index-sites-from.result in
    let found = element_at c.args.setting.now.sites.now c.args.m c.from.result site c.requires.known c.from.ensures c.index-sites-from.is in
    long_by_boots c.args.self.now.nodes c.set_all.new.self.nodes c.site.inside.node c.in_ok-set_all.ensures.boots
    (subst (λ (x : Site). x.node < length c.args.self.now.nodes) (sym c.site.view_is) (c.requires.node site found))

pub finish-requires-clause-boot : goal.finish-requires-clause-boot
finish-requires-clause-boot g c =
    still_few c.args.self.now.nodes c.set_all.new.self.nodes c.site.inside.node c.in_ok-set_all.ensures.boots (c.requires.boot c.site.inside.node)

pub returns : goal.returns
returns g c =
    let set = setting_in g.T.Tag.mac c.args.setting.now in
    let n = c.site.inside.node in
    let given = c.call_registers-registers.result in
    let site = c.index-sites-from.result in
    let found = element_at c.args.setting.now.sites.now c.args.m c.from.result site c.requires.known c.from.ensures c.index-sites-from.is in
    called_does set c.finish.result c.args.self.now c.finish.new.self c.args.items.now.items c.finish.new.items.items c.args.setting.now.sites.now
    c.args.m c.args.entry c.args.input c.args.output site _ given c.is_idle.result found c.site.view_is (c.requires.node site found) c.is_idle.ensures c.if-not-is_idle.false
    c.call_registers-registers.ensures
    (then_does set c.finish.result c.args.self.now c.set_all.new.self c.finish.new.self c.args.items.now.items c.set_all.new.items.items c.finish.new.items.items
    (set_all n given) (finish set n) (c.in_ok-set_all.ensures.does set) c.finish.ensures)
