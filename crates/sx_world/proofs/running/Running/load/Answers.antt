use Rattle.std.proofs.Common.{◌≡◌, [], ◌∷◌, ◌++◌, Option, Some, OnOk, sym, subst}
use Rattle.std.specs.Prelude.{slice_get}
use Rattle.sx_trace.specs.declared.items.Item.TheVariants.{Busy}
use Rattle.spec_run.specs.Setting.{Site}
use Rattle.sx_world.specs.Held.{DoesAct}
use Rattle.sx_observe.specs.InMemory.{setting_in}
use Rattle.sx_world.specs.Loading.{after_loading}
use Rattle.spec_run.specs.Run.{load, unless_busy}
use Rattle.sx_world.proofs.doing.Loaded.{idle_does, busy_does, element_at}
use Rattle.sx_world.proofs.running.Running.load.Goals as goal

pub returns-then-is_idle : goal.returns-then-is_idle
returns-then-is_idle g c =
    let set = setting_in g.T.Tag.mac c.args.setting.now in
    let site = c.index-sites-from.result in
    let found = element_at c.args.setting.now.sites.now c.args.m c.from.result site c.requires.known c.from.ensures c.index-sites-from.is in
    subst (λ (o : Option Site). DoesAct set c.put_and_protect.result c.args.self.now c.put_and_protect.new.self
    c.args.items.now.items c.put_and_protect.new.items.items (λ w. load set w o)) (sym found)
    (idle_does set c.put_and_protect.result c.args.self.now c.put_and_protect.new.self c.args.items.now.items c.put_and_protect.new.items.items site.node (after_loading set site) c.is_idle.result
    (c.requires.node site found) (λ s here. c.is_idle.ensures s (subst (λ (x : Site). slice_get c.args.self.now.nodes x.node ≡ Some s) (sym c.site.view_is) here)) c.if-is_idle.true
    c.put_and_protect.ensures)

pub returns-else-is_idle : goal.returns-else-is_idle
returns-else-is_idle g c =
    let set = setting_in g.T.Tag.mac c.args.setting.now in
    let site = c.index-sites-from.result in
    let found = element_at c.args.setting.now.sites.now c.args.m c.from.result site c.requires.known c.from.ensures c.index-sites-from.is in
    subst (λ (o : Option Site). DoesAct set c.push_item.result c.args.self.now c.args.self.now c.args.items.now.items c.push_item.new.items.items (λ w. load set w o)) (sym found)
    (subst (λ (x : Site). OnOk c.push_item.result (c.push_item.new.items.items ≡ c.args.items.now.items ++ Busy x.node ∷ [])
    → DoesAct set c.push_item.result c.args.self.now c.args.self.now c.args.items.now.items c.push_item.new.items.items (λ w. unless_busy site.node w (after_loading set site)))
    (sym c.site.view_is)
    (λ ok. busy_does set c.push_item.result c.args.self.now c.args.items.now.items c.push_item.new.items.items site.node (after_loading set site) c.is_idle.result
    (c.requires.node site found) (λ s here. c.is_idle.ensures s
    (subst (λ (x : Site). slice_get c.args.self.now.nodes x.node ≡ Some s) (sym c.site.view_is) here)) c.if-is_idle.false ok c.push_item.ensures.err)
    c.push_item.ensures.ok)
