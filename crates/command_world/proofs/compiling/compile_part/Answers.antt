use Rattle.std.proofs.Common.{◌≡◌, ◌∙◌, ℕ, List, ap, subst, refl, arith}
use Rattle.std.specs.Prelude.{slice_index_or}
use Rattle.sx_deploy.specs.SeenDeployment.{deployed_as}
use Rattle.sx_check.specs.Source.{source_tree}
use Rattle.sx_mean.specs.declared.events.End.{End}
use Rattle.sx_mean.specs.Ends.{ends_of}
use Rattle.sx_mean.specs.View.{part_as}
use Rattle.sx_image.specs.Image.{Image}
use Rattle.sx_image.specs.InMemory.{plain}
use Rattle.sx_image.specs.Realizes.{Realizes}
use Rattle.sx_compile.specs.Compiled.{CompilesTo, compiled_text}
use Rattle.command_world.proofs.Building.{held_at, layout_within, provider_within, built_at, get_part, both}
use Rattle.command_world.proofs.compiling.compile_part.Goals as goal

pub index-layout-requires : goal.index-layout-requires
index-layout-requires g c =
    let lt = layout_within (deployed_as c.args.deployment.now) c.args.deployment.now.app.parts.items c.args.number refl c.requires.sound c.requires.within in
    omega (arith, c.from-place.ensures, c.args.deployment.now.layouts.ok, lt)

pub can_be_compiled-requires-clause-part : goal.can_be_compiled-requires-clause-part
can_be_compiled-requires-clause-part g c =
    held_at c.args.deployment.now.app.parts.items c.args.number c.index-part.result.now c.requires.within
    (subst (λ (n : ℕ). c.index-part.result.now ≡ slice_index_or c.args.deployment.now.app.parts.items n c.index-part.result.now) c.from-place.ensures c.index-part.ensures)

pub can_be_compiled-requires-clause-layout : goal.can_be_compiled-requires-clause-layout
can_be_compiled-requires-clause-layout g c =
    held_at c.args.deployment.now.layouts.items c.args.number c.index-layout.result.now
    (layout_within (deployed_as c.args.deployment.now) c.args.deployment.now.app.parts.items c.args.number refl c.requires.sound c.requires.within)
    (subst (λ (n : ℕ). c.index-layout.result.now ≡ slice_index_or c.args.deployment.now.layouts.items n c.index-layout.result.now) c.from-place.ensures c.index-layout.ensures)

pub returns : goal.returns
returns g c =
    let d = deployed_as c.args.deployment.now in
    let p = c.args.number in
    let parts = c.args.deployment.now.app.parts.items in
    let part = c.index-part.result.now in
    let here = held_at parts p part c.requires.within
    (subst (λ (n : ℕ). part ≡ slice_index_or parts n part) c.from-place.ensures c.index-part.ensures) in
    let there = held_at d.layouts p c.index-layout.result.now (layout_within d parts p refl c.requires.sound c.requires.within)
    (subst (λ (n : ℕ). c.index-layout.result.now ≡ slice_index_or d.layouts n c.index-layout.result.now) c.from-place.ensures c.index-layout.ensures) in
    let given = held_at d.providers p c.index.result.now (provider_within d parts p refl c.requires.sound c.requires.within)
    (subst (λ (n : ℕ). c.index.result.now ≡ slice_index_or d.providers n c.index.result.now) c.from-place.ensures c.index.ensures) in
    let ends : c.deref-2.result.now ≡ ends_of d.app p = c.deref-2.ensures.value ∙ c.in_ok-ends.ensures.few (omega (arith, c.requires.sound.few_links)) in
    let Made = CompilesTo g.T.Tag.mac (source_tree part.code) c.deref-2.result.now c.index-layout.result.now c.index.result.now in
    both c.compile.result Made Made _
    (λ image made again.
    built_at g.T.Tag.mac d (part_as part) c.index-layout.result.now c.index.result.now p (plain image) (get_part parts p part here) there given (ap (λ (i : Image). i.layout) made.is)
    (ap (λ (i : Image). i.provider) made.is) (subst (λ (es : List End). Realizes g.T.Tag.mac (source_tree part.code) es (plain image)) ends made.realizes)
    (ap (λ (i : Image). i.text) made.is ∙ ap (λ (es : List End). compiled_text c.index-layout.result.now (source_tree part.code) es) ends))
    c.compile.ensures c.compile.ensures
