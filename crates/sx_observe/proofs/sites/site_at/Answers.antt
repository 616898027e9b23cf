use Rattle.std.proofs.Common.{◌≡◌, List, ℕ, length, map, Some, refl, sym, ap, ◌∙◌, arith}
use Rattle.std.specs.Prelude.{slice_get}
use Rattle.std.specs.Option.{option_map}
use Rattle.std.proofs.lemmas.List.{length-map}
use Rattle.std.proofs.lemmas.Option.{slice_get-map, slice_get_read}
use Rattle.sx_deploy.specs.SeenDeployment.{deployed_as}
use Rattle.sx_image.specs.declared.image.Image.{Image}
use Rattle.sx_mean.specs.View.{part_as}
use Rattle.sx_observe.proofs.SitesOf.{layouts_long, providers_long, site_is}
use Rattle.sx_observe.proofs.sites.site_at.Goals as goal

pub index-requires-2 : goal.index-requires-2
index-requires-2 c =
    let a = layouts_long (deployed_as c.args.deployment.now) c.requires.sound in
    let b = length-map c.args.deployment.now.app.parts.items part_as in
    omega (arith, a, b, c.requires.images, c.requires.part)

pub returns : goal.returns
returns c =
    let plan = c.args.deployment.now in
    let d = deployed_as plan in
    let m = c.args.m in
    let parts = plan.app.parts.items in
    let images = c.args.images.now in
    let text : Image → List ℕ = λ (i : Image). i.text.items in
    let as_many = length-map parts part_as in
    let layouts = layouts_long d c.requires.sound in
    let providers = providers_long d c.requires.sound in
    let q : slice_get (map part_as parts) m ≡ Some (part_as c.index.result.now) =
    slice_get-map part_as parts m ∙ ap (option_map part_as) (slice_get_read parts (length parts) m c.index.result.now refl (omega (arith, c.requires.images, c.requires.part)) c.index.ensures) in
    let l = slice_get_read plan.layouts.items (length plan.layouts.items) m c.index-2.result.now refl (omega (arith, layouts, as_many, c.requires.images, c.requires.part)) c.index-2.ensures in
    let p = slice_get_read plan.providers.items (length plan.providers.items) m c.index-3.result.now refl (omega (arith, providers, as_many, c.requires.images, c.requires.part)) c.index-3.ensures in
    let t : slice_get (map text images) m ≡ Some c.in_ok-to_vec.field-0.items =
    slice_get-map text images m ∙ ap (option_map text) (slice_get_read images (length images) m c.index-images-m.result refl c.requires.part c.index-images-m.is)
    ∙ ap (λ (x : List ℕ). Some x) (sym (c.in_ok-to_vec.ensures.items_if_clones_equal (λ x y e. e) ∙ c.deref.ensures.value ∙ ap text (sym c.index-images-m.is))) in
    site_is (map part_as parts) plan.layouts.items plan.providers.items (map text images) m (part_as c.index.result.now) c.index-2.result.now c.index-3.result.now c.in_ok-to_vec.field-0.items q l p t
