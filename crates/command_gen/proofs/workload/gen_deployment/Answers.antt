use Rattle.std.proofs.Common.{◌≡◌, inl, inr, ap, List, map, refl, subst, sym, Ok}
use Rattle.command_promise.proofs.Laws.{ends-same}
use Rattle.sx_deploy.specs.Deployment.{Deployed, IsRead}
use Rattle.sx_deploy.specs.SeenDeployment.{deployed_as}
use Rattle.sx_deploy.proofs.Meanings.{one_meaning}
use Rattle.sx_image.specs.declared.image.Image.{Image}
use Rattle.spec_run.specs.Accepted.{AreImages}
use Rattle.sx_bulk.specs.Bulk as bulk
use Rattle.command_gen.specs.Promise.{gen_found}
use Rattle.command_world.specs.Compiled.{compiled_texts}
use Rattle.command_world.proofs.Building.{are_compiled, are_deployed_images}
use Rattle.command_gen.proofs.workload.gen_deployment.Goals as goal

-- a text is of one deployment
deployed_same : (d other : Deployed) → IsRead bulk.head (Ok d) → IsRead bulk.head (Ok other) → d ≡ other
deployed_same d other read again = cc (one_meaning bulk.head (Ok d) (Ok other) read again)

pub gen_images-requires-clause-images : goal.gen_images-requires-clause-images
gen_images-requires-clause-images g c =
    let Q : List Image → Type 0 = λ images. AreImages g.T.Tag.mac (deployed_as c.args.deployment.now) (map (λ (i : Image). i.text.items) images) in
    subst Q (sym c.deref.ensures.value) (are_deployed_images g.T.Tag.mac c.args.deployment.now c.in-Ok.images.items c.in-Ok.ensures.all c.in-Ok.ensures.built c.in-Ok.ensures.bytes)

pub returns-in-Ok : goal.returns-in-Ok
returns-in-Ok g c =
    let mac = g.T.Tag.mac in
    let d = deployed_as c.args.deployment.now in
    let texts = map (λ (i : Image). i.text.items) c.deref.result.now in
    let Q : List Image → Type 0 = λ images. AreImages mac d (map (λ (i : Image). i.text.items) images) in
    let are : AreImages mac d texts =
    subst Q (sym c.deref.ensures.value) (are_deployed_images mac c.args.deployment.now c.in-Ok.images.items c.in-Ok.ensures.all c.in-Ok.ensures.built c.in-Ok.ensures.bytes) in
    let C : List Image → Type 0 = λ images. map (λ (i : Image). i.text.items) images ≡ compiled_texts d in
    let compiled : texts ≡ compiled_texts d =
    subst C (sym c.deref.ensures.value) (are_compiled mac c.args.deployment.now c.in-Ok.images.items c.requires.sound c.in-Ok.ensures.all c.in-Ok.ensures.built) in
    let P : Deployed → Type 0 = λ d. AreImages mac d texts in
    let E : Deployed → Type 0 = λ d. texts ≡ compiled_texts d in
    inr (record {
      texts = texts;
      realize = λ other again. subst P (deployed_same d other c.requires.read again) are;
      made = λ other again. subst E (deployed_same d other c.requires.read again) compiled;
      ends = λ meaning is.
          ends-same _ _ _ _ _ _ (ap (gen_found mac texts c.args.samples) (one_meaning bulk.head (meaning bulk.head) (Ok d) (is bulk.head) c.requires.read)) c.gen_images.ensures;
    })

pub returns-in-Err : goal.returns-in-Err
returns-in-Err g c = inl (record { six = refl; same = refl })
