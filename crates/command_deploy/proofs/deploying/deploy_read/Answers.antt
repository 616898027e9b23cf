use Rattle.std.proofs.Common.{◌≡◌, ℕ, inr, List, subst, sym, Result, Ok}
use Rattle.std.specs.Prelude.{IfOk}
use Rattle.command_promise.specs.Told.{command_at}
use Rattle.command_promise.specs.Parts.{Rest}
use Rattle.command_promise.specs.Head.{head_lines}
use Rattle.sx_deploy.specs.Deployment.{Deployed, IsRead}
use Rattle.sx_deploy.specs.Law.{IsSoundDeployment}
use Rattle.sx_deploy.specs.SeenDeployment.{deployed_as}
use Rattle.sx_deploy.specs.declared.deployment.Deployment.{Deployment}
use Rattle.sx_entries.specs.declared.fault.DeployError.{DeployError}
use Rattle.sx_entries.specs.declared.fault.DeployFault.{DeployFault}
use Rattle.sx_image.specs.declared.image.Image.{Image}
use Rattle.spec_run.specs.Accepted.{AreByteTexts, AreImages}
use Rattle.sx_image.specs.InMemory.{texts_of}
use Rattle.sx_deploy.proofs.Meanings.{one_meaning}
use Rattle.command_deploy.specs.Afterwards.{DeploysOrRanOut, found_output}
use Rattle.command_world.specs.Compiled.{compiled_texts}
use Rattle.command_world.proofs.Building.{are_compiled, are_deployed_images}
use Rattle.command_deploy.proofs.deploying.deploy_read.Goals as goal

-- a text is of one deployment
deployed_same : (text : List ℕ) (d other : Deployed) → IsRead text (Ok d) → IsRead text (Ok other) → d ≡ other
deployed_same text d other read again = cc (one_meaning text (Ok d) (Ok other) read again)

pub perform-requires-clause-images : goal.perform-requires-clause-images
perform-requires-clause-images g c =
    let Q : List Image → Type 0 = λ images. AreImages g.T.Tag.mac (deployed_as c.in-Ok.deployment) (texts_of images) in
    let made = c.in-Ok-compile_all.ensures in
    subst Q (sym c.deref.ensures.value) (are_deployed_images g.T.Tag.mac c.in-Ok.deployment c.in-Ok-compile_all.images.items made.all made.built made.bytes)

pub returns-in-Ok-compile_all-clause-deploys : goal.returns-in-Ok-compile_all-clause-deploys
returns-in-Ok-compile_all-clause-deploys g c =
    let mac = g.T.Tag.mac in
    let deployment = c.in-Ok.deployment in
    let d = deployed_as deployment in
    let images = c.in-Ok-compile_all.images.items in
    let made = c.in-Ok-compile_all.ensures in
    let S : Result Deployment DeployError → Type 0 = λ r. IfOk r (λ (p : Deployment). IsSoundDeployment (deployed_as p)) in
    let sound : IsSoundDeployment d = subst S c.in-Ok.is c.requires.sound in
    let Q : List Image → Type 0 = λ images. AreImages mac d (texts_of images) in
    let C : List Image → Type 0 = λ images. texts_of images ≡ compiled_texts d in
    let B : List Image → Type 0 = λ images. AreByteTexts (texts_of images) in
    let same = sym c.deref.ensures.value in
    let texts = texts_of c.deref.result.now in
    let are : AreImages mac d texts = subst Q same (are_deployed_images mac deployment images made.all made.built made.bytes) in
    let compiled : texts ≡ compiled_texts d = subst C same (are_compiled mac deployment images sound made.all made.built) in
    let P : Deployed → Type 0 = λ d. AreImages mac d texts in
    let E : Deployed → Type 0 = λ d. texts ≡ compiled_texts d in
    let m1 = command_at (g.S.Source.at c.args.input.now) (g.K.Sink.at c.args.output.now) in
    let m2 = command_at (g.S.Source.at c.perform.new.input) (g.K.Sink.at c.perform.new.output) in
    let D : Result Deployment DeployError → Type 0 = λ r.
    IfOk r (λ (p : Deployment). (text : List ℕ) → IsRead text (Ok (deployed_as p))
    → DeploysOrRanOut mac (g.C.Deploys.behind mac) g.C.Deploys.may g.S.Source.tells g.K.Sink.tells c.args.lines.now m1 m2 c.perform.result text) in
    subst D (sym c.in-Ok.is) (λ text read. inr (record {
      texts = texts;
      realize = λ other again. subst P (deployed_same text d other read again) are;
      made = λ other again. subst E (deployed_same text d other read again) compiled;
      bytes = subst B same made.bytes;
      rest = λ meaning is.
          let R : Result Deployed DeployFault → Type 0 = λ r. Rest g.S.Source.tells g.K.Sink.tells head_lines c.args.lines.now m1 m2 c.perform.result
          (found_output (g.C.Deploys.behind mac) texts r) in
          subst R (one_meaning text (Ok d) (meaning text) read (is text)) c.perform.ensures.rest;
      wanted = λ six. (d, read, c.perform.new.lines, c.perform.ensures.wanted six);
    }))
