use Rattle.std.proofs.Common.{◌∙◌, List, length, arith, ap, subst}
use Rattle.sx_deploy.specs.SeenDeployment.{deployed_as}
use Rattle.sx_image.specs.declared.image.Image.{Image}
use Rattle.spec_run.specs.Accepted.{AreByteTexts}
use Rattle.sx_image.specs.InMemory.{texts_of}
use Rattle.command_world.proofs.Building.{more_built, one_longer}
use Rattle.command_world.proofs.compiling.compile_all.Goals as goal

pub modules-preserved : goal.modules-preserved
modules-preserved g c = record {
  within = omega (arith, c.modules-test.true, c.from.ensures, c.len.ensures, c.args.deployment.now.app.parts.ok);
  all = ap length c.in_ok-push.ensures.items ∙ one_longer c.modules.images.items c.in_ok-compile_part.field-0 c.modules.number c.modules.invariant.all;
  built = more_built g.T.Tag.mac (deployed_as c.args.deployment.now) c.modules.images.items c.push.new.self.items c.in_ok-compile_part.field-0 c.modules.number c.in_ok-push.ensures.items
      c.modules.invariant.all c.modules.invariant.built c.in_ok-compile_part.ensures;
}

pub returns-clause-bytes : goal.returns-clause-bytes
returns-clause-bytes g c =
    let B : List Image → Type 0 = λ images. AreByteTexts (texts_of images) in
    subst B c.deref.ensures.value c.have_bytes.ensures
