use Rattle.std.proofs.Common.{◌∙◌, List, ℕ, ap, subst}
use Rattle.command_promise.specs.Told.{behind}
use Rattle.command_promise.specs.Parts.{DoesPart}
use Rattle.sx_trace.specs.Names.{NameLists}
use Rattle.sx_image.specs.InMemory.{texts_of}
use Rattle.command_world.specs.Images.{images_text}
use Rattle.command_world.proofs.images.put_images.Goals as goal

pub returns-in-Ok : goal.returns-in-Ok
returns-in-Ok g c = λ left.
    let P : List ℕ → Type 0 = λ text. DoesPart g.K.Sink.tells (g.K.Sink.at c.args.output.now) (g.K.Sink.at c.put_text.new.output) (λ more. behind text (left more)) c.put_text.result left in
    subst P
    (c.deref-in-Ok.ensures.value ∙ c.in-Ok.ensures ∙ ap (λ (names : List (List ℕ)). images_text names (texts_of c.args.images.now)) c.deref.ensures.value
    ∙ ap (λ (names : NameLists). images_text names.modules (texts_of c.args.images.now)) c.names.view_is)
    (c.put_text.ensures.does left)
