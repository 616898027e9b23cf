-- What the program says is what its command says.
use Rattle.std.proofs.Common.{◌≡◌, ◌∙◌, ℕ, Bool, List, sym, subst, Option, None}
use Rattle.sx_tag.specs.Mac.{Mac}
use Rattle.command_promise.specs.declared.status.Status.{Status}
use Rattle.command_promise.specs.declared.status.Status.TheVariants.{Misused}
use Rattle.command_promise.specs.Told.{CommandAt}
use Rattle.sx_top.specs.declared.words.Command.{Command}
use Rattle.sx_top.specs.Commands.{command_of}
use Rattle.sx_top.specs.Promise.{CommandPromise, ProgramPromise}

pub program : {tells to_tell : Bool} {m0 m1 : CommandAt} {status : Status} (mac : Mac) (words : List (List ℕ)) (command : Option Command)
    → command_of words ≡ command → CommandPromise mac command tells to_tell m0 m1 status → (status ≡ Misused → command ≡ None)
    → ProgramPromise mac words tells to_tell m0 m1 status
program {tells} {to_tell} {m0} {m1} {status} mac words command named told usage = record {
  told = subst (λ (o : Option Command). CommandPromise mac o tells to_tell m0 m1 status) (sym named) told;
  usage = λ two. named ∙ usage two;
}
