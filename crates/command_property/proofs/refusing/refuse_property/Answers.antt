use Rattle.std.proofs.Common.{◌≡◌, ◌∙◌, ℕ, List, sym, ap}
use Rattle.command_promise.specs.declared.status.Status.TheVariants.{NoProperty}
use Rattle.command_promise.specs.Told.{Output}
use Rattle.command_promise.proofs.Laws.{ends-same}
use Rattle.command_text.proofs.Ends.{never_six}
use Rattle.command_property.specs.Refused.{fault_words, property_line}
use Rattle.command_property.proofs.refusing.refuse_property.Goals as goal

pub returns : goal.returns
returns g c =
    let said : List ℕ → Output = λ t. record { text = t; status = NoProperty } in
    let text : c.as_slice.result.now ≡ property_line (fault_words c.args.fault) = c.as_slice.ensures.value ∙ c.fault_line.ensures in record {
      ends = ends-same _ _ _ _ _ _ (ap said (sym text)) c.finish.ensures.ends;
      memory = never_six _ NoProperty c.finish.ensures.status (λ e. cc e);
    }
