use Rattle.std.proofs.Common.{◌≡◌, ◌∙◌, ℕ, List, refl, ap, sym}
use Rattle.command_promise.specs.declared.status.Status.TheVariants.{Illegal}
use Rattle.command_promise.specs.Told.{behind}
use Rattle.command_promise.proofs.Laws.{ends-same}
use Rattle.command_explain.specs.Output.{because_line, illegal_output, told_item}
use Rattle.command_text.proofs.Keeping.{joined}
use Rattle.command_explain.proofs.text.keep_said.Goals as goal

pub returns-in-Because-clause-does : goal.returns-in-Because-clause-does
returns-in-Because-clause-does g c = (
  refl,
  λ o.
      let kept : List ℕ = c.args.kept.now.items in
      let line : List ℕ = because_line c.args.number c.in-Because.cause in
      ap (λ (t : List ℕ). behind t o) c.keep_because.ensures ∙ sym (joined kept line o)
      ∙ ap (λ j. behind kept (told_item c.args.number j o)) (sym c.in-Because.is),
)

pub returns-in-Illegal-clause-does : goal.returns-in-Illegal-clause-does
returns-in-Illegal-clause-does g c = λ o.
    let kept : List ℕ = c.args.kept.now.items in
    let text : c.as_slice.result.now ≡ (illegal_output c.args.number).text = c.as_slice.ensures.value ∙ c.illegal_text-text.ensures in
    ends-same _ _ _ _ _ _ (ap (λ j. behind kept (told_item c.args.number j o)) c.in-Illegal.is
    ∙ ap (λ (t : List ℕ). behind kept (record { text = t; status = Illegal })) (sym text)) c.finish_kept.ensures.ends
