-- What is said of a trace, line by line.
use Rattle.std.proofs.Common.{◌≡◌, ◌∙◌, ℕ, ◌+◌, List, [], ◌∷◌, ◌++◌, length, refl, sym, ap, arith, append_assoc, Option, Result, Ok, Err}
use Rattle.std.proofs.lemmas.List.{append-nil, length-append}
use Rattle.std.specs.Prelude.{OnOk}
use Rattle.sx_io.specs.Reading.{Answer, Line, End, Long, Fault}
use Rattle.command_promise.specs.Told.{Output, unread_output}
use Rattle.sx_trace.specs.declared.items.Item.{Item}
use Rattle.sx_mean.specs.Application.{AppTree}
use Rattle.sx_explain.specs.Judging.{judged}
use Rattle.command_explain.specs.declared.lines.TraceLine.{TraceLine}
use Rattle.command_explain.specs.declared.lines.TraceRule.{TraceRule}
use Rattle.command_explain.specs.declared.lines.TraceRule.TheVariants.{NoItem, NoEnd}
use Rattle.command_explain.specs.declared.lines.TraceLine.TheVariants as kind
use Rattle.command_explain.specs.Output.{broken_output, explain_from, stop_output, told_item, told_items}
use Rattle.command_explain.specs.Trace.{judged_line, line_of, on_line, stop_behind, trace}

module _ (app : AppTree) (item : List ℕ → Option Item) (front : List Item) where
  -- what is said of the trace that a line makes
  abbrev said_by : Result TraceLine TraceRule → List Answer → Output
  said_by r more =
      let t = on_line (length front + 1) r (stop_behind item (length front + 1 + 1) more) (trace item (length front + 1 + 1) more) in
      told_items app front t.items (stop_output (front ++ t.items) t.stop)

  abbrev from_line : List ℕ → Result TraceLine TraceRule
  from_line text = judged_line (length front + 1) (line_of item text)

  pub said_item : (text : List ℕ) (i : Item) (more : List Answer) → from_line text ≡ Ok (kind.Item i)
      → explain_from app item front (Line text ∷ more) ≡ told_item (length front + 1) (judged app front i) (explain_from app item (front ++ i ∷ []) more)
  unfolding explain_from
  said_item text i more e =
      let next : length front + 1 + 1 ≡ length (front ++ i ∷ []) + 1 = (let l = length-append front (i ∷ []) in omega (arith, l)) in
      ap (λ r. said_by r more) e
      ∙ ap (λ (k : ℕ).
      let t = trace item k more in
      told_item (length front + 1) (judged app front i) (told_items app (front ++ i ∷ []) t.items (stop_output (front ++ i ∷ t.items) t.stop))) next
      ∙ ap (λ (is : List Item).
      let t = trace item (length (front ++ i ∷ []) + 1) more in
      told_item (length front + 1) (judged app front i) (told_items app (front ++ i ∷ []) t.items (stop_output is t.stop)))
      (sym (append_assoc front (i ∷ []) (trace item (length (front ++ i ∷ []) + 1) more).items))

  pub said_last : (text : List ℕ) (more : List Answer) → from_line text ≡ Ok kind.Last
      → explain_from app item front (Line text ∷ more) ≡ stop_output front (stop_behind item (length front + 1 + 1) more)
  unfolding explain_from
  said_last text more e =
      ap (λ r. said_by r more) e ∙ ap (λ (is : List Item). stop_output is (stop_behind item (length front + 1 + 1) more)) (append-nil front)

  pub said_broken : (text : List ℕ) (rule : TraceRule) (more : List Answer) → from_line text ≡ Err rule
      → explain_from app item front (Line text ∷ more) ≡ broken_output rule (length front + 1)
  unfolding explain_from
  said_broken text rule more e = ap (λ r. said_by r more) e

  pub said_end : (more : List Answer) → explain_from app item front (End ∷ more) ≡ broken_output NoEnd (length front + 1)
  unfolding explain_from
  said_end more = refl

  pub said_long : (more : List Answer) → explain_from app item front (Long ∷ more) ≡ broken_output NoItem (length front + 1)
  unfolding explain_from
  said_long more = refl

  pub said_unread : (more : List Answer) → explain_from app item front (Fault ∷ more) ≡ unread_output
  unfolding explain_from
  said_unread more = refl

-- what holds of a result's value holds where there is one
pub on_ok : {X E : Type 0} (P : Type 0) (r : Result X E) (x : X) → r ≡ Ok x → OnOk r P → P
on_ok P (Ok y) x e p = p
on_ok P (Err y) x e p = absurd (cc e)
