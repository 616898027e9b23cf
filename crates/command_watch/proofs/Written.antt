-- What is said of a trace, line by line.
use Rattle.std.proofs.Common.{◌≡◌, ◌∙◌, ℕ, ◌+◌, List, [], ◌∷◌, ◌++◌, length, refl, sym, ap, arith, append_assoc, Option, Some, None, Result, Ok, Err}
use Rattle.std.proofs.lemmas.List.{append-nil, length-append}
use Rattle.sx_io.specs.Reading.{Answer, Line, End, Long, Fault}
use Rattle.command_promise.specs.Told.{Output, unread_output}
use Rattle.sx_trace.specs.declared.items.Item.{Item}
use Rattle.sx_model.specs.Legal.{before}
use Rattle.sx_watch.specs.Watched.{PropertyTree, broken_at}
use Rattle.command_explain.specs.declared.lines.TraceLine.{TraceLine}
use Rattle.command_explain.specs.declared.lines.TraceRule.{TraceRule}
use Rattle.command_explain.specs.declared.lines.TraceRule.TheVariants.{NoItem, NoEnd}
use Rattle.command_explain.specs.declared.lines.TraceLine.TheVariants as kind
use Rattle.command_explain.specs.Output.{broken_output}
use Rattle.command_explain.specs.Trace.{Breaks, Trace, judged_line, line_of, on_line, stop_behind, trace}
use Rattle.command_watch.specs.Output.{broken_line, stop_output, unless_broken, watch_from}
use Rattle.command_watch.proofs.Standing.{broken_more}

module _ (p : PropertyTree) (item : List ℕ → Option Item) (front : List Item) where
  -- what is said of a trace that begins with these items
  abbrev said : Trace → Output
  said t = unless_broken (broken_at p (before (front ++ t.items))) (stop_output (front ++ t.items) t.stop)

  -- and of that which a line makes
  abbrev said_by : Result TraceLine TraceRule → List Answer → Output
  said_by r more = said (on_line (length front + 1) r (stop_behind item (length front + 1 + 1) more) (trace item (length front + 1 + 1) more))

  abbrev from_line : List ℕ → Result TraceLine TraceRule
  from_line text = judged_line (length front + 1) (line_of item text)

  pub said_item : (text : List ℕ) (i : Item) (more : List Answer) → from_line text ≡ Ok (kind.Item i) → watch_from p item front (Line text ∷ more) ≡ watch_from p item (front ++ i ∷ []) more
  unfolding watch_from
  said_item text i more e =
      let next : length front + 1 + 1 ≡ length (front ++ i ∷ []) + 1 = (let l = length-append front (i ∷ []) in omega (arith, l)) in
      let rest : List Item = (trace item (length (front ++ i ∷ []) + 1) more).items in
      ap (λ r. said_by r more) e
      ∙ ap (λ (k : ℕ). let t = trace item k more in unless_broken (broken_at p (before (front ++ i ∷ t.items))) (stop_output (front ++ i ∷ t.items) t.stop)) next
      ∙ ap (λ (is : List Item). unless_broken (broken_at p (before is)) (stop_output is (trace item (length (front ++ i ∷ []) + 1) more).stop)) (sym (append_assoc front (i ∷ []) rest))

  -- a trace that ends at once
  pub said_broken : (n : ℕ) (more : List Answer) → broken_at p (before front) ≡ Some n → watch_from p item front more ≡ broken_line n
  unfolding watch_from
  said_broken n more h =
      let t = trace item (length front + 1) more in
      ap (λ o. unless_broken o (stop_output (front ++ t.items) t.stop)) (broken_more p n front t.items h)

  module _ (unbroken : broken_at p (before front) ≡ None) where
    said_stops : (t : Trace) → t.items ≡ [] → said t ≡ stop_output front t.stop
    said_stops t none =
        let same : front ++ t.items ≡ front = (ap (λ (is : List Item). front ++ is) none ∙ append-nil front) in
        ap (λ (is : List Item). unless_broken (broken_at p (before is)) (stop_output is t.stop)) same ∙ ap (λ o. unless_broken o (stop_output front t.stop)) unbroken

    pub said_last : (text : List ℕ) (more : List Answer) → from_line text ≡ Ok kind.Last → watch_from p item front (Line text ∷ more) ≡ stop_output front (stop_behind item (length front + 1 + 1) more)
    unfolding watch_from
    said_last text more e = ap (λ r. said_by r more) e ∙ said_stops (record { items = []; stop = stop_behind item (length front + 1 + 1) more }) refl

    pub said_bad : (text : List ℕ) (rule : TraceRule) (more : List Answer) → from_line text ≡ Err rule → watch_from p item front (Line text ∷ more) ≡ broken_output rule (length front + 1)
    unfolding watch_from
    said_bad text rule more e = ap (λ r. said_by r more) e ∙ said_stops (record { items = []; stop = Breaks rule (length front + 1) }) refl

    pub said_end : (more : List Answer) → watch_from p item front (End ∷ more) ≡ broken_output NoEnd (length front + 1)
    unfolding watch_from
    said_end more = said_stops (trace item (length front + 1) (End ∷ more)) refl

    pub said_long : (more : List Answer) → watch_from p item front (Long ∷ more) ≡ broken_output NoItem (length front + 1)
    unfolding watch_from
    said_long more = said_stops (trace item (length front + 1) (Long ∷ more)) refl

    pub said_unread : (more : List Answer) → watch_from p item front (Fault ∷ more) ≡ unread_output
    unfolding watch_from
    said_unread more = said_stops (trace item (length front + 1) (Fault ∷ more)) refl
