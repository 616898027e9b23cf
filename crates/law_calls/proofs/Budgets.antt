-- No call and no `finish` from a module's entry uses up its steps, in any run.
use Rattle.std.proofs.Common.{◌≡◌, ℕ, ◌||◌, false, List, [], ◌∷◌, ◌++◌, Option, refl, ap, ◌∙◌}
use Rattle.std.specs.List.{list_any}
use Rattle.std.proofs.lemmas.List.Folds.{list_any-append}
use Rattle.std.proofs.lemmas.Bool.{or_parts}
use Rattle.sx_rules.specs.declared.section.Section.{Section}
use Rattle.sx_trace.specs.declared.items.Item.{Item}
use Rattle.sx_trace.specs.declared.items.Item.TheVariants as item
use Rattle.sx_sched.specs.Lines.{Finish, Call}
use Rattle.spec_machine.specs.State.{State}
use Rattle.spec_machine.specs.Step.{pc_of}
use Rattle.spec_invocation.specs.Setup.{Setup}
use Rattle.spec_invocation.specs.Marks.{Mark}
use Rattle.spec_invocation.specs.Progress.{Invoked}
use Rattle.spec_run.specs.Setting.{Site, Setting}
use Rattle.spec_run.specs.State.{World, Acted, switched_on}
use Rattle.spec_run.specs.Run.{call, line_counted, run}
use Rattle.spec_run.specs.Law.{IsSoundSetting, LineInForm}
use Rattle.spec_run.proofs.acts.Bounds.{lines_within}
use Rattle.law_calls.specs.Shown.{is_stop, is_budget, marks_observed}
use Rattle.law_calls.specs.Calls.{Callee, IsCallable}
use Rattle.law_calls.specs.Laws.{CallableInRuns, NeverBudget, IsWithinBudget}
use Rattle.law_calls.proofs.GoingOn.{marks_go_on}
use Rattle.law_calls.proofs.Running.{Ending, IsLeft, IsBroken}
use Rattle.law_calls.proofs.Finishing.{finishes}
use Rattle.law_calls.proofs.Calling.{call_ended}

-- what is no stop is no want of steps
stop_budget : (i : Item) → is_stop i ≡ false → is_budget i ≡ false
stop_budget (item.Budget n) h = absurd cc
stop_budget _ h = refl

stops_budgets : (is : List Item) → list_any is_stop is ≡ false → list_any is_budget is ≡ false
stops_budgets [] h = refl
stops_budgets (i ∷ is) h =
    let both = or_parts (is_stop i) (list_any is_stop is) h in
    ap (λ b. b || list_any is_budget is) (stop_budget i both.0) ∙ stops_budgets is both.1

-- `done` and a reset aren't
last_budget : (n m : ℕ) (sec : Section) (setup : Setup) (result : Invoked) (before after : State) (seen : List Mark) (shown : Item)
    → Ending n m sec setup result before after seen shown → is_budget shown ≡ false
last_budget n m sec setup result before after seen shown (IsLeft last out mid is) = ap is_budget is
last_budget n m sec setup result before after seen shown (IsBroken v p broken marks reset is) = ap is_budget is

-- items of marks, and a last one that is neither
none_budget : (is : List Item) (last : Item) → list_any is_stop is ≡ false → is_budget last ≡ false → list_any is_budget (is ++ last ∷ []) ≡ false
none_budget is last a b =
    list_any-append is_budget is (last ∷ []) ∙ ap (λ t. t || (is_budget last || false)) (stops_budgets is a) ∙ ap (λ t. t || false) b

-- the count of lines is no matter
counted : (set : Setting) (w : World) (c : Callee) → IsCallable set w c → IsCallable set (line_counted w) c
counted set w c h = record { part = h.part; sited = h.sited; there = h.there; node = h.node; idle = h.idle; stands = h.stands; windows = h.windows }

finish_budget : (set : Setting) (w : World) (c : Callee) → IsSoundSetting set → IsCallable set w c → pc_of c.node ≡ c.site.layout.pub_from → IsWithinBudget set w (Finish c.site.node)
finish_budget set w c sound h entry =
    let f = finishes set (line_counted w) c sound (counted set w c h) c.node.regs c.node.last (line_counted w) h.there h.node entry in
    ap (λ (a : Acted). list_any is_budget a.items) f.is
    ∙ none_budget (marks_observed set.app c.site.node c.number c.node.boot f.rest w.ledger).items f.shown (marks_go_on set.app c.site.node c.number c.node.boot f.rest w.ledger)
    (last_budget _ _ _ _ _ _ _ _ _ f.ending)

call_budget : (set : Setting) (w : World) (c : Callee) → IsSoundSetting set → IsCallable set w c → (e input output : ℕ) → LineInForm set (Call c.number e input output)
    → IsWithinBudget set w (Call c.number e input output)
call_budget set w c sound h e input output form =
    let r = call_ended set (line_counted w) c e input output sound (counted set w c h) form.0 form.1 form.2 in
    ap (λ (o : Option Site). list_any is_budget (call set (line_counted w) e input output o).items) h.sited
    ∙ ap (λ (a : Acted). list_any is_budget a.items) r.1
    ∙ none_budget (marks_observed set.app c.site.node c.number c.node.boot r.0.rest w.ledger).items r.0.shown (marks_go_on set.app c.site.node c.number c.node.boot r.0.rest w.ledger)
    (last_budget _ _ _ _ _ _ _ _ _ r.0.ending)

pub callable_in_runs : CallableInRuns
callable_in_runs set lines c sound form h =
    let node = (lines_within set lines sound form).1.nodes c.site.node c.node h.there in
    record { part = h.part; sited = h.sited; there = h.there; node = node.is_node; idle = h.idle; stands = h.stands; windows = node.devices }

pub never_budget : NeverBudget
never_budget set lines c sound form h =
    let w = (run set (switched_on set) lines).world in
    let callable = callable_in_runs set lines c sound form h in
    (finish_budget set w c sound callable, call_budget set w c sound callable)
