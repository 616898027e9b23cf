use Rattle.std.proofs.Common.{◌∙◌, ◌∷◌, ◌++◌, ◌≤◌, [], ℕ, take, length, arith, ap, refl, sym, subst, List, Ok}
use Rattle.std.proofs.lemmas.List.{length-append}
use Rattle.sx_io.specs.Streams.{SinkAt}
use Rattle.sx_io.specs.Reading.{Answer}
use Rattle.command_promise.specs.Told.{Output, command_at, read_line}
use Rattle.command_promise.specs.Parts.{Begun, Notes}
use Rattle.command_promise.specs.declared.turned.Turned.TheVariants.{Stop}
use Rattle.command_promise.proofs.Laws.{begun-line, begun-same, ends-same, told-end, told-failed, told-stop, told-too-long}
use Rattle.command_explain.specs.declared.lines.TraceRule.TheVariants.{NoItem, NoEnd}
use Rattle.command_explain.specs.Output.{broken_output}
use Rattle.command_explain.specs.Trace.{judged_line, line_of, stop_behind, trace_lines}
use Rattle.command_explain.proofs.Written.{on_ok}
use Rattle.command_watch.specs.Output.{stop_output, watch_from}
use Rattle.command_watch.proofs.Written.{said_bad, said_end, said_item, said_last, said_long, said_unread}
use Rattle.command_watch.proofs.trace.watch_lines.Goals as goal

pub lines-init : goal.lines-init
lines-init g c = record { between = record { few = omega arith; items = []; counted = refl; stands = λ p s. s; begun = λ means p is s limit m0 defined aside noted b. b }; still = refl }

pub returns-in-End-clause-rest : goal.returns-in-End-clause-rest
returns-in-End-clause-rest g c = λ means p is s limit m0 defined aside noted b.
    let st = c.lines.invariant.between in
    let u = (st.stands p s).unbroken in
    let item = means.item c.args.names.now in
    told-end {f = watch_from p item st.items} (said_unread p item st.items u []) (st.begun means p is s limit m0 defined aside noted b) c.in-End.ensures.next
    (ends-same _ _ _ _ _ _ (said_end p item st.items u [] ∙ ap (broken_output NoEnd) (sym st.counted)) c.break_off.ensures.ends)

pub returns-in-TooLong-clause-rest : goal.returns-in-TooLong-clause-rest
returns-in-TooLong-clause-rest g c = λ means p is s limit m0 defined aside noted b.
    let st = c.lines.invariant.between in
    let u = (st.stands p s).unbroken in
    let item = means.item c.args.names.now in
    told-too-long {f = watch_from p item st.items} (said_unread p item st.items u []) (st.begun means p is s limit m0 defined aside noted b) c.in-TooLong.ensures.next
    (ends-same _ _ _ _ _ _ (said_long p item st.items u [] ∙ ap (broken_output NoItem) (sym st.counted)) c.break_off-in-TooLong.ensures.ends)

pub returns-in-Failed-clause-rest : goal.returns-in-Failed-clause-rest
unfolding read_line
returns-in-Failed-clause-rest g c = λ means p is s limit m0 defined aside noted b.
    let st = c.lines.invariant.between in
    let u = (st.stands p s).unbroken in
    let item = means.item c.args.names.now in
    told-failed {f = watch_from p item st.items} (said_unread p item st.items u []) (st.begun means p is s limit m0 defined aside noted b) c.in-Failed.ensures.next
    (ends-same _ _ _ _ _ _ (said_unread p item st.items u []) c.finish.ensures.ends)

pub returns-in-Err-clause-rest : goal.returns-in-Err-clause-rest
returns-in-Err-clause-rest g c = λ means p is s limit m0 defined aside noted b.
    let st = c.lines.invariant.between in
    let u = (st.stands p s).unbroken in
    let item = means.item c.args.names.now in
    let text = take c.in-Text.n c.next.new.into in
    let line = c.judge_line.ensures.line means is in
    told-stop (begun-line (watch_from p item st.items) (said_unread p item st.items u []) (st.begun means p is s limit m0 defined aside noted b) c.in-Text.ensures.next)
    (λ more. ends-same _ _ _ _ _ _
    (said_bad p item st.items u text c.in-Err.rule more (ap (λ (n : ℕ). judged_line n (line_of item text)) (sym st.counted) ∙ sym line ∙ c.in-Err.is)
    ∙ ap (broken_output c.in-Err.rule) (sym st.counted)) c.break_off-in-Err.ensures.ends)

pub returns-in-Ok-Last-clause-rest : goal.returns-in-Ok-Last-clause-rest
returns-in-Ok-Last-clause-rest g c = λ means p is s limit m0 defined aside noted b.
    let st = c.lines.invariant.between in
    let u = (st.stands p s).unbroken in
    let item = means.item c.args.names.now in
    let text = take c.in-Text.n c.next.new.into in
    let line = c.judge_line.ensures.line means is in
    let count : ℕ = length st.items in
    c.watch_end.ensures.rest means p st.items is (st.stands p s) (let n = st.counted in omega (arith, n)) limit m0 defined aside noted
    (begun-same _ (λ more. said_last p item st.items u text more (ap (λ (n : ℕ). judged_line n (line_of item text)) (sym st.counted) ∙ sym line ∙ (c.in-Ok-Last.is ∙ ap Ok c.in-Ok-Last.field-0-is))
    ∙ ap (λ (n : ℕ). stop_output st.items (stop_behind item n more)) (let n = st.counted in omega (arith, n)))
    (begun-line (watch_from p item st.items) (said_unread p item st.items u []) (st.begun means p is s limit m0 defined aside noted b) c.in-Text.ensures.next))

pub returns-in-Stop-clause-rest : goal.returns-in-Stop-clause-rest
returns-in-Stop-clause-rest g c = λ means p is s limit m0 defined aside noted b.
    let st = c.lines.invariant.between in
    let u = (st.stands p s).unbroken in
    let item = means.item c.args.names.now in
    let text = take c.in-Text.n c.next.new.into in
    let line = c.judge_line.ensures.line means is in
    let i = c.in-Ok-Item.item in
    let turned = c.in-Stop.ensures.turns p st.items (st.stands p s) st.counted in
    told-stop (begun-line (watch_from p item st.items) (said_unread p item st.items u []) (st.begun means p is s limit m0 defined aside noted b) c.in-Text.ensures.next)
    (λ more. ends-same _ _ _ _ _ _
    (said_item p item st.items text i more (ap (λ (n : ℕ). judged_line n (line_of item text)) (sym st.counted) ∙ sym line ∙ (c.in-Ok-Item.is ∙ ap Ok c.in-Ok-Item.field-0-is)))
    (turned item more))

pub returns-in-Stop-clause-starved : goal.returns-in-Stop-clause-starved
returns-in-Stop-clause-starved g c = λ six. c.in-Stop.ensures.starved (ap Stop six) ∙ c.lines.invariant.still

pub lines-preserved : goal.lines-preserved
lines-preserved g c =
    let st = c.lines.invariant.between in
    let i = c.in-Ok-Item.item in
    let few = on_ok (c.lines.number ≤ 4000000) c.judge_line.result _ (c.in-Ok-Item.is ∙ ap Ok c.in-Ok-Item.field-0-is) c.judge_line.ensures.few in record {
      between = record {
        few = omega (arith, few);
        items = st.items ++ i ∷ [];
        counted = (let l = length-append st.items (i ∷ []) in let n = st.counted in omega (arith, l, n));
        stands = λ p s. (c.in-On.ensures.turns p st.items (st.stands p s) st.counted).1;
        begun = λ means p is s limit m0 defined aside noted b.
            let u = (st.stands p s).unbroken in
            let item = means.item c.args.names.now in
            let text = take c.in-Text.n c.next.new.into in
            let line = c.judge_line.ensures.line means is in
            let next : List Answer → Output = watch_from p item (st.items ++ i ∷ []) in
            let at : SinkAt → Type 0 = λ k. Begun g.S.Source.tells g.K.Sink.tells limit trace_lines m0 (command_at (g.S.Source.at c.next.new.source) k) c.next.new.self defined next (Notes aside noted) in
            subst at (sym (c.in-On.ensures.turns p st.items (st.stands p s) st.counted).0)
            (begun-same next
            (λ more. said_item p item st.items text i more (ap (λ (n : ℕ). judged_line n (line_of item text)) (sym st.counted) ∙ sym line ∙ (c.in-Ok-Item.is ∙ ap Ok c.in-Ok-Item.field-0-is)))
            (begun-line (watch_from p item st.items) (said_unread p item st.items u []) (st.begun means p is s limit m0 defined aside noted b) c.in-Text.ensures.next));
      };
      still = c.in-On.ensures.still refl ∙ c.lines.invariant.still;
    }
