use Rattle.std.proofs.Common.{◌≡◌, ◌∙◌, ◌+◌, ◌∷◌, ◌++◌, ◌≤◌, [], ℕ, take, arith, ap, refl, sym, subst, List, Ok}
use Rattle.sx_io.specs.Reading.{Answer, Line}
use Rattle.sx_io.specs.declared.lines.LineRead.TheVariants as read
use Rattle.sx_io.specs.Streams.{SinkAt, SourceAt}
use Rattle.command_promise.specs.declared.status.Status.TheVariants.{WriteFailed}
use Rattle.command_promise.specs.Told.{Output, Told, behind, command_at, read_line}
use Rattle.command_promise.specs.Parts.{Notes}
use Rattle.command_promise.specs.declared.turned.Turned.TheVariants.{Stop}
use Rattle.command_promise.proofs.Laws.{ends-same, told-end, told-too-long, told-failed}
use Rattle.std.proofs.lemmas.List.{length-append}
use Rattle.sx_mean.specs.View.{app_as}
use Rattle.sx_explain.proofs.Following.{few_taken}
use Rattle.command_explain.specs.declared.lines.TraceRule.TheVariants.{NoItem, NoEnd}
use Rattle.command_explain.specs.Output.{broken_output, explain_from, stop_output}
use Rattle.command_explain.specs.Trace.{judged_line, line_of, stop_behind}
use Rattle.command_text.proofs.Keeping.{Waits, waits_asked, waits_failed, waits_more, waits_new, waits_stop, waits_text, waits_written}
use Rattle.command_explain.proofs.Written.{said_broken, said_end, said_item, said_last, said_long, said_unread, on_ok}
use Rattle.command_head.proofs.Came.{came_text}
use Rattle.command_explain.proofs.Wanted.{trace_more, trace_none, trace_wants}
use Rattle.command_explain.proofs.trace.explain_lines.Goals as goal

pub lines-init : goal.lines-init
lines-init g c =
    record {
      between = record {
        few = omega arith;
        items = [];
        follows = c.requires.follows;
        counted = refl;
        gave = trace_none _ _ _ _;
        waits = λ means is limit m0 defined aside noted b. subst (λ (t : List ℕ). Waits g.S.Source.tells g.K.Sink.tells limit m0
            (command_at (g.S.Source.at c.args.input.now) (g.K.Sink.at c.args.output.now)) c.args.lines.now defined t
            (explain_from (app_as c.args.deployment.now.app) (means.item c.args.deployment.now.names) []) (Notes aside noted)) (sym c.new-kept.ensures) (waits_new b);
      };
    }

pub returns-in-Err-clause-rest : goal.returns-in-Err-clause-rest
returns-in-Err-clause-rest g c = λ means is limit m0 defined aside noted b.
    let st = c.lines.invariant.between in
    let f = explain_from (app_as c.args.deployment.now.app) (means.item c.args.deployment.now.names) st.items in
    let e = c.in-Err.ensures.comes in
    subst (λ (s : SourceAt). Told g.S.Source.tells g.K.Sink.tells limit m0 (command_at s (g.K.Sink.at c.next_line.new.output)) WriteFailed defined (Notes aside noted)) (sym e.1)
    (waits_failed f (st.waits means is limit m0 defined aside noted b) e.0)

pub returns-in-Ok-End-clause-rest : goal.returns-in-Ok-End-clause-rest
returns-in-Ok-End-clause-rest g c = λ means is limit m0 defined aside noted b.
    let st = c.lines.invariant.between in
    let f = explain_from (app_as c.args.deployment.now.app) (means.item c.args.deployment.now.names) st.items in
    let now = waits_asked (g.S.Source.at c.next_line.new.input) (g.K.Sink.at c.next_line.new.output) c.next_line.new.lines c.next_line.new.kept.items c.next_line.new.into read.End f
    c.next_line.result (c.in-Ok-End.is ∙ ap Ok c.in-Ok-End.field-0-is) (λ h. h) (said_unread _ _ st.items []) (st.waits means is limit m0 defined aside noted b) c.next_line.ensures.comes in
    told-end {f = f} (said_unread _ _ st.items []) now.0 now.1
    (ends-same _ _ _ _ _ _ (said_end _ _ st.items [] ∙ ap (broken_output NoEnd) (sym st.counted)) c.break_off.ensures.ends)

pub returns-in-Ok-TooLong-clause-rest : goal.returns-in-Ok-TooLong-clause-rest
returns-in-Ok-TooLong-clause-rest g c = λ means is limit m0 defined aside noted b.
    let st = c.lines.invariant.between in
    let f = explain_from (app_as c.args.deployment.now.app) (means.item c.args.deployment.now.names) st.items in
    let now = waits_asked (g.S.Source.at c.next_line.new.input) (g.K.Sink.at c.next_line.new.output) c.next_line.new.lines c.next_line.new.kept.items c.next_line.new.into read.TooLong f
    c.next_line.result (c.in-Ok-TooLong.is ∙ ap Ok c.in-Ok-TooLong.field-0-is) (λ h. h) (said_unread _ _ st.items []) (st.waits means is limit m0 defined aside noted b) c.next_line.ensures.comes in
    told-too-long {f = f} (said_unread _ _ st.items []) now.0 now.1
    (ends-same _ _ _ _ _ _ (said_long _ _ st.items [] ∙ ap (broken_output NoItem) (sym st.counted)) c.break_off-in-Ok-TooLong.ensures.ends)

pub returns-in-Ok-Failed-clause-rest : goal.returns-in-Ok-Failed-clause-rest
unfolding read_line
returns-in-Ok-Failed-clause-rest g c = λ means is limit m0 defined aside noted b.
    let st = c.lines.invariant.between in
    let f = explain_from (app_as c.args.deployment.now.app) (means.item c.args.deployment.now.names) st.items in
    let now = waits_asked (g.S.Source.at c.next_line.new.input) (g.K.Sink.at c.next_line.new.output) c.next_line.new.lines c.next_line.new.kept.items c.next_line.new.into read.Failed f
    c.next_line.result (c.in-Ok-Failed.is ∙ ap Ok c.in-Ok-Failed.field-0-is) (λ h. h) (said_unread _ _ st.items []) (st.waits means is limit m0 defined aside noted b) c.next_line.ensures.comes in
    told-failed {f = f} (said_unread _ _ st.items []) now.0 now.1
    (ends-same _ _ _ _ _ _ (said_unread _ _ st.items []) c.finish.ensures.ends)

pub returns-in-Err-judge_line-clause-rest : goal.returns-in-Err-judge_line-clause-rest
returns-in-Err-judge_line-clause-rest g c = λ means is limit m0 defined aside noted b.
    let st = c.lines.invariant.between in
    let app = app_as c.args.deployment.now.app in
    let item = means.item c.args.deployment.now.names in
    let f = explain_from app item st.items in
    let text = take c.in-Ok-Text.n c.next_line.new.into in
    let line = c.judge_line.ensures.line means is in
    let here : List Answer → Output = λ more. f (Line text ∷ more) in
    let now = waits_text (g.S.Source.at c.next_line.new.input) (g.K.Sink.at c.next_line.new.output) c.next_line.new.lines c.next_line.new.kept.items
    c.next_line.new.into c.in-Ok-Text.n f c.next_line.result (c.in-Ok-Text.is ∙ ap Ok c.in-Ok-Text.field-0-is) (said_unread _ _ st.items [])
    (st.waits means is limit m0 defined aside noted b) c.next_line.ensures.comes in
    let rule = c.in-Err-judge_line.rule in
    let kept : List ℕ = c.next_line.new.kept.items in
    waits_stop here now (λ more. ends-same _ _ _ _ _ _ (ap (behind kept)
    (said_broken _ _ st.items text rule more (ap (λ (n : ℕ). judged_line n (line_of item text)) (sym st.counted) ∙ sym line ∙ c.in-Err-judge_line.is) ∙ ap (broken_output rule) (sym st.counted)))
    c.break_kept.ensures.ends)

pub returns-in-Err-put_kept-clause-rest : goal.returns-in-Err-put_kept-clause-rest
returns-in-Err-put_kept-clause-rest g c = λ means is limit m0 defined aside noted b.
    let st = c.lines.invariant.between in
    let f = explain_from (app_as c.args.deployment.now.app) (means.item c.args.deployment.now.names) st.items in
    let here : List Answer → Output = λ more. f (Line (take c.in-Ok-Text.n c.next_line.new.into) ∷ more) in
    let now = waits_text (g.S.Source.at c.next_line.new.input) (g.K.Sink.at c.next_line.new.output) c.next_line.new.lines c.next_line.new.kept.items
    c.next_line.new.into c.in-Ok-Text.n f c.next_line.result (c.in-Ok-Text.is ∙ ap Ok c.in-Ok-Text.field-0-is) (said_unread _ _ st.items [])
    (st.waits means is limit m0 defined aside noted b) c.next_line.ensures.comes in
    waits_failed here now c.in-Err-put_kept.ensures

pub returns-in-Ok-clause-rest : goal.returns-in-Ok-clause-rest
returns-in-Ok-clause-rest g c = λ means is limit m0 defined aside noted b.
    let st = c.lines.invariant.between in
    let app = app_as c.args.deployment.now.app in
    let item = means.item c.args.deployment.now.names in
    let f = explain_from app item st.items in
    let text = take c.in-Ok-Text.n c.next_line.new.into in
    let line = c.judge_line.ensures.line means is in
    let here : List Answer → Output = λ more. f (Line text ∷ more) in
    let now = waits_text (g.S.Source.at c.next_line.new.input) (g.K.Sink.at c.next_line.new.output) c.next_line.new.lines c.next_line.new.kept.items
    c.next_line.new.into c.in-Ok-Text.n f c.next_line.result (c.in-Ok-Text.is ∙ ap Ok c.in-Ok-Text.field-0-is) (said_unread _ _ st.items [])
    (st.waits means is limit m0 defined aside noted b) c.next_line.ensures.comes in
    let last : List Answer → Output = λ more. stop_output st.items (stop_behind item (c.lines.number + 1) more) in
    let said : (more : List Answer) → here more ≡ last more = λ more.
    said_last _ item st.items text more (ap (λ (n : ℕ). judged_line n (line_of item text)) (sym st.counted) ∙ sym line ∙ (c.in-Ok-Last.is ∙ ap Ok c.in-Ok-Last.field-0-is))
    ∙ ap (λ (n : ℕ). stop_output st.items (stop_behind item (n + 1) more)) (sym st.counted) in
    let kept : List ℕ = c.next_line.new.kept.items in
    c.explain_end.ensures.rest means st.items is st.follows limit m0 defined aside noted
    (waits_written last refl (waits_more here last (λ more. ap (behind kept) (sym (said more))) now) c.in-Ok.ensures)

pub turn-requires-clause-few : goal.turn-requires-clause-few
turn-requires-clause-few g c =
    let st = c.lines.invariant.between in
    let t = st.follows.taken in
    let f = few_taken st.items in
    let n = st.counted in
    let few = on_ok (c.lines.number ≤ 4000000) c.judge_line.result _ (c.in-Ok-Item.is ∙ ap Ok c.in-Ok-Item.field-0-is) c.judge_line.ensures.few in
    omega (arith, t, f, n, few)

pub turn-requires-clause-room : goal.turn-requires-clause-room
turn-requires-clause-room g c = on_ok _ c.next_line.result _ (c.in-Ok-Text.is ∙ ap Ok c.in-Ok-Text.field-0-is) c.next_line.ensures.room

pub returns-in-Stop-clause-rest : goal.returns-in-Stop-clause-rest
returns-in-Stop-clause-rest g c = λ means is limit m0 defined aside noted b.
    let st = c.lines.invariant.between in
    let app = app_as c.args.deployment.now.app in
    let item = means.item c.args.deployment.now.names in
    let f = explain_from app item st.items in
    let text = take c.in-Ok-Text.n c.next_line.new.into in
    let line = c.judge_line.ensures.line means is in
    let here : List Answer → Output = λ more. f (Line text ∷ more) in
    let now = waits_text (g.S.Source.at c.next_line.new.input) (g.K.Sink.at c.next_line.new.output) c.next_line.new.lines c.next_line.new.kept.items
    c.next_line.new.into c.in-Ok-Text.n f c.next_line.result (c.in-Ok-Text.is ∙ ap Ok c.in-Ok-Text.field-0-is) (said_unread _ _ st.items [])
    (st.waits means is limit m0 defined aside noted b) c.next_line.ensures.comes in
    let i = c.in-Ok-Item.item in
    let j = c.in-Stop.ensures.judges st.items st.follows st.counted in
    let kept : List ℕ = c.next_line.new.kept.items in
    waits_stop here now (λ more. ends-same _ _ _ _ _ _ (ap (behind kept)
    (said_item app item st.items text i more (ap (λ (n : ℕ). judged_line n (line_of item text)) (sym st.counted) ∙ sym line ∙ (c.in-Ok-Item.is ∙ ap Ok c.in-Ok-Item.field-0-is))))
    (j.does (explain_from app item (st.items ++ i ∷ []) more)))

pub returns-in-Err-clause-wanted : goal.returns-in-Err-clause-wanted
returns-in-Err-clause-wanted g c = λ means is six. absurd (cc six)

pub returns-in-Ok-End-clause-wanted : goal.returns-in-Ok-End-clause-wanted
returns-in-Ok-End-clause-wanted g c = λ means is six. absurd (c.break_off.ensures.memory six)

pub returns-in-Ok-TooLong-clause-wanted : goal.returns-in-Ok-TooLong-clause-wanted
returns-in-Ok-TooLong-clause-wanted g c = λ means is six. absurd (c.break_off-in-Ok-TooLong.ensures.memory six)

pub returns-in-Ok-Failed-clause-wanted : goal.returns-in-Ok-Failed-clause-wanted
returns-in-Ok-Failed-clause-wanted g c = λ means is six. absurd (cc (six, c.finish.ensures.status (λ five. cc (six, five))))

pub returns-in-Err-judge_line-clause-wanted : goal.returns-in-Err-judge_line-clause-wanted
returns-in-Err-judge_line-clause-wanted g c = λ means is six. absurd (c.break_kept.ensures.memory six)

pub returns-in-Err-put_kept-clause-wanted : goal.returns-in-Err-put_kept-clause-wanted
returns-in-Err-put_kept-clause-wanted g c = λ means is six. absurd (cc six)

pub returns-in-Ok-clause-wanted : goal.returns-in-Ok-clause-wanted
returns-in-Ok-clause-wanted g c = λ means is six. absurd (c.explain_end.ensures.memory six)

pub returns-in-Stop-clause-wanted : goal.returns-in-Stop-clause-wanted
returns-in-Stop-clause-wanted g c = λ means is six.
    let st = c.lines.invariant.between in
    let came = came_text g.S.Source.tells g.K.Sink.tells (command_at (g.S.Source.at c.lines.input) (g.K.Sink.at c.lines.output))
    (command_at (g.S.Source.at c.next_line.new.input) (g.K.Sink.at c.next_line.new.output)) c.lines.kept.items c.next_line.new.kept.items c.lines.lines c.next_line.new.lines
    c.next_line.new.into c.in-Ok-Text.n c.next_line.result (c.in-Ok-Text.is ∙ ap Ok c.in-Ok-Text.field-0-is) c.next_line.ensures.comes in
    trace_wants c.next_line.new.into c.in-Ok-Text.n c.in-Ok-Item.item st.gave came
    (λ means is. sym (c.judge_line.ensures.line means is) ∙ (c.in-Ok-Item.is ∙ ap Ok c.in-Ok-Item.field-0-is))
    st.counted st.follows (c.in-Stop.ensures.memory (ap Stop six)) (c.in-Stop.ensures.wants (ap Stop six)) means is

pub lines-preserved : goal.lines-preserved
lines-preserved g c =
    let st = c.lines.invariant.between in
    let app = app_as c.args.deployment.now.app in
    let i = c.in-Ok-Item.item in
    let j = c.in-On.ensures.judges st.items st.follows st.counted in
    let few = on_ok (c.lines.number ≤ 4000000) c.judge_line.result _ (c.in-Ok-Item.is ∙ ap Ok c.in-Ok-Item.field-0-is) c.judge_line.ensures.few in record {
      between = record {
        few = omega (arith, few);
        items = st.items ++ i ∷ [];
        follows = j.follows refl;
        counted = (let l = length-append st.items (i ∷ []) in let n = st.counted in omega (arith, l, n));
        gave = trace_more c.next_line.new.into c.in-Ok-Text.n i st.gave
            (came_text g.S.Source.tells g.K.Sink.tells (command_at (g.S.Source.at c.lines.input) (g.K.Sink.at c.lines.output))
            (command_at (g.S.Source.at c.next_line.new.input) (g.K.Sink.at c.next_line.new.output)) c.lines.kept.items c.next_line.new.kept.items c.lines.lines c.next_line.new.lines
            c.next_line.new.into c.in-Ok-Text.n c.next_line.result (c.in-Ok-Text.is ∙ ap Ok c.in-Ok-Text.field-0-is) c.next_line.ensures.comes)
            (λ means is. sym (c.judge_line.ensures.line means is) ∙ (c.in-Ok-Item.is ∙ ap Ok c.in-Ok-Item.field-0-is));
        waits = λ means is limit m0 defined aside noted b.
            let item = means.item c.args.deployment.now.names in
            let f = explain_from app item st.items in
            let text = take c.in-Ok-Text.n c.next_line.new.into in
            let line = c.judge_line.ensures.line means is in
            let here : List Answer → Output = λ more. f (Line text ∷ more) in
            let now = waits_text (g.S.Source.at c.next_line.new.input) (g.K.Sink.at c.next_line.new.output) c.next_line.new.lines c.next_line.new.kept.items
            c.next_line.new.into c.in-Ok-Text.n f c.next_line.result (c.in-Ok-Text.is ∙ ap Ok c.in-Ok-Text.field-0-is) (said_unread _ _ st.items [])
            (st.waits means is limit m0 defined aside noted b) c.next_line.ensures.comes in
            let next : List Answer → Output = explain_from app item (st.items ++ i ∷ []) in
            let kept : List ℕ = c.next_line.new.kept.items in
            let said : (more : List Answer) → behind c.turn.new.kept.items (next more) ≡ behind kept (here more) = λ more. j.does.1 (next more)
            ∙ ap (behind kept) (sym (said_item app item st.items text i more (ap (λ (n : ℕ). judged_line n (line_of item text)) (sym st.counted) ∙ sym line
            ∙ (c.in-Ok-Item.is ∙ ap Ok c.in-Ok-Item.field-0-is)))) in
            let at : SinkAt → Type 0 = λ k. Waits g.S.Source.tells g.K.Sink.tells limit m0 (command_at (g.S.Source.at c.next_line.new.input) k) c.next_line.new.lines defined
            c.turn.new.kept.items next (Notes aside noted) in
            subst at (sym j.does.0) (waits_more here next said now);
      };
    }
