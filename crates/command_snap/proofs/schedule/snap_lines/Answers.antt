use Rattle.std.proofs.Common.{◌≡◌, ◌∙◌, ◌+◌, ◌∷◌, ◌++◌, [], ℕ, List, length, length-append, take, arith, ap, refl, subst, sym, Err}
use Rattle.sx_asm.specs.Assembled.{assembled}
use Rattle.sx_io.specs.Reading.{Answer, Line}
use Rattle.command_promise.specs.Told.{CommandEnds, Output, behind, read_line}
use Rattle.command_promise.proofs.Laws.{begun-line, begun-same, ends-same, ends-out-of-memory, prefix-none, told-stop, told-end, told-too-long, told-failed}
use Rattle.sx_deploy.specs.SeenDeployment.{deployed_as}
use Rattle.sx_sched.specs.Lines as lines
use Rattle.spec_run.specs.Accepted.{setting}
use Rattle.spec_run.specs.Setting.{Site}
use Rattle.command_world.specs.Schedule.{judged_line}
use Rattle.command_world.specs.Broken.{broken_output}
use Rattle.command_world.specs.Turning.{MayRunOut}
use Rattle.command_deploy.proofs.Given.{gave_last}
use Rattle.command_snap.specs.Output.{answers_from, snap_from}
use Rattle.command_snap.specs.Wants.{snap_may}
use Rattle.command_snap.proofs.Places.{line_may, queries_ran_out, schedule_more, schedule_none}
use Rattle.command_snap.proofs.Written.{asks_breaks, asks_end, asks_line, asks_long, asks_mark, asks_unread}
use Rattle.command_snap.proofs.schedule.snap_lines.Goals as goal

pub lines-init : goal.lines-init
lines-init g c = record {
  few = omega arith;
  counted = ap (λ (ls : List lines.Line). length ls + 1) c.requires.none;
  sites = refl;
  timeline = c.requires.timeline;
  gave = schedule_none _ _ _;
  begun = λ limit m0 defined aside noted b.
      let d = deployed_as c.args.deployment.now in
      let left = snap_from d.names (setting g.T.Tag.mac d c.args.timeline.now.sites) c.args.images.now in
      begun-same (left c.args.timeline.now.lines) (λ more. ap (λ (ls : List lines.Line). left ls more) (sym c.requires.none)) b;
}

pub returns-in-End-clause-rest : goal.returns-in-End-clause-rest
returns-in-End-clause-rest g c = λ limit m0 defined aside noted b.
    let d = deployed_as c.args.deployment.now in
    let set = setting g.T.Tag.mac d c.args.timeline.now.sites in
    let images = c.args.images.now in
    let before = c.lines.timeline.lines in
    told-end {f = snap_from d.names set images before} (asks_unread d.names set images before) (c.lines.invariant.begun limit m0 defined aside noted b)
    c.in-End.ensures.next (ends-same _ _ _ _ _ _ (asks_end d.names set images before) c.answer_none.ensures.ends)

pub returns-in-TooLong-clause-rest : goal.returns-in-TooLong-clause-rest
returns-in-TooLong-clause-rest g c = λ limit m0 defined aside noted b.
    let d = deployed_as c.args.deployment.now in
    let set = setting g.T.Tag.mac d c.args.timeline.now.sites in
    let images = c.args.images.now in
    let before = c.lines.timeline.lines in
    told-too-long {f = snap_from d.names set images before} (asks_unread d.names set images before) (c.lines.invariant.begun limit m0 defined aside noted b)
    c.in-TooLong.ensures.next
    (ends-same _ _ _ _ _ _ (asks_long d.names set images before ∙ ap (broken_output 1) c.lines.invariant.counted) c.break_off.ensures.ends)

pub returns-in-Failed-clause-rest : goal.returns-in-Failed-clause-rest
unfolding read_line
returns-in-Failed-clause-rest g c = λ limit m0 defined aside noted b.
    let d = deployed_as c.args.deployment.now in
    let set = setting g.T.Tag.mac d c.args.timeline.now.sites in
    let images = c.args.images.now in
    let before = c.lines.timeline.lines in
    told-failed {f = snap_from d.names set images before} (asks_unread d.names set images before) (c.lines.invariant.begun limit m0 defined aside noted b)
    c.in-Failed.ensures.next (ends-same _ _ _ _ _ _ (asks_unread d.names set images before) c.finish.ensures.ends)

pub returns-then-is_mark-clause-rest : goal.returns-then-is_mark-clause-rest
returns-then-is_mark-clause-rest g c = λ limit m0 defined aside noted b.
    let mac = g.T.Tag.mac in
    let d = deployed_as c.args.deployment.now in
    let set = setting mac d c.args.timeline.now.sites in
    let images = c.args.images.now in
    let before = c.lines.timeline.lines in
    let text = take c.in-Text.n c.next.new.into in
    let answers : List Site → List Answer → Output = λ sites more. behind images (answers_from d.names (setting mac d sites) before 1 more) in
    c.answer_all.ensures.rest limit m0 defined aside noted
    (begun-same (answers c.lines.timeline.sites)
    (λ more. asks_mark d.names set images before text more (sym c.is_mark.ensures ∙ c.if-is_mark.true) ∙ ap (λ (sites : List Site). answers sites more) (sym c.lines.invariant.sites))
    (begun-line (snap_from d.names set images before) (asks_unread d.names set images before) (c.lines.invariant.begun limit m0 defined aside noted b) c.in-Text.ensures.next))

pub returns-in-Err-Fault-clause-rest : goal.returns-in-Err-Fault-clause-rest
returns-in-Err-Fault-clause-rest g c = λ limit m0 defined aside noted b.
    let d = deployed_as c.args.deployment.now in
    let set = setting g.T.Tag.mac d c.args.timeline.now.sites in
    let images = c.args.images.now in
    let before = c.lines.timeline.lines in
    let text = take c.in-Text.n c.next.new.into in
    let rule = c.in-Err-Fault.rule in
    let judged : judged_line assembled d.names (length before + 1) text ≡ Err rule =
    ap (λ (n : ℕ). judged_line assembled d.names n text) c.lines.invariant.counted ∙ c.keep.ensures.rule rule (c.in-Err-Fault.is ∙ ap Err c.in-Err-Fault.field-0-is) in
    let P : ℕ → Type 0 = λ rule. CommandEnds g.K.Sink.tells (g.K.Sink.at c.lines.output) (g.K.Sink.at c.break_off-in-Err-Fault.new.output) c.break_off-in-Err-Fault.result
    (broken_output rule c.lines.number) in
    told-stop (begun-line (snap_from d.names set images before) (asks_unread d.names set images before) (c.lines.invariant.begun limit m0 defined aside noted b) c.in-Text.ensures.next)
    (λ more.
    ends-same _ _ _ _ _ _
    (asks_breaks d.names set images before text rule more (sym c.is_mark.ensures ∙ c.if-is_mark.false) judged ∙ ap (broken_output rule) c.lines.invariant.counted)
    (subst P c.in-Err-Fault.rule-is c.break_off-in-Err-Fault.ensures.ends))

pub returns-in-Err-OutOfMemory-clause-rest : goal.returns-in-Err-OutOfMemory-clause-rest
returns-in-Err-OutOfMemory-clause-rest g c = λ limit m0 defined aside noted b.
    let d = deployed_as c.args.deployment.now in
    let set = setting g.T.Tag.mac d c.args.timeline.now.sites in
    let images = c.args.images.now in
    let before = c.lines.timeline.lines in
    let text = take c.in-Text.n c.next.new.into in
    told-stop (begun-line (snap_from d.names set images before) (asks_unread d.names set images before) (c.lines.invariant.begun limit m0 defined aside noted b) c.in-Text.ensures.next)
    (λ more. ends-out-of-memory _ _ _ (snap_from d.names set images before (Line text ∷ more)) (λ t. prefix-none _ _ _ refl) refl)

pub returns-in-End-clause-wanted : goal.returns-in-End-clause-wanted
returns-in-End-clause-wanted g c = λ six. absurd (c.answer_none.ensures.memory six)

pub returns-in-TooLong-clause-wanted : goal.returns-in-TooLong-clause-wanted
returns-in-TooLong-clause-wanted g c = λ six. absurd (c.break_off.ensures.memory six)

pub returns-in-Failed-clause-wanted : goal.returns-in-Failed-clause-wanted
returns-in-Failed-clause-wanted g c = λ six. absurd (cc (six, c.finish.ensures.status (λ five. cc (six, five))))

pub returns-then-is_mark-clause-wanted : goal.returns-then-is_mark-clause-wanted
returns-then-is_mark-clause-wanted g c = λ six.
    let d = deployed_as c.args.deployment.now in
    let st = c.lines.invariant.gave in
    let last = length c.lines.timeline.lines in
    let same : last ≡ length st.gave.lines = (let k = c.lines.invariant.counted in let n = st.gave.numbered in omega (arith, k, n)) in
    queries_ran_out d c.next.new.into c.in-Text.n last st.gave c.in-Text.ensures.next st.schedule (sym c.is_mark.ensures ∙ c.if-is_mark.true) same
    (c.answer_all.ensures.wanted six)

pub returns-in-Err-Fault-clause-wanted : goal.returns-in-Err-Fault-clause-wanted
returns-in-Err-Fault-clause-wanted g c = λ six. absurd (c.break_off-in-Err-Fault.ensures.memory six)

pub returns-in-Err-OutOfMemory-clause-wanted : goal.returns-in-Err-OutOfMemory-clause-wanted
returns-in-Err-OutOfMemory-clause-wanted g c = λ six.
    let d = deployed_as c.args.deployment.now in
    let st = c.lines.invariant.gave in
    let text = take c.in-Text.n c.next.new.into in
    let P : ℕ → Type 0 = λ number. MayRunOut (judged_line assembled d.names number text) in
    let may = c.keep.ensures.memory (c.in-Err-OutOfMemory.is ∙ ap Err c.in-Err-OutOfMemory.field-0-is) in
    gave_last (snap_may d) c.next.new.into c.in-Text.n st.gave c.in-Text.ensures.next
    (line_may d st.gave.lines text st.schedule (sym c.is_mark.ensures ∙ c.if-is_mark.false) (subst P st.gave.numbered may))

pub lines-preserved : goal.lines-preserved
lines-preserved g c =
    let d = deployed_as c.args.deployment.now in
    let set = setting g.T.Tag.mac d c.args.timeline.now.sites in
    let images = c.args.images.now in
    let before = c.lines.timeline.lines in
    let after = c.keep.new.timeline.lines in
    let text = take c.in-Text.n c.next.new.into in
    let k = c.in-Ok.ensures.keeps in
    let long = length_more before k.line in
    let same : length after ≡ length (before ++ k.line ∷ []) = ap length k.kept in
    record {
      few = omega (arith, c.in-Ok.ensures.few);
      counted = omega (arith, same, long, c.lines.invariant.counted);
      sites = c.keep.ensures.sites ∙ c.lines.invariant.sites;
      timeline = c.keep.ensures.timeline;
      gave = schedule_more c.next.new.into c.in-Text.n c.lines.invariant.gave c.in-Text.ensures.next (sym c.is_mark.ensures ∙ c.if-is_mark.false);
      begun = λ limit m0 defined aside noted b.
          begun-same (snap_from d.names set images after)
          (λ more. asks_line d.names set images before text k.line more (sym c.is_mark.ensures ∙ c.if-is_mark.false) k.judged
          ∙ ap (λ (ls : List lines.Line). snap_from d.names set images ls more) (sym k.kept))
          (begun-line (snap_from d.names set images before) (asks_unread d.names set images before) (c.lines.invariant.begun limit m0 defined aside noted b) c.in-Text.ensures.next);
    }
  where
    length_more : (xs : List lines.Line) (x : lines.Line) → length (xs ++ x ∷ []) ≡ length xs + 1
    length_more xs x = length-append xs (x ∷ [])
