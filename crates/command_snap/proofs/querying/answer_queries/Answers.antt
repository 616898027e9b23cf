use Rattle.std.proofs.Common.{◌+◌, ◌∷◌, ◌++◌, [], List, ℕ, ap, length, subst, sym, take, arith, refl}
use Rattle.std.specs.Prelude.{IsOk}
use Rattle.std.proofs.lemmas.List.Elements.{All-nil}
use Rattle.sx_io.specs.Reading.{Line}
use Rattle.command_promise.specs.Told.{read_line}
use Rattle.command_promise.specs.declared.turned.Turned.TheVariants.{Stop}
use Rattle.command_promise.proofs.Laws.{begun-line, begun-put, told-stop, told-end, told-too-long, told-failed}
use Rattle.sx_deploy.specs.SeenDeployment.{deployed_as}
use Rattle.spec_run.specs.Accepted.{setting}
use Rattle.command_text.specs.Output.{end_line}
use Rattle.command_head.proofs.Given.{given_line, wants_last}
use Rattle.command_deploy.proofs.Given.{gave_line, gave_none}
use Rattle.command_snap.specs.declared.answering.Answered.{Answered}
use Rattle.command_snap.specs.Foreseen.{AreAnswers}
use Rattle.command_snap.specs.Kept.{query_may}
use Rattle.command_snap.specs.Input.{judged_query}
use Rattle.command_snap.specs.Output.{answers_from}
use Rattle.command_snap.proofs.querying.answer_queries.Goals as goal

pub queries-init : goal.queries-init
queries-init g c =
    let d = deployed_as c.args.deployment.now in
    let Q : List Answered → Type 0 = λ answers. AreAnswers d.names (setting g.T.Tag.mac d c.args.timeline.now.sites) c.args.timeline.now.lines answers in
    record { few = omega arith; answers = subst Q (sym c.new-foreseen.ensures) (All-nil _); begun = λ limit m0 defined aside noted b. b; gave = gave_none _ _ _ }

pub returns-in-End-clause-rest : goal.returns-in-End-clause-rest
unfolding end_line
returns-in-End-clause-rest g c = λ limit m0 defined aside noted b.
    let d = deployed_as c.args.deployment.now in
    let ask = answers_from d.names (setting g.T.Tag.mac d c.args.timeline.now.sites) c.args.timeline.now.lines in
    told-end {f = ask c.queries.number} refl (c.queries.invariant.begun limit m0 defined aside noted b) c.in-End.ensures.next c.finish.ensures.ends

pub returns-in-TooLong-clause-rest : goal.returns-in-TooLong-clause-rest
returns-in-TooLong-clause-rest g c = λ limit m0 defined aside noted b.
    let d = deployed_as c.args.deployment.now in
    let ask = answers_from d.names (setting g.T.Tag.mac d c.args.timeline.now.sites) c.args.timeline.now.lines in
    told-too-long {f = ask c.queries.number} refl (c.queries.invariant.begun limit m0 defined aside noted b) c.in-TooLong.ensures.next c.break_query.ensures.ends

pub returns-in-Failed-clause-rest : goal.returns-in-Failed-clause-rest
unfolding read_line
returns-in-Failed-clause-rest g c = λ limit m0 defined aside noted b.
    let d = deployed_as c.args.deployment.now in
    let ask = answers_from d.names (setting g.T.Tag.mac d c.args.timeline.now.sites) c.args.timeline.now.lines in
    told-failed {f = ask c.queries.number} refl (c.queries.invariant.begun limit m0 defined aside noted b) c.in-Failed.ensures.next c.finish-in-Failed.ensures.ends

pub returns-in-Stop-clause-rest : goal.returns-in-Stop-clause-rest
returns-in-Stop-clause-rest g c = λ limit m0 defined aside noted b.
    let d = deployed_as c.args.deployment.now in
    let left = answers_from d.names (setting g.T.Tag.mac d c.args.timeline.now.sites) c.args.timeline.now.lines in
    let text = take c.in-Text.n c.next.new.into in
    told-stop (begun-line (left c.queries.number) refl (c.queries.invariant.begun limit m0 defined aside noted b) c.in-Text.ensures.next)
    c.in-Stop.ensures.does

pub returns-in-End-clause-wanted : goal.returns-in-End-clause-wanted
returns-in-End-clause-wanted g c = λ six. absurd (cc (six, c.finish.ensures.status (λ five. cc (six, five))))

pub returns-in-TooLong-clause-wanted : goal.returns-in-TooLong-clause-wanted
returns-in-TooLong-clause-wanted g c = λ six. absurd (c.break_query.ensures.memory six)

pub returns-in-Failed-clause-wanted : goal.returns-in-Failed-clause-wanted
returns-in-Failed-clause-wanted g c = λ six. absurd (cc (six, c.finish-in-Failed.ensures.status (λ five. cc (six, five))))

pub returns-in-Stop-clause-wanted : goal.returns-in-Stop-clause-wanted
returns-in-Stop-clause-wanted g c = λ six.
    let names = (deployed_as c.args.deployment.now).names in
    let last = length c.args.timeline.now.lines in
    let text = take c.in-Text.n c.next.new.into in
    let gave = c.queries.invariant.gave in
    let P : ℕ → Type 0 = λ number. IsOk (judged_query names last number text) in (
      gave.lines ++ Line text ∷ [],
      given_line gave.lines c.next.new.into c.in-Text.n gave.since c.in-Text.ensures.next,
      wants_last (query_may names last) gave.lines c.next.new.into c.in-Text.n gave.since c.in-Text.ensures.next (subst P gave.numbered (c.in-Stop.ensures.memory (ap Stop six))),
    )

pub queries-preserved : goal.queries-preserved
queries-preserved g c =
    let d = deployed_as c.args.deployment.now in
    let left = answers_from d.names (setting g.T.Tag.mac d c.args.timeline.now.sites) c.args.timeline.now.lines in
    let text = take c.in-Text.n c.next.new.into in
    record {
      few = omega (arith, c.in-On.ensures.few refl);
      answers = c.in-On.ensures.answers refl;
      begun = λ limit m0 defined aside noted b.
          begun-put (λ more. left c.queries.number (Line text ∷ more)) (left (c.queries.number + 1))
          (begun-line (left c.queries.number) refl (c.queries.invariant.begun limit m0 defined aside noted b) c.in-Text.ensures.next)
          c.in-On.ensures.does;
      gave = gave_line c.next.new.into c.in-Text.n c.queries.invariant.gave c.in-Text.ensures.next;
    }
