use Rattle.std.proofs.Common.{◌≡◌, ◌≤◌, ℕ, List, length, slice_index_or, subst, sym}
use Rattle.std.proofs.lemmas.List.Elements.{All-push}
use Rattle.sx_deploy.specs.SeenDeployment.{deployed_as}
use Rattle.spec_run.specs.Accepted.{setting}
use Rattle.command_snap.specs.declared.answering.Answered.{Answered}
use Rattle.command_snap.specs.declared.queries.Query.TheVariants.{Blank}
use Rattle.command_snap.specs.Asked.{IsAsked}
use Rattle.command_snap.specs.Answers.{answer_text}
use Rattle.command_snap.specs.Foreseen.{AreAnswers}
use Rattle.command_snap.proofs.Reached.{before_within}
use Rattle.command_snap.proofs.answering.answer_together.Goals as goal

pub seek-requires-clause-within : goal.seek-requires-clause-within
seek-requires-clause-within g c =
    c.first_before-reached.ensures (deployed_as c.args.deployment.now).names (length c.args.timeline.now.lines) c.requires.asked

pub advance-requires-clause-within : goal.advance-requires-clause-within
advance-requires-clause-within g c =
    let names = (deployed_as c.args.deployment.now).names in
    let last = length c.args.timeline.now.lines in
    let query = slice_index_or c.args.queries.now c.loop-query.query-index Blank in
    let asked : IsAsked names last query = c.requires.asked c.loop-query.query-index Blank c.loop-query-test.true in
    subst (λ (n : ℕ). n ≤ last) (sym c.lines_before-at.ensures) (before_within names last query asked)

pub loop-query-preserved : goal.loop-query-preserved
loop-query-preserved g c =
    let d = deployed_as c.args.deployment.now in
    let lines = c.args.timeline.now.lines in
    let set = setting g.T.Tag.mac d c.args.timeline.now.sites in
    let P : Answered → Type 0 = λ a. a.text.items ≡ answer_text d.names set lines a.query in
    let Q : List Answered → Type 0 = λ answers. AreAnswers d.names set lines answers in
    record {
      answers = subst Q (sym c.in_ok-push.ensures.items) (All-push P _ _ c.loop-query.invariant.answers c.in_ok-text.ensures);
      stands = c.in_ok-advance.ensures.world;
    }
