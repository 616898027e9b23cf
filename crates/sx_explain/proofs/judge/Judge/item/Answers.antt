use Rattle.std.proofs.Common.{◌≡◌, ◌∙◌, false, true, is_some, refl, sym, ap}
use Rattle.std.proofs.lemmas.Result.{on_err_weaker}
use Rattle.std.proofs.lemmas.Bool.{or_right}
use Rattle.sx_mean.specs.View.{app_as}
use Rattle.sx_mean.proofs.ValidApplications.{valid_applications}
use Rattle.sx_explain.specs.Followed.{Seen}
use Rattle.sx_model.specs.Memory.{may_take_memory}
use Rattle.sx_explain.proofs.Ending.{answer_is, err_is, follows_is}
use Rattle.sx_explain.proofs.Following.{tried_up, unjudged_follows}
use Rattle.sx_explain.proofs.judge.Judge.item.Goals as goal
use Rattle.lemmas.proofs.Results.{on_any_err}

pub catch_up-requires : goal.catch_up-requires
catch_up-requires c = (valid_applications (app_as c.args.app.now) c.requires.valid).few_links

pub returns-clause-answer : goal.returns-clause-answer
returns-clause-answer c items h =
    let e : c.args.self.now.has_forged ≡ false = (ap (λ (j : Seen). j.has_forged) (sym c.self.view_is) ∙ c.if-self.false) in
    answer_is (app_as c.args.app.now) items c.args.item.now c.args.self.now c.catch_up.new.self c.judge_next.new.self h e c.in_ok-catch_up.ensures.ok c.in_ok-catch_up.ensures.fills
    c.in_ok-catch_up.ensures.all c.judge_next.result c.judge_next.ensures.answer

pub returns-clause-follows : goal.returns-clause-follows
returns-clause-follows c items h =
    let e : c.args.self.now.has_forged ≡ false = (ap (λ (j : Seen). j.has_forged) (sym c.self.view_is) ∙ c.if-self.false) in
    follows_is (app_as c.args.app.now) items c.args.item.now c.args.self.now c.catch_up.new.self c.judge_next.new.self h e c.in_ok-catch_up.ensures.ok c.in_ok-catch_up.ensures.fills
    c.in_ok-catch_up.ensures.all c.judge_next.result c.judge_next.ensures.answer c.judge_next.ensures.kept

pub returns-clause-err : goal.returns-clause-err
returns-clause-err c items h =
    let e : c.args.self.now.has_forged ≡ false = (ap (λ (j : Seen). j.has_forged) (sym c.self.view_is) ∙ c.if-self.false) in
    err_is (app_as c.args.app.now) items c.args.item.now c.args.self.now c.catch_up.new.self c.judge_next.new.self h e c.in_ok-catch_up.ensures.ok c.in_ok-catch_up.ensures.fills
    c.in_ok-catch_up.ensures.all c.judge_next.result c.judge_next.ensures.err

pub returns-in_err-catch_up-clause-err : goal.returns-in_err-catch_up-clause-err
returns-in_err-catch_up-clause-err c items h =
    let e : c.args.self.now.has_forged ≡ false = (ap (λ (j : Seen). j.has_forged) (sym c.self.view_is) ∙ c.if-self.false) in
    on_any_err c.from_residual.result
    (tried_up (app_as c.args.app.now) items c.args.self.now c.catch_up.new.self h e c.in_err-catch_up.ensures.err c.in_err-catch_up.ensures.fills)

pub returns-clause-memory : goal.returns-clause-memory
returns-clause-memory c = on_err_weaker c.judge_next.result (λ e. rw e refl) c.judge_next.ensures.memory

pub returns-in_err-catch_up-clause-memory : goal.returns-in_err-catch_up-clause-memory
returns-in_err-catch_up-clause-memory c =
    on_any_err c.from_residual.result (or_right (may_take_memory c.args.item.now) (is_some c.args.self.now.behind) c.in_err-catch_up.ensures.memory)

pub returns-then-self-clause-follows : goal.returns-then-self-clause-follows
returns-then-self-clause-follows c items h =
    let e : c.args.self.now.has_forged ≡ true = (ap (λ (j : Seen). j.has_forged) (sym c.self.view_is) ∙ c.if-self.true) in
    unjudged_follows (app_as c.args.app.now) items c.args.item.now c.args.self.now h e

pub returns-clause-unjudged : goal.returns-clause-unjudged
returns-clause-unjudged c forged =
    let e : c.args.self.now.has_forged ≡ false = (ap (λ (j : Seen). j.has_forged) (sym c.self.view_is) ∙ c.if-self.false) in
    absurd (let z : true ≡ false = sym forged ∙ e in cc)

pub returns-in_err-catch_up-clause-unjudged : goal.returns-in_err-catch_up-clause-unjudged
returns-in_err-catch_up-clause-unjudged c forged =
    let e : c.args.self.now.has_forged ≡ false = (ap (λ (j : Seen). j.has_forged) (sym c.self.view_is) ∙ c.if-self.false) in
    absurd (let z : true ≡ false = sym forged ∙ e in cc)
