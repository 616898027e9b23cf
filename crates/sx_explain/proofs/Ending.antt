-- What a judge's call comes to.
use Rattle.std.proofs.Common.{◌≡◌, List, false, None, Result, Ok, Err, sym, ap, ◌∙◌, subst}
use Rattle.std.specs.Prelude.{IfOk, OnErr, OnOk}
use Rattle.std.proofs.lemmas.Result.{IfOk-weaker, on_err_weaker}
use Rattle.sx_mean.specs.Application.{AppTree}
use Rattle.sx_trace.specs.declared.items.Item.{Item}
use Rattle.sx_model.specs.Step.{step}
use Rattle.sx_explain.specs.declared.judge.Judged.{Judged}
use Rattle.sx_explain.specs.Judging.{judged}
use Rattle.sx_explain.specs.Followed.{items_after, FillsFor, Follows, IsFullFor, Seen, Stands, answered, taken_in}
use Rattle.sx_explain.proofs.Following.{answers, caught_up, follows, same_forged}

module _ (app : AppTree) (items : List Item) (item : Item) (old mid new : Seen) (h : Follows app items old) (e : old.has_forged ≡ false)
    (is : mid ≡ record old { causes = mid.causes; behind = None }) (fills : FillsFor old.behind old.model.sent old.causes mid.causes) (all : IsFullFor old.behind app.links old.model mid.causes) where
  stands : Stands app items mid
  stands = caught_up app items old mid h e is fills all

  same : mid.has_forged ≡ old.has_forged
  same = ap (λ (j : Seen). j.has_forged) is

  mid_follows : Follows app items mid
  mid_follows = same_forged app items old mid h same (ap (λ (j : Seen). j.taken) is) stands

  none : mid.behind ≡ None
  none = ap (λ (j : Seen). j.behind) is

  pub answer_is : {E : Type 0} (r : Result Judged E) → IfOk r (λ s. s ≡ answered app item mid (step app mid.model item)) → IfOk r (λ s. s ≡ judged app items item)
  answer_is r p =
      IfOk-weaker r (λ s. s ≡ answered app item mid (step app mid.model item)) (λ s. s ≡ judged app items item)
      (λ s q. q ∙ sym (answers app items item mid mid_follows (same ∙ e) stands none)) p

  pub follows_is : {E : Type 0} (r : Result Judged E) → IfOk r (λ s. s ≡ answered app item mid (step app mid.model item)) → OnOk r (new ≡ taken_in item mid (step app mid.model item))
      → IfOk r (λ s. Follows app (items_after items item s) new)
  follows_is (Ok x) p q =
      subst (λ s. Follows app (items_after items item s) new) (sym p)
      (subst (λ j. Follows app (items_after items item (answered app item mid (step app mid.model item))) j) (sym q) (follows app items item mid mid_follows (same ∙ e) stands none))
  follows_is (Err x) p q = tt

  pub err_is : {E : Type 0} (r : Result Judged E) → OnErr r (new ≡ mid) → OnErr r (Follows app items new)
  err_is r q = on_err_weaker r (λ z. subst (λ j. Follows app items j) (sym z) mid_follows) q
