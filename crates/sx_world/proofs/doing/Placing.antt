-- The place of a device among those of its node, counted over the devices before it.
use Rattle.std.proofs.Common.{◌≡◌, ℕ, zero, suc, ◌+◌, ◌<◌, ◌==◌, cond, Bool, List, [], ◌∷◌, length, drop, Some, refl, sym, ap, ◌∙◌}
use Rattle.std.specs.Prelude.{slice_get, if◌then◌else◌}
use Rattle.std.specs.List.{position_from}
use Rattle.std.proofs.lemmas.Bool.{eq-eqb}
use Rattle.std.specs.Prelude.{unwrap_or}
use Rattle.lemmas.proofs.Lists.{get_some}
use Rattle.sx_mean.specs.declared.apps.AppDevice.{AppDevice}
use Rattle.spec_run.specs.Setting.{devices_at}
use Rattle.spec_run.proofs.tie.Lists.{some_inj}

-- the d-th device itself
pub found : (ds : List AppDevice) (n d c : ℕ) (x : AppDevice) → x.node ≡ n → position_from (λ k. k == d) c (devices_at n d (x ∷ ds)) ≡ Some c
found ds n d c x here =
    ap (λ (b : Bool). position_from (λ k. k == d) c (if b then d ∷ devices_at n (d + 1) ds else devices_at n (d + 1) ds)) (eq-eqb x.node n here)
    ∙ ap (λ (b : Bool). cond b (Some c) (position_from (λ k. k == d) (c + 1) (devices_at n (d + 1) ds))) (eq-eqb d d refl)

drop_at : (ds : List AppDevice) (d : ℕ) (x : AppDevice) → slice_get ds d ≡ Some x → drop d ds ≡ x ∷ drop (suc d) ds
drop_at [] d x e = absurd cc
drop_at (y ∷ ds) zero x e = ap (λ z. z ∷ ds) (some_inj y x e)
drop_at (y ∷ ds) (suc d) x e = drop_at ds d x e

-- all devices before the d-th are counted
pub counted_all : (ds : List AppDevice) (n d i c : ℕ) → ((x : AppDevice) → slice_get ds d ≡ Some x → x.node ≡ n) → d < length ds → i ≡ d
    → position_from (λ k. k == d) c (devices_at n i (drop i ds)) ≡ position_from (λ k. k == d) 0 (devices_at n 0 ds)
    → c ≡ unwrap_or (position_from (λ k. k == d) 0 (devices_at n 0 ds)) 0
counted_all ds n d i c node lt same e =
    let f = get_some ds d lt in
    let there : position_from (λ k. k == d) c (devices_at n i (drop i ds)) ≡ Some c =
    ap (λ j. position_from (λ k. k == d) c (devices_at n j (drop j ds))) same
    ∙ ap (λ xs. position_from (λ k. k == d) c (devices_at n d xs)) (drop_at ds d f.0 f.1) ∙ found (drop (suc d) ds) n d c f.0 (node f.0 f.1) in
    ap (λ o. unwrap_or o 0) (sym there ∙ e)
