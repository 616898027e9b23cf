-- Worked runs that aren't one at a time.
use Rattle.std.proofs.Common.{◌≡◌, ◌<◌, true, false, [], ◌∷◌, ◌++◌, refl, None, Some, arith}
use Rattle.std.proofs.lemmas.List.Elements.{All-head}
use Rattle.sx_trace.specs.declared.items.Item.TheVariants as item
use Rattle.sx_mean.specs.Worked.{eye, lamp}
use Rattle.sx_model.specs.Worked.{loaded, sent}
use Rattle.sx_model.specs.order.Given.{IsGiven}
use Rattle.sx_model.specs.order.Laws.{TurnsAreKept}

false_true : false ≡ true → ⊥
false_true e = cc

pub turns_are_kept : TurnsAreKept
unfolding Rattle.sx_model.specs.State.FIELDS
turns_are_kept = record {
  unfinished = refl;
  not_unfinished = λ h. false_true (h (loaded ++ sent) [] [] (item.Take 2 1 0 1) (item.Protect 1 None) 2 (record { node = 1; device = Some 1; tree = lamp }) refl refl refl refl refl);
  late = refl;
  not_late = λ h. false_true (h (loaded ++ item.Sense 0 120 ∷ []) [] (item.Done 1 1 1 ∷ item.Done 0 1 1 ∷ []) (item.Read 0 120) (item.Take 1 0 0 120) 0 (record { node = 0; device = Some 0; tree = eye }) refl refl refl refl refl);
  high = refl;
  not_high = λ h. too_high (All-head IsGiven (item.Sense 0 65535) [] h);
}
  where
    too_high : 65535 < 32768 → ⊥
    too_high h = absurd (omega (arith, h))
