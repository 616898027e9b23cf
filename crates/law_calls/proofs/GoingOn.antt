-- Marks show no reset, no refusal and no want of steps.
use Rattle.std.proofs.Common.{◌≡◌, ℕ, ◌+◌, ◌*◌, ◌==◌, ◌&&◌, ◌||◌, Bool, true, false, if◌then◌else◌, List, [], ◌∷◌, length, Option, Some, refl, ap, ◌∙◌}
use Rattle.std.specs.List.{list_any}
use Rattle.std.proofs.lemmas.List.Folds.{list_any-append}
use Rattle.std.specs.Prelude.{unwrap_or}
use Rattle.sx_lang.specs.declared.sides.Side.TheVariants.{To}
use Rattle.sx_trace.specs.declared.items.Item.{Item}
use Rattle.sx_trace.specs.declared.items.Item.TheVariants as item
use Rattle.sx_ledger.specs.declared.entry.Maker.TheVariants as maker
use Rattle.spec_invocation.specs.Marks.{Mark, Wrapped, Unwrapped, Sampled, Actuated}
use Rattle.sx_mean.specs.Application.{AppTree}
use Rattle.spec_run.specs.Setting.{device_number}
use Rattle.sx_wire.specs.Headers.{is_ask, is_set_key_header, is_event_header, link_in, epoch_in, last_in, value_in}
use Rattle.sx_ledger.specs.Made.{Made, NO_TARGET}
use Rattle.spec_run.specs.Ledger.{made_entry, is_made}
use Rattle.spec_run.specs.Observation.{Observed, is_driver, unless_made, side_in, has_end, sender_of}
use Rattle.law_calls.specs.Shown.{is_stop, mark_observed, marks_observed}
use Rattle.law_calls.specs.Laws.{MarksGoOn}

abbrev GoesOn : List Item → Type 0
GoesOn is = list_any is_stop is ≡ false

either : (b : Bool) (x y : List Item) → GoesOn x → GoesOn y → GoesOn (if b then x else y)
either true x y h g = h
either false x y h g = g

seen_either : (b : Bool) (x y : Observed) → GoesOn x.items → GoesOn y.items → GoesOn (if b then x else y).items
seen_either true x y h g = h
seen_either false x y h g = g

made_goes_on : (who : Option ℕ) (b : Bool) (i : Item) → is_stop i ≡ false → GoesOn (unless_made who b i)
made_goes_on who true i h = ap (λ c. c || false) h
made_goes_on who false i h = ap (λ c. c || false) h

mark_goes_on : (app : AppTree) (n m boot : ℕ) (mark : Mark) (ledger : List Made) → GoesOn (mark_observed app n m boot mark ledger).items
mark_goes_on app n m boot (Wrapped header body own) ledger =
    seen_either (is_ask header && ((length body == 0) && own)) _ _ refl (seen_either (is_event_header header && (length body == 2)) _ _ refl refl)
mark_goes_on app n m boot (Unwrapped header body own) ledger =
    either (is_set_key_header header && has_end app m (link_in header) (side_in header)) _ _
    (made_goes_on (Some m) (is_made ledger (made_entry maker.Deployer m boot header body)) (item.Open m (link_in header) (side_in header) (epoch_in header)) refl)
    (either (is_event_header header && has_end app m (link_in header) To) _ _
    (made_goes_on (Some m) (is_made ledger (made_entry (maker.Module (sender_of app (link_in header))) NO_TARGET 0 header body))
    (item.Take m (link_in header) (65536 * epoch_in header + last_in header) (value_in body)) refl) refl)
mark_goes_on app n m boot (Sampled k v) ledger = go (is_driver app (Some m) (device_number app n k))
  where
    go : (b : Bool) → GoesOn ((if b then item.Read (unwrap_or (Some m) 0) v else item.Drain (device_number app n k)) ∷ [])
    go true = refl
    go false = refl
mark_goes_on app n m boot (Actuated k v) ledger = go (is_driver app (Some m) (device_number app n k))
  where
    go : (b : Bool) → GoesOn ((if b then item.Out (unwrap_or (Some m) 0) v else item.Raw (device_number app n k) v) ∷ [])
    go true = refl
    go false = refl

pub marks_go_on : MarksGoOn
marks_go_on app n m boot [] ledger = refl
marks_go_on app n m boot (mark ∷ ms) ledger =
    let o = mark_observed app n m boot mark ledger in
    list_any-append is_stop o.items (marks_observed app n m boot ms o.ledger).items
    ∙ ap (λ b. b || list_any is_stop (marks_observed app n m boot ms o.ledger).items) (mark_goes_on app n m boot mark ledger) ∙ marks_go_on app n m boot ms o.ledger
