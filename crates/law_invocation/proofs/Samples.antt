-- A fresh sensor is read, and the handler of samples runs.
use Rattle.std.proofs.Common.{◌≡◌, ℕ, not, List, [], ◌∷◌, Some, refl, sym, ap, ◌∙◌, arith}
use Rattle.std.proofs.lemmas.Bool.{cond-true}
use Rattle.sx_mean.specs.declared.events.SourceEvent.TheVariants as event
use Rattle.sx_bus.specs.declared.devices.Window.{Window}
use Rattle.sx_bus.specs.Devices.{cleared}
use Rattle.spec_machine.specs.Run.{device_of, found, with_window}
use Rattle.spec_machine.proofs.Devices.{cleared_shapes, device_at_same, device_of_parts, window_same}
use Rattle.spec_invocation.specs.Protocol.{no_sample, sample_entry}
use Rattle.spec_invocation.specs.Setup.{Setup}
use Rattle.spec_invocation.specs.Marks.{Sampled}
use Rattle.spec_invocation.specs.Progress.{Progress, Returns, finished}
use Rattle.spec_invocation.specs.Acts.{handled}
use Rattle.spec_invocation.specs.Entries.{sample_of}
use Rattle.spec_invocation.specs.Invocation.{entered}
use Rattle.law_invocation.specs.Gives.{IsLowFree, beginning, low_call, index_in}
use Rattle.law_invocation.specs.Laws.{SampleReturns}
use Rattle.law_invocation.proofs.Making.{handler_makes}
use Rattle.law_invocation.proofs.Entering.{enters}

pub low_cleared : (su : Setup) (ds : List Window) (k : ℕ) → IsLowFree su ds → IsLowFree su (cleared ds k)
low_cleared su ds k low = record { lives = low.lives; sections = low.sections; free = λ at lt. device_at_same (cleared ds k) ds at (cleared_shapes ds k) ∙ low.free at lt }

-- a device whose sample was read keeps its index
index_cleared : (ds : List Window) (at k : ℕ) (w : Window) → device_of ds at ≡ Some (k, w) → index_in (device_of (cleared ds k) at) ≡ Some k
index_cleared ds at k w e =
    let p = device_of_parts ds at k w e in
    let v = window_same ds (cleared ds k) k w (sym (cleared_shapes ds k)) p.1 in
    ap (λ o. index_in (found (cleared ds k) o)) (device_at_same (cleared ds k) ds at (cleared_shapes ds k) ∙ p.0) ∙ ap (λ o. index_in (with_window k o)) v.1

pub sample_returns : SampleReturns
unfolding entered
sample_returns su st mem devices k window low tag few driver own fresh =
    let p = beginning st mem devices in
    let c = low_call sample_entry in
    let q : Progress = record p { devices = cleared devices k; marks = Sampled k window.value ∷ [] } in
    let made = handler_makes su (cleared devices k) (low_cleared su devices k low) tag c (omega arith) (Some k)
    (index_cleared devices su.section.layout.priv_from k window own) few (event.Sample window.value) q refl refl in
    record {
      mem = made.mem;
      is = enters su p sample_entry low (ap not driver)
          ∙ ap (λ o. sample_of su c o p) own
          ∙ cond-true _ (finished (handled su c (event.Sample window.value) q)) (Returns no_sample p) fresh
          ∙ ap finished made.is;
    }
