-- Each act that a schedule is made of keeps the tie.
use Rattle.std.proofs.Common.{◌≡◌, ℕ, List, Some, Result, Ok, Err, arith}
use Rattle.std.specs.Prelude.{slice_get, nat_lt}
use Rattle.sx_trace.specs.declared.items.Cause.TheVariants.{Asked}
use Rattle.spec_machine.specs.declared.kinds.Refused.{Refused}
use Rattle.spec_machine.specs.declared.kinds.Refused.TheVariants.{Busy, Guarded, Masked}
use Rattle.spec_machine.specs.Acts.{take as take_from}
use Rattle.spec_run.specs.Setting.{Setting}
use Rattle.spec_run.specs.State.{World}
use Rattle.spec_run.specs.Acts.{after_take}
use Rattle.spec_run.specs.Law.{IsSoundSetting}
use Rattle.std.proofs.lemmas.Bool.{and_parts, ltb-true}
use Rattle.lemmas.proofs.Lists.{get_some}
use Rattle.sx_mean.specs.Application.{PartTree}
use Rattle.spec_run.proofs.tie.Lists.{get_within}
use Rattle.spec_run.proofs.acts.Keeping.{Keeps, ActsKeep}
use Rattle.spec_run.proofs.acts.Compose.{Wordly}
use Rattle.spec_run.proofs.acts.Asking.{tied_packet, ask_fares, answered_fares}
use Rattle.spec_run.proofs.steps.Nodes.{reset_fares, reset_is_node}
use Rattle.spec_run.proofs.steps.Machine.{machine_laws, fresh_sections}
use Rattle.spec_run.proofs.acts.Interrupting.{irq_keeps}
use Rattle.spec_run.proofs.steps.Steps.{step_fares}
use Rattle.spec_run.proofs.steps.Fits.{drivers_fit}
use Rattle.spec_run.proofs.steps.Protecting.{foreign_steps}
use Rattle.spec_run.proofs.acts.Outside.{put_keeps, set_keeps}
use Rattle.spec_run.proofs.acts.Sensing.{sense_keeps}

took_fares : (set : Setting) (w : World) (n : ℕ) (r : Result (List ℕ) Refused) → Keeps set w (after_take w n r)
took_fares set w n (Ok bytes) mo t = tied_packet set w mo bytes t
took_fares set w n (Err Busy) mo t = t
took_fares set w n (Err Guarded) mo t = t
took_fares set w n (Err Masked) mo t = t

pub acts_keep : (set : Setting) → IsSoundSetting set → ActsKeep set
acts_keep set sound =
    let laws = machine_laws set.mac in
    record {
      step = λ w n s here mo t. step_fares set sound laws (drivers_fit set sound) (foreign_steps set sound laws (fresh_sections set.mac)) w mo n s t here;
      put = λ w n at bytes s here. put_keeps set w n at bytes s here;
      set_ = λ w n r v s rl vl here. set_keeps set w n r v s rl vl here;
      take = λ w n at len s here. took_fares set w n (take_from s at len).shown;
      packet = λ w bytes mo t. tied_packet set w mo bytes t;
      sense = λ w d v x s dev sensor lt here. sense_keeps set sound w d v x s dev sensor lt here;
      irq = λ w n line s lt here. irq_keeps set sound w n line s here;
      reset = λ w n s here mo t. reset_fares set w mo n s sound reset_is_node t here Asked w.steps;
      ask = λ w m lt lines mo t. ask_fares set w m lt lines mo t;
      answer = λ w m boot answer site sited mo t. answered_fares set w mo m site boot answer t;
    }

-- a site's numbers are words
pub are_wordly : (set : Setting) → IsSoundSetting set → Wordly set
are_wordly set sound m site sited =
    let q : (q : PartTree) × (slice_get set.app.parts m ≡ Some q) = get_some set.app.parts m (omega (arith, get_within set.sites m site sited, sound.sites)) in
    let d = sound.deployed m q.0 site q.1 sited in
    let b = and_parts (nat_lt site.layout.pub_from site.layout.pub_to) _ d.bounds in
    let c = and_parts (nat_lt site.layout.priv_from site.layout.priv_to) _ b.1 in
    record {
      provider = d.provider;
      pub_from = omega (arith, d.text_end, ltb-true site.layout.pub_from site.layout.pub_to b.0);
      pub_to = omega (arith, d.text_end);
      priv_from = omega (arith, d.data_end, ltb-true site.layout.priv_from site.layout.priv_to c.0);
      priv_to = omega (arith, d.data_end);
    }
