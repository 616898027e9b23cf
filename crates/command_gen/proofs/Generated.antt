-- What follows for `gen` from what it wrote.
use Rattle.std.proofs.Common.{◌≡◌, inl, inr, ℕ, ◌∙◌, Bool, List, [], refl, sym, ap, arith, Result, Ok, Err, ◌≤◌, ◌⊎◌, subst}
use Rattle.sx_asm.specs.Assembled.{assembled}
use Rattle.sx_io.specs.Streams.{SinkAt}
use Rattle.command_promise.specs.declared.status.Status.{Status}
use Rattle.command_promise.specs.declared.status.Status.TheVariants as exit
use Rattle.command_promise.specs.Told.{CommandEnds, Output, behind}
use Rattle.command_promise.specs.Parts.{WroteSome}
use Rattle.command_promise.proofs.Laws.{ends-same, ends-behind, ran-out}
use Rattle.sx_tag.specs.Mac.{Mac}
use Rattle.sx_entries.specs.Gives.{GivesOne}
use Rattle.sx_entries.specs.declared.fault.DeployError.{DeployError}
use Rattle.sx_entries.specs.declared.fault.DeployError.TheVariants.{Fault, OutOfMemory}
use Rattle.sx_entries.specs.declared.fault.DeployFault.{DeployFault}
use Rattle.sx_deploy.specs.Deployment.{Deployed, IsRead}
use Rattle.sx_deploy.specs.SeenDeployment.{deployed_as}
use Rattle.sx_deploy.specs.declared.deployment.Deployment.{Deployment}
use Rattle.sx_deploy.proofs.Meanings.{one_meaning}
use Rattle.sx_bulk.specs.Bulk as bulk
use Rattle.command_head.specs.Meanings.{Meaning, IsMeaning}
use Rattle.command_head.specs.Ends.{EndsRefused}
use Rattle.command_gen.specs.Promise.{GenWrote, gen_found, GenPromise, GenWith, gen_run, told_at, workload}
use Rattle.sx_io.specs.Counts as count
use Rattle.sx_io.specs.Reading.{Answer}
use Rattle.spec_run.specs.Accepted.{setting_of}
use Rattle.spec_run.specs.Run.{run}
use Rattle.spec_run.specs.State.{Acted, switched_on}
use Rattle.command_world.specs.Broken.{broken_output}
use Rattle.command_world.specs.Schedule.{Stop, AtEnd, Breaks, schedule}
use Rattle.command_world.specs.Schedule as sched
use Rattle.command_world.specs.Status.{schedule_status, stop_status}
use Rattle.command_deploy.specs.Output.{found_status}
use Rattle.command_head.proofs.Known.{known, is_known}
use Rattle.command_deploy.proofs.Good.{found_not_two}
use Rattle.command_gen.proofs.Stated.{status_zero}

-- what `gen` writes where its deployment isn't read
pub gen_refused : {to_tell : Bool} {k0 k1 : SinkAt} {status : Status} (mac : Mac) (n : ℕ) (e : DeployError) → GivesOne {T = Deployment} deployed_as (Err e) (IsRead bulk.head)
    → EndsRefused to_tell k0 k1 status e → GenWrote mac n to_tell k0 k1 status
gen_refused {to_tell} {k0} {k1} {status} mac n (Fault f) read bad =
    inr (record {
      texts = [];
      realize = λ d other. absurd (cc (one_meaning bulk.head (Ok d) (Err f) other read));
      made = λ d other. absurd (cc (one_meaning bulk.head (Ok d) (Err f) other read));
      ends = λ meaning is. ends-same _ _ _ _ _ _ (ap (gen_found mac [] n) (one_meaning bulk.head (meaning bulk.head) (Err f) (is bulk.head) read)) bad.0;
    })
gen_refused {to_tell} {k0} {k1} {status} mac n OutOfMemory read bad = inl (record { six = bad.0; same = bad.1 })

-- a part was written, and after it the command ends
pub ends_put : (to_tell : Bool) (k0 k1 k2 : SinkAt) (status : Status) (text : List ℕ) (o : Output) → WroteSome to_tell k0 k1 (λ (more : List Answer). behind text o) (λ more. o)
    → CommandEnds to_tell k1 k2 status o → CommandEnds to_tell k0 k2 status (behind text o)
ends_put to_tell k0 k1 k2 status text o w e =
    ends-same to_tell k0 k2 status (behind text o) (behind w.text o) (w.same []) (ends-behind to_tell k0 k1 k2 w.text status o w.wrote w.no_fault e)

-- a line that breaks a rule, by equal numbers
pub ends_broken : {to_tell : Bool} {k0 k1 : SinkAt} {status : Status} {rule rule' number number' : ℕ} → rule ≡ rule' → number ≡ number'
    → CommandEnds to_tell k0 k1 status (broken_output rule number) → CommandEnds to_tell k0 k1 status (broken_output rule' number')
ends_broken {to_tell} {k0} {k1} {status} {rule} {rule'} {number} {number'} e f ends =
    let P : ℕ → Type 0 = λ n. CommandEnds to_tell k0 k1 status (broken_output rule' n) in
    let Q : ℕ → Type 0 = λ r. CommandEnds to_tell k0 k1 status (broken_output r number) in subst P f (subst Q e ends)

told_status : (n : ℕ) (a : Acted) (x : Stop) → (told_at n a x).status ≡ stop_status x
told_status n a AtEnd = refl
told_status n a sched.Unread = refl
told_status n a (Breaks rule number) = refl

gen_status : (mac : Mac) (texts : List (List ℕ)) (n : ℕ) (r : Result Deployed DeployFault) → (gen_found mac texts n r).status ≡ found_status (schedule_status assembled) r (workload n)
unfolding gen_run
gen_status mac texts n (Ok d) =
    let set = setting_of mac d texts in
    let x = schedule assembled d.names 1 (workload n) in told_status n (run set (switched_on set) x.lines) x.stop
gen_status mac texts n (Err f) = refl

exactly : {mac : Mac} {n : ℕ} {to_tell : Bool} {k0 k1 : SinkAt} {status : Status} (w : GenWith mac n to_tell k0 k1 status) (meaning : Meaning) → IsMeaning meaning
    → (count.Rose k0.faults k1.faults → ⊥) → (status ≡ exit.OutOfMemory) ⊎ (status ≡ found_status (schedule_status assembled) (meaning bulk.head) (workload n))
exactly {mac} {n} {to_tell} {k0} {k1} {status} w meaning is quiet =
    let e = w.ends meaning is in
    elim (ran-out status) [
      | inl six ↦ inl six
      | inr six ↦ inr ((e.whole (λ five. quiet (omega (arith, e.fault five))) six).0 ∙ gen_status mac w.texts n (meaning bulk.head))
    ]

-- the workload is a good input
ends_good : {mac : Mac} {n : ℕ} {to_tell : Bool} {k0 k1 : SinkAt} {status : Status} → GenWith mac n to_tell k0 k1 status → n ≤ 8000
    → (count.Rose k0.faults k1.faults → ⊥) → (status ≡ exit.OutOfMemory) ⊎ (status ≡ exit.Done)
ends_good {n = n} w few quiet =
    elim (exactly w known is_known quiet) [
      | inl six ↦ inl six
      | inr same ↦ inr (same ∙ status_zero known is_known n few)
    ]

pub wrote_told : {mac : Mac} {n : ℕ} {to_tell : Bool} {k0 k1 : SinkAt} {status : Status} → n ≤ 8000 → GenWrote mac n to_tell k0 k1 status → GenPromise mac n to_tell k0 k1 status
wrote_told {mac} {n} {to_tell} {k0} {k1} {status} few (inl s) = record {
  says = inl s;
  exact = λ meaning is quiet. inl s.six;
  good = λ quiet. inl s.six;
  write = λ five. absurd (cc (s.six, five));
  no_write = λ other. ap (λ (k : SinkAt). k.faults) s.same;
}
wrote_told {mac} {n} {to_tell} {k0} {k1} {status} few (inr w) = record {
  says = inr w;
  exact = λ meaning is quiet. exactly w meaning is quiet;
  good = λ quiet. ends_good w few quiet;
  write = λ five. (w.ends known is_known).fault five;
  no_write = λ other. (w.ends known is_known).no_fault other;
}

with_not_two : {mac : Mac} {n : ℕ} {to_tell : Bool} {k0 k1 : SinkAt} {status : Status} → GenWith mac n to_tell k0 k1 status → status ≡ exit.Misused → ⊥
with_not_two {mac} {n} w two =
    found_not_two (known bulk.head) (workload n)
    (sym (gen_status mac w.texts n (known bulk.head)) ∙ sym ((w.ends known is_known).whole (λ five. cc (two, five)) (λ six. cc (two, six))).0 ∙ two)

pub gen_not_two : {mac : Mac} {n : ℕ} {to_tell : Bool} {k0 k1 : SinkAt} {status : Status} → GenPromise mac n to_tell k0 k1 status → status ≡ exit.Misused → ⊥
gen_not_two g two =
    elim g.says [
      | inl starved ↦ cc (starved.six, two)
      | inr w ↦ with_not_two w two
    ]
