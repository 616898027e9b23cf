-- From a head that was read to what a command that deploys says.
use Rattle.std.proofs.Common.{◌≡◌, inl, inr, ℕ, ◌∙◌, Bool, List, [], refl, sym, ap, Result, Ok, Err, ◌∷◌, subst, Option, Some, None}
use Rattle.std.specs.Prelude.{IfErr, IfOk, OnErr}
use Rattle.sx_io.specs.Streams.{SourceAt, SinkAt}
use Rattle.sx_io.specs.Next.{Ahead}
use Rattle.sx_io.specs.Reading.{Answer}
use Rattle.command_promise.specs.declared.status.Status.{Status}
use Rattle.command_promise.specs.declared.status.Status.TheVariants as exit
use Rattle.command_promise.specs.Told.{CommandEnds, command_at, Output, CommandAt, Told, unread_output}
use Rattle.command_promise.specs.Parts.{Notes}
use Rattle.command_promise.specs.Reads.{Reads, anything}
use Rattle.command_promise.specs.Got.{Got}
use Rattle.command_promise.proofs.Laws.{ends-same, told-stop, begun-got, told-reads}
use Rattle.command_promise.proofs.Takings.{decides-map, got-also, reads-map, reads-stop}
use Rattle.sx_tag.specs.Mac.{Mac}
use Rattle.sx_entries.specs.Fault.{fault}
use Rattle.sx_entries.specs.Gives.{GivesOne}
use Rattle.sx_entries.specs.declared.fault.DeployError.{DeployError}
use Rattle.sx_entries.specs.declared.fault.DeployError.TheVariants.{Fault, OutOfMemory}
use Rattle.sx_entries.specs.declared.fault.DeployFault.{DeployFault}
use Rattle.sx_entries.specs.declared.fault.Place.TheVariants.{Nowhere}
use Rattle.command_promise.specs.Head.{Head, Found, TooLong, NoMark, Unread, head, head_lines}
use Rattle.command_promise.specs.HeadRead.{HeadRead}
use Rattle.command_promise.specs.declared.head.HeadFault.{HeadFault}
use Rattle.command_promise.specs.declared.head.HeadFault.TheVariants as none
use Rattle.sx_deploy.specs.Deployment.{Deployed, IsRead}
use Rattle.sx_deploy.specs.SeenDeployment.{deployed_as}
use Rattle.sx_deploy.specs.declared.deployment.Deployment.{Deployment}
use Rattle.sx_deploy.proofs.Meanings.{one_meaning}
use Rattle.spec_run.specs.Accepted.{AreByteTexts}
use Rattle.command_head.specs.Begun.{HasHead}
use Rattle.command_head.specs.Headless.{EndsHeadless}
use Rattle.command_head.specs.Meanings.{Meaning}
use Rattle.command_head.specs.Refused.{fault_output}
use Rattle.command_head.specs.Ends.{EndsRefused}
use Rattle.command_head.proofs.Given.{ran_out_at, ran_out_behind}
use Rattle.command_deploy.specs.Afterwards.{DeployTold, DeploysBehind, DeploysOrRanOut, found_output, head_output}
use Rattle.command_deploy.specs.Output.{OwnOutput, Wants, deploy_output}

no_bytes : AreByteTexts []
no_bytes m t e = absurd (cc e)

-- what is done after a head of a text
pub does_read : {tells to_tell : Bool} {now : Ahead} {s0 s1 : SourceAt} {k0 k1 : SinkAt} {status : Status} (mac : Mac) (own : OwnOutput) (may : Wants) (text : List ℕ) (r : Result Deployment DeployError)
    → GivesOne deployed_as r (IsRead text)
    → IfOk r (λ d. (text : List ℕ) → IsRead text (Ok (deployed_as d)) → DeploysOrRanOut mac own may tells to_tell now (command_at s0 k0) (command_at s1 k1) status text)
    → IfErr r (λ e. EndsRefused to_tell k0 k1 status e) → OnErr r (s1 ≡ s0) → DeploysOrRanOut mac own may tells to_tell now (command_at s0 k0) (command_at s1 k1) status text
does_read {tells} {to_tell} {now} {s0} {s1} {k0} {k1} {status} mac own may text (Ok d) read good bad same = good text read
does_read {tells} {to_tell} {now} {s0} {s1} {k0} {k1} {status} mac own may text (Err (Fault f)) read good bad same =
    rw same (inr (record {
      texts = [];
      realize = λ d other. absurd (cc (one_meaning text (Ok d) (Err f) other read));
      made = λ d other. absurd (cc (one_meaning text (Ok d) (Err f) other read));
      bytes = no_bytes;
      rest = λ meaning is limit m0 defined aside noted b.
          told-stop b
          (λ more. ends-same _ _ _ _ _ _ (ap (λ (r : Result Deployed DeployFault). found_output own [] r more) (one_meaning text (meaning text) (Err f) (is text) read)) bad.0);
      wanted = λ six. absurd (bad.1 six);
    }))
does_read {tells} {to_tell} {now} {s0} {s1} {k0} {k1} {status} mac own may text (Err OutOfMemory) read good bad same =
    inl (record { six = bad.0; same = cc (same, bad.1) })

-- the text of a head after a one; nothing where there is none
abbrev marked : Head → List ℕ
marked (Found text more) = 1 ∷ text
marked TooLong = []
marked NoMark = []
marked Unread = []

abbrev marked_in : List Answer → List ℕ
marked_in answers = marked (head answers)

has_head : (h : Head) (text : List ℕ) → marked h ≡ 1 ∷ text → HasHead (Some text) h
has_head (Found found more) text e = cc
has_head TooLong text e = absurd (cc e)
has_head NoMark text e = absurd (cc e)
has_head Unread text e = absurd (cc e)

-- what is said of the answers, in other words
told_also : {tells to_tell : Bool} {m0 m1 : CommandAt} {status : Status} {F : List Answer → Output} {also : List Answer → Type 0} (then : List Answer → Type 0)
    → ((answers : List Answer) → also answers → then answers) → Told tells to_tell head_lines m0 m1 status F also → Told tells to_tell head_lines m0 m1 status F then
told_also {tells} {to_tell} {m0} {m1} {status} {F} {also} then h told =
    let r = told.reads in record {
      said = told.said;
      part = told.part;
      wrote = told.wrote;
      reads = record {
        taken = r.taken;
        from_source = r.from_source;
        left = r.left;
        decides = decides-map r.left tells head_lines m0.source m1.source r.taken (λ answers. CommandEnds to_tell m0.sink m1.sink status (F answers) × also answers)
            (λ answers. CommandEnds to_tell m0.sink m1.sink status (F answers) × then answers) (λ answers w. (w.0, h answers w.1)) r.decides;
        reach = r.reach;
      };
    }

is_some : (text : List ℕ) → ◌≡◌ {A = Option (List ℕ)} (Some text) None → ⊥
is_some text e = cc

-- a head was read, and the rest was done
told_found : {tells to_tell : Bool} {s0 s1 : SourceAt} {k0 : SinkAt} {now : Ahead} {m2 : CommandAt} {status : Status} (mac : Mac) (own : OwnOutput) (may : Wants) (text : List ℕ)
    → HeadRead tells s0 s1 now (Ok text) → DeploysBehind mac own may tells to_tell now (command_at s1 k0) m2 status text → DeployTold mac own may tells to_tell (command_at s0 k0) m2 status
told_found {tells} {to_tell} {s0} {s1} {k0} {now} {m2} {status} mac own may text got does = record {
  says = inr (record {
    deployment = Some text;
    texts = does.texts;
    bytes = does.bytes;
    headed = λ e six. is_some text e;
    realize = does.realize;
    made = does.made;
    told = λ meaning is.
        told_also (λ answers. HasHead (Some text) (head answers)) (λ answers e. has_head (head answers) text e)
        (does.rest meaning is head_lines (command_at s0 k0) (deploy_output own meaning does.texts) marked_in (1 ∷ text)
        (begun-got (head_output own meaning does.texts) refl (got-also (Notes marked_in (1 ∷ text)) (λ answers more e. ap marked e) got)));
  });
  memory = λ six.
      let w = does.wanted six in ran_out_at {m0 = command_at s0 k0} {m1 = m2} {begun = s1} {old = now} {new = w.2} may text w.0 w.1 got w.3;
}

-- there is none
told_none : {tells to_tell : Bool} {s0 s1 : SourceAt} {k0 k1 : SinkAt} {status : Status} (mac : Mac) (own : OwnOutput) (may : Wants) (h : Head) (o : Output) → HasHead None h
    → ((meaning : Meaning) → head_output own meaning [] h ≡ o) → Reads tells head_lines s0 s1 head Unread (λ answers. head answers ≡ h) → CommandEnds to_tell k0 k1 status o
    → (status ≡ exit.OutOfMemory → ⊥) → DeployTold mac own may tells to_tell (command_at s0 k0) (command_at s1 k1) status
told_none {tells} {to_tell} {s0} {s1} {k0} {k1} {status} mac own may h o none e r w never = record {
  says = inr (record {
    deployment = None;
    texts = [];
    bytes = no_bytes;
    headed = λ n. never;
    realize = λ d deploys. absurd deploys;
    made = λ d deploys. absurd deploys;
    told = λ meaning is.
        told-reads (head_output own meaning []) o refl r (λ answers q. (ap (head_output own meaning []) q ∙ e meaning, let P : Head → Type 0 = HasHead None in subst P (sym q) none)) w;
  });
  memory = λ six. absurd (never six);
}

-- memory ran out after a head, and nothing was written
told_out_of_memory : {tells to_tell : Bool} {s0 s1 : SourceAt} {k : SinkAt} {now : Ahead} (mac : Mac) (own : OwnOutput) (may : Wants) (text : List ℕ)
    → Got tells head_lines head_lines s0 s1 now head (λ more. Found text more) Unread anything → DeployTold mac own may tells to_tell (command_at s0 k) (command_at s1 k) exit.OutOfMemory
told_out_of_memory {tells} {to_tell} {s0} {s1} {k} {now} mac own may text got = record {
  says = inl (record {
    six = refl;
    sink = refl;
    text = text;
    reads = reads-map (λ answers. HasHead (Some text) (head answers)) (λ (h : Head). h) (λ answers w. w.0) (reads-stop (λ h. HasHead (Some text) h) got (λ more. refl));
  });
  memory = λ six. ran_out_behind {m0 = command_at s0 k} {m1 = command_at s1 k} {now = now} may text got;
}

-- there is no head, or no memory for one
pub told_headless : {tells to_tell : Bool} {s0 s1 : SourceAt} {k0 k1 : SinkAt} {status : Status} (mac : Mac) (own : OwnOutput) (may : Wants) (now : Ahead) (why : HeadFault) → HeadRead tells s0 s1 now (Err why)
    → EndsHeadless to_tell k0 k1 status why → DeployTold mac own may tells to_tell (command_at s0 k0) (command_at s1 k1) status
told_headless {tells} {to_tell} {s0} {s1} {k0} {k1} {status} mac own may now none.TooLong r w =
    told_none mac own may TooLong (fault_output (fault 1 Nowhere)) tt (λ meaning. refl) r w.0 w.1
told_headless {tells} {to_tell} {s0} {s1} {k0} {k1} {status} mac own may now none.NoMark r w =
    told_none mac own may NoMark (fault_output (fault 2 Nowhere)) tt (λ meaning. refl) r w.0 w.1
told_headless {tells} {to_tell} {s0} {s1} {k0} {k1} {status} mac own may now none.Failed r w = told_none mac own may Unread unread_output tt (λ meaning. refl) r w.0 w.1
told_headless {tells} {to_tell} {s0} {s1} {k0} {k1} {status} mac own may now none.OutOfMemory (text, got) w =
    rw (w.0, w.1) (told_out_of_memory {to_tell = to_tell} {k = k0} {now = now} mac own may text got)

-- a head was read, and the rest was done, or memory ran out for it
pub told_behind : {tells to_tell : Bool} {s0 s1 : SourceAt} {k0 : SinkAt} {now : Ahead} {m2 : CommandAt} {status : Status} (mac : Mac) (own : OwnOutput) (may : Wants) (text : List ℕ)
    → HeadRead tells s0 s1 now (Ok text) → DeploysOrRanOut mac own may tells to_tell now (command_at s1 k0) m2 status text → DeployTold mac own may tells to_tell (command_at s0 k0) m2 status
told_behind {tells} {to_tell} {s0} {s1} {k0} {now} {m2} {status} mac own may text got (inl out) =
    rw (out.six, out.same) (told_out_of_memory {to_tell = to_tell} {k = k0} {now = now} mac own may text got)
told_behind {tells} {to_tell} {s0} {s1} {k0} {now} {m2} {status} mac own may text got (inr does) = told_found {now = now} mac own may text got does
