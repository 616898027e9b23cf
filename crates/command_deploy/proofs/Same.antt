-- Two calls of a command that deploys over the same input write the same, since the images follow from the deployment.
use Rattle.std.proofs.Common.{◌≡◌, ◌∙◌, ◌⊎◌, inl, inr, ℕ, true, List, [], ◌++◌, refl, sym, ap, subst, arith, Option, Some, None, Result, Ok, Err}
use Rattle.std.specs.Prelude.{IsTrue}
use Rattle.std.proofs.lemmas.List.{append-nil}
use Rattle.sx_io.specs.Counts.{Rose}
use Rattle.sx_io.specs.Reading.{Answer, Ended, scan}
use Rattle.sx_io.specs.Streams.{SourceAt}
use Rattle.command_promise.specs.declared.status.Status.{Status}
use Rattle.command_promise.specs.declared.status.Status.TheVariants.{OutOfMemory}
use Rattle.command_promise.specs.Reads.{AtEnd, AtFault, Decides, Enough, Left}
use Rattle.command_promise.specs.Told.{CommandAt, CommandEnds, Output, Told}
use Rattle.command_promise.proofs.Laws.{told-quiet}
use Rattle.sx_entries.specs.declared.fault.DeployFault.{DeployFault}
use Rattle.sx_tag.specs.Mac.{Mac}
use Rattle.command_promise.specs.Head.{Head, Found, TooLong, NoMark, Unread, head, head_lines}
use Rattle.sx_deploy.specs.Deployment.{Deployed, IsRead}
use Rattle.spec_run.specs.Accepted.{setting_of}
use Rattle.command_text.specs.Faults.{IsFaultless}
use Rattle.command_head.specs.Begun.{ReadsAs, HasHead}
use Rattle.command_head.specs.Meanings.{input_of}
use Rattle.command_head.proofs.Known.{known, is_known}
use Rattle.command_deploy.specs.Afterwards.{found_output, head_output}
use Rattle.command_deploy.specs.Output.{OwnOutput, deploy_output}
use Rattle.command_deploy.specs.Promise.{DeployPromise, DeploysWith, OwnPart}
use Rattle.command_deploy.specs.Same.{IsUnhindered, RunsIn, WriteTheSame}
use Rattle.command_world.specs.Compiled.{compiled_texts}

-- what holds of the answers of what was taken holds of those of the input, where no read failed
of_input : (left : Left) (s0 s1 : SourceAt) (taken : List ℕ) (P : List Answer → Type 0) → (Rose s0.faults s1.faults → ⊥) → s0.rest ≡ taken ++ s1.rest
    → Decides left true head_lines s0 s1 taken P → P (scan head_lines Ended [] s0.rest)
of_input AtEnd s0 s1 taken P quiet e d =
    let Q : List ℕ → Type 0 = λ bytes. P (scan head_lines Ended [] bytes) in
    subst Q (sym (e ∙ ap (λ (v : List ℕ). taken ++ v) (d.1 refl).rest ∙ append-nil taken)) d.2
of_input AtFault s0 s1 taken P quiet e d = absurd (let f = d.0.faults in quiet (omega (arith, f)))
of_input Enough s0 s1 taken P quiet e d = let Q : List ℕ → Type 0 = λ bytes. P (scan head_lines Ended [] bytes) in subst Q (sym e) (d.2 Ended s1.rest)

has_input : {m0 m1 : CommandAt} {status : Status} {F : List Answer → Output} {also : List Answer → Type 0} → Told true true head_lines m0 m1 status F also → IsFaultless m0 m1 → also (input_of m0)
has_input {m0} {m1} {status} {F} {also} told quiet =
    let r = told.reads in
    (of_input r.left m0.source m1.source r.taken (λ answers. CommandEnds true m0.sink m1.sink status (F answers) × also answers) quiet.0 (r.from_source refl) r.decides).1

-- an input has one head
one_head : (a b : Option (List ℕ)) (h : Head) → HasHead a h → HasHead b h → a ≡ b
one_head None None h x y = refl
one_head None (Some text) (Found found more) x y = absurd x
one_head None (Some text) TooLong x y = absurd y
one_head None (Some text) NoMark x y = absurd y
one_head None (Some text) Unread x y = absurd y
one_head (Some text) None (Found found more) x y = absurd y
one_head (Some text) None TooLong x y = absurd x
one_head (Some text) None NoMark x y = absurd x
one_head (Some text) None Unread x y = absurd x
one_head (Some text) (Some other) (Found found more) x y = ap (λ (t : List ℕ). Some t) (sym x ∙ y)
one_head (Some text) (Some other) TooLong x y = absurd x
one_head (Some text) (Some other) NoMark x y = absurd x
one_head (Some text) (Some other) Unread x y = absurd x

-- what is written depends on the images of the deployment that was read alone
agrees : (own : OwnOutput) (deployment : Option (List ℕ)) (texts others : List (List ℕ)) (h : Head) → HasHead deployment h → ((d : Deployed) → ReadsAs deployment d → texts ≡ others)
    → head_output own known texts h ≡ head_output own known others h
agrees own None texts others (Found found more) has same = absurd has
agrees own (Some text) texts others (Found found more) has same = by_meaning (known found) refl
  where
    by_meaning : (r : Result Deployed DeployFault) → known found ≡ r → found_output own texts (known found) more ≡ found_output own others (known found) more
    by_meaning (Ok d) e =
        let read : IsRead found (Ok d) = subst (λ (r : Result Deployed DeployFault). IsRead found r) e (is_known found) in
        ap (λ (ts : List (List ℕ)). found_output own ts (known found) more) (same d (subst (λ (t : List ℕ). IsRead t (Ok d)) has read))
    by_meaning (Err f) e =
        let P : Result Deployed DeployFault → Type 0 = λ r. found_output own texts r more ≡ found_output own others r more in
        subst P (sym e) refl
agrees own deployment texts others TooLong has same = refl
agrees own deployment texts others NoMark has same = refl
agrees own deployment texts others Unread has same = refl

module _ (mac : Mac) (part : OwnPart) (m0 m1 : CommandAt) (s : Status) (k0 k1 : CommandAt) (t : Status) (rest : m0.source.rest ≡ k0.source.rest) (quiet : IsUnhindered m0 m1 s)
    (still : IsUnhindered k0 k1 t) where
  with_same : DeploysWith mac part true true m0 m1 s → DeploysWith mac part true true k0 k1 t → WriteTheSame m0 m1 s k0 k1 t
  with_same a b =
      let input : input_of m0 ≡ input_of k0 = ap (λ (bytes : List ℕ). scan head_lines Ended [] bytes) rest in
      let here = has_input (a.told known is_known) quiet.0 in
      let there = subst (λ (answers : List Answer). HasHead b.deployment (head answers)) (sym input) (has_input (b.told known is_known) still.0) in
      let one = one_head a.deployment b.deployment (head (input_of m0)) here there in
      let texts : (d : Deployed) → ReadsAs a.deployment d → a.texts ≡ b.texts =
      (λ d deploys. a.made d deploys ∙ sym (b.made d (subst (λ (o : Option (List ℕ)). ReadsAs o d) one deploys))) in
      let same : deploy_output part.output known a.texts (input_of m0) ≡ deploy_output part.output known b.texts (input_of k0) =
      (agrees part.output a.deployment a.texts b.texts (head (input_of m0)) here texts
      ∙ ap (λ (answers : List Answer). deploy_output part.output known b.texts answers) input) in
      joined (deploy_output part.output known a.texts (input_of m0)) (deploy_output part.output known b.texts (input_of k0)) same
      (told-quiet (a.told known is_known) refl quiet.0.0 quiet.0.1) (told-quiet (b.told known is_known) refl still.0.0 still.0.1)
    where
      joined : (o p : Output) → o ≡ p → (s ≡ OutOfMemory) ⊎ ((s ≡ o.status) × (IsTrue true → m1.sink.written ≡ m0.sink.written ++ o.text))
          → (t ≡ OutOfMemory) ⊎ ((t ≡ p.status) × (IsTrue true → k1.sink.written ≡ k0.sink.written ++ p.text)) → WriteTheSame m0 m1 s k0 k1 t
      joined o p e (inl six) y = absurd (quiet.1 six)
      joined o p e (inr x) (inl six) = absurd (still.1 six)
      joined o p e (inr x) (inr y) = record {
        status_is = x.0 ∙ ap (λ (o : Output). o.status) e ∙ sym y.0;
        text = o.text;
        first = x.1 refl;
        second = y.1 refl ∙ ap (λ (o : Output). k0.sink.written ++ o.text) (sym e);
      }

  pub says_same : DeployPromise mac part true true m0 m1 s → DeployPromise mac part true true k0 k1 t → WriteTheSame m0 m1 s k0 k1 t
  says_same a b =
      elim a.says [
        | inl starved ↦ absurd (quiet.1 starved.six)
        | inr x ↦ elim b.says [ inl starved ↦ absurd (still.1 starved.six) | inr y ↦ with_same x y ]
      ]

-- the setting of the images that the compiler makes
pub runs_in : (mac : Mac) (part : OwnPart) (d : Deployed) → RunsIn mac part d (setting_of mac d (compiled_texts d))
runs_in mac part d = λ tells to_tell m0 m1 status w deploys. ap (λ (texts : List (List ℕ)). setting_of mac d texts) (w.made d deploys)
