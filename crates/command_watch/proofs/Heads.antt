-- From the two heads that were read to what `watch` says.
use Rattle.std.proofs.Common.{codes, ◌≡◌, ◌∙◌, ◌≤◌, ℕ, Bool, true, false, if◌then◌else◌, List, [], ◌∷◌, ◌++◌, refl, sym, ap, subst, arith, Option, Result, Ok, Err}
use Rattle.std.specs.Prelude.{IfErr, IfOk, OnErr}
use Rattle.std.specs.Str.{bytes_eq}
use Rattle.std.proofs.lemmas.Slice.Eq.{bytes_eq-Decides}
use Rattle.sx_io.specs.Streams.{SourceAt, SinkAt}
use Rattle.sx_io.specs.Reading.{Answer, Ending, Ended, Broken, End, Fault, Limit, scan}
use Rattle.sx_io.specs.Next.{Ahead}
use Rattle.command_promise.specs.declared.status.Status.{Status}
use Rattle.command_promise.specs.declared.status.Status.TheVariants.{OutOfMemory}
use Rattle.command_promise.specs.Reads.{IsBound, Reads, anything}
use Rattle.command_promise.specs.Got.{Got}
use Rattle.command_promise.specs.Told.{CommandAt, CommandEnds, Output, Told, command_at, unread_output}
use Rattle.command_promise.specs.Parts.{Begun, Notes, Rest}
use Rattle.command_promise.proofs.Laws.{begun-got, ends-out-of-memory, ends-same, prefix-none, told-reads, told-stop}
use Rattle.command_promise.proofs.Takings.{got-also, got-map, got-same}
use Rattle.sx_entries.specs.declared.fault.DeployFault.{DeployFault}
use Rattle.command_promise.specs.Head.{Head, Found, TooLong, NoMark, Unread, head, head_lines}
use Rattle.command_promise.specs.HeadRead.{HeadRead, Noted, TextRead, TextTaken}
use Rattle.command_promise.specs.declared.head.HeadFault.{HeadFault}
use Rattle.command_promise.specs.declared.head.HeadFault.TheVariants as none
use Rattle.sx_entries.specs.Gives.{GivesOne as GivesDeployed}
use Rattle.sx_entries.specs.declared.fault.DeployError.{DeployError}
use Rattle.sx_entries.specs.declared.fault.DeployError.TheVariants as error
use Rattle.sx_trace.specs.declared.items.Item.{Item}
use Rattle.sx_trace.specs.Names.{NameLists}
use Rattle.sx_mean.specs.Application.{AppTree}
use Rattle.sx_watch.specs.declared.reading.PropertyError.{PropertyError}
use Rattle.sx_watch.specs.declared.reading.PropertyError.TheVariants as property
use Rattle.sx_watch.specs.declared.reading.PropertyFault.{PropertyFault}
use Rattle.sx_watch.specs.Read.{GivesOne}
use Rattle.sx_watch.specs.Text.{IsProperty}
use Rattle.sx_watch.specs.Watched.{PropertyTree}
use Rattle.sx_watch.proofs.Meanings.{one_property}
use Rattle.sx_deploy.specs.Deployment.{Deployed, IsRead}
use Rattle.sx_deploy.specs.SeenDeployment.{deployed_as}
use Rattle.sx_deploy.specs.declared.deployment.Deployment.{Deployment}
use Rattle.sx_deploy.proofs.Meanings.{one_meaning}
use Rattle.command_head.specs.Ends.{EndsRefused}
use Rattle.command_head.specs.Headless.{EndsHeadless}
use Rattle.command_head.specs.Found.{IsFound, RunsOutBehindHead}
use Rattle.command_explain.specs.Trace.{image_lines}
use Rattle.command_explain.proofs.Heads.{told_also}
use Rattle.command_watch.specs.Meant.{AreMeanings, Meanings}
use Rattle.command_watch.specs.Following.{RefusesText, ReadsOn}
use Rattle.command_watch.specs.Output.{behind_mark, watch_all, watch_lines}
use Rattle.command_watch.specs.Parts.{watch_found, watch_head, watch_judged, watch_property}
use Rattle.command_watch.proofs.Limits.{IsNone, end_longer, found_longer, longer_behind, none_longer, seen, seen_as, small, number_in, whole_behind}
use Rattle.command_watch.proofs.Longer.{got_longer, reads_longer}

-- ---- bounds

one_bound : (rest : Limit) (most : ℕ) → IsBound (behind_mark rest) most → IsBound rest most
one_bound rest most h lines = h (codes "%%" ∷ lines)

two_bound : (most : ℕ) → IsBound watch_lines most → IsBound image_lines most
two_bound most h lines = h (codes "%%" ∷ codes "%%" ∷ lines)

long_enough : (most : ℕ) → IsBound watch_lines most → 4096 ≤ most
long_enough most h = h []

-- ---- the first head

-- whether there is one, as a text
abbrev pub marked : Head → List ℕ
marked (Found text more) = 1 ∷ []
marked TooLong = []
marked NoMark = []
marked Unread = []

abbrev pub marked_in : List Answer → List ℕ
marked_in answers = marked (head answers)

has_head : (h : Head) → marked h ≡ 1 ∷ [] → IsFound h
has_head (Found found more) e = tt
has_head TooLong e = absurd (cc e)
has_head NoMark e = absurd (cc e)
has_head Unread e = absurd (cc e)

marked_longer : (lines : List ℕ) (e : Ending) → Notes marked_in (1 ∷ []) (scan head_lines e [] lines) → Notes marked_in (1 ∷ []) (scan watch_lines e [] lines)
marked_longer lines e h = whole_behind (behind_mark image_lines) image_lines marked marked (1 ∷ []) (1 ∷ []) e (λ h n w. w) (λ text bs w. refl) [] [] lines h

pub got_first : {tells : Bool} {s0 s1 : SourceAt} {now : Ahead} (w : List ℕ) → Got tells head_lines head_lines s0 s1 now head (λ more. Found w more) Unread anything
    → Got tells watch_lines (behind_mark image_lines) s0 s1 now head (λ more. Found w more) Unread anything
got_first w got = got_longer watch_lines (behind_mark image_lines) head (λ more. Found w more) Unread head (λ more. Found w more) Unread anything anything
    (λ lines h. found_longer (behind_mark image_lines) w [] [] lines (λ e more. ap seen (h e more))) (λ lines h. end_longer (behind_mark image_lines) w [] [] lines (ap seen h))
    (λ lines h. none_longer (behind_mark image_lines) Unread tt Broken [] [] lines (ap seen h)) (λ lines e h. tt) (one_bound (behind_mark image_lines)) long_enough got

-- ---- the second head, after this text

module _ (w : List ℕ) where
  -- what is seen of the second head
  abbrev pub second : Head → Noted
  second (Found text more) = if bytes_eq text w then seen (head more) else seen_as [] 9
  second TooLong = seen_as [] 5
  second NoMark = seen_as [] 6
  second Unread = seen_as [] 4

  same_text : bytes_eq w w ≡ true
  same_text = (bytes_eq-Decides w w).1 refl

  second_found : (more : List Answer) → second (Found w more) ≡ seen (head more)
  second_found more = ap (λ (b : Bool). if b then seen (head more) else seen_as [] 9) same_text

  by_text : (b : Bool) (x y : Noted) → (number_in y ≡ 9 → ⊥) → (if b then x else seen_as [] 9) ≡ y → (b ≡ true) × (x ≡ y)
  by_text true x y n e = (refl, e)
  by_text false x y n e = absurd (n (sym (ap number_in e)))

  few_seen : (h : Head) → number_in (seen h) ≡ 9 → ⊥
  few_seen (Found text more) e = let k = small more in omega (arith, e, k)
  few_seen TooLong e = omega (arith, e)
  few_seen NoMark e = omega (arith, e)
  few_seen Unread e = omega (arith, e)

  -- the first text is this, and the second head is seen
  split : (text : List ℕ) (more : List Answer) (h : Head) → second (Found text more) ≡ seen h → (text ≡ w) × (seen (head more) ≡ seen h)
  split text more h e =
      let p = by_text (bytes_eq text w) (seen (head more)) (seen h) (few_seen h) e in ((bytes_eq-Decides text w).0 p.0, p.1)

  module _ (means : Meanings) (d : Deployed) (is : means.trace.deployment w ≡ Ok d) where
    said_second : (text : List ℕ) (more : List Answer) → text ≡ w → watch_head means (Found text more) ≡ watch_property means d (head more)
    said_second text more e =
        ap (λ (v : List ℕ). watch_found means (means.trace.deployment v) more) e ∙ ap (λ (r : Result Deployed DeployFault). watch_found means r more) is

    never : (t : List ℕ) (h : Head) → IsNone h → second h ≡ seen (Found t (Fault ∷ [])) → ⊥
    never t (Found text more) n e = n
    never t TooLong n e = let s = ap number_in e in omega (arith, s)
    never t NoMark n e = let s = ap number_in e in omega (arith, s)
    never t Unread n e = let s = ap number_in e in omega (arith, s)

    never_end : (t : List ℕ) (h : Head) → IsNone h → second h ≡ seen (Found t (End ∷ [])) → ⊥
    never_end t (Found text more) n e = n
    never_end t TooLong n e = let s = ap number_in e in omega (arith, s)
    never_end t NoMark n e = let s = ap number_in e in omega (arith, s)
    never_end t Unread n e = let s = ap number_in e in omega (arith, s)

    behind_first : (t text bs : List ℕ) → ((e : Ending) (more : List ℕ) → second (Found text (scan head_lines e [] (bs ++ more))) ≡ seen (Found t (scan head_lines e [] more)))
        → (e : Ending) (more : List ℕ) → watch_head means (Found text (scan (behind_mark image_lines) e [] (bs ++ more))) ≡ watch_property means d (Found t (scan image_lines e [] more))
    behind_first t text bs h e more =
        said_second text (scan (behind_mark image_lines) e [] (bs ++ more)) (split text (scan head_lines e [] (bs ++ more)) (Found t (scan head_lines e [] more)) (h e more)).0
        ∙ ap (watch_property means d) (found_longer image_lines t [] [] bs (λ e more. (split text (scan head_lines e [] (bs ++ more)) (Found t (scan head_lines e [] more)) (h e more)).1) e more)

    found_second : (t lines : List ℕ) → ((e : Ending) (more : List ℕ) → second (head (scan head_lines e [] (lines ++ more))) ≡ seen (Found t (scan head_lines e [] more)))
        → (e : Ending) (more : List ℕ) → watch_all means (scan watch_lines e [] (lines ++ more)) ≡ watch_property means d (Found t (scan image_lines e [] more))
    found_second t lines h e more =
        longer_behind (behind_mark image_lines) image_lines second (watch_head means) (λ a. seen (Found t a)) (λ a. watch_property means d (Found t a)) (never t) (behind_first t) [] [] lines h e more

    end_second : (t lines : List ℕ) → second (head (scan head_lines Ended [] lines)) ≡ seen (Found t (End ∷ []))
        → watch_all means (scan watch_lines Ended [] lines) ≡ watch_property means d (Found t (End ∷ []))
    end_second t lines h =
        whole_behind (behind_mark image_lines) image_lines second (watch_head means) (seen (Found t (End ∷ []))) (watch_property means d (Found t (End ∷ []))) Ended
        (λ h n e. absurd (never_end t h n e))
        (λ text bs e.
        let p = split text (scan head_lines Ended [] bs) (Found t (End ∷ [])) e in
        said_second text (scan (behind_mark image_lines) Ended [] bs) p.0 ∙ ap (watch_property means d) (end_longer image_lines t [] [] bs p.1)) [] [] lines h

    no_second : (k h : Head) → IsNone k → IsNone h → second h ≡ seen k → watch_head means h ≡ watch_property means d k
    no_second k (Found text more) o n e = absurd n
    no_second (Found t m) h o n e = absurd o
    no_second TooLong TooLong o n e = let s = ap number_in e in absurd (omega (arith, s))
    no_second TooLong NoMark o n e = let s = ap number_in e in absurd (omega (arith, s))
    no_second TooLong Unread o n e = let s = ap number_in e in absurd (omega (arith, s))
    no_second NoMark TooLong o n e = let s = ap number_in e in absurd (omega (arith, s))
    no_second NoMark NoMark o n e = let s = ap number_in e in absurd (omega (arith, s))
    no_second NoMark Unread o n e = let s = ap number_in e in absurd (omega (arith, s))
    no_second Unread TooLong o n e = let s = ap number_in e in absurd (omega (arith, s))
    no_second Unread NoMark o n e = let s = ap number_in e in absurd (omega (arith, s))
    no_second Unread Unread o n e = refl

    none_second : (k : Head) → IsNone k → (e : Ending) (lines : List ℕ) → second (head (scan head_lines e [] lines)) ≡ seen k
        → watch_all means (scan watch_lines e [] lines) ≡ watch_property means d k
    none_second k o e lines h =
        whole_behind (behind_mark image_lines) image_lines second (watch_head means) (seen k) (watch_property means d k) e (λ h n w. no_second k h o n w)
        (λ text bs w.
        let p = split text (scan head_lines e [] bs) k w in
        said_second text (scan (behind_mark image_lines) e [] bs) p.0 ∙ ap (watch_property means d) (none_longer image_lines k o e [] [] bs p.1)) [] [] lines h

    -- ---- what was read

    -- what a call needs that reads the second head
    pub got_before : {tells : Bool} {s0 s1 : SourceAt} {now : Ahead} → Got tells head_lines head_lines s0 s1 now head (λ more. Found w more) Unread anything
        → Got tells head_lines head_lines s0 s1 now (λ answers. second (head answers)) (λ answers. seen (head answers)) (seen Unread) (Notes marked_in (1 ∷ []))
    got_before got = got-same (λ more. second_found more) refl (got-map second (got-also (Notes marked_in (1 ∷ [])) (λ answers more q. ap marked q) got))

    -- and what it answers
    pub text_taken : {tells : Bool} {s0 s1 : SourceAt} {old : Ahead} (s2 : SourceAt) (now : Ahead) (r q : Result (List ℕ) HeadFault) → r ≡ q → TextRead tells s1 s2 old now r
        → Got tells head_lines head_lines s0 s1 old head (λ more. Found w more) Unread anything
        → TextTaken tells head_lines s0 s2 now (λ answers. second (head answers)) seen (Notes marked_in (1 ∷ [])) q
    text_taken {tells} {s0} {s1} {old} s2 now r q e read got =
        let P : Result (List ℕ) HeadFault → Type 0 = λ r. TextTaken tells head_lines s0 s2 now (λ answers. second (head answers)) seen (Notes marked_in (1 ∷ [])) r in
        subst P e (read head_lines s0 (λ answers. second (head answers)) seen marked_in (1 ∷ []) (got_before got))

    pub got_second : {tells : Bool} {s0 s1 : SourceAt} {now : Ahead} (t : List ℕ)
        → Got tells head_lines head_lines s0 s1 now (λ answers. second (head answers)) (λ more. seen (Found t more)) (seen Unread) (Notes marked_in (1 ∷ []))
        → Got tells watch_lines image_lines s0 s1 now (watch_all means) (λ more. watch_property means d (Found t more)) unread_output (Notes marked_in (1 ∷ []))
    got_second t got = got_longer watch_lines image_lines (λ answers. second (head answers)) (λ more. seen (Found t more)) (seen Unread) (watch_all means)
        (λ more. watch_property means d (Found t more)) unread_output (Notes marked_in (1 ∷ [])) (Notes marked_in (1 ∷ [])) (found_second t) (end_second t)
        (λ lines h. none_second Unread tt Broken lines h) marked_longer two_bound long_enough got

    -- a second head was read, and the rest was done
    pub told_found : {tells to_tell : Bool} {s0 s1 : SourceAt} {k : SinkAt} {now : Ahead} {m2 : CommandAt} {status : Status} (t other : List ℕ) → other ≡ t
        → Got tells head_lines head_lines s0 s1 now (λ answers. second (head answers)) (λ more. seen (Found t more)) (seen Unread) (Notes marked_in (1 ∷ []))
        → Rest tells to_tell image_lines now (command_at s1 k) m2 status (λ more. watch_property means d (Found other more))
        → Told tells to_tell watch_lines (command_at s0 k) m2 status (watch_all means) (RunsOutBehindHead status)
    told_found {tells} {to_tell} {s0} {s1} {k} {now} {m2} {status} t other e got rest =
        let P : List ℕ → Type 0 = λ t. Rest tells to_tell image_lines now (command_at s1 k) m2 status (λ more. watch_property means d (Found t more)) in
        let does : P t = subst P e rest in
        told_also (RunsOutBehindHead status) (λ answers m six. has_head (head answers) m)
        (does watch_lines (command_at s0 k) (watch_all means) marked_in (1 ∷ []) (begun-got (λ (o : Output). o) refl (got_second t got)))

    -- or memory ran out
    pub told_starved : {tells to_tell : Bool} {s0 s1 : SourceAt} {k : SinkAt} {now : Ahead} (t : List ℕ)
        → Got tells head_lines head_lines s0 s1 now (λ answers. second (head answers)) (λ more. seen (Found t more)) (seen Unread) (Notes marked_in (1 ∷ []))
        → Told tells to_tell watch_lines (command_at s0 k) (command_at s1 k) OutOfMemory (watch_all means) (RunsOutBehindHead OutOfMemory)
    told_starved {tells} {to_tell} {s0} {s1} {k} {now} t got =
        told_also (RunsOutBehindHead OutOfMemory) (λ answers m six. has_head (head answers) m)
        (told-stop (begun-got (λ (o : Output). o) refl (got_second t got))
        (λ more. ends-out-of-memory to_tell k k (watch_property means d (Found t more)) (λ t. prefix-none k.written k.written _ refl) refl))

    -- there is none
    pub told_none : {tells to_tell : Bool} {s0 s1 : SourceAt} {k0 k1 : SinkAt} {status : Status} (k : Head) → IsNone k
        → Reads tells head_lines s0 s1 (λ answers. second (head answers)) (seen Unread) (λ answers. (second (head answers) ≡ seen k) × Notes marked_in (1 ∷ []) answers)
        → CommandEnds to_tell k0 k1 status (watch_property means d k)
        → Told tells to_tell watch_lines (command_at s0 k0) (command_at s1 k1) status (watch_all means) (RunsOutBehindHead status)
    told_none {tells} {to_tell} {s0} {s1} {k0} {k1} {status} k o r w =
        let P : List Answer → Type 0 = λ answers. (second (head answers) ≡ seen k) × Notes marked_in (1 ∷ []) answers in
        let Q : List Answer → Type 0 = λ answers. (watch_all means answers ≡ watch_property means d k) × Notes marked_in (1 ∷ []) answers in
        told-reads (λ (o : Output). o) (watch_property means d k) refl
        (reads_longer watch_lines (λ answers. second (head answers)) (seen Unread) (watch_all means) unread_output P Q (λ lines h. none_second Unread tt Broken lines h)
        (λ lines e h. (none_second k o e lines h.0, marked_longer lines e h.1)) long_enough r)
        (λ answers q. (q.0, λ six. has_head (head answers) q.1)) w

-- ---- where there is no first head

first_none : {tells to_tell : Bool} {s0 s1 : SourceAt} {k0 k1 : SinkAt} {status : Status} (means : Meanings) (k : Head) → IsNone k
    → Reads tells head_lines s0 s1 head Unread (λ answers. head answers ≡ k) → CommandEnds to_tell k0 k1 status (watch_head means k) → (status ≡ OutOfMemory → ⊥)
    → Told tells to_tell watch_lines (command_at s0 k0) (command_at s1 k1) status (watch_all means) (RunsOutBehindHead status)
first_none means k n r w never =
    told-reads (watch_head means) (watch_head means k) refl
    (reads_longer watch_lines head Unread head Unread (λ answers. head answers ≡ k) (λ answers. head answers ≡ k)
    (λ lines h. none_longer (behind_mark image_lines) Unread tt Broken [] [] lines (ap seen h)) (λ lines e h. none_longer (behind_mark image_lines) k n e [] [] lines (ap seen h)) long_enough r)
    (λ answers q. (ap (watch_head means) q, λ six. absurd (never six))) w

-- the first head, as the command goes on
begun_first : {tells to_tell : Bool} {s0 s1 : SourceAt} {k : SinkAt} {now : Ahead} (means : Meanings) (w : List ℕ) → Got tells head_lines head_lines s0 s1 now head (λ more. Found w more) Unread anything
    → Begun tells to_tell watch_lines (behind_mark image_lines) (command_at s0 k) (command_at s1 k) now (watch_all means) (watch_found means (means.trace.deployment w)) (Notes marked_in (1 ∷ []))
begun_first means w got = begun-got (watch_head means) refl (got-also (Notes marked_in (1 ∷ [])) (λ answers more q. ap marked q) (got_first w got))

pub told_headless : {tells to_tell : Bool} {s0 s1 : SourceAt} {k0 k1 : SinkAt} {status : Status} (now : Ahead) (means : Meanings) (why : HeadFault) → HeadRead tells s0 s1 now (Err why)
    → EndsHeadless to_tell k0 k1 status why → Told tells to_tell watch_lines (command_at s0 k0) (command_at s1 k1) status (watch_all means) (RunsOutBehindHead status)
told_headless {tells} {to_tell} {s0} {s1} {k0} {k1} {status} now means none.TooLong r w = first_none means TooLong tt r w.0 w.1
told_headless {tells} {to_tell} {s0} {s1} {k0} {k1} {status} now means none.NoMark r w = first_none means NoMark tt r w.0 w.1
told_headless {tells} {to_tell} {s0} {s1} {k0} {k1} {status} now means none.Failed r w = first_none means Unread tt r w.0 w.1
told_headless {tells} {to_tell} {s0} {s1} {k0} {k1} {status} now means none.OutOfMemory r w = rw (w.0, w.1) (starved r)
  where
    starved : HeadRead tells s0 s1 now (Err none.OutOfMemory) → Told tells to_tell watch_lines (command_at s0 k0) (command_at s1 k0) OutOfMemory (watch_all means) (RunsOutBehindHead OutOfMemory)
    starved (text, got) =
        told_also (RunsOutBehindHead OutOfMemory) (λ answers m six. has_head (head answers) m)
        (told-stop (begun_first means text got)
        (λ more. ends-out-of-memory to_tell k0 k0 (watch_found means (means.trace.deployment text) more) (λ t. prefix-none k0.written k0.written _ refl) refl))

-- ---- after a property

pub told_refused : {tells to_tell : Bool} {now : Ahead} {s : SourceAt} {k0 k1 : SinkAt} {status : Status} (names : NameLists) (app : AppTree) (text : List ℕ) (item : List ℕ → Option Item) (e : PropertyError)
    → GivesOne (Err e) (IsProperty names app text) → RefusesText to_tell k0 k1 status e → (r : Result PropertyTree PropertyFault) → IsProperty names app text r
    → Rest tells to_tell image_lines now (command_at s k0) (command_at s k1) status (watch_judged item r)
told_refused names app text item (property.Fault f) gives w r is = λ limit m0 defined aside noted b.
    told-stop b (λ more. ends-same _ _ _ _ _ _ (ap (λ r. watch_judged item r more) (one_property names app text r (Err f) is gives)) w.0)
told_refused {tells} {to_tell} {now} {s} {k0} {k1} {status} names app text item property.OutOfMemory gives w r is =
    rw (w.0, w.1) (λ limit m0 defined aside noted b. told-stop b (λ more. ends-out-of-memory to_tell k0 k0 (watch_judged item r more) (λ t. prefix-none k0.written k0.written _ refl) refl))

-- ---- after a head

pub watch_behind : {tells to_tell : Bool} {now : Ahead} {s1 s2 : SourceAt} {k0 k1 : SinkAt} {status : Status} (text : List ℕ) (r : Result Deployment DeployError) → GivesDeployed deployed_as r (IsRead text)
    → IfOk r (λ d. (means : Meanings) (text : List ℕ) → AreMeanings means → means.trace.deployment text ≡ Ok (deployed_as d) → ReadsOn means text tells to_tell s1 now k0 (command_at s2 k1) status)
    → IfErr r (λ e. EndsRefused to_tell k0 k1 status e) → OnErr r (s2 ≡ s1) → (means : Meanings) → AreMeanings means
    → ReadsOn means text tells to_tell s1 now k0 (command_at s2 k1) status
watch_behind text (Ok d) read good bad same means is = good means text is (one_meaning text (means.trace.deployment text) (Ok (deployed_as d)) (is.trace.deployment text) read)
watch_behind {tells} {to_tell} {now} {s1} {s2} {k0} {k1} {status} text (Err (error.Fault f)) read good bad same means is =
    rw same (λ s0 got.
    told_also (RunsOutBehindHead status) (λ answers m six. has_head (head answers) m)
    (told-stop (begun_first means text got)
    (λ more. ends-same _ _ _ _ _ _ (ap (λ r. watch_found means r more) (one_meaning text (means.trace.deployment text) (Err f) (is.trace.deployment text) read)) bad.0)))
watch_behind {tells} {to_tell} {now} {s1} {s2} {k0} {k1} {status} text (Err error.OutOfMemory) read good bad same means is =
    rw (same, bad.0, bad.1) (λ s0 got.
    told_also (RunsOutBehindHead OutOfMemory) (λ answers m six. has_head (head answers) m)
    (told-stop (begun_first means text got)
    (λ more. ends-out-of-memory to_tell k0 k0 (watch_found means (means.trace.deployment text) more) (λ t. prefix-none k0.written k0.written _ refl) refl)))

-- a head was read, and the rest was done
pub told_head : {tells to_tell : Bool} {s0 s1 : SourceAt} {k : SinkAt} {now : Ahead} {m2 : CommandAt} {status : Status} (means : Meanings) (text other : List ℕ) → other ≡ text
    → Got tells head_lines head_lines s0 s1 now head (λ more. Found text more) Unread anything → ReadsOn means other tells to_tell s1 now k m2 status
    → Told tells to_tell watch_lines (command_at s0 k) m2 status (watch_all means) (RunsOutBehindHead status)
told_head {tells} {to_tell} {s0} {s1} {k} {now} {m2} {status} means text other e got does =
    let P : List ℕ → Type 0 = λ t. ReadsOn means t tells to_tell s1 now k m2 status in
    let here : P text = subst P e does in here s0 got
