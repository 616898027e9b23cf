-- How the parts of the command end.
use Rattle.std.proofs.Common.{◌≡◌, ◌∙◌, ℕ, Bool, List, [], ◌∷◌, refl, sym, ap, subst, Result, Ok, Err}
use Rattle.std.specs.Prelude.{IfErr, IfOk, OnErr}
use Rattle.sx_io.specs.Streams.{SourceAt, SinkAt}
use Rattle.sx_io.specs.Reading.{Answer}
use Rattle.sx_io.specs.Next.{Ahead}
use Rattle.command_promise.specs.declared.status.Status.{Status}
use Rattle.command_promise.specs.declared.status.Status.TheVariants as exit
use Rattle.command_promise.specs.Told.{CommandEnds, Output, Told, command_at, unread_output}
use Rattle.command_promise.specs.Reads.{Reads, anything}
use Rattle.command_promise.specs.Got.{Got}
use Rattle.command_promise.specs.Parts.{Notes}
use Rattle.command_promise.proofs.Laws.{begun-got, ends-out-of-memory, ends-same, prefix-none, told-reads, told-stop}
use Rattle.command_promise.proofs.Takings.{got-also, got-map, got-same}
use Rattle.sx_entries.specs.Fault.{fault}
use Rattle.sx_entries.specs.Gives as stage
use Rattle.sx_entries.specs.declared.fault.Place.TheVariants.{Nowhere}
use Rattle.sx_entries.specs.declared.fault.DeployError.{DeployError}
use Rattle.sx_entries.specs.declared.fault.DeployError.TheVariants as deploy
use Rattle.sx_entries.specs.declared.fault.DeployFault.{DeployFault}
use Rattle.command_promise.specs.Head.{Head, Found, TooLong, NoMark, Unread, head, head_lines}
use Rattle.command_promise.specs.HeadRead.{HeadRead, Noted, TextRead}
use Rattle.command_promise.specs.declared.head.HeadFault.{HeadFault}
use Rattle.command_promise.specs.declared.head.HeadFault.TheVariants as none
use Rattle.sx_trace.specs.Names.{NameLists}
use Rattle.sx_mean.specs.Application.{AppTree}
use Rattle.sx_deploy.specs.Deployment.{Deployed, IsRead}
use Rattle.sx_deploy.specs.SeenDeployment.{deployed_as}
use Rattle.sx_deploy.specs.declared.deployment.Deployment.{Deployment}
use Rattle.sx_deploy.proofs.Meanings.{one_meaning}
use Rattle.sx_watch.specs.declared.property.Property.{Property}
use Rattle.sx_watch.specs.declared.reading.PropertyError.{PropertyError}
use Rattle.sx_watch.specs.declared.reading.PropertyError.TheVariants as property
use Rattle.sx_watch.specs.declared.reading.PropertyFault.{PropertyFault}
use Rattle.sx_watch.specs.Read.{GivesOne}
use Rattle.sx_watch.specs.Watched.{PropertyTree}
use Rattle.sx_watch.specs.Text.{IsProperty}
use Rattle.sx_watch.proofs.Meanings.{one_property}
use Rattle.command_head.specs.Ends.{EndsRefused}
use Rattle.command_head.specs.Found.{IsFound}
use Rattle.command_head.specs.Headless.{EndsHeadless}
use Rattle.command_head.specs.Refused.{fault_output}
use Rattle.command_property.specs.Refused.{fault_words, no_property_output, refused_output}
use Rattle.command_holds.specs.Output.{Decision, Unknown, Meanings, unknown_line, holds_all}
use Rattle.command_holds.specs.Parts.{holds_found, holds_head, holds_property, holds_second}
use Rattle.command_holds.specs.Promise.{NeverBehind, NeverFound, NeverProperty, NeverSecond, SaysOf}
use Rattle.command_holds.specs.Ending.{AnswersOf, DeployedEnds, EndsOf, GivesUp, TextEnds, ToldOf}

-- ---- statuses

pub never_zero : (status ended : Status) → ((status ≡ exit.WriteFailed → ⊥) → status ≡ ended) → (ended ≡ exit.Done → ⊥) → status ≡ exit.Done → ⊥
never_zero status ended e n zero = n (sym (e (λ five. cc (five, zero))) ∙ zero)

pub ends_zero : {to_tell : Bool} {k0 k1 : SinkAt} {status : Status} {o : Output} → CommandEnds to_tell k0 k1 status o → (o.status ≡ exit.Done → ⊥) → status ≡ exit.Done → ⊥
ends_zero w n zero = n (sym (w.whole (λ five. cc (five, zero)) (λ six. cc (six, zero))).0 ∙ zero)

pub starved : (to_tell : Bool) (k : SinkAt) (o : Output) → CommandEnds to_tell k k exit.OutOfMemory o
starved to_tell k o = ends-out-of-memory to_tell k k o (λ t. prefix-none k.written k.written o.text refl) refl

-- where neither memory ran out nor the status is 0, nothing is left to say
quiet_says : (means : Meanings) (status : Status) (answers : List Answer) → (status ≡ exit.OutOfMemory → ⊥) → (status ≡ exit.Done → ⊥) → SaysOf means status answers
quiet_says means status answers six zero = record { memory = λ e. absurd (six e); never = λ e. absurd (zero e) }

-- ---- a property

pub gives_up : {to_tell : Bool} {k0 k1 : SinkAt} {status : Status} (t items words : List ℕ) → t ≡ items → items ≡ unknown_line words
    → CommandEnds to_tell k0 k1 status (record { text = t; status = exit.Unknown }) → GivesUp to_tell k0 k1 status
gives_up t items words same e w =
    let shown : List ℕ → Output = λ v. record { text = v; status = exit.Unknown } in
    let ends = ends-same _ _ _ _ _ _ (ap shown (sym (same ∙ e))) w in
    (Unknown words, ends, ends_zero ends (λ x. cc x))

pub property_ends : {to_tell : Bool} {k0 k1 : SinkAt} {status : Status} (d : Deployed) (text : List ℕ) (p : PropertyTree) → IsProperty d.names d.app text (Ok p)
    → AnswersOf to_tell k0 k1 status d p → EndsOf to_tell k0 k1 status d text
property_ends {to_tell} {k0} {k1} {status} d text p read (decision, ends, never) = (
  decision,
  λ means is.
      let e : means.property d.names d.app text ≡ Ok p = one_property d.names d.app text (means.property d.names d.app text) (Ok p) (is.property d.names d.app text) read in
      (ends-same _ _ _ _ _ _ (ap (holds_property decision) e) ends, λ zero. subst (NeverProperty d) (sym e) (never zero)),
)

pub fault_ends : {to_tell : Bool} {k0 k1 : SinkAt} {status : Status} (d : Deployed) (text : List ℕ) (f said : PropertyFault) → said ≡ f → IsProperty d.names d.app text (Err f)
    → CommandEnds to_tell k0 k1 status (refused_output (fault_words said)) → EndsOf to_tell k0 k1 status d text
fault_ends {to_tell} {k0} {k1} {status} d text f said same read given = (
  Unknown [],
  λ means is.
      let e : means.property d.names d.app text ≡ Err f = one_property d.names d.app text (means.property d.names d.app text) (Err f) (is.property d.names d.app text) read in
      let ends = ends-same _ _ _ _ _ _ (ap (λ (v : PropertyFault). refused_output (fault_words v)) (sym same)) given in
      (ends-same _ _ _ _ _ _ (ap (holds_property (Unknown [])) e) ends, λ zero. absurd (ends_zero ends (λ x. cc x) zero)),
)

-- what reading gave, where its fault is this one
pub fault_read : (n : NameLists) (app : AppTree) (text : List ℕ) (r : Result Property PropertyError) (x : PropertyError) (f : PropertyFault) → r ≡ Err x → x ≡ property.Fault f
    → GivesOne r (IsProperty n app text) → IsProperty n app text (Err f)
fault_read n app text r x f is fault given =
    subst (λ (v : Result Property PropertyError). GivesOne v (IsProperty n app text)) (is ∙ ap Err fault) given

pub starved_ends : (to_tell : Bool) (k : SinkAt) (d : Deployed) (text : List ℕ) → EndsOf to_tell k k exit.OutOfMemory d text
starved_ends to_tell k d text = (Unknown [], λ means is. (starved to_tell k _, λ zero. absurd (cc zero)))

-- ---- the property after a deployment

-- the texts of both heads, where they are there
abbrev pair_of : List ℕ → Head → List (List ℕ)
pair_of text (Found t more) = text ∷ t ∷ []
pair_of text _ = []

abbrev texts_of : Head → List (List ℕ)
texts_of (Found text more) = pair_of text (head more)
texts_of _ = []

abbrev noted : Meanings → Decision → Head → Noted
noted means decision h = record { output = holds_head means decision h; notes = texts_of h }

abbrev behind_of : Meanings → Decision → Deployed → List ℕ → Head → Noted
behind_of means decision d text h = record { output = holds_second means decision d h; notes = pair_of text h }

abbrev nothing : List Answer → List ℕ
nothing answers = []

-- what was read, in the words of what is written
begun : {tells : Bool} {s0 s1 : SourceAt} {now : Ahead} (means : Meanings) (decision : Decision) (d : Deployed) (text : List ℕ) → means.deployment text ≡ Ok d
    → Got tells head_lines head_lines s0 s1 now head (λ more. Found text more) Unread anything
    → Got tells head_lines head_lines s0 s1 now (λ answers. noted means decision (head answers)) (λ answers. behind_of means decision d text (head answers))
    (behind_of means decision d text Unread) (Notes nothing [])
begun means decision d text e b =
    got-also (Notes nothing []) (λ answers more q. refl)
    (got-same {f = λ more. noted means decision (Found text more)} {g = λ more. behind_of means decision d text (head more)}
    (λ more. ap (λ (r : Result Deployed DeployFault). let n : Noted = record { output = holds_found means decision r more; notes = pair_of text (head more) } in n) e) refl
    (got-map (noted means decision) b))

found_pair : (h : Head) (text t : List ℕ) → texts_of h ≡ text ∷ t ∷ [] → IsFound h
found_pair (Found text' more) text t e = tt
found_pair TooLong text t e = absurd (cc e)
found_pair NoMark text t e = absurd (cc e)
found_pair Unread text t e = absurd (cc e)

second_never : (means : Meanings) (d : Deployed) (text text' t : List ℕ) (h : Head) → NeverProperty d (means.property d.names d.app t) → pair_of text' h ≡ text ∷ t ∷ []
    → NeverSecond means d h
second_never means d text text' t (Found t' more) never e =
    let same : t' ≡ t = cc e in
    subst (λ (v : List ℕ). NeverProperty d (means.property d.names d.app v)) (sym same) never
second_never means d text text' t TooLong never e = absurd (cc e)
second_never means d text text' t NoMark never e = absurd (cc e)
second_never means d text text' t Unread never e = absurd (cc e)

-- the head of an input whose two texts are these is that of a property which is never broken
never_behind : (means : Meanings) (d : Deployed) (text t : List ℕ) → means.deployment text ≡ Ok d → NeverProperty d (means.property d.names d.app t)
    → (h : Head) → texts_of h ≡ text ∷ t ∷ [] → NeverBehind means h
never_behind means d text t e never (Found text' more) q =
    let same : text' ≡ text = first text' (head more) q in
    let is : means.deployment text' ≡ Ok d = ap (λ (v : List ℕ). means.deployment v) same ∙ e in
    subst (λ (r : Result Deployed DeployFault). NeverFound means r more) (sym is) (second_never means d text text' t (head more) never q)
  where
    first : (text' : List ℕ) (h : Head) → pair_of text' h ≡ text ∷ t ∷ [] → text' ≡ text
    first text' (Found t' more) q = cc q
    first text' TooLong q = absurd (cc q)
    first text' NoMark q = absurd (cc q)
    first text' Unread q = absurd (cc q)
never_behind means d text t e never TooLong q = absurd (cc q)
never_behind means d text t e never NoMark q = absurd (cc q)
never_behind means d text t e never Unread q = absurd (cc q)

-- both texts were read
second_found : {tells to_tell : Bool} {s0 s2 : SourceAt} {k0 k1 : SinkAt} {now : Ahead} {status : Status} (means : Meanings) (decision : Decision) (d : Deployed) (text t : List ℕ)
    → means.deployment text ≡ Ok d
    → Got tells head_lines head_lines s0 s2 now (λ answers. noted means decision (head answers)) (λ more. behind_of means decision d text (Found t more))
    (behind_of means decision d text Unread) (Notes nothing [])
    → CommandEnds to_tell k0 k1 status (holds_property decision (means.property d.names d.app t))
    → (status ≡ exit.Done → NeverProperty d (means.property d.names d.app t))
    → Told tells to_tell head_lines (command_at s0 k0) (command_at s2 k1) status (holds_all means decision) (SaysOf means status)
second_found means decision d text t e b w never =
    told-stop (begun-got (λ n. n.output) refl (got-also (SaysOf means _) (λ answers more q. let texts : texts_of (head answers) ≡ text ∷ t ∷ [] = ap (λ n. n.notes) q in record {
      memory = λ six. found_pair (head answers) text t texts;
      never = λ zero. never_behind means d text t e (never zero) (head answers) texts;
    }) b)) (λ more. w)

-- there is no second text
second_none : {tells to_tell : Bool} {s0 s2 : SourceAt} {k0 k1 : SinkAt} {status : Status} (means : Meanings) (decision : Decision) (d : Deployed) (text : List ℕ) (h : Head) (o : Output)
    → holds_second means decision d h ≡ o
    → Reads tells head_lines s0 s2 (λ answers. noted means decision (head answers)) (behind_of means decision d text Unread)
    (λ answers. (noted means decision (head answers) ≡ behind_of means decision d text h) × Notes nothing [] answers)
    → CommandEnds to_tell k0 k1 status o → (status ≡ exit.OutOfMemory → ⊥) → (o.status ≡ exit.Done → ⊥)
    → Told tells to_tell head_lines (command_at s0 k0) (command_at s2 k1) status (holds_all means decision) (SaysOf means status)
second_none means decision d text h o e r w six n =
    told-reads (λ n. n.output) o refl r (λ answers q. (ap (λ n. n.output) q.0 ∙ e, quiet_says means _ answers six (ends_zero w n))) w

-- what reading the second text gave, where its fault is this one
pub read_as : {tells : Bool} {s1 : SourceAt} {old : Ahead} (s2 : SourceAt) (now : Ahead) (x y : HeadFault) → x ≡ y → TextRead tells s1 s2 old now (Err x) → TextRead tells s1 s2 old now (Err y)
read_as {tells} {s1} {old} s2 now x y e read = subst (λ (v : HeadFault). TextRead tells s1 s2 old now (Err v)) e read

pub not_six : (status : Status) → ((status ≡ exit.WriteFailed → ⊥) → status ≡ exit.ReadFailed) → status ≡ exit.OutOfMemory → ⊥
not_six status four six = cc (six, four (λ five. cc (five, six)))

pub rest_found : {tells to_tell : Bool} {s1 s2 : SourceAt} {k0 k1 : SinkAt} {old now : Ahead} {status : Status} (d : Deployed) (t other : List ℕ) → other ≡ t
    → TextRead tells s1 s2 old now (Ok t) → EndsOf to_tell k0 k1 status d other → DeployedEnds tells to_tell s1 s2 old k0 k1 status d
rest_found {to_tell = to_tell} {k0 = k0} {k1 = k1} {status = status} d t other same read (decision, ends) = (
  decision,
  λ means is text e s0 b.
      let w = subst (λ (v : List ℕ). CommandEnds to_tell k0 k1 status (holds_property decision (means.property d.names d.app v)) × (status ≡ exit.Done → NeverProperty d (means.property d.names d.app v))) same (ends means is) in
      second_found means decision d text t e (read head_lines s0 _ (behind_of means decision d text) nothing [] (begun means decision d text e b)) w.0 w.1,
)

pub rest_long : {tells to_tell : Bool} {s1 s2 : SourceAt} {k0 k1 : SinkAt} {old : Ahead} {status : Status} (now : Ahead) (d : Deployed)
    → TextRead tells s1 s2 old now (Err none.TooLong) → CommandEnds to_tell k0 k1 status no_property_output → (status ≡ exit.OutOfMemory → ⊥)
    → DeployedEnds tells to_tell s1 s2 old k0 k1 status d
rest_long now d read w six = (
  Unknown [],
  λ means is text e s0 b.
      second_none means (Unknown []) d text TooLong no_property_output refl
      (read head_lines s0 _ (behind_of means (Unknown []) d text) nothing [] (begun means (Unknown []) d text e b)) w six (λ x. cc x),
)

pub rest_open : {tells to_tell : Bool} {s1 s2 : SourceAt} {k0 k1 : SinkAt} {old : Ahead} {status : Status} (now : Ahead) (d : Deployed)
    → TextRead tells s1 s2 old now (Err none.NoMark) → CommandEnds to_tell k0 k1 status no_property_output → (status ≡ exit.OutOfMemory → ⊥)
    → DeployedEnds tells to_tell s1 s2 old k0 k1 status d
rest_open now d read w six = (
  Unknown [],
  λ means is text e s0 b.
      second_none means (Unknown []) d text NoMark no_property_output refl
      (read head_lines s0 _ (behind_of means (Unknown []) d text) nothing [] (begun means (Unknown []) d text e b)) w six (λ x. cc x),
)

pub rest_failed : {tells to_tell : Bool} {s1 s2 : SourceAt} {k0 k1 : SinkAt} {old : Ahead} {status : Status} (now : Ahead) (d : Deployed)
    → TextRead tells s1 s2 old now (Err none.Failed) → CommandEnds to_tell k0 k1 status unread_output → (status ≡ exit.OutOfMemory → ⊥)
    → DeployedEnds tells to_tell s1 s2 old k0 k1 status d
rest_failed now d read w six = (
  Unknown [],
  λ means is text e s0 b.
      second_none means (Unknown []) d text Unread unread_output refl
      (read head_lines s0 _ (behind_of means (Unknown []) d text) nothing [] (begun means (Unknown []) d text e b)) w six (λ x. cc x),
)

pub rest_starved : {tells to_tell : Bool} {s1 s2 : SourceAt} {old : Ahead} (now : Ahead) (k : SinkAt) (d : Deployed)
    → TextRead tells s1 s2 old now (Err none.OutOfMemory) → DeployedEnds tells to_tell s1 s2 old k k exit.OutOfMemory d
rest_starved {to_tell = to_tell} now k d read = (
  Unknown [],
  λ means is text e s0 b.
      let r = read head_lines s0 _ (behind_of means (Unknown []) d text) nothing [] (begun means (Unknown []) d text e b) in
      second_found means (Unknown []) d text r.0 e r.1 (starved to_tell k _) (λ zero. absurd (cc zero)),
)

-- ---- after the head

-- the text breaks a rule of deployments
refused_behind : {tells to_tell : Bool} {s0 s1 : SourceAt} {k0 k1 : SinkAt} {now : Ahead} {status : Status} (means : Meanings) (text : List ℕ) (f : DeployFault)
    → means.deployment text ≡ Err f → CommandEnds to_tell k0 k1 status (fault_output f) → (status ≡ exit.OutOfMemory → ⊥)
    → Got tells head_lines head_lines s0 s1 now head (λ more. Found text more) Unread anything
    → Told tells to_tell head_lines (command_at s0 k0) (command_at s1 k1) status (holds_all means (Unknown [])) (SaysOf means status)
refused_behind means text f e w six b =
    told-stop (begun-got (holds_head means (Unknown [])) refl (got-also (SaysOf means _) (λ answers more q. quiet_says means _ answers six (ends_zero w (λ x. cc x))) b))
    (λ more. ends-same _ _ _ _ _ _ (ap (λ (r : Result Deployed DeployFault). holds_found means (Unknown []) r more) e) w)

-- there was no memory after the head
starved_behind : {tells : Bool} {s0 s1 : SourceAt} {now : Ahead} (to_tell : Bool) (k : SinkAt) (means : Meanings) (text : List ℕ)
    → Got tells head_lines head_lines s0 s1 now head (λ more. Found text more) Unread anything
    → Told tells to_tell head_lines (command_at s0 k) (command_at s1 k) exit.OutOfMemory (holds_all means (Unknown [])) (SaysOf means exit.OutOfMemory)
starved_behind to_tell k means text b =
    told-stop (begun-got (holds_head means (Unknown [])) refl (got-also (SaysOf means exit.OutOfMemory) (λ answers more q. record {
      memory = λ six. let P : Head → Type 0 = IsFound in subst P (sym q) tt;
      never = λ zero. absurd (cc zero);
    }) b)) (λ more. starved to_tell k _)

pub text_ends : {tells to_tell : Bool} {s1 s2 : SourceAt} {k0 k1 : SinkAt} {old : Ahead} {status : Status} (text : List ℕ) (r : Result Deployment DeployError)
    → stage.GivesOne deployed_as r (IsRead text)
    → IfOk r (λ d. DeployedEnds tells to_tell s1 s2 old k0 k1 status (deployed_as d)) → IfErr r (λ e. EndsRefused to_tell k0 k1 status e) → OnErr r (s2 ≡ s1)
    → TextEnds tells to_tell s1 s2 old k0 k1 status text
text_ends text (Ok d) read (decision, ends) bad unread = (decision, λ means is. ends means is text (one_meaning text (means.deployment text) (Ok (deployed_as d)) (is.deployment text) read))
text_ends {tells} {to_tell} {s1} {s2} {k0} {k1} {old} {status} text (Err (deploy.Fault f)) read good bad unread = (
  Unknown [],
  λ means is s0 b.
      let e : means.deployment text ≡ Err f = one_meaning text (means.deployment text) (Err f) (is.deployment text) read in
      subst (λ (s : SourceAt). Told tells to_tell head_lines (command_at s0 k0) (command_at s k1) status (holds_all means (Unknown [])) (SaysOf means status)) (sym unread)
      (refused_behind means text f e bad.0 bad.1 b),
)
text_ends {tells} {to_tell} {s1} {s2} {k0} {k1} {old} {status} text (Err deploy.OutOfMemory) read good bad unread = (
  Unknown [],
  λ means is s0 b.
      subst (λ (s : SourceAt). Told tells to_tell head_lines (command_at s0 k0) (command_at s k1) status (holds_all means (Unknown [])) (SaysOf means status)) (sym unread)
      (rw (bad.0, bad.1) (starved_behind to_tell k0 means text b)),
)

-- ---- the whole command

pub head_found : {tells to_tell : Bool} {s0 s1 s2 : SourceAt} {k0 k1 : SinkAt} {now : Ahead} {status : Status} (text other : List ℕ) → other ≡ text
    → Got tells head_lines head_lines s0 s1 now head (λ more. Found text more) Unread anything → TextEnds tells to_tell s1 s2 now k0 k1 status other
    → ToldOf tells to_tell (command_at s0 k0) (command_at s2 k1) status
head_found {tells} {s0 = s0} {s1 = s1} {now = now} text other same b (decision, ends) = (
  decision,
  λ means is.
      ends means is s0 (subst (λ (v : List ℕ). Got tells head_lines head_lines s0 s1 now head (λ more. Found v more) Unread anything) (sym same) b),
)

none_told : {tells to_tell : Bool} {s0 s1 : SourceAt} {k0 k1 : SinkAt} {status : Status} (means : Meanings) (h : Head) (o : Output) → holds_head means (Unknown []) h ≡ o
    → Reads tells head_lines s0 s1 head Unread (λ answers. head answers ≡ h) → CommandEnds to_tell k0 k1 status o → (status ≡ exit.OutOfMemory → ⊥) → (o.status ≡ exit.Done → ⊥)
    → Told tells to_tell head_lines (command_at s0 k0) (command_at s1 k1) status (holds_all means (Unknown [])) (SaysOf means status)
none_told means h o e r w six n =
    told-reads (holds_head means (Unknown [])) o refl r (λ answers q. (ap (holds_head means (Unknown [])) q ∙ e, quiet_says means _ answers six (ends_zero w n))) w

pub headless : {tells to_tell : Bool} {s0 s1 : SourceAt} {k0 k1 : SinkAt} {status : Status} (now : Ahead) (why : HeadFault) → HeadRead tells s0 s1 now (Err why)
    → EndsHeadless to_tell k0 k1 status why → ToldOf tells to_tell (command_at s0 k0) (command_at s1 k1) status
headless now none.TooLong r w = (Unknown [], λ means is. none_told means TooLong (fault_output (fault 1 Nowhere)) refl r w.0 w.1 (λ x. cc x))
headless now none.NoMark r w = (Unknown [], λ means is. none_told means NoMark (fault_output (fault 2 Nowhere)) refl r w.0 w.1 (λ x. cc x))
headless now none.Failed r w = (Unknown [], λ means is. none_told means Unread unread_output refl r w.0 w.1 (λ x. cc x))
headless {to_tell = to_tell} {k0 = k0} now none.OutOfMemory r w = (Unknown [], λ means is. rw (w.0, w.1) (starved_behind to_tell k0 means r.0 r.1))
