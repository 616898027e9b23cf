-- The statuses of `explain`.
use Rattle.std.proofs.Common.{◌≡◌, ◌∙◌, ℕ, ◌+◌, ◌⊎◌, inl, inr, List, [], ◌∷◌, ◌++◌, length, nat_lt, refl, sym, ap, append_assoc, Result, Ok, Err, Option}
use Rattle.std.proofs.lemmas.List.{append-nil}
use Rattle.sx_io.specs.Reading.{Answer, Line, End, Long, Fault, newline}
use Rattle.command_promise.specs.declared.status.Status.{Status}
use Rattle.command_promise.specs.declared.status.Status.TheVariants.{Done, Refused, Misused, ReadFailed, Illegal}
use Rattle.command_promise.specs.Told.{Output}
use Rattle.command_promise.proofs.Endings.{Faultless, Unfinished, pick}
use Rattle.sx_entries.specs.declared.fault.DeployFault.{DeployFault}
use Rattle.command_promise.specs.Head.{Head, Found, TooLong, NoMark, head_behind, is_mark, most_bytes}
use Rattle.command_promise.specs.Head as heads
use Rattle.sx_trace.specs.declared.items.Item.{Item}
use Rattle.sx_mean.specs.Application.{AppTree}
use Rattle.sx_deploy.specs.Deployment.{Deployed}
use Rattle.sx_explain.specs.declared.judge.Judged.{Judged}
use Rattle.sx_explain.specs.declared.judge.Judged.TheVariants as verdict
use Rattle.sx_explain.specs.Judging.{judged}
use Rattle.sx_explain.specs.Laws.{NoneIllegal}
use Rattle.sx_explain.proofs.JudgesLegal.{judges_legal}
use Rattle.command_explain.specs.declared.images.ImageLine.{ImageLine}
use Rattle.command_explain.specs.declared.images.ImageLine.TheVariants as image
use Rattle.command_explain.specs.declared.lines.TraceRule.{TraceRule}
use Rattle.command_explain.specs.declared.lines.TraceRule.TheVariants.{NoTrace}
use Rattle.command_explain.specs.Meant.{Meanings}
use Rattle.command_explain.specs.Output.{explain_all, explain_found, explain_from, explain_head, explain_start, stop_output, told_item, told_items}
use Rattle.command_explain.specs.Promise.{IsLegalInput, IsLegalOf, IsLegalTrace}
use Rattle.command_explain.specs.Trace.{Behind, Breaks, Missing, Start, Stop, Unread, Whole, image_line, on_image, start, trace}
use Rattle.command_explain.proofs.Explained.{traces_explained}
use Rattle.command_explain.proofs.Stops.{start_whole, trace_kept}

-- ---- from stops to statuses

-- a status is that of how it stopped, or says that an item is illegal
abbrev Is : Status → Status → Type 0
Is s last = (s ≡ Illegal) ⊎ (s ≡ last)

status_item : (number : ℕ) (j : Judged) (rest : Output) (last : Status) → Is rest.status last → Is (told_item number j rest).status last
status_item number (verdict.Because n) rest last h = h
status_item number verdict.Illegal rest last h = inl refl
status_item number verdict.Fine rest last h = h
status_item number verdict.Forged rest last h = h
status_item number verdict.Unjudged rest last h = h

status_items : (app : AppTree) (front items : List Item) (last : Output) → Is (told_items app front items last).status last.status
status_items app front [] last = inr refl
status_items app front (i ∷ is) last =
    status_item (length front + 1) (judged app front i) (told_items app (front ++ i ∷ []) is last) last.status (status_items app (front ++ i ∷ []) is last)

status_from : (app : AppTree) (item : List ℕ → Option Item) (more : List Answer)
    → Is (explain_from app item [] more).status (stop_output (trace item 1 more).items (trace item 1 more).stop).status
unfolding explain_from
status_from app item more = let t = trace item 1 more in status_items app [] t.items (stop_output t.items t.stop)

not_two : (items : List Item) (stop : Stop) → (stop_output items stop).status ≡ Misused → ⊥
not_two items Whole e = cc e
not_two items Unread e = cc e
not_two items (Breaks rule number) e = cc e

start_not_two : (app : AppTree) (item : List ℕ → Option Item) (s : Start) → (explain_start app item s).status ≡ Misused → ⊥
start_not_two app item (Behind more) e =
    elim (status_from app item more) [
      | inl eight ↦ cc (eight, e)
      | inr same ↦ not_two (trace item 1 more).items (trace item 1 more).stop (sym same ∙ e)
    ]
start_not_two app item (Missing stop) e = not_two [] stop e

found_not_two : (means : Meanings) (r : Result Deployed DeployFault) (more : List Answer) → (explain_found means r more).status ≡ Misused → ⊥
found_not_two means (Ok d) more e = start_not_two d.app (means.item d.names) (start 1 more) e
found_not_two means (Err f) more e = cc e

pub head_not_two : (means : Meanings) (h : Head) → (explain_head means h).status ≡ Misused → ⊥
head_not_two means (Found text more) e = found_not_two means (means.deployment text) more e
head_not_two means TooLong e = cc e
head_not_two means NoMark e = cc e
head_not_two means heads.Unread e = cc e

-- ---- a stop that doesn't come

-- A stop, and its status, that no broken rule gives; and what answers keep so that it doesn't come.
module _ (bad : Stop) (s : Status) (Kept : List Answer → Type 0) (is_bad : (items : List Item) (stop : Stop) → (stop_output items stop).status ≡ s → stop ≡ bad)
    (breaks : (rule : TraceRule) (number : ℕ) → Breaks rule number ≡ bad → ⊥) (one : Refused ≡ s → ⊥) (eight : Illegal ≡ s → ⊥)
    (none : Kept [] → Whole ≡ bad → ⊥) (ended : (more : List Answer) → Kept (End ∷ more) → Whole ≡ bad → ⊥)
    (failed : (more : List Answer) → Kept (Fault ∷ more) → Unread ≡ bad → ⊥) (unread : (more : List Answer) → Kept (Fault ∷ more) → ReadFailed ≡ s → ⊥)
    (behind : (text : List ℕ) (more : List Answer) → Kept (Line text ∷ more) → Kept more) where
  from_kept : (app : AppTree) (item : List ℕ → Option Item) (answers : List Answer) → Kept answers → (explain_from app item [] answers).status ≡ s → ⊥
  from_kept app item answers k e =
      elim (status_from app item answers) [
        | inl h ↦ eight (sym h ∙ e)
        | inr h ↦ trace_kept bad Kept breaks none ended failed behind item 1 answers k (is_bad (trace item 1 answers).items (trace item 1 answers).stop (sym h ∙ e))
      ]

  image_kept : (app : AppTree) (item : List ℕ → Option Item) (number : ℕ) (l : ImageLine) (more : List Answer) (rest : Start) → Kept more → ((explain_start app item rest).status ≡ s → ⊥)
      → (explain_start app item (on_image number l more rest)).status ≡ s → ⊥
  image_kept app item number image.Trace more rest k next e = from_kept app item more k e
  image_kept app item number image.Image more rest k next e = next e
  image_kept app item number image.Other more rest k next e = breaks NoTrace number (is_bad [] (Breaks NoTrace number) e)

  start_kept : (app : AppTree) (item : List ℕ → Option Item) (number : ℕ) (answers : List Answer) → Kept answers → (explain_start app item (start number answers)).status ≡ s → ⊥
  start_kept app item number [] k e = breaks NoTrace number (is_bad [] (Breaks NoTrace number) e)
  start_kept app item number (End ∷ more) k e = breaks NoTrace number (is_bad [] (Breaks NoTrace number) e)
  start_kept app item number (Long ∷ more) k e = breaks NoTrace number (is_bad [] (Breaks NoTrace number) e)
  start_kept app item number (Fault ∷ more) k e = failed more k (is_bad [] Unread e)
  start_kept app item number (Line text ∷ more) k e =
      image_kept app item number (image_line number text) more (start (number + 1) more) (behind text more k) (start_kept app item (number + 1) more (behind text more k)) e

  found_kept : (means : Meanings) (r : Result Deployed DeployFault) (answers : List Answer) → Kept answers → (explain_found means r answers).status ≡ s → ⊥
  found_kept means (Ok d) answers k e = start_kept d.app (means.item d.names) 1 answers k e
  found_kept means (Err f) answers k e = one e

  head_kept : (means : Meanings) (text : List ℕ) (answers : List Answer) → Kept answers → (explain_head means (head_behind text answers)).status ≡ s → ⊥
  head_kept means text [] k e = one e
  head_kept means text (End ∷ more) k e = one e
  head_kept means text (Long ∷ more) k e = one e
  head_kept means text (Fault ∷ more) k e = unread more k e
  head_kept means text (Line line ∷ more) k e =
      pick (is_mark line) (Found text more) _ (λ h. (explain_head means h).status ≡ s → ⊥) (found_kept means (means.deployment text) more (behind line more k))
      (pick (nat_lt most_bytes (length text + length line + 1)) TooLong _ (λ h. (explain_head means h).status ≡ s → ⊥) one
      (head_kept means (text ++ line ++ newline ∷ []) more (behind line more k))) e

is_unread : (items : List Item) (stop : Stop) → (stop_output items stop).status ≡ ReadFailed → stop ≡ Unread
is_unread items Whole e = absurd (cc e)
is_unread items Unread e = refl
is_unread items (Breaks rule number) e = absurd (cc e)

is_whole : (items : List Item) (stop : Stop) → (stop_output items stop).status ≡ Done → stop ≡ Whole
is_whole items Whole e = refl
is_whole items Unread e = absurd (cc e)
is_whole items (Breaks rule number) e = absurd (cc e)

-- status 4 says that a read failed
pub not_four : (means : Meanings) (answers : List Answer) → Faultless answers → (explain_all means answers).status ≡ ReadFailed → ⊥
not_four means answers kept =
    head_kept Unread ReadFailed Faultless is_unread (λ rule number e. cc e) (λ e. cc e) (λ e. cc e) (λ k e. cc e) (λ more k e. cc e) (λ more k e. k) (λ more k e. k)
    (λ text more k. k) means [] answers kept

-- status 0 says that the input ended
pub not_zero : (means : Meanings) (answers : List Answer) → Unfinished answers → (explain_all means answers).status ≡ Done → ⊥
not_zero means answers kept =
    head_kept Whole Done Unfinished is_whole (λ rule number e. cc e) (λ e. cc e) (λ e. cc e) (λ k e. k) (λ more k e. k) (λ more k e. cc e) (λ more k e. cc e)
    (λ text more k. k) means [] answers kept

-- ---- status 0 comes exactly for legal traces

abbrev NoneFrom : AppTree → List Item → List Item → Type 0
NoneFrom app seen items = (front behind : List Item) (item : Item) → items ≡ front ++ item ∷ behind → judged app (seen ++ front) item ≡ verdict.Illegal → ⊥

item_zero : (number : ℕ) (j : Judged) (rest : Output) → (told_item number j rest).status ≡ Done → (j ≡ verdict.Illegal → ⊥) × (rest.status ≡ Done)
item_zero number (verdict.Because n) rest e = (λ h. cc h, e)
item_zero number verdict.Illegal rest e = absurd (cc e)
item_zero number verdict.Fine rest e = (λ h. cc h, e)
item_zero number verdict.Forged rest e = (λ h. cc h, e)
item_zero number verdict.Unjudged rest e = (λ h. cc h, e)

none_more : (app : AppTree) (seen : List Item) (i : Item) (is : List Item) → (judged app seen i ≡ verdict.Illegal → ⊥) → NoneFrom app (seen ++ i ∷ []) is → NoneFrom app seen (i ∷ is)
none_more app seen i is here rest [] behind item e h =
    let first : i ≡ item = cc e in
    here (ap (judged app seen) first ∙ ap (λ xs. judged app xs item) (sym (append-nil seen)) ∙ h)
none_more app seen i is here rest (f ∷ fs) behind item e h =
    let first : i ≡ f = cc e in
    rest fs behind item (cc e)
    (ap (λ xs. judged app xs item) (append_assoc seen (i ∷ []) fs ∙ ap (λ (x : Item). seen ++ x ∷ fs) first) ∙ h)

nothing_in : (front behind : List Item) (item : Item) → [] ≡ front ++ item ∷ behind → ⊥
nothing_in [] behind item e = cc e
nothing_in (f ∷ fs) behind item e = cc e

items_zero : (app : AppTree) (seen items : List Item) (last : Output) → (told_items app seen items last).status ≡ Done → NoneFrom app seen items × (last.status ≡ Done)
items_zero app seen [] last e = (λ front behind item p h. nothing_in front behind item p, e)
items_zero app seen (i ∷ is) last e =
    let w = item_zero (length seen + 1) (judged app seen i) (told_items app (seen ++ i ∷ []) is last) e in
    let rest = items_zero app (seen ++ i ∷ []) is last w.1 in
    (none_more app seen i is w.0 rest.0, rest.1)

from_zero : (app : AppTree) (item : List ℕ → Option Item) (more : List Answer) → (explain_from app item [] more).status ≡ Done → IsLegalTrace app item (Behind more)
unfolding explain_from
from_zero app item more e =
    let t = trace item 1 more in
    let w = items_zero app [] t.items (stop_output t.items t.stop) e in
    let none : NoneIllegal app t.items = w.0 in
    (is_whole t.items t.stop w.1, (judges_legal app t.items).1 none)

start_zero : (app : AppTree) (item : List ℕ → Option Item) (s : Start) → (explain_start app item s).status ≡ Done → (s ≡ Missing Whole → ⊥) → IsLegalTrace app item s
start_zero app item (Behind more) e n = from_zero app item more e
start_zero app item (Missing stop) e n = absurd (n (ap Missing (is_whole [] stop e)))

found_zero : (means : Meanings) (r : Result Deployed DeployFault) (more : List Answer) → (explain_found means r more).status ≡ Done → IsLegalOf means r more
found_zero means (Ok d) more e = start_zero d.app (means.item d.names) (start 1 more) e (start_whole 1 more)
found_zero means (Err f) more e = absurd (cc e)

pub head_zero : (means : Meanings) (h : Head) → (explain_head means h).status ≡ Done → IsLegalInput means h
head_zero means (Found text more) e = found_zero means (means.deployment text) more e
head_zero means TooLong e = absurd (cc e)
head_zero means NoMark e = absurd (cc e)
head_zero means heads.Unread e = absurd (cc e)

start_legal : (app : AppTree) (item : List ℕ → Option Item) (s : Start) → IsLegalTrace app item s → (explain_start app item s).status ≡ Done
start_legal app item (Behind more) h =
    ap (λ (o : Output). o.status) ((traces_explained app item more).legal h.1) ∙ ap (λ stop. (stop_output (trace item 1 more).items stop).status) h.0
start_legal app item (Missing stop) h = absurd h

found_legal : (means : Meanings) (r : Result Deployed DeployFault) (more : List Answer) → IsLegalOf means r more → (explain_found means r more).status ≡ Done
found_legal means (Ok d) more h = start_legal d.app (means.item d.names) (start 1 more) h
found_legal means (Err f) more h = absurd h

pub head_legal : (means : Meanings) (h : Head) → IsLegalInput means h → (explain_head means h).status ≡ Done
head_legal means (Found text more) h = found_legal means (means.deployment text) more h
head_legal means TooLong h = absurd h
head_legal means NoMark h = absurd h
head_legal means heads.Unread h = absurd h
