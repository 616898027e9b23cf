-- What is due of some lines of an input of `watch` is due of more of them too.
use Rattle.std.proofs.Common.{◌≡◌, ℕ, ◌+◌, List, [], ◌∷◌, ◌++◌, length, nat_lt, refl, ap, Option, Some, None, Result, Ok, Err, inl, inr, Bool, true, false}
use Rattle.sx_io.specs.Reading.{Answer, Line, Long, newline}
use Rattle.command_promise.specs.declared.status.Status.TheVariants.{ReadFailed}
use Rattle.command_promise.specs.Told.{Output, unread_output}
use Rattle.command_promise.proofs.Due.{lines_then, EndsUnread, Due, due-behind}
use Rattle.sx_entries.specs.declared.fault.DeployFault.{DeployFault}
use Rattle.command_promise.specs.Head.{Head, Found, TooLong, NoMark, head, head_behind, is_mark, most_bytes}
use Rattle.command_promise.specs.Head as heads
use Rattle.sx_trace.specs.declared.items.Item.{Item}
use Rattle.sx_model.specs.Legal.{before}
use Rattle.sx_deploy.specs.Deployment.{Deployed}
use Rattle.sx_watch.specs.declared.reading.PropertyFault.{PropertyFault}
use Rattle.sx_watch.specs.Watched.{PropertyTree, broken_at}
use Rattle.command_head.specs.Refused.{fault_output}
use Rattle.command_property.specs.Refused.{fault_words, refused_output}
use Rattle.command_explain.specs.declared.images.ImageLine.{ImageLine}
use Rattle.command_explain.specs.declared.images.ImageLine.TheVariants as image
use Rattle.command_explain.specs.declared.lines.TraceLine.{TraceLine}
use Rattle.command_explain.specs.declared.lines.TraceRule.{TraceRule}
use Rattle.command_explain.specs.declared.lines.TraceRule.TheVariants.{NoTrace, NoItem}
use Rattle.command_explain.specs.declared.lines.TraceLine.TheVariants as kind
use Rattle.command_explain.specs.Output.{broken_output}
use Rattle.command_explain.specs.Trace.{Behind, Breaks, Missing, Start, Stop, Unread, Whole, image_line, judged_line, line_of, on_image, rule_behind, start, stop_behind, trace}
use Rattle.command_watch.specs.Meant.{Meanings}
use Rattle.command_watch.specs.Output.{broken_line, stop_output, unless_broken, watch_all, watch_from, watch_start}
use Rattle.command_watch.specs.Parts.{watch_found, watch_head, watch_judged, watch_property}
use Rattle.command_watch.proofs.Written.{said_bad, said_broken, said_item, said_last, said_unread}

-- ---- where a read failed, its line is the last

stop_ends : (items : List Item) (stop : Stop) → EndsUnread (stop_output items stop)
stop_ends items Whole e = absurd (cc e)
stop_ends items Unread e = ([], refl)
stop_ends items (Breaks rule number) e = absurd (cc e)

unless_ends : (o : Option ℕ) (rest : Output) → EndsUnread rest → EndsUnread (unless_broken o rest)
unless_ends None rest h e = h e
unless_ends (Some n) rest h e = absurd (cc e)

from_ends : (p : PropertyTree) (item : List ℕ → Option Item) (front : List Item) (more : List Answer) → EndsUnread (watch_from p item front more)
unfolding watch_from
from_ends p item front more e =
    let t = trace item (length front + 1) more in
    unless_ends (broken_at p (before (front ++ t.items))) (stop_output (front ++ t.items) t.stop) (stop_ends (front ++ t.items) t.stop) e

start_ends : (p : PropertyTree) (item : List ℕ → Option Item) (s : Start) → EndsUnread (watch_start p item s)
start_ends p item (Behind more) e = from_ends p item [] more e
start_ends p item (Missing stop) e = stop_ends [] stop e

judged_ends : (item : List ℕ → Option Item) (r : Result PropertyTree PropertyFault) (more : List Answer) → EndsUnread (watch_judged item r more)
judged_ends item (Ok p) more e = start_ends p item (start 1 more) e
judged_ends item (Err f) more e = absurd (cc e)

property_ends : (means : Meanings) (d : Deployed) (h : Head) → EndsUnread (watch_property means d h)
property_ends means d (Found text more) e = judged_ends (means.trace.item d.names) (means.property d.names d.app text) more e
property_ends means d TooLong e = absurd (cc e)
property_ends means d NoMark e = absurd (cc e)
property_ends means d heads.Unread e = ([], refl)

found_ends : (means : Meanings) (r : Result Deployed DeployFault) (more : List Answer) → EndsUnread (watch_found means r more)
found_ends means (Ok d) more e = property_ends means d (head more) e
found_ends means (Err f) more e = absurd (cc e)

head_ends : (means : Meanings) (h : Head) → EndsUnread (watch_head means h)
head_ends means (Found text more) e = found_ends means (means.trace.deployment text) more e
head_ends means TooLong e = absurd (cc e)
head_ends means NoMark e = absurd (cc e)
head_ends means heads.Unread e = ([], refl)

-- ---- after `trace`

due_end : (item : List ℕ → Option Item) (items : List Item) (number : ℕ) (ls : List (List ℕ)) → Due (λ more. stop_output items (stop_behind item number (lines_then ls more)))
due_end item items number [] =
    inr (
      [],
      λ more. stop_output items (stop_behind item number more),
      λ more. refl,
      refl,
      λ e. cc e,
      λ more. stop_ends items (stop_behind item number more),
    )
due_end item items number (l ∷ ls) = inl (broken_output (rule_behind (line_of item l)) number, λ e. cc e, λ more. refl)

module _ (p : PropertyTree) (item : List ℕ → Option Item) where
  from_long : (front : List Item) → (watch_from p item front (Long ∷ [])).status ≡ ReadFailed → ⊥
  unfolding watch_from
  from_long front e = at (broken_at p (before (front ++ []))) e
    where
      at : (o : Option ℕ) → (unless_broken o (broken_output NoItem (length front + 1))).status ≡ ReadFailed → ⊥
      at None e = cc e
      at (Some n) e = cc e

  due_line : (front : List Item) (l : List ℕ) (ls : List (List ℕ)) (r : Result TraceLine TraceRule) → broken_at p (before front) ≡ None → judged_line (length front + 1) (line_of item l) ≡ r
      → ((i : Item) → Due (λ more. watch_from p item (front ++ i ∷ []) (lines_then ls more))) → Due (λ more. watch_from p item front (Line l ∷ lines_then ls more))
  due_line front l ls (Err rule) u e f =
      inl (broken_output rule (length front + 1), λ x. cc x, λ more. said_bad p item front u l rule (lines_then ls more) e)
  due_line front l ls (Ok kind.Last) u e f =
      due-behind (λ more. watch_from p item front (Line l ∷ lines_then ls more)) (λ more. stop_output front (stop_behind item (length front + 1 + 1) (lines_then ls more))) []
      (λ more. said_last p item front u l (lines_then ls more) e) (due_end item front (length front + 1 + 1) ls)
  due_line front l ls (Ok (kind.Item i)) u e f =
      due-behind (λ more. watch_from p item front (Line l ∷ lines_then ls more)) (λ more. watch_from p item (front ++ i ∷ []) (lines_then ls more)) []
      (λ more. said_item p item front l i (lines_then ls more) e) (f i)

  -- one of these items breaks the property, or none does yet
  due_unless : (front : List Item) (ls : List (List ℕ)) (o : Option ℕ) → broken_at p (before front) ≡ o
      → (broken_at p (before front) ≡ None → Due (λ more. watch_from p item front (lines_then ls more))) → Due (λ more. watch_from p item front (lines_then ls more))
  due_unless front ls None e d = d e
  due_unless front ls (Some n) e d = inl (broken_line n, λ x. cc x, λ more. said_broken p item front n (lines_then ls more) e)

  due_from : (ls : List (List ℕ)) (front : List Item) → Due (λ more. watch_from p item front (lines_then ls more))
  due_from [] front =
      due_unless front [] (broken_at p (before front)) refl
      (λ u. inr ([], watch_from p item front, λ more. refl, said_unread p item front u [], from_long front, from_ends p item front))
  due_from (l ∷ ls) front =
      due_unless front (l ∷ ls) (broken_at p (before front)) refl
      (λ u. due_line front l ls (judged_line (length front + 1) (line_of item l)) u refl (λ i. due_from ls (front ++ i ∷ [])))

  -- ---- before it

  due_image : (number : ℕ) (l : List ℕ) (ls : List (List ℕ)) (k : ImageLine) → image_line number l ≡ k → Due (λ more. watch_start p item (start (number + 1) (lines_then ls more)))
      → Due (λ more. watch_start p item (start number (Line l ∷ lines_then ls more)))
  due_image number l ls image.Trace e d =
      due-behind (λ more. watch_start p item (start number (Line l ∷ lines_then ls more))) (λ more. watch_from p item [] (lines_then ls more)) []
      (λ more. ap (λ k. watch_start p item (on_image number k (lines_then ls more) (start (number + 1) (lines_then ls more)))) e) (due_from ls [])
  due_image number l ls image.Image e d =
      due-behind (λ more. watch_start p item (start number (Line l ∷ lines_then ls more))) (λ more. watch_start p item (start (number + 1) (lines_then ls more))) []
      (λ more. ap (λ k. watch_start p item (on_image number k (lines_then ls more) (start (number + 1) (lines_then ls more)))) e) d
  due_image number l ls image.Other e d =
      inl (
        broken_output NoTrace number,
        λ x. cc x,
        λ more. ap (λ k. watch_start p item (on_image number k (lines_then ls more) (start (number + 1) (lines_then ls more)))) e,
      )

  due_start : (ls : List (List ℕ)) (number : ℕ) → Due (λ more. watch_start p item (start number (lines_then ls more)))
  due_start [] number =
      inr (
        [],
        λ more. watch_start p item (start number more),
        λ more. refl,
        refl,
        λ e. cc e,
        λ more. start_ends p item (start number more),
      )
  due_start (l ∷ ls) number = due_image number l ls (image_line number l) refl (due_start ls (number + 1))

due_judged : (item : List ℕ → Option Item) (r : Result PropertyTree PropertyFault) (ls : List (List ℕ)) → Due (λ more. watch_judged item r (lines_then ls more))
due_judged item (Ok p) ls = due_start p item ls 1
due_judged item (Err f) ls = inl (refused_output (fault_words f), λ x. cc x, λ more. refl)

-- ---- heads

-- What is said of a head: where it is none that is settled, and after a text what is due of the lines after it is due.
module _ (say : Head → Output) (unread : say heads.Unread ≡ unread_output) (ends : (h : Head) → EndsUnread (say h))
    (long : (say TooLong).status ≡ ReadFailed → ⊥) (found : (text : List ℕ) (ls : List (List ℕ)) → Due (λ more. say (Found text (lines_then ls more)))) where
  due_mark : (text l : List ℕ) (ls : List (List ℕ)) (p q : Bool) → is_mark l ≡ p → nat_lt most_bytes (length text + length l + 1) ≡ q
      → Due (λ more. say (head_behind (text ++ l ++ newline ∷ []) (lines_then ls more))) → Due (λ more. say (head_behind text (Line l ∷ lines_then ls more)))
  due_mark text l ls true q x y d =
      due-behind (λ more. say (head_behind text (Line l ∷ lines_then ls more))) (λ more. say (Found text (lines_then ls more))) [] (λ more. rw x refl) (found text ls)
  due_mark text l ls false true x y d = inl (say TooLong, long, λ more. rw (x, y) refl)
  due_mark text l ls false false x y d =
      due-behind (λ more. say (head_behind text (Line l ∷ lines_then ls more))) (λ more. say (head_behind (text ++ l ++ newline ∷ []) (lines_then ls more))) [] (λ more. rw (x, y) refl) d

  due_head : (ls : List (List ℕ)) (text : List ℕ) → Due (λ more. say (head_behind text (lines_then ls more)))
  due_head [] text =
      inr (
        [],
        λ more. say (head_behind text more),
        λ more. refl,
        unread,
        long,
        λ more. ends (head_behind text more),
      )
  due_head (l ∷ ls) text = due_mark text l ls (is_mark l) (nat_lt most_bytes (length text + length l + 1)) refl refl (due_head ls (text ++ l ++ newline ∷ []))

due_property : (means : Meanings) (d : Deployed) (ls : List (List ℕ)) → Due (λ more. watch_property means d (head (lines_then ls more)))
due_property means d ls =
    due_head (watch_property means d) refl (property_ends means d) (λ e. cc e) (λ text ls. due_judged (means.trace.item d.names) (means.property d.names d.app text) ls) ls []

due_found : (means : Meanings) (r : Result Deployed DeployFault) (ls : List (List ℕ)) → Due (λ more. watch_found means r (lines_then ls more))
due_found means (Err f) ls = inl (fault_output f, λ x. cc x, λ more. refl)
due_found means (Ok d) ls = due_property means d ls

pub due_all : (means : Meanings) (ls : List (List ℕ)) → Due (λ more. watch_all means (lines_then ls more))
due_all means ls =
    due_head (watch_head means) refl (head_ends means) (λ e. cc e) (λ text ls. due_found means (means.trace.deployment text) ls) ls []
