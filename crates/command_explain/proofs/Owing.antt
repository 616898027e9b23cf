-- What is due of some lines of an input of `explain` is due of more of them too.
use Rattle.std.proofs.Common.{◌≡◌, ℕ, ◌+◌, List, [], ◌∷◌, ◌++◌, length, nat_lt, refl, ap, Option, Result, Ok, Err, inl, inr, Bool, true, false}
use Rattle.sx_io.specs.Reading.{Answer, Line, Long, newline}
use Rattle.command_promise.specs.declared.status.Status.TheVariants.{ReadFailed}
use Rattle.command_promise.specs.Told.{Output}
use Rattle.command_promise.proofs.Due.{lines_then, EndsUnread, Due, due-behind, behind-ends}
use Rattle.sx_entries.specs.declared.fault.Place.TheVariants.{Nowhere}
use Rattle.sx_entries.specs.declared.fault.DeployFault.{DeployFault}
use Rattle.sx_entries.specs.Fault.{fault}
use Rattle.command_promise.specs.Head.{Head, Found, TooLong, NoMark, head_behind, is_mark, most_bytes}
use Rattle.command_promise.specs.Head as heads
use Rattle.sx_trace.specs.declared.items.Item.{Item}
use Rattle.sx_mean.specs.Application.{AppTree}
use Rattle.sx_deploy.specs.Deployment.{Deployed}
use Rattle.sx_explain.specs.Judging.{judged}
use Rattle.sx_explain.specs.declared.judge.Judged.{Judged}
use Rattle.sx_explain.specs.declared.judge.Judged.TheVariants as verdict
use Rattle.command_head.specs.Refused.{fault_output}
use Rattle.command_explain.specs.declared.images.ImageLine.{ImageLine}
use Rattle.command_explain.specs.declared.images.ImageLine.TheVariants as image
use Rattle.command_explain.specs.declared.lines.TraceLine.{TraceLine}
use Rattle.command_explain.specs.declared.lines.TraceRule.{TraceRule}
use Rattle.command_explain.specs.declared.lines.TraceRule.TheVariants.{NoTrace}
use Rattle.command_explain.specs.declared.lines.TraceLine.TheVariants as kind
use Rattle.command_explain.specs.Meant.{Meanings}
use Rattle.command_explain.specs.Output.{because_line, broken_output, explain_all, explain_found, explain_from, explain_head, explain_start, illegal_output, stop_output, told_item, told_items}
use Rattle.command_explain.specs.Trace.{Behind, Breaks, Missing, Start, Stop, Unread, Whole, image_line, judged_line, line_of, on_image, rule_behind, start, stop_behind, trace}
use Rattle.command_explain.proofs.Written.{said_broken, said_item, said_last, said_unread}

-- ---- where a read failed, its line is the last

stop_ends : (items : List Item) (stop : Stop) → EndsUnread (stop_output items stop)
stop_ends items Whole e = absurd (cc e)
stop_ends items Unread e = ([], refl)
stop_ends items (Breaks rule number) e = absurd (cc e)

item_ends : (number : ℕ) (j : Judged) (rest : Output) → EndsUnread rest → EndsUnread (told_item number j rest)
item_ends number (verdict.Because n) rest h e = behind-ends (because_line number n) rest h e
item_ends number verdict.Illegal rest h e = absurd (cc e)
item_ends number verdict.Fine rest h e = h e
item_ends number verdict.Forged rest h e = h e
item_ends number verdict.Unjudged rest h e = h e

items_end : (app : AppTree) (front items : List Item) (last : Output) → EndsUnread last → EndsUnread (told_items app front items last)
items_end app front [] last h e = h e
items_end app front (i ∷ is) last h e =
    item_ends (length front + 1) (judged app front i) (told_items app (front ++ i ∷ []) is last) (items_end app (front ++ i ∷ []) is last h) e

from_ends : (app : AppTree) (item : List ℕ → Option Item) (front : List Item) (more : List Answer) → EndsUnread (explain_from app item front more)
unfolding explain_from
from_ends app item front more e =
    let t = trace item (length front + 1) more in
    items_end app front t.items (stop_output (front ++ t.items) t.stop) (stop_ends (front ++ t.items) t.stop) e

start_ends : (app : AppTree) (item : List ℕ → Option Item) (s : Start) → EndsUnread (explain_start app item s)
start_ends app item (Behind more) e = from_ends app item [] more e
start_ends app item (Missing stop) e = stop_ends [] stop e

found_ends : (means : Meanings) (r : Result Deployed DeployFault) (more : List Answer) → EndsUnread (explain_found means r more)
found_ends means (Ok d) more e = start_ends d.app (means.item d.names) (start 1 more) e
found_ends means (Err f) more e = absurd (cc e)

head_ends : (means : Meanings) (h : Head) → EndsUnread (explain_head means h)
head_ends means (Found text more) e = found_ends means (means.deployment text) more e
head_ends means TooLong e = absurd (cc e)
head_ends means NoMark e = absurd (cc e)
head_ends means heads.Unread e = ([], refl)

-- ---- after `trace`

due_end : (item : List ℕ → Option Item) (items : List Item) (number : ℕ) (ls : List (List ℕ)) → Due (λ more. stop_output items (stop_behind item number (lines_then ls more)))
due_end item items number [] =
    inr (
      [],
      λ more. stop_output items (stop_behind item number more),
      λ more. refl,
      refl,
      λ e. cc e,
      λ more. stop_ends items (stop_behind item number more),
    )
due_end item items number (l ∷ ls) = inl (broken_output (rule_behind (line_of item l)) number, λ e. cc e, λ more. refl)

due_told : (number : ℕ) (j : Judged) (G H : List Answer → Output) → ((more : List Answer) → G more ≡ told_item number j (H more)) → Due H → Due G
due_told number (verdict.Because n) G H e d = due-behind G H (because_line number n) e d
due_told number verdict.Illegal G H e d = inl (illegal_output number, λ x. cc x, e)
due_told number verdict.Fine G H e d = due-behind G H [] e d
due_told number verdict.Forged G H e d = due-behind G H [] e d
due_told number verdict.Unjudged G H e d = due-behind G H [] e d

module _ (app : AppTree) (item : List ℕ → Option Item) where
  due_line : (front : List Item) (l : List ℕ) (ls : List (List ℕ)) (r : Result TraceLine TraceRule) → judged_line (length front + 1) (line_of item l) ≡ r
      → ((i : Item) → Due (λ more. explain_from app item (front ++ i ∷ []) (lines_then ls more))) → Due (λ more. explain_from app item front (Line l ∷ lines_then ls more))
  due_line front l ls (Err rule) e f =
      inl (broken_output rule (length front + 1), λ x. cc x, λ more. said_broken app item front l rule (lines_then ls more) e)
  due_line front l ls (Ok kind.Last) e f =
      due-behind (λ more. explain_from app item front (Line l ∷ lines_then ls more)) (λ more. stop_output front (stop_behind item (length front + 1 + 1) (lines_then ls more))) []
      (λ more. said_last app item front l (lines_then ls more) e) (due_end item front (length front + 1 + 1) ls)
  due_line front l ls (Ok (kind.Item i)) e f =
      due_told (length front + 1) (judged app front i) (λ more. explain_from app item front (Line l ∷ lines_then ls more)) (λ more. explain_from app item (front ++ i ∷ []) (lines_then ls more))
      (λ more. said_item app item front l i (lines_then ls more) e) (f i)

  from_long : (front : List Item) → (explain_from app item front (Long ∷ [])).status ≡ ReadFailed → ⊥
  unfolding explain_from
  from_long front e = cc e

  due_from : (ls : List (List ℕ)) (front : List Item) → Due (λ more. explain_from app item front (lines_then ls more))
  due_from [] front =
      inr ([], explain_from app item front, λ more. refl, said_unread app item front [], from_long front, from_ends app item front)
  due_from (l ∷ ls) front = due_line front l ls (judged_line (length front + 1) (line_of item l)) refl (λ i. due_from ls (front ++ i ∷ []))

  -- ---- before it

  due_image : (number : ℕ) (l : List ℕ) (ls : List (List ℕ)) (k : ImageLine) → image_line number l ≡ k → Due (λ more. explain_start app item (start (number + 1) (lines_then ls more)))
      → Due (λ more. explain_start app item (start number (Line l ∷ lines_then ls more)))
  due_image number l ls image.Trace e d =
      due-behind (λ more. explain_start app item (start number (Line l ∷ lines_then ls more))) (λ more. explain_from app item [] (lines_then ls more)) []
      (λ more. ap (λ k. explain_start app item (on_image number k (lines_then ls more) (start (number + 1) (lines_then ls more)))) e) (due_from ls [])
  due_image number l ls image.Image e d =
      due-behind (λ more. explain_start app item (start number (Line l ∷ lines_then ls more))) (λ more. explain_start app item (start (number + 1) (lines_then ls more))) []
      (λ more. ap (λ k. explain_start app item (on_image number k (lines_then ls more) (start (number + 1) (lines_then ls more)))) e) d
  due_image number l ls image.Other e d =
      inl (
        broken_output NoTrace number,
        λ x. cc x,
        λ more. ap (λ k. explain_start app item (on_image number k (lines_then ls more) (start (number + 1) (lines_then ls more)))) e,
      )

  due_start : (ls : List (List ℕ)) (number : ℕ) → Due (λ more. explain_start app item (start number (lines_then ls more)))
  due_start [] number =
      inr (
        [],
        λ more. explain_start app item (start number more),
        λ more. refl,
        refl,
        λ e. cc e,
        λ more. start_ends app item (start number more),
      )
  due_start (l ∷ ls) number = due_image number l ls (image_line number l) refl (due_start ls (number + 1))

-- ---- the head

due_found : (means : Meanings) (r : Result Deployed DeployFault) (ls : List (List ℕ)) → Due (λ more. explain_found means r (lines_then ls more))
due_found means (Err f) ls = inl (fault_output f, λ x. cc x, λ more. refl)
due_found means (Ok d) ls = due_start d.app (means.item d.names) ls 1

due_head_line : (means : Meanings) (text l : List ℕ) (ls : List (List ℕ)) (p q : Bool) → is_mark l ≡ p → nat_lt most_bytes (length text + length l + 1) ≡ q
    → Due (λ more. explain_head means (head_behind (text ++ l ++ newline ∷ []) (lines_then ls more))) → Due (λ more. explain_head means (head_behind text (Line l ∷ lines_then ls more)))
due_head_line means text l ls true q x y d =
    due-behind (λ more. explain_head means (head_behind text (Line l ∷ lines_then ls more))) (λ more. explain_found means (means.deployment text) (lines_then ls more)) []
    (λ more. rw x refl) (due_found means (means.deployment text) ls)
due_head_line means text l ls false true x y d = inl (fault_output (fault 1 Nowhere), λ e. cc e, λ more. rw (x, y) refl)
due_head_line means text l ls false false x y d =
    due-behind (λ more. explain_head means (head_behind text (Line l ∷ lines_then ls more)))
    (λ more. explain_head means (head_behind (text ++ l ++ newline ∷ []) (lines_then ls more))) [] (λ more. rw (x, y) refl) d

due_head : (means : Meanings) (ls : List (List ℕ)) (text : List ℕ) → Due (λ more. explain_head means (head_behind text (lines_then ls more)))
due_head means [] text =
    inr (
      [],
      λ more. explain_head means (head_behind text more),
      λ more. refl,
      refl,
      λ e. cc e,
      λ more. head_ends means (head_behind text more),
    )
due_head means (l ∷ ls) text =
    due_head_line means text l ls (is_mark l) (nat_lt most_bytes (length text + length l + 1)) refl refl (due_head means ls (text ++ l ++ newline ∷ []))

pub due_all : (means : Meanings) (ls : List (List ℕ)) → Due (λ more. explain_all means (lines_then ls more))
due_all means ls = due_head means ls []
