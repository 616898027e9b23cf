-- The lines that `explain` was given after the head, and at which memory ran out.
use Rattle.std.specs.Prelude.{◌||◌, IfOk, OnErr, is_some}
use Rattle.std.proofs.lemmas.List.{append-nil, length-append}
use Rattle.std.proofs.Common.{◌≡◌, ◌∙◌, ◌⊎◌, ◌+◌, ◌≤◌, inl, inr, ◌∷◌, ◌++◌, ℕ, [], true, false, Bool, List, length, append_assoc, ap, refl, sym, subst, take, arith, Some, Result, Ok, Err}
use Rattle.sx_io.specs.Streams.{SinkAt, SourceAt}
use Rattle.sx_io.specs.Reading.{Answer, Fault, Line, longest}
use Rattle.sx_io.specs.Next.{Ahead, GivesHeld, Next, Took}
use Rattle.sx_io.specs.Passed.{longest_passed}
use Rattle.sx_io.specs.declared.lines.LineRead.{LineRead}
use Rattle.sx_io.specs.declared.lines.LineRead.TheVariants as read
use Rattle.sx_io.specs.declared.outside.Failed.{Failed}
use Rattle.command_promise.specs.declared.status.Status.{Status}
use Rattle.command_promise.specs.declared.status.Status.TheVariants.{OutOfMemory}
use Rattle.command_promise.specs.Reads.{anything}
use Rattle.command_promise.specs.Got.{Got}
use Rattle.command_promise.specs.Told.{CommandAt, command_at}
use Rattle.command_promise.proofs.Takings.{got-line, got-same, open-not-at-end}
use Rattle.sx_entries.specs.Gives.{GivesOne}
use Rattle.sx_entries.specs.declared.fault.DeployError.{DeployError}
use Rattle.command_promise.specs.Head.{Found, Unread, head, head_lines}
use Rattle.command_promise.specs.HeadRead.{HeadRead}
use Rattle.command_promise.specs.declared.head.HeadFault.{HeadFault}
use Rattle.command_promise.specs.declared.head.HeadFault.TheVariants as none
use Rattle.sx_trace.specs.declared.items.Item.{Item}
use Rattle.sx_trace.specs.Names.{NameLists}
use Rattle.sx_mean.specs.Application.{AppTree}
use Rattle.sx_model.specs.Memory.{may_take_memory}
use Rattle.sx_deploy.specs.Deployment.{Deployed, IsRead}
use Rattle.sx_deploy.specs.SeenDeployment.{deployed_as}
use Rattle.sx_deploy.specs.declared.deployment.Deployment.{Deployment}
use Rattle.sx_explain.specs.Followed.{Follows, Seen}
use Rattle.sx_explain.specs.Wants.{IsBehindEvent, item_may}
use Rattle.command_head.specs.Given.{GivenSince, RanOutSince, WantsLast}
use Rattle.command_head.specs.Headless.{EndsHeadless}
use Rattle.command_head.specs.Wanting.{RanOutAt}
use Rattle.command_head.proofs.Came.{Came, given_came, wants_came}
use Rattle.command_head.proofs.Given.{given_line, given_none, given_then, ran_out_at, ran_out_behind, wants_last}
use Rattle.command_explain.specs.declared.images.ImageLine.{ImageLine}
use Rattle.command_explain.specs.declared.images.ImageLine.TheVariants as image
use Rattle.command_explain.specs.declared.lines.TraceLine.{TraceLine}
use Rattle.command_explain.specs.declared.lines.TraceRule.{TraceRule}
use Rattle.command_explain.specs.declared.lines.TraceLine.TheVariants as kind
use Rattle.command_explain.specs.Meant.{AreMeanings, Meanings}
use Rattle.command_explain.specs.Trace.{Start, explain_lines, image_line, image_lines, is_trace, judged_line, line_of, on_image, on_line, start, stop_behind, trace, trace_lines}
use Rattle.command_explain.specs.Turns.{ReadWants, TraceWants}
use Rattle.command_explain.specs.Wants.{explain_may, line_may, start_may, trace_may}
use Rattle.command_explain.proofs.Heads.{got_longer}
use Rattle.command_explain.proofs.Starting.{image_is, lines_by, trace_is}

-- ---- the lines of a trace

-- the items of a trace are those of the lines that were given, and of those to come
pub record GaveTrace (tells : Bool) (s1 s2 : SourceAt) (old new : Ahead) (names : NameLists) (number : ℕ) (items : List Item) : Type 0 where
  pub lines : List Answer
  pub numbered : number ≡ length lines + 1
  pub since : GivenSince trace_lines trace_lines tells s1 s2 old new lines
  pub traced : (means : Meanings) → AreMeanings means → (more : List Answer)
      → (trace (means.item names) 1 (lines ++ more)).items ≡ items ++ (trace (means.item names) number more).items

pub trace_none : (tells : Bool) (s : SourceAt) (a : Ahead) (names : NameLists) → GaveTrace tells s s a a names 1 []
trace_none tells s a names = record { lines = []; numbered = refl; since = given_none trace_lines tells s a; traced = λ means is more. refl }

-- the line has this item, whatever lines are said to mean
abbrev pub HasItem : NameLists → ℕ → List ℕ → Item → Type 0
HasItem names number text i = (means : Meanings) → AreMeanings means → judged_line number (line_of (means.item names) text) ≡ Ok (kind.Item i)

pub trace_more : {tells : Bool} {s1 s2 s3 : SourceAt} {old now new : Ahead} {names : NameLists} {number : ℕ} {items : List Item} (into : List ℕ) (n : ℕ) (i : Item)
    → GaveTrace tells s1 s2 old now names number items → Came tells s2 s3 now new into n → HasItem names number (take n into) i
    → GaveTrace tells s1 s3 old new names (number + 1) (items ++ i ∷ [])
trace_more {tells} {s1} {s2} {s3} {old} {now} {new} {names} {number} {items} into n i g came has = record {
  lines = g.lines ++ Line (take n into) ∷ [];
  numbered = (let l = length-append g.lines (Line (take n into) ∷ []) in let k = g.numbered in omega (arith, l, k));
  since = given_came g.lines into n g.since came;
  traced = λ means is more.
      let item = means.item names in
      let rest = trace item (number + 1) more in
      ap (λ (all : List Answer). (trace item 1 all).items) (append_assoc g.lines (Line (take n into) ∷ []) more) ∙ g.traced means is (Line (take n into) ∷ more)
      ∙ ap (λ (r : Result TraceLine TraceRule). items ++ (on_line number r (stop_behind item (number + 1) more) rest).items) (has means is) ∙ sym (append_assoc items (i ∷ []) rest.items);
}

by_either : (items : List Item) (a b : Bool) → (b ≡ true → IsBehindEvent items) → (a || b) ≡ true → (a ≡ true) ⊎ IsBehindEvent items
by_either items true b late e = inl refl
by_either items false b late e = inr (late e)

-- a judge that ran out of memory at an item
item_wants : (app : AppTree) (items : List Item) (item : Item) (j : Seen) → Follows app items j → j.has_forged ≡ false → (may_take_memory item || is_some j.behind) ≡ true → item_may items item
item_wants app items item j f unforged e =
    (sym f.forged ∙ unforged, by_either items (may_take_memory item) (is_some j.behind) (f.stands unforged).late e)

pub trace_wants : {tells : Bool} {s1 s2 s3 : SourceAt} {old now new : Ahead} {names : NameLists} {number : ℕ} {items : List Item} {app : AppTree} {j : Seen} (into : List ℕ) (n : ℕ) (i : Item)
    → GaveTrace tells s1 s2 old now names number items → Came tells s2 s3 now new into n → HasItem names number (take n into) i → number ≡ length items + 1 → Follows app items j → j.has_forged ≡ false
    → (may_take_memory i || is_some j.behind) ≡ true → (means : Meanings) → AreMeanings means → TraceWants (means.item names) tells s1 s3 old new
trace_wants {tells} {s1} {s2} {s3} {old} {now} {new} {names} {number} {items} {app} {j} into n i g came has counted follows unforged wants means is =
    let item = means.item names in
    let text = take n into in
    let judged : judged_line (length g.lines + 1) (line_of item text) ≡ Ok (kind.Item i) = (ap (λ (k : ℕ). judged_line k (line_of item text)) (sym g.numbered) ∙ has means is) in
    let same : (trace item 1 g.lines).items ≡ items =
    (ap (λ (all : List Answer). (trace item 1 all).items) (sym (append-nil g.lines)) ∙ g.traced means is [] ∙ append-nil items) in
    let P : List Item → Type 0 = λ xs. (length xs ≡ length g.lines) × line_may xs (judged_line (length g.lines + 1) (line_of item text)) in
    let many : length items ≡ length g.lines = (let k = g.numbered in omega (arith, counted, k)) in
    let Q : Result TraceLine TraceRule → Type 0 = λ r. line_may items r in
    inr (
      g.lines ++ Line text ∷ [],
      given_came g.lines into n g.since came,
      wants_came g.lines into n g.since came (trace_may item) (subst P (sym same) (many, subst Q (sym judged) (item_wants app items i j follows unforged wants))),
    )

-- ---- the lines before it

pub record GaveImages (tells : Bool) (s1 s2 : SourceAt) (old new : Ahead) (number : ℕ) : Type 0 where
  pub lines : List Answer
  pub since : GivenSince image_lines image_lines tells s1 s2 old new lines
  pub started : (more : List Answer) → start 1 (lines ++ more) ≡ start number more

pub images_none : (tells : Bool) (s : SourceAt) (a : Ahead) → GaveImages tells s s a a 1
images_none tells s a = record { lines = []; since = given_none image_lines tells s a; started = λ more. refl }

module _ {tells : Bool} {s1 s2 s3 : SourceAt} {old now next : Ahead} {number : ℕ} (into : List ℕ) (n : ℕ) (g : GaveImages tells s1 s2 old now number)
    (step : Next longest_passed tells s2 s3 now next into (read.Text n)) where
  limited : (t : Bool) → is_trace (take n into) ≡ t → GivenSince image_lines (lines_by t) tells s1 s3 old next (g.lines ++ Line (take n into) ∷ [])
  limited t e =
      let P : Bool → Type 0 = λ t. GivenSince image_lines (lines_by t) tells s1 s3 old next (g.lines ++ Line (take n into) ∷ []) in
      let here : P (is_trace (take n into)) = given_line g.lines into n g.since step in
      subst P e here

  -- what follows, by what the line is
  behind_line_is : (l : ImageLine) → image_line number (take n into) ≡ l → (more : List Answer)
      → start 1 ((g.lines ++ Line (take n into) ∷ []) ++ more) ≡ on_image number l more (start (number + 1) more)
  behind_line_is l e more =
      ap (λ (all : List Answer). start 1 all) (append_assoc g.lines (Line (take n into) ∷ []) more) ∙ g.started (Line (take n into) ∷ more)
      ∙ ap (λ (l : ImageLine). on_image number l more (start (number + 1) more)) e

  pub images_more : image_line number (take n into) ≡ image.Image → GaveImages tells s1 s3 old next (number + 1)
  images_more e = record {
    lines = g.lines ++ Line (take n into) ∷ [];
    since = limited false (image_is number (take n into) e);
    started = λ more. behind_line_is image.Image e more;
  }

  -- memory ran out after `trace`
  pub images_wants : {s4 : SourceAt} {new : Ahead} (means : Meanings) (d : Deployed) → image_line number (take n into) ≡ image.Trace → TraceWants (means.item d.names) tells s3 s4 next new
      → RanOutSince image_lines trace_lines (explain_may means d) tells s1 s4 old new
  images_wants {s4} {new} means d e w =
      let item = means.item d.names in
      let text = take n into in
      let before = g.lines ++ Line text ∷ [] in
      let given : GivenSince image_lines trace_lines tells s1 s3 old next before = limited true (trace_is number text e) in
      let R : SourceAt → Ahead → Type 0 = λ s a. RanOutSince image_lines trace_lines (explain_may means d) tells s1 s old a in
      elim w [
        | inl same ↦
            let P : Start → Type 0 = λ s. start_may item s text in
            let at : start 1 g.lines ≡ start number [] = (ap (λ (all : List Answer). start 1 all) (sym (append-nil g.lines)) ∙ g.started []) in
            let here : R s3 next = (before, given, inr (wants_last (explain_may means d) g.lines into n g.since step (subst P (sym at) (trace_is number text e)))) in
            subst (λ (s : SourceAt). R s new) (sym same.0) (subst (λ (a : Ahead). R s3 a) (sym same.1) here)
        | inr late ↦
            let want = late.2.0 in
            let P : Start → Type 0 = λ s. start_may item s want.1 in (
              before ++ late.0,
              given_then before late.0 given late.1,
              inr (
                (
                  before ++ want.0,
                  want.1,
                  ap (λ (v : List Answer). before ++ v) want.2 ∙ sym (append_assoc before want.0 (Line want.1 ∷ [])),
                  subst P (sym (behind_line_is image.Trace e want.0)) want.3,
                ),
                λ limit s0 f due b. let h = given limit s0 f due b in late.2.1 limit s0 (λ more. f (before ++ more)) h.0 h.1,
              ),
            )
      ]

-- ---- after a head

pub read_wants : {tells : Bool} {s1 s2 : SourceAt} {old new : Ahead} {status : Status} (text : List ℕ) (r : Result Deployment DeployError) → GivesOne deployed_as r (IsRead text)
    → IfOk r (λ d. (means : Meanings) → AreMeanings means → status ≡ OutOfMemory → RanOutSince image_lines trace_lines (explain_may means (deployed_as d)) tells s1 s2 old new)
    → OnErr r (s2 ≡ s1) → (means : Meanings) → AreMeanings means → status ≡ OutOfMemory → ReadWants means text tells s1 s2 old new
read_wants {tells} {s1} {s2} {old} {new} {status} text (Ok d) read good same means is six = inr (deployed_as d, read, good means is six)
read_wants {tells} {s1} {s2} {old} {new} {status} text (Err e) read good same means is six = inl same

pub told_wants : {tells : Bool} {s0 s1 : SourceAt} {k0 : SinkAt} {m2 : CommandAt} {now new : Ahead} (means : Meanings) (text : List ℕ)
    → Got tells head_lines head_lines s0 s1 now head (λ more. Found text more) Unread anything → ReadWants means text tells s1 m2.source now new
    → RanOutAt explain_lines (explain_may means) tells (command_at s0 k0) m2
told_wants {tells} {s0} {s1} {k0} {m2} {now} {new} means text got w =
    let P : SourceAt → Type 0 = λ s. Got tells explain_lines image_lines s0 s now head (λ more. Found text more) Unread anything in
    elim w [
      | inl same ↦ ran_out_behind {m0 = command_at s0 k0} {m1 = m2} {now = now} (explain_may means) text (subst P (sym same) (got_longer text got))
      | inr late ↦ ran_out_at {m0 = command_at s0 k0} {m1 = m2} {begun = s1} {old = now} {new = new} (explain_may means) text late.0 late.1 (got_longer text got) late.2
    ]

pub headless_wants : {tells : Bool} {s0 s1 : SourceAt} (to_tell : Bool) (k0 k1 : SinkAt) (status : Status) (now : Ahead) (means : Meanings) (why : HeadFault) → HeadRead tells s0 s1 now (Err why)
    → EndsHeadless to_tell k0 k1 status why → status ≡ OutOfMemory → RanOutAt explain_lines (explain_may means) tells (command_at s0 k0) (command_at s1 k1)
headless_wants {tells} {s0} {s1} to_tell k0 k1 status now means none.TooLong r w six = absurd (w.1 six)
headless_wants {tells} {s0} {s1} to_tell k0 k1 status now means none.NoMark r w six = absurd (w.1 six)
headless_wants {tells} {s0} {s1} to_tell k0 k1 status now means none.Failed r w six = absurd (w.1 six)
headless_wants {tells} {s0} {s1} to_tell k0 k1 status now means none.OutOfMemory (text, got) w six =
    ran_out_behind {m0 = command_at s0 k0} {m1 = command_at s1 k1} {now = now} (explain_may means) text (got_longer text got)
