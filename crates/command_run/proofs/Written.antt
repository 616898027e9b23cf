-- What is written of a schedule, line by line.
use Rattle.std.proofs.Common.{◌≡◌, ◌∙◌, ℕ, ◌+◌, Bool, List, [], ◌∷◌, ◌++◌, refl, sym, ap, subst, append_assoc, Result, Ok, Err}
use Rattle.std.specs.Prelude.{IsTrue, flat_map}
use Rattle.sx_asm.specs.Assembled.{assembled}
use Rattle.sx_io.specs.Prefixes.{AppendsPrefix}
use Rattle.sx_io.specs.Reading.{Answer}
use Rattle.sx_io.specs.Reading as answer
use Rattle.sx_io.specs.Streams.{SinkAt}
use Rattle.command_promise.specs.declared.status.Status.{Status}
use Rattle.command_promise.specs.declared.status.Status.TheVariants.{Done}
use Rattle.command_promise.specs.Told.{CommandEnds, Output, behind, unread_output}
use Rattle.command_promise.specs.declared.turned.Turned.{Turned}
use Rattle.command_promise.proofs.Laws.{ends-same, prefix-more}
use Rattle.sx_trace.specs.declared.items.Item.{Item}
use Rattle.sx_trace.specs.Names.{NameLists}
use Rattle.sx_sched.specs.Lines.{Line}
use Rattle.spec_run.specs.Setting.{Setting}
use Rattle.spec_run.specs.State.{World}
use Rattle.sx_observe.specs.Observing.{AddsFront, IsFront}
use Rattle.sx_observe.proofs.Fronts.{as_front}
use Rattle.command_text.specs.Keeping.{DoesKept}
use Rattle.command_text.specs.Output.{end_line}
use Rattle.command_text.proofs.Keeping.{kept_same}
use Rattle.command_world.specs.Schedule.{Schedule, judged_line, on_line, schedule}
use Rattle.command_world.specs.Items.{item_line, items_text}
use Rattle.command_run.specs.declared.trace.Shown.{Shown}
use Rattle.command_run.specs.Lines.{Performed, performed, texts_in}
use Rattle.command_run.specs.Output.{stop_output}
use Rattle.command_run.specs.Turns.{front, shown_from, shown_output, shown_text}
use Rattle.command_world.specs.Turning.{after_next}
use Rattle.command_world.specs.Broken.{broken_output}

pub items_text_append : (names : NameLists) (xs ys : List Item) → items_text names (xs ++ ys) ≡ items_text names xs ++ items_text names ys
items_text_append names [] ys = refl
items_text_append names (x ∷ xs) ys =
    ap (λ (t : List ℕ). item_line names x ++ t) (items_text_append names xs ys) ∙ sym (append_assoc (item_line names x) (items_text names xs) (items_text names ys))

-- a line's text and its items
abbrev pub part : List ℕ → List Item → Performed
part text items = record { text = text; items = items }

module _ (shown : Shown) (names : NameLists) where
  -- after the first items' lines come those of the rest
  shown_front : (text : List ℕ) (xs rest ys : List Item) → xs ++ rest ≡ ys → shown_text shown names (part text ys) ≡ shown_text shown names (part text xs) ++ items_text names rest
  shown_front text xs rest ys e =
      ap (λ (zs : List Item). front shown text ++ items_text names zs) (sym e) ∙ ap (λ (t : List ℕ). front shown text ++ t) (items_text_append names xs rest)
      ∙ sym (append_assoc (front shown text) (items_text names xs) (items_text names rest))

  -- a prefix of what is written with the first items is one of what is written with all of them, and of what follows
  pub prefix_told : (old new text : List ℕ) (xs rest ys : List Item) (more : List ℕ) → xs ++ rest ≡ ys → AppendsPrefix old new (shown_text shown names (part text xs))
      → AppendsPrefix old new (shown_text shown names (part text ys) ++ more)
  prefix_told old new text xs rest ys more e h =
      let all = shown_text shown names (part text xs) in
      let same : all ++ (items_text names rest ++ more) ≡ shown_text shown names (part text ys) ++ more =
      sym (append_assoc all (items_text names rest) more) ∙ ap (λ (t : List ℕ). t ++ more) (sym (shown_front text xs rest ys e)) in
      subst (λ (t : List ℕ). AppendsPrefix old new t) same (prefix-more old new all (items_text names rest ++ more) h)

  pub told_front : (text : List ℕ) (xs rest ys : List Item) (o : Output) → xs ++ rest ≡ ys
      → behind (shown_text shown names (part text ys)) o ≡ behind (shown_text shown names (part text xs)) (behind (items_text names rest) o)
  told_front text xs rest ys o e =
      ap (λ (t : List ℕ). record { text = t; status = o.status })
      (ap (λ (t : List ℕ). t ++ o.text) (shown_front text xs rest ys e) ∙ append_assoc (shown_text shown names (part text xs)) (items_text names rest) o.text)

  module _ (set : Setting) (w : World) where
    -- what a line shows in this world
    abbrev pub shows : List ℕ → Line → List ℕ
    shows text line = shown_text shown names (part text (after_next set w line).items)

    written_line : (text : List ℕ) (texts : List (List ℕ)) (line : Line) (rest : Schedule)
        → shown_output shown names set w (text ∷ texts) (record { lines = line ∷ rest.lines; stop = rest.stop })
        ≡ behind (shows text line) (shown_output shown names set (after_next set w line).world texts rest)
    written_line text texts line rest =
        ap (λ (t : List ℕ). record { text = t; status = (stop_output rest.stop).status })
        (append_assoc (shows text line) (flat_map (shown_text shown names) (performed set (after_next set w line).world texts rest.lines)) (stop_output rest.stop).text)

    module _ (number : ℕ) (text : List ℕ) where
      -- what is shown of a line is written, and then what is shown of the rest
      pub next_line : (line : Line) (more : List Answer) → judged_line assembled names number text ≡ Ok line
          → shown_from shown names set w number (answer.Line text ∷ more)
          ≡ behind (shows text line) (shown_from shown names set (after_next set w line).world (number + 1) more)
      unfolding shown_from
      next_line line more e =
          ap (λ (r : Result Line ℕ). shown_output shown names set w (text ∷ texts_in more) (on_line number r (schedule assembled names (number + 1) more))) e
          ∙ written_line text (texts_in more) line (schedule assembled names (number + 1) more)

      -- a line was performed, and what is shown of it was kept
      pub line_kept : (to_tell : Bool) (k0 k1 : SinkAt) (kept left : List ℕ) (turned : Turned) (line : Line) (made : List Item) → judged_line assembled names number text ≡ Ok line
          → made ≡ (after_next set w line).items
          → ((after : List Answer → Output) → DoesKept to_tell k0 k1 kept left (λ more. behind (shown_text shown names (part text made)) (after more)) turned after)
          → DoesKept to_tell k0 k1 kept left (λ more. shown_from shown names set w number (answer.Line text ∷ more)) turned
          (shown_from shown names set (after_next set w line).world (number + 1))
      line_kept to_tell k0 k1 kept left turned line made judged same does =
          let after = shown_from shown names set (after_next set w line).world (number + 1) in
          kept_same to_tell k0 k1 kept left (λ more. shown_from shown names set w number (answer.Line text ∷ more))
          (λ more. behind (shown_text shown names (part text made)) (after more)) after turned
          (λ more. next_line line more judged ∙ ap (λ (items : List Item). behind (shown_text shown names (part text items)) (after more)) (sym same)) (does after)

      -- memory ran out at a line, and the command ended after what is shown of it with the items that were made before
      pub line_cut : {to_tell : Bool} {k0 k1 : SinkAt} {status : Status} (kept : List ℕ) (line : Line) (made : List Item)
          → judged_line assembled names number text ≡ Ok line → IsFront made (after_next set w line).items
          → ((o : Output) → CommandEnds to_tell k0 k1 status (behind kept (behind (shown_text shown names (part text made)) o)))
          → (more : List Answer) → CommandEnds to_tell k0 k1 status (behind kept (shown_from shown names set w number (answer.Line text ∷ more)))
      line_cut {to_tell} {k0} {k1} {status} kept line made judged front ends more =
          let next = after_next set w line in
          let left = shown_from shown names set next.world (number + 1) more in
          ends-same _ _ _ _ _ _ (ap (behind kept) (next_line line more judged ∙ told_front text made front.0 next.items left front.1))
          (ends (behind (items_text names front.0) left))

      pub line_breaks : (rule : ℕ) (more : List Answer) → judged_line assembled names number text ≡ Err rule
          → shown_from shown names set w number (answer.Line text ∷ more) ≡ broken_output rule number
      unfolding shown_from
      line_breaks rule more e =
          ap (λ (r : Result Line ℕ). shown_output shown names set w (text ∷ texts_in more) (on_line number r (schedule assembled names (number + 1) more))) e

    -- ---- the last answer

    pub shown_ended : (number : ℕ) → shown_from shown names set w number (answer.End ∷ []) ≡ record { text = end_line; status = Done }
    unfolding shown_from
    shown_ended number = refl

    pub shown_too_long : (number : ℕ) → shown_from shown names set w number (answer.Long ∷ []) ≡ broken_output 1 number
    unfolding shown_from
    shown_too_long number = refl

    pub shown_unread : (number : ℕ) → shown_from shown names set w number (answer.Fault ∷ []) ≡ unread_output
    unfolding shown_from
    shown_unread number = refl

-- the items that a line made before memory ran out are the first of those that were due
pub made_front : (old new made due : List Item) → old ≡ [] → made ≡ new → AddsFront old new due → IsFront made due
made_front old new made due none same adds =
    let front = as_front new old due adds in
    (front.0, ap (λ (items : List Item). items ++ front.0) same ∙ front.1 ∙ ap (λ (items : List Item). items ++ due) none)
