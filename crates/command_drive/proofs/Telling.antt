-- The lines of an honest run, written several together.
use Rattle.std.proofs.Common.{◌≡◌, ◌∙◌, ℕ, ◌+◌, ◌<◌, ◌≤◌, Bool, List, [], ◌∷◌, ◌++◌, length, drop, get_or, map, refl, sym, ap, subst, append_assoc, Result}
use Rattle.std.proofs.lemmas.List.{append-nil, at_drop_more, at_drop_all}
use Rattle.sx_io.specs.Prefixes.{AppendsPrefix}
use Rattle.sx_io.specs.Streams.{SinkAt}
use Rattle.sx_io.specs.declared.outside.Failed.{Failed}
use Rattle.command_promise.specs.Told.{Output, behind}
use Rattle.command_promise.proofs.Laws.{prefix-more}
use Rattle.sx_trace.specs.declared.items.Item.{Item}
use Rattle.sx_trace.specs.Names.{NameLists}
use Rattle.sx_sched.specs.Seen.{line_of}
use Rattle.sx_drive.specs.declared.said.Said.{Said as Told}
use Rattle.sx_drive.specs.Honest.{Said, SaidItem, SaidLine}
use Rattle.sx_drive.specs.Driving.{all_said, said_of}
use Rattle.command_text.specs.Batch.{Writes, WritesPrefix, WritesUpTo}
use Rattle.command_world.specs.Items.{item_line, items_text}
use Rattle.command_text.proofs.Batches.{prefix_more, prefix_then, up_to_then, writes_more, writes_then}
use Rattle.command_drive.specs.Output.{said_line, said_text}

pub said_append : (names : NameLists) (xs ys : List Said) → said_text names (xs ++ ys) ≡ said_text names xs ++ said_text names ys
said_append names [] ys = refl
said_append names (x ∷ xs) ys =
    ap (λ (t : List ℕ). said_line names x ++ t) (said_append names xs ys) ∙ sym (append_assoc (said_line names x) (said_text names xs) (said_text names ys))

-- a prefix of what was said first is one of all of it and of what follows
pub prefix_said : (names : NameLists) (old new : List ℕ) (xs rest ys : List Said) (more : List ℕ) → xs ++ rest ≡ ys → AppendsPrefix old new (said_text names xs)
    → AppendsPrefix old new (said_text names ys ++ more)
prefix_said names old new xs rest ys more e h =
    let same : said_text names xs ++ (said_text names rest ++ more) ≡ said_text names ys ++ more =
    sym (append_assoc (said_text names xs) (said_text names rest) more)
    ∙ ap (λ (t : List ℕ). t ++ more) (sym (said_append names xs rest) ∙ ap (λ (zs : List Said). said_text names zs) e) in
    subst (λ (t : List ℕ). AppendsPrefix old new t) same (prefix-more old new (said_text names xs) (said_text names rest ++ more) h)

-- after what was said first comes the rest
pub said_front : (names : NameLists) (xs rest ys : List Said) (o : Output) → xs ++ rest ≡ ys
    → behind (said_text names ys) o ≡ behind (said_text names xs) (behind (said_text names rest) o)
said_front names xs rest ys o e =
    ap (λ (t : List ℕ). record { text = t; status = o.status })
    (ap (λ (zs : List Said). said_text names zs ++ o.text) (sym e) ∙ ap (λ (t : List ℕ). t ++ o.text) (said_append names xs rest)
    ∙ append_assoc (said_text names xs) (said_text names rest) o.text)

-- the text of what the program's run says
abbrev pub told_text : NameLists → List Told → List ℕ
told_text names xs = said_text names (all_said xs)

-- what is said from one on: its own text, and that of those after it
next_line : (names : NameLists) (xs : List Told) (i : ℕ) (batch : List ℕ) (x : Told) → i < length xs → x ≡ get_or xs i x
    → batch ++ told_text names (drop i xs) ≡ (batch ++ said_text names (said_of x)) ++ told_text names (drop (i + 1) xs)
next_line names xs i batch x h is =
    let rest = drop (i + 1) xs in
    ap (λ (t : List ℕ). batch ++ t) (at_drop_more (told_text names) xs i x h)
    ∙ ap (λ (y : Told). batch ++ told_text names (y ∷ rest)) (sym is)
    ∙ ap (λ (t : List ℕ). batch ++ t) (said_append names (said_of x) (all_said rest))
    ∙ sym (append_assoc batch (said_text names (said_of x)) (told_text names rest))

at_line : {to_tell : Bool} {k0 k1 : SinkAt} {due : List ℕ} (names : NameLists) (xs : List Told) (i : ℕ) (batch : List ℕ) (x : Told) → i < length xs → x ≡ get_or xs i x
    → WritesUpTo to_tell k0 k1 due (batch ++ told_text names (drop i xs))
    → WritesUpTo to_tell k0 k1 due ((batch ++ said_text names (said_of x)) ++ told_text names (drop (i + 1) xs))
at_line {to_tell} {k0} {k1} {due} names xs i batch x h is w =
    let P : List ℕ → Type 0 = λ t. WritesUpTo to_tell k0 k1 due t in subst P (next_line names xs i batch x h is) w

-- a line was added
pub line_added : {to_tell : Bool} {k0 k1 k2 : SinkAt} {due now : List ℕ} (names : NameLists) (xs : List Told) (i : ℕ) (batch : List ℕ) (x : Told) → i < length xs
    → x ≡ get_or xs i x → WritesUpTo to_tell k0 k1 due (batch ++ told_text names (drop i xs)) → WritesUpTo to_tell k1 k2 (batch ++ said_text names (said_of x)) now
    → WritesUpTo to_tell k0 k2 due (now ++ told_text names (drop (i + 1) xs))
line_added names xs i batch x h is w b = up_to_then (at_line names xs i batch x h is w) (writes_more (told_text names (drop (i + 1) xs)) _ b refl)

-- or a write failed
pub line_failed : {to_tell : Bool} {k0 k1 k2 : SinkAt} {due : List ℕ} (names : NameLists) (xs : List Told) (i : ℕ) (batch : List ℕ) (x : Told) → i < length xs
    → x ≡ get_or xs i x → WritesUpTo to_tell k0 k1 due (batch ++ told_text names (drop i xs)) → WritesPrefix to_tell k1 k2 (batch ++ said_text names (said_of x))
    → WritesPrefix to_tell k0 k2 due
line_failed names xs i batch x h is w b = prefix_then (at_line names xs i batch x h is w) (prefix_more (told_text names (drop (i + 1) xs)) b)

-- nothing is left
pub no_line : {to_tell : Bool} {k0 k1 : SinkAt} {due : List ℕ} (names : NameLists) (xs : List Told) (i : ℕ) (batch text : List ℕ) → length xs ≤ i → text ≡ batch
    → WritesUpTo to_tell k0 k1 due (batch ++ told_text names (drop i xs)) → WritesUpTo to_tell k0 k1 due text
no_line {to_tell} {k0} {k1} {due} names xs i batch text h same w =
    let P : List ℕ → Type 0 = λ t. WritesUpTo to_tell k0 k1 due t in
    subst P (ap (λ (t : List ℕ). batch ++ t) (at_drop_all (told_text names) xs i h) ∙ append-nil batch ∙ sym same) w

-- the text of a line's items
items_same : (names : NameLists) (items : List Item) → items_text names items ≡ said_text names (map SaidItem items)
unfolding said_line item_line
items_same names [] = refl
items_same names (i ∷ items) = ap (λ (t : List ℕ). said_line names (SaidItem i) ++ t) (items_same names items)

-- a line, and its items after it
said_whole : (names : NameLists) (batch : List ℕ) (x : Told)
    → (batch ++ said_line names (SaidLine (line_of x.line))) ++ items_text names x.items.items ≡ batch ++ said_text names (said_of x)
said_whole names batch x =
    let first = said_line names (SaidLine (line_of x.line)) in
    append_assoc batch first (items_text names x.items.items) ∙ ap (λ (t : List ℕ). batch ++ (first ++ t)) (items_same names x.items.items)

pub said_added : {to_tell : Bool} {k0 k1 : SinkAt} {mid : List ℕ} (k2 : SinkAt) (names : NameLists) (batch : List ℕ) (x : Told) (items new : List ℕ) (r : Result (Unit {0}) Failed)
    → items ≡ items_text names x.items.items → WritesUpTo to_tell k0 k1 (batch ++ said_line names (SaidLine (line_of x.line))) mid → Writes to_tell k1 k2 (mid ++ items) new r
    → Writes to_tell k0 k2 (batch ++ said_text names (said_of x)) new r
said_added {to_tell} {k0} {k1} {mid} k2 names batch x items new r same first rest =
    let P : List ℕ → Type 0 = λ t. Writes to_tell k0 k2 t new r in
    let first_due = batch ++ said_line names (SaidLine (line_of x.line)) in
    subst P (ap (λ (t : List ℕ). first_due ++ t) same ∙ said_whole names batch x) (writes_then k2 new r (writes_more items (mid ++ items) first refl) rest)

pub said_failed : {to_tell : Bool} {k0 k1 : SinkAt} (names : NameLists) (batch : List ℕ) (x : Told) → WritesPrefix to_tell k0 k1 (batch ++ said_line names (SaidLine (line_of x.line)))
    → WritesPrefix to_tell k0 k1 (batch ++ said_text names (said_of x))
said_failed {to_tell} {k0} {k1} names batch x first =
    let P : List ℕ → Type 0 = λ t. WritesPrefix to_tell k0 k1 t in subst P (said_whole names batch x) (prefix_more (items_text names x.items.items) first)
