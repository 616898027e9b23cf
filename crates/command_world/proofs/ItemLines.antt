-- The lines of items, written several together.
use Rattle.std.proofs.Common.{◌≡◌, ◌∙◌, ℕ, ◌+◌, ◌<◌, ◌≤◌, Bool, List, ◌++◌, length, drop, get_or, sym, ap, refl, subst, append_assoc}
use Rattle.std.proofs.lemmas.List.{append-nil, at_drop_more, at_drop_all}
use Rattle.sx_io.specs.Streams.{SinkAt}
use Rattle.sx_trace.specs.declared.items.Item.{Item}
use Rattle.sx_trace.specs.Names.{NameLists}
use Rattle.command_text.specs.Batch.{WritesPrefix, WritesUpTo}
use Rattle.command_text.proofs.Batches.{prefix_more, prefix_then, up_to_then, writes_more}
use Rattle.command_world.specs.Items.{item_line, items_text}

-- the lines of the items from one on: its own, and those after it
next_line : (names : NameLists) (items : List Item) (i : ℕ) (batch : List ℕ) (d : Item) → i < length items
    → batch ++ items_text names (drop i items) ≡ (batch ++ item_line names (get_or items i d)) ++ items_text names (drop (i + 1) items)
next_line names items i batch d h =
    ap (λ (t : List ℕ). batch ++ t) (at_drop_more (items_text names) items i d h)
    ∙ sym (append_assoc batch (item_line names (get_or items i d)) (items_text names (drop (i + 1) items)))

at_line : {to_tell : Bool} {k0 k1 : SinkAt} {due : List ℕ} (names : NameLists) (items : List Item) (i : ℕ) (batch : List ℕ) (d : Item) → i < length items
    → WritesUpTo to_tell k0 k1 due (batch ++ items_text names (drop i items))
    → WritesUpTo to_tell k0 k1 due ((batch ++ item_line names (get_or items i d)) ++ items_text names (drop (i + 1) items))
at_line {to_tell} {k0} {k1} {due} names items i batch d h w =
    let P : List ℕ → Type 0 = λ t. WritesUpTo to_tell k0 k1 due t in subst P (next_line names items i batch d h) w

-- a line was added
pub line_added : {to_tell : Bool} {k0 k1 k2 : SinkAt} {due now : List ℕ} (names : NameLists) (items : List Item) (i : ℕ) (batch : List ℕ) (d : Item) → i < length items
    → WritesUpTo to_tell k0 k1 due (batch ++ items_text names (drop i items)) → WritesUpTo to_tell k1 k2 (batch ++ item_line names (get_or items i d)) now
    → WritesUpTo to_tell k0 k2 due (now ++ items_text names (drop (i + 1) items))
line_added names items i batch d h w b = up_to_then (at_line names items i batch d h w) (writes_more (items_text names (drop (i + 1) items)) _ b refl)

-- or a write failed
pub line_failed : {to_tell : Bool} {k0 k1 k2 : SinkAt} {due : List ℕ} (names : NameLists) (items : List Item) (i : ℕ) (batch : List ℕ) (d : Item) → i < length items
    → WritesUpTo to_tell k0 k1 due (batch ++ items_text names (drop i items)) → WritesPrefix to_tell k1 k2 (batch ++ item_line names (get_or items i d))
    → WritesPrefix to_tell k0 k2 due
line_failed names items i batch d h w b = prefix_then (at_line names items i batch d h w) (prefix_more (items_text names (drop (i + 1) items)) b)

-- no item is left
pub no_line : {to_tell : Bool} {k0 k1 : SinkAt} {due : List ℕ} (names : NameLists) (items : List Item) (i : ℕ) (batch text : List ℕ) → length items ≤ i → text ≡ batch
    → WritesUpTo to_tell k0 k1 due (batch ++ items_text names (drop i items)) → WritesUpTo to_tell k0 k1 due text
no_line {to_tell} {k0} {k1} {due} names items i batch text h same w =
    let P : List ℕ → Type 0 = λ t. WritesUpTo to_tell k0 k1 due t in
    subst P (ap (λ (t : List ℕ). batch ++ t) (at_drop_all (items_text names) items i h) ∙ append-nil batch ∙ sym same) w
