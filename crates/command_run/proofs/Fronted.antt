-- How what is shown of a line is written: the text that comes before its items, in three parts, and the items.
use Rattle.std.proofs.Common.{◌≡◌, ◌∙◌, ℕ, Bool, List, [], ◌∷◌, ◌++◌, refl, sym, ap, subst, append_assoc, Result}
use Rattle.std.specs.Prelude.{codes}
use Rattle.sx_io.specs.Streams.{SinkAt}
use Rattle.sx_io.specs.declared.outside.Failed.{Failed}
use Rattle.sx_trace.specs.declared.items.Item.{Item}
use Rattle.sx_trace.specs.Names.{NameLists}
use Rattle.command_text.specs.Batch.{Writes, WritesPrefix, WritesUpTo}
use Rattle.command_text.proofs.Batches.{prefix_more, prefix_then, up_to_then, writes_more, writes_then}
use Rattle.command_world.specs.Items.{items_text}
use Rattle.command_run.specs.declared.trace.Shown.{Shown}
use Rattle.command_run.specs.declared.trace.Shown.TheVariants.{Lines}
use Rattle.command_run.specs.Turns.{front, shown_text}

-- one part after another
pub up_to_more : {to_tell : Bool} {k0 k1 k2 : SinkAt} {due kept left : List ℕ} (more : List ℕ) → WritesUpTo to_tell k0 k1 due kept → WritesUpTo to_tell k1 k2 (kept ++ more) left
    → WritesUpTo to_tell k0 k2 (due ++ more) left
up_to_more {to_tell} {k0} {k1} {k2} {due} {kept} {left} more a b = up_to_then (writes_more more (kept ++ more) a refl) b

pub prefix_after : {to_tell : Bool} {k0 k1 k2 : SinkAt} {due kept : List ℕ} (more : List ℕ) → WritesUpTo to_tell k0 k1 due kept → WritesPrefix to_tell k1 k2 (kept ++ more)
    → WritesPrefix to_tell k0 k2 (due ++ more)
prefix_after {to_tell} {k0} {k1} {k2} {due} {kept} more a b = prefix_then (writes_more more (kept ++ more) a refl) b

-- a text before which all is written
pub text_alone : {to_tell : Bool} {k0 k1 : SinkAt} (k2 : SinkAt) (batch text kept : List ℕ) (r : Result (Unit {0}) Failed) → WritesUpTo to_tell k0 k1 batch [] → kept ≡ []
    → Writes to_tell k1 k2 text [] r → Writes to_tell k0 k2 (batch ++ text) kept r
text_alone {to_tell} {k0} {k1} k2 batch text kept r a none b =
    let P : List ℕ → Type 0 = λ t. Writes to_tell k0 k2 (batch ++ text) t r in
    subst P (sym none) (writes_then k2 [] r (writes_more text text a refl) b)

-- ---- the text before the items

module _ (old said : List ℕ) where
  line_parts : ((old ++ codes "> ") ++ said) ++ 10 ∷ [] ≡ old ++ front Lines said
  line_parts =
      append_assoc (old ++ codes "> ") said (10 ∷ []) ∙ append_assoc old (codes "> ") (said ++ 10 ∷ [])
      ∙ ap (λ (t : List ℕ). old ++ t) (sym (append_assoc (codes "> ") said (10 ∷ [])))

  pub first_failed : {to_tell : Bool} {k0 k1 : SinkAt} (shown : Shown) → shown ≡ Lines → WritesPrefix to_tell k0 k1 (old ++ codes "> ") → WritesPrefix to_tell k0 k1 (old ++ front shown said)
  first_failed {to_tell} {k0} {k1} shown is w =
      let P : Shown → Type 0 = λ s. WritesPrefix to_tell k0 k1 (old ++ front s said) in
      let Q : List ℕ → Type 0 = λ t. WritesPrefix to_tell k0 k1 t in
      subst P (sym is) (subst Q line_parts (prefix_more (10 ∷ []) (prefix_more said w)))

  pub second_failed : {to_tell : Bool} {k0 k1 k2 : SinkAt} {kept : List ℕ} (shown : Shown) → shown ≡ Lines → WritesUpTo to_tell k0 k1 (old ++ codes "> ") kept
      → WritesPrefix to_tell k1 k2 (kept ++ said) → WritesPrefix to_tell k0 k2 (old ++ front shown said)
  second_failed {to_tell} {k0} {k1} {k2} {kept} shown is a w =
      let P : Shown → Type 0 = λ s. WritesPrefix to_tell k0 k2 (old ++ front s said) in
      let Q : List ℕ → Type 0 = λ t. WritesPrefix to_tell k0 k2 t in
      subst P (sym is) (subst Q line_parts (prefix_more (10 ∷ []) (prefix_after said a w)))

  pub line_added : {to_tell : Bool} {k0 k1 k2 : SinkAt} {first second : List ℕ} (k3 : SinkAt) (left : List ℕ) (r : Result (Unit {0}) Failed) (shown : Shown) → shown ≡ Lines
      → WritesUpTo to_tell k0 k1 (old ++ codes "> ") first → WritesUpTo to_tell k1 k2 (first ++ said) second → Writes to_tell k2 k3 (second ++ 10 ∷ []) left r
      → Writes to_tell k0 k3 (old ++ front shown said) left r
  line_added {to_tell} {k0} {k1} {k2} {first} {second} k3 left r shown is a b c =
      let P : Shown → Type 0 = λ s. Writes to_tell k0 k3 (old ++ front s said) left r in
      let Q : List ℕ → Type 0 = λ t. Writes to_tell k0 k3 t left r in
      subst P (sym is) (subst Q line_parts (writes_then k3 left r (writes_more (10 ∷ []) (second ++ 10 ∷ []) (up_to_more said a b) refl) c))

-- ---- and the items, in a batch that was begun with nothing

module _ (names : NameLists) (shown : Shown) (said : List ℕ) (items : List Item) (batch : List ℕ) where
  pub items_failed : {to_tell : Bool} {k0 k1 k2 : SinkAt} {kept : List ℕ} → batch ≡ [] → WritesUpTo to_tell k0 k1 (batch ++ front shown said) kept
      → WritesPrefix to_tell k1 k2 (kept ++ items_text names items) → WritesPrefix to_tell k0 k2 (shown_text shown names (record { text = said; items = items }))
  items_failed {to_tell} {k0} {k1} {k2} {kept} none a b =
      let P : List ℕ → Type 0 = λ t. WritesPrefix to_tell k0 k2 ((t ++ front shown said) ++ items_text names items) in subst P none (prefix_after (items_text names items) a b)

  pub items_added : {to_tell : Bool} {k0 k1 k2 : SinkAt} {kept left : List ℕ} → WritesUpTo to_tell k0 k1 (batch ++ front shown said) kept
      → WritesUpTo to_tell k1 k2 (kept ++ items_text names items) left → WritesUpTo to_tell k0 k2 (batch ++ shown_text shown names (record { text = said; items = items })) left
  items_added {to_tell} {k0} {k1} {k2} {kept} {left} a b =
      let Q : List ℕ → Type 0 = λ t. WritesUpTo to_tell k0 k2 t left in subst Q (append_assoc batch (front shown said) (items_text names items)) (up_to_more (items_text names items) a b)

  -- in one that was begun with something
  pub front_failed : {to_tell : Bool} {k0 k1 : SinkAt} → WritesPrefix to_tell k0 k1 (batch ++ front shown said)
      → WritesPrefix to_tell k0 k1 (batch ++ shown_text shown names (record { text = said; items = items }))
  front_failed {to_tell} {k0} {k1} w =
      let Q : List ℕ → Type 0 = λ t. WritesPrefix to_tell k0 k1 t in subst Q (append_assoc batch (front shown said) (items_text names items)) (prefix_more (items_text names items) w)

  pub items_kept : {to_tell : Bool} {k0 k1 : SinkAt} {kept : List ℕ} (k2 : SinkAt) (left : List ℕ) (r : Result (Unit {0}) Failed) → WritesUpTo to_tell k0 k1 (batch ++ front shown said) kept
      → Writes to_tell k1 k2 (kept ++ items_text names items) left r → Writes to_tell k0 k2 (batch ++ shown_text shown names (record { text = said; items = items })) left r
  items_kept {to_tell} {k0} {k1} {kept} k2 left r a b =
      let Q : List ℕ → Type 0 = λ t. Writes to_tell k0 k2 t left r in
      subst Q (append_assoc batch (front shown said) (items_text names items)) (writes_then k2 left r (writes_more (items_text names items) (kept ++ items_text names items) a refl) b)
