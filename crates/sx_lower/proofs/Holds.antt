-- A private section that holds a source state: its locals and cells.
use Rattle.std.specs.Prelude.{unwrap_or}
use Rattle.std.proofs.Common.{◌≡◌, ◌≢◌, ℕ, ◌+◌, ◌-◌, ◌*◌, ◌%◌, ◌<◌, ◌≤◌, Bool, true, false, if◌then◌else◌, List, [], ◌∷◌, ◌++◌, length, get_or, take, nat_lt}
use Rattle.std.proofs.Common.{refl, sym, ap, ◌∙◌, subst, arith, length-append}
use Rattle.std.specs.Prelude.{All, slice_set}
use Rattle.std.proofs.lemmas.Bool.{lt-ltb, le-ltb, ltb-false, ltb-true}
use Rattle.sx_lang.specs.declared.tree.Decl.{Decl}
use Rattle.sx_lang.specs.Tree.{Expression, Constant, Variable, Indexed, Applied, Combined}
use Rattle.sx_lang.specs.Sizes.{declared_cells}
use Rattle.sx_mean.specs.Places.{place, array_length, initial_cells}
use Rattle.sx_mean.specs.Meaning.{HandlerState, word, element, value, local_place, new_local, define, assign, assign_element, forget}
use Rattle.spec_machine.specs.Memory as memory
use Rattle.spec_machine.specs.Memory.{even, put_word}
use Rattle.sx_mean.specs.Offsets.{cell_at}
use Rattle.sx_mean.specs.Working.{event_at, local_at}
use Rattle.spec_invocation.specs.ModuleState.{cells_from}
use Rattle.sx_mean.specs.Scope.{index_of, names_of}
use Rattle.sx_mean.specs.Variables.{first_value, IsVariable, FineExpression}
use Rattle.sx_lower.proofs.Bytes.{bytes-put, word_small}
use Rattle.sx_lower.proofs.Slots.{InSlots, cells_other, cell_read, cell_write, cells_are_words, slots_other, slots_push, slots_set, slots_take}
use Rattle.sx_mean.proofs.Variables.{is_element}
use Rattle.sx_mean.proofs.Scope.{length-names, look_past, place_of_local, names_push, names_take, names_set}
use Rattle.sx_lower.proofs.Source.{look_at, found_word}
use Rattle.sx_mean.proofs.Words.{apply_word, combine_word, length-initial}
use Rattle.spec_machine.proofs.Lengths.{length-put_word}

-- the private section, of a module with this many ends, holds this state, whose locals have these names
pub record Holds (ds : List Decl) (n : ℕ) (names : List (List ℕ)) (st : HandlerState) (priv : List ℕ) : Type 0 where
  pub named : names_of st.locals ≡ names
  pub few : length names ≤ 16
  pub locals : InSlots priv (local_at 0) st.locals
  pub cells : cells_from priv (cell_at n 0) (initial_cells ds) ≡ st.cells
  pub size : cell_at n (declared_cells ds) ≤ length priv
  pub bytes : All (λ b. b < 256) priv

module _ (ds : List Decl) (n : ℕ) (names : List (List ℕ)) (st : HandlerState) (priv : List ℕ) (h : Holds ds n names st priv) where
  few_locals : length st.locals ≤ 16
  few_locals = omega (arith, length-names st.locals, ap length h.named, h.few)

  -- reads

  pub read_local : (x : List ℕ) → nat_lt (index_of names x) (length names) ≡ true → memory.word priv (local_at (index_of names x)) ≡ word ds st x
  read_local x is =
      let is2 = subst (λ ns. nat_lt (index_of ns x) (length ns) ≡ true) (sym h.named) is in
      let e : 72 + 2 * 0 + 2 * index_of (names_of st.locals) x ≡ 72 + 2 * index_of (names_of st.locals) x = omega arith in
      sym (ap (λ o. unwrap_or o (get_or st.cells (place ds x) 0)) (look_at st.locals priv (local_at 0) x h.locals is2)
      ∙ ap (memory.word priv) e
      ∙ ap (λ ns. memory.word priv (72 + 2 * index_of ns x)) h.named)

  pub read_cell : (x : List ℕ) → nat_lt (index_of names x) (length names) ≡ false → IsVariable ds x → (memory.word priv (cell_at n (place ds x)) + first_value ds x) % 65536 ≡ word ds st x
  read_cell x is v =
      let is2 = subst (λ ns. nat_lt (index_of ns x) (length ns) ≡ false) (sym h.named) is in
      let r = cell_read (initial_cells ds) priv (cell_at n 0) (place ds x) (omega (arith, v.there, length-initial ds)) in
      let e : cell_at n 0 + 2 * place ds x ≡ cell_at n (place ds x) = omega arith in
      ap (λ f. (memory.word priv (cell_at n (place ds x)) + f) % 65536) v.first
      ∙ ap (λ a. (memory.word priv a + get_or (initial_cells ds) (place ds x) 0) % 65536) (sym e)
      ∙ sym r
      ∙ ap (λ l. get_or l (place ds x) 0) h.cells
      ∙ sym (ap (λ o. unwrap_or o (get_or st.cells (place ds x) 0)) (look_past st.locals x is2))

  pub read_element : (x : List ℕ) (i : ℕ) → (if nat_lt i (array_length ds x) then memory.word priv (cell_at n (place ds x) + 2 * i) else 0) ≡ element ds st x i
  read_element x i = go (nat_lt i (array_length ds x)) refl
    where
      go : (b : Bool) → nat_lt i (array_length ds x) ≡ b → (if b then memory.word priv (cell_at n (place ds x) + 2 * i) else 0) ≡ (if b then get_or st.cells (place ds x + i) 0 else 0)
      go false e = refl
      go true e =
          let el = is_element ds x i e in
          let r = cell_read (initial_cells ds) priv (cell_at n 0) (place ds x + i) (omega (arith, el.there, length-initial ds)) in
          let a : cell_at n 0 + 2 * (place ds x + i) ≡ cell_at n (place ds x) + 2 * i = omega arith in
          let small = word_small priv (cell_at n (place ds x) + 2 * i) (omega (arith, el.there, h.size)) h.bytes in
          let r2 = subst (λ a. get_or (cells_from priv (cell_at n 0) (initial_cells ds)) (place ds x + i) 0 ≡ (memory.word priv a + get_or (initial_cells ds) (place ds x + i) 0) % 65536) a r in
          let w : memory.word priv (cell_at n (place ds x) + 2 * i) ≡ get_or (cells_from priv (cell_at n 0) (initial_cells ds)) (place ds x + i) 0 = omega (arith, r2, el.zero, small) in
          w ∙ ap (λ l. get_or l (place ds x + i) 0) h.cells

  cell_word : (i : ℕ) → get_or st.cells i 0 < 65536
  cell_word i = subst (λ l. get_or l i 0 < 65536) h.cells (cells_are_words (initial_cells ds) priv (cell_at n 0) i)

  element_word : (x : List ℕ) (i : ℕ) → element ds st x i < 65536
  element_word x i = go (nat_lt i (array_length ds x))
    where
      go : (b : Bool) → (if b then get_or st.cells (place ds x + i) 0 else 0) < 65536
      go true = cell_word (place ds x + i)
      go false = omega arith

  pub value_word : (e : Expression) → FineExpression ds names e → value ds st e < 65536
  value_word (Constant v) fine = fine
  value_word (Variable x) fine = found_word st.locals priv (local_at 0) x _ h.locals (cell_word (place ds x))
  value_word (Indexed x e) fine = element_word x (value ds st e)
  value_word (Applied o e) fine = apply_word o (value ds st e)
  value_word (Combined o a b) fine = combine_word o (value ds st a) (value ds st b) (value_word a fine.0) (value_word b fine.1)

  -- writes

  -- elsewhere, as by a packet or a loop
  pub holds_other : (o v : ℕ) → v < 65536 → ((b : ℕ) → 72 ≤ b → b < 104 → even b ≢ even o) → ((b : ℕ) → cell_at n 0 ≤ b → even b ≢ even o) → Holds ds n names st (put_word priv o v)
  holds_other o v lt far below = record {
    named = h.named;
    few = h.few;
    locals = slots_other st.locals priv (local_at 0) o v (λ j l. far (72 + 2 * 0 + 2 * j) (omega arith) (omega (arith, l, few_locals))) h.locals;
    cells = cells_other (initial_cells ds) priv (cell_at n 0) o v (λ j l. below (cell_at n 0 + 2 * j) (omega arith)) ∙ h.cells;
    size = omega (arith, h.size, length-put_word priv o v);
    bytes = bytes-put priv o v lt h.bytes;
  }

  pub holds_turns : (v : ℕ) → v < 65536 → Holds ds n names st (put_word priv event_at v)
  holds_turns v lt = holds_other event_at v lt (λ b l m. omega (arith, l)) (λ b l. omega (arith, l))

  pub holds_define : (x : List ℕ) (v : ℕ) → v < 65536 → length names < 16 → Holds ds n (names ++ x ∷ []) (define x v st) (put_word priv (local_at (length names)) v)
  holds_define x v lt room =
      let count : length names ≡ length st.locals = omega (arith, length-names st.locals, ap length h.named) in
      let o : 72 + 2 * 0 + 2 * length st.locals ≡ local_at (length names) = omega (arith, count) in
      let size2 = length-put_word priv (local_at (length names)) v in
      record {
        named = names_push st.locals (new_local x v) ∙ ap (λ ns. ns ++ x ∷ []) h.named;
        few = omega (arith, length-append names (x ∷ []), room);
        locals = subst (λ o. InSlots (put_word priv o v) (local_at 0) (st.locals ++ new_local x v ∷ [])) o
            (slots_push st.locals priv (local_at 0) (new_local x v) refl (omega (arith, count, room, h.size)) lt h.locals);
        cells = cells_other (initial_cells ds) priv (cell_at n 0) (local_at (length names)) v (λ j l. omega (arith, room)) ∙ h.cells;
        size = omega (arith, h.size, size2);
        bytes = bytes-put priv (local_at (length names)) v lt h.bytes;
      }

  holds_local : (x : List ℕ) (v : ℕ) → v < 65536 → nat_lt (index_of names x) (length names) ≡ true
      → Holds ds n names (record st { locals = slice_set st.locals (local_place st.locals x) (new_local x v) }) (put_word priv (local_at (index_of names x)) v)
  holds_local x v lt is =
      let i = local_place st.locals x in
      let at : i ≡ index_of names x = place_of_local st.locals x ∙ ap (λ ns. index_of ns x) h.named in
      let inside = ltb-true (index_of names x) (length names) is in
      let count : length names ≡ length st.locals = omega (arith, length-names st.locals, ap length h.named) in
      let o : 72 + 2 * 0 + 2 * i ≡ local_at (index_of names x) = omega (arith, at) in
      let size2 = length-put_word priv (local_at (index_of names x)) v in
      record {
        named = names_set st.locals x v ∙ h.named;
        few = h.few;
        locals = subst (λ o. InSlots (put_word priv o v) (local_at 0) (slice_set st.locals i (new_local x v))) o
            (slots_set st.locals priv (local_at 0) i (new_local x v) refl (omega (arith, count, h.few, h.size)) (omega (arith, at, inside, count)) lt h.locals);
        cells = cells_other (initial_cells ds) priv (cell_at n 0) (local_at (index_of names x)) v (λ j l. omega (arith, inside, h.few)) ∙ h.cells;
        size = omega (arith, h.size, size2);
        bytes = bytes-put priv (local_at (index_of names x)) v lt h.bytes;
      }

  -- a word in a cell, which begins with f
  holds_cell : (i w v : ℕ) → i < declared_cells ds → w < 65536 → (w + get_or (initial_cells ds) i 0) % 65536 ≡ v
      → Holds ds n names (record st { cells = slice_set st.cells i v }) (put_word priv (cell_at n i) w)
  holds_cell i w v inside lt is =
      let at : cell_at n 0 + 2 * i ≡ cell_at n i = omega arith in
      let even_base : cell_at n 0 % 2 ≡ 0 = omega arith in
      let wrote = cell_write (initial_cells ds) priv (cell_at n 0) i w v even_base (omega (arith, h.size, length-initial ds)) (omega (arith, inside, length-initial ds)) is in
      let size2 = length-put_word priv (cell_at n i) w in
      record {
        named = h.named;
        few = h.few;
        locals = slots_other st.locals priv (local_at 0) (cell_at n i) w (λ j l. omega (arith, l, few_locals)) h.locals;
        cells = subst (λ o. cells_from (put_word priv o w) (cell_at n 0) (initial_cells ds) ≡ slice_set st.cells i v) at (wrote ∙ ap (λ l. slice_set l i v) h.cells);
        size = omega (arith, h.size, size2);
        bytes = bytes-put priv (cell_at n i) w lt h.bytes;
      }

  -- an assignment, to a local and to a variable
  pub holds_assign_local : (x : List ℕ) (v : ℕ) → v < 65536 → nat_lt (index_of names x) (length names) ≡ true → Holds ds n names (assign ds x v st) (put_word priv (local_at (index_of names x)) v)
  holds_assign_local x v lt is =
      let at : local_place st.locals x ≡ index_of names x = place_of_local st.locals x ∙ ap (λ ns. index_of ns x) h.named in
      let count : length names ≡ length st.locals = omega (arith, length-names st.locals, ap length h.named) in
      let inside = ltb-true (index_of names x) (length names) is in
      let t : nat_lt (local_place st.locals x) (length st.locals) ≡ true = lt-ltb _ _ (omega (arith, at, inside, count)) in
      let e : assign ds x v st ≡ record st { locals = slice_set st.locals (local_place st.locals x) (new_local x v) } = rw t refl in
      subst (λ u. Holds ds n names u (put_word priv (local_at (index_of names x)) v)) (sym e) (holds_local x v lt is)

  pub holds_assign_cell : (x : List ℕ) (v : ℕ) → v < 65536 → nat_lt (index_of names x) (length names) ≡ false → IsVariable ds x → first_value ds x < 65536
      → Holds ds n names (assign ds x v st) (put_word priv (cell_at n (place ds x)) ((v + (65536 - first_value ds x)) % 65536))
  holds_assign_cell x v lt is var small =
      let at : local_place st.locals x ≡ index_of names x = place_of_local st.locals x ∙ ap (λ ns. index_of ns x) h.named in
      let count : length names ≡ length st.locals = omega (arith, length-names st.locals, ap length h.named) in
      let outside = ltb-false (index_of names x) (length names) is in
      let t : nat_lt (local_place st.locals x) (length st.locals) ≡ false = le-ltb _ _ (omega (arith, at, outside, count)) in
      let e : assign ds x v st ≡ record st { cells = slice_set st.cells (place ds x) v } = rw t refl in
      let f = first_value ds x in
      let back : ((v + (65536 - f)) % 65536 + get_or (initial_cells ds) (place ds x) 0) % 65536 ≡ v = ap (λ g. ((v + (65536 - f)) % 65536 + g) % 65536) (sym var.first) ∙ there_and_back v f lt small in
      subst (λ u. Holds ds n names u (put_word priv (cell_at n (place ds x)) ((v + (65536 - f)) % 65536))) (sym e) (holds_cell (place ds x) _ v var.there (omega arith) back)
    where
      there_and_back : (v f : ℕ) → v < 65536 → f < 65536 → ((v + (65536 - f)) % 65536 + f) % 65536 ≡ v
      there_and_back v f a b = omega arith

  pub holds_element : (x : List ℕ) (i v : ℕ) → v < 65536
      → Holds ds n names (assign_element ds x i v st) (if nat_lt i (array_length ds x) then put_word priv (cell_at n (place ds x) + 2 * i) v else priv)
  holds_element x i v lt = go (nat_lt i (array_length ds x)) refl
    where
      go : (b : Bool) → nat_lt i (array_length ds x) ≡ b
          → Holds ds n names (if b then record st { cells = slice_set st.cells (place ds x + i) v } else st) (if b then put_word priv (cell_at n (place ds x) + 2 * i) v else priv)
      go false e = h
      go true e =
          let el = is_element ds x i e in
          let at : cell_at n (place ds x + i) ≡ cell_at n (place ds x) + 2 * i = omega arith in
          let is : (v + get_or (initial_cells ds) (place ds x + i) 0) % 65536 ≡ v = omega (arith, el.zero, lt) in
          subst (λ o. Holds ds n names (record st { cells = slice_set st.cells (place ds x + i) v }) (put_word priv o v)) at (holds_cell (place ds x + i) v v el.there lt is)

-- a block's locals end
pub holds_forget : (ds : List Decl) (n : ℕ) (names all : List (List ℕ)) (st : HandlerState) (priv : List ℕ) (k : ℕ) → Holds ds n all st priv → take k all ≡ names → length names ≤ 16
    → Holds ds n names (forget k st) priv
holds_forget ds n names all st priv k h e few = record {
  named = names_take st.locals k ∙ ap (take k) h.named ∙ e;
  few = few;
  locals = slots_take st.locals priv (local_at 0) k h.locals;
  cells = h.cells;
  size = h.size;
  bytes = h.bytes;
}
