-- The texts of registers and items, one after the other, and the bytes of a memory.
use Rattle.std.proofs.Common.{◌≡◌, ◌∙◌, ℕ, suc, ◌+◌, ◌-◌, ◌<◌, ◌≤◌, List, [], ◌∷◌, ◌++◌, length, drop, get_or, sym, ap, arith, append_assoc}
use Rattle.std.specs.Prelude.{slice_index}
use Rattle.std.proofs.lemmas.List.{at_drop_more}
use Rattle.spec_machine.specs.Memory.{bytes_from}
use Rattle.sx_trace.specs.declared.items.Item.{Item}
use Rattle.sx_trace.specs.Names.{NameLists}
use Rattle.command_snap.specs.Answers.{item_line, items_text, register_text, registers_text}

one_first : (n m k : ℕ) (regs : List ℕ) → n ≡ suc m → registers_text n k regs ≡ register_text (slice_index regs k) ++ registers_text m (k + 1) regs
unfolding registers_text
one_first n m k regs e = ap (λ (i : ℕ). registers_text i k regs) e

-- one register more was appended
pub next_register : (count k : ℕ) (regs text now : List ℕ) → k < count → now ≡ text ++ register_text (slice_index regs k)
    → now ++ registers_text (count - (k + 1)) (k + 1) regs ≡ text ++ registers_text (count - k) k regs
next_register count k regs text now h e =
    let left : count - k ≡ suc (count - (k + 1)) = omega (arith, h) in
    ap (λ (t : List ℕ). t ++ registers_text (count - (k + 1)) (k + 1) regs) e
    ∙ append_assoc text (register_text (slice_index regs k)) (registers_text (count - (k + 1)) (k + 1) regs)
    ∙ ap (λ (t : List ℕ). text ++ t) (sym (one_first (count - k) (count - (k + 1)) k regs left))

-- no register is left
pub no_registers : (count k : ℕ) (regs : List ℕ) → count ≤ k → registers_text (count - k) k regs ≡ []
unfolding registers_text
no_registers count k regs h =
    let none : count - k ≡ 0 = omega (arith, h) in
    ap (λ (n : ℕ). registers_text n k regs) none

-- one item more was appended
pub next_item : (names : NameLists) (at : ℕ) (items : List Item) (i : ℕ) (text now : List ℕ) (d : Item) → i < length items
    → now ≡ text ++ item_line names at (get_or items i d) → now ++ items_text names at (drop (i + 1) items) ≡ text ++ items_text names at (drop i items)
next_item names at items i text now d h e =
    ap (λ (t : List ℕ). t ++ items_text names at (drop (i + 1) items)) e
    ∙ append_assoc text (item_line names at (get_or items i d)) (items_text names at (drop (i + 1) items))
    ∙ ap (λ (t : List ℕ). text ++ t) (sym (at_drop_more (items_text names at) items i d h))

one_more : (mem : List ℕ) (from i n : ℕ) → n ≡ suc i → bytes_from mem from n ≡ bytes_from mem from i ++ slice_index mem (from + i) ∷ []
unfolding bytes_from
one_more mem from i n e = ap (λ (n : ℕ). bytes_from mem from n) e

-- one byte more was appended
pub next_byte : (mem : List ℕ) (from i : ℕ) (bytes now : List ℕ) (b : ℕ) → now ≡ bytes ++ b ∷ [] → bytes ≡ bytes_from mem from i → b ≡ slice_index mem (from + i)
    → now ≡ bytes_from mem from (i + 1)
next_byte mem from i bytes now b e before byte =
    e ∙ ap (λ (bs : List ℕ). bs ++ b ∷ []) before ∙ ap (λ (b : ℕ). bytes_from mem from i ++ b ∷ []) byte ∙ sym (one_more mem from i (i + 1) (omega arith))

-- no byte is left
pub all_bytes : (mem : List ℕ) (from i len : ℕ) (bytes : List ℕ) → bytes ≡ bytes_from mem from i → i ≡ len → bytes ≡ bytes_from mem from len
all_bytes mem from i len bytes e all = e ∙ ap (λ (n : ℕ). bytes_from mem from n) all
