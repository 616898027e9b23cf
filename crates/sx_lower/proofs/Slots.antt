-- The parts of a private section: cells, locals and ends, and what a write of a word does to each.
use Rattle.std.proofs.Common.{◌≡◌, ◌≢◌, ℕ, zero, suc, ◌+◌, ◌*◌, ◌%◌, ◌<◌, ◌≤◌, List, [], ◌∷◌, ◌++◌, length, get_or, take, refl, sym, ap, ◌∙◌, subst, arith}
use Rattle.std.specs.Prelude.{slice_set}
use Rattle.spec_machine.specs.Memory.{even, word, put_word}
use Rattle.sx_mean.specs.declared.moments.Local.{Local}
use Rattle.sx_mean.specs.declared.events.End.{End}
use Rattle.sx_mean.specs.Offsets.{end_at, end_number_at, end_open_at, end_key_at}
use Rattle.spec_invocation.specs.ModuleState.{end_of, with_end, end_state, end_states, cells_from}
use Rattle.sx_lower.proofs.Bytes.{word-put_same, word-put_other, bytes-put_other}

-- Cells

pub cells_other : (fs : List ℕ) (priv : List ℕ) (at o v : ℕ) → ((j : ℕ) → j < length fs → even (at + 2 * j) ≢ even o) → cells_from (put_word priv o v) at fs ≡ cells_from priv at fs
cells_other [] priv at o v h = refl
cells_other (f ∷ fs) priv at o v h =
    let here = word-put_other priv o v at (subst (λ n. even n ≢ even o) (omega arith) (h 0 (omega arith))) in
    let more = cells_other fs priv (at + 2) o v (λ j l. subst (λ n. even n ≢ even o) (omega arith) (h (suc j) (omega arith))) in
    rw (here, more) refl

pub cell_read : (fs : List ℕ) (priv : List ℕ) (at i : ℕ) → i < length fs → get_or (cells_from priv at fs) i 0 ≡ (word priv (at + 2 * i) + get_or fs i 0) % 65536
cell_read [] priv at i h = absurd (omega (arith, h))
cell_read (f ∷ fs) priv at zero h = let e : at ≡ at + 2 * 0 = omega arith in ap (λ n. (word priv n + f) % 65536) e
cell_read (f ∷ fs) priv at (suc i) h =
    let e : at + 2 + 2 * i ≡ at + 2 * suc i = omega arith in
    cell_read fs priv (at + 2) i (omega arith) ∙ ap (λ n. (word priv n + get_or fs i 0) % 65536) e

pub cell_write : (fs : List ℕ) (priv : List ℕ) (at i w v : ℕ) → at % 2 ≡ 0 → at + 2 * length fs ≤ length priv → i < length fs → (w + get_or fs i 0) % 65536 ≡ v
    → cells_from (put_word priv (at + 2 * i) w) at fs ≡ slice_set (cells_from priv at fs) i v
cell_write [] priv at i w v ev long h is = absurd (omega (arith, h))
cell_write (f ∷ fs) priv at zero w v ev long h is =
    let e : at + 2 * 0 ≡ at = omega arith in
    let here : word (put_word priv at w) at ≡ w = word-put_same priv at w (omega (arith, ev, long)) in
    let more = cells_other fs priv (at + 2) at w (λ j l. omega (arith, ev)) in
    ap (λ n. cells_from (put_word priv n w) at (f ∷ fs)) e
    ∙ ap (λ x. (x + f) % 65536 ∷ cells_from (put_word priv at w) (at + 2) fs) here
    ∙ ap (λ x. x ∷ cells_from (put_word priv at w) (at + 2) fs) is
    ∙ ap (λ l. v ∷ l) more
cell_write (f ∷ fs) priv at (suc i) w v ev long h is =
    let e : at + 2 * suc i ≡ at + 2 + 2 * i = omega arith in
    let here = word-put_other priv (at + 2 + 2 * i) w at (omega (arith, ev)) in
    let more = cell_write fs priv (at + 2) i w v (omega (arith, ev)) (omega (arith, long)) (omega arith) is in
    ap (λ n. cells_from (put_word priv n w) at (f ∷ fs)) e
    ∙ ap (λ x. (x + f) % 65536 ∷ cells_from (put_word priv (at + 2 + 2 * i) w) (at + 2) fs) here
    ∙ ap (λ l. (word priv at + f) % 65536 ∷ l) more

pub cells_are_words : (fs : List ℕ) (priv : List ℕ) (at i : ℕ) → get_or (cells_from priv at fs) i 0 < 65536
cells_are_words [] priv at i = omega arith
cells_are_words (f ∷ fs) priv at zero = omega arith
cells_are_words (f ∷ fs) priv at (suc i) = cells_are_words fs priv (at + 2) i

-- Locals

-- each local is in its slot, and is a word
abbrev pub InSlots : List ℕ → ℕ → List Local → Type 0
InSlots priv at [] = Unit {0}
InSlots priv at (l ∷ ls) = (word priv at ≡ l.value) × (l.value < 65536) × InSlots priv (at + 2) ls

pub slots_other : (ls : List Local) (priv : List ℕ) (at o v : ℕ) → ((j : ℕ) → j < length ls → even (at + 2 * j) ≢ even o) → InSlots priv at ls → InSlots (put_word priv o v) at ls
slots_other [] priv at o v h s = tt
slots_other (l ∷ ls) priv at o v h s =
    let here = word-put_other priv o v at (subst (λ n. even n ≢ even o) (omega arith) (h 0 (omega arith))) in
    (here ∙ s.0, s.1, slots_other ls priv (at + 2) o v (λ j p. subst (λ n. even n ≢ even o) (omega arith) (h (suc j) (omega arith))) s.2)

-- a new local after the others
pub slots_push : (ls : List Local) (priv : List ℕ) (at : ℕ) (l : Local) → at % 2 ≡ 0 → at + 2 * length ls + 1 < length priv → l.value < 65536 → InSlots priv at ls
    → InSlots (put_word priv (at + 2 * length ls) l.value) at (ls ++ l ∷ [])
slots_push [] priv at l ev long lt s =
    let e : at + 2 * 0 ≡ at = omega arith in
    (ap (λ n. word (put_word priv n l.value) at) e ∙ word-put_same priv at l.value (omega (arith, ev, long)), lt, tt)
slots_push (x ∷ ls) priv at l ev long lt s =
    let e : at + 2 + 2 * length ls ≡ at + 2 * length (x ∷ ls) = omega arith in
    let here = word-put_other priv (at + 2 + 2 * length ls) l.value at (omega (arith, ev)) in
    subst (λ n. InSlots (put_word priv n l.value) at (x ∷ (ls ++ l ∷ []))) e
    (here ∙ s.0, s.1, slots_push ls priv (at + 2) l (omega (arith, ev)) (omega (arith, long)) lt s.2)

-- a local gets another value
pub slots_set : (ls : List Local) (priv : List ℕ) (at i : ℕ) (l : Local) → at % 2 ≡ 0 → at + 2 * length ls ≤ length priv → i < length ls → l.value < 65536 → InSlots priv at ls
    → InSlots (put_word priv (at + 2 * i) l.value) at (slice_set ls i l)
slots_set [] priv at i l ev long h lt s = absurd (omega (arith, h))
slots_set (x ∷ ls) priv at zero l ev long h lt s =
    let e : at ≡ at + 2 * 0 = omega arith in
    subst (λ n. InSlots (put_word priv n l.value) at (l ∷ ls)) e
    (word-put_same priv at l.value (omega (arith, ev, long)), lt, slots_other ls priv (at + 2) at l.value (λ j p. omega (arith, ev)) s.2)
slots_set (x ∷ ls) priv at (suc i) l ev long h lt s =
    let e : at + 2 + 2 * i ≡ at + 2 * suc i = omega arith in
    let here = word-put_other priv (at + 2 + 2 * i) l.value at (omega (arith, ev)) in
    subst (λ n. InSlots (put_word priv n l.value) at (x ∷ slice_set ls i l)) e
    (here ∙ s.0, s.1, slots_set ls priv (at + 2) i l (omega (arith, ev)) (omega (arith, long)) (omega arith) lt s.2)

pub slots_take : (ls : List Local) (priv : List ℕ) (at n : ℕ) → InSlots priv at ls → InSlots priv at (take n ls)
slots_take ls priv at zero s = tt
slots_take [] priv at (suc n) s = tt
slots_take (x ∷ ls) priv at (suc n) s = (s.0, s.1, slots_take ls priv (at + 2) n s.2)

-- Ends

pub end_other : (priv : List ℕ) (k o v : ℕ) → ((b : ℕ) → end_at k ≤ b → b < end_at k + 24 → even b ≢ even o) → end_state (put_word priv o v) k ≡ end_state priv k
unfolding end_state
end_other priv k o v h =
    let a = word-put_other priv o v (end_open_at k) (h _ (omega arith) (omega arith)) in
    let b = word-put_other priv o v (end_at k) (h _ (omega arith) (omega arith)) in
    let c = word-put_other priv o v (end_number_at k) (h _ (omega arith) (omega arith)) in
    let d = bytes-put_other priv o v (end_key_at k) 16 (λ j l. h _ (omega arith) (omega arith)) in
    rw (a, b, c, d) refl

pub ends_other : (es : List End) (priv : List ℕ) (k o v : ℕ) → ((b : ℕ) → end_at k ≤ b → b < end_at (k + length es) → even b ≢ even o) → end_states (put_word priv o v) k es ≡ end_states priv k es
ends_other [] priv k o v h = refl
ends_other (e ∷ es) priv k o v h =
    let here = end_other priv k o v (λ b l m. h b l (omega (arith, m))) in
    let more = ends_other es priv (k + 1) o v (λ b l m. h b (omega (arith, l)) (omega (arith, m))) in
    rw (here, more) refl

-- the state of an end among the states of all
pub end_among : (es : List End) (priv : List ℕ) (k j : ℕ) → j < length es → end_of (end_states priv k es) j ≡ end_state priv (k + j)
end_among [] priv k j h = absurd (omega (arith, h))
end_among (e ∷ es) priv k zero h = let e : k ≡ k + 0 = omega arith in ap (end_state priv) e
end_among (e ∷ es) priv k (suc j) h = let e : k + 1 + j ≡ k + suc j = omega arith in end_among es priv (k + 1) j (omega arith) ∙ ap (end_state priv) e

end_numbered : (priv : List ℕ) (k n : ℕ) → end_at k + 24 ≤ length priv → end_state (put_word priv (end_number_at k) n) k ≡ record (end_state priv k) { number = n }
unfolding end_state
end_numbered priv k n long =
    let o = end_number_at k in
    let a = word-put_other priv o n (end_open_at k) (omega arith) in
    let b = word-put_other priv o n (end_at k) (omega arith) in
    let c = word-put_same priv o n (omega (arith, long)) in
    let d = bytes-put_other priv o n (end_key_at k) 16 (λ j l. omega arith) in
    rw (a, b, c, d) refl

-- the number of one end
pub ends_number : (es : List End) (priv : List ℕ) (k j n : ℕ) → end_at (k + length es) ≤ length priv → j < length es
    → end_states (put_word priv (end_number_at (k + j)) n) k es ≡ with_end (end_states priv k es) j (record (end_state priv (k + j)) { number = n })
ends_number [] priv k j n long h = absurd (omega (arith, h))
ends_number (e ∷ es) priv k zero n long h =
    let q : k + 0 ≡ k = omega arith in
    let here = end_numbered priv k n (omega (arith, long)) in
    let more = ends_other es priv (k + 1) (end_number_at k) n (λ b l m. omega (arith, l)) in
    subst (λ i. end_states (put_word priv (end_number_at i) n) k (e ∷ es) ≡ (record (end_state priv i) { number = n }) ∷ end_states priv (k + 1) es) (sym q)
    (rw (here, more) refl)
ends_number (e ∷ es) priv k (suc j) n long h =
    let q : k + 1 + j ≡ k + suc j = omega arith in
    let here = end_other priv k (end_number_at (k + suc j)) n (λ b l m. omega (arith, m)) in
    let more = ends_number es priv (k + 1) j n (omega (arith, long)) (omega arith) in
    let more2 = subst (λ i. end_states (put_word priv (end_number_at i) n) (k + 1) es ≡ with_end (end_states priv (k + 1) es) j (record (end_state priv i) { number = n })) q more in
    rw (here, more2) refl
