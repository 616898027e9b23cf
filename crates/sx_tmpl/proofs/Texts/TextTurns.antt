-- One turn of each loop that writes a text.
use Rattle.std.proofs.Common.{◌≡◌, ℕ, zero, suc, ◌+◌, ◌-◌, ◌*◌, ◌<◌, inl, inr, true, false, List, [], ◌∷◌, ◌++◌, drop, length, length-append, refl, sym, ap, ◌∙◌, subst, arith, get_or}
use Rattle.std.specs.Prelude.{slice_index, if◌then◌else◌}
use Rattle.std.proofs.lemmas.List.{append-nil, append_assoc, drop_more, get_or_append_left}
use Rattle.std.proofs.lemmas.Bool.{cases_lt}
use Rattle.std.proofs.Math.Seq.{get_or-append_seam}
use Rattle.sx_rules.specs.declared.section.Layout.{Layout}
use Rattle.sx_ir.specs.declared.ir.Code.{Code}
use Rattle.sx_ir.specs.declared.ir.Ir.{Ir}
use Rattle.sx_ir.specs.Sizes.{bytes, exit_bytes, has_routine, packet_bytes, routines, slot_bytes}
use Rattle.sx_tmpl.specs.Template.{Addresses, template, entry_words, leave_words, slot_words}
use Rattle.sx_tmpl.specs.Text.{addresses, bytes_of, packet_words, packet_words_of, part_place, places_from, text_words, words_of}
use Rattle.sx_tmpl.specs.Fits.{AreCounts, AreNoted, IsTable}
use Rattle.sx_tmpl.specs.declared.table.Table.{Table}
use Rattle.sx_tmpl.proofs.Texts.TextBytes.{bytes_append}
use Rattle.sx_tmpl.proofs.Texts.TextPlaces.{exit_is, length-places, routines_more}

-- bytes after bytes are those of words after words
joined : (old xs ys : List ℕ) → (old ++ bytes_of xs) ++ bytes_of ys ≡ old ++ bytes_of (xs ++ ys)
joined old xs ys = append_assoc old (bytes_of xs) (bytes_of ys) ∙ ap (λ (l : List ℕ). old ++ l) (sym (bytes_append xs ys))

-- the operation at a place
pub turn : (l : Layout) (a : Addresses) (ops : List Ir) (p : ℕ) (d : Ir) (text text2 start : List ℕ) → p < length ops → text2 ≡ text ++ bytes_of (template l a p (get_or ops p d))
    → text ++ bytes_of (words_of l a p (drop p ops)) ≡ start → text2 ++ bytes_of (words_of l a (p + 1) (drop (p + 1) ops)) ≡ start
turn l a ops p d text text2 start lt put before =
    ap (λ (t : List ℕ). t ++ bytes_of (words_of l a (p + 1) (drop (p + 1) ops))) put
    ∙ joined text (template l a p (get_or ops p d)) (words_of l a (p + 1) (drop (p + 1) ops))
    ∙ ap (λ (r : List Ir). text ++ bytes_of (words_of l a p r)) (sym (drop_more ops p d lt))
    ∙ before

-- the packet routine of an end
pub packets_turn : (base : ℕ) (ops : List Ir) (n : ℕ) (text text2 old : List ℕ) → text2 ≡ text ++ bytes_of (packet_words_of base ops n) → text ≡ old ++ bytes_of (packet_words base ops n)
    → text2 ≡ old ++ bytes_of (packet_words base ops (n + 1))
unfolding packet_words
packets_turn base ops n text text2 old put before =
    let next : suc n ≡ n + 1 = omega arith in
    put ∙ ap (λ (t : List ℕ). t ++ bytes_of (packet_words_of base ops n)) before ∙ joined old (packet_words base ops n) (packet_words_of base ops n)
    ∙ ap (λ (m : ℕ). old ++ bytes_of (packet_words base ops m)) next

pub packets_none : (base : ℕ) (ops : List Ir) (text : List ℕ) → text ≡ text ++ bytes_of (packet_words base ops 0)
unfolding packet_words
packets_none base ops text = sym (append-nil text)

-- the count of an end
pub counts_none : (ops : List Ir) (counts : List ℕ) → counts ≡ [] → AreCounts ops 0 counts
counts_none ops counts e = record { count = ap (λ (l : List ℕ). length l) e; each = λ k lt. absurd (omega (arith, lt)) }

pub counts_turn : (ops : List Ir) (n count : ℕ) (counts counts2 : List ℕ) → counts2 ≡ counts ++ count ∷ [] → AreCounts ops n counts → count ≡ routines ops n → AreCounts ops (n + 1) counts2
counts_turn ops n count counts counts2 is h e = subst (λ l. AreCounts ops (n + 1) l) (sym is) (record {
  count = (let x = length-append counts (count ∷ []) in let y = h.count in omega (arith, x, y));
  each = λ k lt. elim (cases_lt k n) [
    | inl less ↦ get_or_append_left counts (count ∷ []) 0 k (let y = h.count in omega (arith, less, y)) ∙ h.each k less
    | inr ge ↦
        let same : k ≡ n = omega (arith, lt, ge) in
        let here : k ≡ length counts = (let y = h.count in omega (arith, same, y)) in
        ap (λ (i : ℕ). get_or (counts ++ count ∷ []) i 0) here ∙ get_or-append_seam counts count [] 0 ∙ e ∙ ap (routines ops) (sym same)
  ];
})

pub no_routines : (ops : List Ir) → 0 ≡ routines ops 0
unfolding routines
no_routines ops = refl

pub one_more : (ops : List Ir) (n count : ℕ) → count ≡ routines ops n → has_routine ops n ≡ true → count + 1 ≡ routines ops (n + 1)
unfolding routines
one_more ops n count e h =
    let next : suc n ≡ n + 1 = omega arith in
    ap (λ (m : ℕ). m + 1) e ∙ ap (λ b. routines ops n + (if b then 1 else 0)) (sym h) ∙ ap (routines ops) next

pub none_more : (ops : List Ir) (n count : ℕ) → count ≡ routines ops n → has_routine ops n ≡ false → count ≡ routines ops (n + 1)
unfolding routines
none_more ops n count e h =
    let next : suc n ≡ n + 1 = omega arith in
    let none : routines ops n ≡ routines ops n + 0 = omega arith in
    e ∙ none ∙ ap (λ b. routines ops n + (if b then 1 else 0)) (sym h) ∙ ap (routines ops) next

-- the first place of a part
pub part_is : (parts : List (ℕ × ℕ)) (h : ℕ) → (get_or parts h (0, 0)).0 ≡ part_place parts h
part_is [] h = refl
part_is (p ∷ parts) zero = refl
part_is (p ∷ parts) (suc h) = part_is parts h

-- a table that is filled so
pub table_is : (l : Layout) (code : Code) (t : Table) → t.places.items ≡ places_from (l.pub_from + 24) code.ops.items → AreNoted code.ops.items t.noted.items
    → AreCounts code.ops.items 256 t.routines.items → l.pub_from + bytes code.ops.items < 65536 → IsTable l code t
table_is l code t places noted counts room =
    let exit = exit_is (l.pub_from + 24) code.ops.items in
    let at = ap (λ (p : List ℕ). slice_index p (length code.ops.items)) places in
    record {
      places = places;
      count = ap (λ (p : List ℕ). length p) places ∙ length-places (l.pub_from + 24) code.ops.items;
      noted = noted;
      counts = counts;
      below = omega (arith, exit, at, room);
    }

-- all parts of a text, one after the other
pub whole : (l : Layout) (code : Code) (t0 t1 t2 t3 t4 t5 t6 : List ℕ) → t1 ≡ t0 ++ bytes_of (entry_words l.priv_from) → t2 ≡ t1 ++ bytes_of (words_of l (addresses l code) 0 code.ops.items)
    → t3 ≡ t2 ++ bytes_of (leave_words l.priv_from)
    → t4 ≡ t3 ++ bytes_of (slot_words l.priv_from) → t5 ≡ t4 ++ bytes_of (packet_words l.priv_from code.ops.items 256) → t6 ≡ t5 ++ bytes_of (0 ∷ []) → t6 ≡ t0 ++ bytes_of (text_words l code)
unfolding text_words
whole l code t0 t1 t2 t3 t4 t5 t6 e1 e2 e3 e4 e5 e6 =
    let b = l.priv_from in
    let ws = words_of l (addresses l code) 0 code.ops.items in
    let ps = packet_words b code.ops.items 256 in
    e6 ∙ ap (λ (t : List ℕ). t ++ bytes_of (0 ∷ [])) e5 ∙ joined t4 ps (0 ∷ [])
    ∙ ap (λ (t : List ℕ). t ++ bytes_of (ps ++ 0 ∷ [])) e4 ∙ joined t3 (slot_words b) (ps ++ 0 ∷ [])
    ∙ ap (λ (t : List ℕ). t ++ bytes_of (slot_words b ++ (ps ++ 0 ∷ []))) e3 ∙ joined t2 (leave_words b) (slot_words b ++ (ps ++ 0 ∷ []))
    ∙ ap (λ (t : List ℕ). t ++ bytes_of (leave_words b ++ (slot_words b ++ (ps ++ 0 ∷ [])))) e2 ∙ joined t1 ws (leave_words b ++ (slot_words b ++ (ps ++ 0 ∷ [])))
    ∙ ap (λ (t : List ℕ). t ++ bytes_of (ws ++ (leave_words b ++ (slot_words b ++ (ps ++ 0 ∷ []))))) e1 ∙ joined t0 (entry_words b) (ws ++ (leave_words b ++ (slot_words b ++ (ps ++ 0 ∷ []))))

-- with the routines before an end's the text is within memory
pub before_below : (l : Layout) (code : Code) (t : Table) (k n : ℕ) → IsTable l code t → k < 256 → n ≡ routines code.ops.items k
    → (addresses l code).at (length code.ops.items) + (exit_bytes + slot_bytes) + packet_bytes * n < 65536
before_below l code t k n h lt e =
    let more = routines_more code.ops.items k (256 - k) in
    let all : k + (256 - k) ≡ 256 = omega (arith, lt) in
    let same = ap (routines code.ops.items) all in
    let at = ap (λ (p : List ℕ). slice_index p (length code.ops.items)) h.places in
    let below = h.below in
    omega (arith, more, same, at, below, e)
