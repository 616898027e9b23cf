-- Where a code's text is in memory, its parts are at their addresses.
use Rattle.std.proofs.Common.{◌≡◌, ℕ, zero, suc, ◌+◌, ◌*◌, ◌%◌, ◌/◌, ◌<◌, ◌≤◌, inl, inr, Bool, true, List, [], ◌∷◌, ◌++◌, take, length, Some, sym, ap, ◌∙◌, subst, arith}
use Rattle.std.specs.Prelude.{slice_index, slice_get, if◌then◌else◌}
use Rattle.std.proofs.lemmas.Bool.{cases_lt}
use Rattle.std.proofs.lemmas.Option.{none-some}
use Rattle.sx_rules.specs.declared.section.Layout.{Layout}
use Rattle.sx_ir.specs.declared.ir.Code.{Code}
use Rattle.sx_ir.specs.declared.ir.Ir.{Ir}
use Rattle.sx_ir.specs.declared.ir.Ir.TheVariants as ir
use Rattle.sx_ir.specs.Sizes.{bytes, has_routine, ops_bytes, routines}
use Rattle.sx_tmpl.specs.Running.{Fixed, cell}
use Rattle.sx_tmpl.proofs.Running.MidRun.{Stands}
use Rattle.sx_tmpl.specs.Shows.{base_of, WordsAt}
use Rattle.sx_tmpl.specs.Template.{Addresses, entry_words, leave_words, slot_words, routine_words}
use Rattle.sx_tmpl.specs.Text.{addresses, bytes_of, packet_words, text_words, words_of}
use Rattle.sx_tmpl.proofs.Texts.Placing.{words_front, words_back, word_at, emitted}
use Rattle.sx_tmpl.proofs.Running.Steps.{Text}
use Rattle.sx_tmpl.proofs.Texts.TextBytes.{code_size, packets_size}
use Rattle.sx_tmpl.proofs.Texts.TextPlaces.{bytes_within, exit_is, has_one, place_is, routine_within}
use Rattle.sx_tmpl.proofs.Texts.Whole.{Emitted, IsSoundOp, IsTarget}

-- memory with a text's bytes has its words
words_in : (m : List ℕ) (b : ℕ) (ws rest : List ℕ) → ((k : ℕ) → k < 2 * length ws → slice_index m (b + k) ≡ slice_index (bytes_of ws ++ rest) k) → WordsAt m b ws
unfolding cell
words_in m b [] rest h = tt
words_in m b (w ∷ ws) rest h =
    let lo : slice_index m b ≡ w % 256 = ap (slice_index m) (omega arith) ∙ h 0 (omega arith) in
    let hi : slice_index m (b + 1) ≡ w / 256 = h 1 (omega arith) in
    (omega (arith, lo, hi), words_in m (b + 2) ws rest (λ k lt. ap (slice_index m) (omega arith) ∙ h (suc (suc k)) (omega (arith, lt))))

-- the routine of an end that has one follows those before it
routine_at : (m : List ℕ) (b base : ℕ) (ops : List Ir) (n k : ℕ) → k < n → has_routine ops k ≡ true → WordsAt m b (packet_words base ops n)
    → WordsAt m (b + 140 * routines ops k) (routine_words base k)
unfolding packet_words
routine_at m b base ops zero k lt h w = absurd (omega (arith, lt))
routine_at m b base ops (suc n) k lt h w = elim (cases_lt k n) [
  | inl less ↦ routine_at m b base ops n k less h (words_front m b (packet_words base ops n) (if has_routine ops n then routine_words base n else []) w)
  | inr ge ↦
      let same : n ≡ k = omega (arith, lt, ge) in
      let back = words_back m b (packet_words base ops n) (if has_routine ops n then routine_words base n else []) w in
      let size = packets_size base ops n in
      let place : b + 2 * length (packet_words base ops n) ≡ b + 140 * routines ops n = omega (arith, size) in
      let here : WordsAt m (b + 140 * routines ops n) (if has_routine ops n then routine_words base n else []) = subst
      (λ a. WordsAt m a (if has_routine ops n then routine_words base n else [])) place back in
      let there : WordsAt m (b + 140 * routines ops k) (if has_routine ops k then routine_words base k else []) = subst
      (λ n. WordsAt m (b + 140 * routines ops n) (if has_routine ops n then routine_words base n else [])) same here in
      subst (λ (x : Bool). WordsAt m (b + 140 * routines ops k) (if x then routine_words base k else [])) h there
]

module _ (f : Fixed) (st : Stands f) (code : Code) (text : (k : ℕ) → k < 2 * length (text_words f.setup.section.layout code)
    → slice_index f.entered (f.setup.section.layout.pub_from + k) ≡ slice_index (bytes_of (text_words f.setup.section.layout code)) k)
    (room : f.setup.section.layout.pub_from + bytes code.ops.items ≤ f.setup.section.layout.pub_to) where
  abbrev l : Layout
  l = f.setup.section.layout

  abbrev ops : List Ir
  ops = code.ops.items

  abbrev a : Addresses
  a = addresses l code

  abbrev start : ℕ
  start = l.pub_from + 24

  abbrev behind : ℕ
  behind = start + ops_bytes ops

  abbrev packets : List ℕ
  packets = packet_words l.priv_from ops 256 ++ 0 ∷ []

  abbrev tail : List ℕ
  tail = leave_words l.priv_from ++ (slot_words l.priv_from ++ packets)

  exit_at : a.at a.exit ≡ behind
  exit_at = exit_is start ops

  pub at_is : (p : ℕ) → p ≤ length ops → a.at p ≡ start + ops_bytes (take p ops)
  at_is p le = place_is start ops p le

  pub first_at : a.at 0 ≡ start
  first_at = at_is 0 (omega arith) ∙ omega arith

  all_words : WordsAt f.entered l.pub_from (entry_words l.priv_from ++ (words_of l a 0 ops ++ tail))
  unfolding text_words
  all_words = words_in f.entered l.pub_from (text_words l code) [] (λ k lt. text k lt
      ∙ ap (λ (t : List ℕ). slice_index t k) (sym (Rattle.std.proofs.lemmas.List.append-nil (bytes_of (text_words l code)))))

  code_words : WordsAt f.entered start (words_of l a 0 ops ++ tail)
  code_words = words_back f.entered l.pub_from (entry_words l.priv_from) (words_of l a 0 ops ++ tail) all_words

  tail_words : WordsAt f.entered behind tail
  tail_words =
      let c = code_size l a 0 ops in
      let e : start + 2 * length (words_of l a 0 ops) ≡ behind = omega (arith, c) in
      subst (λ b. WordsAt f.entered b tail) e (words_back f.entered start (words_of l a 0 ops) tail code_words)

  slots_words : WordsAt f.entered (behind + 2 * 17) (slot_words l.priv_from ++ packets)
  slots_words = words_back f.entered behind (leave_words l.priv_from) (slot_words l.priv_from ++ packets) tail_words

  packets_words : WordsAt f.entered (behind + 2 * 17 + 2 * 32) packets
  packets_words = words_back f.entered (behind + 2 * 17) (slot_words l.priv_from) packets slots_words

  text_at : (b n : ℕ) (ws : List ℕ) → l.pub_from ≤ b → b + 2 * n < l.pub_to → b % 2 ≡ 0 → WordsAt f.entered b ws → Text f b n ws
  text_at b n ws lo hi ev h = record { from = lo; to = hi; is_even = ev; word = λ k w e. word_at f.entered b ws k w h e }

  even_bytes : ops_bytes ops % 2 ≡ 0
  even_bytes = let c = code_size l a 0 ops in omega (arith, c)

  pub entry_text : Text f l.pub_from 12 (entry_words (base_of f))
  entry_text = let e = st.from_even in
      text_at l.pub_from 12 (entry_words l.priv_from) (omega arith) (omega (arith, room)) e (words_front f.entered l.pub_from (entry_words l.priv_from) (words_of l a 0 ops ++ tail) all_words)

  pub exit_text : Text f (a.at a.exit) 17 (leave_words (base_of f))
  exit_text =
      let e = st.from_even in
      let c = even_bytes in
      subst (λ b. Text f b 17 (leave_words (base_of f))) (sym exit_at)
      (text_at behind 17 (leave_words l.priv_from) (omega arith) (omega (arith, room)) (omega (arith, e, c))
      (words_front f.entered behind (leave_words l.priv_from) (slot_words l.priv_from ++ packets) tail_words))

  pub slots_text : Text f a.slots 32 (slot_words (base_of f))
  slots_text =
      let e = st.from_even in
      let c = even_bytes in
      let x = exit_at in
      let z : behind + 2 * 17 ≡ a.slots = omega (arith, x) in
      subst (λ b. Text f b 32 (slot_words (base_of f))) z
      (text_at (behind + 2 * 17) 32 (slot_words l.priv_from) (omega arith) (omega (arith, room)) (omega (arith, e, c))
      (words_front f.entered (behind + 2 * 17) (slot_words l.priv_from) packets slots_words))

  -- the index 0 in it
  zero_word : (k w : ℕ) → slice_get (0 ∷ []) k ≡ Some w → cell f.entered (a.zero + 2 * k) ≡ w
  zero_word zero w e = let at : a.slots + 2 * 2 ≡ a.zero + 2 * 0 = omega arith in subst (λ (b : ℕ). cell f.entered b ≡ w) at (slots_text.word 2 w e)
  zero_word (suc k) w e = absurd (none-some w e)

  pub zero_text : Text f a.zero 1 (0 ∷ [])
  zero_text = record { from = omega (arith, slots_text.from); to = omega (arith, slots_text.to); is_even = omega (arith, slots_text.is_even); word = zero_word }

  pub packet_text : (p k : ℕ) → slice_get ops p ≡ Some (ir.Packet k) → k < 256 → Text f (a.packet k) 70 (routine_words (base_of f) k)
  packet_text p k here lt =
      let e = st.from_even in
      let c = even_bytes in
      let x = exit_at in
      let one = has_one ops p k here in
      let within = routine_within ops k 256 one lt in
      let front = words_front f.entered (behind + 2 * 17 + 2 * 32) (packet_words l.priv_from ops 256) (0 ∷ []) packets_words in
      let z : behind + 2 * 17 + 2 * 32 + 140 * routines ops k ≡ a.packet k = omega (arith, x) in
      subst (λ b. Text f b 70 (routine_words (base_of f) k)) z
      (text_at (behind + 2 * 17 + 2 * 32 + 140 * routines ops k) 70 (routine_words l.priv_from k) (omega arith) (omega (arith, room, within)) (omega (arith, e, c))
      (routine_at f.entered (behind + 2 * 17 + 2 * 32) l.priv_from ops 256 k lt one front))

  -- a place of the code, or that after it, is in the text
  pub target : (q : ℕ) → q ≤ length ops → IsTarget f (a.at q)
  target q le =
      let e = st.from_even in
      let c = code_size l a 0 (take q ops) in
      let x = bytes_within q ops in
      let y = at_is q le in
      (record { from = omega (arith, y); to = omega (arith, room, x, y) }, omega (arith, e, c, y))

  pub code_emitted : ((p : ℕ) (i : Ir) → slice_get ops p ≡ Some i → IsSoundOp f a i) → Emitted f a ops
  code_emitted sound =
      let e = st.from_even in
      let c = code_size l a 0 ops in
      emitted f a ops start (λ p le. let x = at_is p le in let y = code_size l a 0 (take p ops) in
      omega (arith, x, y)) (omega arith) (omega (arith, e)) (omega (arith, room, c)) (words_front f.entered start (words_of l a 0 ops) tail code_words) sound
