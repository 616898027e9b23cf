-- A table of tags: what is at an entry, and that all else is as before.
use Rattle.std.proofs.Common.{◌≡◌, ◌≢◌, ℕ, zero, suc, ◌+◌, ◌*◌, ◌^◌, ◌%◌, ◌/◌, ◌<◌, ◌&&◌, Bool, true, false, cond, bytes_eq, List, [], ◌∷◌, ◌++◌, length, take, drop, Option, Some, None, refl, sym, ◌∙◌, ap, ap₂, subst, arith}
use Rattle.std.specs.Prelude.{slice_get}
use Rattle.std.proofs.lemmas.Bool.{true≢false, and_parts, and_from}
use Rattle.std.proofs.lemmas.Slice.Eq.{bytes_eq-Decides}
use Rattle.lemmas.proofs.Texts.{bytes_eq-same}
use Rattle.spec_run.specs.Setting.{Setting}
use Rattle.law_counting.specs.Counting.{IsTable, at, put}
use Rattle.law_counting.proofs.Lines.{put_table, at_other}
use Rattle.law_uses.specs.Unasked.{DifferAt}
use Rattle.law_rarity.specs.Tables.{Entry, key_of_entry, message_of, bytes_of, tabled}
use Rattle.law_rarity.proofs.Asked.{IsClose}

-- Numbers as bytes.

abbrev pub number : List ℕ → ℕ
number [] = 0
number (b ∷ bs) = b + 256 * number bs

number_back : (n v : ℕ) → v < 256 ^ n → number (bytes_of n v) ≡ v
number_back zero v lt = omega (arith, lt, Rattle.std.proofs.Math.Nat.pow-zero 256)
number_back (suc n) v lt =
    let p : 256 ^ suc n ≡ 256 * 256 ^ n = Rattle.std.proofs.Math.Nat.pow-suc 256 n ∙ omega arith in
    let r = number_back n (v / 256) (low v (256 ^ n) (subst (λ (z : ℕ). v < z) p lt)) in
    ap (λ (z : ℕ). v % 256 + 256 * z) r ∙ omega arith
  where
    low : (v m : ℕ) → v < 256 * m → v / 256 < m
    low v m lt = omega (arith, lt)

pub number_of : (v : ℕ) → v < 2 ^ 128 → number (bytes_of 16 v) ≡ v
number_of v lt = number_back 16 v lt

pub bytes_long : (n v : ℕ) → length (bytes_of n v) ≡ n
bytes_long zero v = refl
bytes_long (suc n) v = ap suc (bytes_long n (v / 256))

pub first_sixteen : (v : ℕ) (rest : List ℕ) → take 16 (bytes_of 16 v ++ rest) ≡ bytes_of 16 v
first_sixteen v rest = refl

-- Whether an entry has a key and a message.

abbrev pub has : Setting → Entry → List ℕ → List ℕ → Bool
has set e key message = bytes_eq key (key_of_entry set e) && bytes_eq message (message_of e)

pub has_parts : (set : Setting) (e : Entry) (key message : List ℕ) → has set e key message ≡ true → (key ≡ key_of_entry set e) × (message ≡ message_of e)
has_parts set e key message h =
    let p = and_parts (bytes_eq key (key_of_entry set e)) (bytes_eq message (message_of e)) h in
    ((bytes_eq-Decides key (key_of_entry set e)).0 p.0, (bytes_eq-Decides message (message_of e)).0 p.1)

pub has_from : (set : Setting) (e : Entry) (key message : List ℕ) → key ≡ key_of_entry set e → message ≡ message_of e → has set e key message ≡ true
has_from set e key message k m =
    and_from (bytes_eq key (key_of_entry set e)) (bytes_eq message (message_of e))
    (ap (bytes_eq key) (sym k) ∙ bytes_eq-same key) (ap (bytes_eq message) (sym m) ∙ bytes_eq-same message)

abbrev pub more : Option ℕ → Option ℕ
more None = None
more (Some i) = Some (suc i)

-- the first entry with this key and this message
abbrev pub index_of : Setting → List Entry → List ℕ → List ℕ → Option ℕ
index_of set [] key message = None
index_of set (e ∷ es) key message = cond (has set e key message) (Some 0) (more (index_of set es key message))

-- what is there
pub record Found (set : Setting) (es : List Entry) (key message : List ℕ) (i : ℕ) : Type 0 where
  pub entry : Entry
  pub there : slice_get es i ≡ Some entry
  pub key_is : key ≡ key_of_entry set entry
  pub message_is : message ≡ message_of entry
  pub low : i < length es

found_at : (set : Setting) (es : List Entry) (key message : List ℕ) (i : ℕ) → index_of set es key message ≡ Some i → Found set es key message i
found_at set [] key message i h = absurd cc
found_at set (e ∷ es) key message i h = by (has set e key message) refl (index_of set es key message) refl h (λ j f. found_at set es key message j f)
  where
    by : (b : Bool) → has set e key message ≡ b → (o : Option ℕ) → index_of set es key message ≡ o → cond b (Some 0) (more o) ≡ Some i
        → ((j : ℕ) → index_of set es key message ≡ Some j → Found set es key message j) → Found set (e ∷ es) key message i
    by true t o f q rec =
        let p = has_parts set e key message t in
        let z : 0 ≡ i = cc in
        subst (λ (k : ℕ). Found set (e ∷ es) key message k) z (record { entry = e; there = refl; key_is = p.0; message_is = p.1; low = omega arith })
    by false t None f q rec = absurd cc
    by false t (Some j) f q rec =
        let r = rec j f in
        let z : suc j ≡ i = cc in
        let low = r.low in
        subst (λ (k : ℕ). Found set (e ∷ es) key message k) z (record { entry = r.entry; there = r.there; key_is = r.key_is; message_is = r.message_is; low = omega (arith, low) })

pub index_there : (set : Setting) (es : List Entry) (key message : List ℕ) (i : ℕ) (e : Entry) → slice_get es i ≡ Some e → has set e key message ≡ true
    → (j : ℕ) × (index_of set es key message ≡ Some j)
index_there set [] key message i e g h = absurd cc
index_there set (x ∷ es) key message i e g h = by (has set x key message) refl i g (λ k f. index_there set es key message k e f h)
  where
    by : (b : Bool) → has set x key message ≡ b → (i : ℕ) → slice_get (x ∷ es) i ≡ Some e → ((k : ℕ) → slice_get es k ≡ Some e → (j : ℕ) × (index_of set es key message ≡ Some j))
        → (j : ℕ) × (cond (has set x key message) (Some 0) (more (index_of set es key message)) ≡ Some j)
    by true t i g rec = (0, ap (λ (b : Bool). cond b (Some 0) (more (index_of set es key message))) t)
    by false t zero g rec = absurd (true≢false (sym h ∙ ap (λ (z : Entry). has set z key message) (sym (Rattle.spec_run.proofs.tie.Lists.some_inj x e g)) ∙ t))
    by false t (suc i) g rec =
        let r = rec i g in
        (suc r.0, ap (λ (b : Bool). cond b (Some 0) (more (index_of set es key message))) t ∙ ap more r.1)

module _ (set : Setting) where
  pub index_found : (es : List Entry) (key message : List ℕ) (i : ℕ) → index_of set es key message ≡ Some i → Found set es key message i
  index_found es key message i h = found_at set es key message i h

  -- the tag at an entry
  pub tag_at : (es : List Entry) (w : ℕ) (t : List ℕ) → IsTable (length es) w t → (key message : List ℕ) (i : ℕ) → index_of set es key message ≡ Some i
      → tabled set es t key message ≡ bytes_of 16 (at t i) ++ drop 16 (set.mac key message)
  tag_at [] w t table key message i h = absurd cc
  tag_at (e ∷ es) w [] table key message i h = absurd table
  tag_at (e ∷ es) w (v ∷ t) table key message i h = by (has set e key message) (index_of set es key message) refl h (λ j f. tag_at es w t table.1 key message j f)
    where
      by : (b : Bool) (o : Option ℕ) → index_of set es key message ≡ o → cond b (Some 0) (more o) ≡ Some i
          → ((j : ℕ) → index_of set es key message ≡ Some j → tabled set es t key message ≡ bytes_of 16 (at t j) ++ drop 16 (set.mac key message))
          → cond b (bytes_of 16 v ++ drop 16 (set.mac key message)) (tabled set es t key message) ≡ bytes_of 16 (at (v ∷ t) i) ++ drop 16 (set.mac key message)
      by true o f q rec = let z : 0 ≡ i = cc in ap (λ (k : ℕ). bytes_of 16 (at (v ∷ t) k) ++ drop 16 (set.mac key message)) z
      by false None f q rec = absurd cc
      by false (Some j) f q rec =
          let z : suc j ≡ i = cc in
          rec j f ∙ ap (λ (k : ℕ). bytes_of 16 (at (v ∷ t) k) ++ drop 16 (set.mac key message)) z

  -- with another number at an entry, all other tags are the same
  put_others : (es : List Entry) (t : List ℕ) (i v : ℕ) (e : Entry) → slice_get es i ≡ Some e → (key message : List ℕ)
      → (key ≡ key_of_entry set e → message ≡ message_of e → ⊥) → tabled set es t key message ≡ tabled set es (put t i v) key message
  put_others [] t i v e g key message ne = refl
  put_others (x ∷ es) [] i v e g key message ne = refl
  put_others (x ∷ es) (u ∷ t) zero v e g key message ne =
      let none : has set x key message ≡ false = by (has set x key message) refl in
      ap (λ (b : Bool). cond b (bytes_of 16 u ++ drop 16 (set.mac key message)) (tabled set es t key message)) none
      ∙ sym (ap (λ (b : Bool). cond b (bytes_of 16 v ++ drop 16 (set.mac key message)) (tabled set es t key message)) none)
    where
      by : (b : Bool) → has set x key message ≡ b → has set x key message ≡ false
      by true f =
          let p = has_parts set x key message f in
          let s = Rattle.spec_run.proofs.tie.Lists.some_inj x e g in
          absurd (ne (p.0 ∙ ap (key_of_entry set) s) (p.1 ∙ ap message_of s))
      by false f = f
  put_others (x ∷ es) (u ∷ t) (suc i) v e g key message ne =
      ap (λ (z : List ℕ). cond (has set x key message) (bytes_of 16 u ++ drop 16 (set.mac key message)) z) (put_others es t i v e g key message ne)

  put_long : (es : List Entry) (t : List ℕ) (i v : ℕ) (key message : List ℕ) → length (tabled set es t key message) ≡ length (tabled set es (put t i v) key message)
  put_long [] t i v key message = refl
  put_long (x ∷ es) [] i v key message = refl
  put_long (x ∷ es) (u ∷ t) zero v key message = by (has set x key message)
    where
      by : (b : Bool) → length (cond b (bytes_of 16 u ++ drop 16 (set.mac key message)) (tabled set es t key message))
          ≡ length (cond b (bytes_of 16 v ++ drop 16 (set.mac key message)) (tabled set es t key message))
      by true = refl
      by false = refl
  put_long (x ∷ es) (u ∷ t) (suc i) v key message = by (has set x key message) (put_long es t i v key message)
    where
      by : (b : Bool) → length (tabled set es t key message) ≡ length (tabled set es (put t i v) key message)
          → length (cond b (bytes_of 16 u ++ drop 16 (set.mac key message)) (tabled set es t key message))
          ≡ length (cond b (bytes_of 16 u ++ drop 16 (set.mac key message)) (tabled set es (put t i v) key message))
      by true h = refl
      by false h = h

  -- a table changes no message but those over `T`
  pub tabled_others : (es : List Entry) (t : List ℕ) (key : List ℕ) (kind : ℕ) (rest : List ℕ) → kind ≢ 0x54 → tabled set es t key (kind ∷ rest) ≡ set.mac key (kind ∷ rest)
  tabled_others [] t key kind rest ne = refl
  tabled_others (e ∷ es) [] key kind rest ne = refl
  tabled_others (e ∷ es) (v ∷ t) key kind rest ne = by (has set e key (kind ∷ rest)) refl (tabled_others es t key kind rest ne)
    where
      head_of : List ℕ → ℕ
      head_of [] = 0
      head_of (x ∷ xs) = x

      by : (b : Bool) → has set e key (kind ∷ rest) ≡ b → tabled set es t key (kind ∷ rest) ≡ set.mac key (kind ∷ rest) → cond b (bytes_of 16 v ++ drop 16 (set.mac key (kind ∷ rest))) (tabled set es t key (kind ∷ rest)) ≡ set.mac key (kind ∷ rest)
      by true f h = absurd (ne (ap head_of (has_parts set e key (kind ∷ rest) f).1))
      by false f h = h

  pub put_close : (es : List Entry) (t : List ℕ) (i v : ℕ) → IsClose (tabled set es t) (tabled set es (put t i v))
  put_close es t i v = record {
    others = λ key kind rest ne. tabled_others es t key kind rest ne ∙ sym (tabled_others es (put t i v) key kind rest ne);
    size = λ key message. put_long es t i v key message;
  }

  pub put_differs : (es : List Entry) (t : List ℕ) (i v : ℕ) (e : Entry) → slice_get es i ≡ Some e
      → DifferAt (tabled set es t) (tabled set es (put t i v)) (key_of_entry set e) e.rest
  put_differs es t i v e there = record {
    others = λ key message ne. put_others es t i v e there key message ne;
    size = put_long es t i v (key_of_entry set e) (message_of e);
  }

  -- where another entry before it has its key and its message, its number shows in nothing
  pub put_unused : (es : List Entry) (w : ℕ) (t : List ℕ) (i v : ℕ) → IsTable (length es) w t → v < w → (e : Entry) → slice_get es i ≡ Some e
      → (k : ℕ) → index_of set es (key_of_entry set e) (message_of e) ≡ Some k → (k ≡ i → ⊥)
      → (key message : List ℕ) → tabled set es t key message ≡ tabled set es (put t i v) key message
  put_unused es w t i v table wide e there k first ne key message = by (has set e key message) refl
    where
      by : (b : Bool) → has set e key message ≡ b → tabled set es t key message ≡ tabled set es (put t i v) key message
      by true f =
          let p = has_parts set e key message f in
          let here : index_of set es key message ≡ Some k = ap₂ (λ (x y : List ℕ). index_of set es x y) p.0 p.1 ∙ first in
          tag_at es w t table key message k here
          ∙ ap (λ (z : ℕ). bytes_of 16 z ++ drop 16 (set.mac key message)) (sym (at_other t k i v ne))
          ∙ sym (tag_at es w (put t i v) (put_table (length es) w t i v table wide) key message k here)
      by false f = put_others es t i v e there key message (λ x y. absurd (true≢false (sym (has_from set e key message x y) ∙ f)))
