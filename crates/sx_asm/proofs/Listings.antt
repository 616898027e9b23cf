-- Listings are assembled to their bytes.
use Rattle.std.proofs.Common.{◌≡◌, ◌≢◌, ℕ, zero, suc, ◌+◌, ◌-◌, ◌*◌, ◌/◌, ◌%◌, ◌<◌, ◌≤◌, min, Bool, true, false, List, [], ◌∷◌, ◌++◌, length, take, drop, refl}
use Rattle.std.proofs.Common.{sym, ap, ◌∙◌, subst, arith, Some, None, length-append, length-drop, length-take}
use Rattle.std.specs.Prelude.{◌==◌, nat_lt, nat_le, Option, Result, Ok, slice_index}
use Rattle.std.specs.List.{list_all}
use Rattle.std.proofs.lemmas.Bool.Decides.{nat_tests}
use Rattle.std.proofs.lemmas.Bool.{and_from}
use Rattle.sx_isa.specs.declared.instruction.Instr.{Instr}
use Rattle.sx_isa.specs.declared.instruction.Instr.TheVariants as instr
use Rattle.sx_isa.specs.Reading.{instruction_at}
use Rattle.sx_isa.specs.Spelling.{spelling}
use Rattle.sx_isa.proofs.Agreement.{reading_found}
use Rattle.sx_asm.specs.declared.written.Item.{Item}
use Rattle.sx_asm.specs.declared.written.Entry.{Entry}
use Rattle.sx_asm.specs.declared.written.Label.{Label as Placed}
use Rattle.sx_asm.specs.declared.error.AsmError.{AsmError}
use Rattle.sx_asm.specs.Tokens.{tokens_of}
use Rattle.sx_asm.specs.Reading.{◌>>=◌, is_newline, parts, onto_first, taken, items_of, line_fits, read_lines, read}
use Rattle.sx_asm.specs.Meaning.{further, size, labels_of, bytes_of, code_of}
use Rattle.sx_asm.specs.Assembled.{formed, named, reached, fitted, stands, code_with, code_or_fault, assembled}
use Rattle.sx_asm.specs.Shown.{word_text, word_from, line_of, listed}
use Rattle.sx_asm.specs.Listing.{listing}
use Rattle.sx_asm.specs.Laws.{EachByte}
use Rattle.sx_asm.proofs.Parts.{no}
use Rattle.sx_asm.proofs.Lines.{taken_more}
use Rattle.sx_asm.proofs.ShownOperands.{is_inner}
use Rattle.sx_asm.proofs.Reassembles.{Lined, lined, word_lined, lined_again, all_pass}

-- Bytes and words.

pub byte_at : (bytes : List ℕ) (k : ℕ) → EachByte bytes → slice_index bytes k < 256
byte_at [] zero h = omega arith
byte_at [] (suc k) h = omega arith
byte_at (b ∷ bs) zero h = h.0
byte_at (b ∷ bs) (suc k) h = byte_at bs k h.1

word_word : (bytes : List ℕ) (k : ℕ) → EachByte bytes → word_from bytes k < 65536
word_word bytes k h = by_test (nat_le (k + 2) (length bytes)) refl
  where
    by_test : (t : Bool) → nat_le (k + 2) (length bytes) ≡ t → word_from bytes k < 65536
    by_test true e = rw e (omega (arith, byte_at bytes k h, byte_at bytes (k + 1) h))
    by_test false e = rw e (omega arith)

pub bytes_length : (ws : List ℕ) → length (bytes_of ws) ≡ 2 * length ws
bytes_length [] = refl
bytes_length (w ∷ ws) = omega (arith, bytes_length ws)

drop_bytes : (n : ℕ) (bytes : List ℕ) → EachByte bytes → EachByte (drop n bytes)
drop_bytes zero bytes h = h
drop_bytes (suc n) [] h = tt
drop_bytes (suc n) (b ∷ bs) h = drop_bytes n bs h.1

joined : (n : ℕ) (bytes : List ℕ) → take n bytes ++ drop n bytes ≡ bytes
joined zero bytes = refl
joined (suc n) [] = refl
joined (suc n) (b ∷ bs) = ap (λ (t : List ℕ). b ∷ t) (joined n bs)

two_bytes : (a b w : ℕ) (ws : List ℕ) → a < 256 → b < 256 → w ≡ a + 256 * b → bytes_of (w ∷ ws) ≡ a ∷ b ∷ bytes_of ws
two_bytes a b w ws h k e =
    let x : w % 256 ≡ a = omega (arith, h, k, e) in
    let y : w / 256 % 256 ≡ b = omega (arith, h, k, e) in
    rw (x, y) refl

word_here : (bytes : List ℕ) (k : ℕ) → k + 2 ≤ length bytes → word_from bytes k ≡ slice_index bytes k + 256 * slice_index bytes (k + 1)
word_here bytes k h = let e : nat_le (k + 2) (length bytes) ≡ true = grind (arith, nat_tests, h) in rw e refl

some_words : (i : Instr) → 1 ≤ length (spelling i)
some_words (instr.Two op byte src dst) = omega arith
some_words (instr.One op byte arg) = omega arith
some_words instr.Reti = omega arith
some_words (instr.Jump cond o) = omega arith
some_words (instr.Sancus code) = omega arith

-- the bytes of one to three words at the start
front_one : (bytes : List ℕ) → EachByte bytes → 2 ≤ length bytes → bytes_of (word_from bytes 0 ∷ []) ≡ take 2 bytes
front_one [] h l = absurd (omega (arith, l))
front_one (a ∷ []) h l = absurd (omega (arith, l))
front_one (a ∷ b ∷ bs) h l = two_bytes a b (word_from (a ∷ b ∷ bs) 0) [] h.0 h.1.0 (word_here (a ∷ b ∷ bs) 0 l)

front_two : (bytes : List ℕ) → EachByte bytes → 4 ≤ length bytes → bytes_of (word_from bytes 0 ∷ word_from bytes 2 ∷ []) ≡ take 4 bytes
front_two [] h l = absurd (omega (arith, l))
front_two (a ∷ []) h l = absurd (omega (arith, l))
front_two (a ∷ b ∷ []) h l = absurd (omega (arith, l))
front_two (a ∷ b ∷ c ∷ []) h l = absurd (omega (arith, l))
front_two (a ∷ b ∷ c ∷ d ∷ bs) h l =
    let bytes = a ∷ b ∷ c ∷ d ∷ bs in
    two_bytes a b (word_from bytes 0) (word_from bytes 2 ∷ []) h.0 h.1.0 (word_here bytes 0 (omega (arith, l)))
    ∙ ap (λ (t : List ℕ). a ∷ b ∷ t) (two_bytes c d (word_from bytes 2) [] h.1.1.0 h.1.1.1.0 (word_here bytes 2 l))

front_three : (bytes : List ℕ) → EachByte bytes → 6 ≤ length bytes
    → bytes_of (word_from bytes 0 ∷ word_from bytes 2 ∷ word_from bytes 4 ∷ []) ≡ take 6 bytes
front_three [] h l = absurd (omega (arith, l))
front_three (a ∷ []) h l = absurd (omega (arith, l))
front_three (a ∷ b ∷ []) h l = absurd (omega (arith, l))
front_three (a ∷ b ∷ c ∷ []) h l = absurd (omega (arith, l))
front_three (a ∷ b ∷ c ∷ d ∷ []) h l = absurd (omega (arith, l))
front_three (a ∷ b ∷ c ∷ d ∷ e ∷ []) h l = absurd (omega (arith, l))
front_three (a ∷ b ∷ c ∷ d ∷ e ∷ f ∷ bs) h l =
    let bytes = a ∷ b ∷ c ∷ d ∷ e ∷ f ∷ bs in
    two_bytes a b (word_from bytes 0) (word_from bytes 2 ∷ word_from bytes 4 ∷ []) h.0 h.1.0 (word_here bytes 0 (omega (arith, l)))
    ∙ ap (λ (t : List ℕ). a ∷ b ∷ t)
    (two_bytes c d (word_from bytes 2) (word_from bytes 4 ∷ []) h.1.1.0 h.1.1.1.0 (word_here bytes 2 (omega (arith, l)))
    ∙ ap (λ (t : List ℕ). c ∷ d ∷ t) (two_bytes e f (word_from bytes 4) [] h.1.1.1.1.0 h.1.1.1.1.1.0 (word_here bytes 4 l)))

front_words : (n : ℕ) (bytes : List ℕ) → EachByte bytes → 2 * n ≤ length bytes → 1 ≤ n → n ≤ 3
    → bytes_of (take n (word_from bytes 0 ∷ word_from bytes 2 ∷ word_from bytes 4 ∷ [])) ≡ take (2 * n) bytes
front_words n bytes h l s m = by_tests (n == 1) (n == 2) refl refl
  where
    by_tests : (t u : Bool) → (n == 1) ≡ t → (n == 2) ≡ u
        → bytes_of (take n (word_from bytes 0 ∷ word_from bytes 2 ∷ word_from bytes 4 ∷ [])) ≡ take (2 * n) bytes
    by_tests true u e f = let k : n ≡ 1 = grind (arith, nat_tests, e) in rw k (front_one bytes h (omega (arith, k, l)))
    by_tests false true e f = let k : n ≡ 2 = grind (arith, nat_tests, f) in rw k (front_two bytes h (omega (arith, k, l)))
    by_tests false false e f =
        let a : n ≢ 1 = grind (arith, nat_tests, e) in
        let b : n ≢ 2 = grind (arith, nat_tests, f) in
        let k : n ≡ 3 = omega (arith, a, b, s, m) in rw k (front_three bytes h (omega (arith, k, l)))

-- The first line.

record First (at : ℕ) (bytes : List ℕ) (line : List ℕ × ℕ) : Type 0 where
  ws : List ℕ
  is_line : Lined at line.0 ws
  bytes_are : bytes_of ws ≡ take line.1 bytes
  length_is : line.1 ≡ 2 * length ws
  within : line.1 ≤ length bytes
  some : 1 ≤ length ws

word_first : (at : ℕ) (bytes : List ℕ) → EachByte bytes → 2 ≤ length bytes → First at bytes (word_text (word_from bytes 0), 2)
word_first at bytes h l = record {
  ws = word_from bytes 0 ∷ [];
  is_line = word_lined (word_from bytes 0) at (word_word bytes 0 h);
  bytes_are = front_one bytes h l;
  length_is = refl;
  within = l;
  some = omega arith;
}

first_line : (at : ℕ) (bytes : List ℕ) → EachByte bytes → 2 ≤ length bytes → at % 2 ≡ 0 → First at bytes (listed at bytes)
unfolding listed
first_line at bytes h l even = by_reading (instruction_at (word_from bytes 0) (word_from bytes 2) (word_from bytes 4)) refl
  where
    by_reading : (f : Option (Instr × ℕ)) → instruction_at (word_from bytes 0) (word_from bytes 2) (word_from bytes 4) ≡ f → First at bytes (line_of at bytes f)
    by_reading None e = word_first at bytes h l
    by_reading (Some f) e = by_length (nat_le (2 * f.1) (length bytes)) refl
      where
        by_length : (t : Bool) → nat_le (2 * f.1) (length bytes) ≡ t → First at bytes (line_of at bytes (Some f))
        by_length false g = rw g (word_first at bytes h l)
        by_length true g =
            let begins = (reading_found (word_from bytes 0) (word_from bytes 2) (word_from bytes 4) f.1 f.0 (word_word bytes 0 h) (word_word bytes 2 h)
            (word_word bytes 4 h)).0 e in
            let long : 2 * f.1 ≤ length bytes = grind (arith, nat_tests, g) in
            let some : 1 ≤ f.1 = omega (arith, begins.1, some_words f.0) in
            let few : f.1 ≤ 3 =
            omega (arith, begins.1, ap length begins.2, length-take f.1 (word_from bytes 0 ∷ word_from bytes 2 ∷ word_from bytes 4 ∷ [])) in
            rw g
            (record {
              ws = spelling f.0;
              is_line = lined f.0 at begins.0 even;
              bytes_are = ap bytes_of (sym begins.2) ∙ front_words f.1 bytes h long some few;
              length_is = ap (λ (n : ℕ). 2 * n) begins.1;
              within = long;
              some = some_words f.0;
            })

pub relists_line : (bytes : List ℕ) (at : ℕ) → EachByte bytes → 2 ≤ length bytes → at % 2 ≡ 0 → at + length bytes ≤ 65536
    → assembled at (listed at bytes).0 ≡ Ok (take (listed at bytes).1 bytes)
relists_line bytes at h l even room =
    let f = first_line at bytes h l even in
    lined_again at (listed at bytes).0 f.ws f.is_line even (omega (arith, f.length_is, f.within, room))
    ∙ ap (λ (b : List ℕ). Ok b) f.bytes_are

-- A line before others.

parts_line : (line rest : List ℕ) → list_all is_inner line ≡ true → parts is_newline (line ++ (10 ∷ rest)) ≡ line ∷ parts is_newline rest
parts_line [] rest h = refl
parts_line (b ∷ bs) rest h = by_test (b == 10) refl (parts_line bs rest)
  where
    by_test : (t : Bool) → (b == 10) ≡ t → (list_all is_inner bs ≡ true → parts is_newline (bs ++ (10 ∷ rest)) ≡ bs ∷ parts is_newline rest)
        → parts is_newline (b ∷ (bs ++ (10 ∷ rest))) ≡ (b ∷ bs) ∷ parts is_newline rest
    by_test true e ih = no (rw e at h)
    by_test false e ih = rw e (ap (onto_first b) (ih (rw e at h)))

-- entries that stand for bytes
record Good (at : ℕ) (bytes : List ℕ) (es : List Entry) : Type 0 where
  formed_all : formed es ≡ Ok tt
  named_all : named [] 0 es ≡ Ok tt
  reached_all : reached [] at es ≡ Ok tt
  fitted_all : (room : ℕ) → length bytes ≤ room → fitted room es ≡ Ok tt
  no_labels : labels_of at es ≡ []
  code : code_of [] at es ≡ bytes

good_step : (at n : ℕ) (text ws bytes : List ℕ) (es : List Entry) (l : Lined at text ws) → Good (further at (2 * length ws)) bytes es
    → Good at (bytes_of ws ++ bytes) (record { line = n; item = l.item } ∷ es)
good_step at n text ws bytes es l g = record {
  formed_all = rw l.form g.formed_all;
  named_all = rw (l.known, l.no_count) g.named_all;
  reached_all = rw (l.reach, l.sized) g.reached_all;
  fitted_all = λ room h.
      let long : 2 * length ws + length bytes ≤ room = omega (arith, h, bytes_length ws, length-append (bytes_of ws) bytes) in
      let k : nat_le (size l.item) room ≡ true = (let m : size l.item ≤ room = omega (arith, l.sized, long) in grind (arith, nat_tests, m)) in
      rw k (g.fitted_all (room - size l.item) (omega (arith, l.sized, long)));
  no_labels = l.no_label (labels_of (further at (size l.item)) es) ∙ (rw l.sized g.no_labels);
  code = rw (l.meant, l.sized) (ap (λ (b : List ℕ). bytes_of ws ++ b) g.code);
}

record Reads (n left at : ℕ) (bytes text : List ℕ) : Type 0 where
  es : List Entry
  done : read_lines n left (parts is_newline text) ≡ Ok es
  good : Good at bytes es

empty_line : items_of [] ≡ Some []
unfolding tokens_of
empty_line = refl

reads_none : (n left at : ℕ) (bytes : List ℕ) → length bytes ≡ 0 → Reads n left at bytes []
reads_none n left at [] h =
    let k : line_fits left [] [] ≡ true = and_from (nat_le 0 4096) (nat_le 0 left) refl (grind (arith, nat_tests)) in
    record {
      es = [];
      done = rw (k, empty_line) refl;
      good = record { formed_all = refl; named_all = refl; reached_all = refl; fitted_all = λ room h. refl; no_labels = refl; code = refl };
    }
reads_none n left at (b ∷ bs) h = absurd (omega (arith, h))

read_next : (n left : ℕ) (line rest : List ℕ) (item : Item) (es : List Entry) → list_all is_inner line ≡ true → length line ≤ 4096
    → length line + 1 ≤ left → items_of line ≡ Some (item ∷ []) → read_lines (n + 1) (left - (length line + 1)) (parts is_newline rest) ≡ Ok es
    → read_lines n left (parts is_newline (line ++ (10 ∷ rest))) ≡ Ok (record { line = n; item = item } ∷ es)
read_next n left line rest item es inner short fits says done =
    let t : taken line (parts is_newline rest) ≤ left = omega (arith, taken_more line rest, fits) in
    let k : line_fits left line (parts is_newline rest) ≡ true =
    and_from (nat_le (length line) 4096) (nat_le (taken line (parts is_newline rest)) left) (grind (arith, nat_tests, short)) (grind (arith, nat_tests, t)) in
    let d : read_lines (n + 1) (left - taken line (parts is_newline rest)) (parts is_newline rest) ≡ Ok es =
    ap (λ (m : ℕ). read_lines (n + 1) (left - m) (parts is_newline rest)) (sym (taken_more line rest)) ∙ done in
    ap (read_lines n left) (parts_line line rest inner) ∙ (rw (k, says, d) refl)

listing_reads : (k at : ℕ) (bytes : List ℕ) → length bytes ≤ k → EachByte bytes → length bytes % 2 ≡ 0 → at % 2 ≡ 0
    → (n left : ℕ) → 63 * length bytes ≤ 2 * left → Reads n left at bytes (listing k at bytes)
listing_reads zero at bytes l h e even n left room = reads_none n left at bytes (omega (arith, l))
listing_reads (suc k) at bytes l h e even n left room = by_test (nat_lt (length bytes) 2) refl (listing_reads k)
  where
    by_test : (t : Bool) → nat_lt (length bytes) 2 ≡ t
        → ((at : ℕ) (bytes : List ℕ) → length bytes ≤ k → EachByte bytes → length bytes % 2 ≡ 0 → at % 2 ≡ 0
        → (n left : ℕ) → 63 * length bytes ≤ 2 * left → Reads n left at bytes (listing k at bytes))
        → Reads n left at bytes (listing (suc k) at bytes)
    by_test true f ih =
        let short : length bytes < 2 = grind (arith, nat_tests, f) in rw f (reads_none n left at bytes (omega (arith, short, e)))
    by_test false f ih =
        let long : 2 ≤ length bytes = grind (arith, nat_tests, f) in
        let line = listed at bytes in
        let first = first_line at bytes h long even in
        let text = first.is_line in
        let rest = drop line.1 bytes in
        let size_rest : length rest + line.1 ≡ length bytes = omega (arith, length-drop line.1 bytes, first.within) in
        let left_behind : 63 * length rest ≤ 2 * (left - (length line.0 + 1)) =
        omega (arith, room, size_rest, first.length_is, first.some, text.fine.1) in
        let more = ih (further at line.1) rest (omega (arith, size_rest, first.length_is, first.some, l)) (drop_bytes line.1 bytes h)
        (omega (arith, size_rest, first.length_is, e)) (omega (arith, first.length_is, even)) (n + 1) (left - (length line.0 + 1)) left_behind in
        let good : Good at (bytes_of first.ws ++ rest) (record { line = n; item = text.item } ∷ more.es) =
        (let Q : ℕ → Type 0 = λ m. Good (further at m) rest more.es in
        good_step at n line.0 first.ws rest more.es text (subst Q first.length_is more.good)) in
        let whole : bytes_of first.ws ++ rest ≡ bytes = ap (λ (b : List ℕ). b ++ rest) first.bytes_are ∙ joined line.1 bytes in
        let P : List ℕ → Type 0 = λ b. Good at b (record { line = n; item = text.item } ∷ more.es) in
        rw f
        (record {
          es = record { line = n; item = text.item } ∷ more.es;
          done =
              read_next n left line.0 (listing k (further at line.1) rest) text.item more.es text.fine.0 (omega (arith, text.fine.1))
              (omega (arith, room, size_rest, first.length_is, first.some, text.fine.1)) text.says more.done;
          good = subst P whole good;
        })

whole_read : (text : List ℕ) (es : List Entry) → read_lines 1 262144 (parts is_newline text) ≡ Ok es → read text ≡ Ok es
unfolding read
whole_read text es h = h

code_good : (at : ℕ) (bytes : List ℕ) (es : List Entry) → Good at bytes es → at % 2 ≡ 0 → length bytes ≤ 8192 → at + length bytes ≤ 65536
    → code_or_fault at es ≡ Ok bytes
code_good at bytes es g even small room =
    let z : (at % 2 == 0) ≡ true = rw even refl in
    let s : stands at es ≡ Ok tt = rw z (g.fitted_all (min 8192 (65536 - at)) (omega (arith, small, room))) in
    ap (λ (ls : List Placed). code_with ls at es) g.no_labels
    ∙ all_pass (formed es) (named [] 0 es) (reached [] at es) (stands at es) (code_of [] at es) g.formed_all g.named_all g.reached_all s
    ∙ ap (λ (b : List ℕ). Ok b) g.code

pub relists_listing : (bytes : List ℕ) (at : ℕ) → EachByte bytes → length bytes % 2 ≡ 0 → length bytes ≤ 8192 → at % 2 ≡ 0 → at + length bytes ≤ 65536
    → assembled at (listing (length bytes) at bytes) ≡ Ok bytes
unfolding assembled
relists_listing bytes at h e small even room =
    let r = listing_reads (length bytes) at bytes (omega arith) h e even 1 262144 (omega (arith, small)) in
    ap (λ (t : Result (List Entry) AsmError). t >>= code_or_fault at) (whole_read (listing (length bytes) at bytes) r.es r.done)
    ∙ code_good at bytes r.es r.good even small room
