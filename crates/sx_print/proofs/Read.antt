-- The text of pieces is read as their words.
use Rattle.std.proofs.Common.{◌≡◌, ℕ, ◌<◌, Bool, true, false, ◌&&◌, ◌||◌, not, ◌==◌, List, [], ◌∷◌, ◌++◌, length, drop, nat_le, nat_lt, refl, sym, ap, subst, append_assoc, Some, arith}
use Rattle.std.specs.Fmt.{decimal}
use Rattle.std.specs.List.{list_all, list_any}
use Rattle.std.specs.Str.{IsUtf8}
use Rattle.std.proofs.lemmas.Str.{IsUtf8-from_ascii}
use Rattle.std.proofs.lemmas.Bool.Decides.{nat_tests}
use Rattle.std.proofs.Math.Seq.{drop-append_seam}
use Rattle.std.proofs.lemmas.Bool.{and_parts, not-true, or_right}
use Rattle.sx_lex.specs.declared.tokens.Kind.{Kind}
use Rattle.sx_lex.specs.declared.tokens.Kind.TheVariants.{Number, Name, Bang}
use Rattle.sx_lex.specs.declared.tokens.Place.{Place}
use Rattle.sx_lex.specs.declared.tokens.Placed.{Placed}
use Rattle.sx_lex.specs.Words.{kind_of, is_name, is_lower, is_digit, is_decimal_digit, IsLongest}
use Rattle.sx_lex.specs.Progress.{first_is}
use Rattle.sx_lex.specs.Lexed.{along, below, Lexed, at_end, space, newline, token}
use Rattle.sx_lex.proofs.Found.{digit_is_decimal}
use Rattle.spec_grammar.specs.Tokens as grammar
use Rattle.spec_grammar.specs.Tokens.{Token, given_tokens}
use Rattle.sx_print.specs.declared.words.Gap.{Gap}
use Rattle.sx_print.specs.declared.words.Gap.TheVariants.{Nothing, Space, Line}
use Rattle.sx_print.specs.Printable.{is_plain}
use Rattle.sx_print.specs.Pieces.{Piece, name, number, quoted, indent, spelling, gap_bytes, piece_bytes, text_of}
use Rattle.sx_print.specs.Written.{are_short}
use Rattle.sx_print.proofs.Lone.{is_lone, some_word, longest, longest_not}
use Rattle.sx_print.proofs.Spelled.{is_quoted, is_ascii, ascii, quoted_kind, quoted_ascii, name_kind, name_ascii, number_kind, number_ascii, number_digits}

abbrev pub tokens_of : List Piece → List Token
tokens_of [] = []
tokens_of (name x g ∷ ps) = grammar.token (Name x) true ∷ tokens_of ps
tokens_of (number n g ∷ ps) = grammar.token (Number n) true ∷ tokens_of ps
tokens_of (quoted k g ∷ ps) = grammar.token k true ∷ tokens_of ps
tokens_of (indent ∷ ps) = tokens_of ps

-- the next piece begins with a byte that ends each word
abbrev pub starts_lone : List Piece → Bool
starts_lone [] = false
starts_lone (name x g ∷ ps) = false
starts_lone (number n g ∷ ps) = false
starts_lone (quoted k g ∷ ps) = first_is is_lone (spelling k)
starts_lone (indent ∷ ps) = false

abbrev pub ends_word : Gap → List Piece → Bool
ends_word Nothing ps = starts_lone ps
ends_word Space ps = true
ends_word Line ps = true

-- the next piece begins an operand
abbrev pub is_operand : List Piece → Bool
is_operand [] = false
is_operand (name x g ∷ ps) = true
is_operand (number n g ∷ ps) = true
is_operand (quoted k g ∷ ps) = is_quoted k && not (first_is (λ b. b == 61) (spelling k))
is_operand (indent ∷ ps) = false

-- each name is one, and each word ends where its piece does
pub data Good : List Piece → Type 0 where
  nothing : Good []
  good_name : {x : List ℕ} {g : Gap} {ps : List Piece} → is_plain x ≡ true → ends_word g ps ≡ true → Good ps → Good (name x g ∷ ps)
  good_number : {n : ℕ} {g : Gap} {ps : List Piece} → ends_word g ps ≡ true → Good ps → Good (number n g ∷ ps)
  good_word : {k : Kind} {g : Gap} {ps : List Piece} → is_quoted k ≡ true → (list_any is_lone (spelling k) || ends_word g ps) ≡ true → Good ps → Good (quoted k g ∷ ps)
  good_not : {ps : List Piece} → is_operand ps ≡ true → Good ps → Good (quoted Bang Nothing ∷ ps)
  good_indent : {ps : List Piece} → Good ps → Good (indent ∷ ps)

-- from this place on the text has these tokens
pub record Reads (at : Place) (text : List ℕ) (ks : List Token) : Type 0 where
  pub tokens : List Placed
  pub end : Place
  pub lexed : Lexed at text tokens end
  pub same : given_tokens tokens ≡ ks

first-append : (sort : ℕ → Bool) (w rest : List ℕ) → first_is sort w ≡ true → first_is sort (w ++ rest) ≡ true
first-append sort [] rest h = absurd (cc)
first-append sort (b ∷ w) rest h = h

starts : (ps : List Piece) → starts_lone ps ≡ true → first_is is_lone (text_of ps) ≡ true
starts [] h = absurd (cc)
starts (name x g ∷ ps) h = absurd (cc)
starts (number n g ∷ ps) h = absurd (cc)
starts (quoted k g ∷ ps) h = first-append is_lone (spelling k ++ gap_bytes g) (text_of ps) (first-append is_lone (spelling k) (gap_bytes g) h)
starts (indent ∷ ps) h = absurd (cc)

ends : (g : Gap) (ps : List Piece) → ends_word g ps ≡ true → first_is is_lone (gap_bytes g ++ text_of ps) ≡ true
ends Nothing ps h = starts ps h
ends Space ps h = refl
ends Line ps h = refl

or_ends : (t : Bool) (g : Gap) (ps : List Piece) → (t || ends_word g ps) ≡ true → (t || first_is is_lone (gap_bytes g ++ text_of ps)) ≡ true
or_ends true g ps h = refl
or_ends false g ps h = ends g ps h

gap_read : (g : Gap) (text : List ℕ) (ks : List Token) (at : Place) → ((at : Place) → Reads at text ks) → Reads at (gap_bytes g ++ text) ks
gap_read Nothing text ks at h = h at
gap_read Space text ks at h = let r = h (along at 1) in
    record { tokens = r.tokens; end = r.end; lexed = space {at = at} {end = r.end} {b = 32} {bs = text} {ts = r.tokens} refl r.lexed; same = r.same }
gap_read Line text ks at h = let r = h (below at) in record { tokens = r.tokens; end = r.end; lexed = newline {at = at} {end = r.end} {bs = text} {ts = r.tokens} r.lexed; same = r.same }

-- a word of this length and its gap, and then the rest
word_read : (w : List ℕ) (k : Kind) (g : Gap) (text : List ℕ) (ks : List Token) (at : Place) → IsLongest (w ++ (gap_bytes g ++ text)) (length w) k → ((at : Place) → Reads at text ks)
    → Reads at ((w ++ gap_bytes g) ++ text) (grammar.token k true ∷ ks)
word_read w k g text ks at l rest =
    let behind = gap_bytes g ++ text in
    let r = gap_read g text ks (along at (length w)) rest in
    let d : Lexed (along at (length w)) (drop (length w) (w ++ behind)) r.tokens r.end = subst (λ bs. Lexed (along at (length w)) bs r.tokens r.end) (sym (drop-append_seam w behind)) r.lexed in
    let t : Lexed at (w ++ behind) (record { kind = k; place = at } ∷ r.tokens) r.end = token {at = at} {end = r.end} {n = length w} {bs = w ++ behind} {k = k} {ts = r.tokens} l d in
    record {
      tokens = record { kind = k; place = at } ∷ r.tokens;
      end = r.end;
      lexed = subst (λ bs. Lexed at bs (record { kind = k; place = at } ∷ r.tokens) r.end) (sym (append_assoc w (gap_bytes g) text)) t;
      same = ap (λ ts. grammar.token k true ∷ ts) r.same;
    }

longest_word : (w : List ℕ) (k : Kind) (g : Gap) (ps : List Piece) → kind_of w ≡ Some k → (list_any is_lone w || ends_word g ps) ≡ true → IsLongest (w ++ (gap_bytes g ++ text_of ps)) (length w) k
longest_word w k g ps e h = longest w (gap_bytes g ++ text_of ps) k e (or_ends (list_any is_lone w) g ps h)

indent_read : (text : List ℕ) (ks : List Token) (at : Place) → ((at : Place) → Reads at text ks) → Reads at (piece_bytes indent ++ text) ks
indent_read text ks at h = gap_read Space (32 ∷ 32 ∷ 32 ∷ text) ks at (λ at. gap_read Space (32 ∷ 32 ∷ text) ks at (λ at. gap_read Space (32 ∷ text) ks at (λ at. gap_read Space text ks at h)))

-- an operand doesn't begin with `=`

first_byte : (sort : ℕ → Bool) (w rest : List ℕ) → 0 < length w → first_is sort w ≡ false → first_is sort (w ++ rest) ≡ false
first_byte sort [] rest l h = absurd (omega (arith, l))
first_byte sort (b ∷ w) rest l h = h

plain_start : (x : List ℕ) → is_name x ≡ true → first_is (λ b. b == 61) x ≡ false
plain_start [] h = refl
plain_start (b ∷ x) h = let l : is_lower b ≡ true = (and_parts _ _ h).0 in grind (arith, nat_tests, l)

number_start : (ds : List ℕ) → list_all (is_digit 10) ds ≡ true → first_is (λ b. b == 61) ds ≡ false
number_start [] h = refl
number_start (b ∷ ds) h = let l : is_decimal_digit b ≡ true = digit_is_decimal b (and_parts _ _ h).0 in grind (arith, nat_tests, l)

-- also with its gap and the rest after it
start_read : (w : List ℕ) (k : Kind) (g : Gap) (rest : List ℕ) → kind_of w ≡ Some k → first_is (λ b. b == 61) w ≡ false → first_is (λ b. b == 61) ((w ++ gap_bytes g) ++ rest) ≡ false
start_read w k g rest e h =
    let l = some_word w k e in
    rw (append_assoc w (gap_bytes g) rest) (first_byte (λ b. b == 61) w (gap_bytes g ++ rest) l h)

operand_start : {ps : List Piece} → Good ps → are_short ps ≡ true → is_operand ps ≡ true → first_is (λ b. b == 61) (text_of ps) ≡ false
operand_start nothing s o = absurd (cc)
operand_start (good_name {x = x} {g = g} {ps = ps} p e h) s o = start_read x (Name x) g (text_of ps) (name_kind x p) (plain_start x (and_parts _ _ p).0)
operand_start (good_number {n = n} {g = g} {ps = ps} e h) s o =
    let l : nat_le n 65535 ≡ true = (and_parts _ _ s).0 in
    start_read (decimal n) (Number n) g (text_of ps) (number_kind n l) (number_start (decimal n) (number_digits n l).all)
operand_start (good_word {k = k} {g = g} {ps = ps} q e h) s o =
    start_read (spelling k) k g (text_of ps) (quoted_kind k q) (not-true (first_is (λ b. b == 61) (spelling k)) (and_parts (is_quoted k) _ o).1)
operand_start (good_not o h) s p = refl
operand_start (good_indent h) s o = absurd (cc)

pub pieces_read : {ps : List Piece} (at : Place) → Good ps → are_short ps ≡ true → Reads at (text_of ps) (tokens_of ps)
pieces_read at nothing s = record { tokens = []; end = at; lexed = at_end {at = at}; same = refl }
pieces_read at (good_name {x = x} {g = g} {ps = ps} p e h) s =
    word_read x (Name x) g (text_of ps) (tokens_of ps) at (longest_word x (Name x) g ps (name_kind x p) (or_right (list_any is_lone x) (ends_word g ps) e)) (λ at. pieces_read at h s)
pieces_read at (good_number {n = n} {g = g} {ps = ps} e h) s =
    let l : nat_le n 65535 ≡ true = (and_parts _ _ s).0 in
    let t : are_short ps ≡ true = (and_parts (nat_le n 65535) _ s).1 in
    word_read (decimal n) (Number n) g (text_of ps) (tokens_of ps) at
    (longest_word (decimal n) (Number n) g ps (number_kind n l) (or_right (list_any is_lone (decimal n)) (ends_word g ps) e)) (λ at. pieces_read at h t)
pieces_read at (good_word {k = k} {g = g} {ps = ps} q e h) s =
    word_read (spelling k) k g (text_of ps) (tokens_of ps) at (longest_word (spelling k) k g ps (quoted_kind k q) e) (λ at. pieces_read at h s)
pieces_read at (good_not {ps = ps} o h) s = word_read (spelling Bang) Bang Nothing (text_of ps) (tokens_of ps) at (longest_not (text_of ps) (operand_start h s o)) (λ at. pieces_read at h s)
pieces_read at (good_indent {ps = ps} h) s = indent_read (text_of ps) (tokens_of ps) at (λ at. pieces_read at h s)

-- The text is of ASCII.

all-append : (f : ℕ → Bool) (xs ys : List ℕ) → list_all f xs ≡ true → list_all f ys ≡ true → list_all f (xs ++ ys) ≡ true
all-append f [] ys h e = e
all-append f (x ∷ xs) ys h e =
    let l : f x ≡ true = (and_parts _ _ h).0 in
    let r : list_all f (xs ++ ys) ≡ true = all-append f xs ys (and_parts (f x) _ h).1 e in
    rw (l, r) refl

gap_ascii : (g : Gap) → is_ascii (gap_bytes g) ≡ true
gap_ascii Nothing = refl
gap_ascii Space = refl
gap_ascii Line = refl

word_ascii : (w : List ℕ) (g : Gap) (rest : List ℕ) → is_ascii w ≡ true → is_ascii rest ≡ true → is_ascii ((w ++ gap_bytes g) ++ rest) ≡ true
word_ascii w g rest h e = all-append (λ b. nat_lt b 128) (w ++ gap_bytes g) rest (all-append (λ b. nat_lt b 128) w (gap_bytes g) h (gap_ascii g)) e

pieces_ascii : {ps : List Piece} → Good ps → are_short ps ≡ true → is_ascii (text_of ps) ≡ true
pieces_ascii nothing s = refl
pieces_ascii (good_name {x = x} {g = g} {ps = ps} p e h) s = word_ascii x g (text_of ps) (name_ascii x p) (pieces_ascii h s)
pieces_ascii (good_number {n = n} {g = g} {ps = ps} e h) s = word_ascii (decimal n) g (text_of ps) (number_ascii n (and_parts _ _ s).0) (pieces_ascii h (and_parts (nat_le n 65535) _ s).1)
pieces_ascii (good_word {k = k} {g = g} {ps = ps} q e h) s = word_ascii (spelling k) g (text_of ps) (quoted_ascii k) (pieces_ascii h s)
pieces_ascii (good_not {ps = ps} o h) s = word_ascii (spelling Bang) Nothing (text_of ps) refl (pieces_ascii h s)
pieces_ascii (good_indent {ps = ps} h) s = let r : is_ascii (text_of ps) ≡ true = pieces_ascii h s in r

pub pieces_utf8 : {ps : List Piece} → Good ps → are_short ps ≡ true → IsUtf8 (text_of ps)
pieces_utf8 {ps = ps} h s = IsUtf8-from_ascii (text_of ps) (ascii (text_of ps) (pieces_ascii h s))
