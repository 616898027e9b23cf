-- A reading of a text that computes: names, decimal numbers, signs of one byte, spaces and newlines. What it reads, the
-- text spells.
use Rattle.std.proofs.Common.{◌≡◌, ℕ, zero, suc, ◌<◌, Bool, true, false, ◌==◌, nat_lt, List, [], ◌∷◌, ◌++◌, take, drop, Option, Some, None, refl, sym, ap, subst, arith}
use Rattle.std.proofs.lemmas.Bool.Decides.{nat_tests}
use Rattle.std.proofs.lemmas.Option.{same_Some}
use Rattle.sx_lang.specs.Tree.{ModuleTree}
use Rattle.sx_lex.specs.declared.tokens.Kind.{Kind}
use Rattle.sx_lex.specs.declared.tokens.Kind.TheVariants.{Number, Name}
use Rattle.sx_lex.specs.declared.tokens.Place.{Place}
use Rattle.sx_lex.specs.declared.tokens.Placed.{Placed}
use Rattle.sx_lex.specs.Words.{is_lower, is_digit, value, found_in, keywords, signs, or_else}
use Rattle.sx_lex.specs.Progress.{name_front, number_front, NoHexadecimal}
use Rattle.sx_lex.specs.Lexed.{Lexed, at_end, space, newline, token, along, below, start, is_space}
use Rattle.sx_lex.proofs.Names.{longest_name}
use Rattle.sx_lex.proofs.Numbers as numbers
use Rattle.sx_lex.proofs.Signs.{no_pair, longest_sign}
use Rattle.spec_grammar.specs.Machine.{ReadOutcome, Read, Of_module, read, begun, nothing}
use Rattle.spec_grammar.specs.Text.{Spells}
use Rattle.spec_grammar.proofs.Faults.{read_is_module}

-- the token at the start of a text, if any, and the place and the text after it
abbrev Turn : Type 0
Turn = List Placed × Place × List ℕ

-- a token of this kind at a place, this many bytes long
one : Place → Kind → ℕ → List ℕ → Option Turn
one at k n text = Some (record { kind = k; place = at } ∷ [], along at n, drop n text)

named : Place → ℕ → List ℕ → Option Turn
named at b bs =
    let n = suc (name_front 15 bs) in
    one at (or_else (found_in keywords (take n (b ∷ bs))) (Name (take n (b ∷ bs)))) n (b ∷ bs)

number_of : Place → List ℕ → ℕ → Bool → Bool → Option Turn
number_of at text n false true = one at (Number (value 10 0 (take n text))) n text
number_of at text n _ _ = None

numbered : Place → ℕ → List ℕ → Option Turn
numbered at b [] = None
numbered at b (c ∷ rest) =
    let n = number_front 10 0 (b ∷ c ∷ rest) in
    number_of at (b ∷ c ∷ rest) n (c == 120) (nat_lt 0 n)

sign_of : Place → List ℕ → Option Kind → Option Kind → Option Turn
sign_of at text None (Some k) = one at k 1 text
sign_of at text _ _ = None

signed : Place → ℕ → List ℕ → Option Turn
signed at b [] = None
signed at b (c ∷ rest) = sign_of at (b ∷ c ∷ rest) (found_in signs (b ∷ c ∷ [])) (found_in signs (b ∷ []))

-- by what the first byte is: a space, a newline, a letter or a digit
turned : Place → ℕ → List ℕ → (s n l d : Bool) → Option Turn
turned at b bs true n l d = Some ([], along at 1, bs)
turned at b bs false true l d = Some ([], below at, bs)
turned at b bs false false true d = named at b bs
turned at b bs false false false true = numbered at b bs
turned at b bs false false false false = signed at b bs

turn : Place → ℕ → List ℕ → Option Turn
turn at b bs = turned at b bs (is_space b) (b == 10) (is_lower b) (is_digit 10 b)

-- all tokens of a text, and the place of its end
abbrev Found : Type 0
Found = Option (List Placed × Place)

join : List Placed → Found → Found
join out None = None
join out (Some r) = Some (out ++ r.0, r.1)

follow : Option Turn → (Place → List ℕ → Found) → Found
follow None more = None
follow (Some t) more = join t.0 (more t.1 t.2)

-- the tokens of a text, in fewer turns than this many
unfoldable pub lex : ℕ → Place → List ℕ → Found
unfolding follow join turn turned signed sign_of numbered number_of named one
lex zero at text = None
lex (suc k) at [] = Some ([], at)
lex (suc k) at (b ∷ bs) = follow (turn at b bs) (λ next rest. lex k next rest)

-- a turn that leads on from a text
abbrev Leads : Place → List ℕ → Option Turn → Type 0
Leads at text None = Unit {0}
Leads at text (Some t) = (ts : List Placed) (end : Place) → Lexed t.1 t.2 ts end → Lexed at text (t.0 ++ ts) end

named_leads : (at : Place) (b : ℕ) (bs : List ℕ) → is_lower b ≡ true → Leads at (b ∷ bs) (named at b bs)
unfolding named one
named_leads at b bs low ts end more = token (longest_name (b ∷ bs) bs _ b _ _ refl low (omega arith) refl refl) more

number_leads : (at : Place) (text : List ℕ) (n : ℕ) (x p : Bool) → n ≡ number_front 10 0 text → (x ≡ false → NoHexadecimal text)
    → nat_lt 0 n ≡ p → Leads at text (number_of at text n x p)
unfolding number_of one
number_leads at text n false true e plain some =
    let long : 0 < n = grind (arith, nat_tests, some) in
    λ ts end more. token (numbers.longest_decimal text n (value 10 0 (take n text)) (plain refl) e (ap (λ m. value 10 0 (take m text)) e) long) more
number_leads at text n false false e plain some = tt
number_leads at text n true true e plain some = tt
number_leads at text n true false e plain some = tt

numbered_leads : (at : Place) (b : ℕ) (bs : List ℕ) → Leads at (b ∷ bs) (numbered at b bs)
unfolding numbered
numbered_leads at b [] = tt
numbered_leads at b (c ∷ rest) =
    number_leads at (b ∷ c ∷ rest) (number_front 10 0 (b ∷ c ∷ rest)) (c == 120) (nat_lt 0 (number_front 10 0 (b ∷ c ∷ rest))) refl
    (λ e. numbers.other_second (b ∷ c ∷ rest) (c ∷ rest) rest b c refl refl e) refl

sign_leads : (at : Place) (b c : ℕ) (rest : List ℕ) (two one : Option Kind) → is_lower b ≡ false → is_digit 10 b ≡ false
    → two ≡ found_in signs (b ∷ c ∷ []) → one ≡ found_in signs (b ∷ []) → Leads at (b ∷ c ∷ rest) (sign_of at (b ∷ c ∷ rest) two one)
unfolding sign_of one
sign_leads at b c rest None (Some k) low digit e f = λ ts end more.
    token (longest_sign (b ∷ c ∷ rest) (c ∷ rest) b k refl low digit (no_pair (b ∷ c ∷ rest) (c ∷ rest) rest b c refl refl e) f) more
sign_leads at b c rest None None low digit e f = tt
sign_leads at b c rest (Some j) None low digit e f = tt
sign_leads at b c rest (Some j) (Some k) low digit e f = tt

signed_leads : (at : Place) (b : ℕ) (bs : List ℕ) → is_lower b ≡ false → is_digit 10 b ≡ false → Leads at (b ∷ bs) (signed at b bs)
unfolding signed
signed_leads at b [] low digit = tt
signed_leads at b (c ∷ rest) low digit =
    sign_leads at b c rest (found_in signs (b ∷ c ∷ [])) (found_in signs (b ∷ [])) low digit refl refl

newline_leads : (at : Place) (b : ℕ) (bs : List ℕ) → (b == 10) ≡ true → Leads at (b ∷ bs) (Some ([], below at, bs))
newline_leads at b bs is ts end more =
    let same : b ≡ 10 = grind (arith, nat_tests, is) in
    subst (λ b. Lexed at (b ∷ bs) ts end) (sym same) (newline more)

turned_leads : (at : Place) (b : ℕ) (bs : List ℕ) (s n l d : Bool) → is_space b ≡ s → (b == 10) ≡ n → is_lower b ≡ l → is_digit 10 b ≡ d
    → Leads at (b ∷ bs) (turned at b bs s n l d)
unfolding turned
turned_leads at b bs true n l d es en el ed = λ ts end more. space es more
turned_leads at b bs false true l d es en el ed = newline_leads at b bs en
turned_leads at b bs false false true d es en el ed = named_leads at b bs el
turned_leads at b bs false false false true es en el ed = numbered_leads at b bs
turned_leads at b bs false false false false es en el ed = signed_leads at b bs el ed

turn_leads : (at : Place) (b : ℕ) (bs : List ℕ) → Leads at (b ∷ bs) (turn at b bs)
unfolding turn
turn_leads at b bs = turned_leads at b bs (is_space b) (b == 10) (is_lower b) (is_digit 10 b) refl refl refl refl

-- what is found is the text's tokens
abbrev AreTokens : Place → List ℕ → Found → Type 0
AreTokens at text None = Unit {0}
AreTokens at text (Some r) = Lexed at text r.0 r.1

joined : (at next : Place) (text rest : List ℕ) (out : List Placed) (r : Found)
    → ((ts : List Placed) (end : Place) → Lexed next rest ts end → Lexed at text (out ++ ts) end)
    → AreTokens next rest r → AreTokens at text (join out r)
unfolding join
joined at next text rest out None leads h = tt
joined at next text rest out (Some r) leads h = leads r.0 r.1 h

followed : (at : Place) (text : List ℕ) (t : Option Turn) (more : Place → List ℕ → Found) → Leads at text t
    → ((next : Place) (rest : List ℕ) → AreTokens next rest (more next rest)) → AreTokens at text (follow t more)
unfolding follow
followed at text None more leads h = tt
followed at text (Some t) more leads h = joined at t.1 text t.2 t.0 (more t.1 t.2) leads (h t.1 t.2)

are_tokens : (k : ℕ) (at : Place) (text : List ℕ) → AreTokens at text (lex k at text)
unfolding lex
are_tokens zero at text = tt
are_tokens (suc k) at [] = at_end
are_tokens (suc k) at (b ∷ bs) =
    followed at (b ∷ bs) (turn at b bs) (λ next rest. lex k next rest) (turn_leads at b bs) (λ next rest. are_tokens k next rest)

-- what the machine makes of the tokens that are found
made : Found → Option ReadOutcome
made None = None
made (Some r) = Some (read begun nothing r.0)

-- what a text is read as, in fewer turns than this many
unfoldable pub read_as : ℕ → List ℕ → Option ReadOutcome
unfolding made lex
read_as k text = made (lex k start text)

pub spells : (k : ℕ) (text : List ℕ) (m : ModuleTree) → read_as k text ≡ Some (Read (Of_module m ∷ [])) → Spells text m
unfolding read_as
spells k text m e = go (lex k start text) (are_tokens k start text) e
  where
    go : (r : Found) → AreTokens start text r → made r ≡ Some (Read (Of_module m ∷ [])) → Spells text m
    go None h e = absurd (cc)
    go (Some r) h e = record { tokens = r.0; end = r.1; lexed = h; stands = read_is_module r.0 m (same_Some _ _ e) }
