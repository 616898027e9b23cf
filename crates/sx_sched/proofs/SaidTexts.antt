-- The text of a line says the line.
use Rattle.std.proofs.Common.{◌≡◌, ℕ, ◌^◌, ◌<◌, Bool, true, false, ◌&&◌, ◌==◌, nat_le, List, [], ◌∷◌, ◌++◌, length, codes, decimal, Option, Some, Result, Ok, refl, sym, ap, subst, ◌∙◌, arith, IsTrue}
use Rattle.std.specs.Prelude.{option_and_then, slice_get, ok_or}
use Rattle.std.specs.List.{list_all}
use Rattle.std.proofs.lemmas.List.{append-nil}
use Rattle.std.proofs.lemmas.Bool.{eqb-true, and_parts}
use Rattle.sx_asm.specs.Assembled.{assembled}
use Rattle.sx_asm.specs.Shown.{hex}
use Rattle.sx_lang.specs.Form.{is_lower, is_name, is_name_byte}
use Rattle.sx_trace.specs.Names.{NameLists, if_sensor}
use Rattle.sx_trace.specs.ValidNames.{are_valid}
use Rattle.sx_trace.specs.Items.{name_at, spaced_words}
use Rattle.sx_trace.proofs.Known.{known_node, known_device, known_module, lower_byte}
use Rattle.sx_sched.specs.declared.lines.LineError.{LineError}
use Rattle.sx_sched.specs.Lines.{Line, Blank, Run, Finish, Put, Set, Take, Give, Forge, Sense, Irq, Reset, Ask, Answer, Load, Call}
use Rattle.sx_sched.specs.Reading.{no_name, node_of, sensor_of, module_of, number_in, number16, number32, one, two, three, four, said_in, said_line}
use Rattle.sx_sched.specs.Words.{words_of, text_behind}
use Rattle.sx_sched.specs.Written.{line_text}
use Rattle.sx_sched.specs.Laws.{TextIsSaid}
use Rattle.sx_sched.proofs.Decimals.{decimal_word, number_between, number_said}
use Rattle.sx_sched.proofs.Hexadecimals.{hex_said, hex_word}
use Rattle.sx_sched.proofs.Spaced.{is_plain, is_word, spaced, words_read}

-- Names have no blank.

plain : (b : ℕ) → is_name_byte b ≡ true → is_plain b ≡ true
plain b h = by_test (b == 32) (b == 9) refl refl
  where
    by_test : (s t : Bool) → (b == 32) ≡ s → (b == 9) ≡ t → is_plain b ≡ true
    by_test false false e f = rw (e, f) refl
    by_test true t e f =
        let no : is_name_byte 32 ≡ true = subst (λ c. is_name_byte c ≡ true) (eqb-true b 32 e) h in
        absurd (cc no)
    by_test false true e f =
        let no : is_name_byte 9 ≡ true = subst (λ c. is_name_byte c ≡ true) (eqb-true b 9 f) h in
        absurd (cc no)

all_plain : (w : List ℕ) → list_all is_name_byte w ≡ true → list_all is_plain w ≡ true
all_plain [] h = refl
all_plain (b ∷ bs) h =
    let both = and_parts (is_name_byte b) (list_all is_name_byte bs) h in
    rw (plain b both.0) (all_plain bs both.1)

name_word : (w : List ℕ) → is_name w ≡ true → is_word w ≡ true
name_word [] h = absurd (cc)
name_word (b ∷ bs) h =
    let first = and_parts (is_lower b) (list_all is_name_byte bs && nat_le (length bs) 15) h in
    let rest = and_parts (list_all is_name_byte bs) (nat_le (length bs) 15) first.1 in
    rw (plain b (lower_byte b first.0)) (all_plain bs rest.0)

-- What a name says.

abbrev Says : (List ℕ → Result ℕ LineError) → List ℕ → ℕ → Type 0
Says read w i = (read w ≡ Ok i) × (is_word w ≡ true)

node_said : (n : NameLists) (i : ℕ) → IsTrue (are_valid n) → i < length n.nodes → Says (node_of n) (name_at n.nodes i) i
node_said n i v h =
    let k = known_node n i v h in
    (ap (λ (o : Option ℕ). ok_or o no_name) k.found, name_word (name_at n.nodes i) k.formed)

module_said : (n : NameLists) (i : ℕ) → IsTrue (are_valid n) → i < length n.modules → Says (module_of n) (name_at n.modules i) i
module_said n i v h =
    let k = known_module n i v h in
    (ap (λ (o : Option ℕ). ok_or o no_name) k.found, name_word (name_at n.modules i) k.formed)

sensor_said : (n : NameLists) (i : ℕ) → IsTrue (are_valid n) → i < length n.devices → slice_get n.sensors i ≡ Some true → Says (sensor_of n) (name_at n.devices i) i
sensor_said n i v h sensor =
    let k = known_device n i v h in
    (ap (λ (o : Option ℕ). ok_or (option_and_then (if_sensor n.sensors) o) no_name) k.found ∙ (rw sensor refl), name_word (name_at n.devices i) k.formed)

-- What words say, each of which says a value.

one_said : {A : Type 0} (f : List ℕ → Result A LineError) (make : A → Line) (a : List ℕ) (x : A) → f a ≡ Ok x → one f make (a ∷ []) ≡ Ok (make x)
one_said f make a x p = rw p refl

two_said : {A B : Type 0} (f : List ℕ → Result A LineError) (g : List ℕ → Result B LineError) (make : A → B → Line) (a b : List ℕ) (x : A) (y : B)
    → f a ≡ Ok x → g b ≡ Ok y → two f g make (a ∷ b ∷ []) ≡ Ok (make x y)
two_said f g make a b x y p q = rw (p, q) refl

three_said : {A B C : Type 0} (f : List ℕ → Result A LineError) (g : List ℕ → Result B LineError) (h : List ℕ → Result C LineError) (make : A → B → C → Line)
    (a b c : List ℕ) (x : A) (y : B) (z : C) → f a ≡ Ok x → g b ≡ Ok y → h c ≡ Ok z → three f g h make (a ∷ b ∷ c ∷ []) ≡ Ok (make x y z)
three_said f g h make a b c x y z p q r = rw (p, q, r) refl

four_said : {A B C D : Type 0} (f : List ℕ → Result A LineError) (g : List ℕ → Result B LineError) (h : List ℕ → Result C LineError) (i : List ℕ → Result D LineError)
    (make : A → B → C → D → Line) (a b c d : List ℕ) (x : A) (y : B) (z : C) (w : D)
    → f a ≡ Ok x → g b ≡ Ok y → h c ≡ Ok z → i d ≡ Ok w → four f g h i make (a ∷ b ∷ c ∷ d ∷ []) ≡ Ok (make x y z w)
four_said f g h i make a b c d x y z w p q r s = rw (p, q, r, s) refl

-- Words that are some bytes, and no blank.

two_are : (v x : List ℕ) → is_word v ≡ true → is_word x ≡ true → list_all is_word (v ∷ x ∷ []) ≡ true
two_are v x p q = rw (p, q) refl

three_are : (v x y : List ℕ) → is_word v ≡ true → is_word x ≡ true → is_word y ≡ true → list_all is_word (v ∷ x ∷ y ∷ []) ≡ true
three_are v x y p q r = rw (p, q, r) refl

four_are : (v x y z : List ℕ) → is_word v ≡ true → is_word x ≡ true → is_word y ≡ true → is_word z ≡ true → list_all is_word (v ∷ x ∷ y ∷ z ∷ []) ≡ true
four_are v x y z p q r s = rw (p, q, r, s) refl

five_are : (v x y z w : List ℕ) → is_word v ≡ true → is_word x ≡ true → is_word y ≡ true → is_word z ≡ true → is_word w ≡ true
    → list_all is_word (v ∷ x ∷ y ∷ z ∷ w ∷ []) ≡ true
five_are v x y z w p q r s t = rw (p, q, r, s, t) refl

-- What the text says.

joined : (w : List ℕ) (ws : List (List ℕ)) → spaced_words (w ∷ ws) ≡ w ++ spaced ws
joined w [] = sym (append-nil w)
joined w (v ∷ vs) = ap (λ (text : List ℕ). w ++ 32 ∷ text) (joined v vs)

-- a text of words says what they say, whatever text follows them
said : (n : NameLists) (w : List ℕ) (ws : List (List ℕ)) (line : Line) → list_all is_word (w ∷ ws) ≡ true → ((t : List ℕ) → said_in assembled n t (w ∷ ws) ≡ Ok line)
    → said_line assembled n (spaced_words (w ∷ ws)) ≡ Ok line
unfolding said_line
said n w ws line words says =
    let text = spaced_words (w ∷ ws) in
    let read : words_of text ≡ w ∷ ws = ap words_of (joined w ws) ∙ words_read w ws words in
    subst (λ (v : List (List ℕ)). said_in assembled n (text_behind 3 text) v ≡ Ok line) (sym read) (says (text_behind 3 text))

pub text_is_said : TextIsSaid
unfolding line_text
text_is_said n (Take node at len) v k h =
    let name = node_said n node v h.0 in
    let low_place : at < 65536 = omega (arith, h.1) in
    let small : len < 2 ^ 64 = omega (arith, h.3) in
    said n (codes "take") (name_at n.nodes node ∷ hex at ∷ decimal len ∷ []) (Take node at len)
    (four_are (codes "take") (name_at n.nodes node) (hex at) (decimal len) refl name.1 (hex_word at low_place) (decimal_word len small))
    (λ t. three_said (node_of n) number16 (number_in 1 384) Take (name_at n.nodes node) (hex at) (decimal len) node at len
    name.0 (hex_said at low_place) (number_between 1 384 len h.2 h.3 small))
text_is_said n (Give packet node at) v k h =
    let name = node_said n node v h.1 in
    let low_place : at < 65536 = omega (arith, h.2) in
    let small : packet < 2 ^ 64 = omega (arith, h.0) in
    said n (codes "give") (decimal packet ∷ name_at n.nodes node ∷ hex at ∷ []) (Give packet node at)
    (four_are (codes "give") (decimal packet) (name_at n.nodes node) (hex at) refl (decimal_word packet small) name.1 (hex_word at low_place))
    (λ t. three_said number32 (node_of n) number16 Give (decimal packet) (name_at n.nodes node) (hex at) packet node at
    (number_said 4294967295 packet (omega (arith, h.0)) small) name.0 (hex_said at low_place))
text_is_said n (Sense device value) v k h =
    let name = sensor_said n device v h.0 h.1 in
    let small : value < 2 ^ 64 = omega (arith, h.2) in
    said n (codes "sense") (name_at n.devices device ∷ decimal value ∷ []) (Sense device value)
    (three_are (codes "sense") (name_at n.devices device) (decimal value) refl name.1 (decimal_word value small))
    (λ t. two_said (sensor_of n) (number_in 0 32767) Sense (name_at n.devices device) (decimal value) device value
    name.0 (number_said 32767 value (omega (arith, h.2)) small))
text_is_said n (Ask m) v k h =
    let name = module_said n m v h in
    said n (codes "ask") (name_at n.modules m ∷ []) (Ask m)
    (two_are (codes "ask") (name_at n.modules m) refl name.1)
    (λ t. one_said (module_of n) Ask (name_at n.modules m) m name.0)
text_is_said n (Answer m boot packet) v k h =
    let name = module_said n m v h.0 in
    let first : boot < 2 ^ 64 = omega (arith, h.1) in
    let second : packet < 2 ^ 64 = omega (arith, h.2) in
    said n (codes "answer") (name_at n.modules m ∷ decimal boot ∷ decimal packet ∷ []) (Answer m boot packet)
    (four_are (codes "answer") (name_at n.modules m) (decimal boot) (decimal packet) refl name.1 (decimal_word boot first) (decimal_word packet second))
    (λ t. three_said (module_of n) number32 number32 Answer (name_at n.modules m) (decimal boot) (decimal packet) m boot packet
    name.0 (number_said 4294967295 boot (omega (arith, h.1)) first) (number_said 4294967295 packet (omega (arith, h.2)) second))
text_is_said n (Load m) v k h =
    let name = module_said n m v h in
    said n (codes "load") (name_at n.modules m ∷ []) (Load m)
    (two_are (codes "load") (name_at n.modules m) refl name.1)
    (λ t. one_said (module_of n) Load (name_at n.modules m) m name.0)
text_is_said n (Call m entry input output) v k h =
    let name = module_said n m v h.0 in
    let small : entry < 2 ^ 64 = omega (arith, h.1) in
    let from : input < 65536 = omega (arith, h.2) in
    let to : output < 65536 = omega (arith, h.3) in
    said n (codes "call") (name_at n.modules m ∷ decimal entry ∷ hex input ∷ hex output ∷ []) (Call m entry input output)
    (five_are (codes "call") (name_at n.modules m) (decimal entry) (hex input) (hex output) refl name.1 (decimal_word entry small) (hex_word input from) (hex_word output to))
    (λ t. four_said (module_of n) number16 number16 number16 Call (name_at n.modules m) (decimal entry) (hex input) (hex output) m entry input output
    name.0 (number_said 65535 entry (omega (arith, h.1)) small) (hex_said input from) (hex_said output to))
text_is_said n Blank v k h = absurd k
text_is_said n (Run node steps) v k h = absurd k
text_is_said n (Finish node) v k h = absurd k
text_is_said n (Put node at bytes) v k h = absurd k
text_is_said n (Set node reg value) v k h = absurd k
text_is_said n (Forge bytes) v k h = absurd k
text_is_said n (Irq node line) v k h = absurd k
text_is_said n (Reset node) v k h = absurd k
