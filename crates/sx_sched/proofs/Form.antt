-- What is said is in form.
use Rattle.std.proofs.Common.{◌≡◌, ◌≢◌, ℕ, ◌<◌, ◌≤◌, Bool, true, false, ◌&&◌, ◌==◌, not, nat_le, nat_lt, List, [], ◌∷◌, length, Option, Some, None, Result, Ok, Err, refl, subst, arith}
use Rattle.std.specs.Prelude.{IfOk, if◌then◌else◌, option_and_then, slice_get, unwrap_or, ok_or}
use Rattle.std.specs.List.{list_all}
use Rattle.std.specs.Str.{bytes_eq, is_utf8}
use Rattle.std.proofs.lemmas.Bool.Decides.{nat_tests}
use Rattle.std.proofs.lemmas.List.Quantifiers.{position-Some}
use Rattle.std.proofs.lemmas.Bool.{and_parts}
use Rattle.hex.specs.Hex.{decode_of}
use Rattle.hex.specs.declared.error.FromHexError.{FromHexError}
use Rattle.hex.proofs.HexLemmas.{decode_of-ok}
use Rattle.sx_asm.specs.declared.error.AsmError.{AsmError}
use Rattle.sx_asm.specs.Assembled.{assembled}
use Rattle.sx_asm.proofs.Bytes.{assembled_bytes}
use Rattle.sx_asm.proofs.Listings.{byte_at}
use Rattle.sx_io.specs.Numbers.{number_of, written_number, up_to}
use Rattle.sx_index.specs.Places.{place_of}
use Rattle.sx_trace.specs.Names.{NameLists, if_sensor, sensor_place}
use Rattle.sx_sched.specs.declared.lines.Line.{Line as Read}
use Rattle.sx_sched.specs.declared.lines.LineError.{LineError}
use Rattle.sx_sched.specs.Lines.{Line, Blank, Run, Finish, Put, Set, Take, Give, Forge, Sense, Irq, Reset, Ask, Answer, Load, Call}
use Rattle.sx_sched.specs.Seen.{line_of}
use Rattle.sx_sched.specs.InForm.{AreFewBytes, IsLine}
use Rattle.sx_sched.specs.Laws.{SaidInForm}
use Rattle.sx_sched.specs.Reading.{no_name, no_number, no_bytes, wrong_count, no_code, node_of, sensor_of, module_of, registers, register_in, register_of}
use Rattle.sx_sched.specs.Reading.{at_least, number_in, number16, number32, decoded_bytes, bytes_of, code_in, code_of, one, two, three, four, code_line, Kind}
use Rattle.sx_sched.specs.Reading.{kinds, said_by, is_comment, said_in, said_line, ◌>>=◌}
use Rattle.sx_sched.specs.Answers.{MayWant, TakesMemory, Answers}
use Rattle.sx_sched.specs.Words.{words_of, text_behind, one_word, two_words, three_words, four_words, two_before}

bind_ok : {A B : Type 0} (r : Result A LineError) (g : A → Result B LineError) (y : B) → (r >>= g) ≡ Ok y → (x : A) × (r ≡ Ok x) × (g x ≡ Ok y)
bind_ok (Ok x) g y h = (x, refl, h)
bind_ok (Err e) g y h = absurd (cc)

ok_some : {A : Type 0} (o : Option A) (e : LineError) (x : A) → ok_or o e ≡ Ok x → o ≡ Some x
ok_some (Some y) e x h = cc
ok_some None e x h = absurd (cc)

either : {P : Type 0} (t : Bool) (x y : Result Line LineError) (line : Line) → (x ≡ Ok line → P) → (y ≡ Ok line → P) → (if t then x else y) ≡ Ok line → P
either true x y line f g h = f h
either false x y line f g h = g h

this_line : (n : NameLists) (l line : Line) → ◌≡◌ {A = Result Line LineError} (Ok l) (Ok line) → IsLine n l → IsLine n line
this_line n l line e h = let same : l ≡ line = cc in let P : Line → Type 0 = λ x. IsLine n x in subst P same h

-- What one word says.

place_fits : (names : List (List ℕ)) (w : List ℕ) (i : ℕ) → ok_or (place_of names w) no_name ≡ Ok i → i < length names
place_fits names w i h = (position-Some (λ x. bytes_eq x w) names i [] (ok_some (place_of names w) no_name i h)).0

pub sensor_get : (sensors : List Bool) (d i : ℕ) → if_sensor sensors d ≡ Some i → (d ≡ i) × (slice_get sensors d ≡ Some true)
sensor_get sensors d i h = by_get (slice_get sensors d) refl h
  where
    by_get : (o : Option Bool) → slice_get sensors d ≡ o → (if unwrap_or o false then Some d else None) ≡ Some i → (d ≡ i) × (slice_get sensors d ≡ Some true)
    by_get None e f = absurd (cc)
    by_get (Some false) e f = absurd (cc)
    by_get (Some true) e f = (cc, e)

abbrev IsSensor : NameLists → ℕ → Type 0
IsSensor n d = (d < length n.devices) × (slice_get n.sensors d ≡ Some true)

sensor_fits : (n : NameLists) (w : List ℕ) (i : ℕ) → sensor_of n w ≡ Ok i → IsSensor n i
sensor_fits n w i h = by_place (place_of n.devices w) refl (ok_some (sensor_place n w) no_name i h)
  where
    by_place : (o : Option ℕ) → place_of n.devices w ≡ o → option_and_then (if_sensor n.sensors) o ≡ Some i → IsSensor n i
    by_place None e f = absurd (cc)
    by_place (Some d) e f =
        let got = sensor_get n.sensors d i f in
        subst (IsSensor n) got.0 ((position-Some (λ x. bytes_eq x w) n.devices d [] e).0, got.1)

abbrev has_settable : List ℕ × ℕ → Bool
has_settable entry = nat_lt entry.1 16 && not (entry.1 == 3)

abbrev IsSettable : ℕ → Type 0
IsSettable r = (r < 16) × (r ≢ 3)

not_three : (r : ℕ) → not (r == 3) ≡ true → r ≢ 3
not_three r h e = let P : ℕ → Type 0 = λ k. not (k == 3) ≡ true in let no : false ≡ true = subst P e h in cc

settable : (table : List (List ℕ × ℕ)) (w : List ℕ) (r : ℕ) → list_all has_settable table ≡ true → register_in table w ≡ Some r → IsSettable r
settable [] w r h e = absurd (cc)
settable (entry ∷ more) w r h e = by_test (bytes_eq w entry.0) (settable more w r all.1) e
  where
    all : (has_settable entry ≡ true) × (list_all has_settable more ≡ true)
    all = and_parts (has_settable entry) (list_all has_settable more) h

    here : IsSettable entry.1
    here = let both = and_parts (nat_lt entry.1 16) (not (entry.1 == 3)) all.0 in (let low = both.0 in grind (arith, nat_tests, low), not_three entry.1 both.1)

    by_test : (t : Bool) → (register_in more w ≡ Some r → IsSettable r) → (if t then Some entry.1 else register_in more w) ≡ Some r → IsSettable r
    by_test true later f = let same : entry.1 ≡ r = cc in subst IsSettable same here
    by_test false later f = later f

register_fits : (w : List ℕ) (r : ℕ) → register_of w ≡ Ok r → IsSettable r
unfolding register_of
register_fits w r h = settable registers w r refl (ok_some (register_in registers w) no_name r h)

abbrev IsBetween : ℕ → ℕ → ℕ → Type 0
IsBetween low high k = (low ≤ k) × (k ≤ high)

within : (limit : ℕ) (o : Option ℕ) (k : ℕ) → up_to limit o ≡ Some k → k ≤ limit
within limit None k h = absurd (cc)
within limit (Some m) k h = by_test (nat_le m limit) refl h
  where
    by_test : (t : Bool) → nat_le m limit ≡ t → (if t then Some m else None) ≡ Some k → k ≤ limit
    by_test true e f = let same : m ≡ k = cc in let fits : m ≤ limit = grind (arith, nat_tests, e) in omega arith
    by_test false e f = absurd (cc)

pub number_within : (w : List ℕ) (limit k : ℕ) → number_of w limit ≡ Some k → k ≤ limit
unfolding number_of
number_within w limit k h = within limit (written_number w) k h

low_enough : (low : ℕ) (o : Option ℕ) (k : ℕ) → at_least low o ≡ Some k → (o ≡ Some k) × (low ≤ k)
low_enough low None k h = absurd (cc)
low_enough low (Some m) k h = by_test (nat_le low m) refl h
  where
    by_test : (t : Bool) → nat_le low m ≡ t → (if t then Some m else None) ≡ Some k → (Some m ≡ Some k) × (low ≤ k)
    by_test true e f = let same : m ≡ k = cc in let fits : low ≤ m = grind (arith, nat_tests, e) in (f, omega arith)
    by_test false e f = absurd (cc)

number_fits : (low high : ℕ) (w : List ℕ) (k : ℕ) → number_in low high w ≡ Ok k → IsBetween low high k
number_fits low high w k h =
    let got = low_enough low (number_of w high) k (ok_some (at_least low (number_of w high)) no_number k h) in
    (got.1, number_within w high k got.0)

bytes_fit : (most : ℕ) (w b : List ℕ) → bytes_of most w ≡ Ok b → AreFewBytes most b
bytes_fit most w b h = by_result (decode_of w) refl h
  where
    by_test : (b' : List ℕ) (t : Bool) → decode_of w ≡ Ok b' → (nat_le 1 (length b') && nat_le (length b') most) ≡ t
        → ◌≡◌ {A = Result (List ℕ) LineError} (if t then Ok b' else Err no_bytes) (Ok b) → AreFewBytes most b
    by_test b' true e t f =
        let both = and_parts (nat_le 1 (length b')) (nat_le (length b') most) t in
        let one_or_more : 1 ≤ length b' = let x = both.0 in grind (arith, nat_tests, x) in
        let few : length b' ≤ most = let x = both.1 in grind (arith, nat_tests, x) in
        let same : b' ≡ b = cc in
        subst (AreFewBytes most) same (one_or_more, few, (decode_of-ok w b' e).3)
    by_test b' false e t f = absurd (cc)

    by_result : (r : Result (List ℕ) FromHexError) → decode_of w ≡ r → decoded_bytes most r ≡ Ok b → AreFewBytes most b
    by_result (Err x) e f = absurd (cc)
    by_result (Ok b') e f = by_test b' (nat_le 1 (length b') && nat_le (length b') most) e refl f

-- What a text says.

assembled_fit : (at : ℕ) (text b : List ℕ) → code_in (assembled at text) ≡ Ok b → AreFewBytes 1024 b
assembled_fit at text b h = by_result (assembled at text) refl h
  where
    by_test : (b' : List ℕ) (t : Bool) → assembled at text ≡ Ok b' → (nat_le 1 (length b') && nat_le (length b') 1024) ≡ t
        → ◌≡◌ {A = Result (List ℕ) LineError} (if t then Ok b' else Err no_code) (Ok b) → AreFewBytes 1024 b
    by_test b' true e t f =
        let both = and_parts (nat_le 1 (length b')) (nat_le (length b') 1024) t in
        let one_or_more : 1 ≤ length b' = let x = both.0 in grind (arith, nat_tests, x) in
        let few : length b' ≤ 1024 = let x = both.1 in grind (arith, nat_tests, x) in
        let same : b' ≡ b = cc in
        subst (AreFewBytes 1024) same (one_or_more, few, λ i. byte_at b' i (assembled_bytes at text b' e))
    by_test b' false e t f = absurd (cc)

    by_result : (r : Result (List ℕ) AsmError) → assembled at text ≡ r → code_in r ≡ Ok b → AreFewBytes 1024 b
    by_result (Err x) e f = absurd (cc)
    by_result (Ok b') e f = by_test b' (nat_le 1 (length b') && nat_le (length b') 1024) e refl f

code_fits : (at : ℕ) (text b : List ℕ) → code_of assembled at text ≡ Ok b → AreFewBytes 1024 b
code_fits at text b h = by_test (is_utf8 text) h
  where
    by_test : (t : Bool) → (if t then code_in (assembled at text) else Err no_code) ≡ Ok b → AreFewBytes 1024 b
    by_test true f = assembled_fit at text b f
    by_test false f = absurd (cc)

-- What kinds of line say.

abbrev KindFits : NameLists → (List (List ℕ) → Result Line LineError) → Type 0
KindFits n row = (fields : List (List ℕ)) (line : Line) → row fields ≡ Ok line → IsLine n line

one_fits : {A : Type 0} (n : NameLists) (f : List ℕ → Result A LineError) (make : A → Line) (F : A → Type 0)
    → ((w : List ℕ) (a : A) → f w ≡ Ok a → F a) → ((a : A) → F a → IsLine n (make a)) → KindFits n (one f make)
one_fits {A} n f make F ff fits fields line h =
    let w = bind_ok (ok_or (one_word fields) wrong_count) (λ (word : List ℕ). f word >>= (λ (a : A). Ok (make a))) line h in
    let a = bind_ok (f w.0) (λ (a : A). Ok (make a)) line w.2 in
    this_line n (make a.0) line a.2 (fits a.0 (ff w.0 a.0 a.1))

two_fits : {A B : Type 0} (n : NameLists) (f : List ℕ → Result A LineError) (g : List ℕ → Result B LineError) (make : A → B → Line) (F : A → Type 0) (G : B → Type 0)
    → ((w : List ℕ) (a : A) → f w ≡ Ok a → F a) → ((w : List ℕ) (b : B) → g w ≡ Ok b → G b)
    → ((a : A) (b : B) → F a → G b → IsLine n (make a b)) → KindFits n (two f g make)
two_fits {A} {B} n f g make F G ff gg fits fields line h =
    let w = bind_ok (ok_or (two_words fields) wrong_count) (λ (word : List ℕ × List ℕ). f word.0 >>= (λ (a : A). g word.1 >>= (λ (b : B). Ok (make a b)))) line h in
    let a = bind_ok (f w.0.0) (λ (a : A). g w.0.1 >>= (λ (b : B). Ok (make a b))) line w.2 in
    let b = bind_ok (g w.0.1) (λ (b : B). Ok (make a.0 b)) line a.2 in
    this_line n (make a.0 b.0) line b.2 (fits a.0 b.0 (ff w.0.0 a.0 a.1) (gg w.0.1 b.0 b.1))

three_fits : {A B C : Type 0} (n : NameLists) (f : List ℕ → Result A LineError) (g : List ℕ → Result B LineError) (h : List ℕ → Result C LineError)
    (make : A → B → C → Line) (F : A → Type 0) (G : B → Type 0) (H : C → Type 0)
    → ((w : List ℕ) (a : A) → f w ≡ Ok a → F a) → ((w : List ℕ) (b : B) → g w ≡ Ok b → G b) → ((w : List ℕ) (c : C) → h w ≡ Ok c → H c)
    → ((a : A) (b : B) (c : C) → F a → G b → H c → IsLine n (make a b c)) → KindFits n (three f g h make)
three_fits {A} {B} {C} n f g h make F G H ff gg hh fits fields line e =
    let w = bind_ok (ok_or (three_words fields) wrong_count) (λ (word : List ℕ × List ℕ × List ℕ).
    f word.0 >>= (λ (a : A). g word.1 >>= (λ (b : B). h word.2 >>= (λ (c : C). Ok (make a b c))))) line e in
    let a = bind_ok (f w.0.0) (λ (a : A). g w.0.1 >>= (λ (b : B). h w.0.2 >>= (λ (c : C). Ok (make a b c)))) line w.2 in
    let b = bind_ok (g w.0.1) (λ (b : B). h w.0.2 >>= (λ (c : C). Ok (make a.0 b c))) line a.2 in
    let c = bind_ok (h w.0.2) (λ (c : C). Ok (make a.0 b.0 c)) line b.2 in
    this_line n (make a.0 b.0 c.0) line c.2 (fits a.0 b.0 c.0 (ff w.0.0 a.0 a.1) (gg w.0.1 b.0 b.1) (hh w.0.2 c.0 c.1))

call_fits : (n : NameLists) → KindFits n (four (module_of n) number16 number16 number16 Call)
call_fits n fields line e =
    let w = bind_ok (ok_or (four_words fields) wrong_count) (λ (word : List ℕ × List ℕ × List ℕ × List ℕ).
    module_of n word.0 >>= (λ (a : ℕ). number16 word.1 >>= (λ (b : ℕ). number16 word.2 >>= (λ (c : ℕ). number16 word.3 >>= (λ (d : ℕ). Ok (Call a b c d)))))) line e in
    let a = bind_ok (module_of n w.0.0) (λ (a : ℕ).
    number16 w.0.1 >>= (λ (b : ℕ). number16 w.0.2 >>= (λ (c : ℕ). number16 w.0.3 >>= (λ (d : ℕ). Ok (Call a b c d))))) line w.2 in
    let b = bind_ok (number16 w.0.1) (λ (b : ℕ). number16 w.0.2 >>= (λ (c : ℕ). number16 w.0.3 >>= (λ (d : ℕ). Ok (Call a.0 b c d)))) line a.2 in
    let c = bind_ok (number16 w.0.2) (λ (c : ℕ). number16 w.0.3 >>= (λ (d : ℕ). Ok (Call a.0 b.0 c d))) line b.2 in
    let d = bind_ok (number16 w.0.3) (λ (d : ℕ). Ok (Call a.0 b.0 c.0 d)) line c.2 in
    let entry = (number_fits 0 65535 w.0.1 b.0 b.1).1 in
    let input = (number_fits 0 65535 w.0.2 c.0 c.1).1 in
    let output = (number_fits 0 65535 w.0.3 d.0 d.1).1 in
    this_line n (Call a.0 b.0 c.0 d.0) line d.2 (place_fits n.modules w.0.0 a.0 a.1, omega (arith, entry), omega (arith, input), omega (arith, output))

code_line_fits : (n : NameLists) (text : List ℕ) → KindFits n (code_line assembled n text)
code_line_fits n text fields line e =
    let w = bind_ok (ok_or (two_before fields) wrong_count) (λ (word : List ℕ × List ℕ).
    node_of n word.0 >>= (λ (a : ℕ). number16 word.1 >>= (λ (b : ℕ). code_of assembled b text >>= (λ (c : List ℕ). Ok (Put a b c))))) line e in
    let a = bind_ok (node_of n w.0.0) (λ (a : ℕ). number16 w.0.1 >>= (λ (b : ℕ). code_of assembled b text >>= (λ (c : List ℕ). Ok (Put a b c)))) line w.2 in
    let b = bind_ok (number16 w.0.1) (λ (b : ℕ). code_of assembled b text >>= (λ (c : List ℕ). Ok (Put a.0 b c))) line a.2 in
    let c = bind_ok (code_of assembled b.0 text) (λ (c : List ℕ). Ok (Put a.0 b.0 c)) line b.2 in
    let at = (number_fits 0 65535 w.0.1 b.0 b.1).1 in
    this_line n (Put a.0 b.0 c.0) line c.2 (place_fits n.nodes w.0.0 a.0 a.1, omega (arith, at), code_fits b.0 text c.0 c.1)

abbrev AreKindsFit : NameLists → List Kind → Type 0
AreKindsFit n [] = Unit {0}
AreKindsFit n (kind ∷ more) = KindFits n kind.1 × AreKindsFit n more

kinds_fit : (n : NameLists) (text : List ℕ) → AreKindsFit n (kinds assembled n text)
kinds_fit n text = (put, (forge, (code_line_fits n text, (run, (finish, (set_register, (take_bytes, (give, (sense, (irq, (reset, (ask, (answer, (load, (call_fits n, tt)))))))))))))))
  where
    put : KindFits n (three (node_of n) number16 (bytes_of 1024) Put)
    put = three_fits n (node_of n) number16 (bytes_of 1024) Put (λ i. i < length n.nodes) (IsBetween 0 65535) (AreFewBytes 1024)
        (place_fits n.nodes) (number_fits 0 65535) (bytes_fit 1024) (λ i at b hi hat hb. let x = hat.1 in (hi, omega (arith, x), hb))

    forge : KindFits n (one (bytes_of 384) Forge)
    forge = one_fits n (bytes_of 384) Forge (AreFewBytes 384) (bytes_fit 384) (λ b h. h)

    run : KindFits n (two (node_of n) (number_in 1 65535) Run)
    run = two_fits n (node_of n) (number_in 1 65535) Run (λ i. i < length n.nodes) (IsBetween 1 65535) (place_fits n.nodes) (number_fits 1 65535)
        (λ i k hi hk. let x = hk.1 in (hi, hk.0, omega (arith, x)))

    finish : KindFits n (one (node_of n) Finish)
    finish = one_fits n (node_of n) Finish (λ i. i < length n.nodes) (place_fits n.nodes) (λ i h. h)

    set_register : KindFits n (three (node_of n) register_of number16 Set)
    set_register = three_fits n (node_of n) register_of number16 Set (λ i. i < length n.nodes) IsSettable (IsBetween 0 65535)
        (place_fits n.nodes) register_fits (number_fits 0 65535) (λ i r v hi hr hv. let x = hv.1 in (hi, hr.0, hr.1, omega (arith, x)))

    take_bytes : KindFits n (three (node_of n) number16 (number_in 1 384) Take)
    take_bytes = three_fits n (node_of n) number16 (number_in 1 384) Take (λ i. i < length n.nodes) (IsBetween 0 65535) (IsBetween 1 384)
        (place_fits n.nodes) (number_fits 0 65535) (number_fits 1 384) (λ i at k hi hat hk. let x = hat.1 in (hi, omega (arith, x), hk.0, hk.1))

    give : KindFits n (three number32 (node_of n) number16 Give)
    give = three_fits n number32 (node_of n) number16 Give (IsBetween 0 4294967295) (λ i. i < length n.nodes) (IsBetween 0 65535)
        (number_fits 0 4294967295) (place_fits n.nodes) (number_fits 0 65535)
        (λ p i at hp hi hat. let x = hp.1 in let y = hat.1 in (omega (arith, x), hi, omega (arith, y)))

    sense : KindFits n (two (sensor_of n) (number_in 0 32767) Sense)
    sense = two_fits n (sensor_of n) (number_in 0 32767) Sense (IsSensor n) (IsBetween 0 32767) (sensor_fits n) (number_fits 0 32767)
        (λ d v hd hv. let x = hv.1 in (hd.0, hd.1, omega (arith, x)))

    irq : KindFits n (two (node_of n) (number_in 0 14) Irq)
    irq = two_fits n (node_of n) (number_in 0 14) Irq (λ i. i < length n.nodes) (IsBetween 0 14) (place_fits n.nodes) (number_fits 0 14) (λ i k hi hk. (hi, hk.1))

    reset : KindFits n (one (node_of n) Reset)
    reset = one_fits n (node_of n) Reset (λ i. i < length n.nodes) (place_fits n.nodes) (λ i h. h)

    ask : KindFits n (one (module_of n) Ask)
    ask = one_fits n (module_of n) Ask (λ i. i < length n.modules) (place_fits n.modules) (λ i h. h)

    answer : KindFits n (three (module_of n) number32 number32 Answer)
    answer = three_fits n (module_of n) number32 number32 Answer (λ i. i < length n.modules) (IsBetween 0 4294967295) (IsBetween 0 4294967295)
        (place_fits n.modules) (number_fits 0 4294967295) (number_fits 0 4294967295)
        (λ m b p hm hb hp. let x = hb.1 in let y = hp.1 in (hm, omega (arith, x), omega (arith, y)))

    load : KindFits n (one (module_of n) Load)
    load = one_fits n (module_of n) Load (λ i. i < length n.modules) (place_fits n.modules) (λ i h. h)

said_fits : (n : NameLists) (table : List Kind) (first : List ℕ) (fields : List (List ℕ)) (line : Line)
    → AreKindsFit n table → said_by table first fields ≡ Ok line → IsLine n line
said_fits n [] first fields line fit h = absurd (cc)
said_fits n (kind ∷ more) first fields line fit h =
    either (bytes_eq first kind.0) (kind.1 fields) (said_by more first fields) line (fit.0 fields line) (said_fits n more first fields line fit.1) h

in_words : (n : NameLists) (text : List ℕ) (words : List (List ℕ)) (line : Line) → said_in assembled n text words ≡ Ok line → IsLine n line
in_words n text [] line h = this_line n Blank line h tt
in_words n text (first ∷ fields) line h =
    either (is_comment first) (Ok Blank) (said_by (kinds assembled n text) first fields) line (λ e. this_line n Blank line e tt)
    (said_fits n (kinds assembled n text) first fields line (kinds_fit n text)) h

pub said_in_form : SaidInForm
unfolding said_line
said_in_form n text line h = in_words n (text_behind 3 text) (words_of text) line h

-- a line that is the answer is in form
pub answered_in_form : (n : NameLists) (text first : List ℕ) (fields : List (List ℕ)) (r : Result Read LineError)
    → Answers line_of (MayWant TakesMemory text) (said_by (kinds assembled n text) first fields) r → IfOk r (λ line. IsLine n (line_of line))
answered_in_form n text first fields (Ok line) h = said_fits n (kinds assembled n text) first fields (line_of line) (kinds_fit n text) h
answered_in_form n text first fields (Err e) h = tt
