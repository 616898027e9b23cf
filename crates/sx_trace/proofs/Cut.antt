-- Texts that are cut at their first space, and the numbers that digits write.
use Rattle.std.proofs.Common.{◌≡◌, ℕ, suc, ◌+◌, ◌-◌, ◌*◌, ◌/◌, ◌%◌, ◌^◌, ◌<◌, ◌≤◌, Bool, true, false, ◌==◌, ◌&&◌, not, nat_le, nat_lt, List, [], ◌∷◌, ◌++◌, length}
use Rattle.std.proofs.Common.{take, drop, decimal, if◌then◌else◌, Option, Some, None, refl, sym, ap, subst, ◌∙◌, append_assoc, length-append, cond, map, w64, arith}
use Rattle.std.specs.Prelude.{position, unwrap_or}
use Rattle.std.specs.List.{list_all, position_or_len}
use Rattle.std.specs.Int.{trailing_zeros}
use Rattle.std.specs.Simd.Lanes.{mask_l}
use Rattle.std.proofs.lemmas.Bool.Decides.{nat_tests}
use Rattle.std.proofs.lemmas.List.{append-nil, length-take-le, take-append-drop, take_at, drop_at, drop-drop}
use Rattle.std.proofs.lemmas.List.Folds.{list_all-append, prefix_len-append}
use Rattle.std.proofs.lemmas.Simd.{trailing_mask_l}
use Rattle.std.proofs.lemmas.Fmt.{decimal_by_steps_wide, decimal_digit, decimal_step_wide}
use Rattle.std.proofs.lemmas.Bool.{and_parts, not-true}
use Rattle.sx_trace.specs.Finding.{is_space, cut, with_digit, with_digits, has_first, number_below, ◌>>=◌}

abbrev pub is_plain : ℕ → Bool
is_plain b = not (is_space b)

-- a word has no space
abbrev pub is_word : List ℕ → Bool
is_word w = list_all is_plain w

before_space : (w rest : List ℕ) → is_word w ≡ true → position_or_len is_space (w ++ 32 ∷ rest) ≡ length w
before_space [] rest h = refl
before_space (b ∷ bs) rest h =
    let both = and_parts (is_plain b) (is_word bs) h in
    let more : 1 + position_or_len is_space (bs ++ 32 ∷ rest) ≡ suc (length bs) = let e = before_space bs rest both.1 in omega (arith, e) in
    rw both.0 more

-- what is before the first space is a word, and the rest follows it
pub cut_word : (w rest : List ℕ) → is_word w ≡ true → cut (w ++ 32 ∷ rest) ≡ Some (w, rest)
unfolding cut
cut_word w rest h =
    let long : length (w ++ 32 ∷ rest) ≡ length w + suc (length rest) = length-append w (32 ∷ rest) in
    let within : nat_lt (length w) (length (w ++ 32 ∷ rest)) ≡ true = grind (arith, nat_tests, long) in
    let found : position is_space (w ++ 32 ∷ rest) ≡ Some (length w) = rw (before_space w rest h, within) refl in
    let front : take (length w) (w ++ 32 ∷ rest) ≡ w = take_at w (32 ∷ rest) (length w) refl in
    let behind : drop (length w + 1) (w ++ 32 ∷ rest) ≡ rest =
    sym (drop-drop 1 (length w) (w ++ 32 ∷ rest)) ∙ ap (λ (xs : List ℕ). drop 1 xs) (drop_at w (32 ∷ rest) (length w) refl) in
    ap (λ (o : Option ℕ). o >>= (λ i. Some (take i (w ++ 32 ∷ rest), drop (i + 1) (w ++ 32 ∷ rest)))) found ∙ (rw (front, behind) refl)

-- the first space is between what is before it and what is after it
abbrev IsSplit : List ℕ → ℕ → Type 0
IsSplit t n = n < length t → t ≡ take n t ++ 32 ∷ drop (n + 1) t

split : (t : List ℕ) → IsSplit t (position_or_len is_space t)
split [] lt = absurd (omega arith)
split (b ∷ bs) lt = by_test (split bs) (b == 32) refl lt
  where
    by_test : IsSplit bs (position_or_len is_space bs) → (t : Bool) → (b == 32) ≡ t → IsSplit (b ∷ bs) (position_or_len is_space (b ∷ bs))
    by_test rest true e lt = let same : b ≡ 32 = grind (arith, nat_tests, e) in rw (e, same) refl
    by_test rest false e lt =
        let n = position_or_len is_space bs in
        let far : position_or_len is_space (b ∷ bs) ≡ 1 + n = rw e refl in
        let next : position_or_len is_space (b ∷ bs) ≡ suc n = omega (arith, far) in
        let further : suc n + 1 ≡ suc (n + 1) = omega arith in
        let within : n < length bs = omega (arith, far, lt) in
        rw (next, further) (ap (λ (xs : List ℕ). b ∷ xs) (rest within))

-- what is cut is the two parts with a space between them
pub cut_joined : (t : List ℕ) (f : List ℕ × List ℕ) → cut t ≡ Some f → t ≡ f.0 ++ 32 ∷ f.1
unfolding cut
cut_joined t f h = by_test (nat_lt (position_or_len is_space t) (length t)) refl
  where
    by_test : (b : Bool) → nat_lt (position_or_len is_space t) (length t) ≡ b → t ≡ f.0 ++ 32 ∷ f.1
    by_test true e =
        let n = position_or_len is_space t in
        let g : List ℕ × List ℕ = (take n t, drop (n + 1) t) in
        let at : position is_space t ≡ Some n = rw e refl in
        let found : Some g ≡ Some f = sym (ap (λ (o : Option ℕ). o >>= (λ i. Some (take i t, drop (i + 1) t))) at) ∙ h in
        let same : g ≡ f = ap (λ (o : Option (List ℕ × List ℕ)). unwrap_or o f) found in
        let within : n < length t = grind (arith, nat_tests, e) in
        subst (λ (p : List ℕ × List ℕ). t ≡ p.0 ++ 32 ∷ p.1) same (split t within)
    by_test false e =
        let at : position is_space t ≡ None = rw e refl in
        let none : None ≡ Some f = sym (ap (λ (o : Option ℕ). o >>= (λ i. Some (take i t, drop (i + 1) t))) at) ∙ h in
        absurd (cc none)

one_digit : (limit v d n : ℕ) → d < 10 → v * 10 + d ≡ n → n < limit → with_digit limit v (48 + d) ≡ Some n
one_digit limit v d n few e small =
    let same : v * 10 + (48 + d - 48) ≡ n = omega (arith, e) in
    let low : nat_le 48 (48 + d) ≡ true = grind (arith, nat_tests) in
    let high : nat_le (48 + d) 57 ≡ true = grind (arith, nat_tests) in
    let fits : nat_lt n limit ≡ true = grind (arith, nat_tests) in
    rw (same, low, high, fits) refl

-- a digit isn't the first of more than one digits if it is 0
abbrev is_first : List ℕ → Bool
is_first [] = false
is_first (b ∷ bs) = not (b == 48)

first_is : (ds : List ℕ) → is_first ds ≡ true → has_first ds ≡ true
first_is [] h = h
first_is (b ∷ bs) h = rw (not-true (b == 48) h) refl

first_stays : (ds rest : List ℕ) → is_first ds ≡ true → is_first (ds ++ rest) ≡ true
first_stays [] rest h = absurd (cc h)
first_stays (b ∷ bs) rest h = h

module _ (limit : ℕ) where
  -- reading goes through a decimal number's digits
  abbrev GoesThrough : ℕ → List ℕ → Type 0
  GoesThrough n ds = n < limit → (rest : List ℕ) → with_digits limit 0 (ds ++ rest) ≡ with_digits limit n rest

  goes_through : (n : ℕ) → n < 10 ^ 64 → GoesThrough n (decimal n)
  goes_through = decimal_by_steps_wide GoesThrough one more
    where
      one : (n : ℕ) → n < 10 → GoesThrough n ((48 + n) ∷ [])
      one n h small rest = ap (λ (o : Option ℕ). o >>= (λ v. with_digits limit v rest)) (one_digit limit 0 n n h (omega arith) small)

      more : (n : ℕ) (ds : List ℕ) → 10 ≤ n → GoesThrough (n / 10) ds → GoesThrough n (ds ++ ((48 + n % 10) ∷ []))
      more n ds h front small rest =
          ap (with_digits limit 0) (append_assoc ds ((48 + n % 10) ∷ []) rest) ∙ front (omega arith) ((48 + n % 10) ∷ rest)
          ∙ ap (λ (o : Option ℕ). o >>= (λ v. with_digits limit v rest)) (one_digit limit (n / 10) (n % 10) n (omega arith) (omega arith) small)

abbrev StartsWell : ℕ → List ℕ → Type 0
StartsWell n ds = (has_first ds ≡ true) × (0 < n → is_first ds ≡ true)

starts_well : (n : ℕ) → n < 10 ^ 64 → StartsWell n (decimal n)
starts_well = decimal_by_steps_wide StartsWell one more
  where
    one : (n : ℕ) → n < 10 → StartsWell n ((48 + n) ∷ [])
    one n h = by_test (n == 0) refl
      where
        by_test : (t : Bool) → (n == 0) ≡ t → StartsWell n ((48 + n) ∷ [])
        by_test true e = let none : n ≡ 0 = grind (arith, nat_tests, e) in (rw none refl, λ some. absurd (omega (arith, none, some)))
        by_test false e = let no : ((48 + n) == 48) ≡ false = grind (arith, nat_tests, e) in (rw no refl, λ some. rw no refl)

    more : (n : ℕ) (ds : List ℕ) → 10 ≤ n → StartsWell (n / 10) ds → StartsWell n (ds ++ ((48 + n % 10) ∷ []))
    more n ds h front =
        let first = first_stays ds ((48 + n % 10) ∷ []) (front.1 (omega arith)) in
        (first_is (ds ++ ((48 + n % 10) ∷ [])) first, λ some. first)

-- a decimal number is read
pub number_read : (limit n : ℕ) → n < limit → limit ≤ 2 ^ 128 → number_below limit (decimal n) ≡ Some n
unfolding number_below
number_read limit n h few =
    let e = goes_through limit n (omega arith) h [] in
    rw (starts_well n (omega arith)).0 (ap (with_digits limit 0) (sym (append-nil (decimal n))) ∙ e)

-- a digit that is taken
record Taken (limit n b more : ℕ) : Type 0 where
  low : 48 ≤ b
  high : b ≤ 57
  is : n * 10 + (b - 48) ≡ more
  small : more < limit

taken : (limit n b more : ℕ) → with_digit limit n b ≡ Some more → Taken limit n b more
taken limit n b more h = by_test (nat_le 48 b && nat_le b 57 && nat_lt (n * 10 + (b - 48)) limit) refl
  where
    by_test : (t : Bool) → (nat_le 48 b && nat_le b 57 && nat_lt (n * 10 + (b - 48)) limit) ≡ t → Taken limit n b more
    by_test false e = let none : None ≡ Some more = sym (rw e refl) ∙ h in absurd (cc none)
    by_test true e =
        let found : Some (n * 10 + (b - 48)) ≡ Some more = sym (rw e refl) ∙ h in
        let same : n * 10 + (b - 48) ≡ more = cc found in
        let both = and_parts (nat_le 48 b && nat_le b 57) (nat_lt (n * 10 + (b - 48)) limit) e in
        let digit = and_parts (nat_le 48 b) (nat_le b 57) both.0 in
        let fits : nat_lt (n * 10 + (b - 48)) limit ≡ true = both.1 in
        let least : nat_le 48 b ≡ true = digit.0 in
        let most : nat_le b 57 ≡ true = digit.1 in
        record {
          low = grind (arith, nat_tests, least);
          high = grind (arith, nat_tests, most);
          is = same;
          small = grind (arith, nat_tests, fits, same);
        }

-- digits that follow a number which isn't 0
abbrev Follow : ℕ → ℕ → ℕ → List ℕ → Type 0
Follow limit v n bs = 0 < n → n < limit → with_digits limit n bs ≡ Some v → decimal n ++ bs ≡ decimal v

behind : (limit v n : ℕ) (bs : List ℕ) → limit ≤ 2 ^ 128 → Follow limit v n bs
behind limit v n [] few some small h = let same : n ≡ v = cc h in append-nil (decimal n) ∙ ap decimal same
behind limit v n (b ∷ bs) few some small h = by (λ more. behind limit v more bs few) (with_digit limit n b) refl h
  where
    by : ((more : ℕ) → Follow limit v more bs) → (o : Option ℕ) → with_digit limit n b ≡ o → (o >>= (λ more. with_digits limit more bs)) ≡ Some v → decimal n ++ b ∷ bs ≡ decimal v
    by rest None e g = absurd (cc g)
    by rest (Some more) e g =
        let t = taken limit n b more e in
        let low = t.low in
        let high = t.high in
        let is = t.is in
        let few_more = t.small in
        let front : more / 10 ≡ n = omega (arith, low, high, is) in
        let last : 48 + more % 10 ≡ b = omega (arith, low, high, is) in
        let large : 10 ≤ more = omega (arith, is, some) in
        let short : more < 10 ^ 64 = omega (arith, few_more, few) in
        let longer : decimal more ≡ decimal n ++ (b ∷ []) = decimal_step_wide more large short ∙ rw (front, last) refl in
        sym (append_assoc (decimal n) (b ∷ []) bs) ∙ ap (λ (ds : List ℕ). ds ++ bs) (sym longer) ∙ rest more (omega (arith, large)) few_more g

-- a text that is read as a number is its decimal digits
pub number_text : (limit v : ℕ) (t : List ℕ) → limit ≤ 2 ^ 128 → number_below limit t ≡ Some v → t ≡ decimal v
unfolding number_below
number_text limit v [] few h = absurd (cc h)
number_text limit v (b ∷ bs) few h = by_test (b == 48) refl h
  where
    zero_alone : (bs : List ℕ) → b ≡ 48 → (if length bs == 0 then with_digits limit 0 (b ∷ bs) else None) ≡ Some v → b ∷ bs ≡ decimal v
    zero_alone (c ∷ cs) e g =
        let more : (length (c ∷ cs) == 0) ≡ false = grind (arith, nat_tests) in
        let none : None ≡ Some v = rw more at g in
        absurd (cc none)
    zero_alone [] e g = by (with_digit limit 0 b) refl g
      where
        by : (o : Option ℕ) → with_digit limit 0 b ≡ o → (o >>= (λ more. with_digits limit more [])) ≡ Some v → b ∷ [] ≡ decimal v
        by None f k = absurd (cc k)
        by (Some more) f k =
            let t = taken limit 0 b more f in
            let same : more ≡ v = cc k in
            let none : v ≡ 0 = let s = t.is in omega (arith, s, e, same) in
            rw (e, none) (sym (decimal_digit 0 (omega arith)))

    first : (b == 48) ≡ false → with_digits limit 0 (b ∷ bs) ≡ Some v → b ∷ bs ≡ decimal v
    first e g = by (with_digit limit 0 b) refl g
      where
        by : (o : Option ℕ) → with_digit limit 0 b ≡ o → (o >>= (λ more. with_digits limit more bs)) ≡ Some v → b ∷ bs ≡ decimal v
        by None f k = absurd (cc k)
        by (Some more) f k =
            let t = taken limit 0 b more f in
            let is : 48 + more ≡ b = let a = t.low in let s = t.is in omega (arith, a, s) in
            let some : 0 < more = let a = t.low in let s = t.is in grind (arith, nat_tests, e, a, s) in
            let one : more < 10 = let c = t.high in omega (arith, is, c) in
            let alone : decimal more ≡ b ∷ [] = decimal_digit more one ∙ rw is refl in
            ap (λ (ds : List ℕ). ds ++ bs) (sym alone) ∙ behind limit v more bs few some t.small k

    by_test : (t : Bool) → (b == 48) ≡ t → (if (if t then length bs == 0 else true) then with_digits limit 0 (b ∷ bs) else None) ≡ Some v → b ∷ bs ≡ decimal v
    by_test true e g = let same : b ≡ 48 = grind (arith, nat_tests, e) in zero_alone bs same g
    by_test false e g = first e g

-- a decimal number is a word
pub decimal_word : (n : ℕ) → n < 2 ^ 128 → is_word (decimal n) ≡ true
decimal_word n h = decimal_by_steps_wide (λ n ds. is_word ds ≡ true) one more n (omega arith)
  where
    digit : (d : ℕ) → is_plain (48 + d) ≡ true
    digit d = let n : ((48 + d) == 32) ≡ false = grind (arith, nat_tests) in rw n refl

    one : (n : ℕ) → n < 10 → is_word ((48 + n) ∷ []) ≡ true
    one n h = rw (digit n) refl

    more : (n : ℕ) (ds : List ℕ) → 10 ≤ n → is_word ds ≡ true → is_word (ds ++ ((48 + n % 10) ∷ [])) ≡ true
    more n ds h front = list_all-append is_plain ds ((48 + n % 10) ∷ []) ∙ rw (front, digit (n % 10)) refl

-- where some lane passes a test, fewer lanes than all are before the first that does
some_passes : (p : ℕ → Bool) (xs : List ℕ) → 0 < mask_l (map p xs) → position_or_len p xs < length xs
some_passes p [] some = absurd (omega (arith, some))
some_passes p (x ∷ xs) some = by_test (some_passes p xs) (p x) refl
  where
    by_test : (0 < mask_l (map p xs) → position_or_len p xs < length xs) → (t : Bool) → p x ≡ t → position_or_len p (x ∷ xs) < length (x ∷ xs)
    by_test rest true e = rw e (omega arith)
    by_test rest false e =
        let behind : 0 < cond false 1 0 + 2 * mask_l (map p xs) = rw e at some in
        let within = rest (omega (arith, behind)) in
        rw e (omega (arith, within))

-- what is found in a list's front is found in the list
found_in_front : (p : ℕ → Bool) (xs ys : List ℕ) → position_or_len p xs < length xs → position_or_len p (xs ++ ys) ≡ position_or_len p xs
found_in_front p xs ys within =
    let differ : (position_or_len p xs == length xs) ≡ false = grind (arith, nat_tests, within) in
    prefix_len-append (λ x. not (p x)) xs ys ∙ rw differ refl

-- the lowest bit of the mask of the spaces among the first 8 bytes is the place of the first space
module _ (text : List ℕ) (mask : ℕ) (long : 8 ≤ length text) (is : mask ≡ mask_l (map is_space (take 8 text))) (some : 0 < mask) where
  abbrev front : List ℕ
  front = take 8 text

  size : length front ≡ 8
  size = length-take-le 8 text long

  set : 0 < mask_l (map is_space front)
  set = omega (arith, is, some)

  lowest : trailing_zeros w64 mask ≡ position_or_len is_space front
  lowest = ap (trailing_zeros w64) is ∙ trailing_mask_l is_space 64 front (omega (arith, size)) set

  place : position_or_len is_space text ≡ position_or_len is_space front
  place = ap (λ (xs : List ℕ). position_or_len is_space xs) (sym (take-append-drop 8 text)) ∙ found_in_front is_space front (drop 8 text) (some_passes is_space front set)

  pub near_within : trailing_zeros w64 mask < length text
  near_within = let within = some_passes is_space front set in omega (arith, lowest, within, size, long)

  pub near_is_first : position is_space text ≡ Some (trailing_zeros w64 mask)
  near_is_first =
      let within = near_within in
      let there : nat_lt (position_or_len is_space text) (length text) ≡ true = grind (arith, nat_tests, place, lowest, within) in
      rw there (ap Some (place ∙ sym lowest))
