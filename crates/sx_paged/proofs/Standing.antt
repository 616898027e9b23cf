-- Bytes that are in a memory from an address on, page by page.
use Rattle.std.proofs.Common.{◌≡◌, ℕ, zero, suc, ◌+◌, ◌-◌, ◌*◌, ◌/◌, ◌%◌, ◌<◌, ◌≤◌, Bool, true, false, ◌&&◌, List, [], ◌∷◌, ◌++◌, length, get_or, take, drop, refl, sym, ◌∙◌, ap, arith, append-nil, Option, None}
use Rattle.std.proofs.lemmas.List.{length-append, length-drop, length-take-le, take-append-drop, take-append-le, take-take, drop-drop, take_at, drop_at, drop_all, drop-append-le, drop-take}
use Rattle.std.proofs.lemmas.List.Elements.{All-head, All-tail}
use Rattle.std.specs.Prelude.{All, bytes_eq, nat_eq}
use borrow.Rule.Slice.PartMut.{put_mid}
use Rattle.sx_pages.specs.Pages.{Pages}
use Rattle.sx_paged.specs.Memory.{page_bytes, joined, IsMemory}

abbrev Even : Option (List ℕ) → Type 0
Even page = length (page_bytes page) ≡ 256

length-pages : (pages : Pages) → All Even pages → length (joined pages) ≡ length pages * 256
length-pages [] all = refl
length-pages (p ∷ ps) all = omega (arith, length-append (page_bytes p) (joined ps), All-head Even p ps all, length-pages ps (All-tail Even p ps all))

pub length-joined : (pages : Pages) → IsMemory pages → length (joined pages) ≡ 65536
length-joined pages is = omega (arith, length-pages pages is.even, is.count)

within : (n j : ℕ) (xs ys : List ℕ) → j + n ≤ length xs → take n (drop j (xs ++ ys)) ≡ take n (drop j xs)
within n j xs ys h =
    ap (take n) (drop-append-le j xs ys (omega (arith, h))) ∙ take-append-le n (drop j xs) ys (omega (arith, h, length-drop j xs))

past : (j : ℕ) (xs ys : List ℕ) → drop (length xs + j) (xs ++ ys) ≡ drop j ys
past j xs ys = sym (drop-drop j (length xs) (xs ++ ys)) ∙ ap (drop j) (drop_at xs ys (length xs) refl)

on_page : (pages : Pages) (i j n : ℕ) → All Even pages → i < length pages → j + n ≤ 256
    → take n (drop (i * 256 + j) (joined pages)) ≡ take n (drop j (page_bytes (get_or pages i None)))
on_page [] i j n all h k = absurd (omega (arith, h))
on_page (p ∷ ps) zero j n all h k =
    let at : 0 * 256 + j ≡ j = omega arith in
    ap (λ (m : ℕ). take n (drop m (page_bytes p ++ joined ps))) at ∙ within n j (page_bytes p) (joined ps) (omega (arith, All-head Even p ps all, k))
on_page (p ∷ ps) (suc i) j n all h k =
    let at : suc i * 256 + j ≡ length (page_bytes p) + (i * 256 + j) = omega (arith, All-head Even p ps all) in
    ap (λ (m : ℕ). take n (drop m (page_bytes p ++ joined ps))) at ∙ ap (take n) (past (i * 256 + j) (page_bytes p) (joined ps))
    ∙ on_page ps i j n (All-tail Even p ps all) (omega (arith, h)) k

-- the bytes from an address on, where no page ends before them, are those of its page
pub stand_on_page : (pages : Pages) (at n : ℕ) → IsMemory pages → at < 65536 → at % 256 + n ≤ 256
    → take n (drop at (joined pages)) ≡ take n (drop (at % 256) (page_bytes (get_or pages (at / 256) None)))
stand_on_page pages at n is h k =
    let whole : at ≡ at / 256 * 256 + at % 256 = omega arith in
    ap (λ (m : ℕ). take n (drop m (joined pages))) whole ∙ on_page pages (at / 256) (at % 256) n is.even (omega (arith, is.count, h)) k

and_assoc : (a b c : Bool) → ((a && b) && c) ≡ (a && (b && c))
and_assoc true b c = refl
and_assoc false b c = refl

both_parts : (xs ys vs ws : List ℕ) → length xs ≡ length vs → bytes_eq (xs ++ ys) (vs ++ ws) ≡ (bytes_eq xs vs && bytes_eq ys ws)
both_parts [] ys [] ws e = refl
both_parts [] ys (v ∷ vs) ws e = absurd (omega (arith, e))
both_parts (x ∷ xs) ys [] ws e = absurd (omega (arith, e))
both_parts (x ∷ xs) ys (v ∷ vs) ws e =
    ap (λ (t : Bool). nat_eq x v && t) (both_parts xs ys vs ws (omega (arith, e))) ∙ sym (and_assoc (nat_eq x v) (bytes_eq xs vs) (bytes_eq ys ws))

in_two : (n m : ℕ) (xs : List ℕ) → take (n + m) xs ≡ take n xs ++ take m (drop n xs)
in_two n m xs = sym (take-append-drop n (take (n + m) xs))
    ∙ (λ j. take-take n (n + m) xs (omega arith) j ++ drop-take n m xs j)

-- bytes from an address on are the first of them, and those that follow
pub two_stretches : (mem : List ℕ) (at n m : ℕ) → take (n + m) (drop at mem) ≡ take n (drop at mem) ++ take m (drop (at + n) mem)
two_stretches mem at n m = in_two n m (drop at mem) ∙ ap (λ (bytes : List ℕ). take n (drop at mem) ++ take m bytes) (drop-drop n at mem)

-- bytes were copied up to a page's end, and those that follow behind them
pub copied_on : (mem into first rest : List ℕ) (at room : ℕ) → length first ≡ room → room ≤ length into → first ≡ take room (drop at mem)
    → rest ≡ take (length into - room) (drop (at + room) mem)
    → put_mid room (length (first ++ drop room into) - room) (first ++ drop room into) rest ≡ take (length into) (drop at mem)
copied_on mem into first rest at room long inside here there =
    let all : List ℕ = first ++ drop room into in let left : ℕ = length into - room in
    let tail : length (drop room into) ≡ left = length-drop room into in
    let more : length all - room ≡ left = omega (arith, length-append first (drop room into), long, tail) in
    let front : take room all ≡ first = take_at first (drop room into) room long in
    let back : drop (length all - room) (drop room all) ≡ [] =
    (λ j. drop (more j) (drop_at first (drop room into) room long j)) ∙ drop_all left (drop room into) (omega (arith, tail)) in
    let sum : room + left ≡ length into = omega (arith, inside) in
    (λ j. front j ++ (rest ++ back j)) ∙ ap (λ (bytes : List ℕ). first ++ bytes) (append-nil rest) ∙ (λ j. here j ++ there j)
    ∙ sym (two_stretches mem at room left) ∙ ap (λ (n : ℕ). take n (drop at mem)) sum

-- bytes are from an address on where their first part is there, and the rest after it
pub stand_in_two : (mem : List ℕ) (at : ℕ) (first rest : List ℕ) → at + (length first + length rest) ≤ length mem
    → bytes_eq (take (length first + length rest) (drop at mem)) (first ++ rest)
    ≡ (bytes_eq (take (length first) (drop at mem)) first && bytes_eq (take (length rest) (drop (at + length first) mem)) rest)
stand_in_two mem at first rest h =
    let long : length (take (length first) (drop at mem)) ≡ length first = length-take-le (length first) (drop at mem) (omega (arith, h, length-drop at mem)) in
    ap (λ (bytes : List ℕ). bytes_eq bytes (first ++ rest)) (in_two (length first) (length rest) (drop at mem))
    ∙ both_parts (take (length first) (drop at mem)) (take (length rest) (drop (length first) (drop at mem))) first rest long
    ∙ ap (λ (bytes : List ℕ). bytes_eq (take (length first) (drop at mem)) first && bytes_eq (take (length rest) bytes) rest) (drop-drop (length first) at mem)

-- the same of bytes that are these two parts, where it is known of each
pub in_parts : (mem : List ℕ) (at room : ℕ) (all first rest : List ℕ) (here there : Bool) → all ≡ first ++ rest → length first ≡ room → at + length all ≤ length mem
    → here ≡ bytes_eq (take (length first) (drop at mem)) first → there ≡ bytes_eq (take (length rest) (drop (at + room) mem)) rest
    → (here && there) ≡ bytes_eq (take (length all) (drop at mem)) all
in_parts mem at room all first rest here there whole long h one two =
    let sum : length first + length rest ≡ length all = sym (ap length whole ∙ length-append first rest) in
    let place : at + room ≡ at + length first = omega (arith, long) in
    (λ j. one j && (two ∙ ap (λ (p : ℕ). bytes_eq (take (length rest) (drop p mem)) rest) place) j)
    ∙ sym (stand_in_two mem at first rest (omega (arith, sum, h)))
    ∙ (λ j. bytes_eq (take (sum j) (drop at mem)) (sym whole j))
