-- Numbers that are written, and those that aren't written yet.
use Rattle.std.proofs.Common.{get_or, set, drop, ◌≡◌, ℕ, zero, suc, ◌+◌, ◌-◌, ◌<◌, ◌≤◌, ◌*◌, ◌==◌, ◌⊎◌, inl, inr, Bool, true, false, List, [], ◌∷◌, ◌++◌}
use Rattle.std.proofs.Common.{length, replicate, if◌then◌else◌, Option, Some, None, slice_get, append_assoc, refl, sym, ap, ◌∙◌, subst, arith}
use Rattle.std.specs.Prelude.{is_some, slice_set}
use Rattle.std.specs.List.{cons_option}
use Rattle.std.specs.Option.{option_to_list}
use Rattle.std.proofs.lemmas.List.{append-nil, length-append, length-replicate, length_push, length-set}
use Rattle.std.proofs.lemmas.Bool.{cases_eq, eqb-true}
use Rattle.std.proofs.lemmas.Option.{same_Some}
use Rattle.sx_lang.specs.declared.sides.Side.TheVariants.{From, To}
use Rattle.sx_mean.specs.declared.apps.Link.{Link}
use Rattle.sx_mean.specs.declared.events.End.{End}
use Rattle.sx_mean.specs.Ends.{ends_after, receiving, sending}
use Rattle.sx_model.specs.State.{Model}
use Rattle.sx_model.specs.Epochs.{open_epoch}
use Rattle.sx_model.specs.Changes.{is_from}
use Rattle.sx_explain.specs.Causes.{or_else, word_of}
use Rattle.sx_explain.specs.Filling.{Fills, IsFullAt, IsFullEnd, IsFullOf, at_field, ends_at, full}

-- how many there are with those that aren't written
pub length_full : (n count : ℕ) (xs : List ℕ) → length xs ≤ count → length (full n count xs) ≡ count
length_full n count xs h =
    let a = length-append xs (replicate (count - length xs) n) in
    let b = length-replicate {A = ℕ} (count - length xs) n in
    omega (arith, a, b, h)

pub length_under : (n count : ℕ) (xs : List ℕ) → length xs ≤ length (full n count xs)
length_under n count xs = let a = length-append xs (replicate (count - length xs) n) in omega (arith, a)

pub full_all : (n count : ℕ) (xs : List ℕ) → count ≤ length xs → full n count xs ≡ xs
full_all n count xs h =
    let none : count - length xs ≡ 0 = omega (arith, h) in
    ap (λ k. xs ++ replicate k n) none ∙ append-nil xs

pub full_push : (n count : ℕ) (xs : List ℕ) → length xs < count → full n count (xs ++ n ∷ []) ≡ full n count xs
full_push n count xs lt =
    let l = length_push xs n in
    let k : count - length xs ≡ suc (count - length (xs ++ n ∷ [])) = omega (arith, lt, l) in
    append_assoc xs (n ∷ []) (replicate (count - length (xs ++ n ∷ [])) n) ∙ ap (λ k. xs ++ replicate k n) (sym k)

-- the numbers, each with its word
pub get_replicated : (n : ℕ) (ws : List ℕ) (p : ℕ) → slice_get (replicate (length ws) n) p ≡ (if is_some (slice_get ws p) then Some n else None)
get_replicated n [] p = refl
get_replicated n (w ∷ ws) zero = refl
get_replicated n (w ∷ ws) (suc p) = get_replicated n ws p

pub get_full : (n : ℕ) (cs ws : List ℕ) (p : ℕ) → length cs ≤ length ws → slice_get (full n (length ws) cs) p ≡ or_else (slice_get cs p) (if is_some (slice_get ws p) then Some n else None)
get_full n [] ws p h = let e : length ws - 0 ≡ length ws = omega arith in rw e (get_replicated n ws p)
get_full n (c ∷ cs) [] p h = absurd (omega (arith, h))
get_full n (c ∷ cs) (w ∷ ws) zero h = refl
get_full n (c ∷ cs) (w ∷ ws) (suc p) h =
    let e : suc (length ws) - suc (length cs) ≡ length ws - length cs = omega arith in
    rw e (get_full n cs ws p (omega (arith, h)))

-- a list at a field, and a word there
pub field_word : (ss : List (List ℕ)) (field place : ℕ) → slice_get (at_field ss field) place ≡ word_of ss field place
field_word [] field place = refl
field_word (s ∷ ss) zero place = refl
field_word (s ∷ ss) (suc field) place = field_word ss field place

pub none_at : (n field : ℕ) → at_field (replicate n []) field ≡ []
none_at zero field = refl
none_at (suc n) zero = refl
none_at (suc n) (suc field) = none_at n field

pub field_set : (ss : List (List ℕ)) (at : ℕ) (xs : List ℕ) → at < length ss → at_field (slice_set ss at xs) at ≡ xs
field_set [] at xs h = absurd (omega (arith, h))
field_set (s ∷ ss) zero xs h = refl
field_set (s ∷ ss) (suc at) xs h = field_set ss at xs (omega (arith, h))

pub field_other : (ss : List (List ℕ)) (at field : ℕ) (xs : List ℕ) → (at ≡ field → ⊥) → at_field (slice_set ss at xs) field ≡ at_field ss field
field_other [] at field xs n = refl
field_other (s ∷ ss) zero zero xs n = absurd (n refl)
field_other (s ∷ ss) zero (suc field) xs n = refl
field_other (s ∷ ss) (suc at) zero xs n = refl
field_other (s ∷ ss) (suc at) (suc field) xs n = field_other ss at field xs (λ e. n (ap suc e))

-- numbers are added

pub fills_none : (n : ℕ) (sent causes : List (List ℕ)) → Fills n sent causes causes
fills_none n sent causes = record { width = refl; keeps = λ field. refl; grows = λ field. omega arith }

pub fills_on : (n : ℕ) (sent a b c : List (List ℕ)) → Fills n sent a b → Fills n sent b c → Fills n sent a c
fills_on n sent a b c f g = record {
  width = g.width ∙ f.width;
  keeps = λ field. g.keeps field ∙ f.keeps field;
  grows = λ field. (let x = f.grows field in let y = g.grows field in omega (arith, x, y));
}

pub fills_at : (n : ℕ) (sent causes : List (List ℕ)) (at : ℕ) (xs : List ℕ) → at < length causes
    → full n (length (at_field sent at)) xs ≡ full n (length (at_field sent at)) (at_field causes at) → length (at_field causes at) ≤ length xs → Fills n sent causes (slice_set causes at xs)
fills_at n sent causes at xs within keeps grows = record {
  width = length-set causes at xs;
  keeps = λ field. elim (cases_eq at field) [
    | inl s ↦ subst (λ field. full n (length (at_field sent field)) (at_field (slice_set causes at xs) field) ≡ full n (length (at_field sent field)) (at_field causes field)) s
        (ap (λ ys. full n (length (at_field sent at)) ys) (field_set causes at xs within) ∙ keeps)
    | inr o ↦ ap (λ ys. full n (length (at_field sent field)) ys) (field_other causes at field xs o)
  ];
  grows = λ field. elim (cases_eq at field) [
    | inl s ↦ subst (λ field. length (at_field causes field) ≤ length (at_field (slice_set causes at xs) field)) s
        (let e = ap (λ (ys : List ℕ). length ys) (field_set causes at xs within) in omega (arith, e, grows))
    | inr o ↦ (let e = ap (λ (ys : List ℕ). length ys) (field_other causes at field xs o) in omega (arith, e))
  ];
}

-- a list that is found at a field
pub at_found : (ss : List (List ℕ)) (f : ℕ) (ws : List ℕ) → f < length ss → ws ≡ get_or ss f ws → at_field ss f ≡ ws
at_found [] f ws lt e = absurd (omega (arith, lt))
at_found (s ∷ ss) zero ws lt e = sym e
at_found (s ∷ ss) (suc f) ws lt e = at_found ss f ws (omega (arith, lt)) e

pub fills_found : (n : ℕ) (sent ss : List (List ℕ)) (f : ℕ) (ws new : List ℕ) → f < length ss → ws ≡ get_or ss f ws
    → full n (length (at_field sent f)) new ≡ full n (length (at_field sent f)) ws → length ws ≤ length new → Fills n sent ss (set ss f new)
fills_found n sent ss f ws new lt e keeps grows =
    let is = at_found ss f ws lt e in
    let l = ap (λ (xs : List ℕ). length xs) is in
    fills_at n sent ss f new lt (keeps ∙ ap (λ xs. full n (length (at_field sent f)) xs) (sym is)) (omega (arith, l, grows))

pub full_found : (sent ss : List (List ℕ)) (f : ℕ) (new : List ℕ) → f < length ss → length (at_field sent f) ≤ length new → IsFullOf sent (set ss f new) f
full_found sent ss f new lt h within = let l = ap (λ (xs : List ℕ). length xs) (field_set ss f new lt) in omega (arith, l, h)

pub full_past : (sent ss : List (List ℕ)) (f : ℕ) → length ss ≤ f → IsFullOf sent ss f
full_past sent ss f past within = absurd (omega (arith, past, within))

-- what has its numbers keeps them
pub full_kept : (n : ℕ) (sent a b : List (List ℕ)) (f : ℕ) → Fills n sent a b → IsFullOf sent a f → IsFullOf sent b f
full_kept n sent a b f g h within =
    let w = g.width in
    let x = h (omega (arith, w, within)) in
    let y = g.grows f in
    omega (arith, x, y)

-- The connections so far: the ends that the module holds of them, how many these are, and that what
-- was sent over each has its numbers.
pub record LinksDone (n : ℕ) (links : List Link) (s : Model) (m : ℕ) (start now : List (List ℕ)) (count ends : ℕ) : Type 0 where
  pub fills : Fills n s.sent start now
  pub done : List End
  pub parts : ends_after 0 m links ≡ done ++ ends_after count m (drop count links)
  pub size : ends ≡ length done
  pub few : ends ≤ 2 * count
  pub all : (k : ℕ) (e : End) → slice_get done k ≡ Some e → is_from e.side ≡ true → IsFullAt s.sent now e.link (open_epoch s m k)

-- what has its numbers at an end keeps them
full_at_kept : (n : ℕ) (sent a b : List (List ℕ)) (c : ℕ) (o : Option ℕ) → Fills n sent a b → IsFullAt sent a c o → IsFullAt sent b c o
full_at_kept n sent a b c None g h = tt
full_at_kept n sent a b c (Some epoch) g h = full_kept n sent a b (c + 256 * epoch) g h

-- an element of two lists, one after the other
get_split : {X : Type 0} → (xs ys : List X) (k : ℕ) (e : X) → slice_get (xs ++ ys) k ≡ Some e
    → (slice_get xs k ≡ Some e) ⊎ ((j : ℕ) × (k ≡ length xs + j) × (slice_get ys j ≡ Some e))
get_split [] ys k e h = inr (k, omega arith, h)
get_split (x ∷ xs) ys zero e h = inl h
get_split (x ∷ xs) ys (suc k) e h =
    elim (get_split xs ys k e h) [ inl a ↦ inl a | inr b ↦ inr (b.0, (let e = b.1 in omega (arith, e)), b.2) ]

-- the sending end of a connection is the first that the module holds of it
record SendsFirst (c m : ℕ) (l : Link) (j : ℕ) (e : End) : Type 0 where
  first : j ≡ 0
  link : e.link ≡ c
  from : l.from ≡ m

abbrev sent_end : ℕ → Link → Bool → List End
sent_end c l b = option_to_list (if b then Some (record { link = c; side = From; port = l.output }) else None)

abbrev received : ℕ → Link → Bool → List End
received c l b = option_to_list (if b then Some (record { link = c; side = To; port = l.input }) else None)

sends_first : (c m : ℕ) (l : Link) (j : ℕ) (e : End) → slice_get (ends_at c m l) j ≡ Some e → is_from e.side ≡ true → SendsFirst c m l j e
sends_first c m l j e = go (l.from == m) (l.to == m) refl j
  where
    never_second : (b : Bool) (j : ℕ) → slice_get (received c l b) j ≡ Some e → is_from e.side ≡ true → ⊥
    never_second true zero h f =
        let s : To ≡ e.side = ap (λ (e : End). e.side) (same_Some (record { link = c; side = To; port = l.input }) e h) in let z : false ≡ true = (ap is_from s ∙ f) in cc z
    never_second true (suc j) h f = cc h
    never_second false j h f = cc h

    go : (a b : Bool) → (l.from == m) ≡ a → (j : ℕ)
        → slice_get (option_to_list (if a then Some (record { link = c; side = From; port = l.output }) else None) ++ received c l b) j ≡ Some e
        → is_from e.side ≡ true → SendsFirst c m l j e
    go true b t zero h f = record {
      first = refl;
      link = sym (ap (λ (e : End). e.link) (same_Some (record { link = c; side = From; port = l.output }) e h));
      from = eqb-true l.from m t;
    }
    go true b t (suc j) h f = absurd (never_second b j h f)
    go false b t j h f = absurd (never_second b j h f)

few_ends : (c m : ℕ) (l : Link) → length (ends_at c m l) ≤ 2
few_ends c m l = go (l.from == m) (l.to == m)
  where
    go : (a b : Bool)
        → length (sent_end c l a ++ received c l b) ≤ 2
    go true true = omega arith
    go true false = omega arith
    go false true = omega arith
    go false false = omega arith

-- the ends of the connections from one on
next_link : (links : List Link) (count : ℕ) (l d : Link) → count < length links → l ≡ get_or links count d → drop count links ≡ l ∷ drop (suc count) links
next_link [] count l d lt e = absurd (omega (arith, lt))
next_link (x ∷ xs) zero l d lt e = ap (λ (y : Link). y ∷ xs) (sym e)
next_link (x ∷ xs) (suc count) l d lt e = next_link xs count l d (omega (arith, lt)) e

link_then : (links : List Link) (count : ℕ) (l d : Link) → count < length links → l ≡ get_or links count d → drop count links ≡ l ∷ drop (count + 1) links
link_then links count l d lt e =
    let next : suc count ≡ count + 1 = omega arith in
    next_link links count l d lt e ∙ ap (λ (n : ℕ). l ∷ drop n links) next

in_front : (o p : Option End) (es : List End) → cons_option o (cons_option p es) ≡ (option_to_list o ++ option_to_list p) ++ es
in_front None None es = refl
in_front None (Some b) es = refl
in_front (Some a) None es = refl
in_front (Some a) (Some b) es = refl

pub links_more : (n : ℕ) (links : List Link) (s : Model) (m : ℕ) (start a b : List (List ℕ)) (count ends more : ℕ) (l d : Link) → LinksDone n links s m start a count ends
    → count < length links → l ≡ get_or links count d → Fills n s.sent a b → IsFullEnd s b m l count ends → more ≡ length (ends_at count m l)
    → LinksDone n links s m start b (count + 1) (ends + more)
links_more n links s m start a b count ends more l d h lt is f full size = record {
  fills = fills_on n s.sent start a b h.fills f;
  done = h.done ++ ends_at count m l;
  parts = h.parts ∙ ap (λ ls. h.done ++ ends_after count m ls) (link_then links count l d lt is)
      ∙ ap (λ es. h.done ++ es) (in_front (sending count m l) (receiving count m l) (ends_after (count + 1) m (drop (count + 1) links)))
      ∙ sym (append_assoc h.done (ends_at count m l) (ends_after (count + 1) m (drop (count + 1) links)));
  size = (let a = length-append h.done (ends_at count m l) in let b = h.size in omega (arith, a, b, size));
  few = (let a = h.few in let b = few_ends count m l in omega (arith, a, b, size));
  all = λ k e there from. elim (get_split h.done (ends_at count m l) k e there) [
    | inl t ↦ full_at_kept n s.sent a b e.link (open_epoch s m k) f (h.all k e t from)
    | inr t ↦
        let w = sends_first count m l t.0 e t.2 from in
        let at : ends ≡ k = (let a = h.size in let b = w.first in let c = t.1 in omega (arith, a, b, c)) in
        subst (λ k. IsFullAt s.sent b e.link (open_epoch s m k)) at (subst (λ c. IsFullAt s.sent b c (open_epoch s m ends)) (sym w.link) (full w.from))
  ];
}

-- one number more
pub fill_turn : (n count at : ℕ) (xs start ys : List ℕ) → (full n count xs ≡ full n count start) × (length xs ≡ at) → at < count → ys ≡ xs ++ n ∷ []
    → (full n count ys ≡ full n count start) × (length ys ≡ at + 1)
fill_turn n count at xs start ys h lt is =
    let size = h.1 in
    let room : length xs < count = omega (arith, size, lt) in
    let l = length_push xs n in
    let m = ap (λ (ys : List ℕ). length ys) is in (
      ap (λ ys. full n count ys) is ∙ full_push n count xs room ∙ h.0,
      omega (arith, l, m, size),
    )
