-- What tests of lists, boxes and rows say.
use Rattle.std.proofs.Common.{◌≡◌, ℕ, zero, suc, ◌+◌, ◌≤◌, ◌⊎◌, inl, inr, ◌&&◌, ◌||◌, max, Bool, true, false, not, if◌then◌else◌, List, [], ◌∷◌, Option, Some}
use Rattle.std.proofs.Common.{None, refl, sym, ap, subst, arith, ◌∙◌, ◌==◌}
use Rattle.std.specs.Prelude.{nat_le, slice_get, unwrap_or}
use Rattle.std.specs.List.{position_from}
use Rattle.std.proofs.lemmas.Bool.{and_parts, eqb-true, leb-true, ltb-true, cases_lt}
use Rattle.std.proofs.lemmas.Option.{same_Some}
use Rattle.sx_model.specs.State.{Present}
use Rattle.law_never.specs.Rules.{Each}
use Rattle.law_never.specs.Intervals.{Interval, IsInside, AreInside, OneOf}
use Rattle.law_never.specs.Tables.{Place, Row, at, IsAmong, IsAtPlace}
use Rattle.law_never.specs.Closed.{Stays}
use Rattle.law_never.specs.Check.{box_has, box_within, covers, each, each_from, fills, may_absent, one, owes_none, place_within, spans, stays, within}
use Rattle.law_never.proofs.Lists.{one_map, one_with}
use Rattle.sx_watch.specs.declared.topics.TopicKind.TheVariants as kind
use Rattle.sx_watch.specs.Watching.{about}
use Rattle.sx_watch.specs.declared.topics.Topic.{Topic}
use Rattle.sx_watch.specs.Watched.{PropertyTree, input_of}
use Rattle.sx_watch.specs.Topics.{same_topic}
use denote.Enum.Bare.{sameb, same_true}
use Rattle.sx_watch.specs.contracts.topics.TopicKind.{the_type}

pub or_false : (b c : Bool) → (b || c) ≡ true → b ≡ false → c ≡ true
or_false true c h e = absurd cc
or_false false c h e = h

pub or_not : (b c : Bool) → (not b || c) ≡ true → b ≡ true → c ≡ true
or_not true c h e = h
or_not false c h e = absurd cc

pub or_either : (b c : Bool) → (b || c) ≡ true → (b ≡ true) ⊎ (c ≡ true)
or_either true c h = inl refl
or_either false c h = inr h

pub each_true : {A : Type 0} → (p : A → Bool) (xs : List A) → each p xs ≡ true → Each (λ x. p x ≡ true) xs
each_true p [] h = tt
each_true p (x ∷ xs) h = let k = and_parts (p x) (each p xs) h in (k.0, each_true p xs k.1)

pub one_true : {A : Type 0} → (p : A → Bool) (xs : List A) → one p xs ≡ true → OneOf (λ x. p x ≡ true) xs
one_true p [] h = absurd cc
one_true p (x ∷ xs) h = elim (or_either (p x) (one p xs) h) [ inl e ↦ inl e | inr e ↦ inr (one_true p xs e) ]

-- of an index
from_true : {A : Type 0} → (p : ℕ → A → Bool) (n : ℕ) (xs : List A) → each_from p n xs ≡ true → (k : ℕ) (x : A) → slice_get xs k ≡ Some x → p (n + k) x ≡ true
from_true p n [] h k x e = absurd cc
from_true p n (y ∷ ys) h zero x e =
    let t = and_parts (p n y) (each_from p (n + 1) ys) h in
    let here : n ≡ n + 0 = omega arith in
    subst (λ j. p j x ≡ true) here (subst (λ z. p n z ≡ true) (same_Some y x e) t.0)
from_true p n (y ∷ ys) h (suc k) x e =
    let t = and_parts (p n y) (each_from p (n + 1) ys) h in
    let there : n + 1 + k ≡ n + suc k = omega arith in
    subst (λ j. p j x ≡ true) there (from_true p (n + 1) ys t.1 k x e)

pub index_true : {A : Type 0} → (p : ℕ → A → Bool) (xs : List A) → each_from p 0 xs ≡ true → (k : ℕ) (x : A) → slice_get xs k ≡ Some x → p k x ≡ true
index_true p xs h k x e = let t = from_true p 0 xs h k x e in let z : 0 + k ≡ k = omega arith in subst (λ j. p j x ≡ true) z t

-- of a list of an index: the test is true of it, or it is empty
pub list_true : {A : Type 0} → (p : ℕ → List A → Bool) (xss : List (List A)) → each_from p 0 xss ≡ true → (k : ℕ) → (p k (at xss k) ≡ true) ⊎ (at xss k ≡ [])
list_true p xss h k = here (slice_get xss k) refl
  where
    here : (o : Option (List _)) → slice_get xss k ≡ o → (p k (unwrap_or o []) ≡ true) ⊎ (unwrap_or o [] ≡ [])
    here None e = inr refl
    here (Some xs) e = inl (index_true p xss h k xs e)

pub lists_true : {A : Type 0} → (p : ℕ → A → Bool) (xss : List (List A)) → each_from (λ k xs. each (p k) xs) 0 xss ≡ true → (k : ℕ) → Each (λ x. p k x ≡ true) (at xss k)
lists_true p xss h k =
    elim (list_true (λ k xs. each (p k) xs) xss h k) [
      | inl t ↦ each_true (p k) (at xss k) t
      | inr e ↦ subst (Each (λ x. p k x ≡ true)) (sym e) tt
    ]

-- intervals and boxes

pub within_true : (i j : Interval) → within i j ≡ true → (v : ℕ) → IsInside i v → IsInside j v
within_true i j h v k =
    let t = and_parts (nat_le j.low i.low) (nat_le i.high j.high) h in
    let a = leb-true j.low i.low t.0 in
    let b = leb-true i.high j.high t.1 in
    let c = k.low in
    let d = k.high in
    record { low = omega (arith, a, c); high = omega (arith, b, d) }

pub box_true : (is js : List Interval) → box_within is js ≡ true → (vs : List ℕ) → AreInside is vs → AreInside js vs
box_true [] [] h [] k = tt
box_true [] [] h (v ∷ vs) k = absurd k
box_true [] (j ∷ js) h vs k = absurd cc
box_true (i ∷ is) [] h vs k = absurd cc
box_true (i ∷ is) (j ∷ js) h [] k = absurd k
box_true (i ∷ is) (j ∷ js) h (v ∷ vs) k =
    let t = and_parts (within i j) (box_within is js) h in
    (within_true i j t.0 v k.0, box_true is js t.1 vs k.1)

pub box_has_true : (is : List Interval) (vs : List ℕ) → box_has is vs ≡ true → AreInside is vs
box_has_true [] [] h = tt
box_has_true [] (v ∷ vs) h = absurd cc
box_has_true (i ∷ is) [] h = absurd cc
box_has_true (i ∷ is) (v ∷ vs) h =
    let t = and_parts (nat_le i.low v && nat_le v i.high) (box_has is vs) h in
    let u = and_parts (nat_le i.low v) (nat_le v i.high) t.0 in
    (record { low = leb-true i.low v u.0; high = leb-true v i.high u.1 }, box_has_true is vs t.1)

pub owes_none_true : (is : List Interval) → owes_none is ≡ true → is ≡ []
owes_none_true [] h = refl
owes_none_true (i ∷ is) h = absurd cc

pub owes_none_of : (is : List Interval) → is ≡ [] → owes_none is ≡ true
owes_none_of is e = ap owes_none e

-- the numbers from one to another
pub spans_true : (low high : ℕ) (is : List Interval) → spans low high is ≡ true → (v : ℕ) → low ≤ v → v ≤ high → IsAmong is v
spans_true low high [] h v a b = let t = ltb-true high low h in absurd (omega (arith, t, a, b))
spans_true low high (i ∷ is) h v a b = here (nat_le i.low low) refl h (λ k t. spans_true k high is t v)
  where
    here : (c : Bool) → nat_le i.low low ≡ c → (if c then spans (max low (i.high + 1)) high is else spans low high is) ≡ true
        → ((k : ℕ) → spans k high is ≡ true → k ≤ v → v ≤ high → IsAmong is v) → IsInside i v ⊎ IsAmong is v
    here true e t more =
        let u = leb-true i.low low e in
        elim (cases_lt i.high v) [
          | inl past ↦ inr (more (max low (i.high + 1)) t (omega (arith, a, past)) b)
          | inr most ↦ inl (record { low = omega (arith, u, a); high = most })
        ]
    here false e t more = inr (more low t a b)

pub fills_true : (js : List Interval) (i : Interval) → fills js i ≡ true → (v : ℕ) → IsInside i v → IsAmong js v
fills_true js i h v k = spans_true i.low i.high js h v k.low k.high

-- rows

values_true : (is js : List Interval) → each (fills js) is ≡ true → (v : ℕ) → IsAmong is v → IsAmong js v
values_true is js h v k =
    let w = one_with (λ i. fills js i ≡ true) (λ i. IsInside i v) is (each_true (fills js) is h) k in
    fills_true js w.0 w.1 v w.2

pub place_true : (a b : Place) → place_within a b ≡ true → (p : Present) → IsAtPlace a p → IsAtPlace b p
place_true a b h p k =
    let t = and_parts (box_within a.cells b.cells) (box_within a.owed b.owed) h in
    record { cells = box_true a.cells b.cells t.0 p.cells k.cells; owed = box_true a.owed b.owed t.1 _ k.owed }

places_true : (ks ls : List Place) → covers place_within ks ls ≡ true → (p : Present) → OneOf (λ k. IsAtPlace k p) ks → OneOf (λ l. IsAtPlace l p) ls
places_true ks ls h p k =
    let w = one_with (λ k. one (place_within k) ls ≡ true) (λ k. IsAtPlace k p) ks (each_true (λ k. one (place_within k) ls) ks h) k in
    one_map (λ l. place_within w.0 l ≡ true) (λ l. IsAtPlace l p) (λ l t. place_true w.0 l t p w.2) ls (one_true (place_within w.0) ls w.1)

bool_true : (p : ℕ → Bool → Bool) (bs : List Bool) → each_from p 0 bs ≡ true → (k : ℕ) → unwrap_or (slice_get bs k) false ≡ true → p k true ≡ true
bool_true p bs h k t = here (slice_get bs k) refl t
  where
    here : (o : Option Bool) → slice_get bs k ≡ o → unwrap_or o false ≡ true → p k true ≡ true
    here None e t = absurd cc
    here (Some b) e t = subst (λ c. p k c ≡ true) t (index_true p bs h k b e)

pub stays_true : (modules devices : ℕ → Bool) (r new : Row) → stays modules devices r new ≡ true → Stays modules devices r new
stays_true modules devices r new h =
    let absents : ℕ → Bool → Bool = λ m b. modules m || (not b || may_absent new m) in
    let places : ℕ → List Place → Bool = λ m xs. modules m || covers place_within xs (at new.places m) in
    let readings : ℕ → List Interval → Bool = λ d xs. devices d || each (fills (at new.readings d)) xs in
    let words : ℕ → List Interval → Bool = λ c xs. each (fills (at new.words c)) xs in
    let s = and_parts (each_from absents 0 r.absent) (each_from places 0 r.places && (each_from readings 0 r.readings && each_from words 0 r.words)) h in
    let t = and_parts (each_from places 0 r.places) (each_from readings 0 r.readings && each_from words 0 r.words) s.1 in
    let u = and_parts (each_from readings 0 r.readings) (each_from words 0 r.words) t.1 in
    record {
      absent = λ m free b. or_not true (may_absent new m) (or_false (modules m) (not true || may_absent new m) (bool_true absents r.absent s.0 m b) free) refl;
      places = λ m free p k. elim (list_true places r.places t.0 m) [
        | inl e ↦ places_true (at r.places m) (at new.places m) (or_false (modules m) (covers place_within (at r.places m) (at new.places m)) e free) p k
        | inr e ↦ absurd (subst (OneOf (λ place. IsAtPlace place p)) e k)
      ];
      readings = λ d free v k. elim (list_true readings r.readings u.0 d) [
        | inl e ↦ values_true (at r.readings d) (at new.readings d) (or_false (devices d) (each (fills (at new.readings d)) (at r.readings d)) e free) v k
        | inr e ↦ absurd (subst (OneOf (λ i. IsInside i v)) e k)
      ];
      words = λ c v k. elim (list_true words r.words u.1 c) [
        | inl e ↦ values_true (at r.words c) (at new.words c) e v k
        | inr e ↦ absurd (subst (OneOf (λ i. IsInside i v)) e k)
      ];
    }

pub stays_same : (modules devices : ℕ → Bool) (r : Row) → Stays modules devices r r
stays_same modules devices r = record { absent = λ m free k. k; places = λ m free p k. k; readings = λ d free v k. k; words = λ c v k. k }

-- topics

same_topic-true : (a b : Topic) → same_topic a b ≡ true → a ≡ b
same_topic-true a b h =
    let p = and_parts (sameb the_type a.kind b.kind) (a.index == b.index) h in
    ap (λ k. about k a.index) (same_true the_type tt a.kind b.kind p.0) ∙ ap (λ n. about b.kind n) (eqb-true a.index b.index p.1)

place_or_not : (topic : Topic) (n : ℕ) (us : List Topic) → (position_from (same_topic topic) n us ≡ None) ⊎ OneOf (λ u. same_topic topic u ≡ true) us
place_or_not topic n [] = inl refl
place_or_not topic n (u ∷ us) = here (same_topic topic u) refl (place_or_not topic (n + 1) us)
  where
    here : (b : Bool) → same_topic topic u ≡ b → (position_from (same_topic topic) (n + 1) us ≡ None) ⊎ OneOf (λ u. same_topic topic u ≡ true) us
        → ((if b then Some n else position_from (same_topic topic) (n + 1) us) ≡ None) ⊎ ((same_topic topic u ≡ true) ⊎ OneOf (λ u. same_topic topic u ≡ true) us)
    here true e more = inr (inl e)
    here false e more = elim more [ inl k ↦ inl k | inr k ↦ inr (inr k) ]

-- a topic is unheard, or a test of each is true of it
pub topic_true : (o : PropertyTree) (test : Topic → Bool) → each test o.topics ≡ true → (topic : Topic) → (input_of o topic ≡ None) ⊎ (test topic ≡ true)
topic_true o test h topic =
    elim (place_or_not topic 0 o.topics) [
      | inl e ↦ inl e
      | inr k ↦
          let w = one_with (λ u. test u ≡ true) (λ u. same_topic topic u ≡ true) o.topics (each_true test o.topics h) k in
          inr (subst (λ u. test u ≡ true) (sym (same_topic-true topic w.0 w.2)) w.1)
    ]
