-- A maker's run over tables is a play that is blind: a moment's try of an entry that no moment before gave is an attempt.
use Rattle.std.proofs.Common.{◌≡◌, ℕ, zero, suc, ◌^◌, ◌<◌, ◌≤◌, ◌||◌, not, ◌⊎◌, inl, inr, Bool, true, false, cond, bytes_eq, List, [], ◌∷◌, length, take, Option, Some, None, refl, sym, ◌∙◌, ap, ap₂, subst, arith}
use Rattle.std.specs.Prelude.{slice_get}
use Rattle.std.proofs.lemmas.Bool.{true≢false, and_parts, or_parts, eq-eqb, cases_eq}
use Rattle.std.proofs.lemmas.Slice.Eq.{bytes_eq-Decides}
use Rattle.lemmas.proofs.Lists.{get_some}
use Rattle.spec_run.specs.Setting.{Setting}
use Rattle.spec_run.proofs.tie.Lists.{some_inj}
use Rattle.sx_sched.specs.Lines.{Line}
use Rattle.law_counting.specs.Counting.{IsTable, at, put}
use Rattle.law_counting.specs.Guesses.{Attempt, Play, misses, all_miss, IsBlind}
use Rattle.law_counting.proofs.Lines.{entry_below}
use Rattle.law_forgery.specs.Moments.{Moment, moment}
use Rattle.law_uses.specs.Uses.{Holder, key_held, Use, Gives, Tries, Sizes, SameUses, uses}
use Rattle.law_uses.specs.GivenLogged.{IsUse}
use Rattle.law_uses.specs.Unasked.{Spares, AllSpare}
use Rattle.law_uses.proofs.Unasked.{all_same}
use Rattle.law_uses.proofs.Whole.{keys_are_held}
use Rattle.law_makers.specs.Makers.{Maker, made}
use Rattle.law_rarity.specs.Tables.{Entry, key_of_entry, message_of, bytes_of, tabled, with_tags}
use Rattle.law_rarity.proofs.Asked.{NoTries, TriesFirst, first_of, tries_first, first_same, uses_same, derives}
use Rattle.law_rarity.proofs.Entries.{number, number_of, has, has_from, index_of, index_there, index_found, tag_at, put_unused, tabled_others, put_close, put_differs}
use Rattle.law_rarity.proofs.Making.{moments_made}

-- an entry that is tried with a tag
abbrev pub attempt_of : ℕ → List ℕ → Attempt
attempt_of i tag = record { entry = i; value = number tag }

-- the attempt of a try at this entry, if it is one
abbrev pub tried_at : Option ℕ → List ℕ → Option Attempt
tried_at None tag = None
tried_at (Some i) tag = Some (attempt_of i tag)

-- not where the entry was given
abbrev pub unless_given : (ℕ → Bool) → Option Attempt → Option Attempt
unless_given given None = None
unless_given given (Some x) = cond {A = Option Attempt} (given x.entry) None (Some x)

misses_false : (x : Option Attempt) (y : Attempt) (t : List ℕ) → x ≡ Some y → misses x t ≡ true → at t y.entry ≡ y.value → ⊥
misses_false x y t e h same =
    true≢false (sym (subst (λ (z : Option Attempt). misses z t ≡ true) e h) ∙ ap not (eq-eqb (at t y.entry) y.value same))

module _ (set : Setting) (es : List Entry) (make : Maker) (n : ℕ) where
  abbrev pub with_ : List ℕ → Setting
  with_ t = with_tags set es t

  abbrev pub lines_of : List ℕ → List Line
  lines_of t = (made (with_ t) make n).lines

  -- the j-th moment under a table
  abbrev pub at_moment : List ℕ → ℕ → Option Moment
  at_moment t j = moment (with_ t) (lines_of t) j

  abbrev pub uses_of : List ℕ → Option Moment → List Use
  uses_of t None = []
  uses_of t (Some now) = uses (with_ t) now

  -- the use gives the entry
  abbrev pub gives : Option Entry → Use → Bool
  gives None u = false
  gives (Some e) (Gives who kind rest) = has set e (key_held set who) (kind ∷ rest)
  gives (Some e) (Tries who kind rest tag) = false
  gives (Some e) (Sizes who header body) = false

  abbrev pub any_gives : Option Entry → List Use → Bool
  any_gives e [] = false
  any_gives e (u ∷ us) = gives e u || any_gives e us

  -- a moment before the j-th gave the entry
  abbrev pub given : List ℕ → ℕ → ℕ → Bool
  given t zero i = false
  given t (suc j) i = given t j i || any_gives (slice_get es i) (uses_of t (at_moment t j))

  abbrev pub try_in : Option Use → Option Attempt
  try_in None = None
  try_in (Some (Gives who kind rest)) = None
  try_in (Some (Tries who kind rest tag)) = tried_at (index_of set es (key_held set who) (kind ∷ rest)) tag
  try_in (Some (Sizes who header body)) = None

  abbrev pub tries : List ℕ → ℕ → Option Attempt
  tries t j = unless_given (given t j) (try_in (first_of (uses_of t (at_moment t j))))

  abbrev pub play : Play
  play = record { tries = tries; given = given }

  given_stays : (t : List ℕ) (i j e : ℕ) → i ≤ j → given t j e ≡ false → given t i e ≡ false
  given_stays t zero zero e le h = h
  given_stays t (suc i) zero e le h = absurd (omega (arith, le))
  given_stays t i (suc j) e le h = by (cases_eq i (suc j)) (given_stays t i j e)
    where
      by : (i ≡ suc j) ⊎ (i ≡ suc j → ⊥) → (i ≤ j → given t j e ≡ false → given t i e ≡ false) → given t i e ≡ false
      by (inl same) rec = subst (λ (z : ℕ). given t z e ≡ false) (sym same) h
      by (inr ne) rec = rec (omega (arith, le, ne)) (or_parts (given t j e) (any_gives (slice_get es e) (uses_of t (at_moment t j))) h).0

  -- what an attempt is of
  pub record Tried (t : List ℕ) (j : ℕ) (x : Attempt) : Type 0 where
    pub fresh : given t j x.entry ≡ false
    pub low : x.entry < length es

  tried : (t : List ℕ) (j : ℕ) (x : Attempt) → tries t j ≡ Some x → Tried t j x
  tried t j x h = by (first_of (uses_of t (at_moment t j))) h
    where
      at_index : (o : Option ℕ) (tag : List ℕ) (key message : List ℕ) → index_of set es key message ≡ o → unless_given (given t j) (tried_at o tag) ≡ Some x → Tried t j x
      at_index None tag key message f q = absurd cc
      at_index (Some i) tag key message f q = fresh (given t j i) refl q
        where
          fresh : (b : Bool) → given t j i ≡ b → cond {A = Option Attempt} b None (Some (attempt_of i tag)) ≡ Some x → Tried t j x
          fresh true g q = absurd cc
          fresh false g q =
              let same = some_inj (attempt_of i tag) x q in
              subst (λ (z : Attempt). Tried t j z) same (record { fresh = g; low = (index_found set es key message i f).low })

      by : (o : Option Use) → unless_given (given t j) (try_in o) ≡ Some x → Tried t j x
      by None q = absurd cc
      by (Some (Gives who kind rest)) q = absurd cc
      by (Some (Tries who kind rest tag)) q = at_index (index_of set es (key_held set who) (kind ∷ rest)) tag (key_held set who) (kind ∷ rest) refl q
      by (Some (Sizes who header body)) q = absurd cc

  -- keys are the same under all tables
  pub key_under : (t : List ℕ) (who : Holder) → key_held (with_ t) who ≡ key_held set who
  key_under t who =
      sym ((keys_are_held set (tabled set es t) (λ key rest. sym (tabled_others set es t key 0x4B rest (λ e. absurd (omega (arith, e)))))).1 who)

  -- a try of this entry is an attempt
  pub attempts : (t : List ℕ) (j : ℕ) (now : Moment) → at_moment t j ≡ Some now → (i : ℕ) → given t j i ≡ false
      → (who : Holder) (kind : ℕ) (rest tag : List ℕ) → IsUse (Tries who kind rest tag) (uses (with_ t) now) → index_of set es (key_held set who) (kind ∷ rest) ≡ Some i
      → tries t j ≡ Some (attempt_of i tag)
  attempts t j now here i free who kind rest tag is found =
      ap (λ (o : Option Moment). unless_given (given t j) (try_in (first_of (uses_of t o)))) here
      ∙ ap (λ (o : Option Use). unless_given (given t j) (try_in o)) (first (uses (with_ t) now) (tries_first (with_ t) (tabled set es (put t i 0)) (put_close set es t i 0) now) is)
      ∙ ap (λ (o : Option ℕ). unless_given (given t j) (tried_at o tag)) found
      ∙ ap (λ (b : Bool). cond {A = Option Attempt} b None (Some (attempt_of i tag))) free
    where
      none : (us : List Use) → NoTries us → IsUse (Tries who kind rest tag) us → ⊥
      none [] h is = is
      none (Gives a k r ∷ us) h (inl e) = absurd cc
      none (Gives a k r ∷ us) h (inr is) = none us h is
      none (Tries a k r g ∷ us) h is = h
      none (Sizes a x y ∷ us) h (inl e) = absurd cc
      none (Sizes a x y ∷ us) h (inr is) = none us h is

      first : (us : List Use) → TriesFirst us → IsUse (Tries who kind rest tag) us → first_of us ≡ Some (Tries who kind rest tag)
      first [] h is = absurd is
      first (u ∷ us) h (inl e) = ap Some e
      first (u ∷ us) h (inr is) = absurd (none us h is)

  -- A moment whose tries of an entry miss in both tables, and that doesn't give it, spares it.
  module _ (t : List ℕ) (i v : ℕ) (table : IsTable (length es) (2 ^ 128) t) (low : i < length es) (wide : v < 2 ^ 128) where
    abbrev s : List ℕ
    s = put t i v

    abbrev e : Entry
    e = (get_some es i low).0

    there : slice_get es i ≡ Some e
    there = (get_some es i low).1

    abbrev tail : List ℕ
    tail = e.rest

    -- a tag that isn't the number at the entry isn't right
    wrong : index_of set es (key_of_entry set e) (message_of e) ≡ Some i → (u : List ℕ) → IsTable (length es) (2 ^ 128) u → (tag : List ℕ) → (at u i ≡ number tag → ⊥)
        → bytes_eq tag (take 16 (tabled set es u (key_of_entry set e) (message_of e))) ≡ false
    wrong found u is tag ne = by (bytes_eq tag (take 16 (tabled set es u (key_of_entry set e) (message_of e)))) refl
      where
        by : (b : Bool) → bytes_eq tag (take 16 (tabled set es u (key_of_entry set e) (message_of e))) ≡ b
            → bytes_eq tag (take 16 (tabled set es u (key_of_entry set e) (message_of e))) ≡ false
        by false f = f
        by true f =
            let is_tag : tag ≡ bytes_of 16 (at u i) =
            (bytes_eq-Decides tag (take 16 (tabled set es u (key_of_entry set e) (message_of e)))).0 f
            ∙ ap (take 16) (tag_at set es (2 ^ 128) u is (key_of_entry set e) (message_of e) i found) in
            absurd (ne (sym (ap number is_tag ∙ number_of (at u i) (entry_below (length es) (2 ^ 128) u is i low))))

    spares : index_of set es (key_of_entry set e) (message_of e) ≡ Some i → (j : ℕ) (now : Moment) → at_moment t j ≡ Some now → given t (suc j) i ≡ false → misses (tries t j) t ≡ true → misses (tries t j) s ≡ true
        → AllSpare (with_ t) (tabled set es s) (key_of_entry set e) tail (uses (with_ t) now)
    spares found j now here free one two = by (uses (with_ t) now) (λ u is. is) none_given
      where
        parts : (given t j i ≡ false) × (any_gives (slice_get es i) (uses_of t (at_moment t j)) ≡ false)
        parts = or_parts (given t j i) (any_gives (slice_get es i) (uses_of t (at_moment t j))) free

        none_given : any_gives (Some e) (uses (with_ t) now) ≡ false
        none_given = ap₂ (λ (o : Option Entry) (p : Option Moment). any_gives o (uses_of t p)) (sym there) (sym here) ∙ parts.1

        spare : (u : Use) → IsUse u (uses (with_ t) now) → gives (Some e) u ≡ false → Spares (with_ t) (tabled set es s) (key_of_entry set e) tail u
        spare (Gives who kind rest) is g = λ k m.
            true≢false (sym (has_from set e (key_held set who) (kind ∷ rest) (sym (key_under t who) ∙ k) m) ∙ g)
        spare (Tries who kind rest tag) is g = λ k m.
            let at_it : index_of set es (key_held set who) (kind ∷ rest) ≡ Some i = ap₂ (λ (x y : List ℕ). index_of set es x y) (sym (key_under t who) ∙ k) m ∙ found in
            let x = attempts t j now here i parts.0 who kind rest tag is at_it in (
              wrong found t table tag (misses_false (tries t j) (attempt_of i tag) t x one),
              wrong found s (Rattle.law_counting.proofs.Lines.put_table (length es) (2 ^ 128) t i v table wide) tag (misses_false (tries t j) (attempt_of i tag) s x two),
            )
        spare (Sizes who header body) is g = tt

        by : (us : List Use) → ((u : Use) → IsUse u us → IsUse u (uses (with_ t) now)) → any_gives (Some e) us ≡ false
            → AllSpare (with_ t) (tabled set es s) (key_of_entry set e) tail us
        by [] among g = tt
        by (u ∷ us) among g =
            let p = or_parts (gives (Some e) u) (any_gives (Some e) us) g in
            (spare u (among u (inl refl)) p.0, by us (λ z is. among z (inr is)) p.1)

    -- Up to the j-th moment both go alike.
    abbrev Alike : ℕ → Type 0
    Alike j = (k : ℕ) (now : Moment) → k < j → at_moment t k ≡ Some now → SameUses (with_ t) (with_ s) (uses (with_ t) now)

    moments_same : (j : ℕ) → Alike j → at_moment s j ≡ at_moment t j
    moments_same j alike = moments_made (with_ t) (tabled set es s) (derives (tabled set es t) (tabled set es s) (put_close set es t i v)) make n j alike

    first_too : (o : Option Moment) → first_of (uses_of s o) ≡ first_of (uses_of t o)
    first_too None = refl
    first_too (Some now) = sym (first_same (with_ t) (tabled set es s) (put_close set es t i v) now)

    given_same : (j d : ℕ) → Alike j → given s j d ≡ given t j d
    given_same zero d alike = refl
    given_same (suc j) d alike =
        ap₂ (λ (b c : Bool). b || c) (given_same j d (λ k now lt e. alike k now (omega (arith, lt)) e))
        (ap (λ (o : Option Moment). any_gives (slice_get es d) (uses_of s o)) (moments_same j (λ k now lt e. alike k now (omega (arith, lt)) e))
        ∙ by (at_moment t j) (λ now e. alike j now (omega arith) e))
      where
        by : (o : Option Moment) → ((now : Moment) → o ≡ Some now → SameUses (with_ t) (with_ s) (uses (with_ t) now))
            → any_gives (slice_get es d) (uses_of s o) ≡ any_gives (slice_get es d) (uses_of t o)
        by None h = refl
        by (Some now) h = ap (any_gives (slice_get es d)) (sym (uses_same (with_ t) (tabled set es s) (put_close set es t i v) now (h now refl)))

    tries_same : (j : ℕ) → Alike j → tries s j ≡ tries t j
    tries_same j alike =
        ap (λ (o : Option Moment). unless_given (given s j) (try_in (first_of (uses_of s o)))) (moments_same j alike)
        ∙ ap (λ (o : Option Use). unless_given (given s j) (try_in o)) (first_too (at_moment t j))
        ∙ by (try_in (first_of (uses_of t (at_moment t j))))
      where
        by : (x : Option Attempt) → unless_given (given s j) x ≡ unless_given (given t j) x
        by None = refl
        by (Some x) = ap (λ (b : Bool). cond {A = Option Attempt} b None (Some x)) (given_same j x.entry alike)

    first_alike : index_of set es (key_of_entry set e) (message_of e) ≡ Some i → (j : ℕ) → given t j i ≡ false → all_miss play t j ≡ true → all_miss play s j ≡ true → Alike j
    first_alike found zero g p q k now lt e = absurd (omega (arith, lt))
    first_alike found (suc j) g p q k now lt here = by (cases_eq k j) (first_alike found j (given_stays t j (suc j) i (omega arith) g) pp.0 qq.0)
      where
        pp : (all_miss play t j ≡ true) × (misses (tries t j) t ≡ true)
        pp = and_parts (all_miss play t j) (misses (tries t j) t) p

        qq : (all_miss play s j ≡ true) × (misses (tries s j) s ≡ true)
        qq = and_parts (all_miss play s j) (misses (tries s j) s) q

        by : (k ≡ j) ⊎ (k ≡ j → ⊥) → Alike j → SameUses (with_ t) (with_ s) (uses (with_ t) now)
        by (inr ne) before = before k now (omega (arith, lt, ne)) here
        by (inl same) before =
            all_same (with_ t) (tabled set es s) (key_of_entry set e) tail (put_differs set es t i v e there) (uses (with_ t) now)
            (spares found j now (subst (λ (z : ℕ). at_moment t z ≡ Some now) same here) g pp.1 (subst (λ (x : Option Attempt). misses x s ≡ true) (tries_same j before) qq.1))

    -- all uses have the same answers where the number at the entry shows in nothing
    unused : ((key message : List ℕ) → tabled set es t key message ≡ tabled set es s key message) → (us : List Use) → SameUses (with_ t) (with_ s) us
    unused same [] = tt
    unused same (Gives who kind rest ∷ us) =
        (same (key_held (with_ t) who) (kind ∷ rest) ∙ ap (λ (k : List ℕ). tabled set es s k (kind ∷ rest)) (key_under t who ∙ sym (key_under s who)), unused same us)
    unused same (Tries who kind rest tag ∷ us) = (
      ap (λ (z : List ℕ). bytes_eq tag (take 16 z))
          (same (key_held (with_ t) who) (kind ∷ rest) ∙ ap (λ (k : List ℕ). tabled set es s k (kind ∷ rest)) (key_under t who ∙ sym (key_under s who))),
      unused same us,
    )
    unused same (Sizes who header body ∷ us) =
        ((all_same (with_ t) (tabled set es s) (key_of_entry set e) tail (put_differs set es t i v e there) (Sizes who header body ∷ []) (tt, tt)).0, unused same us)

    alike : (j : ℕ) → given t j i ≡ false → all_miss play t j ≡ true → all_miss play s j ≡ true → Alike j
    alike j g p q = by (cases_eq first.0 i)
      where
        first : (k : ℕ) × (index_of set es (key_of_entry set e) (message_of e) ≡ Some k)
        first = index_there set es (key_of_entry set e) (message_of e) i e there (has_from set e (key_of_entry set e) (message_of e) refl refl)

        by : (first.0 ≡ i) ⊎ (first.0 ≡ i → ⊥) → Alike j
        by (inl same) = first_alike (first.1 ∙ ap (λ (z : ℕ). Some z) same) j g p q
        by (inr ne) = λ k now lt here.
            unused (put_unused set es (2 ^ 128) t i v table wide e there first.0 first.1 ne) (uses (with_ t) now)

  pub is_blind : IsBlind (length es) (2 ^ 128) play
  is_blind = record {
    inside = λ t j x table h. (tried t j x h).low;
    fresh = λ t j x table h. (tried t j x h).fresh;
    stays = λ t i j e table le h. given_stays t i j e le h;
    blind = λ t j e v table low wide g p q. tries_same t e v table low wide j (alike t e v table low wide j g p q);
  }
