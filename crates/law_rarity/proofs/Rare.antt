-- A first `forged` is a hit of an entry that wasn't given, so few tables lead to one.
use Rattle.std.proofs.Common.{◌≡◌, ℕ, zero, suc, ◌+◌, ◌-◌, ◌*◌, ◌^◌, ◌<◌, ◌≤◌, ◌||◌, not, ◌⊎◌, inl, inr, Bool, true, false, bytes_eq, List, [], ◌∷◌, ◌++◌, length, take, Option, Some, None, refl, sym, ◌∙◌, ap, subst, arith}
use Rattle.std.specs.Prelude.{slice_get}
use Rattle.std.proofs.lemmas.Bool.{true≢false, and_parts, or_from, eq-eqb, cases_eq}
use Rattle.std.proofs.lemmas.List.{length-append}
use Rattle.std.proofs.lemmas.Slice.Eq.{bytes_eq-Decides}
use Rattle.spec_run.specs.Setting.{Setting}
use Rattle.sx_tag.specs.Keys.{module_key}
use Rattle.spec_run.specs.Deployer.{list_at}
use Rattle.spec_run.specs.Law.{IsSoundSetting}
use Rattle.law_counting.specs.Counting.{IsTable, at, one, sum_all, count}
use Rattle.law_counting.specs.Guesses.{Attempt, misses, all_miss}
use Rattle.law_counting.proofs.Sums.{sum_le, sum_add, sum_one}
use Rattle.law_counting.proofs.Hits.{few_guesses_hit}
use Rattle.law_counting.proofs.Lines.{entry_below}
use Rattle.law_forgery.specs.Moments.{Moment, moment}
use Rattle.law_forgery.specs.Forgery.{key_at}
use Rattle.law_connections.specs.Laws.{RealizesAlways}
use Rattle.law_uses.specs.Uses.{Holder, key_held, Use, Gives, Tries, Sizes, uses, module_holder}
use Rattle.law_uses.specs.GivenLogged.{IsUse}
use Rattle.law_uses.specs.Hit.{IsFreshHit}
use Rattle.law_uses.proofs.Whole.{module_key_same as keys_same}
use Rattle.law_makers.specs.Makers.{Maker, made}
use Rattle.law_rarity.specs.Tables.{Entry, key_of_entry, message_of, bytes_of, tabled, with_tags}
use Rattle.law_rarity.specs.Rare.{HitsAt, HaveBoots, MakesInRange, ForgeriesAreRare}
use Rattle.law_rarity.specs.Names.{HasNames}
use Rattle.law_rarity.proofs.Names.{head_of, is_tried_at, its_own}
use Rattle.law_rarity.proofs.Entries.{number, number_of, has, has_from, has_parts, index_of, Found, index_there, index_found, tag_at, tabled_others}
use Rattle.law_rarity.proofs.Playing.{attempt_of, given, any_gives, uses_of, tries, play, key_under, attempts, is_blind}
use Rattle.law_rarity.proofs.Tabled.{with_tags_sound}

-- a use that was given
pub record Giving (set : Setting) (e : Entry) (us : List Use) : Type 0 where
  pub who : Holder
  pub kind : ℕ
  pub rest : List ℕ
  pub is : IsUse (Gives who kind rest) us
  pub has_it : has set e (key_held set who) (kind ∷ rest) ≡ true

pub made_long : (set : Setting) (make : Maker) (n : ℕ) → length (made set make n).lines ≡ n
made_long set make zero = refl
made_long set make (suc n) =
    let m = made set make n in
    length-append m.lines (make m.sights ∷ []) ∙ (let l = made_long set make n in omega (arith, l))

module _ (set : Setting) (es : List Entry) (make : Maker) (n q : ℕ) (sound : IsSoundSetting set) (always : RealizesAlways set) (named : HasNames set)
    (boots : HaveBoots es) (few : n ≤ 65536) (range : MakesInRange set es make n) where
  abbrev with_ : List ℕ → Setting
  with_ t = with_tags set es t

  -- what gives an entry
  giving : (e : Entry) (us : List Use) → any_gives set es make n (Some e) us ≡ true → Giving set e us
  giving e [] h = absurd (true≢false (sym h))
  giving e (u ∷ us) h = by u refl h (giving e us)
    where
      further : Giving set e us → Giving set e (u ∷ us)
      further g = record { who = g.who; kind = g.kind; rest = g.rest; is = inr g.is; has_it = g.has_it }

      by : (v : Use) → u ≡ v → any_gives set es make n (Some e) (v ∷ us) ≡ true → (any_gives set es make n (Some e) us ≡ true → Giving set e us) → Giving set e (u ∷ us)
      by (Gives who kind rest) f g rec = pick (has set e (key_held set who) (kind ∷ rest)) refl g
        where
          pick : (b : Bool) → has set e (key_held set who) (kind ∷ rest) ≡ b → (b || any_gives set es make n (Some e) us) ≡ true → Giving set e (u ∷ us)
          pick true x y = record { who = who; kind = kind; rest = rest; is = inl f; has_it = x }
          pick false x y = further (rec y)
      by (Tries who kind rest tag) f g rec = further (rec g)
      by (Sizes who header body) f g rec = further (rec g)

  module _ (t : List ℕ) (table : IsTable (length es) (2 ^ 128) t) (f : HitsAt es (with_ t) (made (with_ t) make n).lines q) where
    abbrev hit : IsFreshHit (with_ t) (made (with_ t) make n).lines f.k f.now
    hit = f.hit

    abbrev tail : List ℕ
    tail = length hit.header ∷ (hit.header ++ hit.cipher)

    abbrev e : Entry
    e = record { m = hit.m; boot = hit.boot; rest = tail }

    -- the first entry with its key and its message
    first : (k : ℕ) × (index_of set es (key_of_entry set e) (message_of e) ≡ Some k)
    first = index_there set es (key_of_entry set e) (message_of e) f.i e f.there (has_from set e (key_of_entry set e) (message_of e) refl refl)

    there : Found set es (key_of_entry set e) (message_of e) first.0
    there = index_found set es (key_of_entry set e) (message_of e) first.0 first.1

    abbrev i : ℕ
    i = first.0

    abbrev d : Entry
    d = there.entry

    key_is : key_held set (module_holder hit.site e.boot) ≡ key_of_entry set e
    key_is = ap (key_at set e.boot) (sym hit.sited)

    whole : IsSoundSetting (with_ t)
    whole = with_tags_sound set sound always es t

    place : (hit.site.node < length set.keys) ⊎ (head_of tail ≡ 18)
    place = (is_tried_at (with_ t) whole (made (with_ t) make n).lines (range t table) (let l = made_long (with_ t) make n in omega (arith, l, few)) f.k f.now f.at hit.site hit.boot tail hit.tag hit.is).place

    named_too : HasNames (with_ t)
    named_too n boot provider id = key_in_table n boot provider id ∙ named n boot provider id
      where
        key_in_table : (n boot provider : ℕ) (id : List ℕ) → module_key (tabled set es t) (list_at set.keys n) boot provider id ≡ module_key set.mac (list_at set.keys n) boot provider id
        key_in_table n boot provider id = keys_same (tabled set es t) set.mac (λ key rest. tabled_others set es t key 0x4B rest (λ e. absurd (omega (arith, e)))) (list_at set.keys n) boot provider id

    -- nobody else has its key, so no moment before gave it
    not_given : (j : ℕ) → j ≤ f.k → given set es make n t j i ≡ false
    not_given zero le = refl
    not_given (suc j) le =
        or_from (given set es make n t j i) (any_gives set es make n (slice_get es i) (uses_of set es make n t (moment (with_ t) (made (with_ t) make n).lines j)))
        (not_given j (omega (arith, le)))
        (ap (λ (o : Option Entry). any_gives set es make n o (uses_of set es make n t (moment (with_ t) (made (with_ t) make n).lines j))) there.there
        ∙ by (moment (with_ t) (made (with_ t) make n).lines j) refl)
      where
        by : (o : Option Moment) → moment (with_ t) (made (with_ t) make n).lines j ≡ o → any_gives set es make n (Some d) (uses_of set es make n t o) ≡ false
        by None here = refl
        by (Some past) here = of (any_gives set es make n (Some d) (uses (with_ t) past)) refl
          where
            of : (b : Bool) → any_gives set es make n (Some d) (uses (with_ t) past) ≡ b → any_gives set es make n (Some d) (uses (with_ t) past) ≡ false
            of false g = g
            of true g =
                let u = giving d (uses (with_ t) past) g in
                let p = has_parts set d (key_held set u.who) (u.kind ∷ u.rest) u.has_it in
                let message : u.kind ∷ u.rest ≡ 0x54 ∷ tail = p.1 ∙ sym there.message_is in
                let kind : u.kind ≡ 0x54 = cc in
                let rest : u.rest ≡ tail = cc in
                let whose : u.who ≡ module_holder hit.site e.boot =
                its_own (with_ t) named_too whole (made (with_ t) make n).lines (range t table) (let l = made_long (with_ t) make n in omega (arith, l, few)) j past here
                u.who u.kind u.rest e.m hit.site e.boot hit.sited (boots f.i e f.there) (subst (λ (r : List ℕ). (hit.site.node < length set.keys) ⊎ (head_of r ≡ 18)) (sym rest) place)
                (key_under set es make n t u.who ∙ p.0 ∙ sym there.key_is ∙ sym key_is ∙ sym (key_under set es make n t (module_holder hit.site e.boot))) u.is in
                absurd (hit.fresh j past (omega (arith, le)) here
                (subst (λ (r : List ℕ). IsUse (Gives (module_holder hit.site e.boot) 0x54 r) (uses (with_ t) past)) rest
                (subst (λ (k : ℕ). IsUse (Gives (module_holder hit.site e.boot) k u.rest) (uses (with_ t) past)) kind
                (subst (λ (w : Holder). IsUse (Gives w u.kind u.rest) (uses (with_ t) past)) whose u.is))))

    attempt : tries set es make n t f.k ≡ Some (attempt_of i hit.tag)
    attempt =
        attempts set es make n t f.k f.now f.at i (not_given f.k (omega arith)) (module_holder hit.site e.boot) 0x54 tail hit.tag hit.is
        (ap (λ (x : List ℕ). index_of set es x (0x54 ∷ tail)) key_is ∙ first.1)

    -- its number is the table's
    right : at t i ≡ number hit.tag
    right =
        let key = key_of_entry set e in
        let right : bytes_eq hit.tag (take 16 (tabled set es t key (message_of e))) ≡ true =
        subst (λ (z : List ℕ). bytes_eq hit.tag (take 16 (tabled set es t z (0x54 ∷ tail))) ≡ true)
        (key_under set es make n t (module_holder hit.site e.boot) ∙ key_is) hit.right in
        let tag : hit.tag ≡ bytes_of 16 (at t i) =
        (bytes_eq-Decides hit.tag (take 16 (tabled set es t key (message_of e)))).0 right
        ∙ ap (take 16) (tag_at set es (2 ^ 128) t table key (message_of e) i first.1) in
        sym (ap number tag ∙ number_of (at t i) (entry_below (length es) (2 ^ 128) t table i there.low))

    -- so this attempt doesn't miss
    hits : all_miss (play set es make n) t q ≡ false
    hits = by (all_miss (play set es make n) t q) refl
      where
        each : (j : ℕ) → all_miss (play set es make n) t j ≡ true → f.k < j → misses (tries set es make n t f.k) t ≡ true
        each zero h lt = absurd (omega (arith, lt))
        each (suc j) h lt = pick (cases_eq f.k j) (each j)
          where
            parts : (all_miss (play set es make n) t j ≡ true) × (misses (tries set es make n t j) t ≡ true)
            parts = and_parts (all_miss (play set es make n) t j) (misses (tries set es make n t j) t) h

            pick : (f.k ≡ j) ⊎ (f.k ≡ j → ⊥) → (all_miss (play set es make n) t j ≡ true → f.k < j → misses (tries set es make n t f.k) t ≡ true) → misses (tries set es make n t f.k) t ≡ true
            pick (inl same) rec = subst (λ (z : ℕ). misses (tries set es make n t z) t ≡ true) (sym same) parts.1
            pick (inr ne) rec = rec parts.0 (omega (arith, lt, ne))

        by : (b : Bool) → all_miss (play set es make n) t q ≡ b → all_miss (play set es make n) t q ≡ false
        by false g = g
        by true g =
            let m = subst (λ (x : Option Attempt). misses x t ≡ true) attempt (each q g f.soon) in
            absurd (true≢false (sym m ∙ ap not (eq-eqb (at t i) (number hit.tag) right)))

  rare : (p : List ℕ → Bool) → q ≤ 2 ^ 128 → ((t : List ℕ) → IsTable (length es) (2 ^ 128) t → p t ≡ true → HitsAt es (with_ t) (made (with_ t) make n).lines q)
      → count (length es) (2 ^ 128) p * 2 ^ 128 ≤ q * (2 ^ 128) ^ length es
  rare p le forges =
      let w : ℕ = 2 ^ 128 in
      let l = length es in
      let misses_all : List ℕ → Bool = λ t. all_miss (play set es make n) t q in
      let many : (w - q) * w ^ l ≤ count l w misses_all * w = few_guesses_hit l w q (play set es make n) (is_blind set es make n) le in
      let apart : count l w p + count l w misses_all ≤ w ^ l =
      subst (λ (z : ℕ). z ≤ w ^ l) (sum_add l w (λ t. one (p t)) (λ t. one (misses_all t)))
      (subst (λ (z : ℕ). sum_all l w (λ t. one (p t) + one (misses_all t)) ≤ z) (sum_one l w)
      (sum_le l w (λ t. one (p t) + one (misses_all t)) (λ t. 1) (λ t table. not_both (p t) (misses_all t) (λ h. hits t table (forges t table h))))) in
      few_of w q (count l w p) (count l w misses_all) (w ^ l) le apart many
    where
      not_both : (b c : Bool) → (b ≡ true → c ≡ false) → one b + one c ≤ 1
      not_both true true h = absurd (true≢false (h refl))
      not_both true false h = omega arith
      not_both false true h = omega arith
      not_both false false h = omega arith

      few_of : (w q c m s : ℕ) → q ≤ w → c + m ≤ s → (w - q) * s ≤ m * w → c * w ≤ q * s
      few_of w q c m s le apart many =
          let r = w - q in
          let whole : w ≡ q + r = omega (arith, le) in
          let a : (c + m) * w ≤ s * w = Rattle.std.proofs.lemmas.Nat.mul-le (c + m) w s w apart (omega arith) in
          let b : (c + m) * w ≡ c * w + m * w = grind arith in
          let d : s * w ≡ q * s + r * s = ap (λ (z : ℕ). s * z) whole ∙ grind arith in
          omega (arith, a, b, d, many)

pub forgeries_are_rare : ForgeriesAreRare
forgeries_are_rare set es make n q sound always named boots few range le p hits = rare set es make n q sound always named boots few range p le hits
