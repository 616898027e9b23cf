-- A deployer that keeps the modules' ends of an application renews as the source model does.
use Rattle.std.proofs.Common.{◌≡◌, ℕ, ◌+◌, ◌<◌, ◌≤◌, ◌==◌, ◌||◌, ◌&&◌, Bool, true, false, nat_lt, nat_le, not, if◌then◌else◌, List, [], ◌∷◌, length, drop}
use Rattle.std.proofs.Common.{drop-cons, add-one, get_or, Some, None, refl, sym, ap, ◌∙◌, arith}
use Rattle.std.specs.Prelude.{slice_index}
use Rattle.std.specs.List.{list_any, cons_option}
use Rattle.std.proofs.lemmas.Bool.{eq-eqb, ne_eqb, ltb-true, ltb-false}
use Rattle.std.proofs.lemmas.List.{get_or_past}
use Rattle.std.proofs.Math.ListN.{drop_of_length-le}
use Rattle.sx_lang.specs.declared.sides.Side.TheVariants.{To}
use Rattle.sx_mean.specs.declared.apps.Link.{Link}
use Rattle.sx_mean.specs.declared.events.End.{End}
use Rattle.sx_mean.specs.Ends.{ends_after}
use Rattle.sx_mean.proofs.Ends.{held}
use Rattle.sx_model.specs.Renewal as model
use Rattle.sx_deployer.specs.Keeping.{has_link, raised_from}
use Rattle.spec_run.specs.Renewed.{RenewsAsTheModel}

-- another connection's end isn't one of this
skipped : (a b : Bool) (n c : ℕ) (l : Link) (es : List End) → (n == c) ≡ false → has_link (held a b n l es) c ≡ has_link es c
skipped true true n c l es e = ap (λ t. t || (t || has_link es c)) e
skipped true false n c l es e = ap (λ t. t || has_link es c) e
skipped false true n c l es e = ap (λ t. t || has_link es c) e
skipped false false n c l es e = refl

-- no end of a later connection is one of this
none_before : (ls : List Link) (n m c : ℕ) → c < n → has_link (ends_after n m ls) c ≡ false
none_before [] n m c h = refl
none_before (l ∷ ls) n m c h =
    skipped (l.from == m) (l.to == m) n c l (ends_after (n + 1) m ls) (ne_eqb n c (λ e. omega (arith, e, h))) ∙ none_before ls (n + 1) m c (omega arith)

found : (a b : Bool) (n : ℕ) (l : Link) (es : List End) → (n == n) ≡ true → has_link es n ≡ false → has_link (held a b n l es) n ≡ (a || b)
found true b n l es e h = ap (λ t. t || has_link (cons_option (if b then Some (record { link = n; side = To; port = l.input }) else None) es) n) e
found false true n l es e h = ap (λ t. t || has_link es n) e
found false false n l es e h = h

raised_alike : (a b : List End) (k : ℕ) (es : List ℕ) → ((c : ℕ) → k ≤ c → has_link a c ≡ has_link b c) → raised_from k a es ≡ raised_from k b es
raised_alike a b k [] h = refl
raised_alike a b k (e ∷ es) h =
    ap (λ t. (if t then e + 1 else e) ∷ raised_from (k + 1) a es) (h k (omega arith))
    ∙ ap (λ (r : List ℕ). (if has_link b k then e + 1 else e) ∷ r) (raised_alike a b (k + 1) es (λ c g. h c (omega arith)))

raised_none : (k : ℕ) (es : List ℕ) → raised_from k [] es ≡ es
raised_none k [] = refl
raised_none k (e ∷ es) = ap (λ (r : List ℕ). e ∷ r) (raised_none (k + 1) es)

-- the epochs from the n-th connection on
same_raised : (ls : List Link) (n m : ℕ) (es : List ℕ) → raised_from n (ends_after n m ls) es ≡ model.raised_epochs m ls es
same_raised [] n m es = raised_none n es
same_raised (l ∷ ls) n m [] = refl
same_raised (l ∷ ls) n m (e ∷ es) =
    let later = ends_after (n + 1) m ls in
    let both = held (l.from == m) (l.to == m) n l later in
    ap (λ t. (if t then e + 1 else e) ∷ raised_from (n + 1) both es)
    (found (l.from == m) (l.to == m) n l later (eq-eqb n n refl) (none_before ls (n + 1) m n (omega arith)))
    ∙ ap (λ (r : List ℕ). (if model.is_of m l then e + 1 else e) ∷ r)
    (raised_alike both later (n + 1) es (λ c g. skipped (l.from == m) (l.to == m) n c l later (ne_eqb n c (λ q. omega (arith, q, g))))
    ∙ same_raised ls (n + 1) m es)

abbrev spent_end : List ℕ → End → Bool
spent_end all e = nat_le 255 (slice_index all e.link)

none_spent : (m : ℕ) (ls : List Link) → model.is_spent m ls [] ≡ false
none_spent m [] = refl
none_spent m (l ∷ ls) = refl

spent_held : (a b t : Bool) (n : ℕ) (l : Link) (es : List End) (all : List ℕ) → nat_le 255 (slice_index all n) ≡ t
    → list_any (spent_end all) (held a b n l es) ≡ (((a || b) && t) || list_any (spent_end all) es)
spent_held true true true n l es all e = ap (λ t. t || (t || list_any (spent_end all) es)) e
spent_held true true false n l es all e = ap (λ t. t || (t || list_any (spent_end all) es)) e
spent_held true false true n l es all e = ap (λ t. t || list_any (spent_end all) es) e
spent_held true false false n l es all e = ap (λ t. t || list_any (spent_end all) es) e
spent_held false true true n l es all e = ap (λ t. t || list_any (spent_end all) es) e
spent_held false true false n l es all e = ap (λ t. t || list_any (spent_end all) es) e
spent_held false false t n l es all e = refl

same_spent : (ls : List Link) (n m : ℕ) (all : List ℕ) → list_any (spent_end all) (ends_after n m ls) ≡ model.is_spent m ls (drop n all)
same_spent [] n m all = refl
same_spent (l ∷ ls) n m all =
    spent_held (l.from == m) (l.to == m) (nat_le 255 (slice_index all n)) n l (ends_after (n + 1) m ls) all refl
    ∙ ap (λ r. (model.is_of m l && nat_le 255 (slice_index all n)) || r) (same_spent ls (n + 1) m all)
    ∙ go (nat_lt n (length all)) refl
  where
    go : (b : Bool) → nat_lt n (length all) ≡ b
        → ((model.is_of m l && nat_le 255 (slice_index all n)) || model.is_spent m ls (drop (n + 1) all)) ≡ model.is_spent m (l ∷ ls) (drop n all)
    go true e =
        let h = ltb-true n (length all) e in
        let split : drop n all ≡ get_or all n 0 ∷ drop (n + 1) all = drop-cons all n 0 h ∙ ap (λ (k : ℕ). get_or all n 0 ∷ drop k all) (sym (add-one n)) in
        sym (ap (λ (r : List ℕ). model.is_spent m (l ∷ ls) r) split)
    go false e =
        let h = ltb-false n (length all) e in
        let zero_here : slice_index all n ≡ 0 = get_or_past all n 0 h in
        let one : drop n all ≡ [] = drop_of_length-le all h in
        let two : drop (n + 1) all ≡ [] = drop_of_length-le all (omega (arith, h)) in
        ap (λ x. (model.is_of m l && nat_le 255 x) || model.is_spent m ls (drop (n + 1) all)) zero_here
        ∙ ap (λ (r : List ℕ). (model.is_of m l && false) || model.is_spent m ls r) two
        ∙ ap (λ t. (model.is_of m l && false) || t) (none_spent m ls)
        ∙ never (model.is_of m l)
        ∙ sym (ap (λ (r : List ℕ). model.is_spent m (l ∷ ls) r) one)
      where
        never : (t : Bool) → ((t && false) || false) ≡ false
        never true = refl
        never false = refl

pub renews_as_the_model : RenewsAsTheModel
renews_as_the_model app m None boot epochs = (refl, refl)
renews_as_the_model app m (Some last) boot epochs =
    (ap (λ t. nat_lt last boot && not t) (same_spent app.links 0 m epochs), same_raised app.links 0 m epochs)
