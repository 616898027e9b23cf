-- The grants that the code computes are those of the definitions.
use Rattle.std.proofs.Common.{◌≡◌, ℕ, zero, suc, ◌+◌, ◌*◌, ◌<◌, ◌≤◌, ◌==◌, Bool, true, false}
use Rattle.std.proofs.Common.{nat_lt, if◌then◌else◌, List, [], ◌∷◌, ◌++◌, length, take, get_or}
use Rattle.std.proofs.Common.{Option, Some, None, refl, sym, subst, ap, ◌∙◌, arith, length-append}
use Rattle.std.proofs.Common.{append_assoc}
use Rattle.std.specs.Prelude.{slice_get}
use Rattle.std.specs.Option.{option_to_list}
use Rattle.std.specs.List.{cons_option}
use Rattle.std.proofs.lemmas.Bool.{ltb-true, ltb-false}
use Rattle.std.proofs.lemmas.List.{get_or-take}
use Rattle.std.specs.Option.{option_flatten}
use Rattle.sx_lang.specs.declared.sides.Side.TheVariants.{From, To}
use Rattle.sx_mean.specs.declared.apps.Link.{Link}
use Rattle.sx_mean.specs.declared.events.End.{End}
use Rattle.sx_mean.specs.Ends.{sending, receiving, ends_after}
use Rattle.sx_deployer.specs.Keeping.{Keeping}
use Rattle.spec_run.specs.Setting.{Setting}
use Rattle.sx_deployer.specs.Granting.{DeployerState, Grant, grant, grants_of, grant_to, grant_beyond, grants_beyond, grants_after}
use Rattle.sx_world.specs.Granted.{boot_in, grant_if_any, own_at, own_from, across_at, across_from, granted}
use Rattle.sx_world.specs.Held.{IsKept}
use Rattle.sx_world.proofs.granting.SameKeys.{boots_taken}

-- an end's grant, where the connection is one of the application's
same_grant : (L : ℕ) (es : List ℕ) (m boot : ℕ) (e : End) → e.link < L → grant es m boot e ≡ grant (take L es) m boot e
same_grant L es m boot e h = ap (λ n. record { holder = m; boot = boot; «end» = e; epoch = n }) (sym (get_or-take L es e.link 0 h))

own_end : (L : ℕ) (es : List ℕ) (m boot : ℕ) (o : Option End) (rest : List Grant) (ends : List End) → ((e : End) → o ≡ Some e → e.link < L)
    → rest ≡ grants_of (take L es) m boot ends → grants_of es m boot (option_to_list o) ++ rest ≡ grants_of (take L es) m boot (cons_option o ends)
own_end L es m boot None rest ends h e = e
own_end L es m boot (Some x) rest ends h e =
    ap (λ (g : Grant). g ∷ rest) (same_grant L es m boot x (h x refl)) ∙ ap (λ (gs : List Grant). grant (take L es) m boot x ∷ gs) e

sending_link : (b : Bool) (n L : ℕ) (l : Link) (e : End) → n < L → (if b then Some (record { link = n; side = From; port = l.output }) else None) ≡ Some e → e.link < L
sending_link true n L l e h is = subst (λ (o : Option End). link_of o < L) is h
  where
    link_of : Option End → ℕ
    link_of None = 0
    link_of (Some e) = e.link
sending_link false n L l e h is = absurd cc

receiving_link : (b : Bool) (n L : ℕ) (l : Link) (e : End) → n < L → (if b then Some (record { link = n; side = To; port = l.input }) else None) ≡ Some e → e.link < L
receiving_link true n L l e h is = subst (λ (o : Option End). link_of o < L) is h
  where
    link_of : Option End → ℕ
    link_of None = 0
    link_of (Some e) = e.link
receiving_link false n L l e h is = absurd cc

own_same : (ls : List Link) (n L : ℕ) (es : List ℕ) (m boot : ℕ) → n + length ls ≤ L → own_from es m boot n ls ≡ grants_of (take L es) m boot (ends_after n m ls)
own_same [] n L es m boot h = refl
own_same (l ∷ ls) n L es m boot h =
    append_assoc (grants_of es m boot (option_to_list (sending n m l))) (grants_of es m boot (option_to_list (receiving n m l))) (own_from es m boot (n + 1) ls)
    ∙ own_end L es m boot (sending n m l) _ _ (λ e is. sending_link (l.from == m) n L l e (omega (arith, h)) is)
    (own_end L es m boot (receiving n m l) _ _ (λ e is. receiving_link (l.to == m) n L l e (omega (arith, h)) is)
    (own_same ls (n + 1) L es m boot (omega (arith, h))))

none_past : (n : ℕ) (xs : List (Option ℕ)) (i : ℕ) → n ≤ i → slice_get (take n xs) i ≡ None
none_past zero xs i h = refl
none_past (suc n) [] i h = refl
none_past (suc n) (x ∷ xs) zero h = absurd (omega (arith, h))
none_past (suc n) (x ∷ xs) (suc i) h = none_past n xs i (omega (arith, h))

-- the boot of a module, of the application or not
boot_same : (P : ℕ) (xs : List (Option ℕ)) (j : ℕ) (b : Bool) → nat_lt j P ≡ b → (if b then get_or xs j None else None) ≡ option_flatten (slice_get (take P xs) j)
boot_same P xs j true e = sym (boots_taken P xs j (ltb-true j P e))
boot_same P xs j false e =
    sym (ap option_flatten (none_past P xs j (ltb-false j P e)))

to_same : (L : ℕ) (es : List ℕ) (j : ℕ) (e : End) (o : Option (Option ℕ)) → e.link < L → option_to_list (grant_if_any es j e (option_flatten o)) ≡ grant_to (take L es) j o e
to_same L es j e None h = refl
to_same L es j e (Some None) h = refl
to_same L es j e (Some (Some boot)) h = ap (λ (g : Grant). g ∷ []) (same_grant L es j boot e h)

beyond_to : (k : Keeping) (P L : ℕ) (j : ℕ) (e : End) → e.link < L
    → option_to_list (grant_if_any k.state.epochs j e (boot_in k P j)) ≡ grant_to (take L k.state.epochs) j (slice_get (take P k.state.attested) j) e
beyond_to k P L j e h =
    ap (λ o. option_to_list (grant_if_any k.state.epochs j e o)) (boot_same P k.state.attested j (nat_lt j P) refl)
    ∙ to_same L k.state.epochs j e (slice_get (take P k.state.attested) j) h

across_one : (k : Keeping) (d : DeployerState) (P L m n : ℕ) (l : Link) → d.epochs ≡ take L k.state.epochs → d.attested ≡ take P k.state.attested → n < L
    → option_to_list (across_at k P m n l) ≡ grant_beyond d m n l
across_one k d P L m n l ee ea h = by_ends (l.from == l.to) (l.from == m) (l.to == m)
  where
    to_end : End
    to_end = record { link = n; side = To; port = l.input }

    from_end : End
    from_end = record { link = n; side = From; port = l.output }

    held : (j : ℕ) (e : End) → e.link < L → option_to_list (grant_if_any k.state.epochs j e (boot_in k P j)) ≡ grant_to d.epochs j (slice_get d.attested j) e
    held j e lt =
        beyond_to k P L j e lt ∙ ap (λ (es : List ℕ). grant_to es j (slice_get (take P k.state.attested) j) e) (sym ee)
        ∙ ap (λ (xs : List (Option ℕ)). grant_to d.epochs j (slice_get xs j) e) (sym ea)

    by_ends : (a b c : Bool)
        → option_to_list (if a then None else if b then grant_if_any k.state.epochs l.to to_end (boot_in k P l.to) else if c then grant_if_any k.state.epochs l.from from_end (boot_in k P l.from) else None)
        ≡ (if a then [] else if b then grant_to d.epochs l.to (slice_get d.attested l.to) to_end else if c then grant_to d.epochs l.from (slice_get d.attested l.from) from_end else [])
    by_ends true b c = refl
    by_ends false true c = held l.to to_end h
    by_ends false false true = held l.from from_end h
    by_ends false false false = refl

across_same : (k : Keeping) (d : DeployerState) (P L m : ℕ) (n : ℕ) (ls : List Link) → d.epochs ≡ take L k.state.epochs → d.attested ≡ take P k.state.attested → n + length ls ≤ L
    → across_from k P m n ls ≡ grants_beyond d m n ls
across_same k d P L m n [] ee ea h = refl
across_same k d P L m n (l ∷ ls) ee ea h =
    ap (λ (gs : List Grant). gs ++ across_from k P m (n + 1) ls) (across_one k d P L m n l ee ea (omega (arith, h)))
    ∙ ap (λ (gs : List Grant). grant_beyond d m n l ++ gs) (across_same k d P L m (n + 1) ls ee ea (omega (arith, h)))

-- the grants after an accepted answer
pub same_grants : (set : Setting) (k : Keeping) (d : DeployerState) (m boot : ℕ) (last : Option ℕ) → IsKept set k d
    → granted k (length set.app.parts) set.app.links m boot last ≡ grants_after set.app d m boot last
same_grants set k d m boot last h = by_last last
  where
    L : ℕ
    L = length set.app.links

    own : own_from k.state.epochs m boot 0 set.app.links ≡ grants_of d.epochs m boot (ends_after 0 m set.app.links)
    own = own_same set.app.links 0 L k.state.epochs m boot (omega arith) ∙ ap (λ (es : List ℕ). grants_of es m boot (ends_after 0 m set.app.links)) h.epochs

    by_last : (last : Option ℕ) → granted k (length set.app.parts) set.app.links m boot last ≡ grants_after set.app d m boot last
    by_last None = own
    by_last (Some b) =
        ap (λ (gs : List Grant). gs ++ across_from k (length set.app.parts) m 0 set.app.links) own
        ∙ ap (λ (gs : List Grant). grants_of d.epochs m boot (ends_after 0 m set.app.links) ++ gs)
        (across_same k d (length set.app.parts) L m 0 set.app.links (sym h.epochs) (sym h.attested) (omega arith))

-- how many they are
few_ends : (es : List ℕ) (m boot : ℕ) (o : Option End) → length (grants_of es m boot (option_to_list o)) ≤ 1
few_ends es m boot None = omega arith
few_ends es m boot (Some e) = omega arith

few_own : (ls : List Link) (n : ℕ) (es : List ℕ) (m boot : ℕ) → length (own_from es m boot n ls) ≤ 2 * length ls
few_own [] n es m boot = omega arith
few_own (l ∷ ls) n es m boot =
    let a = few_ends es m boot (sending n m l) in
    let b = few_ends es m boot (receiving n m l) in
    let r = few_own ls (n + 1) es m boot in
    let s = length-append (grants_of es m boot (option_to_list (sending n m l))) (grants_of es m boot (option_to_list (receiving n m l))) in
    let t = length-append (own_at es m boot n l) (own_from es m boot (n + 1) ls) in
    omega (arith, a, b, r, s, t)

few_option : (o : Option Grant) → length (option_to_list o) ≤ 1
few_option None = omega arith
few_option (Some g) = omega arith

few_across : (k : Keeping) (P m n : ℕ) (ls : List Link) → length (across_from k P m n ls) ≤ length ls
few_across k P m n [] = omega arith
few_across k P m n (l ∷ ls) =
    let a = few_option (across_at k P m n l) in
    let r = few_across k P m (n + 1) ls in
    let t = length-append (option_to_list (across_at k P m n l)) (across_from k P m (n + 1) ls) in
    omega (arith, a, r, t)

-- at most three for each connection
pub few_grants : (k : Keeping) (P m boot : ℕ) (ls : List Link) (last : Option ℕ) → length (granted k P ls m boot last) ≤ 3 * length ls
few_grants k P m boot ls None = let a = few_own ls 0 k.state.epochs m boot in omega (arith, a)
few_grants k P m boot ls (Some b) =
    let a = few_own ls 0 k.state.epochs m boot in
    let c = few_across k P m 0 ls in
    let t = length-append (own_from k.state.epochs m boot 0 ls) (across_from k P m 0 ls) in
    omega (arith, a, c, t)
