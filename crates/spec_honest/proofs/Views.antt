-- The views of a part's ends as values are delivered.
use Rattle.std.proofs.Common.{◌≡◌, ℕ, zero, suc, ◌+◌, ◌==◌, ◌&&◌, Bool, true, false, if◌then◌else◌, List, [], ◌∷◌, ◌++◌, length, map, Option, Some, None}
use Rattle.std.proofs.Common.{slice_get, nat_le, zero-add, refl, sym, ap, ◌∙◌, arith}
use Rattle.std.specs.List.{cons_option}
use Rattle.std.proofs.lemmas.Bool.{eq-eqb, eqb-true, ne_eqb}
use Rattle.std.proofs.lemmas.Bool.Decides.{nat_tests}
use Rattle.std.proofs.lemmas.List.{length-append}
use Rattle.std.proofs.lemmas.Option.{same_Some}
use Rattle.sx_lang.specs.declared.sides.Side.{Side}
use Rattle.sx_lang.specs.declared.sides.Side.TheVariants.{From, To}
use Rattle.sx_mean.specs.declared.apps.Link.{Link}
use Rattle.sx_mean.specs.declared.events.End.{End}
use Rattle.sx_mean.specs.Application.{AppTree}
use Rattle.sx_mean.specs.Ends.{ends_after, ends_of, receiving, sending, same_side}
use Rattle.sx_model.specs.State.{EndView}
use Rattle.sx_model.specs.Renewal.{takes}
use Rattle.sx_model.specs.Step.{changed_views}
use Rattle.spec_honest.specs.Plain.{Waiting}
use Rattle.spec_honest.specs.Course.{count_over, words_over}
use Rattle.spec_honest.proofs.Agreement.{view_of}
use Rattle.spec_honest.proofs.Sending.{words-other, words-push}

-- the count of a connection that a value went over, and of another
pub count-same : (c : ℕ) (past : List Waiting) (w : Waiting) → w.link ≡ c → count_over c (past ++ w ∷ []) ≡ count_over c past + 1
count-same c past w e = ap (λ (zs : List ℕ). length zs) (words-push c past w e) ∙ length-append (words_over c past) (w.value ∷ [])

pub count-other : (c : ℕ) (past : List Waiting) (w : Waiting) → (w.link ≡ c → ⊥) → count_over c (past ++ w ∷ []) ≡ count_over c past
count-other c past w n = ap (λ (zs : List ℕ). length zs) (words-other c past w n)

-- an end that the value doesn't go to is as it was
view_kept : (past : List Waiting) (w : Waiting) (n : ℕ) (side : Side) (port : ℕ) → (side ≡ To → w.link ≡ n → ⊥)
    → view_of (past ++ w ∷ []) (record { link = n; side = side; port = port }) ≡ view_of past (record { link = n; side = side; port = port })
view_kept past w n From port far = refl
view_kept past w n To port far = ap (λ (k : ℕ). record { epoch = Some 0; next = k }) (count-other n past w (far refl))

-- Ends of the connections from the n-th on, of which none is the value's, or where the part isn't its receiver.

views_kept : (past : List Waiting) (w : Waiting) (n p : ℕ) (ls : List Link) → ((j : ℕ) (l : Link) → slice_get ls j ≡ Some l → l.to ≡ p → w.link ≡ n + j → ⊥)
    → map (view_of (past ++ w ∷ [])) (ends_after n p ls) ≡ map (view_of past) (ends_after n p ls)
views_kept past w n p [] far = refl
views_kept past w n p (l ∷ ls) far =
    go (l.from == p) (l.to == p) refl (views_kept past w (n + 1) p ls (λ j k e t s. far (suc j) k e t (omega (arith, s))))
  where
    at : l.to ≡ p → w.link ≡ n → ⊥
    at t s = far 0 l refl t (omega (arith, s))

    go : (a b : Bool) → (l.to == p) ≡ b → map (view_of (past ++ w ∷ [])) (ends_after (n + 1) p ls) ≡ map (view_of past) (ends_after (n + 1) p ls)
        → let held : List End = cons_option (if a then Some (record { link = n; side = From; port = l.output }) else None)
        (cons_option (if b then Some (record { link = n; side = To; port = l.input }) else None) (ends_after (n + 1) p ls)) in
        map (view_of (past ++ w ∷ [])) held ≡ map (view_of past) held
    go true true t more =
        ap (λ (v : EndView). view_of past (record { link = n; side = From; port = l.output }) ∷ v ∷ map (view_of (past ++ w ∷ [])) (ends_after (n + 1) p ls))
        (view_kept past w n To l.input (λ _. at (eqb-true l.to p t)))
        ∙ ap (λ (vs : List EndView). view_of past (record { link = n; side = From; port = l.output }) ∷ view_of past (record { link = n; side = To; port = l.input }) ∷ vs) more
    go true false t more = ap (λ (vs : List EndView). view_of past (record { link = n; side = From; port = l.output }) ∷ vs) more
    go false true t more =
        ap (λ (v : EndView). v ∷ map (view_of (past ++ w ∷ [])) (ends_after (n + 1) p ls)) (view_kept past w n To l.input (λ _. at (eqb-true l.to p t)))
        ∙ ap (λ (vs : List EndView). view_of past (record { link = n; side = To; port = l.input }) ∷ vs) more
    go false false t more = more

-- another part's ends are as they were
pub other_views : (app : AppTree) (past : List Waiting) (w : Waiting) (l : Link) (p : ℕ) → slice_get app.links w.link ≡ Some l → (l.to ≡ p → ⊥)
    → map (view_of (past ++ w ∷ [])) (ends_of app p) ≡ map (view_of past) (ends_of app p)
other_views app past w l p e n =
    views_kept past w 0 p app.links (λ j k f t s.
    let at : w.link ≡ j = omega (arith, s) in
    let same : k ≡ l = same_Some k l (sym f ∙ ap (λ i. slice_get app.links i) (sym at) ∙ e) in
    n (ap (λ (k : Link). k.to) (sym same) ∙ t))

-- The receiver's end takes the value.

take_view : (past : List Waiting) (w : Waiting) (n port : ℕ) → w.link ≡ n
    → takes 0 (count_over w.link past) (view_of past (record { link = n; side = To; port = port })) ≡ Some (view_of (past ++ w ∷ []) (record { link = n; side = To; port = port }))
take_view past w n port e =
    let at : count_over w.link past ≡ count_over n past = ap (λ c. count_over c past) e in
    let le : nat_le (count_over n past) (count_over n past) ≡ true = grind (arith, nat_tests) in
    rw (at, le, count-same n past w e) refl

-- an end that isn't the one is passed over
passed : (change : EndView → Option EndView) (c : ℕ) (side : Side) (e : End) (es : List End) (v v' : EndView) (views news : List EndView) → ((e.link == c) && same_side e.side side) ≡ false
    → v ≡ v' → changed_views change c side es views ≡ Some news → changed_views change c side (e ∷ es) (v ∷ views) ≡ Some (v' ∷ news)
passed change c side e es v v' views news t same h = rw (t, h, same) refl

-- the one is changed
changed : (change : EndView → Option EndView) (c : ℕ) (side : Side) (e : End) (es : List End) (v v' : EndView) (views news : List EndView) → ((e.link == c) && same_side e.side side) ≡ true
    → change v ≡ Some v' → views ≡ news → changed_views change c side (e ∷ es) (v ∷ views) ≡ Some (v' ∷ news)
changed change c side e es v v' views news t h same = rw (t, h, same) refl

-- the first connection is the value's
taken_here : (past : List Waiting) (w : Waiting) (n p : ℕ) (k : Link) (es : List End) → w.link ≡ n → k.to ≡ p → map (view_of (past ++ w ∷ [])) es ≡ map (view_of past) es
    → let held = cons_option (sending n p k) (cons_option (receiving n p k) es) in
    changed_views (takes 0 (count_over w.link past)) w.link To held (map (view_of past) held) ≡ Some (map (view_of (past ++ w ∷ [])) held)
taken_here past w n p k es here to far = go (k.from == p) (k.to == p) (eq-eqb k.to p to)
  where
    go : (a b : Bool) → b ≡ true
        → let held : List End = cons_option (if a then Some (record { link = n; side = From; port = k.output }) else None)
        (cons_option (if b then Some (record { link = n; side = To; port = k.input }) else None) es) in
        changed_views (takes 0 (count_over w.link past)) w.link To held (map (view_of past) held) ≡ Some (map (view_of (past ++ w ∷ [])) held)
    go a false t = absurd cc
    go true true t =
        let same : (n == w.link) ≡ true = eq-eqb n w.link (sym here) in
        let change = takes 0 (count_over w.link past) in
        let from : End = record { link = n; side = From; port = k.output } in
        let end : End = record { link = n; side = To; port = k.input } in
        passed change w.link To from (end ∷ es) (view_of past from) (view_of (past ++ w ∷ []) from) (map (view_of past) (end ∷ es)) (map (view_of (past ++ w ∷ [])) (end ∷ es)) (rw same refl) refl
        (changed change w.link To end es (view_of past end) (view_of (past ++ w ∷ []) end) (map (view_of past) es) (map (view_of (past ++ w ∷ [])) es)
        (rw same refl) (take_view past w n k.input here) (sym far))
    go false true t =
        let same : (n == w.link) ≡ true = eq-eqb n w.link (sym here) in
        let change = takes 0 (count_over w.link past) in
        let end : End = record { link = n; side = To; port = k.input } in
        changed change w.link To end es (view_of past end) (view_of (past ++ w ∷ []) end) (map (view_of past) es) (map (view_of (past ++ w ∷ [])) es)
        (rw same refl) (take_view past w n k.input here) (sym far)

-- a later one is
taken_later : (past : List Waiting) (w : Waiting) (n p : ℕ) (k : Link) (es : List End) → (w.link ≡ n → ⊥)
    → changed_views (takes 0 (count_over w.link past)) w.link To es (map (view_of past) es) ≡ Some (map (view_of (past ++ w ∷ [])) es)
    → let held = cons_option (sending n p k) (cons_option (receiving n p k) es) in
    changed_views (takes 0 (count_over w.link past)) w.link To held (map (view_of past) held) ≡ Some (map (view_of (past ++ w ∷ [])) held)
taken_later past w n p k es apart more = at (k.from == p) (to (k.to == p))
  where
    one : (side : Side) (port : ℕ) (fs : List End) → changed_views (takes 0 (count_over w.link past)) w.link To fs (map (view_of past) fs) ≡ Some (map (view_of (past ++ w ∷ [])) fs)
        → let e : End = record { link = n; side = side; port = port } in
        changed_views (takes 0 (count_over w.link past)) w.link To (e ∷ fs) (map (view_of past) (e ∷ fs)) ≡ Some (map (view_of (past ++ w ∷ [])) (e ∷ fs))
    one side port fs h =
        let differs : (n == w.link) ≡ false = ne_eqb n w.link (λ z. apart (sym z)) in
        let e : End = record { link = n; side = side; port = port } in
        passed (takes 0 (count_over w.link past)) w.link To e fs (view_of past e) (view_of (past ++ w ∷ []) e) (map (view_of past) fs) (map (view_of (past ++ w ∷ [])) fs) (rw differs refl)
        (sym (view_kept past w n side port (λ _. apart))) h

    to : (b : Bool) → let fs : List End = cons_option (if b then Some (record { link = n; side = To; port = k.input }) else None) es in
        changed_views (takes 0 (count_over w.link past)) w.link To fs (map (view_of past) fs) ≡ Some (map (view_of (past ++ w ∷ [])) fs)
    to true = one To k.input es more
    to false = more

    at : (a : Bool) → (let fs = cons_option (receiving n p k) es in changed_views (takes 0 (count_over w.link past)) w.link To fs (map (view_of past) fs) ≡ Some (map (view_of (past ++ w ∷ [])) fs))
        → let held : List End = cons_option (if a then Some (record { link = n; side = From; port = k.output }) else None) (cons_option (receiving n p k) es) in
        changed_views (takes 0 (count_over w.link past)) w.link To held (map (view_of past) held) ≡ Some (map (view_of (past ++ w ∷ [])) held)
    at true h = one From k.output (cons_option (receiving n p k) es) h
    at false h = h

taken_after : (past : List Waiting) (w : Waiting) (n j p : ℕ) (ls : List Link) (l : Link) → slice_get ls j ≡ Some l → l.to ≡ p → w.link ≡ n + j
    → changed_views (takes 0 (count_over w.link past)) w.link To (ends_after n p ls) (map (view_of past) (ends_after n p ls)) ≡ Some (map (view_of (past ++ w ∷ [])) (ends_after n p ls))
taken_after past w n j p [] l e t s = absurd cc
taken_after past w n zero p (k ∷ ls) l e t s =
    let here : w.link ≡ n = omega (arith, s) in
    taken_here past w n p k (ends_after (n + 1) p ls) here (ap (λ (k : Link). k.to) (same_Some k l e) ∙ t) (views_kept past w (n + 1) p ls (λ i m f u z. omega (arith, z, here)))
taken_after past w n (suc j) p (k ∷ ls) l e t s =
    taken_later past w n p k (ends_after (n + 1) p ls) (λ z. omega (arith, s, z)) (taken_after past w (n + 1) j p ls l e t (omega (arith, s)))

pub taken_views : (app : AppTree) (past : List Waiting) (w : Waiting) (l : Link) → slice_get app.links w.link ≡ Some l
    → changed_views (takes 0 (count_over w.link past)) w.link To (ends_of app l.to) (map (view_of past) (ends_of app l.to)) ≡ Some (map (view_of (past ++ w ∷ [])) (ends_of app l.to))
taken_views app past w l e = taken_after past w 0 w.link l.to app.links l e refl (sym (zero-add w.link))
