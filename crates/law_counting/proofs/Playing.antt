-- A process is a play that is blind.
use Rattle.std.proofs.Common.{◌≡◌, ℕ, zero, suc, ◌<◌, ◌≤◌, ◌==◌, Bool, true, false, List, [], ◌∷◌, refl, sym, ◌∙◌, ap, subst, arith, ◌⊎◌, inl, inr, Some, None}
use Rattle.std.proofs.lemmas.Bool.{true≢false, eqb-false, cases_eq, and_parts, or_parts, or_from, not-true}
use Rattle.law_counting.specs.Counting.{at, put}
use Rattle.law_counting.specs.Guesses.{Attempt, Play, misses, all_miss, IsBlind}
use Rattle.law_counting.specs.Processes.{Move, Stop, Ask, Try, Event, Given, Tried, is_in, noted, events, nth_try, given_before, play_of, IsInside, ProcessesSeldomHit}
use Rattle.law_counting.proofs.Lines.{at_other}
use Rattle.law_counting.proofs.Hits.{few_guesses_hit}

given_stays : (xs : List Event) (i j e : ℕ) → i ≤ j → given_before xs j e ≡ false → given_before xs i e ≡ false
given_stays [] i j e le h = refl
given_stays (Given d ∷ xs) i j e le h =
    let p = or_parts (d == e) (given_before xs j e) h in
    or_from (d == e) (given_before xs i e) p.0 (given_stays xs i j e le p.1)
given_stays (Tried x ∷ xs) zero j e le h = refl
given_stays (Tried x ∷ xs) (suc i) zero e le h = absurd (omega (arith, le))
given_stays (Tried x ∷ xs) (suc i) (suc j) e le h = given_stays xs i j e (omega (arith, le)) h

module _ {S : Type 0} (next : S → Move S) where
  inside_events : (n m : ℕ) (move : Move S) (asked t : List ℕ) (j : ℕ) (x : Attempt) → ((r : S) → IsInside n (next r)) → IsInside n move
      → nth_try (events next m move asked t) j ≡ Some x → x.entry < n
  inside_events n zero move asked t j x all h e = absurd (elim_none e)
    where
      elim_none : None ≡ Some x → ⊥
      elim_none q = cc
  inside_events n (suc m) Stop asked t j x all h e = absurd (elim_none e)
    where
      elim_none : None ≡ Some x → ⊥
      elim_none q = cc
  inside_events n (suc m) (Ask d f) asked t j x all h e =
      inside_events n m (next (f (at t d))) (d ∷ asked) t j x all (all (f (at t d))) e
  inside_events n (suc m) (Try d v f) asked t j x all h e =
      by (is_in d asked) j e (λ i q. inside_events n m (next (f (at t d == v))) asked t i x all (all (f (at t d == v))) q)
    where
      by : (b : Bool) (i : ℕ) → nth_try (noted b (record { entry = d; value = v }) (events next m (next (f (at t d == v))) asked t)) i ≡ Some x
          → ((k : ℕ) → nth_try (events next m (next (f (at t d == v))) asked t) k ≡ Some x → x.entry < n) → x.entry < n
      by true i q rec = rec i q
      by false zero q rec = let same : d ≡ x.entry = cc in subst (λ (z : ℕ). z < n) same h
      by false (suc i) q rec = rec i q

  fresh_events : (m : ℕ) (move : Move S) (asked t : List ℕ) (j : ℕ) (x : Attempt) → nth_try (events next m move asked t) j ≡ Some x
      → (is_in x.entry asked ≡ false) × (given_before (events next m move asked t) j x.entry ≡ false)
  fresh_events zero move asked t j x e = absurd (elim_none e)
    where
      elim_none : None ≡ Some x → ⊥
      elim_none q = cc
  fresh_events (suc m) Stop asked t j x e = absurd (elim_none e)
    where
      elim_none : None ≡ Some x → ⊥
      elim_none q = cc
  fresh_events (suc m) (Ask d f) asked t j x e =
      let r = fresh_events m (next (f (at t d))) (d ∷ asked) t j x e in
      let p = or_parts (d == x.entry) (is_in x.entry asked) r.0 in
      (p.1, or_from (d == x.entry) (given_before (events next m (next (f (at t d))) (d ∷ asked) t) j x.entry) p.0 r.1)
  fresh_events (suc m) (Try d v f) asked t j x e =
      by (is_in d asked) refl j e (λ i q. fresh_events m (next (f (at t d == v))) asked t i x q)
    where
      by : (b : Bool) → is_in d asked ≡ b → (i : ℕ) → nth_try (noted b (record { entry = d; value = v }) (events next m (next (f (at t d == v))) asked t)) i ≡ Some x
          → ((k : ℕ) → nth_try (events next m (next (f (at t d == v))) asked t) k ≡ Some x
          → (is_in x.entry asked ≡ false) × (given_before (events next m (next (f (at t d == v))) asked t) k x.entry ≡ false))
          → (is_in x.entry asked ≡ false) × (given_before (noted b (record { entry = d; value = v }) (events next m (next (f (at t d == v))) asked t)) i x.entry ≡ false)
      by true is i q rec = rec i q
      by false is zero q rec = let same : d ≡ x.entry = cc in (subst (λ (z : ℕ). is_in z asked ≡ false) same is, refl)
      by false is (suc i) q rec = rec i q

  -- as long as all attempts miss in both tables, which differ at an entry that isn't asked for, all goes alike
  blind_events : (m : ℕ) (move : Move S) (asked t : List ℕ) (e u j : ℕ) → is_in e asked ≡ false
      → given_before (events next m move asked t) j e ≡ false
      → ((i : ℕ) → i < j → misses (nth_try (events next m move asked t) i) t ≡ true)
      → ((i : ℕ) → i < j → misses (nth_try (events next m move asked (put t e u)) i) (put t e u) ≡ true)
      → nth_try (events next m move asked (put t e u)) j ≡ nth_try (events next m move asked t) j
  blind_events zero move asked t e u j new h p q = refl
  blind_events (suc m) Stop asked t e u j new h p q = refl
  blind_events (suc m) (Ask d f) asked t e u j new h p q =
      let parts = or_parts (d == e) (given_before (events next m (next (f (at t d))) (d ∷ asked) t) j e) h in
      let same : at (put t e u) d ≡ at t d = at_other t d e u (eqb-false d e parts.0) in
      subst (λ (z : ℕ). nth_try (events next m (next (f z)) (d ∷ asked) (put t e u)) j ≡ nth_try (events next m (next (f (at t d))) (d ∷ asked) t) j) (sym same)
      (blind_events m (next (f (at t d))) (d ∷ asked) t e u j (or_from (d == e) (is_in e asked) parts.0 new) parts.1 p
      (subst (λ (z : ℕ). (i : ℕ) → i < j → misses (nth_try (events next m (next (f z)) (d ∷ asked) (put t e u)) i) (put t e u) ≡ true) same q))
  blind_events (suc m) (Try d v f) asked t e u j new h p q =
      by (is_in d asked) refl j h p q (λ b i. blind_events m (next (f b)) asked t e u i new)
    where
      x : Attempt
      x = record { entry = d; value = v }

      by : (b : Bool) → is_in d asked ≡ b → (i : ℕ)
          → given_before (noted b (record { entry = d; value = v }) (events next m (next (f (at t d == v))) asked t)) i e ≡ false
          → ((k : ℕ) → k < i → misses (nth_try (noted b (record { entry = d; value = v }) (events next m (next (f (at t d == v))) asked t)) k) t ≡ true)
          → ((k : ℕ) → k < i → misses (nth_try (noted b (record { entry = d; value = v }) (events next m (next (f (at (put t e u) d == v))) asked (put t e u))) k) (put t e u) ≡ true)
          → ((b : Bool) (i : ℕ) → given_before (events next m (next (f b)) asked t) i e ≡ false
          → ((k : ℕ) → k < i → misses (nth_try (events next m (next (f b)) asked t) k) t ≡ true)
          → ((k : ℕ) → k < i → misses (nth_try (events next m (next (f b)) asked (put t e u)) k) (put t e u) ≡ true)
          → nth_try (events next m (next (f b)) asked (put t e u)) i ≡ nth_try (events next m (next (f b)) asked t) i)
          → nth_try (noted b (record { entry = d; value = v }) (events next m (next (f (at (put t e u) d == v))) asked (put t e u))) i
          ≡ nth_try (noted b (record { entry = d; value = v }) (events next m (next (f (at t d == v))) asked t)) i
      by true is i g p2 q2 rec =
          let apart : d ≡ e → ⊥ = λ w. true≢false (sym is ∙ ap (λ (z : ℕ). is_in z asked) w ∙ new) in
          let same : at (put t e u) d ≡ at t d = at_other t d e u apart in
          subst (λ (z : ℕ). nth_try (events next m (next (f (z == v))) asked (put t e u)) i ≡ nth_try (events next m (next (f (at t d == v))) asked t) i) (sym same)
          (rec (at t d == v) i g p2
          (subst (λ (z : ℕ). (k : ℕ) → k < i → misses (nth_try (events next m (next (f (z == v))) asked (put t e u)) k) (put t e u) ≡ true) same q2))
      by false is zero g p2 q2 rec = refl
      by false is (suc i) g p2 q2 rec =
          let here : (at t d == v) ≡ false = not-true (at t d == v) (p2 0 (omega arith)) in
          let there : (at (put t e u) d == v) ≡ false = not-true (at (put t e u) d == v) (q2 0 (omega arith)) in
          subst (λ (b : Bool). nth_try (events next m (next (f b)) asked (put t e u)) i ≡ nth_try (events next m (next (f (at t d == v))) asked t) i) (sym there)
          (subst (λ (b : Bool). nth_try (events next m (next (f false)) asked (put t e u)) i ≡ nth_try (events next m (next (f b)) asked t) i) (sym here)
          (rec false i (subst (λ (b : Bool). given_before (events next m (next (f b)) asked t) i e ≡ false) here g)
          (subst (λ (b : Bool). (k : ℕ) → k < i → misses (nth_try (events next m (next (f b)) asked t) k) t ≡ true) here (λ k lt. p2 (suc k) (omega (arith, lt))))
          (subst (λ (b : Bool). (k : ℕ) → k < i → misses (nth_try (events next m (next (f b)) asked (put t e u)) k) (put t e u) ≡ true) there (λ k lt. q2 (suc k) (omega (arith, lt))))))

each_miss : (play : Play) (t : List ℕ) (j : ℕ) → all_miss play t j ≡ true → (i : ℕ) → i < j → misses (play.tries t i) t ≡ true
each_miss play t zero h i lt = absurd (omega (arith, lt))
each_miss play t (suc j) h i lt = by (cases_eq i j) (each_miss play t j)
  where
    by : (i ≡ j) ⊎ (i ≡ j → ⊥) → (all_miss play t j ≡ true → (k : ℕ) → k < j → misses (play.tries t k) t ≡ true) → misses (play.tries t i) t ≡ true
    by (inl e) rec = subst (λ (z : ℕ). misses (play.tries t z) t ≡ true) (sym e) (and_parts (all_miss play t j) (misses (play.tries t j) t) h).1
    by (inr ne) rec = rec (and_parts (all_miss play t j) (misses (play.tries t j) t) h).0 i (omega (arith, lt, ne))

is_blind : {S : Type 0} (next : S → Move S) (s : S) (m n width : ℕ) → ((r : S) → IsInside n (next r)) → IsBlind n width (play_of next m s)
is_blind next s m n width all = record {
  inside = λ t j x table e. inside_events next n m (next s) [] t j x all (all s) e;
  fresh = λ t j x table e. (fresh_events next m (next s) [] t j x e).1;
  stays = λ t i j e table le h. given_stays (events next m (next s) [] t) i j e le h;
  blind = λ t j e v table low lt g h k. blind_events next m (next s) [] t e v j refl g
      (each_miss (play_of next m s) t j h) (each_miss (play_of next m s) (put t e v) j k);
}

pub processes_seldom_hit : ProcessesSeldomHit
processes_seldom_hit S next s m n width q all le = few_guesses_hit n width q (play_of next m s) (is_blind next s m n width all) le
