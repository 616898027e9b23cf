-- Lines in both runs, one after the other.
use Rattle.std.proofs.Common.{◌≡◌, ℕ, zero, suc, ◌+◌, ◌/◌, ◌<◌, ◌==◌, ◌||◌, Bool, true, false, if◌then◌else◌, inl, inr}
use Rattle.std.proofs.Common.{List, [], ◌∷◌, length, take, drop, Option, Some, None, refl, sym, ◌∙◌, ap, ap₂, subst, arith}
use Rattle.std.specs.Prelude.{slice_get}
use Rattle.std.proofs.lemmas.Bool.{eqb-true}
use Rattle.lemmas.proofs.Lists.{get_same, get_some}
use Rattle.sx_trace.specs.declared.items.Item.{Item}
use Rattle.sx_trace.specs.declared.items.Item.TheVariants as item
use Rattle.sx_tag.specs.Mac.{Mac}
use Rattle.spec_machine.specs.State.{State}
use Rattle.spec_machine.specs.Step.{own_of, step}
use Rattle.spec_machine.specs.Acts.{now}
use Rattle.sx_sched.specs.Lines as line
use Rattle.sx_sched.specs.Lines.{Line}
use Rattle.spec_run.specs.Setting.{Setting, Site, module_of}
use Rattle.spec_run.specs.State.{World, Acted}
use Rattle.spec_run.specs.Acts.{only, then_, at_node, after_step}
use Rattle.spec_run.specs.Run.{is_reset, steps_of, finish, FINISH_STEPS, put_on, put_pieces, Register, set_on, set_all, protect_registers, call_registers, unless_busy, load, call}
use Rattle.spec_run.specs.Run.{after_line, line_counted, run}
use Rattle.spec_run.specs.Law.{IsSoundSetting, LineInForm, LinesInForm}
use Rattle.spec_run.proofs.tie.Lists.{get_within}
use Rattle.law_isolation.specs.Happening.{Happening, Step, Put, Set, Take, Give, Forge, Sense, Irq, Reset, Ask, Answer, Show, done}
use Rattle.law_isolation.specs.Script.{Script, End, Do, Look, look, looks}
use Rattle.law_isolation.specs.Lines.{all, steps, ends, where_node, finishing, unless_running, pieces, setting_of, loading, calling, line_script, script_of}
use Rattle.law_isolation.proofs.Places.{get_map, get_map_none}
use Rattle.law_forgery.specs.Moments.{NoForged}
use Rattle.law_forgery.proofs.Turns.{AllTurn}
use Rattle.law_forgery.proofs.Reaching.{InForm, done_turns}
use Rattle.law_connections.specs.Unlinked.{Unlinked}
use Rattle.law_connections.specs.Laws.{HidesKeys}
use Rattle.law_connections.proofs.Upto.{Clean, clean_none, clean_left, clean_right}
use Rattle.law_connections.proofs.Linking.{second}
use Rattle.law_connections.proofs.Between.{SameTurn}
use Rattle.law_connections.proofs.Worlds.{SameAt, SameRun, SameActed, acted_same, then_same, at_same}
use Rattle.law_connections.proofs.Stepping.{GuessesNone}
use Rattle.law_connections.proofs.AnyStep.{any_done}
use Rattle.law_connections.proofs.Doing.{outside_turn}
use Rattle.law_connections.proofs.Happenings.{step_boot, outside_done}

-- nothing that the script does next guesses, until a `forged` shows
abbrev pub GuessesNow : Setting → Setting → Happening → World → Type 0
GuessesNow a b x w = (n : ℕ) (s : State) → x ≡ Step n → slice_get w.nodes n ≡ Some s → module_of a.sites n s (own_of s) ≡ None → GuessesNone a b n s

abbrev pub NoGuesses : Setting → Setting → Script → World → Type 0
NoGuesses a b End w = Unit {0}
NoGuesses a b (Do x rest) w = GuessesNow a b x w × (NoForged (done a x w).items → NoGuesses a b (rest (looks (done a x w).world)) (done a x w).world)

module _ (a : Setting) (nac : Mac) (keys : List (List ℕ)) (secret : List ℕ) (sound : IsSoundSetting a) (sound2 : IsSoundSetting (second a nac keys secret))
    (unlinked : Unlinked a (second a nac keys secret)) (hides : HidesKeys a) where
  abbrev b : Setting
  b = second a nac keys secret

  abbrev Beside : World → World → Type 0
  Beside = SameRun a nac keys secret

  abbrev Shows : Acted → Acted → Type 0
  Shows = SameActed a nac keys secret

  -- Where a script goes on.

  -- what comes of a part of a line in both runs, after which nothing is guessed either
  abbrev pub Goes : (List Look → Script) → Acted → Acted → Type 0
  Goes rest x y = Shows x y × (Clean x.items → NoGuesses a b (rest (looks x.world)) x.world)

  pub goes_then : (first rest : List Look → Script) (x y : Acted) (f g : World → Acted) → Goes first x y
      → (Beside x.world y.world → NoGuesses a b (first (looks x.world)) x.world → Goes rest (f x.world) (g y.world)) → Goes rest (then_ x f) (then_ y g)
  goes_then first rest x y f g h next = (
    then_same a nac keys secret x y f g h.0 (λ clean run. (next run (h.1 clean)).0),
    λ clean. let c = clean_left x.items (f x.world).items clean in (next (h.0.1 c) (h.1 c)).1 (clean_right x.items (f x.world).items clean),
  )

  -- one thing that is done
  pub goes_one : (x : Happening) (rest : List Look → Script) (w v : World) → Beside w v → InForm x → ((n : ℕ) → x ≡ Step n → ⊥) → NoGuesses a b (Do x rest) w → Goes rest (done a x w) (done b x v)
  goes_one x rest w v h form ne g =
      let d = outside_done a nac keys secret unlinked w v h x ne in (
        acted_same a nac keys secret (done a x w) (done b x v) d.0 (λ clean. record { same = d.1; first = done_turns a x w sound form h.first; second = done_turns b x v sound2 form h.second }),
        λ clean. g.1 (clean_none (done a x w).items clean),
      )

  -- one step, in both runs
  stepped_run : (n : ℕ) (s t : State) (w v : World) → SameRun a nac keys secret w v → SameTurn a nac keys secret n s t
      → (module_of a.sites n s (own_of s) ≡ None → GuessesNone a (second a nac keys secret) n s) → slice_get w.nodes n ≡ Some s → slice_get v.nodes n ≡ Some t
      → SameActed a nac keys secret (after_step a w n s) (after_step (second a nac keys secret) v n t)
      × (is_reset (step nac t).shown.event ≡ is_reset (step a.mac s).shown.event) × ((step nac t).state.cur ≡ (step a.mac s).state.cur)
  stepped_run n s t w v h node guess here there =
      let d = any_done a nac keys secret sound sound2 unlinked hides n s t w v node (h.first n s here) (h.second n t there) guess here there h.same in (
        acted_same a nac keys secret (after_step a w n s) (after_step b v n t) d.items (λ clean. record {
          same = d.worlds clean;
          first = subst (λ (o : Option State). AllTurn a (at_node w (after_step a w n) o).world) here (done_turns a (Step n) w sound tt h.first);
          second = subst (λ (o : Option State). AllTurn b (at_node v (after_step b v n) o).world) there (done_turns b (Step n) v sound2 tt h.second);
        }),
        d.reset,
        d.cur,
      )

  -- Steps: at most so many, to where `halts` says so of the module that runs.

  module _ (halts : ℕ → Bool) (last : List Happening) (items : List Item) (n : ℕ)
      (pass : (rest : List Look → Script) (w : World) → NoGuesses a (second a nac keys secret) (all last rest (looks w)) w → NoGuesses a (second a nac keys secret) (rest (looks w)) w) where
    abbrev Halts : State → Bool
    Halts s = halts s.cur

    abbrev Next : ℕ → (List Look → Script) → Look → List Look → Script
    Next k rest l now = if ends (λ x. halts x.cur) l (slice_get now n) then rest now else steps (λ x. halts x.cur) last n k rest now

    abbrev is_last : State → Bool
    is_last s = is_reset (step a.mac s).shown.event || halts (step a.mac s).state.cur

    -- where a step of the script begins, and goes on
    after_guess : (k : ℕ) (rest : List Look → Script) (w : World) (s : State) → slice_get w.nodes n ≡ Some s
        → NoGuesses a b (steps (λ x. halts x.cur) last n (suc k) rest (looks w)) w
        → GuessesNow a b (Step n) w × (NoForged (after_step a w n s).items
        → let u = (after_step a w n s).world in NoGuesses a b (if is_last s then rest (looks u) else steps (λ x. halts x.cur) last n k rest (looks u)) u)
    after_guess k rest w s here g =
        let g1 : NoGuesses a b (Do (Step n) (Next k rest (look s))) w =
        subst (λ (o : Option Look). NoGuesses a b (where_node o (λ l. Do (Step n) (Next k rest l)) (rest (looks w))) w) (get_map look w.nodes n s here) g in
        let u = (after_step a w n s).world in
        let g2 : NoForged (after_step a w n s).items → NoGuesses a b (Next k rest (look s) (looks u)) u =
        subst (λ (z : Acted). NoForged z.items → NoGuesses a b (Next k rest (look s) (looks z.world)) z.world) (ap (at_node w (after_step a w n)) here) g1.1 in
        let new = (step a.mac s).state in
        let there : slice_get (looks u) n ≡ Some (look new) = get_map look u.nodes n new (get_same w.nodes n new s here) in
        let c : ends (λ x. halts x.cur) (look s) (slice_get (looks u) n) ≡ is_last s =
        ap (ends (λ x. halts x.cur) (look s)) there ∙ ap (λ (z : Bool). z || halts new.cur) (sym (step_boot a.mac s)) in
        (g1.0, λ clean. subst (λ (z : Bool). NoGuesses a b (if z then rest (looks u) else steps (λ x. halts x.cur) last n k rest (looks u)) u) c (g2 clean))

    first_step : (set : Setting) (k : ℕ) (w : World) (s : State) → slice_get w.nodes n ≡ Some s
        → steps_of set Halts items n (suc k) w
        ≡ (if is_reset (step set.mac s).shown.event || halts (step set.mac s).state.cur then after_step set w n s else then_ (after_step set w n s) (steps_of set Halts items n k))
    first_step set k w s here =
        ap (at_node w (λ z. if is_reset (step set.mac z).shown.event || halts (step set.mac z).state.cur then after_step set w n z
        else then_ (after_step set w n z) (steps_of set Halts items n k))) here

    pub guess_steps : (k : ℕ) (rest : List Look → Script) (w : World) → NoGuesses a b (steps (λ x. halts x.cur) last n k rest (looks w)) w
        → Clean (steps_of a Halts items n k w).items
        → let u = (steps_of a Halts items n k w).world in NoGuesses a b (rest (looks u)) u
    guess_steps zero rest w g clean = pass rest w g
    guess_steps (suc k) rest w g clean = by (slice_get w.nodes n) refl (λ v h c. guess_steps k rest v h c)
      where
        on : (s : State) (c : Bool) → is_last s ≡ c → slice_get w.nodes n ≡ Some s
            → ((v : World) → NoGuesses a b (steps (λ x. halts x.cur) last n k rest (looks v)) v → Clean (steps_of a Halts items n k v).items
            → NoGuesses a b (rest (looks (steps_of a Halts items n k v).world)) (steps_of a Halts items n k v).world)
            → (let u = (after_step a w n s).world in NoForged (after_step a w n s).items → NoGuesses a b (if c then rest (looks u) else steps (λ x. halts x.cur) last n k rest (looks u)) u)
            → (let z : Acted = if c then after_step a w n s else then_ (after_step a w n s) (steps_of a Halts items n k) in
            Clean z.items → NoGuesses a b (rest (looks z.world)) z.world)
        on s true e here more f clean = f (clean_none (after_step a w n s).items clean)
        on s false e here more f clean =
            let first = after_step a w n s in
            let next = (steps_of a Halts items n k first.world).items in
            more first.world (f (clean_none first.items (clean_left first.items next clean))) (clean_right first.items next clean)

        by : (o : Option State) → slice_get w.nodes n ≡ o
            → ((v : World) → NoGuesses a b (steps (λ x. halts x.cur) last n k rest (looks v)) v → Clean (steps_of a Halts items n k v).items
            → NoGuesses a b (rest (looks (steps_of a Halts items n k v).world)) (steps_of a Halts items n k v).world)
            → NoGuesses a b (rest (looks (steps_of a Halts items n (suc k) w).world)) (steps_of a Halts items n (suc k) w).world
        by None e more =
            let none : steps_of a Halts items n (suc k) w ≡ only w [] =
            ap (at_node w (λ z. if is_last z then after_step a w n z else then_ (after_step a w n z) (steps_of a Halts items n k))) e in
            subst (λ (z : Acted). NoGuesses a b (rest (looks z.world)) z.world) (sym none)
            (subst (λ (o : Option Look). NoGuesses a b (where_node o (λ l. Do (Step n) (Next k rest l)) (rest (looks w))) w) (get_map_none look w.nodes n e) g)
        by (Some s) e more =
            let g2 = after_guess k rest w s e g in
            let same = first_step a k w s e in
            subst (λ (z : Acted). NoGuesses a b (rest (looks z.world)) z.world) (sym same)
            (on s (is_last s) refl e more g2.1 (subst (λ (z : Acted). Clean z.items) same clean))

    pub steps_same : (k : ℕ) (rest : List Look → Script) (w v : World) → SameRun a nac keys secret w v → NoGuesses a (second a nac keys secret) (steps (λ x. halts x.cur) last n k rest (looks w)) w
        → SameActed a nac keys secret (steps_of a (λ s. halts s.cur) items n k w) (steps_of (second a nac keys secret) (λ s. halts s.cur) items n k v)
    steps_same zero rest w v h g = (refl, λ clean. h)
    steps_same (suc k) rest w v h g =
        at_same a nac keys secret w v n _ _ h (λ s t here there node. one s t here there node (λ x y run more. steps_same k rest x y run more))
      where
        one : (s t : State) → slice_get w.nodes n ≡ Some s → slice_get v.nodes n ≡ Some t → SameTurn a nac keys secret n s t
            → ((x y : World) → SameRun a nac keys secret x y → NoGuesses a b (steps (λ x. halts x.cur) last n k rest (looks x)) x
            → SameActed a nac keys secret (steps_of a Halts items n k x) (steps_of b Halts items n k y))
            → SameActed a nac keys secret
            (if is_reset (step a.mac s).shown.event || halts (step a.mac s).state.cur then after_step a w n s else then_ (after_step a w n s) (steps_of a Halts items n k))
            (if is_reset (step nac t).shown.event || halts (step nac t).state.cur then after_step b v n t else then_ (after_step b v n t) (steps_of b Halts items n k))
        one s t here there node more =
            let g2 = after_guess k rest w s here g in
            let d = stepped_run n s t w v h node (λ none. g2.0 n s refl here none) here there in
            let ends_too : (is_reset (step nac t).shown.event || halts (step nac t).state.cur) ≡ is_last s = ap₂ (λ (x : Bool) (c : ℕ). x || halts c) d.1 d.2 in
            subst (λ (c : Bool). SameActed a nac keys secret
            (if is_last s then after_step a w n s else then_ (after_step a w n s) (steps_of a Halts items n k))
            (if c then after_step b v n t else then_ (after_step b v n t) (steps_of b Halts items n k))) (sym ends_too)
            (by (is_last s) d.0 g2.1)
          where
            by : (c : Bool) → SameActed a nac keys secret (after_step a w n s) (after_step b v n t)
                → (let u = (after_step a w n s).world in NoForged (after_step a w n s).items → NoGuesses a b (if c then rest (looks u) else steps (λ x. halts x.cur) last n k rest (looks u)) u)
                → SameActed a nac keys secret (if c then after_step a w n s else then_ (after_step a w n s) (steps_of a Halts items n k))
                (if c then after_step b v n t else then_ (after_step b v n t) (steps_of b Halts items n k))
            by true d f = d
            by false d f =
                then_same a nac keys secret (after_step a w n s) (after_step b v n t) (steps_of a Halts items n k) (steps_of b Halts items n k) d
                (λ clean run. more (after_step a w n s).world (after_step b v n t).world run (f (clean_none (after_step a w n s).items clean)))

    pub goes_steps : (k : ℕ) (rest : List Look → Script) (w v : World) → SameRun a nac keys secret w v → NoGuesses a (second a nac keys secret) (steps (λ x. halts x.cur) last n k rest (looks w)) w
        → Goes rest (steps_of a (λ s. halts s.cur) items n k w) (steps_of (second a nac keys secret) (λ s. halts s.cur) items n k v)
    goes_steps k rest w v h g = (steps_same k rest w v h g, λ clean. guess_steps k rest w g clean)

  -- a `finish`
  pub goes_finish : (n : ℕ) (rest : List Look → Script) (w v : World) → Beside w v → NoGuesses a b (finishing n rest (looks w)) w → Goes rest (finish a n w) (finish b n v)
  goes_finish n rest w v h g =
      goes_steps (λ c. c == 0) (Show (item.Budget n) ∷ []) (item.Budget n ∷ []) n (λ r u x. x.1 (λ who i. elim i [ inl e ↦ show_forged who n e | inr none ↦ none ])) FINISH_STEPS rest w v h g
    where
      show_forged : (who : Option ℕ) (n : ℕ) → item.Budget n ≡ item.Forged who → ⊥
      show_forged who n e = cc

  -- The parts of `load` and `call`.

  unless_goes : (n : ℕ) (doing rest : List Look → Script) (f g : World → Acted) (w v : World) → Beside w v
      → ((s : State) → slice_get w.nodes n ≡ Some s → s.cur ≡ 0 → NoGuesses a b (doing (looks w)) w → Goes rest (f w) (g v))
      → NoGuesses a b (unless_running n doing rest (looks w)) w → Goes rest (unless_busy n w f) (unless_busy n v g)
  unless_goes n doing rest f g w v h next guess = by (slice_get w.nodes n) (slice_get v.nodes n) refl refl (h.same.nodes n)
    where
      choose : (s t : State) → slice_get w.nodes n ≡ Some s → t.cur ≡ s.cur → (c : Bool) → (s.cur == 0) ≡ c
          → NoGuesses a b (if c then doing (looks w) else Do (Show (item.Busy n)) rest) w
          → Goes rest (if c then f w else only w (item.Busy n ∷ [])) (if c then g v else only v (item.Busy n ∷ []))
      choose s t here cur true e k = next s here (eqb-true s.cur 0 e) k
      choose s t here cur false e k = goes_one (Show (item.Busy n)) rest w v h (λ who q. cc) (λ i q. cc) k

      by : (o p : Option State) → slice_get w.nodes n ≡ o → slice_get v.nodes n ≡ p → SameAt a nac keys secret n o p
          → Goes rest (at_node w (λ s. if s.cur == 0 then f w else only w (item.Busy n ∷ [])) o) (at_node v (λ s. if s.cur == 0 then g v else only v (item.Busy n ∷ [])) p)
      by None None e d k = (
        (refl, λ clean. h),
        λ clean. subst (λ (o : Option Look). NoGuesses a b (where_node o (λ l. if l.cur == 0 then doing (looks w) else Do (Show (item.Busy n)) rest) (rest (looks w))) w)
            (get_map_none look w.nodes n e) guess,
      )
      by None (Some t) e d k = absurd k
      by (Some s) None e d k = absurd k
      by (Some s) (Some t) e d k =
          let cur : t.cur ≡ s.cur = ap (λ (z : State). z.cur) (outside_turn a nac keys secret n s t k).rest in
          subst (λ (c : ℕ). Goes rest (if s.cur == 0 then f w else only w (item.Busy n ∷ [])) (if c == 0 then g v else only v (item.Busy n ∷ []))) (sym cur)
          (choose s t e cur (s.cur == 0) refl
          (subst (λ (o : Option Look). NoGuesses a b (where_node o (λ l. if l.cur == 0 then doing (looks w) else Do (Show (item.Busy n)) rest) (rest (looks w))) w) (get_map look w.nodes n s e) guess))

  -- values of registers
  abbrev Words : List Register → Type 0
  Words [] = Unit {0}
  Words (r ∷ rs) = (r.value < 65536) × Words rs

  set_goes : (n : ℕ) (rs : List Register) (rest : List Look → Script) (w v : World) → Beside w v → Words rs → NoGuesses a b (all (setting_of n rs) rest (looks w)) w
      → Goes rest (set_all n rs w) (set_all n rs v)
  set_goes n [] rest w v h words g = ((refl, λ clean. h), λ clean. g)
  set_goes n (r ∷ rs) rest w v h words g =
      goes_then (all (setting_of n rs) rest) rest (set_on n r.number r.value w) (set_on n r.number r.value v) (set_all n rs) (set_all n rs)
      (goes_one (Set n r.number r.value) (all (setting_of n rs) rest) w v h words.0 (λ i q. cc) g)
      (λ run k. set_goes n rs rest (set_on n r.number r.value w).world (set_on n r.number r.value v).world run words.1 k)

  put_goes : (n k at : ℕ) (bytes : List ℕ) (rest : List Look → Script) (w v : World) → Beside w v → NoGuesses a b (all (pieces n k at bytes) rest (looks w)) w
      → Goes rest (put_pieces n k at bytes w) (put_pieces n k at bytes v)
  put_goes n zero at bytes rest w v h g = ((refl, λ clean. h), λ clean. g)
  put_goes n (suc k) at bytes rest w v h g =
      goes_then (all (pieces n k (at + 1024) (drop 1024 bytes)) rest) rest (put_on n at (take 1024 bytes) w) (put_on n at (take 1024 bytes) v)
      (put_pieces n k (at + 1024) (drop 1024 bytes)) (put_pieces n k (at + 1024) (drop 1024 bytes))
      (goes_one (Put n at (take 1024 bytes)) (all (pieces n k (at + 1024) (drop 1024 bytes)) rest) w v h tt (λ i q. cc) g)
      (λ run q. put_goes n k (at + 1024) (drop 1024 bytes) rest (put_on n at (take 1024 bytes) w).world (put_on n at (take 1024 bytes) v).world run q)

  call_goes : (m e input output : ℕ) (rest : List Look → Script) (w v : World) → Beside w v → (e < 65536) × (input < 65536) × (output < 65536)
      → (o : Option Site) → slice_get a.sites m ≡ o → NoGuesses a b (calling e input output o rest (looks w)) w → Goes rest (call a w e input output o) (call b v e input output o)
  call_goes m e input output rest w v h form None sited g = ((refl, λ clean. h), λ clean. g)
  call_goes m e input output rest w v h form (Some site) sited g =
      let n = site.node in
      let regs = call_registers site e input output in
      let q = get_some a.app.parts m (let i = get_within a.sites m site sited in let j = sound.sites in omega (arith, i, j)) in
      let dep = sound.deployed m q.0 site q.1 sited in
      let low : site.layout.pub_from < 65536 = let x = dep.text_end in let y = dep.text in omega (arith, x, y) in
      unless_goes n (all (setting_of n regs) (finishing n rest)) rest (λ u. then_ (set_all n regs u) (finish a n)) (λ u. then_ (set_all n regs u) (finish b n)) w v h
      (λ s here idle k. goes_then (finishing n rest) rest (set_all n regs w) (set_all n regs v) (finish a n) (finish b n)
      (set_goes n regs (finishing n rest) w v h (form.0, (form.1, (form.2, (omega arith, (low, tt))))) k)
      (λ run k2. goes_finish n rest (set_all n regs w).world (set_all n regs v).world run k2)) g

  -- one step, at 0
  wrapped_goes : (rest : List Look → Script) (x y : Acted) (c d : Bool) → c ≡ d → Goes rest x y → Goes rest (if c then x else then_ x (λ u. only u [])) (if d then y else then_ y (λ u. only u []))
  wrapped_goes rest x y c d e g = subst (λ (z : Bool). Goes rest (if c then x else then_ x (λ u. only u [])) (if z then y else then_ y (λ u. only u []))) e (by c)
    where
      by : (c : Bool) → Goes rest (if c then x else then_ x (λ u. only u [])) (if c then y else then_ y (λ u. only u []))
      by true = g
      by false = goes_then rest rest x y (λ u. only u []) (λ u. only u []) g (λ run k. ((refl, λ clean. run), λ clean. k))

  last_goes : (n : ℕ) (rest : List Look → Script) (w v : World) → Beside w v → NoGuesses a b (Do (Step n) rest) w
      → Goes rest (steps_of a (λ s. false) [] n 1 w) (steps_of b (λ s. false) [] n 1 v)
  last_goes n rest w v h g = by (slice_get w.nodes n) (slice_get v.nodes n) refl refl (h.same.nodes n)
    where
      one : (s t : State) → slice_get w.nodes n ≡ Some s → slice_get v.nodes n ≡ Some t → SameTurn a nac keys secret n s t
          → Goes rest (if is_reset (step a.mac s).shown.event || false then after_step a w n s else then_ (after_step a w n s) (λ u. only u []))
          (if is_reset (step nac t).shown.event || false then after_step b v n t else then_ (after_step b v n t) (λ u. only u []))
      one s t here there node =
          let d = stepped_run n s t w v h node (λ none. g.0 n s refl here none) here there in
          wrapped_goes rest (after_step a w n s) (after_step b v n t) (is_reset (step a.mac s).shown.event || false) (is_reset (step nac t).shown.event || false)
          (ap (λ (z : Bool). z || false) (sym d.1)) (
            d.0,
            λ clean. subst (λ (z : Acted). NoForged z.items → NoGuesses a b (rest (looks z.world)) z.world) (ap (at_node w (after_step a w n)) here) g.1 (clean_none (after_step a w n s).items clean),
          )

      by : (o p : Option State) → slice_get w.nodes n ≡ o → slice_get v.nodes n ≡ p → SameAt a nac keys secret n o p
          → Goes rest (at_node w (λ s. if is_reset (step a.mac s).shown.event || false then after_step a w n s else then_ (after_step a w n s) (λ u. only u [])) o)
          (at_node v (λ s. if is_reset (step nac s).shown.event || false then after_step b v n s else then_ (after_step b v n s) (λ u. only u [])) p)
      by None None e d k = (
        (refl, λ clean. h),
        λ clean. subst (λ (z : Acted). NoForged z.items → NoGuesses a b (rest (looks z.world)) z.world) (ap (at_node w (after_step a w n)) e) g.1 (λ who i. i),
      )
      by None (Some t) e d k = absurd k
      by (Some s) None e d k = absurd k
      by (Some s) (Some t) e d k = one s t e d k

  load_goes : (m : ℕ) (rest : List Look → Script) (w v : World) → Beside w v → (o : Option Site) → slice_get a.sites m ≡ o
      → NoGuesses a b (loading o rest (looks w)) w → Goes rest (load a w o) (load b v o)
  load_goes m rest w v h None sited g = ((refl, λ clean. h), λ clean. g)
  load_goes m rest w v h (Some site) sited g =
      let n = site.node in
      let k = (length site.text + 1023) / 1024 in
      let from = site.layout.pub_from in
      let regs = protect_registers site in
      let instruction : List ℕ = 0x81 ∷ 0x13 ∷ [] in
      let r3 : List Look → Script = all (Step n ∷ []) rest in
      let r2 : List Look → Script = all (setting_of n regs) r3 in
      let r1 : List Look → Script = all (Put n 0 instruction ∷ []) r2 in
      let r0 : List Look → Script = all (pieces n k from site.text) r1 in
      let one = λ (set : Setting) (u : World). steps_of set (λ s. false) [] n 1 u in
      let p = words_at m site sited in
      unless_goes n r0 rest
      (λ u. then_ (put_pieces n k from site.text u) (λ u1. then_ (put_on n 0 instruction u1) (λ u2. then_ (set_all n regs u2) (one a))))
      (λ u. then_ (put_pieces n k from site.text u) (λ u1. then_ (put_on n 0 instruction u1) (λ u2. then_ (set_all n regs u2) (one b)))) w v h
      (λ s here idle g0.
      let w1 = (put_pieces n k from site.text w).world in
      let v1 = (put_pieces n k from site.text v).world in
      let w2 = (put_on n 0 instruction w1).world in
      let v2 = (put_on n 0 instruction v1).world in
      let w3 = (set_all n regs w2).world in
      let v3 = (set_all n regs v2).world in
      goes_then r1 rest (put_pieces n k from site.text w) (put_pieces n k from site.text v) (λ u1. then_ (put_on n 0 instruction u1) (λ u2. then_ (set_all n regs u2) (one a)))
      (λ u1. then_ (put_on n 0 instruction u1) (λ u2. then_ (set_all n regs u2) (one b))) (put_goes n k from site.text r1 w v h g0)
      (λ run1 g1. goes_then r2 rest (put_on n 0 instruction w1) (put_on n 0 instruction v1) (λ u2. then_ (set_all n regs u2) (one a)) (λ u2. then_ (set_all n regs u2) (one b))
      (goes_one (Put n 0 instruction) r2 w1 v1 run1 tt (λ i q. cc) g1)
      (λ run2 g2. goes_then r3 rest (set_all n regs w2) (set_all n regs v2) (one a) (one b) (set_goes n regs r3 w2 v2 run2 p g2)
      (λ run3 g3. last_goes n rest w3 v3 run3 g3)))) g
    where
      words_at : (m : ℕ) (site : Site) → slice_get a.sites m ≡ Some site → Words (protect_registers site)
      words_at m site sited =
          let q = get_some a.app.parts m (let i = get_within a.sites m site sited in let j = sound.sites in omega (arith, i, j)) in
          let dep = sound.deployed m q.0 site q.1 sited in
          let te = dep.text_end in
          let de = dep.data_end in
          let x = dep.text in
          let z = dep.data_size in
          (dep.provider, (omega (arith, te, x), (omega (arith, te), (omega (arith, de, z), (omega (arith, de), (omega arith, tt))))))

  -- Lines.

  pub line_goes : (l : Line) (rest : List Look → Script) (w v : World) → Beside w v → LineInForm a l → NoGuesses a b (line_script a l rest (looks w)) w
      → Goes rest (after_line a w l) (after_line b v l)
  line_goes line.Blank rest w v h form g = ((refl, λ clean. h), λ clean. g)
  line_goes (line.Run n k) rest w v h form g = goes_steps (λ c. false) [] [] n (λ r u x. x) k rest w v h g
  line_goes (line.Finish n) rest w v h form g = goes_finish n rest w v h g
  line_goes (line.Put n at bytes) rest w v h form g = goes_one (Put n at bytes) rest w v h tt (λ i q. cc) g
  line_goes (line.Set n r x) rest w v h form g = goes_one (Set n r x) rest w v h form.1 (λ i q. cc) g
  line_goes (line.Take n at len) rest w v h form g = goes_one (Take n at len) rest w v h tt (λ i q. cc) g
  line_goes (line.Give k n at) rest w v h form g = goes_one (Give k n at) rest w v h tt (λ i q. cc) g
  line_goes (line.Forge bytes) rest w v h form g = goes_one (Forge bytes) rest w v h tt (λ i q. cc) g
  line_goes (line.Sense d x) rest w v h form g = goes_one (Sense d x) rest w v h form.1 (λ i q. cc) g
  line_goes (line.Irq n k) rest w v h form g = goes_one (Irq n k) rest w v h tt (λ i q. cc) g
  line_goes (line.Reset n) rest w v h form g = goes_one (Reset n) rest w v h tt (λ i q. cc) g
  line_goes (line.Ask m) rest w v h form g = goes_one (Ask m) rest w v h tt (λ i q. cc) g
  line_goes (line.Answer m boot k) rest w v h form g = goes_one (Answer m boot k) rest w v h tt (λ i q. cc) g
  line_goes (line.Load m) rest w v h form g = load_goes m rest w v h (slice_get a.sites m) refl g
  line_goes (line.Call m e input output) rest w v h form g = call_goes m e input output rest w v h form (slice_get a.sites m) refl g

  pub lines_same : (lines : List Line) (w v : World) → Beside w v → LinesInForm a lines → NoGuesses a b (script_of a lines) w
      → Shows (run a w lines) (run b v lines)
  lines_same [] w v h form g = (refl, λ clean. h)
  lines_same (l ∷ lines) w v h form g =
      let w1 = line_counted w in
      let v1 = line_counted v in
      let h1 : Beside w1 v1 = record {
        same = record { nodes = h.same.nodes; packets = h.same.packets; deployer = h.same.deployer; lines = ap (λ (z : ℕ). z + 1) h.same.lines; ledger = h.same.ledger };
        first = h.first;
        second = h.second;
      } in
      let k = line_goes l (λ now. script_of a lines) w1 v1 h1 form.0 (g.1 (λ who i. i)) in
      then_same a nac keys secret (after_line a w1 l) (after_line b v1 l) (λ u. run a u lines) (λ u. run b u lines) k.0
      (λ clean run2. lines_same lines (after_line a w1 l).world (after_line b v1 l).world run2 form.1 (k.1 clean))
