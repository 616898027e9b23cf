-- Whatever is done, the keys of nodes show in nothing but tags.
use Rattle.std.proofs.Common.{◌≡◌, ◌≢◌, ℕ, zero, suc, ◌+◌, ◌-◌, Bool, cond, List, [], ◌∷◌, ◌++◌, map, length, Option, Some, None, Result, Ok, Err, refl, sym, ◌∙◌, ap, ap₂, subst, arith}
use Rattle.std.specs.Prelude.{slice_get}
use Rattle.std.proofs.lemmas.Bool.{ne_eqb}
use Rattle.sx_trace.specs.declared.items.Item.{Item}
use Rattle.sx_trace.specs.declared.items.Item.TheVariants as item
use Rattle.sx_trace.specs.declared.items.Cause.TheVariants.{Asked}
use Rattle.sx_mean.specs.declared.apps.AppDevice.{AppDevice}
use Rattle.sx_rules.specs.declared.section.Section.{Section}
use Rattle.sx_tag.specs.Mac.{Mac}
use Rattle.spec_machine.specs.declared.kinds.Refused.{Refused}
use Rattle.spec_machine.specs.declared.kinds.Seen.{Seen}
use Rattle.spec_machine.specs.State.{State, reset}
use Rattle.spec_machine.specs.Step.{Shown, own_of, step}
use Rattle.spec_machine.specs.Acts.{put, set as set_register, take as take_from, sense, irq}
use Rattle.sx_sched.specs.Lines as line
use Rattle.sx_sched.specs.Lines.{Line}
use Rattle.spec_run.specs.Setting.{Setting, module_of}
use Rattle.spec_run.specs.Deployer.{list_at}
use Rattle.spec_run.specs.Observation.{Observed, observed}
use Rattle.spec_run.specs.State.{World, Acted, nodes_from, switched_on}
use Rattle.spec_run.specs.Acts.{only, then_, with_node, at_node, after_step, or_refused, done_on, after_take, after_interrupt}
use Rattle.spec_run.specs.Run.{place_at, sense_at, give, put_on, run}
use Rattle.law_isolation.specs.Happening.{Happening, Begin, Step, Put, Set, Take, Give, Forge, Sense, Irq, Reset, Ask, Answer, Show, done}
use Rattle.law_isolation.specs.Script.{Look, look, looks, Script, End, Do, performed}
use Rattle.law_isolation.specs.Lines.{script_of, line_script}
use Rattle.law_isolation.proofs.Alone.{AllPlaced}
use Rattle.law_isolation.proofs.Guarding.{on_placed, performed_placed}
use Rattle.law_isolation.proofs.Performing.{is_performed}
use Rattle.law_isolation.proofs.Acting.{with_nodes}
use Rattle.law_forgery.specs.Tags.{rekeyed, AgreeOnTags}
use Rattle.law_forgery.specs.Bare.{bare_section, bare_node, bare}
use Rattle.law_forgery.specs.Unseen.{ShowTheSame, KeysUnseen, RunsKeysUnseen, played, PlayersSeeTheSame}
use Rattle.law_forgery.proofs.Tables.{LikeAll}
use Rattle.law_forgery.proofs.Steps.{LikeKeys, LikeState, LikeShown, step_like}
use Rattle.law_forgery.proofs.Acting.{put_like, take_like, set_like, sense_like, irq_like, reset_states, runner_like, observed_like}
use Rattle.law_forgery.proofs.Granting.{LikeNodes, LikeGot, got_like, put_in_like, LikeWorld, LikeActed, like_nodes, packet_like, answer_like}

-- the element of the next index
pub at_next : (x : List ℕ) (xs : List (List ℕ)) (i : ℕ) → list_at (x ∷ xs) (suc i) ≡ list_at xs i
at_next x xs i =
    let ne : suc i ≢ 0 = λ e. absurd (omega (arith, e)) in
    let e : suc i - 1 ≡ i = omega arith in
    ap (λ (b : Bool). cond b x (list_at xs (suc i - 1))) (ne_eqb (suc i) 0 ne) ∙ ap (list_at xs) e

module _ (a : Setting) (nac : Mac) (keys : List (List ℕ)) (secret : List ℕ) (agree : AgreeOnTags a (rekeyed a nac keys secret)) where
  abbrev b : Setting
  b = rekeyed a nac keys secret

  abbrev Like : Acted → Acted → Type 0
  Like x y = LikeActed a.mac nac x y

  abbrev Nodes : List State → List State → Type 0
  Nodes x y = LikeNodes a.mac nac x y

  abbrev States : State → State → Type 0
  States s t = LikeState a.mac nac s t

  at_like : (w : World) (ns : List State) (f g : State → Acted) (o p : Option State) → Nodes w.nodes ns → LikeGot a.mac nac o p → ((s t : State) → States s t → Like (f s) (g t))
      → Like (at_node w f o) (at_node (with_nodes w ns) g p)
  at_like w ns f g None None h e k = (refl, like_nodes a.mac nac w ns h)
  at_like w ns f g None (Some t) h e k = absurd e
  at_like w ns f g (Some s) None h e k = absurd e
  at_like w ns f g (Some s) (Some t) h e k = k s t e

  on_node : (w : World) (ns : List State) (n : ℕ) (f g : State → Acted) → Nodes w.nodes ns → ((s t : State) → States s t → Like (f s) (g t))
      → Like (at_node w f (slice_get w.nodes n)) (at_node (with_nodes w ns) g (slice_get ns n))
  on_node w ns n f g h k = at_like w ns f g (slice_get w.nodes n) (slice_get ns n) h (got_like a.mac nac w.nodes ns n h) k

  -- an act that answers nothing
  done_like : (w : World) (ns : List State) (n : ℕ) (items : List Item) (r q : Shown (Result (Unit {0}) Refused)) → Nodes w.nodes ns → LikeShown a.mac nac r q
      → Like (done_on w n items r) (done_on (with_nodes w ns) n items q)
  done_like w ns n items r q h e = (ap (or_refused n items) e.0, record { rest = refl; nodes = put_in_like a.mac nac w.nodes ns n r.state q.state h e.1 })

  took_like : (w : World) (ns : List State) (n : ℕ) (r : Result (List ℕ) Refused) → Nodes w.nodes ns → Like (after_take w n r) (after_take (with_nodes w ns) n r)
  took_like w ns n (Ok bytes) h = packet_like a.mac nac w ns bytes h
  took_like w ns n (Err why) h = (refl, like_nodes a.mac nac w ns h)

  -- what is seen of a node that this leaves
  seen_like : (w : World) (ns : List State) (n steps : ℕ) (r q : Option ℕ) (s t : State) (x y : Seen) → Nodes w.nodes ns → q ≡ r → x ≡ y → States s t
      → Like (only (with_node w n s (observed a n r s x w.ledger).ledger steps) (observed a n r s x w.ledger).items)
      (only (with_node (with_nodes w ns) n t (observed b n q t y w.ledger).ledger steps) (observed b n q t y w.ledger).items)
  seen_like w ns n steps r q s t x y h e f g =
      let o = observed a n r s x w.ledger in
      let left = only (with_node w n s o.ledger steps) o.items in
      subst (λ (z : Option ℕ). Like left (only (with_node (with_nodes w ns) n t (observed b n z t y w.ledger).ledger steps) (observed b n z t y w.ledger).items)) (sym e)
      (subst (λ (z : Seen). Like left (only (with_node (with_nodes w ns) n t (observed b n r t z w.ledger).ledger steps) (observed b n r t z w.ledger).items)) f
      (subst (λ (z : Observed). Like left (only (with_node (with_nodes w ns) n t z.ledger steps) z.items)) (observed_like a.mac nac a keys secret n r s t x w.ledger g)
      (refl, record { rest = refl; nodes = put_in_like a.mac nac w.nodes ns n s t h g })))

  stepped_like : (w : World) (ns : List State) (n : ℕ) (s t : State) → Nodes w.nodes ns → States s t → Like (after_step a w n s) (after_step b (with_nodes w ns) n t)
  stepped_like w ns n s t h g =
      let one = step_like a.mac nac agree.held s t g in
      seen_like w ns n (w.steps + 1) (module_of a.sites n s (own_of s)) (module_of a.sites n t (own_of t)) (step a.mac s).state (step nac t).state (step a.mac s).shown (step nac t).shown h
      (runner_like a.mac nac a.sites n s t g) one.0 one.1

  interrupted_like : (w : World) (ns : List State) (n : ℕ) (s t : State) (x y : Result Seen Refused) → Nodes w.nodes ns → x ≡ y → States s t
      → Like (after_interrupt a w n s x) (after_interrupt b (with_nodes w ns) n t y)
  interrupted_like w ns n s t x y h e g = subst (λ (z : Result Seen Refused). Like (after_interrupt a w n s x) (after_interrupt b (with_nodes w ns) n t z)) e (by x)
    where
      by : (x : Result Seen Refused) → Like (after_interrupt a w n s x) (after_interrupt b (with_nodes w ns) n t x)
      by (Ok seen) = seen_like w ns n w.steps None None s t seen seen h refl refl g
      by (Err why) = (refl, like_nodes a.mac nac w ns h)

  put_on_like : (w : World) (ns : List State) (n at : ℕ) (bytes : List ℕ) → Nodes w.nodes ns → Like (put_on n at bytes w) (put_on n at bytes (with_nodes w ns))
  put_on_like w ns n at bytes h =
      on_node w ns n (λ s. done_on w n [] (put s at bytes)) (λ t. done_on (with_nodes w ns) n [] (put t at bytes)) h
      (λ s t g. done_like w ns n [] (put s at bytes) (put t at bytes) h (put_like a.mac nac s t at bytes g))

  give_like : (w : World) (ns : List State) (n at : ℕ) (o : Option (List ℕ)) → Nodes w.nodes ns → Like (give w n at o) (give (with_nodes w ns) n at o)
  give_like w ns n at None h = (refl, like_nodes a.mac nac w ns h)
  give_like w ns n at (Some bytes) h = put_on_like w ns n at bytes h

  sensed_like : (w : World) (ns : List State) (d v : ℕ) (o : Option AppDevice) → Nodes w.nodes ns → Like (sense_at a w d v o) (sense_at b (with_nodes w ns) d v o)
  sensed_like w ns d v None h = (refl, like_nodes a.mac nac w ns h)
  sensed_like w ns d v (Some x) h =
      on_node w ns x.node (λ s. done_on w x.node (item.Sense d v ∷ []) (sense s (place_at a x.node d) v))
      (λ t. done_on (with_nodes w ns) x.node (item.Sense d v ∷ []) (sense t (place_at a x.node d) v)) h (λ s t g.
      done_like w ns x.node (item.Sense d v ∷ []) (sense s (place_at a x.node d) v) (sense t (place_at a x.node d) v) h (sense_like a.mac nac s t (place_at a x.node d) v g))

  -- one thing happens
  happens_like : (x : Happening) (w : World) (ns : List State) → Nodes w.nodes ns → Like (done a x w) (done b x (with_nodes w ns))
  happens_like Begin w ns h = (refl, record { rest = refl; nodes = h })
  happens_like (Step n) w ns h = on_node w ns n (after_step a w n) (after_step b (with_nodes w ns) n) h (λ s t g. stepped_like w ns n s t h g)
  happens_like (Put n at bytes) w ns h = put_on_like w ns n at bytes h
  happens_like (Set n r v) w ns h =
      on_node w ns n (λ s. done_on w n [] (set_register s r v)) (λ t. done_on (with_nodes w ns) n [] (set_register t r v)) h
      (λ s t g. done_like w ns n [] (set_register s r v) (set_register t r v) h (set_like a.mac nac s t r v g))
  happens_like (Take n at len) w ns h =
      on_node w ns n (λ s. after_take w n (take_from s at len).shown) (λ t. after_take (with_nodes w ns) n (take_from t at len).shown) h (λ s t g.
      subst (λ (z : Result (List ℕ) Refused). Like (after_take w n (take_from s at len).shown) (after_take (with_nodes w ns) n z)) (take_like a.mac nac s t at len g).0
      (took_like w ns n (take_from s at len).shown h))
  happens_like (Give k n at) w ns h = give_like w ns n at (slice_get w.packets k) h
  happens_like (Forge bytes) w ns h = packet_like a.mac nac w ns bytes h
  happens_like (Sense d v) w ns h = sensed_like w ns d v (slice_get a.app.devices d) h
  happens_like (Irq n k) w ns h =
      on_node w ns n (λ s. after_interrupt a w n (irq s k).state (irq s k).shown) (λ t. after_interrupt b (with_nodes w ns) n (irq t k).state (irq t k).shown) h (λ s t g.
      let one = irq_like a.mac nac s t k g in
      interrupted_like w ns n (irq s k).state (irq t k).state (irq s k).shown (irq t k).shown h one.0 one.1)
  happens_like (Reset n) w ns h =
      on_node w ns n (λ s. only (with_node w n (reset s) w.ledger w.steps) (item.Reset n Asked ∷ []))
      (λ t. only (with_node (with_nodes w ns) n (reset t) w.ledger w.steps) (item.Reset n Asked ∷ [])) h (λ s t g.
      (refl, record { rest = refl; nodes = put_in_like a.mac nac w.nodes ns n (reset s) (reset t) h (reset_states a.mac nac s t g) }))
  happens_like (Ask m) w ns h = (refl, record { rest = refl; nodes = h })
  happens_like (Answer m boot k) w ns h = answer_like a nac keys secret agree w ns m boot (slice_get a.sites m) (slice_get w.packets k) h
  happens_like (Show i) w ns h = (refl, like_nodes a.mac nac w ns h)

  -- Scripts.

  look_like : (s t : State) → States s t → look t ≡ look s
  look_like s t h = ap look h.rest

  looks_like : (ss ts : List State) → Nodes ss ts → map look ts ≡ map look ss
  looks_like [] [] h = refl
  looks_like [] (t ∷ ts) h = absurd h
  looks_like (s ∷ ss) [] h = absurd h
  looks_like (s ∷ ss) (t ∷ ts) h = ap₂ (λ (x : Look) (xs : List Look). x ∷ xs) (look_like s t h.0) (looks_like ss ts h.1)

  same_looks : (w v : World) → LikeWorld a.mac nac w v → looks v ≡ looks w
  same_looks w v h = looks_like w.nodes v.nodes h.nodes

  scripts_like : (script : Script) (w v : World) → LikeWorld a.mac nac w v → Like (performed a script w) (performed b script v)
  scripts_like End w v h = (refl, h)
  scripts_like (Do x rest) w v h =
      subst (λ (z : World). Like (performed a (Do x rest) w) (performed b (Do x rest) z)) (sym h.rest)
      (let one = happens_like x w v.nodes h.nodes in
      let next = (done a x w).world in
      let text = (done b x (with_nodes w v.nodes)).world in
      let more = scripts_like (rest (looks next)) next text one.1 in
      subst (λ (z : Script). Like (performed a (Do x rest) w) (then_ (done b x (with_nodes w v.nodes)) (λ u. performed b z u))) (sym (ap rest (same_looks next text one.1)))
      (ap₂ (λ (p q : List Item). p ++ q) one.0 more.0, more.1))

  -- At power-on.

  start_like : (n : ℕ) (ks ls : List (List ℕ)) → length ks ≡ length ls → ((i : ℕ) → LikeKeys a.mac nac (list_at ks i) (list_at ls i)) → Nodes (nodes_from a n ks) (nodes_from b n ls)
  start_like n [] [] e h = tt
  start_like n [] (l ∷ ls) e h = absurd (omega (arith, e))
  start_like n (k ∷ ks) [] e h = absurd (omega (arith, e))
  start_like n (k ∷ ks) (l ∷ ls) e h =
      (record { rest = refl; sections = tt; next = refl; keys = h 0 }, start_like (n + 1) ks ls (omega (arith, e)) (λ i. later i (h (suc i))))
    where
      later : (i : ℕ) → LikeKeys a.mac nac (list_at (k ∷ ks) (suc i)) (list_at (l ∷ ls) (suc i)) → LikeKeys a.mac nac (list_at ks i) (list_at ls i)
      later i g =
          subst (λ (x : List ℕ). LikeKeys a.mac nac x (list_at ls i)) (at_next k ks i)
          (subst (λ (y : List ℕ). LikeKeys a.mac nac (list_at (k ∷ ks) (suc i)) y) (at_next l ls i) g)

  on_like : LikeWorld a.mac nac (switched_on a) (switched_on b)
  on_like = record { rest = refl; nodes = start_like 0 a.keys keys agree.count agree.modules }

  -- What is left without keys.

  bare_sections : (xs ys : List Section) → LikeAll a.mac nac xs ys → map bare_section ys ≡ map bare_section xs
  bare_sections [] [] h = refl
  bare_sections [] (y ∷ ys) h = absurd h
  bare_sections (x ∷ xs) [] h = absurd h
  bare_sections (x ∷ xs) (y ∷ ys) h = ap₂ (λ (z : Section) (zs : List Section). z ∷ zs) (ap bare_section h.0.0) (bare_sections xs ys h.1)

  bare_like : (s t : State) → States s t → bare_node s ≡ bare_node t
  bare_like s t h =
      sym (ap bare_node h.rest
      ∙ ap₂ (λ (live : List Section) (next : ℕ). record s { key = []; sections = record { live = live; next = next } }) (bare_sections s.sections.live t.sections.live h.sections) h.next)

  bare_nodes : (ss ts : List State) → Nodes ss ts → map bare_node ss ≡ map bare_node ts
  bare_nodes [] [] h = refl
  bare_nodes [] (t ∷ ts) h = absurd h
  bare_nodes (s ∷ ss) [] h = absurd h
  bare_nodes (s ∷ ss) (t ∷ ts) h = ap₂ (λ (x : State) (xs : List State). x ∷ xs) (bare_like s t h.0) (bare_nodes ss ts h.1)

  bare_worlds : (w v : World) → LikeWorld a.mac nac w v → bare w ≡ bare v
  bare_worlds w v h = ap (with_nodes w) (bare_nodes w.nodes v.nodes h.nodes) ∙ sym (ap bare h.rest)

  pub unseen : (script : Script) → ShowTheSame (performed a script (switched_on a)) (performed b script (switched_on b))
  unseen script =
      let h = scripts_like script (switched_on a) (switched_on b) on_like in
      (h.0, bare_worlds (performed a script (switched_on a)).world (performed b script (switched_on b)).world h.1)

  -- The script of a schedule is the same.

  line_same : (l : Line) (rest : List Look → Script) → line_script b l rest ≡ line_script a l rest
  line_same line.Blank rest = refl
  line_same (line.Run n k) rest = refl
  line_same (line.Finish n) rest = refl
  line_same (line.Put n at bytes) rest = refl
  line_same (line.Set n r v) rest = refl
  line_same (line.Take n at len) rest = refl
  line_same (line.Give k n at) rest = refl
  line_same (line.Forge bytes) rest = refl
  line_same (line.Sense d v) rest = refl
  line_same (line.Irq n k) rest = refl
  line_same (line.Reset n) rest = refl
  line_same (line.Ask m) rest = refl
  line_same (line.Answer m boot k) rest = refl
  line_same (line.Load m) rest = refl
  line_same (line.Call m e input output) rest = refl

  script_same : (lines : List Line) → script_of b lines ≡ script_of a lines
  script_same [] = refl
  script_same (l ∷ lines) =
      ap (λ (f : List Look → Script). Do Begin f) (line_same l (λ now. script_of b lines))
      ∙ ap (λ (s : Script). Do Begin (line_script a l (λ now. s))) (script_same lines)

  -- a schedule's lines, where the sections of each node are placed
  runs_like : (lines : List Line) (w v : World) → AllPlaced w → AllPlaced v → LikeWorld a.mac nac w v → Like (run a w lines) (run b v lines)
  runs_like lines w v p q h =
      subst (λ (x : Acted). Like x (run b v lines)) (sym (is_performed a lines w p))
      (subst (λ (y : Acted). Like (performed a (script_of a lines) w) y) (sym (is_performed b lines v q))
      (subst (λ (s : Script). Like (performed a (script_of a lines) w) (performed b s v)) (sym (script_same lines))
      (scripts_like (script_of a lines) w v h)))

  pub runs_unseen : (lines : List Line) → ShowTheSame (run a (switched_on a) lines) (run b (switched_on b) lines)
  runs_unseen lines =
      let h = runs_like lines (switched_on a) (switched_on b) (on_placed a) (on_placed b) on_like in
      (h.0, bare_worlds (run a (switched_on a) lines).world (run b (switched_on b) lines).world h.1)

  run_placed : (set : Setting) (lines : List Line) (w : World) → AllPlaced w → AllPlaced (run set w lines).world
  run_placed set lines w p = subst (λ (x : Acted). AllPlaced x.world) (sym (is_performed set lines w p)) (performed_placed set (script_of set lines) w p)

  -- Whoever sees all but keys makes the same of both.

  plays_like : (choose : World → Line) (n : ℕ) (w v : World) → AllPlaced w → AllPlaced v → LikeWorld a.mac nac w v → Like (played a choose n w) (played b choose n v)
  plays_like choose zero w v p q h = (refl, h)
  plays_like choose (suc n) w v p q h =
      let l = choose (bare w) in
      let one = runs_like (l ∷ []) w v p q h in
      let x = run a w (l ∷ []) in
      let y = run b v (l ∷ []) in
      let more = plays_like choose n x.world y.world (run_placed a (l ∷ []) w p) (run_placed b (l ∷ []) v q) one.1 in
      subst (λ (z : World). Like (played a choose (suc n) w) (then_ (run b v (choose z ∷ [])) (λ u. played b choose n u))) (bare_worlds w v h)
      (ap₂ (λ (i j : List Item). i ++ j) one.0 more.0, more.1)

  pub plays_unseen : (choose : World → Line) (n : ℕ) → ShowTheSame (played a choose n (switched_on a)) (played b choose n (switched_on b))
  plays_unseen choose n =
      let h = plays_like choose n (switched_on a) (switched_on b) (on_placed a) (on_placed b) on_like in
      (h.0, bare_worlds (played a choose n (switched_on a)).world (played b choose n (switched_on b)).world h.1)

pub keys_unseen : KeysUnseen
keys_unseen a b script h =
    subst (λ (z : Setting). ShowTheSame (performed a script (switched_on a)) (performed z script (switched_on z))) (sym h.rest)
    (unseen a b.mac b.keys b.secret (subst (λ (z : Setting). AgreeOnTags a z) h.rest h) script)

pub runs_keys_unseen : RunsKeysUnseen
runs_keys_unseen a b lines h =
    subst (λ (z : Setting). ShowTheSame (run a (switched_on a) lines) (run z (switched_on z) lines)) (sym h.rest)
    (runs_unseen a b.mac b.keys b.secret (subst (λ (z : Setting). AgreeOnTags a z) h.rest h) lines)

pub players_see_the_same : PlayersSeeTheSame
players_see_the_same a b choose n h =
    subst (λ (z : Setting). ShowTheSame (played a choose n (switched_on a)) (played z choose n (switched_on z))) (sym h.rest)
    (plays_unseen a b.mac b.keys b.secret (subst (λ (z : Setting). AgreeOnTags a z) h.rest h) choose n)
