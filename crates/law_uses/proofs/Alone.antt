-- A run depends on nothing of the tag function but the answers to its uses.
use Rattle.std.proofs.Common.{◌≡◌, ℕ, zero, suc, ◌+◌, ◌<◌, ◌≤◌, List, [], ◌∷◌, map, length, Option, Some, None, Result, Ok, Err, refl, sym, ◌∙◌, ap, ap₂, subst, arith}
use Rattle.std.specs.Prelude.{slice_get}
use Rattle.sx_trace.specs.declared.items.Item.{Item}
use Rattle.sx_trace.specs.declared.items.Item.TheVariants as item
use Rattle.sx_trace.specs.declared.items.Cause.TheVariants.{Asked}
use Rattle.sx_mean.specs.declared.apps.AppDevice.{AppDevice}
use Rattle.sx_rules.specs.declared.section.Section.{Section}
use Rattle.spec_machine.specs.declared.kinds.Refused.{Refused}
use Rattle.spec_machine.specs.declared.kinds.Seen.{Seen}
use Rattle.spec_machine.specs.State.{State, reset}
use Rattle.spec_machine.specs.Step.{Shown, own_of, step}
use Rattle.spec_machine.specs.Acts.{put, set as set_register, take as take_from, sense, irq}
use Rattle.sx_ledger.specs.Made.{Made}
use Rattle.spec_run.specs.Setting.{Setting, module_of}
use Rattle.spec_run.specs.Deployer.{connection_key}
use Rattle.spec_run.specs.Observation.{Observed, observed}
use Rattle.spec_run.specs.State.{World, Acted, nodes_from, switched_on}
use Rattle.sx_tag.specs.Mac.{Mac}
use Rattle.spec_run.specs.Acts.{only, with_node, at_node, after_step, or_refused, done_on, after_take, after_interrupt}
use Rattle.spec_run.specs.Run.{place_at, sense_at, give, put_on}
use Rattle.law_isolation.specs.Happening.{Happening, Begin, Step, Put, Set, Take, Give, Forge, Sense, Irq, Reset, Ask, Answer, Show, done}
use Rattle.law_isolation.specs.Script.{Look, look, looks, Script, End, Do}
use Rattle.law_isolation.proofs.Acting.{with_nodes}
use Rattle.law_forgery.specs.Tags.{rekeyed}
use Rattle.law_forgery.specs.Bare.{bare_section, bare_node, bare}
use Rattle.law_forgery.specs.Moments.{Moment, moment_from, shown_at}
use Rattle.law_forgery.proofs.Tables.{LikeAll}
use Rattle.law_forgery.proofs.Steps.{LikeState, LikeShown}
use Rattle.law_forgery.proofs.Acting.{put_like, take_like, set_like, sense_like, irq_like, reset_states, runner_like, observed_like}
use Rattle.law_forgery.proofs.Granting.{LikeNodes, LikeGot, got_like, put_in_like, LikeWorld, LikeActed, like_nodes, packet_like}
use Rattle.law_uses.specs.Uses.{SameUses, step_uses, uses_at, uses}
use Rattle.law_uses.specs.UsesAlone.{bare_moment, items_of, SameMoments, AnswerAlike, UsesAlone}
use Rattle.law_uses.proofs.Asking.{N}
use Rattle.law_uses.proofs.Stepping.{NodeKeys, step_at}
use Rattle.law_uses.proofs.Answering.{answer_at}
use Rattle.law_uses.proofs.Keeping.{AllKept, done_kept, on_kept}

-- a node is like itself

pub like_self : (xs : List Section) → LikeAll N N xs xs
like_self [] = tt
like_self (x ∷ xs) = ((refl, λ kind rest ne. refl), like_self xs)

self_like : (s : State) → LikeState N N s s
self_like s = record { rest = refl; sections = like_self s.sections.live; next = refl; keys = λ boot provider id kind rest ne. refl }

-- What is left without keys.

bare_sections : (xs ys : List Section) → LikeAll N N xs ys → map bare_section ys ≡ map bare_section xs
bare_sections [] [] h = refl
bare_sections [] (y ∷ ys) h = absurd h
bare_sections (x ∷ xs) [] h = absurd h
bare_sections (x ∷ xs) (y ∷ ys) h = ap₂ (λ (z : Section) (zs : List Section). z ∷ zs) (ap bare_section h.0.0) (bare_sections xs ys h.1)

bare_like : (s t : State) → LikeState N N s t → bare_node s ≡ bare_node t
bare_like s t h =
    sym (ap bare_node h.rest
    ∙ ap₂ (λ (live : List Section) (next : ℕ). record s { key = []; sections = record { live = live; next = next } }) (bare_sections s.sections.live t.sections.live h.sections) h.next)

bare_nodes : (ss ts : List State) → LikeNodes N N ss ts → map bare_node ss ≡ map bare_node ts
bare_nodes [] [] h = refl
bare_nodes [] (t ∷ ts) h = absurd h
bare_nodes (s ∷ ss) [] h = absurd h
bare_nodes (s ∷ ss) (t ∷ ts) h = ap₂ (λ (x : State) (xs : List State). x ∷ xs) (bare_like s t h.0) (bare_nodes ss ts h.1)

pub bare_worlds : (w v : World) → LikeWorld N N w v → bare w ≡ bare v
bare_worlds w v h = ap (with_nodes w) (bare_nodes w.nodes v.nodes h.nodes) ∙ sym (ap bare h.rest)

looks_like : (ss ts : List State) → LikeNodes N N ss ts → map look ts ≡ map look ss
looks_like [] [] h = refl
looks_like [] (t ∷ ts) h = absurd h
looks_like (s ∷ ss) [] h = absurd h
looks_like (s ∷ ss) (t ∷ ts) h = ap₂ (λ (x : Look) (xs : List Look). x ∷ xs) (ap look h.0.rest) (looks_like ss ts h.1)

pub same_looks : (w v : World) → LikeWorld N N w v → looks v ≡ looks w
same_looks w v h = looks_like w.nodes v.nodes h.nodes

module _ (a : Setting) (nac : Mac) (keys : List (List ℕ)) (secret : List ℕ) where
  abbrev b : Setting
  b = rekeyed a nac keys secret

  abbrev Like : Acted → Acted → Type 0
  Like x y = LikeActed N N x y

  abbrev Nodes : List State → List State → Type 0
  Nodes x y = LikeNodes N N x y

  abbrev States : State → State → Type 0
  States s t = LikeState N N s t

  at_like : (w : World) (ns : List State) (f g : State → Acted) (o p : Option State) → Nodes w.nodes ns → LikeGot N N o p → ((s t : State) → o ≡ Some s → p ≡ Some t → States s t → Like (f s) (g t))
      → Like (at_node w f o) (at_node (with_nodes w ns) g p)
  at_like w ns f g None None h e k = (refl, like_nodes N N w ns h)
  at_like w ns f g None (Some t) h e k = absurd e
  at_like w ns f g (Some s) None h e k = absurd e
  at_like w ns f g (Some s) (Some t) h e k = k s t refl refl e

  on_node : (w : World) (ns : List State) (n : ℕ) (f g : State → Acted) → Nodes w.nodes ns → ((s t : State) → States s t → Like (f s) (g t))
      → Like (at_node w f (slice_get w.nodes n)) (at_node (with_nodes w ns) g (slice_get ns n))
  on_node w ns n f g h k = at_like w ns f g (slice_get w.nodes n) (slice_get ns n) h (got_like N N w.nodes ns n h) (λ s t e d. k s t)

  -- an act that answers nothing
  done_like : (w : World) (ns : List State) (n : ℕ) (items : List Item) (r q : Shown (Result (Unit {0}) Refused)) → Nodes w.nodes ns → LikeShown N N r q
      → Like (done_on w n items r) (done_on (with_nodes w ns) n items q)
  done_like w ns n items r q h e = (ap (or_refused n items) e.0, record { rest = refl; nodes = put_in_like N N w.nodes ns n r.state q.state h e.1 })

  took_like : (w : World) (ns : List State) (n : ℕ) (r : Result (List ℕ) Refused) → Nodes w.nodes ns → Like (after_take w n r) (after_take (with_nodes w ns) n r)
  took_like w ns n (Ok bytes) h = packet_like N N w ns bytes h
  took_like w ns n (Err why) h = (refl, like_nodes N N w ns h)

  observed_same : (n : ℕ) (r : Option ℕ) (s t : State) (x : Seen) (ledger : List Made) → States s t → observed a n r s x ledger ≡ observed b n r t x ledger
  observed_same n r s t x ledger h = observed_like N N a keys secret n r s t x ledger h ∙ sym (observed_like N N b keys secret n r t t x ledger (self_like t))

  -- what is seen of a node that this leaves
  seen_like : (w : World) (ns : List State) (n steps : ℕ) (r q : Option ℕ) (s t : State) (x y : Seen) → Nodes w.nodes ns → q ≡ r → x ≡ y → States s t
      → Like (only (with_node w n s (observed a n r s x w.ledger).ledger steps) (observed a n r s x w.ledger).items)
      (only (with_node (with_nodes w ns) n t (observed b n q t y w.ledger).ledger steps) (observed b n q t y w.ledger).items)
  seen_like w ns n steps r q s t x y h e f g =
      let o = observed a n r s x w.ledger in
      let left = only (with_node w n s o.ledger steps) o.items in
      subst (λ (z : Option ℕ). Like left (only (with_node (with_nodes w ns) n t (observed b n z t y w.ledger).ledger steps) (observed b n z t y w.ledger).items)) (sym e)
      (subst (λ (z : Seen). Like left (only (with_node (with_nodes w ns) n t (observed b n r t z w.ledger).ledger steps) (observed b n r t z w.ledger).items)) f
      (subst (λ (z : Observed). Like left (only (with_node (with_nodes w ns) n t z.ledger steps) z.items)) (observed_same n r s t x w.ledger g)
      (refl, record { rest = refl; nodes = put_in_like N N w.nodes ns n s t h g })))

  stepped_like : (w : World) (ns : List State) (n : ℕ) (s t : State) → Nodes w.nodes ns → States s t → NodeKeys a n s → NodeKeys b n t → SameUses a b (step_uses a n (Some s))
      → Like (after_step a w n s) (after_step b (with_nodes w ns) n t)
  stepped_like w ns n s t h g left right u =
      let one = step_at a b n s t g left right u in
      seen_like w ns n (w.steps + 1) (module_of a.sites n s (own_of s)) (module_of a.sites n t (own_of t)) (step a.mac s).state (step nac t).state (step a.mac s).shown (step nac t).shown h
      (runner_like N N a.sites n s t g) one.0 one.1

  interrupted_like : (w : World) (ns : List State) (n : ℕ) (s t : State) (x y : Result Seen Refused) → Nodes w.nodes ns → x ≡ y → States s t
      → Like (after_interrupt a w n s x) (after_interrupt b (with_nodes w ns) n t y)
  interrupted_like w ns n s t x y h e g = subst (λ (z : Result Seen Refused). Like (after_interrupt a w n s x) (after_interrupt b (with_nodes w ns) n t z)) e (by x)
    where
      by : (x : Result Seen Refused) → Like (after_interrupt a w n s x) (after_interrupt b (with_nodes w ns) n t x)
      by (Ok seen) = seen_like w ns n w.steps None None s t seen seen h refl refl g
      by (Err why) = (refl, like_nodes N N w ns h)

  put_on_like : (w : World) (ns : List State) (n at : ℕ) (bytes : List ℕ) → Nodes w.nodes ns → Like (put_on n at bytes w) (put_on n at bytes (with_nodes w ns))
  put_on_like w ns n at bytes h =
      on_node w ns n (λ s. done_on w n [] (put s at bytes)) (λ t. done_on (with_nodes w ns) n [] (put t at bytes)) h
      (λ s t g. done_like w ns n [] (put s at bytes) (put t at bytes) h (put_like N N s t at bytes g))

  give_like : (w : World) (ns : List State) (n at : ℕ) (o : Option (List ℕ)) → Nodes w.nodes ns → Like (give w n at o) (give (with_nodes w ns) n at o)
  give_like w ns n at None h = (refl, like_nodes N N w ns h)
  give_like w ns n at (Some bytes) h = put_on_like w ns n at bytes h

  sensed_like : (w : World) (ns : List State) (d v : ℕ) (o : Option AppDevice) → Nodes w.nodes ns → Like (sense_at a w d v o) (sense_at b (with_nodes w ns) d v o)
  sensed_like w ns d v None h = (refl, like_nodes N N w ns h)
  sensed_like w ns d v (Some x) h =
      on_node w ns x.node (λ s. done_on w x.node (item.Sense d v ∷ []) (sense s (place_at a x.node d) v))
      (λ t. done_on (with_nodes w ns) x.node (item.Sense d v ∷ []) (sense t (place_at a x.node d) v)) h (λ s t g.
      done_like w ns x.node (item.Sense d v ∷ []) (sense s (place_at a x.node d) v) (sense t (place_at a x.node d) v) h (sense_like N N s t (place_at a x.node d) v g))

  module _ (links : (link epoch : ℕ) → connection_key a link epoch ≡ connection_key b link epoch) where
    -- one thing happens
    happens_like : (x : Happening) (w : World) (ns : List State) → Nodes w.nodes ns → AllKept a w → AllKept b (with_nodes w ns) → SameUses a b (uses_at a x w)
        → Like (done a x w) (done b x (with_nodes w ns))
    happens_like Begin w ns h p q u = (refl, record { rest = refl; nodes = h })
    happens_like (Step n) w ns h p q u =
        at_like w ns (after_step a w n) (after_step b (with_nodes w ns) n) (slice_get w.nodes n) (slice_get ns n) h (got_like N N w.nodes ns n h) (λ s t d e g.
        stepped_like w ns n s t h g (p n s d).keys (q n t e).keys (subst (λ (o : Option State). SameUses a b (step_uses a n o)) d u))
    happens_like (Put n at bytes) w ns h p q u = put_on_like w ns n at bytes h
    happens_like (Set n r v) w ns h p q u =
        on_node w ns n (λ s. done_on w n [] (set_register s r v)) (λ t. done_on (with_nodes w ns) n [] (set_register t r v)) h
        (λ s t g. done_like w ns n [] (set_register s r v) (set_register t r v) h (set_like N N s t r v g))
    happens_like (Take n at len) w ns h p q u =
        on_node w ns n (λ s. after_take w n (take_from s at len).shown) (λ t. after_take (with_nodes w ns) n (take_from t at len).shown) h (λ s t g.
        subst (λ (z : Result (List ℕ) Refused). Like (after_take w n (take_from s at len).shown) (after_take (with_nodes w ns) n z)) (take_like N N s t at len g).0
        (took_like w ns n (take_from s at len).shown h))
    happens_like (Give k n at) w ns h p q u = give_like w ns n at (slice_get w.packets k) h
    happens_like (Forge bytes) w ns h p q u = packet_like N N w ns bytes h
    happens_like (Sense d v) w ns h p q u = sensed_like w ns d v (slice_get a.app.devices d) h
    happens_like (Irq n k) w ns h p q u =
        on_node w ns n (λ s. after_interrupt a w n (irq s k).state (irq s k).shown) (λ t. after_interrupt b (with_nodes w ns) n (irq t k).state (irq t k).shown) h (λ s t g.
        let one = irq_like N N s t k g in
        interrupted_like w ns n (irq s k).state (irq t k).state (irq s k).shown (irq t k).shown h one.0 one.1)
    happens_like (Reset n) w ns h p q u =
        on_node w ns n (λ s. only (with_node w n (reset s) w.ledger w.steps) (item.Reset n Asked ∷ []))
        (λ t. only (with_node (with_nodes w ns) n (reset t) w.ledger w.steps) (item.Reset n Asked ∷ [])) h (λ s t g.
        (refl, record { rest = refl; nodes = put_in_like N N w.nodes ns n (reset s) (reset t) h (reset_states N N s t g) }))
    happens_like (Ask m) w ns h p q u = (refl, record { rest = refl; nodes = h })
    happens_like (Answer m boot k) w ns h p q u = answer_at a nac keys secret links w ns m boot (slice_get a.sites m) (slice_get w.packets k) h u
    happens_like (Show i) w ns h p q u = (refl, like_nodes N N w ns h)

    -- the worlds of the two runs
    pub record Side (w v : World) : Type 0 where
      pub like : LikeWorld N N w v
      pub left : AllKept a w
      pub right : AllKept b v

    -- what both show, and where both get
    pub record Both (x y : Acted) : Type 0 where
      pub items : x.items ≡ y.items
      pub side : Side x.world y.world

    pub both_do : (x : Happening) (w v : World) → Side w v → SameUses a b (uses_at a x w) → Both (done a x w) (done b x v)
    both_do x w v s u =
        let right : AllKept b (with_nodes w v.nodes) = subst (AllKept b) s.like.rest s.right in
        let one = happens_like x w v.nodes s.like.nodes s.left right u in
        subst (λ (z : World). Both (done a x w) (done b x z)) (sym s.like.rest)
        (record { items = one.0; side = record { like = one.1; left = done_kept a x w s.left; right = done_kept b x (with_nodes w v.nodes) right } })

    abbrev SideMoment : Option Moment → Option Moment → Type 0
    SideMoment None None = Unit {0}
    SideMoment None (Some y) = ⊥
    SideMoment (Some x) None = ⊥
    SideMoment (Some x) (Some y) = (y.next ≡ x.next) × Side x.world y.world

    go : (j : ℕ) (script : Script) (w v : World) → Side w v
        → ((i : ℕ) (now : Moment) → i < j → moment_from a i script w ≡ Some now → SameUses a b (uses a now))
        → SideMoment (moment_from a j script w) (moment_from b j script v)
    go j End w v s p = tt
    go zero (Do x rest) w v s p = (refl, s)
    go (suc j) (Do x rest) w v s p =
        let one = both_do x w v s (p 0 (record { next = x; world = w }) (omega arith) refl) in
        let wa = (done a x w).world in
        let wb = (done b x v).world in
        subst (λ (z : Script). SideMoment (moment_from a j (rest (looks wa)) wa) (moment_from b j z wb)) (sym (ap rest (same_looks wa wb one.side.like)))
        (go j (rest (looks wa)) wa wb one.side (λ i now lt e. p (suc i) now (omega (arith, lt)) e))

    side_bare : (o p : Option Moment) → SideMoment o p → bare_moment o ≡ bare_moment p
    side_bare None None h = refl
    side_bare None (Some y) h = absurd h
    side_bare (Some x) None h = absurd h
    side_bare (Some x) (Some y) h =
        ap₂ (λ (next : Happening) (world : World). Some (record { next = next; world = world })) (sym h.0) (bare_worlds x.world y.world h.1.like)

    side_items : (o p : Option Moment) → SideMoment o p → ((now : Moment) → o ≡ Some now → SameUses a b (uses a now)) → items_of a o ≡ items_of b p
    side_items None None h u = refl
    side_items None (Some y) h u = absurd h
    side_items (Some x) None h u = absurd h
    side_items (Some x) (Some y) h u =
        subst (λ (z : Happening). shown_at a x ≡ (done b z y.world).items) (sym h.0) (both_do x.next x.world y.world h.1 (u x refl)).items

    start_like : (n : ℕ) (ks ls : List (List ℕ)) → length ks ≡ length ls → Nodes (nodes_from a n ks) (nodes_from b n ls)
    start_like n [] [] e = tt
    start_like n [] (l ∷ ls) e = absurd (omega (arith, e))
    start_like n (k ∷ ks) [] e = absurd (omega (arith, e))
    start_like n (k ∷ ks) (l ∷ ls) e = (record { rest = refl; sections = tt; next = refl; keys = λ boot provider id kind rest ne. refl }, start_like (n + 1) ks ls (omega (arith, e)))

    pub on_side : length a.keys ≡ length keys → Side (switched_on a) (switched_on b)
    on_side e = record { like = record { rest = refl; nodes = start_like 0 a.keys keys e }; left = on_kept a; right = on_kept b }

    pub alone : (script : Script) (k : ℕ) → length a.keys ≡ length keys → AnswerAlike a b script k → SameMoments a b script k
    alone script k e p =
        let at : (j : ℕ) → j ≤ k → SideMoment (moment_from a j script (switched_on a)) (moment_from b j script (switched_on b)) =
        λ j le. go j script (switched_on a) (switched_on b) (on_side e) (λ i now lt f. p i now (omega (arith, lt, le)) f) in
        record {
          moments = λ j le. side_bare (moment_from a j script (switched_on a)) (moment_from b j script (switched_on b)) (at j le);
          items = λ j lt. side_items (moment_from a j script (switched_on a)) (moment_from b j script (switched_on b)) (at j (omega (arith, lt))) (λ now f. p j now lt f);
        }

pub uses_alone : UsesAlone
uses_alone a b script k d p =
    subst (λ (z : Setting). SameMoments a z script k) (sym d.rest)
    (alone a b.mac b.keys b.secret (λ link epoch. d.links link epoch ∙ ap (λ (z : Setting). connection_key z link epoch) d.rest) script k d.count
    (subst (λ (z : Setting). AnswerAlike a z script k) d.rest p))
