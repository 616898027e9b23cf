-- What happens in a run leaves private sections alone.
use Rattle.std.proofs.Common.{◌≡◌, ℕ, ◌≤◌, ◌⊎◌, inl, inr, List, [], Option, Some, None, refl, sym, ◌∙◌, ap, subst, arith}
use Rattle.std.specs.Prelude.{slice_get, slice_set}
use Rattle.std.proofs.lemmas.Bool.{cases_eq}
use Rattle.std.proofs.lemmas.List.{set-set}
use Rattle.sx_rules.specs.declared.section.Section.{Section}
use Rattle.sx_rules.specs.Access.{Lives}
use Rattle.sx_rules.specs.Placed.{Placed}
use Rattle.spec_machine.specs.State.{State}
use Rattle.spec_machine.specs.Guard.{Untouched, Foreign, Same}
use Rattle.spec_machine.specs.Acting.{Act, Step as NodeStep, Restart, Put as PutAct, Set as SetAct, Take as TakeAct, Sense as SenseAct, Interrupt}
use Rattle.spec_machine.specs.Guarding.{FromOutside}
use Rattle.spec_machine.proofs.Sections.{acted_placed}
use Rattle.spec_machine.proofs.RunGuard.{acts_guarded}
use Rattle.spec_machine.proofs.Boots.{boots_count}
use Rattle.spec_run.specs.Setting.{Setting}
use Rattle.spec_run.specs.State.{World, Acted}
use Rattle.spec_run.specs.Acts.{only}
use Rattle.spec_run.proofs.tie.Lists.{get_other, some_inj}
use Rattle.spec_run.proofs.steps.Stretch.{set_same}
use Rattle.law_isolation.specs.Happening.{Happening, Step, done}
use Rattle.law_isolation.specs.Guarded.{SameBut, IsForeign, LeavesAlone}
use Rattle.law_isolation.proofs.Places.{set_swap}
use Rattle.law_isolation.proofs.Acting.{with_nodes, renoded, Effect, applied, SameEffect, Still, OnNode, kind}
use Rattle.lemmas.proofs.Lists.{get_same}

pub some_or_none : {X : Type 0} (o : Option X) → ((x : X) × (o ≡ Some x)) ⊎ (o ≡ None)
some_or_none None = inr refl
some_or_none (Some x) = inl (x, refl)

-- the sections of every node are placed
abbrev pub AllPlaced : World → Type 0
AllPlaced w = (n : ℕ) (a : State) → slice_get w.nodes n ≡ Some a → Placed a.sections

act_foreign : (act : Act) (s : Section) (a : State) → (act ≡ NodeStep → Foreign s a) → FromOutside s act a
act_foreign NodeStep s a f = f refl
act_foreign Restart s a f = tt
act_foreign (PutAct at bytes) s a f = tt
act_foreign (SetAct r v) s a f = tt
act_foreign (TakeAct at n) s a f = tt
act_foreign (SenseAct device v) s a f = tt
act_foreign (Interrupt line) s a f = tt

-- what two worlds show and leave
abbrev pub Blind : ℕ → Section → Acted → Acted → Type 0
Blind n s x y = (x.items ≡ y.items) × SameBut n s x.world y.world

blind_is : (n : ℕ) (s : Section) (x x' y y' : Acted) → x ≡ x' → y ≡ y' → Blind n s x' y' → Blind n s x y
blind_is n s x x' y y' e f h = subst (λ (z : Acted). Blind n s z y) (sym e) (subst (λ (z : Acted). Blind n s x' z) (sym f) h)

still_blind : (doing : List State → Acted) (k : Still doing) (w : World) (n : ℕ) (s : Section) (a twin : State) → slice_get w.nodes n ≡ Some a → Same s a twin
    → Blind n s (doing w.nodes) (doing (slice_set w.nodes n twin))
still_blind doing k w n s a twin here h =
    blind_is n s (doing w.nodes) (renoded k.base w.nodes) (doing (slice_set w.nodes n twin)) (renoded k.base (slice_set w.nodes n twin)) (k.is w.nodes) (k.is (slice_set w.nodes n twin))
    (refl, record { node = a; twin = twin; there = here; same = h; rest = refl })

-- the world with these parts
abbrev made : World → List State → Effect → World
made w ns e = record { nodes = ns; packets = e.packets; deployer = w.deployer; ledger = e.ledger; lines = w.lines; steps = e.steps }

-- on the section's own node
here_blind : (w : World) (n : ℕ) (s : Section) (a twin : State) (e f : Effect) → slice_get w.nodes n ≡ Some a → SameEffect s e f
    → Blind n s (applied w n e) (applied (with_nodes w (slice_set w.nodes n twin)) n f)
here_blind w n s a twin e f here h =
    let nodes : slice_set (slice_set w.nodes n twin) n f.state ≡ slice_set (slice_set w.nodes n e.state) n f.state = set-set w.nodes n twin f.state ∙ sym (set-set w.nodes n e.state f.state) in (
      h.items,
      record {
        node = e.state;
        twin = f.state;
        there = get_same w.nodes n e.state a here;
        same = h.state;
        rest = ap (λ (z : List State). made w z f) nodes ∙ parts e f h.packets h.ledger h.steps;
      },
    )
  where
    parts : (e f : Effect) → e.packets ≡ f.packets → e.ledger ≡ f.ledger → e.steps ≡ f.steps
        → made w (slice_set (slice_set w.nodes n e.state) n f.state) f ≡ made w (slice_set (slice_set w.nodes n e.state) n f.state) e
    parts e f p l t = cc

-- on another node
other_blind : (w : World) (n m : ℕ) (s : Section) (a twin : State) (e : Effect) → (m ≡ n → ⊥) → slice_get w.nodes n ≡ Some a → Same s a twin
    → Blind n s (applied w m e) (applied (with_nodes w (slice_set w.nodes n twin)) m e)
other_blind w n m s a twin e ne here h = (
  refl,
  record {
    node = a;
    twin = twin;
    there = get_other w.nodes m n e.state (λ q. ne (sym q)) ∙ here;
    same = h;
    rest = ap (λ (z : List State). made w z e) (set_swap w.nodes n m twin e.state (λ q. ne (sym q)));
  },
)

module _ (set : Setting) (x : Happening) (w : World) (n : ℕ) (s : Section) (a : State)
    (here : slice_get w.nodes n ≡ Some a) (placed : AllPlaced w) (lives : Lives a.sections.live s) (foreign : IsForeign x n s a) where
  abbrev Doing : List State → Acted
  Doing ns = done set x (with_nodes w ns)

  abbrev Left : Acted → Type 0
  Left z = (b : State) × (slice_get z.world.nodes n ≡ Some b) × Untouched s a b

  left_is : (z y : Acted) → z ≡ y → Left y → Left z
  left_is z y e h = subst (λ (q : Acted). Left q) (sym e) h

  stays : Untouched s a a
  stays = inl (λ k p. refl, lives)

  left_of : Still Doing ⊎ OnNode set.mac x w Doing → Left (Doing w.nodes)
  left_of (inl k) = left_is (Doing w.nodes) (renoded k.base w.nodes) (k.is w.nodes) (a, here, stays)
  left_of (inr k) = elim (cases_eq k.node n) [
    | inl e ↦
        let there : slice_get w.nodes k.node ≡ Some a = ap (slice_get w.nodes) e ∙ here in
        let guard = acts_guarded set.mac s k.act a (placed n a here) lives (act_foreign k.act s a (λ q. foreign (k.own q ∙ ap Step e))) in
        left_is (Doing w.nodes) (applied w k.node (k.effect a)) (k.does w.nodes a there) (
          (k.effect a).state,
          subst (λ (i : ℕ). slice_get (slice_set w.nodes i (k.effect a).state) n ≡ Some (k.effect a).state) (sym e) (get_same w.nodes n (k.effect a).state a here),
          subst (λ (b : State). Untouched s a b) (sym (k.leads a)) guard.kept,
        )
    | inr ne ↦ elim (some_or_none (slice_get w.nodes k.node)) [
      | inl c ↦ left_is (Doing w.nodes) (applied w k.node (k.effect c.0)) (k.does w.nodes c.0 c.1) (a, get_other w.nodes k.node n (k.effect c.0).state (λ q. ne (sym q)) ∙ here, stays)
      | inr e ↦ left_is (Doing w.nodes) (only w []) (k.none w.nodes e) (a, here, stays)
    ]
  ]

  blind_of : (twin : State) → Same s a twin → Still Doing ⊎ OnNode set.mac x w Doing → Blind n s (Doing w.nodes) (Doing (slice_set w.nodes n twin))
  blind_of twin h (inl k) = still_blind Doing k w n s a twin here h
  blind_of twin h (inr k) = elim (cases_eq k.node n) [
    | inl e ↦
        let there : slice_get w.nodes k.node ≡ Some a = ap (slice_get w.nodes) e ∙ here in
        let twin_there : slice_get (slice_set w.nodes n twin) k.node ≡ Some twin = ap (slice_get (slice_set w.nodes n twin)) e ∙ get_same w.nodes n twin a here in
        blind_is n s (Doing w.nodes) (applied w k.node (k.effect a)) (Doing (slice_set w.nodes n twin)) (applied (with_nodes w (slice_set w.nodes n twin)) k.node (k.effect twin))
        (k.does w.nodes a there) (k.does (slice_set w.nodes n twin) twin twin_there)
        (subst (λ (i : ℕ). Blind n s (applied w i (k.effect a)) (applied (with_nodes w (slice_set w.nodes n twin)) i (k.effect twin))) (sym e)
        (here_blind w n s a twin (k.effect a) (k.effect twin) here
        (k.alike s a twin (placed n a here) (λ l. act_foreign k.act s a (λ q. foreign (k.own q ∙ ap Step e))) h)))
    | inr ne ↦ elim (some_or_none (slice_get w.nodes k.node)) [
      | inl c ↦
          blind_is n s (Doing w.nodes) (applied w k.node (k.effect c.0)) (Doing (slice_set w.nodes n twin)) (applied (with_nodes w (slice_set w.nodes n twin)) k.node (k.effect c.0))
          (k.does w.nodes c.0 c.1) (k.does (slice_set w.nodes n twin) c.0 (get_other w.nodes n k.node twin ne ∙ c.1))
          (other_blind w n k.node s a twin (k.effect c.0) ne here h)
      | inr e ↦
          blind_is n s (Doing w.nodes) (only w []) (Doing (slice_set w.nodes n twin)) (only (with_nodes w (slice_set w.nodes n twin)) [])
          (k.none w.nodes e) (k.none (slice_set w.nodes n twin) (get_other w.nodes n k.node twin ne ∙ e))
          (refl, record { node = a; twin = twin; there = here; same = h; rest = refl })
    ]
  ]

  blind_at : (v : World) → SameBut n s w v → Blind n s (done set x w) (done set x v)
  blind_at v b =
      let same : Same s a b.twin = subst (λ (z : State). Same s z b.twin) (some_inj b.node a (sym b.there ∙ here)) b.same in
      subst (λ (z : World). Blind n s (done set x w) (done set x z)) (sym b.rest) (blind_of b.twin same (kind set x w))

  pub leaves_alone : LeavesAlone set x w n s a
  leaves_alone =
      let left = left_of (kind set x w) in
      record { left = left.0; there = left.1; kept = left.2; blind = blind_at }

-- the sections stay placed
placed_node : (set : Setting) (x : Happening) (w : World) (k : Still (λ ns. done set x (with_nodes w ns))
    ⊎ OnNode set.mac x w (λ ns. done set x (with_nodes w ns))) → AllPlaced w → AllPlaced (done set x w).world
placed_node set x w (inl k) p = subst (λ (z : Acted). AllPlaced z.world) (sym (k.is w.nodes)) p
placed_node set x w (inr k) p = elim (some_or_none (slice_get w.nodes k.node)) [
  | inr e ↦ subst (λ (z : Acted). AllPlaced z.world) (sym (k.none w.nodes e)) p
  | inl c ↦
      subst (λ (z : Acted). AllPlaced z.world) (sym (k.does w.nodes c.0 c.1)) (λ n b h. elim (cases_eq n k.node) [
        | inl e ↦
            let now : slice_get (slice_set w.nodes k.node (k.effect c.0).state) n ≡ Some (k.effect c.0).state =
            ap (slice_get (slice_set w.nodes k.node (k.effect c.0).state)) e ∙ get_same w.nodes k.node (k.effect c.0).state c.0 c.1 in
            subst (λ (z : State). Placed z.sections) (sym (k.leads c.0) ∙ some_inj (k.effect c.0).state b (sym now ∙ h)) (acted_placed set.mac k.act c.0 (p k.node c.0 c.1))
        | inr ne ↦ p n b (sym (get_other w.nodes k.node n (k.effect c.0).state ne) ∙ h)
      ])
]

pub done_placed : (set : Setting) (x : Happening) (w : World) → AllPlaced w → AllPlaced (done set x w).world
done_placed set x w p = placed_node set x w (kind set x w) p

-- a node is still there, and its boot count didn't fall
abbrev Goes : ℕ → State → Acted → Type 0
Goes n a z = (c : State) × (slice_get z.world.nodes n ≡ Some c) × (a.boot ≤ c.boot)

goes_is : (n : ℕ) (a : State) (z y : Acted) → z ≡ y → Goes n a y → Goes n a z
goes_is n a z y e h = subst (λ (q : Acted). Goes n a q) (sym e) h

not_below : (b : ℕ) → b ≤ b
not_below b = omega arith

node_goes : (set : Setting) (x : Happening) (w : World) (n : ℕ) (a : State) → slice_get w.nodes n ≡ Some a
    → Still (λ ns. done set x (with_nodes w ns)) ⊎ OnNode set.mac x w (λ ns. done set x (with_nodes w ns))
    → Goes n a (done set x w)
node_goes set x w n a h (inl k) = goes_is n a (done set x w) (renoded k.base w.nodes) (k.is w.nodes) (a, h, not_below a.boot)
node_goes set x w n a h (inr k) = elim (cases_eq k.node n) [
  | inl e ↦
      let there : slice_get w.nodes k.node ≡ Some a = ap (slice_get w.nodes) e ∙ h in
      goes_is n a (done set x w) (applied w k.node (k.effect a)) (k.does w.nodes a there) (
        (k.effect a).state,
        subst (λ (i : ℕ). slice_get (slice_set w.nodes i (k.effect a).state) n ≡ Some (k.effect a).state) (sym e) (get_same w.nodes n (k.effect a).state a h),
        subst (λ (z : State). a.boot ≤ z.boot) (sym (k.leads a)) (boots_count set.mac k.act a).0,
      )
  | inr ne ↦ elim (some_or_none (slice_get w.nodes k.node)) [
    | inl c ↦ goes_is n a (done set x w) (applied w k.node (k.effect c.0)) (k.does w.nodes c.0 c.1) (a, get_other w.nodes k.node n (k.effect c.0).state (λ q. ne (sym q)) ∙ h, not_below a.boot)
    | inr e ↦ goes_is n a (done set x w) (only w []) (k.none w.nodes e) (a, h, not_below a.boot)
  ]
]

pub node_boots : (set : Setting) (x : Happening) (w : World) (n : ℕ) (a : State) → slice_get w.nodes n ≡ Some a → Goes n a (done set x w)
node_boots set x w n a h = node_goes set x w n a h (kind set x w)

-- a world and itself
itself : (n : ℕ) (s : Section) (u : World) (c : State) → slice_get u.nodes n ≡ Some c → SameBut n s u u
itself n s u c h = record { node = c; twin = c; there = h; same = inr refl; rest = ap (λ (z : List State). with_nodes u z) (sym (set_same u.nodes n c h)) }

same_world : (set : Setting) (x : Happening) (w v : World) (n : ℕ) (s : Section) (a : State) → slice_get w.nodes n ≡ Some a → v ≡ w → Blind n s (done set x w) (done set x v)
same_world set x w v n s a h q =
    let c = node_boots set x w n a h in
    subst (λ (z : World). Blind n s (done set x w) (done set x z)) (sym q) (refl, itself n s (done set x w).world c.0 c.1)

-- where none of the section's own instructions comes, also of worlds that don't differ
pub blind_any : (set : Setting) (x : Happening) (w : World) (n : ℕ) (s : Section) → AllPlaced w
    → ((a : State) → slice_get w.nodes n ≡ Some a → Lives a.sections.live s → IsForeign x n s a) → (v : World) → SameBut n s w v → Blind n s (done set x w) (done set x v)
blind_any set x w n s p f v b = by b.same
  where
    by : Same s b.node b.twin → Blind n s (done set x w) (done set x v)
    by (inl h) = (leaves_alone set x w n s b.node b.there p h.0 (f b.node b.there h.0)).blind v b
    by (inr e) =
        same_world set x w v n s b.node b.there
        (b.rest ∙ ap (λ (z : List State). with_nodes w z) (ap (slice_set w.nodes n) (sym e) ∙ set_same w.nodes n b.node b.there))
