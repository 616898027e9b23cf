-- A run under another tag function that derives the same keys: where all uses have the same answers, all is the same, keys too.
use Rattle.std.proofs.Common.{◌≡◌, ℕ, zero, suc, ◌+◌, ◌<◌, inl, inr, List, [], ◌∷◌, ◌++◌, Some, refl, sym, ◌∙◌, ap, ap₂, subst, arith}
use Rattle.std.specs.Prelude.{slice_get}
use Rattle.sx_trace.specs.declared.items.Item.{Item}
use Rattle.sx_rules.specs.declared.section.Section.{Section}
use Rattle.sx_rules.specs.Access.{Sections, Lives}
use Rattle.sx_tag.specs.Mac.{Mac}
use Rattle.sx_tag.specs.Keys.{module_key}
use Rattle.spec_machine.specs.State.{State}
use Rattle.spec_machine.specs.Protect.{identity_at}
use Rattle.sx_sched.specs.Lines.{Line}
use Rattle.spec_run.specs.Setting.{Setting}
use Rattle.spec_run.specs.State.{World, Acted, nodes_from, switched_on}
use Rattle.spec_run.specs.Acts.{then_}
use Rattle.spec_run.specs.Run.{run}
use Rattle.law_isolation.specs.Happening.{Happening, done}
use Rattle.law_isolation.specs.Script.{Script, End, Do, looks, performed}
use Rattle.law_isolation.specs.Lines.{script_of}
use Rattle.law_isolation.proofs.Acting.{with_nodes}
use Rattle.law_isolation.proofs.Guarding.{on_placed}
use Rattle.law_isolation.proofs.Performing.{is_performed}
use Rattle.law_forgery.specs.Moments.{Moment, moment_from, moment}
use Rattle.law_forgery.proofs.Tables.{LikeAll}
use Rattle.law_forgery.proofs.Steps.{LikeState, with_others}
use Rattle.law_forgery.proofs.Granting.{LikeNodes}
use Rattle.law_uses.specs.Uses.{Holder, key_held, SameUses, section_holder, uses_at, uses}
use Rattle.law_uses.specs.Whole.{DeriveTheSame}
use Rattle.law_uses.proofs.Asking.{N}
use Rattle.law_uses.proofs.Alone.{Side, Both, both_do, like_self}
use Rattle.law_uses.proofs.Keeping.{Kept, AllKept, done_kept, on_kept}
use Rattle.law_uses.proofs.Stepping.{NodeKeys}
use Rattle.law_uses.proofs.Whole.{keys_are_held, script_same}

-- sections that differ in keys alone, and whose keys are given by the rest of them
live_same : (key ley : Section → List ℕ) → ((x : Section) (k : List ℕ) → ley (record x { key = k }) ≡ key x) → (xs ys : List Section) → LikeAll N N xs ys
    → ((x : Section) → Lives xs x → x.key ≡ key x) → ((y : Section) → Lives ys y → y.key ≡ ley y) → xs ≡ ys
live_same key ley same [] [] h p q = refl
live_same key ley same [] (y ∷ ys) h p q = absurd h
live_same key ley same (x ∷ xs) [] h p q = absurd h
live_same key ley same (x ∷ xs) (y ∷ ys) h p q =
    let keys : y.key ≡ x.key = q y (inl refl) ∙ ap ley h.0.0 ∙ same x y.key ∙ sym (p x (inl refl)) in
    ap₂ (λ (z : Section) (zs : List Section). z ∷ zs) (sym (h.0.0 ∙ ap (λ (k : List ℕ). record x { key = k }) keys))
    (live_same key ley same xs ys h.1 (λ z l. p z (inr l)) (λ z l. q z (inr l)))

module _ (a : Setting) (nac : Mac) (derive : DeriveTheSame a.mac nac) where
  abbrev pub b : Setting
  b = record a { mac = nac }

  held : (who : Holder) → key_held a who ≡ key_held b who
  held = (keys_are_held a nac derive).1

  -- the key of a live section
  keyed : (set : Setting) (n : ℕ) (s : State) → NodeKeys set n s → (x : Section) → Lives s.sections.live x → x.key ≡ key_held set (section_holder n s x)
  keyed set n s h x lives = h.sections x lives ∙ ap (λ (key : List ℕ). module_key set.mac key s.boot x.provider (identity_at s.mem x.layout)) h.own

  kept_too : (n : ℕ) (s : State) → Kept a n s → Kept b n s
  kept_too n s h = record {
    placed = h.placed;
    keys = record {
      own = h.keys.own;
      sections = λ x lives.
          keyed a n s h.keys x lives ∙ held (section_holder n s x)
          ∙ sym (ap (λ (key : List ℕ). module_key nac key s.boot x.provider (identity_at s.mem x.layout)) h.keys.own);
    };
  }

  node_same : (n : ℕ) (s t : State) → LikeState N N s t → NodeKeys a n s → NodeKeys b n t → s ≡ t
  node_same n s t h p q =
      let z : State = with_others s t.key t.sections in
      let right : NodeKeys b n z = subst (NodeKeys b n) h.rest q in
      let live : s.sections.live ≡ t.sections.live =
      live_same (λ x. key_held a (section_holder n s x)) (λ x. key_held b (section_holder n z x)) (λ x k. sym (held (section_holder n s x)))
      s.sections.live t.sections.live h.sections (keyed a n s p) (keyed b n z right) in
      let own : s.key ≡ t.key = p.own ∙ sym right.own in
      sym (h.rest ∙ ap₂ (λ (key : List ℕ) (u : Sections). with_others s key u) (sym own)
      (ap₂ (λ (l : List Section) (next : ℕ). record { live = l; next = next }) (sym live) h.next))

  nodes_same : (at : ℕ → ℕ) (ss ts : List State) → LikeNodes N N ss ts → ((n : ℕ) (s : State) → slice_get ss n ≡ Some s → NodeKeys a (at n) s)
      → ((n : ℕ) (t : State) → slice_get ts n ≡ Some t → NodeKeys b (at n) t) → ss ≡ ts
  nodes_same at [] [] h p q = refl
  nodes_same at [] (t ∷ ts) h p q = absurd h
  nodes_same at (s ∷ ss) [] h p q = absurd h
  nodes_same at (s ∷ ss) (t ∷ ts) h p q =
      ap₂ (λ (z : State) (zs : List State). z ∷ zs) (node_same (at 0) s t h.0 (p 0 s refl) (q 0 t refl))
      (nodes_same (λ n. at (suc n)) ss ts h.1 (λ n z e. p (suc n) z e) (λ n z e. q (suc n) z e))

  like_nodes : (ss : List State) → LikeNodes N N ss ss
  like_nodes [] = tt
  like_nodes (s ∷ ss) = (record { rest = refl; sections = like_self s.sections.live; next = refl; keys = λ boot provider id kind rest ne. refl }, like_nodes ss)

  -- one thing happens
  pub done_same : (x : Happening) (w : World) → AllKept a w → SameUses a b (uses_at a x w) → done b x w ≡ done a x w
  done_same x w kept alike =
      let links = (keys_are_held a nac derive).0.links in
      let side : Side a nac a.keys a.secret links w w = record { like = record { rest = refl; nodes = like_nodes w.nodes }; left = kept; right = λ n s e. kept_too n s (kept n s e) } in
      let both : Both a nac a.keys a.secret links (done a x w) (done b x w) = both_do a nac a.keys a.secret links x w w side alike in
      let wa = (done a x w).world in
      let wb = (done b x w).world in
      let nodes : wa.nodes ≡ wb.nodes = nodes_same (λ n. n) wa.nodes wb.nodes both.side.like.nodes (λ n s e. (both.side.left n s e).keys) (λ n t e. (both.side.right n t e).keys) in
      sym (ap₂ (λ (world : World) (items : List Item). record { world = world; items = items })
      (sym (both.side.like.rest ∙ ap (with_nodes wa) (sym nodes))) both.items)

  pub moments_same : (script : Script) (k : ℕ) (w : World) → AllKept a w
      → ((i : ℕ) (now : Moment) → i < k → moment_from a i script w ≡ Some now → SameUses a b (uses a now))
      → moment_from b k script w ≡ moment_from a k script w
  moments_same End k w kept p = refl
  moments_same (Do x rest) zero w kept p = refl
  moments_same (Do x rest) (suc k) w kept p =
      let e = done_same x w kept (p 0 (record { next = x; world = w }) (omega arith) refl) in
      let wa = (done a x w).world in
      ap (λ (z : Acted). moment_from b k (rest (looks z.world)) z.world) e
      ∙ moments_same (rest (looks wa)) k wa (done_kept a x w kept) (λ i now lt g. p (suc i) now (omega (arith, lt)) g)

  performed_same : (script : Script) (w : World) → AllKept a w
      → ((i : ℕ) (now : Moment) → moment_from a i script w ≡ Some now → SameUses a b (uses a now))
      → performed b script w ≡ performed a script w
  performed_same End w kept p = refl
  performed_same (Do x rest) w kept p =
      let e = done_same x w kept (p 0 (record { next = x; world = w }) refl) in
      let wa = (done a x w).world in
      ap (λ (z : Acted). then_ z (λ v. performed b (rest (looks v)) v)) e
      ∙ ap (λ (r : Acted). record { world = r.world; items = (done a x w).items ++ r.items })
      (performed_same (rest (looks wa)) wa (done_kept a x w kept) (λ i now g. p (suc i) now g))

  nodes_on : (n : ℕ) (keys : List (List ℕ)) → nodes_from b n keys ≡ nodes_from a n keys
  nodes_on n [] = refl
  nodes_on n (key ∷ keys) =
      ap (λ (rest : List State). Rattle.spec_machine.specs.State.power_on key (Rattle.sx_bus.specs.Devices.powered_on (Rattle.spec_run.specs.Setting.windows_at n a.app.devices a.places)) ∷ rest)
      (nodes_on (n + 1) keys)

  pub on_same : switched_on b ≡ switched_on a
  on_same = ap (with_nodes (switched_on a)) (nodes_on 0 a.keys)

  pub scripted : (lines : List Line) → script_of b lines ≡ script_of a lines
  scripted lines = script_same a nac a.keys a.secret lines

  -- the moments of a schedule up to the first whose uses have other answers
  pub schedule_same : (lines : List Line) (k : ℕ) → ((i : ℕ) (now : Moment) → i < k → moment a lines i ≡ Some now → SameUses a b (uses a now))
      → moment b lines k ≡ moment a lines k
  schedule_same lines k p =
      ap₂ (λ (s : Script) (w : World). moment_from b k s w) (scripted lines) on_same
      ∙ moments_same (script_of a lines) k (switched_on a) (on_kept a) p

  -- and its whole run, where there is none
  pub run_same : (lines : List Line) → ((i : ℕ) (now : Moment) → moment a lines i ≡ Some now → SameUses a b (uses a now))
      → run b (switched_on b) lines ≡ run a (switched_on a) lines
  run_same lines p =
      is_performed b lines (switched_on b) (on_placed b)
      ∙ ap₂ (λ (s : Script) (w : World). performed b s w) (scripted lines) on_same
      ∙ performed_same (script_of a lines) (switched_on a) (on_kept a) p
      ∙ sym (is_performed a lines (switched_on a) (on_placed a))
