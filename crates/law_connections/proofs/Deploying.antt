-- What the deployer does, in both runs.
use Rattle.std.proofs.Common.{◌≡◌, ℕ, ◌&&◌, Bool, true, false, cond, bytes_eq, inr, List, [], ◌∷◌, ◌++◌, length, take, Option, Some, None, refl, sym, ◌∙◌, ap, ap₂, subst}
use Rattle.std.specs.Prelude.{slice_get}
use Rattle.std.specs.Option.{option_flatten}
use Rattle.sx_trace.specs.declared.items.Item.{Item}
use Rattle.sx_trace.specs.declared.items.Item.TheVariants as item
use Rattle.sx_ledger.specs.declared.entry.Maker.TheVariants as maker
use Rattle.sx_tag.specs.Mac.{Mac}
use Rattle.sx_tag.specs.Wrap.{crypt, wrap_tag}
use Rattle.sx_model.specs.Renewal.{may_attest}
use Rattle.spec_run.specs.Setting.{Setting, Site}
use Rattle.spec_run.specs.Ledger.{NO_TARGET, made_entry, is_made}
use Rattle.sx_deployer.specs.Granting.{DeployerState, Grant, grants_after, side_number}
use Rattle.spec_run.specs.Deployer.{grant_header, set_key, set_key_entry, key_of, connection_key, accepts, after_acceptance}
use Rattle.spec_run.proofs.acts.Asking.{expected}
use Rattle.spec_run.specs.State.{World, Acted}
use Rattle.spec_run.specs.Observation.{unless_made}
use Rattle.spec_run.specs.Acts.{only, then_, with_deployer, ask, key_given, keys_given, attested, after_denial, after_verdict, after_answer}
use Rattle.law_connections.specs.Unlinked.{Unlinked}
use Rattle.law_connections.proofs.Linking.{second}
use Rattle.law_connections.proofs.Ledgers.{same_more, module_made}
use Rattle.law_connections.proofs.Worlds.{SameWorld}
use Rattle.law_connections.proofs.Doing.{SameDone}

module _ (a : Setting) (nac : Mac) (keys : List (List ℕ)) (secret : List ℕ) (unlinked : Unlinked a (second a nac keys secret)) where
  abbrev b : Setting
  b = second a nac keys secret

  abbrev Same : World → World → Type 0
  Same = SameWorld a nac keys secret

  abbrev Done : Acted → Acted → Type 0
  Done = SameDone a nac keys secret

  pub done_then : (x y : Acted) (f g : World → Acted) → Done x y → (Same x.world y.world → Done (f x.world) (g y.world)) → Done (then_ x f) (then_ y g)
  done_then x y f g h next = let k = next h.1 in (ap₂ (λ (i j : List Item). i ++ j) h.0 k.0, k.1)

  -- the second world, with what is the same in both taken from the first
  abbrev beside : World → World → World
  beside w v = record v { packets = w.packets; deployer = w.deployer; lines = w.lines }

  beside_is : (w v : World) → Same w v → v ≡ beside w v
  beside_is w v h =
      ap (λ (p : List (List ℕ)). record v { packets = p }) h.packets ∙ ap (λ (d : DeployerState). record v { packets = w.packets; deployer = d }) h.deployer
      ∙ ap (λ (l : ℕ). record v { packets = w.packets; deployer = w.deployer; lines = l }) h.lines

  -- the same packet
  set_key_same : (site : Site) (g : Grant) → slice_get a.sites g.holder ≡ Some site → set_key b site g ≡ set_key a site g
  unfolding wrap_tag
  set_key_same site g sited =
      let head = grant_header g in
      let x = crypt a.mac (key_of a site g.boot) head (connection_key a g.«end».link g.epoch) in
      let y = crypt nac (key_of b site g.boot) head (connection_key b g.«end».link g.epoch) in
      let cipher : x ≡ y = unlinked.pads g.holder g.boot g.«end».link g.epoch (side_number g.«end».side) site sited in
      let tag : take 16 (nac (key_of b site g.boot) (0x54 ∷ length head ∷ (head ++ y))) ≡ take 16 (a.mac (key_of a site g.boot) (0x54 ∷ length head ∷ (head ++ x))) =
      ap (take 16) (sym (unlinked.tags g.holder g.boot site (length head ∷ (head ++ y)) sited)
      ∙ ap (λ (c : List ℕ). a.mac (key_of a site g.boot) (0x54 ∷ length head ∷ (head ++ c))) (sym cipher)) in
      ap₂ (λ (c t : List ℕ). head ++ c ++ t) (sym cipher) tag

  key_same : (w v : World) (g : Grant) (o : Option Site) → slice_get a.sites g.holder ≡ o → Same w v → Done (key_given a w g o) (key_given b v g o)
  key_same w v g None e h = (refl, h)
  key_same w v g (Some site) e h =
      let x = set_key a site g in
      let y = set_key b site g in
      let p : y ≡ x = set_key_same site g e in (
        ap₂ (λ (ps : List (List ℕ)) (bs : List ℕ). item.Packet (length ps) (length bs) ∷ []) h.packets p,
        record {
          nodes = h.nodes;
          packets = ap₂ (λ (ps : List (List ℕ)) (bs : List ℕ). ps ++ bs ∷ []) h.packets p;
          deployer = h.deployer;
          lines = h.lines;
          ledger = same_more a nac keys secret w.ledger v.ledger (set_key_entry a g) (set_key_entry b g) h.ledger (inr (g, refl, refl));
        },
      )

  keys_same : (gs : List Grant) (w v : World) → Same w v → Done (keys_given a gs w) (keys_given b gs v)
  keys_same [] w v h = (refl, h)
  keys_same (g ∷ gs) w v h =
      done_then (key_given a w g (slice_get a.sites g.holder)) (key_given b v g (slice_get a.sites g.holder)) (keys_given a gs) (keys_given b gs)
      (key_same w v g (slice_get a.sites g.holder) refl h)
      (keys_same gs (key_given a w g (slice_get a.sites g.holder)).world (key_given b v g (slice_get a.sites g.holder)).world)

  -- the tag that answers an ask
  answer_same : (m boot : ℕ) (site : Site) (challenge : List ℕ) → slice_get a.sites m ≡ Some site → expected b site boot challenge ≡ expected a site boot challenge
  unfolding wrap_tag crypt
  answer_same m boot site challenge sited = sym (ap (take 16) (unlinked.tags m boot site (length challenge ∷ (challenge ++ [])) sited))

  module _ (w v : World) (h : SameWorld a nac keys secret w v) where
    abbrev u : World
    u = beside w v

    aligned : Same w u
    aligned = record { nodes = h.nodes; packets = refl; deployer = refl; lines = refl; ledger = h.ledger }

    pub ask_done : (m : ℕ) → Done (ask w m) (ask v m)
    ask_done m = subst (λ (z : World). Done (ask w m) (ask z m)) (sym (beside_is w v h))
        (refl, record { nodes = h.nodes; packets = refl; deployer = refl; lines = refl; ledger = h.ledger })

    attested_same : (m boot : ℕ) (challenge : List ℕ) (last : Option ℕ) → Done (attested a w m boot challenge last) (attested b u m boot challenge last)
    attested_same m boot challenge last =
        let d = after_acceptance a.app.links w.deployer m boot last in
        let entry = made_entry (maker.Module m) NO_TARGET boot challenge [] in
        done_then (only (with_deployer w d w.ledger) (unless_made None (is_made w.ledger entry) (item.Attested m boot)))
        (only (with_deployer u d u.ledger) (unless_made None (is_made u.ledger entry) (item.Attested m boot)))
        (keys_given a (grants_after a.app d m boot last)) (keys_given b (grants_after a.app d m boot last)) (
          ap (λ (c : Bool). unless_made None c (item.Attested m boot)) (module_made a nac keys secret w.ledger v.ledger h.ledger m NO_TARGET boot challenge []),
          record { nodes = h.nodes; packets = refl; deployer = refl; lines = refl; ledger = h.ledger },
        )
        (keys_same (grants_after a.app d m boot last) (with_deployer w d w.ledger) (with_deployer u d u.ledger))

    verdict_same : (m : ℕ) (site : Site) (boot : ℕ) (answer : List ℕ) (o : Option (List ℕ)) → slice_get a.sites m ≡ Some site
        → Done (after_verdict a w m site boot answer o) (after_verdict b u m site boot answer o)
    verdict_same m site boot answer None sited = (refl, aligned)
    verdict_same m site boot answer (Some challenge) sited =
        subst (λ (c : Bool). Done (after_verdict a w m site boot answer (Some challenge))
        (cond c (attested b u m boot challenge (option_flatten (slice_get w.deployer.attested m))) (after_denial u m))) (sym same)
        (by (accepts a site w.deployer m boot answer (Some challenge) (option_flatten (slice_get w.deployer.attested m))))
      where
        same : accepts b site w.deployer m boot answer (Some challenge) (option_flatten (slice_get w.deployer.attested m))
            ≡ accepts a site w.deployer m boot answer (Some challenge) (option_flatten (slice_get w.deployer.attested m))
        same = ap (λ (t : List ℕ). bytes_eq answer t && may_attest m a.app.links w.deployer.epochs (option_flatten (slice_get w.deployer.attested m)) boot)
            (answer_same m boot site challenge sited)

        by : (c : Bool) → Done (cond c (attested a w m boot challenge (option_flatten (slice_get w.deployer.attested m))) (after_denial w m))
            (cond c (attested b u m boot challenge (option_flatten (slice_get w.deployer.attested m))) (after_denial u m))
        by true = attested_same m boot challenge (option_flatten (slice_get w.deployer.attested m))
        by false = (refl, aligned)

    pub answer_done : (m boot k : ℕ) → Done (after_answer a w m boot (slice_get a.sites m) (slice_get w.packets k)) (after_answer b v m boot (slice_get a.sites m) (slice_get v.packets k))
    answer_done m boot k =
        subst (λ (z : World). Done (after_answer a w m boot (slice_get a.sites m) (slice_get w.packets k)) (after_answer b z m boot (slice_get a.sites m) (slice_get z.packets k)))
        (sym (beside_is w v h)) (by (slice_get a.sites m) (slice_get w.packets k) refl)
      where
        by : (o : Option Site) (p : Option (List ℕ)) → slice_get a.sites m ≡ o → Done (after_answer a w m boot o p) (after_answer b (beside w v) m boot o p)
        by None p e = (refl, aligned)
        by (Some site) None e = (refl, aligned)
        by (Some site) (Some answer) e = verdict_same m site boot answer (option_flatten (slice_get w.deployer.open_asks m)) e
