-- Worlds that differ in the keys of nodes alone, and what the deployer does in them.
use Rattle.std.proofs.Common.{◌≡◌, ℕ, zero, suc, Bool, true, false, cond, ◌&&◌, bytes_eq, List, [], ◌∷◌, ◌++◌, Option, Some, None, refl, sym, ◌∙◌, ap, subst}
use Rattle.std.specs.Prelude.{slice_get, slice_set}
use Rattle.std.specs.Option.{option_flatten}
use Rattle.sx_trace.specs.declared.items.Item.TheVariants as item
use Rattle.sx_ledger.specs.declared.entry.Maker.TheVariants as maker
use Rattle.sx_tag.specs.Mac.{Mac}
use Rattle.sx_tag.specs.Keys.{identity}
use Rattle.sx_tag.specs.Wrap.{Wrapped, wrapped}
use Rattle.spec_machine.specs.State.{State}
use Rattle.sx_model.specs.Renewal.{may_attest}
use Rattle.spec_run.specs.Setting.{Setting, Site}
use Rattle.sx_ledger.specs.Made.{Made, NO_TARGET}
use Rattle.spec_run.specs.Ledger.{made_entry, is_made}
use Rattle.sx_deployer.specs.Granting.{DeployerState, Grant, grants_after}
use Rattle.spec_run.specs.Deployer.{key_of, accepts, after_acceptance, connection_key, grant_header, set_key, set_key_entry}
use Rattle.spec_run.proofs.acts.Asking.{expected}
use Rattle.spec_run.specs.State.{World, Acted}
use Rattle.spec_run.specs.Observation.{unless_made}
use Rattle.spec_run.specs.Acts.{only, then_, new_packet, with_deployer, key_given, keys_given, attested, after_denial, after_verdict, after_answer}
use Rattle.law_forgery.specs.Tags.{SameTags, rekeyed, AgreeOnTags}
use Rattle.law_forgery.proofs.Instructions.{wrapped_same}
use Rattle.law_forgery.proofs.Steps.{LikeState}
use Rattle.law_isolation.proofs.Guarding.{append_same}
use Rattle.law_isolation.proofs.Acting.{with_nodes}

module _ (mac nac : Mac) where
  abbrev pub LikeNodes : List State → List State → Type 0
  LikeNodes [] [] = Unit {0}
  LikeNodes [] (t ∷ ts) = ⊥
  LikeNodes (s ∷ ss) [] = ⊥
  LikeNodes (s ∷ ss) (t ∷ ts) = LikeState mac nac s t × LikeNodes ss ts

  abbrev pub LikeGot : Option State → Option State → Type 0
  LikeGot None None = Unit {0}
  LikeGot None (Some t) = ⊥
  LikeGot (Some s) None = ⊥
  LikeGot (Some s) (Some t) = LikeState mac nac s t

  pub got_like : (ss ts : List State) (n : ℕ) → LikeNodes ss ts → LikeGot (slice_get ss n) (slice_get ts n)
  got_like [] [] n h = tt
  got_like [] (t ∷ ts) n h = absurd h
  got_like (s ∷ ss) [] n h = absurd h
  got_like (s ∷ ss) (t ∷ ts) zero h = h.0
  got_like (s ∷ ss) (t ∷ ts) (suc n) h = got_like ss ts n h.1

  pub put_in_like : (ss ts : List State) (n : ℕ) (s t : State) → LikeNodes ss ts → LikeState mac nac s t → LikeNodes (slice_set ss n s) (slice_set ts n t)
  put_in_like [] [] n s t h g = tt
  put_in_like [] (y ∷ ts) n s t h g = absurd h
  put_in_like (x ∷ ss) [] n s t h g = absurd h
  put_in_like (x ∷ ss) (y ∷ ts) zero s t h g = (g, h.1)
  put_in_like (x ∷ ss) (y ∷ ts) (suc n) s t h g = (h.0, put_in_like ss ts n s t h.1 g)

  pub record LikeWorld (w v : World) : Type 0 where
    pub rest : v ≡ with_nodes w v.nodes
    pub nodes : LikeNodes w.nodes v.nodes

  abbrev pub LikeActed : Acted → Acted → Type 0
  LikeActed x y = (x.items ≡ y.items) × LikeWorld x.world y.world

  pub like_nodes : (w : World) (ns : List State) → LikeNodes w.nodes ns → LikeWorld w (with_nodes w ns)
  like_nodes w ns h = record { rest = refl; nodes = h }

  pub then_like : (x y : Acted) (f g : World → Acted) → LikeActed x y → ((w v : World) → LikeWorld w v → LikeActed (f w) (g v)) → LikeActed (then_ x f) (then_ y g)
  then_like x y f g h k =
      let r = k x.world y.world h.1 in
      (append_same x.items y.items (f x.world).items (g y.world).items h.0 r.0, r.1)

  -- the world with more packets, another deployer and another ledger
  pub packet_like : (w : World) (ns : List State) (bytes : List ℕ) → LikeNodes w.nodes ns → LikeActed (new_packet w bytes) (new_packet (with_nodes w ns) bytes)
  packet_like w ns bytes h = (refl, record { rest = refl; nodes = h })

module _ (a : Setting) (nac : Mac) (keys : List (List ℕ)) (secret : List ℕ) (agree : AgreeOnTags a (rekeyed a nac keys secret)) where
  abbrev b : Setting
  b = rekeyed a nac keys secret

  module_keys : (site : Site) (boot : ℕ) → SameTags a.mac (key_of a site boot) nac (key_of b site boot)
  module_keys site boot =
      agree.modules site.node boot site.provider (identity site.text site.layout.pub_from site.layout.pub_to site.layout.priv_from site.layout.priv_to)

  expected_same : (site : Site) (boot : ℕ) (ask : List ℕ) → expected b site boot ask ≡ expected a site boot ask
  expected_same site boot ask = sym (ap (λ (w : Wrapped). w.tag) (wrapped_same a.mac nac (key_of a site boot) (key_of b site boot) ask [] (module_keys site boot)))

  accepts_same : (site : Site) (d : DeployerState) (m boot : ℕ) (answer : List ℕ) (o : Option (List ℕ)) (last : Option ℕ)
      → accepts b site d m boot answer o last ≡ accepts a site d m boot answer o last
  accepts_same site d m boot answer None last = refl
  accepts_same site d m boot answer (Some ask) last =
      ap (λ (e : List ℕ). bytes_eq answer e && may_attest m a.app.links d.epochs last boot) (expected_same site boot ask)

  entry_same : (g : Grant) → set_key_entry a g ≡ set_key_entry b g
  entry_same g = ap (made_entry maker.Deployer g.holder g.boot (grant_header g)) (agree.links g.«end».link g.epoch)

  set_key_same : (site : Site) (g : Grant) → set_key a site g ≡ set_key b site g
  set_key_same site g =
      ap (λ (w : Wrapped). grant_header g ++ w.cipher ++ w.tag)
      (ap (λ (k : List ℕ). wrapped a.mac (key_of a site g.boot) (grant_header g) k) (agree.links g.«end».link g.epoch)
      ∙ wrapped_same a.mac nac (key_of a site g.boot) (key_of b site g.boot) (grant_header g) (connection_key b g.«end».link g.epoch) (module_keys site g.boot))

  key_like : (w : World) (ns : List State) (g : Grant) (o : Option Site) → LikeNodes a.mac nac w.nodes ns → LikeActed a.mac nac (key_given a w g o) (key_given b (with_nodes w ns) g o)
  key_like w ns g None h = (refl, record { rest = refl; nodes = h })
  key_like w ns g (Some site) h =
      subst (λ (e : Made). LikeActed a.mac nac (key_given a w g (Some site)) (new_packet (with_deployer (with_nodes w ns) w.deployer (w.ledger ++ e ∷ [])) (set_key b site g))) (entry_same g)
      (subst (λ (p : List ℕ). LikeActed a.mac nac (key_given a w g (Some site)) (new_packet (with_deployer (with_nodes w ns) w.deployer (w.ledger ++ set_key_entry a g ∷ [])) p)) (set_key_same site g)
      (refl, record { rest = refl; nodes = h }))

  keys_like : (gs : List Grant) (w v : World) → LikeWorld a.mac nac w v → LikeActed a.mac nac (keys_given a gs w) (keys_given b gs v)
  keys_like [] w v h = (refl, h)
  keys_like (g ∷ gs) w v h =
      subst (λ (z : World). LikeActed a.mac nac (keys_given a (g ∷ gs) w) (keys_given b (g ∷ gs) z)) (sym h.rest)
      (then_like a.mac nac (key_given a w g (slice_get a.sites g.holder)) (key_given b (with_nodes w v.nodes) g (slice_get a.sites g.holder)) (keys_given a gs) (keys_given b gs)
      (key_like w v.nodes g (slice_get a.sites g.holder) h.nodes) (keys_like gs))

  attested_like : (w : World) (ns : List State) (m boot : ℕ) (ask : List ℕ) (last : Option ℕ) → LikeNodes a.mac nac w.nodes ns
      → LikeActed a.mac nac (attested a w m boot ask last) (attested b (with_nodes w ns) m boot ask last)
  attested_like w ns m boot ask last h =
      let d = after_acceptance a.app.links w.deployer m boot last in
      let items = unless_made None (is_made w.ledger (made_entry (maker.Module m) NO_TARGET boot ask [])) (item.Attested m boot) in
      let gs = grants_after a.app d m boot last in
      then_like a.mac nac (only (with_deployer w d w.ledger) items) (only (with_deployer (with_nodes w ns) d w.ledger) items) (keys_given a gs) (keys_given b gs)
      (refl, record { rest = refl; nodes = h }) (keys_like gs)

  if_like : (p : Bool) (x y x2 y2 : Acted) → LikeActed a.mac nac x y → LikeActed a.mac nac x2 y2 → LikeActed a.mac nac (cond p x x2) (cond p y y2)
  if_like true x y x2 y2 h g = h
  if_like false x y x2 y2 h g = g

  verdict_like : (w : World) (ns : List State) (m : ℕ) (site : Site) (boot : ℕ) (answer : List ℕ) (o : Option (List ℕ)) → LikeNodes a.mac nac w.nodes ns
      → LikeActed a.mac nac (after_verdict a w m site boot answer o) (after_verdict b (with_nodes w ns) m site boot answer o)
  verdict_like w ns m site boot answer None h = (refl, record { rest = refl; nodes = h })
  verdict_like w ns m site boot answer (Some ask) h =
      let last = option_flatten (slice_get w.deployer.attested m) in
      let t = accepts a site w.deployer m boot answer (Some ask) last in
      subst (λ (p : Bool). LikeActed a.mac nac (cond t (attested a w m boot ask last) (after_denial w m)) (cond p (attested b (with_nodes w ns) m boot ask last) (after_denial (with_nodes w ns) m)))
      (sym (accepts_same site w.deployer m boot answer (Some ask) last))
      (if_like t (attested a w m boot ask last) (attested b (with_nodes w ns) m boot ask last) (after_denial w m) (after_denial (with_nodes w ns) m) (attested_like w ns m boot ask last h)
      (refl, record { rest = refl; nodes = h }))

  pub answer_like : (w : World) (ns : List State) (m boot : ℕ) (o : Option Site) (p : Option (List ℕ)) → LikeNodes a.mac nac w.nodes ns
      → LikeActed a.mac nac (after_answer a w m boot o p) (after_answer b (with_nodes w ns) m boot o p)
  answer_like w ns m boot None p h = (refl, record { rest = refl; nodes = h })
  answer_like w ns m boot (Some site) None h = (refl, record { rest = refl; nodes = h })
  answer_like w ns m boot (Some site) (Some answer) h = verdict_like w ns m site boot answer (option_flatten (slice_get w.deployer.open_asks m)) h
