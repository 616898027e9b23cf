-- The deployer does the same where its uses have the same answers.
use Rattle.std.proofs.Common.{◌≡◌, ℕ, Bool, true, false, cond, ◌&&◌, bytes_eq, List, [], ◌∷◌, ◌++◌, take, length, Option, Some, None, refl, sym, ◌∙◌, ap, subst}
use Rattle.std.specs.Prelude.{slice_get}
use Rattle.std.specs.Option.{option_flatten}
use Rattle.sx_trace.specs.declared.items.Item.TheVariants as item
use Rattle.sx_ledger.specs.declared.entry.Maker.TheVariants as maker
use Rattle.sx_tag.specs.Mac.{Mac}
use Rattle.sx_tag.specs.Wrap.{crypt, wrap_tag, Wrapped, wrapped}
use Rattle.spec_machine.specs.State.{State}
use Rattle.sx_model.specs.Renewal.{may_attest}
use Rattle.spec_run.specs.Setting.{Setting, Site}
use Rattle.sx_ledger.specs.Made.{Made, NO_TARGET}
use Rattle.spec_run.specs.Ledger.{made_entry, is_made}
use Rattle.sx_deployer.specs.Granting.{DeployerState, Grant, grants_after}
use Rattle.spec_run.specs.Deployer.{key_of, accepts, after_acceptance, connection_key, grant_header, set_key, set_key_entry}
use Rattle.spec_run.specs.State.{World, Acted}
use Rattle.spec_run.specs.Observation.{unless_made}
use Rattle.spec_run.specs.Acts.{only, new_packet, with_deployer, key_given, keys_given, attested, after_denial, after_verdict, after_answer}
use Rattle.law_isolation.proofs.Acting.{with_nodes}
use Rattle.law_forgery.specs.Tags.{rekeyed}
use Rattle.law_forgery.proofs.Granting.{LikeNodes, LikeWorld, LikeActed, then_like}
use Rattle.law_uses.specs.Uses.{Use, Tries, SameUse, SameUses, module_holder, grant_uses, grants_uses, verdict_uses, answer_uses}
use Rattle.law_uses.proofs.Asking.{N, wrapped_given}

pub same_parts : (a b : Setting) (us vs : List Use) → SameUses a b (us ++ vs) → SameUses a b us × SameUses a b vs
same_parts a b [] vs h = (tt, h)
same_parts a b (x ∷ us) vs h = let r = same_parts a b us vs h.1 in ((h.0, r.0), r.1)

-- the tag that answers an ask
pub asked_tag : (mac : Mac) (key ask : List ℕ) → (wrapped mac key ask []).tag ≡ take 16 (mac key (0x54 ∷ length ask ∷ (ask ++ [])))
unfolding crypt wrap_tag
asked_tag mac key ask = refl

module _ (a : Setting) (nac : Mac) (keys : List (List ℕ)) (secret : List ℕ)
    (links : (link epoch : ℕ) → connection_key a link epoch ≡ connection_key (rekeyed a nac keys secret) link epoch) where
  abbrev b : Setting
  b = rekeyed a nac keys secret

  abbrev Like : Acted → Acted → Type 0
  Like x y = LikeActed N N x y

  accepts_same : (site : Site) (d : DeployerState) (m boot : ℕ) (answer ask : List ℕ) (last : Option ℕ) → SameUse a b (Tries (module_holder site boot) 0x54 (length ask ∷ (ask ++ [])) answer)
      → accepts b site d m boot answer (Some ask) last ≡ accepts a site d m boot answer (Some ask) last
  accepts_same site d m boot answer ask last h =
      ap (λ (t : Bool). t && may_attest m a.app.links d.epochs last boot)
      (ap (bytes_eq answer) (asked_tag b.mac (key_of b site boot) ask) ∙ sym h ∙ sym (ap (bytes_eq answer) (asked_tag a.mac (key_of a site boot) ask)))

  entry_same : (g : Grant) → set_key_entry a g ≡ set_key_entry b g
  entry_same g = ap (made_entry maker.Deployer g.holder g.boot (grant_header g)) (links g.«end».link g.epoch)

  set_key_same : (site : Site) (g : Grant) → SameUses a b (grant_uses a g (Some site)) → set_key a site g ≡ set_key b site g
  set_key_same site g h =
      ap (λ (w : Wrapped). grant_header g ++ w.cipher ++ w.tag)
      (wrapped_given a b (module_holder site g.boot) (grant_header g) (connection_key a g.«end».link g.epoch) h
      ∙ ap (λ (k : List ℕ). wrapped b.mac (key_of b site g.boot) (grant_header g) k) (links g.«end».link g.epoch))

  key_at : (w : World) (ns : List State) (g : Grant) (o : Option Site) → LikeNodes N N w.nodes ns → SameUses a b (grant_uses a g o) → Like (key_given a w g o) (key_given b (with_nodes w ns) g o)
  key_at w ns g None h u = (refl, record { rest = refl; nodes = h })
  key_at w ns g (Some site) h u =
      subst (λ (e : Made). Like (key_given a w g (Some site)) (new_packet (with_deployer (with_nodes w ns) w.deployer (w.ledger ++ e ∷ [])) (set_key b site g))) (entry_same g)
      (subst (λ (p : List ℕ). Like (key_given a w g (Some site)) (new_packet (with_deployer (with_nodes w ns) w.deployer (w.ledger ++ set_key_entry a g ∷ [])) p)) (set_key_same site g u)
      (refl, record { rest = refl; nodes = h }))

  keys_at : (gs : List Grant) → SameUses a b (grants_uses a gs) → (w v : World) → LikeWorld N N w v → Like (keys_given a gs w) (keys_given b gs v)
  keys_at [] u w v h = (refl, h)
  keys_at (g ∷ gs) u w v h =
      let p = same_parts a b (grant_uses a g (slice_get a.sites g.holder)) (grants_uses a gs) u in
      subst (λ (z : World). Like (keys_given a (g ∷ gs) w) (keys_given b (g ∷ gs) z)) (sym h.rest)
      (then_like N N (key_given a w g (slice_get a.sites g.holder)) (key_given b (with_nodes w v.nodes) g (slice_get a.sites g.holder)) (keys_given a gs) (keys_given b gs)
      (key_at w v.nodes g (slice_get a.sites g.holder) h.nodes p.0) (keys_at gs p.1))

  attested_at : (w : World) (ns : List State) (m boot : ℕ) (ask : List ℕ) (last : Option ℕ) → LikeNodes N N w.nodes ns
      → SameUses a b (grants_uses a (grants_after a.app (after_acceptance a.app.links w.deployer m boot last) m boot last))
      → Like (attested a w m boot ask last) (attested b (with_nodes w ns) m boot ask last)
  attested_at w ns m boot ask last h u =
      let d = after_acceptance a.app.links w.deployer m boot last in
      let items = unless_made None (is_made w.ledger (made_entry (maker.Module m) NO_TARGET boot ask [])) (item.Attested m boot) in
      let gs = grants_after a.app d m boot last in
      then_like N N (only (with_deployer w d w.ledger) items) (only (with_deployer (with_nodes w ns) d w.ledger) items) (keys_given a gs) (keys_given b gs)
      (refl, record { rest = refl; nodes = h }) (keys_at gs u)

  if_at : (p : Bool) (us : List Use) (x y x2 y2 : Acted) → SameUses a b (cond p us []) → (SameUses a b us → Like x y) → Like x2 y2 → Like (cond p x x2) (cond p y y2)
  if_at true us x y x2 y2 u h g = h u
  if_at false us x y x2 y2 u h g = g

  verdict_at : (w : World) (ns : List State) (m : ℕ) (site : Site) (boot : ℕ) (answer : List ℕ) (o : Option (List ℕ)) → LikeNodes N N w.nodes ns → SameUses a b (verdict_uses a w m site boot answer o)
      → Like (after_verdict a w m site boot answer o) (after_verdict b (with_nodes w ns) m site boot answer o)
  verdict_at w ns m site boot answer None h u = (refl, record { rest = refl; nodes = h })
  verdict_at w ns m site boot answer (Some ask) h u =
      let last = option_flatten (slice_get w.deployer.attested m) in
      let t = accepts a site w.deployer m boot answer (Some ask) last in
      let us = grants_uses a (grants_after a.app (after_acceptance a.app.links w.deployer m boot last) m boot last) in
      subst (λ (p : Bool). Like (cond t (attested a w m boot ask last) (after_denial w m)) (cond p (attested b (with_nodes w ns) m boot ask last) (after_denial (with_nodes w ns) m)))
      (sym (accepts_same site w.deployer m boot answer ask last u.0))
      (if_at t us (attested a w m boot ask last) (attested b (with_nodes w ns) m boot ask last) (after_denial w m) (after_denial (with_nodes w ns) m) u.1 (attested_at w ns m boot ask last h)
      (refl, record { rest = refl; nodes = h }))

  pub answer_at : (w : World) (ns : List State) (m boot : ℕ) (o : Option Site) (p : Option (List ℕ)) → LikeNodes N N w.nodes ns → SameUses a b (answer_uses a w m boot o p)
      → Like (after_answer a w m boot o p) (after_answer b (with_nodes w ns) m boot o p)
  answer_at w ns m boot None p h u = (refl, record { rest = refl; nodes = h })
  answer_at w ns m boot (Some site) None h u = (refl, record { rest = refl; nodes = h })
  answer_at w ns m boot (Some site) (Some answer) h u = verdict_at w ns m site boot answer (option_flatten (slice_get w.deployer.open_asks m)) h u
