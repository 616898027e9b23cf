-- The worlds of the two runs.
use Rattle.std.proofs.Common.{◌≡◌, ℕ, Bool, true, false, inl, inr, List, [], ◌∷◌, ◌++◌, length, Option, Some, None, refl, sym, ◌∙◌, ap, ap₂, subst}
use Rattle.std.specs.Prelude.{slice_get, slice_set}
use Rattle.std.specs.List.{list_any}
use Rattle.std.proofs.lemmas.Bool.{true≢false, cases_eq}
use Rattle.lemmas.proofs.Lists.{get_same}
use Rattle.sx_trace.specs.declared.items.Item.{Item}
use Rattle.sx_tag.specs.Mac.{Mac}
use Rattle.sx_model.specs.Legal.{is_forged}
use Rattle.spec_machine.specs.State.{State}
use Rattle.spec_run.specs.Setting.{Setting}
use Rattle.spec_run.specs.Ledger.{Made}
use Rattle.spec_run.specs.State.{World, Acted}
use Rattle.spec_run.specs.Acts.{then_, with_node, at_node, new_packet}
use Rattle.spec_run.proofs.tie.Lists.{get_other}
use Rattle.law_forgery.proofs.Turns.{AllTurn}
use Rattle.law_connections.specs.LinksUnseen.{upto_forged}
use Rattle.law_connections.proofs.Upto.{Clean, clean_left, clean_right, upto_clean, upto_then, upto_over, any_upto}
use Rattle.law_connections.proofs.Linking.{second}
use Rattle.law_connections.proofs.Between.{SameTurn}
use Rattle.law_connections.proofs.Ledgers.{SameLedger}

module _ (a : Setting) (nac : Mac) (keys : List (List ℕ)) (secret : List ℕ) where
  abbrev b : Setting
  b = second a nac keys secret

  abbrev pub SameAt : ℕ → Option State → Option State → Type 0
  SameAt n None None = Unit {0}
  SameAt n None (Some t) = ⊥
  SameAt n (Some s) None = ⊥
  SameAt n (Some s) (Some t) = SameTurn a nac keys secret n s t

  pub record SameWorld (w v : World) : Type 0 where
    pub nodes : (n : ℕ) → SameAt n (slice_get w.nodes n) (slice_get v.nodes n)
    pub packets : v.packets ≡ w.packets
    pub deployer : v.deployer ≡ w.deployer
    pub lines : v.lines ≡ w.lines
    pub ledger : SameLedger a nac keys secret w.ledger v.ledger

  -- the worlds, in runs
  pub record SameRun (w v : World) : Type 0 where
    pub same : SameWorld w v
    pub first : AllTurn a w
    pub second : AllTurn b v

  -- they show the same up to the first `forged`, and where there is none leave such worlds
  abbrev pub SameActed : Acted → Acted → Type 0
  SameActed x y = (upto_forged y.items ≡ upto_forged x.items) × (Clean x.items → SameRun x.world y.world)

  pub acted_same : (x y : Acted) → y.items ≡ x.items → (Clean x.items → SameRun x.world y.world) → SameActed x y
  acted_same x y e f = (ap upto_forged e, f)

  -- one act after the other
  pub then_same : (x y : Acted) (f g : World → Acted) → SameActed x y → (Clean x.items → SameRun x.world y.world → SameActed (f x.world) (g y.world)) → SameActed (then_ x f) (then_ y g)
  then_same x y f g h next = by (list_any is_forged x.items) refl
    where
      clean_too : (c : Bool) → list_any is_forged x.items ≡ c → list_any is_forged y.items ≡ c
      clean_too c e = sym (any_upto y.items) ∙ ap (list_any is_forged) h.0 ∙ any_upto x.items ∙ e

      by : (c : Bool) → list_any is_forged x.items ≡ c → SameActed (then_ x f) (then_ y g)
      by true e = (
        upto_over y.items (g y.world).items (clean_too true e) ∙ h.0 ∙ sym (upto_over x.items (f x.world).items e),
        λ clean. absurd (true≢false (sym e ∙ clean_left x.items (f x.world).items clean)),
      )
      by false e =
          let rest = next e (h.1 e) in
          let same : y.items ≡ x.items = sym (upto_clean y.items (clean_too false e)) ∙ h.0 ∙ upto_clean x.items e in (
            upto_then y.items (g y.world).items (clean_too false e) ∙ ap₂ (λ (i j : List Item). i ++ j) same rest.0 ∙ sym (upto_then x.items (f x.world).items e),
            λ clean. rest.1 (clean_right x.items (f x.world).items clean),
          )

  -- where there is such a node
  pub at_same : (w v : World) (n : ℕ) (f g : State → Acted) → SameRun w v
      → ((s t : State) → slice_get w.nodes n ≡ Some s → slice_get v.nodes n ≡ Some t → SameTurn a nac keys secret n s t → SameActed (f s) (g t))
      → SameActed (at_node w f (slice_get w.nodes n)) (at_node v g (slice_get v.nodes n))
  at_same w v n f g h next = by (slice_get w.nodes n) (slice_get v.nodes n) refl refl (h.same.nodes n)
    where
      by : (o p : Option State) → slice_get w.nodes n ≡ o → slice_get v.nodes n ≡ p → SameAt n o p → SameActed (at_node w f o) (at_node v g p)
      by None None e d k = (refl, λ clean. h)
      by None (Some t) e d k = absurd k
      by (Some s) None e d k = absurd k
      by (Some s) (Some t) e d k = next s t e d k

  -- a node in another state
  pub with_same : (w v : World) (n : ℕ) (s t s2 t2 : State) (es fs : List Made) (i j : ℕ) → SameWorld w v → slice_get w.nodes n ≡ Some s → slice_get v.nodes n ≡ Some t
      → SameTurn a nac keys secret n s2 t2 → SameLedger a nac keys secret es fs → SameWorld (with_node w n s2 es i) (with_node v n t2 fs j)
  with_same w v n s t s2 t2 es fs i j h here there node ledger = record {
    nodes = at_each;
    packets = h.packets;
    deployer = h.deployer;
    lines = h.lines;
    ledger = ledger;
  }
    where
      at_each : (k : ℕ) → SameAt k (slice_get (slice_set w.nodes n s2) k) (slice_get (slice_set v.nodes n t2) k)
      at_each k = elim (cases_eq k n) [
        | inl e ↦ subst (λ (z : ℕ). SameAt z (slice_get (slice_set w.nodes n s2) z) (slice_get (slice_set v.nodes n t2) z)) (sym e)
            (subst (λ (o : Option State). SameAt n o (slice_get (slice_set v.nodes n t2) n)) (sym (get_same w.nodes n s2 s here))
            (subst (λ (o : Option State). SameAt n (Some s2) o) (sym (get_same v.nodes n t2 t there)) node))
        | inr ne ↦ subst (λ (o : Option State). SameAt k o (slice_get (slice_set v.nodes n t2) k)) (sym (get_other w.nodes n k s2 ne))
            (subst (λ (o : Option State). SameAt k (slice_get w.nodes k) o) (sym (get_other v.nodes n k t2 ne)) (h.nodes k))
      ]

  -- one more packet
  pub packet_same : (w v : World) (bytes : List ℕ) → SameWorld w v
      → ((new_packet v bytes).items ≡ (new_packet w bytes).items) × SameWorld (new_packet w bytes).world (new_packet v bytes).world
  packet_same w v bytes h = (
    ap (λ (p : List (List ℕ)). Rattle.sx_trace.specs.declared.items.Item.TheVariants.Packet (length p) (length bytes) ∷ []) h.packets,
    record { nodes = h.nodes; packets = ap (λ (p : List (List ℕ)). p ++ bytes ∷ []) h.packets; deployer = h.deployer; lines = h.lines; ledger = h.ledger },
  )
