-- What is wrapped with one header is one body: a key's header has the connection and its epoch, and an
-- event's has its number.
use Rattle.std.proofs.Common.{◌≡◌, ℕ, ◌/◌, ◌%◌, inl, inr, true, List, [], ◌∷◌, Some, sym, ◌∙◌, ap, subst, arith}
use Rattle.std.specs.Prelude.{slice_get}
use Rattle.sx_ledger.specs.declared.entry.Maker.{Maker}
use Rattle.sx_ledger.specs.declared.entry.Maker.TheVariants as maker
use Rattle.sx_model.specs.order.State.{Model}
use Rattle.sx_wire.specs.Headers.{set_key_header, is_ask, is_event_header, last_in, value_in}
use Rattle.spec_run.specs.Setting.{Setting}
use Rattle.spec_run.specs.Ledger.{Made}
use Rattle.spec_run.specs.Deployer.{grant_header, connection_key}
use Rattle.spec_run.proofs.tie.Lists.{some_inj}
use Rattle.spec_run.proofs.tie.Tied.{Known, WasSent, place_in}
use Rattle.law_isolation.specs.Happening.{done}
use Rattle.law_forgery.specs.Logged.{IsLogged}
use Rattle.law_forgery.proofs.Accepting.{ask_long}
use Rattle.law_forgery.proofs.Reaching.{lines_form}
use Rattle.law_forgery.proofs.Logging.{AllLogged, done_logged}
use Rattle.law_forgery.proofs.Forgeries.{step_sends, event_long}
use Rattle.law_forgery.proofs.Unmade.{holds}
use Rattle.law_rarity.specs.Once.{PadsOnce}
use Rattle.law_rarity.proofs.Tracking.{tied_then}

-- Two entries with one header.

key_parts : (l e s m f t : ℕ) → set_key_header l e s ≡ set_key_header m f t → (l ≡ m) × (e ≡ f)
key_parts l e s m f t same = (cc same, cc same)

apart : {X : Type 0} (header : List ℕ) → is_ask header ≡ true → is_event_header header ≡ true → X
apart header a e = let l = ask_long header a in let m = event_long header e in absurd (omega (arith, l, m))

value_two : (v : ℕ) → value_in (v % 256 ∷ v / 256 ∷ []) ≡ v
value_two v = omega arith

module _ (set : Setting) (mo : Model) (a b : Made) (header : a.header ≡ b.header) where
  value_same : (m : ℕ) → WasSent set.app m mo.sent a.header a.body → WasSent set.app m mo.sent b.header b.body → value_in a.body ≡ value_in b.body
  value_same m p q =
      let there : Some p.words ≡ Some q.words = sym p.there ∙ ap (λ (h : List ℕ). slice_get mo.sent (place_in h)) header ∙ q.there in
      let words : p.words ≡ q.words = some_inj p.words q.words there in
      some_inj (value_in a.body) (value_in b.body)
      (sym p.word ∙ ap (λ (h : List ℕ). slice_get p.words (last_in h)) header ∙ ap (λ (ws : List ℕ). slice_get ws (last_in b.header)) words ∙ q.word)

  one_body : (x : Maker) → IsLogged set x a → IsLogged set x b → Known set.app mo x a → Known set.app mo x b → a.body ≡ b.body
  one_body maker.Deployer (g, ea) (h, eb) p q =
      let same : grant_header g ≡ grant_header h = sym (ap (λ (e : Made). e.header) ea) ∙ header ∙ ap (λ (e : Made). e.header) eb in
      let parts = key_parts g.«end».link g.epoch _ h.«end».link h.epoch _ same in
      ap (λ (e : Made). e.body) ea ∙ ap (λ (l : ℕ). connection_key set l g.epoch) parts.0 ∙ ap (connection_key set h.«end».link) parts.1 ∙ sym (ap (λ (e : Made). e.body) eb)
  one_body (maker.Module m) (inl x) (inl y) p q = x.1 ∙ sym y.1
  one_body (maker.Module m) (inl x) (inr y) p q = apart b.header (subst (λ (h : List ℕ). is_ask h ≡ true) header x.0) y.0
  one_body (maker.Module m) (inr x) (inl y) p q = apart b.header y.0 (subst (λ (h : List ℕ). is_event_header h ≡ true) header x.0)
  one_body (maker.Module m) (inr x) (inr y) p q =
      let v = x.1.0 in
      let u = y.1.0 in
      let same : v ≡ u = sym (ap value_in x.1.1 ∙ value_two v) ∙ value_same m (p.1 x.0) (q.1 y.0) ∙ ap value_in y.1.1 ∙ value_two u in
      x.1.1 ∙ ap (λ (z : ℕ). z % 256 ∷ z / 256 ∷ []) same ∙ sym y.1.1

pub pads_once : PadsOnce
pads_once set sound lines few form k now at none a b ma mb same =
    let ledger = (done set now.next now.world).world.ledger in
    let h = holds set lines sound k now (lines_form set lines sound form) at (λ j past lt g. none j past (omega (arith, lt)) g) in
    let logged : AllLogged set ledger =
    done_logged set now.world
    (λ n s g m id runs ev. step_sends set lines k now.world n s sound (h.turns n s g) (h.keyed n s g)
    (record { j = k; past = now; early = omega arith; at = at; there = g }) h.logged g m id runs ev) h.logged now.next in
    let t = tied_then set sound lines few form k now at (λ j past le g. none j past (omega (arith, le)) g) in
    one_body set t.0 a b same.3 a.maker (logged a ma)
    (subst (λ (z : Maker). IsLogged set z b) (sym same.0) (logged b mb))
    (t.1.ledger a ma)
    (subst (λ (z : Maker). Known set.app t.0 z b) (sym same.0) (t.1.ledger b mb))
