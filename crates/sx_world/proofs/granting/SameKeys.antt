-- What the program's deployer keeps says what a run knows of it: modules, asks and their answers.
use Rattle.std.proofs.Common.{◌≡◌, ℕ, zero, suc, ◌+◌, ◌<◌, ◌&&◌, ◌||◌, nat_le}
use Rattle.std.proofs.Common.{nat_lt, not, if◌then◌else◌, List, [], ◌∷◌, length, take, get_or}
use Rattle.std.proofs.Common.{Option, Some, None, refl, sym, ap, ◌∙◌, arith}
use Rattle.std.specs.Prelude.{slice_get, slice_set}
use Rattle.std.specs.Option.{option_flatten}
use Rattle.sx_mean.specs.declared.apps.Link.{Link}
use Rattle.sx_mean.specs.Ends.{ends_of}
use Rattle.sx_model.specs.Renewal as model
use Rattle.sx_deployer.specs.Keeping.{Known, Keeping, nobody}
use Rattle.sx_deployer.specs.Keeping as keeping
use Rattle.spec_run.proofs.RenewsAsTheModel.{renews_as_the_model}
use Rattle.spec_run.specs.Setting.{Site, Setting}
use Rattle.sx_wire.specs.Headers.{ask_packet}
use Rattle.sx_deployer.specs.Granting.{DeployerState, after_ask, is_answer}
use Rattle.spec_run.specs.Deployer.{key_of, after_acceptance, accepts}
use Rattle.sx_world.specs.Held.{IsKept, known_as, targets_from}

pub take_set : {A : Type 0} → (n : ℕ) (xs : List A) (i : ℕ) (v : A) → take n (slice_set xs i v) ≡ slice_set (take n xs) i v
take_set zero xs i v = refl
take_set (suc n) [] i v = refl
take_set (suc n) (x ∷ xs) zero v = refl
take_set (suc n) (x ∷ xs) (suc i) v = ap (λ r. x ∷ r) (take_set n xs i v)

asks_taken : (n : ℕ) (xs : List (Option (List ℕ))) (i : ℕ) → i < n → option_flatten (slice_get (take n xs) i) ≡ get_or xs i None
asks_taken zero xs i h = absurd (omega (arith, h))
asks_taken (suc n) [] i h = refl
asks_taken (suc n) (x ∷ xs) zero h = refl
asks_taken (suc n) (x ∷ xs) (suc i) h = asks_taken n xs i (omega (arith, h))

pub boots_taken : (n : ℕ) (xs : List (Option ℕ)) (i : ℕ) → i < n → option_flatten (slice_get (take n xs) i) ≡ get_or xs i None
boots_taken zero xs i h = absurd (omega (arith, h))
boots_taken (suc n) [] i h = refl
boots_taken (suc n) (x ∷ xs) zero h = refl
boots_taken (suc n) (x ∷ xs) (suc i) h = boots_taken n xs i (omega (arith, h))

-- a module's open ask
pub same_ask : (set : Setting) (k : Keeping) (d : DeployerState) (m : ℕ) → IsKept set k d → m < length set.app.parts
    → option_flatten (slice_get d.open_asks m) ≡ keeping.open_ask k m
same_ask set k d m h lt = ap (λ xs. option_flatten (slice_get xs m)) (sym h.open_asks) ∙ asks_taken (length set.app.parts) k.state.open_asks m lt

-- the boot at which a module was last attested
pub same_boot : (set : Setting) (k : Keeping) (d : DeployerState) (m : ℕ) → IsKept set k d → m < length set.app.parts
    → option_flatten (slice_get d.attested m) ≡ keeping.attested_at k m
same_boot set k d m h lt = ap (λ xs. option_flatten (slice_get xs m)) (sym h.attested) ∙ boots_taken (length set.app.parts) k.state.attested m lt

pub known_at : (set : Setting) (sites : List Site) (i m : ℕ) (site : Site) → slice_get sites m ≡ Some site → slice_get (targets_from set i sites) m ≡ Some (known_as set (i + m) site)
known_at set [] i m site e = absurd cc
known_at set (s ∷ sites) i zero site e = ap (λ (o : Option Site). known_of o) e ∙ ap (λ j. Some (known_as set j site)) (omega arith)
  where
    known_of : Option Site → Option Known
    known_of None = None
    known_of (Some s) = Some (known_as set i s)
known_at set (s ∷ sites) i (suc m) site e = known_at set sites (i + 1) m site e ∙ ap (λ j. Some (known_as set j site)) (omega arith)

known_none : (set : Setting) (sites : List Site) (i m : ℕ) → slice_get sites m ≡ None → slice_get (targets_from set i sites) m ≡ None
known_none set [] i m e = refl
known_none set (s ∷ sites) i zero e = absurd cc
known_none set (s ∷ sites) i (suc m) e = known_none set sites (i + 1) m e

-- a module as the deployer knows it
pub known_site : (set : Setting) (k : Keeping) (d : DeployerState) (m : ℕ) (site : Site) → IsKept set k d → slice_get set.sites m ≡ Some site
    → slice_get k.targets m ≡ Some (known_as set m site)
known_site set k d m site h e = ap (λ (xs : List Known). slice_get xs m) h.targets ∙ known_at set set.sites 0 m site e ∙ ap (λ j. Some (known_as set j site)) (omega arith)

-- no module
pub unknown_site : (set : Setting) (k : Keeping) (d : DeployerState) (m : ℕ) → IsKept set k d → slice_get set.sites m ≡ None → slice_get k.targets m ≡ None
unknown_site set k d m h e = ap (λ (xs : List Known). slice_get xs m) h.targets ∙ known_none set set.sites 0 m e

got : (xs : List Known) (m : ℕ) (t : Known) → slice_get xs m ≡ Some t → get_or xs m nobody ≡ t
got xs m t e = (Rattle.std.proofs.lemmas.Option.get_or_from_slice_get xs m t nobody e)

pub known_target : (set : Setting) (k : Keeping) (d : DeployerState) (m : ℕ) (site : Site) → IsKept set k d → slice_get set.sites m ≡ Some site
    → keeping.target_at k m ≡ known_as set m site
known_target set k d m site h e = got k.targets m (known_as set m site) (known_site set k d m site h e)

-- the module is asked
pub asked_kept : (set : Setting) (k : Keeping) (d : DeployerState) (m : ℕ) → IsKept set k d → IsKept set (keeping.asked k m) (after_ask d m)
asked_kept set k d m h = record {
  secret = h.secret;
  targets = h.targets;
  asks = ap (λ n. n + 1) h.asks;
  open_asks = take_set (length set.app.parts) k.state.open_asks m (Some (ask_packet k.state.asks))
      ∙ ap (λ xs. slice_set xs m (Some (ask_packet k.state.asks))) h.open_asks
      ∙ ap (λ n. slice_set d.open_asks m (Some (ask_packet n))) h.asks;
  attested = h.attested;
  epochs = h.epochs;
}

raised_taken : (m : ℕ) (ls : List Link) (es : List ℕ) → take (length ls) (model.raised_epochs m ls es) ≡ model.raised_epochs m ls (take (length ls) es)
raised_taken m [] es = refl
raised_taken m (l ∷ ls) [] = refl
raised_taken m (l ∷ ls) (e ∷ es) = ap (λ (r : List ℕ). (if model.is_of m l then e + 1 else e) ∷ r) (raised_taken m ls es)

renewed_taken : (m : ℕ) (ls : List Link) (last : Option ℕ) (es : List ℕ) → take (length ls) (model.renewed m ls last es) ≡ model.renewed m ls last (take (length ls) es)
renewed_taken m ls None es = refl
renewed_taken m ls (Some b) es = raised_taken m ls es

spent_taken : (m : ℕ) (ls : List Link) (es : List ℕ) → model.is_spent m ls (take (length ls) es) ≡ model.is_spent m ls es
spent_taken m [] es = refl
spent_taken m (l ∷ ls) [] = refl
spent_taken m (l ∷ ls) (e ∷ es) = ap (λ t. (model.is_of m l && nat_le 255 e) || t) (spent_taken m ls es)

may_taken : (m : ℕ) (ls : List Link) (es : List ℕ) (last : Option ℕ) (boot : ℕ) → model.may_attest m ls (take (length ls) es) last boot ≡ model.may_attest m ls es last boot
may_taken m ls es None boot = refl
may_taken m ls es (Some b) boot = ap (λ t. nat_lt b boot && not t) (spent_taken m ls es)

-- an answer was accepted
pub accepted_kept : (set : Setting) (k : Keeping) (d : DeployerState) (m boot : ℕ) (site : Site) (last : Option ℕ) → IsKept set k d
    → slice_get set.sites m ≡ Some site → last ≡ keeping.attested_at k m
    → IsKept set (keeping.accepted k m boot) (after_acceptance set.app.links d m boot last)
accepted_kept set k d m boot site last h e same = record {
  secret = h.secret;
  targets = h.targets;
  asks = h.asks;
  open_asks = take_set (length set.app.parts) k.state.open_asks m None ∙ ap (λ xs. slice_set xs m None) h.open_asks;
  attested = take_set (length set.app.parts) k.state.attested m (Some boot) ∙ ap (λ xs. slice_set xs m (Some boot)) h.attested;
  epochs = ap (λ (t : Known). take (length set.app.links) (keeping.renewed t.ends (keeping.attested_at k m) k.state.epochs)) (known_target set k d m site h e)
      ∙ ap (λ (es : List ℕ). take (length set.app.links) es) (renews_as_the_model set.app m (keeping.attested_at k m) boot k.state.epochs).1
      ∙ renewed_taken m set.app.links (keeping.attested_at k m) k.state.epochs
      ∙ ap (λ (es : List ℕ). model.renewed m set.app.links (keeping.attested_at k m) es) h.epochs
      ∙ ap (λ o. model.renewed m set.app.links o d.epochs) (sym same);
}

-- whether an answer is accepted
pub same_accepts : (set : Setting) (k : Keeping) (d : DeployerState) (m boot : ℕ) (answer : List ℕ) (site : Site) (ask : Option (List ℕ)) (last : Option ℕ) → IsKept set k d
    → slice_get set.sites m ≡ Some site → ask ≡ keeping.open_ask k m → last ≡ keeping.attested_at k m
    → accepts set site d m boot answer ask last ≡ keeping.accepts set.mac k m boot answer
same_accepts set k d m boot answer site ask last h e asks boots =
    ap (λ t. is_answer set.mac (key_of set site boot) answer ask && t)
    (ap (λ (es : List ℕ). model.may_attest m set.app.links es last boot) (sym h.epochs)
    ∙ may_taken m set.app.links k.state.epochs last boot
    ∙ sym (renews_as_the_model set.app m last boot k.state.epochs).0)
    ∙ ap (λ o. is_answer set.mac (key_of set site boot) answer o && keeping.may_attest (ends_of set.app m) k.state.epochs last boot) asks
    ∙ ap (λ o. is_answer set.mac (key_of set site boot) answer (keeping.open_ask k m) && keeping.may_attest (ends_of set.app m) k.state.epochs o boot) boots
    ∙ sym (ap (λ (t : Known). is_answer set.mac (keeping.key_of set.mac t boot) answer (keeping.open_ask k m)
    && keeping.may_attest t.ends k.state.epochs (keeping.attested_at k m) boot) (known_target set k d m site h e))
