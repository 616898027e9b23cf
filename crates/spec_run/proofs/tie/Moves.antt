-- What one module's mark changes in the source's state, and what stays.
use Rattle.std.proofs.Common.{◌≡◌, ◌≢◌, ℕ, ◌≤◌, ◌⊎◌, inl, inr, true, false, List, [], ◌++◌, Some, refl, sym, ◌∙◌, ap, subst}
use Rattle.std.specs.Prelude.{slice_get, slice_set, slice_index}
use Rattle.std.proofs.lemmas.Bool.{cases_eq}
use Rattle.sx_mean.specs.declared.apps.Link.{Link}
use Rattle.sx_ledger.specs.declared.entry.Maker.{Maker}
use Rattle.sx_ledger.specs.declared.entry.Maker.TheVariants as maker
use Rattle.spec_invocation.specs.Marks.{Mark, Wrapped, Unwrapped, Sampled, Actuated}
use Rattle.spec_invocation.specs.ModuleState.{link_of, epoch_of}
use Rattle.sx_mean.specs.Application.{PartTree, AppTree}
use Rattle.sx_mean.specs.Ends.{ends_of}
use Rattle.sx_model.specs.State.{Reading}
use Rattle.sx_model.specs.order.State.{Standing, Model}
use Rattle.sx_model.specs.Step.{is_vouched}
use Rattle.spec_run.specs.Setting.{device_number}
use Rattle.spec_run.specs.Ledger.{Made}
use Rattle.spec_run.proofs.tie.Lists.{get_other, get_before, some_inj}
use Rattle.spec_run.proofs.tie.Flows.{Flows}
use Rattle.spec_run.proofs.tie.Tied.{WasSent, Known, IsTimely, HasSent, IsSane}
use Rattle.lemmas.proofs.Lists.{get_same}

-- the readings after a mark
abbrev pub readings_after : AppTree → ℕ → Mark → List Reading → List Reading
readings_after app n (Sampled k v) rs = slice_set rs (device_number app n k) (record { value = v; fresh = false })
readings_after app n (Wrapped header body own) rs = rs
readings_after app n (Unwrapped header body own) rs = rs
readings_after app n (Actuated k v) rs = rs

-- the field of a connection of the module's own
abbrev pub IsOwn : AppTree → ℕ → ℕ → Type 0
IsOwn app m f = (l : Link) × (slice_get app.links (link_of f) ≡ Some l) × (l.from ≡ m)

-- one module's mark
pub record Moved (app : AppTree) (n m : ℕ) (mark : Mark) (x y : Standing) (mo mo' : Model) : Type 0 where
  pub boots : mo'.boots ≡ mo.boots
  pub asks : mo'.asks ≡ mo.asks
  pub epochs : mo'.epochs ≡ mo.epochs
  pub modules : mo'.modules ≡ slice_set mo.modules m y
  pub asked : y.asked ≡ x.asked
  pub attested : y.attested ≡ x.attested
  pub vouched : (a b : ℕ) → is_vouched a b x.vouched ≡ true → is_vouched a b y.vouched ≡ true
  pub devices : mo'.devices ≡ readings_after app n mark mo.devices
  pub sent : Flows (IsOwn app m) mo.sent mo'.sent

module _ (app : AppTree) (n m : ℕ) (mark : Mark) (x y : Standing) (mo mo' : Model) (there : slice_get mo.modules m ≡ Some x) (moved : Moved app n m mark x y mo mo') where
  -- any module before and after
  pub same_module : slice_get mo'.modules m ≡ Some y
  same_module = rw moved.modules (get_same mo.modules m y x there)

  pub other_module : (k : ℕ) → k ≢ m → slice_get mo'.modules k ≡ slice_get mo.modules k
  other_module k ne = rw moved.modules (get_other mo.modules m k y ne)

  -- what a state is like for the ledger
  pub module_moved : (k : ℕ) (z : Standing) → slice_get mo.modules k ≡ Some z
      → (w : Standing) × (slice_get mo'.modules k ≡ Some w) × (w.asked ≡ z.asked) × (w.attested ≡ z.attested) × ((a b : ℕ) → is_vouched a b z.vouched ≡ true → is_vouched a b w.vouched ≡ true)
  module_moved k z e = elim (cases_eq k m) [
    | inl same ↦
        let xz : x ≡ z = some_inj x z (sym there ∙ subst (λ j. slice_get mo.modules j ≡ Some z) same e) in (
          y,
          subst (λ j. slice_get mo'.modules j ≡ Some y) (sym same) same_module,
          moved.asked ∙ ap (λ (s : Standing). s.asked) xz,
          moved.attested ∙ ap (λ (s : Standing). s.attested) xz,
          λ a b h. moved.vouched a b (subst (λ (s : Standing). is_vouched a b s.vouched ≡ true) (sym xz) h),
        )
    | inr ne ↦ (z, other_module k ne ∙ e, refl, refl, λ a b h. h)
  ]

  pub was_sent_moved : (k : ℕ) (header body : List ℕ) → WasSent app k mo.sent header body → WasSent app k mo'.sent header body
  was_sent_moved k header body h =
      let g = moved.sent.grown _ h.words h.there in
      record { sender = h.sender; words = h.words ++ g.0; there = g.1; word = get_before h.words g.0 _ _ h.word }

  pub known_moved : (k : Maker) (e : Made) → Known app mo k e → Known app mo' k e
  known_moved maker.Deployer e h =
      let r = module_moved e.target h.x h.there in
      record {
        x = r.0;
        there = r.1;
        a = h.a;
        attested = r.3 ∙ h.attested;
        older = h.older;
        «end» = h.«end»;
        held = h.held;
        epoch = h.epoch;
        header = h.header;
        floor = h.floor;
        given = subst (λ z. h.epoch ≤ slice_index z h.«end».link) (sym moved.epochs) h.given;
      }
  known_moved (maker.Module k) e h = (
    λ a. let v = h.0 a in let r = module_moved k v.x v.there in record { x = r.0; there = r.1; vouched = r.4 _ _ v.vouched },
    λ a. was_sent_moved k e.header e.body (h.1 a),
  )

  -- the source's own invariant
  pub sane_moved : IsSane app mo
      → ((q : PartTree) (boot : ℕ) → slice_get app.parts m ≡ Some q → slice_get mo.boots q.node ≡ Some boot → IsTimely (ends_of app m) y boot mo.epochs)
      → ((f : ℕ) (l : Link) (q : PartTree) (boot : ℕ) (words : List ℕ) → slice_get app.links (link_of f) ≡ Some l → l.from ≡ m → slice_get app.parts m ≡ Some q → slice_get mo.boots q.node ≡ Some boot
      → slice_get mo'.sent f ≡ Some words → (words ≡ []) ⊎ HasSent (ends_of app m) y boot mo.epochs (link_of f) (epoch_of f))
      → IsSane app mo'
  sane_moved sane t u = record {
    small = λ c. subst (λ es. slice_index es c ≤ 255) (sym moved.epochs) (sane.small c);
    timely = λ k q z boot pk zk bk. subst (λ es. IsTimely (ends_of app k) z boot es) (sym moved.epochs) (elim (cases_eq k m) [
      | inl same ↦
          let yz : y ≡ z = some_inj y z (sym same_module ∙ subst (λ j. slice_get mo'.modules j ≡ Some z) same zk) in
          subst (λ j. IsTimely (ends_of app j) z boot mo.epochs) (sym same)
          (subst (λ s. IsTimely (ends_of app m) s boot mo.epochs) yz (t q boot (subst (λ j. slice_get app.parts j ≡ Some q) same pk) (rw moved.boots at bk)))
      | inr ne ↦ sane.timely k q z boot pk (sym (other_module k ne) ∙ zk) (rw moved.boots at bk)
    ]);
    unsent = λ f l q z boot words lk pk zk bk wk. subst (λ es. (words ≡ []) ⊎ HasSent (ends_of app l.from) z boot es (link_of f) (epoch_of f)) (sym moved.epochs) (elim (cases_eq l.from m) [
      | inl same ↦
          let yz : y ≡ z = some_inj y z (sym same_module ∙ subst (λ j. slice_get mo'.modules j ≡ Some z) same zk) in
          let r = u f l q boot words lk same (subst (λ j. slice_get app.parts j ≡ Some q) same pk) (rw moved.boots at bk) wk in
          elim r [
            | inl e ↦ inl e
            | inr h ↦ inr (subst (λ j. HasSent (ends_of app j) z boot mo.epochs (link_of f) (epoch_of f))
                (sym same) (subst (λ s. HasSent (ends_of app m) s boot mo.epochs (link_of f) (epoch_of f)) yz h))
          ]
      | inr ne ↦
          elim (moved.sent.only f) [
            | inl e ↦ sane.unsent f l q z boot words lk pk (sym (other_module l.from ne) ∙ zk) (rw moved.boots at bk) (sym e ∙ wk)
            | inr own ↦ absurd (ne (sym (ap (λ (k : Link). k.from) (some_inj own.0 l (sym own.1 ∙ lk))) ∙ own.2))
          ]
    ]);
  }
