-- An invocation as the source sees it: it is refused, or it begins with a mark that the source may allow and does what is then owed.
use Rattle.std.proofs.Common.{◌≡◌, ℕ, zero, suc, ◌+◌, ◌*◌, ◌/◌, ◌<◌, ◌≤◌, ◌⊎◌, inl, inr, ◌==◌}
use Rattle.std.proofs.Common.{◌&&◌, ◌||◌, not, Bool, true, false, if◌then◌else◌, List, [], ◌∷◌}
use Rattle.std.proofs.Common.{length, take, Option, Some, None, Result, Ok, Err, refl, sym, ◌∙◌, ap}
use Rattle.std.proofs.Common.{subst, arith}
use Rattle.std.specs.Prelude.{slice_index, nat_lt, nat_le}
use Rattle.std.proofs.lemmas.Bool.{and_parts, and_from, or_parts, not-false, eqb-true, eqb-false, ltb-true, ltb-false}
use Rattle.sx_lang.specs.declared.sides.Side.{Side}
use Rattle.sx_lang.specs.declared.sides.Side.TheVariants.{From, To}
use Rattle.sx_mean.specs.declared.events.End.{End}
use Rattle.sx_mean.specs.declared.events.SourceEvent.{SourceEvent}
use Rattle.sx_mean.specs.declared.events.SourceEvent.TheVariants as event
use Rattle.sx_mean.specs.Application.{declared_kind, PartTree, AppTree}
use Rattle.sx_mean.specs.React.{react}
use Rattle.sx_rules.specs.declared.access.Violation.{Violation}
use Rattle.sx_rules.specs.declared.access.Violation.TheVariants as bad
use Rattle.sx_rules.specs.declared.access.Access.TheVariants.{Read}
use Rattle.sx_rules.specs.Access.{may}
use Rattle.sx_bus.specs.declared.devices.Window.{Window}
use Rattle.sx_bus.specs.Devices.{device_at, cleared}
use Rattle.sx_tag.specs.Wrap.{wrapped}
use Rattle.spec_invocation.specs.Setup.{Setup, Call}
use Rattle.spec_invocation.specs.Entries.{input, end_found, side_of, end_on, is_kind, received, is_keyed}
use Rattle.spec_invocation.specs.Entries.{key_opened, set_key_at, set_key, attest, event_opened}
use Rattle.spec_invocation.specs.Entries.{event_numbered, input_at, sample_read, sample_of, sample}
use Rattle.spec_invocation.specs.ModuleState.{ModuleState, end_of, with_end, epoch_of, link_of}
use Rattle.spec_invocation.specs.Marks.{Mark, Wrapped, Unwrapped, Sampled}
use Rattle.spec_invocation.specs.Windows.{read_byte, read_bytes, unless_device, write_bytes, then_}
use Rattle.spec_invocation.specs.Progress.{Progress, Invoked, Returns, Violates, Course, finished, marks_in}
use Rattle.spec_invocation.specs.Acts.{copied_to, with_acts, handled, own_window}
use Rattle.spec_invocation.specs.Invocation.{returns_inside, is_sensor_driver, is_no_entry, has_bad_windows, entered, invoke}
use Rattle.sx_mean.specs.Ends.{ends_of}
use Rattle.sx_model.specs.State.{EndView}
use Rattle.sx_model.specs.Reaction.{Flow}
use Rattle.sx_model.specs.order.Reaction.{flow_of, from_emit}
use Rattle.sx_wire.specs.Headers.{begins, is_ask, is_set_key_header, value_in}
use Rattle.sx_wire.proofs.Fields.{field_low}
use Rattle.spec_run.specs.Observation.{side_in}
use Rattle.spec_run.proofs.tie.Ends.{renumbered, takes_at, found_at}
use Rattle.spec_run.proofs.tie.Tied.{SameEnds, Settles, idle_with, Reacts, OwnSensor, Begun, Refuses, Breaks, Opens, Vouches, Takes, Samples, shapes}
use Rattle.spec_run.proofs.steps.Sends.{Emits, event_owed}
use Rattle.spec_machine.proofs.Devices.{cleared_shapes}

-- Packets as they are read.

pub bound_bytes : (k : ℕ) (o : Option ℕ) (x : ℕ) (b : ℕ) → unless_device o x ≡ Ok b → x ≡ b
bound_bytes k None x b e = cc
bound_bytes k (Some d) x b e = absurd cc

pub record Bytes (n : ℕ) (bs : List ℕ) : Type 0 where
  pub long : length bs ≡ n
  pub small : (i : ℕ) → slice_index bs i < 256

read_one : (s : Setup) (devices : List Window) (mem : List ℕ) (at b : ℕ) → ((k : ℕ) → slice_index mem k < 256) → read_byte s devices mem at ≡ Ok b → b < 256
unfolding read_byte
read_one s devices mem at b small e = one_if (may s.live s.section.id Read at) e
  where
    one_if : (t : Bool) → (if t then unless_device (device_at devices at) (slice_index mem at) else Err bad.Read) ≡ Ok b → b < 256
    one_if true e = subst (λ x. x < 256) (bound_bytes at (device_at devices at) (slice_index mem at) b e) (small at)
    one_if false e = absurd cc

cons_bytes : (n b : ℕ) (bs : List ℕ) → b < 256 → Bytes n bs → Bytes (suc n) (b ∷ bs)
cons_bytes n b bs lt h = record { long = ap suc h.long; small = small }
  where
    small : (i : ℕ) → slice_index (b ∷ bs) i < 256
    small zero = lt
    small (suc i) = h.small i

pub read_all : (s : Setup) (devices : List Window) (mem : List ℕ) (small : (k : ℕ) → slice_index mem k < 256) (n at : ℕ) (bs : List ℕ) → read_bytes s devices mem at n ≡ Ok bs → Bytes n bs
unfolding read_bytes
read_all s devices mem small zero at bs e = let same : [] ≡ bs = cc in subst (λ z. Bytes 0 z) same (record { long = refl; small = λ i. omega arith })
read_all s devices mem small (suc n) at bs e = first (read_byte s devices mem at) refl (read_bytes s devices mem (at + 1) n) (read_all s devices mem small n (at + 1)) e
  where
    last : (b : ℕ) → b < 256 → (r : Result (List ℕ) Violation) → ((xs : List ℕ) → r ≡ Ok xs → Bytes n xs) → then_ r (λ xs. Ok (b ∷ xs)) ≡ Ok bs → Bytes (suc n) bs
    last b lt (Err v) f e = absurd cc
    last b lt (Ok xs) f e = let same : b ∷ xs ≡ bs = cc in subst (λ z. Bytes (suc n) z) same (cons_bytes n b xs lt (f xs refl))

    first : (r : Result ℕ Violation) → read_byte s devices mem at ≡ r → (r2 : Result (List ℕ) Violation) → ((xs : List ℕ) → r2 ≡ Ok xs → Bytes n xs)
        → then_ r (λ b. then_ r2 (λ xs. Ok (b ∷ xs))) ≡ Ok bs → Bytes (suc n) bs
    first (Err v) q r2 f e = absurd cc
    first (Ok b) q r2 f e = last b (read_one s devices mem at b small q) r2 f e

value_two : (body : List ℕ) → value_in (take 2 body) ≡ slice_index body 0 + 256 * slice_index body 1
value_two [] = refl
value_two (a ∷ []) = refl
value_two (a ∷ b ∷ body) = refl

high_field : (c d : ℕ) → c < 256 → (c + 256 * d) / 256 ≡ d
high_field c d h = omega arith

tail_same : (mark : Mark) (xs ys all : List Mark) → all ≡ mark ∷ xs → all ≡ mark ∷ ys → xs ≡ ys
tail_same mark xs ys all a b = cc

kind_parts : (kind a b : ℕ) (rest : List ℕ) → is_kind kind (a ∷ b ∷ rest) ≡ true → (a ≡ kind) × (b ≡ 0)
kind_parts kind a b rest h = let p = and_parts (a == kind) (b == 0) h in (eqb-true a kind p.0, eqb-true b 0 p.1)

module _ (app : AppTree) (m n : ℕ) (q : PartTree) (s : Setup) (c : Call) (st : ModuleState) (mem : List ℕ) (devices : List Window) (few : length app.links ≤ 256)
    (ends_same : s.ends ≡ ends_of app m) (tree_same : s.tree ≡ q.tree) (small : (k : ℕ) → slice_index mem k < 256)
    (views0 : List EndView) (sent0 : List (List ℕ)) (same0 : SameEnds (ends_of app m) st.ends views0 sent0)
    (emits : (d : List Window) → shapes d ≡ shapes devices → (e : SourceEvent) (cells : List ℕ) → Emits app n q s d (react q.tree e cells).acts)
    (sensor : is_sensor_driver (declared_kind s.tree.decls) ≡ true → (k : ℕ) × (w : Window) × (own_window s devices ≡ Some (k, w)) × OwnSensor app n q devices k w) where
  abbrev p0 : Progress
  p0 = record { state = st; mem = mem; devices = devices; marks = []; pieces = [] }

  abbrev Tells : Invoked → Type 0
  Tells r = Begun app n m q devices st (marks_in r) r

  tells_if : (b : Bool) (x y : Invoked) → (b ≡ true → Tells x) → (b ≡ false → Tells y) → Tells (if b then x else y)
  tells_if true x y f g = f refl
  tells_if false x y f g = g refl

  refused : (status : ℕ) → nat_le 2 status ≡ true → nat_le status 8 ≡ true → (status ≡ 8 → ⊥) → Tells (Returns status p0)
  refused status lo hi ne = Refuses lo hi refl refl (λ e. absurd (ne e))

  tells_vouch : (ask : List ℕ) (r : Result (List ℕ) Violation) (piece : List ℕ) → is_ask ask ≡ true
      → Tells (finished (copied_to r (record { state = st; mem = mem; devices = devices; marks = Wrapped ask [] true ∷ []; pieces = piece ∷ [] })))
  tells_vouch ask (Ok mem2) piece h = Vouches ask h (refl, refl, refl)
  tells_vouch ask (Err v) piece h = Vouches ask h tt

  -- an event under way: what follows its mark is what the source then owes
  abbrev after : Mark → ModuleState → SourceEvent → List Window → Course
  after mark st1 e d = with_acts s c (react q.tree e st1.cells).acts
      (record {
        state = record { cells = (react q.tree e st1.cells).cells; ends = st1.ends };
        mem = mem;
        devices = d;
        marks = mark
            ∷ [];
        pieces = [];
      })

  abbrev flow : SourceEvent → ModuleState → List EndView → List (List ℕ) → Flow
  flow e st1 views sent = flow_of q.tree (ends_of app m) e (idle_with st1.cells views) sent

  owed : (mark : Mark) (st1 : ModuleState) (e : SourceEvent) (d : List Window) → shapes d ≡ shapes devices
      → (views : List EndView) (sent : List (List ℕ)) → SameEnds (ends_of app m) st1.ends views sent
      → (ms : List Mark) × (marks_in (finished (after mark st1 e d)) ≡ mark ∷ ms)
      × Settles app n m q.device (react q.tree e st1.cells).cells views (flow e st1 views sent).sent (flow e st1 views sent).pieces (finished (after mark st1 e d)) ms (from_emit (react q.tree e st1.cells).acts)
  owed mark st1 e d sh views sent same =
      event_owed app m n q s c (react q.tree e st1.cells).cells views few d ends_same (react q.tree e st1.cells).acts
      (record {
        state = record { cells = (react q.tree e st1.cells).cells; ends = st1.ends };
        mem = mem;
        devices = d;
        marks = mark
            ∷ [];
        pieces = [];
      }) sent (emits d sh e st1.cells) same refl refl refl

  reacts : (mark : Mark) (st1 : ModuleState) (e : SourceEvent) (d : List Window) → shapes d ≡ shapes devices
      → (views1 : List EndView) (sent1 : List (List ℕ)) → SameEnds (ends_of app m) st1.ends views1 sent1
      → (ms : List Mark) × (marks_in (finished (after mark st1 e d)) ≡ mark ∷ ms) × Reacts app n m q st1 e (finished (after mark st1 e d)) ms
  reacts mark st1 e d sh views1 sent1 same1 =
      let one = owed mark st1 e d sh views1 sent1 same1 in (
        one.0,
        one.1,
        λ views sent same.
            let o = owed mark st1 e d sh views sent same in
            subst (λ ms. Settles app n m q.device (react q.tree e st1.cells).cells views (flow e st1 views sent).sent
            (flow e st1 views sent).pieces (finished (after mark st1 e d)) ms (from_emit (react q.tree e st1.cells).acts))
            (tail_same mark o.0 one.0 (marks_in (finished (after mark st1 e d))) o.1 one.1) o.2,
      )

  handled_after : (mark : Mark) (st1 : ModuleState) (e : SourceEvent) (d : List Window)
      → handled s c e (record { state = st1; mem = mem; devices = d; marks = mark ∷ []; pieces = [] }) ≡ after mark st1 e d
  unfolding handled
  handled_after mark st1 e d = ap (λ t. with_acts s c (react t e st1.cells).acts
      (record { state = record { cells = (react t e st1.cells).cells; ends = st1.ends }; mem = mem; devices = d; marks = mark ∷ []; pieces = [] }))
      tree_same

  -- Entry 0.

  side_cases : (k : ℕ) → (side_of k ≡ None) ⊎ ((k ≡ 0) ⊎ (k ≡ 1))
  side_cases zero = inr (inl refl)
  side_cases (suc zero) = inr (inr refl)
  side_cases (suc (suc k)) = inl refl

  opened_key : (side e0 : ℕ) (t : Side) (cc0 d : ℕ) (rest : List ℕ) (e : ℕ × End) (o : Option (List ℕ))
      → cc0 < 256 → is_set_key_header (1 ∷ 0 ∷ cc0 ∷ d ∷ e0 ∷ 0 ∷ []) ≡ true → side_in (1 ∷ 0 ∷ cc0 ∷ d ∷ e0 ∷ 0 ∷ []) ≡ t
      → end_found cc0 t 0 (ends_of app m) ≡ Some e → is_keyed (end_of st.ends e.0) (cc0 + 256 * d) ≡ false
      → Tells (key_opened e.0 (1 ∷ 0 ∷ cc0 ∷ d ∷ e0 ∷ 0 ∷ rest) o p0)
  opened_key side e0 t cc0 d rest e None lt isk is_t found nk = refused 7 refl refl (λ x. absurd (omega (arith, x)))
  opened_key side e0 t cc0 d rest e (Some body) lt isk is_t found nk =
      let header = 1 ∷ 0 ∷ cc0 ∷ d ∷ e0 ∷ 0 ∷ [] in
      Opens e.0 e.1 header (take 16 body) isk (subst (λ z. end_found cc0 z 0 (ends_of app m) ≡ Some e) (sym is_t) found)
      lt (λ op. below op) refl refl
    where
      below : (end_of st.ends e.0).is_open ≡ true → epoch_of (end_of st.ends e.0).field < d
      below op =
          let x = end_of st.ends e.0 in
          let a : not (nat_lt (epoch_of x.field) (epoch_of (cc0 + 256 * d))) ≡ false = sym (ap (λ b. b && not (nat_lt (epoch_of x.field) (epoch_of (cc0 + 256 * d)))) op) ∙ nk in
          let b = ltb-true (epoch_of x.field) (epoch_of (cc0 + 256 * d)) (not-false (nat_lt (epoch_of x.field) (epoch_of (cc0 + 256 * d))) a) in
          omega (arith, b, high_field cc0 d lt)

  found_key : (e0 : ℕ) (t : Side) (cc0 d : ℕ) (rest : List ℕ) (o : Option (ℕ × End)) → cc0 < 256
      → is_set_key_header (1 ∷ 0 ∷ cc0 ∷ d ∷ e0 ∷ 0 ∷ []) ≡ true → side_in (1 ∷ 0 ∷ cc0 ∷ d ∷ e0 ∷ 0 ∷ []) ≡ t
      → end_found cc0 t 0 (ends_of app m) ≡ o → Tells (set_key_at s (1 ∷ 0 ∷ cc0 ∷ d ∷ e0 ∷ 0 ∷ rest) o p0)
  found_key e0 t cc0 d rest None lt isk is_t found = refused 5 refl refl (λ x. absurd (omega (arith, x)))
  found_key e0 t cc0 d rest (Some e) lt isk is_t found =
      tells_if (is_keyed (end_of st.ends e.0) (cc0 + 256 * d)) _ _ (λ _. refused 5 refl refl (λ x. absurd (omega (arith, x))))
      (λ nk. opened_key 0 e0 t cc0 d rest e _ lt isk is_t found nk)

  same_found : (cc0 d : ℕ) (t : Side) → cc0 < 256 → end_found (link_of (cc0 + 256 * d)) t 0 s.ends ≡ end_found cc0 t 0 (ends_of app m)
  same_found cc0 d t lt = ap (λ k. end_found k t 0 s.ends) (field_low cc0 d lt) ∙ ap (λ z. end_found cc0 t 0 z) ends_same

  key_literal : (e0 : ℕ) (t : Side) (cc0 d : ℕ) (rest : List ℕ) → cc0 < 256 → is_set_key_header (1 ∷ 0 ∷ cc0 ∷ d ∷ e0 ∷ 0 ∷ []) ≡ true → side_in (1 ∷ 0 ∷ cc0 ∷ d ∷ e0 ∷ 0 ∷ []) ≡ t
      → Tells (set_key_at s (1 ∷ 0 ∷ cc0 ∷ d ∷ e0 ∷ 0 ∷ rest) (end_found (link_of (cc0 + 256 * d)) t 0 s.ends) p0)
  key_literal e0 t cc0 d rest lt isk is_t =
      subst (λ o. Tells (set_key_at s (1 ∷ 0 ∷ cc0 ∷ d ∷ e0 ∷ 0 ∷ rest) o p0)) (sym (same_found cc0 d t lt)) (found_key e0 t cc0 d rest (end_found cc0 t 0 (ends_of app m)) lt isk is_t refl)

  tells_key : (a b cc0 d e f : ℕ) (rest : List ℕ) → a ≡ 1 → b ≡ 0 → cc0 < 256 → Tells (set_key s (a ∷ b ∷ cc0 ∷ d ∷ e ∷ f ∷ rest) p0)
  tells_key a b cc0 d e f rest one zero0 lt =
      elim (side_cases (e + 256 * f)) [
        | inl none ↦ subst (λ o. Tells (set_key_at s (a ∷ b ∷ cc0 ∷ d ∷ e ∷ f ∷ rest) (end_on (link_of (cc0 + 256 * d)) s.ends o) p0)) (sym none) (refused 5 refl refl (λ x. absurd (omega (arith, x))))
        | inr k ↦ elim k [
          | inl z ↦
              let ez : e ≡ 0 = omega (arith, z) in
              let fz : f ≡ 0 = omega (arith, z) in
              subst (λ a. Tells (set_key s (a ∷ b ∷ cc0 ∷ d ∷ e ∷ f ∷ rest) p0)) (sym one)
              (subst (λ b. Tells (set_key s (1 ∷ b ∷ cc0 ∷ d ∷ e ∷ f ∷ rest) p0)) (sym zero0)
              (subst (λ e. Tells (set_key s (1 ∷ 0 ∷ cc0 ∷ d ∷ e ∷ f ∷ rest) p0)) (sym ez)
              (subst (λ f. Tells (set_key s (1 ∷ 0 ∷ cc0 ∷ d ∷ 0 ∷ f ∷ rest) p0)) (sym fz)
              (key_literal 0 From cc0 d rest lt refl refl))))
          | inr o ↦
              let eo : e ≡ 1 = omega (arith, o) in
              let fz : f ≡ 0 = omega (arith, o) in
              subst (λ a. Tells (set_key s (a ∷ b ∷ cc0 ∷ d ∷ e ∷ f ∷ rest) p0)) (sym one)
              (subst (λ b. Tells (set_key s (1 ∷ b ∷ cc0 ∷ d ∷ e ∷ f ∷ rest) p0)) (sym zero0)
              (subst (λ e. Tells (set_key s (1 ∷ 0 ∷ cc0 ∷ d ∷ e ∷ f ∷ rest) p0)) (sym eo)
              (subst (λ f. Tells (set_key s (1 ∷ 0 ∷ cc0 ∷ d ∷ 1 ∷ f ∷ rest) p0)) (sym fz)
              (key_literal 1 To cc0 d rest lt refl refl))))
        ]
      ]

  six_key : (packet : List ℕ) → Bytes 38 packet → is_kind 1 packet ≡ true → Tells (set_key s packet p0)
  six_key [] h k = absurd (omega (arith, h.long))
  six_key (a ∷ []) h k = absurd (omega (arith, h.long))
  six_key (a ∷ b ∷ []) h k = absurd (omega (arith, h.long))
  six_key (a ∷ b ∷ x ∷ []) h k = absurd (omega (arith, h.long))
  six_key (a ∷ b ∷ x ∷ d ∷ []) h k = absurd (omega (arith, h.long))
  six_key (a ∷ b ∷ x ∷ d ∷ e ∷ []) h k = absurd (omega (arith, h.long))
  six_key (a ∷ b ∷ x ∷ d ∷ e ∷ f ∷ rest) h k =
      let p = kind_parts 1 a b (x ∷ d ∷ e ∷ f ∷ rest) k in tells_key a b x d e f rest p.0 p.1 (h.small 2)

  -- Entry 2.

  abbrev event_header_of : ℕ → ℕ → ℕ → ℕ → List ℕ
  event_header_of x d e f = 3 ∷ 0 ∷ x ∷ d ∷ e ∷ f ∷ []

  abbrev taken_state : ℕ → ℕ → ModuleState
  taken_state k i = record { cells = st.cells; ends = with_end st.ends k (renumbered (end_of st.ends k) (i + 1)) }

  opened_event : (x d e f : ℕ) (rest : List ℕ) (at : ℕ × End) (o : Option (List ℕ))
      → end_found x To 0 (ends_of app m) ≡ Some at → (end_of st.ends at.0).is_open ≡ true
      → epoch_of (end_of st.ends at.0).field ≡ d → (end_of st.ends at.0).number ≤ e + 256 * f → e + 256 * f < 65536
      → Tells (event_opened s c at (3 ∷ 0 ∷ x ∷ d ∷ e ∷ f ∷ rest) o p0)
  opened_event x d e f rest at None found op same le lt = refused 7 refl refl (λ y. absurd (omega (arith, y)))
  opened_event x d e f rest at (Some body) found op same le lt =
      let header = event_header_of x d e f in
      let mark = Unwrapped header (take 2 body) false in
      let st1 = taken_state at.0 (e + 256 * f) in
      let ev = event.Input at.1.port (slice_index body 0 + 256 * slice_index body 1) in
      let t = takes_at x d (e + 256 * f) (ends_of app m) st.ends views0 sent0 at.0 at.1 same0 (found_at x To (ends_of app m) at.0 at.1 found) op same le in
      let r = reacts mark st1 ev devices refl t.0 sent0 t.2 in
      let ready : Begun app n m q devices st (mark ∷ r.0) (finished (after mark st1 ev devices)) =
      Takes at.0 at.1 header (take 2 body) refl found op same le lt
      (subst (λ v. Reacts app n m q st1 (event.Input at.1.port v) (finished (after mark st1 ev devices)) r.0) (sym (value_two body)) r.2) in
      subst (λ z. Tells (finished z)) (sym (handled_after mark st1 ev devices))
      (subst (λ z. Begun app n m q devices st z (finished (after mark st1 ev devices))) (sym r.1) ready)

  numbered_event : (x d e f : ℕ) (rest : List ℕ) (at : ℕ × End) → e < 256 → f < 256
      → end_found x To 0 (ends_of app m) ≡ Some at → (end_of st.ends at.0).is_open ≡ true → epoch_of (end_of st.ends at.0).field ≡ d
      → Tells (event_numbered s c at (3 ∷ 0 ∷ x ∷ d ∷ e ∷ f ∷ rest) (end_of st.ends at.0) p0)
  numbered_event x d e f rest at le lf found op same =
      tells_if (nat_lt (e + 256 * f) (end_of st.ends at.0).number || (e + 256 * f == 65535)) _ _ (λ _. refused 6 refl refl (λ y. absurd (omega (arith, y))))
      (λ no. opened_event x d e f rest at _ found op same (ltb-false (e + 256 * f) (end_of st.ends at.0).number
      (or_parts (nat_lt (e + 256 * f) (end_of st.ends at.0).number) (e + 256 * f == 65535) no).0) (omega (arith, le, lf)))

  found_event : (x d e f : ℕ) (rest : List ℕ) (o : Option (ℕ × End)) → x < 256 → e < 256 → f < 256 → end_found x To 0 (ends_of app m) ≡ o → Tells (input_at s c (3 ∷ 0 ∷ x ∷ d ∷ e ∷ f ∷ rest) o p0)
  found_event x d e f rest None lx le lf found = refused 5 refl refl (λ y. absurd (omega (arith, y)))
  found_event x d e f rest (Some at) lx le lf found =
      let y = end_of st.ends at.0 in
      let b2 = not (epoch_of y.field == epoch_of (x + 256 * d)) in
      tells_if (not y.is_open || b2) _ _ (λ _. refused 5 refl refl (λ z. absurd (omega (arith, z))))
      (λ no.
      let parts = or_parts (not y.is_open) b2 no in
      numbered_event x d e f rest at le lf found (not-false y.is_open parts.0)
      (eqb-true (epoch_of y.field) (epoch_of (x + 256 * d)) (not-false (epoch_of y.field == epoch_of (x + 256 * d)) parts.1) ∙ high_field x d lx))

  six_event : (packet : List ℕ) → Bytes 24 packet → is_kind 3 packet ≡ true → Tells (input s c packet p0)
  six_event [] h k = absurd (omega (arith, h.long))
  six_event (a ∷ []) h k = absurd (omega (arith, h.long))
  six_event (a ∷ b ∷ []) h k = absurd (omega (arith, h.long))
  six_event (a ∷ b ∷ x ∷ []) h k = absurd (omega (arith, h.long))
  six_event (a ∷ b ∷ x ∷ d ∷ []) h k = absurd (omega (arith, h.long))
  six_event (a ∷ b ∷ x ∷ d ∷ e ∷ []) h k = absurd (omega (arith, h.long))
  six_event (a ∷ b ∷ x ∷ d ∷ e ∷ f ∷ rest) h k =
      let p = kind_parts 3 a b (x ∷ d ∷ e ∷ f ∷ rest) k in
      subst (λ a. Tells (input s c (a ∷ b ∷ x ∷ d ∷ e ∷ f ∷ rest) p0)) (sym p.0)
      (subst (λ b. Tells (input s c (3 ∷ b ∷ x ∷ d ∷ e ∷ f ∷ rest) p0)) (sym p.1)
      (subst (λ o. Tells (input_at s c (3 ∷ 0 ∷ x ∷ d ∷ e ∷ f ∷ rest) o p0)) (sym (same_found x d To (h.small 2)))
      (found_event x d e f rest (end_found x To 0 (ends_of app m)) (h.small 2) (h.small 4) (h.small 5) refl)))

  -- Entry 3.

  sample_cases : (k : ℕ) (w : Window) (b : Bool) → OwnSensor app n q devices k w → w.fresh ≡ b
      → Tells (if b then finished (handled s c (event.Sample w.value) (sample_read (k, w) p0)) else Returns 8 p0)
  sample_cases k w true own fresh =
      let mark = Sampled k w.value in
      let ev = event.Sample w.value in
      let r = reacts mark st ev (cleared devices k) (cleared_shapes devices k) views0 sent0 same0 in
      subst (λ z. Tells (finished z)) (sym (handled_after mark st ev (cleared devices k)))
      (subst (λ z. Begun app n m q devices st z (finished (after mark st ev (cleared devices k)))) (sym r.1) (Samples k w own fresh r.2))
  sample_cases k w false own fresh = Refuses refl refl refl refl (λ _. (k, w, own, fresh))

  tells_sample : is_sensor_driver (declared_kind s.tree.decls) ≡ true → Tells (sample s c p0)
  tells_sample drives =
      let o = sensor drives in
      subst (λ z. Tells (sample_of s c z p0)) (sym o.2) (sample_cases o.0 o.1 o.1.fresh o.3 refl)

  -- An invocation.

  tells_received : (r : Result (List ℕ) Violation) (kind : ℕ) (rest : List ℕ → Invoked) → ((bs : List ℕ) → r ≡ Ok bs → is_kind kind bs ≡ true → Tells (rest bs)) → Tells (received r kind rest p0)
  tells_received (Err v) kind rest f = Breaks
  tells_received (Ok bs) kind rest f = tells_if (is_kind kind bs) (rest bs) (Returns 4 p0) (f bs refl) (λ _. refused 4 refl refl (λ y. absurd (omega (arith, y))))

  is_ask_of : (bs : List ℕ) → Bytes 18 bs → is_kind 2 bs ≡ true → is_ask bs ≡ true
  is_ask_of bs h k = and_from (length bs == 18) (begins 2 bs) (subst (λ z. (z == 18) ≡ true) (sym h.long) refl) k

  tells_entered : is_no_entry s c ≡ false → Tells (entered s c p0)
  unfolding entered
  tells_entered entry =
      tells_if (c.entry == 0) _ _
      (λ _. tells_received (read_bytes s devices mem c.input 38) 1 (λ packet. set_key s packet p0) (λ bs e k. six_key bs (read_all s devices mem small 38 c.input bs e) k))
      (λ n0. tells_if (c.entry == 1) _ _
      (λ _. tells_received (read_bytes s devices mem c.input 18) 2 (λ packet. attest s c packet p0)
      (λ bs e k. tells_vouch bs (write_bytes s devices mem (c.output + 24 * 0) (wrapped s.mac s.section.key bs []).tag)
      (wrapped s.mac s.section.key bs []).tag (is_ask_of bs (read_all s devices mem small 18 c.input bs e) k)))
      (λ n1. tells_if (c.entry == 2) _ _
      (λ _. tells_received (read_bytes s devices mem c.input 24) 3 (λ packet. input s c packet p0) (λ bs e k. six_event bs (read_all s devices mem small 24 c.input bs e) k))
      (λ n2. tells_sample (sensor_entry n0 n1 n2))))
    where
      sensor_entry : (c.entry == 0) ≡ false → (c.entry == 1) ≡ false → (c.entry == 2) ≡ false → is_sensor_driver (declared_kind s.tree.decls) ≡ true
      sensor_entry n0 n1 n2 =
          let p = or_parts (nat_lt 3 c.entry) ((c.entry == 3) && not (is_sensor_driver (declared_kind s.tree.decls))) entry in
          let three : c.entry ≡ 3 = omega (arith, eqb-false c.entry 0 n0, eqb-false c.entry 1 n1, eqb-false c.entry 2 n2, ltb-false 3 c.entry p.0) in
          let t : (c.entry == 3) ≡ true = subst (λ z. (z == 3) ≡ true) (sym three) refl in
          not-false (is_sensor_driver (declared_kind s.tree.decls)) (sym (ap (λ b. b && not (is_sensor_driver (declared_kind s.tree.decls))) t) ∙ p.1)

  pub story : Tells (invoke s c p0)
  unfolding invoke
  story =
      tells_if (returns_inside s c) (Violates bad.Illegal p0) _ (λ _. Breaks)
      (λ _. tells_if (is_no_entry s c) (Returns 2 p0) _ (λ _. refused 2 refl refl (λ y. absurd (omega (arith, y))))
      (λ no. tells_if (has_bad_windows s c) (Returns 3 p0) (entered s c p0) (λ _. refused 3 refl refl (λ y. absurd (omega (arith, y))))
      (λ _. tells_entered no)))
