-- Where bytes may be put, and what is put there.
use Rattle.std.proofs.Common.{◌≡◌, ℕ, zero, suc, ◌+◌, ◌*◌, ◌<◌, ◌≤◌, inl, inr, ◌&&◌, ◌||◌, not, true, false, if◌then◌else◌, List, [], ◌∷◌, length}
use Rattle.std.proofs.Common.{length-drop, take, drop, Some, None, refl, sym, ◌∙◌, ap, arith}
use Rattle.std.specs.Prelude.{All, nat_le, nat_lt, slice_get}
use Rattle.std.specs.List.{list_all, position_from}
use Rattle.std.proofs.lemmas.Bool.{and_from, and_parts, cases_Bool, eq-eqb, le-leb, le-ltb, leb-true, lt-leb, or_from, or_left, and_right}
use Rattle.sx_rules.specs.declared.section.Section.{Section}
use Rattle.sx_rules.specs.Access.{Lives}
use Rattle.sx_rules.specs.Admission.{apart}
use Rattle.sx_bus.specs.declared.devices.Window.{Window}
use Rattle.sx_bus.specs.Devices.{on_word, places_of}
use Rattle.spec_machine.specs.declared.kinds.Refused.TheVariants.{Busy, Guarded}
use Rattle.spec_machine.specs.Memory.{put_bytes}
use Rattle.spec_machine.specs.Ranges.{meets, meets_device, meets_private, meets_public, passes_end}
use Rattle.spec_machine.specs.State.{State}
use Rattle.spec_machine.specs.Acts.{put, put_refusal, unless}
use Rattle.spec_machine.proofs.Frame.{none_pass}
use Rattle.spec_run.specs.State.{World, Acted}
use Rattle.spec_run.specs.Acts.{at_node, done_on, only, then_, with_node}
use Rattle.spec_run.specs.Run.{put_on, put_pieces}
use Rattle.lemmas.proofs.Lists.{get_same}
use Rattle.law_calls.proofs.Registering.{node_twice, same_node}
use Rattle.law_setup.proofs.forms.Loaded.{StandsHigh}
use Rattle.law_setup.proofs.Bytes.{put_split}

-- a range within one that is apart from another doesn't meet it
pub apart_meets : (lo hi from to a n : ℕ) → apart lo hi from to ≡ true → lo ≤ a → a + n ≤ hi → meets a n from to ≡ false
apart_meets lo hi from to a n h la ha = elim (cases_Bool (nat_le hi from)) [
  | inl e ↦
      let le = leb-true hi from e in
      let far : nat_lt from (a + n) ≡ false = le-ltb from (a + n) (omega (arith, le, ha)) in
      and_right (nat_lt 0 n) (nat_lt a to && nat_lt from (a + n)) (and_right (nat_lt a to) (nat_lt from (a + n)) far)
  | inr e ↦
      let other : nat_le to lo ≡ true = sym (ap (λ b. b || nat_le to lo) e) ∙ h in
      let le = leb-true to lo other in
      let far : nat_lt a to ≡ false = le-ltb a to (omega (arith, le, la)) in
      and_right (nat_lt 0 n) (nat_lt a to && nat_lt from (a + n)) (ap (λ b. b && nat_lt from (a + n)) far)
]

-- bytes from lo up to but not hi are of no section and of no device
pub record IsOpen (s : State) (lo hi : ℕ) : Type 0 where
  pub idle : s.cur ≡ 0
  pub within : hi ≤ 65536
  pub public : (x : Section) → Lives s.sections.live x → apart lo hi x.layout.pub_from x.layout.pub_to ≡ true
  pub private : (x : Section) → Lives s.sections.live x → apart lo hi x.layout.priv_from x.layout.priv_to ≡ true
  pub devices : list_all (λ place. apart lo hi place (place + 2)) (places_of s.devices) ≡ true

pub no_place : (places : List ℕ) (lo hi a n : ℕ) → list_all (λ place. apart lo hi place (place + 2)) places ≡ true → lo ≤ a → a + n ≤ hi → meets_device places a n ≡ false
no_place [] lo hi a n h la ha = refl
no_place (p ∷ ps) lo hi a n h la ha =
    let parts = and_parts (apart lo hi p (p + 2)) (list_all (λ place. apart lo hi place (place + 2)) ps) h in
    or_from (meets a n p (p + 2)) (meets_device ps a n) (apart_meets lo hi p (p + 2) a n parts.0 la ha) (no_place ps lo hi a n parts.1 la ha)

pub open_free : (s : State) (lo hi a n : ℕ) → IsOpen s lo hi → lo ≤ a → a + n ≤ hi → put_refusal s a n ≡ None
open_free s lo hi a n o la ha =
    let inside = o.within in
    let p : passes_end a n ≡ false = le-ltb 65536 (a + n) (omega (arith, ha, inside)) in
    let q : meets_public s.sections.live a n ≡ false =
    none_pass (λ x. meets a n x.layout.pub_from x.layout.pub_to) s.sections.live (λ x l. apart_meets lo hi x.layout.pub_from x.layout.pub_to a n (o.public x l) la ha) in
    let r : meets_private s.sections.live a n ≡ false =
    none_pass (λ x. meets a n x.layout.priv_from x.layout.priv_to) s.sections.live (λ x l. apart_meets lo hi x.layout.priv_from x.layout.priv_to a n (o.private x l) la ha) in
    let d = no_place (places_of s.devices) lo hi a n o.devices la ha in
    let all : (passes_end a n || (meets_public s.sections.live a n || (meets_private s.sections.live a n || meets_device (places_of s.devices) a n))) ≡ false =
    or_from (passes_end a n) _ p (or_from (meets_public s.sections.live a n) _ q (or_from (meets_private s.sections.live a n) (meets_device (places_of s.devices) a n) r d)) in
    ap (λ b. if not b then Some Busy else if passes_end a n || (meets_public s.sections.live a n
    || (meets_private s.sections.live a n || meets_device (places_of s.devices) a n)) then Some Guarded else None) (eq-eqb s.cur 0 o.idle)
    ∙ ap (λ b. if b then Some Guarded else None) all

low_places : (places : List ℕ) → All (λ at. 512 ≤ at) places → list_all (λ place. apart 0 512 place (place + 2)) places ≡ true
low_places [] h = refl
low_places (p ∷ ps) h =
    let le : 512 ≤ p = h 0 p (omega arith) in
    and_from (apart 0 512 p (p + 2)) (list_all (λ place. apart 0 512 place (place + 2)) ps) (or_left (nat_le 512 p) (nat_le (p + 2) 0) (le-leb 512 p le))
    (low_places ps (λ k d lt. h (suc k) d (omega (arith, lt))))

-- so it is below 0x0200
pub low_open : (s : State) → s.cur ≡ 0 → StandsHigh s → IsOpen s 0 512
low_open s idle low = record {
  idle = idle;
  within = omega arith;
  public = λ x l. or_left (nat_le 512 x.layout.pub_from) (nat_le x.layout.pub_to 0) (le-leb 512 x.layout.pub_from (low.sections x l).0);
  private = λ x l. or_left (nat_le 512 x.layout.priv_from) (nat_le x.layout.priv_to 0) (le-leb 512 x.layout.priv_from (low.sections x l).1);
  devices = low_places (places_of s.devices) low.devices;
}

pub no_device_low : (ws : List Window) (i at : ℕ) → All (λ p. 512 ≤ p) (places_of ws) → at < 512 → position_from (on_word at) i ws ≡ None
no_device_low [] i at h lt = refl
no_device_low (x ∷ ws) i at h lt =
    let le : 512 ≤ x.at = h 0 x.at (omega arith) in
    let far : on_word at x ≡ false = ap (λ b. b && nat_lt at (x.at + 2)) (lt-leb x.at at (omega (arith, le, lt))) in
    ap (λ b. if b then Some i else position_from (on_word at) (i + 1) ws) far ∙ no_device_low ws (i + 1) at (λ k d less. h (suc k) d (omega (arith, less))) lt

-- a node with another memory
abbrev pub with_mem : State → List ℕ → State
with_mem s mem = record s { mem = mem }

-- bytes are put
pub one_put : (n at : ℕ) (bs : List ℕ) (w : World) (s : State) → slice_get w.nodes n ≡ Some s → put_refusal s at (length bs) ≡ None
    → put_on n at bs w ≡ record { world = with_node w n (with_mem s (put_bytes s.mem at bs)) w.ledger w.steps; items = [] }
one_put n at bs w s there free =
    ap (at_node w (λ s. done_on w n [] (put s at bs))) there
    ∙ ap (λ o. done_on w n [] (unless o s (record { state = with_mem s (put_bytes s.mem at bs); shown = tt }))) free

-- pieces are put
pub pieces_put : (n k at hi : ℕ) (bytes : List ℕ) (w : World) (s : State) → slice_get w.nodes n ≡ Some s → length bytes ≤ 1024 * k → 1024 * k < length bytes + 1024
    → (0 < k → at + length bytes ≤ hi) → ((a len : ℕ) → at ≤ a → a + len ≤ hi → put_refusal s a len ≡ None)
    → put_pieces n k at bytes w ≡ record { world = with_node w n (with_mem s (put_bytes s.mem at bytes)) w.ledger w.steps; items = [] }
pieces_put n zero at hi [] w s there le lt up free = ap (λ v. only v []) (same_node w n s there)
pieces_put n zero at hi (b ∷ bs) w s there le lt up free = absurd (omega (arith, le))
pieces_put n (suc k) at hi bytes w s there le lt up free =
    let first = take 1024 bytes in
    let rest = drop 1024 bytes in
    let few = length-drop 1024 bytes in
    let short : length first ≤ length bytes = take_short 1024 bytes in
    let top : at + length bytes ≤ hi = up (omega arith) in
    let t = with_mem s (put_bytes s.mem at first) in
    let v = with_node w n t w.ledger w.steps in
    let one : put_on n at first w ≡ record { world = v; items = [] } = one_put n at first w s there (free at (length first) (omega arith) (omega (arith, short, top))) in
    let two = pieces_put n k (at + 1024) hi rest v t (get_same w.nodes n t s there) (omega (arith, le, few)) (omega (arith, lt, few))
    (λ some. omega (arith, some, lt, few, top)) (λ a len from to. free a len (omega (arith, from)) to) in
    ap (λ (a : Acted). then_ a (put_pieces n k (at + 1024) rest)) one
    ∙ ap (λ (a : Acted). record { world = a.world; items = a.items }) two
    ∙ ap (λ u. record { world = u; items = [] }) (node_twice w n t (with_mem t (put_bytes t.mem (at + 1024) rest)) w.ledger w.ledger w.steps w.steps)
    ∙ ap (λ m. record { world = with_node w n (with_mem s m) w.ledger w.steps; items = [] }) (put_split 1024 bytes s.mem at)
  where
    take_short : (j : ℕ) (xs : List ℕ) → length (take j xs) ≤ length xs
    take_short zero xs = omega arith
    take_short (suc j) [] = omega arith
    take_short (suc j) (x ∷ xs) = let h = take_short j xs in omega (arith, h)
