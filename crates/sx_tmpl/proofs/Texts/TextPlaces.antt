-- The addresses of a text, and its packet routines.
use Rattle.std.proofs.Common.{◌≡◌, ℕ, zero, suc, ◌+◌, ◌-◌, ◌<◌, ◌≤◌, Bool, true, false, List, [], ◌∷◌, take, length, Some, refl, sym, ap, ◌∙◌, subst, arith}
use Rattle.std.specs.Prelude.{slice_index, slice_get, ◌||◌, if◌then◌else◌}
use Rattle.std.specs.List.{list_any}
use Rattle.std.proofs.lemmas.Option.{none-some, same_Some}
use Rattle.std.proofs.lemmas.Bool.{eq-eqb, or_right}
use Rattle.std.proofs.Math.Seq.{take-length}
use Rattle.sx_ir.specs.declared.ir.Ir.{Ir}
use Rattle.sx_ir.specs.declared.ir.Ir.TheVariants as ir
use Rattle.sx_ir.specs.Sizes.{has_routine, is_packet, op_bytes, ops_bytes, routines}
use Rattle.sx_tmpl.specs.Text.{places_from}

pub length-places : (a : ℕ) (ops : List Ir) → length (places_from a ops) ≡ length ops + 1
length-places a [] = refl
length-places a (i ∷ ops) = let e = length-places (a + op_bytes i) ops in omega (arith, e)

-- the address of a place is that many bytes after the first
pub place_is : (a : ℕ) (ops : List Ir) (p : ℕ) → p ≤ length ops → slice_index (places_from a ops) p ≡ a + ops_bytes (take p ops)
place_is a [] zero le = omega arith
place_is a [] (suc p) le = absurd (omega (arith, le))
place_is a (i ∷ ops) zero le = omega arith
place_is a (i ∷ ops) (suc p) le = let e = place_is (a + op_bytes i) ops p (omega (arith, le)) in omega (arith, e)

pub exit_is : (a : ℕ) (ops : List Ir) → slice_index (places_from a ops) (length ops) ≡ a + ops_bytes ops
exit_is a ops = place_is a ops (length ops) (omega arith) ∙ ap (λ (c : List Ir). a + ops_bytes c) (take-length ops)

pub bytes_within : (p : ℕ) (ops : List Ir) → ops_bytes (take p ops) ≤ ops_bytes ops
bytes_within zero [] = omega arith
bytes_within (suc p) [] = omega arith
bytes_within zero (i ∷ ops) = omega arith
bytes_within (suc p) (i ∷ ops) = let e = bytes_within p ops in omega (arith, e)

-- an end of which some operation makes a packet has a routine
pub has_one : (ops : List Ir) (p k : ℕ) → slice_get ops p ≡ Some (ir.Packet k) → has_routine ops k ≡ true
has_one [] p k e = absurd (none-some (ir.Packet k) e)
has_one (i ∷ ops) zero k e =
    ap (λ (i : Ir). is_packet k i || list_any (is_packet k) ops) (same_Some i (ir.Packet k) e)
    ∙ ap (λ (b : Bool). b || list_any (is_packet k) ops) (eq-eqb k k refl)
has_one (i ∷ ops) (suc p) k e = or_right (is_packet k i) (list_any (is_packet k) ops) (has_one ops p k e)

-- more ends have no fewer routines
pub routines_more : (ops : List Ir) (k n : ℕ) → routines ops k ≤ routines ops (k + n)
unfolding routines
routines_more ops k zero = let e : k + 0 ≡ k = omega arith in subst (λ m. routines ops k ≤ routines ops m) (sym e) (omega arith)
routines_more ops k (suc n) =
    let e : k + suc n ≡ suc (k + n) = omega arith in
    let x = routines_more ops k n in
    subst (λ m. routines ops k ≤ routines ops m) (sym e) (step (has_routine ops (k + n)) x)
  where
    step : (b : Bool) → routines ops k ≤ routines ops (k + n) → routines ops k ≤ routines ops (k + n) + (if b then 1 else 0)
    step true x = omega (arith, x)
    step false x = omega (arith, x)

-- that of an end with one is within the first n
pub routine_within : (ops : List Ir) (k n : ℕ) → has_routine ops k ≡ true → k < n → routines ops k + 1 ≤ routines ops n
unfolding routines
routine_within ops k n h lt =
    let x = routines_more ops (suc k) (n - suc k) in
    let e : suc k + (n - suc k) ≡ n = omega (arith, lt) in
    let y : routines ops k + (if has_routine ops k then 1 else 0) ≡ routines ops k + 1 = ap (λ (b : Bool). routines ops k + (if b then 1 else 0)) h in
    let z : routines ops (suc k + (n - suc k)) ≡ routines ops n = ap (routines ops) e in
    omega (arith, x, y, z)
