-- A node's windows: each device of the node is one, and is found at its place.
use Rattle.std.proofs.Common.{◌≡◌, ℕ, zero, suc, ◌+◌, ◌%◌, ◌<◌, ◌≤◌, ◌==◌, ◌&&◌, nat_lt}
use Rattle.std.proofs.Common.{nat_le, Bool, true, false, if◌then◌else◌, List, [], ◌∷◌}
use Rattle.std.proofs.Common.{Option, Some, None, refl, sym, ◌∙◌, ap, subst, arith}
use Rattle.std.specs.Prelude.{slice_get}
use Rattle.std.proofs.lemmas.Bool.{and_parts, eq-eqb}
use Rattle.std.proofs.lemmas.Bool.Decides.{nat_tests}
use Rattle.sx_mean.specs.declared.apps.AppDevice.{AppDevice}
use Rattle.sx_bus.specs.declared.devices.Kind.{Kind}
use Rattle.sx_bus.specs.declared.devices.Window.{Window}
use Rattle.sx_bus.specs.Devices.{on_word, device_at}
use Rattle.spec_machine.specs.Run.{device_of, found}
use Rattle.spec_machine.proofs.Devices.{position_is}
use Rattle.spec_run.specs.Setting.{devices_at, windows_at, kind_of}
use Rattle.spec_run.proofs.tie.Lists.{some_inj}
use Rattle.spec_run.proofs.tie.Tied.{shapes}
use Rattle.spec_run.proofs.steps.Foreign.{position_some}

-- Windows at even places of their own.
pub record AreSpaced (ws : List Window) : Type 0 where
  pub even : (k : ℕ) (w : Window) → slice_get ws k ≡ Some w → w.at % 2 ≡ 0
  pub apart : (j k : ℕ) (v w : Window) → slice_get ws j ≡ Some v → slice_get ws k ≡ Some w → v.at ≡ w.at → j ≡ k

on_own : (at : ℕ) (w : Window) → w.at ≡ at → on_word at w ≡ true
on_own at w e = subst (λ p. (nat_le w.at p && nat_lt p (w.at + 2)) ≡ true) e (self w.at)
  where
    self : (p : ℕ) → (nat_le p p && nat_lt p (p + 2)) ≡ true
    self p = grind (arith, nat_tests)

on_even : (at : ℕ) (w : Window) → at % 2 ≡ 0 → w.at % 2 ≡ 0 → on_word at w ≡ true → w.at ≡ at
on_even at w a b h = by_place w.at b h
  where
    by_place : (p : ℕ) → p % 2 ≡ 0 → (nat_le p at && nat_lt at (p + 2)) ≡ true → p ≡ at
    by_place p b h =
        let parts = and_parts (nat_le p at) (nat_lt at (p + 2)) h in
        let le : p ≤ at = grind (arith, nat_tests, parts.0) in
        let lt : at < p + 2 = grind (arith, nat_tests, parts.1) in
        omega (arith, a, b, le, lt)

-- a window is found at its place
pub found_at : (ws : List Window) (k at : ℕ) (w : Window) → AreSpaced ws → slice_get ws k ≡ Some w → w.at ≡ at → device_of ws at ≡ Some (k, w)
found_at ws k at w sp e same = by_case (device_at ws at) refl
  where
    by_case : (o : Option ℕ) → device_at ws at ≡ o → device_of ws at ≡ Some (k, w)
    by_case None q = absurd (position_some (on_word at) 0 ws k w e (on_own at w same) q)
    by_case (Some j) q =
        let p = position_is (on_word at) 0 ws j q in
        let even : at % 2 ≡ 0 = subst (λ p. p % 2 ≡ 0) same (sp.even k w e) in
        let one : p.0 ≡ k = sp.apart p.0 k p.1 w p.3 e (on_even at p.1 even (sp.even p.0 p.1 p.3) p.4 ∙ sym same) in
        let here : j ≡ k = (let e0 = p.2 in omega (arith, e0, one)) in
        ap (found ws) (q ∙ ap (λ i. Some i) here) ∙ ap (λ o. Rattle.spec_machine.specs.Run.with_window k o) e

-- a device of the node is one of its windows, by the same number
pub own_device : (n i d : ℕ) (ds : List AppDevice) (ats : List ℕ) (x : AppDevice) (at : ℕ) → slice_get ds d ≡ Some x → x.node ≡ n → slice_get ats d ≡ Some at
    → (k : ℕ) × (slice_get (devices_at n i ds) k ≡ Some (i + d)) × (slice_get (windows_at n ds ats) k ≡ Some (at, kind_of x.kind))
own_device n i d [] ats x at e node a = absurd cc
own_device n i d (y ∷ ds) [] x at e node a = absurd cc
own_device n i zero (y ∷ ds) (b ∷ ats) x at e node a =
    let same : y ≡ x = some_inj y x e in
    let here : (y.node == n) ≡ true = eq-eqb y.node n (ap (λ (z : AppDevice). z.node) same ∙ node) in (
      0,
      ap (λ t. slice_get (if t then i ∷ devices_at n (i + 1) ds else devices_at n (i + 1) ds) 0) here ∙ ap (λ j. Some j) (omega arith),
      ap (λ t. slice_get (if t then (b, kind_of y.kind) ∷ windows_at n ds ats else windows_at n ds ats) 0) here
          ∙ ap (λ (z : AppDevice). Some (b, kind_of z.kind)) same ∙ ap (λ c. Some (c, kind_of x.kind)) (some_inj b at a),
    )
own_device n i (suc d) (y ∷ ds) (b ∷ ats) x at e node a = head (y.node == n) (own_device n (i + 1) d ds ats x at e node a)
  where
    head : (t : Bool) → (k : ℕ) × (slice_get (devices_at n (i + 1) ds) k ≡ Some ((i + 1) + d)) × (slice_get (windows_at n ds ats) k ≡ Some (at, kind_of x.kind))
        → (k : ℕ) × (slice_get (if t then i ∷ devices_at n (i + 1) ds else devices_at n (i + 1) ds) k ≡ Some (i + suc d))
        × (slice_get (if t then (b, kind_of y.kind) ∷ windows_at n ds ats else windows_at n ds ats) k ≡ Some (at, kind_of x.kind))
    head true r = (suc r.0, r.1 ∙ ap (λ j. Some j) (omega arith), r.2)
    head false r = (r.0, r.1 ∙ ap (λ j. Some j) (omega arith), r.2)

pub shape_window : (ws : List Window) (k : ℕ) (p : ℕ × Kind) → slice_get (shapes ws) k ≡ Some p → (w : Window) × (slice_get ws k ≡ Some w) × (w.at ≡ p.0) × (w.kind ≡ p.1)
shape_window [] k p e = absurd cc
shape_window (w ∷ ws) zero p e = (w, refl, ap (λ (p : ℕ × Kind). p.0) (some_inj (w.at, w.kind) p e), ap (λ (p : ℕ × Kind). p.1) (some_inj (w.at, w.kind) p e))
shape_window (w ∷ ws) (suc k) p e = shape_window ws k p e
