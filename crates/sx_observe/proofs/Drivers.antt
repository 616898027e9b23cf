-- The item of a touch of a device, by the module that drives it.
use Rattle.std.proofs.Common.{◌≡◌, ℕ, Bool, true, false, if◌then◌else◌, Option, Some, None, refl, sym, ap, ◌∙◌}
use Rattle.std.specs.Prelude.{unwrap_or}
use Rattle.sx_mean.specs.Application.{AppTree}
use Rattle.sx_trace.specs.declared.items.Item.TheVariants as item
use Rattle.sx_observe.specs.Computed.{driver_of}
use Rattle.spec_run.specs.Observation.{is_driver, read_item, write_item}

module _ (app : AppTree) (runner : Option ℕ) (d : ℕ) where
  driven : (m : ℕ) → driver_of app runner d ≡ Some m → (is_driver app runner d ≡ true) × (unwrap_or runner 0 ≡ m)
  driven m e = by (is_driver app runner d) refl
    where
      by : (b : Bool) → is_driver app runner d ≡ b → (is_driver app runner d ≡ true) × (unwrap_or runner 0 ≡ m)
      by true t =
          let ran : runner ≡ Some m = sym (ap (λ (b : Bool). if b then runner else None) t) ∙ e in
          (t, ap (λ (r : Option ℕ). unwrap_or r 0) ran)
      by false t = let none : ◌≡◌ {A = Option ℕ} None (Some m) = sym (ap (λ (b : Bool). if b then runner else None) t) ∙ e in absurd cc

  other : driver_of app runner d ≡ None → is_driver app runner d ≡ false
  other e = by (is_driver app runner d) refl
    where
      by : (b : Bool) → is_driver app runner d ≡ b → is_driver app runner d ≡ false
      by true t =
          let none : runner ≡ None = sym (ap (λ (b : Bool). if b then runner else None) t) ∙ e in
          ap (λ (r : Option ℕ). is_driver app r d) none
      by false t = t

  pub read_driven : (m v : ℕ) → driver_of app runner d ≡ Some m → item.Read m v ≡ read_item app runner d v
  read_driven m v e =
      let x = driven m e in
      sym (ap (λ (b : Bool). if b then item.Read (unwrap_or runner 0) v else item.Drain d) x.0 ∙ ap (λ (k : ℕ). item.Read k v) x.1)

  pub read_other : (v : ℕ) → driver_of app runner d ≡ None → item.Drain d ≡ read_item app runner d v
  read_other v e = sym (ap (λ (b : Bool). if b then item.Read (unwrap_or runner 0) v else item.Drain d) (other e))

  pub write_driven : (m v : ℕ) → driver_of app runner d ≡ Some m → item.Out m v ≡ write_item app runner d v
  write_driven m v e =
      let x = driven m e in
      sym (ap (λ (b : Bool). if b then item.Out (unwrap_or runner 0) v else item.Raw d v) x.0 ∙ ap (λ (k : ℕ). item.Out k v) x.1)

  pub write_other : (v : ℕ) → driver_of app runner d ≡ None → item.Raw d v ≡ write_item app runner d v
  write_other v e = sym (ap (λ (b : Bool). if b then item.Out (unwrap_or runner 0) v else item.Raw d v) (other e))
