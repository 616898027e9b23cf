-- Entries that the order of entries doesn't tell apart are equal.
use Rattle.std.proofs.Common.{◌≡◌, ℕ, List, refl, ap, ◌∙◌}
use Rattle.std.specs.declared.cmp.Ordering.{Ordering}
use Rattle.std.specs.declared.cmp.Ordering.TheVariants.{Less, Equal, Greater}
use Rattle.std.specs.Ordering.{nat_cmp, ordering_then}
use Rattle.std.specs.Cmp.Lexicographic.{slice_cmp}
use Rattle.std.proofs.lemmas.Map.Lookups.{CmpEqualImpliesEq, exact_unsigned, exact_bytes}
use Rattle.sx_ledger.specs.declared.entry.Maker.{Maker}
use Rattle.sx_ledger.specs.declared.entry.Maker.TheVariants.{Deployer, Module}
use Rattle.sx_ledger.specs.declared.entry.Entry.{Entry}
use Rattle.sx_ledger.specs.contracts.entry.EntryOrd.TheImpl as entry_order
use Rattle.sx_ledger.specs.contracts.entry.MakerOrd.TheImpl as maker_order

both : (r s : Ordering) → ordering_then r s ≡ Equal → (r ≡ Equal) × (s ≡ Equal)
both Less s h = absurd (cc)
both Equal s h = (refl, h)
both Greater s h = absurd (cc)

exact_maker : CmpEqualImpliesEq (maker_order.ghosts).cmp
exact_maker Deployer Deployer h = refl
exact_maker Deployer (Module m) h = absurd (cc)
exact_maker (Module m) Deployer h = absurd (cc)
exact_maker (Module m) (Module k) h = ap (λ n. Module n) (exact_unsigned m k h)

pub exact_entry : CmpEqualImpliesEq (entry_order.ghosts).cmp
exact_entry x y h =
    let a = both ((maker_order.ghosts).cmp x.maker y.maker) _ h in
    let b = both (nat_cmp x.target y.target) _ a.1 in
    let c = both (nat_cmp x.boot y.boot) _ b.1 in
    let d = both (slice_cmp nat_cmp x.ad y.ad) _ c.1 in
    let e = both (nat_cmp x.ad_len y.ad_len) _ d.1 in
    let f = both (slice_cmp nat_cmp x.body y.body) _ e.1 in
    let made : Maker → ℕ → ℕ → List ℕ → ℕ → List ℕ → ℕ → Entry = λ m t b h n k l. record { maker = m; target = t; boot = b; ad = h; ad_len = n; body = k; body_len = l } in
    ap (λ v. made v x.target x.boot x.ad x.ad_len x.body x.body_len) (exact_maker x.maker y.maker a.0)
    ∙ ap (λ v. made y.maker v x.boot x.ad x.ad_len x.body x.body_len) (exact_unsigned x.target y.target b.0)
    ∙ ap (λ v. made y.maker y.target v x.ad x.ad_len x.body x.body_len) (exact_unsigned x.boot y.boot c.0)
    ∙ ap (λ v. made y.maker y.target y.boot v x.ad_len x.body x.body_len) (exact_bytes x.ad y.ad d.0)
    ∙ ap (λ v. made y.maker y.target y.boot y.ad v x.body x.body_len) (exact_unsigned x.ad_len y.ad_len e.0)
    ∙ ap (λ v. made y.maker y.target y.boot y.ad y.ad_len v x.body_len) (exact_bytes x.body y.body f.0)
    ∙ ap (λ v. made y.maker y.target y.boot y.ad y.ad_len y.body v) (exact_unsigned x.body_len y.body_len f.1)
