-- A set to which a key was added, by what it contains.
use Rattle.std.proofs.Common.{◌≡◌, ◌↔◌, ◌⊎◌, inl, inr, true, cond, IsTrue, refl, sym, subst}
use Rattle.std.specs.declared.cmp.Ordering.{Ordering}
use Rattle.std.specs.declared.cmp.Ordering.TheVariants.{Less, Equal, Greater}
use Rattle.std.specs.List.{Contains}
use Rattle.std.specs.Cmp.{IsTotalOrder}
use Rattle.std.specs.Ordering.{is_eq}
use Rattle.std.specs.BTreeMap.{is_at}
use Rattle.std.specs.BTreeSet.{BTreeSet, contains}
use Rattle.std.proofs.lemmas.Map.Lookups.{CmpEqualImpliesEq}
use Rattle.std.proofs.lemmas.Map.Views.{btree_set_contains_iff}

module _ {K : Type 0} {R : K → K → Ordering} (total : IsTotalOrder R) (exact : CmpEqualImpliesEq R) (old new : BTreeSet K) (k : K)
    (added : (q : K) → contains R new q ≡ cond (is_at (R k) q) true (contains R old q)) (present : contains R new k ≡ true) where
  there : (e : K) (r : Ordering) → R k e ≡ r → contains R new e ≡ cond (is_eq r) true (contains R old e) → Contains new.keys e → Contains old.keys e ⊎ (e ≡ k)
  there e Equal h same is = inr (sym (exact k e h))
  there e Less h same is = inl ((btree_set_contains_iff total exact old e).0 (subst IsTrue same ((btree_set_contains_iff total exact new e).1 is)))
  there e Greater h same is = inl ((btree_set_contains_iff total exact old e).0 (subst IsTrue same ((btree_set_contains_iff total exact new e).1 is)))

  kept : (e : K) (r : Ordering) → contains R new e ≡ cond (is_eq r) true (contains R old e) → Contains old.keys e → Contains new.keys e
  kept e Equal same is = (btree_set_contains_iff total exact new e).0 (subst IsTrue (sym same) refl)
  kept e Less same is = (btree_set_contains_iff total exact new e).0 (subst IsTrue (sym same) ((btree_set_contains_iff total exact old e).1 is))
  kept e Greater same is = (btree_set_contains_iff total exact new e).0 (subst IsTrue (sym same) ((btree_set_contains_iff total exact old e).1 is))

  back : (e : K) → Contains old.keys e ⊎ (e ≡ k) → Contains new.keys e
  back e (inl is) = kept e (R k e) (added e) is
  back e (inr here) = subst (λ q. Contains new.keys q) (sym here) ((btree_set_contains_iff total exact new k).0 (subst IsTrue (sym present) refl))

  pub adds : (e : K) → Contains new.keys e ↔ (Contains old.keys e ⊎ (e ≡ k))
  adds e = (there e (R k e) refl (added e), back e)
