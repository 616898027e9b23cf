-- A module has at most 256 handlers: one for each input, and one of the samples.
use Rattle.std.proofs.Common.{◌≡◌, ◌≢◌, ℕ, suc, ◌<◌, ◌≤◌, ◌⊎◌, inl, inr, Bool, true, false, ◌||◌, List, [], ◌∷◌, ◌++◌, length, get_or, map, Option, Some, None, refl, ap, ◌∙◌, arith}
use Rattle.std.specs.Prelude.{All, AllPairs}
use Rattle.std.specs.List.{list_any, AllByRecursion, IsDistinct}
use Rattle.std.specs.Cmp.{IsEquivalence}
use Rattle.std.specs.Set.{is_member}
use Rattle.std.proofs.lemmas.Bool.{or_cases}
use Rattle.std.proofs.lemmas.Cmp.{nat_list_eq_equiv}
use Rattle.std.proofs.lemmas.List.{length-map}
use Rattle.std.proofs.lemmas.List.Elements.{All-head}
use Rattle.std.proofs.lemmas.Map.Made.{length-le_from_is_member}
use Rattle.sx_lang.specs.declared.tree.Decl.{Decl}
use Rattle.sx_lang.specs.declared.tree.Decl.TheVariants.{Device, Input, Output, Var, Array}
use Rattle.sx_lang.specs.Tree.{HandlerTree, ModuleTree}
use Rattle.sx_check.specs.Accepted.{IsProper}
use Rattle.sx_check.specs.declared.declared.Role.TheVariants.{Handling}
use Rattle.sx_check.specs.Names.{same, same_input}
use Rattle.sx_check.specs.Rules.{first_broken}
use Rattle.sx_check.specs.Uses.{Use, block_uses, declares_as, input_uses}
use Rattle.sx_check.proofs.Accepted.{accepted, fine}
use Rattle.sx_check.proofs.Distinct.{same-true, same_input-refl}
use Rattle.sx_check.proofs.Keeps.{In}
use Rattle.sx_mean.specs.React.{input_names}
use Rattle.sx_mean.proofs.Inputs.{length-names}

-- being of the same input is an equivalence
inputs_equiv : IsEquivalence same_input
inputs_equiv = record { refl = same_input-refl; symm = turned; congr = alike }
  where
    turned : (x y : Option (List ℕ)) → same_input x y ≡ same_input y x
    turned None None = refl
    turned None (Some y) = refl
    turned (Some x) None = refl
    turned (Some x) (Some y) = nat_list_eq_equiv.symm x y

    alike : (x y z : Option (List ℕ)) → same_input x y ≡ true → same_input x z ≡ same_input y z
    alike None None z h = refl
    alike None (Some y) z h = absurd (cc)
    alike (Some x) None z h = absurd (cc)
    alike (Some x) (Some y) None h = refl
    alike (Some x) (Some y) (Some z) h = nat_list_eq_equiv.congr x y z h

same_input-true : (x y : Option (List ℕ)) → same_input x y ≡ true → x ≡ y
same_input-true None None h = refl
same_input-true None (Some y) h = absurd (cc)
same_input-true (Some x) None h = absurd (cc)
same_input-true (Some x) (Some y) h = ap Some (same-true x y h)

differ : (x y : Option (List ℕ)) → x ≢ y → same_input x y ≡ false
differ x y ne = go (same_input x y) refl
  where
    go : (b : Bool) → same_input x y ≡ b → same_input x y ≡ false
    go true e = absurd (ne (same_input-true x y e))
    go false e = e

abbrev inputs : List HandlerTree → List (Option (List ℕ))
inputs hs = map (λ h. h.input) hs

-- the inputs that are handled are distinct
distinct : (hs : List HandlerTree) → AllPairs (λ g h. g.input ≢ h.input) hs → IsDistinct same_input (inputs hs)
unfolding IsDistinct
distinct [] h = tt
distinct (g ∷ hs) h = (others hs (λ j l. h 0 (suc j) g (omega arith) (omega (arith, l))), distinct hs (λ i j d k l. h (suc i) (suc j) d (omega (arith, k)) (omega (arith, l))))
  where
    others : (hs : List HandlerTree) → ((j : ℕ) → j < length hs → g.input ≢ (get_or hs j g).input) → AllByRecursion (λ y. same_input g.input y ≡ false) (inputs hs)
    others [] f = tt
    others (x ∷ hs) f = (differ g.input x.input (f 0 (omega arith)), others hs (λ j l. f (suc j) (omega (arith, l))))

-- what is handled: the samples and the inputs
abbrev handled : List Decl → List (Option (List ℕ))
handled ds = None ∷ map Some (input_names ds)

declared : (ds : List Decl) (x : List ℕ) → list_any (declares_as Handling x) ds ≡ true → is_member same_input (map Some (input_names ds)) (Some x) ≡ true
declared [] x h = absurd (cc)
declared (Device kind ∷ ds) x h = declared ds x h
declared (Input y ∷ ds) x h = go (same x y) h (declared ds x)
  where
    go : (b : Bool) → (b || list_any (declares_as Handling x) ds) ≡ true → (list_any (declares_as Handling x) ds ≡ true → is_member same_input (map Some (input_names ds)) (Some x) ≡ true)
        → (b || is_member same_input (map Some (input_names ds)) (Some x)) ≡ true
    go true h more = refl
    go false h more = more h
declared (Output y ∷ ds) x h = declared ds x h
declared (Var y n ∷ ds) x h = declared ds x h
declared (Array y n ∷ ds) x h = declared ds x h

covered : (ds : List Decl) (input : Option (List ℕ)) (rest : List Use) → All (IsProper ds) (input_uses input ++ rest) → is_member same_input (handled ds) input ≡ true
covered ds None rest h = refl
covered ds (Some x) rest h = go (All-head (IsProper ds) _ rest h)
  where
    go : (false ≡ true) ⊎ (list_any (declares_as Handling x) ds ≡ true) → is_member same_input (handled ds) (Some x) ≡ true
    go (inl e) = absurd (cc)
    go (inr e) = declared ds x e

member_alike : (q r : Option (List ℕ)) (ys : List (Option (List ℕ))) → same_input q r ≡ true → is_member same_input ys q ≡ is_member same_input ys r
member_alike q r [] h = refl
member_alike q r (y ∷ ys) h = ap (λ b. b || is_member same_input ys q) (inputs_equiv.congr q r y h) ∙ ap (λ b. same_input r y || b) (member_alike q r ys h)

members : (ys : List (Option (List ℕ))) (hs : List HandlerTree) → ((h : HandlerTree) → In h hs → is_member same_input ys h.input ≡ true) → (q : Option (List ℕ))
    → is_member same_input (inputs hs) q ≡ true → is_member same_input ys q ≡ true
members ys [] f q h = absurd (cc)
members ys (x ∷ hs) f q h = go (or_cases (same_input q x.input) (is_member same_input (inputs hs) q) h) (members ys hs (λ h i. f h (inr i)) q)
  where
    go : (same_input q x.input ≡ true) ⊎ (is_member same_input (inputs hs) q ≡ true) → (is_member same_input (inputs hs) q ≡ true → is_member same_input ys q ≡ true) → is_member same_input ys q ≡ true
    go (inl e) more = member_alike q x.input ys e ∙ f x (inl refl)
    go (inr e) more = more e

pub few_handlers : (m : ModuleTree) → first_broken m ≡ None → length m.handlers ≤ 256
few_handlers m checked =
    let a = accepted m checked in
    let most = length-le_from_is_member inputs_equiv (inputs m.handlers) (handled m.decls) (distinct m.handlers a.handled_once)
    (members (handled m.decls) m.handlers (λ h i. covered m.decls h.input (block_uses (h.param ∷ []) h.body) (fine m checked h i).proper)) in
    omega (arith, most, length-names m.decls, a.inputs, length-map m.handlers (λ (h : HandlerTree). h.input), length-map (input_names m.decls) (λ (x : List ℕ). Some x))
