-- Modules and the entries that they come from, one beside the other.
use Rattle.std.proofs.Common.{◌≡◌, ℕ, ◌+◌, ◌<◌, ◌==◌, List, [], ◌∷◌, length, count_by, cond, min, refl, ap, sym, subst, ◌∙◌, Ok, arith, suc}
use Rattle.sx_lang.specs.Tree.{ModuleTree}
use Rattle.sx_entries.proofs.Each.{Each}
use Rattle.sx_check.proofs.Distinct.{count_by-cons}
use Rattle.sx_entries.specs.declared.entries.ModuleEntry.{ModuleEntry}
use Rattle.sx_deploy.specs.Sources.{AreCoded, none_left, each, Coded, coded}

abbrev pub ArePairs : List ModuleEntry → List Coded → Type 0
ArePairs [] [] = Unit {0}
ArePairs [] (c ∷ cs) = ⊥
ArePairs (m ∷ ms) [] = ⊥
ArePairs (m ∷ ms) (c ∷ cs) = ((tree : ModuleTree) × (c ≡ coded m tree)) × ArePairs ms cs

pub pairs : (n : ℕ) (ms : List ModuleEntry) (cs : List Coded) → AreCoded n ms (Ok cs) → ArePairs ms cs
pairs n [] [] none_left = tt
pairs n [] (c ∷ cs) h = elim h [ ]
pairs n (m ∷ ms) [] h = elim h [ ]
pairs n (m ∷ ms) (c ∷ cs) (each h t) = ((h.0, h.2), pairs (n + 1) ms cs t)

pub pairs-length : (ms : List ModuleEntry) (cs : List Coded) → ArePairs ms cs → length cs ≡ length ms
pairs-length [] [] h = refl
pairs-length [] (c ∷ cs) h = absurd h
pairs-length (m ∷ ms) [] h = absurd h
pairs-length (m ∷ ms) (c ∷ cs) h = ap suc (pairs-length ms cs h.1)

-- what holds of each entry holds of each module
pub pairs-each : (P : ModuleEntry → Type 0) (Q : Coded → Type 0) → ((m : ModuleEntry) (tree : ModuleTree) → P m → Q (coded m tree))
    → (ms : List ModuleEntry) (cs : List Coded) → ArePairs ms cs → Each P ms → Each Q cs
pairs-each P Q k [] [] h e = tt
pairs-each P Q k [] (c ∷ cs) h e = absurd h
pairs-each P Q k (m ∷ ms) [] h e = absurd h
pairs-each P Q k (m ∷ ms) (c ∷ cs) h e = (subst Q (sym h.0.1) (k m h.0.0 e.0), pairs-each P Q k ms cs h.1 e.1)

same_byte : (a b : ℕ) → a < 255 → b < 255 → (min a 255 == min b 255) ≡ (a == b)
same_byte a b h k = let x : min a 255 ≡ a = omega arith in let y : min b 255 ≡ b = omega arith in ap (λ n. n == min b 255) x ∙ ap (λ n. a == n) y

-- as many modules are on a node as entries
pub pairs-count : (node : ℕ) → node < 255 → (ms : List ModuleEntry) (cs : List Coded) → ArePairs ms cs → Each (λ (m : ModuleEntry). m.node < 255) ms
    → count_by (λ (c : Coded). min c.node 255 == min node 255) cs ≡ count_by (λ (m : ModuleEntry). m.node == node) ms
pairs-count node k [] [] h e = refl
pairs-count node k [] (c ∷ cs) h e = absurd h
pairs-count node k (m ∷ ms) [] h e = absurd h
pairs-count node k (m ∷ ms) (c ∷ cs) h e =
    let first : (min c.node 255 == min node 255) ≡ (m.node == node) = ap (λ (x : Coded). min x.node 255 == min node 255) h.0.1 ∙ same_byte m.node node e.0 k in
    count_by-cons (λ (c : Coded). min c.node 255 == min node 255) c cs
    ∙ ap (λ b. cond b 1 0 + count_by (λ (c : Coded). min c.node 255 == min node 255) cs) first
    ∙ ap (λ n. cond (m.node == node) 1 0 + n) (pairs-count node k ms cs h.1 e.1)
    ∙ sym (count_by-cons (λ (m : ModuleEntry). m.node == node) m ms)
