-- A private section of zeros represents the initial state.
use Rattle.sx_compile.specs.Laws.{ZerosInitial}
use Rattle.std.proofs.Common.{◌≡◌, ℕ, zero, suc, ◌+◌, ◌%◌, ◌<◌, List, [], ◌∷◌, ◌++◌, length, replicate, refl, sym, ap, ◌∙◌, arith}
use Rattle.sx_lang.specs.declared.tree.Decl.{Decl}
use Rattle.sx_lang.specs.declared.tree.Decl.TheVariants.{Device, Input, Output, Var, Array}
use Rattle.sx_mean.specs.declared.events.End.{End}
use Rattle.sx_mean.specs.Places.{initial_cells, first_cells}
use Rattle.spec_machine.specs.Memory.{word}
use Rattle.spec_machine.specs.Memory.{bytes_from}
use Rattle.sx_mean.specs.Offsets.{end_at, cell_at}
use Rattle.spec_invocation.specs.ModuleState.{EndState, end_state, end_states, initial_ends, closed_end, cells_from, state_of}
use Rattle.sx_lang.specs.Words.{DeclHasWords, DeclsHaveWords}
use Rattle.sx_stub.proofs.Mem.{bytes_from_same}
use Rattle.sx_stub.proofs.Slots.{end_state_is}
use Rattle.lemmas.proofs.Lists.{zero_at}

zero_word : (n a : ℕ) → word (replicate n 0) a ≡ 0
zero_word n a = let p = zero_at n (Rattle.spec_machine.specs.Memory.even a) in let q = zero_at n (Rattle.spec_machine.specs.Memory.even a + 1) in omega (arith, p, q)

zero_key : (n a : ℕ) → bytes_from (replicate n 0) a 16 ≡ replicate 16 0
unfolding bytes_from
zero_key n a = bytes_from_same (replicate 16 0) (replicate n 0) 0 a 16 (λ i lt. zero_at n (a + i) ∙ sym (zero_at 16 (0 + i)))

zero_end : (n k : ℕ) → end_state (replicate n 0) k ≡ closed_end
zero_end n k = end_state_is (replicate n 0) k 0 0 0 (replicate 16 0) (zero_word n (end_at k + 4)) (zero_word n (end_at k)) (zero_word n (end_at k + 2)) (zero_key n (end_at k + 8))

zero_ends : (n k : ℕ) (es : List End) → end_states (replicate n 0) k es ≡ initial_ends es
zero_ends n k [] = refl
zero_ends n k (e ∷ es) = ap (λ (x : EndState). x ∷ end_states (replicate n 0) (k + 1) es) (zero_end n k) ∙ ap (λ (xs : List EndState). closed_end ∷ xs) (zero_ends n (k + 1) es)

abbrev AreSmall : List ℕ → Type 0
AreSmall [] = Unit {0}
AreSmall (v ∷ vs) = (v < 65536) × AreSmall vs

zero_cells : (n a : ℕ) (first : List ℕ) → AreSmall first → cells_from (replicate n 0) a first ≡ first
zero_cells n a [] h = refl
zero_cells n a (v ∷ first) h =
    let w = zero_word n a in let lt = h.0 in
    let e : (word (replicate n 0) a + v) % 65536 ≡ v = omega (arith, w, lt) in
    ap (λ (x : ℕ). x ∷ cells_from (replicate n 0) (a + 2) first) e ∙ ap (λ (xs : List ℕ). v ∷ xs) (zero_cells n (a + 2) first h.1)

both_small : (xs ys : List ℕ) → AreSmall xs → AreSmall ys → AreSmall (xs ++ ys)
both_small [] ys p q = q
both_small (x ∷ xs) ys p q = (p.0, both_small xs ys p.1 q)

zeros_small : (n : ℕ) → AreSmall (replicate n 0)
zeros_small zero = tt
zeros_small (suc n) = (omega arith, zeros_small n)

first_small : (d : Decl) → DeclHasWords d → AreSmall (first_cells d)
first_small (Device k) h = tt
first_small (Input x) h = tt
first_small (Output x) h = tt
first_small (Var x v) h = (h, tt)
first_small (Array x n) h = zeros_small n

cells_small : (ds : List Decl) → DeclsHaveWords ds → AreSmall (initial_cells ds)
cells_small [] h = tt
cells_small (d ∷ ds) h = both_small (first_cells d) (initial_cells ds) (first_small d h.0) (cells_small ds h.1)

pub zeros_initial : ZerosInitial
unfolding state_of
zeros_initial tree ends n words =
    ap (λ (x : List ℕ). Rattle.sx_stub.proofs.Slots.module_state x (end_states (replicate n 0) 0 ends))
    (zero_cells n (cell_at (length ends) 0) (initial_cells tree.decls) (cells_small tree.decls words.decls))
    ∙ ap (λ (x : List EndState). Rattle.sx_stub.proofs.Slots.module_state (initial_cells tree.decls) x) (zero_ends n 0 ends)
