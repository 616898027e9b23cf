-- What changes of the private section's bytes do to the state that they represent.
use Rattle.std.proofs.Common.{◌≡◌, ◌≢◌, ℕ, zero, suc, ◌+◌, ◌%◌, ◌<◌, ◌≤◌, ◌⊎◌, inl, inr, not, ◌==◌, List, [], ◌∷◌, length, get_or, refl, sym, ap, ◌∙◌, arith}
use Rattle.sx_lang.specs.Tree.{ModuleTree}
use Rattle.sx_mean.specs.declared.events.End.{End}
use Rattle.sx_mean.specs.Places.{initial_cells}
use Rattle.sx_mean.specs.Offsets.{end_at, cell_at}
use Rattle.spec_machine.specs.Memory.{word, bytes_from}
use Rattle.spec_invocation.specs.Setup.{Setup, Call}
use Rattle.spec_invocation.specs.ModuleState.{ModuleState, EndState, end_state, end_states, end_of, with_end, cells_from, state_of}
use Rattle.spec_invocation.specs.Progress.{Progress}
use Rattle.sx_ir.specs.Conf.{Conf}
use Rattle.sx_stub.specs.Invokes.{ShowsCall}
use Rattle.sx_stub.proofs.Mem.{word_same, bytes_from_same, AllBytes}
use Rattle.sx_stub.proofs.Straight.{at}

-- two lists agree at an index
abbrev pub Same : List ℕ → List ℕ → ℕ → Type 0
Same m n k = get_or n k 0 ≡ get_or m k 0

abbrev pub end_with : ℕ → ℕ → ℕ → List ℕ → EndState
end_with opened field number key = record { is_open = not (opened == 0); field = field; number = number; key = key }

pub end_state_is : (m : List ℕ) (k opened field number : ℕ) (key : List ℕ) → word m (end_at k + 4) ≡ opened
    → word m (end_at k) ≡ field → word m (end_at k + 2) ≡ number → bytes_from m (end_at k + 8) 16 ≡ key
    → end_state m k ≡ end_with opened field number key
unfolding end_state
end_state_is m k opened field number key a b c d =
    ap (λ (x : ℕ). end_with x (word m (end_at k)) (word m (end_at k + 2)) (bytes_from m (end_at k + 8) 16)) a
    ∙ ap (λ (x : ℕ). end_with opened x (word m (end_at k + 2)) (bytes_from m (end_at k + 8) 16)) b
    ∙ ap (λ (x : ℕ). end_with opened field x (bytes_from m (end_at k + 8) 16)) c
    ∙ ap (λ (x : List ℕ). end_with opened field number x) d

pub end_state_same : (m n : List ℕ) (k : ℕ) → ((i : ℕ) → end_at k ≤ i → i < end_at k + 24 → Same m n i)
    → end_state n k ≡ end_state m k
end_state_same m n k f =
    end_state_is n k (word m (end_at k + 4)) (word m (end_at k)) (word m (end_at k + 2)) (bytes_from m (end_at k + 8) 16)
    (same 4 (omega arith) (omega arith)) (word_same m n (end_at k) (end_at k) (omega arith) (omega arith) (f (end_at k) (omega arith) (omega arith)) (f (end_at k + 1) (omega arith) (omega arith)))
    (same 2 (omega arith) (omega arith)) (bytes_from_same m n (end_at k + 8) (end_at k + 8) 16 (λ i p. f (end_at k + 8 + i) (omega arith) (omega arith)))
    ∙ sym (end_state_is m k (word m (end_at k + 4)) (word m (end_at k)) (word m (end_at k + 2)) (bytes_from m (end_at k + 8) 16) refl refl refl refl)
  where
    same : (o : ℕ) → o % 2 ≡ 0 → o + 1 < 24 → word n (end_at k + o) ≡ word m (end_at k + o)
    same o e lt = word_same m n (end_at k + o) (end_at k + o) (omega (arith, e)) (omega (arith, e)) (f (end_at k + o) (omega arith) (omega (arith, lt)))
        (f (end_at k + o + 1) (omega arith) (omega (arith, lt)))

pub end_states_same : (m n : List ℕ) (es : List End) (k : ℕ)
    → ((i : ℕ) → end_at k ≤ i → i < end_at (k + length es) → Same m n i) → end_states n k es ≡ end_states m k es
end_states_same m n [] k f = refl
end_states_same m n (e ∷ es) k f =
    let here = end_state_same m n k (λ i p q. f i p (omega arith)) in
    let rest = end_states_same m n es (k + 1) (λ i p q. f i (omega arith) (omega arith)) in
    ap (λ (x : EndState). x ∷ end_states n (k + 1) es) here ∙ ap (λ (xs : List EndState). end_state m k ∷ xs) rest

pub cells_same : (m n : List ℕ) (first : List ℕ) (a : ℕ) → a % 2 ≡ 0 → ((i : ℕ) → a ≤ i → Same m n i)
    → cells_from n a first ≡ cells_from m a first
cells_same m n [] a e f = refl
cells_same m n (v ∷ first) a e f =
    let here = word_same m n a a e e (f a (omega arith)) (f (a + 1) (omega arith)) in
    let rest = cells_same m n first (a + 2) (omega (arith, e)) (λ i p. f i (omega arith)) in
    ap (λ (x : ℕ). (x + v) % 65536 ∷ cells_from n (a + 2) first) here ∙ ap (λ (xs : List ℕ). (word m a + v) % 65536 ∷ xs) rest

abbrev pub module_state : List ℕ → List EndState → ModuleState
module_state cells ends = record { cells = cells; ends = ends }

-- bytes before 512 don't count
pub state_same : (tree : ModuleTree) (ends : List End) (m n : List ℕ) → ((i : ℕ) → 512 ≤ i → Same m n i)
    → state_of tree ends n ≡ state_of tree ends m
unfolding state_of
state_same tree ends m n f =
    let a = cells_same m n (initial_cells tree.decls) (cell_at (length ends) 0) (omega arith) (λ i p. f i (omega arith)) in
    let b = end_states_same m n ends 0 (λ i p q. f i (omega arith)) in
    ap (λ (x : List ℕ). module_state x (end_states n 0 ends)) a ∙ ap (λ (x : List EndState). module_state (cells_from m (cell_at (length ends) 0) (initial_cells tree.decls)) x) b

-- a change of one slot
pub end_states_put : (m n : List ℕ) (es : List End) (j k : ℕ) → k < length es
    → ((i : ℕ) → end_at j ≤ i → i < end_at (j + length es) → (i < end_at (j + k)) ⊎ (end_at (j + k) + 24 ≤ i) → Same m n i)
    → end_states n j es ≡ with_end (end_states m j es) k (end_state n (j + k))
end_states_put m n [] j k lt f = absurd (omega (arith, lt))
end_states_put m n (e ∷ es) j zero lt f =
    let same : j ≡ j + zero = omega arith in
    let rest = end_states_same m n es (j + 1) (λ i p q. f i (omega arith) (omega arith) (inr (omega arith))) in
    ap (λ (x : ℕ). end_state n x ∷ end_states n (j + 1) es) same ∙ ap (λ (xs : List EndState). end_state n (j + zero) ∷ xs) rest
end_states_put m n (e ∷ es) j (suc k) lt f =
    let same : j + 1 + k ≡ j + suc k = omega arith in
    let here = end_state_same m n j (λ i p q. f i p (omega arith) (inl (omega arith))) in
    let rest = end_states_put m n es (j + 1) k (omega (arith, lt)) (λ i p q o. f i (omega arith) (omega arith) (again i o)) in
    ap (λ (x : EndState). x ∷ end_states n (j + 1) es) here
    ∙ ap (λ (xs : List EndState). end_state m j ∷ xs) (rest ∙ ap (λ (x : ℕ). with_end (end_states m (j + 1) es) k (end_state n x)) same)
  where
    again : (i : ℕ) → (i < end_at (j + 1 + k)) ⊎ (end_at (j + 1 + k) + 24 ≤ i)
        → (i < end_at (j + suc k)) ⊎ (end_at (j + suc k) + 24 ≤ i)
    again i (inl p) = inl (omega (arith, p))
    again i (inr p) = inr (omega (arith, p))

pub state_put : (tree : ModuleTree) (ends : List End) (m n : List ℕ) (k : ℕ) → k < length ends → ((i : ℕ) → 512 ≤ i → (i < end_at k) ⊎ (end_at k + 24 ≤ i) → Same m n i)
    → state_of tree ends n ≡ record (state_of tree ends m) { ends = with_end (state_of tree ends m).ends k (end_state n k) }
unfolding state_of
state_put tree ends m n k lt f =
    let a = cells_same m n (initial_cells tree.decls) (cell_at (length ends) 0) (omega arith) (λ i p. f i (omega arith) (inr (omega (arith, lt)))) in
    let b = end_states_put m n ends 0 k lt (λ i p q o. f i (omega arith) (again i o)) in
    let same : 0 + k ≡ k = omega arith in
    ap (λ (x : List ℕ). module_state x (end_states n 0 ends)) a
    ∙ ap (λ (x : List EndState). module_state (cells_from m (cell_at (length ends) 0) (initial_cells tree.decls)) x) (b ∙ ap (λ (x : ℕ). with_end (end_states m 0 ends) k (end_state n x)) same)
  where
    again : (i : ℕ) → (i < end_at (0 + k)) ⊎ (end_at (0 + k) + 24 ≤ i) → (i < end_at k) ⊎ (end_at k + 24 ≤ i)
    again i (inl p) = inl (omega (arith, p))
    again i (inr p) = inr (omega (arith, p))

pub end_of_states : (m : List ℕ) (es : List End) (j k : ℕ) → k < length es
    → end_of (end_states m j es) k ≡ end_state m (j + k)
end_of_states m [] j k lt = absurd (omega (arith, lt))
end_of_states m (e ∷ es) j zero lt = ap (end_state m) (omega arith)
end_of_states m (e ∷ es) j (suc k) lt = end_of_states m es (j + 1) k (omega (arith, lt)) ∙ ap (end_state m) (omega arith)

-- the k-th end's state is in its slot
pub end_in_slot : (s : Setup) (call : Call) (p : Progress) (c : Conf) (k : ℕ) → ShowsCall s call p c → k < length s.ends
    → end_of p.state.ends k ≡ end_state c.priv k
unfolding state_of
end_in_slot s call p c k h lt =
    ap (λ (x : ModuleState). end_of x.ends k) (sym h.state) ∙ end_of_states c.priv s.ends 0 k lt ∙ ap (end_state c.priv) (omega arith)

-- Configurations that show the same.

pub shows_at : (s : Setup) (call : Call) (p : Progress) (c : Conf) (q : ℕ) (stack : List ℕ) → ShowsCall s call p c
    → ShowsCall s call p (at c q stack)
shows_at s call p c q stack h = record {
  size = h.size;
  bytes = h.bytes;
  state = h.state;
  mem = h.mem;
  devices = h.devices;
  marks = h.marks;
  entry = h.entry;
  input = h.input;
  output =
      h.output;
  back = h.back;
}

abbrev pub with_priv : Conf → List ℕ → ℕ → List ℕ → Conf
with_priv c priv q stack = record c { place = q; stack = stack; priv = priv }

-- the bytes that aren't to change: the caller's registers, and the slots and cells
abbrev pub IsKept : ℕ → Type 0
IsKept i = ((6 ≤ i) × (i < 14)) ⊎ (512 ≤ i)

-- it is none of the first four bytes
pub kept_high : (i : ℕ) → IsKept i → (b : ℕ) → b < 4 → i ≢ b
kept_high i (inl k) b lt = omega (arith, k.0, lt)
kept_high i (inr k) b lt = omega (arith, k, lt)

pub shows_priv : (s : Setup) (call : Call) (p : Progress) (c : Conf) (priv : List ℕ) (q : ℕ) (stack : List ℕ)
    → ShowsCall s call p c → length priv ≡ length c.priv → AllBytes priv → ((i : ℕ) → IsKept i → Same c.priv priv i)
    → ShowsCall s call p (with_priv c priv q stack)
shows_priv s call p c priv q stack h len bytes f = record {
  size = len ∙ h.size;
  bytes = bytes;
  state = state_same s.tree s.ends c.priv priv (λ i le. f i (inr le)) ∙ h.state;
  mem = h.mem;
  devices = h.devices;
  marks = h.marks;
  entry = kept 6 refl (omega arith) (omega arith) ∙ h.entry;
  input = kept 8 refl (omega arith) (omega arith) ∙ h.input;
  output = kept 10 refl (omega arith) (omega arith) ∙ h.output;
  back = kept 12 refl (omega arith) (omega arith) ∙ h.back;
}
  where
    kept : (a : ℕ) → a % 2 ≡ 0 → 6 ≤ a → a + 1 < 14 → word priv a ≡ word c.priv a
    kept a e lo hi = word_same c.priv priv a a e e (f a (inl (lo, omega (arith, hi)))) (f (a + 1) (inl (omega (arith, lo), hi)))
