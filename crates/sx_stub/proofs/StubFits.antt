-- The stub's bytes.
use Rattle.std.proofs.Common.{ℕ, ◌+◌, ◌*◌, ◌≤◌, Bool, true, false, List, [], ◌∷◌, ◌++◌, length, Option, Some, None, arith}
use Rattle.std.specs.Prelude.{if◌then◌else◌}
use Rattle.sx_lang.specs.Tree.{ModuleTree}
use Rattle.sx_mean.specs.declared.events.End.{End}
use Rattle.sx_mean.specs.declared.events.SourceEvent.TheVariants as event
use Rattle.sx_ir.specs.declared.ir.Ir.TheVariants as ir
use Rattle.sx_mean.specs.Handlers.{number_of}
use Rattle.sx_stub.specs.Stub.{Cases, case_of, cases, find_any, open_any, take_receiving, take_event, is_receiving, handled_by, set_key_code, key_found}
use Rattle.sx_stub.specs.Stub.{key_place, found_code, search_code, attest_code, input_code, input_found, sample_code, stub_code, returns}
use Rattle.sx_stub.specs.Weight.{routine_bytes, StubFits}
use Rattle.sx_ir.specs.Sizes.{ops_bytes}
use Rattle.sx_ir.proofs.Appended.{ops_bytes-append}

-- this many for each end that has a case
abbrev all_ends : (End → Bool) → ℕ → List End → ℕ
all_ends has n [] = 0
all_ends has n (e ∷ es) = (if has e then n else 0) + all_ends has n es

cases_bytes : (cs : Cases) (n : ℕ) → ((place k : ℕ) (e : End) → ops_bytes (cs.body place k e) ≤ n) → (place k : ℕ) (es : List End) → ops_bytes (cases cs place k es) ≤ all_ends cs.has (16 + n) es
cases_bytes cs n f place k [] = omega arith
cases_bytes cs n f place k (e ∷ es) =
    let first = case_of cs place k e in
    let a = ops_bytes-append first (cases cs (place + length first) (k + 1) es) in
    let b = one (cs.has e) in
    let c = cases_bytes cs n f (place + length first) (k + 1) es in
    omega (arith, a, b, c)
  where
    one : (b : Bool) → ops_bytes (if b then ir.JumpEqual cs.offset (cs.number k e) (place + 2) ∷ ir.Jump (place + 2 + length (cs.body (place + 2) k e)) ∷ cs.body (place + 2) k e else [])
        ≤ (if b then 16 + n else 0)
    one true = let h = f (place + 2) k e in omega (arith, h)
    one false = omega arith

handled_bytes : (n : Option ℕ) → ops_bytes (handled_by n) ≤ 26
handled_bytes None = omega arith
handled_bytes (Some h) = omega arith

take_bytes : (tree : ModuleTree) (place k : ℕ) (e : End) → ops_bytes (take_event tree place k e) ≤ 100
take_bytes tree place k e = let h = handled_bytes (number_of tree (event.Input e.port 0)) in omega (arith, h)

sum_ends : (es : List End) → all_ends (λ e. true) 24 es + all_ends (λ e. true) 36 es + all_ends is_receiving 116 es + routine_bytes es ≤ 200 * length es
sum_ends [] = omega arith
sum_ends (e ∷ es) = let a = sum_ends es in go (is_receiving e) a
  where
    go : (b : Bool) → all_ends (λ e. true) 24 es + all_ends (λ e. true) 36 es + all_ends is_receiving 116 es + routine_bytes es ≤ 200 * length es
        → (24 + all_ends (λ e. true) 24 es) + (36 + all_ends (λ e. true) 36 es) + ((if b then 116 else 0) + all_ends is_receiving 116 es) + ((if b then 0 else 140) + routine_bytes es) ≤ 200 * length
        (e ∷ es)
    go true h = omega (arith, h)
    go false h = omega (arith, h)

pub stub_fits : StubFits
unfolding stub_code
stub_fits tree ends few =
    let n_sample = length (sample_code tree 21) in
    let q_key = 21 + n_sample in
    let q_attest = q_key + 21 in
    let q_input = q_attest + 11 in
    let q_search = q_input + 11 in
    let found = q_search + 4 * length ends + 3 in
    let key = key_place tree ends found in
    let c1 = cases (find_any found) q_search 0 ends in
    let c2 = cases (take_receiving tree) (found + 3 + 41) 0 ends in
    let c3 = cases open_any (key + 29) 0 ends in
    let r1 = returns 5 ++ found_code tree ends found in
    let l7 = input_code q_input ++ search_code tree ends q_search in
    let l6 = attest_code q_attest ++ l7 in
    let l5 = set_key_code q_search q_key ++ l6 in
    let h = handled_bytes (number_of tree (event.Sample 0)) in
    let a0 = ops_bytes-append (sample_code tree 21) l5 in
    let a1 = ops_bytes-append c1 r1 in
    let a2 = ops_bytes-append (input_found tree ends (found + 3)) (key_found ends key) in
    let b1 = cases_bytes (find_any found) 8 (λ p k e. omega arith) q_search 0 ends in
    let b2 = cases_bytes (take_receiving tree) 100 (take_bytes tree) (found + 3 + 41) 0 ends in
    let b3 = cases_bytes open_any 20 (λ p k e. omega arith) (key + 29) 0 ends in
    let t = sum_ends ends in
    let z = ops_bytes-append (stub_code tree ends) (returns 5) in
    omega (arith, few, h, a0, a1, a2, b1, b2, b3, t, z)
