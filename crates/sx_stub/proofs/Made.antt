-- The stub's operations are what they are to be.
use Rattle.std.proofs.Common.{◌≡◌, ℕ, ◌+◌, ◌*◌, ◌<◌, ◌≤◌, Bool, true, false, List, [], ◌∷◌, ◌++◌, length, length-append, drop, get_or, add-one, Option, Some, None, subst, sym, ap, ◌∙◌, arith}
use Rattle.std.specs.Prelude.{All, if◌then◌else◌, slice_get}
use Rattle.std.proofs.Math.Seq.{drop-cons}
use Rattle.std.proofs.lemmas.List.{get_or_append_left}
use Rattle.std.proofs.lemmas.Option.{slice_get-get_or}
use Rattle.std.proofs.lemmas.List.Elements.{All-cons}
use Rattle.sx_lang.specs.Tree.{ModuleTree}
use Rattle.sx_mean.specs.declared.events.End.{End}
use Rattle.sx_mean.specs.declared.events.SourceEvent.TheVariants as event
use Rattle.sx_ir.specs.declared.ir.Code.{Code}
use Rattle.sx_ir.specs.declared.ir.Ir.{Ir}
use Rattle.sx_ir.specs.declared.ir.Ir.TheVariants as ir
use Rattle.sx_mean.specs.Handlers.{number_of}
use Rattle.sx_stub.specs.Stub.{Cases, case_of, cases, find_any, handled_by, input_found, key_found, key_place, found_code, open_any, returns, sample_code}
use Rattle.sx_stub.specs.Stub.{set_key_code, attest_code, input_code, search_code, stub_code, stub_ops, take_receiving}
use Rattle.std.specs.List.{list_all}
use Rattle.sx_stub.specs.Sound.{AreSound, is_plain}
use Rattle.sx_stub.specs.Weight.{FitsWeight}
use Rattle.sx_stub.specs.Stubs.{StubsTo}
use Rattle.sx_stub.proofs.Fit.{length-find}
use Rattle.sx_stub.proofs.StubFits.{stub_fits}
use Rattle.sx_stub.proofs.StubSound.{stub_sound}

-- this many operations at most for each end
cases_within : (cs : Cases) (n : ℕ) → ((place k : ℕ) (e : End) → length (cs.body place k e) ≤ n) → (place k : ℕ) (es : List End) → length (cases cs place k es) ≤ (2 + n) * length es
cases_within cs n f place k [] = omega arith
cases_within cs n f place k (e ∷ es) =
    let first = case_of cs place k e in
    let a = length-append first (cases cs (place + length first) (k + 1) es) in
    let b = one (cs.has e) in
    let c = cases_within cs n f (place + length first) (k + 1) es in
    omega (arith, a, b, c)
  where
    one : (b : Bool) → length (if b then ir.JumpEqual cs.offset (cs.number k e) (place + 2) ∷ ir.Jump (place + 2 + length (cs.body (place + 2) k e)) ∷ cs.body (place + 2) k e else [])
        ≤ 2 + n
    one true = let h = f (place + 2) k e in omega (arith, h)
    one false = omega arith

handled_within : (n : Option ℕ) → length (handled_by n) ≤ 4
handled_within None = omega arith
handled_within (Some h) = omega arith

stub_short : (tree : ModuleTree) (ends : List End) → length ends ≤ 16 → length (stub_ops tree ends) ≤ 1024
unfolding stub_code
stub_short tree ends few =
    let q_key = 21 + length (sample_code tree 21) in
    let q_attest = q_key + 21 in
    let q_input = q_attest + 11 in
    let q_search = q_input + 11 in
    let found = q_search + 4 * length ends + 3 in
    let key = key_place tree ends found in
    let find = cases (find_any found) q_search 0 ends in
    let l5 = set_key_code q_search q_key ++ (attest_code q_attest ++ (input_code q_input ++ search_code tree ends q_search)) in
    let h = handled_within (number_of tree (event.Sample 0)) in
    let a0 = length-append (sample_code tree 21) l5 in
    let a1 = length-append find (returns 5 ++ found_code tree ends found) in
    let a2 = length-append (input_found tree ends (found + 3)) (key_found ends key) in
    let b1 = length-find found q_search 0 ends in
    let b2 = cases_within (take_receiving tree) 16 (λ p k e. (let n = handled_within (number_of tree (event.Input e.port 0)) in omega (arith, n))) (found + 3 + 41) 0 ends in
    let b3 = cases_within open_any 4 (λ p k e. omega arith) (key + 29) 0 ends in
    let z = length-append (stub_code tree ends) (returns 5) in
    omega (arith, few, h, a0, a1, a2, b1, b2, b3, z)

-- the first operations of code
pub first_of : (xs ys : List Ir) (i : ℕ) → i < length xs → slice_get (xs ++ ys) i ≡ slice_get xs i
first_of xs ys i l =
    let d = get_or xs i (ir.Push 0) in
    slice_get-get_or (xs ++ ys) i d (omega (arith, l, length-append xs ys)) ∙ ap Some (get_or_append_left xs ys d i l) ∙ sym (slice_get-get_or xs i d l)

-- the stub's come first, whatever follows its operations
pub first : (tree : ModuleTree) (ends : List End) (behind : List Ir) (i : ℕ) → i < length (stub_code tree ends) → slice_get (stub_ops tree ends ++ behind) i ≡ slice_get (stub_code tree ends) i
first tree ends behind i l =
    first_of (stub_ops tree ends) behind i (omega (arith, l, length-append (stub_code tree ends) (returns 5))) ∙ first_of (stub_code tree ends) (returns 5) i l

pub stubs : (tree : ModuleTree) (ends : List End) (code : Code) → length ends ≤ 16 → All (λ e. e.link < 256) ends → code.ops.items ≡ stub_ops tree ends → code.parts.items ≡ [] → StubsTo tree ends code
stubs tree ends code few links is none = record {
  is = is;
  begins = λ behind i l. ap (λ ops. slice_get (ops ++ behind) i) is ∙ first tree ends behind i l;
  no_parts = none;
  short = subst (λ ops. length ops ≤ 1024) (sym is) (stub_short tree ends few);
  fits = subst (FitsWeight ends) (sym is) (stub_fits tree ends few);
  sound = λ ops short. subst (AreSound tree ends ops) (sym is) (stub_sound tree ends ops few links (subst (λ code. length code ≤ ops) is short)).0;
  plain = subst (λ ops. list_all is_plain ops ≡ true) (sym is) (stub_sound tree ends (length (stub_ops tree ends)) few links (omega arith)).1;
}

-- the link of one end, and then those of the others
pub links_turn : (ends : List End) (i : ℕ) (d : End) → i < length ends → (get_or ends i d).link < 256 → (All (λ e. e.link < 256) (drop i ends) → All (λ e. e.link < 256) ends)
    → All (λ e. e.link < 256) (drop (i + 1) ends) → All (λ e. e.link < 256) ends
links_turn ends i d l here inv rest =
    let is : drop i ends ≡ get_or ends i d ∷ drop (i + 1) ends = drop-cons ends i d l ∙ ap (λ n. get_or ends i d ∷ drop n ends) (sym (add-one i)) in
    inv (subst (All (λ e. e.link < 256)) (sym is) (All-cons (λ e. e.link < 256) (get_or ends i d) (drop (i + 1) ends) here rest))
