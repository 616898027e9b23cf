-- What the ten rules give.
use Rattle.std.proofs.Common.{◌≡◌, ◌≢◌, ℕ, ◌≤◌, ◌⊎◌, inl, inr, Bool, true, false, ◌||◌, ◌&&◌, not, List, [], ◌∷◌, length, None, nat_lt, nat_le, count_by, refl, sym, ap, ◌∙◌, subst, arith}
use Rattle.std.specs.List.{list_any, All, AllPairs}
use Rattle.std.proofs.lemmas.Bool.{ltb-false, or_parts, both_ways, or_right}
use Rattle.std.proofs.lemmas.Bool.Decides.{nat_tests}
use Rattle.std.proofs.lemmas.List.Elements.{All-nil, All-cons, All-weaker}
use Rattle.sx_lang.specs.declared.tree.Decl.{Decl}
use Rattle.sx_lang.specs.declared.tree.Decl.TheVariants.{Device, Input, Output, Var, Array}
use Rattle.sx_lang.specs.Sizes.{module_cost, module_nodes, declared_cells}
use Rattle.sx_lang.specs.Tree.{HandlerTree, ModuleTree}
use Rattle.sx_check.specs.declared.rules.Rule.TheVariants as rule
use Rattle.sx_check.specs.Names.{declares, has_taken, is_actuator, is_declared, is_device, is_handled_twice, is_repeated, is_sample, is_sensor, is_taken, locals, same, same_input}
use Rattle.sx_check.specs.Uses.{Use, used, declares_as, handler_uses, handlers_uses, is_local, is_misused, is_seen, is_unknown}
use Rattle.sx_check.specs.Bounds.{block_counts, block_emits, block_sends, is_input, is_misfit, is_miscounted, is_output}
use Rattle.sx_check.specs.Rules.{breaks, first_broken, is_too_deep}
use Rattle.sx_check.specs.Accepted.{HasLength, IsAcceptedModule, IsCount, IsFine, IsProper}
use Rattle.sx_check.proofs.Keeps.{In, keeps, none_is, uses_in}
use Rattle.sx_check.proofs.Distinct.{all_not, apart, none_counted, pairs_weaker, same-refl, same-true, same_input-refl}
use Rattle.lemmas.proofs.Truths.{and_not}

-- Declarations

-- the name is this declaration's, or one further on is declared
this_or : (all : List Decl) (x y : List ℕ) → nat_lt 1 (count_by (declares y) all) ≡ false → (later : Bool) → (same x y || later) ≡ true
    → (later ≡ true → count_by (declares x) all ≤ 1) → count_by (declares x) all ≤ 1
this_or all x y n later h more = go (same x y) refl h
  where
    go : (t : Bool) → same x y ≡ t → (t || later) ≡ true → count_by (declares x) all ≤ 1
    go true e h = subst (λ z. count_by (declares z) all ≤ 1) (sym (same-true x y e)) (ltb-false 1 (count_by (declares y) all) n)
    go false e h = more h

-- a name that is declared is declared once
once : (ds all : List Decl) (x : List ℕ) → list_any (is_repeated all) ds ≡ false → list_any (declares x) ds ≡ true → count_by (declares x) all ≤ 1
once [] all x r h = absurd (cc)
once (Device kind ∷ ds) all x r h = once ds all x (or_parts _ _ r).1 h
once (Input y ∷ ds) all x r h = this_or all x y (or_parts _ _ r).0 (list_any (declares x) ds) h (once ds all x (or_parts _ _ r).1)
once (Output y ∷ ds) all x r h = this_or all x y (or_parts _ _ r).0 (list_any (declares x) ds) h (once ds all x (or_parts _ _ r).1)
once (Var y n ∷ ds) all x r h = this_or all x y (or_parts _ _ r).0 (list_any (declares x) ds) h (once ds all x (or_parts _ _ r).1)
once (Array y n ∷ ds) all x r h = this_or all x y (or_parts _ _ r).0 (list_any (declares x) ds) h (once ds all x (or_parts _ _ r).1)

declared_once : (ds : List Decl) → list_any (is_repeated ds) ds ≡ false → (x : List ℕ) → count_by (declares x) ds ≤ 1
declared_once ds r x = go (list_any (declares x) ds) refl
  where
    go : (t : Bool) → list_any (declares x) ds ≡ t → count_by (declares x) ds ≤ 1
    go true e = once ds ds x r e
    go false e = omega (arith, none_counted (declares x) ds e)

device_once : (ds all : List Decl) → list_any (is_repeated all) ds ≡ false → list_any is_device ds ≡ true → count_by is_device all ≤ 1
device_once [] all r h = absurd (cc)
device_once (Device kind ∷ ds) all r h = ltb-false 1 (count_by is_device all) (or_parts _ _ r).0
device_once (Input y ∷ ds) all r h = device_once ds all (or_parts _ _ r).1 h
device_once (Output y ∷ ds) all r h = device_once ds all (or_parts _ _ r).1 h
device_once (Var y n ∷ ds) all r h = device_once ds all (or_parts _ _ r).1 h
device_once (Array y n ∷ ds) all r h = device_once ds all (or_parts _ _ r).1 h

one_device : (ds : List Decl) → list_any (is_repeated ds) ds ≡ false → count_by is_device ds ≤ 1
one_device ds r = go (list_any is_device ds) refl
  where
    go : (t : Bool) → list_any is_device ds ≡ t → count_by is_device ds ≤ 1
    go true e = device_once ds ds r e
    go false e = omega (arith, none_counted is_device ds e)

in_bounds : (n k : ℕ) → (not (nat_le 1 n) || not (nat_le n k)) ≡ false → (1 ≤ n) × (n ≤ k)
in_bounds n k h = let b = or_parts (not (nat_le 1 n)) (not (nat_le n k)) h in (grind (arith, nat_tests, b.0), grind (arith, nat_tests, b.1))

lengths : (ds : List Decl) → list_any is_misfit ds ≡ false → All HasLength ds
lengths [] h = All-nil HasLength
lengths (Device kind ∷ ds) h = All-cons HasLength _ ds tt (lengths ds h)
lengths (Input x ∷ ds) h = All-cons HasLength _ ds tt (lengths ds h)
lengths (Output x ∷ ds) h = All-cons HasLength _ ds tt (lengths ds h)
lengths (Var x n ∷ ds) h = All-cons HasLength _ ds tt (lengths ds h)
lengths (Array x n ∷ ds) h = let b = or_parts (not (nat_le 1 n) || not (nat_le n 1024)) (list_any is_misfit ds) h in All-cons HasLength _ ds (in_bounds n 1024 b.0) (lengths ds b.1)

-- Names

-- a name that is known and not misused
proper : (ds : List Decl) (us : List Use) → list_any (is_unknown ds) us ≡ false → list_any (is_misused ds) us ≡ false → All (IsProper ds) us
proper ds [] n m = All-nil (IsProper ds)
proper ds (used role x seen ∷ us) n m =
    let k = or_parts _ _ n in
    let u = or_parts _ _ m in
    All-cons (IsProper ds) _ us (must (is_declared ds x) (is_seen seen x) (list_any (declares_as role x) ds) (is_local role x seen) k.0 u.0) (proper ds us k.1 u.1)
  where
    must : (d s v l : Bool) → not (d || s) ≡ false → ((d || s) && not (v || l)) ≡ false → (l ≡ true) ⊎ (v ≡ true)
    must d s v true n m = inl refl
    must d s true false n m = inr refl
    must true s false false n m = absurd (cc)
    must false true false false n m = absurd (cc)
    must false false false false n m = absurd (cc)

-- what each of the handlers is
all_in : (P : HandlerTree → Type 0) (hs : List HandlerTree) → ((h : HandlerTree) → In h hs → P h) → All P hs
all_in P [] f = All-nil P
all_in P (h ∷ hs) f = All-cons P h hs (f h (inl refl)) (all_in P hs (λ g i. f g (inr i)))

-- what one of the handlers is
some_is : (P : HandlerTree → Bool) (h : HandlerTree) (hs : List HandlerTree) → In h hs → P h ≡ true → list_any P hs ≡ true
some_is P h [] i e = absurd i
some_is P h (x ∷ hs) (inl q) e = ap (λ b. b || list_any P hs) (ap P q ∙ e)
some_is P h (x ∷ hs) (inr i) e = or_right (P x) _ (some_is P h hs i e)

untaken : (ds : List Decl) (h : HandlerTree) → has_taken ds h ≡ false → All (λ x. (is_declared ds x ≡ false) × (count_by (same x) (locals h) ≤ 1)) (locals h)
unfolding has_taken is_taken
untaken ds h n = All-weaker (λ x. is_taken ds h x ≡ false) (λ x. (is_declared ds x ≡ false) × (count_by (same x) (locals h) ≤ 1))
    (λ x e. (let b = or_parts (is_declared ds x) (nat_lt 1 (count_by (same x) (locals h))) e in (b.0, ltb-false 1 (count_by (same x) (locals h)) b.1)))
    (locals h) (all_not (is_taken ds h) (locals h) n)

differ : (r : List ℕ → List ℕ → Bool) (own : (x : List ℕ) → r x x ≡ true) (x y : List ℕ) → r x y ≡ false → x ≢ y
differ r own x y n e = both_ways (r x y) n (subst (λ z. r x z ≡ true) e (own x))

handled_apart : (g h : HandlerTree) → same_input g.input h.input ≡ false → g.input ≢ h.input
handled_apart g h n e = both_ways (same_input g.input h.input) n (subst (λ z. same_input g.input z ≡ true) e (same_input-refl g.input))

handled_once : (hs : List HandlerTree) → list_any (is_handled_twice hs) hs ≡ false → AllPairs (λ g h. g.input ≢ h.input) hs
unfolding is_handled_twice
handled_once hs n =
    pairs_weaker (λ (g h : HandlerTree). same_input g.input h.input ≡ false) (λ (g h : HandlerTree). g.input ≢ h.input) handled_apart hs
    (apart (λ (g h : HandlerTree). same_input g.input h.input) (λ h. same_input-refl h.input) hs (All-weaker (λ (h : HandlerTree). is_handled_twice hs h
    ≡ false) (λ (h : HandlerTree). count_by (λ (g : HandlerTree). same_input h.input g.input) hs ≤ 1)
    (λ h e. ltb-false 1 (count_by (λ (g : HandlerTree). same_input h.input g.input) hs) e) hs (all_not (is_handled_twice hs) hs n)))

module _ (m : ModuleTree) (checked : first_broken m ≡ None) where
  repeated : (list_any (is_repeated m.decls) m.decls || (list_any (has_taken m.decls) m.handlers || list_any (is_handled_twice m.handlers) m.handlers)) ≡ false
  unfolding breaks
  repeated = keeps m checked rule.Duplicate

  unknown : list_any (is_unknown m.decls) (handlers_uses m.handlers) ≡ false
  unfolding breaks
  unknown = keeps m checked rule.Unknown

  misused : (list_any (is_misused m.decls) (handlers_uses m.handlers) || ((list_any is_sample m.handlers && not (list_any is_sensor m.decls)) || (list_any (λ h. block_emits h.body) m.handlers && not (list_any is_actuator m.decls)))) ≡ false
  unfolding breaks
  misused = keeps m checked rule.Kind

  blind : (list_any is_sample m.handlers && not (list_any is_sensor m.decls)) ≡ false
  blind = (or_parts _ _ (or_parts _ _ misused).1).0

  nowhere : (list_any (λ h. block_emits h.body) m.handlers && not (list_any is_actuator m.decls)) ≡ false
  nowhere = (or_parts _ _ (or_parts _ _ misused).1).1

  deep : list_any is_too_deep m.handlers ≡ false
  unfolding breaks
  deep = keeps m checked rule.Depth

  crowded : list_any (λ h. nat_lt 16 (length (locals h))) m.handlers ≡ false
  unfolding breaks
  crowded = keeps m checked rule.Locals

  turns : list_any (λ h. list_any is_miscounted (block_counts h.body)) m.handlers ≡ false
  unfolding breaks
  turns = keeps m checked rule.Repeat

  sending : list_any (λ h. nat_lt 16 (block_sends h.body)) m.handlers ≡ false
  unfolding breaks
  sending = keeps m checked rule.Packets

  dear : nat_lt 262144 (module_cost m) ≡ false
  unfolding breaks
  dear = keeps m checked rule.Cost

  large : (nat_lt 512 (module_nodes m) || (nat_lt 255 (count_by is_input m.decls) || nat_lt 255 (count_by is_output m.decls))) ≡ false
  unfolding breaks
  large = keeps m checked rule.Nodes

  long : (list_any is_misfit m.decls || nat_lt 1024 (declared_cells m.decls)) ≡ false
  unfolding breaks
  long = keeps m checked rule.Cells

  pub fine : (h : HandlerTree) → In h m.handlers → IsFine m h
  fine h i =
      let low = or_parts _ _ (none_is is_too_deep h m.handlers i deep) in
      let free_of = λ (x : List ℕ). (is_declared m.decls x ≡ false) × (count_by (same x) (locals h) ≤ 1) in
      let free = untaken m.decls h (none_is (has_taken m.decls) h m.handlers i (or_parts _ _ (or_parts _ _ repeated).1).0) in
      record {
        proper = proper m.decls (handler_uses h) (uses_in (is_unknown m.decls) h m.handlers i unknown) (uses_in (is_misused m.decls) h m.handlers i (or_parts _ _ misused).0);
        few_locals = ltb-false 16 _ (none_is (λ h. nat_lt 16 (length (locals h))) h m.handlers i crowded);
        distinct = pairs_weaker (λ x y. same x y ≡ false) (λ x y. x ≢ y) (differ same same-refl) (locals h)
            (apart same same-refl (locals h) (All-weaker free_of (λ x. count_by (same x) (locals h) ≤ 1) (λ x p. p.1) (locals h) free));
        undeclared = All-weaker free_of (λ x. is_declared m.decls x ≡ false) (λ x p. p.0) (locals h) free;
        height = ltb-false 32 _ low.0;
        depth = ltb-false 15 _ low.1;
        counts = All-weaker (λ n. is_miscounted n ≡ false) IsCount (λ n e. in_bounds n 256 e) (block_counts h.body)
            (all_not is_miscounted (block_counts h.body) (none_is (λ h. list_any is_miscounted (block_counts h.body)) h m.handlers i turns));
        sends = ltb-false 16 _ (none_is (λ h. nat_lt 16 (block_sends h.body)) h m.handlers i sending);
        samples = λ e. and_not _ _ blind (some_is is_sample h m.handlers i (ap (λ x. same_input None x) e));
        emits = λ e. and_not _ _ nowhere (some_is (λ h. block_emits h.body) h m.handlers i e);
      }

  pub accepted : IsAcceptedModule m
  accepted =
      let r = or_parts _ _ repeated in
      let l = or_parts _ _ large in
      let p = or_parts _ _ l.1 in
      let c = or_parts _ _ long in
      record {
        declared_once = declared_once m.decls r.0;
        one_device = one_device m.decls r.0;
        handled_once = handled_once m.handlers (or_parts _ _ r.1).1;
        handlers = all_in (IsFine m) m.handlers fine;
        cost = ltb-false 262144 _ dear;
        nodes = ltb-false 512 _ l.0;
        inputs = ltb-false 255 _ p.0;
        outputs = ltb-false 255 _ p.1;
        arrays = lengths m.decls c.0;
        cells = ltb-false 1024 _ c.1;
      }
