-- What a test tells where it came out true, and where false.
use Rattle.std.specs.Prelude.{ℕ, ◌+◌, ◌-◌, ◌==◌, ◌&&◌, Bool, true, false, not, if◌then◌else◌, List}
use Rattle.std.specs.Prelude.{[], ◌∷◌, ◌++◌, Option, Some, None}
use Rattle.std.specs.Prelude.{max, min, nat_lt, slice_set}
use Rattle.std.specs.List.{flat_map}
use Rattle.sx_lang.specs.declared.tree.Decl.{Decl}
use Rattle.sx_lang.specs.declared.tree.UnOp.TheVariants.{Not}
use Rattle.sx_lang.specs.declared.tree.BinOp.TheVariants.{And, Eq, Ge, Gt, Le, Lt, Ne, Or}
use Rattle.sx_lang.specs.Tree.{Expression, Variable, Indexed, Applied, Combined}
use Rattle.sx_check.specs.Names.{same}
use Rattle.sx_mean.specs.Places.{place, array_length}
use Rattle.sx_span.specs.Intervals.{Interval, between, only}
use Rattle.sx_span.specs.Ranges.{LocalRange, Path, look_up_range, range_of}

-- the numbers of both
abbrev pub meet : Interval → Interval → Interval
meet i j = between (max i.low j.low) (min i.high j.high)

-- a local's interval, where there is one of this name
abbrev pub limit_local : List LocalRange → List ℕ → Interval → List LocalRange
limit_local [] x i = []
limit_local (l ∷ ls) x i =
    if same x l.name then record l { range = i } ∷ ls else l ∷ limit_local ls x i

-- a cell's interval, where no local hides it
abbrev pub limit_cell : Option Interval → List Interval → ℕ → Interval → List Interval
limit_cell None box k i = slice_set box k i
limit_cell (Some j) box k i = box

-- the path where a name's value lies in i
abbrev pub limit_name : List Decl → List ℕ → Interval → Path → Path
limit_name ds x i p = record p {
  locals = limit_local p.locals x i;
  cells = limit_cell (look_up_range p.locals x) p.cells (place ds x) i;
}

-- the path where an element's value lies in i: it tells of a cell where the index is known
abbrev pub limit_element : List Decl → List ℕ → Interval → Interval → Path → Path
limit_element ds x j i p = if j.low == j.high && nat_lt j.low (array_length ds x)
    then record p { cells = slice_set p.cells (place ds x + j.low) i } else p

-- the path where an expression's value lies in i
abbrev pub limit_to : List Decl → Expression → Interval → Path → Path
limit_to ds (Variable x) i p = limit_name ds x i p
limit_to ds (Indexed x e) i p = limit_element ds x (range_of ds p e) i p
limit_to ds e i p = p

-- the same of a value that may lie elsewhere: no path where it can't lie there
abbrev pub limit : List Decl → Expression → Interval → Path → List Path
limit ds e i p = let j = meet (range_of ds p e) i in
    if nat_lt j.high j.low then [] else limit_to ds e j p ∷ []

-- two at once
abbrev pub limit_both : List Decl → Expression → Interval → Expression → Interval → Path
    → List Path
limit_both ds a i b j p = flat_map (limit ds b j) (limit ds a i p)

-- where a is less than b, or b at most a
abbrev pub narrow_less : List Decl → Expression → Expression → Bool → Path → List Path
narrow_less ds a b t p = if t
    then limit_both ds a (between 0 ((range_of ds p b).high - 1))
    b (between ((range_of ds p a).low + 1) (range_of ds p b).high) p
    else limit_both ds a (between (range_of ds p b).low (range_of ds p a).high)
    b (between 0 (range_of ds p a).high) p

-- an interval without a number that is its end
abbrev pub without : Interval → Interval → Interval
without i j = if j.low == j.high
    then between (if i.low == j.low then i.low + 1 else i.low)
    (if i.high == j.low then i.high - 1 else i.high)
    else i

-- where a equals b, or doesn't
abbrev pub narrow_equal : List Decl → Expression → Expression → Bool → Path → List Path
narrow_equal ds a b t p = if t
    then limit_both ds a (range_of ds p b) b (range_of ds p a) p
    else limit_both ds a (without (range_of ds p a) (range_of ds p b))
    b (without (range_of ds p b) (range_of ds p a)) p

-- where an expression isn't 0, or is
abbrev pub narrow_plain : List Decl → Expression → Bool → Path → List Path
narrow_plain ds e t p =
    limit ds e (if t then between 1 (range_of ds p e).high else only 0) p

-- two expressions are each at most 1
abbrev pub are_flags : List Decl → Path → Expression → Expression → Bool
are_flags ds p a b = nat_lt (max (range_of ds p a).high (range_of ds p b).high) 2

-- the paths where a test came out true (not 0) or false
abbrev pub narrow : List Decl → Expression → Bool → Path → List Path
narrow ds (Applied Not e) t p = narrow ds e (not t) p
narrow ds (Combined Lt a b) t p = narrow_less ds a b t p
narrow ds (Combined Gt a b) t p = narrow_less ds b a t p
narrow ds (Combined Le a b) t p = narrow_less ds b a (not t) p
narrow ds (Combined Ge a b) t p = narrow_less ds a b (not t) p
narrow ds (Combined Eq a b) t p = narrow_equal ds a b t p
narrow ds (Combined Ne a b) t p = narrow_equal ds a b (not t) p
narrow ds (Combined And a b) t p =
    if t then flat_map (narrow ds b true) (narrow ds a true p)
    else if are_flags ds p a b then
    narrow ds a false p ++ flat_map (narrow ds b false) (narrow ds a true p)
    else narrow_plain ds (Combined And a b) false p
narrow ds (Combined Or a b) t p =
    if t then narrow ds a true p ++ flat_map (narrow ds b true) (narrow ds a false p)
    else flat_map (narrow ds b false) (narrow ds a false p)
narrow ds e t p = narrow_plain ds e t p

-- the paths where one of two tests came out so: the first, or not the first and the second
abbrev pub narrow_either : List Decl → Expression → Expression → Bool → Path → List Path
narrow_either ds a b t p = narrow ds a t p ++ flat_map (narrow ds b t) (narrow ds a (not t) p)

-- the operators and operands of an expression
abbrev pub weight : Expression → ℕ
weight (Indexed x e) = 1 + weight e
weight (Applied op e) = 1 + weight e
weight (Combined op a b) = 1 + weight a + weight b
weight e = 1
