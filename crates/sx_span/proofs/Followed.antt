-- A state follows one of some paths.
use Rattle.std.proofs.Common.{ℕ, arith, inl, inr, List, [], ◌∷◌, ◌++◌, map}
use Rattle.std.specs.Prelude.{All}
use Rattle.std.specs.List.{AllZip, flat_map}
use Rattle.std.proofs.lemmas.List.Elements.{All-head, All-tail}
use Rattle.sx_span.specs.Intervals.{Interval, Lies}
use Rattle.sx_mean.specs.Meaning.{HandlerState}
use Rattle.sx_span.specs.Ranges.{Follows, Path}
use Rattle.sx_span.specs.Sound.{FollowsOne, IsIn}

pub one : (st : HandlerState) (p : Path) → Follows st p → FollowsOne st (p ∷ [])
one st p f = inl f

pub one_left : (st : HandlerState) (ps qs : List Path) → FollowsOne st ps → FollowsOne st (ps ++ qs)
one_left st [] qs h = absurd h
one_left st (p ∷ ps) qs (inl f) = inl f
one_left st (p ∷ ps) qs (inr h) = inr (one_left st ps qs h)

pub one_right : (st : HandlerState) (ps qs : List Path) → FollowsOne st qs → FollowsOne st (ps ++ qs)
one_right st [] qs h = h
one_right st (p ∷ ps) qs h = inr (one_right st ps qs h)

pub one_map : (st to : HandlerState) (f : Path → Path) (ps : List Path) → ((p : Path) → Follows st p → Follows to (f p)) → FollowsOne st ps → FollowsOne to (map f ps)
one_map st to f [] g h = absurd h
one_map st to f (p ∷ ps) g (inl h) = inl (g p h)
one_map st to f (p ∷ ps) g (inr h) = inr (one_map st to f ps g h)

pub one_flat : (st to : HandlerState) (f : Path → List Path) (ps : List Path) → ((p : Path) → Follows st p → FollowsOne to (f p)) → FollowsOne st ps → FollowsOne to (flat_map f ps)
one_flat st to f [] g h = absurd h
one_flat st to f (p ∷ ps) g (inl h) = one_left to (f p) (flat_map f ps) (g p h)
one_flat st to f (p ∷ ps) g (inr h) = one_right to (f p) (flat_map f ps) (one_flat st to f ps g h)

pub one_among : (P : Path → Type 0) (st : HandlerState) (ps : List Path) → FollowsOne st ps → All P ps → (p : Path) × Follows st p × P p
one_among P st [] h a = absurd h
one_among P st (p ∷ ps) (inl f) a = (p, f, All-head P p ps a)
one_among P st (p ∷ ps) (inr h) a = one_among P st ps h (All-tail P p ps a)

in_larger : (v : ℕ) (i j : Interval) → Lies v i → IsIn i j → Lies v j
in_larger v i j l n = record { above = omega arith; below = omega arith }

pub boxes_widen : (cells : List ℕ) (small large : List Interval) → AllZip Lies cells small → AllZip IsIn small large → AllZip Lies cells large
boxes_widen [] [] [] z y = tt
boxes_widen [] [] (j ∷ large) z y = absurd y
boxes_widen [] (i ∷ small) large z y = absurd z
boxes_widen (c ∷ cells) [] large z y = absurd z
boxes_widen (c ∷ cells) (i ∷ small) [] z y = absurd y
boxes_widen (c ∷ cells) (i ∷ small) (j ∷ large) z y = (in_larger c i j z.0 y.0, boxes_widen cells small large z.1 y.1)

pub box_kept : (st : HandlerState) (ps : List Path) (box : List Interval) → FollowsOne st ps → All (λ (p : Path). AllZip IsIn p.cells box) ps → AllZip Lies st.cells box
box_kept st ps box h a = let o = one_among (λ (p : Path). AllZip IsIn p.cells box) st ps h a in boxes_widen st.cells o.0.cells box o.1.cells o.2
