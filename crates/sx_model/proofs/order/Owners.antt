-- Which module sends at a field.
use Rattle.std.proofs.Common.{◌≡◌, ℕ, zero, suc, ◌+◌, ◌*◌, ◌<◌, ◌≤◌, ◌==◌, ◌&&◌, Bool, true, false, if◌then◌else◌, List, [], ◌∷◌, length, Option, Some, None, slice_get, refl, sym, ap, ◌∙◌, arith}
use Rattle.std.specs.Prelude.{is_some}
use Rattle.std.specs.List.{cons_option}
use Rattle.std.proofs.lemmas.Bool.{eq-eqb, ne_eqb, and_right}
use Rattle.std.proofs.lemmas.Option.{same_Some, slice_get_within}
use Rattle.sx_lang.specs.declared.sides.Side.TheVariants.{From, To}
use Rattle.sx_mean.specs.declared.apps.Link.{Link}
use Rattle.sx_mean.specs.declared.events.End.{End}
use Rattle.sx_mean.specs.Application.{AppTree}
use Rattle.sx_mean.specs.Ends.{ends_after, ends_of}
use Rattle.sx_model.specs.State.{EndView}
use Rattle.sx_model.specs.Reaction.{field_at}
use Rattle.sx_model.proofs.EndViews.{link_of_end, view_at, same_side-true}
use Rattle.sx_model.proofs.order.Fields.{OpenAt}

high : (ls : List Link) (n p i : ℕ) (e : End) → slice_get (ends_after n p ls) i ≡ Some e → n ≤ e.link
high [] n p i e h = absurd cc
high (l ∷ ls) n p i e h = one (λ i h. let le = high ls (n + 1) p i e h in omega (arith, le)) (l.from == p) (l.to == p) i h
  where
    More : Type 0
    More = (i : ℕ) → slice_get (ends_after (n + 1) p ls) i ≡ Some e → n ≤ e.link

    two : More → (b : Bool) (i : ℕ) → slice_get (cons_option (if b then Some (record { link = n; side = To; port = l.input }) else None) (ends_after (n + 1) p ls)) i ≡ Some e → n ≤ e.link
    two more true zero h = let s : n ≡ e.link = ap (λ (e : End). e.link) (same_Some (record { link = n; side = To; port = l.input }) e h) in omega (arith, s)
    two more true (suc i) h = more i h
    two more false i h = more i h

    one : More → (a b : Bool) (i : ℕ)
        → slice_get (cons_option (if a then Some (record { link = n; side = From; port = l.output }) else None) (cons_option (if b then Some (record { link = n; side = To; port = l.input }) else None) (ends_after (n + 1) p ls))) i ≡ Some e
        → n ≤ e.link
    one more true b zero h = let s : n ≡ e.link = ap (λ (e : End). e.link) (same_Some (record { link = n; side = From; port = l.output }) e h) in omega (arith, s)
    one more true b (suc i) h = two more b i h
    one more false b i h = two more b i h

found : (ls : List Link) (n p i : ℕ) (vs : List EndView) (e : End) (v : EndView) → slice_get (ends_after n p ls) i ≡ Some e → slice_get vs i ≡ Some v → e.side ≡ From
    → view_at e.link From (ends_after n p ls) vs ≡ Some v
found [] n p i vs e v h g f = absurd cc
found (l ∷ ls) n p i vs e v h g f = one (λ i vs h g. found ls (n + 1) p i vs e v h g f) (l.from == p) (l.to == p) i vs h g
  where
    More : Type 0
    More = (i : ℕ) (vs : List EndView) → slice_get (ends_after (n + 1) p ls) i ≡ Some e → slice_get vs i ≡ Some v → view_at e.link From (ends_after (n + 1) p ls) vs ≡ Some v

    skip : (b : Bool) (x y : Option EndView) → b ≡ false → y ≡ Some v → (if b then x else y) ≡ Some v
    skip b x y t r = ap (λ b. if b then x else y) t ∙ r

    two : More → (b : Bool) (i : ℕ) (vs : List EndView) → slice_get (cons_option (if b then Some (record { link = n; side = To; port = l.input }) else None) (ends_after (n + 1) p ls)) i ≡ Some e → slice_get vs i ≡ Some v
        → view_at e.link From (cons_option (if b then Some (record { link = n; side = To; port = l.input }) else None) (ends_after (n + 1) p ls)) vs ≡ Some v
    two more true zero vs h g = absurd (let s : To ≡ e.side = ap (λ (e : End). e.side) (same_Some (record { link = n; side = To; port = l.input }) e h) in let z : To ≡ From = (s ∙ f) in cc)
    two more true (suc i) [] h g = absurd cc
    two more true (suc i) (w ∷ vs) h g = skip ((n == e.link) && false) (Some w) _ (and_right (n == e.link) false refl) (more i vs h g)
    two more false i vs h g = more i vs h g

    -- an end after is of another connection, or the receiving one
    behind : (b : Bool) (i : ℕ) → slice_get (cons_option (if b then Some (record { link = n; side = To; port = l.input }) else None) (ends_after (n + 1) p ls)) i ≡ Some e → n < e.link
    behind true zero h = absurd (let s : To ≡ e.side = ap (λ (e : End). e.side) (same_Some (record { link = n; side = To; port = l.input }) e h) in let z : To ≡ From = (s ∙ f) in cc)
    behind true (suc i) h = let le = high ls (n + 1) p i e h in omega (arith, le)
    behind false i h = let le = high ls (n + 1) p i e h in omega (arith, le)

    one : More → (a b : Bool) (i : ℕ) (vs : List EndView)
        → slice_get (cons_option (if a then Some (record { link = n; side = From; port = l.output }) else None) (cons_option (if b then Some (record { link = n; side = To; port = l.input }) else None) (ends_after (n + 1) p ls))) i ≡ Some e
        → slice_get vs i ≡ Some v
        → view_at e.link From (cons_option (if a then Some (record { link = n; side = From; port = l.output }) else None) (cons_option (if b then Some (record { link = n; side = To; port = l.input }) else None) (ends_after (n + 1) p ls))) vs ≡ Some v
    one more true b zero [] h g = absurd cc
    one more true b zero (w ∷ vs) h g =
        let s : n ≡ e.link = ap (λ (e : End). e.link) (same_Some (record { link = n; side = From; port = l.output }) e h) in
        ap (λ z. if z && true then Some w else view_at e.link From (cons_option (if b then Some (record { link = n; side = To; port = l.input }) else None) (ends_after (n + 1) p ls)) vs) (eq-eqb n e.link s) ∙ g
    one more true b (suc i) [] h g = absurd cc
    one more true b (suc i) (w ∷ vs) h g =
        let lt = behind b i h in
        skip ((n == e.link) && true) (Some w) _ (ap (λ z. z && true) (ne_eqb n e.link (λ s. omega (arith, lt, s)))) (two more b i vs h g)
    one more false b i vs h g = two more b i vs h g

-- the connection and the epoch of an open end that sends
pub record Own (app : AppTree) (m : ℕ) (views : List EndView) (f : ℕ) : Type 0 where
  pub c : ℕ
  pub link : Link
  pub epoch : ℕ
  pub view : EndView
  pub there : slice_get app.links c ≡ Some link
  pub from : link.from ≡ m
  pub low : c < 256
  pub at : f ≡ c + 256 * epoch
  pub view_is : view_at c From (ends_of app m) views ≡ Some view
  pub epoch_is : view.epoch ≡ Some epoch

-- the field of an end has the connection in the low byte, and the epoch above it
pub field_low : (c : ℕ) (o : Option ℕ) → is_some o ≡ true → (e : ℕ) × (field_at c o ≡ c + 256 * e) × (o ≡ Some e)
field_low c None h = absurd cc
field_low c (Some e) h = (e, refl, refl)

pub own : (app : AppTree) → length app.links ≤ 256 → (m : ℕ) (views : List EndView) (f : ℕ) → OpenAt (ends_of app m) views f → Own app m views f
own app few m views f o =
    let view = found app.links 0 m o.place views o.end o.view o.end_is o.view_is (same_side-true o.end.side From o.from) in
    let k = link_of_end app o.end.link From m views o.view view in
    let field = field_low o.end.link o.view.epoch o.opened in
    record {
      c = o.end.link;
      link = k.0;
      epoch = field.0;
      view = o.view;
      there = k.1;
      from = k.2;
      low = (let w = slice_get_within app.links o.end.link k.0 k.1 in omega (arith, w, few));
      at = sym o.at ∙ field.1;
      view_is = view;
      epoch_is = field.2;
    }

pub one_sender : (app : AppTree) → length app.links ≤ 256 → (m k : ℕ) (vs ws : List EndView) (f : ℕ) → OpenAt (ends_of app m) vs f → OpenAt (ends_of app k) ws f → m ≡ k
one_sender app few m k vs ws f a b =
    let x = own app few m vs f a in
    let y = own app few k ws f b in
    let lx = x.low in
    let ly = y.low in
    let same : x.c + 256 * x.epoch ≡ y.c + 256 * y.epoch = (sym x.at ∙ y.at) in
    let c : x.c ≡ y.c = omega (arith, lx, ly, same) in
    let link : x.link ≡ y.link = same_Some x.link y.link (sym x.there ∙ ap (λ (i : ℕ). slice_get app.links i) c ∙ y.there) in
    sym x.from ∙ ap (λ (l : Link). l.from) link ∙ y.from
