use Rattle.std.proofs.Common.{◌∙◌, [], ℕ, List, subst, sym, take}
use Rattle.sx_index.specs.Index.{IsNameIndex}
use Rattle.sx_check.proofs.Meets.{meets_is, met, one_more, so_many, unmet}
use Rattle.sx_check.proofs.Named.{found_is}
use Rattle.sx_check.proofs.repeated.is_in_twice.Goals as goal

pub loop-place-init : goal.loop-place-init
loop-place-init c = (c.new-index.ensures, meets_is [] c.args.names.now)

pub returns-then-has : goal.returns-then-has
returns-then-has c =
    let names = c.args.names.now in
    let place = c.loop-place.place in
    let x = c.index-names-place.result in
    let seen = found_is (take place names) c.bytes.result.now x c.has.result (c.has.ensures (take place names) c.loop-place.invariant.0) c.bytes.ensures.bytes in
    sym (met names place x _ c.loop-place-test.true c.index-names-place.is (sym seen ∙ c.if-has.true)) ∙ c.loop-place.invariant.1

pub loop-place-preserved : goal.loop-place-preserved
loop-place-preserved c =
    let names = c.args.names.now in
    let place = c.loop-place.place in
    let x = c.index-names-place.result in
    let y = c.index-names-place-in-loop-place.result in
    let seen = found_is (take place names) c.bytes.result.now x c.has.result (c.has.ensures (take place names) c.loop-place.invariant.0) c.bytes.ensures.bytes in
    let P : List (List ℕ) → Type 0 = λ names. IsNameIndex c.push.new.self names in (
      subst P (sym (one_more names place y _ c.loop-place-test.true c.index-names-place-in-loop-place.is))
          (c.in_ok-push.ensures.grows (take place names) (so_many names place x _ c.loop-place-test.true c.index-names-place.is) c.loop-place.invariant.0),
      sym (unmet names place x _ c.loop-place-test.true c.index-names-place.is (sym seen ∙ c.if-has.false)) ∙ c.loop-place.invariant.1,
    )
