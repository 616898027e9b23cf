use Rattle.std.proofs.Common.{arith, ◌∙◌, ap, ◌+◌, ◌/◌, ◌%◌, List, ℕ, ◌<◌}
use Rattle.std.specs.Prelude.{slice_set}
use Rattle.sx_paged.specs.Memory.{IsMemory, after_put}
use Rattle.sx_paged.proofs.Joined.{IsMemory-put, AreMemoryBytes-put, joined-put}
use Rattle.sx_paged.proofs.bus.PagedBusBus.put_word.Goals as goal

pub invariant_of-self : goal.invariant_of-self
invariant_of-self c =
    let old = c.args.self.now in let at = c.args.at in let v = c.args.value in
    let within : at < 65536 = omega (arith, c.ranges.at.fits) in
    let next : at + 1 < 65536 = omega (arith, c.ranges.at.fits, c.requires) in
    let low : v % 256 < 256 = omega arith in
    let high : v / 256 < 256 = omega (arith, c.ranges.value.fits) in
    let one : IsMemory (after_put old.pages at (v % 256)) = IsMemory-put old.pages at (v % 256) old.shaped within in
    rw c.put_word.ensures (record {
      shaped = IsMemory-put (after_put old.pages at (v % 256)) (at + 1) (v / 256) one next;
      ranged = AreMemoryBytes-put (after_put old.pages at (v % 256)) (at + 1) (v / 256) one next high
          (AreMemoryBytes-put old.pages at (v % 256) old.shaped within low old.ranged);
    })

pub returns-clause-bytes : goal.returns-clause-bytes
returns-clause-bytes c =
    let old = c.args.self.now in let at = c.args.at in let v = c.args.value in
    let within : at < 65536 = omega (arith, c.ranges.at.fits) in
    let next : at + 1 < 65536 = omega (arith, c.ranges.at.fits, c.requires) in
    rw c.put_word.ensures (joined-put (after_put old.pages at (v % 256)) (at + 1) (v / 256) (IsMemory-put old.pages at (v % 256) old.shaped within) next
    ∙ ap (λ (bytes : List ℕ). slice_set bytes (at + 1) (v / 256)) (joined-put old.pages at (v % 256) old.shaped within))
