-- Compiled images realize their modules and show no key, whatever the tag function is.
use denote.RawPtr.{null_ptr}
use Rattle.std.proofs.Common.{ℕ, ◌<◌, List, length, Vec, Global, refl, sym, subst, arith}
use Rattle.std.specs.Prelude.{All}
use Rattle.sx_lang.specs.Tree.{ModuleTree}
use Rattle.sx_rules.specs.declared.section.Layout.{Layout}
use Rattle.sx_mean.specs.Application.{PartTree}
use Rattle.sx_mean.specs.Ends.{ends_of}
use Rattle.sx_mean.specs.declared.events.End.{End}
use Rattle.sx_image.specs.Image.{Image}
use Rattle.sx_image.specs.Realizes.{Realizes}
use Rattle.sx_ir.specs.declared.ir.Code.{Code}
use Rattle.sx_lower.specs.Lowering.{IsLowerable}
use Rattle.sx_lower.proofs.Reacts.{length-parts}
use Rattle.sx_stub.specs.Stub.{stub_ops}
use Rattle.sx_stub.proofs.Few.{few_handlers}
use Rattle.sx_compile.specs.Compiled.{HasSections, compiled_ops, compiled_parts}
use Rattle.sx_compile.proofs.Sound.{ops_few}
use Rattle.sx_compile.specs.Laws.{ShowsNoKey}
use Rattle.sx_compile.proofs.CompiledRealizes.{compiled_realizes, compiled_shows_no_key}
use Rattle.sx_tag.specs.Mac.{Mac, IsTag}
use Rattle.spec_run.specs.Setting.{Setting, Site}
use Rattle.spec_run.specs.Law.{image_at}
use Rattle.law_connections.specs.Compiles.{CompiledAlways, IsCompiledAt}

-- a list as it is in memory, wherever that is
abbrev in_memory : {X : Type 0} (xs : List X) → length xs < 65536 → Vec X Global
in_memory xs few =
    let below : length xs < 9223372036854775808 = omega (arith, few) in
    record { ptr = null_ptr; len = length xs; cap = length xs; alloc = _; items = xs; ok = (refl, omega arith); small = below }

few_parts : (tree : ModuleTree) (ends : List End) → IsLowerable tree ends → length (compiled_parts tree ends) < 65536
unfolding compiled_parts
few_parts tree ends able =
    let count = length-parts tree.decls ends (length (stub_ops tree ends)) tree.handlers in
    let few = few_handlers tree able.checked in
    omega (arith, count, few)

few_ops : (tree : ModuleTree) (ends : List End) (l : Layout) → IsLowerable tree ends → All (λ e. e.link < 256) ends → HasSections tree ends l → length (compiled_ops tree ends) < 65536
few_ops tree ends l able links room =
    let few = ops_few tree ends able links in
    let public = room.public in
    let below = room.public_below in
    omega (arith, few, public, below)

module _ (a : Setting) (m : ℕ) (q : PartTree) (site : Site) (h : IsCompiledAt a m q site) where
  abbrev ends : List End
  ends = ends_of a.app m

  abbrev code : Code
  code = record {
    ops = in_memory (compiled_ops q.tree ends) (few_ops q.tree ends site.layout h.lowerable h.links h.sections);
    parts = in_memory (compiled_parts q.tree ends) (few_parts q.tree ends h.lowerable);
  }

  realizes_here : (mac : Mac) → IsTag mac → Realizes mac q.tree ends (image_at site)
  realizes_here mac lawful =
      subst (λ (i : Image). Realizes mac q.tree ends i) (sym h.is)
      (compiled_realizes mac q.tree ends site.layout site.provider code lawful h.lowerable h.links h.sections (record { ops = refl; parts = refl }))

  shows_here : (mac : Mac) → IsTag mac → ShowsNoKey mac q.tree ends (image_at site)
  shows_here mac lawful =
      subst (λ (i : Image). ShowsNoKey mac q.tree ends i) (sym h.is)
      (compiled_shows_no_key mac q.tree ends site.layout site.provider code lawful h.lowerable h.links h.sections (record { ops = refl; parts = refl }))

pub compiled_always : CompiledAlways
compiled_always a all = (
  λ m q site part found mac lawful. realizes_here a m q site (all m q site part found) mac lawful,
  λ m q site part found mac lawful. shows_here a m q site (all m q site part found) mac lawful,
)
