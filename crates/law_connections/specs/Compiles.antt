-- Settings whose images are compiled ones.
use Rattle.std.specs.Prelude.{◌≡◌, ℕ, ◌<◌, slice_get, Some, All}
use Rattle.sx_mean.specs.Application.{PartTree}
use Rattle.sx_mean.specs.Ends.{ends_of}
use Rattle.sx_lower.specs.Lowering.{IsLowerable}
use Rattle.sx_compile.specs.Compiled.{HasSections, compiled_image}
use Rattle.spec_run.specs.Setting.{Setting, Site}
use Rattle.spec_run.specs.Law.{image_at}
use Rattle.law_connections.specs.Laws.{HidesKeys, RealizesAlways}

-- the image at the site is what the compiler makes of the module
pub record IsCompiledAt (a : Setting) (m : ℕ) (q : PartTree) (site : Site) : Type 0 where
  pub is : image_at site ≡ compiled_image site.layout site.provider q.tree (ends_of a.app m)
  pub lowerable : IsLowerable q.tree (ends_of a.app m)
  pub links : All (λ e. e.link < 256) (ends_of a.app m)
  pub sections : HasSections q.tree (ends_of a.app m) site.layout

-- compiled images realize their modules, and show no key, whatever the tag function is
abbrev pub CompiledAlways : Type 0
CompiledAlways = (a : Setting) → ((m : ℕ) (q : PartTree) (site : Site)
    → slice_get a.app.parts m ≡ Some q → slice_get a.sites m ≡ Some site → IsCompiledAt a m q site)
    → RealizesAlways a × HidesKeys a
