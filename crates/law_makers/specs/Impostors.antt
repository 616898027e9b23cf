-- A section that is no deployed module has no deployed module's name.
use Rattle.std.specs.Prelude.{◌≡◌, ℕ, ◌-◌, ◌<◌, List, length, slice_get, Some, None}
use Rattle.sx_rules.specs.declared.section.Layout.{Layout}
use Rattle.sx_rules.specs.declared.section.Section.{Section}
use Rattle.sx_tag.specs.Mac.{Mac, IsTag}
use Rattle.sx_tag.specs.Keys.{identity}
use Rattle.spec_machine.specs.Memory.{bytes_from}
use Rattle.spec_run.specs.Setting.{Setting, Site, deployed}
use Rattle.law_forgery.specs.Named.{name_of, named}

-- the bounds are words
pub record HasWords (l : Layout) : Type 0 where
  pub pub_from : l.pub_from < 65536
  pub pub_to : l.pub_to < 65536
  pub priv_from : l.priv_from < 65536
  pub priv_to : l.priv_to < 65536

-- the identity of these public bytes in this layout
abbrev pub identity_with : List ℕ → Layout → List ℕ
identity_with text l = identity text l.pub_from l.pub_to l.priv_from l.priv_to

-- identities differ if texts or layouts do
abbrev pub IdentitiesDiffer : Type 0
IdentitiesDiffer = (t u : List ℕ) (l m : Layout) → HasWords l → HasWords m
    → identity_with t l ≡ identity_with u m → (t ≡ u) × (l ≡ m)

-- So a section of a node that isn't deployed has, at each boot, another name than each module that
-- is deployed at any.
abbrev pub ImpostorsHaveOtherNames : Type 0
ImpostorsHaveOtherNames = (set : Setting) (n boot at : ℕ) (mem : List ℕ) (x : Section) (m : ℕ)
    (site : Site) → n < length set.keys → site.node < length set.keys
    → x.provider < 65536 → site.provider < 65536
    → HasWords x.layout → HasWords site.layout → slice_get set.sites m ≡ Some site
    → deployed set.sites n mem x ≡ None
    → name_of set n boot x.provider
    (identity_with (bytes_from mem x.layout.pub_from (x.layout.pub_to - x.layout.pub_from)) x.layout)
    ≡ name_of set site.node at site.provider (identity_with site.text site.layout) → ⊥

-- The tag function of a setting with names isn't lawful: a derived name isn't as long as a tag.
abbrev pub NamesAreUnlawful : Type 0
NamesAreUnlawful = (table mac : Mac) → IsTag (named table mac) → ⊥
