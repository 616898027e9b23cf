-- The chain of keys, over any tag function (after Sancus 2.0; the forms are own).
use Rattle.std.specs.Prelude.{ℕ, List, ◌∷◌, ◌++◌, take}
use Rattle.std.specs.Int.{w16, w32, to_le_bytes}
use Rattle.sx_tag.specs.Mac.{Mac}

-- a key derived from another and a part: 16 bytes of the tag over `K` and the part
unfoldable pub kdf : Mac → List ℕ → List ℕ → List ℕ
kdf mac key part = take 16 (mac key (0x4B ∷ part))

-- a node's key in one boot
unfoldable pub boot_key : Mac → List ℕ → ℕ → List ℕ
boot_key mac node_key boot = kdf mac node_key (to_le_bytes w32 boot)

-- the key of a module under a boot key: that of its provider, then that of its identity
unfoldable pub section_key : Mac → List ℕ → ℕ → List ℕ → List ℕ
section_key mac base provider identity = kdf mac (kdf mac base (to_le_bytes w16 provider)) identity

-- the key of a module, from the node's key, the boot, the provider and the module's identity
unfoldable pub module_key : Mac → List ℕ → ℕ → ℕ → List ℕ → List ℕ
module_key mac node_key boot provider identity =
    section_key mac (boot_key mac node_key boot) provider identity

-- a layout's four bounds, two bytes each
abbrev pub layout_bytes : ℕ → ℕ → ℕ → ℕ → List ℕ
layout_bytes pub_from pub_to priv_from priv_to =
    to_le_bytes w16 pub_from ++ to_le_bytes w16 pub_to ++ to_le_bytes w16 priv_from
    ++ to_le_bytes w16 priv_to

-- a module's identity: the bytes of its public section, then its layout
unfoldable pub identity : List ℕ → ℕ → ℕ → ℕ → ℕ → List ℕ
identity public pub_from pub_to priv_from priv_to =
    public ++ layout_bytes pub_from pub_to priv_from priv_to

-- what vouches for a module: 16 bytes of the tag over `A` and its identity
unfoldable pub attest_tag : Mac → List ℕ → List ℕ → List ℕ
attest_tag mac key identity = take 16 (mac key (0x41 ∷ identity))
