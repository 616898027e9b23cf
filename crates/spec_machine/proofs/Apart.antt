-- No device's word comes to lie in a live public section.
use Rattle.std.proofs.Common.{◌≡◌, ℕ, ◌⊎◌, inl, inr, ◌==◌, Bool, true, false, cond, List, [], ◌∷◌, ◌++◌, sym, subst}
use Rattle.sx_rules.specs.declared.section.Section.{Section}
use Rattle.sx_rules.specs.Access.{Sections, Lives}
use Rattle.sx_rules.specs.Admission.{no_device, without}
use Rattle.sx_rules.proofs.Admits.{admits}
use Rattle.sx_bus.specs.Devices.{places_of}
use Rattle.sx_tag.specs.Mac.{Mac}
use Rattle.spec_machine.specs.declared.kinds.Event.{Event}
use Rattle.spec_machine.specs.Given.{Given}
use Rattle.spec_machine.specs.Protect.{layout_in}
use Rattle.spec_machine.specs.Node.{AreApartDevices}
use Rattle.spec_machine.proofs.Events.{Told, Same, Admits, Removes}

pub lives_push : (live : List Section) (new s : Section) → Lives (live ++ new ∷ []) s → Lives live s ⊎ (new ≡ s)
lives_push [] new s l = elim l [ inl e ↦ inr e | inr r ↦ absurd r ]
lives_push (x ∷ live) new s l = elim l [
  | inl e ↦ inl (inl e)
  | inr r ↦ elim (lives_push live new s r) [ inl h ↦ inl (inr h) | inr e ↦ inr e ]
]

pub lives_without : (live : List Section) (id : ℕ) (s : Section) → Lives (without live id) s → Lives live s
lives_without [] id s l = l
lives_without (x ∷ live) id s l = by (x.id == id) (lives_without live id s) l
  where
    by : (b : Bool) → (Lives (without live id) s → Lives live s) → Lives (cond b live (x ∷ without live id)) s → (x ≡ s) ⊎ Lives live s
    by true f l = inr l
    by false f l = elim l [ inl q ↦ inl q | inr r ↦ inr (f r) ]

pub apart_told : (mac : Mac) (g : Given) (m0 m : List ℕ) (t : Sections) (e : Event) → Told mac g m0 m t e
    → AreApartDevices (places_of g.devices) g.sections.live → AreApartDevices (places_of g.devices) t.live
apart_told mac g m0 m t e (Same h same) a = subst (λ (z : Sections). AreApartDevices (places_of g.devices) z.live) (sym same) a
apart_told mac g m0 m t e (Admits none same wipe) a = subst (λ (z : Sections). AreApartDevices (places_of g.devices) z.live) (sym same) (λ s l.
    elim (lives_push g.sections.live _ s l) [
      | inl h ↦ a s h
      | inr q ↦ subst (λ (z : Section). no_device (places_of g.devices) z.layout ≡ true) q (admits g.sections (layout_in g.regs) (places_of g.devices) none).device
    ])
apart_told mac g m0 m t e (Removes own found same wipe) a =
    subst (λ (z : Sections). AreApartDevices (places_of g.devices) z.live) (sym same) (λ s l. a s (lives_without g.sections.live g.own s l))
