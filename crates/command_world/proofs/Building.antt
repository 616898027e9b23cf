-- What the compiler asks of a module holds in an accepted deployment, and the images that it gives realize the modules.
use Rattle.std.proofs.Common.{◌≡◌, ◌∙◌, ℕ, ◌+◌, ◌<◌, ◌≤◌, ◌⊎◌, inl, inr, false, List, [], ◌∷◌, ◌++◌, length, map, refl, sym, ap, subst, arith}
use Rattle.std.proofs.Common.{Option, Some, None, nat_lt, zero, suc, Result, Ok, Err, IfOk}
use Rattle.std.specs.Prelude.{slice_get, slice_index_or}
use Rattle.std.specs.List.{list_any}
use Rattle.std.proofs.lemmas.Bool.{ltb-false, or_parts}
use Rattle.lemmas.proofs.Lists.{get_some}
use Rattle.sx_lang.specs.Tree.{Statement, Defines, Assigns, Stores, Chooses, Repeats, Sends, Emits, Block, Done, Then, ModuleTree, HandlerTree}
use Rattle.sx_lang.specs.declared.tree.Decl.{Decl}
use Rattle.sx_rules.specs.declared.section.Layout.{Layout}
use Rattle.sx_tag.specs.Mac.{Mac}
use Rattle.sx_mean.specs.Application.{PartTree, block_packets, links_from}
use Rattle.sx_mean.specs.Packets.{statement_packets}
use Rattle.sx_mean.specs.Ends.{ends_of}
use Rattle.sx_mean.specs.EndLaws.{senders}
use Rattle.sx_mean.specs.View.{part_as}
use Rattle.sx_mean.specs.declared.apps.Part.{Part}
use Rattle.sx_mean.proofs.Ends.{ends_counted}
use Rattle.sx_deploy.specs.Deployment.{Deployed}
use Rattle.sx_deploy.specs.Law.{IsSoundDeployment, IsLaid}
use Rattle.sx_deploy.specs.SeenDeployment.{deployed_as}
use Rattle.sx_deploy.specs.declared.deployment.Deployment.{Deployment}
use Rattle.sx_image.specs.declared.image.Image.{Image as Made}
use Rattle.sx_image.specs.Image.{Image}
use Rattle.sx_image.specs.InMemory.{plain, texts_of}
use Rattle.sx_image.specs.Realizes.{Realizes}
use Rattle.sx_lower.specs.Lowering.{SendFew}
use Rattle.sx_compile.specs.Compiled.{HasSections, compiled_text}
use Rattle.spec_run.proofs.accepted.LaidSites.{laid_long, laid_at}
use Rattle.spec_run.proofs.tie.Lists.{get_within, some_inj}
use Rattle.spec_run.specs.Accepted.{AreByteTexts, AreImages}
use Rattle.command_world.specs.Built.{AreBuilt, BuiltAt, IsBuilt, texts_from}
use Rattle.command_world.specs.Compiled.{compiled_texts}

-- ---- packets

-- two counts of connections that agree count the same packets
mutual
  same_statement : (f g : ℕ → ℕ) → ((o : ℕ) → f o ≡ g o) → (ds : List Decl) (s : Statement) → statement_packets f ds s ≡ statement_packets g ds s
  same_statement f g h ds (Defines x e) = refl
  same_statement f g h ds (Assigns x e) = refl
  same_statement f g h ds (Stores x i e) = refl
  same_statement f g h ds (Chooses e a b) = rw (same_block f g h ds a, same_block f g h ds b) refl
  same_statement f g h ds (Repeats n a) = rw (same_block f g h ds a) refl
  same_statement f g h ds (Sends x e) = h _
  same_statement f g h ds (Emits e) = refl

  same_block : (f g : ℕ → ℕ) → ((o : ℕ) → f o ≡ g o) → (ds : List Decl) (b : Block) → block_packets f ds b ≡ block_packets g ds b
  same_block f g h ds Done = refl
  same_block f g h ds (Then s b) = rw (same_statement f g h ds s, same_block f g h ds b) refl

send_few : (f g : ℕ → ℕ) → ((o : ℕ) → f o ≡ g o) → (m : ModuleTree) (hs : List HandlerTree)
    → list_any (λ (h : HandlerTree). nat_lt 16 (block_packets g m.decls h.body)) hs ≡ false → SendFew f m hs
send_few f g e m [] h = tt
send_few f g e m (x ∷ hs) h =
    let both = or_parts (nat_lt 16 (block_packets g m.decls x.body)) (list_any (λ (h : HandlerTree). nat_lt 16 (block_packets g m.decls h.body)) hs) h in
    (subst (λ (n : ℕ). n ≤ 16) (sym (same_block f g e m.decls x.body)) (ltb-false 16 (block_packets g m.decls x.body) both.0), send_few f g e m hs both.1)

-- ---- what the compiler asks

pub few_ends : (d : Deployed) (p : ℕ) (q : PartTree) → IsSoundDeployment d → slice_get d.app.parts p ≡ Some q → length (ends_of d.app p) ≤ 16
few_ends d p q sound here = subst (λ (n : ℕ). n ≤ 16) (sym (ends_counted d.app p).all) (sound.modules p q here).ends

pub few_packets : (d : Deployed) (p : ℕ) (q : PartTree) → IsSoundDeployment d → slice_get d.app.parts p ≡ Some q → SendFew (senders (ends_of d.app p)) q.tree q.tree.handlers
few_packets d p q sound here =
    send_few (senders (ends_of d.app p)) (links_from d.app.links p) (ends_counted d.app p).sending q.tree q.tree.handlers (sound.modules p q here).packets

pub has_sections : (d : Deployed) (p : ℕ) (q : PartTree) (l : Layout) → IsSoundDeployment d → slice_get d.app.parts p ≡ Some q → slice_get d.layouts p ≡ Some l
    → HasSections q.tree (ends_of d.app p) l
has_sections d p q l sound here there =
    let at : 0 + p ≡ p = omega arith in
    let laid = subst (λ (n : ℕ). IsLaid d n q l) at (laid_at d 0 d.app.parts d.layouts p q l sound.laid here there) in
    let all = (ends_counted d.app p).all in record {
      public = rw all laid.weight;
      private = rw all laid.data_size;
      public_even = laid.text.even;
      private_even = laid.data_part.even;
      public_below = omega (arith, laid.text.high);
      private_below = omega (arith, laid.data_part.high);
    }

-- ---- the images

text_at : Option Image → Option (List ℕ)
text_at None = None
text_at (Some i) = Some i.text

get_text : (xs : List Image) (p : ℕ) (i : Image) → slice_get xs p ≡ Some i → slice_get (map (λ (i : Image). i.text) xs) p ≡ Some i.text
unfolding text_at
get_text [] p i h = absurd (cc h)
get_text (x ∷ xs) zero i h = ap text_at h
get_text (x ∷ xs) (suc p) i h = get_text xs p i h

count_texts : (xs : List Image) → length (map (λ (i : Image). i.text) xs) ≡ length xs
count_texts [] = refl
count_texts (x ∷ xs) = ap suc (count_texts xs)

-- the texts of images that are built are those of images that realize their modules
are_images : (mac : Mac) (d : Deployed) (images : List Image) → length images ≡ length d.app.parts → AreBuilt mac d images → AreByteTexts (map (λ i. i.text) images)
    → AreImages mac d (map (λ i. i.text) images)
are_images mac d images all built bytes = record {
  as_many = count_texts images ∙ all;
  bytes = bytes;
  realize = λ p q layout provider text e f g h.
      let i = get_some images p (subst (λ (n : ℕ). p < n) (count_texts images) (get_within (map (λ (i : Image). i.text) images) p text h)) in
      let b = built p i.0 i.1 q layout provider e f g in
      let same : i.0.text ≡ text = some_inj _ _ (sym (get_text images p i.0 i.1) ∙ h) in
      let whole : i.0 ≡ record { text = text; layout = layout; provider = provider } =
      ap (λ (t : List ℕ). record { text = t; layout = i.0.layout; provider = i.0.provider }) same
      ∙ ap (λ (l : Layout). record { text = text; layout = l; provider = i.0.provider }) b.layout_is
      ∙ ap (λ (v : ℕ). record { text = text; layout = layout; provider = v }) b.provider_is in
      subst (Realizes mac q.tree (ends_of d.app p)) whole b.realizes;
}

-- ---- parts in memory

as_tree : Option Part → Option PartTree
as_tree None = None
as_tree (Some part) = Some (part_as part)

pub get_part : (parts : List Part) (p : ℕ) (part : Part) → slice_get parts p ≡ Some part → slice_get (map part_as parts) p ≡ Some (part_as part)
unfolding as_tree
get_part [] p part h = absurd (cc h)
get_part (x ∷ parts) zero part h = ap as_tree h
get_part (x ∷ parts) (suc p) part h = get_part parts p part h

-- what is at an index
pub held_at : {X : Type 0} → (xs : List X) (i : ℕ) (x : X) → i < length xs → x ≡ slice_index_or xs i x → slice_get xs i ≡ Some x
held_at [] i x lt h = absurd (omega (arith, lt))
held_at (y ∷ xs) zero x lt h = ap Some (sym h)
held_at (y ∷ xs) (suc i) x lt h = held_at xs i x (omega (arith, lt)) h

pub count_parts : (parts : List Part) → length (map part_as parts) ≡ length parts
count_parts [] = refl
count_parts (x ∷ parts) = ap suc (count_parts parts)

-- as many layouts and providers as modules
pub layout_within : (d : Deployed) (parts : List Part) (p : ℕ) → d.app.parts ≡ map part_as parts → IsSoundDeployment d → p < length parts → p < length d.layouts
layout_within d parts p e sound lt =
    let a = laid_long d 0 d.app.parts d.layouts sound.laid in
    let b : length d.app.parts ≡ length parts = ap (λ (qs : List PartTree). length qs) e ∙ count_parts parts in
    omega (arith, a, b, lt)

pub provider_within : (d : Deployed) (parts : List Part) (p : ℕ) → d.app.parts ≡ map part_as parts → IsSoundDeployment d → p < length parts → p < length d.providers
provider_within d parts p e sound lt =
    let b : length d.app.parts ≡ length parts = ap (λ (qs : List PartTree). length qs) e ∙ count_parts parts in
    omega (arith, sound.parts, sound.providers, b, lt)

-- a compiled image of the module at its place
pub built_at : (mac : Mac) (d : Deployed) (q : PartTree) (l : Layout) (v p : ℕ) (image : Image) → slice_get d.app.parts p ≡ Some q → slice_get d.layouts p ≡ Some l
    → slice_get d.providers p ≡ Some v → image.layout ≡ l → image.provider ≡ v → Realizes mac q.tree (ends_of d.app p) image
    → image.text ≡ compiled_text l q.tree (ends_of d.app p) → BuiltAt mac d p image
built_at mac d q l v p image e f g layout provider realizes text q' l' v' e' f' g' =
    let same_q : q ≡ q' = some_inj q q' (sym e ∙ e') in
    let same_l : l ≡ l' = some_inj l l' (sym f ∙ f') in record {
      layout_is = layout ∙ same_l;
      provider_is = provider ∙ some_inj v v' (sym g ∙ g');
      realizes = subst (λ (q : PartTree). Realizes mac q.tree (ends_of d.app p) image) same_q realizes;
      text_is = text ∙ ap (λ (l : Layout). compiled_text l q.tree (ends_of d.app p)) same_l ∙ ap (λ (q : PartTree). compiled_text l' q.tree (ends_of d.app p)) same_q;
    }

-- what two facts of an answer give
pub both : {T E : Type 0} → (r : Result T E) (P Q R : T → Type 0) → ((x : T) → P x → Q x → R x) → IfOk r P → IfOk r Q → IfOk r R
both (Ok x) P Q R f p q = f x p q
both (Err e) P Q R f p q = tt

-- ---- one image more

get_last : {X : Type 0} → (xs : List X) (x : X) (p : ℕ) (i : X) → slice_get (xs ++ x ∷ []) p ≡ Some i → (slice_get xs p ≡ Some i) ⊎ ((p ≡ length xs) × (x ≡ i))
get_last [] x zero i h = inr (refl, some_inj x i h)
get_last [] x (suc p) i h = absurd (cc h)
get_last (y ∷ xs) x zero i h = inl h
get_last (y ∷ xs) x (suc p) i h =
    elim (get_last xs x p i h) [
      | inl a ↦ inl a
      | inr b ↦ inr (ap suc b.0, b.1)
    ]

plain_last : (images : List Made) (image : Made) → map plain (images ++ image ∷ []) ≡ map plain images ++ plain image ∷ []
plain_last [] image = refl
plain_last (x ∷ images) image = ap (λ (xs : List Image). plain x ∷ xs) (plain_last images image)

count_plain : (images : List Made) → length (map plain images) ≡ length images
count_plain [] = refl
count_plain (x ∷ images) = ap suc (count_plain images)

pub more_built : (mac : Mac) (d : Deployed) (images new : List Made) (image : Made) (n : ℕ) → new ≡ images ++ image ∷ [] → length images ≡ n → AreBuilt mac d (map plain images)
    → BuiltAt mac d n (plain image) → AreBuilt mac d (map plain new)
more_built mac d images new image n e len built one p i h =
    let at : slice_get (map plain images ++ plain image ∷ []) p ≡ Some i =
    ap (λ (xs : List Image). slice_get xs p) (sym (ap (λ (xs : List Made). map plain xs) e ∙ plain_last images image)) ∙ h in
    elim (get_last (map plain images) (plain image) p i at) [
      | inl a ↦ built p i a
      | inr b ↦
          let here : n ≡ p = sym (b.0 ∙ count_plain images ∙ len) in
          subst (λ (k : ℕ). BuiltAt mac d k i) here (subst (λ (x : Image). BuiltAt mac d n x) b.1 one)
    ]

pub one_longer : {X : Type 0} → (xs : List X) (x : X) (n : ℕ) → length xs ≡ n → length (xs ++ x ∷ []) ≡ n + 1
one_longer [] x n h = omega (arith, h)
one_longer (y ∷ xs) x n h = let r = one_longer xs x (length xs) refl in omega (arith, h, r)

texts_plain : (images : List Made) → map (λ (i : Image). i.text) (map plain images) ≡ map (λ (i : Made). i.text.items) images
texts_plain [] = refl
texts_plain (x ∷ images) = ap (λ (ts : List (List ℕ)). x.text.items ∷ ts) (texts_plain images)

as_many : (deployment : Deployment) (images : List Made) → length images ≡ length deployment.app.parts.items → length (map plain images) ≡ length (map part_as deployment.app.parts.items)
as_many deployment images all = count_plain images ∙ all ∙ sym (count_parts deployment.app.parts.items)

-- the images that were compiled realize the modules of the deployment
pub are_deployed_images : (mac : Mac) (deployment : Deployment) (images : List Made) → length images ≡ length deployment.app.parts.items → AreBuilt mac (deployed_as deployment) (map plain images)
    → AreByteTexts (texts_of images) → AreImages mac (deployed_as deployment) (texts_of images)
are_deployed_images mac deployment images all built bytes =
    subst (AreImages mac (deployed_as deployment)) (texts_plain images)
    (are_images mac (deployed_as deployment) (map plain images) (as_many deployment images all) built (subst AreByteTexts (sym (texts_plain images)) bytes))

-- ---- which they are

texts_built : (mac : Mac) (d : Deployed) (p : ℕ) (qs : List PartTree) (ls : List Layout) (vs : List ℕ) (images : List Image) → length images ≡ length qs → length qs ≤ length ls
    → length qs ≤ length vs
    → ((k : ℕ) (image : Image) (q : PartTree) (l : Layout) (v : ℕ) → slice_get images k ≡ Some image → slice_get qs k ≡ Some q → slice_get ls k ≡ Some l → slice_get vs k ≡ Some v
    → IsBuilt mac d q l v (p + k) image)
    → map (λ (i : Image). i.text) images ≡ texts_from d p qs ls
texts_built mac d p [] ls vs [] all fewer given built = refl
texts_built mac d p [] ls vs (i ∷ is) all fewer given built = absurd (omega (arith, all))
texts_built mac d p (q ∷ qs) ls vs [] all fewer given built = absurd (omega (arith, all))
texts_built mac d p (q ∷ qs) [] vs (i ∷ is) all fewer given built = absurd (omega (arith, fewer))
texts_built mac d p (q ∷ qs) (l ∷ ls) [] (i ∷ is) all fewer given built = absurd (omega (arith, given))
texts_built mac d p (q ∷ qs) (l ∷ ls) (v ∷ vs) (i ∷ is) all fewer given built =
    let at : p + 0 ≡ p = omega arith in
    let here : i.text ≡ compiled_text l q.tree (ends_of d.app p) =
    subst (λ (n : ℕ). i.text ≡ compiled_text l q.tree (ends_of d.app n)) at (built 0 i q l v refl refl refl refl).text_is in
    let more : map (λ (i : Image). i.text) is ≡ texts_from d (p + 1) qs ls =
    texts_built mac d (p + 1) qs ls vs is (omega (arith, all)) (omega (arith, fewer)) (omega (arith, given)) (λ k image q' l' v' a b c e.
    let next : p + suc k ≡ p + 1 + k = omega arith in
    subst (λ (n : ℕ). IsBuilt mac d q' l' v' n image) next (built (suc k) image q' l' v' a b c e)) in
    ap (λ (t : List ℕ). t ∷ map (λ (i : Image). i.text) is) here ∙ ap (λ (ts : List (List ℕ)). compiled_text l q.tree (ends_of d.app p) ∷ ts) more

-- the texts of the images that were compiled are those that the compiler makes
pub are_compiled : (mac : Mac) (deployment : Deployment) (images : List Made) → IsSoundDeployment (deployed_as deployment) → length images ≡ length deployment.app.parts.items
    → AreBuilt mac (deployed_as deployment) (map plain images) → texts_of images ≡ compiled_texts (deployed_as deployment)
unfolding compiled_texts
are_compiled mac deployment images sound all built =
    let d = deployed_as deployment in
    let laid = laid_long d 0 d.app.parts d.layouts sound.laid in
    sym (texts_plain images)
    ∙ texts_built mac d 0 d.app.parts d.layouts d.providers (map plain images) (as_many deployment images all) (omega (arith, laid)) (omega (arith, sound.parts, sound.providers))
    (λ k image q l v a b c e. let at : k ≡ 0 + k = omega arith in subst (λ (n : ℕ). IsBuilt mac d q l v n image) at (built k image a q l v b c e))
