-- A setting with names is sound.
use Rattle.std.proofs.Common.{◌≡◌, ◌≢◌, ℕ, ◌+◌, ◌==◌, Bool, true, false, cond, List, [], ◌∷◌, ◌++◌, length, refl, sym, ◌∙◌, subst}
use Rattle.std.proofs.lemmas.Bool.{eq-eqb}
use Rattle.sx_mean.specs.Application.{PartTree}
use Rattle.sx_mean.specs.Ends.{ends_of}
use Rattle.sx_tag.specs.Mac.{Mac, IsTag}
use Rattle.spec_run.specs.Setting.{Setting, Site}
use Rattle.spec_run.specs.Law.{IsTagBytes, IsTagUnder, IsSoundSetting, IsDriven, image_at}
use Rattle.law_forgery.specs.Tags.{rekeyed}
use Rattle.law_forgery.specs.Named.{code, looked, named, names}
use Rattle.law_forgery.proofs.Naming.{names_long}
use Rattle.law_connections.specs.Laws.{RealizesAlways}
use Rattle.law_makers.specs.NamedSound.{RealizesUnder, NamedIsSound}
use Rattle.law_connections.proofs.Realizing.{realizes_so}

module _ (secret : List ℕ) (table mac : Mac) (long : length secret ≡ 16) (tag : IsTagUnder secret mac) (lawful : IsTag table) where
  made : (key : List ℕ) (kind : ℕ) (rest : List ℕ) → kind ≢ 0x4B → (b c : Bool) → (kind == 0x4B) ≡ c
      → IsTagBytes (cond b (mac key (kind ∷ rest)) (cond c (key ++ code rest ∷ []) (table key (kind ∷ rest))))
  made key kind rest ne true c e = tag.tags key kind rest ne
  made key kind rest ne false true e = absurd (ne (Rattle.std.proofs.lemmas.Bool.eqb-true kind 0x4B e))
  made key kind rest ne false false e = (lawful.width key (kind ∷ rest), lawful.bytes key (kind ∷ rest))

  pub named_under : IsTagUnder secret (named table mac)
  named_under = record {
    tags = λ key kind rest ne. made key kind rest ne (length key == 16) (kind == 0x4B) refl;
    derived = λ rest. subst (λ (b : Bool). IsTagBytes (cond b (mac secret (0x4B ∷ rest)) (looked table secret (0x4B ∷ rest)))) (sym (eq-eqb (length secret) 16 long)) (tag.derived rest);
  }

pub realizes_under : RealizesUnder
realizes_under secret mac tag tree ends image always = realizes_so secret mac tag tree ends image always

-- a sound setting with other keys of nodes and another tag function
pub sound_with : (set : Setting) → IsSoundSetting set → RealizesAlways set → (nac : Mac) (keys : List (List ℕ)) → length keys ≡ length set.keys → IsTagUnder set.secret nac
    → IsSoundSetting (rekeyed set nac keys set.secret)
sound_with set sound always nac keys long tag = record {
  tag = tag;
  keys = long ∙ sound.keys;
  sites = sound.sites;
  places = sound.places;
  links = sound.links;
  windows = sound.windows;
  deployed = λ m q site part sited.
      let h = sound.deployed m q site part sited in
      record {
        node = h.node;
        bounds = h.bounds;
        parts = h.parts;
        checked = h.checked;
        provider = h.provider;
        text_end = h.text_end;
        data_end = h.data_end;
        text = h.text;
        data_size = h.data_size;
        realizes = realizes_under set.secret nac tag q.tree (ends_of set.app m) (image_at site) (always m q site part sited);
        devices = h.devices;
        text_free = h.text_free;
        device = λ d e. driven q site d (h.device d e);
        none = h.none;
      };
  apart = sound.apart;
}
  where
    driven : (q : PartTree) (site : Site) (d : ℕ) → IsDriven set q site d → IsDriven (rekeyed set nac keys set.secret) q site d
    driven q site d h = record { device = h.device; found = h.found; node = h.node; kind = h.kind; place = h.place }

pub named_is_sound : NamedIsSound
named_is_sound set table sound always lawful long =
    sound_with set sound always (named table set.mac) (names 0 (length set.keys)) (names_long 0 (length set.keys)) (named_under set.secret table set.mac long sound.tag lawful)
