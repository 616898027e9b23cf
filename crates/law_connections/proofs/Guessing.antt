-- Where no key is found, nothing is guessed.
use Rattle.law_connections.specs.Found.{KeysFound}

pub keys_found : KeysFound
keys_found a b move lines is found k now at none n s next there runs =
    let f = found k now at none n s next there runs in
    record {
      held = λ row own sec other read. let g = f.held row own sec other read in is.stay _ g.0 g.1;
      admitted = λ row new. is.modules n s.boot _ _ (f.admitted row new);
    }
