-- Bytes are text exactly if they are UTF-8.
use Rattle.std.proofs.Common.{◌≡◌, List, ℕ, Bool, true, false, Some, None, refl, ap}
use Rattle.std.proofs.lemmas.Str.{IsUtf8-from_is_utf8, is_utf8-from_IsUtf8}
use Rattle.std.specs.Str.{IsUtf8, is_utf8}
use Rattle.ll_codecs.specs.Codecs.{text_in}

pub text-is : (line text : List ℕ) → text ≡ line → IsUtf8 line → Some text ≡ text_in line
text-is line text e u = let utf8 = is_utf8-from_IsUtf8 line u in rw utf8 (ap Some e)

pub text-none : (line : List ℕ) → ¬ (IsUtf8 line) → None ≡ text_in line
text-none line raw = by_test (is_utf8 line) refl
  where
    by_test : (b : Bool) → is_utf8 line ≡ b → None ≡ text_in line
    by_test true e = absurd (raw (IsUtf8-from_is_utf8 line e))
    by_test false e = rw e refl
