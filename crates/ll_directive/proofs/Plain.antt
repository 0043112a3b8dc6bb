-- The file that a request is for determines what it waits for, and whether it can be for a delta update.
use Rattle.std.proofs.Common.{◌≡◌, Bool, true, false, None, refl}
use Rattle.ll_directive.specs.Files.{is_playlist}
use Rattle.ll_directive.specs.Targets.{IsPlain, WantValue, awaited_by, awaited_in}

by_file : (w : WantValue) (b : Bool) → is_playlist w.what ≡ b → IsPlain w → w.awaited ≡ awaited_by b w.awaited w.what
by_file w true e plain = refl
by_file w false e plain = (plain e).0

pub plain_awaited : (w : WantValue) → IsPlain w → w.awaited ≡ awaited_in w
plain_awaited w plain = by_file w (is_playlist w.what) refl plain

pub plain_skip : (w : WantValue) → IsPlain w → is_playlist w.what ≡ false → w.skip ≡ None
plain_skip w plain e = (plain e).1
