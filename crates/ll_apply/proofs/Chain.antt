-- The result for two texts, once it is known what was read of each.
use Rattle.std.proofs.Common.{◌≡◌, ℕ, List, Option, Some, None, IfSome, Result, Ok, Err, IsOk, IsErrOf, is_ok, refl, ap, sym, ◌∙◌}
use Rattle.ll_line.specs.Playlist.{Skip, Playlist}
use Rattle.ll_line.specs.Spelling.{spelling}
use Rattle.ll_read.specs.Outline.{outline_of}
use Rattle.ll_read.specs.declared.fault.ReadFault.{ReadFault}
use Rattle.ll_apply.specs.Applied.{applied_by, updated, unless_missing}
use Rattle.ll_apply.specs.Found.{IsAnswer, IsFound, missing_of, missing_by_skip, merged, merged_by}
use Rattle.ll_apply.specs.Texts.{and_then, base_of, chain, unless_skipping}
use Rattle.ll_apply.specs.declared.fault.ApplyFault.{ApplyFault}
use Rattle.ll_apply.specs.declared.fault.ApplyFault.TheVariants.{BadBase, BadDelta, NotRecent, Memory}
use Rattle.ll_apply.specs.declared.found.Found.{Found}

pub bad-base : (x y : Result Playlist ApplyFault) (f : ApplyFault) → x ≡ Err f → chain x y ≡ Err f
bad-base x y f e = ap (λ r. chain r y) e

lacks_by : (s : Option Skip) (b d : Playlist) (n : ℕ) → Some n ≡ missing_by_skip s b d → applied_by s b d ≡ Err (NotRecent n)
lacks_by None b d n e = absurd (cc)
lacks_by (Some skip) b d n e = ap (λ o. unless_missing o (updated b d skip)) (sym e)

has_by : (s : Option Skip) (b d : Playlist) → None ≡ missing_by_skip s b d → applied_by s b d ≡ Ok (merged_by s b d)
has_by None b d e = refl
has_by (Some skip) b d e = ap (λ o. unless_missing o (updated b d skip)) (sym e)

-- if a number is missing
pub not-recent : (x y : Result Playlist ApplyFault) (n : ℕ) (o u : Found) → IsFound o x → IsFound u y
    → ((b d : Playlist) → o.outline ≡ outline_of b → u.outline ≡ outline_of d → Some n ≡ missing_of b d) → chain x y ≡ Err (NotRecent n)
not-recent (Err g) y n o u found also lacks = absurd found
not-recent (Ok b) (Err g) n o u found also lacks = absurd also
not-recent (Ok b) (Ok d) n o u found also lacks = ap (λ p. and_then p (λ p. Ok (spelling p))) (lacks_by d.skipped b d n (lacks b d found.0 also.0))

-- if none is, there is a text
pub goes : (x y : Result Playlist ApplyFault) (o u : Found) → IsFound o x → IsFound u y
    → ((b d : Playlist) → o.outline ≡ outline_of b → u.outline ≡ outline_of d → None ≡ missing_of b d) → IsOk (chain x y)
goes (Err g) y o u found also has = absurd found
goes (Ok b) (Err g) o u found also has = absurd also
goes (Ok b) (Ok d) o u found also has = ap (λ p. is_ok (and_then p (λ p. Ok (spelling p)))) (has_by d.skipped b d (has b d found.0 also.0))

same_found : (q : Option Playlist) (b p : Playlist) → IfSome q (λ p. p ≡ b) → q ≡ Some p → p ≡ b
same_found None b p h e = absurd (cc)
same_found (Some a) b p h e = let same : a ≡ p = cc in sym same ∙ h

-- it is the text of the playlists that were found
pub text-of-found : (x y : Result Playlist ApplyFault) (o u : Found) (p q : Playlist) (text : List ℕ) → IsFound o x → IsFound u y
    → ((b d : Playlist) → o.outline ≡ outline_of b → u.outline ≡ outline_of d → None ≡ missing_of b d) → o.playlist ≡ Some p → u.playlist ≡ Some q
    → text ≡ spelling (merged p q) → chain x y ≡ Ok text
text-of-found (Err g) y o u p q text found also has is_p is_q is = absurd found
text-of-found (Ok b) (Err g) o u p q text found also has is_p is_q is = absurd also
text-of-found (Ok b) (Ok d) o u p q text found also has is_p is_q is =
    ap (λ p. and_then p (λ p. Ok (spelling p))) (has_by d.skipped b d (has b d found.0 also.0))
    ∙ ap (λ z. Ok (spelling (merged z d))) (sym (same_found o.playlist b p found.1 is_p))
    ∙ ap (λ z. Ok (spelling (merged p z))) (sym (same_found u.playlist d q also.1 is_q))
    ∙ ap Ok (sym is)

-- an answer, clause by clause

pub answer-memory : (r x : Result (List ℕ) ApplyFault) → IsAnswer r x → IsErrOf r Memory → IsOk x
answer-memory (Ok text) x h e = absurd (cc)
answer-memory (Err Memory) x h e = h
answer-memory (Err BadBase) x h e = absurd (cc)
answer-memory (Err BadDelta) x h e = absurd (cc)
answer-memory (Err (NotRecent number)) x h e = absurd (cc)

-- faults of reading are no out of memory

pub answer-base : (r : Result Playlist ReadFault) (f : ApplyFault) (x : Result (List ℕ) ApplyFault) → base_of r ≡ Err f → x ≡ Err f → IsAnswer (Err f) x
answer-base r BadBase x e h = h
answer-base r BadDelta x e h = h
answer-base r (NotRecent number) x e h = h
answer-base (Err fault) Memory x e h = absurd (cc)
answer-base (Ok p) Memory x e h = no_memory p.skipped p e
  where
    no_memory : (s : Option Skip) (p : Playlist) → unless_skipping s p ≡ Err Memory → IsOk x
    no_memory None p e = absurd (cc)
    no_memory (Some skip) p e = absurd (cc)
