-- What a run has read and written, from what its last step says.
use Rattle.std.proofs.Common.{◌≡◌, ℕ, ◌+◌, ◌*◌, ◌<◌, ◌≤◌, arith, List, [], ◌∷◌, ◌++◌, Option, Some, None, Result, Ok, Err, IfOk, IfErr, IsErrAnd, refl, ap, ◌∙◌, sym, subst, append_assoc, append-nil, take, drop, get_or, length, take-append-drop}
use Rattle.std.proofs.lemmas.List.{drop_more}
use Rattle.std.proofs.lemmas.Option.{same_Some}
use Rattle.std.proofs.KnownBytes.{Consumes-kept}
use Rattle.std.specs.Io.KnownBytes.{Consumes, IsAtEnd, Keeps}
use Rattle.ll_replay.specs.declared.outcome.RunFault.{RunFault}
use Rattle.ll_replay.specs.declared.outcome.RunFault.TheVariants as fault
use Rattle.ll_replay.specs.declared.outcome.RunSummary.{RunSummary}
use Rattle.ll_replay.specs.Cuts.{HasFailed, IsCutAt, IsStopped, StandsFor}
use Rattle.ll_replay.specs.Kept.{Kept}
use Rattle.ll_replay.specs.Stream.{IsWhole, StopsAfter, open_line}

-- the bytes so far are the whole input, where none is left
pub all-consumed : (before mid after : Option (List ℕ)) (bytes piece input : List ℕ) → Consumes before mid bytes → Consumes mid after piece
    → piece ≡ [] → IsAtEnd after → before ≡ Some input → bytes ≡ input
all-consumed None mid after bytes piece input p q none end e = absurd (cc)
all-consumed (Some xs) None after bytes piece input p q none end e = absurd p
all-consumed (Some xs) (Some ys) None bytes piece input p q none end e = absurd q
all-consumed (Some xs) (Some ys) (Some zs) bytes piece input p q none end e =
    sym (p ∙ ap (λ l. bytes ++ l) (q ∙ ap (λ l. l ++ zs) none ∙ end) ∙ append-nil bytes) ∙ same_Some xs input e

-- the input goes on with the piece
pub more-left : (before mid after : Option (List ℕ)) (bytes piece input : List ℕ) → Consumes before mid bytes → Consumes mid after piece → before ≡ Some input
    → (more : List ℕ) × (bytes ++ (piece ++ more) ≡ input)
more-left None mid after bytes piece input p q e = absurd (cc)
more-left (Some xs) None after bytes piece input p q e = absurd p
more-left (Some xs) (Some ys) None bytes piece input p q e = absurd q
more-left (Some xs) (Some ys) (Some zs) bytes piece input p q e = (zs, sym (p ∙ ap (λ l. bytes ++ l) q) ∙ same_Some xs input e)

pub StopsAfter-now : (held : List ℕ) (kept : Kept) (base written before left after : Option (List ℕ)) (bytes : List ℕ)
    → StandsFor held kept base written bytes → Consumes before left bytes → Keeps left after → StopsAfter before after base written
StopsAfter-now held kept base written before left after bytes s p e =
    let fits : length (open_line bytes) ≤ 65537 = rw (← s.holds) s.fits in
    (bytes, s.list, Consumes-kept before left after bytes p e, s.lines, s.stands.goes_on, fits, s.stands.wrote)

-- a fault that is handed on
pub IfErr-handed : {X : Type 0} (P : RunFault → Type 0) (r : Result X RunFault) (f : RunFault) → IsErrAnd r (λ y. y ≡ f) → P f → IfErr r P
IfErr-handed P (Ok x) f h p = tt
IfErr-handed P (Err y) f h p = subst P (sym h) p

pub same_fault : {X : Type 0} (r : Result X RunFault) (f g : RunFault) → IsErrAnd r (λ y. y ≡ f) → r ≡ Err g → f ≡ g
same_fault (Ok x) f g h e = absurd h
same_fault (Err y) f g h e = let k = sym h in cc

-- a fault of a script is none of reading
pub IsStopped-cut : (f : RunFault) (before after base written : Option (List ℕ)) (bytes : List ℕ) → IsCutAt base written bytes f
    → ((input : List ℕ) → before ≡ Some input → IsCutAt base written input f) → IsStopped before after base written f
IsStopped-cut fault.Read before after base written bytes c h = absurd c
IsStopped-cut fault.Write before after base written bytes c h = h
IsStopped-cut (fault.BadLine n) before after base written bytes c h = h
IsStopped-cut (fault.LineTooLong n) before after base written bytes c h = h
IsStopped-cut fault.Endless before after base written bytes c h = absurd c
IsStopped-cut fault.Memory before after base written bytes c h = h

pub HasFailed-cut : (f : RunFault) (read write endless : Type 0) (base written : Option (List ℕ)) (bytes : List ℕ) → IsCutAt base written bytes f
    → (f ≡ fault.Write → write) → HasFailed read write endless f
HasFailed-cut fault.Read read write endless base written bytes c h = absurd c
HasFailed-cut fault.Write read write endless base written bytes c h = h refl
HasFailed-cut (fault.BadLine n) read write endless base written bytes c h = tt
HasFailed-cut (fault.LineTooLong n) read write endless base written bytes c h = tt
HasFailed-cut fault.Endless read write endless base written bytes c h = absurd c
HasFailed-cut fault.Memory read write endless base written bytes c h = tt

-- what the last step of a run says of a script whose bytes were all read
abbrev pub CutsAt : List ℕ → Kept → Option (List ℕ) → Option (List ℕ) → RunFault → Type 0
CutsAt held kept written after f = (bytes : List ℕ) (base : Option (List ℕ)) → StandsFor held kept base written bytes → IsCutAt base after bytes f

abbrev pub WholeAt : List ℕ → Kept → Option (List ℕ) → Option (List ℕ) → RunSummary → Type 0
WholeAt held kept written after summary = (bytes : List ℕ) (base : Option (List ℕ)) → StandsFor held kept base written bytes → IsWhole base after bytes summary

-- all bytes were read
abbrev pub IsAll : Option (List ℕ) → List ℕ → Type 0
IsAll before bytes = (input : List ℕ) → before ≡ Some input → bytes ≡ input

pub whole-at_end : (r : Result RunSummary RunFault) (held : List ℕ) (kept : Kept) (base written after before : Option (List ℕ)) (bytes : List ℕ)
    → IfOk r (WholeAt held kept written after) → StandsFor held kept base written bytes → IsAll before bytes
    → IfOk r (λ summary. (input : List ℕ) → before ≡ Some input → IsWhole base after input summary)
whole-at_end (Ok summary) held kept base written after before bytes h s all = λ input e. subst (λ bs. IsWhole base after bs summary) (all input e) (h bytes base s)
whole-at_end (Err f) held kept base written after before bytes h s all = tt

pub stopped-at_end : (r : Result RunSummary RunFault) (held : List ℕ) (kept : Kept) (base written after before left : Option (List ℕ)) (bytes : List ℕ)
    → IfErr r (CutsAt held kept written after) → StandsFor held kept base written bytes → IsAll before bytes → IfErr r (IsStopped before left base after)
stopped-at_end (Ok x) held kept base written after before left bytes cut s all = tt
stopped-at_end (Err f) held kept base written after before left bytes cut s all =
    let c = cut bytes base s in
    IsStopped-cut f before left base after bytes c (λ input e. subst (λ bs. IsCutAt base after bs f) (all input e) c)

pub failed-at_end : (r : Result RunSummary RunFault) (read write endless : Type 0) (held : List ℕ) (kept : Kept) (base written after : Option (List ℕ)) (bytes : List ℕ)
    → IfErr r (CutsAt held kept written after) → StandsFor held kept base written bytes → (r ≡ Err fault.Write → write) → IfErr r (HasFailed read write endless)
failed-at_end (Ok x) read write endless held kept base written after bytes cut s h = tt
failed-at_end (Err f) read write endless held kept base written after bytes cut s h =
    HasFailed-cut f read write endless base after bytes (cut bytes base s) (λ e. h (ap Err e))

-- a fault in a piece is one of the script, whatever follows
abbrev pub CutsIn : List ℕ → List ℕ → Option (List ℕ) → Option (List ℕ) → RunFault → Type 0
CutsIn bytes piece base after f = (more : List ℕ) → IsCutAt base after (bytes ++ (piece ++ more)) f

pub stopped-in_piece : {X : Type 0} (r : Result X RunFault) (f : RunFault) (before mid left base after : Option (List ℕ)) (bytes piece : List ℕ) → IsErrAnd r (λ y. y ≡ f)
    → CutsIn bytes piece base after f → Consumes before mid bytes → Consumes mid left piece → IfErr r (IsStopped before left base after)
stopped-in_piece r f before mid left base after bytes piece handed cut p q =
    IfErr-handed (IsStopped before left base after) r f handed
    (IsStopped-cut f before left base after (bytes ++ (piece ++ [])) (cut []) (λ input i.
    let more = more-left before mid left bytes piece input p q i in
    subst (λ bs. IsCutAt base after bs f) more.1 (cut more.0)))

pub failed-in_piece : {X : Type 0} (r : Result X RunFault) (f : RunFault) (read write endless : Type 0) (base after : Option (List ℕ)) (bytes piece : List ℕ) → IsErrAnd r (λ y. y ≡ f)
    → CutsIn bytes piece base after f → (f ≡ fault.Write → write) → IfErr r (HasFailed read write endless)
failed-in_piece r f read write endless base after bytes piece handed cut h =
    IfErr-handed (HasFailed read write endless) r f handed (HasFailed-cut f read write endless base after (bytes ++ (piece ++ [])) (cut []) h)

-- a byte in a piece, and what follows it
around_byte : (bytes piece more : List ℕ) (i : ℕ) → i < length piece
    → (bytes ++ take i piece) ++ (get_or piece i 0 ∷ (drop (i + 1) piece ++ more)) ≡ bytes ++ (piece ++ more)
around_byte bytes piece more i h =
    append_assoc bytes (take i piece) (get_or piece i 0 ∷ (drop (i + 1) piece ++ more))
    ∙ ap (λ t. bytes ++ t) (
    ap (λ t. take i piece ++ (t ++ more)) (sym (drop_more piece i 0 h))
    ∙ sym (append_assoc (take i piece) (drop i piece) more)
    ∙ ap (λ t. t ++ more) (take-append-drop i piece))

pub IsCutAt-in_piece : (f : RunFault) (base after : Option (List ℕ)) (bytes piece more : List ℕ) (i : ℕ) → i < length piece
    → IsCutAt base after ((bytes ++ take i piece) ++ (get_or piece i 0 ∷ (drop (i + 1) piece ++ more))) f → IsCutAt base after (bytes ++ (piece ++ more)) f
IsCutAt-in_piece f base after bytes piece more i h c = subst (λ bs. IsCutAt base after bs f) (around_byte bytes piece more i h) c

pub lines_fit_more : (a b n piece : ℕ) → a ≤ b + piece → b ≤ 65536 * n → piece ≤ 65536 → a ≤ 65536 * (n + 1)
lines_fit_more a b n piece h k short = omega arith
