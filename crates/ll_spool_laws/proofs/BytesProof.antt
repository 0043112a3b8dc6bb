-- Two lists of items whose bytes stand at the same places have the same bytes there.
use Rattle.std.proofs.Common.{◌≡◌, ℕ, ◌+◌, zero, suc, List, [], ◌∷◌, ◌++◌, None, Some, ap, sym, subst, ◌∙◌, append-nil, map, slice_get, take}
use Rattle.ll_layout.specs.Held.{Each, Holds, IsHeld, LayoutValue, stored}
use Rattle.ll_layout.specs.declared.side.Side.{Side}
use Rattle.ll_layout.specs.declared.stored.KeptPart.{KeptPart}
use Rattle.ll_layout.specs.declared.stored.StoredItem.{StoredItem}
use Rattle.ll_layout.specs.declared.stored.StoredSection.{StoredSection}
use Rattle.ll_spool.proofs.FileLemmas.{same_held}
use Rattle.ll_spool.proofs.LayoutLemmas.{layouts_same}
use Rattle.ll_spool.specs.Files.{AreStored, Files, HasStoredFrom, HoldsFrom}
use Rattle.ll_spool.specs.Layouts.{layouts_after}
use Rattle.ll_spool.specs.Restored.{nth_bytes}
use Rattle.ll_verdict.specs.Events.{items}
use Rattle.ll_spool_laws.proofs.RestartProof.{restart}
use Rattle.ll_spool_laws.specs.Laws.{BytesLaw, StoredLaw}

each-same : (f : Side → List ℕ) (of then : ℕ → List ℕ) (ss : List StoredItem) → Each (IsHeld f of) ss → Each (IsHeld f then) ss
    → Each (λ (s : StoredItem). then s.count ≡ of s.count) ss
each-same f of then [] a b = tt
each-same f of then (s ∷ ss) a b = (same_held f of then s a.0 b.0, each-same f of then ss a.1 b.1)

some-one : (k l : LayoutValue) → Some k ≡ Some l → k ≡ l
some-one k l e = cc

same-from : (files : Files) (of then : ℕ → List ℕ) (r k : ℕ) (ls : List LayoutValue) (l : LayoutValue) → slice_get ls k ≡ Some l → HasStoredFrom r files of ls
    → HasStoredFrom r files then ls → Each (λ (s : StoredItem). then s.count ≡ of s.count) (stored l)
same-from files of then r k [] l at a b = absurd (cc)
same-from files of then r zero (m ∷ ls) l at a b =
    subst (λ (x : LayoutValue). Each (λ (s : StoredItem). then s.count ≡ of s.count) (stored x)) (some-one m l at) (each-same (files r) of then (stored m) a.0 b.0)
same-from files of then r (suc k) (m ∷ ls) l at a b = same-from files of then (r + 1) k ls l at a.1 b.1

pub same_bytes : BytesLaw
same_bytes c events bytes restored count layouts files limits few texts r =
    let its = items c events in
    let (n, whole, again) = restart c events bytes restored count limits few texts r.restored in
    let published : restored ≡ r.restored.items = (let e = r.restored.published in cc) in
    let laid : layouts ≡ layouts_after c restored = r.laid ∙ ap (layouts_after c) (sym published) in
    let own : AreStored (nth_bytes restored) layouts (Some files) =
    subst (λ xs. AreStored (nth_bytes xs) layouts (Some files)) (append-nil r.restored.items ∙ sym published) (r.held []) in (
      n,
      whole,
      again,
      laid ∙ layouts_same c (take n its) restored again.same,
      λ held rendition l at. same-from files (nth_bytes its) (nth_bytes restored) 0 rendition layouts l at held own,
    )

-- ---- what is held is there

each-join : {X : Type 0} (P : X → Type 0) (xs ys : List X) → Each P xs → Each P ys → Each P (xs ++ ys)
each-join P [] ys a b = b
each-join P (x ∷ xs) ys a b = (a.0, each-join P xs ys a.1 b)

each-map : {X Y : Type 0} (P : Y → Type 0) (f : X → Y) (xs : List X) → Each (λ x. P (f x)) xs → Each P (map f xs)
each-map P f [] all = tt
each-map P f (x ∷ xs) all = (all.0, each-map P f xs all.1)

one-stored : (f : Side → List ℕ) (of : ℕ → List ℕ) (l : LayoutValue) → Holds f of l → Each (IsHeld f of) (stored l)
one-stored f of l h =
    let P = IsHeld f of in
    let older = map (λ (p : KeptPart). p.stored) l.older in
    let newer = map (λ (p : KeptPart). p.stored) l.newer in
    each-join P (older ++ newer) (map (λ (s : StoredSection). s.stored) l.sections)
    (each-join P older newer (each-map P (λ (p : KeptPart). p.stored) l.older h.older) (each-map P (λ (p : KeptPart). p.stored) l.newer h.newer))
    (each-map P (λ (s : StoredSection). s.stored) l.sections h.sections)

all-stored : (r : ℕ) (files : Files) (of : ℕ → List ℕ) (ls : List LayoutValue) → HoldsFrom r files of ls → HasStoredFrom r files of ls
all-stored r files of [] h = tt
all-stored r files of (l ∷ ls) h = (one-stored (files r) of l h.0, all-stored (r + 1) files of ls h.1)

pub stored_too : StoredLaw
stored_too of ls None h = tt
stored_too of ls (Some files) h = all-stored 0 files of ls h
