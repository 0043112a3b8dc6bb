-- Parts in segments, one more part at the end: what a part does at the end is what it does at the start, segment by segment.
use Rattle.std.proofs.Common.{◌≡◌, ℕ, ◌+◌, length, arith, cond, sym, append-nil, List, [], ◌∷◌, ◌++◌, Bool, true, false, refl, ap, ◌∙◌}
use Rattle.ll_item.specs.declared.part.Part.{Part}
use Rattle.std.proofs.lemmas.List.Sums.{sum_by-append}
use Rattle.ll_item.specs.Told.{finished_last}
use Rattle.ll_window.specs.Numbers.{NumberedPart, last_place, numbered_parts}
use Rattle.ll_window.specs.Rows.{begun}
use Rattle.ll_window.specs.Segments.{Split, closed, duration, split, put_by}

-- one more part, which finishes a segment or doesn't
abbrev pub added_by : Bool → Split → Part → Split
added_by true s p = record { finished = s.finished ++ (s.unfinished ++ p ∷ []) ∷ []; unfinished = [] }
added_by false s p = record { finished = s.finished; unfinished = s.unfinished ++ p ∷ [] }

abbrev onto : Bool → Part → Split → Split
onto a q s = put_by a q s.finished s.unfinished

-- a part at the start and one at the end
both_ends : (a b : Bool) (q p : Part) (gs : List (List Part)) (ps : List Part)
    → onto a q (added_by b (record { finished = gs; unfinished = ps }) p) ≡ added_by b (onto a q (record { finished = gs; unfinished = ps })) p
both_ends true true q p gs ps = refl
both_ends true false q p gs ps = refl
both_ends false true q p [] ps = refl
both_ends false false q p [] ps = refl
both_ends false true q p (g ∷ gs) ps = refl
both_ends false false q p (g ∷ gs) ps = refl

one_part : (b : Bool) (p : Part) → put_by b p [] [] ≡ added_by b (record { finished = []; unfinished = [] }) p
one_part true p = refl
one_part false p = refl

pub split-snoc : (ps : List Part) (p : Part) → split (ps ++ p ∷ []) ≡ added_by p.finish (split ps) p
split-snoc [] p = one_part p.finish p
split-snoc (q ∷ ps) p =
    ap (onto q.finish q) (split-snoc ps p) ∙ both_ends q.finish p.finish q p (split ps).finished (split ps).unfinished

-- the last part finishes the segment that goes on

abbrev pub with_last : Split → Split
with_last s = record { finished = s.finished ++ closed (finished_last s.unfinished); unfinished = [] }

pub last-snoc : (ps : List Part) (p : Part) → finished_last (ps ++ p ∷ []) ≡ ps ++ (record p { finish = true }) ∷ []
last-snoc [] p = refl
last-snoc (q ∷ []) p = refl
last-snoc (q ∷ r ∷ ps) p = ap (λ xs. q ∷ xs) (last-snoc (r ∷ ps) p)

closed-snoc : (ps : List Part) (p : Part) → closed (ps ++ p ∷ []) ≡ (ps ++ p ∷ []) ∷ []
closed-snoc [] p = refl
closed-snoc (q ∷ ps) p = refl

pub closed-last : (p : Part) (ps : List Part) → closed (finished_last (p ∷ ps)) ≡ finished_last (p ∷ ps) ∷ []
closed-last p [] = refl
closed-last p (q ∷ ps) = refl

pub begun-last : (t : ℕ) (ps : List Part) → begun t (finished_last ps) ≡ begun t ps
begun-last t [] = refl
begun-last t (p ∷ []) = refl
begun-last t (p ∷ q ∷ ps) = refl

-- the same part, if it finished its segment before
same_part : (p : Part) → p.finish ≡ true → (record p { finish = true }) ≡ p
same_part p e = ap (λ b. record p { finish = b }) (sym e)

last_by : (b : Bool) (s : Split) (p : Part) → p.finish ≡ b → added_by true s (record p { finish = true }) ≡ with_last (added_by b s p)
last_by true s p e =
    ap (λ q. added_by true s q) (same_part p e)
    ∙ ap (λ gs. record { finished = gs; unfinished = [] }) (sym (append-nil (s.finished ++ (s.unfinished ++ p ∷ []) ∷ [])))
last_by false s p e =
    ap (λ gs. record { finished = s.finished ++ gs; unfinished = [] })
    (sym (ap closed (last-snoc s.unfinished p) ∙ closed-snoc s.unfinished (record p { finish = true })))

data Snoc : List Part → Type 0 where
  Empty : Snoc []
  More : (ps : List Part) (p : Part) → Snoc (ps ++ p ∷ [])

snoc : (ps : List Part) → Snoc ps
snoc [] = Empty
snoc (p ∷ ps) = cons p ps (snoc ps)
  where
    cons : (p : Part) (ps : List Part) → Snoc ps → Snoc (p ∷ ps)
    cons p [] Empty = More [] p
    cons p _ (More qs q) = More (p ∷ qs) q

pub split-last : (ps : List Part) → split (finished_last ps) ≡ with_last (split ps)
split-last ps = by (snoc ps)
  where
    by : {ps : List Part} → Snoc ps → split (finished_last ps) ≡ with_last (split ps)
    by Empty = refl
    by (More qs q) =
        ap split (last-snoc qs q) ∙ split-snoc qs (record q { finish = true })
        ∙ last_by q.finish (split qs) q refl ∙ ap with_last (sym (split-snoc qs q))

pub duration-last : (ps : List Part) → duration (finished_last ps) ≡ duration ps
duration-last ps = by (snoc ps)
  where
    by : {ps : List Part} → Snoc ps → duration (finished_last ps) ≡ duration ps
    by Empty = refl
    by (More qs q) =
        let a = sum_by-append (λ (x : Part). x.duration) qs ((record q { finish = true }) ∷ []) in
        let b = sum_by-append (λ (x : Part). x.duration) qs (q ∷ []) in
        ap duration (last-snoc qs q) ∙ omega (arith, a, b)

pub many-closed : (ps : List Part) → length (closed (finished_last ps)) ≡ length (closed ps)
many-closed [] = refl
many-closed (p ∷ []) = refl
many-closed (p ∷ q ∷ ps) = refl

place_by : (b : Bool) (x : NumberedPart) (xs ys zs us : List NumberedPart) → last_place (x ∷ xs) ≡ last_place (x ∷ zs) → last_place (x ∷ ys) ≡ last_place (x ∷ us)
    → last_place (x ∷ cond b xs ys) ≡ last_place (x ∷ cond b zs us)
place_by true x xs ys zs us e f = e
place_by false x xs ys zs us e f = f

place_end : (b : Bool) (n i : ℕ) (p : Part) → last_place ((record { number = n; index = i; part = record p { finish = true } }) ∷ [])
    ≡ last_place ((record { number = n; index = i; part = p }) ∷ cond b [] [])
place_end true n i p = refl
place_end false n i p = refl

place_head : (x : NumberedPart) (n i : ℕ) (q : Part) (ps : List Part) → last_place (x ∷ numbered_parts n i (finished_last (q ∷ ps))) ≡ last_place (numbered_parts n i (finished_last (q ∷ ps)))
place_head x n i q [] = refl
place_head x n i q (r ∷ ps) = refl

-- it stands where it stood
pub place-last : (n i : ℕ) (ps : List Part) → last_place (numbered_parts n i (finished_last ps)) ≡ last_place (numbered_parts n i ps)
place-last n i [] = refl
place-last n i (p ∷ []) = place_end p.finish n i p
place-last n i (p ∷ q ∷ ps) =
    let x : NumberedPart = record { number = n; index = i; part = p } in
    place_by p.finish x (numbered_parts (n + 1) 0 (finished_last (q ∷ ps))) (numbered_parts n (i + 1) (finished_last (q ∷ ps))) (numbered_parts (n + 1) 0 (q ∷ ps)) (numbered_parts n (i + 1) (q ∷ ps))
    (place_head x (n + 1) 0 q ps ∙ place-last (n + 1) 0 (q ∷ ps)) (place_head x n (i + 1) q ps ∙ place-last n (i + 1) (q ∷ ps))
