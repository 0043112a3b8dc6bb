-- The segments that are kept of an earlier playlist, and then those of the update, as they are written.
use Rattle.std.proofs.Common.{◌≡◌, ◌==◌, ℕ, List, [], ◌∷◌, ◌++◌, true, false, length, arith, map, take, drop, Option, None, refl, ap, sym, ◌∙◌, append_assoc}
use Rattle.ll_line.specs.Text.{text_of}
use Rattle.ll_line.proofs.Texts.{texts}
use Rattle.ll_line.specs.Playlist.{Finished}
use Rattle.ll_apply.specs.Applied.{in_force, without_parts}
use Rattle.ll_apply.specs.Order.{both, both_lines, force_after, lines_from, shown}
use Rattle.ll_apply.proofs.OrderLemmas.{mapped-lines, lines-more, in-force-first, drop-in-force, take-in-force, force-without}

opened : (from count : ℕ) (base own : List Finished)
    → both from count base own ≡ lines_from true None (map without_parts (in_force (force_after None (take from base)) (take count (drop from base))) ++ own)
opened from count base own =
    mapped-lines None (map without_parts (take count (drop from (in_force None base))) ++ own)
    ∙ ap (λ ss. lines_from true None (map without_parts (take count ss) ++ own)) (drop-in-force from None base)
    ∙ ap (λ ss. lines_from true None (map without_parts ss ++ own)) (take-in-force count (force_after None (take from base)) (drop from base))

some_kept : (before : Option (List ℕ)) (s : Finished) (ss own : List Finished)
    → lines_from true None (map without_parts (in_force before (s ∷ ss)) ++ own) ≡ both_lines before (s ∷ ss) own
some_kept before s ss own =
    in-force-first true before s ss own ∙ lines-more true before (without_parts s) (map without_parts ss) own
    ∙ ap (λ uri. lines_from true before (map without_parts (s ∷ ss)) ++ lines_from false uri own) (force-without before (s ∷ ss))

kept_by : (before : Option (List ℕ)) (kept own : List Finished) → lines_from true None (map without_parts (in_force before kept) ++ own) ≡ both_lines before kept own
kept_by before [] own = refl
kept_by before (s ∷ ss) own = some_kept before s ss own

pub both-written : (from count : ℕ) (base own : List Finished)
    → both from count base own ≡ both_lines (force_after None (take from base)) (take count (drop from base)) own
both-written from count base own = opened from count base own ∙ kept_by (force_after None (take from base)) (take count (drop from base)) own

-- a segment with its parts is itself
pub shown-all : (ss : List Finished) → map (shown true) ss ≡ ss
shown-all [] = refl
shown-all (s ∷ ss) = ap (λ ts. s ∷ ts) (shown-all ss)

pub shown-none : (ss : List Finished) → map (shown false) ss ≡ map without_parts ss
shown-none [] = refl
shown-none (s ∷ ss) = ap (λ ts. without_parts s ∷ ts) (shown-none ss)

-- a text with the update's segments alone, if none is kept
pub pushed-own : (old whole : List ℕ) (before : Option (List ℕ)) (kept own : List Finished) → kept ≡ []
    → whole ≡ old ++ text_of (lines_from true None (map (shown true) own)) → whole ≡ old ++ text_of (both_lines before kept own)
pushed-own old whole before kept own none is =
    is ∙ ap (λ ss. old ++ text_of (lines_from true None ss)) (shown-all own) ∙ ap (λ ss. old ++ text_of (both_lines before ss own)) (sym none)

both_by : (before : Option (List ℕ)) (kept own : List Finished) → (kept ≡ [] → ⊥)
    → both_lines before kept own ≡ lines_from true before (map without_parts kept) ++ lines_from false (force_after before kept) own
both_by before [] own some = absurd (some refl)
both_by before (s ∷ kept) own some = refl

-- a text with the kept segments, and then with the update's
pub pushed-both : (old middle whole : List ℕ) (before : Option (List ℕ)) (kept own : List Finished) → (kept ≡ [] → ⊥)
    → middle ≡ old ++ text_of (lines_from true before (map (shown false) kept))
    → whole ≡ middle ++ text_of (lines_from false (force_after before kept) (map (shown true) own)) → whole ≡ old ++ text_of (both_lines before kept own)
pushed-both old middle whole before kept own some first then =
    let front = lines_from true before (map without_parts kept) in
    let after = lines_from false (force_after before kept) own in
    then ∙ ap (λ ss. middle ++ text_of (lines_from false (force_after before kept) ss)) (shown-all own)
    ∙ ap (λ text. text ++ text_of after) (first ∙ ap (λ ss. old ++ text_of (lines_from true before ss)) (shown-none kept))
    ∙ append_assoc old (text_of front) (text_of after)
    ∙ ap (λ text. old ++ text) (sym (texts front after) ∙ ap text_of (sym (both_by before kept own some)))

-- a text with what was cut off and kept is the definition's
pub pushed-kept : (old whole : List ℕ) (before : Option (List ℕ)) (from count : ℕ) (base gone kept own : List Finished)
    → before ≡ force_after None gone → gone ≡ take from base → kept ≡ take count (drop from base)
    → whole ≡ old ++ text_of (both_lines before kept own) → whole ≡ old ++ text_of (both from count base own)
pushed-kept old whole before from count base gone kept own map-is gone-is kept-is is =
    is ∙ ap (λ uri. old ++ text_of (both_lines uri kept own)) (map-is ∙ ap (force_after None) gone-is)
    ∙ ap (λ ss. old ++ text_of (both_lines (force_after None (take from base)) ss own)) kept-is
    ∙ ap (λ lines. old ++ text_of lines) (sym (both-written from count base own))

pub no-segments : (ss : List Finished) → (length ss == 0) ≡ true → ss ≡ []
no-segments [] e = refl
no-segments (s ∷ ss) e = absurd (grind (arith, e))

pub some-segments : (ss : List Finished) → (length ss == 0) ≡ false → ss ≡ [] → ⊥
some-segments ss e none = let two = ap (λ ts. length ts == 0) none in absurd (grind (arith, e, two))
