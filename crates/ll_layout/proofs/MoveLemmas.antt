-- Which parts are shown, and where sections are placed.
use Rattle.std.proofs.Common.{◌≡◌, ◌≤◌, ◌<◌, ◌+◌, ℕ, zero, suc, get_or, take, List, [], ◌∷◌, ◌++◌, Bool, true, false, nat_le, refl, ap, sym, subst, ◌∙◌, length, drop, slice_index_or, arith}
use Rattle.std.proofs.lemmas.Bool.Decides.{nat_tests}
use Rattle.ll_layout.specs.Held.{sections_size}
use Rattle.ll_layout.specs.Moves.{placed, shown_from}
use Rattle.ll_layout.specs.declared.side.Side.{Side}
use Rattle.ll_layout.specs.declared.stored.KeptPart.{KeptPart}
use Rattle.ll_layout.specs.declared.stored.StoredSection.{StoredSection}

at-least : (first n : ℕ) → first ≤ n → nat_le first n ≡ true
at-least first n l = grind (arith, nat_tests)

less : (first n : ℕ) → n < first → nat_le first n ≡ false
less first n l = grind (arith, nat_tests)

pub shown-stays : (first : ℕ) (p : KeptPart) (ps : List KeptPart) → first ≤ p.number → shown_from first (p ∷ ps) ≡ p ∷ ps
shown-stays first p ps l = rw (at-least first p.number l) refl

pub shown-goes : (first : ℕ) (p : KeptPart) (ps : List KeptPart) → p.number < first → shown_from first (p ∷ ps) ≡ shown_from first ps
shown-goes first p ps l = rw (less first p.number l) refl

-- the part at the front
pub front-stays : (first : ℕ) (ps : List KeptPart) (d : KeptPart) → 0 < length ps → d ≡ slice_index_or ps 0 d → first ≤ d.number → ps ≡ shown_from first ps
front-stays first [] d some is l = absurd (omega (arith, some))
front-stays first (p ∷ ps) d some is l = let far : first ≤ p.number = subst (λ (q : KeptPart). first ≤ q.number) is l in sym (shown-stays first p ps far)

pub front-goes : (first : ℕ) (ps : List KeptPart) (d : KeptPart) → 0 < length ps → d ≡ slice_index_or ps 0 d → d.number < first
    → shown_from first (drop 1 ps) ≡ shown_from first ps
front-goes first [] d some is l = absurd (omega (arith, some))
front-goes first (p ∷ ps) d some is l = let near : p.number < first = subst (λ (q : KeptPart). q.number < first) is l in sym (shown-goes first p ps near)

-- one more section
pub placed-snoc : (side : Side) (offset : ℕ) (ss : List StoredSection) (s : StoredSection)
    → placed side offset (ss ++ s ∷ []) ≡ placed side offset ss ++ placed side (offset + sections_size ss) (s ∷ [])
placed-snoc side offset [] s = ap (λ n. placed side n (s ∷ [])) (omega arith)
placed-snoc side offset (t ∷ ss) s =
    ap (λ more. placed side offset (t ∷ []) ++ more) (placed-snoc side (offset + t.stored.place.length) ss s)
    ∙ ap (λ at. placed side offset (t ∷ ss) ++ placed side at (s ∷ [])) (omega arith)

pub size-snoc : (ss : List StoredSection) (s : StoredSection) → sections_size (ss ++ s ∷ []) ≡ sections_size ss + s.stored.place.length
size-snoc [] s = omega arith
size-snoc (t ∷ ss) s = let e = size-snoc ss s in omega (arith, e)

-- a section that is placed where those before it end
pub placed-end : (side : Side) (ss : List StoredSection) (s : StoredSection) (end : ℕ) → end ≡ sections_size ss
    → placed side 0 ss ++ placed side end (s ∷ []) ≡ placed side 0 (ss ++ s ∷ [])
placed-end side ss s end e = ap (λ at. placed side 0 ss ++ placed side at (s ∷ [])) (omega (arith, e)) ∙ sym (placed-snoc side 0 ss s)

pub shown-none : (first : ℕ) (ps : List KeptPart) → length ps ≡ 0 → ps ≡ shown_from first ps
shown-none first [] e = refl
shown-none first (p ∷ ps) e = absurd (omega (arith, e))

-- the section at a place is among all
at-size : (k : ℕ) (ss : List StoredSection) (d : StoredSection) → k < length ss → sections_size (take k ss) + (get_or ss k d).stored.place.length ≤ sections_size ss
at-size k [] d l = absurd (omega (arith, l))
at-size zero (s ∷ ss) d l = omega arith
at-size (suc k) (s ∷ ss) d l = let more = at-size k ss d (omega (arith, l)) in omega (arith, more)

pub large-at : (ss yielded : List StoredSection) (s : StoredSection) (end n : ℕ) → end ≡ sections_size yielded → yielded ≡ take (length yielded) ss
    → length yielded < length ss → s ≡ get_or ss (length yielded) s → n ≤ end + s.stored.place.length → n ≤ sections_size ss
large-at ss yielded s end n sum first few is large =
    let all = at-size (length yielded) ss s few in
    let same : sections_size yielded ≡ sections_size (take (length yielded) ss) = ap (λ (ts : List StoredSection). sections_size ts) first in
    let one : s.stored.place.length ≡ (get_or ss (length yielded) s).stored.place.length = ap (λ (t : StoredSection). t.stored.place.length) is in
    omega (arith, all, same, one, sum, large)
