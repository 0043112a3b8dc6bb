-- A section is placed where those before it end.
use Rattle.std.proofs.Common.{rules, ◌≡◌, ◌≤◌, ◌+◌, ◌++◌, ◌∷◌, [], List, ap, sym, ◌∙◌, refl, arith, length, map}
use Rattle.std.proofs.lemmas.Iterator.Adapters.{YieldsList-from_vec}
use Rattle.std.proofs.lemmas.Iterator.Consumers.{YieldsList-end, YieldsList-so_far, YieldsList-turn}
use Rattle.std.specs.Vec.Iter.{into_iter_items, into_iter_len}
use Rattle.ll_layout.proofs.MoveLemmas.{large-at, placed-end, size-snoc}
use Rattle.ll_layout.specs.Held.{sections_size}
use Rattle.ll_layout.specs.Moves.{placed}
use Rattle.ll_layout.specs.declared.stored.StoredSection.{StoredSection}
use Rattle.ll_layout.proofs.moves.place_sections.Goals as goal

all-of : {A : Type 0} (xs : List A) → xs ≡ map (λ y. y) xs
all-of [] = refl
all-of (x ∷ xs) = ap (λ ys. x ∷ ys) (all-of xs)

pub loop-section-preserved : goal.loop-section-preserved
loop-section-preserved c =
    let s = c.in-Some.section in
    let yielded = c.loop-section.yielded in
    let text = size-snoc yielded s in
    let end : c.in_ok-end.end ≡ c.loop-section.end + s.stored.place.length = search rules in
    let one : c.add.new.sections.items ≡ c.loop-section.placed.items ++ placed c.args.side c.loop-section.end (s ∷ []) = search rules in (
      one ∙ ap (λ ss. ss ++ placed c.args.side c.loop-section.end (s ∷ [])) c.loop-section.invariant.0
          ∙ placed-end c.args.side yielded s c.loop-section.end c.loop-section.invariant.1,
      omega (arith, end, text, c.loop-section.invariant.1),
    )

-- a section that doesn't fit any more is one of all
pub returns-in_err-end-clause-large : goal.returns-in_err-end-clause-large
returns-in_err-end-clause-large c = λ large.
    let ss = c.args.sections.items in
    let s = c.in-Some.section in
    let yielded = c.loop-section.yielded in
    let same : into_iter_items c.into_iter-section-iterator.result ≡ ss = search rules in
    let long : into_iter_len c.into_iter-section-iterator.result ≡ length ss = search rules in
    let road = YieldsList-from_vec ss same long in
    let first = YieldsList-so_far road yielded c.loop-section.section-iterator c.loop-section.yielded_by in
    let t = YieldsList-turn road yielded c.loop-section.section-iterator c.loop-section.yielded_by c.next.result c.next.new.self s c.in-Some.is c.next.ensures.steps in
    let full : 9223372036854775808 ≤ c.loop-section.end + s.stored.place.length = search rules in
    large-at ss yielded s c.loop-section.end 9223372036854775808 c.loop-section.invariant.1 (all-of yielded ∙ first) t.0 t.1 full

pub returns-clause-placed : goal.returns-clause-placed
returns-clause-placed c =
    let items = c.args.sections.items in
    let same : into_iter_items c.into_iter-section-iterator.result ≡ items = search rules in
    let long : into_iter_len c.into_iter-section-iterator.result ≡ length items = search rules in
    let t = YieldsList-end (YieldsList-from_vec items same long) c.loop-section.yielded c.loop-section.section-iterator c.loop-section.yielded_by c.next.result c.next.new.self c.in-None.is c.next.ensures.steps in
    let all : c.loop-section.yielded ≡ items = all-of c.loop-section.yielded ∙ t.0 in
    (c.loop-section.invariant.0 ∙ ap (placed c.args.side 0) all, c.loop-section.invariant.1 ∙ ap (λ (ss : List StoredSection). sections_size ss) all)
