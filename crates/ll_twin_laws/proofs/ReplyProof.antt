-- The fewest items with which what is awaited is there are the same at two origins.
use Rattle.std.proofs.Common.{◌≡◌, ◌<◌, ◌≤◌, List, [], ◌∷◌, ◌++◌, Bool, true, false, refl, ap, sym, subst, ◌∙◌, append_assoc, arith, length, length-append, nat_lt}
use Rattle.std.proofs.lemmas.Bool.Decides.{nat_tests}
use Rattle.ll_item.specs.declared.item.Item.{Item}
use Rattle.ll_settings.specs.Settings.{Configuration}
use Rattle.ll_verdict.specs.Events.{items}
use Rattle.ll_verdict.specs.Verdict.{is_there, reply_with}
use Rattle.ll_verdict.specs.declared.reply.Settled.{Settled}
use Rattle.ll_verdict.specs.declared.wanted.Wanted.{Wanted}
use Rattle.ll_twin_laws.proofs.ItemLemmas.{begins-with, same-front, stays-there}
use Rattle.ll_twin_laws.proofs.LeastLemmas.{IsLeast, got-least, least-more}
use Rattle.ll_twin_laws.specs.Laws.{SameReplyLaw}

-- of two such beginnings of a list, none is shorter
not-shorter : (c : Configuration) (list : List Item) (a : Wanted) (x y : Settled) (l : IsLeast c list a x) (m : IsLeast c list a y)
    → length m.front ≤ length l.front
not-shorter c list a x y l m = by-count (nat_lt (length l.front) (length m.front)) refl
  where
    by-count : (b : Bool) → nat_lt (length l.front) (length m.front) ≡ b → length m.front ≤ length l.front
    by-count false e = grind (arith, nat_tests, e)
    by-count true e =
        let less : length l.front < length m.front = grind (arith, nat_tests, e) in
        let le : length (l.front ++ l.last ∷ []) ≤ length m.front = omega (arith, less, length-append l.front (l.last ∷ [])) in
        let p = begins-with (l.front ++ l.last ∷ []) l.rest m.front (m.last ∷ [] ++ m.rest)
        (sym l.place ∙ m.place ∙ append_assoc m.front (m.last ∷ []) m.rest) le in
        let there = ap (λ xs. is_there c xs a) p.1 ∙ stays-there c (l.front ++ l.last ∷ []) p.0 a l.there in
        let missing = m.missing in
        absurd (cc)

same-least : (c : Configuration) (list : List Item) (a : Wanted) (x y : Settled) → IsLeast c list a x → IsLeast c list a y → x ≡ y
same-least c list a x y l m =
    let long = not-shorter c list a x y l m in
    let short = not-shorter c list a y x m l in
    let as-long : length (l.front ++ l.last ∷ []) ≡ length (m.front ++ m.last ∷ []) =
    omega (arith, long, short, length-append l.front (l.last ∷ []), length-append m.front (m.last ∷ [])) in
    let same = same-front (l.front ++ l.last ∷ []) l.rest (m.front ++ m.last ∷ []) m.rest (sym l.place ∙ m.place) as-long in
    l.is ∙ ap (λ xs. reply_with c xs a) same ∙ sym m.is

pub same-reply : SameReplyLaw
same-reply c events others more same place spot r s waits also alike x y is got other differs =
    let l = least-more c (items c events) more (items c others) r.wanted x same (got-least c events place r x waits is other) in
    let m = got-least c others spot s y also got differs in
    same-least c (items c others) r.wanted x y l (subst (λ a. IsLeast c (items c others) a y) (sym alike) m)
