-- A bell that is rung channel by channel.
use Rattle.std.proofs.Common.{◌≡◌, ◌∙◌, ℕ, ◌+◌, suc, List, [], ◌∷◌, ◌++◌, Option, Some, None, length, ap, sym, subst, append_assoc, append-nil, length-append, arith}
use Rattle.ll_hub.specs.Rung.{IsRung, IsRungFrom, Ring, Rings, RingsAll, rings_from}

abbrev ring : ℕ → ℕ → Ring
ring place more = record { place = place; more = more }

rings_from-more : (place more : ℕ) (counts : List ℕ) → rings_from place (counts ++ more ∷ []) ≡ rings_from place counts ++ ring (place + length counts) more ∷ []
rings_from-more place more [] = let same : place ≡ place + 0 = omega arith in ap (λ p. ring p more ∷ []) same
rings_from-more place more (c ∷ counts) =
    let same : suc place + length counts ≡ place + suc (length counts) = omega arith in
    ap (λ rest. ring place c ∷ rest) (rings_from-more (suc place) more counts)
    ∙ ap (λ p. ring place c ∷ (rings_from (suc place) counts ++ ring p more ∷ [])) same

RingsAll-more : (before mid after : Option (List Ring)) (rings : List Ring) (place more : ℕ) → RingsAll before mid rings → Rings mid after place more
    → RingsAll before after (rings ++ ring place more ∷ [])
RingsAll-more None mid after rings place more p q = tt
RingsAll-more (Some a) None after rings place more p q = absurd p
RingsAll-more (Some a) (Some b) None rings place more p q = absurd q
RingsAll-more (Some a) (Some b) (Some c) rings place more p q = q ∙ ap (λ l. l ++ ring place more ∷ []) p ∙ append_assoc a rings (ring place more ∷ [])

RingsAll-none : (before : Option (List Ring)) → RingsAll before before []
RingsAll-none None = tt
RingsAll-none (Some a) = sym (append-nil a)

-- it was rung for no channel
pub rung-none : (first : ℕ) (before : Option (List Ring)) → IsRungFrom first first before before
rung-none first before = ([], omega arith, RingsAll-none before)

-- it was rung for one channel more
pub rung-more : (first place : ℕ) (before mid after : Option (List Ring)) → IsRungFrom first place before mid → IsRung place mid after
    → IsRungFrom first (place + 1) before after
rung-more first place before mid after p q =
    let counts = p.0 in
    let at : place ≡ first + length counts = p.1 in
    let longer : length (counts ++ q.0 ∷ []) ≡ length counts + 1 = length-append counts (q.0 ∷ []) in
    let rings = rings_from first counts in
    let same : rings_from first (counts ++ q.0 ∷ []) ≡ rings ++ ring place q.0 ∷ [] =
    rings_from-more first q.0 counts ∙ ap (λ n. rings ++ ring n q.0 ∷ []) (sym at) in
    let rung = subst (λ rs. RingsAll before after rs) (sym same) (RingsAll-more before mid after rings place q.0 p.2 q.1) in
    (counts ++ q.0 ∷ [], omega (arith, at, longer), rung)
