-- After any bytes and any calls, the units that were given and those still to come are those of all bytes.
use Rattle.std.proofs.Common.{◌≡◌, ℕ, zero, suc, ◌+◌, ◌<◌, ◌≤◌, List, [], ◌∷◌, ◌++◌, Option, Some, None, Result, Ok, Err, refl, ap, sym, subst, ◌∙◌, length, take, drop, append_assoc, append-nil, take-append-drop, length-drop, arith, fold}
use Rattle.std.proofs.lemmas.List.{take-append-le, drop-append-le}
use Rattle.ll_mp4.specs.Lefts.{Left, at_front, fed, without_index}
use Rattle.ll_mp4.specs.Units.{Unit, Open, Refused, Closed, size_limit, unit_of}
use Rattle.ll_mp4.specs.declared.fault.StreamFault.{StreamFault}
use Rattle.ll_mp4.proofs.LeftLemmas.{IsShut, dropped-none, fed-on, index_in, unit-fed, without-fed, without-none}
use Rattle.ll_mp4.proofs.MoreLemmas.{Stays, unit_stays}
use Rattle.ll_mp4.specs.Laws.{AreThere, FewAreKept, FrontIsFirst, FrontStays, NothingIsLost, WholeStreams, after_given, given_then}
use Rattle.ll_mp4.specs.Past.{Call, Feed, Next, Past, and_unit, before_any, called}
use Rattle.ll_mp4.specs.Streams.{Told, and_told, front, front_unit, told, told_by}

-- the bytes after the `mfra` boxes at the front
abbrev cleared : Left → List ℕ
cleared left = (without_index left).unread

-- ---- a unit that is given has a byte at least

unit-fewer : (left : Left) (given : List ℕ) (unit after : Unit) → Stays 0 (length left.unread) unit after → (front_unit left unit).0 ≡ Ok (Some given)
    → length (front_unit left unit).1.unread < length left.unread
unit-fewer left given Open after stays e = absurd (cc)
unit-fewer left given (Refused fault) after stays e = absurd (cc)
unit-fewer left given (Closed size) after stays e = let d = length-drop size left.unread in omega (arith, d, stays.1, stays.2)

shrinks : (left : Left) (given : List ℕ) → (front left).0 ≡ Ok (Some given) → length (front left).1.unread < length left.unread
shrinks left given e =
    let d = length-drop (left.skip + index_in (drop left.skip left.unread)) left.unread in
    let l = unit-fewer (without_index left) given (unit_of (cleared left)) (unit_of (cleared left ++ [])) (unit_stays (cleared left) []) e in
    omega (arith, d, l)

-- ---- the units of some bytes, one after another

enough-by : (r : Result (Option (List ℕ)) StreamFault) (after : Left) (a b : Told) → ((given : List ℕ) → r ≡ Ok (Some given) → a ≡ b)
    → and_told (r, after) a ≡ and_told (r, after) b
enough-by (Err fault) after a b rest = refl
enough-by (Ok None) after a b rest = refl
enough-by (Ok (Some given)) after a b rest = ap (and_told (Ok (Some given), after)) (rest given refl)

enough : (n m : ℕ) (left : Left) → length left.unread < n → length left.unread < m → told_by n left ≡ told_by m left
enough zero m left a b = absurd (omega (arith, a))
enough (suc n) zero left a b = absurd (omega (arith, b))
enough (suc n) (suc m) left a b =
    enough-by (front left).0 (front left).1 (told_by n (front left).1) (told_by m (front left).1)
    (λ given e. let l = shrinks left given e in enough n m (front left).1 (omega (arith, l, a)) (omega (arith, l, b)))

pub front_is_first : FrontIsFirst
front_is_first left =
    enough-by (front left).0 (front left).1 (told_by (length left.unread) (front left).1) (told (front left).1)
    (λ given e. let l = shrinks left given e in enough (length left.unread) (suc (length (front left).1.unread)) (front left).1 l (omega arith))

-- ---- more bytes after the front unit

abbrev later_of : Result (Option (List ℕ)) StreamFault × Left → Told
later_of r = and_told r (told r.1)

abbrev later_in : Left → Told
later_in left = later_of (front_unit left (unit_of left.unread))

-- the units and the fault are the same without the `mfra` boxes at the front
same-told : (left other : Left) → without_index left ≡ without_index other → told left ≡ told other
same-told left other e = front_is_first left ∙ ap later_in e ∙ sym (front_is_first other)

shut-by : (unit other : Unit) → unit ≡ other → IsShut other → IsShut unit
shut-by unit other e shut open-unit = shut (sym e ∙ open-unit)

refused-shut : (fault : StreamFault) → IsShut (Refused fault)
refused-shut fault e = absurd (cc)

closed-shut : (size : ℕ) → IsShut (Closed size)
closed-shut size e = absurd (cc)

unit-goes : (left : Left) (more : List ℕ) (unit : Unit) → unit_of (cleared left) ≡ unit
    → Stays 0 (length (cleared left)) unit (unit_of (cleared left ++ more)) → told (fed left more) ≡ given_then more (front_unit (without_index left) unit)
unit-goes left more Open e stays = same-told (fed left more) (fed (without_index left) more) (sym (without-fed left more))
unit-goes left more (Refused fault) e stays =
    front_is_first (fed left more) ∙ ap later_in (unit-fed left more (shut-by _ _ e (refused-shut fault)))
    ∙ ap (λ u. later_of (front_unit (at_front (cleared left ++ more)) u)) stays
unit-goes left more (Closed size) e stays =
    front_is_first (fed left more) ∙ ap later_in (unit-fed left more (shut-by _ _ e (closed-shut size)))
    ∙ ap (λ u. later_of (front_unit (at_front (cleared left ++ more)) u)) stays.0
    ∙ ap (λ given. after_given (given ∷ []) (told (at_front (drop size (cleared left ++ more))))) (take-append-le size (cleared left) more (omega (arith, stays.2)))
    ∙ ap (λ rest. after_given (take size (cleared left) ∷ []) (told rest))
    (ap at_front (drop-append-le size (cleared left) more (omega (arith, stays.2))) ∙ sym (dropped-none (drop size (cleared left) ++ more)))

pub front_stays : FrontStays
front_stays left more = unit-goes left more (unit_of (cleared left)) refl (unit_stays (cleared left) more)

-- ---- whole streams

abbrev Stands : Past → Type 0
Stands p = (more : List ℕ) → told (at_front (p.taken ++ more)) ≡ after_given p.given (told (fed p.left more))

next-stands : (given : List (List ℕ)) (left : Left) (more : List ℕ) (r : Result (Option (List ℕ)) StreamFault) (after : Left)
    → told (fed left more) ≡ given_then more (r, after) → ((fault : StreamFault) → r ≡ Err fault → told (fed left more) ≡ told (fed after more))
    → after_given given (told (fed left more)) ≡ after_given (and_unit given r) (told (fed after more))
next-stands given left more (Err fault) after e same = ap (after_given given) (same fault refl)
next-stands given left more (Ok None) after e same = ap (after_given given) e
next-stands given left more (Ok (Some unit)) after e same =
    ap (after_given given) e
    ∙ ap (λ us. record { units = us; fault = (told (fed after more)).fault }) (sym (append_assoc given (unit ∷ []) (told (fed after more)).units))

-- after a fault, the same fault is returned
unit-same : (left : Left) (more : List ℕ) (unit : Unit) (fault : StreamFault) → (front_unit (without_index left) unit).0 ≡ Err fault
    → told (fed left more) ≡ told (fed (front_unit (without_index left) unit).1 more)
unit-same left more Open fault e = same-told (fed left more) (fed (without_index left) more) (sym (without-fed left more))
unit-same left more (Refused other) fault e = same-told (fed left more) (fed (without_index left) more) (sym (without-fed left more))
unit-same left more (Closed size) fault e = absurd (cc)

called-stands : (p : Past) (c : Call) → Stands p → Stands (called p c)
called-stands p (Feed bytes) s more =
    ap (λ all. told (at_front all)) (append_assoc p.taken bytes more) ∙ s (bytes ++ more)
    ∙ ap (λ left. after_given p.given (told left)) (sym (fed-on p.left bytes more))
called-stands p Next s more =
    s more
    ∙ next-stands p.given p.left more (front p.left).0 (front p.left).1 (front_stays p.left more)
    (λ fault e. unit-same p.left more (unit_of (cleared p.left)) fault e)

all-stand : (p : Past) (calls : List Call) → Stands p → Stands (fold called p calls)
all-stand p [] s = s
all-stand p (c ∷ calls) s = all-stand (called p c) calls (called-stands p c s)

pub whole_streams : WholeStreams
whole_streams calls more = all-stand before_any calls (λ m. ap told (sym (dropped-none m))) more

-- ---- bytes

abbrev There : Past → Type 0
There p = (more : List ℕ) → AreThere p.given (fed p.left more) (p.taken ++ more)

-- further units
and-there : (given further : List (List ℕ)) (left after : Left) (bytes : List ℕ)
    → ((rest : List ℕ) → without_index left ≡ without_index (at_front rest) → AreThere further after rest) → AreThere given left bytes
    → AreThere (given ++ further) after bytes
and-there [] further left after bytes later there = later bytes there
and-there (unit ∷ given) further left after bytes later there = (there.0, there.1, and-there given further left after there.0 later there.2)

-- no further ones
still-there : (given : List (List ℕ)) (left after : Left) (bytes : List ℕ) → without_index after ≡ without_index left → AreThere given left bytes
    → AreThere given after bytes
still-there given left after bytes same there =
    subst (λ us. AreThere us after bytes) (append-nil given) (and-there given [] left after bytes (λ rest e. same ∙ e) there)

unit-there : (given : List (List ℕ)) (left : Left) (more bytes : List ℕ) (unit : Unit) → unit_of (cleared left) ≡ unit
    → AreThere given (fed left more) bytes
    → AreThere (and_unit given (front_unit (without_index left) unit).0) (fed (front_unit (without_index left) unit).1 more) bytes
unit-there given left more bytes Open e there = still-there given (fed left more) (fed (without_index left) more) bytes (without-fed left more) there
unit-there given left more bytes (Refused fault) e there = still-there given (fed left more) (fed (without_index left) more) bytes (without-fed left more) there
unit-there given left more bytes (Closed size) e there =
    and-there given (take size (cleared left) ∷ []) (fed left more) (fed (at_front (drop size (cleared left))) more) bytes
    (λ rest same. (drop size (cleared left) ++ more, unit-first rest same, ap without_index (dropped-none (drop size (cleared left) ++ more)))) there
  where
    unit-first : (rest : List ℕ) → without_index (fed left more) ≡ without_index (at_front rest)
        → (without_index (at_front rest)).unread ≡ take size (cleared left) ++ (drop size (cleared left) ++ more)
    unit-first rest same =
        ap (λ (l : Left). l.unread) (sym same ∙ unit-fed left more (shut-by _ _ e (closed-shut size)))
        ∙ ap (λ bs. bs ++ more) (sym (take-append-drop size (cleared left))) ∙ append_assoc (take size (cleared left)) (drop size (cleared left)) more

called-there : (p : Past) (c : Call) → There p → There (called p c)
called-there p (Feed bytes) there more =
    subst (λ left. AreThere p.given left ((p.taken ++ bytes) ++ more)) (sym (fed-on p.left bytes more))
    (subst (AreThere p.given (fed p.left (bytes ++ more))) (sym (append_assoc p.taken bytes more)) (there (bytes ++ more)))
called-there p Next there more = unit-there p.given p.left more (p.taken ++ more) (unit_of (cleared p.left)) refl (there more)

all-there : (p : Past) (calls : List Call) → There p → There (fold called p calls)
all-there p [] there = there
all-there p (c ∷ calls) there = all-there (called p c) calls (called-there p c there)

pub nothing_is_lost : NothingIsLost
nothing_is_lost calls = so (fold called before_any calls) (all-there before_any calls (λ more. ap without_index (dropped-none more)))
  where
    so : (p : Past) → There p → AreThere p.given p.left p.taken
    so p there = still-there p.given (fed p.left []) p.left p.taken (sym (without-none p.left)) (subst (AreThere p.given (fed p.left [])) (append-nil p.taken) (there []))

-- ---- how much is kept

unit-few : (left : Left) (unit after : Unit) → Stays 0 (length left.unread) unit after → (front_unit left unit).0 ≡ Ok None
    → length (front_unit left unit).1.unread ≤ size_limit + 15
unit-few left Open after stays e = omega (arith, stays)
unit-few left (Refused fault) after stays e = absurd (cc)
unit-few left (Closed size) after stays e = absurd (cc)

pub few_are_kept : FewAreKept
few_are_kept left e = unit-few (without_index left) (unit_of (cleared left)) (unit_of (cleared left ++ [])) (unit_stays (cleared left) []) e
