-- The pieces and the fault of a stream, unit by unit.
use Rattle.std.proofs.Common.{◌≡◌, ℕ, List, [], ◌∷◌, Bool, true, false, if◌then◌else◌, Option, Some, None, Result, Ok, Err, is_some, refl, ap, sym, ◌∙◌, fold}
use Rattle.ll_mp4.proofs.LeftLemmas.{fed-on, without-none}
use Rattle.ll_mp4.proofs.StreamLaws.{front_is_first, front_stays}
use Rattle.ll_mp4.specs.Laws.{given_then}
use Rattle.ll_mp4.specs.Streams.{Left, Told, and_told, end_fault, fed, front, front_unit, told}
use Rattle.ll_mp4.specs.Units.{unit_of}
use Rattle.ll_mp4.specs.declared.fault.StreamFault.{StreamFault}
use Rattle.ll_parts.specs.Laws.{BytesCome, EndComes, IsGoing, PieceIsFirst, UnitsCome}
use Rattle.ll_parts.specs.Stream.{Brought, CutterValue, Outcome, Progress, advanced, advanced_by, advanced_from, after_front, brought, closed, ended, ended_by, or_no_movie, outcome, stopped, to_come, with_piece}
use Rattle.ll_parts.specs.declared.pieces.Piece.{Piece}

-- the pieces and the fault of a progress
abbrev given_of : Progress → Outcome
given_of p = record { pieces = p.pieces; fault = p.fault }

abbrev by_over : Bool → Progress → Told → Outcome
by_over over p t = if over then given_of p else outcome p t

-- ---- bytes that come in two

pub bytes_come : BytesCome
bytes_come c bytes input = ap (λ left. by_over c.is_over c.progress (told left)) (sym (fed-on c.left bytes input))

-- ---- a piece at the front

abbrev first_in : Piece → Progress → Progress
first_in piece p = record p { pieces = piece ∷ p.pieces }

by-brought : (piece : Piece) (p : Progress) (b : Result Brought StreamFault) → advanced_by (first_in piece p) b ≡ first_in piece (advanced_by p b)
by-brought piece p (Ok b) = refl
by-brought piece p (Err fault) = refl

by-fault : (piece : Piece) (p : Progress) (unit : List ℕ) (fault : Option StreamFault)
    → advanced_from (first_in piece p) unit fault ≡ first_in piece (advanced_from p unit fault)
by-fault piece p unit (Some fault) = refl
by-fault piece p unit None = by-brought piece p (brought p.stream unit)

all-first : (piece : Piece) (p : Progress) (units : List (List ℕ)) → fold advanced (first_in piece p) units ≡ first_in piece (fold advanced p units)
all-first piece p [] = refl
all-first piece p (unit ∷ units) = ap (λ q. fold advanced q units) (by-fault piece p unit p.fault) ∙ all-first piece (advanced p unit) units

ended-first : (piece : Piece) (p : Progress) (fault end : Option StreamFault) → ended_by (first_in piece p) fault end ≡ with_piece piece (ended_by p fault end)
ended-first piece p (Some fault) end = refl
ended-first piece p None end = refl

outcome-first : (piece : Piece) (p : Progress) (t : Told) → outcome (first_in piece p) t ≡ with_piece piece (outcome p t)
outcome-first piece p t =
    ap (λ q. ended q t.fault) (all-first piece p t.units) ∙ ended-first piece (fold advanced p t.units) (fold advanced p t.units).fault t.fault

over-first : (piece : Piece) (p : Progress) (t : Told) (over : Bool) → by_over over (first_in piece p) t ≡ with_piece piece (by_over over p t)
over-first piece p t true = refl
over-first piece p t false = outcome-first piece p t

pub piece_is_first : PieceIsFirst
piece_is_first piece c input = over-first piece c.progress (told (fed c.left input)) c.is_over

-- ---- a fault stays

from-fault : (p : Progress) (unit : List ℕ) (fault : Option StreamFault) → is_some fault ≡ true → advanced_from p unit fault ≡ p
from-fault p unit (Some fault) e = refl
from-fault p unit None e = absurd (cc)

all-fault : (p : Progress) (units : List (List ℕ)) → is_some p.fault ≡ true → fold advanced p units ≡ p
all-fault p [] e = refl
all-fault p (unit ∷ units) e = ap (λ q. fold advanced q units) (from-fault p unit p.fault e) ∙ all-fault p units e

ended-fault : (p : Progress) (fault end : Option StreamFault) → is_some fault ≡ true → ended_by p fault end ≡ record { pieces = p.pieces; fault = fault }
ended-fault p (Some fault) end e = refl
ended-fault p None end e = absurd (cc)

-- the pieces and the fault of a progress that has a fault, whatever the units
over-fault : (p : Progress) (t : Told) → is_some p.fault ≡ true → outcome p t ≡ given_of p
over-fault p t e = ap (λ q. ended q t.fault) (all-fault p t.units e) ∙ ended-fault p p.fault t.fault e

-- ---- one unit

with-unit : (p : Progress) (t : Told) (over : Bool) → is_some p.fault ≡ over → outcome p t ≡ by_over over p t
with-unit p t true e = over-fault p t e
with-unit p t false e = refl

-- if the first fault is that of the bytes
stop-comes : (p : Progress) (fault : Option StreamFault) (f : StreamFault) → fault ≡ None → ended_by p fault (Some f) ≡ given_of (stopped p (Some f))
stop-comes p None f e = refl
stop-comes p (Some other) f e = absurd (cc)

front-comes : (c : CutterValue) (input : List ℕ) (r : Result (Option (List ℕ)) StreamFault × Left) → c.progress.fault ≡ None → c.is_over ≡ false
    → told (fed c.left input) ≡ given_then input r
    → outcome c.progress (told (fed c.left input)) ≡ to_come (after_front c r).1 input
front-comes c input ((Ok None), left) none going e = ap (outcome c.progress) e ∙ sym (ap (λ over. by_over over c.progress (told (fed left input))) going)
front-comes c input ((Ok (Some unit)), left) none going e =
    ap (outcome c.progress) e ∙ with-unit (advanced c.progress unit) (told (fed left input)) (is_some (advanced c.progress unit).fault) refl
front-comes c input ((Err fault), left) none going e = ap (outcome c.progress) e ∙ stop-comes c.progress c.progress.fault fault none

units-by : (c : CutterValue) (input : List ℕ) (over : Bool) → c.is_over ≡ over → IsGoing c
    → to_come c input ≡ to_come (if◌then◌else◌ {A = Bool × CutterValue} over (false, c) (after_front c (front c.left))).1 input
units-by c input true e going = refl
units-by c input false e going =
    ap (λ over. by_over over c.progress (told (fed c.left input))) e ∙ front-comes c input (front c.left) (going e) e (front_stays c.left input)

pub units_come : UnitsCome
units_come c input going = units-by c input c.is_over refl going

-- ---- the end

end-told : (left : Left) (r : Result (Option (List ℕ)) StreamFault × Left) → front left ≡ r → told (fed left []) ≡ and_told r (told r.1)
end-told left r e =
    front_is_first (fed left []) ∙ ap (λ l. and_told (front_unit l (unit_of l.unread)) (told (front_unit l (unit_of l.unread)).1)) (without-none left)
    ∙ ap (λ r. and_told r (told r.1)) e

end-ended : (p : Progress) (fault end : Option StreamFault) → fault ≡ None → ended_by p fault end ≡ given_of (stopped p (or_no_movie p.stream.movie end))
end-ended p None end e = refl
end-ended p (Some other) end e = absurd (cc)

abbrev closed_by : Bool → CutterValue → CutterValue
closed_by over c =
    if over then c else record { left = c.left; progress = stopped c.progress (or_no_movie c.progress.stream.movie (end_fault c.left)); is_over = true }

end-front : (c : CutterValue) (input : List ℕ) (r : Result (Option (List ℕ)) StreamFault × Left) → front c.left ≡ r → (after_front c r).0 ≡ false
    → c.is_over ≡ false → c.progress.fault ≡ None → outcome c.progress (told (fed c.left [])) ≡ to_come (closed (after_front c r).1) input
end-front c input ((Ok None), left) is none going e =
    ap (outcome c.progress) (end-told c.left (Ok None, left) is) ∙ end-ended c.progress c.progress.fault (end_fault left) e
    ∙ sym (ap (λ over. to_come (closed_by over (record c { left = left })) input) going)
end-front c input ((Ok (Some unit)), left) is none going e = absurd (cc)
end-front c input ((Err fault), left) is none going e = absurd (cc)

end-by : (c : CutterValue) (input : List ℕ) (over : Bool) → c.is_over ≡ over
    → (if◌then◌else◌ {A = Bool × CutterValue} over (false, c) (after_front c (front c.left))).0 ≡ false → IsGoing c
    → to_come c [] ≡ to_come (closed (if◌then◌else◌ {A = Bool × CutterValue} over (false, c) (after_front c (front c.left))).1) input
end-by c input true e none going =
    ap (λ over. by_over over c.progress (told (fed c.left []))) e ∙ sym (ap (λ over. by_over over c.progress (told (fed c.left input))) e)
    ∙ sym (ap (λ over. to_come (closed_by over c) input) e)
end-by c input false e none going =
    ap (λ over. by_over over c.progress (told (fed c.left []))) e ∙ end-front c input (front c.left) refl none e (going e)

pub end_comes : EndComes
end_comes c input none going = end-by c input c.is_over refl none going
