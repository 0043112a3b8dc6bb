-- The next piece of an encoder's bytes.
use Rattle.std.proofs.Common.{◌≡◌, inl, inr, ℕ, ◌+◌, ◌<◌, ◌≤◌, Bool, true, false, List, [], ◌∷◌, ◌++◌, Option, Some, None, Result, Ok, Err, IfErr, IsErrAnd, is_some, if◌then◌else◌, refl, ap, sym, subst, ◌∙◌, drop, fold, length, length-drop, arith}
use Rattle.std.specs.Io.KnownBytes.{Consumes, IsAtEnd, Keeps}
use Rattle.ll_mp4.proofs.MoreLemmas.{Stays, unit_stays}
use Rattle.ll_mp4.proofs.LeftLemmas.{without-twice}
use Rattle.ll_mp4.specs.Boxes.{boxes}
use Rattle.ll_mp4.specs.Lefts.{index_size}
use Rattle.ll_mp4.specs.Streams.{Left, Told, fed, front, front_unit, told, without_index}
use Rattle.ll_mp4.specs.Units.{Unit, Open, Refused, Closed, unit_of}
use Rattle.ll_mp4.specs.declared.fault.StreamFault.{StreamFault}
use Rattle.ll_parts.proofs.StreamLemmas.{bytes_come, end_comes, piece_is_first, units_come}
use Rattle.ll_parts.specs.Stream.{CutterValue, Outcome, Progress, advanced, advanced_cutter, advanced_from, after_front, closed, ended, ended_by, outcome, to_come, with_bytes, with_first, with_piece}
use Rattle.ll_parts.specs.declared.pieces.Piece.{Piece}
use Rattle.ll_parts.specs.declared.pieces.Piece.TheVariants.{Begin, Init, Media, Break}
use Rattle.ll_mp4.specs.declared.fault.StreamFault.TheVariants as input
use Rattle.ll_push.specs.Faults.{of_input}
use Rattle.ll_push.specs.Next.{IsEmpty, IsFront, IsPieceFault, IsUnitFault}
use Rattle.ll_push.specs.declared.fault.PushFault.{PushFault}
use Rattle.ll_push.specs.declared.fault.PushFault.TheVariants.{Input, Read, Clock, Connect, Elsewhere, BadAnswer, Memory, Endless}

-- ---- a fault that was met

pub over-comes : (c : CutterValue) (input : List ℕ) (fault : Option StreamFault) → c.is_over ≡ true → c.progress.pieces ≡ [] → c.progress.fault ≡ fault
    → to_come c input ≡ record { pieces = []; fault = fault }
over-comes c input fault over empty is =
    ap (λ b. if◌then◌else◌ {A = Outcome} b (record { pieces = c.progress.pieces; fault = c.progress.fault }) (outcome c.progress (told (fed c.left input)))) over
    ∙ ap (λ ps. record { pieces = ps; fault = c.progress.fault }) empty ∙ ap (λ f. record { pieces = []; fault = f }) is

over-by : (over : Bool) (r : Option StreamFault) (fault : StreamFault) → (over ≡ false → r ≡ None) → r ≡ Some fault → over ≡ true
over-by true r fault h e = refl
over-by false r fault h e = let none : None ≡ Some fault = sym (h refl) ∙ e in absurd (cc)

-- a fault that is returned was met, and the input is over
pub unit-fault : (c : CutterValue) (fault : StreamFault) (push : PushFault) (r : Option StreamFault) → r ≡ c.progress.fault → (c.is_over ≡ false → r ≡ None) → r ≡ Some fault
    → push ≡ of_input fault → IsUnitFault c push
unit-fault c fault push r is over e of = subst (IsUnitFault c) (sym of) (by_kind fault (sym is ∙ e) (over-by c.is_over r fault over e))
  where
    by_kind : (f : StreamFault) → c.progress.fault ≡ Some f → c.is_over ≡ true → IsUnitFault c (of_input f)
    by_kind input.BadBox h o = (h, o)
    by_kind input.TooLarge h o = (h, o)
    by_kind input.NoMoov h o = (h, o)
    by_kind (input.Missing kind) h o = (h, o)
    by_kind (input.Several kind) h o = (h, o)
    by_kind input.NoTimeScale h o = (h, o)
    by_kind input.OtherTrack h o = (h, o)
    by_kind input.TooLong h o = (h, o)
    by_kind input.Cut h o = (h, o)
    by_kind input.Memory h o = tt

pub err-of : {X : Type 0} (r : Result X PushFault) (fault : PushFault) (P : PushFault → Type 0) → IsErrAnd r (λ e. e ≡ fault) → P fault → IfErr r P
err-of (Ok x) fault P is p = absurd is
err-of (Err e) fault P is p = subst P (sym is) p

-- ---- pieces and units change nothing of what is to come

abbrev pub Comes : CutterValue → CutterValue → Type 0
Comes c after = (input : List ℕ) → to_come c input ≡ to_come after input

-- if no piece is there, nothing changes
pub comes-after : (first c mid : CutterValue) → Comes first c → mid ≡ c → Comes first mid
comes-after first c mid same e input = same input ∙ ap (λ x. to_come x input) (sym e)

pub popped : (first c after : CutterValue) (piece : Piece) → Comes first c → c ≡ with_first piece after → IsFront first after (Some piece)
popped first c after piece same e input = same input ∙ ap (λ x. to_come x input) e ∙ piece_is_first piece after input

pub unit-taken : (first c after : CutterValue) (taken : Bool) → Comes first c → (taken, after) ≡ advanced_cutter c → c.progress.fault ≡ None → Comes first after
unit-taken first c after taken same e none input =
    same input ∙ units_come c input (λ going. none) ∙ ap (λ (x : Bool × CutterValue). to_come x.1 input) (sym e)

pub fault-later : (first c : CutterValue) (fault : PushFault) → Comes first c → c.progress.pieces ≡ [] → IsUnitFault c fault → IsPieceFault first fault
fault-later first c (Input fault) same empty is = λ input. same input ∙ over-comes c input (Some fault) is.1 empty is.0
fault-later first c Memory same empty is = tt
fault-later first c Read same empty is = absurd is
fault-later first c Clock same empty is = absurd is
fault-later first c Connect same empty is = absurd is
fault-later first c Elsewhere same empty is = absurd is
fault-later first c BadAnswer same empty is = absurd is
fault-later first c Endless same empty is = absurd is

-- a unit that isn't whole takes nothing
unit-none : (left : Left) (unit : Unit) → (front_unit left unit).0 ≡ Ok None → (front_unit left unit).1 ≡ left
unit-none left Open e = refl
unit-none left (Refused fault) e = absurd (cc)
unit-none left (Closed size) e = absurd (cc)

-- if no unit is there, none is there again
front-again : (c : CutterValue) (left : Left) (r : Result (Option (List ℕ)) StreamFault × Left) → front_unit (without_index left) (unit_of (without_index left).unread) ≡ r
    → (after_front c r).0 ≡ false → front r.1 ≡ r
front-again c left ((Ok None), after) is e =
    let same : after ≡ without_index left = sym (ap (λ (r : Result (Option (List ℕ)) StreamFault × Left). r.1) is) ∙ unit-none (without_index left) (unit_of (without_index left).unread) (ap (λ (r : Result (Option (List ℕ)) StreamFault × Left). r.0) is) in
    ap front same ∙ ap (λ l. front_unit l (unit_of l.unread)) (without-twice left) ∙ is
front-again c left ((Ok (Some unit)), after) is e = absurd (cc)
front-again c left ((Err fault), after) is e = absurd (cc)

none-front : (c : CutterValue) (r : Result (Option (List ℕ)) StreamFault × Left) → (after_front c r).0 ≡ false → c.is_over ≡ false → front r.1 ≡ r
    → advanced_cutter (after_front c r).1 ≡ (false, (after_front c r).1)
none-front c ((Ok None), left) e going again =
    ap (λ over. if◌then◌else◌ {A = Bool × CutterValue} over (false, record c { left = left }) (after_front (record c { left = left }) (front left))) going
    ∙ ap (after_front (record c { left = left })) again
none-front c ((Ok (Some unit)), left) e going again = absurd (cc)
none-front c ((Err fault), left) e going again = absurd (cc)

none-by : (c : CutterValue) (over : Bool) → c.is_over ≡ over
    → (if◌then◌else◌ {A = Bool × CutterValue} over (false, c) (after_front c (front c.left))).0 ≡ false
    → advanced_cutter (if◌then◌else◌ {A = Bool × CutterValue} over (false, c) (after_front c (front c.left))).1
    ≡ (false, (if◌then◌else◌ {A = Bool × CutterValue} over (false, c) (after_front c (front c.left))).1)
none-by c true is e = ap (λ over. if◌then◌else◌ {A = Bool × CutterValue} over (false, c) (after_front c (front c.left))) is
none-by c false is e = none-front c (front c.left) e is (front-again c c.left (front c.left) refl e)

-- nor does it bring a piece or a fault
front-bare : (c : CutterValue) (r : Result (Option (List ℕ)) StreamFault × Left) → (after_front c r).0 ≡ false → (after_front c r).1.progress ≡ c.progress
front-bare c ((Ok None), left) e = refl
front-bare c ((Ok (Some unit)), left) e = absurd (cc)
front-bare c ((Err fault), left) e = absurd (cc)

bare-by : (c : CutterValue) (over : Bool) → (if◌then◌else◌ {A = Bool × CutterValue} over (false, c) (after_front c (front c.left))).0 ≡ false
    → (if◌then◌else◌ {A = Bool × CutterValue} over (false, c) (after_front c (front c.left))).1.progress ≡ c.progress
bare-by c true e = refl
bare-by c false e = front-bare c (front c.left) e

pub no-unit : (first before c after : CutterValue) (taken : Bool) → Comes first before → c ≡ before → before.progress.pieces ≡ [] → (taken, after) ≡ advanced_cutter c
    → c.progress.fault ≡ None → taken ≡ false → IsFront first after None
no-unit first before c after taken same kept empty e none is =
    let not : (advanced_cutter c).0 ≡ false = ap (λ (x : Bool × CutterValue). x.0) (sym e) ∙ is in
    let there : after ≡ (advanced_cutter c).1 = ap (λ (x : Bool × CutterValue). x.1) e in
    let bare : (advanced_cutter c).1.progress ≡ c.progress = bare-by c c.is_over not in (
      unit-taken first c after taken (comes-after first before c same kept) e none,
      subst IsEmpty (sym there) (ap (λ (p : Progress). p.pieces) bare ∙ ap (λ (x : CutterValue). x.progress.pieces) kept ∙ empty, ap (λ (p : Progress). p.fault) bare ∙ none, none-by c c.is_over refl not),
    )

-- ---- each unit leaves fewer bytes, or it is the last

abbrev pub count : Bool → ℕ
count true = 0
count false = 1

abbrev pub fuel : CutterValue → ℕ
fuel c = length c.left.unread + count c.is_over

few : (over : Bool) → count over ≤ 1
few true = omega arith
few false = omega arith

unit-fewer : (left : Left) (given : List ℕ) (unit after : Unit) → Stays 0 (length left.unread) unit after → (front_unit left unit).0 ≡ Ok (Some given)
    → length (front_unit left unit).1.unread < length left.unread
unit-fewer left given Open after stays e = absurd (cc)
unit-fewer left given (Refused fault) after stays e = absurd (cc)
unit-fewer left given (Closed size) after stays e = let d = length-drop size left.unread in omega (arith, d, stays.1, stays.2)

-- a fault changes nothing but that an index is dropped
unit-same : (left : Left) (unit : Unit) (fault : StreamFault) → (front_unit left unit).0 ≡ Err fault → (front_unit left unit).1 ≡ left
unit-same left Open fault e = refl
unit-same left (Refused other) fault e = refl
unit-same left (Closed size) fault e = absurd (cc)

index-few : (left : Left) → length (without_index left).unread ≤ length left.unread
index-few left = let d = length-drop (left.skip + index_size (boxes (drop left.skip left.unread))) left.unread in omega (arith, d)

front-fewer : (c after : CutterValue) (r : Result (Option (List ℕ)) StreamFault × Left) → front c.left ≡ r → (true, after) ≡ after_front c r
    → fuel after < length c.left.unread + 1
front-fewer c after ((Ok None), left) is e = let k : true ≡ false = ap (λ (x : Bool × CutterValue). x.0) e in absurd (cc)
front-fewer c after ((Ok (Some unit)), left) is e =
    let inside = without_index c.left in
    let fewer = unit-fewer inside unit (unit_of inside.unread) (unit_of (inside.unread ++ [])) (unit_stays inside.unread []) (ap (λ (r : Result (Option (List ℕ)) StreamFault × Left). r.0) is) in
    let same : length (front c.left).1.unread ≡ length left.unread = ap (λ (r : Result (Option (List ℕ)) StreamFault × Left). length r.1.unread) is in
    let now : length after.left.unread ≡ length left.unread = ap (λ (x : Bool × CutterValue). length x.1.left.unread) e in
    let one = few after.is_over in
    let index = index-few c.left in
    omega (arith, fewer, same, now, one, index)
front-fewer c after ((Err fault), left) is e =
    let inside = without_index c.left in
    let same : left ≡ inside = sym (ap (λ (r : Result (Option (List ℕ)) StreamFault × Left). r.1) is) ∙ unit-same inside (unit_of inside.unread) fault (ap (λ (r : Result (Option (List ℕ)) StreamFault × Left). r.0) is) in
    let now : length after.left.unread ≡ length inside.unread = ap (λ (x : Bool × CutterValue). length x.1.left.unread) e ∙ ap (λ (l : Left). length l.unread) same in
    let last : count after.is_over ≡ 0 = ap (λ (x : Bool × CutterValue). count x.1.is_over) e in
    let index = index-few c.left in
    omega (arith, now, last, index)

fewer-by : (c after : CutterValue) (over : Bool) → (true, after) ≡ if◌then◌else◌ {A = Bool × CutterValue} over (false, c) (after_front c (front c.left))
    → fuel after < length c.left.unread + count over
fewer-by c after true e = let k : true ≡ false = ap (λ (x : Bool × CutterValue). x.0) e in absurd (cc)
fewer-by c after false e = front-fewer c after (front c.left) refl e

pub fewer : (c after : CutterValue) (taken : Bool) → (taken, after) ≡ advanced_cutter c → taken ≡ true → fuel after < fuel c
fewer c after taken e is = fewer-by c after c.is_over (ap (λ b. (b, after)) (sym is) ∙ e)

pub not-some : {A : Type 0} (o : Option A) → ((x : A) → o ≡ Some x → ⊥) → o ≡ None
not-some None h = refl
not-some (Some x) h = absurd (h x refl)
