-- The next message is the first of those that are to be sent.
use Rattle.std.proofs.Common.{◌≡◌, inl, inr, ℕ, Bool, true, false, List, [], ◌∷◌, ◌++◌, Option, Some, None, refl, ap, ap₂, sym, subst, ◌∙◌, append_assoc}
use Rattle.std.specs.Io.KnownBytes.{Consumes, IsAtEnd, Keeps}
use Rattle.ll_announce.specs.Courses.{begun, first_of, last_texts, later_readings, messages, spoken, texts}
use Rattle.ll_announce.specs.Messages.{MessageValue, Names, end_message, init_message}
use Rattle.ll_announce.specs.declared.course.Course.{Course}
use Rattle.ll_mp4.specs.declared.fault.StreamFault.{StreamFault}
use Rattle.ll_parts.proofs.StreamLemmas.{bytes_come, end_comes}
use Rattle.ll_parts.specs.Stream.{CutterValue, Outcome, closed, to_come, with_bytes, with_piece}
use Rattle.ll_parts.specs.declared.pieces.Piece.{Piece}
use Rattle.ll_parts.specs.declared.pieces.Piece.TheVariants.{Begin, Init, Media, Finish, Break}
use Rattle.ll_push.specs.Next.{HasNone, IsAnnounced, IsEmpty, IsFed, IsFirst, IsFront, IsLast, IsNothing, IsPieceFault, IsReadily, IsSame, IsTaken, announced, with_fault}
use Rattle.ll_push.specs.Publishing.{Ahead, TargetValue, fault_to_come, messages_to_come, told_ahead}
use Rattle.ll_push.specs.declared.fault.PushFault.{PushFault}
use Rattle.ll_push.specs.declared.publication.Publication.{Publication}
use Rattle.ll_push.proofs.PieceLemmas.{over-comes}

-- ---- what is known of the encoder's bytes and of the clock

pub told-left : (left coming : Option (List ℕ)) (a : Ahead) → told_ahead left coming ≡ Some a → left ≡ Some a.input
told-left (Some input) (Some readings) a e = ap (λ (o : Option Ahead). input_of o) e
  where
    input_of : Option Ahead → Option (List ℕ)
    input_of None = None
    input_of (Some a) = Some a.input
told-left (Some input) None a e = absurd (cc)
told-left None coming a e = absurd (cc)

pub told-coming : (left coming : Option (List ℕ)) (a : Ahead) → told_ahead left coming ≡ Some a → coming ≡ Some a.readings
told-coming (Some input) (Some readings) a e = ap (λ (o : Option Ahead). readings_of o) e
  where
    readings_of : Option Ahead → Option (List ℕ)
    readings_of None = None
    readings_of (Some a) = Some a.readings
told-coming (Some input) None a e = absurd (cc)
told-coming None coming a e = absurd (cc)

-- ---- a message that is kept

pub first-kept : (t : TargetValue) (p : Publication) (later : List MessageValue) (message : MessageValue) (a : Ahead) (left : Option Ahead) → left ≡ Some a
    → p.kept ≡ message ∷ later → IsFirst t p a (record p { kept = later }) left message
first-kept t p later message a left told e = record {
  rest = a;
  is_left = told;
  messages = ap (λ k. k ++ messages t.names t.lengths.part p.ends p.course a.readings (to_come p.cutter a.input)) e;
  fault = refl;
  place = refl;
}

-- ---- a piece

nonempty : {A : Type 0} (xs : List A) (x : A) → xs ++ x ∷ [] ≡ [] → ⊥
nonempty [] x e = absurd (cc)
nonempty (y ∷ ys) x e = absurd (cc)

-- each has a message
spoken-some : (names : Names) (part : ℕ) (c : Course) (now : ℕ) (piece : Piece) → spoken names part c now piece ≡ [] → ⊥
spoken-some names part c now (Begin section) e = nonempty (begun names part c now) (init_message names section) e
spoken-some names part c now (Init section) e = absurd (cc)
spoken-some names part c now (Media media) e = absurd (cc)
spoken-some names part c now Finish e = absurd (cc)
spoken-some names part c now (Break None) e = absurd (cc)
spoken-some names part c now (Break (Some since)) e = absurd (cc)

module _ (t : TargetValue) (p mid q : Publication) (piece : Piece) (coming coming_then : Option (List ℕ)) (said : IsAnnounced t piece mid coming q coming_then)
    (none : mid.kept ≡ []) where
  kept-are : q.kept ≡ spoken t.names t.lengths.part mid.course said.now piece
  kept-are = ap (λ (x : Publication). x.kept) said.is ∙ ap (λ k. k ++ spoken t.names t.lengths.part mid.course said.now piece) none

  pub one-kept : q.kept ≡ [] → ⊥
  one-kept e = spoken-some t.names t.lengths.part mid.course said.now piece (sym kept-are ∙ e)

  module _ (later : List MessageValue) (message : MessageValue) (first : q.kept ≡ message ∷ later) (empty : p.kept ≡ []) (course : mid.course ≡ p.course) (ends : mid.ends ≡ p.ends)
      (place : mid.place ≡ p.place) (front : IsFront p.cutter mid.cutter (Some piece)) (left : Option (List ℕ)) (a : Ahead) (told : told_ahead left coming ≡ Some a) where
    readings_then : List ℕ
    readings_then = later_readings piece a.readings

    read : (coming_then ≡ Some (later_readings piece a.readings)) × (q ≡ announced t mid (first_of a.readings) piece)
    read = said.read a.readings (told-coming left coming a told)

    abbrev spoken_now : List MessageValue
    spoken_now = spoken t.names t.lengths.part mid.course (first_of a.readings) piece

    abbrev later_outcome : Outcome
    later_outcome = to_come mid.cutter a.input

    -- those of the piece, and what comes after it
    all-are : messages_to_come t p a ≡ q.kept ++ messages t.names t.lengths.part q.ends q.course (later_readings piece a.readings) (to_come q.cutter a.input)
    all-are =
        ap (λ k. k ++ messages t.names t.lengths.part p.ends p.course a.readings (to_come p.cutter a.input)) empty
        ∙ ap₂ (λ e c. messages t.names t.lengths.part e c a.readings (to_come p.cutter a.input)) (sym ends) (sym course)
        ∙ ap (λ o. messages t.names t.lengths.part mid.ends mid.course a.readings o) (front a.input)
        ∙ append_assoc spoken_now _ (last_texts t.names later_outcome.fault mid.ends)
        ∙ ap (λ k. (k ++ spoken_now) ++ messages t.names t.lengths.part mid.ends (announced t mid (first_of a.readings) piece).course (later_readings piece a.readings) later_outcome) (sym none)
        ∙ ap (λ (x : Publication). x.kept ++ messages t.names t.lengths.part x.ends x.course (later_readings piece a.readings) (to_come x.cutter a.input)) (sym read.1)

    pub first-spoken : IsFirst t p a (record q { kept = later }) (told_ahead left coming_then) message
    first-spoken = record {
      rest = record { input = a.input; readings = later_readings piece a.readings };
      is_left = ap₂ told_ahead (told-left left coming a told) read.0;
      messages = all-are ∙ ap (λ k. k ++ messages t.names t.lengths.part q.ends q.course (later_readings piece a.readings) (to_come q.cutter a.input)) first;
      fault = ap (λ (o : Outcome). o.fault) (front a.input) ∙ ap (λ (x : Publication). (to_come x.cutter a.input).fault) (sym read.1);
      place = ap (λ (x : Publication). x.place) read.1 ∙ place;
    }

-- ---- nothing is there

pub none-readily : (t : TargetValue) (p q : Publication) (a : Ahead) (left : Option Ahead) → left ≡ Some a → p.kept ≡ [] → q.kept ≡ [] → IsFront p.cutter q.cutter None
    → q.place ≡ p.place → q.course ≡ p.course → q.ends ≡ p.ends → IsSame t p a q left × HasNone q
none-readily t p q a left told none still front place course ends = (
  record {
    rest = a;
    is_left = told;
    messages =
        ap (λ k. k ++ messages t.names t.lengths.part p.ends p.course a.readings (to_come p.cutter a.input)) none
        ∙ ap₂ (λ e c. messages t.names t.lengths.part e c a.readings (to_come p.cutter a.input)) (sym ends) (sym course)
        ∙ ap (λ o. messages t.names t.lengths.part q.ends q.course a.readings o) (front.0 a.input)
        ∙ ap (λ k. k ++ messages t.names t.lengths.part q.ends q.course a.readings (to_come q.cutter a.input)) (sym still);
    fault = ap (λ (o : Outcome). o.fault) (front.0 a.input);
    place = place;
  },
  (still, front.1),
)

-- a fault ends it
pub nothing-faulty : (t : TargetValue) (p : Publication) (a : Ahead) (fault : StreamFault) → p.kept ≡ [] → ((input : List ℕ) → to_come p.cutter input ≡ with_fault fault)
    → IsNothing t p a (Some fault)
nothing-faulty t p a fault none e = (
  ap (λ k. k ++ messages t.names t.lengths.part p.ends p.course a.readings (to_come p.cutter a.input)) none
      ∙ ap (λ o. messages t.names t.lengths.part p.ends p.course a.readings o) (e a.input),
  ap (λ (o : Outcome). o.fault) (e a.input),
)

-- ---- over some reads

pub same-self : (t : TargetValue) (p : Publication) (a : Ahead) (left : Option Ahead) → left ≡ Some a → IsSame t p a p left
same-self t p a left told = record { rest = a; is_left = told; messages = refl; fault = refl; place = refl }

module _ (t : TargetValue) (p q : Publication) (a : Ahead) (left : Option Ahead) (same : IsSame t p a q left) where
  pub same-first : (r : Publication) (left_then : Option Ahead) (message : MessageValue) → IsFirst t q same.rest r left_then message → IsFirst t p a r left_then message
  same-first r left_then message first = record {
    rest = first.rest;
    is_left = first.is_left;
    messages = same.messages ∙ first.messages;
    fault = same.fault ∙ first.fault;
    place = first.place ∙ same.place;
  }

  pub same-same : (r : Publication) (left_then : Option Ahead) → IsSame t q same.rest r left_then → IsSame t p a r left_then
  same-same r left_then more = record {
    rest = more.rest;
    is_left = more.is_left;
    messages = same.messages ∙ more.messages;
    fault = same.fault ∙ more.fault;
    place = more.place ∙ same.place;
  }

  pub same-nothing : (fault : Option StreamFault) → IsNothing t q same.rest fault → IsNothing t p a fault
  same-nothing fault none = (same.messages ∙ none.0, same.fault ∙ none.1)

  pub same-taken : (r : Publication) (left_then : Option Ahead) (o : Option MessageValue) → IsTaken t q same.rest r left_then o → IsTaken t p a r left_then o
  same-taken r left_then (Some message) taken = same-first r left_then message taken
  same-taken r left_then None taken = same-nothing None taken

  pub readily-first : (r : Publication) (left_then : Option Ahead) (message : MessageValue) (o : Option MessageValue) → o ≡ Some message → IsReadily t q same.rest r left_then o
      → IsFirst t p a r left_then message
  readily-first r left_then message o is there = same-first r left_then message (subst (IsReadily t q same.rest r left_then) is there)

  pub readily-none : (r : Publication) (left_then : Option Ahead) (o : Option MessageValue) → o ≡ None → IsReadily t q same.rest r left_then o
      → IsSame t p a r left_then × HasNone r
  readily-none r left_then o is there =
      let none = subst (IsReadily t q same.rest r left_then) is there in (same-same r left_then none.0, none.1)

-- nothing more comes
module _ (t : TargetValue) (p : Publication) (a : Ahead) (none : HasNone p) (over : p.cutter.is_over ≡ true) where
  outcome-is : to_come p.cutter a.input ≡ record { pieces = []; fault = None }
  outcome-is = over-comes p.cutter a.input None over none.1.0 none.1.1

  last-are : messages_to_come t p a ≡ last_texts t.names None p.ends
  last-are =
      ap (λ k. k ++ messages t.names t.lengths.part p.ends p.course a.readings (to_come p.cutter a.input)) none.0
      ∙ ap (λ o. messages t.names t.lengths.part p.ends p.course a.readings o) outcome-is

  pub last-taken : (q : Publication) (left : Option Ahead) → left ≡ Some a → (last : Option MessageValue) → IsLast t p q last → IsTaken t p a q left last
  last-taken q left told None e = (last-are ∙ ap (last_texts t.names None) e.0, ap (λ (o : Outcome). o.fault) outcome-is)
  last-taken q left told (Some message) e = record {
    rest = a;
    is_left = told;
    messages =
        last-are ∙ ap (last_texts t.names None) e.0 ∙ ap (λ m. m ∷ []) (sym e.1)
        ∙ ap (λ (l : List MessageValue). message ∷ l)
        (sym (ap (λ k. k ++ messages t.names t.lengths.part false p.course a.readings (to_come p.cutter a.input)) none.0
        ∙ ap (λ o. messages t.names t.lengths.part false p.course a.readings o) outcome-is))
        ∙ ap (λ (x : Publication). message ∷ messages_to_come t x a) (sym e.2);
    fault = ap (λ (x : Publication). fault_to_come x a) (sym e.2);
    place = ap (λ (x : Publication). x.place) e.2;
  }

-- ---- more of the encoder's bytes

module _ (t : TargetValue) (p : Publication) (none : HasNone p) (a : Ahead) (left left_then coming : Option (List ℕ)) (told : told_ahead left coming ≡ Some a) (after : CutterValue) where
  abbrev fed_on : Publication
  fed_on = record p { cutter = after }

  more-by : (more : List ℕ) → left_then ≡ Some more → to_come p.cutter a.input ≡ to_come after more → IsSame t p a fed_on (told_ahead left_then coming)
  more-by more is e = record {
    rest = record { input = more; readings = a.readings };
    is_left = ap₂ told_ahead is (told-coming left coming a told);
    messages = ap (λ o. p.kept ++ messages t.names t.lengths.part p.ends p.course a.readings o) e;
    fault = ap (λ (o : Outcome). o.fault) e;
    place = refl;
  }

  fed-by : (bytes : List ℕ) (then : Option (List ℕ)) → left_then ≡ then → Consumes (Some a.input) then bytes → after ≡ with_bytes p.cutter bytes
      → IsSame t p a fed_on (told_ahead left_then coming)
  fed-by bytes None is took e = absurd took
  fed-by bytes (Some more) is took e =
      more-by more is
      (ap (to_come p.cutter) took ∙ bytes_come p.cutter bytes more ∙ ap (λ x. to_come x more) (sym e))

  closed-by : (then : Option (List ℕ)) → left_then ≡ then → Keeps (Some a.input) then → IsAtEnd then → after ≡ closed p.cutter → IsSame t p a fed_on (told_ahead left_then coming)
  closed-by None is keeps at_end e = absurd keeps
  closed-by (Some more) is keeps at_end e =
      more-by more is
      (ap (to_come p.cutter) (sym keeps ∙ at_end)
      ∙ end_comes p.cutter more (ap (λ (x : Bool × CutterValue). x.0) none.1.2) (λ going. none.1.1)
      ∙ ap (λ (x : Bool × CutterValue). to_come (closed x.1) more) none.1.2
      ∙ ap (λ x. to_come x more) (sym e))

  pub same-fed : IsFed p.cutter left after left_then → IsSame t p a fed_on (told_ahead left_then coming)
  same-fed (inl read) = fed-by read.0 left_then refl (subst (λ l. Consumes l left_then read.0) (told-left left coming a told) read.1) read.2
  same-fed (inr over) = closed-by left_then refl (subst (λ l. Keeps l left_then) (told-left left coming a told) over.0) over.1 over.2
