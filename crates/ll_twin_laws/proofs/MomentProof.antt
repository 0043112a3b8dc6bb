-- Items come one at a time, so a channel has had each beginning of its items, and of those of each rendition.
use Rattle.std.proofs.Common.{◌≡◌, ℕ, ◌+◌, ◌<◌, ◌≤◌, ◌==◌, List, [], ◌∷◌, ◌++◌, Bool, true, false, refl, ap, sym, ◌∙◌, append_assoc, arith, fold, is_none, length, length-append, nat_lt, if◌then◌else◌}
use Rattle.std.proofs.lemmas.Bool.Decides.{nat_tests}
use Rattle.std.proofs.lemmas.List.Elements.{filter-append}
use Rattle.std.proofs.lemmas.List.Sums.{fold-append}
use Rattle.ll_item.specs.Items.{rendition_of}
use Rattle.ll_item.specs.declared.item.Item.{Item}
use Rattle.ll_page.specs.Page.{text_in}
use Rattle.ll_pieces.specs.View.{seen}
use Rattle.ll_settings.specs.Settings.{Configuration}
use Rattle.ll_store.specs.Media.{media}
use Rattle.ll_verdict.proofs.NewerLemmas.{folded-longer}
use Rattle.ll_verdict.specs.Accepted.{refusal}
use Rattle.ll_verdict.specs.Events.{Event, Publish, Ask, Collect, Close, Clock, items, taken}
use Rattle.ll_window.specs.Segments.{own}
use Rattle.ll_twin_laws.proofs.ItemLemmas.{same-front}
use Rattle.ll_twin_laws.proofs.PageProof.{pages-alike}
use Rattle.ll_twin_laws.specs.Laws.{BeginningLaw}
use Rattle.ll_twin_laws.specs.Own.{OwnMomentLaw}

-- ---- what is seen of all items grows by one item at most

-- by `view` of all items, one event adds one at most, and nothing goes away
record Grows (c : Configuration) (view : List Item → List Item) : Type 0 where
  one : (list : List Item) (e : Event) → length (view (taken c list e)) ≤ length (view list) + 1
  longer : (list : List Item) (events : List Event) → (more : List Item) × (view (fold (taken c) list events) ≡ view list ++ more)

by_refusal : (list : List Item) (i : Item) (b : Bool) → length (if b then list ++ i ∷ [] else list) ≤ length list + 1
by_refusal list i true = omega (arith, length-append list (i ∷ []))
by_refusal list i false = omega arith

one-more : (c : Configuration) (list : List Item) (e : Event) → length (taken c list e) ≤ length list + 1
one-more c list (Publish i) = by_refusal list i (is_none (refusal c list i))
one-more c list (Ask want) = omega arith
one-more c list (Collect ticket) = omega arith
one-more c list (Close ticket) = omega arith
one-more c list (Clock ms) = omega arith

all-grow : (c : Configuration) → Grows c (λ list. list)
all-grow c = record { one = one-more c; longer = λ list events. folded-longer c events list }

-- ---- and so do those of a rendition

one_at_most : (i : Item) (b : Bool) → length (if b then i ∷ [] else []) ≤ 1
one_at_most i true = omega arith
one_at_most i false = omega arith

own-and : (r : ℕ) (xs ys : List Item) → own r (xs ++ ys) ≡ own r xs ++ own r ys
own-and r xs ys = filter-append (λ i. rendition_of i == r) xs ys

own_by_refusal : (r : ℕ) (list : List Item) (i : Item) (b : Bool) → length (own r (if b then list ++ i ∷ [] else list)) ≤ length (own r list) + 1
own_by_refusal r list i true =
    let few : length (own r (i ∷ [])) ≤ 1 = one_at_most i (rendition_of i == r) in
    let all : length (own r (list ++ i ∷ [])) ≡ length (own r list) + length (own r (i ∷ [])) =
    ap length (own-and r list (i ∷ [])) ∙ length-append (own r list) (own r (i ∷ [])) in
    omega (arith, few, all)
own_by_refusal r list i false = omega arith

own-one-more : (c : Configuration) (r : ℕ) (list : List Item) (e : Event) → length (own r (taken c list e)) ≤ length (own r list) + 1
own-one-more c r list (Publish i) = own_by_refusal r list i (is_none (refusal c list i))
own-one-more c r list (Ask want) = omega arith
own-one-more c r list (Collect ticket) = omega arith
own-one-more c r list (Close ticket) = omega arith
own-one-more c r list (Clock ms) = omega arith

own-grow : (c : Configuration) (r : ℕ) → Grows c (own r)
own-grow c r = record {
  one = own-one-more c r;
  longer = λ list events.
      let p = folded-longer c events list in
      (own r p.0, ap (own r) p.1 ∙ own-and r list p.0);
}

-- ---- a moment at which the items are these

-- events after which `view` of a channel with the items `list` has the items `front`
record IsReached (c : Configuration) (view : List Item → List Item) (list : List Item) (events : List Event) (front : List Item) : Type 0 where
  before : List Event
  after : List Event
  place : events ≡ before ++ after
  same : view (fold (taken c) list before) ≡ front

fewer : (a b : ℕ) → nat_lt a b ≡ true → a < b
fewer a b h = grind (arith, nat_tests)

as-many : (a b : ℕ) → nat_lt a b ≡ false → a ≤ b → a ≡ b
as-many a b h le = grind (arith, nat_tests)

module _ (c : Configuration) (view : List Item → List Item) (grows : Grows c view) where
  at-once : (list : List Item) (events : List Event) (front rest : List Item) → view (fold (taken c) list events) ≡ front ++ rest
      → length (view list) ≡ length front → IsReached c view list events front
  at-once list events front rest e same =
      let p = grows.longer list events in
      record { before = []; after = events; place = refl; same = same-front (view list) p.0 front rest (sym p.1 ∙ e) same }

  later : (list : List Item) (e : Event) (events : List Event) (front : List Item) → IsReached c view (taken c list e) events front
      → IsReached c view list (e ∷ events) front
  later list e events front r = record { before = e ∷ r.before; after = r.after; place = ap (λ es. e ∷ es) r.place; same = r.same }

  reached-by : (list : List Item) (e : Event) (events : List Event) (front rest : List Item) (less : Bool)
      → nat_lt (length (view list)) (length front) ≡ less → view (fold (taken c) list (e ∷ events)) ≡ front ++ rest → length (view list) ≤ length front
      → (length (view (taken c list e)) ≤ length front → IsReached c view (taken c list e) events front) → IsReached c view list (e ∷ events) front
  reached-by list e events front rest true is all le more =
      let less = fewer (length (view list)) (length front) is in later list e events front (more (omega (arith, less, grows.one list e)))
  reached-by list e events front rest false is all le more =
      at-once list (e ∷ events) front rest all (as-many (length (view list)) (length front) is le)

  reached : (list : List Item) (events : List Event) (front rest : List Item) → view (fold (taken c) list events) ≡ front ++ rest
      → length (view list) ≤ length front → IsReached c view list events front
  reached list [] front rest e le = at-once list [] front rest e (omega (arith, le, ap length e, length-append front rest))
  reached list (event ∷ events) front rest e le =
      reached-by list event events front rest (nat_lt (length (view list)) (length front)) refl e le (λ few. reached (taken c list event) events front rest e few)

-- ---- the moments of another origin

pub beginning : BeginningLaw
beginning c events others more same before after place =
    let p = folded-longer c after (items c before) in
    let all : items c events ≡ items c before ++ p.0 = ap (items c) place ∙ fold-append (taken c) [] before after ∙ p.1 in
    let r = reached c (λ list. list) (all-grow c) [] others (items c before) (p.0 ++ more)
    (same ∙ ap (λ xs. xs ++ more) all ∙ append_assoc (items c before) p.0 more) (omega arith) in
    record {
      before = r.before;
      after = r.after;
      place = r.place;
      same = r.same;
      text = λ form rendition. ap (λ xs. text_in form (seen c xs rendition)) r.same;
      media = λ rendition what. ap (λ xs. media c (own rendition xs) what) r.same;
    }

pub own-moment : OwnMomentLaw
own-moment c events others rendition more same before after place =
    let p = (own-grow c rendition).longer (items c before) after in
    let all : own rendition (items c events) ≡ own rendition (items c before) ++ p.0 =
    ap (λ es. own rendition (items c es)) place ∙ ap (own rendition) (fold-append (taken c) [] before after) ∙ p.1 in
    let r = reached c (own rendition) (own-grow c rendition) [] others (own rendition (items c before)) (p.0 ++ more)
    (same ∙ ap (λ xs. xs ++ more) all ∙ append_assoc (own rendition (items c before)) p.0 more) (omega arith) in
    record {
      before = r.before;
      after = r.after;
      place = r.place;
      same = r.same;
      page = λ form. pages-alike c (items c before) (items c r.before) rendition form (sym r.same);
      media = λ what. ap (λ xs. media c xs what) r.same;
    }
