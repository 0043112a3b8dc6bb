-- The fewest of a rendition's own items with which what is awaited is there are the same at two origins.
use Rattle.std.proofs.Common.{◌≡◌, ◌<◌, ◌≤◌, ◌==◌, ◌||◌, ℕ, List, [], ◌∷◌, ◌++◌, Bool, true, false, refl, ap, sym, subst, ◌∙◌, append-nil, append_assoc, arith, if◌then◌else◌, length, length-append, nat_lt}
use Rattle.std.proofs.lemmas.Bool.Decides.{nat_tests}
use Rattle.std.proofs.lemmas.List.Elements.{filter-append}
use Rattle.ll_item.specs.Items.{rendition_of}
use Rattle.ll_item.specs.declared.item.Item.{Item}
use Rattle.ll_settings.specs.Settings.{Configuration}
use Rattle.ll_verdict.specs.Events.{items}
use Rattle.ll_verdict.specs.Verdict.{holds, is_there, reply_with}
use Rattle.ll_verdict.specs.declared.reply.Settled.{Settled}
use Rattle.ll_verdict.specs.declared.wanted.Wanted.{Wanted}
use Rattle.ll_window.specs.Segments.{ended, own}
use Rattle.ll_twin_laws.proofs.ItemLemmas.{begins-with, same-front, there-more}
use Rattle.ll_twin_laws.proofs.LeastLemmas.{IsLeast, got-least}
use Rattle.ll_twin_laws.proofs.PageProof.{replies-alike}
use Rattle.ll_twin_laws.specs.Own.{IsAlike, OwnReplyLaw}

-- whether what is awaited is there after these items of the rendition
abbrev there_own : Configuration → List Item → Wanted → Bool
there_own c mine a = holds c mine a.awaited || ended mine

is-own : (c : Configuration) (list : List Item) (a : Wanted) → is_there c list a ≡ there_own c (own a.rendition list) a
unfolding is_there
is-own c list a = refl

-- With its last item the beginning of a rendition's own items has what is awaited, and not before; and the reply is that of `all`, items of the
-- channel among which these are those of the rendition.
record IsOwnLeast (c : Configuration) (mine : List Item) (a : Wanted) (x : Settled) : Type 0 where
  all : List Item
  front : List Item
  last : Item
  rest : List Item
  own_all : own a.rendition all ≡ front ++ last ∷ []
  place : mine ≡ (front ++ last ∷ []) ++ rest
  missing : there_own c front a ≡ false
  there : is_there c all a ≡ true
  is : x ≡ reply_with c all a

-- ---- the item that settles is one of the rendition

one_own : (r : ℕ) (i : Item) (b : Bool) → (rendition_of i == r) ≡ b → own r (i ∷ []) ≡ (if b then i ∷ [] else [])
one_own r i b is = ap (λ b. if b then i ∷ [] else []) is

own-and : (r : ℕ) (xs ys : List Item) → own r (xs ++ ys) ≡ own r xs ++ own r ys
own-and r xs ys = filter-append (λ i. rendition_of i == r) xs ys

own-by : (c : Configuration) (list : List Item) (a : Wanted) (x : Settled) (l : IsLeast c list a x) (b : Bool) → (rendition_of l.last == a.rendition) ≡ b
    → IsOwnLeast c (own a.rendition list) a x
own-by c list a x l true is =
    let all = l.front ++ l.last ∷ [] in
    let own_all : own a.rendition all ≡ own a.rendition l.front ++ l.last ∷ [] =
    own-and a.rendition l.front (l.last ∷ []) ∙ ap (λ xs. own a.rendition l.front ++ xs) (one_own a.rendition l.last true is) in
    record {
      all = all;
      front = own a.rendition l.front;
      last = l.last;
      rest = own a.rendition l.rest;
      own_all = own_all;
      place = ap (own a.rendition) l.place ∙ own-and a.rendition all l.rest ∙ ap (λ xs. xs ++ own a.rendition l.rest) own_all;
      missing = sym (is-own c l.front a) ∙ l.missing;
      there = l.there;
      is = l.is;
    }
own-by c list a x l false is =
    let unchanged : own a.rendition (l.front ++ l.last ∷ []) ≡ own a.rendition l.front =
    own-and a.rendition l.front (l.last ∷ []) ∙ ap (λ xs. own a.rendition l.front ++ xs) (one_own a.rendition l.last false is) ∙ append-nil (own a.rendition l.front) in
    let still : is_there c (l.front ++ l.last ∷ []) a ≡ is_there c l.front a =
    is-own c (l.front ++ l.last ∷ []) a ∙ ap (λ xs. there_own c xs a) unchanged ∙ sym (is-own c l.front a) in
    let there = l.there in
    let missing = l.missing in
    absurd (cc)

own-least : (c : Configuration) (list : List Item) (a : Wanted) (x : Settled) → IsLeast c list a x → IsOwnLeast c (own a.rendition list) a x
own-least c list a x l = own-by c list a x l (rendition_of l.last == a.rendition) refl

with-more : (c : Configuration) (mine more : List Item) (all : List Item) (a : Wanted) (x : Settled) → all ≡ mine ++ more → IsOwnLeast c mine a x → IsOwnLeast c all a x
with-more c mine more all a x e l = record {
  all = l.all;
  front = l.front;
  last = l.last;
  rest = l.rest ++ more;
  own_all = l.own_all;
  place = e ∙ ap (λ xs. xs ++ more) l.place ∙ append_assoc (l.front ++ l.last ∷ []) l.rest more;
  missing = l.missing;
  there = l.there;
  is = l.is;
}

-- ---- two such beginnings

own-there : (c : Configuration) (mine : List Item) (a : Wanted) (x : Settled) (l : IsOwnLeast c mine a x) → there_own c (l.front ++ l.last ∷ []) a ≡ true
own-there c mine a x l = ap (λ xs. there_own c xs a) (sym l.own_all) ∙ sym (is-own c l.all a) ∙ l.there

-- none of them is shorter
not-shorter : (c : Configuration) (mine : List Item) (a : Wanted) (x y : Settled) (l : IsOwnLeast c mine a x) (m : IsOwnLeast c mine a y)
    → length m.front ≤ length l.front
not-shorter c mine a x y l m = by-count (nat_lt (length l.front) (length m.front)) refl
  where
    by-count : (b : Bool) → nat_lt (length l.front) (length m.front) ≡ b → length m.front ≤ length l.front
    by-count false e = grind (arith, nat_tests, e)
    by-count true e =
        let less : length l.front < length m.front = grind (arith, nat_tests, e) in
        let le : length (l.front ++ l.last ∷ []) ≤ length m.front = omega (arith, less, length-append l.front (l.last ∷ [])) in
        let p = begins-with (l.front ++ l.last ∷ []) l.rest m.front (m.last ∷ [] ++ m.rest)
        (sym l.place ∙ m.place ∙ append_assoc m.front (m.last ∷ []) m.rest) le in
        let there = ap (λ xs. there_own c xs a) p.1 ∙ there-more c (l.front ++ l.last ∷ []) p.0 a.awaited (own-there c mine a x l) in
        let missing = m.missing in
        absurd (cc)

least-alike : (c : Configuration) (mine : List Item) (a : Wanted) (x y : Settled) → IsOwnLeast c mine a x → IsOwnLeast c mine a y → IsAlike x y
least-alike c mine a x y l m =
    let long = not-shorter c mine a x y l m in
    let short = not-shorter c mine a y x m l in
    let as-long : length (l.front ++ l.last ∷ []) ≡ length (m.front ++ m.last ∷ []) =
    omega (arith, long, short, length-append l.front (l.last ∷ []), length-append m.front (m.last ∷ [])) in
    let same = same-front (l.front ++ l.last ∷ []) l.rest (m.front ++ m.last ∷ []) m.rest (sym l.place ∙ m.place) as-long in
    subst (λ s. IsAlike s y) (sym l.is)
    (subst (IsAlike (reply_with c l.all a)) (sym m.is) (replies-alike c l.all m.all a (l.own_all ∙ same ∙ sym m.own_all) l.there m.there))

pub own-reply : OwnReplyLaw
own-reply c events others more place spot r s waits also alike same x y is got other differs =
    let l = with-more c (own r.wanted.rendition (items c events)) more (own r.wanted.rendition (items c others)) r.wanted x same
    (own-least c (items c events) r.wanted x (got-least c events place r x waits is other)) in
    let m = own-least c (items c others) s.wanted y (got-least c others spot s y also got differs) in
    least-alike c (own r.wanted.rendition (items c others)) r.wanted x y l
    (subst (λ a. IsOwnLeast c (own a.rendition (items c others)) a y) (sym alike) m)
