-- The pages of a rendition stand at its place.
use Rattle.std.proofs.Common.{◌≡◌, ℕ, zero, suc, ◌+◌, ◌<◌, ◌≤◌, ◌||◌, List, [], ◌∷◌, ◌++◌, Bool, true, false, cond, not, if◌then◌else◌, Option, Some, None, length, nat_lt, refl, ap, ap₂, ◌∙◌, sym, get_or, position, subst, arith}
use Rattle.std.specs.List.{list_any, position_or_len}
use Rattle.std.proofs.lemmas.Bool.{or_parts}
use Rattle.std.proofs.lemmas.Bool.Decides.{nat_tests}
use Rattle.std.proofs.lemmas.List.Elements.{All-append}
use Rattle.std.proofs.lemmas.List.Quantifiers.{position-Some}
use Rattle.std.proofs.lemmas.List.Folds.{list_any-append}
use Rattle.ll_item.specs.declared.skip_kind.SkipKind.{SkipKind}
use Rattle.ll_page.specs.Page.{Moment, seen_of}
use Rattle.ll_page_cache.specs.Pages.{PagesOf, page_in}
use Rattle.ll_page_cache.specs.Written.{AreApart, AreAt, AreWritten, is_of}

same-rendition : (r : ℕ) (p : PagesOf) → is_of r p ≡ true → p.rendition ≡ r
same-rendition r p h = grind (arith, nat_tests, h)

pub page-at : (now : Moment) (ps : List PagesOf) (r i : ℕ) (p : PagesOf) (form : Option SkipKind) → AreAt now ps → Some i ≡ position (is_of r) ps → p ≡ get_or ps i p
    → page_in p form ≡ record { seen = seen_of now r; form = form }
page-at now ps r i p form all found at =
    let there = position-Some (is_of r) ps i p (sym found) in
    let moment : p.moment ≡ now = subst (λ (q : PagesOf). q.moment ≡ now) (sym at) (all i p there.0) in
    let rendition : p.rendition ≡ r = same-rendition r p (subst (λ (q : PagesOf). is_of r q ≡ true) (sym at) there.1) in
    ap₂ (λ m q. record { seen = seen_of m q; form = form }) moment rendition

-- ---- pages of one more rendition

none_by : (b : Bool) (n m : ℕ) (rest : Bool) → suc m ≤ cond (not b) (1 + n) 0 → (m ≤ n → rest ≡ false) → (b || rest) ≡ false
none_by true n m rest le ih = absurd (omega (arith, le))
none_by false n m rest le ih = ih (omega (arith, le))

none_of : (r : ℕ) (ps : List PagesOf) → length ps ≤ position_or_len (is_of r) ps → list_any (is_of r) ps ≡ false
none_of r [] le = refl
none_of r (p ∷ ps) le = none_by (is_of r p) (position_or_len (is_of r) ps) (length ps) (list_any (is_of r) ps) le (none_of r ps)

past_by : (b : Bool) (n : ℕ) → cond b (Some n) None ≡ None → b ≡ false
past_by true n e = absurd (grind (arith, e))
past_by false n e = refl

past : (p l : ℕ) → nat_lt p l ≡ false → l ≤ p
past p l e = grind (arith, nat_tests, e)

-- none of these is of a rendition that isn't found among them
not_there : (r : ℕ) (ps : List PagesOf) → position (is_of r) ps ≡ None → list_any (is_of r) ps ≡ false
not_there r ps e =
    let n = position_or_len (is_of r) ps in
    none_of r ps (past n (length ps) (past_by (nat_lt n (length ps)) n e))

-- as long as none before is of its rendition
apart_more : (p : PagesOf) (ps : List PagesOf) → AreApart ps → list_any (is_of p.rendition) ps ≡ false → AreApart (ps ++ p ∷ [])
apart_more p [] apart none = (refl, tt)
apart_more p (q ∷ qs) apart none =
    let others = or_parts (is_of p.rendition q) (list_any (is_of p.rendition) qs) none in
    let other : is_of p.rendition q ≡ false = others.0 in
    let turned : is_of q.rendition p ≡ false = grind (arith, nat_tests, other) in
    (list_any-append (is_of q.rendition) qs (p ∷ []) ∙ ap₂ (λ x y. x || (y || false)) apart.0 turned, apart_more p qs apart.1 others.1)

one_at : (now : Moment) (p : PagesOf) (k : ℕ) (d : PagesOf) → p.moment ≡ now → k < 1 → (get_or (p ∷ []) k d).moment ≡ now
one_at now p zero d e lt = e
one_at now p (suc k) d e lt = absurd (omega (arith, lt))

pub written-more : (now : Moment) (ps : List PagesOf) (p : PagesOf) (r : ℕ) (b : Bool) → AreWritten now ps → p ≡ record { moment = now; rendition = r }
    → None ≡ position (is_of r) ps → AreWritten now (if b then ps ++ p ∷ [] else ps)
written-more now ps p r false all is none = all
written-more now ps p r true all is none =
    let here : p.moment ≡ now = ap (λ (x : PagesOf). x.moment) is in
    let its : p.rendition ≡ r = ap (λ (x : PagesOf). x.rendition) is in
    let one : AreAt now (p ∷ []) = λ k d lt. one_at now p k d here lt in
    record {
      here = All-append (λ (q : PagesOf). q.moment ≡ now) ps (p ∷ []) all.here one;
      apart = apart_more p ps all.apart (subst (λ i. list_any (is_of i) ps ≡ false) (sym its) (not_there r ps (sym none)));
    }

-- if none are written
pub none-written : (now : Moment) (ps : List PagesOf) → ps ≡ [] → AreWritten now ps
none-written now ps none = subst (AreWritten now) (sym none) (record { here = λ k d lt. absurd (omega (arith, lt)); apart = tt })

-- if those of one rendition are
pub one-written : (now : Moment) (ps : List PagesOf) (p : PagesOf) → ps ≡ p ∷ [] → p.moment ≡ now → AreWritten now ps
one-written now ps p one here = subst (AreWritten now) (sym one) (record { here = λ k d lt. one_at now p k d here lt; apart = (refl, tt) })
