-- What is there stays there, whatever items follow; and of two beginnings of a list, one begins with the other.
use Rattle.std.proofs.Common.{◌≡◌, ◌≤◌, ◌==◌, ◌||◌, List, [], ◌∷◌, ◌++◌, Bool, true, false, refl, ap, ap₂, sym, subst, ◌∙◌, append-nil, append_assoc, arith, length}
use Rattle.std.proofs.lemmas.List.Elements.{filter-append}
use Rattle.std.proofs.lemmas.List.Sums.{fold-append}
use Rattle.ll_directive.specs.declared.want.Awaited.{Awaited}
use Rattle.ll_directive.specs.declared.want.Awaited.TheVariants.{Nothing, Segment, Part}
use Rattle.ll_item.specs.Items.{rendition_of}
use Rattle.ll_item.specs.Told.{Told, start, step, told}
use Rattle.ll_item.specs.declared.item.Item.{Item}
use Rattle.ll_item.specs.declared.item.Item.TheVariants as item
use Rattle.ll_settings.specs.Settings.{Configuration}
use Rattle.ll_verdict.specs.Verdict.{holds, is_there}
use Rattle.ll_verdict.specs.declared.wanted.Wanted.{Wanted}
use Rattle.ll_window.proofs.WantLemmas.{wants-law}
use Rattle.ll_window.specs.Segments.{ended, own}

-- ---- one more item of the rendition

holds_one : (c : Configuration) (xs : List Item) (i : Item) (a : Awaited) → holds c xs a ≡ true → holds c (xs ++ i ∷ []) a ≡ true
holds_one c xs i Nothing h = refl
holds_one c xs i (Segment msn) h = wants-law.segments_stay c xs i msn h
holds_one c xs i (Part msn part) h = wants-law.parts_stay c xs i msn part h

ends_step : (t : Told) (i : Item) → t.ended ≡ true → (step t i).ended ≡ true
ends_step t (item.Part part) h = h
ends_step t (item.Init r media) h = h
ends_step t (item.Finish r) h = h
ends_step t (item.Break r ms) h = h
ends_step t (item.End r) h = refl
ends_step t (item.Range r id attributes) h = h
ends_step t (item.Unrange r id) h = h

ends_one : (xs : List Item) (i : Item) → ended xs ≡ true → ended (xs ++ i ∷ []) ≡ true
ends_one xs i h = ap (λ (t : Told). t.ended) (fold-append step start xs (i ∷ [])) ∙ ends_step (told xs) i h

either_stays : (x y x' y' : Bool) → (x ≡ true → x' ≡ true) → (y ≡ true → y' ≡ true) → (x || y) ≡ true → (x' || y') ≡ true
either_stays true y x' y' f g h = ap (λ b. b || y') (f refl)
either_stays false y true y' f g h = refl
either_stays false y false y' f g h = g h

there_one : (c : Configuration) (xs : List Item) (i : Item) (a : Awaited) → (holds c xs a || ended xs) ≡ true
    → (holds c (xs ++ i ∷ []) a || ended (xs ++ i ∷ [])) ≡ true
there_one c xs i a h =
    either_stays (holds c xs a) (ended xs) (holds c (xs ++ i ∷ []) a) (ended (xs ++ i ∷ [])) (holds_one c xs i a) (ends_one xs i) h

pub there-more : (c : Configuration) (xs ys : List Item) (a : Awaited) → (holds c xs a || ended xs) ≡ true → (holds c (xs ++ ys) a || ended (xs ++ ys)) ≡ true
there-more c xs [] a h = subst (λ zs. (holds c zs a || ended zs) ≡ true) (sym (append-nil xs)) h
there-more c xs (y ∷ ys) a h =
    subst (λ zs. (holds c zs a || ended zs) ≡ true) (append_assoc xs (y ∷ []) ys) (there-more c (xs ++ y ∷ []) ys a (there_one c xs y a h))

-- ---- more items of the channel

pub stays-there : (c : Configuration) (xs ys : List Item) (a : Wanted) → is_there c xs a ≡ true → is_there c (xs ++ ys) a ≡ true
unfolding is_there
stays-there c xs ys a h =
    subst (λ zs. (holds c zs a.awaited || ended zs) ≡ true) (sym (filter-append (λ i. rendition_of i == a.rendition) xs ys))
    (there-more c (own a.rendition xs) (own a.rendition ys) a.awaited h)

-- ---- beginnings of a list

-- a beginning that is no longer than another is the beginning of that
pub begins-with : (xs ys us vs : List Item) → xs ++ ys ≡ us ++ vs → length xs ≤ length us → (more : List Item) × (us ≡ xs ++ more)
begins-with [] ys us vs e le = (us, refl)
begins-with (x ∷ xs) ys [] vs e le = absurd (omega (arith, le))
begins-with (x ∷ xs) ys (u ∷ us) vs e le =
    let first : x ≡ u = cc in
    let later : xs ++ ys ≡ us ++ vs = cc in
    let p = begins-with xs ys us vs later (omega (arith, le)) in
    (p.0, ap₂ (λ a b. a ∷ b) (sym first) p.1)

none-more : (xs more : List Item) → length (xs ++ more) ≤ length xs → more ≡ []
none-more xs [] le = refl
none-more [] (m ∷ more) le = absurd (omega (arith, le))
none-more (x ∷ xs) (m ∷ more) le = none-more xs (m ∷ more) (omega (arith, le))

-- and the same if they are of one length
pub same-front : (xs ys us vs : List Item) → xs ++ ys ≡ us ++ vs → length xs ≡ length us → xs ≡ us
same-front xs ys us vs e same =
    let p = begins-with xs ys us vs e (omega (arith, same)) in
    let none = none-more xs p.0 (omega (arith, same, ap length p.1)) in
    sym (p.1 ∙ ap (λ more. xs ++ more) none ∙ append-nil xs)
