-- What is kept of a list of items with one more is a step from what is kept of the list.
use Rattle.std.proofs.Common.{◌≡◌, ℕ, ◌≤◌, ◌++◌, Bool, true, false, not, cond, List, [], ◌∷◌, filter, refl, ap, sym, subst, ◌∙◌, arith, bytes_eq, None}
use Rattle.std.proofs.lemmas.Bool.Decides.{nat_tests}
use Rattle.std.proofs.lemmas.List.Elements.{filter-append}
use Rattle.std.proofs.lemmas.List.Sums.{fold-append}
use Rattle.ll_attr.specs.declared.attributes.Attribute.{Attribute}
use Rattle.ll_item.specs.Items.{is_about_ranges}
use Rattle.ll_settings.specs.Settings.{Configuration, skip_limit}
use Rattle.ll_item.specs.declared.item.Item.{Item}
use Rattle.ll_item.specs.declared.item.Item.TheVariants as item
use Rattle.ll_item.specs.Told.{end_time, Removal, Told, other_removals, start, step, told}
use Rattle.ll_range.specs.Announced.{Announced, is_recent, announced, add_refusal, remove_refusal}
use Rattle.ll_range.specs.Kept.{with_range, without_range, at_time}

swap_by : (a b : Bool) (r : Removal) (xs ys : List Removal) (p q : Removal → Bool) → p r ≡ a → q r ≡ b → filter p xs ≡ filter q ys
    → filter p (cond b (r ∷ xs) xs) ≡ filter q (cond a (r ∷ ys) ys)
swap_by true true r xs ys p q e f h =
    ap (λ b. cond b (r ∷ filter p xs) (filter p xs)) e ∙ ap (λ xs. r ∷ xs) h ∙ ap (λ b. cond b (r ∷ filter q ys) (filter q ys)) (sym f)
swap_by true false r xs ys p q e f h = h ∙ ap (λ b. cond b (r ∷ filter q ys) (filter q ys)) (sym f)
swap_by false true r xs ys p q e f h = ap (λ b. cond b (r ∷ filter p xs) (filter p xs)) e ∙ h
swap_by false false r xs ys p q e f h = h

-- two filters, in either order
swap : (p q : Removal → Bool) (rs : List Removal) → filter p (filter q rs) ≡ filter q (filter p rs)
swap p q [] = refl
swap p q (r ∷ rs) = swap_by (p r) (q r) r (filter q rs) (filter p rs) p q refl refl (swap p q rs)

again_by : (a b : Bool) (r : Removal) (more rest : List Removal) (keep : Removal → Bool) → keep r ≡ b → (b ≡ true → a ≡ true) → filter keep more ≡ rest
    → filter keep (cond a (r ∷ more) more) ≡ cond b (r ∷ rest) rest
again_by true b r more rest keep e h f = ap (λ x. cond x (r ∷ filter keep more) (filter keep more)) e ∙ ap (λ xs. cond b (r ∷ xs) xs) f
again_by false false r more rest keep e h f = f
again_by false true r more rest keep e h f = absurd (cc (h refl))

still_recent : (l now before : ℕ) (r : Removal) → before ≤ now → is_recent l now r ≡ true → is_recent l before r ≡ true
still_recent l now before r h e = grind (arith, nat_tests)

-- the recent removals among removals that were recent at an earlier time
recent_again : (l now before : ℕ) (rs : List Removal) → before ≤ now → filter (is_recent l now) (filter (is_recent l before) rs) ≡ filter (is_recent l now) rs
recent_again l now before [] h = refl
recent_again l now before (r ∷ rs) h =
    again_by (is_recent l before r) (is_recent l now r) r (filter (is_recent l before) rs) (filter (is_recent l now) rs) (is_recent l now) refl
    (still_recent l now before r h) (recent_again l now before rs h)

now_recent : (l now : ℕ) (id : List ℕ) → is_recent l now (record { id = id; removed = now }) ≡ true
now_recent l now id = grind (arith, nat_tests)

-- a removal now, after others
removed_now : (l now : ℕ) (id : List ℕ) (rs : List Removal)
    → other_removals id (filter (is_recent l now) rs) ++ (record { id = id; removed = now }) ∷ []
    ≡ filter (is_recent l now) (other_removals id rs ++ (record { id = id; removed = now }) ∷ [])
removed_now l now id rs =
    let r : Removal = record { id = id; removed = now } in
    let other : Removal → Bool = λ removal. not (bytes_eq id removal.id) in
    ap (λ xs. xs ++ r ∷ []) (swap other (is_recent l now) rs)
    ∙ ap (λ b. filter (is_recent l now) (other_removals id rs) ++ cond b (r ∷ []) []) (sym (now_recent l now id))
    ∙ sym (filter-append (is_recent l now) (other_removals id rs) (r ∷ []))

-- what is kept of date ranges
abbrev announced_of : Configuration → Told → Announced
announced_of c t = record { limit = skip_limit c; listed = t.listed; recent = filter (is_recent (skip_limit c) t.end_time) t.removals }

one_more : (c : Configuration) (items : List Item) (i : Item) → announced_of c (step (told items) i) ≡ announced c (items ++ i ∷ [])
one_more c items i = ap (announced_of c) (sym (fold-append step start items (i ∷ [])))

range_removed : (c : Configuration) (t : Told) (r : ℕ) (id : List ℕ) → without_range t.end_time id (announced_of c t) ≡ announced_of c (step t (item.Unrange r id))
range_removed c t r id =
    ap (λ rs. (let a : Announced = record { limit = skip_limit c; listed = (step t (item.Unrange r id)).listed; recent = rs } in a))
    (removed_now (skip_limit c) t.end_time id t.removals)

-- what was recent before an item that is about no date range
passed_by : (c : Configuration) (t : Told) (now : ℕ) → t.end_time ≤ now
    → at_time now (announced_of c t) ≡ record { limit = skip_limit c; listed = t.listed; recent = filter (is_recent (skip_limit c) now) t.removals }
passed_by c t now le =
    ap (λ rs. (let a : Announced = record { limit = skip_limit c; listed = t.listed; recent = rs } in a)) (recent_again (skip_limit c) now t.end_time t.removals le)

time_passed : (c : Configuration) (t : Told) (i : Item) → is_about_ranges i ≡ false → at_time (step t i).end_time (announced_of c t) ≡ announced_of c (step t i)
time_passed c t (item.Part part) e = passed_by c t (step t (item.Part part)).end_time (omega arith)
time_passed c t (item.Finish r) e = passed_by c t t.end_time (omega arith)
time_passed c t (item.Break r time) e = passed_by c t t.end_time (omega arith)
time_passed c t (item.Init r media) e = passed_by c t t.end_time (omega arith)
time_passed c t (item.End r) e = passed_by c t t.end_time (omega arith)
time_passed c t (item.Range r id attributes) e = absurd (cc)
time_passed c t (item.Unrange r id) e = absurd (cc)

pub free-range : (c : Configuration) (items : List Item) (id : List ℕ) (attributes : List Attribute) (old : Announced) (now : ℕ)
    → old ≡ announced c items → now ≡ end_time items → add_refusal now id attributes old ≡ None → add_refusal (end_time items) id attributes (announced c items) ≡ None
free-range c items id attributes old now e t free =
    subst (λ n. add_refusal n id attributes (announced c items) ≡ None) t (subst (λ a. add_refusal now id attributes a ≡ None) e free)

pub free-unrange : (c : Configuration) (items : List Item) (id : List ℕ) (old : Announced) → old ≡ announced c items → remove_refusal id old ≡ None
    → remove_refusal id (announced c items) ≡ None
free-unrange c items id old e free = subst (λ a. remove_refusal id a ≡ None) e free

pub accepted-range : (c : Configuration) (items : List Item) (r : ℕ) (id : List ℕ) (attributes : List Attribute) (old new : Announced) (now : ℕ)
    → old ≡ announced c items → now ≡ end_time items → new ≡ with_range now id attributes old
    → new ≡ announced c (items ++ item.Range r id attributes ∷ [])
accepted-range c items r id attributes old new now e t more =
    more ∙ ap (with_range now id attributes) e ∙ ap (λ x. with_range x id attributes (announced c items)) t ∙ one_more c items (item.Range r id attributes)

pub accepted-unrange : (c : Configuration) (items : List Item) (r : ℕ) (id : List ℕ) (old new : Announced) (now : ℕ)
    → old ≡ announced c items → now ≡ end_time items → new ≡ without_range now id old
    → new ≡ announced c (items ++ item.Unrange r id ∷ [])
accepted-unrange c items r id old new now e t less =
    less ∙ ap (without_range now id) e ∙ ap (λ x. without_range x id (announced c items)) t ∙ range_removed c (told items) r id ∙ one_more c items (item.Unrange r id)

pub passed : (c : Configuration) (items : List Item) (i : Item) (old new : Announced) (now : ℕ)
    → old ≡ announced c items → is_about_ranges i ≡ false → now ≡ end_time (items ++ i ∷ []) → new ≡ at_time now old → new ≡ announced c (items ++ i ∷ [])
passed c items i old new now e silent t rest =
    rest ∙ ap (at_time now) e
    ∙ ap (λ x. at_time x (announced c items)) (t ∙ ap (λ (x : Told). x.end_time) (fold-append step start items (i ∷ [])))
    ∙ time_passed c (told items) i silent ∙ one_more c items i
