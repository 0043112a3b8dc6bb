-- What more items of a rendition make of its date ranges: some are gone, and new ones stand after the others.
use Rattle.std.proofs.Common.{◌≡◌, ℕ, ◌+◌, ◌≤◌, ◌||◌, Bool, true, false, not, cond, List, [], ◌∷◌, ◌++◌, filter, fold, bytes_eq, append-nil, append_assoc, refl, ap, sym, subst, ◌∙◌, arith}
use Rattle.std.proofs.Math.Bool.{or-false}
use Rattle.std.proofs.lemmas.Bool.{or_right}
use Rattle.std.proofs.lemmas.List.Elements.{filter-append}
use Rattle.std.proofs.lemmas.List.Sums.{fold-append}
use Rattle.std.proofs.lemmas.Slice.Eq.{bytes_eq-Decides}
use Rattle.ll_attr.specs.Attributes.{spelling}
use Rattle.ll_item.specs.declared.item.Item.{Item}
use Rattle.ll_item.specs.declared.item.Item.TheVariants as item
use Rattle.ll_item.specs.Told.{Listed, Told, other_removals, others, start, step, told}
use Rattle.ll_apply.specs.Applied.{is_one_of}
use Rattle.ll_read.specs.Readable.{Each}
use Rattle.ll_laws.proofs.ApartLemmas.{bytes-back}
use Rattle.ll_laws.proofs.EachLemmas.{each-with, each-append, each-filter}
use Rattle.ll_laws.proofs.RemovalLemmas.{was_lately, lately-last, lately-more}

-- whether a date range is none of these
abbrev pub is_left : List (List ℕ) → Listed → Bool
is_left gone x = not (is_one_of x.id gone)

-- Those that are left and new ones are listed later. The new ones are added, and the others taken away, at the earlier time or
-- after it.
pub record IsChanged (before after : Told) : Type 0 where
  pub gone : List (List ℕ)
  pub new : List Listed
  pub listed : after.listed ≡ filter (is_left gone) before.listed ++ new
  pub later : before.end_time ≤ after.end_time
  pub young : Each (λ (x : Listed). before.end_time ≤ x.added) new
  pub removed : Each (λ id. was_lately 0 before.end_time id after.removals ≡ true) gone

without_by : (g : Bool) (id : List ℕ) (x : Listed) (xs ys : List Listed) → others id xs ≡ ys
    → others id (cond (not g) (x ∷ xs) xs) ≡ cond (not (bytes_eq x.id id || g)) (x ∷ ys) ys
without_by true id x xs ys h = h ∙ sym (ap (λ b. cond (not b) (x ∷ ys) ys) (or_right (bytes_eq x.id id) true refl))
without_by false id x xs ys h =
    ap (λ zs. cond (not (bytes_eq id x.id)) (x ∷ zs) zs) h
    ∙ ap (λ b. cond (not b) (x ∷ ys) ys) (bytes-back id x.id ∙ sym (or-false (bytes_eq x.id id)))

-- one more is gone
without : (id : List ℕ) (gone : List (List ℕ)) (xs : List Listed) → others id (filter (is_left gone) xs) ≡ filter (is_left (id ∷ gone)) xs
without id gone [] = refl
without id gone (x ∷ xs) = without_by (is_one_of x.id gone) id x (filter (is_left gone) xs) (filter (is_left (id ∷ gone)) xs) (without id gone xs)

one_more : (t u : Told) (i : Item) → IsChanged t u → IsChanged t (step u i)
one_more t u (item.Part p) h =
    let l = h.later in
    record { gone = h.gone; new = h.new; listed = h.listed; later = omega (arith, l); young = h.young; removed = h.removed }
one_more t u (item.Finish r) h = record { gone = h.gone; new = h.new; listed = h.listed; later = h.later; young = h.young; removed = h.removed }
one_more t u (item.Break r time) h = record { gone = h.gone; new = h.new; listed = h.listed; later = h.later; young = h.young; removed = h.removed }
one_more t u (item.Init r media) h = record { gone = h.gone; new = h.new; listed = h.listed; later = h.later; young = h.young; removed = h.removed }
one_more t u (item.End r) h = record { gone = h.gone; new = h.new; listed = h.listed; later = h.later; young = h.young; removed = h.removed }
one_more t u (item.Range r id attributes) h =
    let x : Listed = record { id = id; attributes = spelling attributes; added = u.end_time } in
    record {
      gone = h.gone;
      new = h.new ++ x ∷ [];
      listed = ap (λ xs. xs ++ x ∷ []) h.listed ∙ append_assoc (filter (is_left h.gone) t.listed) h.new (x ∷ []);
      later = h.later;
      young = each-append (λ (x : Listed). t.end_time ≤ x.added) h.new (x ∷ []) h.young (h.later, tt);
      removed = h.removed;
    }
one_more t u (item.Unrange r id) h =
    let other : Listed → Bool = λ x. not (bytes_eq id x.id) in
    let l = h.later in
    let le : t.end_time ≤ u.end_time + 0 = omega (arith, l) in
    record {
      gone = id ∷ h.gone;
      new = others id h.new;
      listed = ap (others id) h.listed ∙ filter-append other (filter (is_left h.gone) t.listed) h.new
          ∙ ap (λ xs. xs ++ others id h.new) (without id h.gone t.listed);
      later = h.later;
      young = each-filter (λ (x : Listed). t.end_time ≤ x.added) other h.new h.young;
      removed = (
        lately-last 0 t.end_time id u.end_time (other_removals id u.removals) le,
        each-with (λ j. was_lately 0 t.end_time j u.removals ≡ true) (λ j. was_lately 0 t.end_time j (step u (item.Unrange r id)).removals ≡ true)
            (λ j e. lately-more 0 t.end_time j id u.end_time u.removals le e) h.gone h.removed,
      );
    }

changed_on : (t u : Told) (ys : List Item) → IsChanged t u → IsChanged t (fold step u ys)
changed_on t u [] h = h
changed_on t u (y ∷ ys) h = changed_on t (step u y) ys (one_more t u y h)

none_gone : (xs : List Listed) → filter (is_left []) xs ≡ xs
none_gone [] = refl
none_gone (x ∷ xs) = ap (λ ys. x ∷ ys) (none_gone xs)

unchanged : (t : Told) → IsChanged t t
unchanged t = record {
  gone = [];
  new = [];
  listed = sym (append-nil (filter (is_left []) t.listed) ∙ none_gone t.listed);
  later = omega arith;
  young = tt;
  removed = tt;
}

-- the fold of items with more after them
pub changed : (xs ys : List Item) → IsChanged (told xs) (told (xs ++ ys))
changed xs ys = subst (IsChanged (told xs)) (sym (fold-append step start xs ys)) (changed_on (told xs) (told xs) ys (unchanged (told xs)))

one_by : (P : List ℕ → Type 0) (a id : List ℕ) (b more : Bool) → bytes_eq a id ≡ b → P id → (more ≡ true → P a) → (b || more) ≡ true → P a
one_by P a id true more e p f h = subst P (sym ((bytes_eq-Decides a id).0 e)) p
one_by P a id false more e p f h = f h

-- what holds of each of these ids holds of one of them
pub each-one : (P : List ℕ → Type 0) (id : List ℕ) (js : List (List ℕ)) → Each P js → is_one_of id js ≡ true → P id
each-one P id [] h e = absurd (cc)
each-one P id (j ∷ js) h e = one_by P id j (bytes_eq id j) (is_one_of id js) refl h.0 (each-one P id js h.1) e
