-- The steps that look at a history and add to it keep its rule.
use Rattle.std.proofs.Common.{◌≡◌, ◌≢◌, ℕ, ◌+◌, ◌<◌, ◌==◌, Bool, true, false, List, [], ◌∷◌, ◌++◌, length, replicate, refl, ap, sym, subst, arith, inl, length-append, None, ◌∙◌, append-nil, slice_set}
use Rattle.std.proofs.lemmas.Bool.Decides.{nat_tests}
use Rattle.std.proofs.lemmas.List.{get_or-replicate, get_or-set_other, length-replicate, length-set, set-get_or}
use Rattle.std.proofs.lemmas.Grind.{get_or-set_at}
use mathlib.Core.List.{IsPrefix}
use prog.Atomic.{either}
use Rattle.logbook.specs.Pages.{Cell, cell, keeps, no_nib, step, Moves, Goes}
use Rattle.ll_history.specs.History.{deeds_at, done_at}
use Rattle.ll_history.specs.Rules.{Adds, IsKept, IsKeptIn, Looks, all_places}
use Rattle.ll_history.specs.declared.deed.Deed.{Deed}
use Rattle.ll_history.specs.declared.deed.Logged.{Logged}
use Rattle.ll_history.proofs.HistoryLemmas.{deeds-elsewhere, deeds-more}

abbrev pub shown : List Logged → List Logged
shown history = []

abbrev pub moved : List Logged → List Logged → ℕ → Type 0
moved xs ys n = Unit {0}

-- at first no word has counted anything
pub kept-first : (count : ℕ) → IsKeptIn count (replicate count (0, true)) []
kept-first count = record {
  many = length-replicate count (0, true);
  each = λ place lt. get_or-replicate count place (0, true) (0, false) lt;
}

-- one more deed
kept-added : (count place : ℕ) (cs : List Cell) (log : List Logged) (d : Deed) → place < count → IsKeptIn count cs log
    → IsKeptIn count (slice_set cs place (length (deeds_at place log) + 1, true)) (log ++ done_at place d ∷ [])
kept-added count place cs log d lt kept = record {
  many = length-set cs place (length (deeds_at place log) + 1, true) ∙ kept.many;
  each = λ other lt2. by other lt2 (other == place) refl;
}
  where
    after : List Logged
    after = log ++ done_at place d ∷ []

    by : (other : ℕ) → other < count → (b : Bool) → (other == place) ≡ b
        → cell (slice_set cs place (length (deeds_at place log) + 1, true)) other ≡ (length (deeds_at other after), true)
    by other lt2 true is =
        let same : other ≡ place = grind (arith, nat_tests, is) in
        let many : length (deeds_at place log) + 1 ≡ length (deeds_at place after) =
        sym (ap length (deeds-more place log d) ∙ length-append (deeds_at place log) (d ∷ [])) in
        get_or-set_at cs place other (length (deeds_at place log) + 1, true) (0, false) same (omega (arith, lt, kept.many))
        ∙ ap (λ (n : ℕ). (n, true)) many ∙ ap (λ (p : ℕ). (length (deeds_at p after), true)) (sym same)
    by other lt2 false is =
        let apart : other ≢ place = λ e. grind (arith, nat_tests, is, e) in
        get_or-set_other cs place other (length (deeds_at place log) + 1, true) (0, false) apart ∙ kept.each other lt2
        ∙ ap (λ (ds : List Deed). (length ds, true)) (sym (deeds-elsewhere place other log d (λ e. apart (sym e))))

-- no deed
kept-still : (count place : ℕ) (cs : List Cell) (log : List Logged) → place < count → IsKeptIn count cs log
    → IsKeptIn count (slice_set cs place (length (deeds_at place log), true)) (log ++ [])
kept-still count place cs log lt kept =
    let same : slice_set cs place (length (deeds_at place log), true) ≡ cs =
    ap (slice_set cs place) (sym (kept.each place lt)) ∙ set-get_or cs place (0, false) in
    subst (λ l. IsKeptIn count (slice_set cs place (length (deeds_at place log), true)) l) (sym (append-nil log))
    (subst (λ c. IsKeptIn count c log) (sym same) kept)

adds-goes : (place : ℕ) (log v : List Logged) (e : Logged) (old : ℕ) (cs : List Cell) → place < all_places → IsKept cs log → IsPrefix v log
    → (b : Bool) → (length (deeds_at place log) == old) ≡ b
    → Goes IsKept shown moved place (v, (no_nib, None)) (λ n. either (n == old) (old + 1) n) (Adds (step place old (old + 1) e) (v, (no_nib, None))) cs log
adds-goes place log v e old cs lt kept pre true is =
    let same : length (deeds_at place log) ≡ old = grind (arith, nat_tests, is) in
    rw (kept.each place lt, is) (
      keeps,
      done_at place e.deed ∷ [],
      None,
      tt,
      subst (λ n. IsKept (slice_set cs place (n + 1, true)) (log ++ done_at place e.deed ∷ [])) same (kept-added all_places place cs log e.deed lt kept),
      inl (refl, refl),
      record { past = log; grows = pre; counted = same; added = refl },
    )
adds-goes place log v e old cs lt kept pre false is =
    rw (kept.each place lt, is) (
      keeps,
      [],
      None,
      tt,
      kept-still all_places place cs log lt kept,
      inl (refl, refl),
      tt,
    )

-- whatever the history is, the step adds the deed at its end, or finds another number
pub adds-moves : (place : ℕ) (v : List Logged) (e : Logged) (old : ℕ) → place < all_places
    → Moves IsKept shown moved place (v, (no_nib, None)) (λ n. either (n == old) (old + 1) n) (Adds (step place old (old + 1) e) (v, (no_nib, None)))
adds-moves place v e old lt cs log kept pre away = (
  subst (λ n. place < n) (sym kept.many) lt,
  ap (λ (c : Cell). c.1) (kept.each place lt),
  adds-goes place log v e old cs lt kept pre (length (deeds_at place log) == old) refl,
)

-- or looks at it
pub looks-moves : (place : ℕ) (v : List Logged) (e : Logged) → place < all_places
    → Moves IsKept shown moved place (v, (no_nib, None)) (λ n. n) (Looks (step place 0 0 e) (v, (no_nib, None)))
looks-moves place v e lt cs log kept pre away = (
  subst (λ n. place < n) (sym kept.many) lt,
  ap (λ (c : Cell). c.1) (kept.each place lt),
  rw (kept.each place lt) (
    keeps,
    [],
    None,
    tt,
    kept-still all_places place cs log lt kept,
    inl (refl, refl),
    ap (λ (l : List Logged). length (deeds_at place l)) (append-nil log),
  ),
)
