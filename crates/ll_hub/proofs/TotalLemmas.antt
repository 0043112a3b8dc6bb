-- The totals of the channels so far, with that of one more.
use Rattle.std.proofs.Common.{◌≡◌, ◌&&◌, ℕ, Bool, true, false, zero, suc, List, [], ◌∷◌, ◌++◌, Some, length, slice_get, subst}
use Rattle.std.specs.Prelude.{IsTrue}
use mathlib.Core.List.{IsPrefix}
use Rattle.ll_history.proofs.PrefixLemmas.{prefix-trans}
use Rattle.ll_history.specs.History.{deeds_at}
use Rattle.ll_history.specs.declared.deed.Logged.{Logged}
use Rattle.ll_settings.specs.Settings.{Configuration}
use Rattle.ll_record.specs.Recording.{Recording}
use Rattle.ll_hub.specs.Calls.{AreTotals, IsTotal}
use Rattle.ll_hub_channel.specs.Deeds.{events_of}
use Rattle.ll_hub_channel.specs.Section.{IsAt}
use Rattle.ll_hub_channel.specs.Told.{IsTotalOf}
use Rattle.ll_hub_channel.specs.declared.total.Total.{Total}

-- what holds of each element at its place, and of one more at the end
pub each-more : {A : Type 0} (P : ℕ → A → Type 0) (xs : List A) (x : A) → ((i : ℕ) (y : A) → slice_get xs i ≡ Some y → P i y) → P (length xs) x
    → (i : ℕ) (y : A) → slice_get (xs ++ x ∷ []) i ≡ Some y → P i y
each-more P [] x each last zero y at = let same : x ≡ y = cc in subst (P 0) same last
each-more P [] x each last (suc i) y at = cc
each-more P (z ∷ xs) x each last zero y at = each 0 y at
each-more P (z ∷ xs) x each last (suc i) y at = each-more (λ i. P (suc i)) xs x (λ i. each (suc i)) last i y at

-- a total in a beginning of a longer history
total-longer : (passes history more : List Logged) (place : ℕ) (c : Configuration) (t : Total) → IsPrefix history more → IsTotal passes history place c t
    → IsTotal passes more place c t
total-longer passes history more place c t p total =
    record { past = total.past; seen = total.seen; whole = prefix-trans total.past history more total.whole p; total = total.total }

pub totals-more : (hub : List Configuration) (passes history more : List Logged) (ts : List Total) (t : Total) (place : ℕ) → place ≡ length ts → IsPrefix history more
    → AreTotals hub passes history ts → ((c : Configuration) → slice_get hub place ≡ Some c → IsTotal passes more place c t) → AreTotals hub passes more (ts ++ t ∷ [])
totals-more hub passes history more ts t n is p so_far last place c total in_hub at =
    each-more (λ i t. (c : Configuration) → slice_get hub i ≡ Some c → IsTotal passes more i c t) ts t
    (λ i u at c in_hub. total-longer passes history more i c u p (so_far i c u in_hub at))
    (subst (λ i. (c : Configuration) → slice_get hub i ≡ Some c → IsTotal passes more i c t) is last) place total at c in_hub

-- the total of the channel at a place
pub total-at : (r : Recording) (place : ℕ) (c : Configuration) (history : List Logged) (t : Total) → IsAt r place c
    → IsTotalOf r.room.settings (events_of r.room.settings (deeds_at r.room.channel history)) t → IsTotalOf c (events_of c (deeds_at place history)) t
total-at r place c history t here total =
    subst (λ c. IsTotalOf c (events_of c (deeds_at place history)) t) here.settings
    (subst (λ n. IsTotalOf r.room.settings (events_of r.room.settings (deeds_at n history)) t) here.number total)

-- of tests that are passed
pub first : (a b : Bool) → IsTrue (a && b) → IsTrue a
first true true h = h
first true false h = cc
first false b h = cc

pub second : (a b : Bool) → IsTrue (a && b) → IsTrue b
second true b h = h
second false b h = cc
