-- Readings that channels take one after another.
use Rattle.std.proofs.Common.{◌≡◌, ◌≤◌, ◌<◌, ◌+◌, ◌==◌, ℕ, Bool, true, false, List, Some, arith, refl, slice_get, subst}
use Rattle.std.proofs.lemmas.Bool.Decides.{nat_tests}
use mathlib.Core.List.{IsPrefix}
use Rattle.ll_history.proofs.HistoryLemmas.{done-earlier, done-longer}
use Rattle.ll_history.proofs.PrefixLemmas.{prefix-trans}
use Rattle.ll_history.specs.declared.deed.Deed.TheVariants as deed
use Rattle.ll_history.specs.declared.deed.Logged.{Logged}
use Rattle.ll_hub.specs.Calls.{AreTicked, IsNotTicked}
use Rattle.ll_ledger.specs.Sections.{HasNotTicked, HasTicked}
use Rattle.ll_settings.specs.Settings.{Configuration}
use Rattle.ll_verdict.specs.declared.fault.ClockFault.{ClockFault}

-- what the channels before took stands in the longer history
still : (before mid after : List Logged) (first end ms : ℕ) → AreTicked before mid first end ms → IsPrefix mid after → AreTicked before after first end ms
still before mid after first end ms so_far p place from below = done-longer before mid after place (deed.Clock ms) _ p (so_far place from below)

pub ticked-more : (before mid after : List Logged) (first place ms : ℕ) → AreTicked before mid first place ms → IsPrefix before mid → HasTicked mid after place ms
    → AreTicked before after first (place + 1) ms
ticked-more before mid after first place ms so_far grows t other from below = by (other == place) refl
  where
    by : (b : Bool) → (other == place) ≡ b → HasTicked before after other ms
    by true is =
        let same : place ≡ other = grind (arith, nat_tests, is) in
        subst (λ p. HasTicked before after p ms) same (done-earlier before mid after place (deed.Clock ms) _ grows t)
    by false is =
        let less : other < place = grind (arith, nat_tests, is, below) in
        still before mid after first place ms so_far t.grows other from less

pub not-ticked : (hub : List Configuration) (first place ms : ℕ) (before mid after : List Logged) (f : ClockFault) (c : Configuration) → first ≤ place
    → AreTicked before mid first place ms → IsPrefix before mid → slice_get hub place ≡ Some c → HasNotTicked mid after place c ms f → IsNotTicked hub first place ms before after f
not-ticked hub first place ms before mid after f c from so_far grows at why = record {
  from = from;
  ticked = still before mid after first place ms so_far why.grows;
  settings = c;
  channel = at;
  refused = record { right = why.right; grows = prefix-trans before mid after grows why.grows };
}
