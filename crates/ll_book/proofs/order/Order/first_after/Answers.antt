-- The first place of the range after it.
use Rattle.std.proofs.Common.{◌≡◌, false, subst, sym, true}
use Rattle.std.specs.Bool.{IsTrue}
use Rattle.std.specs.List.{slice_get}
use Rattle.std.specs.Ordering.{is_gt}
use Rattle.std.specs.Prelude.{IfSome, ⊤}
use Rattle.ll_book.specs.Places.{IsBefore, place_cmp, stands}
use Rattle.ll_book.proofs.order.Order.first_after.Goals as goal

pub returns-clause-some : goal.returns-clause-some
returns-clause-some c =
    let range = c.range.ensures.in_range tt in
    let at = subst (λ l. IfSome (slice_get l 0) (λ q. (IsBefore c.args.place q × ⊤) × IsTrue (stands c.self.inside.places.keys q))) c.in_ok-next.ensures.steps range.1 in
    record {
      after = at.0.0;
      there = subst (λ ks. stands ks c.in_ok-next.next.now ≡ true) c.self.view_is at.1;
      first = λ p b t. subst (λ l. IfSome (slice_get l 0) (λ q. is_gt (place_cmp q p) ≡ false)) c.in_ok-next.ensures.steps
          (range.2 p (b, tt) (subst (λ ks. stands ks p ≡ true) (sym c.self.view_is) t));
    }
