-- A place that is new is one more.
use Rattle.std.proofs.Common.{◌≡◌, ℕ, ◌+◌, ◌∙◌, Bool, true, false, ap, cond, length, not, refl}
use Rattle.ll_book.specs.Places.{is_place, stands}
use Rattle.ll_book.proofs.order.Order.add.Goals as goal

turned : (b : Bool) → ◌≡◌ {A = ℕ} (cond (not b) 1 0) (cond b 0 1)
turned true = refl
turned false = refl

pub returns-clause-added : goal.returns-clause-added
returns-clause-added c = record {
  told = λ p. c.in_ok-insert.ensures.updates.0 p ∙ ap (λ ks. cond (is_place c.args.place p) true (stands ks p)) c.self.view_is;
  count = c.in_ok-insert.ensures.len ∙ ap (λ b. length c.self.inside.places.keys + cond b 1 0) c.in_ok-insert.ensures.added
      ∙ ap (λ n. length c.self.inside.places.keys + n) (turned (stands c.self.inside.places.keys c.args.place))
      ∙ ap (λ ks. length ks + cond (stands ks c.args.place) 0 1) c.self.view_is;
}
