-- A place that was taken is one less.
use Rattle.std.proofs.Common.{◌+◌, ◌∙◌, ap, cond, false, length, sym}
use Rattle.ll_book.specs.Places.{is_place, stands}
use Rattle.ll_book.proofs.order.Order.remove.Goals as goal

pub returns : goal.returns
returns c = record {
  told = λ p. c.remove.ensures.updates.0 p ∙ ap (λ ks. cond (is_place c.args.place p) false (stands ks p)) c.self.view_is;
  count = ap (λ ks. length c.remove.new.self.keys + cond (stands ks c.args.place) 1 0) (sym c.self.view_is)
      ∙ ap (λ b. length c.remove.new.self.keys + cond b 1 0) (sym c.remove.ensures.test) ∙ c.remove.ensures.len ∙ ap length c.self.view_is;
}
