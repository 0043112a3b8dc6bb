-- A line is the last one, or has an entry.
use Rattle.std.proofs.Common.{Some, ap, refl, subst, sym, ◌∙◌, ◌∷◌}
use Rattle.ll_attr.specs.Words.{pieces_at}
use Rattle.ll_check.proofs.Places.{of-inside}
use Rattle.ll_check.proofs.StepLemmas.{entry-parts, entry-wrong}
use Rattle.ll_check.specs.Found.{ChainValue, IsOf}
use Rattle.ll_check.specs.Lines.{IsLast, IsText}
use Rattle.ll_entry.specs.Chain.{Between, Chain, Inside}
use Rattle.ll_check.proofs.chunk.go_over_line.Goals as goal

pub returns-in_default-clause-right : goal.returns-in_default-clause-right
returns-in_default-clause-right c ch rest at =
    let of = subst (λ k. IsOf k ch) (sym c.chain.view_is) (of-inside c.args.chain.now ch at) in
    let l : IsLast (c.args.line.now ∷ rest) rest = rw c.in_default.is at (c.in_ok-text.ensures.right rest) in
    record {
      next = Between (Some ch);
      at = record { chains = record { chain = of.chain; stands = of.stands }; inside = refl };
      by = record { line = l.line; are = l.are; last = l.last; same = refl };
    }

pub returns-in-Ok-clause-right : goal.returns-in-Ok-clause-right
returns-in-Ok-clause-right c ch rest at =
    let of = of-inside c.args.chain.now ch at in
    let is : IsText c.in-Some.text.now (c.args.line.now ∷ rest) rest = rw c.in-Some.is at (c.in_ok-text.ensures.right rest) in
    let r = c.in-Ok.ensures.right ch of in
    let p = entry-parts c.take.new.chain ch (c.args.line.now ∷ rest) rest c.in-Some.text.now c.chain.inside.version c.in-Ok.entry is
    (ap (λ (k : ChainValue). k.version) c.chain.view_is ∙ sym (ap (λ (x : Chain). x.version) of.chain)) r.0 r.1 in
    record { next = Inside p.0; at = record { chains = p.1; inside = c.in-Ok.ensures.inside ∙ at.inside }; by = p.2 }

pub returns-in-Err-clause-wrong : goal.returns-in-Err-clause-wrong
returns-in-Err-clause-wrong c ch rest at other =
    let is : IsText c.in-Some.text.now (c.args.line.now ∷ pieces_at 10 rest) (pieces_at 10 rest) = rw c.in-Some.is at (c.in_ok-text.ensures.right (pieces_at 10 rest)) in
    entry-wrong ch c.in-Some.text.now (c.args.line.now ∷ pieces_at 10 rest) rest c.in-Err.kind is
    (c.in-Err.ensures.wrong ch (of-inside c.args.chain.now ch at) other)
