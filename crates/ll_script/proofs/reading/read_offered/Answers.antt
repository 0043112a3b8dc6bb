-- The channel of the line's name reads the item.
use Rattle.std.proofs.Common.{Some, [], ◌∷◌, sym, subst}
use Rattle.ll_script.specs.Lines.{offer_to}
use Rattle.ll_script.specs.Reads.{IsRead}
use Rattle.ll_script.proofs.reading.read_offered.Goals as goal

pub returns-in-Some : goal.returns-in-Some
returns-in-Some c =
    subst (λ channel. IsRead c.args.declared.now (Some (offer_to channel (c.args.line.now, c.args.payload.now) ∷ [])) c.read_item.result) (sym c.in-Some.ensures)
    (c.read_item.ensures c.args.declared.now)
