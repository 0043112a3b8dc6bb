-- The channel of the line's name says what else refuses the item.
use Rattle.std.proofs.Common.{Some, [], ◌∷◌, sym, subst}
use Rattle.ll_script.specs.Lines.{offer_to}
use Rattle.ll_script.specs.Reads.{IsRead}
use Rattle.ll_script.proofs.reading.read_unkept.Goals as goal

pub returns-in-Some : goal.returns-in-Some
returns-in-Some c = λ media e.
    subst (λ channel. IsRead c.args.declared.now (Some (offer_to channel (c.args.line.now, media) ∷ [])) c.refuse_unkept.result) (sym c.in-Some.ensures)
    (c.refuse_unkept.ensures c.args.declared.now _ media e)
