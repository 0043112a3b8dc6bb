-- The word after an item's line stands for the bytes that it spells.
use Rattle.std.proofs.Common.{Some, [], ◌∷◌, sym, subst}
use Rattle.ll_settings.specs.Channels.{channel_of_name}
use Rattle.ll_script.specs.Lines.{item_before, offer_within}
use Rattle.ll_script.specs.Reads.{IsRead}
use Rattle.ll_script.proofs.AnnouncedLemmas.{offer-spelled}
use Rattle.ll_script.proofs.reading.read_announced.Goals as goal

pub returns-in-Some : goal.returns-in-Some
returns-in-Some c =
    let channel = channel_of_name c.args.declared.now 0 c.args.name.now in
    subst (λ told. IsRead c.args.declared.now (Some (offer_within channel (item_before told c.args.line.now) ∷ [])) c.read_spelled.result) (sym c.in-Some.ensures)
    (offer-spelled c.args.declared.now channel c.in-Some.word.now c.in-Some.item.now c.args.line.now c.read_spelled.result (sym c.if-spells_bytes.ensures)
    c.read_spelled.ensures)
