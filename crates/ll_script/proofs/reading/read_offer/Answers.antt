-- A question is what the line says.
use Rattle.std.proofs.Common.{Ok, Some, [], ◌∷◌, subst}
use Rattle.ll_settings.specs.Channels.{channel_of_name}
use Rattle.ll_script.specs.Lines.{offer_by}
use Rattle.ll_script.specs.Reads.{IsRead}
use Rattle.ll_script.specs.declared.act.Acts.TheVariants as list
use Rattle.ll_script.proofs.ReadingLemmas.{asks-read}
use Rattle.ll_script.proofs.reading.read_offer.Goals as goal

pub returns-in-At : goal.returns-in-At
returns-in-At c =
    subst (λ l. IsRead c.args.declared.now (Some (offer_by c.args.declared.now l ∷ [])) (Ok (list.One c.read_at.result))) c.in-At.ensures
    (asks-read c.args.declared.now (channel_of_name c.args.declared.now 0 c.in-At.name.now) c.in-At.rendition.now c.read_at.result c.read_at.ensures)
