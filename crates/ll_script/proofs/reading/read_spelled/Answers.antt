-- Half as many bytes are spelled as there are digits.
use Rattle.std.proofs.Common.{Some, [], ◌∷◌, ap, sym, subst, ◌∙◌}
use Rattle.ll_settings.specs.Channels.{channel_of_name}
use Rattle.ll_item.specs.Media.{zeros}
use Rattle.ll_script.specs.Reads.{IsRead}
use Rattle.ll_script.proofs.AnnouncedLemmas.{offer-few, offer-many}
use Rattle.ll_script.proofs.HexLemmas.{half-spelled}
use Rattle.ll_script.proofs.reading.read_spelled.Goals as goal

pub returns-in_default : goal.returns-in_default
returns-in_default c = λ media h.
    ap (λ a. Some (a ∷ []))
    (offer-many (channel_of_name c.args.declared.now 0 c.args.name.now) c.args.line.now media _ (half-spelled c.args.digits.now media h) c.in_default.ensures)

pub returns-in-Err : goal.returns-in-Err
returns-in-Err c = λ media h.
    let half = half-spelled c.args.digits.now media h in
    let few = offer-few (channel_of_name c.args.declared.now 0 c.args.name.now) c.args.line.now media _ half c.in-Some.ensures.1 in
    subst (λ a. IsRead c.args.declared.now (Some (a ∷ [])) c.read_unkept.result) (sym few) (c.read_unkept.ensures media (c.in-Some.ensures.0 ∙ ap zeros half))
