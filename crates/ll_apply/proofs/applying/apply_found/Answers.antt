-- A number is missing, or the playlists that were read result in one.
use Rattle.std.proofs.Common.{sym, ◌∙◌}
use Rattle.ll_apply.proofs.Chain.{not-recent, goes, text-of-found}
use Rattle.ll_apply.proofs.applying.apply_found.Goals as goal

pub returns-in-Some : goal.returns-in-Some
returns-in-Some c x y base delta =
    not-recent x y c.in-Some.number c.args.base.now c.args.delta.now base delta (λ b d e f. sym c.in-Some.is ∙ c.missing_of.ensures b d e f)

pub returns-in_default-2 : goal.returns-in_default-2
returns-in_default-2 c x y base delta =
    goes x y c.args.base.now c.args.delta.now base delta (λ b d e f. sym c.in_default.is ∙ c.missing_of.ensures b d e f)

pub returns-in-Ok : goal.returns-in-Ok
returns-in-Ok c x y base delta =
    text-of-found x y c.args.base.now c.args.delta.now c.in-Some-Some.base c.in-Some-Some.delta c.in-Ok.text base delta
    (λ b d e f. sym c.in_default.is ∙ c.missing_of.ensures b d e f) c.in-Some-Some.is-0 c.in-Some-Some.is-1 c.in-Ok.ensures

pub returns-in-Err : goal.returns-in-Err
returns-in-Err c x y base delta =
    goes x y c.args.base.now c.args.delta.now base delta (λ b d e f. sym c.in_default.is ∙ c.missing_of.ensures b d e f)
