-- What the first three lines say, and the chain that they begin or go on with.
use Rattle.std.proofs.Common.{Some, refl, ◌∷◌}
use Rattle.ll_attr.specs.Words.{pieces_at}
use Rattle.ll_check.proofs.StepLemmas.{begun-parts, header-lines, header-wrong}
use Rattle.ll_entry.proofs.ChainLemmas.{header-is}
use Rattle.ll_entry.specs.Chain.{Inside, begun_by}
use Rattle.ll_settings.specs.Settings.{settings_in}
use Rattle.ll_check.proofs.begin.begin_by.Goals as goal

pub returns-in-Ok-clause-right : goal.returns-in-Ok-clause-right
returns-in-Ok-clause-right c before rest at =
    let h = c.in-Some.header in
    let r = begun_by before (Some h.version) (settings_in h.settings.now) (Some h.at) in
    let told = c.in-Some.ensures before in
    let is = header-lines before c.args.first.now c.args.settings.now c.args.at.now h.settings.now rest r told.1 told.0 in
    let p = begun-parts before c.join.new.chain h.version (settings_in h.settings.now) h.at h.settings.now _ _ r refl is (c.in-Ok.ensures.right before at) in
    record { next = Inside p.0; at = record { chains = p.1; inside = c.in-Ok.ensures.inside }; by = p.2 }

pub returns-in-Err-clause-wrong : goal.returns-in-Err-clause-wrong
returns-in-Err-clause-wrong c before rest at other =
    let h = c.in-Some.header in
    let r = begun_by before (Some h.version) (settings_in h.settings.now) (Some h.at) in
    let told = c.in-Some.ensures before in
    let is = header-lines before c.args.first.now c.args.settings.now c.args.at.now h.settings.now (pieces_at 10 rest) r told.1 told.0 in
    header-wrong before h.settings.now (c.args.first.now ∷ c.args.settings.now ∷ c.args.at.now ∷ pieces_at 10 rest) rest r c.in-Err.kind is (c.in-Err.ensures.wrong before at other)

pub returns-in_default-clause-wrong : goal.returns-in_default-clause-wrong
returns-in_default-clause-wrong c before rest at other =
    header-is before (c.args.first.now ∷ c.args.settings.now ∷ c.args.at.now ∷ pieces_at 10 rest) c.args.first.now c.args.settings.now c.args.at.now rest _ refl (c.in_default.ensures before)
