-- The last bytes are kept.
use Rattle.std.proofs.Common.{ap, ◌∙◌, arith}
use Rattle.ll_check.proofs.UnreadLemmas.{kept}
use Rattle.ll_check.specs.Unread.{UnreadValue}
use Rattle.ll_check.proofs.unread.Unread.keep.Goals as goal

pub returns-clause-text : goal.returns-clause-text
returns-clause-text c front rest text many =
    kept c.self.inside.bytes.items front rest c.self.inside.at c.args.count c.max-self-inside.result c.self.invariant.0
    (ap (λ (u : UnreadValue). u.text) c.self.view_is ∙ text) many (omega (arith, c.max-self-inside.ensures, c.saturating_sub.ensures, c.len.ensures))
