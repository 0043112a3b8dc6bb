-- A text that can't be cut after ten bytes is no date and time.
use Rattle.std.proofs.Common.{sym, true≢false}
use Rattle.ll_format.proofs.Boundaries.{date_time-uncut}
use Rattle.ll_format.proofs.date_time.is_date_time.Goals as goal

pub returns-in_default : goal.returns-in_default
returns-in_default c = date_time-uncut c.args.text.now (λ h. true≢false (sym (c.in_default.ensures.variant.1 h)))
