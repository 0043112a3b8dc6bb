use Rattle.ll_history.proofs.KeepingLemmas.{kept-first}
use Rattle.ll_history.specs.Rules.{all_places}
use Rattle.ll_history.proofs.blank.BlankHistory.new.Goals as goal

pub open_row-seen-requires : goal.open_row-seen-requires
open_row-seen-requires c = (kept-first all_places, λ history. tt, c.alone.ensures.1)
