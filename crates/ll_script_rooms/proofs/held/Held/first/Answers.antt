-- The first row is the first request.
use Rattle.std.proofs.Common.{Some, ◌∙◌, ap, slice_get, sym}
use Rattle.ll_script_rooms.proofs.BookLemmas.{first_wait}
use Rattle.ll_script_rooms.proofs.held.Held.first.Goals as goal

pub returns : goal.returns
returns c =
    ap Some c.wait.ensures ∙ sym (first_wait _ c.self.inside.rows.entries c.in_ok-row.ensures.first) ∙ ap (λ ws. slice_get ws 0) c.self.view_is
