-- A removal of the same id is gone, so the new one comes after the others.
use Rattle.std.proofs.Common.{◌≡◌, ◌++◌, [], ◌∷◌, map, ap, sym, subst, ◌∙◌}
use Rattle.std.specs.Result.{OnOk}
use Rattle.indexmap.specs.IndexMap.{shift_remove_entry}
use Rattle.ll_item.specs.Told.{other_removals}
use Rattle.ll_range.specs.Kept.{removal_at}
use Rattle.ll_range.proofs.Entries.{has_id, removal_put}
use Rattle.ll_range.proofs.changes.note.Goals as goal
use Rattle.ll_range.proofs.changes.note.Goals.{in-Ok, in-Err}

pub returns-clause-ok : goal.returns-clause-ok
returns-clause-ok c =
    let noted : Type 0 =
    map removal_at c.insert.new.self.entries
    ≡ other_removals c.args.id.now (map removal_at c.args.recent.now.entries) ++ (record { id = c.args.id.now; removed = c.args.removed }) ∷ [] in
    elim c.match-insert.branch [
      | in-Ok w ↦
          subst (λ r. OnOk r noted) (sym w.result-is)
          (removal_put c.args.recent.now.entries c.shift_remove.new.self _ c.in_ok-key.key c.args.removed c.args.id.now c.in_ok-key.ensures.ok
          (c.shift_remove.ensures.entries ∙ ap (shift_remove_entry (has_id c.args.id.now)) c.in_ok-reserve.ensures.entries) c.shift_remove.ensures.updates.1 w.in-Ok.ensures.entries)
      | in-Err w ↦ subst (λ r. OnOk r noted) (sym w.result-is) tt
    ]
