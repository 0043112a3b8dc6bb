-- The first name, and then the others, each after a comma, are all of them joined.
use Rattle.std.proofs.Common.{◌++◌, ◌∷◌, flat_map, string_bytes, ap, ◌∙◌}
use Rattle.ll_entry.proofs.Written.{none, joined}
use Rattle.ll_entry.proofs.settings.joined_names.Goals as goal
use Rattle.ll_entry.proofs.settings.joined_names.Goals.{in-Some+in_ok-push_str+in_ok-push_after_commas, in_default}

pub returns : goal.returns
returns c = elim c.match-split_first.branch [
  | in-Some+in_ok-push_str+in_ok-push_after_commas w ↦
      c.from_string.ensures ∙ ap string_bytes w.text-is ∙ w.in_ok-push_after_commas.ensures
      ∙ ap (λ text. text ++ flat_map (λ name. 44 ∷ name) w.in-Some.more.now)
      (w.in_ok-push_str.ensures.bytes ∙ ap (λ text. text ++ w.as_str.result.now) c.new-text.ensures.bytes ∙ w.as_str.ensures)
      ∙ joined w.in-Some.first.now w.in-Some.more.now c.args.names.now w.in-Some.ensures.cases.0
  | in_default w ↦ c.from_string.ensures ∙ ap string_bytes w.text-is ∙ c.new-text.ensures.bytes ∙ none c.args.names.now w.in_default.ensures.cases
]
