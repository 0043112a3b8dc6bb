-- The first id and the others after their tabs are all of them, joined.
use Rattle.std.proofs.Common.{◌++◌, string_bytes, ap, ◌∙◌}
use Rattle.std.proofs.lemmas.Result.{on_ok_weaker}
use Rattle.ll_line.proofs.SkipLemmas.{pushed}
use Rattle.ll_line.proofs.skip.push_ids.Goals as goal

pub returns-in_ok-push_str-in-Some : goal.returns-in_ok-push_str-in-Some
returns-in_ok-push_str-in-Some c =
    on_ok_weaker c.push_after_tabs.result
    (pushed _ _ _ _ _ _ c.in-Some.ensures.cases.0 ((c.in_ok-push_str-in-Some.ensures).bytes ∙ ap (λ text. string_bytes c.args.text.now ++ text) c.as_str.ensures)) c.push_after_tabs.ensures
