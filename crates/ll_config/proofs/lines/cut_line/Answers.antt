-- The first line ends at the first LF, or with the file.
use Rattle.std.proofs.Common.{◌+◌, ◌-◌, [], ◌∷◌, ap, drop, length, sym, take, ◌∙◌}
use Rattle.ll_config.proofs.LineLemmas.{cut-none, cut-some}
use Rattle.ll_config.specs.Config.{file_lines}
use Rattle.ll_config.proofs.lines.cut_line.Goals as goal

pub returns-in-Some-clause-lines : goal.returns-in-Some-clause-lines
returns-in-Some-clause-lines c =
    let end = c.in-Some.end in
    let bytes = c.args.bytes.now in
    cut-some bytes end c.in-Some.ensures ∙ ap (λ line. line ∷ file_lines (take (length bytes - (end + 1)) (drop (end + 1) bytes))) (sym c.without_return.ensures)

pub returns-in-None-clause-lines : goal.returns-in-None-clause-lines
returns-in-None-clause-lines c =
    cut-none c.args.bytes.now c.in-None.ensures c.requires ∙ ap (λ line. line ∷ []) (sym c.without_return-in-None.ensures)
