-- A request has two words, so one in whose second part a space was found is none.
use Rattle.std.proofs.Common.{sym, ◌∙◌, ap}
use Rattle.ll_script.specs.Lines as spec
use Rattle.ll_script.proofs.ReadingLemmas.{get_of-more}
use Rattle.ll_script.proofs.reading.get_words.Goals as goal

pub returns-then-is_some : goal.returns-then-is_some
returns-then-is_some c = λ channels.
    let id = c.in_ok-id in
    let more = get_of-more channels c.args.last id.id.now id.target.now c.cut-2.result c.cut-2.ensures.parts (sym c.if-is_some.ensures) in
    ap (spec.get_of channels c.args.last) id.ensures.parts ∙ more
