-- A text in which no space was found is one word.
use Rattle.std.proofs.Common.{◌≡◌, MatchOption, None, Some, subst}
use Rattle.ll_publish.proofs.TextLemmas.{one-word}
use Rattle.ll_publish.specs.Lines.{word_alone}
use Rattle.ll_publish.proofs.line.one_word.Goals as goal

pub returns-in-Some : goal.returns-in-Some
returns-in-Some c =
    let text = c.args.text.now in
    subst (λ r. MatchOption r (word_alone (Some text) ≡ Some text) (λ x. word_alone (Some text) ≡ None)) c.in-Some.is
    (one-word text c.split_once.result c.split_once.ensures.cases)

pub returns-in-None : goal.returns-in-None
returns-in-None c =
    let text = c.args.text.now in
    subst (λ r. MatchOption r (word_alone (Some text) ≡ Some text) (λ x. word_alone (Some text) ≡ None)) c.in-None.is
    (one-word text c.split_once.result c.split_once.ensures.cases)
