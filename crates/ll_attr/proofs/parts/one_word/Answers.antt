-- A text has at least one word, so one in which a space was found has at least two.
use Rattle.std.proofs.Common.{◌∙◌, ap, ◌∷◌}
use Rattle.ll_attr.proofs.Joined.{some_word}
use Rattle.ll_attr.proofs.parts.one_word.Goals as goal

pub returns-in-Some : goal.returns-in-Some
returns-in-Some c =
    let first = c.in-Some.field-0.0.now in
    let rest = some_word c.in-Some.field-0.1.now in
    (first, rest.0, rest.1, c.in-Some.ensures.parts ∙ ap (λ ws. first ∷ ws) rest.2)
