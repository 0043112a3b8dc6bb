-- A trimmed member is compared in either case of letters.
use Rattle.std.proofs.Common.{◌≡◌, ◌∙◌, refl, ap, codes, rules}
use borrow.Author.Tests.{tests}
use Rattle.std.specs.Str.{str_eq_ignore_ascii_case}
use Rattle.std.proofs.lemmas.Str.Ascii.{trim_ascii_is}
use Rattle.ll_wire.proofs.fields.is_close.Goals as goal

pub returns : goal.returns
returns c =
    let same : c.eq_ignore_ascii_case.result ≡ str_eq_ignore_ascii_case c.trim_ascii.result.now (codes "close") = search (rules, tests) in
    same ∙ ap (λ t. str_eq_ignore_ascii_case t (codes "close")) (trim_ascii_is _ _ _ refl c.trim_ascii.ensures.value)
