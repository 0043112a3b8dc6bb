-- What `strip_prefix` leaves of a text is what follows the key.
use Rattle.std.proofs.Common.{◌≡◌, ℕ, true, false, List, Option, Some, None, MatchOption, Bor, nat_eq, refl}
use Rattle.std.proofs.lemmas.Bool.Decides.{Decides-eqb}
use Rattle.std.proofs.lemmas.Slice.Eq.{starts_is}
use Rattle.std.proofs.lemmas.Str.Pattern.{starts_text}
use Rattle.std.specs.List.{starts_with}
use Rattle.std.specs.Str.Pattern.{FindsTextPrefix, StripsPrefix}
use Rattle.ll_attr.specs.Words.{after}
use Rattle.ll_attr.proofs.parts.after.Goals as goal

stripped : (key text : List ℕ) (r : Option (Bor (List ℕ))) → MatchOption r (FindsTextPrefix key text None) (λ x. StripsPrefix (FindsTextPrefix key) text x.now)
    → MatchOption r (after key text ≡ None) (λ v. after key text ≡ Some v.now)
stripped key text None h =
    let no : false ≡ starts_with nat_eq text key = starts_text false key text h in
    cc
stripped key text (Some x) h =
    let yes : starts_with nat_eq text key ≡ true = (starts_is Decides-eqb text key _ refl).1 _ h.1.1 in
    rw yes (cc)

pub returns : goal.returns
returns c = stripped c.args.key.now c.args.text.now c.strip_prefix.result c.strip_prefix.ensures.cases
