-- At its end the loop was given all words.
use Rattle.std.proofs.Common.{◌≡◌, ◌∙◌, ◌∷◌, [], List, ap, length, map, refl, string_bytes}
use Rattle.std.proofs.lemmas.Iterator.Adapters.{YieldsList-from_vec}
use Rattle.std.proofs.lemmas.Iterator.Consumers.{YieldsList-end}
use Rattle.std.specs.Vec.Iter.{into_iter_items, into_iter_len}
use Rattle.ll_run.proofs.words.texts.Goals as goal

all-of : {A : Type 0} (xs : List A) → xs ≡ map (λ y. y) xs
all-of [] = refl
all-of (x ∷ xs) = ap (λ ys. x ∷ ys) (all-of xs)

pub returns : goal.returns
returns c =
    let items = into_iter_items c.args.args in
    let same : c.into_iter-arg-iterator.result ≡ c.args.args = cc in
    let long : into_iter_len c.into_iter-arg-iterator.result ≡ length items = ap (λ it. into_iter_len it) same ∙ c.args.args.rest.ok.0 in
    let t = YieldsList-end (YieldsList-from_vec items (ap (λ it. into_iter_items it) same) long) c.loop-arg.yielded c.loop-arg.arg-iterator c.loop-arg.yielded_by c.next.result c.next.new.self c.in-None.is c.next.ensures.steps in
    c.loop-arg.invariant ∙ ap (map string_bytes) (all-of c.loop-arg.yielded ∙ t.0)
