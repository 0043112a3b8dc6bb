-- One more store of no items.
use Rattle.std.proofs.Common.{ap, ◌++◌, ◌+◌, ◌∙◌, [], drop}
use Rattle.ll_store.proofs.StoresLemmas.{next-empty}
use Rattle.ll_store.specs.Stores.{all_kept, stores, stores_from}
use Rattle.ll_store.proofs.stores.new_stores.Goals as goal

pub loop-name-preserved : goal.loop-name-preserved
loop-name-preserved c =
    let settings = c.args.settings.now in
    let names = c.renditions-names.result.now in
    let k = c.loop-name._name-index in
    ap (λ l. all_kept l ++ stores_from settings [] (k + 1) (drop (k + 1) names)) c.in_ok-push.ensures.items
    ∙ next-empty settings c.loop-name.made.items c.new.result names k (stores settings []) c.loop-name-test.true (c.new.ensures settings) c.loop-name.invariant
