-- A store is made for each rendition in turn.
use Rattle.std.proofs.Common.{◌≡◌, ◌++◌, [], drop}
use Rattle.ll_store.specs.Stores.{all_kept, stores, stores_from}
use Rattle.ll_store.proofs.stores.new_stores.Given as goal

-- the stores so far and those of the names that are left are all of them
abbrev pub invariant-loop-name : goal.invariant-loop-name
invariant-loop-name l =
    all_kept l.made.items ++ stores_from l.settings [] l._name-index (drop l._name-index l.names) ≡ stores l.settings []
