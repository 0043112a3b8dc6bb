-- The store at the place reserves memory and keeps what it kept; if there is no store, there is nothing to reserve.
use Rattle.std.proofs.Common.{refl, ap, length, true}
use Rattle.std.proofs.lemmas.Option.{slice_get_past, slice_get_read}
use Rattle.std.specs.Option.{option_map_or}
use Rattle.ll_store.proofs.StoresLemmas.{gone, made-ready, same-kept}
use Rattle.ll_store.specs.Stock.{Stock}
use Rattle.ll_store.proofs.stores.reserve_at.Goals as goal

pub returns-in-Some-clause-unchanged : goal.returns-in-Some-clause-unchanged
returns-in-Some-clause-unchanged c =
    let v = c.args.stores.now in
    same-kept v.items c.args.place c.in-Some.store.now c.reserve.new.self
    (slice_get_read v.items _ c.args.place c.in-Some.store.now v.ok.0 (c.in-Some.ensures.variant.0 refl) c.in-Some.ensures.value)
    c.reserve.ensures.unchanged

pub returns-in-Some-clause-ready : goal.returns-in-Some-clause-ready
returns-in-Some-clause-ready c =
    let v = c.args.stores.now in
    made-ready c.reserve.result v.items c.args.place c.in-Some.store.now c.reserve.new.self
    (slice_get_read v.items _ c.args.place c.in-Some.store.now v.ok.0 (c.in-Some.ensures.variant.0 refl) c.in-Some.ensures.value)
    c.reserve.ensures.ready

pub returns-in-None-clause-ready : goal.returns-in-None-clause-ready
returns-in-None-clause-ready c =
    let v = c.args.stores.now in
    ap (λ o. option_map_or (λ (s : Stock). s.ready) o true) (slice_get_past v.items c.args.place (gone c.args.place v.len (length v.items) v.ok.0 c.in-None.ensures.variant.1))
