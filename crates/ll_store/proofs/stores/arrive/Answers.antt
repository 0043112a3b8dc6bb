-- The store of the item's rendition changes, and the others stay; if there is none, all stay.
use Rattle.std.proofs.Common.{refl, ap, ap₂, sym, ◌∙◌, length}
use Rattle.std.proofs.lemmas.Option.{slice_get_past, slice_get_read}
use Rattle.std.specs.Prelude.{slice_set}
use Rattle.ll_store.proofs.StoresLemmas.{gone, map-got, map-past, map-set, nowhere}
use Rattle.ll_store.specs.Stores.{all_kept, kept_in, with_by}
use Rattle.ll_store.proofs.stores.arrive.Goals as goal

pub returns-in-Some-get_mut : goal.returns-in-Some-get_mut
returns-in-Some-get_mut c =
    let v = c.args.stores.now in
    let a = c.args.arrival in
    let there = slice_get_read v.items _ a.rendition c.in-Some-get_mut.store.now v.ok.0 (c.in-Some-get_mut.ensures.variant.0 refl) c.in-Some-get_mut.ensures.value in
    map-set kept_in v.items a.rendition c.accept.new.self
    ∙ ap (slice_set (all_kept v.items) a.rendition) c.accept.ensures
    ∙ sym (ap₂ (λ k s. with_by a k s (all_kept v.items)) (slice_get_read c.args.renditions.now _ a.rendition c.in-Some.kept.now refl c.in-Some.ensures.lookup.3.0 c.in-Some.ensures.lookup.1) (map-got kept_in v.items a.rendition c.in-Some-get_mut.store.now there))

pub returns-in_default-get_mut : goal.returns-in_default-get_mut
returns-in_default-get_mut c =
    let v = c.args.stores.now in
    let a = c.args.arrival in
    let past = gone a.rendition v.len (length v.items) v.ok.0 c.in_default-get_mut.ensures.variant.1 in
    sym (nowhere a _ (all_kept v.items) (map-past kept_in v.items a.rendition (slice_get_past v.items a.rendition past)))
