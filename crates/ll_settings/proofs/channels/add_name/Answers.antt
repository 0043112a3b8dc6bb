-- A name that the map lacks goes last, and another changes nothing.
use Rattle.std.proofs.Common.{◌≡◌, None, ap, is_some, string_bytes, sym, true, ◌∙◌}
use Rattle.std.specs.String.{string_eq}
use Rattle.indexmap.proofs.CallerLemmas.{insert_entry-new}
use Rattle.ll_settings.specs.ChannelPlaces.{place_in}
use Rattle.ll_settings.proofs.ChannelLemmas.{place-none, place-pushed, place-stays}
use Rattle.ll_settings.proofs.channels.add_name.Goals as goal
use Rattle.ll_settings.proofs.channels.add_name.Goals.{in-Ok, in-Err}

pub returns-then-contains_key-clause-added : goal.returns-then-contains_key-clause-added
returns-then-contains_key-clause-added c n =
    let there : is_some (place_in c.args.places.now.entries (string_bytes c.args.name)) ≡ true =
    ap (λ m. is_some (place_in c.args.places.now.entries m)) (sym c.as_str.ensures.value) ∙ sym c.if-contains_key.ensures in
    place-stays c.args.places.now.entries (string_bytes c.args.name) c.args.place n there

pub returns-clause-added : goal.returns-clause-added
returns-clause-added c =
    let none : place_in c.args.places.now.entries (string_bytes c.args.name) ≡ None =
    ap (place_in c.args.places.now.entries) (sym c.as_str.ensures.value) ∙ place-none (place_in c.args.places.now.entries c.as_str.result.now) c.if-contains_key.ensures in
    elim c.match-insert.branch [
      | in-Ok w ↦ rw w.result-is (λ n.
          ap (λ es. place_in es n) (w.in-Ok.ensures.entries ∙ insert_entry-new string_eq c.args.places.now c.args.name c.args.place none)
          ∙ place-pushed c.args.places.now.entries c.args.name c.args.place n)
      | in-Err w ↦ rw w.result-is tt
    ]
