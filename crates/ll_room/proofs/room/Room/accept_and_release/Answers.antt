-- There is one reply for each request that a release takes, and each of these gets it.
use Rattle.std.proofs.Common.{Option, ap, ap₂, map, subst, sym, ◌∙◌}
use Rattle.std.specs.Prelude.{slice_index_or}
use Rattle.ll_rendition.specs.declared.rendition.Rendition.{Rendition}
use Rattle.ll_book.specs.Release.{Supply}
use Rattle.ll_book.specs.Releases.{part_of}
use Rattle.ll_book.specs.declared.release.Release.{Release}
use Rattle.ll_page_cache.specs.Pages.{PagesOf}
use Rattle.ll_presentation.specs.Items.{HasTaken}
use Rattle.ll_room.specs.Freed.{AreApart}
use Rattle.ll_room.specs.RoomValue.{presentation_in}
use Rattle.ll_room.specs.contracts.room.Room.{the_view}
use Rattle.ll_room.proofs.KeptLemmas.{few-events, free-few}
use Rattle.ll_room.proofs.PublishLemmas.{apart, has-holders, has-those, has-those-after, kept-item, part-got, released-item, same-tickets, slots-released}
use Rattle.ll_verdict.specs.Waiting.{ticket_in}
use Rattle.ll_room.proofs.room.Room.accept_and_release.Goals as goal

pub release_with-requires : goal.release_with-requires
release_with-requires c =
    let supply : Supply = record { pages = c.in_ok-pages.pages; part = c.in_ok-part.part } in
    record { those = has-those supply c.args.first c.self.inside.book c.in_ok-replies.replies.0 (has-holders supply c.args.first (the_view c.self.inside) c.args.self.now _ c.self.view_is c.in_ok-replies.ensures.first) }

pub release_with-requires-2 : goal.release_with-requires-2
release_with-requires-2 c =
    let supply : Supply = record { pages = c.in_ok-pages.pages; part = c.in_ok-part.part } in
    record {
      those =
          has-those-after supply (c.args.first, c.args.second) c.self.inside.book c.release_with.new.book c.in_ok-replies.replies.0 c.in_ok-replies.replies.1
          (subst AreApart (sym c.requires.releases) (apart c.args.self.now c.args.item.now)) (has-holders supply c.args.first (the_view c.self.inside) c.args.self.now _ c.self.view_is c.in_ok-replies.ensures.first) (has-holders supply c.args.second (the_view c.self.inside) c.args.self.now _ c.self.view_is c.in_ok-replies.ensures.second) c.release_with.ensures;
    }

pub returns-clause-goes_on : goal.returns-clause-goes_on
returns-clause-goes_on c = subst (λ x. HasTaken (presentation_in x) c.put.new.self c.args.item.now) c.self.view_is c.in_ok-put.ensures.accepted

pub returns-clause-accepted : goal.returns-clause-accepted
returns-clause-accepted c =
    let h = the_view c.self.inside in
    let now = c.args.self.now in
    let i = c.args.item.now in
    let both : Option Release × Option Release = (c.args.first, c.args.second) in
    let supply : Supply = record { pages = c.in_ok-pages.pages; part = c.in_ok-part.part } in
    released-item h now c.put.new.self i both supply c.release_with-2.new.book c.self.view_is c.requires.releases
    (c.in_ok-put.ensures.shown ∙ ap (λ (p : PagesOf). p.moment) c.holders_for_both.ensures.pages) c.in_ok-pages.ensures.rendition
    (part-got h now i c.index-renditions-rendition.result c.in_ok-part.part c.self.view_is c.requires.allowed
    (c.index-renditions-rendition.is ∙ ap₂ (λ ks r. slice_index_or ks r c.index-renditions-rendition.result) c.renditions.ensures c.rendition.ensures)
    (c.in_ok-part.ensures ∙ ap (λ (k : Rendition). part_of k.window i) (sym c.index-renditions-rendition.is)))
    (slots-released supply both c.self.inside.book c.release_with.new.book c.release_with-2.new.book c.in_ok-replies.replies.0 c.in_ok-replies.replies.1
    (subst AreApart (sym c.requires.releases) (apart now i)) (has-holders supply c.args.first (the_view c.self.inside) c.args.self.now _ c.self.view_is c.in_ok-replies.ensures.first) (has-holders supply c.args.second (the_view c.self.inside) c.args.self.now _ c.self.view_is c.in_ok-replies.ensures.second) c.release_with.ensures c.release_with-2.ensures)

pub invariant_of-self-2 : goal.invariant_of-self-2
invariant_of-self-2 c =
    let h = the_view c.self.inside in
    let now = c.args.self.now in
    let i = c.args.item.now in
    let on = c.in_ok-put.ensures.accepted in
    let both : Option Release × Option Release = (c.args.first, c.args.second) in
    let supply : Supply = record { pages = c.in_ok-pages.pages; part = c.in_ok-part.part } in
    let slots = slots-released supply both c.self.inside.book c.release_with.new.book c.release_with-2.new.book c.in_ok-replies.replies.0 c.in_ok-replies.replies.1
    (subst AreApart (sym c.requires.releases) (apart now i)) (has-holders supply c.args.first (the_view c.self.inside) c.args.self.now _ c.self.view_is c.in_ok-replies.ensures.first) (has-holders supply c.args.second (the_view c.self.inside) c.args.self.now _ c.self.view_is c.in_ok-replies.ensures.second) c.release_with.ensures c.release_with-2.ensures in
    kept-item h c.put.new.self c.release_with-2.new.book (few-events h now c.self.view_is (free-few now i c.requires.allowed)) c.self.invariant on.settings on.count
    (ap (map ticket_in) slots ∙ same-tickets supply both c.self.inside.book)
