-- The values stand in the order of their tickets, which rise.
use Rattle.std.proofs.Common.{rules, position, sym, subst, ◌≡◌, ◌∙◌}
use Rattle.std.proofs.lemmas.Fn.{always_returns_same}
use Rattle.std.specs.List.Sorted.{IsBinarySearchResult}
use Rattle.std.specs.Ordering.{nat_cmp}
use Rattle.std.specs.Result.{result_ok}
use Rattle.ll_room.specs.RoomValue.{RoomValue}
use Rattle.ll_room.specs.Ticket.{Ticket}
use Rattle.ll_verdict.specs.Waiting.{IsRising}
use Rattle.ll_hub_channel.specs.Channel.{is_of}
use Rattle.ll_hub_channel.proofs.SearchLemmas.{place-found}
use Rattle.ll_hub_channel.proofs.channel.place_of.Goals as goal

pub returns : goal.returns
returns c =
    let t = c.args.ticket in
    let r = c.binary_search_by_key.result in
    let room = c.args.recorder.now.room in
    let searched = c.binary_search_by_key.ensures.position (λ (p : Ticket). p.ticket) (always_returns_same _ _ _ (λ a r f' k. search rules)) in
    c.ok.ensures.value
    ∙ subst (λ ps. result_ok r ≡ position (is_of t) ps) (sym c.requires.each)
    (place-found room.channel t room.slots r (subst (λ (h : RoomValue). IsRising 0 h.slots) c.room.ensures c.open_requests-open.ensures.rising)
    (subst (λ ps. IsBinarySearchResult (λ (p : Ticket). nat_cmp p.ticket t) ps r) c.requires.each searched))
