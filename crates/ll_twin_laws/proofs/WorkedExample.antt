-- The examples, computed: both sides of each equation have the same value.
use Rattle.std.proofs.Common.{refl}
use Rattle.ll_line.specs.Uris.{report_uri}
use Rattle.ll_rendition.specs.Refusal.{rendition_refusal}
use Rattle.ll_verdict.specs.Verdict.{is_there}
use Rattle.ll_twin_laws.specs.Worked.{WorkedOrders, WorkedTwins}

pub worked : WorkedTwins
unfolding report_uri rendition_refusal is_there
worked = record {
  own_in_turn = refl;
  own_in_line = refl;
  own_with_more = refl;
  lasts_in_turn = refl;
  lasts_in_line = refl;
  lasts_with_more = refl;
  report = refl;
  other_report = refl;
  media = refl;
  accepted = refl;
  others_accepted = refl;
  waits = refl;
  also_waits = refl;
  got = refl;
  also_got = refl;
}

pub worked-orders : WorkedOrders
unfolding report_uri rendition_refusal is_there
worked-orders = record {
  accepted = refl;
  others_accepted = refl;
  own_in_turn = refl;
  own_late = refl;
  held_requests = refl;
  also_held = refl;
  got = refl;
  also_got = refl;
  report = refl;
  no_report = refl;
  lines = refl;
  alike = refl;
  got_part = refl;
  also_got_part = refl;
}
