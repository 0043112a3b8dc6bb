-- A variant that is too large is one of all, and so is one that is left.
use Rattle.std.proofs.Common.{rules, ◌≡◌, ◌∷◌, ◌&&◌, false, arith}
use Rattle.std.proofs.lemmas.Grind.{common_steps}
use Rattle.ll_variants.proofs.AnyLemmas.{any-in, any-more}
use Rattle.ll_variants.specs.Playlists.{IsLargeVariant, is_sound, variant_rates}
use Rattle.ll_variants.specs.Rates.{AreLarge}
use Rattle.ll_variants.proofs.playlist.push_variants.Goals as goal
use Rattle.ll_variants.proofs.playlist.push_variants.Goals.{then-grouped, else-grouped}

pub returns-in_err-push_variant-clause-large : goal.returns-in_err-push_variant-clause-large
returns-in_err-push_variant-clause-large c = λ is.
    let left : c.streams.left.now ≡ c.in-Some.stream.now ∷ c.in-Some.more.now = search rules in
    let variant : (c.args.grouped && is_sound c.in-Some.stream.now) ≡ false = elim c.if-grouped.branch [ then-grouped w ↦ search rules | else-grouped w ↦ search rules ] in
    let large : AreLarge (variant_rates c.args.grouped c.args.streams.now c.in-Some.stream.now) = search rules in
    any-in (IsLargeVariant c.args.grouped c.args.streams.now) c.args.streams.now c.streams.left.now c.in-Some.stream.now c.in-Some.more.now left c.streams.invariant.among (variant, large)

pub streams-preserved-in_ok-push_variant : goal.streams-preserved-in_ok-push_variant
streams-preserved-in_ok-push_variant c =
    let left : c.streams.left.now ≡ c.in-Some.stream.now ∷ c.in-Some.more.now = search rules in
    record {
      text = elim c.if-grouped.branch [ then-grouped w ↦ grind (arith, common_steps) | else-grouped w ↦ grind (arith, common_steps) ];
      among = any-more (IsLargeVariant c.args.grouped c.args.streams.now) c.args.streams.now c.streams.left.now c.in-Some.stream.now c.in-Some.more.now left c.streams.invariant.among;
    }

pub streams-preserved : goal.streams-preserved
streams-preserved c =
    let left : c.streams.left.now ≡ c.in-Some.stream.now ∷ c.in-Some.more.now = search rules in
    record {
      text = elim c.if-grouped.branch [ then-grouped w ↦ grind (arith, common_steps) | else-grouped w ↦ grind (arith, common_steps) ];
      among = any-more (IsLargeVariant c.args.grouped c.args.streams.now) c.args.streams.now c.streams.left.now c.in-Some.stream.now c.in-Some.more.now left c.streams.invariant.among;
    }
