-- The map gives the place of the first channel of a name.
use Rattle.std.proofs.Common.{◌<◌, ◌∙◌, List, Some, ap, arith, get_or, length, sym, subst}
use Rattle.std.proofs.lemmas.Bool.Decides.{nat_tests}
use Rattle.std.proofs.lemmas.Option.{get_or_from_slice_get, slice_get_within}
use Rattle.ll_settings.specs.Settings.{Configuration}
use Rattle.ll_settings.specs.Channels.{channel_of_name}
use Rattle.ll_settings.proofs.ChannelLemmas.{found-at}
use Rattle.ll_settings.proofs.channels.Channels.find.Goals as goal

pub returns-in_err-settings : goal.returns-in_err-settings
returns-in_err-settings c =
    let f = found-at c.self.inside.places.entries c.self.inside.all.items c.args.name.now c.in_ok-place.field-0.now c.self.invariant (sym c.in_ok-place.ensures.value) in
    let within : c.in_ok-place.field-0.now < length c.deref.result.now = subst (λ ks. c.in_ok-place.field-0.now < length ks) (sym c.deref.ensures.value) (slice_get_within c.self.inside.all.items c.in_ok-place.field-0.now f.0 f.1) in
    absurd (grind (arith, nat_tests, c.in_err-settings.ensures.lookup))

pub returns : goal.returns
returns c =
    let all = c.self.inside.all.items in
    let place = c.in_ok-place.field-0.now in
    let settings = c.in_ok-settings.settings.now in
    let f = found-at c.self.inside.places.entries all c.args.name.now place c.self.invariant (sym c.in_ok-place.ensures.value) in
    let is = c.in_ok-settings.ensures.lookup.1 ∙ ap (λ (cs : List Configuration). get_or cs place settings) c.deref.ensures.value ∙ get_or_from_slice_get all place f.0 settings f.1 in
    ap (λ (cs : List Configuration). channel_of_name cs 0 c.args.name.now) (sym c.self.view_is) ∙ f.2
    ∙ ap (λ (s : Configuration). Some (place, s)) (sym is)
