-- The law on texts comes from the law on playlists: what was published is read back from its text.
use Rattle.std.proofs.Common.{List, [], ◌∷◌, ◌++◌, refl}
use Rattle.ll_settings.specs.Settings.{Configuration}
use Rattle.ll_item.specs.declared.item.Item.{Item}
use Rattle.ll_page.specs.Delta.{delta_playlist}
use Rattle.ll_page.specs.Full.{full_playlist}
use Rattle.ll_pieces.specs.View.{seen}
use Rattle.ll_item.specs.declared.skip_kind.SkipKind.{SkipKind}
use Rattle.ll_item.specs.declared.skip_kind.SkipKind.TheVariants.{Yes, V2}
use Rattle.ll_read.proofs.PlaylistBack.{reads-back}
use Rattle.ll_apply.proofs.AppliedTexts.{by-playlists}
use Rattle.ll_laws.specs.Laws.{TextLaw}
use Rattle.ll_laws.specs.Published.{AreAcceptedFor, ArePublished}
use Rattle.ll_laws.proofs.CompanionProof.{companion}
use Rattle.ll_laws.proofs.RangeItems.{accepted, all-announced}
use Rattle.ll_laws.proofs.ReadableProof.{readable}

-- the first of items that were published were so without the others
first_published : (c : Configuration) (before items more : List Item) → ArePublished c before (items ++ more) → ArePublished c before items
first_published c before [] more h = tt
first_published c before (i ∷ items) more h = (h.0, h.1, h.2, first_published c (before ++ i ∷ []) items more h.3)

accepted_for : (kind : SkipKind) (c : Configuration) (items : List Item) → ArePublished c [] items → AreAcceptedFor kind c items
accepted_for Yes c items h = accepted c [] items h
accepted_for V2 c items h = (accepted c [] items h, all-announced c [] items h)

pub text : TextLaw
text c items more r kind within is_one published recent =
    let u = full_playlist (seen c items r) in
    let d = delta_playlist kind (seen c (items ++ more) r) in
    by-playlists u d (full_playlist (seen c (items ++ more) r))
    (reads-back u (readable c items r kind within is_one (first_published c [] items more published)).0) refl
    (reads-back d (readable c (items ++ more) r kind within is_one published).1)
    (companion c items more r kind is_one within.skip_low (accepted_for kind c (items ++ more) published) recent)
