-- What becomes of a line whose channel is known.
use Rattle.std.proofs.Common.{◌≡◌, ◌∙◌, ℕ, List, None, Some, ap, sym}
use Rattle.ll_door.specs.Doors.{secret_in}
use Rattle.ll_publish.specs.Line as says
use Rattle.ll_publisher.specs.Doors.{Origin, Passage, is_open, passage, passage_at, passage_by, secret_at}
use Rattle.ll_settings.specs.Channels.{channel_of_name}
use Rattle.ll_settings.specs.Settings.{Configuration}

pub passage_of_item : (o : Origin) (opened name text media : List ℕ) (place : ℕ) (c : Configuration) (p : Passage) → channel_of_name o.channels 0 name ≡ Some (place, c)
    → p ≡ passage_by (secret_at o.secrets place) (secret_in text) (is_open opened place) place → p ≡ passage o opened (says.Item name text media)
passage_of_item o opened name text media place c p known is = is ∙ ap (passage_at o.secrets opened (secret_in text)) (sym known)

pub passage_of_place : (o : Origin) (opened name rendition : List ℕ) (place : ℕ) (c : Configuration) (p : Passage) → channel_of_name o.channels 0 name ≡ Some (place, c)
    → p ≡ passage_by (secret_at o.secrets place) None (is_open opened place) place → p ≡ passage o opened (says.At name rendition)
passage_of_place o opened name rendition place c p known is = is ∙ ap (passage_at o.secrets opened None) (sym known)
