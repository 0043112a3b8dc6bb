-- What a request would get if it were made now, by what is kept.
use Rattle.std.specs.Prelude.{ℕ, List, Option, Some, if◌then◌else◌, option_map}
use Rattle.ll_directive.specs.Files.{is_playlist}
use Rattle.ll_page.specs.Page.{seen_of}
use Rattle.ll_pieces.specs.View.{Paged}
use Rattle.ll_store.specs.Stores.{media_at}
use Rattle.ll_verdict.specs.Verdict.{piece_of}
use Rattle.ll_verdict.specs.declared.reply.Reply.{Reply}
use Rattle.ll_verdict.specs.declared.reply.Reply.TheVariants as now
use Rattle.ll_verdict.specs.declared.wanted.Wanted.{Wanted}
use Rattle.ll_presentation.specs.PresentationValue.{PresentationValue, moment}

-- the playlist or delta update as it is now
abbrev pub page_now : PresentationValue → Wanted → Paged
page_now p a = record { seen = seen_of (moment p) a.rendition; form = a.form }

-- the bytes of the requested media as they are now, if it is there
abbrev pub media_here : PresentationValue → Wanted → Option (List ℕ)
media_here p a = media_at p.renditions p.stores a.rendition a.what

-- the requested playlist or media as it is now, if it is there
abbrev pub reply_here : PresentationValue → Wanted → Option Reply
reply_here p a = if is_playlist a.what then Some (now.Text (page_now p a)) else option_map (λ bytes. now.Media (piece_of p.count a bytes)) (media_here p a)
