-- With the same items of a rendition its playlists and delta updates are the same but for reports, and all else of a reply is.
use Rattle.std.proofs.Common.{◌≡◌, inl, inr, ℕ, List, Bool, true, false, Option, None, Some, refl, ap, ap₂, sym, subst, ◌∙◌, if◌then◌else◌, length}
use Rattle.ll_directive.specs.Files.{is_playlist}
use Rattle.ll_item.specs.declared.item.Item.{Item}
use Rattle.ll_item.specs.declared.skip_kind.SkipKind.{SkipKind}
use Rattle.ll_line.specs.Spelling.{spelling}
use Rattle.ll_pieces.specs.View.{seen, unless_none}
use Rattle.ll_settings.specs.Settings.{Configuration}
use Rattle.ll_store.specs.Media.{media}
use Rattle.ll_verdict.specs.Verdict.{given, is_there, media_of, media_or_none, page_of, reply_with}
use Rattle.ll_verdict.specs.declared.reply.Settled.{Settled}
use Rattle.ll_verdict.specs.declared.reply.Settled.TheVariants.{Text, Timeout}
use Rattle.ll_verdict.specs.declared.wanted.Wanted.{Wanted}
use Rattle.ll_window.specs.Compact.{skip_count}
use Rattle.ll_window.specs.Segments.{own}
use Rattle.ll_twin_laws.proofs.TextProof.{asked_same, playlist_is, playlist_with, reports-alone, text_is}
use Rattle.ll_twin_laws.specs.Own.{AreAlike, IsAlike, page_after}

-- ---- playlists

pub pages-alike : (c : Configuration) (list other : List Item) (r : ℕ) (form : Option SkipKind) → own r list ≡ own r other
    → AreAlike (page_after c list r form) (page_after c other r form)
pages-alike c list other r form same =
    let v = seen c list r in
    let w = seen c other r in
    record {
      form = refl;
      update = ap (λ k. unless_none (skip_count k.window) form) (asked_same c list other r same);
      text = text_is form v;
      other_text = text_is form w;
      lines = (reports-alone c list other r form same).same;
      same = λ reports.
          text_is form v
          ∙ ap spelling (playlist_is form v ∙ ap₂ (playlist_with form c) reports (asked_same c list other r same) ∙ sym (playlist_is form w))
          ∙ sym (text_is form w);
    }

-- ---- replies

media_alike : (a : Wanted) (n m : ℕ) (bytes : Option (List ℕ)) → IsAlike (media_or_none n a bytes) (media_or_none m a bytes)
media_alike a n m (Some bytes) = record { status = refl; name = refl; all = inr (inl (record { piece = _; number = m; is = refl; other_is = refl })) }
media_alike a n m None = record { status = refl; name = refl; all = inr (inr (refl, refl)) }

given_alike : (c : Configuration) (list other : List Item) (a : Wanted) (playlist : Bool) → own a.rendition list ≡ own a.rendition other
    → IsAlike (if playlist then Text (page_of c list a) else media_or_none (length list) a (media_of c list a))
    (if playlist then Text (page_of c other a) else media_or_none (length other) a (media_of c other a))
given_alike c list other a true same = record {
  status = refl;
  name = refl;
  all = inl (record {
    page = page_of c list a;
    other = page_of c other a;
    is = refl;
    other_is = refl;
    alike = pages-alike c list other a.rendition a.form same;
  });
}
given_alike c list other a false same =
    subst (λ bytes. IsAlike (media_or_none (length list) a (media_of c list a)) (media_or_none (length other) a bytes)) (ap (λ xs. media c xs a.what) same)
    (media_alike a (length list) (length other) (media_of c list a))

there_alike : (x y : Settled) (b d : Bool) → b ≡ true → d ≡ true → IsAlike x y → IsAlike (if b then x else Timeout) (if d then y else Timeout)
there_alike x y true true h k alike = alike
there_alike x y true false h k alike = absurd (cc)
there_alike x y false d h k alike = absurd (cc)

-- the replies to a request by items of the channel of which the same are of its rendition
pub replies-alike : (c : Configuration) (list other : List Item) (a : Wanted) → own a.rendition list ≡ own a.rendition other
    → is_there c list a ≡ true → is_there c other a ≡ true → IsAlike (reply_with c list a) (reply_with c other a)
replies-alike c list other a same there also =
    there_alike (given (length list) a (page_of c list a) (media_of c list a)) (given (length other) a (page_of c other a) (media_of c other a))
    (is_there c list a) (is_there c other a) there also (given_alike c list other a (is_playlist a.what) same)
