-- Where the messages go on.
use Rattle.std.proofs.Common.{◌≡◌, true, false, List, [], ◌∷◌, Option, Some, ap, sym, subst, ◌∙◌}
use Rattle.ll_announce.specs.Messages.{MessageValue}
use Rattle.ll_announce.specs.Places.{led}
use Rattle.ll_announce.specs.declared.place.Place.{Place}
use Rattle.ll_pair.specs.Carrying.{Accepted, HasResumed, Here, IsResumed}
use Rattle.ll_pair.specs.Coming.{IsFirst, IsFirstOf, IsKept, IsLetGo}
use Rattle.ll_pair.specs.declared.coming.First.{First}
use Rattle.ll_pair.specs.declared.coming.First.TheVariants as first
use Rattle.ll_pair.specs.declared.progress.Progress.{Progress}
use Rattle.ll_pair.proofs.SentLemmas.{first-by, kept-by, let-go-by}

-- with the first that comes
pub resumed-here : (p : Progress) (place : Place) (messages : List MessageValue) (left : Option (List MessageValue)) → p.place ≡ place → left ≡ Some messages → HasResumed p place messages p left
resumed-here p place messages left here told = record { known = []; rest = messages; is_left = told; resumed = Here messages here }

-- after the first, which was let go of
pub resumed-after : (p : Progress) (place after : Place) (messages : List MessageValue) (left new newer : Option (List MessageValue)) (x : First) (message : MessageValue)
    → (p.place ≡ place → ⊥) → p.tried ≡ true → led p.place message.said ≡ after → after ≡ place → left ≡ Some messages → IsFirst left x → x ≡ first.Message message → IsKept left new
    → IsLetGo new newer → HasResumed p place messages (record { place = after; tried = false }) newer
resumed-after p place after messages left new newer x message apart tried leads same told comes is kept gone =
    let one : IsFirstOf messages message = first-by left messages x (first.Message message) told comes is in
    record {
      known = message ∷ [];
      rest = one.0;
      is_left = let-go-by new newer message one.0 (kept-by left new messages told kept ∙ ap Some one.1) gone;
      resumed =
          subst (λ at. IsResumed p place messages (message ∷ []) one.0 (record { place = at; tried = false })) (sym same)
          (subst (λ l. IsResumed p place l (message ∷ []) one.0 (record { place = place; tried = false })) (sym one.1)
          (Accepted message one.0 apart tried (leads ∙ same)));
    }
