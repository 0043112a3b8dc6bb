-- An answer is read in some reads.
use Rattle.std.proofs.Common.{◌≡◌, ◌⊎◌, inl, inr, ℕ, ◌+◌, ◌-◌, ◌<◌, ◌≤◌, List, [], ◌∷◌, ◌++◌, Result, Ok, Err, MatchResult, IsErrAnd, ap, ap₂, sym, subst, ◌∙◌, take, drop, length, slice_index_or, arith}
use Rattle.std.proofs.Math.Seq.{take-add}
use Rattle.std.proofs.lemmas.List.{length-take-le, take-append-le, take_more}
use lib.Seq.{drop-append_seam}
use Rattle.ll_device.specs.Inward.{Inward, looked_at}
use Rattle.ll_device.proofs.InwardLemmas.{looked_at-on}
use Rattle.ll_push.specs.Answers.{IsSaid, IsUnsaid, ended}
use Rattle.ll_push.specs.Exchanges.{HasCome, HasStopped, IsAnswered, LinkValue}
use Rattle.ll_push.specs.declared.answer.Answer.{Answer}
use Rattle.ll_push.specs.declared.answer.NoAnswer.{NoAnswer}
use Rattle.ll_push.specs.declared.answer.NoAnswer.TheVariants.{Lost, Bad, Memory}
use borrow.Rule.Slice.PartMut.{post_of, put_mid, take_put}

-- what stands first after a read: what stood there, and what came
pub put-taken : (line buf : List ℕ) (len k n : ℕ) → len ≤ length line → n ≤ length buf → take (len + n) (put_mid len k line buf) ≡ take len line ++ take n buf
put-taken line buf len k n h m =
    let rest = buf ++ post_of len k line in
    let dropped : drop len (take len line ++ rest) ≡ rest =
    ap (λ j. drop j (take len line ++ rest)) (sym (length-take-le len line h)) ∙ drop-append_seam (take len line) rest in
    take-add len n (take len line ++ rest) ∙ ap₂ (λ a b. a ++ take n b) (take_put len k line buf h) dropped
    ∙ ap (λ l. take len line ++ l) (take-append-le n buf (post_of len k line) m)

-- one more read
pub come-more : (first mid last : Inward) (line buf : List ℕ) (len k n : ℕ) → len ≤ length line → n ≤ length buf → HasCome (take len line) first mid
    → last ≡ looked_at 1 0 (take n buf) mid → HasCome (take (len + n) (put_mid len k line buf)) first last
come-more first mid last line buf len k n h m come more = (
  come.0 + 1,
  looked_at-on first mid last come.0 0 1 0 (take len line) (take n buf) come.1 more
      ∙ ap (λ came. looked_at (come.0 + 1) 0 came first) (sym (put-taken line buf len k n h m)),
)

-- what came ends by LF
pub ends-by : (text : List ℕ) (len d : ℕ) → 0 < len → len ≤ length text → slice_index_or text (len - 1) d ≡ 10 → take len text ≡ ended (take (len - 1) text)
ends-by text len d some within lf =
    let one : (len - 1) + 1 ≡ len = omega (arith, some) in
    ap (λ n. take n text) (sym one) ∙ take_more text (len - 1) d (omega (arith, some, within)) ∙ ap (λ b. take (len - 1) text ++ b ∷ []) lf

-- there is no room for more
pub long-by : (text : List ℕ) (len : ℕ) → length text ≡ 128 → len ≤ 128 → 128 ≤ len → {A : Type 0} → A ⊎ (length (take len text) ≡ 128)
long-by text len long within full = inr (length-take-le len text (omega (arith, long, within)) ∙ omega (arith, within, full))

-- no more came
pub cut-by : (first mid last : LinkValue) (came : List ℕ) (r : Result Answer NoAnswer) (fault : NoAnswer) → mid.failures ≡ first.failures → HasCome came first.inward mid.inward
    → HasStopped mid.inward last.inward mid.failures last.failures → fault ≡ Lost → IsErrAnd r (λ e. e ≡ fault) → IsAnswered first last r
cut-by first mid last came (Ok answer) fault steady come stopped is err = absurd err
cut-by first mid last came (Err e) fault steady come stopped is err =
    subst (λ x. IsAnswered first last (Err x)) (sym (err ∙ is)) (by_kind stopped)
  where
    by_kind : HasStopped mid.inward last.inward mid.failures last.failures → IsAnswered first last (Err Lost)
    by_kind (inl e) = inl (come.0 + 1, came ++ [], looked_at-on first.inward mid.inward last.inward come.0 0 1 1 came [] come.1 e)
    by_kind (inr h) = inr (subst (λ n. n < last.failures) steady h)

-- a whole line came
pub said-by : (first last : LinkValue) (came line : List ℕ) (r : Result Answer NoAnswer) → last.failures ≡ first.failures → HasCome came first.inward last.inward
    → came ≡ ended line → MatchResult r (IsSaid line) (IsUnsaid line) → IsAnswered first last r
said-by first last came line (Ok answer) steady come is said = (line, subst (λ c. HasCome c first.inward last.inward) is come, said, steady)
said-by first last came line (Err Bad) steady come is none = (came, come, inl (line, is, none))
said-by first last came line (Err Memory) steady come is h = (line, subst (λ c. HasCome c first.inward last.inward) is come, h)
said-by first last came line (Err Lost) steady come is bad = absurd bad
